use Rattle.cmd_trace.proofs.Common.{◌∙◌, ap, arith, length-drop}
use Rattle.std.specs.Prelude.{drop}
use Rattle.std.proofs.lemmas.List.{take_all}
use Rattle.cmd_trace.specs.Tape.{kept_in}
use Rattle.cmd_trace.specs.declared.sizes.TheConstants.{HEAD_BYTES_MAX}
use Rattle.cmd_trace.proofs.notes.Notes.kept.Goals as goal

pub returns : goal.returns
returns c =
    let d = length-drop HEAD_BYTES_MAX c.deref.result.now in
    take_all _ (drop HEAD_BYTES_MAX c.deref.result.now) (omega (arith, d))
    ∙ ap (drop HEAD_BYTES_MAX) c.deref.ensures.value ∙ ap kept_in c.self.view_is
