use Rattle.uprog_bin.proofs.Common.{◌∙◌}
use Rattle.uprog_bin.proofs.Files.{entries_are}
use Rattle.uprog_bin.proofs.view.ProgView.entries.Goals as goal

pub returns : goal.returns
returns c = c.len.ensures.value ∙ entries_are c.self.inside.version c.self.inside.bytes.now
    c.self.inside.listed.items
    c.args.self.now c.self.view_is c.self.invariant
