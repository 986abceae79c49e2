use Rattle.block_lower.proofs.Common.{◌≡◌, ◌++◌, ◌∷◌, [], length, sym, subst, bytes_eq, Some, ◌∙◌}
use Rattle.block_lower.proofs.Common.{ap, get}
use Rattle.block_lower.specs.Inputs.{AreNumbered}
use Rattle.block_lower.proofs.Gathering.{numbered-more}
use Rattle.block_lower.proofs.inputs.number.Goals as goal

pub returns-clause-numbered : goal.returns-clause-numbered
returns-clause-numbered c =
    let order = c.args.inputs.now.order in
    let same = c.copied-2.ensures in
    let next : c.len-next.result ≡ length order.items = c.len-next.ensures ∙ order.ok.0 in
    subst (λ names. AreNumbered names c.note.new.numbers)
    (sym (c.in_ok-keep.ensures ∙ ap (λ name. order.items ++ name ∷ []) c.copied.ensures))
    (numbered-more order.items c.args.name.now c.args.inputs.now.numbers c.note.new.numbers
    c.requires.numbered
    (subst (λ name. get bytes_eq c.note.new.numbers name
    ≡ Some c.len-next.result) same c.in_ok-note.ensures.same ∙ ap Some next)
    (λ other ne. c.in_ok-note.ensures.others other (λ e. ne (e ∙ same))))
