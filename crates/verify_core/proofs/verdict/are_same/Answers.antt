use Rattle.verify_core.proofs.Common.{◌∙◌, sym}
use Rattle.verify_core.proofs.KindLists.{kinds-same, kinds-self}
use Rattle.verify_core.proofs.verdict.are_same.Goals as goal

pub returns : goal.returns
returns c = (
  λ t. kinds-same c.args.a.now c.args.b.now (sym c.eq.ensures ∙ t),
  λ e. c.eq.ensures ∙ rw e (kinds-self c.args.b.now),
)
