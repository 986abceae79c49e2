use Rattle.optimise_job.proofs.Common.{sym, subst, Shape, HasEnded, trace}
use Rattle.optimise_job.proofs.offer.said.Goals as goal

pub verify_entry-requires-clause-made_ends : goal.verify_entry-requires-clause-made_ends
verify_entry-requires-clause-made_ends g c =
    let does = c.requires.does in
    subst (λ (s : Shape). HasEnded (trace s c.args.made.now.code.items c.args.n))
    (sym does.1.shape) (does.1.code.ends c.args.n c.requires.some c.requires.narrow)
