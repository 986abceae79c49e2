use Rattle.sim_machine.proofs.Common.{◌≡◌, ◌∷◌, length, subst, sym, Shape, srcs_in}
use Rattle.sim_machine.proofs.bbop.bind.Goals as goal

pub bind_head-requires : goal.bind_head-requires
bind_head-requires c =
    let names = c.args.bbop.now.dst.now ∷ c.args.bbop.now.srcs.now in
    subst (λ (s : Shape). length (srcs_in s names) ≡ length s.sources)
    (sym c.head-head.ensures.shape) c.requires

pub returns-clause-results : goal.returns-clause-results
returns-clause-results c = rw (← c.head-head.ensures.shape) c.bind_head.ensures.results

pub returns-clause-sources : goal.returns-clause-sources
returns-clause-sources c = rw (← c.head-head.ensures.shape) c.bind_head.ensures.sources
