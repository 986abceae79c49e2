use Rattle.soak_job.proofs.Common.{[], subst, Banks, StoppedWithin}
use Rattle.soak_job.proofs.Running.{on_err}
use Rattle.soak_job.proofs.sums.sum_of.Goals as goal

pub returns-clause-left : goal.returns-clause-left
returns-clause-left g c =
    on_err c.add_bank-2.result c.add_bank-2.ensures.left (λ s. subst (λ (banks : Banks).
    StoppedWithin 2 [] banks (g.D.Dram.view c.add_bank-2.new.chip).banks)
    c.in_ok-first.ensures.did.banks s)
