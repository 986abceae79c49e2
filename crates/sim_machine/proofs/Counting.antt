-- What a microprogram counts.
use Rattle.sim_machine.proofs.Common.{◌≡◌, Ok, Counts, issues_of, walked}
use Rattle.uprog_code.specs.Machine.{Trace, Ended, Stuck, HasEnded}
use Rattle.uprog_code.specs.Count.{counts_of}

pub counts_are : (t : Trace) (counts : Counts) → walked t ≡ Ok counts
    → counts_of (issues_of t) ≡ counts
counts_are (Ended issues) counts e = cc
counts_are (Stuck at why) counts e = cc

pub has_ended : (t : Trace) (counts : Counts) → walked t ≡ Ok counts → HasEnded t
has_ended (Ended issues) counts e = tt
has_ended (Stuck at why) counts e = absurd (cc)
