-- How many commands a trace has.
use Rattle.std.specs.Prelude.{◌+◌, Bool, true, false, List, count_by, Result, Ok, Err}
use Rattle.uprog_code.specs.declared.walker.BadWalk.{BadWalk}
use Rattle.uprog_code.specs.declared.walker.Counts.{Counts}
use Rattle.uprog_code.specs.declared.registers.Issued.TheVariants as issued
use Rattle.uprog_code.specs.declared.registers.Turn.{Turn}
use Rattle.uprog_code.specs.declared.registers.Turn.TheVariants.{Over, On, To, Issues}
use Rattle.uprog_code.specs.Machine.{Issue, IssueAap, IssueAp, Trace, Ended, Stuck}

-- the command copies a row onto another, and counts as an AAP
abbrev pub issues_aap : Issue → Bool
issues_aap (IssueAap x y) = true
issues_aap (IssueAp x) = false

-- the command activates a triple of rows alone, and counts as an AP
abbrev pub issues_ap : Issue → Bool
issues_ap (IssueAap x y) = false
issues_ap (IssueAp x) = true

-- how many commands of each kind
abbrev pub counts_of : List Issue → Counts
counts_of issues = record { aap = count_by issues_aap issues; ap = count_by issues_ap issues }

-- what a walk answers: the counts of a trace that ends, or where it is stuck and why
abbrev pub walked : Trace → Result Counts BadWalk
walked (Ended issues) = Ok (counts_of issues)
walked (Stuck at why) = Err (record { at = at; why = why })

-- the counts after one step
abbrev pub counts_after : Turn → Counts → Counts
counts_after Over c = c
counts_after On c = c
counts_after (To t) c = c
counts_after (Issues (issued.Aap x y)) c = record { aap = c.aap + 1; ap = c.ap }
counts_after (Issues (issued.Ap x)) c = record { aap = c.aap; ap = c.ap + 1 }
