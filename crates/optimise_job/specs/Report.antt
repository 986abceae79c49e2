-- The text that tells what became of a program's entries.
use Rattle.std.specs.Prelude.{ℕ, Bool, true, false, List, [], ◌∷◌, ◌++◌, codes, count_by, decimal}
use Rattle.std.specs.Prelude.{flat_map, length, zip}
use Rattle.uprog_code.specs.Shape.{Microprogram}
use Rattle.verify_core.specs.declared.verdict.Verdict.{Verdict}
use Rattle.verify_core.specs.declared.verdict.Verdict.TheVariants.{Right, Wrong, Stuck, OtherKinds}
use Rattle.verify_core.specs.declared.verdict.Verdict.TheVariants.{Unknown}
use Rattle.optimise_job.specs.declared.offer.Outcome.{Outcome}
use Rattle.optimise_job.specs.declared.offer.Outcome.TheVariants as outcome
use Rattle.optimise_job.specs.Outcomes.{commands}

-- the line was taken
abbrev pub is_taken : Outcome → Bool
is_taken outcome.NoOp = false
is_taken (outcome.Unproved verdict) = false
is_taken outcome.NotFewer = false
is_taken (outcome.Command k) = false
is_taken outcome.TooLong = false
is_taken (outcome.LongWalk m) = false
is_taken (outcome.Said verdict) = false
is_taken (outcome.Taken before after) = true

-- what verify finds of an entry that it does not find right
abbrev pub unproved_text : Verdict → List ℕ
unproved_text (Right counts) = codes " unknown\n"
unproved_text (Wrong case) = codes " wrong\n"
unproved_text (Stuck walk) = codes " bad_walk\n"
unproved_text OtherKinds = codes " other_kinds\n"
unproved_text (Unknown limit) = codes " unknown\n"

-- how many commands before and after, that it is not known to do its op, or that it is as it was
abbrev pub outcome_text : Outcome → List ℕ
outcome_text outcome.NoOp = codes " as it was\n"
outcome_text (outcome.Unproved verdict) = unproved_text verdict
outcome_text outcome.NotFewer = codes " as it was\n"
outcome_text (outcome.Command k) = codes " as it was\n"
outcome_text outcome.TooLong = codes " as it was\n"
outcome_text (outcome.LongWalk m) = codes " as it was\n"
outcome_text (outcome.Said verdict) = codes " as it was\n"
outcome_text (outcome.Taken before after) = (codes " " ++ decimal (commands before))
    ++ (codes " to " ++ decimal (commands after)) ++ codes "\n"

-- the line of an entry
abbrev pub entry_line : Microprogram → Outcome → List ℕ
entry_line e x = e.name ++ outcome_text x

-- the lines of the entries
abbrev pub entry_lines : List Microprogram → List Outcome → List ℕ
entry_lines es xs = flat_map (λ p. entry_line p.0 p.1) (zip es xs)

-- how many were taken, of how many, at which width
abbrev pub last_line : ℕ → List Outcome → List ℕ
last_line n xs = (codes "optimised " ++ decimal (count_by is_taken xs))
    ++ (codes " of " ++ decimal (length xs)) ++ (codes " at " ++ decimal n) ++ codes "\n"

-- the report
abbrev pub report : ℕ → List Microprogram → List Outcome → List ℕ
report n es xs = entry_lines es xs ++ last_line n xs
