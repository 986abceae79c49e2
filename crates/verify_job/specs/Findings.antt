-- What is found of a program's entries, one for each op of a text.
use Rattle.std.specs.Prelude.{◌≡◌, ℕ, Bool, true, false, List, [], ◌∷◌, Some, None}
use Rattle.std.specs.Prelude.{if◌then◌else◌}
use Rattle.std.specs.List.{AllByRecursion, list_all}
use Rattle.uprog_code.specs.Shape.{Microprogram, shape_of}
use Rattle.uprog_code.specs.Texts.{TextOp}
use Rattle.machine_model.specs.Routines.{Program, entry_named}
use Rattle.verify_core.specs.declared.verdict.Verdict.TheVariants.{Right, Wrong, Stuck, OtherKinds}
use Rattle.verify_core.specs.declared.verdict.Verdict.TheVariants.{Unknown}
use Rattle.verify_core.specs.Verdicts.{DoesAt, IsVerdict, SameKinds}
use Rattle.verify_job.specs.declared.finding.Finding.{Finding}
use Rattle.verify_job.specs.declared.finding.FoundAt.{FoundAt}
use Rattle.verify_job.specs.declared.finding.OpFindings.{OpFindings}
use Rattle.verify_job.specs.declared.finding.Finding.TheVariants.{NoEntry, Entry}

-- the finding is true of the program's entry of the op's name
abbrev pub IsFinding : ℕ → Program → TextOp → Finding → Type 0
IsFinding n program o NoEntry = entry_named program o.name ≡ None
IsFinding n program o (Entry head verdict) = (e : Microprogram)
    × (entry_named program o.name ≡ Some e) × (shape_of head ≡ e.shape) × IsVerdict n e o verdict

-- each of the widths has a finding of the op's entry, which is true, in order
abbrev pub AreAtWidths : List ℕ → Program → TextOp → List FoundAt → Type 0
AreAtWidths [] program o [] = Unit {0}
AreAtWidths [] program o (f ∷ fs) = ⊥
AreAtWidths (n ∷ ns) program o [] = ⊥
AreAtWidths (n ∷ ns) program o (f ∷ fs) =
    (f.width ≡ n) × IsFinding n program o f.finding × AreAtWidths ns program o fs

-- each op has such findings, in order
abbrev pub AreFindings : List ℕ → Program → List TextOp → List OpFindings → Type 0
AreFindings widths program [] [] = Unit {0}
AreFindings widths program [] (f ∷ fs) = ⊥
AreFindings widths program (o ∷ os) [] = ⊥
AreFindings widths program (o ∷ os) (f ∷ fs) =
    AreAtWidths widths program o f.at.items × AreFindings widths program os fs

-- the program has an entry of the op's name and kinds, which does the op at this width
abbrev pub HasRight : ℕ → Program → TextOp → Type 0
HasRight n program o = (e : Microprogram) × (entry_named program o.name ≡ Some e)
    × SameKinds e.shape o.shape × DoesAt n e o

-- it has one for each of the ops, at each of the widths
abbrev pub HaveRight : List ℕ → Program → List TextOp → Type 0
HaveRight widths program ops =
    AllByRecursion (λ n. AllByRecursion (HasRight n program) ops) widths

-- two findings differ at most in their case, or one of them is unknown where the other is right,
-- wrong or unknown
abbrev pub IsAlike : Finding → Finding → Type 0
IsAlike NoEntry NoEntry = Unit {0}
IsAlike (Entry h (Right counts)) (Entry i (Right other)) = counts ≡ other
IsAlike (Entry h (Wrong case)) (Entry i (Wrong other)) = Unit {0}
IsAlike (Entry h (Stuck walk)) (Entry i (Stuck other)) = walk ≡ other
IsAlike (Entry h OtherKinds) (Entry i OtherKinds) = Unit {0}
IsAlike (Entry h (Unknown limit)) (Entry i (Right counts)) = Unit {0}
IsAlike (Entry h (Unknown limit)) (Entry i (Wrong case)) = Unit {0}
IsAlike (Entry h (Unknown limit)) (Entry i (Unknown other)) = Unit {0}
IsAlike (Entry h (Right counts)) (Entry i (Unknown limit)) = Unit {0}
IsAlike (Entry h (Wrong case)) (Entry i (Unknown limit)) = Unit {0}
IsAlike _ _ = ⊥

-- the findings of an op are alike at each width
abbrev pub AreAlikeAt : List FoundAt → List FoundAt → Type 0
AreAlikeAt [] [] = Unit {0}
AreAlikeAt [] (g ∷ gs) = ⊥
AreAlikeAt (f ∷ fs) [] = ⊥
AreAlikeAt (f ∷ fs) (g ∷ gs) = (f.width ≡ g.width) × IsAlike f.finding g.finding × AreAlikeAt fs gs

-- and those of all ops
abbrev pub AreAlike : List OpFindings → List OpFindings → Type 0
AreAlike [] [] = Unit {0}
AreAlike [] (g ∷ gs) = ⊥
AreAlike (f ∷ fs) [] = ⊥
AreAlike (f ∷ fs) (g ∷ gs) = AreAlikeAt f.at.items g.at.items × AreAlike fs gs

-- the op has an entry, which does it
abbrev pub is_right : Finding → Bool
is_right NoEntry = false
is_right (Entry head (Right counts)) = true
is_right (Entry head (Wrong case)) = false
is_right (Entry head (Stuck walk)) = false
is_right (Entry head OtherKinds) = false
is_right (Entry head (Unknown limit)) = false

-- the op has an entry that does it, or of which that is not known
abbrev pub may_be_right : Finding → Bool
may_be_right NoEntry = false
may_be_right (Entry head (Right counts)) = true
may_be_right (Entry head (Wrong case)) = false
may_be_right (Entry head (Stuck walk)) = false
may_be_right (Entry head OtherKinds) = false
may_be_right (Entry head (Unknown limit)) = true

-- the op has an entry that does it at each width
abbrev pub is_right_throughout : OpFindings → Bool
is_right_throughout found = list_all (λ f. is_right f.finding) found.at.items

-- the op has an entry that does it at each width, or of which that is not known
abbrev pub may_be_right_throughout : OpFindings → Bool
may_be_right_throughout found = list_all (λ f. may_be_right f.finding) found.at.items

-- 0 where each entry does its op at each width, 20 where each may, else 19
abbrev pub status_of : List OpFindings → ℕ
status_of found = if list_all is_right_throughout found then 0
    else if list_all may_be_right_throughout found then 20 else 19
