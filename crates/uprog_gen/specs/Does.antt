-- What the code of loop programs does.
use Rattle.std.specs.Prelude.{◌≡◌, ℕ, ◌+◌, ◌<◌, ◌≤◌, List, [], ◌∷◌, ◌++◌, map, sum_by}
use Rattle.std.specs.List.{range_with_len}
use Rattle.bit_rows.specs.declared.TheConstants.{WIDTH_MAX}
use Rattle.bit_rows.specs.Bits.{value}
use Rattle.dram_model.specs.declared.address.Cell.TheVariants.{D}
use Rattle.dram_model.specs.Column.{Column, run}
use Rattle.op_text.specs.declared.tree.Kind.{Kind}
use Rattle.uprog_code.specs.declared.code.Uop.{Uop}
use Rattle.uprog_code.specs.declared.walker.Counts.{Counts}
use Rattle.uprog_code.specs.Shape.{Shape, width, results}
use Rattle.uprog_code.specs.Machine.{HasEnded, issues_of, trace}
use Rattle.uprog_code.specs.Count.{counts_of}
use Rattle.uprog_code.specs.Bound.{Bound, bound}
use Rattle.uprog_code.specs.Fits.{Fits, IsTouched}
use Rattle.loop_ir.specs.declared.ir.Space.{Space}
use Rattle.loop_ir.specs.declared.ir.Space.TheVariants.{Result, Source}
use Rattle.loop_ir.specs.Plain.{Block, StepOf}
use Rattle.loop_ir.specs.Loops.{RoundOf, all_rounds}
use Rattle.loop_ir.specs.Spots.{Spots, after_rounds}
use Rattle.loop_ir.specs.Costs.{turn_aaps, turn_aps, rounds_cost}
use Rattle.uprog_gen.specs.Where.{spots_in, Agree}

-- the AAP and the AP of all rounds
abbrev pub rounds_counts : List (RoundOf Block) → Counts
rounds_counts rs = record {
  aap = sum_by (λ r. turn_aaps r.part) rs;
  ap = sum_by (λ r. turn_aps r.part) rs;
}

-- The code ends and takes exactly the commands of its rounds. It leaves the bits of the named rows
-- as the rounds do, and no other row changes but the spill rows
pub record DoesRounds (head : Shape) (n : ℕ) (steps : List (StepOf Block)) (code : List Uop) : Type
    0 where
  pub ends : HasEnded (trace head code n)
  pub exact : counts_of (issues_of (trace head code n)) ≡ rounds_counts (all_rounds n steps)
  pub agrees : (rows : ℕ) (b : Bound) (s : Column) → Fits rows head n b
      → Agree head n b (after_rounds n (all_rounds n steps) (spots_in head n b s))
      (run (bound rows head n b (issues_of (trace head code n))) s)
  pub keeps : (rows : ℕ) (b : Bound) (s : Column) → Fits rows head n b → (q : ℕ)
      → (IsTouched rows head n b q → ⊥) → run (bound rows head n b (issues_of (trace head code n)))
      s (D q) ≡ s (D q)

-- the loop programs of several statements, one after another
abbrev pub joined : List (List (StepOf Block)) → List (StepOf Block)
joined [] = []
joined (p ∷ ps) = p ++ joined ps

-- the named rows after the statements, one after another
abbrev pub after_statements : ℕ → List (List (StepOf Block)) → Spots → Spots
after_statements n [] bits = bits
after_statements n (p ∷ ps) bits = after_statements n ps (after_rounds n (all_rounds n p) bits)

-- the number that the named rows from 0 on spell, the lowest bit first
abbrev pub spot_number : Space → ℕ → ℕ → Spots → ℕ
spot_number space which size bits =
    value (map (λ i. bits (record { space = space; which = which; index = i }))
    (range_with_len 0 size))

-- the numbers of the values of these kinds, the sources or the results, from this one on
abbrev pub numbers_in : Space → ℕ → List Kind → ℕ → Spots → List ℕ
numbers_in space n [] which bits = []
numbers_in space n (k ∷ ks) which bits = spot_number space which (width k n) bits
    ∷ numbers_in space n ks (which + 1) bits

-- a statement's rounds at n take at most so many commands
abbrev pub IsCheap : ℕ → List (StepOf Block) → ℕ → Type 0
IsCheap n p most = rounds_cost (all_rounds n p) ≤ most

-- each statement's rounds at n take at most its ceiling
abbrev pub AreCheap : ℕ → List (List (StepOf Block)) → List (ℕ → ℕ) → Type 0
AreCheap n [] [] = Unit {0}
AreCheap n [] (c ∷ cs) = ⊥
AreCheap n (p ∷ ps) [] = ⊥
AreCheap n (p ∷ ps) (c ∷ cs) = IsCheap n p (c n) × AreCheap n ps cs

-- the sum of the ceilings
abbrev pub total : List (ℕ → ℕ) → ℕ → ℕ
total ceilings n = sum_by (λ c. c n) ceilings

-- the statements' loop programs, one after another, give the operation's results, within
-- their ceilings
pub record Means (head : Shape) (statements : List (List (StepOf Block))) (ceilings : List (ℕ
    → ℕ)) (meaning : ℕ → List ℕ → List ℕ) : Type 0 where
  pub gives : (n : ℕ) → 0 < n → n ≤ WIDTH_MAX → (bits : Spots)
      → numbers_in Result n (results head) 0 (after_statements n statements bits)
      ≡ meaning n (numbers_in Source n head.sources 0 bits)
  pub cheap : (n : ℕ) → 0 < n → n ≤ WIDTH_MAX → AreCheap n statements ceilings
