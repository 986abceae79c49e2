-- The rounds of a loop program over other things.
use Rattle.loop_laws.proofs.Common.{◌≡◌, ℕ, zero, suc, ◌+◌, List, [], ◌∷◌, ◌++◌, map, refl, ap}
use Rattle.loop_laws.proofs.Common.{map-append, StepOf, Single, Along, Flowed, RoundOf, round_at}
use Rattle.loop_laws.proofs.Common.{rounds, all_rounds}
use Rattle.loop_ir.specs.Plain.{step_map}
use Rattle.loop_ir.specs.Loops.{step_rounds}
use Rattle.loop_laws.proofs.FlowRounds.{round_map, flow_rounds_map}

module _ (A B : Type 0) (h : A → B) (n : ℕ) where
  -- these rounds are those, of other bodies
  abbrev Mapped : List (RoundOf B) → List (RoundOf A) → Type 0
  Mapped rs ss = rs ≡ map (round_map h) ss

  both : (rs qs : List (RoundOf B)) (ss ts : List (RoundOf A)) → Mapped rs ss → Mapped qs ts
      → Mapped (rs ++ qs) (ss ++ ts)
  both rs qs ss ts e f = rw (e, f, map-append (round_map h) ss ts)

  each : (b : A) (i count : ℕ) → Mapped (rounds (h b) i count) (rounds b i count)
  each b i zero = refl
  each b i (suc count) = ap (λ l. round_at (h b) i ∷ l) (each b (i + 1) count)

  one_step : (s : StepOf A) → Mapped (step_rounds n (step_map h s)) (step_rounds n s)
  one_step (Single b) = refl
  one_step (Along b) = each b 0 n
  one_step (Flowed x) = flow_rounds_map A B h n x

  -- they are the same rounds, of other bodies
  pub all_rounds_map : (ss : List (StepOf A))
      → all_rounds n (map (step_map h) ss) ≡ map (round_map h) (all_rounds n ss)
  all_rounds_map [] = refl
  all_rounds_map (s ∷ ss) = both _ _ _ _ (one_step s) (all_rounds_map ss)
