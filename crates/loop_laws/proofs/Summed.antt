-- The sum over all rounds of what each body counts.
use Rattle.loop_laws.proofs.Common.{◌≡◌, ℕ, zero, suc, ◌+◌, List, [], ◌∷◌, ◌++◌, refl, arith}
use Rattle.loop_laws.proofs.Common.{sum_by-cons, Block, StepOf, Single, Along, Flowed, RoundOf}
use Rattle.loop_laws.proofs.Common.{round_at, rounds, all_rounds, flow_rounds}
use Rattle.std.proofs.Common.{◌*◌}
use Rattle.std.specs.Prelude.{sum_by}
use Rattle.std.proofs.lemmas.List.Sums.{sum_by-append}

-- a number of each body, summed over all rounds
abbrev pub rounds_sum : (Block → ℕ) → List (RoundOf Block) → ℕ
rounds_sum f rs = sum_by (λ r. f r.part) rs

-- the sum of all steps: of those that are loops over one body in a closed form
abbrev pub steps_sum : (Block → ℕ) → ℕ → List (StepOf Block) → ℕ
steps_sum f n [] = 0
steps_sum f n (Single b ∷ ss) = f b + steps_sum f n ss
steps_sum f n (Along b ∷ ss) = n * f b + steps_sum f n ss
steps_sum f n (Flowed x ∷ ss) = rounds_sum f (flow_rounds n x) + steps_sum f n ss

module _ (f : Block → ℕ) where
  more : (r : RoundOf Block) (rs : List (RoundOf Block))
      → rounds_sum f (r ∷ rs) ≡ f r.part + rounds_sum f rs
  more r rs = sum_by-cons (λ (r : RoundOf Block). f r.part) r rs

  pub sum_append : (rs ss : List (RoundOf Block))
      → rounds_sum f (rs ++ ss) ≡ rounds_sum f rs + rounds_sum f ss
  sum_append rs ss = sum_by-append (λ (r : RoundOf Block). f r.part) rs ss

  sum_each : (b : Block) (i count : ℕ) → rounds_sum f (rounds b i count) ≡ count * f b
  sum_each b i zero = omega arith
  sum_each b i (suc count) =
      let e = sum_each b (i + 1) count in
      let a = more (round_at b i) (rounds b (i + 1) count) in
      omega (arith, a, e)

  pub sum_is : (n : ℕ) (ss : List (StepOf Block))
      → rounds_sum f (all_rounds n ss) ≡ steps_sum f n ss
  sum_is n [] = refl
  sum_is n (Single b ∷ ss) = let e = sum_is n ss in
      let a = more (round_at b 0) (all_rounds n ss) in omega (arith, a, e)
  sum_is n (Along b ∷ ss) = let e = sum_is n ss in
      let a = sum_append (rounds b 0 n) (all_rounds n ss) in
      let c = sum_each b 0 n in omega (arith, e, a, c)
  sum_is n (Flowed x ∷ ss) = let e = sum_is n ss in
      let a = sum_append (flow_rounds n x) (all_rounds n ss) in omega (arith, e, a)
