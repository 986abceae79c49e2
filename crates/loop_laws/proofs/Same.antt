-- Named rows that are the same, and writes to them.
use Rattle.loop_laws.proofs.Common.{◌≡◌, ℕ, zero, suc, ◌<◌, ◌≤◌, Bool, true, cond, List, [], ◌∷◌}
use Rattle.loop_laws.proofs.Common.{length, refl, ap, ◌∙◌, inl, inr, arith, nat_tests, cases_Bool}
use Rattle.loop_laws.proofs.Common.{and_parts, Lit, Space, Sub, Place, Spot, spot_at, nth_place}
use Rattle.mig_graph.specs.Literals.{lit_value}
use Rattle.mig_graph.specs.Outputs.{lit_at}
use Rattle.loop_ir.specs.Spots.{Spots, same_space, same_spot, set_spot, write_all}
use Rattle.loop_ir.specs.Costs.{same_sub}

pub sub_true : (s t : Sub) → same_sub s t ≡ true → s ≡ t
sub_true s t e = grind (arith, nat_tests)

space_true : (a b : Space) → same_space a b ≡ true → a ≡ b
space_true a b e = grind arith

space_same : (a : Space) → same_space a a ≡ true
space_same a = grind arith

same_parts : (a b : Space) (v w x y : ℕ) → a ≡ b → v ≡ w → x ≡ y
    → ◌≡◌ {A = Spot} (record { space = a; which = v; index = x })
    (record { space = b; which = w; index = y })
same_parts a b v w x y e f g = cc

pub spot_true : (p q : Spot) → same_spot p q ≡ true → p ≡ q
spot_true p q e =
    let h = and_parts (same_space p.space q.space) _ e in
    let a = space_true p.space q.space h.0 in
    let k : (p.which ≡ q.which) × (p.index ≡ q.index) = grind (arith, nat_tests) in
    same_parts p.space q.space p.which q.which p.index q.index a k.0 k.1

pub spot_same : (p q : Spot) → p ≡ q → same_spot p q ≡ true
spot_same p q e = rw (← e, space_same p.space) (grind (arith, nat_tests))

-- a row that is set has the bit it was set to
pub set_same : (bits : Spots) (p : Spot) (v : Bool) (q : Spot) → q ≡ p → set_spot bits p v q ≡ v
set_same bits p v q e = ap (λ b. cond b v (bits q)) (spot_same q p e)

-- a row that is set leaves every other
pub set_other : (bits : Spots) (p : Spot) (v : Bool) (q : Spot) → (q ≡ p → ⊥)
    → set_spot bits p v q ≡ bits q
set_other bits p v q ne = elim (cases_Bool (same_spot q p)) [
  | inl e ↦ absurd (ne (spot_true q p e))
  | inr e ↦ rw e
]

module _ (n i : ℕ) (g : List ℕ) (env : ℕ → Bool) where
  pub write_other : (ps : List Place) (ls : List Lit) (bits : Spots) (q : Spot)
      → ((j : ℕ) → j < length ls → q ≡ spot_at n i g (nth_place ps j) → ⊥)
      → write_all n i g env ps ls bits q ≡ bits q
  write_other [] ls bits q out = refl
  write_other (p ∷ ps) [] bits q out = refl
  write_other (p ∷ ps) (l ∷ ls) bits q out =
      write_other ps ls (set_spot bits (spot_at n i g p) (lit_value env l)) q
      (λ j lt. out (suc j) (omega arith))
      ∙ set_other bits (spot_at n i g p) (lit_value env l) q (out 0 (omega arith))

  pub write_at : (ps : List Place) (ls : List Lit) (bits : Spots) → length ls ≤ length ps
      → ((a b : ℕ) → a < length ls → b < length ls
      → spot_at n i g (nth_place ps a) ≡ spot_at n i g (nth_place ps b) → a ≡ b) → (j : ℕ)
      → j < length ls → write_all n i g env ps ls bits (spot_at n i g (nth_place ps j))
      ≡ lit_value env (lit_at ls j)
  write_at ps [] bits enough apart j lt = absurd (omega arith)
  write_at [] (k ∷ ls) bits enough apart j lt = absurd (omega arith)
  write_at (p ∷ ps) (k ∷ ls) bits enough apart zero lt =
      write_other ps ls (set_spot bits (spot_at n i g p) (lit_value env k)) (spot_at n i g p)
      (λ j lt h. let z : 0 ≡ suc j = apart 0 (suc j) (omega arith) (omega arith) h in
      absurd (omega arith))
      ∙ set_same bits (spot_at n i g p) (lit_value env k) (spot_at n i g p) refl
  write_at (p ∷ ps) (k ∷ ls) bits enough apart (suc j) lt =
      write_at ps ls (set_spot bits (spot_at n i g p) (lit_value env k)) (omega arith)
      (λ a b la lb h. let z : suc a ≡ suc b =
      apart (suc a) (suc b) (omega arith) (omega arith) h in omega arith) j (omega arith)
