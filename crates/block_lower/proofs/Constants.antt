-- The one command of a constant does it.
use Rattle.block_lower.proofs.Common.{◌≡◌, ℕ, zero, suc, ◌<◌, Bool, true, false, cond, List, []}
use Rattle.block_lower.proofs.Common.{◌∷◌, Some, None, refl, sym, subst, arith, Lit, Graph, lit_at}
use Rattle.block_lower.proofs.Common.{BodyCmd, OutRow, out_at, DoesHeld, Place, is_state, AreRows}
use Rattle.block_lower.proofs.Common.{row_count, leaves, plain_cost, HasCommands, one-rows}
use Rattle.row_alloc.specs.declared.body.BodyRef.TheVariants.{C, Out}
use Rattle.row_alloc.specs.declared.body.BodyCmd.TheVariants.{Aap}
use Rattle.row_alloc.specs.Held.{IsHeldChecked}
use Rattle.row_alloc.proofs.HeldChecked.{held-does}
use Rattle.block_lower.specs.Form.{constant}
use Rattle.block_lower.proofs.Carried.{fit}
use Rattle.block_lower.proofs.Bodies.{empty-graph, only, lone-well}

abbrev empty : Graph
empty = record { inputs = 0; nodes = [] }

abbrev the_lit : Bool → Lit
the_lit v = record { node = 0; inverted = v }

-- the only row, which is no input's
abbrev row : Bool → OutRow
row v = record { lit = the_lit v; same = None }

abbrev copy : Bool → List BodyCmd
copy v = Aap (C (cond v 1 0)) (Out 0) ∷ []

no-input : (v : Bool) (j k : ℕ) → j < 1 → (out_at (row v ∷ []) j).same ≡ Some k → ⊥
no-input v zero k l e = cc
no-input v (suc j) k l e = omega (arith, l)

-- the row ends with the constant
checked : (v : Bool) → IsHeldChecked empty (row v ∷ []) [] [] (copy v)
checked true = record {
  legal = refl;
  unread = refl;
  ends = λ j l. let z : j ≡ 0 = omega (arith, l) in rw z refl;
  leaves = tt;
}
checked false = record {
  legal = refl;
  unread = refl;
  ends = λ j l. let z : j ≡ 0 = omega (arith, l) in rw z refl;
  leaves = tt;
}

module _ (v : Bool) (p : Place) where
  abbrev outs : List Lit
  outs = the_lit v ∷ []

  its-row : AreRows [] (p ∷ []) 0 outs 1 (row v ∷ [])
  its-row = record {
    size = refl;
    lits = only (λ j. (out_at (row v ∷ []) j).lit ≡ lit_at outs j) refl;
    found = λ j k l e. absurd (no-input v j k l e);
    first = λ i j k l e. absurd (no-input v j k l e);
    none = λ j l e k lk. absurd (omega (arith, lk));
  }

  -- what one round of it may take
  pub constant-plain : plain_cost (constant v p) ≡ 1
  constant-plain = by v
    where
      by : (v : Bool) → plain_cost (constant v p) ≡ 1
      by true = refl
      by false = refl

  -- where it is written to a row
  pub constant-commands : is_state p.space ≡ false → HasCommands (constant v p)
  constant-commands e = record {
    does = λ os is.
        let one : row_count (p ∷ []) ≡ 1 = rw e refl in
        let none : leaves (p ∷ []) outs ≡ [] = rw e refl in
        let same = one-rows [] (p ∷ []) 0 outs 1 os (row v ∷ [])
        (subst (λ m. AreRows [] (p ∷ []) 0 outs m os) one is) its-row in
        subst (λ rows. DoesHeld empty rows [] (leaves (p ∷ []) outs) (copy v)) (sym same)
        (subst (λ hs. DoesHeld empty (row v ∷ []) [] hs (copy v)) (sym none)
        (held-does empty (row v ∷ []) [] [] (copy v) empty-graph (fit (constant v p)
        (lone-well v p (copy v)) (omega arith) (omega arith) (omega arith) (row v ∷ []) its-row)
        (checked v)));
    few = let c = constant-plain in omega (arith, c);
  }
