-- States stand in their cells before and after a body.
use Rattle.uprog_gen.proofs.Common.{◌≡◌, ℕ, zero, suc, ◌+◌, ◌<◌, Bool, true, false, cond, List, []}
use Rattle.uprog_gen.proofs.Common.{◌∷◌, length, refl, sym, ap, ◌∙◌, subst, arith, ◌==◌}
use Rattle.uprog_gen.proofs.Common.{AllByRecursion, list_all, eqb-true, and_parts, Column, Lit}
use Rattle.uprog_gen.proofs.Common.{value, lit_at, Space, Cells, Place, is_held, StandsIn, Spots}
use Rattle.uprog_gen.proofs.Common.{spot_at, nth_place, nth_spot, is_state, enters, leaves}
use Rattle.uprog_gen.proofs.Common.{states_in, is_alive}
use Rattle.std.specs.Prelude.{◌||◌}
use Rattle.mig_graph.specs.Graph.{Graph}
use Rattle.mig_graph.proofs.Laws.{value-input}
use Rattle.row_alloc.specs.Held.{CellsHold}
use Rattle.uprog_gen.proofs.Rows.Alive.{state_spot, AreStanding}

-- a state that is alive stands in its cells
among : (P : ℕ → Type 0) (alive : List ℕ) (w : ℕ) → is_alive w alive ≡ true
    → AllByRecursion P alive → P w
among P [] w e h = absurd (cc)
among P (v ∷ vs) w e h = by (v == w) refl e (λ g. among P vs w g h.1)
  where
    by : (c : Bool) → (v == w) ≡ c → (c || is_alive w vs) ≡ true → (is_alive w vs ≡ true → P w)
        → P w
    by true f g more = subst P (eqb-true v w f) h.0
    by false f g more = more g

pub are_among : (P : ℕ → Type 0) (alive ws : List ℕ) → list_all (λ w. is_alive w alive) ws ≡ true
    → AllByRecursion P alive → AllByRecursion P ws
are_among P alive [] e h = tt
are_among P alive (w ∷ ws) e h =
    let f = and_parts (is_alive w alive) (list_all (λ w. is_alive w alive) ws) e in
    (among P alive w f.0 h, are_among P alive ws f.1 h)

not_before : (k : ℕ) (qs : List Place) (m : ℕ) → k < m → is_held (enters m qs) (k + 0) ≡ false
not_before k [] m h = refl
not_before k (q ∷ qs) m h = grind (arith, not_before k qs (m + 1) (omega (arith, h)), h)

-- an input that stands in a row isn't held
pub held_is : (ps : List Place) (k j : ℕ) → j < length ps
    → is_state (nth_place ps j).space ≡ is_held (enters k ps) (k + j)
held_is [] k j l = absurd (omega arith)
held_is (p ∷ ps) k zero l = grind (arith, not_before k ps (k + 1) (omega arith))
held_is (p ∷ ps) k (suc j) l =
    let m : k + 1 + j ≡ k + suc j = omega arith in
    grind (arith, held_is ps (k + 1) j (omega arith) ∙ ap (is_held (enters (k + 1) ps)) m)

module _ (g : Graph) (f : ℕ → Bool) (s : Column) where
  module _ (n i : ℕ) (regs : List ℕ) where
    the_spot : (p : Place) → is_state p.space ≡ true → spot_at n i regs p ≡ state_spot p.which
    the_spot p e = by p.space e
      where
        by : (x : Space) → is_state x ≡ true
            → spot_at n i regs (record { space = x; which = p.which; sub = p.sub })
            ≡ state_spot p.which
        by Cells e = refl
        by x e = absurd (cc)

    -- the states that a body reads
    pub enter_cells : (bits : Spots) (ps : List Place) (k : ℕ) → ((j : ℕ) → j < length ps
        → is_state (nth_place ps j).space ≡ true → k + j < g.inputs)
        → ((j : ℕ) → j < length ps → f (k + j) ≡ bits (nth_spot n i regs ps j))
        → AreStanding bits s (states_in ps) → CellsHold g f (enters k ps) s
    enter_cells bits [] k le h st = tt
    enter_cells bits (p ∷ ps) k le h st = by (is_state p.space) refl st (λ t.
        enter_cells bits ps (k + 1) (λ j l r. (let m : k + suc j < g.inputs =
        le (suc j) (omega (arith, l)) r in omega (arith, m))) (λ j l.
        (let e : k + 1 + j ≡ k + suc j = omega arith in ap f e) ∙ h (suc j) (omega arith)) t)
      where
        by : (c : Bool) → is_state p.space ≡ c
            → AreStanding bits s (cond c (p.which ∷ states_in ps) (states_in ps))
            → (AreStanding bits s (states_in ps) → CellsHold g f (enters (k + 1) ps) s)
            → CellsHold g f (cond c (record {
              lit = record { node = k + 1; inverted = false };
              layout = p.which;
            } ∷ enters (k + 1) ps) (enters (k + 1) ps)) s
        by true e t more =
            let l : Lit = record { node = k + 1; inverted = false } in
            let z : k + 0 ≡ k = omega arith in
            let v : bits (state_spot p.which) ≡ value g f l =
            ap bits (sym (the_spot p e)) ∙ sym (h 0 (omega arith)) ∙ ap f z
            ∙ sym (value-input g f k (let m : k + 0 < g.inputs = le 0 (omega arith) e in
            omega (arith, m))) in
            (subst (StandsIn s p.which) v t.0, more t.1)
        by false e t more = more t

    -- the states that it leaves
    pub leave_cells : (bits : Spots) (ps : List Place) (ls : List Lit) → length ls ≡ length ps
        → ((j : ℕ) → j < length ls → bits (nth_spot n i regs ps j) ≡ value g f (lit_at ls j))
        → CellsHold g f (leaves ps ls) s → AreStanding bits s (states_in ps)
    leave_cells bits [] ls size h c = tt
    leave_cells bits (p ∷ ps) [] size h c = absurd (omega arith)
    leave_cells bits (p ∷ ps) (l ∷ ls) size h c = by (is_state p.space) refl c (λ t.
        leave_cells bits ps ls (omega arith) (λ j b. h (suc j) (omega arith)) t)
      where
        by : (c : Bool) → is_state p.space ≡ c
            → CellsHold g f (cond c (record { lit = l; layout = p.which } ∷ leaves ps ls)
            (leaves ps ls)) s
            → (CellsHold g f (leaves ps ls) s → AreStanding bits s (states_in ps))
            → AreStanding bits s (cond c (p.which ∷ states_in ps) (states_in ps))
        by true e t more = (
          subst (StandsIn s p.which) (sym (ap bits (sym (the_spot p e)) ∙ h 0 (omega arith))) t.0,
          more t.1,
        )
        by false e t more = more t
