-- Code can be made of a body of a block.
use Rattle.block_lower.proofs.Common.{◌≡◌, ℕ, zero, suc, ◌+◌, ◌<◌, ◌≤◌, Bool, true, false, List, []}
use Rattle.block_lower.proofs.Common.{◌∷◌, ◌++◌, map, length, refl, sym, ap, ◌∙◌, subst, arith, ◌⊎◌}
use Rattle.block_lower.proofs.Common.{inl, inr, list_all, cases_Bool, and_from, IsGraph, lit_at}
use Rattle.block_lower.proofs.Common.{BodyCmd, Block, Visit, Sub, Zero, Place, RoundOf, sub_value}
use Rattle.block_lower.proofs.Common.{Spot, IsOwn, is_state, spot_in, spot_at, nth_place, nth_spot}
use Rattle.block_lower.proofs.Common.{IsWellFormed, row_count, HasCommands, IsSmall, IsRound}
use Rattle.block_lower.proofs.Common.{HasValues, Slots, targets_of, IsStatementRow}
use Rattle.loop_ir.specs.Plain.{Block as Body}
use Rattle.loop_ir.specs.WellFormed.{IsOneValue}
use Rattle.loop_ir.specs.States.{StatesFit, RowsFirst}
use Rattle.block_lower.specs.Inputs.{block_inputs}
use Rattle.block_lower.proofs.Rows.{position, spot-space}
use Rattle.block_lower.proofs.Facts.{Given, IsNamed, inputs-once, target-written, target-among}
use Rattle.block_lower.proofs.Facts.{target, input, target-named, input-at}
use Rattle.block_lower.proofs.Stand.{Away, stand, stand-once, stand-had, stand-own}
use Rattle.block_lower.proofs.Starts.{lone, lone_round}
use Rattle.block_lower.proofs.Visits.{DoesAt, IsTurn, writes-long, reads-long, write-place}
use Rattle.block_lower.proofs.Visits.{read-place, below, write-row, read-row, writes-once}

-- places whose subscripts are 0 and at most one other
abbrev pub HasSub : (List ℕ → Place) → Sub → Type 0
HasSub f s = (x : List ℕ) → ((f x).sub ≡ Zero) ⊎ ((f x).sub ≡ s)

pub at-sub : {A : Type 0} (f : List ℕ → Place) {s : Sub} → HasSub f s → (test : Sub → A) (v : A)
    → test Zero ≡ v → test s ≡ v → (x : List ℕ) → test (f x).sub ≡ v
at-sub f h test v z o x = elim (h x) [ inl e ↦ ap test e ∙ z | inr e ↦ ap test e ∙ o ]

all-names : (test : Place → Bool) (from to : List ℕ → Place) → ((x : List ℕ) → test (from x) ≡ true)
    → ((x : List ℕ) → test (to x) ≡ true) → (xs ys : List (List ℕ))
    → list_all test (map from xs ++ map to ys) ≡ true
all-names test from to h k [] [] = refl
all-names test from to h k [] (y ∷ ys) = and_from (test (to y)) _ (k y) (all-names test from to h k [] ys)
all-names test from to h k (x ∷ xs) ys = and_from (test (from x)) _ (h x)
    (all-names test from to h k xs ys)

module _ {slots : Slots} {b : Block} {from to : List ℕ → Place} {c : Body} {t : Sub}
    (d : DoesAt slots b from to c) (rs : HasSub from t) (ws : HasSub to t) where
  pub all-subs : (test : Sub → Bool) → test Zero ≡ true → test t ≡ true
      → list_all (λ (p : Place). test p.sub) (c.reads ++ c.writes) ≡ true
  all-subs test z o =
      let all = list_all (λ (p : Place). test p.sub) in
      ap (λ ps. all (ps ++ c.writes)) d.reads ∙ ap (λ ps. all (map from (block_inputs b) ++ ps)) d.writes
      ∙ all-names (λ (p : Place). test p.sub) from to (at-sub from rs test true z o)
      (at-sub to ws test true z o) (block_inputs b) (targets_of b.assigns)

  pub body-small : {fb fw : ℕ} → Given slots fb fw b → IsWellFormed c → StatesFit c → HasCommands c
      → length (block_inputs b) ≤ 80 → IsSmall c
  body-small g well states commands most =
      let m = d.like.as_many in
      let a = g.meets.assigns in
      let w = g.meets.weight in
      let k = d.like.nodes in
      record {
        well = well;
        states = states;
        commands = commands;
        graph = d.like.graph;
        inputs = let i = d.like.inputs in omega (arith, i, most);
        outputs = omega (arith, m, a);
        rows = omega (arith, m, a, w, k);
      }

-- its rounds
module _ {slots : Slots} {fb fw : ℕ} {b : Block} (g : Given slots fb fw b) {a z : Away b} {n i : ℕ}
    {from to : List ℕ → Place} {r : RoundOf Body} (t : IsTurn slots a z n i from to r)
    (lt : i < n) where
  abbrev p : ℕ
  p = position b.down n i

  had : (y : Away b) (x : List ℕ) → IsNamed b x → (q : Place)
      → spot_at n r.i r.regs q ≡ stand y slots n p x → is_state q.space ≡ false
      → IsStatementRow slots fb fw (Visit b) n (spot_at n r.i r.regs q)
  had y x e q f s = subst (IsStatementRow slots fb fw (Visit b) n) (sym f)
      (stand-had g y n p x (below g t lt) e (ap (λ (q : Spot). is_state q.space) (sym f)
      ∙ ap is_state (spot-space n q.space q.which (sub_value n r.i r.regs q.sub)) ∙ s))

  pub turn-round : IsRound (IsStatementRow slots fb fw (Visit b) n) n r
  turn-round =
      let lw = writes-long t.does in
      let lr = reads-long t.does in
      let both = λ (j k : ℕ) (lj : j < length b.assigns) (lk : k < length (block_inputs b))
      (e : nth_spot n r.i r.regs r.part.writes j ≡ nth_spot n r.i r.regs r.part.reads k).
      stand-once g a z n p (target b j) (input b k) (below g t lt) (target-named b j lj)
      (input-at b k lk) (sym (write-row g t lt j lj) ∙ e ∙ read-row g t lt k lk) in
      record {
        reads = λ k l s.
            let m : k < length (block_inputs b) = omega (arith, l, lr) in
            had a (input b k) (input-at b k m) (nth_place r.part.reads k) (read-row g t lt k m) s;
        writes = λ j l s.
            let m : j < length b.assigns = omega (arith, l, lw) in
            had z (target b j) (target-named b j m) (nth_place r.part.writes j)
            (write-row g t lt j m) s;
        own = λ j l.
            let m : j < length b.assigns = omega (arith, l, lw) in
            subst (λ (q : Spot). IsOwn q.space) (sym (write-row g t lt j m)) (stand-own g z n p
            (target b j) (target-written b (target b j) (target-among b j m)));
        apart = λ j k lj lk e. writes-once g t lt j k (omega (arith, lj, lw)) (omega (arith, lk, lw))
            e;
        same = λ j k lj lk e.
            let mj : j < length b.assigns = omega (arith, lj, lw) in
            let mk : k < length (block_inputs b) = omega (arith, lk, lr) in
            let h = both j k mj mk e in
            write-place t.does j mj
            ∙ t.same (target b j) (target-named b j mj) (h.1 ∙ sym (ap a.is h.0)) ∙ ap from h.0
            ∙ sym (read-place t.does k mk);
        once = λ j k l lj lk ll e f.
            let mj : j < length b.assigns = omega (arith, lj, lw) in
            let mk : k < length (block_inputs b) = omega (arith, lk, lr) in
            let ml : l < length (block_inputs b) = omega (arith, ll, lr) in
            inputs-once b k l mk ml (sym (both j k mj mk e).0 ∙ (both j l mj ml f).0);
      }

-- the values of its places, from a round at width 1
pub round-values : (may_have : ℕ → Spot → Type 0) (r : RoundOf Body) → IsRound (may_have 1) 1 r
    → HasValues may_have r.part
round-values may_have r h =
    let v = λ (p : Place). sub_value 1 r.i r.regs p.sub in
    record {
      reads = λ k l s. (1, v (nth_place r.part.reads k), h.reads k l s);
      writes = λ j l s. (1, v (nth_place r.part.writes j), h.writes j l s);
      own = λ j l. let p = nth_place r.part.writes j in
          subst IsOwn (spot-space 1 p.space p.which (v p)) (h.own j l);
    }

-- at width 1 all subscripts are 0
module _ {slots : Slots} {fb fw : ℕ} {b : Block} (g : Given slots fb fw b) {a z : Away b}
    {from to : List ℕ → Place} {r : RoundOf Body} (t : IsTurn slots a z 1 0 from to r) where
  round : IsRound (IsStatementRow slots fb fw (Visit b) 1) 1 r
  round = turn-round g t (omega arith)

  abbrev low : Sub → ℕ
  low s = sub_value 1 r.i r.regs s

  one-spot : (p q : Place) → low p.sub ≡ 0 → low q.sub ≡ 0 → IsOneValue p q
      → spot_at 1 r.i r.regs p ≡ spot_at 1 r.i r.regs q
  one-spot p q u v e = ap (λ s. spot_in 1 s p.which (low p.sub)) e.0
      ∙ ap (λ w. spot_in 1 q.space w (low p.sub)) e.1 ∙ ap (spot_in 1 q.space q.which) (u ∙ sym v)

  pub turn-well : {s : Sub} → HasSub from s → HasSub to s → low s ≡ 0 → IsWellFormed r.part
  turn-well rs ws o =
      let lw = writes-long t.does in
      let lr = reads-long t.does in
      let w = λ (j : ℕ) (l : j < length r.part.writes).
      ap (λ (p : Place). low p.sub) (write-place t.does j (omega (arith, l, lw)))
      ∙ at-sub to ws low 0 refl o (target b j) in
      record {
        named = t.does.like.named;
        reads = let k = t.does.like.inputs in omega (arith, k, lr);
        writes = let m = t.does.like.as_many in omega (arith, m, lw);
        apart = λ i j li lj e. round.apart i j li lj (one-spot (nth_place r.part.writes i)
            (nth_place r.part.writes j) (w i li) (w j lj) e);
        same = λ j k lj lk e. ap (λ (p : Place). p.sub) (round.same j k lj lk
            (one-spot (nth_place r.part.writes j) (nth_place r.part.reads k) (w j lj)
            (ap (λ (p : Place). low p.sub) (read-place t.does k (omega (arith, lk, lr)))
            ∙ at-sub from rs low 0 refl o (input b k)) e));
      }

-- at most one place stands in cells, and it is written last
pub at-count : (ps : List Place) → row_count ps < length ps
    → is_state (nth_place ps (row_count ps)).space ≡ true
at-count [] l = absurd (omega (arith, l))
at-count (p ∷ ps) l = elim (cases_Bool (is_state p.space)) [
  | inl e ↦ rw e e
  | inr e ↦ let m : suc (row_count ps) < suc (length ps) = rw e at l in
      rw e (at-count ps (omega (arith, m)))
]

before-count : (ps : List Place) (k : ℕ) → k < row_count ps → is_state (nth_place ps k).space ≡ false
before-count [] k l = absurd (omega (arith, l))
before-count (p ∷ ps) zero l = elim (cases_Bool (is_state p.space)) [
  | inl e ↦ let m : 0 < 0 = rw e at l in absurd (omega (arith, m))
  | inr e ↦ e
]
before-count (p ∷ ps) (suc k) l = elim (cases_Bool (is_state p.space)) [
  | inl e ↦ let m : suc k < 0 = rw e at l in absurd (omega (arith, m))
  | inr e ↦ let m : suc k < suc (row_count ps) = rw e at l in
      before-count ps k (omega (arith, m))
]

pub rows-first : (ps : List Place) → length ps ≤ row_count ps + 1 → RowsFirst ps
rows-first ps last = record {
  row = before-count ps;
  state = λ k le l. let e : row_count ps ≡ k = omega (arith, last, le, l) in
      subst (λ k. is_state (nth_place ps k).space ≡ true) e (at-count ps (omega (arith, le, l)));
}

-- the body that writes one constant
pub empty-graph : IsGraph 0 []
empty-graph = record {
  small = omega arith;
  lower = λ k l. absurd (omega arith);
  three = λ k l. absurd (omega arith);
  form = λ k l. absurd (omega arith);
  shared = λ j k lj lk e. absurd (omega arith);
}

-- what holds of 0 holds of all numbers below 1
pub only : (P : ℕ → Type 0) → P 0 → (j : ℕ) → j < 1 → P j
only P h zero l = h
only P h (suc j) l = absurd (omega (arith, l))

module _ (v : Bool) (p : Place) (cmds : List BodyCmd) where
  pub lone-well : IsWellFormed (lone v p cmds)
  lone-well = record {
    named = only (λ j. (lit_at (lone v p cmds).outs j).node < 1) (omega arith);
    reads = omega arith;
    writes = omega arith;
    apart = λ i j li lj e. omega (arith, li, lj);
    same = λ j k lj lk e. absurd (omega (arith, lk));
  }

  pub lone-small : HasCommands (lone v p cmds) → IsSmall (lone v p cmds)
  lone-small commands = record {
    well = lone-well;
    states = record {
      first = rows-first (p ∷ []) (omega arith);
      written = refl;
      read = λ k l s. absurd (omega (arith, l));
    };
    commands = commands;
    graph = empty-graph;
    inputs = omega arith;
    outputs = omega arith;
    rows = omega arith;
  }

  pub lone-turn : (may_have : Spot → Type 0) (n : ℕ) (regs : List ℕ)
      → (is_state p.space ≡ false → may_have (spot_at n 0 regs p))
      → IsOwn (spot_at n 0 regs p).space → IsRound may_have n (lone_round v p cmds regs)
  lone-turn may_have n regs row own = record {
    reads = λ k l s. absurd (omega (arith, l));
    writes = only (λ j. is_state (nth_place (p ∷ []) j).space ≡ false
        → may_have (nth_spot n 0 regs (p ∷ []) j)) row;
    own = only (λ j. IsOwn (nth_spot n 0 regs (p ∷ []) j).space) own;
    apart = λ i j li lj e. omega (arith, li, lj);
    same = λ j k lj lk e. absurd (omega (arith, lk));
    once = λ j k l lj lk ll e f. absurd (omega (arith, lk));
  }
