-- The subscripts of a body's places, their registers, and the body whose indices are in registers.
use Rattle.loop_front.proofs.Common.{◌≡◌, ℕ, zero, suc, ◌+◌, ◌<◌, Bool, true, false, cond, List, []}
use Rattle.loop_front.proofs.Common.{◌∷◌, ◌++◌, map, length, refl, sym, ap, ◌∙◌, subst, arith, inl}
use Rattle.loop_front.proofs.Common.{inr, ◌≤◌, filter, nat_lt, ◌||◌, ◌&&◌, AllByRecursion, list_all}
use Rattle.loop_front.proofs.Common.{and_parts, cases_Bool, ltb-true, ne_eqb, eq-eqb, and_from}
use Rattle.loop_front.proofs.Common.{lt-ltb, list_all-append, Sub, Zero, Inner, InnerDown, Register}
use Rattle.loop_front.proofs.Common.{Place, Block, nth_place, is_state, Spot, IsOwn, same_sub}
use Rattle.loop_front.proofs.Common.{may_stand, all_stand, IsSmall, HasValues, is_in_register}
use Rattle.loop_front.proofs.Common.{stays_in_registers, sub_true, length-map}
use Rattle.std.specs.List.{list_any}
use Rattle.std.proofs.lemmas.Bool.{or_from}
use Rattle.std.proofs.lemmas.List.Folds.{list_any-append}
use Rattle.std.proofs.lemmas.Map.Views.{any-filter_same}
use Rattle.loop_ir.specs.Costs.{sub_code, plain_cost}
use Rattle.loop_ir.specs.Limits.{HasCommands, IsHad}
use Rattle.mig_graph.specs.declared.Lit.{Lit}
use Rattle.row_alloc.specs.declared.body.OutRow.{OutRow}
use Rattle.row_alloc.specs.Held.{DoesHeld}
use Rattle.loop_ir.specs.WellFormed.{IsOneValue, IsWellFormed}
use Rattle.loop_ir.specs.Outputs.{IsOuts}
use Rattle.loop_ir.specs.States.{row_count, enters, leaves, row_outs, StatesFit}
use Rattle.loop_front.specs.Front.{is_used, used_subs, in_register, placed, in_registers}

pub nth_map : (f : Place → Place) (ps : List Place) (k : ℕ) → k < length ps
    → nth_place (map f ps) k ≡ f (nth_place ps k)
nth_map f [] k lt = absurd (omega (arith, lt))
nth_map f (p ∷ ps) zero lt = refl
nth_map f (p ∷ ps) (suc k) lt = nth_map f ps k (omega (arith, lt))

pub filter_all : {A : Type 0} (P : A → Type 0) (t : A → Bool) (xs : List A)
    → AllByRecursion (λ x. t x ≡ true → P x) xs → AllByRecursion P (filter t xs)
filter_all P t [] h = tt
filter_all P t (x ∷ xs) h = by (t x) refl (filter_all P t xs h.1)
  where
    by : (c : Bool) → t x ≡ c → AllByRecursion P (filter t xs)
        → AllByRecursion P (cond c (x ∷ filter t xs) (filter t xs))
    by true e r = (h.0 e, r)
    by false e r = r

-- the subscript is neither 0 nor a register
abbrev pub IsIndex : Sub → Type 0
IsIndex Zero = ⊥
IsIndex Inner = Unit {0}
IsIndex InnerDown = Unit {0}
IsIndex (Register r) = ⊥

abbrev indices : List Sub
indices = Inner ∷ InnerDown ∷ []

-- each subscript that a body uses goes by the index
pub all_used : (b : Block) → AllByRecursion IsIndex (used_subs b)
all_used b = filter_all IsIndex (is_used b) indices ((λ e. tt), ((λ e. tt), tt))

pub used_few : (b : Block) → length (used_subs b) ≤ 2
used_few b = by (is_used b Inner) (is_used b InnerDown)
  where
    by : (c d : Bool) → length (cond c (Inner ∷ cond d (InnerDown ∷ []) [])
        (cond d (InnerDown ∷ []) [])) ≤ 2
    by true true = omega arith
    by true false = omega arith
    by false true = omega arith
    by false false = omega arith

-- the subscript is 0 or one of these
abbrev pub IsKnown : List Sub → Sub → Type 0
IsKnown ss s = list_any (same_sub s) ss ≡ false → s ≡ Zero

abbrev pub AreKnown : List Sub → List Place → Type 0
AreKnown ss ps = AllByRecursion (λ p. IsKnown ss p.sub) ps

pub nth_known : (ss : List Sub) (ps : List Place) → AreKnown ss ps → (k : ℕ)
    → IsKnown ss (nth_place ps k).sub
nth_known ss [] h k = λ e. refl
nth_known ss (p ∷ ps) h zero = h.0
nth_known ss (p ∷ ps) h (suc k) = nth_known ss ps h.1 k

module _ (b : Block) (stand : all_stand true b ≡ true) where
  used_stand : (ps : List Place) (s : Sub) → list_any (λ p. same_sub p.sub s) ps ≡ true
      → list_all (λ p. may_stand true p.sub) ps ≡ true → may_stand true s ≡ true
  used_stand [] s u h = cc
  used_stand (p ∷ ps) s u h =
      let k = and_parts (may_stand true p.sub) (list_all (λ p. may_stand true p.sub) ps) h in
      elim (cases_Bool (same_sub p.sub s)) [
        | inl e ↦ subst (λ t. may_stand true t ≡ true) (sub_true p.sub s e) k.0
        | inr e ↦ used_stand ps s
            (subst (λ c. (c || list_any (λ p. same_sub p.sub s) ps) ≡ true) e u) k.1
      ]

  -- a subscript that has no register is 0
  else_zero : (s : Sub) → is_used b s ≡ true → may_stand true s ≡ true → IsKnown (used_subs b) s
  else_zero Zero u m e = refl
  else_zero (Register r) u m e = cc
  else_zero s u m e =
      let f = any-filter_same (same_sub s) (is_used b) true
      (λ t h. subst (λ t. is_used b t ≡ true) (sub_true s t h) u) indices in
      absurd (cc (e, f))

  each_known : (xs : List Place) → ((t : Place → Bool) → list_any t xs ≡ true
      → list_any t (b.reads ++ b.writes) ≡ true) → AreKnown (used_subs b) xs
  each_known [] among = tt
  each_known (x ∷ xs) among =
      let u = among (λ p. same_sub p.sub x.sub)
      (grind (arith, eq-eqb (sub_code x.sub) (sub_code x.sub) refl)) in (
        else_zero x.sub u (used_stand (b.reads ++ b.writes) x.sub u stand),
        each_known xs (λ t h. among t (grind (arith, h))),
      )

  pub known_reads : AreKnown (used_subs b) b.reads
  known_reads = each_known b.reads (λ t h. list_any-append t b.reads b.writes ∙ grind (arith, h))

  pub known_writes : AreKnown (used_subs b) b.writes
  known_writes = each_known b.writes (λ t h. list_any-append t b.reads b.writes ∙ grind (arith, h))

-- the subscript of a register
unregister : List Sub → ℕ → Sub → Sub
unregister [] r x = Zero
unregister (t ∷ ts) r x = cond (same_sub x (Register r)) t (unregister ts (r + 1) x)

-- a later one is in another register
other_register : (ss : List Sub) (r q : ℕ) (s : Sub) → r < q
    → same_sub (in_register ss q s) (Register r) ≡ false
other_register [] r q s lt = ne_eqb 0 (3 + r) (λ e. omega (arith, e))
other_register (t ∷ ts) r q s lt = elim (same_sub s t)
    as (λ c. same_sub (cond c (Register q) (in_register ts (q + 1) s)) (Register r) ≡ false) [
      | true ↦ ne_eqb (3 + q) (3 + r) (λ e. omega (arith, e, lt))
      | false ↦ other_register ts r (q + 1) s (omega (arith, lt))
    ]

back : (ss : List Sub) (r : ℕ) (s : Sub) → IsKnown ss s → unregister ss r (in_register ss r s) ≡ s
unfolding unregister
back [] r s h = sym (h refl)
back (t ∷ ts) r s h = by (same_sub s t) refl h (back ts (r + 1) s)
  where
    by : (b : Bool) → same_sub s t ≡ b → ((b || list_any (same_sub s) ts) ≡ false → s ≡ Zero)
        → (IsKnown ts s → unregister ts (r + 1) (in_register ts (r + 1) s) ≡ s)
        → unregister (t ∷ ts) r (cond b (Register r) (in_register ts (r + 1) s)) ≡ s
    by true e h rec = ap (λ c. cond c t (unregister ts (r + 1) (Register r)))
        (eq-eqb (3 + r) (3 + r) refl) ∙ sym (sub_true s t e)
    by false e h rec = ap (λ c. cond c t (unregister ts (r + 1) (in_register ts (r + 1) s)))
        (other_register ts r (r + 1) s (omega arith)) ∙ rec h

-- two subscripts are in two registers
pub two_registers : (ss : List Sub) (r : ℕ) (s t : Sub) → IsKnown ss s → IsKnown ss t
    → in_register ss r s ≡ in_register ss r t → s ≡ t
two_registers ss r s t hs ht e = sym (back ss r s hs) ∙ ap (unregister ss r) e ∙ back ss r t ht

-- what holds of 0 and of each register from r on holds of a subscript's register
pub registered : (P : Sub → Type 0) (ss : List Sub) (r : ℕ) (s : Sub) → P Zero
    → ((q : ℕ) → q < r + length ss → P (Register q)) → P (in_register ss r s)
registered P [] r s z h = z
registered P (t ∷ ts) r s z h = elim (same_sub s t)
    as (λ c. P (cond c (Register r) (in_register ts (r + 1) s))) [
      | true ↦ h r (omega arith)
      | false ↦ registered P ts (r + 1) s z (λ q lt. h q (omega (arith, lt)))
    ]

few_rows : (ps : List Place) → row_count ps ≤ length ps
few_rows [] = omega arith
few_rows (p ∷ ps) = elim (is_state p.space)
    as (λ c. cond c 0 (suc (row_count ps)) ≤ suc (length ps)) [
      | true ↦ omega arith
      | false ↦ omega (arith, few_rows ps)
    ]

module _ (f : Sub → Sub) where
  -- a place with another subscript
  abbrev pub resub : Place → Place
  resub p = record { space = p.space; which = p.which; sub = f p.sub }

  -- a body with other subscripts
  abbrev pub other : Block → Block
  other b = record {
    reads = map resub b.reads;
    graph = b.graph;
    outs = b.outs;
    writes = map resub b.writes;
    found = b.found;
  }

  pub state_other : (ps : List Place) (k : ℕ)
      → is_state (nth_place (map resub ps) k).space ≡ is_state (nth_place ps k).space
  state_other [] k = refl
  state_other (p ∷ ps) zero = refl
  state_other (p ∷ ps) (suc k) = state_other ps k

  pub count_other : (ps : List Place) → row_count (map resub ps) ≡ row_count ps
  count_other [] = refl
  count_other (p ∷ ps) = rw (count_other ps) refl

  enters_other : (k : ℕ) (ps : List Place) → enters k (map resub ps) ≡ enters k ps
  enters_other k [] = refl
  enters_other k (p ∷ ps) = rw (enters_other (k + 1) ps) refl

  leaves_other : (ps : List Place) (ls : List Lit) → leaves (map resub ps) ls ≡ leaves ps ls
  leaves_other [] ls = refl
  leaves_other (p ∷ ps) [] = refl
  leaves_other (p ∷ ps) (l ∷ ls) = rw (leaves_other ps ls) refl

  outs_other : (ps : List Place) (ls : List Lit) → row_outs (map resub ps) ls ≡ row_outs ps ls
  outs_other [] ls = refl
  outs_other (p ∷ ps) [] = refl
  outs_other (p ∷ ps) (l ∷ ls) = rw (outs_other ps ls) refl

  cost_other : (b : Block) → plain_cost (other b) ≡ plain_cost b
  cost_other b = rw (outs_other b.writes b.outs) refl

  one_other : (ps qs : List Place) (j k : ℕ) → j < length ps → k < length qs
      → IsOneValue (nth_place (map resub ps) j) (nth_place (map resub qs) k)
      → IsOneValue (nth_place ps j) (nth_place qs k)
  one_other ps qs j k lj lk e = let a = nth_map resub ps j lj in let c = nth_map resub qs k lk in
      (cc (a, c, e.0), cc (a, c, e.1))

  less : {k : ℕ} (ps : List Place) → k < length (map resub ps) → k < length ps
  less ps lt = omega (arith, lt, length-map ps resub)

  module _ (b : Block) where
    well_other : IsWellFormed b → IsWellFormed (other b)
    well_other w = record {
      named = w.named;
      reads = let r = w.reads in omega (arith, length-map b.reads resub, r);
      writes = let r = w.writes in omega (arith, length-map b.writes resub, r);
      apart = λ i j li lj e. let ki = less b.writes li in let kj = less b.writes lj in
          w.apart i j ki kj (one_other b.writes b.writes i j ki kj e);
      same = λ j k lj lk e. let kj = less b.writes lj in let kk = less b.reads lk in
          ap (λ (p : Place). p.sub) (nth_map resub b.writes j kj)
          ∙ ap f (w.same j k kj kk (one_other b.writes b.reads j k kj kk e))
          ∙ sym (ap (λ (p : Place). p.sub) (nth_map resub b.reads k kk));
    }

    states_other : StatesFit b → StatesFit (other b)
    states_other s =
        let c = count_other b.writes in
        record {
          first = record {
            row = λ k l. state_other b.writes k ∙ s.first.row k (omega (arith, l, c));
            state = λ k le l. state_other b.writes k
                ∙ s.first.state k (omega (arith, le, c)) (less b.writes l);
          };
          written = s.written ∙ sym (length-map b.writes resub);
          read = λ k l e. s.read k (less b.reads l) (sym (state_other b.reads k) ∙ e);
        }

    -- where each place read has its own subscript, the commands that it carries do it too
    module _ (apart : (j k : ℕ) → f (nth_place b.reads j).sub ≡ f (nth_place b.writes k).sub
        → (nth_place b.reads j).sub ≡ (nth_place b.writes k).sub) where
      one_place : (j k : ℕ) → j < length b.reads → k < length b.writes
          → nth_place (map resub b.reads) j ≡ nth_place (map resub b.writes) k
          → nth_place b.reads j ≡ nth_place b.writes k
      one_place j k lj lk e =
          let p = nth_place b.reads j in
          let q = nth_place b.writes k in
          let g : resub p ≡ resub q = sym (nth_map resub b.reads j lj) ∙ e ∙ nth_map resub b.writes k lk in
          ap (λ x. record { space = x; which = p.which; sub = p.sub })
          (ap (λ (x : Place). x.space) g)
          ∙ ap (λ x. record { space = q.space; which = x; sub = p.sub })
          (ap (λ (x : Place). x.which) g)
          ∙ ap (λ x. record { space = q.space; which = q.which; sub = x })
          (apart j k (ap (λ (x : Place). x.sub) g))

      outs_of : (m : ℕ) (rows : List OutRow) → IsWellFormed b → m ≤ length b.writes
          → IsOuts (other b) m rows → IsOuts b m rows
      outs_of m rows w le is =
          let enough : (i : ℕ) → i < b.graph.inputs → i < length b.reads = λ i l.
          let r = w.reads in omega (arith, l, r) in
          let long : (j : ℕ) → j < length rows → j < length b.writes = λ j l.
          let s = is.size in omega (arith, l, s, le) in
          let again : (i j : ℕ) → i < length b.reads → j < length b.writes
          → nth_place b.reads i ≡ nth_place b.writes j
          → nth_place (map resub b.reads) i ≡ nth_place (map resub b.writes) j = λ i j li lj e.
          nth_map resub b.reads i li ∙ ap resub e ∙ sym (nth_map resub b.writes j lj) in
          record {
            size = is.size;
            lits = is.lits;
            found = λ j k l e. let h = is.found j k l e in
                (h.0, one_place k j (enough k h.0) (long j l) h.1);
            first = λ i j k l e lt same. let h = is.found j k l e in
                is.first i j k l e lt (again i j (enough i (omega (arith, lt, h.0))) (long j l) same);
            none = λ j l e k lt same. is.none j l e k lt (again k j (enough k lt) (long j l) same);
          }

      commands_other : IsWellFormed b → row_count b.writes ≤ length b.writes → HasCommands b
          → HasCommands (other b)
      commands_other w le c = record {
        does = λ rows is.
            let own = c.does rows (outs_of (row_count b.writes) rows w le
            (subst (λ m. IsOuts (other b) m rows) (count_other b.writes) is)) in
            subst (λ hs. DoesHeld b.graph rows hs (leaves (map resub b.writes) b.outs) b.found)
            (sym (enters_other 0 b.reads))
            (subst (λ hs. DoesHeld b.graph rows (enters 0 b.reads) hs b.found)
            (sym (leaves_other b.writes b.outs)) own);
        few = let few = c.few in omega (arith, few, cost_other b);
      }

      pub small_other : IsSmall b → IsSmall (other b)
      small_other s = record {
        well = well_other s.well;
        states = states_other s.states;
        commands = commands_other s.well (few_rows b.writes) s.commands;
        graph = s.graph;
        inputs = s.inputs;
        outputs = s.outputs;
        rows = s.rows;
      }

module _ (b : Block) where
  abbrev subs : List Sub
  subs = used_subs b

  abbrev at : Place → Place
  at = placed subs

  -- code can be made of it
  pub small_registers : IsSmall b → AreKnown subs b.reads → AreKnown subs b.writes
      → IsSmall (in_registers b)
  small_registers s r w = small_other (in_register subs 3) b (λ j k e.
      two_registers subs 3 _ _ (nth_known subs b.reads r j) (nth_known subs b.writes w k) e) s

  -- its values are as before
  pub values_registers : (may_have : ℕ → Spot → Type 0) → HasValues may_have b
      → HasValues may_have (in_registers b)
  values_registers may_have h =
      let f = in_register subs 3 in record {
        reads = λ k l row. let lt = less f b.reads l in
            subst (IsHad may_have) (sym (nth_map at b.reads k lt))
            (h.reads k lt (sym (state_other f b.reads k) ∙ row));
        writes = λ j l row. let lt = less f b.writes l in
            subst (IsHad may_have) (sym (nth_map at b.writes j lt))
            (h.writes j lt (sym (state_other f b.writes j) ∙ row));
        own = λ j l. let lt = less f b.writes l in
            subst (λ (p : Place). IsOwn p.space) (sym (nth_map at b.writes j lt)) (h.own j lt);
      }

  -- and its places stand in registers below 7
  pub stays_registers : stays_in_registers (λ r. true) (in_registers b) ≡ true
  stays_registers =
      list_all-append (λ p. is_in_register (λ r. true) p.sub) (map at b.reads) (map at b.writes)
      ∙ and_from _ _ (stay b.reads) (stay b.writes)
    where
      stay : (ps : List Place) → list_all (λ p. is_in_register (λ r. true) p.sub) (map at ps) ≡ true
      stay [] = refl
      stay (p ∷ ps) = and_from (is_in_register (λ r. true) (in_register subs 3 p.sub)) _
          (registered (λ s. is_in_register (λ r. true) s ≡ true) subs 3 p.sub refl
          (λ q lt. and_from (nat_lt q 7) true
          (lt-ltb q 7 (omega (arith, lt, used_few b))) refl)) (stay ps)
