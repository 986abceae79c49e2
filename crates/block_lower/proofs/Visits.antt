-- A round at a position does the block's visit there, wherever its names stand before and after it.
use Rattle.block_lower.proofs.Common.{◌≡◌, ℕ, zero, suc, ◌+◌, ◌<◌, Bool, false, List, [], ◌∷◌, map}
use Rattle.block_lower.proofs.Common.{length, fold, refl, sym, ap, ◌∙◌, subst, arith, inl, inr}
use Rattle.block_lower.proofs.Common.{cases_Bool, cases_eq, length-map, BodyCmd, Kind, Word, Bit}
use Rattle.block_lower.proofs.Common.{Equation, Block, Visit, Nought, NameValue, term_bit}
use Rattle.block_lower.proofs.Common.{with_lets, bit_read, bit_written, visited, width, is_among}
use Rattle.block_lower.proofs.Common.{state_names, word_names, Place, RoundOf, round_at, rounds}
use Rattle.block_lower.proofs.Common.{Spot, Spots, is_state, spot_at, nth_place, nth_spot}
use Rattle.block_lower.proofs.Common.{after_round, after_rounds, Slots, targets_of, written_names}
use Rattle.block_lower.proofs.Common.{slot_spot, IsRowOf}
use Rattle.std.proofs.Common.{slice_index_or, slice_set}
use Rattle.std.proofs.lemmas.List.{length-set, get_or-set_same, get_or-set_other}
use Rattle.loop_ir.specs.Plain.{Block as Body}
use Rattle.loop_ir.specs.Spots.{round_env, gives}
use Rattle.loop_laws.proofs.Same.{write_other, write_at}
use Rattle.block_lower.specs.Inputs.{block_inputs}
use Rattle.block_lower.specs.Form.{place_of, places_of, IsBlockBody}
use Rattle.block_lower.proofs.Names.{among-at, among-either, place-of}
use Rattle.block_lower.proofs.Rows.{slot_or, row_of, position, position-below, position-once}
use Rattle.block_lower.proofs.Rows.{row-below, named_row, nth-map, place-row}
use Rattle.block_lower.proofs.Facts.{Given, IsState, IsWord, IsTarget, IsInput, IsRead, IsNamed}
use Rattle.block_lower.proofs.Facts.{once-distinct, state-named, word-written, written-named}
use Rattle.block_lower.proofs.Facts.{read-named, word-target, input-is, read-is, word-kind}
use Rattle.block_lower.proofs.Facts.{rows-once, target, input, targets-long, target-among}
use Rattle.block_lower.proofs.Facts.{target-named, input-at, target-written}
use Rattle.block_lower.proofs.Folds.{equation_at, equation-got, assigned-other, assigned-at}
use Rattle.block_lower.proofs.Folds.{positions_from}
use Rattle.block_lower.proofs.Stand.{Away, in_rows, stand, row-space, row-stand, stand-still}
use Rattle.block_lower.proofs.Stand.{stand-row, stand-rest, stand-once, unset-stand}

-- a body of the block's graph that reads the inputs and writes the targets at these places
pub record DoesAt (slots : Slots) (b : Block) (from to : List ℕ → Place) (c : Body) : Type 0 where
  pub reads : c.reads ≡ map from (block_inputs b)
  pub writes : c.writes ≡ map to (targets_of b.assigns)
  pub like : IsBlockBody slots b (record c {
    reads = places_of slots b.down (block_inputs b);
    writes = places_of slots b.down (targets_of b.assigns);
  })

pub does-at : {slots : Slots} {b : Block} {body : Body} → IsBlockBody slots b body
    → (from to : List ℕ → Place) (rs ws : List Place) (cmds : List BodyCmd)
    → rs ≡ map from (block_inputs b) → ws ≡ map to (targets_of b.assigns)
    → DoesAt slots b from to (record {
      reads = rs;
      graph = body.graph;
      outs = body.outs;
      writes = ws;
      found = cmds;
    })
does-at is from to rs ws cmds e f = record {
  reads = e;
  writes = f;
  like = record {
    reads = refl;
    writes = refl;
    as_many = is.as_many;
    inputs = is.inputs;
    values = is.values;
    nodes = is.nodes;
    graph = is.graph;
    named = is.named;
    reduced = is.reduced;
  };
}

module _ {slots : Slots} {b : Block} {from to : List ℕ → Place} {c : Body}
    (d : DoesAt slots b from to c) where
  pub writes-long : length c.writes ≡ length b.assigns
  writes-long = ap length d.writes ∙ length-map (targets_of b.assigns) to ∙ targets-long b

  pub reads-long : length c.reads ≡ length (block_inputs b)
  reads-long = ap length d.reads ∙ length-map (block_inputs b) from

  pub write-place : (j : ℕ) → j < length b.assigns → nth_place c.writes j ≡ to (target b j)
  write-place j l = ap (λ ps. nth_place ps j) d.writes
      ∙ nth-map to (targets_of b.assigns) j (omega (arith, targets-long b))

  pub read-place : (k : ℕ) → k < length (block_inputs b) → nth_place c.reads k ≡ from (input b k)
  read-place k l = ap (λ ps. nth_place ps k) d.reads ∙ nth-map from (block_inputs b) k l

-- A round at a position: its body finds each name where it stands before, and leaves it where it
-- stands after; where the two are the same, so are the places
pub record IsTurn (slots : Slots) {b : Block} (a z : Away b) (n i : ℕ) (from to : List ℕ → Place)
    (r : RoundOf Body) : Type 0 where
  pub does : DoesAt slots b from to r.part
  pub reads : (x : List ℕ) → IsNamed b x
      → spot_at n r.i r.regs (from x) ≡ stand a slots n (position b.down n i) x
  pub writes : (x : List ℕ) → IsNamed b x
      → spot_at n r.i r.regs (to x) ≡ stand z slots n (position b.down n i) x
  pub same : (x : List ℕ) → IsNamed b x → z.is x ≡ a.is x → to x ≡ from x

-- the block's body with its states in rows
abbrev pub row_place : Slots → Block → List ℕ → Place
row_place slots b x = place_of b.down (slots x)

pub row-turn : {slots : Slots} {b : Block} {body : Body} → IsBlockBody slots b body → (n i : ℕ)
    → IsTurn slots (in_rows b) (in_rows b) n i (row_place slots b) (row_place slots b)
    (round_at body i)
row-turn {slots = slots} {b = b} {body = body} is n i = record {
  does = does-at is (row_place slots b) (row_place slots b) body.reads body.writes body.found
      is.reads is.writes;
  reads = λ x e. place-row n i b.down (slots x);
  writes = λ x e. place-row n i b.down (slots x);
  same = λ x e s. refl;
}

abbrev pub one_bit : Bool → NameValue
one_bit v = record { kind = Bit; bits = v ∷ [] }

-- row v of a name
abbrev pub row : ℕ → Slots → List ℕ → ℕ → Spot
row n slots x v = slot_spot n (slot_or (slots x)) v

-- after i positions: the states have their bits where they stand, the assigned words' rows theirs
-- at the positions done, the names that are read as they stand are as before, and so are all other
-- rows
pub record Stands (slots : Slots) {b : Block} (a : Away b) (n : ℕ) (old : List ℕ → NameValue)
    (before : Spots) (i : ℕ) (held : List ℕ → NameValue) (bits : Spots) : Type 0 where
  pub states : (x : List ℕ) → IsState b x → held x ≡ one_bit (bits (stand a slots n 0 x))
  pub kinds : (x : List ℕ) → IsWord b x → (held x).kind ≡ Word
  pub long : (x : List ℕ) → IsWord b x → length (held x).bits ≡ n
  pub words : (x : List ℕ) → IsWord b x → (j : ℕ) → j < i
      → slice_index_or (held x).bits (position b.down n j) false
      ≡ bits (row n slots x (position b.down n j))
  pub reads : (x : List ℕ) → IsRead b x → held x ≡ old x
  pub rest : (q : Spot) → is_state q.space ≡ false
      → (IsRowOf n slots (written_names (Visit b)) q → ⊥) → bits q ≡ before q

-- the rows of the names that are read hold their bits
abbrev pub AreRead : Slots → Block → ℕ → (List ℕ → NameValue) → Spots → Type 0
AreRead slots b n old before = (x : List ℕ) → IsRead b x → (p : ℕ) → p < n
    → bit_read p (old x) ≡ before (named_row n slots p x)

word-set : (p : ℕ) (k : Kind) (bs : List Bool) (v : Bool) → k ≡ Word
    → (bit_written p (record { kind = k; bits = bs }) v).bits ≡ slice_set bs p v
word-set p Word bs v e = refl
word-set p Bit bs v e = absurd (cc)

abbrev none : Equation
none = record { name = []; value = Nought }

module _ {slots : Slots} {fb fw : ℕ} {b : Block} (g : Given slots fb fw b) {a z : Away b} {n i : ℕ}
    {from to : List ℕ → Place} {r : RoundOf Body} (t : IsTurn slots a z n i from to r)
    (lt : i < n) where
  abbrev p : ℕ
  p = position b.down n i

  pub below : p < n
  below = position-below b.down n i lt

  pub write-row : (j : ℕ) → j < length b.assigns
      → nth_spot n r.i r.regs r.part.writes j ≡ stand z slots n p (target b j)
  write-row j l = ap (spot_at n r.i r.regs) (write-place t.does j l)
      ∙ t.writes (target b j) (target-named b j l)

  pub read-row : (k : ℕ) → k < length (block_inputs b)
      → nth_spot n r.i r.regs r.part.reads k ≡ stand a slots n p (input b k)
  read-row k l = ap (spot_at n r.i r.regs) (read-place t.does k l)
      ∙ t.reads (input b k) (input-at b k l)

  pub writes-once : (j k : ℕ) → j < length b.assigns → k < length b.assigns
      → nth_spot n r.i r.regs r.part.writes j ≡ nth_spot n r.i r.regs r.part.writes k → j ≡ k
  writes-once j k lj lk e = once-distinct (targets_of b.assigns) g.meets.targets_differ j k
      (omega (arith, targets-long b)) (omega (arith, targets-long b))
      (stand-once g z z n p (target b j) (target b k) below (target-named b j lj)
      (target-named b k lk) (sym (write-row j lj) ∙ e ∙ write-row k lk)).0

  -- what is written
  round-at : (bits : Spots) (j : ℕ) → j < length b.assigns
      → after_round n r bits (stand z slots n p (target b j))
      ≡ gives r.part (λ k. bits (nth_spot n r.i r.regs r.part.reads k)) j
  round-at bits j l =
      let m = t.does.like.as_many in
      ap (after_round n r bits) (sym (write-row j l))
      ∙ write_at n r.i r.regs (round_env n r bits) r.part.writes r.part.outs bits
      (omega (arith, writes-long t.does, m)) (λ x y lx ly e.
      writes-once x y (omega (arith, m)) (omega (arith, m)) e) j (omega (arith, m))

  -- and all else
  round-other : (bits : Spots) (q : Spot)
      → ((j : ℕ) → j < length b.assigns → q ≡ stand z slots n p (target b j) → ⊥)
      → after_round n r bits q ≡ bits q
  round-other bits q out =
      let m = t.does.like.as_many in
      write_other n r.i r.regs (round_env n r bits) r.part.writes r.part.outs bits q (λ j l e.
      let k : j < length b.assigns = omega (arith, m) in out j k (e ∙ write-row j k))

  -- a name that is read as it stands has no row that is set
  read-apart : (x : List ℕ) → IsRead b x
      → IsRowOf n slots (written_names (Visit b)) (named_row n slots p x) → ⊥
  read-apart x e is =
      let y = is.0 in
      let same : slot_or (slots y) ≡ is.1 = ap slot_or is.4 in
      let s = slot_or (slots x) in
      let h = rows-once g n x y (row_of p s.kind) is.2 (read-named b x e) (written-named b y is.3)
      (row-below n p s.kind below) (subst (λ s. is.2 < width n s.kind) (sym same) is.5)
      (is.6 ∙ ap (λ s. slot_spot n s is.2) (sym same)) in
      let k = read-is g x e in
      elim (among-either (state_names b) (word_names b) y is.3) [
        | inl s ↦ (let m = subst (IsState b) (sym h.0) s in let f = k.0 in cc)
        | inr w ↦ (let m = subst (IsTarget b) (sym h.0) (word-target b y w).0 in let f = k.1 in cc)
      ]

  -- a row of a name that is not set at this index
  row-stays : (bits : Spots) (x : List ℕ) (v : ℕ) → IsNamed b x
      → v < width n (slot_or (slots x)).kind
      → (IsTarget b x → v ≡ row_of p (slot_or (slots x)).kind → ⊥)
      → after_round n r bits (row n slots x v) ≡ bits (row n slots x v)
  row-stays bits x v e lv out = round-other bits (row n slots x v) (λ j l q.
      let h = stand-row g z n p (target b j) x v below (target-named b j l) e lv (sym q) in
      out (subst (IsTarget b) h.0 (target-among b j l))
      (sym h.1 ∙ ap (λ m. row_of p (slot_or (slots m)).kind) h.0))

  module _ {old held : List ℕ → NameValue} {before bits : Spots} (all : AreRead slots b n old before)
      (st : Stands slots a n old before i held bits) where
    -- what is read at the position is what the names hold there
    reads-held : (x : List ℕ) → IsInput b x → bits (stand a slots n p x) ≡ bit_read p (held x)
    reads-held x e = elim (input-is b x e) [
      | inl s ↦ ap bits (stand-still g a n p 0 x s) ∙ sym (ap (bit_read p) (st.states x s))
      | inr w ↦ ap bits (row-stand g a n p x (read-is g x w).0)
          ∙ st.rest (named_row n slots p x) (row-space g n (row_of p (slot_or (slots x)).kind) x
          (read-named b x w)) (read-apart x w) ∙ sym (all x w p below)
          ∙ sym (ap (bit_read p) (st.reads x w))
    ]

    abbrev new : Spots
    new = after_round n r bits

    abbrev env : List ℕ → Bool
    env m = bit_read p (held m)

    -- the value that an assigned name gets, and where it stands
    record Set (x : List ℕ) : Type 0 where
      v : Bool
      name : visited b held p x ≡ bit_written p (held x) v
      there : new (stand z slots n p x) ≡ v

    set-target : (j : ℕ) → j < length b.assigns → Set (target b j)
    set-target j l = record {
      v = term_bit (with_lets env b.lets) (equation_at none j b.assigns).value;
      name = assigned-at (with_lets env b.lets) p held b.assigns none j g.meets.targets_differ l;
      there = round-at bits j l
          ∙ t.does.like.values env (λ k. bits (nth_spot n r.i r.regs r.part.reads k))
          (λ k lk. ap bits (read-row k lk)
          ∙ reads-held (input b k) (among-at (block_inputs b) k lk)) j
          (equation_at none j b.assigns) (equation-got none b.assigns j l);
    }

    set-named : (x : List ℕ) → IsTarget b x → Set x
    set-named x e =
        let k = place-of (targets_of b.assigns) x e in
        let l = k.1 in
        subst Set k.2 (set-target k.0 (omega (arith, l, targets-long b)))

    -- a state that is not assigned stands in a row
    state-stays : (x : List ℕ) → IsState b x → is_among (targets_of b.assigns) x ≡ false
        → new (stand z slots n 0 x) ≡ bits (stand a slots n 0 x)
    state-stays x e f =
        ap new (unset-stand g z n 0 x f)
        ∙ row-stays bits x (row_of 0 (slot_or (slots x)).kind) (state-named b x e)
        (row-below n 0 (slot_or (slots x)).kind (omega (arith, lt))) (λ s q. cc)
        ∙ sym (ap bits (unset-stand g a n 0 x f))

    pub one-visit : Stands slots z n old before (i + 1) (visited b held p) new
    one-visit = record {
      states = λ x e. elim (cases_Bool (is_among (targets_of b.assigns) x)) [
        | inl s ↦ let k = set-named x s in
            k.name ∙ ap (λ h. bit_written p h k.v) (st.states x e)
            ∙ ap one_bit (sym k.there ∙ ap new (stand-still g z n p 0 x e))
        | inr f ↦ assigned-other (with_lets env b.lets) p held b.assigns x f ∙ st.states x e
            ∙ ap one_bit (sym (state-stays x e f))
      ];
      kinds = λ x e. let s = set-named x (word-target b x e).0 in
          ap (λ (h : NameValue). h.kind) s.name ∙ st.kinds x e;
      long = λ x e. let s = set-named x (word-target b x e).0 in
          ap (λ (h : NameValue). length h.bits) s.name
          ∙ ap length (word-set p (held x).kind (held x).bits s.v (st.kinds x e))
          ∙ length-set (held x).bits p s.v ∙ st.long x e;
      words = λ x e j l.
          let s = set-named x (word-target b x e).0 in
          let long = st.long x e in
          let kind = word-kind g x e in
          let is-set = ap (λ (h : NameValue). h.bits) s.name
          ∙ word-set p (held x).kind (held x).bits s.v (st.kinds x e) in
          elim (cases_eq j i) [
            | inl same ↦ subst (λ y. slice_index_or (visited b held p x).bits (position b.down n y)
                false ≡ new (row n slots x (position b.down n y))) (sym same)
                (ap (λ bs. slice_index_or bs p false) is-set
                ∙ get_or-set_same (held x).bits p s.v false (omega (arith, long, below))
                ∙ sym s.there ∙ ap new (row-stand g z n p x (word-target b x e).1
                ∙ ap (λ k. row n slots x (row_of p k)) kind))
            | inr ne ↦
                let lj : j < i = omega (arith, l) in
                let q = position b.down n j in
                let apart : q ≡ p
                → ⊥ = λ h. ne (position-once b.down n j i (omega (arith, lj)) lt h) in
                ap (λ bs. slice_index_or bs q false) is-set
                ∙ get_or-set_other (held x).bits p q s.v false apart ∙ st.words x e j lj
                ∙ sym (row-stays bits x q (written-named b x (word-written b x e))
                (subst (λ k. q < width n k) (sym kind)
                (position-below b.down n j (omega (arith, lj)))) (λ m h.
                apart (h ∙ ap (row_of p) kind)))
          ];
      reads = λ x e. assigned-other (with_lets env b.lets) p held b.assigns x (read-is g x e).1
          ∙ st.reads x e;
      rest = λ q s out. round-other bits q (λ j l e. stand-rest g z n p (target b j) below
          (target-written b (target b j) (target-among b j l)) q s out e) ∙ st.rest q s out;
    }

-- all positions from the i-th on, with the states in rows
pub row-visits : {slots : Slots} {fb fw : ℕ} {b : Block} {body : Body} {n : ℕ}
    {old : List ℕ → NameValue} {before : Spots} → Given slots fb fw b → IsBlockBody slots b body
    → AreRead slots b n old before → (count i : ℕ) → i + count ≡ n
    → (held : List ℕ → NameValue) (bits : Spots) → Stands slots (in_rows b) n old before i held bits
    → Stands slots (in_rows b) n old before n
    (fold (visited b) held (positions_from b.down n i count))
    (after_rounds n (rounds body i count) bits)
row-visits {slots = slots} {b = b} {n = n} {old = old} {before = before} g is all zero i e held bits
    st = let h : i ≡ n = omega (arith, e) in
    subst (λ j. Stands slots (in_rows b) n old before j held bits) h st
row-visits {b = b} {body = body} {n = n} g is all (suc count) i e held bits st =
    row-visits g is all count (i + 1) (omega (arith, e)) (visited b held (position b.down n i))
    (after_round n (round_at body i) bits)
    (one-visit g (row-turn is n i) (omega (arith, e)) all st)
