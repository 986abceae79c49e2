-- Bodies over places by their owners: their rounds keep the rules where their rows are in range.
use Rattle.word_lower.proofs.Common.{◌≡◌, ℕ, zero, suc, ◌+◌, ◌<◌, Bool, true, false, List, [], ◌∷◌}
use Rattle.word_lower.proofs.Common.{map, length, sym, ap, ◌∙◌, subst, inl, inr, arith, ◌&&◌, ◌==◌}
use Rattle.word_lower.proofs.Common.{nat_le, and_parts, eqb-true, Place, Spot, spot_in, nth_place}
use Rattle.word_lower.proofs.Common.{IsOwn, is_state, HasCommands, Room, room_for, Owner, InRoom}
use Rattle.word_lower.proofs.Common.{InCells, same_owner, Mark, Marked, extent, row_in, placed}
use Rattle.word_lower.proofs.Common.{placed_body, IsOwned, RoomsApart, mark_at, HaveRows, write_at}
use Rattle.word_lower.proofs.Common.{writes_once, alone_sub, most_is, nth_placed, placed_same}
use Rattle.loop_ir.specs.Loops.{sub_value}
use Rattle.loop_ir.specs.Spots.{spot_at, nth_spot}
use Rattle.loop_ir.specs.WellFormed.{IsOneValue}
use Rattle.loop_ir.specs.Limits.{IsRound, IsHad, HasValues}
use Rattle.loop_laws.specs.Rooms.{is_there, writes_fit}
use Rattle.loop_laws.specs.Forms.{IsSlim, has_room, are_rows_first}
use Rattle.loop_laws.proofs.Fitting.{IsThere}
use Rattle.loop_laws.proofs.Alike.{first_like, rows_first}
use Rattle.loop_laws.proofs.Good.{there_is, alone_once}
use Rattle.loop_laws.proofs.EveryRound.{first, below_map, own_spot, owner_cases, owners_apart}
use Rattle.loop_laws.proofs.EveryRound.{owned_at, own_of}

-- the place has an owner
abbrev pub all_there : List Room → List Mark → Bool
all_there rooms [] = true
all_there rooms (m ∷ ms) = is_there m.owner (length rooms) && all_there rooms ms

there_at : (rooms : List Room) (ms : List Mark) (k : ℕ) → all_there rooms ms ≡ true
    → k < length ms → IsThere rooms (mark_at ms k).owner
there_at rooms [] k e lt = absurd (omega arith)
there_at rooms (m ∷ ms) zero e lt = there_is rooms m.owner
    (and_parts (is_there m.owner (length rooms)) (all_there rooms ms) e).0
there_at rooms (m ∷ ms) (suc k) e lt = there_at rooms ms k
    (and_parts (is_there m.owner (length rooms)) (all_there rooms ms) e).1 (omega arith)

-- each place is one of its owner's rows, with these registers
abbrev pub AllIn : ℕ → List ℕ → List Room → List Mark → Type 0
AllIn n g rooms [] = Unit {0}
AllIn n g rooms (m ∷ ms) = (sub_value n 0 g m.sub < extent n (room_for rooms m.owner).rows)
    × AllIn n g rooms ms

in_at : (n : ℕ) (g : List ℕ) (rooms : List Room) (ms : List Mark) (k : ℕ) → AllIn n g rooms ms
    → k < length ms
    → sub_value n 0 g (mark_at ms k).sub < extent n (room_for rooms (mark_at ms k).owner).rows
in_at n g rooms [] k all lt = absurd (omega arith)
in_at n g rooms (m ∷ ms) zero all lt = all.0
in_at n g rooms (m ∷ ms) (suc k) all lt = in_at n g rooms ms k all.1 (omega arith)

-- the places have owners, and what is written may be
pub record OwnersFit (rooms : List Room) (b : Marked) : Type 0 where
  pub reads : all_there rooms b.reads ≡ true
  pub writes : all_there rooms b.writes ≡ true
  pub fit : writes_fit rooms b.reads b.writes ≡ true

pub owner_true : (a b : Owner) → same_owner a b ≡ true → a ≡ b
owner_true (InRoom j) (InRoom k) e = ap InRoom (eqb-true j k e)
owner_true (InRoom j) (InCells w) e = cc
owner_true (InCells v) (InRoom k) e = cc
owner_true (InCells v) (InCells w) e = ap InCells (eqb-true v w e)

module _ (n : ℕ) (rooms : List Room) (some : 0 < n) (are : RoomsApart n rooms)
    (rows : HaveRows rooms) (b : Marked) (fit : OwnersFit rooms b) where
  written : (j : ℕ) → j < length b.writes → (room_for rooms (mark_at b.writes j).owner).written
      ≡ true
  written j lj = (write_at rooms b.reads b.writes j fit.fit lj).written

  -- rows that are one have one owner, where one of them may be written
  meet : (x y : Owner) (u v : ℕ) → IsThere rooms x → IsThere rooms y
      → (room_for rooms x).written ≡ true → u < extent n (room_for rooms x).rows
      → v < extent n (room_for rooms y).rows
      → row_in n (room_for rooms x) u ≡ row_in n (room_for rooms y) v → x ≡ y
  meet x y u v lx ly w lu lv e = elim (owner_cases x y) [
    | inl c ↦ c
    | inr c ↦ absurd (owners_apart n rooms are rows x y u v lx ly w c lu lv e)
  ]

  -- so have places of one value
  pub one_owner : (ms : List Mark) → all_there rooms ms ≡ true → (j k : ℕ) → j < length b.writes
      → k < length ms
      → IsOneValue (nth_place (map (placed rooms) b.writes) j) (nth_place (map (placed rooms) ms) k)
      → (mark_at b.writes j).owner ≡ (mark_at ms k).owner
  one_owner ms t j k lj lk e =
      let p = nth_placed rooms b.writes j lj in
      let q = nth_placed rooms ms k lk in
      let x = room_for rooms (mark_at b.writes j).owner in
      let y = room_for rooms (mark_at ms k).owner in
      meet (mark_at b.writes j).owner (mark_at ms k).owner 0 0
      (there_at rooms b.writes j fit.writes lj) (there_at rooms ms k t lk) (written j lj)
      (first n x.rows some) (first n y.rows some)
      (ap (λ z. spot_in n z x.which 0)
      (sym (ap (λ (p : Place). p.space) p) ∙ e.0 ∙ ap (λ (p : Place). p.space) q)
      ∙ ap (λ z. spot_in n y.space z 0)
      (sym (ap (λ (p : Place). p.which) p) ∙ e.1 ∙ ap (λ (p : Place). p.which) q))

-- the test of a body's owners and numbers
abbrev pub keeps : List Room → Marked → Bool
keeps rooms b = all_there rooms b.reads && (all_there rooms b.writes
    && (writes_fit rooms b.reads b.writes && (has_room (placed_body rooms b)
    && (are_rows_first (map (placed []) b.writes) && nat_le (length b.reads) b.graph.inputs))))

pub record Kept (rooms : List Room) (b : Marked) : Type 0 where
  pub reads : all_there rooms b.reads ≡ true
  pub writes : all_there rooms b.writes ≡ true
  pub fit : writes_fit rooms b.reads b.writes ≡ true
  pub room : has_room (placed_body rooms b) ≡ true
  pub first : are_rows_first (map (placed []) b.writes) ≡ true
  pub inputs : nat_le (length b.reads) b.graph.inputs ≡ true

pub kept_is : (rooms : List Room) (b : Marked) → keeps rooms b ≡ true → Kept rooms b
kept_is rooms b e =
    let p = and_parts (all_there rooms b.reads) _ e in
    let q = and_parts (all_there rooms b.writes) _ p.1 in
    let r = and_parts (writes_fit rooms b.reads b.writes) _ q.1 in
    let s = and_parts (has_room (placed_body rooms b)) _ r.1 in
    let t = and_parts (are_rows_first (map (placed []) b.writes)) _ s.1 in
    record { reads = p.0; writes = q.0; fit = r.0; room = s.0; first = t.0; inputs = t.1 }

-- its owners fit
pub kept_fit : (rooms : List Room) (b : Marked) → keeps rooms b ≡ true → OwnersFit rooms b
kept_fit rooms b e = let k = kept_is rooms b e in
    record { reads = k.reads; writes = k.writes; fit = k.fit }

module _ (n : ℕ) (rooms : List Room) (some : 0 < n) (are : RoomsApart n rooms)
    (rows : HaveRows rooms) (b : Marked) (fit : keeps rooms b ≡ true) where
  kept : Kept rooms b
  kept = kept_is rooms b fit

  abbrev owners : OwnersFit rooms b
  owners = kept_fit rooms b fit

  rd : (k : ℕ) → k < length (map (placed rooms) b.reads) → k < length b.reads
  rd = below_map (placed rooms) b.reads

  wr : (j : ℕ) → j < length (map (placed rooms) b.writes) → j < length b.writes
  wr = below_map (placed rooms) b.writes

  may : (j : ℕ) → j < length b.writes → (room_for rooms (mark_at b.writes j).owner).written ≡ true
  may j lj = (write_at rooms b.reads b.writes j owners.fit lj).written

  -- a round with registers for which all rows are in range
  module _ (g : List ℕ) (reads : AllIn n g rooms b.reads) (writes : AllIn n g rooms b.writes) where
    spot : (ms : List Mark) (k : ℕ) → k < length ms → nth_spot n 0 g (map (placed rooms) ms) k
        ≡ row_in n (room_for rooms (mark_at ms k).owner) (sub_value n 0 g (mark_at ms k).sub)
    spot ms k lk = ap (spot_at n 0 g) (nth_placed rooms ms k lk)

    met : (ms : List Mark) → all_there rooms ms ≡ true → AllIn n g rooms ms → (j k : ℕ)
        → j < length b.writes → k < length ms → nth_spot n 0 g (map (placed rooms) b.writes) j
        ≡ nth_spot n 0 g (map (placed rooms) ms) k
        → (mark_at b.writes j).owner ≡ (mark_at ms k).owner
    met ms t a j k lj lk e = meet n rooms some are rows b owners (mark_at b.writes j).owner
        (mark_at ms k).owner _ _
        (there_at rooms b.writes j owners.writes lj) (there_at rooms ms k t lk) (may j lj)
        (in_at n g rooms b.writes j writes lj) (in_at n g rooms ms k a lk)
        (sym (spot b.writes j lj) ∙ e ∙ spot ms k lk)

    owned : (ms : List Mark) → all_there rooms ms ≡ true → AllIn n g rooms ms → (k : ℕ)
        → k < length (map (placed rooms) ms)
        → is_state (nth_place (map (placed rooms) ms) k).space ≡ false
        → IsOwned n rooms (nth_spot n 0 g (map (placed rooms) ms) k)
    owned ms t a k lk row = let l = below_map (placed rooms) ms k lk in
        owned_at n rooms are rows (mark_at ms k).owner (sub_value n 0 g (mark_at ms k).sub) _
        (there_at rooms ms k t l)
        (sym (ap (λ (p : Place). is_state p.space) (nth_placed rooms ms k l)) ∙ row)
        (in_at n g rooms ms k a l) (spot ms k l)

    space_of : (j : ℕ) → j < length b.writes
        → IsOwn (nth_spot n 0 g (map (placed rooms) b.writes) j).space
    space_of j lj = let w = room_for rooms (mark_at b.writes j).owner in
        subst (λ (q : Spot). IsOwn q.space) (sym (spot b.writes j lj))
        (own_spot n w.space w.which (sub_value n 0 g (mark_at b.writes j).sub)
        (own_of n rooms are rows (mark_at b.writes j).owner
        (there_at rooms b.writes j owners.writes lj) (may j lj)))

    pub round_is : IsRound (IsOwned n rooms) n
        (record { part = placed_body rooms b; i = 0; regs = g })
    round_is = record {
      reads = owned b.reads owners.reads reads;
      writes = owned b.writes owners.writes writes;
      own = λ j lj. space_of j (wr j lj);
      apart = λ i j li lj e. writes_once rooms b.reads b.writes i j owners.fit (wr i li) (wr j lj)
          (met b.writes owners.writes writes i j (wr i li) (wr j lj) e);
      same = λ j k lj lk e. (let o = met b.reads owners.reads reads j k (wr j lj) (rd k lk) e in
          nth_placed rooms b.writes j (wr j lj)
          ∙ placed_same rooms (mark_at b.writes j) (mark_at b.reads k) o
          (alone_sub (mark_at b.writes j) b.reads k
          (write_at rooms b.reads b.writes j owners.fit (wr j lj)).alone (rd k lk) o)
          ∙ sym (nth_placed rooms b.reads k (rd k lk)));
      once = λ j k l lj lk ll e f. alone_once (mark_at b.writes j) b.reads k l
          (write_at rooms b.reads b.writes j owners.fit (wr j lj)).alone (rd k lk) (rd l ll)
          (met b.reads owners.reads reads j k (wr j lj) (rd k lk) e)
          (met b.reads owners.reads reads j l (wr j lj) (rd l ll) f);
    }

  -- the values of its places are had
  had : (ms : List Mark) → all_there rooms ms ≡ true → (k : ℕ)
      → k < length (map (placed rooms) ms)
      → is_state (nth_place (map (placed rooms) ms) k).space ≡ false
      → IsHad (λ m. IsOwned m rooms) (nth_place (map (placed rooms) ms) k)
  had ms t k lk row = let l = below_map (placed rooms) ms k lk in
      let p = nth_placed rooms ms k l in
      let o = (mark_at ms k).owner in (
        n,
        0,
        owned_at n rooms are rows o 0 _ (there_at rooms ms k t l)
            (sym (ap (λ (p : Place). is_state p.space) p) ∙ row) (first n (room_for rooms o).rows some)
            (ap (λ (p : Place). spot_in n p.space p.which 0) p),
      )

  pub values_are : HasValues (λ m. IsOwned m rooms) (placed_body rooms b)
  values_are = record {
    reads = had b.reads owners.reads;
    writes = had b.writes owners.writes;
    own = λ j lj. subst (λ (p : Place). IsOwn p.space)
        (sym (nth_placed rooms b.writes j (wr j lj)))
        (own_of n rooms are rows (mark_at b.writes j).owner
        (there_at rooms b.writes j owners.writes (wr j lj)) (may j (wr j lj)));
  }

  pub slim_is : HasCommands (placed_body rooms b) → IsSlim (placed_body rooms b)
  slim_is commands =
      let d = placed_body rooms b in
      let a1 = and_parts (nat_le d.graph.inputs (length d.reads)) _ kept.room in
      let a2 = and_parts (length d.outs == length d.writes) _ a1.1 in
      let a3 = and_parts (nat_le d.graph.inputs 80) _ a2.1 in
      let a4 = and_parts (nat_le (length d.outs) 8) _ a3.1 in
      let many = most_is (length b.reads) b.graph.inputs kept.inputs in
      record {
        reads = most_is d.graph.inputs (length d.reads) a1.0;
        states = record {
          first = rows_first (map (placed rooms) b.writes)
              (first_like rooms rows b.writes ∙ kept.first);
          written = eqb-true (length d.outs) (length d.writes) a2.0;
          read = λ k lk state. (let l = rd k lk in omega (arith, l, many));
        };
        commands = commands;
        apart = λ i j li lj h. writes_once rooms b.reads b.writes i j owners.fit (wr i li) (wr j lj)
            (one_owner n rooms some are rows b owners b.writes owners.writes i j (wr i li) (wr j lj) h);
        same = λ j k lj lk h.
            ap (λ (p : Place). p.sub) (nth_placed rooms b.writes j (wr j lj))
            ∙ alone_sub (mark_at b.writes j) b.reads k
            (write_at rooms b.reads b.writes j owners.fit (wr j lj)).alone (rd k lk)
            (one_owner n rooms some are rows b owners b.reads owners.reads j k (wr j lj) (rd k lk) h)
            ∙ sym (ap (λ (p : Place). p.sub) (nth_placed rooms b.reads k (rd k lk)));
        inputs = most_is d.graph.inputs 80 a3.0;
        outputs = most_is (length d.outs) 8 a4.0;
        rows = most_is (length d.graph.nodes + length d.outs) 32 a4.1;
      }
