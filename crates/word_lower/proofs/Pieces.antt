-- The places of a word statement lie apart: its rooms do, and its loop program's names.
use Rattle.word_lower.proofs.Common.{◌≡◌, ◌⊎◌, inl, inr, ℕ, zero, suc, ◌+◌, ◌-◌, ◌*◌, ◌<◌, ◌≤◌}
use Rattle.word_lower.proofs.Common.{true, false, List, [], ◌∷◌, ◌++◌, map, length, refl, sym, ap}
use Rattle.word_lower.proofs.Common.{◌∙◌, subst, arith, Kind, Word, Bit, width, Space, Result}
use Rattle.word_lower.proofs.Common.{Source, ScratchBit, ScratchWord, Cells, Slot, Spot, spot_in}
use Rattle.word_lower.proofs.Common.{IsOwn, is_state, holds_kind, Room, room_at, row_in, extent}
use Rattle.word_lower.proofs.Common.{RoomsApart}
use Rattle.std.proofs.lemmas.Bool.{cases_lt}
use Rattle.std.proofs.lemmas.List.{length-map, length-append}
pub use Rattle.word_lower.specs.Places.{slot_at}
use Rattle.word_lower.specs.Places.{rows_of, room_of, scratch_bit}
use Rattle.word_lower.proofs.Setting.{scratch_from, rooms_of, Slots, row, SlotsApart, IsElsewhere}
use Rattle.word_lower.proofs.Setting.{AreSlots}

-- the place of a value of this kind
abbrev pub slot : Space → ℕ → Kind → Slot
slot space which k = record { space = space; which = which; kind = k }

-- where there is no further argument, rows that no program writes
abbrev pub no_slot : Slot
no_slot = slot Source 0 Word

-- all rows of the two lie apart
abbrev pub AreApart : ℕ → Slot → Slot → Type 0
AreApart n s t = SlotsApart n s (width n s.kind) t (width n t.kind)

-- a target, arguments and scratch
pub record Pieces (n : ℕ) (t : Slot) (args scratch : List Slot) : Type 0 where
  pub own : IsOwn t.space
  pub holds : holds_kind t.space t.kind ≡ true
  pub given : (i : ℕ) → i < length args → AreApart n (slot_at args i) t
  pub rows : (i : ℕ) → i < length args → is_state (slot_at args i).space ≡ false
  pub owned : (j : ℕ) → j < length scratch → IsOwn (slot_at scratch j).space
  pub free : (j : ℕ) → j < length scratch → AreApart n (slot_at scratch j) t
  pub others : (i j : ℕ) → i < length args → j < length scratch
      → AreApart n (slot_at args i) (slot_at scratch j)
  pub each : (i j : ℕ) → i < length scratch → j < length scratch → (i ≡ j → ⊥)
      → AreApart n (slot_at scratch i) (slot_at scratch j)

-- an owner has as many rows as its value has bits
pub extent_is : (n : ℕ) (k : Kind) → extent n (rows_of k) ≡ width n k
extent_is n Word = refl
extent_is n Bit = refl

-- a room is the target's, an argument's or that of a bit of scratch, by its number
pub data RoomView (t : Slot) (args scratch : List Slot) : ℕ → Room → Type 0 where
  is_target : RoomView t args scratch 0 (room_of true t)
  is_arg : (i : ℕ) → i < length args
      → RoomView t args scratch (suc i) (room_of false (slot_at args i))
  is_scratch : (j : ℕ) → j < length scratch
      → RoomView t args scratch (suc (length args + j)) (room_of true (slot_at scratch j))

arg_room : (args scratch : List Slot) (i : ℕ) → i < length args
    → room_at (map (room_of false) args ++ map (room_of true) scratch) i
    ≡ room_of false (slot_at args i)
arg_room [] scratch i lt = absurd (omega arith)
arg_room (a ∷ args) scratch zero lt = refl
arg_room (a ∷ args) scratch (suc i) lt = arg_room args scratch i (omega arith)

scratch_room : (args scratch : List Slot) (j k : ℕ) → j < length scratch → k ≡ length args + j
    → room_at (map (room_of false) args ++ map (room_of true) scratch) k
    ≡ room_of true (slot_at scratch j)
scratch_room (a ∷ args) scratch j zero lt e = absurd (omega arith)
scratch_room (a ∷ args) scratch j (suc k) lt e = scratch_room args scratch j k lt (omega arith)
scratch_room [] [] j k lt e = absurd (omega arith)
scratch_room [] (s ∷ ss) zero zero lt e = refl
scratch_room [] (s ∷ ss) zero (suc k) lt e = absurd (omega arith)
scratch_room [] (s ∷ ss) (suc j) zero lt e = absurd (omega arith)
scratch_room [] (s ∷ ss) (suc j) (suc k) lt e = scratch_room [] ss j k (omega arith) (omega arith)

pub length_rooms : (t : Slot) (args scratch : List Slot)
    → length (rooms_of t args scratch) ≡ suc (length args + length scratch)
length_rooms t args scratch = let a = length-append (map (room_of false) args)
    (map (room_of true) scratch) in let b = length-map args (room_of false) in
    let c = length-map scratch (room_of true) in omega (arith, a, b, c)

-- so is each room of a word statement
pub room_view : (t : Slot) (args scratch : List Slot) (k : ℕ) → k < length (rooms_of t args scratch)
    → RoomView t args scratch k (room_at (rooms_of t args scratch) k)
room_view t args scratch zero lt = is_target
room_view t args scratch (suc k) lt = elim (cases_lt k (length args)) [
  | inl l ↦ subst (RoomView t args scratch (suc k)) (sym (arg_room args scratch k l)) (is_arg k l)
  | inr le ↦
      let j = k - length args in
      let e : k ≡ length args + j = omega arith in
      let l : j < length scratch = (let n = length_rooms t args scratch in omega arith) in
      subst (RoomView t args scratch (suc k)) (sym (scratch_room args scratch j k l e))
      (subst (λ i. RoomView t args scratch (suc i) (room_of true (slot_at scratch j))) (sym e)
      (is_scratch j l))
]

-- rows of two rooms of slots that lie apart are not the same
meets_none : (n : ℕ) (s t : Slot) (u v : ℕ) → AreApart n s t → u < extent n (rows_of s.kind)
    → v < extent n (rows_of t.kind) → row n s u ≡ row n t v → ⊥
meets_none n s t u v a lu lv e = let x = extent_is n s.kind in let y = extent_is n t.kind in
    a.by u v (omega arith) (omega arith) e

module _ (n : ℕ) (t : Slot) (args scratch : List Slot) (are : Pieces n t args scratch) where
  views_apart : (j k u v : ℕ) (r q : Room) → RoomView t args scratch j r
      → RoomView t args scratch k q → r.written ≡ true → (j ≡ k → ⊥) → u < extent n r.rows
      → v < extent n q.rows → row_in n r u ≡ row_in n q v → ⊥
  views_apart j k u v r q is_target is_target w ne lu lv e = ne refl
  views_apart j k u v r q is_target (is_arg i l) w ne lu lv e =
      meets_none n (slot_at args i) t v u (are.given i l) lv lu (sym e)
  views_apart j k u v r q is_target (is_scratch i l) w ne lu lv e =
      meets_none n (slot_at scratch i) t v u (are.free i l) lv lu (sym e)
  views_apart j k u v r q (is_arg i l) y w ne lu lv e = cc
  views_apart j k u v r q (is_scratch i l) is_target w ne lu lv e =
      meets_none n (slot_at scratch i) t u v (are.free i l) lu lv e
  views_apart j k u v r q (is_scratch i l) (is_arg h m) w ne lu lv e =
      meets_none n (slot_at args h) (slot_at scratch i) v u (are.others h i m l) lv lu (sym e)
  views_apart j k u v r q (is_scratch i l) (is_scratch h m) w ne lu lv e =
      meets_none n (slot_at scratch i) (slot_at scratch h) u v
      (are.each i h l m (λ c. ne (ap (λ x. suc (length args + x)) c))) lu lv e

  view_own : (k : ℕ) (r : Room) → RoomView t args scratch k r → r.written ≡ true → IsOwn r.space
  view_own k r is_target w = are.own
  view_own k r (is_arg i l) w = cc
  view_own k r (is_scratch j l) w = are.owned j l

  pub rooms_apart : RoomsApart n (rooms_of t args scratch)
  rooms_apart = record {
    apart = λ j k u v lj lk w ne lu lv e. views_apart j k u v _ _ (room_view t args scratch j lj)
        (room_view t args scratch k lk) w ne lu lv e;
    own = λ k lk w. view_own k _ (room_view t args scratch k lk) w;
  }

-- each row of a value is another
pub moves_in : (n : ℕ) (s : Space) (which : ℕ) (k : Kind) → holds_kind s k ≡ true → (u v : ℕ)
    → u < width n k → v < width n k → spot_in n s which u ≡ spot_in n s which v → u ≡ v
moves_in n Result w k h u v lu lv e = ap (λ (q : Spot). q.index) e
moves_in n Source w k h u v lu lv e = ap (λ (q : Spot). q.index) e
moves_in n ScratchBit w Bit h u v lu lv e = omega arith
moves_in n ScratchBit w Word h u v lu lv e = cc
moves_in n ScratchWord w k h u v lu lv e = let f : w * n + u ≡ w * n + v =
    ap (λ (q : Spot). q.index) e in omega arith
moves_in n Cells w k h u v lu lv e = cc

-- a slot of which no row is in a place that may be written
source_apart : (n : ℕ) (s : Space) (which u v : ℕ) → IsOwn s
    → spot_in n Source 0 u ≡ spot_in n s which v → ⊥
source_apart n Result w u v own e = cc (ap (λ (q : Spot). q.space) e)
source_apart n Source w u v own e = own
source_apart n ScratchBit w u v own e = cc (ap (λ (q : Spot). q.space) e)
source_apart n ScratchWord w u v own e = cc (ap (λ (q : Spot). q.space) e)
source_apart n Cells w u v own e = cc (ap (λ (q : Spot). q.space) e)

-- a row lies in the space of its place
pub spot_space : (n : ℕ) (s : Space) (w v : ℕ) → (spot_in n s w v).space ≡ s
spot_space n s w v = grind arith

-- a place of a name is of rows
pub kind_row : (s : Space) (k : Kind) → holds_kind s k ≡ true → is_state s ≡ false
kind_row Result k h = refl
kind_row Source k h = refl
kind_row ScratchBit k h = refl
kind_row ScratchWord k h = refl
kind_row Cells k h = cc

some_rows : (n : ℕ) (k : Kind) → 0 < n → 0 < width n k
some_rows n Word h = h
some_rows n Bit h = omega arith

-- the names of a statement, by its arguments
abbrev pub names : Slot → List Slot → ℕ → Slots
names t args free = record {
  target = t;
  a = slot_at args 0;
  b = slot_at args 1;
  s = slot_at args 2;
  free_bit = free;
}

there_or_not : (ss : List Slot) (i : ℕ) → (i < length ss) ⊎ (slot_at ss i ≡ no_slot)
there_or_not [] i = inr refl
there_or_not (s ∷ ss) zero = inl (omega arith)
there_or_not (s ∷ ss) (suc i) = elim (there_or_not ss i) [
  | inl lt ↦ inl (omega (arith, lt))
  | inr e ↦ inr e
]

no_apart : (n : ℕ) (t : Slot) → IsOwn t.space → AreApart n no_slot t
no_apart n t own = record { by = λ u v lu lv e. source_apart n t.space t.which u v own e }

module _ (n : ℕ) (t : Slot) (args scratch : List Slot) (are : Pieces n t args scratch) where
  arg_apart : (i : ℕ) → AreApart n (slot_at args i) t
  arg_apart i = elim (there_or_not args i) [
    | inl lt ↦ are.given i lt
    | inr e ↦ subst (λ s. AreApart n s t) (sym e) (no_apart n t are.own)
  ]

  arg_row : (i : ℕ) → is_state (slot_at args i).space ≡ false
  arg_row i = elim (there_or_not args i) [
    | inl lt ↦ are.rows i lt
    | inr e ↦ ap (λ (s : Slot). is_state s.space) e
  ]

  arg_free : (i j : ℕ) → j < length scratch → AreApart n (slot_at args i) (slot_at scratch j)
  arg_free i j lj = elim (there_or_not args i) [
    | inl lt ↦ are.others i j lt lj
    | inr e ↦
        subst (λ s. AreApart n s (slot_at scratch j)) (sym e)
        (no_apart n (slot_at scratch j) (are.owned j lj))
  ]

module _ (n bits : ℕ) (t : Slot) (args : List Slot) (free : ℕ)
    (are : Pieces n t args (scratch_from free bits)) where
  arg_else : (i v : ℕ) → v < width n (slot_at args i).kind
      → IsElsewhere n (width n t.kind) bits (names t args free) (row n (slot_at args i) v)
  arg_else i v lv = record {
    no_state = ap is_state (spot_space n (slot_at args i).space (slot_at args i).which v)
        ∙ arg_row n t args (scratch_from free bits) are i;
    target = λ u lu e. (arg_apart n t args (scratch_from free bits) are i).by v u lv lu e;
    bit = λ h e. (by bits are h).by v 0 lv (omega arith) e;
  }
    where
      by : (bits : ℕ) → Pieces n t args (scratch_from free bits) → 0 < bits
          → AreApart n (slot_at args i) (scratch_bit free)
      by zero are h = absurd (omega arith)
      by (suc bits) are h = arg_free n t args (scratch_from free (suc bits)) are i 0 (omega arith)

  bit_else : (bits : ℕ) → Pieces n t args (scratch_from free bits) → 0 < bits
      → AreApart n (scratch_bit free) t
  bit_else zero are h = absurd (omega arith)
  bit_else (suc bits) are h = are.free 0 (omega arith)

  -- so many rows of the arguments, and the bits of scratch
  pub are_slots : (l : ℕ) → 0 < n → l ≤ width n (slot_at args 0).kind
      → l ≤ width n (slot_at args 1).kind
      → AreSlots n (width n t.kind) l bits (names t args free)
  are_slots l some first second = record {
    moves = moves_in n t.space t.which t.kind are.holds;
    no_state = λ v. ap is_state (spot_space n t.space t.which v)
        ∙ kind_row t.space t.kind are.holds;
    a = λ v lv. arg_else 0 v (omega arith);
    b = λ v lv. arg_else 1 v (omega arith);
    s = arg_else 2 0 (some_rows n (slot_at args 2).kind some);
    bit = λ h v lv e. (bit_else bits are h).by 0 v (omega arith) lv (sym e);
  }
