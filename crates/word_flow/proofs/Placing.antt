-- Rooms that are the places of a statement's names and of its internal scratch: they lie apart, and
-- their rows are the statement's.
use Rattle.std.proofs.lemmas.Bool.{or_left, or_right}
use Rattle.word_flow.proofs.Common.{bytes_eq-Decides, statement_names, IsStatementRow, words_inside}
use Rattle.word_flow.proofs.Common.{written_names, ScratchWord, scratch_bit, bits_inside, Statement}
use Rattle.word_flow.proofs.Common.{need_inside, length-map, ScratchBit, holds_kind, RoomsApart, []}
use Rattle.word_flow.proofs.Common.{IsChanged, extent_is, one_place, same_name, same_slot, bytes_eq}
use Rattle.word_flow.proofs.Common.{is_among, IsPlaced, AreApart, moves_in, spot_in, room_at, false}
use Rattle.word_flow.proofs.Common.{IsOwned, room_of, length, ⊎_elim, row_in, extent, subst, arith}
use Rattle.word_flow.proofs.Common.{IsOwn, Slots, zero, Bool, true, List, Some, refl, ◌||◌, Word, ℕ}
use Rattle.word_flow.proofs.Common.{Slot, Spot, Room, slot, ◌≡◌, inl, inr, suc, ◌+◌, ◌*◌, ◌<◌, ◌≤◌}
use Rattle.word_flow.proofs.Common.{◌∷◌, map, sym, ◌∙◌, ap}

-- whose a room is: a name's, which has this place and may be written or not, a bit's of scratch, or
-- a word's of scratch
pub data Whose : Type 0 where
  Name : Bool → List ℕ → Slot → Whose
  BitAt : ℕ → Whose
  WordAt : ℕ → Whose

abbrev pub place_of : Whose → Slot
place_of (Name w name s) = s
place_of (BitAt k) = scratch_bit k
place_of (WordAt k) = slot ScratchWord k Word

abbrev pub may_write : Whose → Bool
may_write (Name w name s) = w
may_write (BitAt k) = true
may_write (WordAt k) = true

abbrev pub room_whose : Whose → Room
room_whose w = room_of (may_write w) (place_of w)

abbrev pub rooms_whose : List Whose → List Room
rooms_whose ws = map room_whose ws

-- by its number, and where there is none a bit
abbrev pub whose_at : List Whose → ℕ → Whose
whose_at [] k = BitAt 0
whose_at (w ∷ ws) zero = w
whose_at (w ∷ ws) (suc k) = whose_at ws k

room_at_is : (ws : List Whose) (k : ℕ) → k < length ws
    → room_at (rooms_whose ws) k ≡ room_whose (whose_at ws k)
room_at_is [] k lt = absurd (omega arith)
room_at_is (w ∷ ws) zero lt = refl
room_at_is (w ∷ ws) (suc k) lt = room_at_is ws k (omega (arith, lt))

below : (ws : List Whose) (k : ℕ) → k < length (rooms_whose ws) → k < length ws
below ws k lt = let e = length-map ws room_whose in omega (arith, e, lt)

-- two owners are not the same
abbrev pub Differ : Whose → Whose → Type 0
Differ (Name w a s) (Name x b t) = bytes_eq a b ≡ false
Differ (Name w a s) (BitAt k) = Unit {0}
Differ (Name w a s) (WordAt k) = Unit {0}
Differ (BitAt j) (Name w a s) = Unit {0}
Differ (BitAt j) (BitAt k) = j ≡ k → ⊥
Differ (BitAt j) (WordAt k) = Unit {0}
Differ (WordAt j) (Name w a s) = Unit {0}
Differ (WordAt j) (BitAt k) = Unit {0}
Differ (WordAt j) (WordAt k) = j ≡ k → ⊥

pub not_same : (x y : List ℕ) → bytes_eq x y ≡ false → bytes_eq y x ≡ false
not_same x y e = by (bytes_eq y x) refl
  where
    by : (b : Bool) → bytes_eq y x ≡ b → bytes_eq y x ≡ false
    by false f = f
    by true f = let g : y ≡ x = (bytes_eq-Decides y x).0 f in
        let z : false ≡ true = sym e ∙ same_name x y (sym g) in cc

turned : (x y : Whose) → Differ x y → Differ y x
turned (Name w a s) (Name x b t) d = not_same a b d
turned (Name w a s) (BitAt k) d = tt
turned (Name w a s) (WordAt k) d = tt
turned (BitAt j) (Name w a s) d = tt
turned (BitAt j) (BitAt k) d = λ e. d (sym e)
turned (BitAt j) (WordAt k) d = tt
turned (WordAt j) (Name w a s) d = tt
turned (WordAt j) (BitAt k) d = tt
turned (WordAt j) (WordAt k) d = λ e. d (sym e)

-- of two owners one of which may be written: they are not the same
abbrev pub Against : Whose → List Whose → Type 0
Against x [] = Unit {0}
Against x (y ∷ ys) = ((may_write x || may_write y) ≡ true → Differ x y) × Against x ys

abbrev pub AllDiffer : List Whose → Type 0
AllDiffer [] = Unit {0}
AllDiffer (w ∷ ws) = Against w ws × AllDiffer ws

against_at : (x : Whose) (ws : List Whose) (k : ℕ) → Against x ws → k < length ws
    → (may_write x || may_write (whose_at ws k)) ≡ true → Differ x (whose_at ws k)
against_at x [] k d lt = absurd (omega (arith, lt))
against_at x (y ∷ ys) zero d lt = d.0
against_at x (y ∷ ys) (suc k) d lt = against_at x ys k d.1 (omega (arith, lt))

differ_at : (ws : List Whose) (j k : ℕ) → AllDiffer ws → j < length ws → k < length ws
    → (j ≡ k → ⊥) → may_write (whose_at ws j) ≡ true → Differ (whose_at ws j) (whose_at ws k)
differ_at [] j k d lj lk ne w = absurd (omega (arith, lj))
differ_at (x ∷ ws) zero zero d lj lk ne w = absurd (ne refl)
differ_at (x ∷ ws) zero (suc k) d lj lk ne w = against_at x ws k d.0 (omega (arith, lk))
    (or_left (may_write x) (may_write (whose_at ws k)) w)
differ_at (x ∷ ws) (suc j) zero d lj lk ne w = turned x (whose_at ws j)
    (against_at x ws j d.0 (omega (arith, lj))
    (or_right (may_write x) (may_write (whose_at ws j)) w))
differ_at (x ∷ ws) (suc j) (suc k) d lj lk ne w = differ_at ws j k d.1 (omega (arith, lj))
    (omega (arith, lk)) (λ e. ne (ap suc e)) w

-- the row is none that may be written of these rooms
abbrev pub IsFree : ℕ → List Room → Spot → Type 0
IsFree n rooms q = (k v : ℕ) → k < length rooms → (room_at rooms k).written ≡ true
    → v < extent n (room_at rooms k).rows → q ≡ row_in n (room_at rooms k) v → ⊥

-- a row of a word of scratch, counted from the first one on
word_spot : ℕ → Spot
word_spot x = record { space = ScratchWord; which = 0; index = x }

pub word_row : (n free j v : ℕ) → spot_in n ScratchWord (free + j) v
    ≡ spot_in n ScratchWord free (j * n + v)
unfolding word_spot
word_row n free j v = let e : (free + j) * n + v ≡ free * n + (j * n + v) = grind arith in
    ap word_spot e

pub word_below : (n j words v : ℕ) → j < words → v < n → j * n + v < n * words
word_below n j words v lj lv =
    let h : suc j * n ≤ words * n = grind (arith, lj) in
    let e : suc j * n ≡ j * n + n = grind arith in
    let f : words * n ≡ n * words = grind arith in
    omega (arith, h, e, f, lv)

module _ (slots : Slots) (free_bit free_word : ℕ) (s : Statement)
    (placed : IsPlaced slots free_bit free_word s) where
  -- the owner is one of the statement's
  abbrev pub Stands : Whose → Type 0
  Stands (Name w a x) = (is_among (statement_names s) a ≡ true) × (slots a ≡ Some x)
      × (w ≡ true → is_among (written_names s) a ≡ true)
  Stands (BitAt k) = (j : ℕ) × (j < need_inside bits_inside s) × (k ≡ free_bit + j)
  Stands (WordAt k) = (j : ℕ) × (j < need_inside words_inside s) × (k ≡ free_word + j)

  abbrev pub AllStand : List Whose → Type 0
  AllStand [] = Unit {0}
  AllStand (w ∷ ws) = Stands w × AllStand ws

  stands_at : (ws : List Whose) (k : ℕ) → AllStand ws → k < length ws → Stands (whose_at ws k)
  stands_at [] k a lt = absurd (omega (arith, lt))
  stands_at (w ∷ ws) zero a lt = a.0
  stands_at (w ∷ ws) (suc k) a lt = stands_at ws k a.1 (omega (arith, lt))

  holds_whose : (w : Whose) → Stands w → holds_kind (place_of w).space (place_of w).kind ≡ true
  holds_whose (Name w a x) st =
      let h = placed.there a st.0 in
      let e : h.0 ≡ x = same_slot h.0 x (sym h.1 ∙ st.1) in
      subst (λ (x : Slot). holds_kind x.space x.kind ≡ true) e h.2
  holds_whose (BitAt k) st = refl
  holds_whose (WordAt k) st = refl

  bit_no : (a : List ℕ) (x : Slot) (k : ℕ) → is_among (statement_names s) a ≡ true
      → slots a ≡ Some x → Stands (BitAt k) → x.space ≡ ScratchBit → x.which ≡ k → ⊥
  bit_no a x k among at st e f = ⊎_elim
      (λ (h : x.which < free_bit). absurd (omega (arith, h, st.2, f)))
      (λ (h : free_bit + need_inside bits_inside s ≤ x.which).
      absurd (omega (arith, h, st.1, st.2, f))) (placed.bit a x among at e)

  word_no : (a : List ℕ) (x : Slot) (k : ℕ) → is_among (statement_names s) a ≡ true
      → slots a ≡ Some x → Stands (WordAt k) → x.space ≡ ScratchWord → x.which ≡ k → ⊥
  word_no a x k among at st e f = ⊎_elim
      (λ (h : x.which < free_word). absurd (omega (arith, h, st.2, f)))
      (λ (h : free_word + need_inside words_inside s ≤ x.which).
      absurd (omega (arith, h, st.1, st.2, f))) (placed.word a x among at e)

  not_one : (x y : Whose) → Stands x → Stands y → Differ x y
      → (place_of x).space ≡ (place_of y).space → (place_of x).which ≡ (place_of y).which → ⊥
  not_one (Name w a u) (Name x b t) sx sy d e f =
      let g = placed.differ a b u t sx.0 sy.0 sx.1 sy.1 e f in
      let z : false ≡ true = sym d ∙ g in cc
  not_one (Name w a u) (BitAt k) sx sy d e f = bit_no a u k sx.0 sx.1 sy e f
  not_one (Name w a u) (WordAt k) sx sy d e f = word_no a u k sx.0 sx.1 sy e f
  not_one (BitAt j) (Name w a u) sx sy d e f = bit_no a u j sy.0 sy.1 sx (sym e) (sym f)
  not_one (BitAt j) (BitAt k) sx sy d e f = d f
  not_one (BitAt j) (WordAt k) sx sy d e f = cc
  not_one (WordAt j) (Name w a u) sx sy d e f = word_no a u j sy.0 sy.1 sx (sym e) (sym f)
  not_one (WordAt j) (BitAt k) sx sy d e f = cc
  not_one (WordAt j) (WordAt k) sx sy d e f = d f

  pub apart_whose : (n : ℕ) (x y : Whose) → Stands x → Stands y → Differ x y
      → AreApart n (place_of x) (place_of y)
  apart_whose n x y sx sy d = record {
    by = λ u v lu lv e.
        (let one = one_place n (place_of x) (place_of y) u v lu lv (holds_whose x sx)
        (holds_whose y sy) e in
        not_one x y sx sy d one.space one.which);
  }

  own_whose : (w : Whose) → Stands w → may_write w ≡ true → IsOwn (place_of w).space
  own_whose (Name w a x) st e = placed.own a x (st.2 e) st.1
  own_whose (BitAt k) st e = tt
  own_whose (WordAt k) st e = tt

  module _ (ws : List Whose) (stand : AllStand ws) where
    -- the rooms' rows are the statement's
    row_of : (n : ℕ) (w : Whose) (v : ℕ) (q : Spot) → Stands w → v < extent n (room_whose w).rows
        → q ≡ row_in n (room_whose w) v → IsStatementRow slots free_bit free_word s n q
    row_of n (Name w a x) v q st lt e = let k = extent_is n x.kind in
        inl (a, x, v, st.0, st.1, omega (arith, lt, k), e)
    row_of n (BitAt k) v q st lt e = let z : v ≡ 0 = omega (arith, lt) in
        inr (inl (
          st.0,
          st.1,
          e ∙ ap (λ x. spot_in n ScratchBit x v) st.2
              ∙ ap (λ y. spot_in n ScratchBit (free_bit + st.0) y) z,
        ))
    row_of n (WordAt k) v q st lt e = inr (inr (
      st.0 * n + v,
      word_below n st.0 (need_inside words_inside s) v st.1 lt,
      e ∙ ap (λ x. spot_in n ScratchWord x v) st.2 ∙ word_row n free_word st.0 v,
    ))

    pub among : (n : ℕ) (q : Spot) → IsOwned n (rooms_whose ws) q
        → IsStatementRow slots free_bit free_word s n q
    among n q o =
        let lk = below ws o.0 o.2 in
        let e = room_at_is ws o.0 lk in
        row_of n (whose_at ws o.0) o.1 q (stands_at ws o.0 stand lk)
        (subst (λ (r : Room). o.1 < extent n r.rows) e o.3) (o.4 ∙ ap (λ r. row_in n r o.1) e)

    -- each row of a room is another
    pub rows_move : (n k u v : ℕ) → k < length (rooms_whose ws)
        → u < extent n (room_at (rooms_whose ws) k).rows
        → v < extent n (room_at (rooms_whose ws) k).rows
        → row_in n (room_at (rooms_whose ws) k) u ≡ row_in n (room_at (rooms_whose ws) k) v → u ≡ v
    rows_move n k u v lk lu lv e =
        let l = below ws k lk in
        let r = room_at_is ws k l in
        let w = whose_at ws k in
        let p = place_of w in
        let x = extent_is n p.kind in
        let hu = subst (λ (r : Room). u < extent n r.rows) r lu in
        let hv = subst (λ (r : Room). v < extent n r.rows) r lv in
        moves_in n p.space p.which p.kind (holds_whose w (stands_at ws k stand l)) u v
        (omega (arith, hu, x)) (omega (arith, hv, x))
        (sym (ap (λ r. row_in n r u) r) ∙ e ∙ ap (λ r. row_in n r v) r)

    -- what the statement does not change is none of the rows that may be written
    changed : (n : ℕ) (w : Whose) (v : ℕ) (q : Spot) → Stands w → may_write w ≡ true
        → v < extent n (room_whose w).rows → q ≡ row_in n (room_whose w) v
        → IsChanged n slots free_bit free_word s q
    changed n (Name w a x) v q st m lt e = let k = extent_is n x.kind in
        inl (a, x, v, st.2 m, st.1, omega (arith, lt, k), e)
    changed n (BitAt k) v q st m lt e = let z : v ≡ 0 = omega (arith, lt) in
        inr (inl (
          st.0,
          st.1,
          e ∙ ap (λ x. spot_in n ScratchBit x v) st.2
              ∙ ap (λ y. spot_in n ScratchBit (free_bit + st.0) y) z,
        ))
    changed n (WordAt k) v q st m lt e = inr (inr (
      st.0 * n + v,
      word_below n st.0 (need_inside words_inside s) v st.1 lt,
      e ∙ ap (λ x. spot_in n ScratchWord x v) st.2 ∙ word_row n free_word st.0 v,
    ))

    pub free_of : (n : ℕ) (q : Spot) → (IsChanged n slots free_bit free_word s q → ⊥)
        → IsFree n (rooms_whose ws) q
    free_of n q out k v lk m lt e =
        let l = below ws k lk in
        let f = room_at_is ws k l in
        out (changed n (whose_at ws k) v q (stands_at ws k stand l)
        (sym (ap (λ (r : Room). r.written) f) ∙ m)
        (subst (λ (r : Room). v < extent n r.rows) f lt) (e ∙ ap (λ r. row_in n r v) f))

    pub rooms_apart : AllDiffer ws → (n : ℕ) → RoomsApart n (rooms_whose ws)
    rooms_apart differ n = record { apart = by; own = own }
      where
        by : (j k u v : ℕ) → j < length (rooms_whose ws) → k < length (rooms_whose ws)
            → (room_at (rooms_whose ws) j).written ≡ true → (j ≡ k → ⊥)
            → u < extent n (room_at (rooms_whose ws) j).rows
            → v < extent n (room_at (rooms_whose ws) k).rows
            → row_in n (room_at (rooms_whose ws) j) u ≡ row_in n (room_at (rooms_whose ws) k) v → ⊥
        by j k u v lj lk m ne lu lv e =
            let x = whose_at ws j in
            let y = whose_at ws k in
            let ej = room_at_is ws j (below ws j lj) in
            let ek = room_at_is ws k (below ws k lk) in
            let ku = extent_is n (place_of x).kind in
            let kv = extent_is n (place_of y).kind in
            let hu = subst (λ (r : Room). u < extent n r.rows) ej lu in
            let hv = subst (λ (r : Room). v < extent n r.rows) ek lv in
            (apart_whose n x y (stands_at ws j stand (below ws j lj))
            (stands_at ws k stand (below ws k lk))
            (differ_at ws j k differ (below ws j lj) (below ws k lk) ne
            (sym (ap (λ (r : Room). r.written) ej) ∙ m))).by u v (omega (arith, hu, ku))
            (omega (arith, hv, kv))
            (sym (ap (λ r. row_in n r u) ej) ∙ e ∙ ap (λ r. row_in n r v) ek)

        own : (k : ℕ) → k < length (rooms_whose ws) → (room_at (rooms_whose ws) k).written ≡ true
            → IsOwn (room_at (rooms_whose ws) k).space
        own k lk m =
            let e = room_at_is ws k (below ws k lk) in
            subst (λ (r : Room). IsOwn r.space) (sym e)
            (own_whose (whose_at ws k) (stands_at ws k stand (below ws k lk))
            (sym (ap (λ (r : Room). r.written) e) ∙ m))
