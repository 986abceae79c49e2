-- The rows of places.
use Rattle.block_lower.proofs.Common.{◌≡◌, ℕ, zero, suc, ◌+◌, ◌-◌, ◌*◌, ◌<◌, Bool, true, false}
use Rattle.block_lower.proofs.Common.{cond, List, [], ◌∷◌, map, length, Option, Some, None, refl}
use Rattle.block_lower.proofs.Common.{sym, ap, ◌∙◌, arith, Kind, Word, Bit, width, Space, Result}
use Rattle.block_lower.proofs.Common.{Source, ScratchBit, ScratchWord, Cells, Place, Slot}
use Rattle.block_lower.proofs.Common.{sub_value, Spot, spot_in, spot_at, nth_place, Slots}
use Rattle.block_lower.proofs.Common.{holds_kind, slot_spot}
use Rattle.block_lower.specs.Inputs.{name_at}
use Rattle.block_lower.specs.Form.{kind_sub, place_of}

abbrev pub slot_or : Option Slot → Slot
slot_or None = record { space = Source; which = 0; kind = Bit }
slot_or (Some x) = x

-- the row within a value that is visited at a position
abbrev pub row_of : ℕ → Kind → ℕ
row_of p Word = p
row_of p Bit = 0

-- the position that comes after i others
abbrev pub position : Bool → ℕ → ℕ → ℕ
position down n i = cond down (n - 1 - i) i

pub position-below : (down : Bool) (n i : ℕ) → i < n → position down n i < n
position-below true n i l = omega arith
position-below false n i l = l

pub position-twice : (down : Bool) (n i : ℕ) → i < n → position down n (position down n i) ≡ i
position-twice true n i l = omega arith
position-twice false n i l = refl

pub position-once : (down : Bool) (n i j : ℕ) → i < n → j < n
    → position down n i ≡ position down n j → i ≡ j
position-once true n i j li lj e = omega (arith, e)
position-once false n i j li lj e = e

pub row-below : (n p : ℕ) (k : Kind) → p < n → row_of p k < width n k
row-below n p Word l = l
row-below n p Bit l = omega arith

-- a name's row at a position
abbrev pub named_row : ℕ → Slots → ℕ → List ℕ → Spot
named_row n slots p name = slot_spot n (slot_or (slots name)) (row_of p (slot_or (slots name)).kind)

sub-is : (n i : ℕ) (down : Bool) (k : Kind) → sub_value n i [] (kind_sub down k)
    ≡ row_of (position down n i) k
sub-is n i true Word = refl
sub-is n i false Word = refl
sub-is n i true Bit = refl
sub-is n i false Bit = refl

pub place-row : (n i : ℕ) (down : Bool) (o : Option Slot)
    → spot_at n i [] (place_of down o) ≡ slot_spot n (slot_or o)
    (row_of (position down n i) (slot_or o).kind)
place-row n i down None = refl
place-row n i down (Some x) = ap (λ v. spot_in n x.space x.which v) (sub-is n i down x.kind)

-- place k of those of names
pub nth-map : (f : List ℕ → Place) (names : List (List ℕ)) (k : ℕ) → k < length names
    → nth_place (map f names) k ≡ f (name_at names k)
nth-map f [] k l = absurd (omega arith)
nth-map f (x ∷ xs) zero l = refl
nth-map f (x ∷ xs) (suc k) l = nth-map f xs k (omega arith)

word-once : (n a b v w : ℕ) → v < n → w < n → a * n + v ≡ b * n + w → (a ≡ b) × (v ≡ w)
word-once n zero zero v w lv lw e = (refl, omega (arith, e))
word-once n zero (suc b) v w lv lw e = absurd (omega (arith, e))
word-once n (suc a) zero v w lv lw e = absurd (omega (arith, e))
word-once n (suc a) (suc b) v w lv lw e = let h = word-once n a b v w lv lw (omega (arith, e)) in
    (ap suc h.0, h.1)

-- a row lies in its space
pub spot-space : (n : ℕ) (s : Space) (w v : ℕ) → (spot_in n s w v).space ≡ s
spot-space n Result w v = refl
spot-space n Source w v = refl
spot-space n ScratchBit w v = refl
spot-space n ScratchWord w v = refl
spot-space n Cells w v = refl

-- two rows of values of one space are the same only as the same row of one place
one-space : (n : ℕ) (s : Space) (a b : ℕ) (k l : Kind) (v w : ℕ) → holds_kind s k ≡ true
    → holds_kind s l ≡ true → v < width n k → w < width n l → spot_in n s a v ≡ spot_in n s b w
    → (a ≡ b) × (v ≡ w)
one-space n Result a b k l v w hk hl lv lw e = (ap (λ (q : Spot). q.which) e, ap (λ (q : Spot). q.index) e)
one-space n Source a b k l v w hk hl lv lw e = (ap (λ (q : Spot). q.which) e, ap (λ (q : Spot). q.index) e)
one-space n ScratchBit a b Word l v w hk hl lv lw e = absurd (cc)
one-space n ScratchBit a b Bit Word v w hk hl lv lw e = absurd (cc)
one-space n ScratchBit a b Bit Bit v w hk hl lv lw e = (ap (λ (q : Spot). q.which) e, omega arith)
one-space n ScratchWord a b Bit l v w hk hl lv lw e = absurd (cc)
one-space n ScratchWord a b Word Bit v w hk hl lv lw e = absurd (cc)
one-space n ScratchWord a b Word Word v w hk hl lv lw e = word-once n a b v w lv lw
    (ap (λ (q : Spot). q.index) e)
one-space n Cells a b k l v w hk hl lv lw e = absurd (cc)

pub slots-once : (n : ℕ) (x y : Slot) (v w : ℕ) → holds_kind x.space x.kind ≡ true
    → holds_kind y.space y.kind ≡ true → v < width n x.kind → w < width n y.kind
    → slot_spot n x v ≡ slot_spot n y w → (x.space ≡ y.space) × (x.which ≡ y.which) × (v ≡ w)
slots-once n x y v w hx hy lv lw e =
    let s : x.space ≡ y.space = sym (spot-space n x.space x.which v)
    ∙ ap (λ (q : Spot). q.space) e ∙ spot-space n y.space y.which w in
    let h = one-space n x.space x.which y.which x.kind y.kind v w hx
    (ap (λ t. holds_kind t y.kind) s ∙ hy) lv lw
    (e ∙ ap (λ t. spot_in n t y.which w) (sym s)) in
    (s, h.0, h.1)
