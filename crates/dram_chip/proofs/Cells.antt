-- Rows that stand one after another, and the columns that they make
use Rattle.std.proofs.Common.{◌≡◌, ℕ, zero, suc, ◌+◌, ◌*◌, ◌/◌, ◌%◌, ◌<◌, ◌≤◌, ◌==◌, ◌&&◌}
use Rattle.std.proofs.Common.{Bool, true, false, not, List, [], ◌∷◌, length, get_or}
use Rattle.std.proofs.Common.{refl, sym, ap, ◌∙◌, arith, inl, inr, subst, replicate}
use Rattle.std.proofs.Math.Nat.{mul-le-mul_left}
use Rattle.std.proofs.lemmas.Bool.{cases_lt, cases_Bool}
use Rattle.std.proofs.lemmas.Bool.Decides.{nat_tests}
use Rattle.std.proofs.lemmas.List.{get_or-replicate, get_or_past, length-replicate}
use Rattle.std.proofs.lemmas.Nat.Bits.{bit_at-zero}
use Rattle.bit_rows.proofs.Words.{words-at}
use mathlib.Core.Path.{fun_ext}
use mathlib.Core.Logic.{◌⊎◌}
use Rattle.bit_rows.specs.Bits.{bit_at, word_bit, bit_in, bits_of_words, flip_if}
use Rattle.dram_model.specs.declared.address.Cell.{Cell}
use Rattle.dram_model.specs.declared.address.Cell.TheVariants.{T, Dcc, C, D}
use Rattle.dram_model.specs.declared.address.Line.{Line}
use Rattle.dram_model.specs.Column.{Column, is_written, is_cell, drive, read, bit, plain}
use Rattle.dram_model.specs.Column.{settle_lines, blank}
use mathlib.Core.Bool.{beq}
use Rattle.std.specs.Vec.{with_items}
use Rattle.std.proofs.lemmas.List.{with_items_is}
use Rattle.dram_chip.specs.declared.bank.Bank.{Bank}
use Rattle.dram_chip.specs.Rows.{place, is_kept, row_bit, column_in, column_at, HasConstants}
use Rattle.dram_chip.specs.Rows.{IsReady}

-- the row of one place ends before that of another begins
pub rows-apart : (n p q : ℕ) → p < q → n * p + n ≤ n * q
rows-apart n p q l = let more : n * suc p ≤ n * q =
    mul-le-mul_left n (omega arith) in omega (arith, more)

-- a word of another row
abbrev pub Outside : ℕ → ℕ → ℕ → Type 0
Outside n p k = (k < n * p) ⊎ (n * p + n ≤ k)

pub word-outside : (n p q i : ℕ) → (p ≡ q → ⊥) → i < n → Outside n p (n * q + i)
word-outside n p q i h l = elim (cases_lt q p) [
  | inl b ↦ inl (omega (arith, rows-apart n q p b))
  | inr b ↦ inr (omega (arith, rows-apart n p q (omega arith)))
]

-- two kept cells are one, or neither is written with the other and their rows differ
same-cell : (a b : Cell) → is_written a b ≡ true → a ≡ b
same-cell (T j) (T k) e = grind (arith, nat_tests)
same-cell (Dcc j) (Dcc k) e = grind (arith, nat_tests)
same-cell (D j) (D k) e = grind (arith, nat_tests)
same-cell (T j) (Dcc k) e = absurd (search arith)
same-cell (T j) (C k) e = absurd (search arith)
same-cell (T j) (D k) e = absurd (search arith)
same-cell (Dcc j) (T k) e = absurd (search arith)
same-cell (Dcc j) (C k) e = absurd (search arith)
same-cell (Dcc j) (D k) e = absurd (search arith)
same-cell (C j) b e = absurd (search arith)
same-cell (D j) (T k) e = absurd (search arith)
same-cell (D j) (Dcc k) e = absurd (search arith)
same-cell (D j) (C k) e = absurd (search arith)

other-place : (a b : Cell) → is_kept a ≡ true → is_kept b ≡ true → is_written a b ≡ false
    → place a ≡ place b → ⊥
other-place (T j) (T k) a b e f = grind (arith, nat_tests)
other-place (T j) (Dcc k) a b e f = grind (arith, nat_tests)
other-place (T j) (D k) a b e f = grind (arith, nat_tests)
other-place (Dcc j) (T k) a b e f = grind (arith, nat_tests)
other-place (Dcc j) (Dcc k) a b e f = grind (arith, nat_tests)
other-place (Dcc j) (D k) a b e f = grind (arith, nat_tests)
other-place (D j) (T k) a b e f = grind (arith, nat_tests)
other-place (D j) (Dcc k) a b e f = grind (arith, nat_tests)
other-place (D j) (D k) a b e f = grind (arith, nat_tests)
other-place (T j) (C k) a b e f = absurd (search arith)
other-place (Dcc j) (C k) a b e f = absurd (search arith)
other-place (D j) (C k) a b e f = absurd (search arith)
other-place (C j) b' a b e f = absurd (search arith)

-- the word of a column lies in its row
pub column-word : (n c : ℕ) → c < 64 * n → c / 64 < n
column-word n c l = omega arith

-- a bit of a cell that another write leaves
pub stays : (n c : ℕ) (old new : List ℕ) (a cell : Cell) → c < 64 * n → is_kept a ≡ true
    → is_written a cell ≡ false
    → (is_kept cell ≡ true → get_or new (n * place cell + c / 64) 0
    ≡ get_or old (n * place cell + c / 64) 0) → column_in n new c cell ≡ column_in n old c cell
stays n c old new a cell l e f h = elim (cases_Bool (is_kept cell)) [
  | inl k ↦ rw k (ap (λ w. bit_at w (c % 64)) (h k))
  | inr k ↦ rw k refl
]

-- a line that took v
pub took : (n c : ℕ) (old new : List ℕ) (line : Line) (v : Bool) → c < 64 * n
    → is_kept line.cell ≡ true → row_bit n new (place line.cell) c ≡ flip_if line.inverted v
    → ((k : ℕ) → Outside n (place line.cell) k → get_or new k 0 ≡ get_or old k 0)
    → column_in n new c ≡ drive line v (column_in n old c)
took n c old new line v l kept e others = fun_ext (λ cell.
    elim (cases_Bool (is_written line.cell cell)) [
      | inl w ↦ (let same : line.cell ≡ cell = same-cell line.cell cell w in
          rw w (subst (λ x. (is_kept x && row_bit n new (place x) c) ≡ flip_if line.inverted v) same
          (rw kept e)))
      | inr w ↦ rw w (stays n c old new line.cell cell l kept w (λ k.
          others _ (word-outside n (place line.cell) (place cell) (c / 64)
          (other-place line.cell cell kept k w) (column-word n c l))))
    ])

-- three cells that took v
pub three-took : (n c : ℕ) (old new : List ℕ) (x y z : Cell) (v : Bool) → c < 64 * n
    → is_kept x ≡ true → is_kept y ≡ true → is_kept z ≡ true
    → row_bit n new (place x) c ≡ v → row_bit n new (place y) c ≡ v → row_bit n new (place z) c ≡ v
    → ((k : ℕ) → Outside n (place x) k → Outside n (place y) k → Outside n (place z) k
    → get_or new k 0 ≡ get_or old k 0)
    → column_in n new c ≡ settle_lines (plain x ∷ plain y ∷ plain z ∷ []) v (column_in n old c)
three-took n c old new x y z v l kx ky kz ex ey ez others =
    fun_ext (λ cell. elim (cases_Bool (is_written z cell)) [
      | inl w ↦ rw w (subst (λ s. (is_kept s && row_bit n new (place s) c) ≡ v) (same-cell z cell w)
          (rw kz ez))
      | inr wz ↦ rw wz (elim (cases_Bool (is_written y cell)) [
        | inl w ↦ rw w (subst (λ s. (is_kept s && row_bit n new (place s) c) ≡ v)
            (same-cell y cell w) (rw ky ey))
        | inr wy ↦ rw wy (elim (cases_Bool (is_written x cell)) [
          | inl w ↦ rw w (subst (λ s. (is_kept s && row_bit n new (place s) c) ≡ v)
              (same-cell x cell w) (rw kx ex))
          | inr wx ↦ rw wx (stays n c old new x cell l kx wx (λ k. others _
              (word-outside n (place x) (place cell) (c / 64) (other-place x cell kx k wx)
              (column-word n c l))
              (word-outside n (place y) (place cell) (c / 64) (other-place y cell ky k wy)
              (column-word n c l))
              (word-outside n (place z) (place cell) (c / 64) (other-place z cell kz k wz)
              (column-word n c l))))
        ])
      ])
    ])

-- what a cell gives
pub bit-is : (n rows c : ℕ) (all : List ℕ) (cell : Cell) → HasConstants n all
    → is_cell rows cell ≡ true → c < 64 * n → bit (column_in n all c) cell
    ≡ row_bit n all (place cell) c
bit-is n rows c all (T k) h e l = rw e refl
bit-is n rows c all (Dcc k) h e l = rw e refl
bit-is n rows c all (C k) h e l = sym (h k c (grind (arith, nat_tests)) l)
bit-is n rows c all (D k) h e l = refl

-- the constants are no kept rows
not-constant : (cell : Cell) (k : ℕ) → is_kept cell ≡ true → k < 2 → place cell ≡ 6 + k → ⊥
not-constant (T j) k e l f = grind (arith, nat_tests)
not-constant (Dcc j) k e l f = grind (arith, nat_tests)
not-constant (C j) k e l f = absurd (search arith)
not-constant (D j) k e l f = grind (arith, nat_tests)

pub constants-stay : (n : ℕ) (old new : List ℕ) (cell : Cell) → is_kept cell ≡ true
    → HasConstants n old → ((k : ℕ) → Outside n (place cell) k → get_or new k 0 ≡ get_or old k 0)
    → HasConstants n new
constants-stay n old new cell e h others = λ k c l m.
    ap (λ w. bit_at w (c % 64)) (others (n * (6 + k) + c / 64) (word-outside n (place cell) (6 + k)
    (c / 64) (not-constant cell k e l) (column-word n c m))) ∙ h k c l m

reads-cell : (cell : Cell) (inverted v : Bool) (s : Column) → is_kept cell ≡ true
    → read (drive (record { cell = cell; inverted = inverted }) v s) (record {
      cell =
          cell;
      inverted = inverted;
    }) ≡ v
reads-cell (T k) true true s e = grind (arith, nat_tests)
reads-cell (T k) true false s e = grind (arith, nat_tests)
reads-cell (T k) false v s e = grind (arith, nat_tests)
reads-cell (Dcc k) true true s e = grind (arith, nat_tests)
reads-cell (Dcc k) true false s e = grind (arith, nat_tests)
reads-cell (Dcc k) false v s e = grind (arith, nat_tests)
reads-cell (C k) i v s e = absurd (search arith)
reads-cell (D k) true true s e = grind (arith, nat_tests)
reads-cell (D k) true false s e = grind (arith, nat_tests)
reads-cell (D k) false v s e = grind (arith, nat_tests)

-- a line that has taken v reads v
pub reads-again : (line : Line) (v : Bool) (s : Column) → is_kept line.cell ≡ true
    → read (drive line v s) line ≡ v
reads-again line v s e = reads-cell line.cell line.inverted v s e

-- a bank with other words
pub items-are : (bank : Bank) (new : List ℕ) → length new ≡ length bank.all.items
    → (with_items bank.all new).items ≡ new
items-are bank new e = with_items_is bank.all new (e ∙ sym bank.all.ok.0)

pub ready-with : (bank : Bank) (new : List ℕ) → IsReady bank → length new ≡ length bank.all.items
    → HasConstants bank.words new → IsReady (record {
      rows = bank.rows;
      words = bank.words;
      all =
          with_items bank.all new;
    })
ready-with bank new ready e h = record {
  size = ap length (items-are bank new e) ∙ e ∙ ready.size;
  constant = subst (HasConstants bank.words) (sym (items-are bank new e)) h;
}

pub column-with : (bank : Bank) (new : List ℕ) (c : ℕ) → length new ≡ length bank.all.items
    → column_at (record { rows = bank.rows; words = bank.words; all = with_items bank.all new }) c
    ≡ column_in bank.words new c
column-with bank new c e = ap (λ xs. column_in bank.words xs c) (items-are bank new e)

-- one row moved
pub ends-apart : (n p q x y : ℕ) → x ≡ n * p → y ≡ n * q → (x ≡ y) ⊎ ((x + n ≤ y) ⊎ (y + n ≤ x))
ends-apart n p q x y e f = elim (cases_lt p q) [
  | inl l ↦ inr (inl (omega (arith, rows-apart n p q l)))
  | inr l ↦ elim (cases_lt q p) [
    | inl m ↦ inr (inr (omega (arith, rows-apart n q p m)))
    | inr m ↦ (let same : p ≡ q = omega arith in inl (e ∙ ap (λ k. n * k) same ∙ sym f))
  ]
]

both-flips : (i j b : Bool) → flip_if (not (beq i j)) b ≡ flip_if i (flip_if j b)
both-flips true true true = refl
both-flips true true false = refl
both-flips true false b = refl
both-flips false true b = refl
both-flips false false b = refl

outside-of : (n p to : ℕ) (old seen new : List ℕ) → seen ≡ old → to ≡ n * p
    → ((k : ℕ) → k < to → get_or new k 0 ≡ get_or seen k 0)
    → ((k : ℕ) → to + n ≤ k → get_or new k 0 ≡ get_or seen k 0)
    → (k : ℕ) → Outside n p k → get_or new k 0 ≡ get_or old k 0
outside-of n p to old seen new e t below above k (inl h) = below k (omega arith)
    ∙ ap (λ xs. get_or xs k 0) e
outside-of n p to old seen new e t below above k (inr h) = above k (omega arith)
    ∙ ap (λ xs. get_or xs k 0) e

pub drove : (n rows c from to : ℕ) (old seen new : List ℕ) (line src : Line) → seen ≡ old
    → HasConstants n old → is_cell rows src.cell ≡ true → is_kept line.cell ≡ true → c < 64 * n
    → from ≡ n * place src.cell → to ≡ n * place line.cell → word_bit new (to + c / 64) (c % 64)
    ≡ flip_if (not (beq line.inverted src.inverted)) (word_bit seen (from + c / 64) (c % 64))
    → ((k : ℕ) → k < to → get_or new k 0 ≡ get_or seen k 0)
    → ((k : ℕ) → to + n ≤ k → get_or new k 0 ≡ get_or seen k 0)
    → column_in n new c ≡ drive line (read (column_in n old c) src) (column_in n old c)
drove n rows c from to old seen new line src e h cell kept l f t moved below above =
    took n c old new line (read (column_in n old c) src) l kept
    (ap (λ k. word_bit new (k + c / 64) (c % 64)) (sym t) ∙ moved
    ∙ ap (λ xs. flip_if (not (beq line.inverted src.inverted))
    (word_bit xs (from + c / 64) (c % 64))) e
    ∙ ap (λ k. flip_if (not (beq line.inverted src.inverted)) (word_bit old (k + c / 64) (c % 64)))
    f ∙ both-flips line.inverted src.inverted (row_bit n old (place src.cell) c)
    ∙ ap (λ b. flip_if line.inverted (flip_if src.inverted b))
    (sym (bit-is n rows c old src.cell h cell l)))
    (outside-of n (place line.cell) to old seen new e t below above)

pub drove-constants : (n to : ℕ) (old seen new : List ℕ) (cell : Cell) → seen ≡ old
    → HasConstants n old → is_kept cell ≡ true → to ≡ n * place cell
    → ((k : ℕ) → k < to → get_or new k 0 ≡ get_or seen k 0)
    → ((k : ℕ) → to + n ≤ k → get_or new k 0 ≡ get_or seen k 0) → HasConstants n new
drove-constants n to old seen new cell e h kept t below above =
    constants-stay n old new cell kept h (outside-of n (place cell) to old seen new e t below above)

-- a column of a list of words
pub bit-of-words : (words : List ℕ) (c : ℕ) → c < 64 * length words
    → bit_in (bits_of_words words) c ≡ word_bit words (c / 64) (c % 64)
bit-of-words words c l =
    let at : 64 * (c / 64) + c % 64 ≡ c = omega arith in
    sym (ap (bit_in (bits_of_words words)) at) ∙ words-at words (c / 64) (c % 64) (omega arith)
    (omega arith)

-- a data row that was set
pub set-row : (n row c to : ℕ) (old seen new words : List ℕ) → seen ≡ old → length words ≡ n
    → c < 64 * n → to ≡ n * (8 + row) → ((q r : ℕ) → q < length words
    → word_bit new (to + q) r ≡ word_bit words q r)
    → ((k : ℕ) → k < to → get_or new k 0 ≡ get_or seen k 0) → ((k : ℕ) → to + length words ≤ k
    → get_or new k 0 ≡ get_or seen k 0)
    → column_in n new c ≡ drive (plain (D row)) (bit_in (bits_of_words words) c) (column_in n old c)
set-row n row c to old seen new words e m l t set below above =
    took n c old new (plain (D row)) (bit_in (bits_of_words words) c) l refl
    (ap (λ k. word_bit new (k + c / 64) (c % 64)) (sym t) ∙ set (c / 64) (c % 64) (omega arith)
    ∙ sym (bit-of-words words c (omega arith)))
    (outside-of n (8 + row) to old seen new e t below (λ k h. above k (omega arith)))

pub set-constants : (n row to : ℕ) (old seen new words : List ℕ) → seen ≡ old → length words ≡ n
    → HasConstants n old → to ≡ n * (8 + row)
    → ((k : ℕ) → k < to → get_or new k 0 ≡ get_or seen k 0) → ((k : ℕ) → to + length words ≤ k
    → get_or new k 0 ≡ get_or seen k 0) → HasConstants n new
set-constants n row to old seen new words e m h t below above =
    constants-stay n old new (D row) refl h (outside-of n (8 + row) to old seen new e t below
    (λ k g. above k (omega arith)))

-- a data row that was got
pub got-row : (n row c from : ℕ) (all seen words : List ℕ) → seen ≡ all → length words ≡ n
    → c < 64 * n → from ≡ n * (8 + row) → ((q r : ℕ) → q < length words
    → word_bit words q r ≡ word_bit seen (from + q) r)
    → row_bit n all (8 + row) c ≡ bit_in (bits_of_words words) c
got-row n row c from all seen words e m l t got =
    ap (λ k. word_bit all (k + c / 64) (c % 64)) (sym t)
    ∙ ap (λ xs. word_bit xs (from + c / 64) (c % 64)) (sym e)
    ∙ sym (got (c / 64) (c % 64) (omega arith)) ∙ sym (bit-of-words words c (omega arith))

-- a bank of zeros, with ones in the row of C1
zero-bit : (k : ℕ) → bit_at 0 k ≡ false
zero-bit k = ap (λ n. n == 1) (bit_at-zero k)

zero-word : (m j : ℕ) → ◌≡◌ {A = ℕ} (get_or (replicate m 0) j 0) 0
zero-word m j = elim (cases_lt j m) [
  | inl l ↦ get_or-replicate m j 0 0 l
  | inr h ↦ get_or_past
      (replicate m 0) j 0 (omega (arith, length-replicate {A = ℕ} m 0, h))
]

pub zero-row : (n m p c : ℕ) (new : List ℕ) → (p ≡ 7 → ⊥) → c < 64 * n
    → ((k : ℕ) → Outside n 7 k → get_or new k 0 ≡ get_or (replicate m 0) k 0)
    → row_bit n new p c ≡ false
zero-row n m p c new h l others =
    ap (λ w. bit_at w (c % 64)) (others (n * p + c / 64) (word-outside n 7 p (c / 64) (λ e.
    h (sym e)) (column-word n c l)) ∙ zero-word m (n * p + c / 64)) ∙ zero-bit (c % 64)

not-seven : (cell : Cell) → is_kept cell ≡ true → place cell ≡ 7 → ⊥
not-seven (T k) e f = grind (arith, nat_tests)
not-seven (Dcc k) e f = grind (arith, nat_tests)
not-seven (C k) e f = absurd (search arith)
not-seven (D k) e f = grind (arith, nat_tests)

pub blank-column : (n m c : ℕ) (new : List ℕ) → c < 64 * n
    → ((k : ℕ) → Outside n 7 k → get_or new k 0 ≡ get_or (replicate m 0) k 0)
    → column_in n new c ≡ blank
blank-column n m c new l others = fun_ext (λ cell. elim (cases_Bool (is_kept cell)) [
  | inl k ↦ rw k (zero-row n m (place cell) c new (not-seven cell k) l others)
  | inr k ↦ rw k refl
])

pub first-constants : (n m : ℕ) (new : List ℕ) → ((k : ℕ) → Outside n 7 k
    → get_or new k 0 ≡ get_or (replicate m 0) k 0)
    → ((q r : ℕ) → q < n → r < 64 → word_bit new (7 * n + q) r ≡ true) → HasConstants n new
first-constants n m new others ones zero c l h = zero-row n m 6 c new (λ e. omega arith) h others
first-constants n m new others ones (suc zero) c l h = let at : n * 7 + c / 64 ≡ 7 * n + c / 64 =
    omega arith in ap (λ k. word_bit new k (c % 64)) at
    ∙ ones (c / 64) (c % 64) (omega arith) (omega arith)
first-constants n m new others ones (suc (suc k)) c l h = absurd (omega arith)

-- the words that `set_ones` leaves
pub off-ones : (n m : ℕ) (seen new : List ℕ) → seen ≡ replicate m 0
    → ((k : ℕ) → k < 7 * n → get_or new k 0 ≡ get_or seen k 0)
    → ((k : ℕ) → 7 * n + n ≤ k → get_or new k 0 ≡ get_or seen k 0)
    → (k : ℕ) → Outside n 7 k → get_or new k 0 ≡ get_or (replicate m 0) k 0
off-ones n m seen new e below above k (inl h) = below k (omega arith) ∙ ap (λ xs. get_or xs k 0) e
off-ones n m seen new e below above k (inr h) = above k (omega arith) ∙ ap (λ xs. get_or xs k 0) e
