-- The lines of an address
use Rattle.std.proofs.Common.{◌&&◌, not, nat_lt}
use Rattle.std.proofs.Common.{◌≡◌, ℕ, zero, suc, ◌+◌, ◌*◌, ◌/◌, ◌%◌, ◌<◌, Bool, true}
use Rattle.std.proofs.Common.{false, List, [], ◌∷◌, length, get_or, refl, sym, ap, ◌∙◌, arith}
use Rattle.std.proofs.Common.{subst, slice_index_or, ◌++◌, take, map, inr}
use Rattle.std.specs.List.{AllByRecursion}
use Rattle.std.proofs.lemmas.List.{take_more, length-map}
use Rattle.std.proofs.lemmas.Bool.{and_parts, ltb-true}
use Rattle.bit_rows.specs.Bits.{word_bit, bit_at, majority}
use Rattle.dram_model.specs.declared.address.Addr.{Addr}
use Rattle.dram_model.specs.declared.address.Addr.TheVariants.{B}
use Rattle.dram_model.specs.declared.address.Cell.{Cell}
use Rattle.dram_model.specs.declared.address.Cell.TheVariants.{T, Dcc, C, D}
use Rattle.dram_model.specs.declared.address.Line.{Line}
use Rattle.dram_model.specs.Column.{Column, bit, read, plain, is_cell, b_lines, lines_of}
use Rattle.dram_model.specs.Column.{sense_lines, settle_lines, is_first, is_in_range}
use Rattle.dram_model.specs.Column.{sense, settle, drive}
use Rattle.dram_model.proofs.ColumnLaws.{refresh}
use Rattle.dram_chip.specs.declared.b_group.Wire.{Wire}
use Rattle.dram_chip.specs.Rows.{place, is_kept, row_bit, column_in, HasConstants, IsWired}
use Rattle.dram_chip.specs.Rows.{Settled}
use Rattle.dram_chip.proofs.Cells.{three-took, rows-apart}

-- a line of several
abbrev pub line_at : List Line → ℕ → Line
line_at lines i = slice_index_or lines i (record { cell = T 0; inverted = false })

-- a wire of several
abbrev pub wire_at : List Wire → ℕ → Wire
wire_at wires i =
    slice_index_or wires i (record { line = record { cell = T 0; inverted = false }; row = 0 })

-- the lines of wires
abbrev pub lines_in : List Wire → List Line
lines_in wires = map (λ w. w.line) wires

pub wire-line : (wires : List Wire) (i : ℕ) → (wire_at wires i).line ≡ line_at (lines_in wires) i
wire-line [] i = refl
wire-line (w ∷ ws) zero = refl
wire-line (w ∷ ws) (suc i) = wire-line ws i

pub wired-at : (wires : List Wire) (i : ℕ) → AllByRecursion IsWired wires → i < length wires
    → IsWired (wire_at wires i)
wired-at [] i h l = absurd (omega arith)
wired-at (w ∷ ws) zero h l = h.0
wired-at (w ∷ ws) (suc i) h l = wired-at ws i h.1 (omega arith)

-- three lines stand in the order of their rows, and none is an n-wordline
pub record Three (lines : List Line) : Type 0 where
  pub whole : lines ≡ plain (line_at lines 0).cell ∷ plain (line_at lines 1).cell
      ∷ plain (line_at lines 2).cell ∷ []
  pub first : is_kept (line_at lines 0).cell ≡ true
  pub second : is_kept (line_at lines 1).cell ≡ true
  pub third : is_kept (line_at lines 2).cell ≡ true
  pub before : place (line_at lines 0).cell < place (line_at lines 1).cell
  pub after : place (line_at lines 1).cell < place (line_at lines 2).cell

-- a line of a T or DCC row
pub is_b : Line → Bool
is_b line = is_cell 0 line.cell && is_kept line.cell

-- one line, or two that may not stand first, or three that stand in the order of their rows
pub are_b : ℕ → List Line → Bool
are_b k [] = false
are_b k (a ∷ []) = is_b a
are_b k (a ∷ b ∷ []) = not (is_first (B k)) && (is_b a && is_b b)
are_b k (a ∷ b ∷ c ∷ []) = ((is_b a && is_b b) && is_b c)
    && (((not a.inverted && not b.inverted) && not c.inverted)
    && (nat_lt (place a.cell) (place b.cell) && nat_lt (place b.cell) (place c.cell)))
are_b k (a ∷ b ∷ c ∷ d ∷ more) = false

-- every entry of a table passes, by its number
all_pass : ℕ → List (List Line) → Bool
all_pass i [] = true
all_pass i (x ∷ xs) = are_b i x && all_pass (suc i) xs

passes : (xs : List (List Line)) (i k n : ℕ) → n ≡ k + i → all_pass i xs ≡ true → k < length xs
    → are_b n (slice_index_or xs k []) ≡ true
unfolding all_pass
passes [] i k n e h l = absurd (omega arith)
passes (x ∷ xs) i zero n e h l = let same : i ≡ n = omega arith in
    subst (λ m. are_b m x ≡ true) same (and_parts (are_b i x) (all_pass (suc i) xs) h).0
passes (x ∷ xs) i (suc k) n e h l = passes xs (suc i) k n (omega arith)
    (and_parts (are_b i x) (all_pass (suc i) xs) h).1 (omega arith)

table : all_pass 0 b_lines ≡ true
unfolding all_pass are_b is_b
table = refl

pub b-passes : (k : ℕ) → nat_lt k 16 ≡ true → are_b k (lines_of (B k)) ≡ true
b-passes k h = passes b_lines 0 k k (omega arith) table (ltb-true k 16 h)

fixed-cell : (rows : ℕ) (cell : Cell) → is_cell 0 cell ≡ true → is_cell rows cell ≡ true
fixed-cell rows (T k) h = h
fixed-cell rows (Dcc k) h = h
fixed-cell rows (C k) h = h
fixed-cell rows (D k) h = absurd (search arith)

b-line : (rows : ℕ) (line : Line) → is_b line ≡ true
    → (is_cell rows line.cell ≡ true) × (is_kept line.cell ≡ true)
unfolding is_b
b-line rows line h = let both = and_parts (is_cell 0 line.cell) (is_kept line.cell) h in
    (fixed-cell rows line.cell both.0, both.1)

is-false : (b : Bool) → not b ≡ true → b ≡ false
is-false true h = absurd (search arith)
is-false false h = refl

plain-line : (line : Line) → not line.inverted ≡ true → line ≡ plain line.cell
plain-line line h = ap (λ b. let l : Line = record { cell = line.cell; inverted = b } in l)
    (is-false line.inverted h)

three-of : (k : ℕ) (lines : List Line) → are_b k lines ≡ true → length lines ≡ 3 → Three lines
unfolding are_b
three-of k [] h e = absurd (omega arith)
three-of k (a ∷ []) h e = absurd (omega arith)
three-of k (a ∷ b ∷ []) h e = absurd (omega arith)
three-of k (a ∷ b ∷ c ∷ []) h e =
    let parts = and_parts ((is_b a && is_b b) && is_b c) _ h in
    let cells = and_parts (is_b a && is_b b) (is_b c) parts.0 in
    let firsts = and_parts (is_b a) (is_b b) cells.0 in
    let rest = and_parts ((not a.inverted && not b.inverted) && not c.inverted) _ parts.1 in
    let plains = and_parts (not a.inverted && not b.inverted) (not c.inverted) rest.0 in
    let two = and_parts (not a.inverted) (not b.inverted) plains.0 in
    let order = and_parts (nat_lt (place a.cell) (place b.cell)) _ rest.1 in
    record {
      whole = ap (λ x. x ∷ b ∷ c ∷ []) (plain-line a two.0)
          ∙ ap (λ x. plain a.cell ∷ x ∷ c ∷ []) (plain-line b two.1)
          ∙ ap (λ x. plain a.cell ∷ plain b.cell ∷ x ∷ []) (plain-line c plains.1);
      first = (b-line 0 a firsts.0).1;
      second = (b-line 0 b firsts.1).1;
      third = (b-line 0 c cells.1).1;
      before = ltb-true _ _ order.0;
      after = ltb-true _ _ order.1;
    }
three-of k (a ∷ b ∷ c ∷ d ∷ more) h e = absurd (omega arith)

-- a line of a B address names a row that is kept
pub kept-line : (k : ℕ) (lines : List Line) (i rows : ℕ) (d : Line) → are_b k lines ≡ true
    → i < length lines
    → (is_cell rows (get_or lines i d).cell ≡ true) × (is_kept (get_or lines i d).cell ≡ true)
unfolding are_b
kept-line k [] i rows d h l = absurd (omega arith)
kept-line k (a ∷ []) zero rows d h l = b-line rows a h
kept-line k (a ∷ []) (suc i) rows d h l = absurd (omega arith)
kept-line k (a ∷ b ∷ []) i rows d h l =
    let cells = and_parts (is_b a) (is_b b) (and_parts (not (is_first (B k))) _ h).1 in
    of-two i l cells
  where
    of-two : (i : ℕ) → i < 2 → (is_b a ≡ true) × (is_b b ≡ true)
        → (is_cell rows (get_or (a ∷ b ∷ []) i d).cell ≡ true)
        × (is_kept (get_or (a ∷ b ∷ []) i d).cell ≡ true)
    of-two zero l cells = b-line rows a cells.0
    of-two (suc zero) l cells = b-line rows b cells.1
    of-two (suc (suc i)) l cells = absurd (omega arith)
kept-line k (a ∷ b ∷ c ∷ []) i rows d h l =
    let cells = and_parts (is_b a && is_b b) (is_b c)
    (and_parts ((is_b a && is_b b) && is_b c) _ h).0 in
    of-three i l (and_parts (is_b a) (is_b b) cells.0) cells.1
  where
    of-three : (i : ℕ) → i < 3 → (is_b a ≡ true) × (is_b b ≡ true) → is_b c ≡ true
        → (is_cell rows (get_or (a ∷ b ∷ c ∷ []) i d).cell ≡ true)
        × (is_kept (get_or (a ∷ b ∷ c ∷ []) i d).cell ≡ true)
    of-three zero l two third = b-line rows a two.0
    of-three (suc zero) l two third = b-line rows b two.1
    of-three (suc (suc zero)) l two third = b-line rows c third
    of-three (suc (suc (suc i))) l two third = absurd (omega arith)
kept-line k (a ∷ b ∷ c ∷ d' ∷ more) i rows d h l = absurd (search arith)

no-pair : (b : Bool) → b ≡ true → not b ≡ true → ⊥
no-pair true e f = absurd (search arith)
no-pair false e f = absurd (search arith)

-- an activation of one line leaves the column
pub one-line : (k : ℕ) (lines : List Line) (s : Column) → are_b k lines ≡ true
    → is_first (B k) ≡ true → (length lines ≡ 3 → ⊥)
    → s ≡ settle_lines lines (sense_lines s lines) s
unfolding are_b
one-line k [] s h e m = absurd (search arith)
one-line k (a ∷ []) s h e m = sym (refresh s a)
one-line k (a ∷ b ∷ []) s h e m =
    absurd (no-pair (is_first (B k)) e (and_parts (not (is_first (B k))) _ h).0)
one-line k (a ∷ b ∷ c ∷ []) s h e m = absurd (m refl)
one-line k (a ∷ b ∷ c ∷ d ∷ more) s h e m = absurd (search arith)

-- what one line reads is what is sensed
one-read : (k : ℕ) (lines : List Line) (s : Column) → are_b k lines ≡ true
    → is_first (B k) ≡ true → (length lines ≡ 3 → ⊥)
    → read s (line_at lines 0) ≡ sense_lines s lines
unfolding are_b
one-read k [] s h e m = absurd (search arith)
one-read k (a ∷ []) s h e m = refl
one-read k (a ∷ b ∷ []) s h e m =
    absurd (no-pair (is_first (B k)) e (and_parts (not (is_first (B k))) _ h).0)
one-read k (a ∷ b ∷ c ∷ []) s h e m = absurd (m refl)
one-read k (a ∷ b ∷ c ∷ d ∷ more) s h e m = absurd (search arith)

bit-kept : (n c : ℕ) (all : List ℕ) (cell : Cell) → is_kept cell ≡ true
    → bit (column_in n all c) cell ≡ row_bit n all (place cell) c
bit-kept n c all (T k) e = rw e refl
bit-kept n c all (Dcc k) e = rw e refl
bit-kept n c all (C k) e = absurd (search arith)
bit-kept n c all (D k) e = refl

-- the bit that three lines sense
sensed-bits : (n c : ℕ) (old : List ℕ) (x y z : Cell) → is_kept x ≡ true → is_kept y ≡ true
    → is_kept z ≡ true
    → sense_lines (column_in n old c) (plain x ∷ plain y ∷ plain z ∷ [])
    ≡ majority (row_bit n old (place x) c) (row_bit n old (place y) c)
    (row_bit n old (place z) c)
sensed-bits n c old x y z ex ey ez =
    ap (λ b. majority b (bit (column_in n old c) y) (bit (column_in n old c) z))
    (bit-kept n c old x ex)
    ∙ ap (λ b. majority (row_bit n old (place x) c) b (bit (column_in n old c) z))
    (bit-kept n c old y ey)
    ∙ ap (λ b. majority (row_bit n old (place x) c) (row_bit n old (place y) c) b)
    (bit-kept n c old z ez)

three-step : (n c : ℕ) (old new : List ℕ) (lines : List Line) → Three lines → c < 64 * n
    → Settled n (n * place (line_at lines 0).cell) (n * place (line_at lines 1).cell)
    (n * place (line_at lines 2).cell) old new
    → (column_in n new c ≡ settle_lines lines (sense_lines (column_in n old c) lines)
    (column_in n old c)) × (read (column_in n new c) (line_at lines 0)
    ≡ sense_lines (column_in n old c) lines)
three-step n c old new lines three l s =
    let x : Cell = (line_at lines 0).cell in
    let y : Cell = (line_at lines 1).cell in
    let z : Cell = (line_at lines 2).cell in
    let v : Bool = majority (row_bit n old (place x) c) (row_bit n old (place y) c)
    (row_bit n old (place z) c) in
    let small : c / 64 < n = omega arith in
    let sensed : sense_lines (column_in n old c) lines ≡ v =
    ap (sense_lines (column_in n old c)) three.whole
    ∙ sensed-bits n c old x y z three.first three.second three.third in
    let took : column_in n new c ≡ settle_lines (plain x ∷ plain y ∷ plain z ∷ []) v
    (column_in n old c) =
    three-took n c old new x y z v l three.first three.second three.third
    (s.first (c / 64) (c % 64) small) (s.second (c / 64) (c % 64) small)
    (s.third (c / 64) (c % 64) small) s.others in
    let head : line_at lines 0 ≡ plain x = ap (λ ls. line_at ls 0) three.whole in (
      took ∙ ap (λ ls. settle_lines ls v (column_in n old c)) (sym three.whole)
          ∙ ap (λ b. settle_lines lines b (column_in n old c)) (sym sensed),
      ap (read (column_in n new c)) head ∙ bit-kept n c new x three.first
          ∙ s.first (c / 64) (c % 64) small ∙ sym sensed,
    )

-- an address that raises these lines as B k
pub record Raises (rows k : ℕ) (x : Addr) (raised : List Line) : Type 0 where
  pub group : x ≡ B k
  pub range : is_in_range rows x ≡ true
  pub lines : raised ≡ lines_of (B k)

lines-are : (rows k : ℕ) (x : Addr) (raised : List Line) → Raises rows k x raised
    → raised ≡ lines_of x
lines-are rows k x raised h = h.lines ∙ ap lines_of (sym h.group)

pub raised-b : (rows k : ℕ) (x : Addr) (raised : List Line) → Raises rows k x raised
    → are_b k raised ≡ true
raised-b rows k x raised h = subst (λ ls. are_b k ls ≡ true) (sym h.lines)
    (b-passes k (subst (λ a. is_in_range rows a ≡ true) h.group h.range))

-- a wire of a B address names a row that is kept
pub kept-wire : (rows k i : ℕ) (x : Addr) (wires : List Wire) → Raises rows k x (lines_in wires)
    → i < length wires → (is_cell rows (wire_at wires i).line.cell ≡ true)
    × (is_kept (wire_at wires i).line.cell ≡ true)
kept-wire rows k i x wires h l =
    let inside : i < length (lines_in wires) =
    omega (arith, length-map wires (λ (w : Wire). w.line), l) in
    subst (λ (line : Line). (is_cell rows line.cell ≡ true) × (is_kept line.cell ≡ true))
    (sym (wire-line wires i)) (kept-line k (lines_in wires) i rows
    (record { cell = T 0; inverted = false }) (raised-b rows k x (lines_in wires) h) inside)

-- the same, of lines that were looked up
settled-at : (n p q r a b c : ℕ) (old seen new : List ℕ) → seen ≡ old → p ≡ a → q ≡ b → r ≡ c
    → Settled n p q r seen new → Settled n a b c old new
settled-at n p q r a b c old seen new e f g h s = rw (sym e, sym f, sym g, sym h) s

-- the rows of three lines that are activated, and what was made of them
pub record Activated (n p q r : ℕ) (raised : List Line) (old seen new : List ℕ) : Type 0 where
  pub count : length raised ≡ 3
  pub was : seen ≡ old
  pub at_p : p ≡ n * place (line_at raised 0).cell
  pub at_q : q ≡ n * place (line_at raised 1).cell
  pub at_r : r ≡ n * place (line_at raised 2).cell
  pub settled : Settled n p q r seen new

pub three-stepped : (rows n k c p q r : ℕ) (old seen new : List ℕ) (x : Addr) (raised : List Line)
    → Raises rows k x raised → Activated n p q r raised old seen new → c < 64 * n
    → (column_in n new c ≡ settle x (sense x (column_in n old c)) (column_in n old c))
    × (read (column_in n new c) (line_at raised 0) ≡ sense x (column_in n old c))
three-stepped rows n k c p q r old seen new x raised h a l = subst (λ ls.
    (column_in n new c ≡ settle_lines ls (sense_lines (column_in n old c) ls) (column_in n old c))
    × (read (column_in n new c) (line_at raised 0) ≡ sense_lines (column_in n old c) ls))
    (lines-are rows k x raised h)
    (three-step n c old new raised (three-of k raised (raised-b rows k x raised h) a.count) l
    (settled-at n p q r _ _ _ old seen new a.was a.at_p a.at_q a.at_r a.settled))

-- an address that raises one line, or may not stand first, leaves the column
pub one-stepped : (rows k : ℕ) (x : Addr) (raised : List Line) (s : Column)
    → Raises rows k x raised → is_first x ≡ true → (length raised ≡ 3 → ⊥)
    → s ≡ settle x (sense x s) s
one-stepped rows k x raised s h first few = subst (λ ls. s ≡ settle_lines ls (sense_lines s ls) s)
    (lines-are rows k x raised h)
    (one-line k raised s (raised-b rows k x raised h)
    (subst (λ a. is_first a ≡ true) h.group first) few)

-- and one line reads what is sensed
pub one-sensed : (rows k : ℕ) (x : Addr) (raised : List Line) (s : Column)
    → Raises rows k x raised → is_first x ≡ true → (length raised ≡ 3 → ⊥)
    → read s (line_at raised 0) ≡ sense x s
one-sensed rows k x raised s h first few =
    one-read k raised s (raised-b rows k x raised h)
    (subst (λ a. is_first a ≡ true) h.group first) few
    ∙ ap (sense_lines s) (lines-are rows k x raised h)

-- three lines that an address raises
pub raised-three : (rows k : ℕ) (x : Addr) (raised : List Line) → Raises rows k x raised
    → length raised ≡ 3 → Three raised
raised-three rows k x raised h e = three-of k raised (raised-b rows k x raised h) e

-- the row of a kept cell of the first rows is before the constants
low-place : (cell : Cell) → is_cell 0 cell ≡ true → is_kept cell ≡ true → place cell < 6
low-place (T k) h e = omega (arith, ltb-true k 4 e)
low-place (Dcc k) h e = omega (arith, ltb-true k 2 e)
low-place (C k) h e = absurd (search arith)
low-place (D k) h e = absurd (search arith)

-- the third of three lines is no data row
third-fixed : (k : ℕ) (lines : List Line) → are_b k lines ≡ true → length lines ≡ 3
    → place (line_at lines 2).cell < 6
unfolding are_b is_b
third-fixed k [] h e = absurd (omega arith)
third-fixed k (a ∷ []) h e = absurd (omega arith)
third-fixed k (a ∷ b ∷ []) h e = absurd (omega arith)
third-fixed k (a ∷ b ∷ c ∷ []) h e =
    let cells = and_parts (is_b a && is_b b) (is_b c)
    (and_parts ((is_b a && is_b b) && is_b c) _ h).0 in
    let both = and_parts (is_cell 0 c.cell) (is_kept c.cell) cells.1 in
    low-place c.cell both.0 both.1
third-fixed k (a ∷ b ∷ c ∷ d ∷ more) h e = absurd (omega arith)

pub third-low : (rows k : ℕ) (x : Addr) (raised : List Line) → Raises rows k x raised
    → length raised ≡ 3 → place (line_at raised 2).cell < 6
third-low rows k x raised h e = third-fixed k raised (raised-b rows k x raised h) e

-- the constants stay where rows before them took what three lines sensed
pub three-constants : (n p q r : ℕ) (raised : List Line) (old seen new : List ℕ) → Three raised
    → place (line_at raised 2).cell < 6 → Activated n p q r raised old seen new
    → HasConstants n old → HasConstants n new
three-constants n p q r raised old seen new three low a h = λ k c small l.
    let i : ℕ = n * (6 + k) + c / 64 in
    let word : c / 64 < n = omega arith in
    let z : ℕ = place (line_at raised 2).cell in
    let apart = rows-apart n z (6 + k) (omega (arith, low)) in
    let first = rows-apart n (place (line_at raised 0).cell) z (omega (arith, three.before, three.after)) in
    let second = rows-apart n (place (line_at raised 1).cell) z three.after in
    ap (λ w. bit_at w (c % 64)) (a.settled.others i
    (inr (omega (arith, apart, first, a.at_p))) (inr (omega (arith, apart, second, a.at_q)))
    (inr (omega (arith, apart, a.at_r)))) ∙ ap (λ xs. word_bit xs i (c % 64)) a.was ∙ h k c small l

-- one more line
settle-more : (xs : List Line) (line : Line) (v : Bool) (s : Column)
    → settle_lines (xs ++ line ∷ []) v s ≡ drive line v (settle_lines xs v s)
settle-more [] line v s = refl
settle-more (x ∷ xs) line v s = settle-more xs line v (drive x v s)

-- one more line, in a loop
pub settle-step : (xs : List Line) (i : ℕ) (d : Line) (v w : Bool) (s t u : Column) → i < length xs
    → t ≡ settle_lines (take i xs) v s → w ≡ v → u ≡ drive (get_or xs i d) w t
    → u ≡ settle_lines (take (i + 1) xs) v s
settle-step xs i d v w s t u l e f g = rw (take_more xs i d l, settle-more) (g
    ∙ ap (drive (get_or xs i d) w) e ∙ ap (λ b. drive (get_or xs i d) b
    (settle_lines (take i xs) v s)) f)
