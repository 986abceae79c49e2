-- Banks in a list, and the columns of one
use Rattle.std.proofs.Common.{◌≡◌, ℕ, zero, suc, ◌+◌, ◌*◌, ◌<◌, ◌≤◌, ◌==◌, Bool, List, [], ◌∷◌}
use Rattle.std.proofs.Common.{◌++◌, map, length, set, if◌then◌else◌, get_or, replicate, refl, sym}
use Rattle.std.proofs.Common.{ap, ◌∙◌, arith, inl, inr}
use Rattle.std.specs.List.{range_with_len}
use Rattle.std.proofs.lemmas.Bool.{cases_lt, lt-ltb, le-ltb}
use Rattle.std.proofs.lemmas.Bool.Decides.{eqb_tells}
use mathlib.Core.Path.{fun_ext}
use Rattle.std.proofs.Common.{subst}
use Rattle.std.proofs.lemmas.List.Elements.{All-get_or}
use Rattle.dram_chip.specs.declared.bank.Bank.{Bank}
use Rattle.dram_model.specs.declared.geometry.Geometry.{Geometry}
use Rattle.bit_rows.specs.Bits.{bit_in}
use Rattle.dram_model.specs.declared.address.Cell.TheVariants.{D}
use Rattle.dram_model.specs.Column.{Column, blank, drive, plain}
use Rattle.dram_model.specs.Chip.{blank_banks, with_row, row_in}
use Rattle.dram_chip.specs.Rows.{column_at, columns_of}
use Rattle.dram_chip.specs.ChipRows.{columns_in, banks_in, Fits, HasBanks}

-- the same of each number of a range
map-range-same : {A : Type 0} (f : ℕ → A) (v : A) (a n : ℕ) → ((k : ℕ) → k < a + n → f k ≡ v)
    → map f (range_with_len a n) ≡ replicate n v
map-range-same f v a zero h = refl
map-range-same f v a (suc n) h = ap (λ x. x ∷ map f (range_with_len (a + 1) n)) (h a (omega arith))
    ∙ ap (λ xs. v ∷ xs) (map-range-same f v (a + 1) n (λ k l. h k (omega arith)))

map-range-step : {A : Type 0} (f g : ℕ → A) (s : A → A) (a n : ℕ)
    → ((k : ℕ) → k < a + n → f k ≡ s (g k)) → map f (range_with_len a n)
    ≡ map s (map g (range_with_len a n))
map-range-step f g s a zero h = refl
map-range-step f g s a (suc n) h = ap (λ x. x ∷ map f (range_with_len (a + 1) n))
    (h a (omega arith)) ∙ ap (λ xs. s (g a) ∷ xs) (map-range-step f g s (a + 1) n (λ k l.
    h k (omega arith)))

-- a bank whose columns have each taken a step
pub columns-step : (old new : Bank) (s : Column → Column) → columns_of new ≡ columns_of old
    → ((c : ℕ) → c < columns_of old → column_at new c ≡ s (column_at old c))
    → columns_in new ≡ map s (columns_in old)
columns-step old new s e h =
    ap (λ n. map (column_at new) (range_with_len 0 n)) e
    ∙ map-range-step (column_at new) (column_at old) s 0 (columns_of old) (λ k l. h k (omega arith))

-- a bank of zeros
pub columns-blank : (bank : Bank) (n : ℕ) → columns_of bank ≡ n
    → ((c : ℕ) → c < n → column_at bank c ≡ blank) → columns_in bank ≡ replicate n blank
columns-blank bank n e h = ap (λ m. map (column_at bank) (range_with_len 0 m)) e
    ∙ map-range-same (column_at bank) blank 0 n (λ k l. h k (omega arith))

-- a bank in place of another
banks-at : (banks : List Bank) (i : ℕ) (d : Bank) → i < length banks
    → banks_in banks i ≡ columns_in (get_or banks i d)
banks-at [] i d l = absurd (omega arith)
banks-at (x ∷ xs) zero d l = refl
banks-at (x ∷ xs) (suc i) d l = banks-at xs i d (omega arith)

banks-set-here : (banks : List Bank) (i : ℕ) (new : Bank) → i < length banks
    → banks_in (set banks i new) i ≡ columns_in new
banks-set-here [] i new l = absurd (omega arith)
banks-set-here (x ∷ xs) zero new l = refl
banks-set-here (x ∷ xs) (suc i) new l = banks-set-here xs i new (omega arith)

banks-set-there : (banks : List Bank) (i b : ℕ) (new : Bank) → (i ≡ b → ⊥)
    → banks_in (set banks i new) b ≡ banks_in banks b
banks-set-there [] i b new h = refl
banks-set-there (x ∷ xs) zero zero new h = absurd (h refl)
banks-set-there (x ∷ xs) zero (suc b) new h = refl
banks-set-there (x ∷ xs) (suc i) zero new h = refl
banks-set-there (x ∷ xs) (suc i) (suc b) new h = banks-set-there xs i b new (λ e. h (ap suc e))

-- one bank took a step, and the others stay
pub banks-step : (banks : List Bank) (i : ℕ) (new d : Bank) (f : List Column → List Column)
    → i < length banks → columns_in new ≡ f (columns_in (get_or banks i d))
    → banks_in (set banks i new) ≡ (λ b. if i == b then f (banks_in banks b) else banks_in banks b)
banks-step banks i new d f l e = fun_ext (λ b. elim (eqb_tells i b) [
  | inl h ↦ rw h.0 (ap (banks_in (set banks i new)) (sym h.1) ∙ banks-set-here banks i new l ∙ e
      ∙ ap f (sym (banks-at banks i d l)) ∙ ap (λ k. f (banks_in banks k)) h.1)
  | inr h ↦ rw h.0 (banks-set-there banks i b new h.1)
])

-- one more bank
banks-past : (banks : List Bank) (b : ℕ) → length banks ≤ b → banks_in banks b ≡ []
banks-past [] b l = refl
banks-past (x ∷ xs) zero l = absurd (omega arith)
banks-past (x ∷ xs) (suc b) l = banks-past xs b (omega arith)

pub banks-front : (banks : List Bank) (bank : Bank) (b : ℕ) → b < length banks
    → banks_in (banks ++ bank ∷ []) b ≡ banks_in banks b
banks-front [] bank b l = absurd (omega arith)
banks-front (x ∷ xs) bank zero l = refl
banks-front (x ∷ xs) bank (suc b) l = banks-front xs bank b (omega arith)

pub banks-last : (banks : List Bank) (bank : Bank) (b : ℕ) → b ≡ length banks
    → banks_in (banks ++ bank ∷ []) b ≡ columns_in bank
banks-last [] bank zero l = refl
banks-last [] bank (suc b) l = absurd (omega arith)
banks-last (x ∷ xs) bank zero l = absurd (omega arith)
banks-last (x ∷ xs) bank (suc b) l = banks-last xs bank b (omega arith)

-- a list of banks of zeros
pub banks-blank : (g : Geometry) (banks : List Bank) → length banks ≡ g.banks
    → ((b : ℕ) → b < g.banks → banks_in banks b ≡ replicate (64 * g.words) blank)
    → banks_in banks ≡ blank_banks g
banks-blank g banks e h = fun_ext (λ b. elim (cases_lt b g.banks) [
  | inl l ↦ rw (lt-ltb b g.banks l) (h b l)
  | inr l ↦ rw (le-ltb b g.banks l) (banks-past banks b (omega arith))
])

-- a row that the host wrote
with-row-range : (row : ℕ) (bits : List Bool) (f g : ℕ → Column) (a : ℕ)
    → ((k j : ℕ) → j ≡ a + k → k < length bits → f j ≡ drive (plain (D row)) (bit_in bits k) (g j))
    → map f (range_with_len a (length bits)) ≡ with_row row bits
    (map g (range_with_len a (length bits)))
with-row-range row [] f g a h = refl
with-row-range row (b ∷ bs) f g a h =
    ap (λ x. x ∷ map f (range_with_len (a + 1) (length bs))) (h 0 a (omega arith) (omega arith))
    ∙ ap (λ xs. drive (plain (D row)) b (g a) ∷ xs) (with-row-range row bs f g (a + 1) (λ k j e l.
    h (suc k) j (omega arith) (omega arith)))

pub columns-write : (old new : Bank) (row : ℕ) (bits : List Bool) → length bits ≡ columns_of old
    → columns_of new ≡ columns_of old
    → ((c : ℕ) → c < columns_of old → column_at new c ≡ drive (plain (D row)) (bit_in bits c)
    (column_at old c)) → columns_in new ≡ with_row row bits (columns_in old)
columns-write old new row bits m e h =
    ap (λ n. map (column_at new) (range_with_len 0 n)) (e ∙ sym m)
    ∙ with-row-range row bits (column_at new) (column_at old) 0 (λ k j a l. let same : j ≡ k =
    omega arith in rw same (h k (omega arith)))
    ∙ ap (λ n. with_row row bits (map (column_at old) (range_with_len 0 n))) m

-- a row that the host reads
row-again : (xs : List Bool) (row : ℕ) (f : ℕ → Column) (a : ℕ)
    → ((k j : ℕ) → j ≡ a + k → k < length xs → f j (D row) ≡ bit_in xs k)
    → row_in row (map f (range_with_len a (length xs))) ≡ xs
row-again [] row f a h = refl
row-again (x ∷ xs) row f a h =
    ap (λ b. b ∷ row_in row (map f (range_with_len (a + 1) (length xs))))
    (h 0 a (omega arith) (omega arith))
    ∙ ap (λ ys. x ∷ ys) (row-again xs row f (a + 1) (λ k j e l.
    h (suc k) j (omega arith) (omega arith)))

pub columns-read : (bank : Bank) (row : ℕ) (bits : List Bool) → length bits ≡ columns_of bank
    → ((c : ℕ) → c < columns_of bank → column_at bank c (D row) ≡ bit_in bits c)
    → row_in row (columns_in bank) ≡ bits
columns-read bank row bits e h =
    ap (λ n. row_in row (map (column_at bank) (range_with_len 0 n))) (sym e)
    ∙ row-again bits row (column_at bank) 0 (λ k j a l. let same : j ≡ k =
    omega arith in rw same (h k (omega arith)))

-- a step of one bank of the list
pub bank-took-step : (banks : List Bank) (i : ℕ) (old new : Bank) (s : Column → Column)
    → i < length banks → old ≡ get_or banks i old → columns_of new ≡ columns_of old
    → ((c : ℕ) → c < columns_of old → column_at new c ≡ s (column_at old c))
    → banks_in (set banks i new) ≡ (λ b. if i == b then map s (banks_in banks b) else banks_in
    banks b)
bank-took-step banks i old new s l v e h = banks-step banks i new old (map s) l
    (columns-step old new s e h ∙ ap (λ b. map s (columns_in b)) v)

pub bank-took-row : (banks : List Bank) (i : ℕ) (old new : Bank) (row : ℕ) (bits : List Bool)
    → i < length banks → old ≡ get_or banks i old → length bits ≡ columns_of old
    → columns_of new ≡ columns_of old
    → ((c : ℕ) → c < columns_of old → column_at new c ≡ drive (plain (D row)) (bit_in bits c)
    (column_at old c)) → banks_in (set banks i new)
    ≡ (λ b. if i == b then with_row row bits (banks_in banks b) else banks_in banks b)
bank-took-row banks i old new row bits l v m e h =
    banks-step banks i new old (with_row row bits) l (columns-write old new row bits m e h
    ∙ ap (λ b. with_row row bits (columns_in b)) v)

pub bank-gave-row : (banks : List Bank) (i : ℕ) (bank : Bank) (row : ℕ) (bits : List Bool)
    → i < length banks → bank ≡ get_or banks i bank → length bits ≡ columns_of bank
    → ((c : ℕ) → c < columns_of bank → column_at bank c (D row) ≡ bit_in bits c)
    → bits ≡ row_in row (banks_in banks i)
bank-gave-row banks i bank row bits l v m h =
    sym (columns-read bank row bits m h) ∙ ap (λ b. row_in row (columns_in b)) v
    ∙ ap (row_in row) (sym (banks-at banks i bank l))

-- a bank of the list is one of the geometry
pub fits-at : (g : Geometry) (banks : List Bank) (i : ℕ) (bank : Bank) → HasBanks g banks
    → i < g.banks → bank ≡ get_or banks i bank → Fits g bank
fits-at g banks i bank has l v = subst (Fits g) (sym v) (All-get_or (Fits g) banks i bank
    (omega (arith, has.count)) has.each)
