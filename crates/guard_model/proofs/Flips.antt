-- What flips leave.
use Rattle.guard_model.proofs.Common.{or_parts, ◌≡◌, ℕ, zero, suc, Bool, true, false, not, ◌&&◌}
use Rattle.guard_model.proofs.Common.{cond, eqb, List, [], ◌∷◌, length, get_or, refl, ◌∙◌, ap, inl}
use Rattle.guard_model.proofs.Common.{inr, eqb_tells, fun_ext, D, Column, blank, Banks}
use Rattle.dram_model.specs.Column.{plain}
use Rattle.dram_model.specs.Chip.{row_in, with_row}
use Rattle.dram_model.proofs.ColumnLaws.{drive-other, refresh}
use Rattle.guard_model.specs.declared.Flip.{Flip}
use Rattle.guard_model.specs.Flips.{with_bit_inverted, inverted, inverted_at, flipped, all_flipped}
use Rattle.guard_model.specs.Flips.{hits, is_hit}
use Rattle.guard_model.specs.Laws.{FlipIsWrite}

inverted_length : (column row : ℕ) (columns : List Column) → length (inverted_at column row columns)
    ≡ length columns
inverted_length column row [] = refl
inverted_length zero row (s ∷ columns) = refl
inverted_length (suc column) row (s ∷ columns) = ap suc (inverted_length column row columns)

flip_case : (b : Bool) (column row : ℕ) (columns : List Column) → length
    (cond b (inverted_at column row columns) columns) ≡ length columns
flip_case true column row columns = inverted_length column row columns
flip_case false column row columns = refl

pub flips_length : (flips : List Flip) (banks : Banks) (bank : ℕ) → length
    (all_flipped flips banks bank) ≡ length (banks bank)
flips_length [] banks bank = refl
flips_length (f ∷ flips) banks bank = flips_length flips (flipped f banks) bank ∙ flip_case
    (eqb f.bank bank) f.column f.row (banks bank)

at_column : (column row c r : ℕ) (columns : List Column) → (column ≡ c → row ≡ r → ⊥)
    → get_or (inverted_at column row columns) c blank (D r) ≡ get_or columns c blank (D r)
at_column column row c r [] h = refl
at_column zero row zero r (s ∷ columns) h = drive-other s row r (not (s (D row))) (h refl)
at_column zero row (suc c) r (s ∷ columns) h = refl
at_column (suc column) row zero r (s ∷ columns) h = refl
at_column (suc column) row (suc c) r (s ∷ columns) h = at_column column row c r columns
    (λ e. h (ap suc e))

hit_case : (f : Flip) (c r : ℕ) (columns : List Column) (b : Bool)
    → (b && (eqb f.column c && eqb f.row r)) ≡ false
    → get_or (cond b (inverted_at f.column f.row columns) columns) c blank (D r)
    ≡ get_or columns c blank (D r)
hit_case f c r columns true h = at_column f.column f.row c r columns
    (λ e i. elim (eqb_tells f.column c) [
      | inl t ↦ elim (eqb_tells f.row r) [
        | inl u ↦ let both : (eqb f.column c && eqb f.row r) ≡ true = rw (t.0, u.0) refl in cc
        | inr u ↦ u.1 i
      ]
      | inr t ↦ t.1 e
    ])
hit_case f c r columns false h = refl

-- a cell that no flip hits stays
pub not_hit : (flips : List Flip) (banks : Banks) (bank c r : ℕ) → is_hit flips bank c r ≡ false
    → get_or (all_flipped flips banks bank) c blank (D r) ≡ get_or (banks bank) c blank (D r)
not_hit [] banks bank c r h = refl
not_hit (f ∷ flips) banks bank c r h =
    let both = or_parts (hits bank c r f) (is_hit flips bank c r) h in
    not_hit flips (flipped f banks) bank c r both.1
    ∙ hit_case f c r (banks bank) (eqb f.bank bank) both.0

two_lists : (a b : Column) (r s : List Column) → a ≡ b → r ≡ s → a ∷ r ≡ b ∷ s
two_lists a b r s e f = rw (e, f) refl

rewritten : (row : ℕ) (columns : List Column) → with_row row (row_in row columns) columns ≡ columns
rewritten row [] = refl
rewritten row (s ∷ columns) = two_lists _ _ _ _ (refresh s (plain (D row))) (rewritten row columns)

written : (row column : ℕ) (columns : List Column) → with_row row
    (with_bit_inverted column (row_in row columns)) columns ≡ inverted_at column row columns
written row column [] = refl
written row zero (s ∷ columns) = ap (λ rest. inverted row s ∷ rest) (rewritten row columns)
written row (suc column) (s ∷ columns) = two_lists _ _ _ _ (refresh s (plain (D row)))
    (written row column columns)

-- a flip is a write of its row with one bit inverted
pub flip_is_write : FlipIsWrite
flip_is_write f banks = fun_ext (λ bank. elim (eqb_tells f.bank bank) [
  | inl t ↦ rw t.0 (ap (λ b. with_row f.row (with_bit_inverted f.column (row_in f.row (banks b)))
      (banks bank)) t.1 ∙ written f.row f.column (banks bank))
  | inr t ↦ rw t.0 refl
])
