-- A chip that has begun has a shape that a chip may have, all its banks, and each bank all its
-- columns.
use Rattle.std.specs.Prelude.{◌≡◌, ℕ, ◌+◌, ◌<◌, ◌*◌, ◌&&◌, ◌==◌, not, Bool, true, List, [], ◌∷◌}
use Rattle.std.specs.Prelude.{length}
use Rattle.std.specs.Prelude.{zero, suc, All}
use Rattle.std.proofs.Common.{◌∙◌, arith, inl, inr, subst}
use Rattle.std.proofs.lemmas.Bool.{and_parts, eqb-true, cases_eq}
use Rattle.std.proofs.lemmas.List.Elements.{All-get_or, All-tail, All-cons, All-nil}
use Rattle.std.proofs.lemmas.List.FromFn.{length-map-range_with_len}
use mathlib.Core.Bool.{beq}
use Rattle.dram_chip.specs.declared.bank.Bank.{Bank}
use Rattle.dram_chip.specs.declared.chip.Chip.{Chip}
use Rattle.dram_model.specs.declared.geometry.Geometry.{Geometry}
use Rattle.dram_model.specs.Geometry.{is_geometry}
use Rattle.dram_chip.specs.Rows.{column_at, columns_of, data_row_count, row_bit, HasConstants}
use Rattle.dram_chip.specs.ChipRows.{Fits, HasBanks, banks_in}
use Rattle.dram_chip.specs.Begun.{all_below, are_constant, is_bank}
use Rattle.dram_chip.specs.Begun.{are_banks, has_banks, has_begun}

below-at : (test : ℕ → Bool) (n k : ℕ) → all_below test n ≡ true → k < n → test k ≡ true
unfolding all_below
below-at test zero k h l = absurd (omega arith)
below-at test (suc n) k h l = elim (cases_eq k n) [
  | inl e ↦ subst (λ j. test j ≡ true) (omega (arith, e)) (and_parts _ _ h).0
  | inr ne ↦ below-at test n k (and_parts _ _ h).1 (omega (arith, ne))
]

same-bit : (a b : Bool) → beq a b ≡ true → a ≡ b
same-bit a b h = grind arith

constants : (words : ℕ) (all : List ℕ) → are_constant words all ≡ true → HasConstants words all
constants words all h k c l m = same-bit (row_bit words all (6 + k) c) (not (k == 0))
    (below-at (λ d. beq (row_bit words all (6 + k) d) (not (k == 0))) (64 * words) c
    (below-at (λ j. all_below (λ d. beq (row_bit words all (6 + j) d) (not (j == 0)))
    (64 * words)) 2 k h l) m)

fits : (g : Geometry) (bank : Bank) → is_bank g bank ≡ true → Fits g bank
fits g bank h =
    let both = and_parts (length bank.all.items == bank.words * (8 + bank.rows)
    && are_constant bank.words bank.all.items) _ h in
    let shape = and_parts (length bank.all.items == bank.words * (8 + bank.rows)) _ both.0 in
    let ends = and_parts (data_row_count bank == g.rows) (columns_of bank == 64 * g.words) both.1 in
    record {
      ready = record {
        size = eqb-true _ _ shape.0;
        constant = constants bank.words bank.all.items shape.1;
      };
      rows = eqb-true _ _ ends.0;
      columns = eqb-true _ _ ends.1;
    }

all-fit : (g : Geometry) (banks : List Bank) → are_banks g banks ≡ true → All (Fits g) banks
unfolding are_banks
all-fit g [] h = All-nil (Fits g)
all-fit g (bank ∷ banks) h =
    let parts = and_parts (is_bank g bank) (are_banks g banks) h in
    All-cons (Fits g) bank banks (fits g bank parts.0) (all-fit g banks parts.1)

-- A chip that has begun has all banks of its shape.
pub begun-banks : (flag : Bool) (g : Geometry) (banks : List Bank)
    → (flag && has_banks g banks) ≡ true → HasBanks g banks
begun-banks flag g banks h =
    let both = and_parts flag (has_banks g banks) h in
    let there = and_parts (is_geometry g) (length banks == g.banks && are_banks g banks) both.1 in
    let parts = and_parts (length banks == g.banks) (are_banks g banks) there.1 in
    record { count = eqb-true _ _ parts.0; each = all-fit g banks parts.1 }

-- A chip that has begun has a shape that a chip may have.
pub begun-shape : (flag : Bool) (g : Geometry) (banks : List Bank)
    → (flag && has_banks g banks) ≡ true → is_geometry g ≡ true
begun-shape flag g banks h =
    (and_parts (is_geometry g) _ (and_parts flag (has_banks g banks) h).1).0

width-at : (g : Geometry) (banks : List Bank) (b : ℕ) → b < length banks → All (Fits g) banks
    → length (banks_in banks b) ≡ 64 * g.words
width-at g [] b l h = absurd (omega arith)
width-at g (x ∷ xs) zero l h = length-map-range_with_len (column_at x) 0 (columns_of x)
    ∙ (All-get_or (Fits g) (x ∷ xs) 0 x l h).columns
width-at g (x ∷ xs) (suc b) l h = width-at g xs b (omega arith) (All-tail (Fits g) x xs h)

-- Each bank of a chip that has begun has all columns of its shape.
pub chip_width : (s : Chip) → has_begun s ≡ true → (b : ℕ) → b < s.geometry.banks
    → length (banks_in s.banks.items b) ≡ 64 * s.geometry.words
chip_width s h b l = let has = begun-banks s.begun s.geometry s.banks.items h in
    width-at s.geometry s.banks.items b (omega (arith, has.count)) has.each

-- The same of the shape, of a chip as a whole.
pub chip_shape : (s : Chip) → has_begun s ≡ true → is_geometry s.geometry ≡ true
chip_shape s h = begun-shape s.begun s.geometry s.banks.items h
