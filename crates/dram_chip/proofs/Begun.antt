-- A chip whose banks have their shape passes the test
use Rattle.std.proofs.Common.{◌≡◌, ℕ, zero, suc, ◌+◌, ◌*◌, ◌<◌, ◌==◌, ◌&&◌, Bool, true, not, List}
use Rattle.std.proofs.Common.{[], ◌∷◌}
use Rattle.std.proofs.Common.{set, All, refl, sym, ◌∙◌, arith, length-set}
use Rattle.std.proofs.lemmas.Bool.{and_from, and_parts, eq-eqb}
use Rattle.std.proofs.lemmas.List.Elements.{All-head, All-tail, All-set}
use mathlib.Core.Bool.{beq}
use Rattle.dram_chip.specs.declared.bank.Bank.{Bank}
use Rattle.dram_model.specs.declared.geometry.Geometry.{Geometry}
use Rattle.dram_model.specs.Geometry.{is_geometry}
use Rattle.dram_chip.specs.Rows.{row_bit, HasConstants}
use Rattle.dram_chip.specs.ChipRows.{Fits, HasBanks}
use Rattle.dram_chip.specs.Begun.{all_below, are_constant, is_bank}
use Rattle.dram_chip.specs.Begun.{are_banks, has_banks}
use Rattle.dram_chip.specs.ChipWidth.{begun-banks, begun-shape}

below-all : (test : ℕ → Bool) (n : ℕ) → ((k : ℕ) → k < n → test k ≡ true)
    → all_below test n ≡ true
unfolding all_below
below-all test zero h = refl
below-all test (suc n) h = and_from (test n) (all_below test n) (h n (omega arith))
    (below-all test n (λ k l. h k (omega (arith, l))))

bit-same : (a b : Bool) → a ≡ b → beq a b ≡ true
bit-same a b e = grind (arith, e)

constant-again : (words : ℕ) (all : List ℕ) → HasConstants words all
    → are_constant words all ≡ true
constant-again words all h = below-all
    (λ k. all_below (λ c. beq (row_bit words all (6 + k) c) (not (k == 0))) (64 * words)) 2
    (λ k l. below-all (λ c. beq (row_bit words all (6 + k) c) (not (k == 0))) (64 * words)
    (λ c m. bit-same _ _ (h k c l m)))

bank-again : (g : Geometry) (bank : Bank) → Fits g bank → is_bank g bank ≡ true
bank-again g bank h = and_from _ _
    (and_from _ _ (eq-eqb _ _ h.ready.size)
    (constant-again bank.words bank.all.items h.ready.constant))
    (and_from _ _ (eq-eqb _ _ h.rows) (eq-eqb _ _ h.columns))

all-again : (g : Geometry) (banks : List Bank) → All (Fits g) banks → are_banks g banks ≡ true
unfolding are_banks
all-again g [] h = refl
all-again g (bank ∷ banks) h = and_from (is_bank g bank) (are_banks g banks)
    (bank-again g bank (All-head (Fits g) bank banks h))
    (all-again g banks (All-tail (Fits g) bank banks h))

pub banks-begun : (flag : Bool) (g : Geometry) (banks : List Bank) → flag ≡ true
    → is_geometry g ≡ true → HasBanks g banks → (flag && has_banks g banks) ≡ true
banks-begun flag g banks e shape h = and_from _ _ e
    (and_from _ _ shape (and_from _ _ (eq-eqb _ _ h.count) (all-again g banks h.each)))

-- another bank of the geometry at a place
pub begun-still : (flag : Bool) (g : Geometry) (banks : List Bank) (i : ℕ) (bank : Bank)
    → (flag && has_banks g banks) ≡ true → Fits g bank
    → (flag && has_banks g (set banks i bank)) ≡ (flag && has_banks g banks)
begun-still flag g banks i bank h fits =
    let has = begun-banks flag g banks h in
    banks-begun flag g (set banks i bank) (and_parts _ _ h).0 (begun-shape flag g banks h) (record {
      count = length-set banks i bank ∙ has.count;
      each = All-set (Fits g) banks i bank fits has.each;
    }) ∙ sym h
