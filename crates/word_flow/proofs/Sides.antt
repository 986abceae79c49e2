-- The rows of a statement, by its arguments.
use Rattle.word_flow.proofs.Common.{if◌then◌else◌, cases_Bool, unwrap_or, following, rows_on, false}
use Rattle.word_flow.proofs.Common.{length, ⊎_elim, nat_lt, lt-ltb, arith, Slots, AreAt, true, List}
use Rattle.word_flow.proofs.Common.{refl, Slot, Rows, ◌≡◌, suc, ◌<◌, ◌≤◌, ◌∷◌, sym, ◌∙◌, [], ap, ℕ}
use Rattle.std.specs.Prelude.{Option}

pub as_many : (slots : Slots) (names : List (List ℕ)) (ss : List Slot) → AreAt slots names ss
    → length names ≡ length ss
as_many slots [] [] at = refl
as_many slots [] (s ∷ ss) at = absurd at
as_many slots (n ∷ ns) [] at = absurd at
as_many slots (n ∷ ns) (s ∷ ss) at = ap suc (as_many slots ns ss at.1)

pub second_one : (ss : List Slot) (second : ℕ) → second ≡ 1 → 1 < length ss
    → second ≡ (if nat_lt 1 (length ss) then 1 else 0)
second_one ss second e lt = e ∙ ap (λ b. if b then 1 else 0) (sym (lt-ltb 1 (length ss) lt))

pub second_none : (ss : List Slot) (second : ℕ) → second ≡ 0 → length ss ≤ 1
    → second ≡ (if nat_lt 1 (length ss) then 1 else 0)
second_none ss second e le = e ∙ ap (λ b. if b then 1 else 0) (sym (not_less (length ss) le))
  where
    not_less : (k : ℕ) → k ≤ 1 → nat_lt 1 k ≡ false
    not_less k h = ⊎_elim (λ (t : nat_lt 1 k ≡ true). absurd (grind arith))
        (λ (f : nat_lt 1 k ≡ false). f) (cases_Bool (nat_lt 1 k))

pub rows_are : (t : Slot) (u : Option Slot) (ss : List Slot) (free_bit free_word : ℕ)
    (x w y z : Slot) (last : ℕ) → x ≡ t → w ≡ unwrap_or u t → y ≡ following ss free_bit 0
    → z ≡ following ss free_bit last → last ≡ (if nat_lt 1 (length ss) then 1 else 0)
    → ◌≡◌ {A = Rows} (record {
      target = x;
      second = w;
      a = y;
      b = z;
      free_bit = free_bit;
      free_word = free_word;
    }) (rows_on t u ss free_bit free_word)
rows_are t u ss free_bit free_word x w y z last ex ew ey ez el = rw (ex, ew, ey, ez, el) refl
