-- Places of a list that are written one after the other.
use Rattle.transpose_unit.proofs.Common.{◌≡◌, ◌≢◌, ℕ, ◌+◌, ◌*◌, ◌/◌, ◌%◌, ◌^◌, ◌==◌, ◌<◌, Bool}
use Rattle.transpose_unit.proofs.Common.{List, subst, length, get_or, set, ◌-◌, ◌++◌, mul-add}
use Rattle.transpose_unit.proofs.Common.{mul_comm, sym, ap, ◌∙◌, arith, inl, inr, cases_lt}
use Rattle.transpose_unit.proofs.Common.{get_or-set_same, get_or-set_other, get_or_append_left}
use Rattle.transpose_unit.proofs.Common.{mul-add-lt, bit_at, bit_in, value}
use Rattle.std.proofs.lemmas.List.{get_or-append-add}
use Rattle.std.proofs.lemmas.Nat.{div-mul-add, pow-add}
use Rattle.std.proofs.Math.Nat.{div-div-eq-div-mul}
use Rattle.bit_rows.specs.Bits.{bits}
use Rattle.bit_rows.proofs.Words.{length-bits, bits-at, value-bits, bits-value}
use Rattle.transpose_unit.specs.Stage.{IsTransposed}

pub set_more : {X : Type 0} (d : X) (xs : List X) (i : ℕ) (x : X) (f : ℕ → X) → i < length xs
    → x ≡ f i → ((k : ℕ) → k < i → get_or xs k d ≡ f k) → (k : ℕ) → k < i + 1
    → get_or (set xs i x) k d ≡ f k
set_more d xs i x f l e h k m = elim (cases_lt k i) [
  | inl lt ↦ (let other : k ≢ i = λ same. absurd (omega arith) in
      get_or-set_other xs i k x d other ∙ h k lt)
  | inr ge ↦ (let same : k ≡ i = omega arith in rw same (get_or-set_same xs i x d l ∙ e))
]

-- two places of a grid are one only where their rows and their columns are
pub grid_one : (words j v k w : ℕ) → v < words → w < words → j * words + v ≡ k * words + w
    → (j ≡ k) × (v ≡ w)
grid_one words j v k w l m e =
    let row : j ≡ k = sym (div-mul-add j words v l) ∙ ap (λ (x : ℕ). x / words) e
    ∙ div-mul-add k words w m in
    let same : k * words ≡ j * words = ap (λ (x : ℕ). x * words) (sym row) in
    (row, omega arith)

pub column_more : (words w k x : ℕ) (stage block : List ℕ) → w < words
    → k * words + w < length stage → x ≡ get_or block k 0
    → ((j : ℕ) → j < k → get_or stage (j * words + w) 0 ≡ get_or block j 0)
    → (j : ℕ) → j < k + 1 → get_or (set stage (k * words + w) x) (j * words + w) 0
    ≡ get_or block j 0
column_more words w k x stage block l inside e h j m = elim (cases_lt j k) [
  | inl lt ↦ (let other : j * words + w ≢ k * words + w = λ same. let t =
      grid_one words j w k w l l same in absurd (omega arith) in
      get_or-set_other stage (k * words + w) (j * words + w) x 0 other ∙ h j lt)
  | inr ge ↦ (let same : j ≡ k = omega arith in
      rw same (get_or-set_same stage (k * words + w) x 0 inside ∙ e))
]

pub column_others : (words w k x : ℕ) (stage : List ℕ) (j v : ℕ) → w < words → v < words → v ≢ w
    → get_or (set stage (k * words + w) x) (j * words + v) 0 ≡ get_or stage (j * words + v) 0
column_others words w k x stage j v l m ne = get_or-set_other stage (k * words + w) (j * words + v)
    x 0 (λ same. ne (grid_one words j v k w m l same).1)

-- a bit of 64 bits from a place on
pub bit-part : (v a k n : ℕ) → k < n → bit_at (v / 2 ^ a % 2 ^ n) k ≡ bit_at v (a + k)
bit-part v a k n l =
    let size : length (bits (v / 2 ^ a) n) ≡ n = length-bits (v / 2 ^ a) n in
    let same : bits (v / 2 ^ a % 2 ^ n) n ≡ bits (v / 2 ^ a) n =
    ap (λ (x : ℕ). bits x n) (sym (value-bits (v / 2 ^ a) n))
    ∙ subst (λ (m : ℕ). bits (value (bits (v / 2 ^ a) n)) m
    ≡ bits (v / 2 ^ a) n) size (bits-value (bits (v / 2 ^ a) n)) in
    let whole : v / 2 ^ a / 2 ^ k ≡ v / 2 ^ (a + k) = div-div-eq-div-mul v (2 ^ a) (2 ^ k)
    ∙ ap (λ (m : ℕ). v / m) (sym (pow-add 2 a k)) in
    sym (bits-at (v / 2 ^ a % 2 ^ n) n k l) ∙ ap (λ (bs : List Bool). bit_in bs k) same
    ∙ bits-at (v / 2 ^ a) n k l ∙ ap (λ (m : ℕ). m % 2 == 1) whole

-- a block of the stage more
pub blocks_more : (values stage new block turned : List ℕ) (start first words w : ℕ) → w < words
    → ((i : ℕ) → i < 64 → get_or block i 0 ≡ get_or values (start + 64 * w + i) 0 / 2 ^ first % 2 ^
    64)
    → IsTransposed block turned
    → ((k : ℕ) → k < 64 → get_or new (k * words + w) 0 ≡ get_or turned k 0)
    → ((k v : ℕ) → v < words → v ≢ w → get_or new (k * words + v) 0
    ≡ get_or stage (k * words + v) 0)
    → ((k v c : ℕ) → k < 64 → v < w → c < 64 → bit_at (get_or stage (k * words + v) 0) c
    ≡ bit_at (get_or values (start + 64 * v + c) 0) (first + k))
    → (k v c : ℕ) → k < 64 → v < w + 1 → c < 64
    → bit_at (get_or new (k * words + v) 0) c
    ≡ bit_at (get_or values (start + 64 * v + c) 0) (first + k)
blocks_more values stage new block turned start first words w l b t own others h k v c lk lv lc =
    elim (cases_lt v w) [
      | inl lt ↦ (let ne : v ≢ w = λ same. absurd (omega arith) in
          ap (λ x. bit_at x c) (others k v (omega arith) ne) ∙ h k v c lk lt lc)
      | inr ge ↦ (let same : v ≡ w = omega arith in
          rw same (ap (λ x. bit_at x c) (own k lk) ∙ t k c lk lc ∙ ap (λ x. bit_at x k) (b c lc)
          ∙ bit-part (get_or values (start + 64 * w + c) 0) first k 64 lk))
    ]

-- two halves of a stage, one after the other
pub halves : (words rows n : ℕ) (low high : List ℕ) (P : ℕ → ℕ → ℕ → Type 0)
    → length low ≡ 64 * words → rows ≡ 64 + 64
    → ((k w : ℕ) → k < 64 → w < words → P k w (get_or low (k * words + w) 0))
    → ((k w : ℕ) → k < 64 → w < words → P (64 + k) w (get_or high (k * words + w) 0))
    → (k w : ℕ) → k < rows → w < words → P k w (get_or (low ++ high) (k * words + w) 0)
halves words rows n low high P size e a b k w lk lw = elim (cases_lt k 64) [
  | inl lt ↦
      subst (P k w) (sym (get_or_append_left low high 0 (k * words + w)
      (omega (arith, size, mul-add-lt k words w 64 lt lw)))) (a k w lt lw)
  | inr ge ↦ (
      let more : 64 + (k - 64) ≡ k = omega arith in
      let small : k - 64 < 64 = omega arith in
      let at : length low + ((k - 64) * words + w) ≡ k * words + w =
      let d : (64 + (k - 64)) * words ≡ 64 * words + (k - 64) * words =
      omega (
        arith,
        mul_comm (64 + (k - 64)) words,
        mul-add words 64 (k - 64),
        mul_comm words 64,
        mul_comm words (k - 64),
      ) in
      let f : k * words ≡ (64 + (k - 64)) * words = ap (λ (x : ℕ). x * words) (sym more) in
      omega (arith, size, d, f) in
      let there : get_or (low ++ high) (k * words + w) 0 ≡ get_or high ((k - 64) * words + w) 0 =
      sym (ap (λ (i : ℕ). get_or (low ++ high) i 0) at)
      ∙ get_or-append-add low high ((k - 64) * words + w) 0 in
      subst (P k w) (sym there) (subst (λ (j : ℕ). P j w (get_or high ((k - 64) * words + w) 0))
      more (b (k - 64) w small lw)))
]
