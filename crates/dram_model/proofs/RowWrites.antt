-- What writes of rows leave in the columns: numbers in rows, bank by bank.
use Rattle.std.proofs.Common.{◌≡◌, ℕ, zero, suc, ◌+◌, ◌-◌, ◌*◌, ◌/◌, ◌%◌, ◌^◌, ◌<◌, ◌≤◌, eqb, List}
use Rattle.std.proofs.Common.{[], ◌∷◌, ◌++◌, length, map, take, drop, refl, sym, ◌∙◌, ap, subst}
use Rattle.std.proofs.Common.{arith, inl, inr, eq-eqb, length-append, length-take, length-drop}
use Rattle.std.specs.List.{range_with_len, flat_map, AllByRecursion}
use Rattle.std.specs.Prelude.{replicate}
use Rattle.std.proofs.lemmas.Bool.{cases_lt, ne_eqb}
use Rattle.std.proofs.lemmas.List.{drop-drop, map-append, length-replicate}
use Rattle.std.proofs.lemmas.Nat.{pow_pos}
use Rattle.std.proofs.Math.Arith.{mod-mul}
use Rattle.std.proofs.Math.Nat.{div-div-eq-div-mul, pow-suc, mod-eq_of_lt, div-one, mul-le-mul}
use Rattle.std.proofs.Math.Seq.{take-add}
use Rattle.bit_rows.specs.Bits.{value, bit_at, bit_number}
use Rattle.dram_model.specs.declared.address.Cell.TheVariants.{D}
use Rattle.dram_model.specs.Column.{Column, drive, plain}
use Rattle.dram_model.specs.Chip.{Banks, Event, after, with_row}
use Rattle.dram_model.specs.Chip.Event.{Write}
use Rattle.dram_model.specs.Events.{events_of}
use Rattle.dram_model.specs.Elements.{number, padded_to}
use Rattle.dram_model.proofs.EventLaws.{on_bank_all, projection, after-append}

-- two ranges of rows with the same contents give the same list
pub rows_are : {X : Type 0} (f h : ℕ → X) (b a n : ℕ) → ((k : ℕ) → k < n → f (b + k) ≡ h (a + k))
    → map f (range_with_len b n) ≡ map h (range_with_len a n)
rows_are f h b a zero e = refl
rows_are f h b a (suc n) e =
    let head : f b ≡ h a = ap f (omega arith) ∙ e 0 (omega arith) ∙ ap h (omega arith) in
    rw (
      head,
      rows_are f h (b + 1) (a + 1) n (λ k l. ap f (omega arith) ∙ e (k + 1) (omega arith)
          ∙ ap h (omega arith)),
    ) refl

bit_is : (y : ℕ) → y < 2 → bit_number (eqb y 1) ≡ y
bit_is y h = elim (cases_lt y 1) [
  | inl lt ↦ rw (ne_eqb y 1 (λ e. absurd (omega arith))) (omega arith)
  | inr ge ↦ let e : y ≡ 1 = omega arith in rw (eq-eqb y 1 e) (sym e)
]

-- bits of a value spell it
pub value_bits : (v a n : ℕ) → value (map (bit_at v) (range_with_len a n)) ≡ v / 2 ^ a % 2 ^ n
value_bits v a zero = omega arith
value_bits v a (suc n) =
    let x = v / 2 ^ a in
    let low : bit_number (bit_at v a) ≡ x % 2 = bit_is (x % 2) (omega arith) in
    let half : v / 2 ^ (a + 1) ≡ x / 2 = ap (λ i. v / 2 ^ i) (omega arith)
    ∙ ap (λ d. v / d) (pow-suc 2 a) ∙ sym (div-div-eq-div-mul v (2 ^ a) 2) in
    let rest : value (map (bit_at v) (range_with_len (a + 1) n)) ≡ x / 2 % 2 ^ n =
    value_bits v (a + 1) n ∙ ap (λ y. y % 2 ^ n) half in
    let whole : x % 2 ^ suc n ≡ x / 2 % 2 ^ n * 2 + x % 2 = ap (λ d. x % d) (pow-suc 2 n)
    ∙ mod-mul x (pow_pos n) (omega arith) in
    omega (arith, low, rest, whole)

-- row base + k of a bank takes bit k of each value, for n bits from bit a on
abbrev pub writes : ℕ → ℕ → List ℕ → ℕ → ℕ → List Event
writes bank base vs a n = map (λ k. Write bank (base + k) (map (λ v. bit_at v k) vs))
    (range_with_len a n)

writes_own : (bank base : ℕ) (vs : List ℕ) (a n : ℕ)
    → events_of bank (writes bank base vs a n) ≡ writes bank base vs a n
writes_own bank base vs a zero = refl
writes_own bank base vs a (suc n) = rw (eq-eqb bank bank refl)
    (ap (λ es. Write bank (base + a) (map (λ v. bit_at v a) vs)
    ∷ es) (writes_own bank base vs (a + 1) n))

writes_other : (bank other base : ℕ) (vs : List ℕ) (a n : ℕ) → (bank ≡ other → ⊥)
    → events_of other (writes bank base vs a n) ≡ []
writes_other bank other base vs a zero ne = refl
writes_other bank other base vs a (suc n) ne =
    rw (ne_eqb bank other ne) (writes_other bank other base vs (a + 1) n ne)

-- one column takes one value
abbrev pub taken : ℕ → ℕ → ℕ → ℕ → Column → Column
taken base v a zero s = s
taken base v a (suc n) s = taken base v (a + 1) n (drive (plain (D (base + a))) (bit_at v a) s)

-- the rows before those that are written stay
pub taken_before : (base v a n row : ℕ) (s : Column) → row < base + a
    → taken base v a n s (D row) ≡ s (D row)
taken_before base v a zero row s h = refl
taken_before base v a (suc n) row s h = taken_before base v (a + 1) n row
    (drive (plain (D (base + a))) (bit_at v a) s) (omega arith)
    ∙ rw (ne_eqb (base + a) row (λ e. absurd (omega arith))) refl

-- the rows past those that are written stay
pub taken_past : (base v a n row : ℕ) (s : Column) → base + a + n ≤ row
    → taken base v a n s (D row) ≡ s (D row)
taken_past base v a zero row s h = refl
taken_past base v a (suc n) row s h = taken_past base v (a + 1) n row
    (drive (plain (D (base + a))) (bit_at v a) s) (omega arith)
    ∙ rw (ne_eqb (base + a) row (λ e. absurd (omega arith))) refl

taken_own : (base v a n k : ℕ) (s : Column) → a ≤ k → k < a + n
    → taken base v a n s (D (base + k)) ≡ bit_at v k
taken_own base v a zero k s l h = absurd (omega arith)
taken_own base v a (suc n) k s l h =
    elim (cases_lt a k) [
      | inl lt ↦ taken_own base v (a + 1) n k (drive (plain (D (base + a))) (bit_at v a) s)
          (omega arith) (omega arith)
      | inr ge ↦
          let same : a ≡ k = omega arith in
          subst (λ (j : ℕ). taken base v (a + 1) n (drive (plain (D (base + a))) (bit_at v a) s)
          (D (base + j)) ≡ bit_at v j) same
          (taken_before base v (a + 1) n (base + a) (drive (plain (D (base + a))) (bit_at v a) s)
          (omega arith) ∙ rw (eq-eqb (base + a) (base + a) refl) refl)
    ]

taken_number : (base v n : ℕ) (s : Column) → v < 2 ^ n → number base n (taken base v 0 n s) ≡ v
taken_number base v n s h =
    ap value (rows_are (λ row. taken base v 0 n s (D row)) (bit_at v) base 0 n (λ k l.
    taken_own base v 0 n k s (omega arith) (omega arith) ∙ ap (bit_at v) (omega arith)))
    ∙ value_bits v 0 n ∙ ap (λ x. x % 2 ^ n) (div-one v) ∙ mod-eq_of_lt h

-- the first column takes the first value, and the others theirs
pub writes_first : (bank base v a n : ℕ) (vs : List ℕ) (s : Column) (columns : List Column)
    → on_bank_all (writes bank base (v ∷ vs) a n) (s ∷ columns) ≡ taken base v a n s
    ∷ on_bank_all (writes bank base vs a n) columns
writes_first bank base v a zero vs s columns = refl
writes_first bank base v a (suc n) vs s columns =
    writes_first bank base v (a + 1) n vs (drive (plain (D (base + a))) (bit_at v a) s)
    (with_row (base + a) (map (λ v. bit_at v a) vs) columns)

-- to write no columns changes none
pub writes_nothing : (bank base a n : ℕ) (columns : List Column)
    → on_bank_all (writes bank base [] a n) columns ≡ columns
writes_nothing bank base a zero columns = refl
writes_nothing bank base a (suc n) columns = writes_nothing bank base (a + 1) n columns

-- the columns spell the values
pub writes_numbers : (bank base n : ℕ) (vs : List ℕ) (columns : List Column)
    → length columns ≡ length vs → AllByRecursion (λ v. v < 2 ^ n) vs
    → map (number base n) (on_bank_all (writes bank base vs 0 n) columns) ≡ vs
writes_numbers bank base n [] [] e small = rw (writes_nothing bank base 0 n []) refl
writes_numbers bank base n [] (s ∷ columns) e small = absurd (omega arith)
writes_numbers bank base n (v ∷ vs) [] e small = absurd (omega arith)
writes_numbers bank base n (v ∷ vs) (s ∷ columns) e small =
    rw (
      writes_first bank base v 0 n vs s columns,
      taken_number base v n s small.0,
    ) (ap (λ rest. v
    ∷ rest) (writes_numbers bank base n vs columns (omega arith) small.1))

-- Events bank by bank
pub record OnOwn (E : ℕ → List Event) : Type 0 where
  pub own : (bank : ℕ) → events_of bank (E bank) ≡ E bank
  pub other : (bank c : ℕ) → (bank ≡ c → ⊥) → events_of c (E bank) ≡ []

on_its_own : (E : ℕ → List Event) (banks : Banks) (bank : ℕ) → OnOwn E
    → after (E bank) banks bank ≡ on_bank_all (E bank) (banks bank)
on_its_own E banks bank o = projection (E bank) banks bank
    ∙ ap (λ es. on_bank_all es (banks bank)) (o.own bank)

on_another : (E : ℕ → List Event) (banks : Banks) (bank c : ℕ) → OnOwn E → (bank ≡ c → ⊥)
    → after (E bank) banks c ≡ banks c
on_another E banks bank c o ne = projection (E bank) banks c
    ∙ ap (λ es. on_bank_all es (banks c)) (o.other bank c ne)

each_before : (E : ℕ → List Event) (a n : ℕ) (banks : Banks) (bank : ℕ) → OnOwn E → bank < a
    → after (flat_map E (range_with_len a n)) banks bank ≡ banks bank
each_before E a zero banks bank o l = refl
each_before E a (suc n) banks bank o l =
    rw (after-append (E a) (flat_map E (range_with_len (a + 1) n)) banks)
    (each_before E (a + 1) n (after (E a) banks) bank o (omega arith)
    ∙ on_another E banks a bank o (λ e. absurd (omega arith)))

-- banks past the last of a loop over banks stay
pub each_after : (E : ℕ → List Event) (a n : ℕ) (banks : Banks) (bank : ℕ) → OnOwn E → a + n ≤ bank
    → after (flat_map E (range_with_len a n)) banks bank ≡ banks bank
each_after E a zero banks bank o l = refl
each_after E a (suc n) banks bank o l =
    rw (after-append (E a) (flat_map E (range_with_len (a + 1) n)) banks)
    (each_after E (a + 1) n (after (E a) banks) bank o (omega arith)
    ∙ on_another E banks a bank o (λ e. absurd (omega arith)))

-- each bank of a loop over banks has had its own events
pub each_inside : (E : ℕ → List Event) (a n : ℕ) (banks : Banks) (bank : ℕ) → OnOwn E → a ≤ bank
    → bank < a + n → after (flat_map E (range_with_len a n)) banks bank
    ≡ on_bank_all (E bank) (banks bank)
each_inside E a zero banks bank o l h = absurd (omega arith)
each_inside E a (suc n) banks bank o l h =
    rw (after-append (E a) (flat_map E (range_with_len (a + 1) n)) banks)
    (elim (cases_lt a bank) [
      | inl lt ↦ each_inside E (a + 1) n (after (E a) banks) bank o (omega arith) (omega arith)
          ∙ ap (on_bank_all (E bank)) (on_another E banks a bank o (λ e. absurd (omega arith)))
      | inr ge ↦
          let same : a ≡ bank = omega arith in
          subst (λ (b : ℕ). after (flat_map E (range_with_len (a + 1) n)) (after (E a) banks) b
          ≡ on_bank_all (E b) (banks b)) same
          (each_before E (a + 1) n (after (E a) banks) a o (omega arith) ∙ on_its_own E banks a o)
    ])

-- the numbers that stand in one bank
abbrev pub part : ℕ → List ℕ → ℕ → List ℕ
part w nums bank = take w (drop (bank * w) nums)

-- the host's writes of one bank, of those that store numbers over all banks
abbrev pub all_writes : ℕ → ℕ → ℕ → List ℕ → ℕ → List Event
all_writes w base n nums bank = writes bank base (part w nums bank) 0 n

-- these writes are each on their own bank
pub all_own : (w base n : ℕ) (nums : List ℕ) → OnOwn (all_writes w base n nums)
all_own w base n nums = record {
  own = λ bank. writes_own bank base (part w nums bank) 0 n;
  other = λ bank c ne. writes_other bank c base (part w nums bank) 0 n ne;
}

pub parts : (w : ℕ) (nums : List ℕ) (a n : ℕ)
    → flat_map (part w nums) (range_with_len a n) ≡ take (n * w) (drop (a * w) nums)
parts w nums a zero = let none : 0 ≡ zero * w = omega arith in
    ap (λ k. take k (drop (a * w) nums)) none
parts w nums a (suc n) =
    let next : (a + 1) * w ≡ a * w + w = omega arith in
    let sum : w + n * w ≡ suc n * w = omega arith in
    rw (parts w nums (a + 1) n)
    (ap (λ k. take w (drop (a * w) nums) ++ take (n * w) (drop k nums)) next
    ∙ ap (λ ys. take w (drop (a * w) nums) ++ take (n * w) ys) (sym (drop-drop w (a * w) nums))
    ∙ sym (take-add w (n * w) (drop (a * w) nums)) ∙ ap (λ k. take k (drop (a * w) nums)) sum)

-- the parts of all banks are the whole
pub whole : (w k : ℕ) (nums : List ℕ) → flat_map (part w nums) (range_with_len 0 k)
    ≡ take (k * w) nums
whole w k nums = let none : 0 * w ≡ 0 = omega arith in
    parts w nums 0 k ∙ ap (λ j. take (k * w) (drop j nums)) none

-- each bank has as many numbers as it has columns
pub part_length : (w k : ℕ) (nums : List ℕ) (bank : ℕ) → length nums ≡ w * k → bank < k
    → length (part w nums bank) ≡ w
part_length w k nums bank e h =
    let fits : (bank + 1) * w ≤ k * w = mul-le-mul {n₁ = bank + 1} {m₁ = w} {n₂ = k} {m₂ = w}
    (omega arith) (omega arith) in
    simp (length-take, length-drop) (omega (arith, e, fits))

-- what each bank holds, put together, is what all banks hold
pub map_parts : (f : Column → ℕ) (new : Banks) (w : ℕ) (nums : List ℕ) (a n : ℕ)
    → ((b : ℕ) → a ≤ b → b < a + n → map f (new b) ≡ part w nums b)
    → map f (flat_map new (range_with_len a n)) ≡ flat_map (part w nums) (range_with_len a n)
map_parts f new w nums a zero e = refl
map_parts f new w nums a (suc n) e =
    rw (
      map-append f (new a) (flat_map new (range_with_len (a + 1) n)),
      e a (omega arith) (omega arith),
      map_parts f new w nums (a + 1) n (λ b l m.
          e b (omega arith) (omega arith)),
    ) refl

-- numbers filled up with 0 are as many as there is room for
pub padded_length : (size : ℕ) (vs : List ℕ) → length vs ≤ size → length (padded_to size vs) ≡ size
padded_length size vs h = length-append vs (replicate (size - length vs) 0)
    ∙ omega (arith, h, length-replicate {A = ℕ} (size - length vs) 0)

-- what holds of both lists holds of both together
pub all_append : (P : ℕ → Type 0) (xs ys : List ℕ) → AllByRecursion P xs → AllByRecursion P ys
    → AllByRecursion P (xs ++ ys)
all_append P [] ys a b = b
all_append P (x ∷ xs) ys a b = (a.0, all_append P xs ys a.1 b)

-- what holds of a list holds of its front
pub all_take : (P : ℕ → Type 0) (n : ℕ) (xs : List ℕ) → AllByRecursion P xs
    → AllByRecursion P (take n xs)
all_take P zero xs a = tt
all_take P (suc n) [] a = tt
all_take P (suc n) (x ∷ xs) a = (a.0, all_take P n xs a.1)

-- what holds of a list holds of its rest
pub all_drop : (P : ℕ → Type 0) (n : ℕ) (xs : List ℕ) → AllByRecursion P xs
    → AllByRecursion P (drop n xs)
all_drop P zero xs a = a
all_drop P (suc n) [] a = tt
all_drop P (suc n) (x ∷ xs) a = all_drop P n xs a.1

-- what holds of 0 holds of all zeros
pub all_zero : (P : ℕ → Type 0) (n : ℕ) → P 0 → AllByRecursion P (replicate n 0)
all_zero P zero p = tt
all_zero P (suc n) p = (p, all_zero P n p)
