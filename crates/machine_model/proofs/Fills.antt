-- A fill is a job of its own commands, and leaves its value in every column.
use Rattle.machine_model.proofs.Common.{◌≡◌, ℕ, zero, suc, ◌+◌, ◌%◌, ◌^◌, ◌<◌, ◌≤◌, Bool, true}
use Rattle.machine_model.proofs.Common.{false, not, cond, eqb, ltb, List, [], ◌∷◌, length, map}
use Rattle.machine_model.proofs.Common.{refl, sym, ◌∙◌, ap, subst, arith, inl, inr, eq-eqb}
use Rattle.machine_model.proofs.Common.{range_with_len, replicate, cases_lt, ne_eqb, lt-ltb}
use Rattle.machine_model.proofs.Common.{nat_tests, mod-eq_of_lt, fun_ext, Geometry, D, Command, Aap}
use Rattle.machine_model.proofs.Common.{value, bit_number, bit_at, Column, run, Banks, Event, after}
use Rattle.machine_model.proofs.Common.{Row, row_events, after-append, number, Object, has_row}
use Rattle.machine_model.proofs.Common.{AreApart, column_count, below, WaveJob}
use Rattle.std.specs.List.{flat_map}
use Rattle.std.proofs.Math.Nat.{div-one}
use Rattle.dram_model.specs.Column.{step}
use Rattle.dram_model.proofs.EventLaws.{on-its-bank, on-others}
use Rattle.dram_model.proofs.RowWrites.{rows_are, value_bits}
use Rattle.dram_model.specs.declared.address.Addr.TheVariants as addr
use Rattle.machine_model.specs.Columns.{object_size, segments, columns}
use Rattle.machine_model.proofs.Below.{below_run, below_same, below_length, through_in}
use Rattle.machine_model.proofs.Below.{through_same, number_same}
use Rattle.machine_model.proofs.Sliced.{has_from}
use Rattle.machine_model.specs.Steps.{through, fill_events}

-- row base + k takes bit k of the value, for n bits from bit a on
abbrev pub fill_commands : ℕ → ℕ → ℕ → ℕ → List Command
fill_commands base v a n = map (λ k. Aap (addr.C (bit_number (bit_at v k))) (addr.D (base + k)))
    (range_with_len a n)

abbrev pub fill_job : Geometry → Object → ℕ → WaveJob
fill_job g o v = record { commands = fill_commands o.base v 0 o.width; banks = segments g o }

bit_back : (b : Bool) → not (eqb (bit_number b) 0) ≡ b
bit_back true = refl
bit_back false = refl

fill_step : (base v k row : ℕ) (s : Column)
    → step (Aap (addr.C (bit_number (bit_at v k))) (addr.D (base + k))) s (D row)
    ≡ cond (eqb (base + k) row) (bit_at v k) (s (D row))
fill_step base v k row s = ap (λ b. cond (eqb (base + k) row) b (s (D row))) (bit_back (bit_at v k))

-- rows before and past those of the fill stay
pub fill_before : (base v a n row : ℕ) (s : Column) → row < base + a
    → run (fill_commands base v a n) s (D row) ≡ s (D row)
fill_before base v a zero row s h = refl
fill_before base v a (suc n) row s h =
    fill_before base v (a + 1) n row (step (Aap (addr.C (bit_number (bit_at v a)))
    (addr.D (base + a))) s) (omega arith)
    ∙ fill_step base v a row s ∙ rw (ne_eqb (base + a) row (λ e. absurd (omega arith))) refl

pub fill_past : (base v a n row : ℕ) (s : Column) → base + a + n ≤ row
    → run (fill_commands base v a n) s (D row) ≡ s (D row)
fill_past base v a zero row s h = refl
fill_past base v a (suc n) row s h =
    fill_past base v (a + 1) n row (step (Aap (addr.C (bit_number (bit_at v a)))
    (addr.D (base + a))) s) (omega arith)
    ∙ fill_step base v a row s ∙ rw (ne_eqb (base + a) row (λ e. absurd (omega arith))) refl

pub fill_own : (base v a n k : ℕ) (s : Column) → a ≤ k → k < a + n
    → run (fill_commands base v a n) s (D (base + k)) ≡ bit_at v k
fill_own base v a zero k s l h = absurd (omega arith)
fill_own base v a (suc n) k s l h =
    elim (cases_lt a k) [
      | inl lt ↦
          fill_own base v (a + 1) n k (step (Aap (addr.C (bit_number (bit_at v a)))
          (addr.D (base + a))) s) (omega arith) (omega arith)
      | inr ge ↦
          let same : a ≡ k = omega arith in
          subst (λ (j : ℕ). run (fill_commands base v (a + 1) n)
          (step (Aap (addr.C (bit_number (bit_at v a))) (addr.D (base + a))) s) (D (base + j))
          ≡ bit_at v j) same
          (fill_before base v (a + 1) n (base + a)
          (step (Aap (addr.C (bit_number (bit_at v a))) (addr.D (base + a))) s) (omega arith)
          ∙ fill_step base v a (base + a) s ∙ rw (eq-eqb (base + a) (base + a) refl) refl)
    ]

-- a filled object has the value in every column
pub fill_number : (base v n : ℕ) (s : Column) → v < 2 ^ n
    → number base n (run (fill_commands base v 0 n) s) ≡ v
fill_number base v n s h =
    ap value (rows_are (λ row. run (fill_commands base v 0 n) s (D row)) (bit_at v) base 0 n (λ k l.
    fill_own base v 0 n k s (omega arith) (omega arith) ∙ ap (bit_at v) (omega arith)))
    ∙ value_bits v 0 n ∙ ap (λ x. x % 2 ^ n) (div-one v) ∙ mod-eq_of_lt h

-- the same commands on banks one after another
abbrev pub on_banks : List Command → ℕ → ℕ → List Event
on_banks cs a n = flat_map (λ bank. row_events bank cs) (range_with_len a n)

banks_before : (cs : List Command) (a n : ℕ) (banks : Banks) (bank : ℕ) → bank < a
    → after (on_banks cs a n) banks bank ≡ banks bank
banks_before cs a zero banks bank l = refl
banks_before cs a (suc n) banks bank l =
    rw (after-append (row_events a cs) (on_banks cs (a + 1) n) banks)
    (banks_before cs (a + 1) n (after (row_events a cs) banks) bank (omega arith)
    ∙ on-others a cs banks bank (λ e. absurd (omega arith)))

banks_inside : (cs : List Command) (a n : ℕ) (banks : Banks) (bank : ℕ) → a ≤ bank → bank < a + n
    → after (on_banks cs a n) banks bank ≡ map (run cs) (banks bank)
banks_inside cs a zero banks bank l h = absurd (omega arith)
banks_inside cs a (suc n) banks bank l h =
    rw (after-append (row_events a cs) (on_banks cs (a + 1) n) banks)
    (elim (cases_lt a bank) [
      | inl lt ↦ banks_inside cs (a + 1) n (after (row_events a cs) banks) bank (omega arith)
          (omega arith) ∙ ap (map (run cs)) (on-others a cs banks bank (λ e. absurd (omega arith)))
      | inr ge ↦
          let same : a ≡ bank = omega arith in
          subst (λ (b : ℕ). after (on_banks cs (a + 1) n) (after (row_events a cs) banks) b
          ≡ map (run cs) (banks b)) same
          (banks_before cs (a + 1) n (after (row_events a cs) banks) a (omega arith)
          ∙ on-its-bank a cs banks)
    ])

banks_after : (cs : List Command) (a n : ℕ) (banks : Banks) (bank : ℕ) → a + n ≤ bank
    → after (on_banks cs a n) banks bank ≡ banks bank
banks_after cs a zero banks bank l = refl
banks_after cs a (suc n) banks bank l =
    rw (after-append (row_events a cs) (on_banks cs (a + 1) n) banks)
    (banks_after cs (a + 1) n (after (row_events a cs) banks) bank (omega arith)
    ∙ on-others a cs banks bank (λ e. absurd (omega arith)))

-- commands on the first banks leave each bank as they leave its columns
pub through_bank : (cs : List Command) (k : ℕ) (banks : Banks) (bank : ℕ)
    → after (on_banks cs 0 k) banks bank ≡ through (record { commands = cs; banks = k }) banks bank
through_bank cs k banks bank =
    elim (cases_lt bank k) [
      | inl lt ↦ banks_inside cs 0 k banks bank (omega arith) (omega arith)
          ∙ rw (lt-ltb bank k lt) refl
      | inr ge ↦ banks_after cs 0 k banks bank (omega arith) ∙ rw (not_below bank k ge) refl
    ] where
      not_below : (b k : ℕ) → k ≤ b → ltb b k ≡ false
      not_below b k h = grind (arith, nat_tests)

map_map : {X Y Z : Type 0} (f : Y → Z) (h : X → Y) (xs : List X)
    → map f (map h xs) ≡ map (λ x. f (h x)) xs
map_map f h [] = refl
map_map f h (x ∷ xs) = ap (λ zs. f (h x) ∷ zs) (map_map f h xs)

flat_same : (f h : ℕ → List Event) (xs : List ℕ) → ((x : ℕ) → f x ≡ h x)
    → flat_map f xs ≡ flat_map h xs
flat_same f h [] e = refl
flat_same f h (x ∷ xs) e = rw (e x, flat_same f h xs e) refl

-- A fill's events do what its job does
pub fill_is_job : (g : Geometry) (o : Object) (v : ℕ) (banks : Banks)
    → after (fill_events g o v) banks ≡ through (fill_job g o v) banks
fill_is_job g o v banks =
    ap (λ es. after es banks) (flat_same _ (λ bank. row_events bank
    (fill_commands o.base v 0 o.width)) (range_with_len 0 (segments g o))
    (λ bank. sym (map_map (λ c. Row bank c) (λ k.
    Aap (addr.C (bit_number (bit_at v k))) (addr.D (o.base + k))) (range_with_len 0 o.width))))
    ∙ fun_ext (through_bank (fill_commands o.base v 0 o.width) (segments g o) banks)

map_const : {X : Type 0} (f : X → ℕ) (v : ℕ) (xs : List X) → ((x : X) → f x ≡ v)
    → map f xs ≡ replicate (length xs) v
map_const f v [] e = refl
map_const f v (x ∷ xs) e = rw e_x (ap (λ rest. v ∷ rest) (map_const f v xs e)) where
  e_x : f x ≡ v
  e_x = e x

-- every column of the object has the value
pub fill_columns : (g : Geometry) (banks : Banks) (o : Object) (v : ℕ) → v < 2 ^ o.width
    → ((bank : ℕ) → bank < segments g o → length (banks bank) ≡ column_count g)
    → columns g (through (fill_job g o v) banks) o ≡ replicate (object_size g o) v
fill_columns g banks o v small shaped =
    let cols = below (segments g o) banks in
    let ran : below (segments g o) (through (fill_job g o v) banks)
    ≡ map (run (fill_commands o.base v 0 o.width)) cols =
    below_run (run (fill_commands o.base v 0 o.width)) (through (fill_job g o v) banks) banks
    (segments g o) (λ b h. through_in (fill_job g o v) banks b h) in
    let long : length cols ≡ object_size g o =
    below_length (column_count g) (segments g o) banks shaped
    in
    ap (map (number o.base o.width)) ran ∙ map_map (number o.base o.width)
    (run (fill_commands o.base v 0 o.width)) cols
    ∙ map_const (λ s. number o.base o.width (run (fill_commands o.base v 0 o.width) s)) v cols (λ s.
    fill_number o.base v o.width s small) ∙ ap (λ k. replicate k v) long

pub fill_keeps : (o p : Object) (v row : ℕ) (s : Column) → has_row o row ≡ false
    → run (fill_commands o.base v 0 o.width) s (D row) ≡ s (D row)
fill_keeps o p v row s h =
    elim (cases_lt row o.base) [
      | inl lt ↦ fill_before o.base v 0 o.width row s (omega arith)
      | inr ge ↦ elim (cases_lt row (o.base + o.width)) [
        | inl lt ↦ let has = has_from o row ge lt in cc
        | inr past ↦ fill_past o.base v 0 o.width row s (omega arith)
      ]
    ]

-- an object with no row in common keeps its columns
pub fill_others : (g : Geometry) (banks : Banks) (o p : Object) (v : ℕ) → AreApart p o
    → columns g (through (fill_job g o v) banks) p ≡ columns g banks p
fill_others g banks o p v apart =
    below_same (number p.base p.width) (through (fill_job g o v) banks) banks (segments g p)
    (λ bank h. through_same (number p.base p.width) (fill_job g o v) banks bank
    (λ s. number_same p.base p.width s (run (fill_commands o.base v 0 o.width) s) (λ row x y.
    fill_keeps o p v row s (apart row (has_from p row x y)))))
