-- The runs of a list, told from the front.
use Rattle.std.proofs.Common.{◌≡◌, ℕ, zero, suc, ◌+◌, ◌-◌, ◌<◌, ◌≤◌, Bool, true, false, cond, not}
use Rattle.std.proofs.Common.{List, [], ◌∷◌, ◌++◌, length, get_or, take, drop, map, refl, sym, ◌∙◌}
use Rattle.std.proofs.Common.{ap, subst, arith, flat_map}
use Rattle.std.specs.Prelude.{◌==◌, codes, decimal, slice_index_or, slice_range}
use Rattle.std.specs.List.{join_with_byte}
use Rattle.std.proofs.lemmas.List.{append_assoc, append-nil, drop_more, get_or-drop, length-drop}
use Rattle.std.proofs.lemmas.List.{take_all, take_more}
use Rattle.std.proofs.lemmas.Bool.Decides.{nat_tests}
use Rattle.verify_job.specs.Widths.{WritesEnded, before, ends_run, runs_of, span_text}

-- what was told of a run, before runs
abbrev pub glue : {A : Type 0} → List A → List (List A) → List (List A)
glue p [] = []
glue p (r ∷ rs) = (p ++ r) ∷ rs

glue_none : {A : Type 0} (rs : List (List A)) → glue [] rs ≡ rs
glue_none [] = refl
glue_none (r ∷ rs) = refl

-- the first run of a list that has an element
record Begins {A : Type 0} (joined : A → A → Bool) (y : A) (ys : List A) : Type 0 where
  run : List A
  rest : List (List A)
  is : runs_of joined (y ∷ ys) ≡ (y ∷ run) ∷ rest

begins_case : {A : Type 0} (joined : A → A → Bool) (y z : A) (ys run : List A)
    (rest : List (List A)) (b : Bool)
    → runs_of joined (y ∷ ys) ≡ cond b ((y ∷ z ∷ run) ∷ rest) ((y ∷ []) ∷ (z ∷ run) ∷ rest)
    → Begins joined y ys
begins_case joined y z ys run rest true e = record { run = z ∷ run; rest = rest; is = e }
begins_case joined y z ys run rest false e = record { run = []; rest = (z ∷ run) ∷ rest; is = e }

begins : {A : Type 0} (joined : A → A → Bool) (y : A) (ys : List A) → Begins joined y ys
begins joined y [] = record { run = []; rest = []; is = refl }
begins joined y (z ∷ zs) =
    let more = begins joined z zs in
    begins_case joined y z (z ∷ zs) more.run more.rest (joined y z) (ap (before joined y) more.is)

-- an element that ends its run
ends_here : {A : Type 0} (joined : A → A → Bool) (p : List A) (x : A) (xs : List A)
    → ends_run joined (x ∷ xs) ≡ true
    → glue p (runs_of joined (x ∷ xs)) ≡ (p ++ x ∷ []) ∷ runs_of joined xs
ends_here joined p x [] e = refl
ends_here joined p x (y ∷ ys) e =
    let more = begins joined y ys in
    let apart : joined x y ≡ false = apart_is (joined x y) e in
    ap (λ rs. glue p (before joined x rs)) more.is
    ∙ ap (λ b. glue p (cond b ((x ∷ y ∷ more.run) ∷ more.rest)
    ((x ∷ []) ∷ (y ∷ more.run) ∷ more.rest))) apart
    ∙ ap (λ rs. (p ++ x ∷ []) ∷ rs) (sym more.is)
  where
    apart_is : (b : Bool) → not b ≡ true → b ≡ false
    apart_is true e = absurd (cc)
    apart_is false e = refl

-- and one that does not
goes_on : {A : Type 0} (joined : A → A → Bool) (p : List A) (x : A) (xs : List A)
    → ends_run joined (x ∷ xs) ≡ false
    → glue p (runs_of joined (x ∷ xs)) ≡ glue (p ++ x ∷ []) (runs_of joined xs)
goes_on joined p x [] e = absurd (cc)
goes_on joined p x (y ∷ ys) e =
    let more = begins joined y ys in
    let together : joined x y ≡ true = together_is (joined x y) e in
    ap (λ rs. glue p (before joined x rs)) more.is
    ∙ ap (λ b. glue p (cond b ((x ∷ y ∷ more.run) ∷ more.rest)
    ((x ∷ []) ∷ (y ∷ more.run) ∷ more.rest))) together
    ∙ ap (λ r. r ∷ more.rest) (sym (append_assoc p (x ∷ []) (y ∷ more.run)))
    ∙ ap (glue (p ++ x ∷ [])) (sym more.is)
  where
    together_is : (b : Bool) → not b ≡ false → b ≡ true
    together_is true e = refl
    together_is false e = absurd (cc)

-- one more element of a part
slice_more : {A : Type 0} (xs : List A) (from k : ℕ) (d : A) → from ≤ k → k < length xs
    → slice_range xs from (k + 1) ≡ slice_range xs from k ++ get_or xs k d ∷ []
slice_more {A} xs from k d le lt =
    let some : k + 1 - from ≡ k - from + 1 = omega (arith, le) in
    let whole : from + (k - from) ≡ k = omega (arith, le) in
    let long = length-drop from xs in
    let within : k - from < length (drop from xs) = omega (arith, le, lt, long) in
    ap (λ i. take i (drop from xs)) some
    ∙ take_more (drop from xs) (k - from) d within
    ∙ ap (λ (x : A). take (k - from) (drop from xs) ++ x ∷ [])
    (get_or-drop from xs (k - from) d ∙ ap (λ i. get_or xs i d) whole)

no_slice : {A : Type 0} (xs : List A) (k : ℕ) → slice_range xs k k ≡ []
no_slice xs k = let none : k - k ≡ 0 = omega arith in ap (λ i. take i (drop k xs)) none

-- the runs from an element on that ends its run: what was told of it and the element, and the runs
-- behind it
pub run_ended : {A : Type 0} (joined : A → A → Bool) (xs : List A) (from k : ℕ) (d : A) → from ≤ k
    → k < length xs → ends_run joined (drop k xs) ≡ true
    → glue (slice_range xs from k) (runs_of joined (drop k xs)) ≡ slice_range xs from (k + 1)
    ∷ glue (slice_range xs (k + 1) (k + 1)) (runs_of joined (drop (k + 1) xs))
run_ended joined xs from k d le lt e =
    let first = drop_more xs k d lt in
    ap (λ ys. glue (slice_range xs from k) (runs_of joined ys)) first
    ∙ ends_here joined (slice_range xs from k) (get_or xs k d) (drop (k + 1) xs)
    (ap (ends_run joined) (sym first) ∙ e)
    ∙ ap (λ r. r ∷ runs_of joined (drop (k + 1) xs)) (sym (slice_more xs from k d le lt))
    ∙ ap (λ rs. slice_range xs from (k + 1) ∷ rs)
    (sym (glue_none (runs_of joined (drop (k + 1) xs)))
    ∙ ap (λ p. glue p (runs_of joined (drop (k + 1) xs))) (sym (no_slice xs (k + 1))))

-- and from one that does not
pub run_goes_on : {A : Type 0} (joined : A → A → Bool) (xs : List A) (from k : ℕ) (d : A)
    → from ≤ k → k < length xs → ends_run joined (drop k xs) ≡ false
    → glue (slice_range xs from k) (runs_of joined (drop k xs))
    ≡ glue (slice_range xs from (k + 1)) (runs_of joined (drop (k + 1) xs))
run_goes_on joined xs from k d le lt e =
    let first = drop_more xs k d lt in
    ap (λ ys. glue (slice_range xs from k) (runs_of joined ys)) first
    ∙ goes_on joined (slice_range xs from k) (get_or xs k d) (drop (k + 1) xs)
    (ap (ends_run joined) (sym first) ∙ e)
    ∙ ap (λ p. glue p (runs_of joined (drop (k + 1) xs))) (sym (slice_more xs from k d le lt))

-- the runs of all, and of none
pub runs_begin : {A : Type 0} (joined : A → A → Bool) (xs : List A)
    → glue (slice_range xs 0 0) (runs_of joined (drop 0 xs)) ≡ runs_of joined xs
runs_begin joined xs = glue_none (runs_of joined xs)

pub runs_end : {A : Type 0} (joined : A → A → Bool) (xs p : List A) (k : ℕ) → length xs ≤ k
    → glue p (runs_of joined (drop k xs)) ≡ []
runs_end joined xs p k le = ap (λ ys. glue p (runs_of joined ys)) (drop_none xs k le)
  where
    drop_none : {A : Type 0} (xs : List A) (k : ℕ) → length xs ≤ k → drop k xs ≡ []
    drop_none [] zero le = refl
    drop_none [] (suc k) le = refl
    drop_none (x ∷ xs) zero le = absurd (omega (arith, le))
    drop_none (x ∷ xs) (suc k) le = drop_none xs k (omega (arith, le))

-- texts with commas between: all of them, or those behind the first
abbrev pub commas : Bool → List (List ℕ) → List ℕ
commas true texts = join_with_byte 44 texts
commas false texts = flat_map (λ t. 44 ∷ t) texts

no_texts : (first : Bool) (out : List ℕ) → out ++ commas first [] ≡ out
no_texts true out = append-nil out
no_texts false out = append-nil out

pub no_commas : (from : ℕ) (out : List ℕ) → out ++ commas (from == 0) [] ≡ out
no_commas from out = no_texts (from == 0) out

behind_first : (t : List ℕ) (ts : List (List ℕ))
    → join_with_byte 44 (t ∷ ts) ≡ t ++ flat_map (λ u. 44 ∷ u) ts
behind_first t [] = sym (append-nil t)
behind_first t (u ∷ ts) = ap (λ rest. t ++ 44 ∷ rest) (behind_first u ts)

pub comma_first : (first : Bool) (t : List ℕ) (ts : List (List ℕ))
    → commas first (t ∷ ts) ≡ cond first t (44 ∷ t) ++ commas false ts
comma_first true t ts = behind_first t ts
comma_first false t ts = refl

-- one element more, of texts one behind the other

whole_step : {A : Type 0} (text : List A → List ℕ) (joined : A → A → Bool) (xs : List A)
    (from k : ℕ) (d : A) (b : Bool) → ends_run joined (drop k xs) ≡ b → from ≤ k → k < length xs
    → (old new all : List ℕ) (next : ℕ) → WritesEnded text joined xs from k old new next
    → old ++ flat_map text (glue (slice_range xs from k) (runs_of joined (drop k xs))) ≡ all
    → (next ≤ k + 1) × (new ++ flat_map text
    (glue (slice_range xs next (k + 1)) (runs_of joined (drop (k + 1) xs))) ≡ all)
whole_step text joined xs from k d true e le lt old new all next wrote prior =
    let w = wrote.0 e in
    let rest = flat_map text (glue (slice_range xs (k + 1) (k + 1))
    (runs_of joined (drop (k + 1) xs))) in
    let at : next ≡ k + 1 = w.0 in (
      omega (arith, at),
      ap (λ i. new ++ flat_map text (glue (slice_range xs i (k + 1))
          (runs_of joined (drop (k + 1) xs)))) w.0
          ∙ ap (λ o. o ++ rest) w.1 ∙ append_assoc old (text (slice_range xs from (k + 1))) rest
          ∙ ap (λ rs. old ++ flat_map text rs) (sym (run_ended joined xs from k d le lt e)) ∙ prior,
    )
whole_step text joined xs from k d false e le lt old new all next wrote prior =
    let w = wrote.1 e in
    let at : next ≡ from = w.0 in (
      omega (arith, at, le),
      ap (λ i. new ++ flat_map text (glue (slice_range xs i (k + 1))
          (runs_of joined (drop (k + 1) xs)))) w.0
          ∙ ap (λ o. o ++ flat_map text (glue (slice_range xs from (k + 1))
          (runs_of joined (drop (k + 1) xs)))) w.1
          ∙ ap (λ rs. old ++ flat_map text rs) (sym (run_goes_on joined xs from k d le lt e))
          ∙ prior,
    )

pub next_text : {A : Type 0} (text : List A → List ℕ) (joined : A → A → Bool) (xs : List A)
    (from k : ℕ) → from ≤ k → k < length xs
    → (old new all : List ℕ) (next : ℕ) → WritesEnded text joined xs from k old new next
    → old ++ flat_map text (glue (slice_range xs from k) (runs_of joined (drop k xs))) ≡ all
    → (next ≤ k + 1) × (new ++ flat_map text
    (glue (slice_range xs next (k + 1)) (runs_of joined (drop (k + 1) xs))) ≡ all)
next_text text joined [] from k le lt = absurd (omega (arith, lt))
next_text text joined (x ∷ xs) from k le lt =
    whole_step text joined (x ∷ xs) from k x (ends_run joined (drop k (x ∷ xs))) refl le lt

-- and of texts with commas between

comma_step : {A : Type 0} (text : List A → List ℕ) (joined : A → A → Bool) (xs : List A)
    (from k : ℕ) (d : A) (b : Bool) → ends_run joined (drop k xs) ≡ b → from ≤ k → k < length xs
    → (old new all : List ℕ) (next : ℕ)
    → WritesEnded (λ run. cond (from == 0) (text run) (44 ∷ text run)) joined xs from k old new next
    → old ++ commas (from == 0) (map text
    (glue (slice_range xs from k) (runs_of joined (drop k xs)))) ≡ all
    → (next ≤ k + 1) × (new ++ commas (next == 0) (map text
    (glue (slice_range xs next (k + 1)) (runs_of joined (drop (k + 1) xs)))) ≡ all)
comma_step text joined xs from k d true e le lt old new all next wrote prior =
    let w = wrote.0 e in
    let texts = map text (glue (slice_range xs (k + 1) (k + 1))
    (runs_of joined (drop (k + 1) xs))) in
    let own = text (slice_range xs from (k + 1)) in
    let at : next ≡ k + 1 = w.0 in (
      omega (arith, at),
      ap (λ i. new ++ commas (i == 0) (map text (glue (slice_range xs i (k + 1))
          (runs_of joined (drop (k + 1) xs))))) w.0
          ∙ ap (λ b. new ++ commas b texts) (not_zero k)
          ∙ ap (λ o. o ++ commas false texts) w.1
          ∙ append_assoc old (cond (from == 0) own (44 ∷ own)) (commas false texts)
          ∙ ap (λ t. old ++ t) (sym (comma_first (from == 0) own texts))
          ∙ ap (λ rs. old ++ commas (from == 0) (map text rs))
          (sym (run_ended joined xs from k d le lt e)) ∙ prior,
    )
  where
    not_zero : (k : ℕ) → (k + 1 == 0) ≡ false
    not_zero k = grind (arith, nat_tests)
comma_step text joined xs from k d false e le lt old new all next wrote prior =
    let w = wrote.1 e in
    let at : next ≡ from = w.0 in (
      omega (arith, at, le),
      ap (λ i. new ++ commas (i == 0) (map text (glue (slice_range xs i (k + 1))
          (runs_of joined (drop (k + 1) xs))))) w.0
          ∙ ap (λ o. o ++ commas (from == 0) (map text (glue (slice_range xs from (k + 1))
          (runs_of joined (drop (k + 1) xs))))) w.1
          ∙ ap (λ rs. old ++ commas (from == 0) (map text rs))
          (sym (run_goes_on joined xs from k d le lt e)) ∙ prior,
    )

pub next_comma : {A : Type 0} (text : List A → List ℕ) (joined : A → A → Bool) (xs : List A)
    (from k : ℕ) → from ≤ k → k < length xs
    → (old new all : List ℕ) (next : ℕ)
    → WritesEnded (λ run. cond (from == 0) (text run) (44 ∷ text run)) joined xs from k old new next
    → old ++ commas (from == 0) (map text
    (glue (slice_range xs from k) (runs_of joined (drop k xs)))) ≡ all
    → (next ≤ k + 1) × (new ++ commas (next == 0) (map text
    (glue (slice_range xs next (k + 1)) (runs_of joined (drop (k + 1) xs)))) ≡ all)
next_comma text joined [] from k le lt = absurd (omega (arith, lt))
next_comma text joined (x ∷ xs) from k le lt =
    comma_step text joined (x ∷ xs) from k x (ends_run joined (drop k (x ∷ xs))) refl le lt

-- the text of a run of two and more

two_text : (run : List ℕ) (first last : ℕ) → 1 ≤ length run → (length run ≡ 1 → ⊥)
    → first ≡ slice_index_or run 0 0
    → last ≡ slice_index_or (drop 1 run) (length (drop 1 run) - 1) 0
    → decimal first ++ codes "-" ++ decimal last ≡ span_text run
two_text [] first last some more e f = absurd (omega (arith, some))
two_text (a ∷ []) first last some more e f = absurd (more refl)
two_text (a ∷ b ∷ rest) first last some more e f =
    let back : suc (length rest) - 1 ≡ length rest = omega arith in
    ap (λ x. decimal x ++ codes "-" ++ decimal last) e
    ∙ ap (λ x. decimal a ++ codes "-" ++ decimal x)
    (f ∙ ap (λ i. slice_index_or (b ∷ rest) i 0) back)

pub span_of_more : (run : List ℕ) (first last : ℕ) → 1 ≤ length run → (length run ≡ 1 → ⊥)
    → first ≡ slice_index_or run 0 0
    → last ≡ slice_index_or (slice_range run 1 (length run))
    (length (slice_range run 1 (length run)) - 1) 0
    → decimal first ++ codes "-" ++ decimal last ≡ span_text run
span_of_more run first last some more e f =
    let long = length-drop 1 run in
    let same : slice_range run 1 (length run) ≡ drop 1 run =
    take_all (length run - 1) (drop 1 run) (omega (arith, long)) in
    two_text run first last some more e (f ∙ ap (λ xs. slice_index_or xs (length xs - 1) 0) same)
