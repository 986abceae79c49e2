-- Readers that go to the end of the file, and the faults of whole files.
use Rattle.std.proofs.Common.{◌≡◌, ◌⊎◌, ℕ, ◌+◌, ◌-◌, ◌<◌, ◌≤◌, Bool, true, false, List, []}
use Rattle.std.proofs.Common.{◌++◌, length, take}
use Rattle.std.proofs.Common.{Result, Ok, Err, refl, sym, ◌∙◌, ap, subst, inl, inr, arith}
use Rattle.std.proofs.lemmas.Bool.{cases_lt, eq-eqb}
use Rattle.std.proofs.lemmas.Bool.Decides.{nat_tests}
use Rattle.std.proofs.lemmas.List.{append_assoc, length-take-le, take-append-le, take-take}
use Rattle.std.proofs.Math.Seq.{take-append-add}
use Rattle.std.specs.Prelude.{◌==◌}
use Rattle.file_fields.specs.Fields.{◌>>=◌, fault_at, rule}
use Rattle.file_fields.specs.declared.faults.FileFault.{FileFault}
use Rattle.file_laws.specs.Stands.{BreaksField, Ends, EndsEarly, FaultsStand, IsFaultOf}
use Rattle.file_laws.proofs.Steady.{Fills, IsRule, IsWhole, Reads, Steady, fewer, longer}

abbrev pub AtRule : {K A : Type 0} → Ends K → (ℕ → ℕ → Type 0) → ℕ
    → (List ℕ → Result A (FileFault K)) → List ℕ → FileFault K → Type 0
AtRule k F s r bytes f = (s ≤ f.at) × IsRule k f.kind × (e : ℕ) × F f.at e × (f.at < e)
    × (e ≤ length bytes)
    × ((other : List ℕ) → take e other ≡ take e bytes → r other ≡ Err f)
    × ((n : ℕ) → s ≤ n → n ≤ f.at → r (take n bytes) ≡ Err (fault_at n k.short))

abbrev pub AtRest : {K A : Type 0} → Ends K → ℕ → (List ℕ → Result A (FileFault K)) → List ℕ
    → FileFault K → Type 0
AtRest {K} {A} k s r bytes f = (f.kind ≡ k.rest) × (s ≤ f.at) × (f.at < length bytes)
    × (x : A) × (r (take f.at bytes) ≡ Ok x)

abbrev pub Closes : {K A : Type 0} → Ends K → (ℕ → ℕ → Type 0) → ℕ
    → (List ℕ → Result A (FileFault K)) → List ℕ → Result A (FileFault K) → Type 0
Closes k F s r bytes (Ok x) = (other : List ℕ)
    → take (length bytes) other ≡ take (length bytes) bytes → length bytes < length other
    → r other ≡ Err (fault_at (length bytes) k.rest)
Closes k F s r bytes (Err f) = (f ≡ fault_at (length bytes) k.short)
    ⊎ (AtRule k F s r bytes f ⊎ AtRest k s r bytes f)

pub record Closing {K A : Type 0} (k : Ends K) (F : ℕ → ℕ → Type 0) (s : ℕ)
    (r : List ℕ → Result A (FileFault K)) : Type 0 where
  pub closes : (bytes : List ℕ) → s ≤ length bytes → Closes k F s r bytes (r bytes)
  pub fills : (bytes : List ℕ) → s ≤ length bytes → Fills k r bytes

module _ {K A B : Type 0} (k : Ends K) (F : ℕ → ℕ → Type 0) (s : ℕ) (end : A → ℕ)
    (r : List ℕ → Result A (FileFault K)) (f : A → List ℕ → Result B (FileFault K))
    (next : (x : A) → Closing k F (end x) (f x))
  where
    abbrev pub all : List ℕ → Result B (FileFault K)
    all b = r b >>= λ x. f x b

    on_ok : (x : A) (other : List ℕ) → r other ≡ Ok x → all other ≡ f x other
    on_ok x other e = ap (λ (v : Result A (FileFault K)). v >>= λ y. f y other) e

    on_err : (other : List ℕ) (e : FileFault K) → r other ≡ Err e → all other ≡ Err e
    on_err other e h = ap (λ (v : Result A (FileFault K)). v >>= λ y. f y other) h

    then_closes : (bytes : List ℕ) (x : A) → s ≤ end x → end x ≤ length bytes
        → ((other : List ℕ) → take (end x) other ≡ take (end x) bytes → r other ≡ Ok x)
        → ((n : ℕ) → s ≤ n → n < end x → r (take n bytes) ≡ Err (fault_at n k.short))
        → (w : Result B (FileFault K)) → Closes k F (end x) (f x) bytes w → Closes k F s all bytes w
    then_closes bytes x l m same cut (Ok y) h = λ other e lt.
        on_ok x other (same other (fewer (end x) (length bytes) other bytes m e)) ∙ h other e lt
    then_closes bytes x l m same cut (Err g) (inl short) = inl short
    then_closes bytes x l m same cut (Err g)
        (inr (inl (p, broken, last, field, lt, q, again, short))) = inr (inl (
          omega (arith, l, p),
          broken,
          last,
          field,
          lt,
          q,
          λ other h. on_ok x other
              (same other (fewer (end x) last other bytes (omega (arith, p, lt)) h)) ∙ again other h,
          λ n a b. elim (cases_lt n (end x)) [
            | inl under ↦ on_err (take n bytes) (fault_at n k.short) (cut n a under)
            | inr ge ↦ on_ok x (take n bytes)
                (same (take n bytes) (take-take (end x) n bytes ge)) ∙ short n ge b
          ],
        ))
    then_closes bytes x l m same cut (Err g) (inr (inr (kind, p, lt, y, is))) = inr (inr (
      kind,
      omega (arith, l, p),
      lt,
      y,
      on_ok x (take g.at bytes) (same (take g.at bytes) (take-take (end x) g.at bytes p)) ∙ is,
    ))

    first_closes : (bytes : List ℕ) (v : Result A (FileFault K)) → Reads k F s end r bytes v
        → Closes k F s all bytes (v >>= λ x. f x bytes)
    first_closes bytes (Ok x) (l, m, same, cut) =
        then_closes bytes x l m same cut (f x bytes) ((next x).closes bytes m)
    first_closes bytes (Err e) (inl short) = inl short
    first_closes bytes (Err e) (inr (p, broken, last, field, lt, q, again, short)) = inr (inl (
      p,
      broken,
      last,
      field,
      lt,
      q,
      λ other h. on_err other e (again other h),
      λ n a b. on_err (take n bytes) (fault_at n k.short) (short n a b),
    ))

    fill : (bytes more : List ℕ) (v : Result A (FileFault K)) → r (bytes ++ more) ≡ v
        → Reads k F s end r (bytes ++ more) v → IsWhole k v → Fills k all bytes
    fill bytes more (Ok x) is (l, m, same, cut) whole =
        let on = (next x).fills (bytes ++ more) m in
        let longest : List ℕ = bytes ++ more ++ on.0 in
        let goes = on_ok x longest
        (same longest (take-append-le (end x) (bytes ++ more) on.0 m)) in (
          more ++ on.0,
          subst (λ (b : List ℕ). IsWhole k (all b)) (append_assoc bytes more on.0)
              (subst (IsWhole k) (sym goes) on.1),
        )
    fill bytes more (Err g) is reads whole =
        (more, subst (IsWhole k) (sym (on_err (bytes ++ more) g is)) whole)

    filled : Steady k F s end r → (bytes : List ℕ) → s ≤ length bytes → Fills k all bytes
    filled steady bytes l =
        let on = steady.fills bytes l in
        fill bytes on.0 (r (bytes ++ on.0)) refl
        (steady.reads (bytes ++ on.0) (longer s bytes on.0 l)) on.1

    pub closing_after : Steady k F s end r → Closing k F s all
    closing_after steady = record {
      closes = λ bytes l. first_closes bytes (r bytes) (steady.reads bytes l);
      fills = λ bytes l. filled steady bytes l;
    }

-- and there it ends
abbrev at_end : {K A : Type 0} → Ends K → ℕ → A → List ℕ → Result A (FileFault K)
at_end k n x b = rule (length b == n) n k.rest >>= λ ended. Ok x

module _ {K A : Type 0} (k : Ends K) (F : ℕ → ℕ → Type 0) (n : ℕ) (x : A)
    (apart : k.short ≡ k.rest → ⊥)
  where
    goes_on : (other : List ℕ) → n < length other → at_end k n x other ≡ Err (fault_at n k.rest)
    goes_on other lt =
        let no : (length other == n) ≡ false = grind (arith, nat_tests) in rw no refl

    decide : (bytes : List ℕ) (t : Bool) → (length bytes == n) ≡ t → n ≤ length bytes
        → Closes k F n (at_end k n x) bytes (at_end k n x bytes)
    decide bytes true e l =
        let is : length bytes ≡ n = grind (arith, nat_tests) in
        rw e (λ other same lt. subst (λ (m : ℕ). at_end k n x other ≡ Err (fault_at m k.rest))
        (sym is) (goes_on other (omega (arith, lt, is))))
    decide bytes false e l =
        let more : n < length bytes = grind (arith, nat_tests) in
        let long = length-take-le n bytes l in
        let is : (length (take n bytes) == n) ≡ true = eq-eqb (length (take n bytes)) n long in
        rw e (inr (inr (refl, omega arith, more, x, rw is refl)))

    whole : (bytes : List ℕ) (t : Bool) → (length bytes == n) ≡ t
        → IsWhole k (at_end k n x bytes)
    whole bytes true e = rw e tt
    whole bytes false e = rw e (λ h. apart (sym h))

    pub ended_at : Closing k F n (λ b. rule (length b == n) n k.rest >>= λ ended. Ok x)
    ended_at = record {
      closes = λ bytes l. decide bytes (length bytes == n) refl l;
      fills = λ bytes l. ([], whole (bytes ++ []) (length (bytes ++ []) == n) refl);
    }

-- what is told of a whole file is one of its faults

not_ok : {K A : Type 0} (f : FileFault K) (x : A) (v : Result A (FileFault K)) → v ≡ Err f
    → v ≡ Ok x → ⊥
not_ok f x (Ok y) e h = absurd (cc)
not_ok f x (Err y) e h = absurd (cc)

module _ {K A : Type 0} (k : Ends K) (F : ℕ → ℕ → Type 0) (r : List ℕ → Result A (FileFault K))
    (apart : k.short ≡ k.rest → ⊥) (closing : Closing k F 0 r)
  where
    abbrev broken_at : (bytes : List ℕ) (fault : FileFault K) → AtRule k F 0 r bytes fault
        → BreaksField k F r bytes fault
    broken_at bytes fault (p, broken, last, place, lt, q, again, cut) = record {
      end = last;
      field = place;
      whole = q;
      cut = cut fault.at (omega arith) (omega arith);
      refused = λ other same found. not_ok fault found.0 (r other) (again other same) found.1;
    }

    is_kind : (v : Result A (FileFault K)) (f g : FileFault K) → v ≡ Err f → v ≡ Err g
        → f.kind ≡ g.kind
    is_kind v f g e h = ap kind_of (sym e ∙ h)
      where
        kind_of : Result A (FileFault K) → K
        kind_of (Ok x) = f.kind
        kind_of (Err g) = g.kind

    not_cut : (bytes : List ℕ) (n : ℕ) (x : A) → r bytes ≡ Err (fault_at (length bytes) k.short)
        → n < length bytes → r (take n bytes) ≡ Ok x → ⊥
    not_cut bytes n x short lt is =
        let long = length-take-le n bytes (omega (arith, lt)) in
        let closes : Closes k F 0 r (take n bytes) (Ok x) =
        subst (Closes {K = K} {A = A} k F 0 r (take n bytes)) is (closing.closes (take n bytes)
        (omega arith)) in
        let told = closes bytes
        (rw long (sym (take-take n n bytes (omega arith)))) (omega (arith, lt, long)) in
        apart (is_kind (r bytes) (fault_at (length bytes) k.short)
        (fault_at (length (take n bytes)) k.rest) short told)

    early : (bytes more : List ℕ) (v : Result A (FileFault K)) → r (bytes ++ more) ≡ v
        → r bytes ≡ Err (fault_at (length bytes) k.short)
        → Closes k F 0 r (bytes ++ more) v → IsWhole k v → EndsEarly k F r bytes
    early bytes more (Ok x) is short closes whole =
        record { more = more; goes_on = inl (x, is) }
    early bytes more (Err f) is short (inl e) whole =
        absurd (whole (ap (λ (g : FileFault K). g.kind) e))
    early bytes more (Err f) is short (inr (inl (p, broken, last, place, lt, q, again, cut))) whole =
        elim (cases_lt (length bytes) last) [
          | inl past ↦ record {
            more = more;
            goes_on = inr (record {
              fault = f;
              kind = whole;
              told = is;
              breaks = broken_at (bytes ++ more) f (p, broken, last, place, lt, q, again, cut);
              past = past;
            });
          }
          | inr ge ↦
              let told = again bytes (sym (take-append-le last bytes more ge)) in
              absurd (broken.0 (is_kind (r bytes) f (fault_at (length bytes) k.short) told short))
        ]
    early bytes more (Err f) is short (inr (inr (kind, p, lt, x, ok))) whole =
        elim (cases_lt f.at (length bytes)) [
          | inl under ↦
              let cut : take f.at (bytes ++ more) ≡ take f.at bytes =
              take-append-le f.at bytes more (omega (arith, under)) in
              absurd (not_cut bytes f.at x short under
              (subst (λ (b : List ℕ). r b ≡ Ok x) cut ok))
          | inr ge ↦
              let count : ℕ = f.at - length bytes in
              let sum : length bytes + count ≡ f.at = omega (arith, ge) in
              let cut : take f.at (bytes ++ more) ≡ bytes ++ take count more =
              subst (λ (n : ℕ). take n (bytes ++ more) ≡ bytes ++ take count more) sum
              (take-append-add bytes more count) in
              record {
                more = take count more;
                goes_on = inl (x, subst (λ (b : List ℕ). r b ≡ Ok x) cut ok);
              }
        ]

    ends_early : (bytes : List ℕ) → r bytes ≡ Err (fault_at (length bytes) k.short)
        → EndsEarly k F r bytes
    ends_early bytes short =
        let on = closing.fills bytes (omega arith) in
        early bytes on.0 (r (bytes ++ on.0)) refl short (closing.closes (bytes ++ on.0) (omega arith))
        on.1

    stands : (bytes : List ℕ) (fault : FileFault K) → r bytes ≡ Err fault
        → Closes k F 0 r bytes (Err fault) → IsFaultOf k F r bytes fault
    stands bytes fault is (inl short) =
        let kind : fault.kind ≡ k.short = ap (λ (f : FileFault K). f.kind) short in
        record {
          short = λ e. (
            ap (λ (f : FileFault K). f.at) short,
            ends_early bytes (is ∙ ap (λ (f : FileFault K). Err f) short),
          );
          rest = λ e. absurd (apart (sym kind ∙ e));
          field = λ e h. absurd (e kind);
        }
    stands bytes fault is (inr (inl (p, broken, last, place, lt, q, again, cut))) = record {
      short = λ e. absurd (broken.0 e);
      rest = λ e. absurd (broken.1 e);
      field = λ e h. broken_at bytes fault (p, broken, last, place, lt, q, again, cut);
    }
    stands bytes fault is (inr (inr (kind, p, lt, found, ok))) = record {
      short = λ e. absurd (apart (sym e ∙ kind));
      rest = λ e. (lt, (found, ok));
      field = λ e h. absurd (h kind);
    }

    pub closing_stands : FaultsStand k F r
    closing_stands bytes fault e = stands bytes fault e
        (subst (Closes {K = K} {A = A} k F 0 r bytes) e (closing.closes bytes (omega arith)))
