-- Readers that decide by first bytes: what is read of a file's first bytes is read of every file with
-- these, and a file that is cut within a field is Short at its end, and not with some bytes more.
use Rattle.std.proofs.Common.{◌≡◌, ◌≢◌, ◌⊎◌, ℕ, ◌+◌, ◌<◌, ◌≤◌, Bool, true, false, List, [], length}
use Rattle.std.proofs.Common.{◌++◌, replicate, take, drop, Result, Ok, Err, refl, sym, ◌∙◌, ap, subst, inl, inr, arith}
use Rattle.std.proofs.lemmas.Bool.{cases_lt, lt-ltb}
use Rattle.std.proofs.lemmas.Bool.Decides.{nat_tests}
use Rattle.std.proofs.lemmas.List.{append_assoc, drop-take, length-append, length-replicate}
use Rattle.std.proofs.lemmas.List.{length-take-le, take-append-le, take-take, take_all}
use Rattle.std.specs.Prelude.{nat_lt, not, ◌&&◌}
use Rattle.std.specs.Int.{Width, w8, byte_len, from_le_bytes}
use Rattle.file_fields.specs.Fields.{◌>>=◌, bytes_at, fault_at, field_at, is_between}
use Rattle.file_fields.specs.Fields.{is_padded_name, name_at, number_at, rule}
use Rattle.file_fields.specs.declared.faults.FileFault.{FileFault}
use Rattle.file_laws.specs.Stands.{Ends}

-- a kind that a field breaks
abbrev pub IsRule : {K : Type 0} → Ends K → K → Type 0
IsRule k kind = (kind ≢ k.short) × (kind ≢ k.rest)

-- what is so where a reader that begins at s gives this of a file
abbrev pub Reads : {K A : Type 0} → Ends K → (ℕ → ℕ → Type 0) → ℕ → (A → ℕ)
    → (List ℕ → Result A (FileFault K)) → List ℕ → Result A (FileFault K) → Type 0
Reads k F s end r bytes (Ok x) = (s ≤ end x) × (end x ≤ length bytes)
    × ((other : List ℕ) → take (end x) other ≡ take (end x) bytes → r other ≡ Ok x)
    × ((n : ℕ) → s ≤ n → n < end x → r (take n bytes) ≡ Err (fault_at n k.short))
Reads k F s end r bytes (Err f) = (f ≡ fault_at (length bytes) k.short)
    ⊎ ((s ≤ f.at) × IsRule k f.kind × (e : ℕ) × F f.at e × (f.at < e) × (e ≤ length bytes)
    × ((other : List ℕ) → take e other ≡ take e bytes → r other ≡ Err f)
    × ((n : ℕ) → s ≤ n → n ≤ f.at → r (take n bytes) ≡ Err (fault_at n k.short)))

-- the file was not too short
abbrev pub IsWhole : {K A : Type 0} → Ends K → Result A (FileFault K) → Type 0
IsWhole k (Ok x) = Unit {0}
IsWhole k (Err f) = f.kind ≢ k.short

-- with some bytes more it is not
abbrev pub Fills : {K A : Type 0} → Ends K → (List ℕ → Result A (FileFault K)) → List ℕ → Type 0
Fills k r bytes = (more : List ℕ) × IsWhole k (r (bytes ++ more))

pub record Steady {K A : Type 0} (k : Ends K) (F : ℕ → ℕ → Type 0) (s : ℕ) (end : A → ℕ)
    (r : List ℕ → Result A (FileFault K)) : Type 0 where
  pub reads : (bytes : List ℕ) → s ≤ length bytes → Reads k F s end r bytes (r bytes)
  pub fills : (bytes : List ℕ) → s ≤ length bytes → Fills k r bytes

pub longer : (s : ℕ) (bytes more : List ℕ) → s ≤ length bytes → s ≤ length (bytes ++ more)
longer s bytes more l = omega (arith, l, length-append bytes more)

-- the same first bytes, fewer of them
pub fewer : (m n : ℕ) (a b : List ℕ) → m ≤ n → take n a ≡ take n b → take m a ≡ take m b
fewer m n a b l e = sym (take-take m n a l) ∙ ap (take m) e ∙ take-take m n b l

-- the same place, said in another way
pub ends_at : {K A : Type 0} (k : Ends K) (F : ℕ → ℕ → Type 0)
    (r : List ℕ → Result A (FileFault K)) (s a b : ℕ) → a ≡ b → Steady k F s (λ (x : A). a) r
    → Steady k F s (λ (x : A). b) r
ends_at {K} {A} k F r s a b e steady = subst (λ (n : ℕ). Steady k F s (λ (x : A). n) r) e steady

-- after it, another; each value that it gives is such
module _ {K A B : Type 0} (k : Ends K) (F : ℕ → ℕ → Type 0) (s : ℕ) (end : A → ℕ) (end2 : B → ℕ)
    (r : List ℕ → Result A (FileFault K)) (f : A → List ℕ → Result B (FileFault K))
    (IsSuch : A → Type 0) (such : (b : List ℕ) (x : A) → r b ≡ Ok x → IsSuch x)
    (next : (x : A) → IsSuch x → Steady k F (end x) end2 (f x))
  where
    abbrev pub both : List ℕ → Result B (FileFault K)
    both b = r b >>= λ x. f x b

    first_ok : (bytes : List ℕ) (x : A) (other : List ℕ) → r other ≡ Ok x
        → both other ≡ f x other
    first_ok bytes x other e = ap (λ (v : Result A (FileFault K)). v >>= λ y. f y other) e

    first_err : (other : List ℕ) (e : FileFault K) → r other ≡ Err e → both other ≡ Err e
    first_err other e h = ap (λ (v : Result A (FileFault K)). v >>= λ y. f y other) h

    second : (bytes : List ℕ) (x : A) → s ≤ end x → end x ≤ length bytes
        → ((other : List ℕ) → take (end x) other ≡ take (end x) bytes → r other ≡ Ok x)
        → ((n : ℕ) → s ≤ n → n < end x → r (take n bytes) ≡ Err (fault_at n k.short))
        → (w : Result B (FileFault K)) → Reads k F (end x) end2 (f x) bytes w
        → Reads k F s end2 both bytes w
    second bytes x l m same cut (Ok y) (p, q, again, short) = (
      omega (arith, l, p),
      q,
      λ other e. first_ok bytes x other (same other (fewer (end x) (end2 y) other bytes p e))
          ∙ again other e,
      λ n a b. elim (cases_lt n (end x)) [
        | inl lt ↦ first_err (take n bytes) (fault_at n k.short) (cut n a lt)
        | inr ge ↦ first_ok bytes x (take n bytes)
            (same (take n bytes) (take-take (end x) n bytes ge)) ∙ short n ge b
      ],
    )
    second bytes x l m same cut (Err e) (inl short) = inl short
    second bytes x l m same cut (Err e) (inr (p, broken, last, field, lt, q, again, short)) =
        inr (
          omega (arith, l, p),
          broken,
          last,
          field,
          lt,
          q,
          λ other h. first_ok bytes x other
              (same other (fewer (end x) last other bytes (omega (arith, p, lt)) h)) ∙ again other h,
          λ n a b. elim (cases_lt n (end x)) [
            | inl under ↦ first_err (take n bytes) (fault_at n k.short) (cut n a under)
            | inr ge ↦ first_ok bytes x (take n bytes)
                (same (take n bytes) (take-take (end x) n bytes ge)) ∙ short n ge b
          ],
        )

    first : (bytes : List ℕ) (v : Result A (FileFault K)) → r bytes ≡ v → Reads k F s end r bytes v
        → Reads k F s end2 both bytes (v >>= λ x. f x bytes)
    first bytes (Ok x) is (l, m, same, cut) =
        second bytes x l m same cut (f x bytes) ((next x (such bytes x is)).reads bytes m)
    first bytes (Err e) is (inl short) = inl short
    first bytes (Err e) is (inr (p, broken, last, field, lt, q, again, short)) = inr (
      p,
      broken,
      last,
      field,
      lt,
      q,
      λ other h. first_err other e (again other h),
      λ n a b. first_err (take n bytes) (fault_at n k.short) (short n a b),
    )

    fill : (bytes more : List ℕ) (v : Result A (FileFault K)) → r (bytes ++ more) ≡ v
        → Reads k F s end r (bytes ++ more) v → IsWhole k v → Fills k both bytes
    fill bytes more (Ok x) is (l, m, same, cut) whole =
        let on = (next x (such (bytes ++ more) x is)).fills (bytes ++ more) m in
        let all : List ℕ = bytes ++ more ++ on.0 in
        let goes = first_ok bytes x all (same all (take-append-le (end x) (bytes ++ more) on.0 m)) in (
          more ++ on.0,
          subst (λ (b : List ℕ). IsWhole k (both b)) (append_assoc bytes more on.0)
              (subst (IsWhole k) (sym goes) on.1),
        )
    fill bytes more (Err f) is reads whole =
        (more, subst (IsWhole k) (sym (first_err (bytes ++ more) f is)) whole)

    filled : Steady k F s end r → (bytes : List ℕ) → s ≤ length bytes → Fills k both bytes
    filled steady bytes l =
        let on = steady.fills bytes l in
        fill bytes on.0 (r (bytes ++ on.0)) refl
        (steady.reads (bytes ++ on.0) (longer s bytes on.0 l)) on.1

    pub then_steady_where : Steady k F s end r → Steady k F s end2 both
    then_steady_where steady = record {
      reads = λ bytes l. first bytes (r bytes) refl (steady.reads bytes l);
      fills = λ bytes l. filled steady bytes l;
    }

-- and of whatever it gives
pub then_steady : {K A B : Type 0} (k : Ends K) (F : ℕ → ℕ → Type 0) (s : ℕ) (end : A → ℕ)
    (end2 : B → ℕ) (r : List ℕ → Result A (FileFault K)) (f : A → List ℕ → Result B (FileFault K))
    → ((x : A) → Steady k F (end x) end2 (f x)) → Steady k F s end r
    → Steady k F s end2 (λ b. r b >>= λ x. f x b)
then_steady k F s end end2 r f next steady = then_steady_where k F s end end2 r f
    (λ x. Unit {0}) (λ b x e. tt) (λ x u. next x) steady

-- a value that nothing more is read for
pub pure_steady : {K A : Type 0} (k : Ends K) (F : ℕ → ℕ → Type 0) (s : ℕ) (x : A)
    → (end : A → ℕ) → end x ≡ s
    → Steady k F s end (λ (b : List ℕ). Ok x)
pure_steady k F s x end e = record {
  reads = λ bytes l. (
    omega (arith, e),
    omega (arith, e, l),
    λ other h. refl,
    λ n a b. absurd (omega (arith, a, b, e)),
  );
  fills = λ bytes l. ([], tt);
}

-- so many bytes
pub bytes_steady : {K : Type 0} (k : Ends K) (F : ℕ → ℕ → Type 0) (len at : ℕ)
    → Steady k F at (λ (x : List ℕ). at + len) (bytes_at k.short len at)
bytes_steady {K} k F len at = record { reads = all_read; fills = all_filled }
  where
    too_short : (xs : List ℕ) → length xs < at + len
        → bytes_at k.short len at xs ≡ Err (fault_at (length xs) k.short)
    too_short xs lt = rw (lt-ltb (length xs) (at + len) lt) refl

    all_there : (xs : List ℕ) → at + len ≤ length xs → bytes_at k.short len at xs
        ≡ Ok (take len (drop at xs))
    all_there xs ge =
        let no : nat_lt (length xs) (at + len) ≡ false = grind (arith, nat_tests) in rw no refl

    long_as : (xs ys : List ℕ) → take (at + len) xs ≡ take (at + len) ys → at + len ≤ length ys
        → at + len ≤ length xs
    long_as xs ys e enough =
        let same : length (take (at + len) xs) ≡ length (take (at + len) ys) = ap length e in
        let own : length (take (at + len) ys) ≡ at + len = length-take-le (at + len) ys enough in
        elim (cases_lt (length xs) (at + len)) [
          | inl lt ↦
              let all = ap (λ (zs : List ℕ). length zs) (take_all (at + len) xs (omega (arith, lt))) in
              absurd (omega (arith, same, own, all, lt))
          | inr ge ↦ ge
        ]

    all_filled : (bytes : List ℕ) → at ≤ length bytes → Fills k (bytes_at k.short len at) bytes
    all_filled bytes l =
        let more : List ℕ = replicate (at + len) 0 in
        let long : at + len ≤ length (bytes ++ more) = omega
        (arith, length-append bytes more, length-replicate {A = ℕ} (at + len) 0) in
        (more, subst (IsWhole k) (sym (all_there (bytes ++ more) long)) tt)

    all_read : (bytes : List ℕ) → at ≤ length bytes
        → Reads k F at (λ (x : List ℕ). at + len) (bytes_at k.short len at) bytes
        (bytes_at k.short len at bytes)
    all_read bytes l = elim (cases_lt (length bytes) (at + len)) [
      | inl short ↦ subst (Reads k F at (λ (x : List ℕ). at + len) (bytes_at k.short len at) bytes)
          (sym (too_short bytes short)) (inl refl)
      | inr whole ↦ subst (Reads k F at (λ (x : List ℕ). at + len) (bytes_at k.short len at) bytes)
          (sym (all_there bytes whole)) (
            omega arith,
            whole,
            λ other e. all_there other (long_as other bytes e whole)
                ∙ ap Ok (sym (drop-take at len other) ∙ ap (drop at) e ∙ drop-take at len bytes),
            λ n a b. too_short (take n bytes) (omega (
              arith,
              length-take-le n bytes (omega
                  (arith, b, whole)),
              b,
            )) ∙ ap (λ (m : ℕ). Err (fault_at m k.short))
                (length-take-le n bytes (omega (arith, b, whole))),
          )
    ]

-- a rule on what the field at this place gave, and then more
module _ {K A B : Type 0} (k : Ends K) (F : ℕ → ℕ → Type 0) (s at e : ℕ) (end : B → ℕ)
    (r : List ℕ → Result A (FileFault K))
    (passes : A → Bool) (kind : K) (f : A → List ℕ → Result B (FileFault K))
    (field : F at e) (under : s ≤ at) (some : at < e) (broken : IsRule k kind)
    (next : (x : A) → Steady k F e end (f x))
  where
    abbrev pub tested : A → List ℕ → Result B (FileFault K)
    tested x b = rule (passes x) at kind >>= λ u. f x b

    abbrev pub all_of : List ℕ → Result B (FileFault K)
    all_of b = r b >>= λ x. tested x b

    so_ok : (x : A) (other : List ℕ) → r other ≡ Ok x → all_of other ≡ tested x other
    so_ok x other h = ap (λ (v : Result A (FileFault K)). v >>= λ y. tested y other) h

    so_err : (other : List ℕ) (g : FileFault K) → r other ≡ Err g → all_of other ≡ Err g
    so_err other g h = ap (λ (v : Result A (FileFault K)). v >>= λ y. tested y other) h

    holds : (x : A) (other : List ℕ) → passes x ≡ true → tested x other ≡ f x other
    holds x other h = rw h refl

    fails : (x : A) (other : List ℕ) → passes x ≡ false
        → tested x other ≡ Err (fault_at at kind)
    fails x other h = rw h refl

    by_rule : (bytes : List ℕ) (x : A) (b : Bool) → passes x ≡ b → e ≤ length bytes
        → ((other : List ℕ) → take e other ≡ take e bytes → r other ≡ Ok x)
        → ((n : ℕ) → s ≤ n → n < e → r (take n bytes) ≡ Err (fault_at n k.short))
        → Reads k F s end all_of bytes (tested x bytes)
    by_rule bytes x true h m same cut =
        subst (Reads k F s end all_of bytes) (sym (holds x bytes h))
        (after (f x bytes) ((next x).reads bytes m))
      where
        after : (w : Result B (FileFault K)) → Reads k F e end (f x) bytes w
            → Reads k F s end all_of bytes w
        after (Ok y) (p, q, again, short) = (
          omega (arith, p, under, some),
          q,
          λ other g. so_ok x other (same other (fewer e (end y) other bytes p g))
              ∙ holds x other h ∙ again other g,
          λ n a b. elim (cases_lt n e) [
            | inl lt ↦ so_err (take n bytes) (fault_at n k.short) (cut n a lt)
            | inr ge ↦ so_ok x (take n bytes) (same (take n bytes) (take-take e n bytes ge))
                ∙ holds x (take n bytes) h ∙ short n ge b
          ],
        )
        after (Err g) (inl short) = inl short
        after (Err g) (inr (p, own, last, place, lt, q, again, short)) = inr (
          omega (arith, p, under, some),
          own,
          last,
          place,
          lt,
          q,
          λ other i. so_ok x other
              (same other (fewer e last other bytes (omega (arith, p, lt)) i))
              ∙ holds x other h ∙ again other i,
          λ n a b. elim (cases_lt n e) [
            | inl less ↦ so_err (take n bytes) (fault_at n k.short) (cut n a less)
            | inr ge ↦ so_ok x (take n bytes) (same (take n bytes) (take-take e n bytes ge))
                ∙ holds x (take n bytes) h ∙ short n ge b
          ],
        )
    by_rule bytes x false h m same cut =
        subst (Reads k F s end all_of bytes) (sym (fails x bytes h)) (inr (
          under,
          broken,
          e,
          field,
          some,
          m,
          λ other g. so_ok x other (same other g) ∙ fails x other h,
          λ n a b. so_err (take n bytes) (fault_at n k.short)
              (cut n a (omega (arith, b, some))),
        ))

    from : (bytes : List ℕ) (v : Result A (FileFault K)) → r bytes ≡ v
        → Reads k F s (λ (x : A). e) r bytes v → Reads k F s end all_of bytes (all_of bytes)
    from bytes (Ok x) h (l, m, same, cut) =
        subst (Reads k F s end all_of bytes) (sym (so_ok x bytes h))
        (by_rule bytes x (passes x) refl m same cut)
    from bytes (Err g) h (inl short) =
        subst (Reads k F s end all_of bytes) (sym (so_err bytes g h)) (inl short)
    from bytes (Err g) h (inr (p, own, last, place, lt, q, again, short)) =
        subst (Reads k F s end all_of bytes) (sym (so_err bytes g h)) (inr (
          p,
          own,
          last,
          place,
          lt,
          q,
          λ other i. so_err other g (again other i),
          λ n a b. so_err (take n bytes) (fault_at n k.short) (short n a b),
        ))

    fill_tested : (bytes more : List ℕ) (x : A) (b : Bool) → passes x ≡ b
        → e ≤ length (bytes ++ more)
        → ((other : List ℕ) → take e other ≡ take e (bytes ++ more) → r other ≡ Ok x)
        → Fills k all_of bytes
    fill_tested bytes more x true h m same =
        let on = (next x).fills (bytes ++ more) m in
        let all : List ℕ = bytes ++ more ++ on.0 in
        let goes = so_ok x all (same all (take-append-le e (bytes ++ more) on.0 m)) ∙ holds x all h in (
          more ++ on.0,
          subst (λ (b : List ℕ). IsWhole k (all_of b)) (append_assoc bytes more on.0)
              (subst (IsWhole k) (sym goes) on.1),
        )
    fill_tested bytes more x false h m same =
        let all : List ℕ = bytes ++ more in
        (more, subst (IsWhole k) (sym (so_ok x all (same all refl) ∙ fails x all h)) broken.0)

    fill_test : (bytes more : List ℕ) (v : Result A (FileFault K)) → r (bytes ++ more) ≡ v
        → Reads k F s (λ (x : A). e) r (bytes ++ more) v → IsWhole k v → Fills k all_of bytes
    fill_test bytes more (Ok x) is (l, m, same, cut) whole =
        fill_tested bytes more x (passes x) refl m same
    fill_test bytes more (Err g) is reads whole =
        (more, subst (IsWhole k) (sym (so_err (bytes ++ more) g is)) whole)

    test_fills : Steady k F s (λ (x : A). e) r → (bytes : List ℕ) → s ≤ length bytes
        → Fills k all_of bytes
    test_fills steady bytes l =
        let on = steady.fills bytes l in
        fill_test bytes on.0 (r (bytes ++ on.0)) refl
        (steady.reads (bytes ++ on.0) (longer s bytes on.0 l)) on.1

    pub test_steady : Steady k F s (λ (x : A). e) r → Steady k F s end all_of
    test_steady steady = record {
      reads = λ bytes l. from bytes (r bytes) refl (steady.reads bytes l);
      fills = λ bytes l. test_fills steady bytes l;
    }

-- a number
pub number_steady : {K : Type 0} (k : Ends K) (F : ℕ → ℕ → Type 0) (w : Width) (at : ℕ)
    → Steady k F at (λ (n : ℕ). at + byte_len w) (number_at k.short w at)
number_steady k F w at = then_steady k F at (λ x. at + byte_len w) (λ n. at + byte_len w)
    (bytes_at k.short (byte_len w) at) (λ field b. Ok (from_le_bytes w field))
    (λ field. pure_steady k F (at + byte_len w) (from_le_bytes w field) (λ n. at + byte_len w) refl)
    (bytes_steady k F (byte_len w) at)

-- a number that passes a test
pub field_steady : {K : Type 0} (k : Ends K) (F : ℕ → ℕ → Type 0) (w : Width) (passes : ℕ → Bool)
    (kind : K) (at : ℕ) → F at (at + byte_len w) → 0 < byte_len w → IsRule k kind
    → Steady k F at (λ (n : ℕ). at + byte_len w) (field_at k.short w passes kind at)
field_steady k F w passes kind at field some broken =
    test_steady k F at at (at + byte_len w) (λ n. at + byte_len w)
    (number_at k.short w at) passes kind (λ n b. Ok n) field (omega arith)
    (omega (arith, some)) broken
    (λ n. pure_steady k F (at + byte_len w) n (λ m. at + byte_len w) refl)
    (number_steady k F w at)

-- a name that is not taken
pub name_steady : {K : Type 0} (k : Ends K) (F : ℕ → ℕ → Type 0) (kind : K)
    (taken : List ℕ → Bool) (at : ℕ) → F at (at + 1) → F (at + 1) (at + 17) → IsRule k kind
    → Steady k F at (λ (name : List ℕ). at + 17) (λ b. name_at k.short kind taken at b)
unfolding name_at
name_steady k F kind taken at first second broken =
    then_steady k F at (λ len. at + 1) (λ name. at + 17)
    (field_at k.short w8 (is_between 1 16) kind at)
    (λ len b. bytes_at k.short 16 (at + 1) b >>= λ field.
    rule (is_padded_name len field && not (taken (take len field))) (at + 1) kind
    >>= λ new. Ok (take len field))
    (λ len. test_steady k F (at + 1) (at + 1) (at + 17) (λ name. at + 17)
    (bytes_at k.short 16 (at + 1))
    (λ field. is_padded_name len field && not (taken (take len field))) kind
    (λ field b. Ok (take len field)) second (omega arith) (omega arith) broken
    (λ field. pure_steady k F (at + 17) (take len field) (λ name. at + 17) refl)
    (ends_at k F (bytes_at k.short 16 (at + 1)) (at + 1) (at + 1 + 16) (at + 17) (omega arith)
    (bytes_steady k F 16 (at + 1))))
    (field_steady k F w8 (is_between 1 16) kind at first (omega arith) broken)

-- bytes that are judged whole, and nothing more is read
module _ {K A B : Type 0} (k : Ends K) (F : ℕ → ℕ → Type 0) (at e : ℕ)
    (r : List ℕ → Result A (FileFault K)) (g : A → Result B (FileFault K))
    (field : F at e) (some : at < e)
    (judges : (x : A) (f : FileFault K) → g x ≡ Err f → (f.at ≡ at) × IsRule k f.kind)
  where
    abbrev pub judged : List ℕ → Result B (FileFault K)
    judged b = r b >>= g

    judged_ok : (x : A) (other : List ℕ) → r other ≡ Ok x → judged other ≡ g x
    judged_ok x other h = ap (λ (v : Result A (FileFault K)). v >>= g) h

    judged_err : (other : List ℕ) (f : FileFault K) → r other ≡ Err f → judged other ≡ Err f
    judged_err other f h = ap (λ (v : Result A (FileFault K)). v >>= g) h

    by_answer : (bytes : List ℕ) (x : A) (v : Result B (FileFault K)) → g x ≡ v
        → at ≤ e → e ≤ length bytes
        → ((other : List ℕ) → take e other ≡ take e bytes → r other ≡ Ok x)
        → ((n : ℕ) → at ≤ n → n < e → r (take n bytes) ≡ Err (fault_at n k.short))
        → Reads k F at (λ (y : B). e) judged bytes v
    by_answer bytes x (Ok y) is l m same cut = (
      l,
      m,
      λ other h. judged_ok x other (same other h) ∙ is,
      λ n a b. judged_err (take n bytes) (fault_at n k.short) (cut n a b),
    )
    by_answer bytes x (Err f) is l m same cut =
        let there = judges x f is in
        let place = there.0 in
        inr (
          omega (arith, place),
          there.1,
          e,
          subst (λ (n : ℕ). F n e) (sym place) field,
          omega (arith, place, some),
          m,
          λ other h. judged_ok x other (same other h) ∙ is,
          λ n a b. judged_err (take n bytes) (fault_at n k.short)
              (cut n a (omega (arith, b, place, some))),
        )

    by_bytes : (bytes : List ℕ) (v : Result A (FileFault K)) → r bytes ≡ v
        → Reads k F at (λ (x : A). e) r bytes v
        → Reads k F at (λ (y : B). e) judged bytes (judged bytes)
    by_bytes bytes (Ok x) is (l, m, same, cut) =
        subst (Reads k F at (λ (y : B). e) judged bytes) (sym (judged_ok x bytes is))
        (by_answer bytes x (g x) refl l m same cut)
    by_bytes bytes (Err f) is (inl short) =
        subst (Reads k F at (λ (y : B). e) judged bytes) (sym (judged_err bytes f is)) (inl short)
    by_bytes bytes (Err f) is (inr (p, own, last, place, lt, q, again, short)) =
        subst (Reads k F at (λ (y : B). e) judged bytes) (sym (judged_err bytes f is)) (inr (
          p,
          own,
          last,
          place,
          lt,
          q,
          λ other i. judged_err other f (again other i),
          λ n a b. judged_err (take n bytes) (fault_at n k.short) (short n a b),
        ))

    whole_judged : (x : A) (v : Result B (FileFault K)) → g x ≡ v → IsWhole k v
    whole_judged x (Ok y) is = tt
    whole_judged x (Err f) is = (judges x f is).1.0

    fill_judged : (bytes more : List ℕ) (v : Result A (FileFault K)) → r (bytes ++ more) ≡ v
        → IsWhole k v → Fills k judged bytes
    fill_judged bytes more (Ok x) is whole = (
      more,
      subst (IsWhole k) (sym (judged_ok x (bytes ++ more) is)) (whole_judged x (g x) refl),
    )
    fill_judged bytes more (Err f) is whole =
        (more, subst (IsWhole k) (sym (judged_err (bytes ++ more) f is)) whole)

    judged_fills : Steady k F at (λ (x : A). e) r → (bytes : List ℕ) → at ≤ length bytes
        → Fills k judged bytes
    judged_fills steady bytes l =
        let on = steady.fills bytes l in
        fill_judged bytes on.0 (r (bytes ++ on.0)) refl on.1

    pub judged_steady : Steady k F at (λ (x : A). e) r → Steady k F at (λ (y : B). e) judged
    judged_steady steady = record {
      reads = λ bytes l. by_bytes bytes (r bytes) refl (steady.reads bytes l);
      fills = λ bytes l. judged_fills steady bytes l;
    }
