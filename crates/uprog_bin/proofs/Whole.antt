-- The spelling of a program is read as the program.
use Rattle.uprog_bin.proofs.Common.{◌≡◌, ◌≢◌, ℕ, zero, suc, ◌+◌, ◌-◌, ◌*◌, ◌/◌, ◌%◌, ◌^◌, ◌<◌, ◌≤◌}
use Rattle.uprog_bin.proofs.Common.{Bool, true, false, eqb, ltb, leb, List, [], ◌∷◌, ◌++◌, length}
use Rattle.uprog_bin.proofs.Common.{get_or, Ok, refl, sym, ap, ◌∙◌, subst, arith, append_assoc}
use Rattle.uprog_bin.proofs.Common.{append-nil, ◌⊎◌, inl, inr, slice_get, codes, cond, w8, w16, w32}
use Rattle.uprog_bin.proofs.Common.{to_le_bytes, flat_map, AllByRecursion, AllPairs, bytes_eq}
use Rattle.uprog_bin.proofs.Common.{eqb-true, bytes_eq-Decides, length-append, drop_all}
use Rattle.uprog_bin.proofs.Common.{flat_map-cons, Kind, Word, Bit, Shape, Microprogram, IsEntry}
use Rattle.uprog_bin.proofs.Common.{IsProgram, name_bytes, is_between, Holds, Holds-front}
use Rattle.uprog_bin.proofs.Common.{Holds-back, bytes_again, wide8, wide16, wide32}
use Rattle.std.specs.Prelude.{not, ◌&&◌, Option, Some, None}
use Rattle.std.proofs.lemmas.Bool.{eq-eqb, lt-ltb, le-leb}
use Rattle.std.proofs.lemmas.Option.{slice_get_within}
use Rattle.std.proofs.lemmas.List.{get_or_append_left}
use Rattle.std.proofs.Math.Seq.{get_or-append_seam}
use Rattle.uprog_code.specs.declared.code.Uop.TheVariants.{Done}
use Rattle.file_fields.proofs.NameField.{name_again}
use Rattle.file_fields.proofs.Held.{number_again, field_again}
use Rattle.file_fields.proofs.Padded.{is-between, name_size}
use Rattle.uprog_bin.specs.declared.fault.ProgKind.TheVariants as kinds
use Rattle.uprog_bin.specs.Spelling.{kind_bits, result_bit, second_bits, kinds_byte, shape_bytes}
use Rattle.uprog_bin.specs.Spelling.{HasVersion, head_bytes, directory_bytes, code_bytes}
use Rattle.uprog_bin.specs.Spelling.{opening_bytes, program_bytes}
use Rattle.uprog_bin.specs.Reading.{kind_of_bit, kinds_of, is_kinds, shape_at, Listing, has_name}
use Rattle.uprog_bin.specs.Reading.{listing_at, directory_at, codes_at, codes_start, total_count}
use Rattle.uprog_bin.specs.Reading.{is_version, opening_in, program_in, second_of}
use Rattle.uprog_bin.proofs.Records.{IsShape}
use Rattle.uprog_bin.proofs.Numbers.{version_small}
use Rattle.uprog_bin.proofs.KindBits.{kind_bits_small}
use Rattle.uprog_bin.proofs.Again.{uops_again, length-code}

-- ---- kinds

tops : ℕ → ℕ → ℕ
tops q zero = q
tops q (suc m) = 2 * tops q m

kinds_back : (m : ℕ) (ks : List Kind) (q n : ℕ) → length ks ≡ m → n ≡ kind_bits ks + tops q m
    → kinds_of m n ≡ ks
unfolding tops
kinds_back zero [] q n e h = refl
kinds_back zero (k ∷ ks) q n e h = absurd (omega arith)
kinds_back (suc m) [] q n e h = absurd (omega arith)
kinds_back (suc m) (Word ∷ ks) q n e h =
    let low : n % 2 ≡ 1 = omega arith in
    let high : n / 2 ≡ kind_bits ks + tops q m = omega arith in
    ap (λ b. kind_of_bit b ∷ kinds_of m (n / 2)) low
    ∙ ap (λ (r : List Kind). Word ∷ r) (kinds_back m ks q (n / 2) (omega arith) high)
kinds_back (suc m) (Bit ∷ ks) q n e h =
    let low : n % 2 ≡ 0 = omega arith in
    let high : n / 2 ≡ kind_bits ks + tops q m = omega arith in
    ap (λ b. kind_of_bit b ∷ kinds_of m (n / 2)) low
    ∙ ap (λ (r : List Kind). Bit ∷ r) (kinds_back m ks q (n / 2) (omega arith) high)

sixteens : (m t : ℕ) → 1 ≤ m → m ≤ 4 → (q : ℕ) × (16 * t ≡ tops q m)
unfolding tops
sixteens zero t l h = absurd (omega arith)
sixteens (suc zero) t l h = (8 * t, omega arith)
sixteens (suc (suc zero)) t l h = (4 * t, omega arith)
sixteens (suc (suc (suc zero))) t l h = (2 * t, omega arith)
sixteens (suc (suc (suc (suc zero)))) t l h = (t, omega arith)
sixteens (suc (suc (suc (suc (suc m))))) t l h = absurd (omega arith)

-- the results' bits from bit 4 on, as a number
abbrev top_of : Kind → Option Kind → ℕ
top_of Word None = 1
top_of Word (Some Bit) = 3
top_of Word (Some Word) = 7
top_of Bit None = 0
top_of Bit (Some Bit) = 2
top_of Bit (Some Word) = 6

top_is : (r : Kind) (o : Option Kind) → result_bit r + second_bits o ≡ 16 * top_of r o
top_is Word None = refl
top_is Word (Some Bit) = refl
top_is Word (Some Word) = refl
top_is Bit None = refl
top_is Bit (Some Bit) = refl
top_is Bit (Some Word) = refl

top_small : (r : Kind) (o : Option Kind) → top_of r o < 8
top_small Word None = omega arith
top_small Word (Some Bit) = omega arith
top_small Word (Some Word) = omega arith
top_small Bit None = omega arith
top_small Bit (Some Bit) = omega arith
top_small Bit (Some Word) = omega arith

result_back : (r : Kind) (o : Option Kind) → kind_of_bit (top_of r o % 2) ≡ r
result_back Word None = refl
result_back Word (Some Bit) = refl
result_back Word (Some Word) = refl
result_back Bit None = refl
result_back Bit (Some Bit) = refl
result_back Bit (Some Word) = refl

second_back : (r : Kind) (o : Option Kind) → second_of (top_of r o / 2) ≡ o
second_back Word None = refl
second_back Word (Some Bit) = refl
second_back Word (Some Word) = refl
second_back Bit None = refl
second_back Bit (Some Bit) = refl
second_back Bit (Some Word) = refl

-- a version that is not 1, or no second result
results_pass : (c : Bool) (r : Kind) (o : Option Kind) → (c ≡ true → o ≡ None)
    → (ltb (top_of r o) (cond c 2 8) && not (eqb (top_of r o / 2) 2)) ≡ true
results_pass true Word None h = refl
results_pass true Bit None h = refl
results_pass true r (Some k) h = let e : Some k ≡ None = h refl in absurd cc
results_pass false Word None h = refl
results_pass false Word (Some Bit) h = refl
results_pass false Word (Some Word) h = refl
results_pass false Bit None h = refl
results_pass false Bit (Some Bit) h = refl
results_pass false Bit (Some Word) h = refl

-- fewer kinds, fewer bits
kinds_below : (m : ℕ) (ks : List Kind) → length ks ≡ m → m ≤ 4 → kind_bits ks < 2 ^ m
kinds_below zero [] e h = omega arith
kinds_below zero (k ∷ ks) e h = absurd (omega arith)
kinds_below (suc m) [] e h = absurd (omega arith)
kinds_below (suc m) (k ∷ ks) e h = step m k (kinds_below m ks (omega arith) (omega arith)) h
  where
    twice : (m : ℕ) → m ≤ 3 → 2 ^ suc m ≡ 2 * 2 ^ m
    twice zero h = refl
    twice (suc zero) h = refl
    twice (suc (suc zero)) h = refl
    twice (suc (suc (suc zero))) h = refl
    twice (suc (suc (suc (suc m)))) h = absurd (omega arith)

    step : (m : ℕ) (k : Kind) → kind_bits ks < 2 ^ m → suc m ≤ 4 → kind_bits (k ∷ ks) < 2 ^ suc m
    step m Word l h = omega (arith, twice m (omega arith))
    step m Bit l h = omega (arith, twice m (omega arith))

-- the byte of kinds and its parts
record IsByte (s : Shape) : Type 0 where
  small : kinds_byte s < 256
  low : kinds_byte s % 16 ≡ kind_bits s.sources
  top : kinds_byte s / 16 ≡ top_of s.result s.second

is_byte : (v : ℕ) (s : Shape) → IsShape v s → IsByte s
is_byte v s is =
    let low = kind_bits_small s.sources is.few in
    let top = top_is s.result s.second in
    let few = top_small s.result s.second in
    record {
      small = omega (arith, low, top, few);
      low = omega (arith, low, top);
      top = omega (arith, low, top);
    }

kinds_pass : (v : ℕ) (s : Shape) → IsShape v s
    → is_kinds v (length s.sources) (kinds_byte s) ≡ true
kinds_pass v s is =
    let b = is_byte v s is in
    let below = kinds_below (length s.sources) s.sources refl is.few in
    let small : kinds_byte s % 16 < 2 ^ length s.sources = omega (arith, b.low, below) in
    rw (
      lt-ltb (kinds_byte s % 16) (2 ^ length s.sources) small,
      b.top,
      results_pass (eqb v 1) s.result s.second (λ t. is.one (eqb-true v 1 t)),
    ) refl

pub shape_again : (v : ℕ) (at : ℕ) (bytes : List ℕ) (s : Shape) → IsShape v s
    → Holds bytes at (shape_bytes s) (at + 4) → shape_at v at bytes ≡ Ok s
unfolding shape_at
shape_again v at bytes s is h =
    let m = length s.sources in
    let k = kinds_byte s in
    let one = Holds-front bytes at (m ∷ []) (at + 1) (k ∷ s.bits ∷ s.words ∷ []) (at + 4) h refl in
    let h1 = Holds-back bytes at (m ∷ []) (at + 1) (k ∷ s.bits ∷ s.words ∷ []) (at + 4) h refl in
    let two = Holds-front bytes (at + 1) (k ∷ []) (at + 2) (s.bits ∷ s.words ∷ []) (at + 4) h1
    (omega arith) in
    let h2 = Holds-back bytes (at + 1) (k ∷ []) (at + 2) (s.bits ∷ s.words ∷ []) (at + 4) h1
    (omega arith) in
    let three = Holds-front bytes (at + 2) (s.bits ∷ []) (at + 3) (s.words ∷ []) (at + 4) h2
    (omega arith) in
    let four = Holds-back bytes (at + 2) (s.bits ∷ []) (at + 3) (s.words ∷ []) (at + 4) h2
    (omega arith) in
    let byte = is_byte v s is in
    let a = field_again kinds.Short w8 256 (λ n. n ∷ []) wide8 (is_between 1 4) kinds.Directory at
    (at + 1)
    bytes m one (omega (arith, is.few)) (is-between 1 4 m is.some is.few) in
    let b = field_again kinds.Short w8 256 (λ n. n ∷ []) wide8 (is_kinds v m) kinds.Directory (at
    + 1) (at + 2)
    bytes k two byte.small (kinds_pass v s is) in
    let c = number_again kinds.Short w8 256 (λ n. n ∷ []) wide8 (at + 2) (at + 3) bytes s.bits three
    is.bits in
    let d = number_again kinds.Short w8 256 (λ n. n ∷ []) wide8 (at + 3) (at + 4) bytes s.words four
    is.words in
    let top = sixteens m (top_of s.result s.second) is.some is.few in
    let sources : kinds_of m k ≡ s.sources = kinds_back m s.sources top.0 k refl
    (ap (λ n. kind_bits s.sources + n) (top_is s.result s.second ∙ top.1)) in
    let result : kind_of_bit (k / 16 % 2) ≡ s.result = ap (λ n. kind_of_bit (n % 2)) byte.top
    ∙ result_back s.result s.second in
    let second : second_of (k / 16 / 2) ≡ s.second = ap (λ n. second_of (n / 2)) byte.top
    ∙ second_back s.result s.second in
    rw (a, b, c, d, sources, result, second) refl

-- ---- records

-- the record of an entry whose code starts at this instruction
abbrev pub listing_from : ℕ → Microprogram → Listing
listing_from start m = record {
  name = m.name;
  shape = m.shape;
  start = start;
  count = length m.code;
}

abbrev pub listings_from : ℕ → List Microprogram → List Listing
listings_from start [] = []
listings_from start (m ∷ ms) = listing_from start m ∷ listings_from (start + length m.code) ms

shape_is : (v : ℕ) (m : Microprogram) → IsEntry m → (v ≡ 1 → m.shape.second ≡ None)
    → IsShape v m.shape
shape_is v m is one = record {
  some = is.some;
  few = is.few;
  bits = is.bits;
  words = is.words;
  one = one;
}

code_some : (m : Microprogram) → IsEntry m → 0 < length m.code
code_some m is = let h = slice_get_within m.code (length m.code - 1) Done is.code.last in
    omega arith

name_length : (m : Microprogram) → IsEntry m → length (name_bytes m.name) ≡ 17
name_length m is = name_size m.name is.name

listing_again : (v : ℕ) (earlier : List Listing) (start at : ℕ) (bytes : List ℕ) (m : Microprogram)
    → IsEntry m → (v ≡ 1 → m.shape.second ≡ None) → start < 2 ^ 32 → has_name earlier m.name ≡ false
    → Holds bytes at (head_bytes start m) (at + 27)
    → listing_at v earlier start at bytes ≡ Ok (listing_from start m)
unfolding listing_at
listing_again v earlier start at bytes m is one small new h =
    let numbers : List ℕ = to_le_bytes w32 start ++ to_le_bytes w16 (length m.code) in
    let size = name_length m is in
    let place : at + 17 ≡ at + length (name_bytes m.name) = omega arith in
    let name = Holds-front bytes at (name_bytes m.name) (at + 17) (shape_bytes m.shape
    ++ numbers) (at + 27) h place in
    let h1 = Holds-back bytes at (name_bytes m.name) (at + 17) (shape_bytes m.shape
    ++ numbers) (at + 27) h place in
    let shape = Holds-front bytes (at + 17) (shape_bytes m.shape) (at + 17 + 4) numbers (at + 27) h1
    refl in
    let h2 = Holds-back bytes (at + 17) (shape_bytes m.shape) (at + 21) numbers (at + 27) h1
    (omega arith) in
    let first = Holds-front bytes (at + 21) (to_le_bytes w32 start) (at + 25)
    (to_le_bytes w16 (length m.code)) (at + 27) h2 (omega arith) in
    let count = Holds-back bytes (at + 21) (to_le_bytes w32 start) (at + 25)
    (to_le_bytes w16 (length m.code)) (at + 27) h2 (omega arith) in
    let a = name_again kinds.Short kinds.Directory (has_name earlier) at bytes m.name name is.name
    new in
    let b = shape_again v (at + 17) bytes m.shape (shape_is v m is one) shape in
    let c = field_again kinds.Short w32 (2 ^ 32) (to_le_bytes w32) wide32 (λ n.
    eqb n start) kinds.Directory (at
    + 21) (at + 25) bytes start first small (eq-eqb start start refl) in
    let some = code_some m is in
    let d = field_again kinds.Short w16 (2 ^ 16) (to_le_bytes w16) wide16 (is_between 1 65535)
    kinds.Directory
    (at + 25) (at + 27) bytes (length m.code) count is.code.short
    (is-between 1 65535 (length m.code) (omega arith) (omega (arith, is.code.short))) in
    rw (a, b, c, d) refl

unnamed_is : (ls : List Listing) (name : List ℕ)
    → ((k : ℕ) (d : Listing) → k < length ls → (get_or ls k d).name ≢ name)
    → has_name ls name ≡ false
unnamed_is [] name h = refl
unnamed_is (x ∷ ls) name h = elim (cases_bool (bytes_eq x.name name)) [
  | inl t ↦ absurd (h 0 x (omega arith) ((bytes_eq-Decides x.name name).0 t))
  | inr f ↦ rw f (unnamed_is ls name (λ k d lt. h (suc k) d (omega arith)))
]
  where
    cases_bool : (b : Bool) → (b ≡ true) ⊎ (b ≡ false)
    cases_bool true = inl refl
    cases_bool false = inr refl

new_is : (earlier rest : List Listing) (l : Listing)
    → AllPairs (λ k m. k.name ≢ m.name) (earlier ++ l ∷ rest) → has_name earlier l.name ≡ false
new_is earlier rest l names =
    unnamed_is earlier l.name (λ k d lt e.
    names k (length earlier) d lt (omega (arith, length-append earlier (l ∷ rest)))
    (ap (λ (x : Listing). x.name) (get_or_append_left earlier (l ∷ rest) d k lt) ∙ e
    ∙ ap (λ (x : Listing). x.name) (sym (get_or-append_seam earlier l rest d))))

head_length : (start : ℕ) (m : Microprogram) → IsEntry m → length (head_bytes start m) ≡ 27
head_length start m is = omega (
  arith,
  length-append (name_bytes m.name) (shape_bytes m.shape
      ++ (to_le_bytes w32 start ++ to_le_bytes w16 (length m.code))),
  name_length m is,
)

pub directory_again : (v : ℕ) (n : ℕ) (ms : List Microprogram) (earlier : List Listing)
    (start at : ℕ)
    (bytes : List ℕ) → length ms ≡ n → AllByRecursion IsEntry ms
    → (v ≡ 1 → AllByRecursion (λ m. m.shape.second ≡ None) ms) → start + 65536 * n < 2 ^ 32
    → AllPairs (λ k m. k.name ≢ m.name) (earlier ++ listings_from start ms)
    → Holds bytes at (directory_bytes start ms) (at + 27 * n)
    → directory_at v n earlier start at bytes ≡ Ok (earlier ++ listings_from start ms)
unfolding directory_at
directory_again v zero [] earlier start at bytes e is one small names h =
    ap (λ (ls : List Listing). Ok ls) (sym (append-nil earlier))
directory_again v zero (m ∷ ms) earlier start at bytes e is one small names h = absurd (omega arith)
directory_again v (suc n) [] earlier start at bytes e is one small names h = absurd (omega arith)
directory_again v (suc n) (m ∷ ms) earlier start at bytes e is one small names h =
    let l = listing_from start m in
    let rest = listings_from (start + length m.code) ms in
    let size = head_length start m is.0 in
    let place : at + 27 ≡ at + length (head_bytes start m) = omega arith in
    let front = Holds-front bytes at (head_bytes start m) (at + 27)
    (directory_bytes (start + length m.code) ms) (at + 27 * suc n) h place in
    let back = Holds-back bytes at (head_bytes start m) (at + 27)
    (directory_bytes (start + length m.code) ms) (at + 27 * suc n) h place in
    let end : at + 27 * suc n ≡ at + 27 + 27 * n = omega arith in
    let first = listing_again v earlier start at bytes m is.0 (λ e. (one e).0) (omega arith)
    (new_is earlier rest l names) front in
    let short = is.0.code.short in
    let same : earlier ++ l ∷ rest ≡ (earlier ++ l ∷ []) ++ rest =
    sym (append_assoc earlier (l ∷ []) rest) in
    let more = directory_again v n ms (earlier ++ l ∷ []) (start + length m.code) (at + 27) bytes
    (omega arith) is.1 (λ e. (one e).1) (omega arith) (subst
    (λ (ls : List Listing). AllPairs (λ k x. k.name ≢ x.name) ls) same names)
    (subst (Holds bytes (at + 27) (directory_bytes (start + length m.code) ms)) end back) in
    rw first (more ∙ ap (λ (ls : List Listing). Ok ls) (sym same))

-- ---- code

pub codes_again : (ms : List Microprogram) (start at : ℕ) (bytes : List ℕ)
    → AllByRecursion IsEntry ms → Holds bytes at (flat_map code_bytes ms) (at + 8
    * total_count (listings_from start ms)) → codes_at (listings_from start ms) at bytes ≡ Ok ms
unfolding codes_at
codes_again [] start at bytes is h = refl
codes_again (m ∷ ms) start at bytes is h =
    let n = length m.code in
    let total = total_count (listings_from (start + n) ms) in
    let split = subst (λ (t : List ℕ). Holds bytes at t (at + 8 * (n + total)))
    (flat_map-cons code_bytes m ms) h in
    let place : at + 8 * n ≡ at + length (code_bytes m) = omega (arith, length-code m.code) in
    let front = Holds-front bytes at (code_bytes m) (at + 8 * n) (flat_map code_bytes ms) (at + 8
    * (n + total)) split place in
    let back = Holds-back bytes at (code_bytes m) (at + 8 * n) (flat_map code_bytes ms) (at + 8
    * (n + total)) split place in
    let end : at + 8 * (n + total) ≡ at + 8 * n + 8 * total = omega arith in
    let code = uops_again n m.shape n at bytes m.code refl is.0.code.short is.0.code.each (λ k e.
    (let same : k ≡ n - 1 = omega arith in ap (slice_get m.code) same)
    ∙ is.0.code.last) front in
    let more = codes_again ms (start + n) (at + 8 * n) bytes is.1
    (subst (Holds bytes (at + 8 * n) (flat_map code_bytes ms)) end back) in
    rw (code, more) refl

length-codes : (ms : List Microprogram) (start : ℕ)
    → length (flat_map code_bytes ms) ≡ 8 * total_count (listings_from start ms)
length-codes [] start = omega arith
length-codes (m ∷ ms) start = ap length (flat_map-cons code_bytes m ms)
    ∙ omega (
      arith,
      length-append (code_bytes m) (flat_map code_bytes ms),
      length-code m.code,
      length-codes ms (start + length m.code),
    )

length-directory : (ms : List Microprogram) (start : ℕ) → AllByRecursion IsEntry ms
    → length (directory_bytes start ms) ≡ 27 * length ms
length-directory [] start is = omega arith
length-directory (m ∷ ms) start is = omega (
  arith,
  length-append (head_bytes start m) (directory_bytes (start + length m.code) ms),
  head_length start m is.0,
  length-directory ms (start + length m.code) is.1,
)

length-listings : (ms : List Microprogram) (start : ℕ) → length (listings_from start ms) ≡ length ms
length-listings [] start = refl
length-listings (m ∷ ms) start = let h = length-listings ms (start + length m.code) in omega arith

name_of : (ms : List Microprogram) (start k : ℕ) (c : Listing) (d : Microprogram) → k < length ms
    → (get_or (listings_from start ms) k c).name ≡ (get_or ms k d).name
name_of [] start k c d lt = absurd (omega arith)
name_of (m ∷ ms) start zero c d lt = refl
name_of (m ∷ ms) start (suc k) c d lt = name_of ms (start + length m.code) k c d (omega arith)

blank : Microprogram
blank = record {
  name = [];
  shape = record { sources = []; result = Word; second = None; bits = 0; words = 0 };
  code = [];
}

names_again : (ms : List Microprogram) → AllPairs (λ m n. m.name ≢ n.name) ms
    → AllPairs (λ k l. k.name ≢ l.name) (listings_from 0 ms)
names_again ms names i j d lt lj e =
    let size = length-listings ms 0 in
    names i j blank lt (omega arith) (sym (name_of ms 0 i d blank (omega arith)) ∙ e
    ∙ name_of ms 0 j d blank (omega arith))

opening_again : (v : ℕ) (bytes : List ℕ) → is_version v ≡ true
    → Holds bytes 0 (opening_bytes v) 6 → opening_in bytes ≡ Ok v
unfolding opening_in
opening_again v bytes is h =
    let front = Holds-front bytes 0 (codes "SDMP") 4 (to_le_bytes w16 v) 6 h refl in
    let back = Holds-back bytes 0 (codes "SDMP") 4 (to_le_bytes w16 v) 6 h refl in
    let magic = bytes_again kinds.Short 4 0 4 bytes (codes "SDMP") front refl in
    let version = field_again kinds.Short w16 (2 ^ 16) (to_le_bytes w16) wide16 is_version
    kinds.Version 4 6
    bytes v back (version_small v is) is in
    rw magic version

-- a version that a program has
has_one : (v : ℕ) (ms : List Microprogram) → HasVersion v ms → (is_version v ≡ true)
    × (v ≡ 1 → AllByRecursion (λ m. m.shape.second ≡ None) ms)
has_one v ms (inl h) = (ap is_version h.0, λ e. h.1)
has_one v ms (inr two) = (ap is_version two, λ e. absurd (omega arith))

-- a program's file in each version is read as the program
pub read : (v : ℕ) (ms : List Microprogram) → IsProgram ms → HasVersion v ms
    → program_in (program_bytes v ms) ≡ Ok (v, ms)
unfolding program_in program_bytes
read v ms is has =
    let one = has_one v ms has in
    let ls = listings_from 0 ms in
    let code : List ℕ = flat_map code_bytes ms in
    let records : List ℕ = directory_bytes 0 ms in
    let number : List ℕ = to_le_bytes w16 (length ms) in
    let bytes : List ℕ = opening_bytes v ++ (number ++ (records ++ code)) in
    let codes_len = length-codes ms 0 in
    let records_len = length-directory ms 0 is.entries in
    let many = length-listings ms 0 in
    let end : ℕ = codes_start ls + 8 * total_count ls in
    let size : length bytes ≡ end = omega (
      arith,
      length-append (opening_bytes v) (number ++ (records ++ code)),
      length-append number (records ++ code),
      length-append records code,
    ) in
    let whole : Holds bytes 0 (opening_bytes v ++ (number ++ (records ++ code))) end = record {
      parts = sym (ap (λ (rest : List ℕ). bytes ++ rest) (drop_all end bytes (omega (arith, size)))
          ∙ append-nil bytes);
      ends = omega (arith, size);
      within = omega (arith, size);
    } in
    let opening = Holds-front bytes 0 (opening_bytes v) 6 (number ++ (records ++ code)) end whole
    refl
    in
    let h1 = Holds-back bytes 0 (opening_bytes v) 6 (number ++ (records ++ code)) end whole refl in
    let count = Holds-front bytes 6 number 8 (records ++ code) end h1 refl in
    let h2 = Holds-back bytes 6 number 8 (records ++ code) end h1 refl in
    let from : 8 + 27 * length ms ≡ 8 + length records = omega arith in
    let directory = Holds-front bytes 8 records (8 + 27 * length ms) code end h2 from in
    let h3 = Holds-back bytes 8 records (codes_start ls) code end h2 (omega arith) in
    let a = opening_again v bytes one.0 opening in
    let few = is.few in
    let b = field_again kinds.Short w16 (2 ^ 16) (to_le_bytes w16) wide16 (λ n.
    leb n 32) kinds.Directory 6 8
    bytes (length ms) count (omega arith) (le-leb (length ms) 32 is.few) in
    let c = directory_again v (length ms) ms [] 0 8 bytes refl is.entries one.1 (omega arith)
    (names_again ms is.names) directory in
    let d = codes_again ms 0 (codes_start ls) bytes is.entries h3 in
    rw (a, b, c, d, eq-eqb (length bytes) end size) refl
