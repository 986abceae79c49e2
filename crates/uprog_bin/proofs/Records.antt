-- The records of a directory are spelled so.
use Rattle.uprog_bin.proofs.Common.{◌≡◌, ◌≢◌, ℕ, zero, suc, ◌+◌, ◌*◌, ◌/◌, ◌%◌, ◌^◌, ◌<◌, ◌≤◌, Bool}
use Rattle.uprog_bin.proofs.Common.{true, false, not, ◌||◌, eqb, eq-eqb, None, ltb, List, [], ◌∷◌}
use Rattle.uprog_bin.proofs.Common.{◌++◌, length, get_or, drop, Ok, refl, sym, ap, ◌∙◌, subst}
use Rattle.uprog_bin.proofs.Common.{arith, append_assoc, append-nil, w8, w16, w32, to_le_bytes}
use Rattle.uprog_bin.proofs.Common.{flat_map, AllByRecursion, AllPairs, bytes_eq, ltb-true}
use Rattle.uprog_bin.proofs.Common.{bytes_eq-Decides, flat_map-cons, Kind, Shape, name_bytes}
use Rattle.uprog_bin.proofs.Common.{IsBytes, is_between, ◌>>=◌, Holds, Holds-then, bind_ok, ok_is}
use Rattle.uprog_bin.proofs.Common.{wide8, wide16, wide32, field_takes, between_is}
use Rattle.std.proofs.lemmas.Bool.{or_parts, false≢true}
use Rattle.std.proofs.Common.{cond}
use Rattle.std.proofs.lemmas.List.Quantifiers.{all_pairs_push}
use Rattle.text_lex.specs.Spelled.{fits_name}
use Rattle.file_fields.proofs.NameField.{name_takes}
use Rattle.file_fields.proofs.Held.{number_takes}
use Rattle.file_fields.proofs.Padded.{both}
use Rattle.uprog_bin.specs.declared.fault.ProgKind.TheVariants as kinds
use Rattle.uprog_bin.specs.Spelling.{kind_bits, result_bit, second_bits, shape_bytes}
use Rattle.uprog_bin.specs.Reading.{number_at, field_at, kind_of_bit, kinds_of, second_of}
use Rattle.uprog_bin.specs.Reading.{is_results, is_kinds, shape_at, Listing, has_name, name_at}
use Rattle.uprog_bin.specs.Reading.{listing_at, directory_at}

one_kind : (b : ℕ) (ks : List Kind) → b < 2 → kind_bits (kind_of_bit b ∷ ks) ≡ 2 * kind_bits ks + b
one_kind zero ks h = omega arith
one_kind (suc zero) ks h = refl
one_kind (suc (suc b)) ks h = absurd (omega arith)

result_is : (b : ℕ) → b < 2 → result_bit (kind_of_bit b) ≡ 16 * b
result_is zero h = refl
result_is (suc zero) h = refl
result_is (suc (suc b)) h = absurd (omega arith)

kinds_sum : (m n : ℕ) → kind_bits (kinds_of (suc m) n) ≡ 2 * kind_bits (kinds_of m (n / 2)) + n % 2
kinds_sum m n = one_kind (n % 2) (kinds_of m (n / 2)) (omega arith)

kinds_low : (m n : ℕ) → 1 ≤ m → m ≤ 4 → n % 16 < 2 ^ m → kind_bits (kinds_of m n) ≡ n % 16
kinds_low zero n l h small = absurd (omega arith)
kinds_low (suc zero) n l h small = omega (arith, kinds_sum 0 n)
kinds_low (suc (suc zero)) n l h small = omega (arith, kinds_sum 1 n, kinds_sum 0 (n / 2))
kinds_low (suc (suc (suc zero))) n l h small =
    omega (arith, kinds_sum 2 n, kinds_sum 1 (n / 2), kinds_sum 0 (n / 2 / 2))
kinds_low (suc (suc (suc (suc zero)))) n l h small =
    omega (
      arith,
      kinds_sum 3 n,
      kinds_sum 2 (n / 2),
      kinds_sum 1 (n / 2 / 2),
      kinds_sum 0 (n / 2 / 2 / 2),
    )
kinds_low (suc (suc (suc (suc (suc m))))) n l h small = absurd (omega arith)

second_is : (b : ℕ) → b < 4 → b ≢ 2 → second_bits (second_of b) ≡ 32 * b
second_is zero h apart = refl
second_is (suc zero) h apart = refl
second_is (suc (suc zero)) h apart = absurd (apart refl)
second_is (suc (suc (suc zero))) h apart = refl
second_is (suc (suc (suc (suc b)))) h apart = absurd (omega arith)

-- what is known of the bits from bit 4 on
record AreResults (v top : ℕ) : Type 0 where
  few : top < 8
  apart : top / 2 ≢ 2
  one : v ≡ 1 → top < 2

not_two : (n : ℕ) → not (eqb n 2) ≡ true → n ≢ 2
not_two n h e = false≢true (ap not (sym (eq-eqb n 2 e)) ∙ h)

are_results : (v top : ℕ) → is_results v top ≡ true → AreResults v top
are_results v top h =
    let b = both (ltb top (cond (eqb v 1) 2 8)) (not (eqb (top / 2) 2)) h in
    let below = ltb-true top (cond (eqb v 1) 2 8) b.0 in
    record {
      few = limit (eqb v 1) below;
      apart = not_two (top / 2) b.1;
      one = λ e. let t : eqb v 1 ≡ true = eq-eqb v 1 e in
          subst (λ c. top < cond c 2 8) t below;
    }
  where
    limit : (c : Bool) → top < cond c 2 8 → top < 8
    limit true l = omega arith
    limit false l = l

kinds_text : (v m n : ℕ) → 1 ≤ m → m ≤ 4 → is_kinds v m n ≡ true
    → kind_bits (kinds_of m n) + (result_bit (kind_of_bit (n / 16 % 2))
    + second_bits (second_of (n / 16 / 2))) ≡ n
kinds_text v m n l h k =
    let b = both (ltb (n % 16) (2 ^ m)) (is_results v (n / 16)) k in
    let top = are_results v (n / 16) b.1 in
    omega (
      arith,
      kinds_low m n l h (ltb-true (n % 16) (2 ^ m) b.0),
      result_is (n / 16 % 2) (omega arith),
      second_is (n / 16 / 2) (omega (arith, top.few)) top.apart,
    )

second_one : (v m n : ℕ) → is_kinds v m n ≡ true → v ≡ 1 → second_of (n / 16 / 2) ≡ None
second_one v m n k e =
    let b = both (ltb (n % 16) (2 ^ m)) (is_results v (n / 16)) k in
    let small = (are_results v (n / 16) b.1).one e in
    let none : n / 16 / 2 ≡ 0 = omega (arith, small) in
    ap second_of none

length-kinds : (m n : ℕ) → length (kinds_of m n) ≡ m
length-kinds zero n = refl
length-kinds (suc m) n = let h = length-kinds m (n / 2) in omega arith

-- what a record says of the shape
pub record IsShape (v : ℕ) (s : Shape) : Type 0 where
  pub some : 0 < length s.sources
  pub few : length s.sources ≤ 4
  pub bits : s.bits < 2 ^ 8
  pub words : s.words < 2 ^ 8
  pub one : v ≡ 1 → s.second ≡ None

pub shape_takes : (v : ℕ) (at : ℕ) (bytes : List ℕ) (s : Shape) → IsBytes bytes
    → shape_at v at bytes ≡ Ok s
    → Holds bytes at (shape_bytes s) (at + 4) × IsShape v s
unfolding shape_at
shape_takes v at bytes s fits e =
    let a = bind_ok (field_at w8 (is_between 1 4) kinds.Directory at bytes)
    (λ sources. field_at w8 (is_kinds v sources) kinds.Directory (at + 1) bytes >>= λ k.
    number_at w8 (at + 2) bytes >>= λ bits. number_at w8 (at + 3) bytes >>= λ words. Ok
    (record {
      sources = kinds_of sources k;
      result = kind_of_bit (k / 16 % 2);
      second = second_of (k / 16 / 2);
      bits = bits;
      words = words;
    })) s e in
    let b = bind_ok (field_at w8 (is_kinds v a.0) kinds.Directory (at + 1) bytes) (λ k.
    number_at w8 (at + 2) bytes >>= λ bits. number_at w8 (at + 3) bytes >>= λ words. Ok
    (record {
      sources = kinds_of a.0 k;
      result = kind_of_bit (k / 16 % 2);
      second = second_of (k / 16 / 2);
      bits = bits;
      words = words;
    })) s a.2 in
    let c = bind_ok (number_at w8 (at + 2) bytes)
    (λ bits. number_at w8 (at + 3) bytes >>= λ words. Ok (record {
      sources = kinds_of a.0 b.0;
      result = kind_of_bit (b.0 / 16 % 2);
      second = second_of (b.0 / 16 / 2);
      bits = bits;
      words = words;
    })) s b.2 in
    let d = bind_ok (number_at w8 (at + 3) bytes)
    (λ words. Ok (record {
      sources = kinds_of a.0 b.0;
      result = kind_of_bit (b.0 / 16 % 2);
      second = second_of (b.0 / 16 / 2);
      bits = c.0;
      words = words;
    })) s c.2 in
    let one = field_takes kinds.Short w8 256 (λ n. n ∷ []) wide8 (is_between 1 4) kinds.Directory at
    (at + 1)
    bytes a.0 fits a.1 refl in
    let two = field_takes kinds.Short w8 256 (λ n. n ∷ []) wide8 (is_kinds v a.0) kinds.Directory
    (at + 1) (at
    + 2) bytes b.0 fits b.1 (omega arith) in
    let three = number_takes kinds.Short w8 256 (λ n. n ∷ []) wide8 (at + 2) (at + 3) bytes c.0 fits
    c.1
    (omega arith) in
    let four = number_takes kinds.Short w8 256 (λ n. n ∷ []) wide8 (at + 3) (at + 4) bytes d.0 fits
    d.1
    (omega arith) in
    let some = between_is 1 4 a.0 one.2 in
    let size = length-kinds a.0 b.0 in
    let held : Holds bytes at (a.0 ∷ b.0 ∷ c.0 ∷ d.0 ∷ []) (at + 4) =
    Holds-then bytes at (a.0 ∷ []) (at + 1) (b.0 ∷ c.0 ∷ d.0 ∷ []) (at + 4) one.0
    (Holds-then bytes (at + 1) (b.0 ∷ []) (at + 2) (c.0 ∷ d.0 ∷ []) (at + 4) two.0
    (Holds-then bytes (at + 2) (c.0 ∷ []) (at + 3) (d.0 ∷ []) (at + 4) three.0 four.0)) in
    let made : Shape = record {
      sources = kinds_of a.0 b.0;
      result = kind_of_bit (b.0 / 16 % 2);
      second = second_of (b.0 / 16 / 2);
      bits = c.0;
      words = d.0;
    } in
    let text : (a.0 ∷ b.0 ∷ c.0 ∷ d.0 ∷ []) ≡ shape_bytes made =
    ap (λ n. n ∷ b.0 ∷ c.0 ∷ d.0 ∷ []) (sym size)
    ∙ ap (λ n. length (kinds_of a.0 b.0) ∷ n ∷ c.0 ∷ d.0
    ∷ []) (sym (kinds_text v a.0 b.0 some.0 some.1 two.2)) in
    let is : IsShape v made = record {
      some = omega (arith, size, some.0);
      few = omega (arith, size, some.1);
      bits = three.1;
      words = four.1;
      one = second_one v a.0 b.0 two.2;
    } in
    subst (λ (x : Shape). Holds bytes at (shape_bytes x) (at + 4)
    × IsShape v x) (ok_is made s d.2) (
      subst (λ (t : List ℕ). Holds bytes at t (at + 4)) text
          held,
      is,
    )

abbrev pub listing_bytes : Listing → List ℕ
listing_bytes l = name_bytes l.name ++ (shape_bytes l.shape
    ++ (to_le_bytes w32 l.start ++ to_le_bytes w16 l.count))

-- what a record says of an entry
pub record IsListing (v : ℕ) (l : Listing) : Type 0 where
  pub name : fits_name l.name ≡ true
  pub shape : IsShape v l.shape

pub listing_takes : (v : ℕ) (earlier : List Listing) (start at : ℕ) (bytes : List ℕ) (l : Listing)
    → IsBytes bytes → listing_at v earlier start at bytes ≡ Ok l
    → Holds bytes at (listing_bytes l) (at + 27) × IsListing v l × (has_name earlier l.name ≡ false)
unfolding listing_at
listing_takes v earlier start at bytes l fits e =
    let a = bind_ok (name_at earlier at bytes)
    (λ name. shape_at v (at + 17) bytes >>= λ shape. field_at w32 (λ n.
    eqb n start) kinds.Directory (at + 21) bytes >>= λ first. field_at w16 (is_between 1 65535)
    kinds.Directory (at + 25) bytes >>= λ count. Ok (record {
      name = name;
      shape = shape;
      start = first;
      count = count;
    })) l e in
    let b = bind_ok (shape_at v (at + 17) bytes)
    (λ shape. field_at w32 (λ n. eqb n start) kinds.Directory (at + 21) bytes >>= λ first.
    field_at w16 (is_between 1 65535) kinds.Directory (at + 25) bytes >>= λ count. Ok
    (record { name = a.0; shape = shape; start = first; count = count })) l a.2 in
    let c = bind_ok (field_at w32 (λ n. eqb n start) kinds.Directory (at + 21) bytes)
    (λ first. field_at w16 (is_between 1 65535) kinds.Directory (at + 25) bytes >>= λ count. Ok
    (record { name = a.0; shape = b.0; start = first; count = count })) l b.2 in
    let d = bind_ok (field_at w16 (is_between 1 65535) kinds.Directory (at + 25) bytes)
    (λ count. Ok (record { name = a.0; shape = b.0; start = c.0; count = count })) l c.2 in
    let name = name_takes kinds.Short kinds.Directory (has_name earlier) at bytes a.0 fits a.1 in
    let shape = shape_takes v (at + 17) bytes b.0 fits b.1 in
    let first = field_takes kinds.Short w32 (2 ^ 32) (to_le_bytes w32) wide32 (λ n.
    eqb n start) kinds.Directory
    (at + 21) (at + 25) bytes c.0 fits c.1 (omega arith) in
    let count = field_takes kinds.Short w16 (2 ^ 16) (to_le_bytes w16) wide16 (is_between 1 65535)
    kinds.Directory (at + 25) (at + 27) bytes d.0 fits d.1 (omega arith) in
    let to : at + 17 + 4 ≡ at + 21 = omega arith in
    let second : Holds bytes (at + 17) (shape_bytes b.0) (at + 21) =
    subst (Holds bytes (at + 17) (shape_bytes b.0)) to shape.0 in
    let made : Listing = record { name = a.0; shape = b.0; start = c.0; count = d.0 } in
    let numbers = Holds-then bytes (at + 21) (to_le_bytes w32 c.0) (at + 25) (to_le_bytes w16 d.0)
    (at + 27) first.0 count.0 in
    let rest = Holds-then bytes (at + 17) (shape_bytes b.0) (at + 21) (to_le_bytes w32 c.0
    ++ to_le_bytes w16 d.0) (at + 27) second numbers in
    let held : Holds bytes at (listing_bytes made) (at + 27) =
    Holds-then bytes at (name_bytes a.0) (at + 17) (shape_bytes b.0
    ++ (to_le_bytes w32 c.0 ++ to_le_bytes w16 d.0)) (at + 27) name.0 rest in
    let is : IsListing v made = record { name = name.1; shape = shape.1 } in
    subst (λ (y : Listing). Holds bytes at (listing_bytes y) (at + 27) × IsListing v y
    × (has_name earlier y.name ≡ false)) (ok_is made l d.2) (held, is, name.2)

-- no two have one name
abbrev pub HaveNames : List Listing → Type 0
HaveNames ls = AllPairs (λ k l. k.name ≢ l.name) ls

unnamed : (ls : List Listing) (name : List ℕ) → has_name ls name ≡ false → (k : ℕ) (d : Listing)
    → k < length ls → (get_or ls k d).name ≢ name
unnamed [] name h k d lt e = omega arith
unnamed (x ∷ ls) name h zero d lt e = false≢true
    (sym (or_parts (bytes_eq x.name name) (has_name ls name) h).0
    ∙ (bytes_eq-Decides x.name name).1 e)
unnamed (x ∷ ls) name h (suc k) d lt e = unnamed ls name
    (or_parts (bytes_eq x.name name) (has_name ls name) h).1 k d (omega arith) e

-- the records that were read, after the earlier ones
pub record Reads (v : ℕ) (bytes : List ℕ) (n at : ℕ) (earlier all : List Listing) : Type 0 where
  pub rest : List Listing
  pub parts : all ≡ earlier ++ rest
  pub held : Holds bytes at (flat_map listing_bytes rest) (at + 27 * n)
  pub size : length rest ≡ n
  pub listings : AllByRecursion (IsListing v) rest
  pub names : HaveNames earlier → HaveNames all

pub directory_takes : (v : ℕ) (n : ℕ) (earlier : List Listing) (start at : ℕ) (bytes : List ℕ)
    (all : List Listing) → IsBytes bytes → at ≤ length bytes
    → directory_at v n earlier start at bytes ≡ Ok all → Reads v bytes n at earlier all
unfolding directory_at
directory_takes v zero earlier start at bytes all fits le e =
    let same = ok_is earlier all e in
    record {
      rest = [];
      parts = sym same ∙ sym (append-nil earlier);
      held = record {
        parts = ap (λ k. drop k bytes) (omega arith);
        ends = omega arith;
        within = omega arith;
      };
      size = refl;
      listings = tt;
      names = λ h. subst HaveNames same h;
    }
directory_takes v (suc n) earlier start at bytes all fits le e =
    let a = bind_ok (listing_at v earlier start at bytes) (λ l.
    directory_at v n (earlier ++ l ∷ []) (start + l.count) (at + 27) bytes) all e in
    let l = a.0 in
    let one = listing_takes v earlier start at bytes l fits a.1 in
    let more = directory_takes v n (earlier ++ l ∷ []) (start + l.count) (at + 27) bytes all fits
    one.0.within a.2 in
    let end : at + 27 + 27 * n ≡ at + 27 * suc n = omega arith in
    record {
      rest = l ∷ more.rest;
      parts = more.parts ∙ append_assoc earlier (l ∷ []) more.rest;
      held = subst (λ (t : List ℕ). Holds bytes at t (at + 27 * suc n))
          (sym (flat_map-cons listing_bytes l more.rest))
          (subst (Holds bytes at (listing_bytes l ++ flat_map listing_bytes more.rest)) end
          (Holds-then bytes at (listing_bytes l) (at + 27) (flat_map listing_bytes more.rest) (at
          + 27 + 27 * n) one.0 more.held));
      size = omega (arith, more.size);
      listings = (one.1, more.listings);
      names = λ h. more.names (all_pairs_push (λ (k m : Listing). k.name ≢ m.name) earlier l h
          (unnamed earlier l.name one.2));
    }
