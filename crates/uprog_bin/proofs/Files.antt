-- A file that was read.
use Rattle.uprog_bin.proofs.Common.{◌≡◌, ℕ, zero, suc, ◌+◌, ◌*◌, ◌<◌, true, eqb, leb, eq-eqb, ◌^◌}
use Rattle.uprog_bin.proofs.Common.{List, [], ◌∷◌, ◌++◌, length, Result, Ok, refl, sym, ap, ◌∙◌}
use Rattle.uprog_bin.proofs.Common.{subst, arith, w16, w32, eqb-true, Microprogram, between_is}
use Rattle.uprog_bin.proofs.Common.{◌>>=◌, is_between, bind_ok, ok_is}
use Rattle.file_fields.proofs.Held.{field_passes}
use Rattle.uprog_bin.specs.declared.fault.ProgKind.TheVariants as kinds
use Rattle.uprog_bin.specs.declared.directory.Listed.{Listed}
use Rattle.uprog_bin.specs.Reading.{number_at, field_at, name_at, shape_at, Listing, listing_at}
use Rattle.uprog_bin.specs.Reading.{directory_at, listings_of, opening_in, uops_at, codes_at}
use Rattle.uprog_bin.specs.Reading.{codes_start, total_count, program_in, ProgFault}
use Rattle.uprog_bin.specs.Opened.{File, file_of, accepted, programs_in, AreStarts, IsOpened}

pub codes_length : (ls : List Listing) (at : ℕ) (bytes : List ℕ) (ms : List Microprogram)
    → codes_at ls at bytes ≡ Ok ms → length ms ≡ length ls
unfolding codes_at
codes_length [] at bytes ms e = ap length (sym (ok_is [] ms e))
codes_length (l ∷ ls) at bytes ms e =
    let a = bind_ok (uops_at l.count l.shape l.count at bytes)
    (λ code. codes_at ls (at + 8 * l.count) bytes >>= λ others. Ok
    (record { name = l.name; shape = l.shape; code = code } ∷ others)) ms e in
    let b = bind_ok (codes_at ls (at + 8 * l.count) bytes)
    (λ others. Ok (record { name = l.name; shape = l.shape; code = a.0 } ∷ others)) ms a.2 in
    let h = codes_length ls (at + 8 * l.count) bytes b.0 b.1 in
    let m : Microprogram = record { name = l.name; shape = l.shape; code = a.0 } in
    ap length (sym (ok_is (m ∷ b.0) ms b.2)) ∙ omega arith

pub program_whole : (v : ℕ) (bytes : List ℕ) (count : ℕ) (ls : List Listing)
    (ms : List Microprogram)
    → opening_in bytes ≡ Ok v → number_at w16 6 bytes ≡ Ok count → leb count 32 ≡ true
    → directory_at v count [] 0 8 bytes ≡ Ok ls → codes_at ls (codes_start ls) bytes ≡ Ok ms
    → length bytes ≡ codes_start ls + 8 * total_count ls → program_in bytes ≡ Ok (v, ms)
unfolding program_in
program_whole v bytes count ls ms opening number few directory codes long =
    rw (
      opening,
      number,
      few,
      directory,
      codes,
      eq-eqb (length bytes) (codes_start ls + 8 * total_count ls) long,
    ) refl

starts_more : (start : ℕ) (ls : List Listing) (l : Listing) → AreStarts start ls
    → l.start ≡ start + total_count ls → 0 < l.count → l.count < 2 ^ 16
    → AreStarts start (ls ++ l ∷ [])
starts_more start [] l h e some few = (omega arith, some, few, tt)
starts_more start (x ∷ ls) l h e some few = (
  h.0,
  h.1,
  h.2,
  starts_more (start + x.count) ls l h.3 (omega arith) some few,
)

total_more : (ls : List Listing) (l : Listing)
    → total_count (ls ++ l ∷ []) ≡ total_count ls + l.count
total_more [] l = omega arith
total_more (x ∷ ls) l = let h = total_more ls l in omega arith

listing_start : (v : ℕ) (earlier : List Listing) (start at : ℕ) (bytes : List ℕ) (l : Listing)
    → listing_at v earlier start at bytes ≡ Ok l → (l.start ≡ start) × (0 < l.count)
    × (l.count < 2 ^ 16)
unfolding listing_at
listing_start v earlier start at bytes l e =
    let a = bind_ok (name_at earlier at bytes)
    (λ name. shape_at v (at + 17) bytes >>= λ shape. field_at w32 (λ n.
    eqb n start) kinds.Directory (at + 21) bytes >>= λ first. field_at w16 (is_between 1 65535)
    kinds.Directory (at + 25) bytes >>= λ count. Ok (record {
      name = name;
      shape = shape;
      start = first;
      count = count;
    })) l e in
    let b = bind_ok (shape_at v (at + 17) bytes)
    (λ shape. field_at w32 (λ n. eqb n start) kinds.Directory (at + 21) bytes >>= λ first.
    field_at w16 (is_between 1 65535) kinds.Directory (at + 25) bytes >>= λ count. Ok
    (record { name = a.0; shape = shape; start = first; count = count })) l a.2 in
    let c = bind_ok (field_at w32 (λ n. eqb n start) kinds.Directory (at + 21) bytes)
    (λ first. field_at w16 (is_between 1 65535) kinds.Directory (at + 25) bytes >>= λ count. Ok
    (record { name = a.0; shape = b.0; start = first; count = count })) l b.2 in
    let d = bind_ok (field_at w16 (is_between 1 65535) kinds.Directory (at + 25) bytes)
    (λ count. Ok (record { name = a.0; shape = b.0; start = c.0; count = count })) l c.2 in
    let first : c.0 ≡ start = eqb-true c.0 start
    (field_passes kinds.Short w32 (λ n. eqb n start) kinds.Directory (at + 21) bytes c.0 c.1) in
    let some = between_is 1 65535 d.0
    (field_passes kinds.Short w16 (is_between 1 65535) kinds.Directory (at + 25) bytes d.0 d.1) in
    let made : Listing = record { name = a.0; shape = b.0; start = c.0; count = d.0 } in
    subst (λ (x : Listing). (x.start ≡ start) × (0 < x.count)
    × (x.count < 2 ^ 16)) (ok_is made l d.2) (
      first,
      omega (arith, some.0),
      omega (arith, some.1),
    )

pub directory_starts : (v : ℕ) (n : ℕ) (earlier : List Listing) (start at : ℕ) (bytes : List ℕ)
    (all : List Listing) → directory_at v n earlier start at bytes ≡ Ok all → AreStarts 0 earlier
    → start ≡ total_count earlier → AreStarts 0 all
unfolding directory_at
directory_starts v zero earlier start at bytes all e h s =
    subst (AreStarts 0) (ok_is earlier all e) h
directory_starts v (suc n) earlier start at bytes all e h s =
    let a = bind_ok (listing_at v earlier start at bytes) (λ l.
    directory_at v n (earlier ++ l ∷ []) (start + l.count) (at + 27) bytes) all e in
    let here = listing_start v earlier start at bytes a.0 a.1 in
    directory_starts v n (earlier ++ a.0 ∷ []) (start + a.0.count) (at + 27) bytes all a.2
    (starts_more 0 earlier a.0 h (omega (arith, here.0)) here.1 here.2)
    (omega (arith, total_more earlier a.0))

abbrev versioned : ℕ → List Microprogram → Result (ℕ × List Microprogram) ProgFault
versioned v ms = Ok (v, ms)

-- what a file that was read shows is what was read
pub accepted_is : (bytes : List ℕ) (v : ℕ) → program_in bytes ≡ Ok (v, programs_in bytes)
    → program_in bytes ≡ Ok ((file_of bytes).version, programs_in bytes)
accepted_is bytes v e =
    let same : v ≡ (file_of bytes).version = ap (λ r. (accepted r).0) (sym e) in
    e ∙ ap (λ n. versioned n (programs_in bytes)) same

-- the records of a file that was read
pub opened : (v : ℕ) (bytes : List ℕ) (count : ℕ) (listed : List Listed) (ms : List Microprogram)
    → length bytes < 2 ^ 32 → opening_in bytes ≡ Ok v → number_at w16 6 bytes ≡ Ok count
    → leb count 32 ≡ true → directory_at v count [] 0 8 bytes ≡ Ok (listings_of listed)
    → codes_at (listings_of listed) (codes_start (listings_of listed)) bytes ≡ Ok ms
    → length bytes ≡ codes_start (listings_of listed) + 8 * total_count (listings_of listed)
    → IsOpened bytes v listed
opened v bytes count listed ms small opening number few directory codes long =
    let whole = program_whole v bytes count (listings_of listed) ms opening number few directory
    codes
    long in
    let same : ms ≡ programs_in bytes = ap (λ r. (accepted r).1) (sym whole) in
    record {
      small = small;
      read = whole ∙ ap (λ (x : List Microprogram). versioned v x) same;
      codes = codes ∙ ap (λ (x : List Microprogram). Ok x) same;
      starts = directory_starts v count [] 0 8 bytes (listings_of listed) directory tt refl;
      long = long;
    }

listings_length : (ls : List Listed) → length (listings_of ls) ≡ length ls
listings_length [] = refl
listings_length (l ∷ ls) = let h = listings_length ls in omega arith

-- the same, as the code has them
pub opened_from : (v : ℕ) (bytes : List ℕ) (count : ℕ) (listed seen : List Listed) (start end : ℕ)
    (ms : List Microprogram) → length bytes < 2 ^ 32 → opening_in bytes ≡ Ok v
    → number_at w16 6 bytes ≡ Ok count → leb count 32 ≡ true
    → directory_at v count [] 0 8 bytes ≡ Ok (listings_of listed)
    → seen ≡ listed → start ≡ 8 + 27 * length listed
    → codes_at (listings_of seen) start bytes ≡ Ok ms
    → end ≡ start + 8 * total_count (listings_of seen) → length bytes ≡ end
    → IsOpened bytes v listed
opened_from v bytes count listed seen start end ms small opening number few directory same begin
    codes
    stop long =
    let first : start ≡ codes_start (listings_of listed) =
    omega (arith, begin, listings_length listed) in
    let all : codes_at (listings_of listed) (codes_start (listings_of listed)) bytes ≡ Ok ms =
    ap (λ (ls : List Listed). codes_at (listings_of ls) (codes_start (listings_of listed))
    bytes) (sym same) ∙ ap (λ n. codes_at (listings_of seen) n bytes) (sym first) ∙ codes in
    let total : total_count (listings_of seen) ≡ total_count (listings_of listed) =
    ap (λ (ls : List Listed). total_count (listings_of ls)) same in
    opened v bytes count listed ms small opening number few directory all
    (omega (arith, long, stop, first, total))

pub entries_are : (v : ℕ) (bytes : List ℕ) (listed : List Listed) (seen : File)
    → file_of bytes ≡ seen → IsOpened bytes v listed → length listed ≡ length seen.programs
entries_are v bytes listed seen is h =
    sym (listings_length listed)
    ∙ sym (codes_length (listings_of listed) (codes_start (listings_of listed)) bytes
    (programs_in bytes) h.codes) ∙ ap (λ (f : File). length f.programs) is
