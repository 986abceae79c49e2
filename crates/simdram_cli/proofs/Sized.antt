-- The rows of an image file have the size that its geometry asks for, and a program file is small.
use Rattle.simdram_cli.proofs.Common.{◌≡◌, ℕ, zero, suc, ◌+◌, ◌*◌, ◌<◌, ◌≤◌, List, [], ◌∷◌, ◌++◌}
use Rattle.simdram_cli.proofs.Common.{length, sym, ◌∙◌, ap, arith, flat_map, Result, range_with_len}
use Rattle.simdram_cli.proofs.Common.{length-map, length-append, length-range_with_len, suc-mul}
use Rattle.simdram_cli.proofs.Common.{Geometry, ImageFault, Rows, rows_in, Found, AllByRecursion}
use Rattle.simdram_cli.proofs.Common.{IsEntry, Microprogram, IsProgramFile, code_bytes}
use Rattle.simdram_cli.proofs.Common.{directory_bytes, opening_bytes, program_bytes, length-code}
use Rattle.simdram_cli.proofs.Common.{head_bytes, shape_bytes, to_le_bytes, w16, w32, name_bytes}
use Rattle.simdram_cli.proofs.Common.{name_size}
use Rattle.std.proofs.Common.{Ok}
use Rattle.std.specs.Prelude.{◌^◌}
use Rattle.std.proofs.Math.Nat.{mul_assoc, mul_comm}
use Rattle.object_alloc.specs.Bytes.{bytes_of_bits}
use Rattle.object_alloc.specs.Spelling.{rows_bytes}
use Rattle.object_alloc.specs.Reading.{rows_size}

length_pieces : (size : ℕ) (f : ℕ → List ℕ) (a n : ℕ) → ((k : ℕ) → length (f k) ≡ size)
    → length (flat_map f (range_with_len a n)) ≡ n * size
length_pieces size f a zero e = omega arith
length_pieces size f a (suc n) e =
    let rest = length_pieces size f (a + 1) n e in
    let here = e a in
    length-append (f a) (flat_map f (range_with_len (a + 1) n))
    ∙ omega (arith, rest, here, suc-mul n size)

row_size : (count : ℕ) (row : _) → length (bytes_of_bits count row) ≡ count
row_size count row = simp length-map (length-range_with_len 0 count)

pulled : (a w : ℕ) → a * (8 * w) ≡ 8 * (a * w)
pulled a w = sym (mul_assoc a 8 w) ∙ ap (λ (n : ℕ). n * w) (mul_comm a 8) ∙ mul_assoc 8 a w

sizes : (g : Geometry) → g.banks * (g.rows * (8 * g.words)) ≡ rows_size g
sizes g =
    ap (λ (n : ℕ). g.banks * n) (pulled g.rows g.words) ∙ pulled g.banks (g.rows * g.words)
    ∙ ap (λ (n : ℕ). 8 * n) (sym (mul_assoc g.banks g.rows g.words))

bytes_size : (g : Geometry) (rows : Rows) → length (rows_bytes g rows) ≡ rows_size g
bytes_size g rows =
    length_pieces (g.rows * (8 * g.words)) (λ bank. flat_map
    (λ row. bytes_of_bits (8 * g.words) (rows bank row)) (range_with_len 0 g.rows)) 0 g.banks
    (λ bank. length_pieces (8 * g.words) (λ row. bytes_of_bits (8 * g.words) (rows bank row)) 0
    g.rows (λ row. row_size (8 * g.words) (rows bank row)))
    ∙ sizes g

-- what is read of the spelling of what was found
abbrev pub found_again : Found → Result Found ImageFault
found_again found = Ok (record {
  geometry = found.geometry;
  table = found.table;
  rows = rows_bytes found.geometry (rows_in found.geometry found.rows);
})

-- so the rows have their size
pub rows_sized : (found : Found) → found_again found ≡ Ok found
    → length found.rows ≡ rows_size found.geometry
rows_sized found e =
    let whole : Found = record {
      geometry = found.geometry;
      table = found.table;
      rows = rows_bytes found.geometry (rows_in found.geometry found.rows);
    } in
    let same : whole ≡ found = cc in
    ap (λ (f : Found). length f.rows) (sym same)
    ∙ bytes_size found.geometry (rows_in found.geometry found.rows)

-- a program file has less than 2^32 bytes

code_small : (m : Microprogram) → IsEntry m → length (code_bytes m) ≤ 8 * 2 ^ 16
code_small m is =
    let size = length-code m.code in let short = is.code.short in omega (arith, size, short)

codes_small : (ms : List Microprogram) → AllByRecursion IsEntry ms
    → length (flat_map code_bytes ms) ≤ 8 * 2 ^ 16 * length ms
codes_small [] are = omega arith
codes_small (m ∷ ms) are =
    let one = code_small m are.0 in
    let rest = codes_small ms are.1 in
    let both = length-append (code_bytes m) (flat_map code_bytes ms) in
    omega (arith, one, rest, both)

head_size : (start : ℕ) (m : Microprogram) → IsEntry m → length (head_bytes start m) ≡ 27
head_size start m is = omega (
  arith,
  length-append (name_bytes m.name) (shape_bytes m.shape
      ++ (to_le_bytes w32 start ++ to_le_bytes w16 (length m.code))),
  name_size m.name is.name,
)

pub directory_small : (ms : List Microprogram) (start : ℕ) → AllByRecursion IsEntry ms
    → length (directory_bytes start ms) ≤ 27 * length ms
directory_small [] start are = omega arith
directory_small (m ∷ ms) start are = omega (
  arith,
  length-append (head_bytes start m) (directory_bytes (start + length m.code) ms),
  head_size start m are.0,
  directory_small ms (start + length m.code) are.1,
)

pub program_small : (bytes : List ℕ) → IsProgramFile bytes → length bytes < 2 ^ 32
unfolding program_bytes
program_small bytes file =
    let ms = file.programs in
    let codes = codes_small ms file.is.entries in
    let directory = directory_small ms 0 file.is.entries in
    let rest = length-append (directory_bytes 0 ms) (flat_map code_bytes ms) in
    let all = length-append (opening_bytes file.version) (to_le_bytes w16 (length ms)
    ++ (directory_bytes 0 ms ++ flat_map code_bytes ms)) in
    let size = ap length file.spelled in
    let few = file.is.few in
    omega (arith, codes, directory, rest, all, size, few)
