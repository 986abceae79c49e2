-- A program file has less than 2^32 bytes.
use Rattle.soak_job.proofs.Common.{◌≡◌, ℕ, ◌+◌, ◌*◌, ◌<◌, ◌≤◌, List, [], ◌∷◌, ◌++◌, length}
use Rattle.soak_job.proofs.Common.{flat_map, ap, arith, AllByRecursion, length-append, Microprogram}
use Rattle.soak_job.proofs.Common.{program_bytes, ◌^◌}
use Rattle.std.specs.Int.{to_le_bytes, w16, w32}
use Rattle.file_fields.specs.Fields.{name_bytes}
use Rattle.file_fields.proofs.Padded.{name_size}
use Rattle.uprog_code.specs.Programs.{IsEntry}
use Rattle.uprog_bin.specs.Opened.{IsProgramFile}
use Rattle.uprog_bin.specs.Spelling.{code_bytes, directory_bytes, opening_bytes, head_bytes}
use Rattle.uprog_bin.specs.Spelling.{shape_bytes}
use Rattle.uprog_bin.proofs.Again.{length-code}

code_small : (m : Microprogram) → IsEntry m → length (code_bytes m) ≤ 8 * 2 ^ 16
code_small m is =
    let size = length-code m.code in let short = is.code.short in omega (arith, size, short)

codes_small : (ms : List Microprogram) → AllByRecursion IsEntry ms
    → length (flat_map code_bytes ms) ≤ 8 * 2 ^ 16 * length ms
codes_small [] are = omega arith
codes_small (m ∷ ms) are =
    let one = code_small m are.0 in
    let rest = codes_small ms are.1 in
    let both = length-append (code_bytes m) (flat_map code_bytes ms) in
    omega (arith, one, rest, both)

head_size : (start : ℕ) (m : Microprogram) → IsEntry m → length (head_bytes start m) ≡ 27
head_size start m is = omega (
  arith,
  length-append (name_bytes m.name) (shape_bytes m.shape
      ++ (to_le_bytes w32 start ++ to_le_bytes w16 (length m.code))),
  name_size m.name is.name,
)

directory_small : (ms : List Microprogram) (start : ℕ) → AllByRecursion IsEntry ms
    → length (directory_bytes start ms) ≤ 27 * length ms
directory_small [] start are = omega arith
directory_small (m ∷ ms) start are = omega (
  arith,
  length-append (head_bytes start m) (directory_bytes (start + length m.code) ms),
  head_size start m are.0,
  directory_small ms (start + length m.code) are.1,
)

pub program_small : (bytes : List ℕ) → IsProgramFile bytes → length bytes < 2 ^ 32
unfolding program_bytes
program_small bytes file =
    let ms = file.programs in
    let codes = codes_small ms file.is.entries in
    let directory = directory_small ms 0 file.is.entries in
    let rest = length-append (directory_bytes 0 ms) (flat_map code_bytes ms) in
    let all = length-append (opening_bytes file.version) (to_le_bytes w16 (length ms)
    ++ (directory_bytes 0 ms ++ flat_map code_bytes ms)) in
    let size = ap length file.spelled in
    let few = file.is.few in
    omega (arith, codes, directory, rest, all, size, few)
