-- The file of what is made of a program is one that commands load.
use Rattle.simdram_cli.proofs.Common.{◌≡◌, ℕ, ◌+◌, ◌-◌, ◌*◌, ◌/◌, ◌≤◌, List, [], ◌∷◌, ◌++◌, length}
use Rattle.simdram_cli.proofs.Common.{refl, ap, ◌∙◌, arith, to_le_bytes, w16, w32, AllByRecursion}
use Rattle.simdram_cli.proofs.Common.{flat_map, length-append, flat_map-cons, name_bytes, name_size}
use Rattle.simdram_cli.proofs.Common.{Microprogram, IsEntry, IsProgram, TextOp, code_bytes}
use Rattle.simdram_cli.proofs.Common.{directory_bytes, head_bytes, opening_bytes, program_bytes}
use Rattle.simdram_cli.proofs.Common.{shape_bytes, length-code, IsProgramFile, Program, AreOutcomes}
use Rattle.uprog_code.specs.declared.registers.Issued.{Issued}
use Rattle.optimise_job.specs.declared.offer.Outcome.{Outcome}
use Rattle.optimise_job.proofs.Pushed.{many_outcomes}
use Rattle.optimise_job.proofs.Sizes.{total, total_fits}
use Rattle.simdram_cli.specs.declared.words.TheConstants.{PROG_MAX}
use Rattle.simdram_cli.specs.Optimise.{room_for}

-- how long a file is: eight bytes, 27 for each entry, and eight for each instruction

codes_long : (ms : List Microprogram) → length (flat_map code_bytes ms) ≡ 8 * total ms
codes_long [] = refl
codes_long (m ∷ ms) =
    let all = ap length (flat_map-cons code_bytes m ms) in
    let both = length-append (code_bytes m) (flat_map code_bytes ms) in
    let own = length-code m.code in
    let rest = codes_long ms in
    omega (arith, all, both, own, rest)

directory_long : (ms : List Microprogram) (start : ℕ) → AllByRecursion IsEntry ms
    → length (directory_bytes start ms) ≡ 27 * length ms
directory_long [] start is = omega arith
directory_long (m ∷ ms) start is =
    let both = length-append (head_bytes start m) (directory_bytes (start + length m.code) ms) in
    let name = name_size m.name is.0.name in
    let own = length-append (name_bytes m.name) (shape_bytes m.shape
    ++ (to_le_bytes w32 start ++ to_le_bytes w16 (length m.code))) in
    let rest = directory_long ms (start + length m.code) is.1 in
    omega (arith, both, own, name, rest)

pub program_long : (version : ℕ) (ms : List Microprogram) → AllByRecursion IsEntry ms
    → length (program_bytes version ms) ≡ 8 + 27 * length ms + 8 * total ms
unfolding program_bytes
program_long version ms is =
    let tail = directory_bytes 0 ms ++ flat_map code_bytes ms in
    let three = length-append (directory_bytes 0 ms) (flat_map code_bytes ms) in
    let two = length-append (to_le_bytes w16 (length ms)) tail in
    let one = length-append (opening_bytes version) (to_le_bytes w16 (length ms) ++ tail) in
    let directory = directory_long ms 0 is in
    let codes = codes_long ms in
    omega (arith, one, two, three, directory, codes)

-- eight bytes for each instruction of those that there is room for
fits : (limit old new es rs before after : ℕ) → rs ≡ es → old ≡ 8 + 27 * es + 8 * before
    → new ≡ 8 + 27 * rs + 8 * after → old ≤ limit → after ≤ before + (limit - old) / 8 → new ≤ limit
fits limit old new es rs before after same is was within most =
    let whole : 8 * ((limit - old) / 8) ≤ limit - old = omega arith in
    omega (arith, whole, same, is, was, within, most)

pub made_within : (n : ℕ) (text : List ℕ) (file : IsProgramFile text) → length text ≤ PROG_MAX
    → (ops : List TextOp) (lines : List (List Issued)) (made : Program) (outcomes : List Outcome)
    → IsProgram made → AreOutcomes n (room_for text) ops file.programs lines made outcomes
    → length (program_bytes 2 made) ≤ PROG_MAX
made_within n text file within ops lines made outcomes legal are =
    let long = ap length file.spelled ∙ program_long file.version file.programs file.is.entries in
    fits PROG_MAX (length text) (length (program_bytes 2 made)) (length file.programs) (length made)
    (total file.programs) (total made)
    (many_outcomes n (room_for text) ops file.programs lines made outcomes are) long
    (program_long 2 made legal.entries) within
    (total_fits n (room_for text) ops file.programs lines made outcomes are)
