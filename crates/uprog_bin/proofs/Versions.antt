-- A file is that of one program.
use Rattle.uprog_bin.proofs.Common.{◌≡◌, ℕ, List, Ok, Result, refl, sym, ap, ◌∙◌, inl, inr, ◌<◌}
use Rattle.uprog_bin.proofs.Common.{length, arith, slice_set, Microprogram, IsProgram, ok_is}
use Rattle.uprog_bin.specs.Spelling.{HasVersion, program_bytes}
use Rattle.uprog_bin.specs.Reading.{program_in, ProgFault}
use Rattle.uprog_bin.specs.Opened.{IsProgramFile}
use Rattle.uprog_bin.proofs.Whole.{read}

found : ℕ → List Microprogram → Result (ℕ × List Microprogram) ProgFault
found v ms = Ok (v, ms)

found_one : (v w : ℕ) (ms ns : List Microprogram) → found v ms ≡ found w ns → (v ≡ w) × (ms ≡ ns)
unfolding found
found_one v w ms ns e =
    let pair : (ℕ × List Microprogram) = (v, ms) in
    let other : (ℕ × List Microprogram) = (w, ns) in
    let same : pair ≡ other = ok_is pair other e in
    (ap (λ p. p.0) same, ap (λ p. p.1) same)

-- a file is that of one program, in one version
pub file_is_one : (v w : ℕ) (ms ns : List Microprogram) → IsProgram ms → IsProgram ns
    → HasVersion v ms → HasVersion w ns → program_bytes v ms ≡ program_bytes w ns
    → (v ≡ w) × (ms ≡ ns)
unfolding found
file_is_one v w ms ns is js has too e =
    found_one v w ms ns (sym (read v ms is has) ∙ ap program_in e ∙ read w ns js too)

-- only byte 4 has the version
pub version_byte : (v : ℕ) (ms : List Microprogram) → HasVersion v ms
    → program_bytes 2 ms ≡ slice_set (program_bytes v ms) 4 2
unfolding program_bytes
version_byte v ms (inl one) = rw one.0 refl
version_byte v ms (inr two) = rw two refl

-- a file has a byte 4
pub file_long : (bytes : List ℕ) → IsProgramFile bytes → 4 < length bytes
unfolding program_bytes
file_long bytes f = let size = ap length f.spelled in omega (arith, size)
