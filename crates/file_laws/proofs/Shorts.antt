-- A reader that tells Short of every refused file is not what the law of program files asks for.
use Rattle.std.proofs.Common.{◌≡◌, ℕ, false, List, ◌++◌, length, Result, Ok, Err, refl, sym, ◌∙◌}
use Rattle.std.proofs.Common.{inl, inr, arith, suc, []}
use Rattle.std.proofs.lemmas.Bool.Decides.{nat_tests}
use Rattle.std.specs.Prelude.{nat_lt, codes, ◌⊎◌}
use Rattle.file_fields.specs.Fields.{fault_at}
use Rattle.uprog_code.specs.Shape.{Microprogram}
use Rattle.uprog_bin.specs.declared.fault.ProgKind.TheVariants as kinds
use Rattle.uprog_bin.specs.Reading.{ProgFault, opening_in, program_in}
use Rattle.file_laws.specs.Programs.{IsField, ShortIsNotEnough, ends}
use Rattle.file_laws.specs.Stands.{BreaksLater, IsAccepted, always_short}

-- no program file begins with SDMX, whatever follows
not_magic : (more : List ℕ) → program_in (codes "SDMX" ++ more) ≡ Err (fault_at 0 kinds.Magic)
unfolding program_in opening_in
not_magic more =
    let long : nat_lt (suc (suc (suc (suc (length more))))) 4 ≡ false = grind (arith, nat_tests) in
    rw long refl

short_of : (more : List ℕ) → always_short ends program_in (codes "SDMX" ++ more)
    ≡ Err (fault_at (length (codes "SDMX" ++ more)) kinds.Short)
short_of more = rw (not_magic more) refl

kind_in : Result (ℕ × List Microprogram) ProgFault → ProgFault → ProgFault
kind_in (Ok x) f = f
kind_in (Err g) f = g

no_more : (more : List ℕ) → IsAccepted (always_short ends program_in) (codes "SDMX" ++ more)
    ⊎ BreaksLater ends IsField (always_short ends program_in) (codes "SDMX") more → ⊥
no_more more (inl (held, is)) = let e = sym is ∙ short_of more in absurd (cc)
no_more more (inr later) =
    let e = sym later.told ∙ short_of more in
    later.kind (cc)

pub not_enough : ShortIsNotEnough
not_enough law =
    let fault = law (codes "SDMX") (fault_at 4 kinds.Short) (short_of []) in
    let early = (fault.short refl).1 in
    no_more early.more early.goes_on
