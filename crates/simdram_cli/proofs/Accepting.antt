-- The file of a compiled program is taken by each command that loads a program file.
use Rattle.simdram_cli.proofs.Common.{◌≡◌, ◌+◌, ◌*◌, ◌≤◌, List, [], ◌∷◌, ◌++◌, length, map, refl}
use Rattle.simdram_cli.proofs.Common.{sym, ◌∙◌, ap, subst, inr, arith, flat_map, to_le_bytes, w16}
use Rattle.simdram_cli.proofs.Common.{AllByRecursion, length-append, Operation, Microprogram}
use Rattle.simdram_cli.proofs.Common.{HasEnded, trace, IsProgram, TextOp, ImplementsAll, text_op}
use Rattle.simdram_cli.proofs.Common.{code_bytes, directory_bytes, opening_bytes, program_bytes}
use Rattle.simdram_cli.proofs.Common.{length-code, read}
use Rattle.op_text.specs.Spelling.{Each}
use Rattle.op_rules.specs.Meets.{OperationMeets, OpsMeet}
use Rattle.uprog_code.specs.declared.code.Uop.{Uop}
use Rattle.uprog_code.specs.declared.code.Uop.TheVariants.{Done}
use Rattle.uprog_code.specs.Shape.{Shape}
use Rattle.uprog_gen.specs.Programs.{AreCompiled, IsCompiled, together}
use Rattle.simdram_cli.specs.Accepted.{instructions, IsNeverStuck, IsTaken}
use Rattle.simdram_cli.specs.Programs.{program_or_refusal}
use Rattle.simdram_cli.proofs.Sized.{directory_small}

-- the parts of an entry's code are short

together_short : (parts : List (List Uop)) → AllByRecursion (λ p. length p ≤ 256) parts
    → length (together parts) ≤ 256 * length parts
together_short [] all = omega arith
together_short (p ∷ ps) all =
    omega (arith, length-append p (together ps), all.0, together_short ps all.1)

code_short : (e : Microprogram) (op : Operation) → length op.body ≤ 16 → IsCompiled e op
    → length e.code ≤ 4097
code_short e op few c =
    let parts = together_short c.from.parts.parts c.from.parts.short in
    let size = ap length c.from.parts.whole
    ∙ length-append (together c.from.parts.parts) (Done ∷ []) in
    let many = c.from.parts.many in omega (arith, parts, size, many, few)

instructions_few : (es : List Microprogram) (ops : List Operation) → AreCompiled es ops
    → Each OperationMeets ops → instructions es ≤ 4097 * length es
instructions_few [] [] c m = omega arith
instructions_few [] (op ∷ ops) c m = absurd c
instructions_few (e ∷ es) [] c m = absurd c
instructions_few (e ∷ es) (op ∷ ops) c m =
    let one = code_short e op m.0.few_statements c.0 in
    let rest = instructions_few es ops c.1 m.1 in omega (arith, one, rest)

codes_long : (ms : List Microprogram) → length (flat_map code_bytes ms) ≡ 8 * instructions ms
codes_long [] = refl
codes_long (m ∷ ms) =
    let one = length-code m.code in
    let rest = codes_long ms in
    let both = length-append (code_bytes m) (flat_map code_bytes ms) in
    omega (arith, one, rest, both)

file_short : (ms : List Microprogram) → IsProgram ms
    → length (program_bytes 2 ms) ≤ 8 + 27 * length ms + 8 * instructions ms
unfolding program_bytes
file_short ms is =
    let codes = codes_long ms in
    let directory = directory_small ms 0 is.entries in
    let rest = length-append (directory_bytes 0 ms) (flat_map code_bytes ms) in
    let all = length-append (opening_bytes 2) (to_le_bytes w16 (length ms)
    ++ (directory_bytes 0 ms ++ flat_map code_bytes ms)) in
    omega (arith, codes, directory, rest, all)

never_stuck : (p : List Microprogram) (t : List TextOp) → ImplementsAll p t
    → AllByRecursion IsNeverStuck p
never_stuck [] [] i = tt
never_stuck [] (o ∷ t) i = absurd i
never_stuck (e ∷ p) [] i = absurd i
never_stuck (e ∷ p) (o ∷ t) i = (
  λ n some small. subst (λ (s : Shape). HasEnded (trace s e.code n)) (sym i.0.shape)
      (i.0.code.ends n some small),
  never_stuck p t i.1,
)

pub taken : (es : List Microprogram) (ops : List Operation) → AreCompiled es ops → OpsMeet ops
    → IsProgram es → ImplementsAll es (map text_op ops) → IsTaken (program_bytes 2 es) es
taken es ops c meets is i =
    let short = instructions_few es ops c meets.each in
    let size = file_short es is in
    let few = is.few in
    record {
      few = omega (arith, short, few);
      within = omega (arith, short, size, few);
      accepted = ap program_or_refusal (read 2 es is (inr refl));
      walks = never_stuck es (map text_op ops) i;
    }
