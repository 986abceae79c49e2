-- An accepted script has no more instructions than bytes and one.
use Rattle.simdram_cli.proofs.Common.{◌≡◌, ℕ, ◌+◌, ◌≤◌, List, [], ◌∷◌, length, Option, Some, None}
use Rattle.simdram_cli.proofs.Common.{refl, arith, Bool, true, false, cond, subst, Result, Ok, Err}
use Rattle.simdram_cli.proofs.Common.{◌==◌, ScriptFault, Instruction, begun, lines_of, script_of}
use Rattle.bbop_isa.specs.declared.instr.ScriptKind.{ScriptKind}
use Rattle.bbop_isa.specs.Forms.{line_of}
use Rattle.bbop_isa.specs.Script.{script_with, go_on, script_from}

abbrev AtMost : ℕ → Result (List Instruction) ScriptFault → Type 0
AtMost n read = (script : List Instruction) → read ≡ Ok script → length script ≤ n

following : (i : Option Instruction) (rest : Result (List Instruction) ScriptFault) (lines : ℕ)
    → AtMost lines rest → AtMost (lines + 1) (script_with i rest)
following i (Err fault) lines more script e = absurd (cc)
following None (Ok s) lines more script e =
    let few = more s refl in
    let same : s ≡ script = cc in
    subst (λ (t : List Instruction). length t ≤ lines + 1) same (omega (arith, few))
following (Some i) (Ok s) lines more script e =
    let few = more s refl in
    let same : i ∷ s ≡ script = cc in
    subst (λ (t : List Instruction). length t ≤ lines + 1) same (omega (arith, few))

line_goes : (number : ℕ) (said : Result (Option Instruction) ScriptKind)
    (rest : Result (List Instruction) ScriptFault) (lines : ℕ) → AtMost lines rest
    → AtMost (lines + 1) (go_on number said rest)
line_goes number (Err kind) rest lines more script e = absurd (cc)
line_goes number (Ok i) rest lines more script e = following i rest lines more script e

lines_few : (number : ℕ) (lines : List (List ℕ))
    → AtMost (length lines) (script_from number lines)
lines_few number [] script e =
    let none : List Instruction = [] in
    let same : none ≡ script = cc in
    subst (λ (t : List Instruction). length t ≤ 0) same (omega arith)
lines_few number (line ∷ lines) script e =
    let few = line_goes number (line_of line) (script_from (number + 1) lines) (length lines)
    (lines_few (number + 1) lines) script e in
    omega (arith, few)

begun_long : (b : ℕ) (lines : List (List ℕ)) → length (begun b lines) ≤ length lines + 1
begun_long b [] = omega arith
begun_long b (line ∷ lines) = omega arith

split_long : (newline : Bool) (b n : ℕ) (lines : List (List ℕ)) → length lines ≤ n + 1
    → length (cond newline ([] ∷ lines) (begun b lines)) ≤ n + 1 + 1
split_long true b n lines l = omega (arith, l)
split_long false b n lines l = let m = begun_long b lines in omega (arith, l, m)

pub lines_long : (text : List ℕ) → length (lines_of text) ≤ length text + 1
lines_long [] = omega arith
lines_long (b ∷ bs) =
    let l = split_long (b == 10) b (length bs) (lines_of bs) (lines_long bs) in omega (arith, l)

pub accepted_few : (text : List ℕ) (script : List Instruction) → script_of text ≡ Ok script
    → length script ≤ length text + 1
accepted_few text script e =
    let p = lines_few 1 (lines_of text) script e in
    let l = lines_long text in omega (arith, p, l)
