-- The statuses that the steps of a guarded run can give.
use Rattle.simdram_cli.proofs.Common.{ℕ, ◌+◌, Bool, true, false, List, [], ◌∷◌, ◌++◌, Option, Some}
use Rattle.simdram_cli.proofs.Common.{None, Result, Ok, Err, IfErr, Geometry, Banks, Named, Found}
use Rattle.simdram_cli.proofs.Common.{ImageFault, ScriptFault, Instruction, Ahead, Turn, Image}
use Rattle.simdram_cli.proofs.Common.{opened, Routines, routines_in, line, Flip, FlipsFault}
use Rattle.simdram_cli.proofs.Common.{guarded_rows, guarded_said_by, guarded_table, guarded_turn}
use Rattle.simdram_cli.proofs.Common.{mended, first_long_name, first_stranger, guarded_steps}
use Rattle.simdram_cli.proofs.Common.{line_steps, is_print, ChipUse, OfSteps, of_more}
use Rattle.guard_model.specs.Flips.{due}
use Rattle.guard_model.specs.Guarded.{guarded_events}
use Rattle.guard_job.specs.Steps.{instr_steps}
use Rattle.simdram_cli.specs.Flips.{flips_or_refusal, in_triples, name_refusal, table_refusal}
use Rattle.simdram_cli.specs.Flips.{unless_some, with_short_names}
use Rattle.simdram_cli.specs.Guard.{GuardJob, last_steps}
use Rattle.simdram_cli.specs.Inputs.{image_or_refusal, script_or_refusal}

named_of : (P : ℕ → Type 0) (o : Option ℕ) (script : List Instruction) → P 17
    → IfErr (unless_some name_refusal o script) (λ refusal. P refusal.status)
named_of P None script seventeen = tt
named_of P (Some k) script seventeen = seventeen

pub short_of : (P : ℕ → Type 0) (read : Result (List Instruction) ScriptFault) → P 6 → P 17
    → IfErr (with_short_names (script_or_refusal read)) (λ refusal. P refusal.status)
short_of P (Ok script) six seventeen = named_of P (first_long_name script) script seventeen
short_of P (Err fault) six seventeen = six

strange_of : (P : ℕ → Type 0) (o : Option ℕ) (i : Image) → P 17
    → IfErr (unless_some table_refusal o i) (λ refusal. P refusal.status)
strange_of P None i seventeen = tt
strange_of P (Some k) i seventeen = seventeen

pub triples_of : (P : ℕ → Type 0) (found : Result Found ImageFault) → P 7 → P 17
    → IfErr (in_triples (image_or_refusal found)) (λ refusal. P refusal.status)
triples_of P (Ok found) seven seventeen = strange_of P (first_stranger found.table) _ seventeen
triples_of P (Err fault) seven seventeen = seven

pub flips_are : (P : ℕ → Type 0) (read : Result (List Flip) FlipsFault) → P 18
    → IfErr (flips_or_refusal read) (λ refusal. P refusal.status)
flips_are P (Ok flips) eighteen = tt
flips_are P (Err fault) eighteen = eighteen

line_are : (P : ℕ → Type 0) (on : ChipUse) (prints : Bool) (bytes : List ℕ) → P 3 → P 9
    → OfSteps P (line_steps on prints bytes)
line_are P on true bytes three nine = ((three, nine), tt)
line_are P on false bytes three nine = (nine, (three, tt))

script_are : (P : ℕ → Type 0) (g : Geometry) (o : Routines) (flips : List Flip) (k : ℕ)
    (turn : Turn) (table : List Named) (banks : Banks) (script : List Instruction) → P 3 → P 9
    → OfSteps P (guarded_steps g o flips k turn table banks script)
script_are P g o flips k turn table banks [] three nine = (nine, tt)
script_are P g o flips k turn table banks (instr ∷ script) three nine =
    let now = mended g flips k table banks in
    let bytes = line k (guarded_said_by g o table now instr) in
    let after = guarded_turn g o turn table instr in
    let next = guarded_table g o table instr in
    let rows = guarded_rows g o table now instr in
    of_more P (instr_steps g o (due k flips) k turn table banks instr)
    (guarded_steps g o flips (k + 1) after next rows script)
    (nine, line_are P _ (is_print instr) bytes three nine)
    (script_are P g o flips (k + 1) after next rows script three nine)

-- the steps after the opening
pub opened_are : (P : ℕ → Type 0) (out : List ℕ) (job : GuardJob) → P 3 → P 9
    → OfSteps P (guarded_steps job.image.geometry (routines_in job.program) job.flips 1 Ahead
    job.image.table (opened job.image) job.script ++ last_steps out job)
opened_are P out job three nine =
    of_more P (guarded_steps job.image.geometry (routines_in job.program) job.flips 1 Ahead
    job.image.table (opened job.image) job.script) (last_steps out job)
    (script_are P job.image.geometry (routines_in job.program) job.flips 1 Ahead job.image.table
    (opened job.image) job.script three nine) (nine, (three, (three, (three, tt))))
