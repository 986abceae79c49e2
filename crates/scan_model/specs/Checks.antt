-- When a scan is refused.
use Rattle.std.specs.Prelude.{ℕ, ◌+◌, ◌^◌, ◌==◌, nat_le, not, List, [], ◌∷◌, Option, Some, None}
use Rattle.std.specs.Prelude.{if◌then◌else◌}
use Rattle.dram_model.specs.declared.geometry.Geometry.{Geometry}
use Rattle.object_alloc.specs.Listed.{Named}
use Rattle.bbop_isa.specs.Forms.{Instruction}
use Rattle.machine_model.specs.declared.Why.{Why}
use Rattle.machine_model.specs.Routines.{Routines}
use Rattle.bbop_isa.specs.declared.instr.Place.{Place}
use Rattle.machine_model.specs.Refusals.{rows_of, goes_past, is_absent, refusal}
use Rattle.machine_model.specs.Steps.{table_after}
use Rattle.machine_model.specs.Script.{table_at_end}
use Rattle.scan_model.specs.declared.ScanWhy.{ScanWhy}
use Rattle.scan_model.specs.declared.ScanWhy.TheVariants as scan
use Rattle.scan_model.specs.Queries.{Node, Test, Not, And, Or}
use Rattle.scan_model.specs.Instructions.{node_instructions, count_of}

-- a comparison's object is there, its bits do not end past it, it has this count, and it is wide
-- enough for the number
abbrev pub check_test : List Named → ℕ → Place → ℕ → Option ScanWhy
check_test table count place v =
    if is_absent table place.name then Some scan.NoObject
    else (if goes_past table place then Some scan.Slice
    else (if not ((rows_of table place).count == count) then Some scan.Count
    else (if nat_le (2 ^ (rows_of table place).width) v then Some scan.Range else None)))

-- what is at fault, and its number
abbrev pub or_later : {R : Type 0} → Option R → ℕ → Option (R × ℕ) → Option (R × ℕ)
or_later (Some reason) k later = Some (reason, k)
or_later None k later = later

-- the first comparison at fault, where the first has this number
abbrev pub checked_from : List Named → ℕ → ℕ → List Node → Option (ScanWhy × ℕ)
checked_from table count k [] = None
checked_from table count k (Test op place v ∷ nodes) =
    or_later (check_test table count place v) k (checked_from table count (k + 1) nodes)
checked_from table count k (Not a ∷ nodes) = checked_from table count k nodes
checked_from table count k (And a b ∷ nodes) = checked_from table count k nodes
checked_from table count k (Or a b ∷ nodes) = checked_from table count k nodes

-- the first comparison of a query that is at fault on this table, and why
abbrev pub checked : List Named → List Node → Option (ScanWhy × ℕ)
checked table nodes = checked_from table (count_of table nodes) 0 nodes

-- the first refusal of a list of instructions
abbrev pub or_else : Option Why → Option Why → Option Why
or_else (Some reason) later = Some reason
or_else None later = later

-- why some instruction of a script is refused, by the first that is
abbrev pub refused_in : Geometry → Routines → List Named → List Instruction → Option Why
refused_in g operations table [] = None
refused_in g operations table (instr ∷ script) =
    or_else (refusal g operations table instr)
    (refused_in g operations (table_after g operations table instr) script)

-- the first node one of whose instructions is refused; the query was asked of the table start,
-- and goes on from the other
abbrev pub refused_from : Geometry → Routines → (start table : List Named) → (ℕ → List ℕ) → ℕ
    → ℕ → List Node → Option (Why × ℕ)
refused_from g operations start table names count k [] = None
refused_from g operations start table names count k (node ∷ nodes) =
    or_later (refused_in g operations table (node_instructions start names count k node)) k
    (refused_from g operations start (table_at_end g operations table
    (node_instructions start names count k node)) names count (k + 1) nodes)
