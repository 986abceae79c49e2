-- What a scan answers, in the words of the banks at its start.
use Rattle.std.specs.Prelude.{◌≡◌, ℕ, ◌<◌, ◌≤◌, ◌==◌, List, [], ◌∷◌, ◌++◌, take, length, count_by}
use Rattle.std.specs.Prelude.{All, Option, Some, None, slice_index}
use Rattle.std.specs.List.{range_with_len, AllByRecursion}
use Rattle.bit_rows.specs.declared.TheConstants.{WIDTH_MAX}
use Rattle.dram_model.specs.declared.geometry.Geometry.{Geometry}
use Rattle.dram_model.specs.Elements.{column_count}
use Rattle.dram_model.specs.Chip.{Banks}
use Rattle.uprog_code.specs.declared.walker.Counts.{Counts}
use Rattle.uprog_code.specs.Count.{counts_of}
use Rattle.uprog_code.specs.Texts.{ImplementsAll}
use Rattle.object_alloc.specs.declared.table.Object.{Object}
use Rattle.object_alloc.specs.Listed.{Named, IsTable, limit_of}
use Rattle.object_alloc.specs.Spelling.{IsObject}
use Rattle.bbop_isa.specs.Forms.{Instruction}
use Rattle.machine_model.specs.declared.Why.{Why}
use Rattle.machine_model.specs.declared.Why.TheVariants as why
use Rattle.machine_model.specs.Columns.{columns}
use Rattle.machine_model.specs.Routines.{Program, Routines, routines_of}
use Rattle.machine_model.specs.Refusals.{object_named}
use Rattle.machine_model.specs.Steps.{issues_at}
use Rattle.machine_model.specs.Script.{replies, sum_of, table_at_end, banks_at_end}
use Rattle.scan_model.specs.declared.ScanWhy.{ScanWhy}
use Rattle.scan_model.specs.declared.ScanWhy.TheVariants as scan
use Rattle.scan_model.specs.Queries.{Query, HasParts, matches, size, nodes_of}
use Rattle.scan_model.specs.Names.{free_name}
use Rattle.scan_model.specs.Instructions.{scan_script, count_of}
use Rattle.scan_model.specs.Checks.{checked}
use Rattle.scan_model.specs.Operations.{scan_text}
use Rattle.scan_model.specs.Laws.{scan_refused}

-- the numbers of an element in the banks' columns, by the objects' names
abbrev pub element_in : Geometry → Banks → List Named → ℕ → List ℕ → ℕ
element_in g banks table e name = slice_index (columns g banks (object_named table name)) e

-- how many elements a query is asked of: those of the object that it names first
abbrev pub query_count : List Named → Query → ℕ
query_count table q = count_of table (nodes_of q)

-- the instructions of a query on this table
abbrev pub query_script : List Named → Query → List Instruction
query_script table q = scan_script table (nodes_of q)

-- how many of the objects' elements a query holds of
abbrev pub found_in : Geometry → Banks → List Named → Query → ℕ
found_in g banks table q = count_by (λ e. matches q (element_in g banks table e))
    (range_with_len 0 (query_count table q))

-- how many elements were found of how many, by so many commands; or why it was refused, and at
-- which comparison or node
pub data Answer : Type 0 where
  Found : (found of : ℕ) → Counts → Answer
  Refused : ScanWhy → ℕ → Answer

-- why a scan has no room, as it is told: there are 256 objects, or no free rows
abbrev pub room_word : Why → ScanWhy
room_word why.TableFull = scan.TableFull
room_word w = scan.NoRows

-- the answer of a query that passes the checks, where no node is refused
abbrev pub by_run : Option (Why × ℕ) → Answer → Answer
by_run None found = found
by_run (Some (w, k)) found = Refused (room_word w) k

-- the answer of a query that passes the checks; else the comparison at fault
abbrev pub by_checks : Option (ScanWhy × ℕ) → Answer → Answer
by_checks None run = run
by_checks (Some (w, k)) run = Refused w k

-- What a scan answers: the comparison at fault, or the node without room, or how many elements the
-- query holds of, of how many, and by how many row commands.
unfoldable pub answer : Geometry → Routines → Banks → List Named → Query → Answer
answer g operations banks table q =
    by_checks (checked table (nodes_of q))
    (by_run (scan_refused g operations table q)
    (Found (found_in g banks table q) (query_count table q)
    (sum_of (replies g operations table (query_script table q)))))

-- the last object of a scan that is done
pub record LeavesOne (g : Geometry) (operations : Routines) (banks : Banks) (table : List Named)
    (q : Query) : Type 0 where
  pub object : Object
  pub narrow : object.width ≡ 1
  pub counted : object.count ≡ query_count table q
  pub one_more : table_at_end g operations table (query_script table q) ≡ table
      ++ (free_name table (size q), object) ∷ []
  pub ones : count_by (λ v. v == 1) (take object.count
      (columns g (banks_at_end g operations table banks (query_script table q)) object))
      ≡ found_in g banks table q
  pub kept : AllByRecursion (λ p. columns g (banks_at_end g operations table banks
      (query_script table q)) p.1 ≡ columns g banks p.1) table

-- The ones of the last object are the elements that the query holds of, and the columns of all
-- other objects stay
abbrev pub ScansAnswer : Type 0
ScansAnswer =
    (g : Geometry) (p : Program) (banks : Banks) (table : List Named) (q : Query) → 0 < g.words
    → ImplementsAll p scan_text
    → ((bank : ℕ) → bank < g.banks → length (banks bank) ≡ column_count g)
    → IsTable (limit_of g) table → All (λ named. IsObject g named.1) table → size q ≤ 64
    → HasParts q → checked table (nodes_of q) ≡ None
    → scan_refused g (routines_of scan_text p) table q ≡ None
    → LeavesOne g (routines_of scan_text p) banks table q

-- an answer but for how many commands it took
abbrev pub uncounted : Answer → Answer
uncounted (Found found of counts) = Found found of (record { aap = 0; ap = 0 })
uncounted (Refused w k) = Refused w k

-- All programs that do the operations of scans answer alike, but for how many commands they take:
-- how many elements of how many, or for what and where it is refused
abbrev pub ScansAnswerAlike : Type 0
ScansAnswerAlike =
    (g : Geometry) (p other : Program) (banks : Banks) (table : List Named) (q : Query)
    → ImplementsAll p scan_text → ImplementsAll other scan_text
    → All (λ named. IsObject g named.1) table → HasParts q
    → uncounted (answer g (routines_of scan_text p) banks table q)
    ≡ uncounted (answer g (routines_of scan_text other) banks table q)

-- of each operation of scans the two programs take as many commands, at each width
abbrev pub CostTheSame : Program → Program → Type 0
CostTheSame p other = (name : List ℕ) (n : ℕ) → 0 < n → n ≤ WIDTH_MAX
    → counts_of (issues_at (routines_of scan_text p name) n)
    ≡ counts_of (issues_at (routines_of scan_text other name) n)

-- programs that take as many commands for each operation give the same answer
abbrev pub ScansAnswerTheSame : Type 0
ScansAnswerTheSame =
    (g : Geometry) (p other : Program) (banks : Banks) (table : List Named) (q : Query)
    → ImplementsAll p scan_text → ImplementsAll other scan_text → CostTheSame p other
    → All (λ named. IsObject g named.1) table → HasParts q
    → answer g (routines_of scan_text p) banks table q
    ≡ answer g (routines_of scan_text other) banks table q
