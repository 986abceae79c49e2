-- The command `scan`.
use Rattle.std.specs.Prelude.{◌≡◌, ℕ, ◌*◌, List, [], ◌∷◌, ◌++◌, map, Option, Some, None, Result}
use Rattle.std.specs.Prelude.{Ok, Err, count_by, codes, decimal}
use Rattle.std.specs.List.{range_with_len}
use Rattle.host_edge.specs.Views.{Files, FolderView, Known}
use Rattle.dram_model.specs.declared.dram.Counters.{Counters}
use Rattle.dram_model.specs.declared.geometry.Geometry.{Geometry}
use Rattle.dram_model.specs.Chip.{LogIs}
use Rattle.dram_model.specs.Elements.{segments_of}
use Rattle.dram_model.specs.View.{ChipView, HasBegun}
use Rattle.uprog_code.specs.declared.walker.Counts.{Counts}
use Rattle.uprog_code.specs.Programs.{IsProgram}
use Rattle.uprog_code.specs.Texts.{ImplementsAll}
use Rattle.uprog_bin.specs.Spelling.{program_bytes}
use Rattle.uprog_gen.specs.Totals.{AreExact}
use Rattle.bbop_isa.specs.Forms.{Instruction}
use Rattle.machine_model.specs.declared.Why.{Why}
use Rattle.machine_model.specs.Opened.{Image, opened, row_writes, objects_held}
use Rattle.machine_model.specs.Refusals.{refusal}
use Rattle.machine_model.specs.Routines.{Program, routines_in}
use Rattle.machine_model.specs.Pieces.{events_of_pieces, piece_of, script_events}
use Rattle.wave_model.specs.Schedule.{Ahead}
use Rattle.machine_model.specs.Script.{banks_at_end, replies, sum_of, table_at_end, with_counts}
use Rattle.scan_model.specs.declared.ScanWhy.{ScanWhy}
use Rattle.scan_model.specs.Answers.{Answer, Found, Refused as NotFound, answer, query_count}
use Rattle.scan_model.specs.Answers.{query_script}
use Rattle.scan_model.specs.Checks.{checked, refused_in}
use Rattle.scan_model.specs.Laws.{element, scan_refused}
use Rattle.scan_model.specs.Operations.{scan_operations, scan_text}
use Rattle.scan_model.specs.Queries.{Node, Query, matches, nodes_of}
use Rattle.scan_query.specs.Answers.{answer_of}
use Rattle.scan_query.specs.Queries.{IsNodesOf}
use Rattle.scan_query.specs.Running.{until_refused}
use Rattle.scan_query.specs.declared.query.ScanReply.{ScanReply}
use Rattle.cli_model.specs.World.{World}
use Rattle.cli_model.specs.Waves.{ChipUse, and_reading, doing}
use Rattle.cli_model.specs.Steps.{Step, Take, Use, Put, Done, Stopped, Goes}
use Rattle.cli_model.specs.Plan.{Answers, Loads, Makes, Plan, Refuses, Then}
use Rattle.cli_model.specs.Runs.{EndsBy}
use Rattle.simdram_cli.specs.declared.words.ScanNames.{ScanNames}
use Rattle.simdram_cli.specs.declared.words.TheConstants.{IMAGE_MAX, QUERY_MAX}
use Rattle.simdram_cli.specs.declared.stop.Stop.{Stop}
use Rattle.simdram_cli.specs.Headline.{read_as}
use Rattle.simdram_cli.specs.Inputs.{image_of}
use Rattle.simdram_cli.specs.Job.{opened_counters, opening}
use Rattle.simdram_cli.specs.Queries.{Asks, AsksIn, query_in, scan_refusal}
use Rattle.cli_model.specs.Reads.{LoadedAs}
use Rattle.simdram_cli.specs.Stops.{reason_of}
use Rattle.simdram_cli.specs.Works.{OpenedOn}

-- the program is one that a file can hold, and does the six operations of scans by exactly the row
-- commands of their word operations
pub record DoesScans (program : Program) : Type 0 where
  pub legal : IsProgram program
  pub implements : ImplementsAll program scan_text
  pub exact : AreExact program scan_operations

-- what a scan answers of a query on an image, with a program's operations
abbrev pub answer_on : Program → Query → Image → Answer
answer_on program q i = answer i.geometry (routines_in program) (opened i) i.table q

-- the row commands of the query's instructions
abbrev pub scan_counts : Program → Query → Image → Counts
scan_counts program q i =
    sum_of (replies i.geometry (routines_in program) i.table (query_script i.table q))

-- the number of elements of the image that the query holds of, among as many as its objects have:
-- on the image's numbers alone
abbrev pub number_found : Query → Image → ℕ
number_found q i = count_by (λ e. matches q (element (objects_held i) e))
    (range_with_len 0 (query_count i.table q))

-- the line of a scan
abbrev pub count_line : (found of : ℕ) → Counts → List ℕ
count_line found of counts = codes "count " ++ decimal found ++ codes " of " ++ decimal of
    ++ codes " aap=" ++ decimal counts.aap ++ codes " ap=" ++ decimal counts.ap ++ codes "\n"

-- what the chip is used for by a query: on the image, the events of its instructions before the
-- first that is refused, and the reading of the last object's row
abbrev pub query_use : Program → Query → Image → ChipUse
query_use program q i = and_reading (segments_of i.geometry (query_count i.table q))
    (doing (opened i) (events_of_pieces i.geometry (routines_in program) Ahead i.table (map piece_of
    (until_refused i.geometry (routines_in program) i.table (query_script i.table q)))))

-- a query whose comparisons are at fault does not use the chip
abbrev pub use_steps : ChipUse → Option (ScanWhy × ℕ) → List Step
use_steps on (Some fault) = []
use_steps on None = Use on ∷ []

-- the counters after a scan: each row of every bank was written at the opening, and of the last
-- object, whose width is 1, one row was read for each segment
abbrev pub scan_counters : Geometry → (of : ℕ) → Counts → Counters
scan_counters g of counts = record {
  aap = counts.aap;
  ap = counts.ap;
  writes = g.banks * g.rows;
  reads = segments_of g of;
}

-- The query's instructions were done on the image, and nothing else: the banks are what the
-- program's commands leave, and a log that is known has the image's writes and then the
-- instructions' events
pub record QueryDone (program : Program) (q : Query) (i : Image) (chip : ChipView) : Type 0 where
  pub banks : chip.banks ≡ banks_at_end i.geometry (routines_in program) i.table (opened i)
      (query_script i.table q)
  pub log : LogIs (row_writes i ++ script_events i.geometry (routines_in program) i.table
      (query_script i.table q)) chip.log

-- There was no room for one of the query's instructions. Those before it were done on the image, of
-- which none was refused, and nothing else: the banks are what the program's commands leave, the
-- counters count them, and a log that is known has the image's writes and then their events
pub record QueryStopped (program : Program) (q : Query) (i : Image) (reason : Why)
    (chip : ChipView) : Type 0 where
  pub before : List Instruction
  pub refused : Instruction
  pub following : List Instruction
  pub parts : before ++ refused ∷ following ≡ query_script i.table q
  pub allowed : refused_in i.geometry (routines_in program) i.table before ≡ None
  pub why : refusal i.geometry (routines_in program)
      (table_at_end i.geometry (routines_in program) i.table before) refused ≡ Some reason
  pub banks : chip.banks ≡ banks_at_end i.geometry (routines_in program) i.table (opened i) before
  pub counters : chip.counters ≡ with_counts (opened_counters i.geometry)
      (sum_of (replies i.geometry (routines_in program) i.table before))
  pub log : LogIs (row_writes i
      ++ script_events i.geometry (routines_in program) i.table before) chip.log

-- What the chip shows then, which has begun with the image's geometry: the image alone, where a
-- comparison is at fault; what the instructions before the one leave for which there was no room,
-- with their counters; and what all of the query's leave, with its counters, where elements were
-- counted
pub record ScanLeft (program : Program) (q : Query) (i : Image) (chip : ChipView) : Type 0 where
  pub begun : HasBegun chip
  pub geometry : chip.geometry ≡ i.geometry
  pub unused : (fault : ScanWhy × ℕ) → checked i.table (nodes_of q) ≡ Some fault → OpenedOn i chip
  pub stopped : (reason : Why) (k : ℕ) → checked i.table (nodes_of q) ≡ None
      → scan_refused i.geometry (routines_in program) i.table q ≡ Some (reason, k)
      → QueryStopped program q i reason chip
  pub counted : (found of : ℕ) (counts : Counts) → answer_on program q i ≡ Found found of counts
      → chip.counters ≡ scan_counters i.geometry of counts
  pub worked : (found of : ℕ) (counts : Counts) → answer_on program q i ≡ Found found of counts
      → QueryDone program q i chip

-- how many elements were found is sent; or the query is refused
abbrev pub answer_plan : (ChipView → Type 0) → Answer → Plan
answer_plan left (Found found of counts) =
    Then (Put (count_line found of counts) ∷ []) (Answers 0 left)
answer_plan left (NotFound why k) = Refuses (scan_refusal why k) left

-- memory is taken, for a program too, which does the operations of scans; the chip begins with the
-- image, the query's instructions are done, and it is answered
abbrev pub query_plan : Query → Image → Plan
query_plan q i = Then (Take ∷ []) (Makes DoesScans (λ program.
    Then (opening i ∷ use_steps (query_use program q i) (checked i.table (nodes_of q)))
    (answer_plan (ScanLeft program q i) (answer_on program q i))))

-- IMAGE is loaded, and the query is done on it
abbrev pub scan_image_plan : List ℕ → Query → Plan
scan_image_plan name q = Loads name IMAGE_MAX image_of (λ text i. query_plan q i)

-- QUERY is loaded, which asks one query, and IMAGE, and the query is done on the image
abbrev pub scan_plan : ScanNames → Plan
scan_plan names = Loads names.query.now QUERY_MAX query_in (λ text u. Makes (Asks text) (λ q.
    scan_image_plan names.image.now q))

-- it ends by its plan, and no file changes
abbrev pub ScanEnds : ScanNames → World → World → ℕ → Type 0
ScanEnds names old new status =
    EndsBy (scan_plan names) old new status × (new.files.holds ≡ old.files.holds)

-- What was sent is how many elements of IMAGE the query of QUERY holds of, of how many, by how many
-- row commands. Each object that the query names is there, all have that many elements, and each
-- bound is below 2 ^ width; there was room for each of its instructions; the chip did these on the
-- image and no others, and its counters tell the same commands; and no file changed
pub record Scanned (names : ScanNames) (before : Files) (old new : World) : Type 0 where
  pub query : Query
  pub image : Image
  pub program : Program
  pub query_is : AsksIn (before names.query.now) query
  pub image_is : read_as image_of (before names.image.now) ≡ Some image
  pub does : DoesScans program
  pub fits : checked image.table (nodes_of query) ≡ None
  pub room : scan_refused image.geometry (routines_in program) image.table query ≡ None
  pub work : QueryDone program query image new.chip
  pub sent : Known (λ x y. y ≡ x ++ count_line (number_found query image)
      (query_count image.table query) (scan_counts program query image)) old.sink.sent new.sink.sent
  pub counters : new.chip.counters ≡ scan_counters image.geometry
      (query_count image.table query) (scan_counts program query image)
  pub files : new.files.holds ≡ old.files.holds

-- what its parts come to, for its proof

-- QUERY was loaded, and its text is one of a query with these nodes
pub record QueryRead (name : List ℕ) (nodes : List Node) (old new : FolderView) : Type 0 where
  pub text : List ℕ
  pub loaded : LoadedAs name QUERY_MAX text old new
  pub accepted : query_in text ≡ Ok tt
  pub tree : Query
  pub asks : Asks text tree
  pub nodes_are : IsNodesOf tree nodes

-- the file of a program that does the operations of scans
pub record IsScanFile (bytes : List ℕ) : Type 0 where
  pub program : Program
  pub does : DoesScans program
  pub spelled : bytes ≡ program_bytes 2 program

-- the chip has begun, and the query was answered
abbrev pub AnswerGoes : Program → Query → Image → Result ScanReply Stop → World → World → Type 0
AnswerGoes program q i (Ok reply) old new = (answer_of reply ≡ answer_on program q i)
    × Goes (Take ∷ opening i ∷ use_steps (query_use program q i) (checked i.table (nodes_of q)))
    Done old new
    × ScanLeft program q i new.chip
AnswerGoes program q i (Err stop) old new =
    Goes (Take ∷ opening i ∷ use_steps (query_use program q i) (checked i.table (nodes_of q)))
    (Stopped (reason_of stop)) old new
