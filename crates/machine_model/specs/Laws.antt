-- Laws of whole scripts.
use Rattle.std.specs.Prelude.{◌≡◌, ℕ, ◌+◌, ◌*◌, ◌^◌, ◌<◌, ◌≤◌, ◌||◌, true, false, List, ◌∷◌, ◌++◌}
use Rattle.std.specs.Prelude.{map, length, flat_map, take, drop, All, Some, None, Ok}
use Rattle.std.specs.List.{AllByRecursion}
use Rattle.dram_model.specs.declared.geometry.Geometry.{Geometry}
use Rattle.dram_model.specs.declared.dram.Counters.{Counters}
use Rattle.dram_model.specs.Geometry.{is_geometry}
use Rattle.bit_rows.specs.Bits.{bit_at}
use Rattle.bit_rows.specs.declared.TheConstants.{WIDTH_MAX}
use Rattle.uprog_code.specs.declared.TheConstants.{WALK_MAX}
use Rattle.dram_model.specs.Chip.{Banks, after, all_counted, row_in}
use Rattle.dram_model.specs.Elements.{column_count}
use Rattle.dram_model.specs.Events.{events_of as seen_by}
use Rattle.object_alloc.specs.Free.{AreApart}
use Rattle.object_alloc.specs.Listed.{Named, IsTable, limit_of, has_name}
use Rattle.object_alloc.specs.Spelling.{IsObject, IsImage}
use Rattle.bbop_isa.specs.Forms.{Instruction, Bbop}
use Rattle.bbop_isa.specs.declared.instr.Part.{Part}
use Rattle.bbop_isa.specs.declared.instr.Place.{Place}
use Rattle.bbop_isa.specs.Script.{script_of}
use Rattle.uprog_code.specs.Machine.{HasEnded}
use Rattle.uprog_code.specs.Fits.{Fits}
use Rattle.uprog_code.specs.Programs.{IsProgram}
use Rattle.uprog_code.specs.Texts.{TextOp, ImplementsAll}
use Rattle.machine_model.specs.Routines.{Program, Routine, Routines, routines_of}
use Rattle.machine_model.specs.Routines.{routines_in}
use Rattle.machine_model.specs.Places.{seen, put}
use Rattle.machine_model.specs.Refusals.{refusal, rows_of, goes_past}
use Rattle.machine_model.specs.Routines.{meaning_in}
use Rattle.wave_model.specs.Schedule.{events_of_picks, IsWhole, Turn}
use Rattle.machine_model.specs.Columns.{columns}
use Rattle.machine_model.specs.Steps.{Held, table_of, reply_to, binding, job_of, banks_after}
use Rattle.machine_model.specs.Steps.{dsts_of, srcs_of}
use Rattle.machine_model.specs.Agrees.{Agrees, DoesAll, IsPlain, IsWidth}
use Rattle.machine_model.specs.Script.{table_at_end, banks_at_end, words_at_end, events_in_order}
use Rattle.machine_model.specs.Script.{is_bbop, replies, sum_of, sum_done, with_counts}
use Rattle.machine_model.specs.Script.{is_touched_by, counters_at_end, rows_loaded, rows_printed}
use Rattle.machine_model.specs.Pieces.{Piece, Wave, Alone, AreBbops, IsPiece, instrs_in, pieces}
use Rattle.machine_model.specs.Pieces.{wave_size, wave_queues, piece_events, events_of_pieces}
use Rattle.machine_model.specs.Pieces.{turn_at_end}
use Rattle.machine_model.specs.Report.{Said, Answered, said_in_rows, lines}
use Rattle.machine_model.specs.Opened.{Image, opened, rows_in_banks}

-- Where what is issued for each operation does what it means, the banks after a script hold what
-- the word machine holds
abbrev pub RowsGiveWords : Type 0
RowsGiveWords =
    (g : Geometry) (operations : Routines) (meaning : List ℕ → ℕ → List ℕ
    → List ℕ) (script : List Instruction) → 0 < g.words → DoesAll operations meaning
    → AllByRecursion IsPlain script
    → (banks : Banks) (state : List Held) → Agrees g banks state
    → Agrees g (banks_at_end g operations (table_of state) banks script)
    (words_at_end g operations meaning state script)

-- so it is with a program that does a text
abbrev pub TextGivesWords : Type 0
TextGivesWords =
    (g : Geometry) (p : Program) (t : List TextOp) (script : List Instruction) → 0 < g.words
    → ImplementsAll p t → AllByRecursion IsPlain script
    → (banks : Banks) (state : List Held) → Agrees g banks state
    → Agrees g (banks_at_end g (routines_of t p) (table_of state) banks script)
    (words_at_end g (routines_of t p) (meaning_in t) state script)

-- and its operations are the program's own
abbrev pub SameOperations : Type 0
SameOperations = (p : Program) (t : List TextOp) → ImplementsAll p t
    → routines_of t p ≡ routines_in p

-- a table that a machine of this geometry may have
pub record TableFits (g : Geometry) (table : List Named) : Type 0 where
  pub listed : IsTable (limit_of g) table
  pub objects : All (λ named. IsObject g named.1) table

-- After every script it still is one
abbrev pub TableStays : Type 0
TableStays =
    (g : Geometry) (operations : Routines) (table : List Named) (script : List Instruction)
    → AllByRecursion IsPlain script → TableFits g table
    → TableFits g (table_at_end g operations table script)

-- and so an accepted script leaves an image that is accepted as one
abbrev pub ImageStays : Type 0
ImageStays =
    (i : Image) (operations : Routines) (text : List ℕ) (script : List Instruction)
    → script_of text ≡ Ok script → IsImage i.geometry i.table i.rows
    → IsImage i.geometry (table_at_end i.geometry operations i.table script)
    (rows_in_banks (banks_at_end i.geometry operations i.table (opened i) script))

-- A bbop that is not refused: its walk ends, its binding fits in a bank, and there are its banks
pub record IsGranted (g : Geometry) (operations : Routines) (table : List Named) (o : Routine)
    (instr : Instruction) (places : List Place) (n : ℕ) : Type 0 where
  pub ends : HasEnded (o.trace n)
  pub fits : Fits g.rows o.shape n (binding g table o.shape places n)
  pub banks : (job_of g operations table instr).banks ≤ g.banks

-- A bbop that passes all conditions can be run: what the controller asks for holds
abbrev pub GrantsFit : Type 0
GrantsFit =
    (g : Geometry) (operations : Routines) (table : List Named) (o : Routine)
    (op : List ℕ) (dst : Place) (srcs : List Place) (count n : ℕ) → 0 < g.words → TableFits g table
    → operations op ≡ Some o → refusal g operations table (Bbop op dst srcs count n) ≡ None
    → IsGranted g operations table o (Bbop op dst srcs count n) (dst ∷ srcs) n

-- at most a whole walk in each of 16 banks for each instruction, and at most an object of the
-- greatest width in each is loaded, or printed
pub record AreFew (g : Geometry) (operations : Routines) (table : List Named)
    (script : List Instruction) : Type 0 where
  pub commands : (sum_of (replies g operations table script)).aap
      + (sum_of (replies g operations table script)).ap ≤ length script * (16 * WALK_MAX)
  pub loaded : sum_done rows_loaded g operations table script ≤ length script * (16 * WIDTH_MAX)
  pub printed : sum_done rows_printed g operations table script ≤ length script * (16 * WIDTH_MAX)

-- So few are the commands and the rows of every script
abbrev pub WorkIsBounded : Type 0
WorkIsBounded =
    (g : Geometry) (p : Program) (table : List Named) (script : List Instruction)
    → is_geometry g ≡ true → TableFits g table → AllByRecursion IsPlain script
    → AreFew g (routines_in p) table script

-- Whatever an accepted program does, a row that no done instruction of a script touches is as it
-- was
abbrev pub UntouchedStays : Type 0
UntouchedStays =
    (g : Geometry) (p : Program) (table : List Named) (script : List Instruction) (banks : Banks)
    (bank row : ℕ) → IsProgram p → IsTable (limit_of g) table → AllByRecursion IsPlain script
    → is_touched_by g (routines_in p) table script bank row ≡ false
    → row_in row (banks_at_end g (routines_in p) table banks script bank)
    ≡ row_in row (banks bank)

-- Whatever an accepted program does, a bbop leaves the numbers of each operand, an object or a part
-- of one, that has no row of a destination, and so a bbop that is done leaves those of its sources
pub record OthersStay : Type 0 where
  pub others : (g : Geometry) (p : Program) (table : List Named) (op : List ℕ) (dst : Place)
      (srcs : List Place) (count n : ℕ) (banks : Banks) (place : Place) → IsProgram p
      → IsTable (limit_of g) table → IsWidth n → has_name table place.name ≡ true
      → goes_past table place ≡ false
      → AllByRecursion (λ d. AreApart (rows_of table place) (rows_of table d))
      (dsts_of (routines_in p op) (dst ∷ srcs))
      → columns g (banks_after g (routines_in p) table banks (Bbop op dst srcs count n))
      (rows_of table place) ≡ columns g banks (rows_of table place)
  pub sources : (g : Geometry) (p : Program) (table : List Named) (op : List ℕ) (dst : Place)
      (srcs : List Place) (count n : ℕ) (banks : Banks) → IsProgram p
      → IsTable (limit_of g) table → IsWidth n
      → refusal g (routines_in p) table (Bbop op dst srcs count n) ≡ None
      → AllByRecursion (λ place. columns g (banks_after g (routines_in p) table banks
      (Bbop op dst srcs count n)) (rows_of table place)
      ≡ columns g banks (rows_of table place)) (srcs_of (routines_in p op) (dst ∷ srcs))

-- What is read of a part are the number's bits from LO on; what is written replaces these bits, and
-- no other
pub record PartsAreBits : Type 0 where
  pub read : (p : Part) (v k : ℕ) → k < p.size
      → bit_at (seen (Some p) v) k ≡ bit_at v (p.low + k)
  pub small : (p : Part) (v : ℕ) → seen (Some p) v < 2 ^ p.size
  pub inside : (p : Part) (old new k : ℕ) → k < p.size
      → bit_at (put (Some p) old new) (p.low + k) ≡ bit_at new k
  pub below : (p : Part) (old new k : ℕ) → k < p.low
      → bit_at (put (Some p) old new) k ≡ bit_at old k
  pub past : (p : Part) (old new k : ℕ) → new < 2 ^ p.size → p.low + p.size ≤ k
      → bit_at (put (Some p) old new) k ≡ bit_at old k

-- What an accepted script says is plain
abbrev pub AcceptedIsPlain : Type 0
AcceptedIsPlain = (text : List ℕ) (script : List Instruction) → script_of text ≡ Ok script
    → AllByRecursion IsPlain script

-- the banks hold each object of a table
abbrev pub FitsBanks : Geometry → List Named → Type 0
FitsBanks g table = All (λ named. named.1.count ≤ column_count g * g.banks) table

-- Each bank of a wave is left as the wave's bbops one after another leave it
abbrev pub WaveIsSteps : Type 0
WaveIsSteps =
    (g : Geometry) (operations : Routines) (table : List Named) (wave : List Instruction)
    (picks : List ℕ) (chip : Banks) (bank : ℕ) → AreBbops wave
    → IsWhole g.banks picks (wave_queues g operations table wave) → bank < g.banks
    → after (events_of_picks g.banks picks (wave_queues g operations table wave)) chip bank
    ≡ banks_at_end g operations table chip wave bank

-- and is counted by its replies
abbrev pub WaveIsCounted : Type 0
WaveIsCounted =
    (g : Geometry) (operations : Routines) (table : List Named) (wave : List Instruction)
    (picks : List ℕ) (k : Counters) → 0 < g.words → FitsBanks g table → AreBbops wave
    → IsWhole g.banks picks (wave_queues g operations table wave)
    → all_counted (events_of_picks g.banks picks (wave_queues g operations table wave)) k
    ≡ with_counts k (sum_of (replies g operations table wave))

-- A script's pieces are waves and single instructions, and together they are the script
abbrev pub PiecesAreScript : Type 0
PiecesAreScript = (script : List Instruction) → AllByRecursion IsPiece (pieces script)
    × (flat_map instrs_in (pieces script) ≡ script)

-- A script that begins with bbops begins with a wave of them, 16 at most, and each other with its
-- first instruction alone
pub record PiecesAreCut : Type 0 where
  pub wave : (script : List Instruction) → 0 < wave_size script
      → pieces script
      ≡ Wave (take (wave_size script) script) ∷ pieces (drop (wave_size script) script)
  pub alone : (instr : Instruction) (script : List Instruction) → is_bbop instr ≡ false
      → pieces (instr ∷ script) ≡ Alone instr ∷ pieces script

-- A script goes on where its first part ends
pub record GoesOn (g : Geometry) (operations : Routines) (table : List Named)
    (xs ys : List Instruction) : Type 0 where
  pub tables : table_at_end g operations table (xs ++ ys)
      ≡ table_at_end g operations (table_at_end g operations table xs) ys
  pub answers : replies g operations table (xs ++ ys)
      ≡ replies g operations table xs
      ++ replies g operations (table_at_end g operations table xs) ys
  pub states : (banks : Banks) → banks_at_end g operations table banks (xs ++ ys)
      ≡ banks_at_end g operations (table_at_end g operations table xs)
      (banks_at_end g operations table banks xs) ys
  pub said : (banks : Banks) → said_in_rows g operations table banks (xs ++ ys)
      ≡ said_in_rows g operations table banks xs
      ++ said_in_rows g operations (table_at_end g operations table xs)
      (banks_at_end g operations table banks xs) ys
  pub rows : (rows : Geometry → List Named → Instruction → ℕ)
      → sum_done rows g operations table (xs ++ ys)
      ≡ sum_done rows g operations table xs
      + sum_done rows g operations (table_at_end g operations table xs) ys
  pub touched : (bank row : ℕ) → is_touched_by g operations table (xs ++ ys) bank row
      ≡ (is_touched_by g operations table xs bank row
      || is_touched_by g operations (table_at_end g operations table xs) ys bank row)

-- and so do its pieces
pub record PiecesGoOn (g : Geometry) (operations : Routines) (turn : Turn) (table : List Named)
    (ps qs : List Piece) : Type 0 where
  pub turns : turn_at_end g operations turn table (ps ++ qs)
      ≡ turn_at_end g operations (turn_at_end g operations turn table ps)
      (table_at_end g operations table (flat_map instrs_in ps)) qs
  pub events : events_of_pieces g operations turn table (ps ++ qs)
      ≡ events_of_pieces g operations turn table ps
      ++ events_of_pieces g operations (turn_at_end g operations turn table ps)
      (table_at_end g operations table (flat_map instrs_in ps)) qs

-- Every script goes on where its first part ends, wherever it is cut
abbrev pub ScriptsGoOn : Type 0
ScriptsGoOn = (g : Geometry) (operations : Routines) (table : List Named)
    (xs ys : List Instruction) → GoesOn g operations table xs ys

-- All pieces go on where the first of them end, wherever they are cut
abbrev pub AllPiecesGoOn : Type 0
AllPiecesGoOn = (g : Geometry) (operations : Routines) (turn : Turn) (table : List Named)
    (ps qs : List Piece) → PiecesGoOn g operations turn table ps qs

-- A wave leaves the table, is answered bbop by bbop, and no row is loaded or printed
pub record WaveIsAnswered (g : Geometry) (operations : Routines) (table : List Named)
    (wave : List Instruction) : Type 0 where
  pub tables : table_at_end g operations table wave ≡ table
  pub answers : replies g operations table wave ≡ map (reply_to g operations table) wave
  pub said : (banks : Banks) → said_in_rows g operations table banks wave
      ≡ map Answered (replies g operations table wave)
  pub loaded : sum_done rows_loaded g operations table wave ≡ 0
  pub printed : sum_done rows_printed g operations table wave ≡ 0

-- Lines go on with the number after the last
abbrev pub LinesGoOn : Type 0
LinesGoOn = (number : ℕ) (xs ys : List Said)
    → lines number (xs ++ ys) ≡ lines number xs ++ lines (number + length xs) ys

-- Every wave is answered bbop by bbop, and leaves the table
abbrev pub WavesAreAnswered : Type 0
WavesAreAnswered = (g : Geometry) (operations : Routines) (table : List Named)
    (wave : List Instruction) → AreBbops wave → WaveIsAnswered g operations table wave

-- Under every order in force each bank sees the events of a script in the same order: that of its
-- instructions
abbrev pub SeenInOrder : Type 0
SeenInOrder =
    (g : Geometry) (operations : Routines) (turn : Turn) (table : List Named)
    (script : List Instruction) (bank : ℕ) → 0 < g.words → FitsBanks g table
    → seen_by bank (events_of_pieces g operations turn table (pieces script))
    ≡ seen_by bank (events_in_order g operations table script)

-- So a script's events leave the banks as its instructions one after another do, and so do those of
-- one piece
abbrev pub EventsAreSteps : Type 0
EventsAreSteps =
    (g : Geometry) (operations : Routines) (turn : Turn) (table : List Named)
    (script : List Instruction) (chip : Banks) → 0 < g.words → FitsBanks g table
    → after (events_of_pieces g operations turn table (pieces script)) chip
    ≡ banks_at_end g operations table chip script

-- The events of one piece leave the banks as its instructions one after another do
abbrev pub PieceIsSteps : Type 0
PieceIsSteps =
    (g : Geometry) (operations : Routines) (turn : Turn) (table : List Named) (piece : Piece)
    (chip : Banks) → 0 < g.words → FitsBanks g table → IsPiece piece
    → after (piece_events g operations turn table piece) chip
    ≡ banks_at_end g operations table chip (instrs_in piece)

-- and are counted by the replies and the rows loaded; so are the events of one piece
abbrev pub CountedByReplies : Type 0
CountedByReplies =
    (g : Geometry) (operations : Routines) (turn : Turn) (table : List Named)
    (script : List Instruction) (k : Counters) → 0 < g.words → FitsBanks g table
    → all_counted (events_of_pieces g operations turn table (pieces script)) k
    ≡ counters_at_end g operations table script k

-- The events of one piece are counted by its replies and the rows it loads
abbrev pub PieceIsCounted : Type 0
PieceIsCounted =
    (g : Geometry) (operations : Routines) (turn : Turn) (table : List Named) (piece : Piece)
    (k : Counters) → 0 < g.words → FitsBanks g table → IsPiece piece
    → all_counted (piece_events g operations turn table piece) k
    ≡ counters_at_end g operations table (instrs_in piece) k

-- On a chip of one bank every order gives the events of one instruction after another
abbrev pub OneBankInOrder : Type 0
OneBankInOrder =
    (g : Geometry) (operations : Routines) (turn : Turn) (table : List Named)
    (script : List Instruction) → g.banks ≡ 1 → 0 < g.words → FitsBanks g table
    → events_of_pieces g operations turn table (pieces script)
    ≡ events_in_order g operations table script
