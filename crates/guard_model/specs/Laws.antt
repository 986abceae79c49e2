-- Laws of guarded scripts.
use Rattle.std.specs.Prelude.{◌≡◌, ◌≢◌, ◌↔◌, ℕ, ◌+◌, ◌<◌, List, [], None, true, false, ◌⊎◌}
use Rattle.std.specs.Prelude.{◌++◌, Ok, Some}
use Rattle.std.specs.List.{AllByRecursion}
use Rattle.dram_model.specs.declared.geometry.Geometry.{Geometry}
use Rattle.bit_rows.specs.Bits.{majority}
use Rattle.dram_model.specs.declared.address.Cell.TheVariants.{D}
use Rattle.dram_model.specs.Column.{Column, run}
use Rattle.dram_model.specs.Chip.{Banks, after, happens, row_in, all_counted}
use Rattle.dram_model.specs.Chip.Event.{Write}
use Rattle.dram_model.specs.declared.dram.Counters.{Counters}
use Rattle.dram_model.specs.Elements.{column_count}
use Rattle.object_alloc.specs.Listed.{Named}
use Rattle.bbop_isa.specs.Forms.{Instruction}
use Rattle.bbop_isa.specs.Forms.{Init, Bbop, Load, Fill, Print, Free, Order}
use Rattle.bbop_isa.specs.Script.{script_of}
use Rattle.text_lex.specs.Spelled.{fits_name}
use Rattle.object_alloc.specs.Spelling.{IsImage}
use Rattle.uprog_code.specs.Texts.{TextOp, ImplementsAll}
use Rattle.wave_model.specs.Schedule.{Turn}
use Rattle.machine_model.specs.Routines.{Program, Routines, routines_of, meaning_in}
use Rattle.machine_model.specs.Opened.{Image, opened, objects_held}
use Rattle.machine_model.specs.Steps.{Held, table_of}
use Rattle.machine_model.specs.Agrees.{Agrees, DoesAll, IsPlain}
use Rattle.machine_model.specs.Laws.{FitsBanks}
use Rattle.machine_model.specs.Script.{is_refused, counters_at_end}
use Rattle.guard_model.specs.declared.Flip.{Flip}
use Rattle.guard_model.specs.Triples.{first_stranger, first_copies}
use Rattle.guard_model.specs.Triples.{IsTripled, IsLongestFront}
use Rattle.guard_model.specs.Flips.{due, flipped, with_bit_inverted}
use Rattle.guard_model.specs.FlipText.{flips_of, IsFlip, AreSorted}
use Rattle.guard_model.specs.Votes.{row_vote, voted, vote_events, vote_count}
use Rattle.guard_model.specs.Guarded.{adds, plain_ones, plain_script, guarded_reply}
use Rattle.guard_model.specs.Guarded.{guarded_table, guarded_table_at_end, guarded_rows_at_end}
use Rattle.guard_model.specs.Guarded.{guarded_events, guarded_rows, lone_words_at_end}
use Rattle.guard_model.specs.Survival.{AllPrintWhole, HoldsWhole, Spot, Whole, whole_at_end}
use Rattle.guard_model.specs.Survival.{whole_first}

-- the vote of three rows gives each of them their majority, and leaves every other data row
abbrev pub RowVote : Type 0
RowVote = (s : Column) (x y z : ℕ)
    → (run (row_vote x y z) s (D x) ≡ majority (s (D x)) (s (D y)) (s (D z)))
    × (run (row_vote x y z) s (D y) ≡ majority (s (D x)) (s (D y)) (s (D z)))
    × (run (row_vote x y z) s (D z) ≡ majority (s (D x)) (s (D y)) (s (D z)))
    × ((r : ℕ) → x ≢ r → y ≢ r → z ≢ r → run (row_vote x y z) s (D r) ≡ s (D r))

-- a vote's commands leave the banks voted, and are so many
abbrev pub VoteIsEvents : Type 0
VoteIsEvents = (g : Geometry) (table : List Named) (banks : Banks)
    → after (vote_events g table) banks ≡ voted g table banks

-- a vote is counted as its row commands, all of which are AAP
abbrev pub VoteIsCounted : Type 0
VoteIsCounted = (g : Geometry) (table : List Named) (k : Counters)
    → all_counted (vote_events g table) k ≡ record k { aap = k.aap + vote_count g table }

-- a flip is a write of its row as it was read, with one bit inverted
abbrev pub FlipIsWrite : Type 0
FlipIsWrite = (f : Flip) (banks : Banks)
    → happens (Write f.bank f.row (with_bit_inverted f.column (row_in f.row (banks f.bank)))) banks
    ≡ flipped f banks

-- under every order in force the events of a guarded instruction leave the banks as its plain
-- instructions one after another do, and are counted by their replies
abbrev pub StepIsEvents : Type 0
StepIsEvents =
    (g : Geometry) (operations : Routines) (turn : Turn) (table : List Named)
    (instr : Instruction) (banks : Banks) → 0 < g.words → FitsBanks g table
    → after (guarded_events g operations turn table instr) banks
    ≡ guarded_rows g operations table banks instr

-- a guarded instruction is counted by the replies and the rows of its plain instructions
abbrev pub StepIsCounted : Type 0
StepIsCounted =
    (g : Geometry) (operations : Routines) (turn : Turn) (table : List Named)
    (instr : Instruction) (k : Counters) → 0 < g.words → FitsBanks g table
    → all_counted (guarded_events g operations turn table instr) k
    ≡ counters_at_end g operations table (plain_script g operations table instr) k

-- an object that the instruction adds has a name
abbrev pub HasName : Instruction → Type 0
HasName (Init name count n) = fits_name name ≡ true
HasName (Bbop op dst srcs count n) = Unit {0}
HasName (Load place values) = Unit {0}
HasName (Fill place value) = Unit {0}
HasName (Print place) = Unit {0}
HasName (Free name) = Unit {0}
HasName (Order order) = Unit {0}

-- each object that an accepted script adds has a name
abbrev pub AcceptedHasNames : Type 0
AcceptedHasNames = (text : List ℕ) (script : List Instruction) → script_of text ≡ Ok script
    → AllByRecursion HasName script

-- A table has no stranger exactly where it is three copies of each of some objects. Else the
-- stranger is at the end of the longest front that begins such copies
pub record StrangersAreFirst : Type 0 where
  pub none : (table : List Named) → (first_stranger table ≡ None) ↔ IsTripled table
  pub some : (table : List Named) (k : ℕ) → first_stranger table ≡ Some k
      → IsLongestFront table k

-- a guarded instruction keeps the table one of triples
abbrev pub TriplesKept : Type 0
TriplesKept =
    (g : Geometry) (operations : Routines) (table : List Named) (instr : Instruction)
    → HasName instr → first_stranger table ≡ None
    → first_stranger (guarded_table g operations table instr) ≡ None

-- a guarded instruction that is refused leaves the table
abbrev pub RefusedStays : Type 0
RefusedStays =
    (g : Geometry) (operations : Routines) (table : List Named) (instr : Instruction)
    → HasName instr → first_stranger table ≡ None
    → is_refused (guarded_reply g operations table instr) ≡ true
    → guarded_table g operations table instr ≡ table

-- a guarded instruction that adds no object does all of its plain instructions or none
abbrev pub AllOrNone : Type 0
AllOrNone =
    (g : Geometry) (operations : Routines) (table : List Named) (instr : Instruction)
    → adds instr ≡ false → HasName instr → first_stranger table ≡ None
    → (plain_script g operations table instr ≡ plain_ones instr)
    ⊎ (plain_script g operations table instr ≡ [])

-- what a guarded run comes to at one spot, beside the word machine on these objects alone: at the
-- end the copies have the numbers of its whole elements, and so does what is printed
pub record IsGuarded (g : Geometry) (operations : Routines)
    (meaning : List ℕ → ℕ → List ℕ → List ℕ) (flips : List Flip) (k : ℕ) (spot : Spot)
    (whole : Whole) (table : List Named) (banks : Banks) (lone : List Held)
    (script : List Instruction) : Type 0 where
  pub holds : HoldsWhole g (guarded_rows_at_end g operations flips k table banks script) spot
      (whole_at_end g operations flips k spot table whole script)
      (guarded_table_at_end g operations table script)
      (lone_words_at_end g operations meaning table lone script)
  pub prints : AllPrintWhole g operations meaning flips k spot whole table banks lone script

-- Where each operation does what it means, a guarded run has at each spot the numbers of the word
-- machine on the first copies, wherever the elements are whole
abbrev pub GuardedGivesWords : Type 0
GuardedGivesWords =
    (g : Geometry) (operations : Routines) (meaning : List ℕ → ℕ → List ℕ → List ℕ)
    (flips : List Flip) (k : ℕ) (script : List Instruction)
    → 0 < g.words → DoesAll operations meaning → AllByRecursion IsPlain script
    → AllByRecursion HasName script
    → (banks : Banks) (state : List Held) → Agrees g banks state
    → first_stranger (table_of state) ≡ None
    → (spot : Spot) → spot.column < column_count g
    → IsGuarded g operations meaning flips k spot (whole_first g spot state) (table_of state) banks
    (first_copies state) script

-- so has a guarded run of a program that does a text, on a chip that was opened on an image
abbrev pub GuardedTextGivesWords : Type 0
GuardedTextGivesWords =
    (p : Program) (t : List TextOp) (i : Image) (flips : List Flip) (script : List Instruction)
    → IsImage i.geometry i.table i.rows → ImplementsAll p t → AllByRecursion IsPlain script
    → AllByRecursion HasName script → first_stranger i.table ≡ None
    → (spot : Spot) → spot.column < column_count i.geometry
    → IsGuarded i.geometry (routines_of t p) (meaning_in t) flips 1 spot
    (whole_first i.geometry spot (objects_held i)) i.table (opened i)
    (first_copies (objects_held i)) script

-- the flips of a text are flips of the chip, in order
abbrev pub FlipsAreRight : Type 0
FlipsAreRight =
    (g : Geometry) (instrs : ℕ) (text : List ℕ) (flips : List Flip)
    → flips_of g instrs text ≡ Ok flips
    → AllByRecursion (IsFlip g instrs) flips × AreSorted 1 flips

-- of flips in order those that are due stand at the front, and go on after them
abbrev pub DueFirst : Type 0
DueFirst = (k : ℕ) (flips : List Flip) → AreSorted k flips
    → (later : List Flip) × (flips ≡ due k flips ++ later) × AreSorted (k + 1) later
