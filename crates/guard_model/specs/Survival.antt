-- Elements that are sure to be right by their hits, here called whole: all three copies have the
-- number of a run without flips. They are told for one column of one bank, in which an object has
-- one element at most, by the objects' names.
use Rattle.std.specs.Prelude.{◌≡◌, ℕ, ◌+◌, ◌*◌, ◌==◌, Bool, true, false, not, ◌&&◌, ◌||◌, is_none}
use Rattle.std.specs.Prelude.{if◌then◌else◌, List, [], ◌∷◌, length, slice_index, take}
use Rattle.std.specs.List.{list_all}
use Rattle.std.specs.Str.{bytes_eq}
use Rattle.dram_model.specs.declared.geometry.Geometry.{Geometry}
use Rattle.dram_model.specs.Chip.{Banks}
use Rattle.dram_model.specs.Elements.{column_count}
use Rattle.object_alloc.specs.Listed.{Named}
use Rattle.bbop_isa.specs.declared.instr.Place.{Place}
use Rattle.bbop_isa.specs.Forms.{Instruction}
use Rattle.bbop_isa.specs.Forms.{Init, Bbop, Load, Fill, Print, Free, Order}
use Rattle.machine_model.specs.Columns.{columns}
use Rattle.machine_model.specs.Routines.{Routines}
use Rattle.machine_model.specs.Refusals.{rows_of}
use Rattle.machine_model.specs.Script.{is_refused}
use Rattle.machine_model.specs.Steps.{Held, table_of, numbers_at, dsts_of, srcs_of}
use Rattle.guard_model.specs.declared.Flip.{Flip}
use Rattle.guard_model.specs.Triples.{x_letter, y_letter, z_letter}
use Rattle.guard_model.specs.Flips.{due, survives}
use Rattle.guard_model.specs.Guarded.{guarded_reply, guarded_rows, guarded_table, lone_words}
use Rattle.guard_model.specs.Guarded.{mended, place_on}

-- a column of a bank
pub record Spot : Type 0 where
  pub bank : ℕ
  pub column : ℕ

-- which of an object's elements lies there, counted from 0
abbrev pub element_at : Geometry → Spot → ℕ
element_at g spot = spot.bank * column_count g + spot.column

-- of each name, whether the element of its object is sure to be right by its hits; so is what no
-- object has
abbrev pub Whole : Type 0
Whole = List ℕ → Bool

-- at the start: the copies of the object of this name have the same number there
abbrev pub whole_first : Geometry → Spot → List Held → Whole
whole_first g spot (x ∷ y ∷ z ∷ rest) name =
    let at = element_at g spot in
    (not (bytes_eq x.name (x_letter ∷ name))
    || ((slice_index y.numbers at == slice_index x.numbers at)
    && (slice_index z.numbers at == slice_index x.numbers at))) && whole_first g spot rest name
whole_first g spot state name = true

-- the element of the object of this name survives the flips
abbrev pub survives_in : List Flip → Spot → List Named → Whole
survives_in flips spot (x ∷ y ∷ z ∷ rest) name =
    (not (bytes_eq x.0 (x_letter ∷ name))
    || survives flips spot.bank spot.column x.1 y.1 z.1) && survives_in flips spot rest name
survives_in flips spot table name = true

-- after the flips of k and the votes: what was whole and survives
abbrev pub whole_mended : List Flip → ℕ → Spot → List Named → Whole → Whole
whole_mended flips k spot table whole name = whole name && survives_in (due k flips) spot table name

-- whether an object of this name is whole, once values are written to places: each destination is
-- where the values are right, and, of one that is written in part, where it was before
abbrev pub whole_written : Bool → List Place → List ℕ → Bool → Bool
whole_written right [] name was = was
whole_written right (dst ∷ dsts) name was = whole_written right dsts name
    (if bytes_eq name dst.name then right && (is_none dst.part || was) else was)

-- after an instruction that is done: the results of a bbop are whole where all its sources are
abbrev pub whole_done : Routines → Instruction → Whole → Whole
whole_done operations (Init made count n) whole name = whole name
whole_done operations (Bbop op dst srcs count n) whole name =
    let right = list_all (λ p. whole p.name) (srcs_of (operations op) (dst ∷ srcs)) in
    whole_written right (dsts_of (operations op) (dst ∷ srcs)) name (whole name)
whole_done operations (Load place values) whole name =
    whole_written true (place ∷ []) name (whole name)
whole_done operations (Fill place value) whole name =
    whole_written true (place ∷ []) name (whole name)
whole_done operations (Print place) whole name = whole name
whole_done operations (Free freed) whole name = bytes_eq name freed || whole name
whole_done operations (Order order) whole name = whole name

-- after an instruction of a guarded run, which a refusal leaves
abbrev pub whole_after : Geometry → Routines → List Named → Instruction → Whole → Whole
whole_after g operations table instr whole =
    if is_refused (guarded_reply g operations table instr) then whole
    else whole_done operations instr whole

-- after a script, of which the first instruction has number k, and the flips and votes behind it
abbrev pub whole_at_end : Geometry → Routines → List Flip → ℕ → Spot → List Named → Whole
    → List Instruction → Whole
whole_at_end g operations flips k spot table whole [] = whole_mended flips k spot table whole
whole_at_end g operations flips k spot table whole (instr ∷ script) =
    whole_at_end g operations flips (k + 1) spot (guarded_table g operations table instr)
    (whole_after g operations table instr (whole_mended flips k spot table whole)) script

-- the object is the copy under this letter, and has the same number there if that is whole
pub record IsWholeCopy (g : Geometry) (banks : Banks) (spot : Spot) (whole : Whole) (letter : ℕ)
    (p : Named) (h : Held) : Type 0 where
  pub name : p.0 ≡ letter ∷ h.name
  pub width : p.1.width ≡ h.object.width
  pub count : p.1.count ≡ h.object.count
  pub number : whole h.name ≡ true
      → slice_index (columns g banks p.1) (element_at g spot)
      ≡ slice_index h.numbers (element_at g spot)

-- the table is three copies of each of these objects, whose whole elements the banks hold
abbrev pub HoldsWhole : Geometry → Banks → Spot → Whole → List Named → List Held → Type 0
HoldsWhole g banks spot whole (x ∷ y ∷ z ∷ rest) (h ∷ state) =
    IsWholeCopy g banks spot whole x_letter x h × IsWholeCopy g banks spot whole y_letter y h
    × IsWholeCopy g banks spot whole z_letter z h × HoldsWhole g banks spot whole rest state
HoldsWhole g banks spot whole [] [] = Unit {0}
HoldsWhole g banks spot whole [] (h ∷ state) = ⊥
HoldsWhole g banks spot whole (x ∷ []) state = ⊥
HoldsWhole g banks spot whole (x ∷ y ∷ []) state = ⊥
HoldsWhole g banks spot whole (x ∷ y ∷ z ∷ rest) [] = ⊥

-- a print that is done prints as many numbers as the object has elements, and of a whole element
-- the number of these objects
abbrev pub PrintsWhole : Geometry → Routines → Spot → Whole → List Named → Banks → List Held
    → Instruction → Type 0
PrintsWhole g operations spot whole table banks state (Print place) =
    let o = rows_of table (place_on x_letter place) in
    let printed = take o.count (columns g banks o) in
    let count = (rows_of (table_of state) place).count in
    is_refused (guarded_reply g operations table (Print place)) ≡ false
    → (length printed ≡ count)
    × (whole place.name ≡ true → slice_index printed (element_at g spot)
    ≡ slice_index (take count (numbers_at state place)) (element_at g spot))
PrintsWhole g operations spot whole table banks state (Init name count n) = Unit {0}
PrintsWhole g operations spot whole table banks state (Bbop op dst srcs count n) = Unit {0}
PrintsWhole g operations spot whole table banks state (Load place values) = Unit {0}
PrintsWhole g operations spot whole table banks state (Fill place value) = Unit {0}
PrintsWhole g operations spot whole table banks state (Free name) = Unit {0}
PrintsWhole g operations spot whole table banks state (Order order) = Unit {0}

-- so does each print of a script, of which the first instruction has number k
abbrev pub AllPrintWhole : Geometry → Routines → (List ℕ → ℕ → List ℕ → List ℕ) → List Flip → ℕ
    → Spot → Whole → List Named → Banks → List Held → List Instruction → Type 0
AllPrintWhole g operations meaning flips k spot whole table banks state [] = Unit {0}
AllPrintWhole g operations meaning flips k spot whole table banks state (instr ∷ script) =
    let now = mended g flips k table banks in
    let kept = whole_mended flips k spot table whole in
    PrintsWhole g operations spot kept table now state instr
    × AllPrintWhole g operations meaning flips (k + 1) spot
    (whole_after g operations table instr kept) (guarded_table g operations table instr)
    (guarded_rows g operations table now instr)
    (lone_words g operations meaning table state instr) script
