-- When an instruction is refused: the table of conditions, in order.
use Rattle.std.specs.Prelude.{ℕ, ◌+◌, ◌*◌, ◌^◌, ◌==◌, nat_lt, nat_le, Bool, not, ◌&&◌, is_none}
use Rattle.std.specs.Prelude.{if◌then◌else◌, List, [], ◌∷◌, ◌++◌, map, zip, length, take, drop}
use Rattle.std.specs.Prelude.{Option, Some, None}
use Rattle.std.specs.Option.{unwrap_or}
use Rattle.std.specs.List.{list_any}
use Rattle.std.specs.Str.{bytes_eq}
use Rattle.dram_model.specs.declared.geometry.Geometry.{Geometry}
use Rattle.op_text.specs.declared.tree.Kind.{Kind}
use Rattle.uprog_code.specs.Machine.{Trace, Ended, Stuck}
use Rattle.uprog_code.specs.Shape.{Shape, width, need, results}
use Rattle.object_alloc.specs.declared.table.Object.{Object}
use Rattle.object_alloc.specs.Free.{free}
use Rattle.object_alloc.specs.Listed.{limit_of, Named, objects_of, look_up, has_name}
use Rattle.bbop_isa.specs.Forms.{Instruction}
use Rattle.bbop_isa.specs.declared.instr.Place.{Place}
use Rattle.bbop_isa.specs.Forms.{Init, Bbop, Load, Fill, Print, Free, Order}
use Rattle.machine_model.specs.declared.Why.{Why}
use Rattle.machine_model.specs.declared.Why.TheVariants as why
use Rattle.dram_model.specs.Elements.{column_count}
use Rattle.machine_model.specs.Routines.{Routine, Routines}
use Rattle.machine_model.specs.Places.{cut, is_past, share}

-- the first condition that holds
abbrev pub first : List (Option Why) → Option Why
first [] = None
first (None ∷ rest) = first rest
first (Some reason ∷ rest) = Some reason

-- a condition with the reason that it is told by
abbrev pub when : Bool → Why → Option Why
when holds reason = if holds then Some reason else None

-- the first place where it holds; the first of the list has this number
abbrev pub at_place : (ℕ → Why) → ℕ → List Bool → Option Why
at_place reason k [] = None
at_place reason k (holds ∷ rest) = if holds then Some (reason k) else at_place reason (k + 1) rest

-- what is read of a name that no object has
abbrev pub nothing : Object
nothing = record { base = 0; width = 0; count = 0 }

-- the object of this name, for conditions that come after the one that there is none
abbrev pub object_named : List Named → List ℕ → Object
object_named table name = unwrap_or (look_up table name) nothing

-- the rows of an operand
abbrev pub rows_of : List Named → Place → Object
rows_of table place = cut place.part (object_named table place.name)

-- the operand ends past its object
abbrev pub goes_past : List Named → Place → Bool
goes_past table place = is_past place.part (object_named table place.name)

-- no object has this name
abbrev pub is_absent : List Named → List ℕ → Bool
is_absent table name = not (has_name table name)

-- the object is not as wide as an operand of this kind
abbrev pub is_misfit : ℕ → Kind × Object → Bool
is_misfit n operand = not (operand.1.width == width operand.0 n)

-- the operation's walk is stuck at this width, and where
abbrev pub walks_badly : Trace → Option Why
walks_badly (Ended issues) = None
walks_badly (Stuck at reason) = Some (why.BadWalk (record { at = at; why = reason }))

-- the destinations of a bbop: its first operands, one for each result
abbrev pub dsts_in : Shape → List Place → List Place
dsts_in shape places = take (length (results shape)) places

-- the sources of a bbop: the operands after its destinations
abbrev pub srcs_in : Shape → List Place → List Place
srcs_in shape places = drop (length (results shape)) places

-- the operand has a bit of one of these
abbrev pub meets_one : List Place → Place → Bool
meets_one others place = list_any (λ other. bytes_eq place.name other.name
    && share place.part other.part) others

-- of each destination, whether it has a bit of one before it
abbrev pub meet_before : List Place → List Place → List Bool
meet_before before [] = []
meet_before before (place ∷ places) = meets_one before place ∷ meet_before (place ∷ before) places

-- the conditions on the operands of an operation of this shape, each upwards from the first
-- destination
abbrev pub operand_conditions : List Named → Shape → List Place → ℕ → ℕ → List (Option Why)
operand_conditions table shape places count n =
    let operands = map (rows_of table) places in
    at_place why.NoObject 0 (map (λ p. is_absent table p.name) places)
    ∷ at_place why.Slice 0 (map (goes_past table) places)
    ∷ at_place why.Width 0 (map (is_misfit n) (zip (results shape ++ shape.sources) operands))
    ∷ at_place why.Size 0 (map (λ o. not (o.count == count)) operands)
    ∷ at_place why.Overlap 0 (meet_before [] (dsts_in shape places)
    ++ map (meets_one (dsts_in shape places)) (srcs_in shape places))
    ∷ []

-- the conditions on its walk and its scratch, where objects lie below the limit
abbrev pub grant_conditions : ℕ → List Named → Routine → ℕ → List (Option Why)
grant_conditions limit table operation n =
    walks_badly (operation.trace n)
    ∷ when (is_none (free limit (objects_of table) (need operation.shape n))) why.NoRows
    ∷ []

-- the conditions on a bbop of an operation that there is
abbrev pub bbop_conditions : ℕ → List Named → Routine → List Place → ℕ → ℕ → List (Option Why)
bbop_conditions limit table operation places count n =
    when (not (length places == length (results operation.shape ++ operation.shape.sources)))
    why.Arity
    ∷ operand_conditions table operation.shape places count n
    ++ grant_conditions limit table operation n

-- why a bbop is refused, and first that there is no such operation
abbrev pub bbop_refusal : Geometry → List Named → Option Routine → List Place → ℕ → ℕ
    → Option Why
bbop_refusal g table None places count n = Some why.NoOp
bbop_refusal g table (Some operation) places count n =
    first (bbop_conditions (limit_of g) table operation places count n)

-- why the instruction is refused, if it is
abbrev pub refusal : Geometry → Routines → List Named → Instruction → Option Why
refusal g operations table (Init name count n) =
    first (when (has_name table name) why.Exists
    ∷ when (nat_le 256 (length table)) why.TableFull
    ∷ when (nat_lt (column_count g * g.banks) count) why.TooLarge
    ∷ when (is_none (free (limit_of g) (objects_of table) n)) why.NoRows ∷ [])
refusal g operations table (Bbop op dst srcs count n) =
    bbop_refusal g table (operations op) (dst ∷ srcs) count n
refusal g operations table (Load place values) =
    let o = rows_of table place in
    first (when (is_absent table place.name) (why.NoObject 0)
    ∷ when (goes_past table place) (why.Slice 0)
    ∷ when (not (length values == o.count)) why.Count
    ∷ at_place why.Range 1 (map (λ v. nat_le (2 ^ o.width) v) values) ∷ [])
refusal g operations table (Fill place value) =
    first (when (is_absent table place.name) (why.NoObject 0)
    ∷ when (goes_past table place) (why.Slice 0)
    ∷ when (nat_le (2 ^ (rows_of table place).width) value) (why.Range 1) ∷ [])
refusal g operations table (Print place) =
    first (when (is_absent table place.name) (why.NoObject 0)
    ∷ when (goes_past table place) (why.Slice 0) ∷ [])
refusal g operations table (Free name) = when (is_absent table name) (why.NoObject 0)
refusal g operations table (Order order) = None
