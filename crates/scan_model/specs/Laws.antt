-- What the instructions of a query come to.
use Rattle.std.specs.Prelude.{◌≡◌, ℕ, ◌+◌, ◌*◌, ◌^◌, ◌<◌, ◌≤◌, ◌==◌, nat_lt, nat_le, ◌⊎◌, Bool}
use Rattle.std.specs.Prelude.{true, false, not, ◌&&◌, ◌||◌, List, [], ◌∷◌, ◌++◌, map, take}
use Rattle.std.specs.Prelude.{count_by, length, All, codes, Option, Some, None, slice_index}
use Rattle.std.specs.List.{range_with_len, AllByRecursion}
use Rattle.bit_rows.specs.Bits.{bit_number}
use Rattle.bit_rows.specs.declared.TheConstants.{WIDTH_MAX}
use Rattle.op_text.specs.declared.tree.Kind.{Kind}
use Rattle.op_text.specs.declared.tree.Kind.TheVariants.{Word, Bit}
use Rattle.dram_model.specs.declared.geometry.Geometry.{Geometry}
use Rattle.dram_model.specs.Elements.{column_count}
use Rattle.dram_model.specs.Chip.{Banks}
use Rattle.object_alloc.specs.declared.table.Object.{Object}
use Rattle.object_alloc.specs.Listed.{Named, has_name}
use Rattle.machine_model.specs.declared.Why.{Why}
use Rattle.machine_model.specs.declared.Why.TheVariants as why
use Rattle.machine_model.specs.Columns.{object_size, columns}
use Rattle.machine_model.specs.Routines.{Routine, Routines, Program, routines_of}
use Rattle.machine_model.specs.Routines.{meaning_in}
use Rattle.uprog_code.specs.Texts.{ImplementsAll}
use Rattle.object_alloc.specs.Spelling.{IsObject}
use Rattle.machine_model.specs.Refusals.{walks_badly}
use Rattle.machine_model.specs.Steps.{Held, table_of, numbers_named}
use Rattle.machine_model.specs.Agrees.{Agrees, IsPlain}
use Rattle.machine_model.specs.Script.{words_at_end, banks_at_end, table_at_end, sum_done}
use Rattle.machine_model.specs.Script.{rows_loaded, rows_printed}
use Rattle.machine_model.specs.Pieces.{pieces, piece_of}
use Rattle.scan_model.specs.Queries.{Query, Node, HasParts, matches, size, nodes_of}
use Rattle.op_text.specs.Spelling.{MeetRules}
use Rattle.scan_model.specs.Operations.{scan_operations, scan_text}
use Rattle.text_lex.specs.Spelled.{fits_name}
use Rattle.scan_model.specs.Names.{scan_name, free_among, free_name}
use Rattle.scan_model.specs.Instructions.{scan_script, count_of}
use Rattle.scan_model.specs.Checks.{checked, refused_from}

-- the numbers of an element, by the objects' names
abbrev pub element : List Held → ℕ → List ℕ → ℕ
element state e name = slice_index (numbers_named state name) e

-- the operation is there, takes these kinds and gives a bit, and its walk ends at each width
pub record Offers (operations : Routines) (name : List ℕ) (kinds : List Kind) : Type 0 where
  pub operation : Routine
  pub there : operations name ≡ Some operation
  pub sources : operation.shape.sources ≡ kinds
  pub result : operation.shape.result ≡ Bit
  pub one_result : operation.shape.second ≡ None
  pub walks : (n : ℕ) → 0 < n → n ≤ WIDTH_MAX → walks_badly (operation.trace n) ≡ None

-- each of the six operations of scans is there
pub record OffersScan (operations : Routines) : Type 0 where
  pub equal : Offers operations (codes "s_eq") (Word ∷ Word ∷ [])
  pub greater : Offers operations (codes "s_gt") (Word ∷ Word ∷ [])
  pub at_least : Offers operations (codes "s_ge") (Word ∷ Word ∷ [])
  pub negation : Offers operations (codes "s_not") (Bit ∷ [])
  pub conjunction : Offers operations (codes "s_and") (Bit ∷ Bit ∷ [])
  pub disjunction : Offers operations (codes "s_or") (Bit ∷ Bit ∷ [])

-- what they mean
pub record MeansScan (meaning : List ℕ → ℕ → List ℕ → List ℕ) : Type 0 where
  pub equal : (n a b : ℕ) → a < 2 ^ n → b < 2 ^ n
      → meaning (codes "s_eq") n (a ∷ b ∷ []) ≡ bit_number (a == b) ∷ []
  pub greater : (n a b : ℕ) → a < 2 ^ n → b < 2 ^ n
      → meaning (codes "s_gt") n (a ∷ b ∷ []) ≡ bit_number (nat_lt b a) ∷ []
  pub at_least : (n a b : ℕ) → a < 2 ^ n → b < 2 ^ n
      → meaning (codes "s_ge") n (a ∷ b ∷ []) ≡ bit_number (nat_le b a) ∷ []
  pub negation : (a : Bool) → meaning (codes "s_not") 1 (bit_number a ∷ []) ≡ bit_number (not a)
      ∷ []
  pub conjunction : (a b : Bool) → meaning (codes "s_and") 1 (bit_number a ∷ bit_number b ∷ [])
      ≡ bit_number (a && b) ∷ []
  pub disjunction : (a b : Bool) → meaning (codes "s_or") 1 (bit_number a ∷ bit_number b ∷ [])
      ≡ bit_number (a || b) ∷ []

-- an object as an image may have it, and its numbers fit its width
pub record IsHeld (g : Geometry) (h : Held) : Type 0 where
  pub wide : 0 < h.object.width
  pub narrow : h.object.width ≤ WIDTH_MAX
  pub some : 0 < h.object.count
  pub fits : h.object.count ≤ column_count g * g.banks
  pub numbers_fit : (e : ℕ) → slice_index h.numbers e < 2 ^ h.object.width

-- this state and after it one object of width 1 that is 1 exactly where the test holds, in every
-- column
pub record Leaves (g : Geometry) (state : List Held) (name : List ℕ) (count : ℕ) (holds : ℕ
    → Bool) (new : List Held) : Type 0 where
  pub object : Object
  pub counted : object.count ≡ count
  pub narrow : object.width ≡ 1
  pub is : new ≡ state ++ record {
    name = name;
    object = object;
    numbers =
        map (λ e. bit_number (holds e)) (range_with_len 0 (object_size g object));
  } ∷ []

-- there is no room for one more object
abbrev pub IsRoom : Why → Type 0
IsRoom w = (w ≡ why.TableFull) ⊎ (w ≡ why.NoRows)

-- the query's first refused node, on this table
abbrev pub scan_refused : Geometry → Routines → List Named → Query → Option (Why × ℕ)
scan_refused g operations table q = refused_from g operations table table (free_name table)
    (count_of table (nodes_of q)) 0 (nodes_of q)

-- what holds of a query on a state that passes the checks
pub record Scans (g : Geometry) (operations : Routines) (meaning : List ℕ → ℕ → List ℕ
    → List ℕ) (state : List Held) (q : Query) : Type 0 where
  pub counts : scan_refused g operations (table_of state) q ≡ None →
      Leaves g state (free_name (table_of state) (size q))
      (count_of (table_of state) (nodes_of q)) (λ e. matches q (element state e))
      (words_at_end g operations meaning state (scan_script (table_of state) (nodes_of q)))
  pub room : (w : Why) (k : ℕ) → scan_refused g operations (table_of state) q ≡ Some (w, k)
      → IsRoom w

-- Where the checks pass and no instruction is refused, one new object is 1 exactly where the query
-- holds, and all else is as it was; and an instruction is refused only where there is no room
abbrev pub ScanInWords : Type 0
ScanInWords =
    (g : Geometry) (operations : Routines) (meaning : List ℕ → ℕ → List ℕ
    → List ℕ) (state : List Held) (q : Query)
    → OffersScan operations → MeansScan meaning → AllByRecursion (IsHeld g) state
    → length state ≤ 256 → size q ≤ 64 → HasParts q → checked (table_of state) (nodes_of q) ≡ None
    → Scans g operations meaning state q

-- the names of a scan's objects are free and of at most 16 bytes, and they differ
pub record NamesAreFree : Type 0 where
  pub free : (table : List Named) (k : ℕ) → length table ≤ 256 → k ≤ 64
      → has_name table (free_name table k) ≡ false
  pub fit : (table : List Named) (k : ℕ) → length table ≤ 256 → k ≤ 64
      → fits_name (free_name table k) ≡ true
  pub differ : (table : List Named) (j k : ℕ) → length table ≤ 256 → j ≤ 64 → k ≤ 64
      → free_name table j ≡ free_name table k → j ≡ k

-- a free name is the k-th where k of the names before it are free
abbrev pub NamesAreCounted : Type 0
NamesAreCounted = (table : List Named) (i : ℕ) → i < length table + 65
    → has_name table (scan_name i) ≡ false → free_name table (length (free_among table i))
    ≡ scan_name i

-- the six operations meet the rules of operation texts, and mean what a scan wants of them, and a
-- program that implements them offers them
pub record TextScans : Type 0 where
  pub meets : MeetRules scan_operations
  pub means : MeansScan (meaning_in scan_text)
  pub offers : (p : Program) → ImplementsAll p scan_text → OffersScan (routines_of scan_text p)

-- one object more, and the columns of all
pub record FoundInRows (g : Geometry) (operations : Routines) (banks : Banks)
    (state : List Held) (q : Query) : Type 0 where
  pub object : Object
  pub counted : object.count ≡ count_of (table_of state) (nodes_of q)
  pub narrow : object.width ≡ 1
  pub table : table_at_end g operations (table_of state)
      (scan_script (table_of state) (nodes_of q)) ≡ table_of state
      ++ (free_name (table_of state) (size q), object) ∷ []
  pub marked : columns g (banks_at_end g operations (table_of state) banks
      (scan_script (table_of state) (nodes_of q))) object
      ≡ map (λ e. bit_number (matches q (element state e)))
      (range_with_len 0 (object_size g object))
  pub kept : AllByRecursion (λ h. columns g (banks_at_end g operations (table_of state) banks
      (scan_script (table_of state) (nodes_of q))) h.object ≡ h.numbers) state

-- how many of the first elements a query holds of
abbrev pub found_among : List Held → Query → ℕ → ℕ
found_among state q count = count_by (λ e. matches q (element state e)) (range_with_len 0 count)

-- Where the checks pass and no instruction is refused, the columns of one new object are 1 exactly
-- where the query holds, and those of all others stay
abbrev pub ScanInRows : Type 0
ScanInRows =
    (g : Geometry) (p : Program) (banks : Banks) (state : List Held) (q : Query) → 0 < g.words
    → ImplementsAll p scan_text
    → AllByRecursion (λ h. IsObject g h.object) state → Agrees g banks state → size q ≤ 64
    → HasParts q → checked (table_of state) (nodes_of q) ≡ None
    → scan_refused g (routines_of scan_text p) (table_of state) q ≡ None
    → FoundInRows g (routines_of scan_text p) banks state q

-- the ones among the first numbers of the last object are the elements that the query holds of
abbrev pub OnesAreFound : Type 0
OnesAreFound = (state : List Held) (q : Query) (count size : ℕ) → count ≤ size
    → count_by (λ v. v == 1) (take count (map (λ e. bit_number (matches q (element state e)))
    (range_with_len 0 size))) ≡ found_among state q count

-- where the checks pass, the instructions of a query are plain
abbrev pub ScanIsPlain : Type 0
ScanIsPlain = (g : Geometry) (table : List Named) (q : Query)
    → All (λ named. IsObject g named.1) table → HasParts q → checked table (nodes_of q) ≡ None
    → AllByRecursion IsPlain (scan_script table (nodes_of q))

-- A query's instructions load no row and print none
pub record NothingIsMoved : Type 0 where
  pub loads : (g : Geometry) (operations : Routines) (start table : List Named)
      (nodes : List Node) → sum_done rows_loaded g operations table (scan_script start nodes) ≡ 0
  pub prints : (g : Geometry) (operations : Routines) (start table : List Named)
      (nodes : List Node) → sum_done rows_printed g operations table (scan_script start nodes) ≡ 0

-- no two bbops of a query stand side by side: each is a wave of its own
abbrev pub EachIsAlone : Type 0
EachIsAlone = (table : List Named) (nodes : List Node)
    → pieces (scan_script table nodes) ≡ map piece_of (scan_script table nodes)

-- All laws of scans, as one.
pub record ScanLaws : Type 0 where
  pub words : ScanInWords
  pub names : NamesAreFree
  pub counted_names : NamesAreCounted
  pub text : TextScans
  pub rows : ScanInRows
  pub ones : OnesAreFound
  pub plain : ScanIsPlain
  pub moved : NothingIsMoved
  pub each : EachIsAlone
