-- Queries, and of which elements they hold.
use Rattle.std.specs.Prelude.{ℕ, ◌+◌, ◌-◌, ◌<◌, ◌≤◌, ◌==◌, nat_lt, nat_le, Bool, not, ◌&&◌, ◌||◌}
use Rattle.std.specs.Prelude.{List, [], ◌∷◌, ◌++◌}
use Rattle.bit_rows.specs.declared.TheConstants.{WIDTH_MAX}
use Rattle.bbop_isa.specs.declared.instr.Place.{Place}
use Rattle.bbop_isa.specs.Forms.{whole, part_of}
use Rattle.machine_model.specs.Places.{seen}
use Rattle.scan_model.specs.declared.CmpOp.{CmpOp}
use Rattle.scan_model.specs.declared.CmpOp.TheVariants as cmp

-- what a comparison looks at, as it is written: NAME, NAME[K] or NAME[LO:HI]
pub data Operand : Type 0 where
  Whole : List ℕ → Operand
  Bit : List ℕ → (k : ℕ) → Operand
  Bits : List ℕ → (low high : ℕ) → Operand

-- the operand that is meant: an object, or so many of its bits
abbrev pub place_of : Operand → Place
place_of (Whole name) = whole name
place_of (Bit name k) = part_of name k 1
place_of (Bits name low high) = part_of name low (high - low)

-- the bits may be an object's: one at least, and none past the greatest width
abbrev pub IsPart : Operand → Type 0
IsPart (Whole name) = Unit {0}
IsPart (Bit name k) = k < WIDTH_MAX
IsPart (Bits name low high) = (low < high) × (high ≤ WIDTH_MAX)

-- a comparison of an object's elements, or of bits of them, with a number, or a join of queries
pub data Query : Type 0 where
  Compare : CmpOp → Operand → (bound : ℕ) → Query
  Negate : Query → Query
  Both : Query → Query → Query
  Either : Query → Query → Query

-- what a comparison says of an element's number and the number in the query
abbrev pub compared : CmpOp → ℕ → ℕ → Bool
compared cmp.Eq a v = a == v
compared cmp.Gt a v = nat_lt v a
compared cmp.Ge a v = nat_le v a
compared cmp.Lt a v = nat_lt a v
compared cmp.Le a v = nat_le a v

-- the number that a comparison looks at, of an element that has these numbers, by the objects'
-- names: of the bits LO up to HI it is v / 2^LO mod 2^(HI - LO)
abbrev pub looked_at : Place → (List ℕ → ℕ) → ℕ
looked_at place e = seen place.part (e place.name)

-- the query holds of an element that has these numbers, by the objects' names
abbrev pub matches : Query → (List ℕ → ℕ) → Bool
matches (Compare op operand v) e = compared op (looked_at (place_of operand) e) v
matches (Negate a) e = not (matches a e)
matches (Both a b) e = matches a e && matches b e
matches (Either a b) e = matches a e || matches b e

-- the bits that its comparisons look at may be an object's
abbrev pub HasParts : Query → Type 0
HasParts (Compare op operand v) = IsPart operand
HasParts (Negate a) = HasParts a
HasParts (Both a b) = HasParts a × HasParts b
HasParts (Either a b) = HasParts a × HasParts b

-- a node of a query; a join names its sources by their numbers
pub data Node : Type 0 where
  Test : CmpOp → Place → (bound : ℕ) → Node
  Not : ℕ → Node
  And : ℕ → ℕ → Node
  Or : ℕ → ℕ → Node

-- how many nodes it has
abbrev pub size : Query → ℕ
size (Compare op operand v) = 1
size (Negate a) = size a + 1
size (Both a b) = size a + size b + 1
size (Either a b) = size a + size b + 1

-- the number of its last node, where its first has this one
abbrev pub last_from : ℕ → Query → ℕ
last_from k q = k + size q - 1

-- its nodes in postorder, the first of which has this number
abbrev pub nodes_from : ℕ → Query → List Node
nodes_from k (Compare op operand v) = Test op (place_of operand) v ∷ []
nodes_from k (Negate a) = nodes_from k a ++ Not (last_from k a) ∷ []
nodes_from k (Both a b) = nodes_from k a ++ (nodes_from (k + size a) b
    ++ And (last_from k a) (last_from (k + size a) b) ∷ [])
nodes_from k (Either a b) = nodes_from k a ++ (nodes_from (k + size a) b
    ++ Or (last_from k a) (last_from (k + size a) b) ∷ [])

-- the nodes of a query in postorder: each stands after its sources
abbrev pub nodes_of : Query → List Node
nodes_of q = nodes_from 0 q
