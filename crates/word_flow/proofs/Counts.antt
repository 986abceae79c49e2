-- `bitcount` as a flow: its bodies, and how they follow one another.
use Rattle.word_flow.proofs.Common.{◌==◌, if◌then◌else◌, ones_of, SetI, SetN, SetT, Mov, AddI}
use Rattle.word_flow.proofs.Common.{FlowOf, End, Do, Put, If, Loop, Last, Marked, coded_of}
use Rattle.std.specs.Prelude.{ℕ, ◌+◌, ◌-◌, ◌*◌, Bool, true, false}
use Rattle.word_flow.specs.declared.bitcount.TheConstants.{LOADS_THREE_BITS, LOADS_NEXT_BITS, ADDS}
use Rattle.word_flow.specs.declared.bitcount.TheConstants.{LOADS_TWO_BITS, LOADS_THREE, LOADS_NEXT}
use Rattle.word_flow.specs.declared.bitcount.TheConstants.{LOADS_TWO, COPIES, CLEARS, SUMS}
use Rattle.word_flow.proofs.Halving.{halve}
pub use Rattle.word_flow.specs.Programs.{digits}

-- The bodies. The elements that are read are the argument's rows at the lowest level, and the
-- target's above it
pub data Part : Type 0 where
  -- the lowest bit of the argument is that of the target
  Copied : Part
  -- three elements, or two, or two and a sum, come into the cells in which they are added
  Three : Bool → Part
  Two : Bool → Part
  Next : Bool → Part
  -- they are added: the carry goes into the target, and the sum stays in cells
  Carried : Part
  -- the sum goes into the target
  Summed : Part
  -- a row of the target is cleared
  Cleared : Part

-- what each reads, computes and writes, and its commands, as the table has them
abbrev pub code : Part → Marked
code Copied = coded_of COPIES
code (Three true) = coded_of LOADS_THREE_BITS
code (Three false) = coded_of LOADS_THREE
code (Two true) = coded_of LOADS_TWO_BITS
code (Two false) = coded_of LOADS_TWO
code (Next true) = coded_of LOADS_NEXT_BITS
code (Next false) = coded_of LOADS_NEXT
code Carried = coded_of ADDS
code Summed = coded_of SUMS
code Cleared = coded_of CLEARS

-- how a level's sum begins where its elements are odd in number, and where they are even
abbrev pub odd_start : Bool → FlowOf Part
odd_start f = Put (Mov 3 4) (Put (AddI 3 1) (Do (Three f) (Put (AddI 3 2) (Put (AddI 4 2) End))))

abbrev pub even_start : Bool → FlowOf Part
even_start f = Do (Two f) (Put (AddI 4 1) (Put (Mov 3 4) (Put (AddI 3 1) End)))

-- the next two elements come to the sum
abbrev pub load_next : Bool → FlowOf Part
load_next f = Do (Next f) (Put (AddI 4 2) (Put (AddI 3 2) End))

-- a carry, which is an element of the level above
abbrev pub next_pair : Bool → FlowOf Part
next_pair f = Do Carried (Put (AddI 5 1) (If 2 (load_next f) End End))

-- a level with two elements or more, whose place is in register 0
abbrev pub filled : Bool → FlowOf Part
filled f = Put (Mov 4 0) (Put (AddI 4 1) (Put (Mov 5 4) (If 3 (odd_start f) (even_start f)
    (Loop 2 (Last (next_pair f)) (Do Summed End)))))

-- a level, with what is done where it has no two elements
abbrev pub level : Bool → FlowOf Part → FlowOf Part → FlowOf Part
level f none k = halve (Put (Mov 1 2) (If 2 (filled f) none k))

-- the next level: of one element nothing is left to do, and without any its row is cleared
abbrev pub above : FlowOf Part
above = Put (AddI 0 1) (level false (If 3 End (Do Cleared End) End) End)

-- Level o has n / 2^o elements of weight 2^o: those of the lowest are the argument's rows, and
-- those above it stand from their own row of the target on. Register 1 holds how many they are
abbrev pub bitcount : FlowOf Part
bitcount = Put (SetI 0 0) (Put (SetN 1) (level true (Do Copied End) (Put (SetT 6)
    (Loop 6 (Last above) End))))

-- the commands of a count of n bits: 6 an addition of two elements to a sum, 2 more a level with
-- two elements, and one a row that is cleared
abbrev pub count_total : ℕ → ℕ
count_total n = if n == 1 then 1 else 7 * n + digits n n - 2 - 6 * ones_of n n
