-- `mul` as a flow: its bodies, and how they follow one another.
use Rattle.word_flow.proofs.Common.{SetI, SetN, SetT, Mov, AddI, FlowOf, End, Do, Put, Loop, Last}
use Rattle.word_flow.proofs.Common.{Turn, Marked, coded_of}
use Rattle.word_flow.specs.declared.mul.TheConstants.{JOINS, JOINS_TOO, TURNS, ADDS_FIRST, ADDS}

-- The bodies: two positions of the first row, where the second has the constant and the bit in
-- cells; the complement of a bit comes into the scratch; the first position of a row, and each other
pub data Part : Type 0 where
  Joined : Part
  JoinedToo : Part
  Turned : Part
  First : Part
  Added : Part

-- what each reads, computes and writes, and its commands, as the table has them
abbrev pub code : Part → Marked
code Joined = coded_of JOINS
code JoinedToo = coded_of JOINS_TOO
code Turned = coded_of TURNS
code First = coded_of ADDS_FIRST
code Added = coded_of ADDS

-- the first row, in which register 1 is the position
abbrev pub row_one : FlowOf Part → FlowOf Part
row_one k = Loop 0 (Turn (Do Joined (Put (AddI 1 1) End)) (Last (Do JoinedToo (Put (AddI 1 1) End)))) k

-- a position of another row: register 3 is the position in the first argument, and 4 in the target
abbrev pub next_add : FlowOf Part
next_add = Do Added (Put (AddI 3 1) (Put (AddI 4 1) End))

-- another row, for the bit of the second argument whose number is in register 1
abbrev pub add_row : FlowOf Part
add_row = Do Turned (Do First (Put (Mov 2 0) (Put (SetI 3 1) (Put (Mov 4 1) (Put (AddI 4 1)
    (Loop 2 (Last next_add) (Put (AddI 1 1) End)))))))

abbrev pub mul : FlowOf Part
mul = Put (SetN 0) (Put (SetI 1 0) (row_one (Put (SetT 0) (Put (SetI 1 1) (Loop 0 (Last add_row) End)))))
