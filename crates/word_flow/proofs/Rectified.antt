-- `relu` as a flow: its bodies, and how they follow one another.
use Rattle.word_flow.proofs.Common.{◌==◌, if◌then◌else◌, SetI, SetT, AddI, FlowOf, End, Do, Put, If}
use Rattle.word_flow.proofs.Common.{Loop, Last, Turn, Marked, coded_of}
use Rattle.std.specs.Prelude.{ℕ, ◌*◌}
use Rattle.word_flow.specs.declared.relu.TheConstants.{TURNS, JOINS, JOINS_TOO, CLEARS}

-- The bodies: the complement of the top bit comes into T1 and DCC0; a position with that in T1,
-- which leaves the constant in T3; a position with both; and the top position, which is cleared
pub data Part : Type 0 where
  Turned : Part
  Both : Part
  Agreed : Part
  Cleared : Part

-- what each reads, computes and writes, and its commands, as the table has them
abbrev pub code : Part → Marked
code Turned = coded_of TURNS
code Both = coded_of JOINS
code Agreed = coded_of JOINS_TOO
code Cleared = coded_of CLEARS

abbrev pub both : FlowOf Part
both = Do Both (Put (AddI 1 1) End)

abbrev pub agreed : FlowOf Part
agreed = Do Agreed (Put (AddI 1 1) End)

-- register 1 is the position, and 2 the top one
abbrev pub relu : FlowOf Part
relu = Put (SetT 0) (Put (SetT 2) (Put (SetI 1 0)
    (If 0 (Do Turned (Loop 0 (Turn both (Last agreed)) End)) End (Do Cleared End))))

-- the commands of n bits
abbrev pub rectified_total : ℕ → ℕ
rectified_total n = if n == 1 then 1 else 3 * n
