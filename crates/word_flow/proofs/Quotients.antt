-- `div`, `rem` and `divmod` as flows: their bodies, and how they follow one another.
use Rattle.word_flow.proofs.Common.{SetI, SetN, SetT, Mov, AddI, SubI, FlowOf, End, Do, Put, If}
use Rattle.word_flow.proofs.Common.{Loop, Last, Marked, coded_of}
use Rattle.std.specs.Prelude.{Bool, true, false}
use Rattle.word_flow.specs.declared.division.TheConstants.{COMPARES_FIRST_ALONE, LOOKS_ABOVE_ALONE}
use Rattle.word_flow.specs.declared.division.TheConstants.{COMPARES_FIRST, COMPARES_ALONE, COMPARES}
use Rattle.word_flow.specs.declared.division.TheConstants.{GATHERS_TOP, LOOKS_ABOVE, TAKES_FIRST}
use Rattle.word_flow.specs.declared.division.TheConstants.{TAKES_ALONE, GATHERS, KEEPS, TAKES}

-- The bodies. From the top position down: whether a bit of the divisor from the position on is
-- set. Of a step: the first position of a comparison, and each other; whether a higher bit is set,
-- or else what was found is kept; the first position of a subtraction, and each other
pub data Part : Type 0 where
  GatherTop : Part
  Gather : Part
  First : Part
  Over : Part
  Above : Part
  Kept : Part
  TakeFirst : Part
  Take : Part

-- what each reads, computes and writes, and its commands, as the tables have them: the bits of the
-- quotient have a row each, or one in turn
abbrev pub code : Bool → Part → Marked
code row GatherTop = coded_of GATHERS_TOP
code row Gather = coded_of GATHERS
code true First = coded_of COMPARES_FIRST
code false First = coded_of COMPARES_FIRST_ALONE
code true Over = coded_of COMPARES
code false Over = coded_of COMPARES_ALONE
code true Above = coded_of LOOKS_ABOVE
code false Above = coded_of LOOKS_ABOVE_ALONE
code row Kept = coded_of KEEPS
code row TakeFirst = coded_of TAKES_FIRST
code true Take = coded_of TAKES
code false Take = coded_of TAKES_ALONE

-- from the top position down to 1, in register 3
abbrev pub gather_next : FlowOf Part
gather_next = Put (SubI 3 1) (Do Gather End)

abbrev pub gathers : FlowOf Part → FlowOf Part
gathers k = Put (SetT 0) (Put (SetT 3) (If 0
    (Do GatherTop (Put (SubI 0 1) (Loop 0 (Last gather_next) End))) End k))

-- a position of a comparison, and of a subtraction: register 3 is the divisor's, 4 the window's
abbrev pub over : FlowOf Part
over = Do Over (Put (AddI 3 1) (Put (AddI 4 1) End))

abbrev pub take : FlowOf Part
take = Do Take (Put (AddI 3 1) (Put (AddI 4 1) End))

-- the positions from 1 on of a step whose window has as many as register 1 says, from that in 0 on
abbrev pub setup : FlowOf Part → FlowOf Part
setup k = Put (Mov 2 1) (Put (SubI 2 1) (Put (SetI 3 1) (Put (Mov 4 0) (Put (AddI 4 1) k))))

abbrev pub takes : FlowOf Part → FlowOf Part
takes k = Do TakeFirst (setup (Loop 2 (Last take) k))

abbrev pub compares : FlowOf Part → FlowOf Part
compares k = Do First (setup (Loop 2 (Last over) k))

-- a step of a division whose quotient alone is wanted, whose last step takes nothing away, and of one
-- whose remainder is wanted
abbrev pub step_of : Bool → FlowOf Part
step_of true = compares (If 0 (Do Above (takes End)) End (Put (AddI 1 1) End))
step_of false = compares (If 0 (Do Above End) (Do Kept End) (takes (Put (AddI 1 1) End)))

-- Register 0 is the position of a step's window and counts the steps left, and 1 its length
abbrev pub division : Bool → FlowOf Part
division lone = gathers (Put (SetN 0) (Put (SetI 1 1) (Loop 0 (Last (step_of lone)) End)))
