-- `abs` as a flow: its bodies, and how they follow one another.
use Rattle.word_flow.proofs.Common.{◌==◌, if◌then◌else◌, SetI, SetT, AddI, SubI, FlowOf, End, Do}
use Rattle.word_flow.proofs.Common.{Put, If, Loop, Last, Marked, coded_of}
use Rattle.std.specs.Prelude.{ℕ, ◌-◌, ◌*◌}
use Rattle.word_flow.specs.declared.abs.TheConstants.{COPIES, SEES, SEES_LAST, NEGATES}
use Rattle.word_flow.specs.declared.abs.TheConstants.{NEGATES_LAST, ENDS}

-- The bodies: the lowest bit is kept; whether it was set under the sign comes into cells, or its
-- complement where no position follows; a position, and the last one below the top; the top bit
pub data Part : Type 0 where
  Copied : Part
  Seen : Part
  SeenLast : Part
  Negated : Part
  NegatedLast : Part
  Top : Part

-- what each reads, computes and writes, and its commands, as the table has them
abbrev pub code : Part → Marked
code Copied = coded_of COPIES
code Seen = coded_of SEES
code SeenLast = coded_of SEES_LAST
code Negated = coded_of NEGATES
code NegatedLast = coded_of NEGATES_LAST
code Top = coded_of ENDS

abbrev pub next_bit : FlowOf Part
next_bit = Do Negated (Put (AddI 1 1) End)

-- the positions between the lowest and the top one, of which there are some
abbrev pub between : FlowOf Part
between = Do Seen (Put (SubI 0 1) (Loop 0 (Last next_bit) (Do NegatedLast End)))

-- register 1 is the position, and 2 the top one
abbrev pub abs : FlowOf Part
abs = Do Copied (Put (SetT 2) (Put (SetT 0) (If 0
    (Put (SubI 0 1) (Put (SetI 1 1) (If 0 between (Do SeenLast End) (Do Top End)))) End End)))

-- the commands of an absolute value of n bits
abbrev pub absolute_total : ℕ → ℕ
absolute_total n = if n == 1 then 1 else 8 * n - 8
