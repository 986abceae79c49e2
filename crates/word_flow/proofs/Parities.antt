-- `xor_red` as a flow: its bodies, and how they follow one another.
use Rattle.word_flow.proofs.Common.{◌/◌, nat_lt, if◌then◌else◌, SetI, SetN, AddI, SubI, FlowOf, End}
use Rattle.word_flow.proofs.Common.{Do, Put, If, Loop, Last, Marked, coded_of}
use Rattle.std.specs.Prelude.{ℕ, ◌+◌, ◌*◌}
use Rattle.word_flow.specs.declared.parity.TheConstants.{COPIES, LONE_TWO, LONE_THREE, OPENS_TWO}
use Rattle.word_flow.specs.declared.parity.TheConstants.{OPENS_THREE, JOINS, ENDS}
use Rattle.word_flow.proofs.Halving.{halve}

-- The bodies: the only element; the only two, and the only three; the first two and the first three
-- of more, whose parity stays in cells; two more; and the last two
pub data Part : Type 0 where
  Alone : Part
  LoneTwo : Part
  LoneThree : Part
  OpenTwo : Part
  OpenThree : Part
  Pair : Part
  Ended : Part

-- what each reads, computes and writes, and its commands, as the table has them
abbrev pub code : Part → Marked
code Alone = coded_of COPIES
code LoneTwo = coded_of LONE_TWO
code LoneThree = coded_of LONE_THREE
code OpenTwo = coded_of OPENS_TWO
code OpenThree = coded_of OPENS_THREE
code Pair = coded_of JOINS
code Ended = coded_of ENDS

-- two more elements, whose positions are in registers 4 and 5
abbrev pub two_more : FlowOf Part
two_more = Do Pair (Put (AddI 4 2) (Put (AddI 5 2) End))

-- two or three elements
abbrev pub few : FlowOf Part
few = If 3 (Do LoneThree End) (Do LoneTwo End) End

-- more than that: register 2 holds how many pairs come
abbrev pub many : FlowOf Part
many = If 3 (Do OpenThree (Put (AddI 4 2) (Put (AddI 5 2) End)))
    (Do OpenTwo (Put (AddI 4 1) (Put (AddI 5 1) End)))
    (Put (SubI 2 1) (Loop 2 (Last two_more) (Do Ended End)))

-- the elements go in pairs, and three stand first where they are odd in number
abbrev pub xor_red : FlowOf Part
xor_red = Put (SetN 1) (halve (Put (SetI 4 1) (Put (SetI 5 2)
    (If 2 (Put (SubI 2 1) (If 2 many few End)) (Do Alone End) End))))

-- the commands of a parity of n bits: 6 a pair, and 1; and how many of them are AP: one a pair where
-- they are two or more
abbrev pub parity_total : ℕ → ℕ
parity_total n = 6 * (n / 2) + 1

abbrev pub parity_aps : ℕ → ℕ
parity_aps n = if nat_lt n 4 then 0 else n / 2
