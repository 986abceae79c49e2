-- `and_red` and `or_red` as flows: their bodies, and how they follow one another.
use Rattle.word_flow.proofs.Common.{◌==◌, if◌then◌else◌, majority, SetI, SetT, AddI, SubI, FlowOf}
use Rattle.word_flow.proofs.Common.{End, Do, Put, If, Loop, Last, Turn, Marked, coded_of}
use Rattle.std.specs.Prelude.{ℕ, zero, suc, ◌*◌, Bool, true, false, not}
use Rattle.word_flow.specs.declared.reduction.TheConstants.{COPIES, BEGINS, JOINS_LEFT, JOINS_RIGHT}
use Rattle.word_flow.specs.declared.reduction.TheConstants.{ENDS_AND, ENDS_OR}

-- The bodies: the only element; the first two; one that joins the left, and one that joins the right;
-- and what both give
pub data Part : Type 0 where
  Alone : Part
  Begun : Part
  Left : Part
  Right : Part
  Ended : Part

-- what each reads, computes and writes, and its commands, as the table has them
abbrev pub code : Bool → Part → Marked
code c Alone = coded_of COPIES
code c Begun = coded_of BEGINS
code c Left = coded_of JOINS_LEFT
code c Right = coded_of JOINS_RIGHT
code true Ended = coded_of ENDS_OR
code false Ended = coded_of ENDS_AND

abbrev pub left : FlowOf Part
left = Do Left (Put (AddI 1 1) End)

abbrev pub right : FlowOf Part
right = Do Right (Put (AddI 1 1) End)

-- register 1 is the position of the next element
abbrev pub reduction : FlowOf Part
reduction = Put (SetT 0) (If 0 (Put (SetI 1 1) (Do Begun (Put (SubI 0 1) (Put (SetI 1 2)
    (Loop 0 (Turn left (Last right)) (Do Ended End)))))) (Do Alone End) End)

-- what so many elements give: the and of all, or the or
abbrev pub joined : Bool → (ℕ → Bool) → ℕ → Bool
joined c f zero = not c
joined c f (suc zero) = f 0
joined c f (suc (suc k)) = majority c (f (suc k)) (joined c f (suc k))

-- the commands of a reduction of n bits
abbrev pub reduction_total : ℕ → ℕ
reduction_total n = if n == 1 then 1 else 2 * n
