-- How many commands and instructions a loop program may take.
use Rattle.std.specs.Prelude.{ℕ, ◌+◌, ◌*◌, ◌==◌, ◌&&◌, Bool, true, false, not, if◌then◌else◌, List}
use Rattle.std.specs.Prelude.{length, sum_by, count_by, nat_lt}
use Rattle.mig_graph.specs.Literals.{is_complemented}
use Rattle.mig_graph.specs.Outputs.{lit_at}
use Rattle.row_alloc.specs.declared.body.BodyCmd.{BodyCmd}
use Rattle.row_alloc.specs.declared.body.BodyCmd.TheVariants.{Aap, Ap}
use Rattle.loop_ir.specs.declared.ir.Sub.{Sub}
use Rattle.loop_ir.specs.declared.ir.Sub.TheVariants.{Zero, Inner, InnerDown, Register}
use Rattle.loop_ir.specs.Plain.{Block, StepOf}
use Rattle.loop_ir.specs.Plain.StepOf.{Single, Along, Flowed}
use Rattle.loop_ir.specs.Flows.{flow_size, flow_bodies}
use Rattle.loop_ir.specs.FlowTests.{cleared}
use Rattle.loop_ir.specs.Loops.{RoundOf}
use Rattle.loop_ir.specs.States.{row_outs}

-- four commands for a node and three for an output
abbrev pub body_cost : Block → ℕ
body_cost b = 4 * length b.graph.nodes + 3 * length b.outs

-- the only output is a constant or an input that is not inverted
abbrev pub is_copy : Block → Bool
is_copy b = (length b.graph.nodes == 0) && ((length b.outs == 1)
    && not (is_complemented (lit_at b.outs 0)))

-- what one round takes: the commands that the body carries
abbrev pub turn_cost : Block → ℕ
turn_cost b = length b.found

-- the command copies a row, and counts as an AAP
abbrev pub is_aap : BodyCmd → Bool
is_aap (Aap x y) = true
is_aap (Ap x) = false

-- the command activates a triple alone, and counts as an AP
abbrev pub is_ap : BodyCmd → Bool
is_ap (Aap x y) = false
is_ap (Ap x) = true

-- how many AAP one round takes
abbrev pub turn_aaps : Block → ℕ
turn_aaps b = count_by is_aap b.found

-- how many AP one round takes
abbrev pub turn_aps : Block → ℕ
turn_aps b = count_by is_ap b.found

-- the body has no node and writes no row: it puts constants or what it reads into cells
abbrev pub is_start : Block → Bool
is_start b = (length b.graph.nodes == 0) && ((length (row_outs b.writes b.outs) == 0)
    && nat_lt 0 (length b.outs))

-- what a start may take: a constant comes into all its cells with one command, and what is read
-- takes one for each state
abbrev pub start_cost : Block → ℕ
start_cost b = if b.graph.inputs == 0 then 1 else length b.outs

-- what one round may take at most: one command for a copy, what a start may take, or else four for
-- a node and three for an output that is a row
abbrev pub plain_cost : Block → ℕ
plain_cost b = if is_copy b then 1 else (if is_start b then start_cost b
    else 4 * length b.graph.nodes + 3 * length (row_outs b.writes b.outs))

-- what all rounds take
abbrev pub rounds_cost : List (RoundOf Block) → ℕ
rounds_cost rs = sum_by (λ r. turn_cost r.part) rs

-- a number for each subscript, by which they are compared
abbrev pub sub_code : Sub → ℕ
sub_code Zero = 0
sub_code Inner = 1
sub_code InnerDown = 2
sub_code (Register r) = 3 + r

-- both are one subscript
abbrev pub same_sub : Sub → Sub → Bool
same_sub s t = sub_code s == sub_code t

-- how many instructions a step may take: 15 for a loop, and one for each register that gets 0
-- before a flow
abbrev pub step_cost : StepOf Block → ℕ
step_cost (Single b) = body_cost b
step_cost (Along b) = body_cost b + 15
step_cost (Flowed f) = length (cleared f) + flow_size body_cost f

-- how many instructions a loop program may take, its end aside
abbrev pub code_cost : List (StepOf Block) → ℕ
code_cost steps = sum_by step_cost steps

-- the number of bodies of a step
abbrev pub step_bodies : StepOf Block → ℕ
step_bodies (Single b) = 1
step_bodies (Along b) = 1
step_bodies (Flowed f) = flow_bodies f

-- the number of bodies of a loop program
abbrev pub bodies : List (StepOf Block) → ℕ
bodies steps = sum_by step_bodies steps
