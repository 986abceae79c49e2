-- The word operations whose loop programs are flows, and the commands of these.
use Rattle.std.specs.Prelude.{ℕ, zero, suc, ◌+◌, ◌-◌, ◌*◌, ◌/◌, ◌%◌, ◌==◌, nat_lt, Bool, true}
use Rattle.std.specs.Prelude.{false, if◌then◌else◌, List, [], sum_by}
use Rattle.op_text.specs.declared.word_ops.WordOp.{WordOp}
use Rattle.op_text.specs.declared.word_ops.WordOp.TheVariants as o
use Rattle.op_text.specs.Language.{Statement, Compute, Visit}
use Rattle.op_text.specs.Values.{ones_of}
use Rattle.loop_ir.specs.Costs.{turn_aps}
use Rattle.loop_ir.specs.Flows.{FlowOf}
use Rattle.loop_ir.specs.Loops.{RoundOf}
use Rattle.loop_ir.specs.Plain.{Block}
use Rattle.loop_laws.specs.Rooms.{Marked}
use Rattle.word_flow.specs.declared.mul.TheConstants.{MUL}
use Rattle.word_flow.specs.declared.division.TheConstants.{DIV, REM, DIVMOD}
use Rattle.word_flow.specs.declared.abs.TheConstants.{ABS}
use Rattle.word_flow.specs.declared.bitcount.TheConstants.{BITCOUNT}
use Rattle.word_flow.specs.declared.reduction.TheConstants.{AND_RED, OR_RED}
use Rattle.word_flow.specs.declared.parity.TheConstants.{XOR_RED}
use Rattle.word_flow.specs.declared.relu.TheConstants.{RELU}
use Rattle.word_flow.specs.declared.shift.TheConstants.{SHL1, SHR1}
use Rattle.word_flow.specs.declared.shapes.Line.{Line}
use Rattle.word_flow.specs.Plans.{plan_of}

-- the operations that are flows
abbrev pub is_flow : WordOp → Bool
is_flow o.Shl1 = true
is_flow o.Shr1 = true
is_flow o.Mul = true
is_flow o.Div = true
is_flow o.Rem = true
is_flow o.Abs = true
is_flow o.Relu = true
is_flow o.Bitcount = true
is_flow o.AndRed = true
is_flow o.OrRed = true
is_flow o.XorRed = true
is_flow o.Divmod = true
is_flow p = false

-- the statement is one of these
abbrev pub is_flow_statement : Statement → Bool
is_flow_statement (Compute target second p args) = is_flow p
is_flow_statement (Visit block) = false

-- the lines of an operation's flow
abbrev pub lines_for : WordOp → List Line
lines_for o.Shl1 = SHL1
lines_for o.Shr1 = SHR1
lines_for o.Mul = MUL
lines_for o.Div = DIV
lines_for o.Rem = REM
lines_for o.Abs = ABS
lines_for o.Relu = RELU
lines_for o.Bitcount = BITCOUNT
lines_for o.AndRed = AND_RED
lines_for o.OrRed = OR_RED
lines_for o.XorRed = XOR_RED
lines_for o.Divmod = DIVMOD
lines_for p = []

-- the flow of an operation
abbrev pub flow_for : WordOp → FlowOf Marked
flow_for p = plan_of (lines_for p)

-- how many digits the binary form of a number has, of so many at most
abbrev pub digits : ℕ → ℕ → ℕ
digits zero e = 0
digits (suc k) e = if e == 0 then 0 else 1 + digits k (e / 2)

-- the commands of an operation's flow at width n
abbrev pub flow_total : WordOp → ℕ → ℕ
flow_total o.Shl1 n = n
flow_total o.Shr1 n = n
flow_total o.Mul n = 9 * (n * (n - 1) / 2) + 5 * n + n % 2 - 2
flow_total o.Div n = if n == 1 then 4 else 6 * (n * n) + 3 * n - 6
flow_total o.Rem n = if n == 1 then 13 else 6 * (n * n) + 12 * n - 6
flow_total o.Abs n = if n == 1 then 1 else 8 * n - 8
flow_total o.Relu n = if n == 1 then 1 else 3 * n
flow_total o.Bitcount n = if n == 1 then 1 else 7 * n + digits n n - 2 - 6 * ones_of n n
flow_total o.AndRed n = if n == 1 then 1 else 2 * n
flow_total o.OrRed n = if n == 1 then 1 else 2 * n
flow_total o.XorRed n = 6 * (n / 2) + 1
flow_total o.Divmod n = if n == 1 then 13 else 6 * (n * n) + 12 * n - 6
flow_total p n = 0

-- those of them that are AP
abbrev pub flow_aps : WordOp → ℕ → ℕ
flow_aps o.Mul n = (n - 1) * n / 2
flow_aps o.Div n = (n - 1) * n / 2
flow_aps o.Rem n = n * (n + 1) / 2
flow_aps o.Abs n = if nat_lt 2 n then 1 else 0
flow_aps o.XorRed n = if nat_lt n 4 then 0 else n / 2
flow_aps o.Divmod n = n * (n + 1) / 2
flow_aps p n = 0

-- the commands of such a statement at width n
abbrev pub statement_total : Statement → ℕ → ℕ
statement_total (Compute target second p args) n = flow_total p n
statement_total (Visit block) n = 0

-- those of them that are AP
abbrev pub statement_aps : Statement → ℕ → ℕ
statement_aps (Compute target second p args) n = flow_aps p n
statement_aps (Visit block) n = 0

-- how many AP all rounds take
abbrev pub rounds_aps : List (RoundOf Block) → ℕ
rounds_aps rs = sum_by (λ r. turn_aps r.part) rs
