-- How many commands the compiler gives a word operation.
use Rattle.std.specs.Prelude.{ℕ, ◌+◌, ◌-◌, ◌*◌}
use Rattle.op_text.specs.declared.word_ops.WordOp.{WordOp}
use Rattle.op_text.specs.declared.word_ops.WordOp.TheVariants as o
use Rattle.word_flow.specs.Programs.{flow_total, flow_aps}

-- how many AAP an operation takes on arguments of n bits: one that is a flow takes all of its
-- commands but the AP
abbrev pub op_aaps : WordOp → ℕ → ℕ
op_aaps o.Not n = 2 * n
op_aaps o.And n = 4 * n
op_aaps o.Or n = 4 * n
op_aaps o.Xor n = 5 * n
op_aaps o.Copy n = n
op_aaps o.Zero n = n
op_aaps o.Ones n = n
op_aaps o.Shl1 n = n
op_aaps o.Shr1 n = n
op_aaps o.Add n = 8 * n + 1
op_aaps o.Sub n = 5 * n + 1
op_aaps o.Min n = 10 * n + 1
op_aaps o.Max n = 10 * n + 1
op_aaps o.Eq n = 2 * n + 3
op_aaps o.Gt n = 3 * n + 1
op_aaps o.Ge n = 3 * n + 1
op_aaps o.IfElse n = 7 * n
op_aaps p n = flow_total p n - flow_aps p n

-- how many AP
abbrev pub op_aps : WordOp → ℕ → ℕ
op_aps o.Xor n = 2 * n
op_aps o.Add n = n
op_aps o.Sub n = n
op_aps o.Eq n = 2 * n
op_aps p n = flow_aps p n
