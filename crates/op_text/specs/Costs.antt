-- How many commands a word operation may take.
use Rattle.std.specs.Prelude.{ℕ, ◌+◌, ◌*◌, ◌^◌}
use Rattle.op_text.specs.declared.word_ops.WordOp.{WordOp}
use Rattle.op_text.specs.declared.word_ops.WordOp.TheVariants as o

-- the greatest number of commands that a compiler may give it on arguments of n bits
abbrev pub op_ceiling : WordOp → ℕ → ℕ
op_ceiling o.Not n = 2 * n
op_ceiling o.And n = 4 * n
op_ceiling o.Or n = 4 * n
op_ceiling o.Xor n = 7 * n
op_ceiling o.Copy n = 3 * n
op_ceiling o.Zero n = 3 * n
op_ceiling o.Ones n = 3 * n
op_ceiling o.Shl1 n = 6 * n + 1
op_ceiling o.Shr1 n = 6 * n + 1
op_ceiling o.Add n = 9 * n + 1
op_ceiling o.Sub n = 18 * n + 1
op_ceiling o.Mul n = 11 * n ^ 2 + 15 * n
op_ceiling o.Div n = 29 * n ^ 2 + 18 * n
op_ceiling o.Rem n = 29 * n ^ 2 + 18 * n
op_ceiling o.Abs n = 34 * n + 1
op_ceiling o.Relu n = 7 * n
op_ceiling o.Min n = 22 * n + 1
op_ceiling o.Max n = 22 * n + 1
op_ceiling o.Eq n = 19 * n + 1
op_ceiling o.Gt n = 7 * n + 1
op_ceiling o.Ge n = 7 * n + 1
op_ceiling o.IfElse n = 15 * n
op_ceiling o.Bitcount n = 22 * n ^ 2 + 4 * n
op_ceiling o.AndRed n = 7 * n + 1
op_ceiling o.OrRed n = 7 * n + 1
op_ceiling o.XorRed n = 15 * n + 1
op_ceiling o.Divmod n = 29 * n ^ 2 + 24 * n
