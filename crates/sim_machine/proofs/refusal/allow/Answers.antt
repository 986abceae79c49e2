use Rattle.sim_machine.proofs.Common.{◌≡◌, ◌==◌, ◌∷◌, ◌++◌, true, length, sym, ◌∙◌, None, results}
use Rattle.sim_machine.proofs.Common.{Shape, program_of, routine_of, first, operand_conditions}
use Rattle.std.proofs.Common.{rules}
use Rattle.sim_machine.proofs.Found.{refused_last}
use Rattle.sim_machine.proofs.refusal.allow.Goals as goal

pub returns-clause-refused : goal.returns-clause-refused
returns-clause-refused c =
    let b = c.args.bbop.now in
    let table = c.args.table.now in
    let shape : Shape = (program_of c.args.entry.now).shape in
    let fit : (length (b.dst.now ∷ b.srcs.now) == length (results shape ++ shape.sources)) ≡ true =
    search rules in
    let none : first (operand_conditions table.pairs shape (b.dst.now ∷ b.srcs.now) b.count b.n)
    ≡ None = rw (← c.head-head.ensures.shape) (sym c.operands_refusal.ensures ∙ c.in_default.is) in
    refused_last table.limit table.pairs (routine_of (program_of c.args.entry.now))
    (b.dst.now ∷ b.srcs.now) b.count b.n c.granted.result fit none c.granted.ensures.refused
