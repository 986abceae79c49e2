use Rattle.sim_machine.proofs.Common.{◌≡◌, false, sym, ◌∙◌, ◌++◌, option_to_list, rows_of}
use Rattle.sim_machine.proofs.Common.{is_misfit}
use Rattle.sim_machine.proofs.Found.{misfit-none}
use Rattle.sim_machine.proofs.refusal.bad_width.Goals as goal

pub returns-in-None : goal.returns-in-None
returns-in-None c =
    let pairs = c.args.table.now.pairs in
    let wide : is_misfit c.args.n (c.args.head.now.result, rows_of pairs c.args.dst.now)
    ≡ false = rw (← c.rows_of.ensures) (sym c.is_misfit.ensures ∙ c.if-is_misfit.false) in
    misfit-none c.args.n (option_to_list c.args.head.now.second ++ c.args.head.now.sources.items)
    c.as_slice.result.now (rows_of pairs) c.args.srcs.now _ wide (c.as_slice.ensures.value
    ∙ c.other_kinds-kinds.ensures) c.in-None.ensures.value
