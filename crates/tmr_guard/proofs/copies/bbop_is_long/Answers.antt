use Rattle.tmr_guard.proofs.Common.{◌≡◌, ◌∙◌, sym}
use Rattle.tmr_guard.proofs.Long.{either_long}
use Rattle.tmr_guard.proofs.copies.bbop_is_long.Goals as goal

pub returns-else-is_long_name : goal.returns-else-is_long_name
returns-else-is_long_name c = either_long c.any_is_long.result c.args.dst.now.name
    c.args.srcs.now c.any_is_long.ensures
    (sym c.is_long_name.ensures ∙ c.if-is_long_name.false)
