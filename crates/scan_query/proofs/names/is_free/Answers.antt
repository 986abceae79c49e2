use Rattle.scan_query.proofs.Common.{◌∙◌, ap, sym, is_none}
use Rattle.scan_query.proofs.Naming.{free_is}
use Rattle.scan_query.proofs.names.is_free.Goals as goal

pub returns-in-Some : goal.returns-in-Some
returns-in-Some c = ap is_none (sym c.in-Some.is ∙ c.look_up.ensures)
    ∙ free_is c.args.table.now.pairs c.args.name.now

pub returns-in-None : goal.returns-in-None
returns-in-None c = ap is_none (sym c.in-None.is ∙ c.look_up.ensures)
    ∙ free_is c.args.table.now.pairs c.args.name.now
