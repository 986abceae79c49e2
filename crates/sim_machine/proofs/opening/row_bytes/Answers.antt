use Rattle.sim_machine.proofs.Common.{length, arith}
use Rattle.sim_machine.proofs.Rows.{row_fits}
use Rattle.sim_machine.proofs.opening.row_bytes.Goals as goal

pub split_at-requires : goal.split_at-requires
split_at-requires c =
    let fits = row_fits c.args.g.banks c.args.g.rows c.args.g.words c.args.bank c.args.row
    (length c.args.rows.now) c.requires.bank c.requires.row c.requires.bytes in
    omega (arith, fits)
