use Rattle.sim_machine.proofs.Common.{arith, ◌∙◌, ap, refl, common_steps, Kept-more, Banks, Write}
use Rattle.sim_machine.proofs.Common.{FailedIn, rows_in, on_err, ◌<◌}
use Rattle.transpose_unit.proofs.Stopping.{others_stay}
use Rattle.sim_machine.proofs.Rows.{next_row}
use Rattle.sim_machine.proofs.opening.write_bank.Goals as goal

pub loop-row-preserved : goal.loop-row-preserved
loop-row-preserved g c =
    let here = rw c.row_bytes.ensures.value at c.in_ok-write_row.ensures.did in
    record {
      borrow = c.in_ok-write_row.ensures.borrow ∙ c.loop-row.invariant.borrow;
      kept = Kept-more _ _ _ c.loop-row.invariant.kept c.in_ok-write_row.ensures.kept;
      stage = c.in_ok-write_row.ensures.stage ∙ c.loop-row.invariant.stage;
      writes = grind (arith, common_steps);
      did = next_row (λ row. Write c.args.bank row
          (rows_in c.args.g c.args.rows.now c.args.bank row)) c.loop-row.row _ _ _
          c.loop-row.invariant.did here;
    }

pub returns-in_err-write_row-clause-failed : goal.returns-in_err-write_row-clause-failed
returns-in_err-write_row-clause-failed g c =
    let first = g.D.Dram.view c.args.dram.now in
    let new = g.D.Dram.view c.write_row.new.dram in
    let failed = c.in_err-write_row.ensures.failed in
    let all : FailedIn c.args.bank first new = record {
      rose = omega (arith, c.loop-row.invariant.kept.faults, failed.rose);
      others = λ b ne. failed.others b ne
          ∙ ap (λ (banks : Banks). banks b) c.loop-row.invariant.did.banks
          ∙ others_stay (λ row. Write c.args.bank row
          (rows_in c.args.g c.args.rows.now c.args.bank row)) c.args.bank (λ k. refl) 0
          c.loop-row.row first.banks b ne;
    } in
    on_err c.from_residual.result all

pub returns-in_err-write_row-clause-some : goal.returns-in_err-write_row-clause-some
returns-in_err-write_row-clause-some g c =
    let some : 0 < c.args.g.rows = omega arith in
    on_err c.from_residual.result some
