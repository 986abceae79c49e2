use Rattle.sim_machine.proofs.Common.{arith, ◌∙◌, ◌<◌, common_steps, Kept-more, Rose, StoppedWithin}
use Rattle.sim_machine.proofs.Common.{on_err, refl}
use Rattle.transpose_unit.proofs.Stopping.{stopped_turn, next_in}
use Rattle.sim_machine.specs.Opening.{all_writes, bank_writes}
use Rattle.sim_machine.proofs.Rows.{next_bank}
use Rattle.sim_machine.proofs.opening.write_rows.Goals as goal

pub loop-bank-preserved : goal.loop-bank-preserved
loop-bank-preserved g c = record {
  borrow = c.in_ok-write_bank.ensures.borrow ∙ c.loop-bank.invariant.borrow;
  kept = Kept-more _ _ _ c.loop-bank.invariant.kept c.in_ok-write_bank.ensures.kept;
  stage = c.in_ok-write_bank.ensures.stage ∙ c.loop-bank.invariant.stage;
  writes = grind (arith, common_steps);
  did = next_bank (bank_writes c.args.g c.args.rows.now) c.loop-bank.bank _ _ _
      c.loop-bank.invariant.did c.in_ok-write_bank.ensures.did;
}

pub returns-in_err-write_bank-clause-rose : goal.returns-in_err-write_bank-clause-rose
returns-in_err-write_bank-clause-rose g c =
    let first = g.D.Dram.view c.args.dram.now in
    let new = g.D.Dram.view c.write_bank.new.dram in
    let failed = c.in_err-write_bank.ensures.failed in
    let all : Rose first.faults new.faults =
    omega (arith, c.loop-bank.invariant.kept.faults, failed.rose) in
    on_err c.from_residual.result all

pub returns-in_err-write_bank-clause-stopped : goal.returns-in_err-write_bank-clause-stopped
returns-in_err-write_bank-clause-stopped g c =
    let first = g.D.Dram.view c.args.dram.now in
    let now = g.D.Dram.view c.loop-bank.dram in
    let new = g.D.Dram.view c.write_bank.new.dram in
    let inside : c.loop-bank.bank < c.args.g.banks = omega arith in
    let all : StoppedWithin 0 (all_writes c.args.g c.args.rows.now) first.banks new.banks =
    stopped_turn (bank_writes c.args.g c.args.rows.now) c.args.g.banks c.loop-bank.bank
    c.loop-bank.bank inside first.banks now.banks new.banks
    (next_in _ c.args.g.rows c.loop-bank.bank c.in_err-write_bank.ensures.some refl)
    c.loop-bank.invariant.did.banks c.in_err-write_bank.ensures.failed.others in
    on_err c.from_residual.result all
