use Rattle.guard_job.proofs.Common.{arith, ◌+◌, ◌∙◌, sym, ap, get_or, length, drop, List, Flip}
use Rattle.guard_job.proofs.Common.{all_flipped, due, on_err_always}
use Rattle.std.proofs.Common.{rules}
use Rattle.guard_job.proofs.Due.{cells_after, log_goes_on, no_more_log, not_due}
use Rattle.guard_job.proofs.Due.{one_due, sorted_after}
use Rattle.guard_job.proofs.Left.{flip_failed, flip_first}
use Rattle.guard_job.specs.Parts.{IsCell}
use Rattle.guard_job.proofs.flipping.flip_due.Goals as goal

pub returns-else-flips-done-clause-count : goal.returns-else-flips-done-clause-count
returns-else-flips-done-clause-count g c =
    let none = not_due c.args.k c.args.flips.now c.flips.done _ (omega arith)
    c.if-flips-done.false c.flips.invariant.sorted in
    let few = ap (λ (l : List Flip). length l) none in
    omega (arith, few, c.flips.invariant.count)

pub returns-else-flips-done-clause-banks : goal.returns-else-flips-done-clause-banks
returns-else-flips-done-clause-banks g c =
    let none = not_due c.args.k c.args.flips.now c.flips.done _ (omega arith)
    c.if-flips-done.false c.flips.invariant.sorted in
    sym (ap (λ (l : List Flip). all_flipped l (g.D.Dram.view c.flips.chip).banks) none)
    ∙ c.flips.invariant.banks

pub returns-else-flips-done-clause-log : goal.returns-else-flips-done-clause-log
returns-else-flips-done-clause-log g c =
    let none = not_due c.args.k c.args.flips.now c.flips.done _ (omega arith)
    c.if-flips-done.false c.flips.invariant.sorted in
    let now = g.D.Dram.view c.flips.chip in
    c.flips.invariant.log now (no_more_log (due c.args.k (drop c.flips.done c.args.flips.now)) now
    none)

pub flips-preserved : goal.flips-preserved
flips-preserved g c =
    let flips = c.args.flips.now in
    let any : Flip = record { before = 0; bank = 0; row = 0; column = 0 } in
    let left = one_due c.args.k flips c.flips.done _ c.flips-test.true c.if-flips-done.true in
    record {
      within = search rules;
      stage = search rules;
      borrow = search rules;
      kept = search rules;
      faults = search rules;
      counters = search rules;
      count = search rules;
      banks = search rules;
      log = log_goes_on _ (due c.args.k (drop (c.flips.done + 1) flips)) _ _
          (g.D.Dram.view c.args.chip.now) (g.D.Dram.view c.flips.chip)
          (g.D.Dram.view c.do_flip.new.dram) left c.in_ok-do_flip.ensures.banks
          c.in_ok-do_flip.ensures.log c.flips.invariant.log;
      stops = λ last s. flip_failed (get_or flips c.flips.done any)
          (due c.args.k (drop (c.flips.done + 1) flips)) _
          (g.D.Dram.view c.args.chip.now).banks (g.D.Dram.view c.flips.chip).banks
          (g.D.Dram.view c.do_flip.new.dram).banks last _ left c.in_ok-do_flip.ensures.banks
          (c.flips.invariant.stops last) s;
      sorted = sorted_after c.args.k flips c.flips.done _ c.flips-test.true c.if-flips-done.true
          c.flips.invariant.sorted;
      cells = cells_after (IsCell (g.D.Dram.view c.args.chip.now).geometry) flips c.flips.done any
          c.flips-test.true c.flips.invariant.cells;
    }

pub returns-in_err-do_flip-clause-left : goal.returns-in_err-do_flip-clause-left
returns-in_err-do_flip-clause-left g c =
    let flips = c.args.flips.now in
    let any : Flip = record { before = 0; bank = 0; row = 0; column = 0 } in
    on_err_always _ (c.flips.invariant.stops _ (flip_first (get_or flips c.flips.done any) _ _
    (g.D.Dram.view c.flips.chip).banks (g.D.Dram.view c.do_flip.new.dram).banks
    (one_due c.args.k flips c.flips.done _ c.flips-test.true c.if-flips-done.true)
    c.in_err-do_flip.ensures.others))
