use Rattle.guard_job.proofs.Common.{ℕ, List, refl, Err, ChipView, Instruction, view_of, Done}
use Rattle.guard_job.proofs.Common.{ChipUse, doing, is_refused, Machine, geometry_of, is_print}
use Rattle.guard_job.proofs.Common.{operations_by, table_in, Flip, due, mended, machine_in, ap, ◌∙◌}
use Rattle.guard_job.proofs.Common.{after, and_reading, events_by, line_steps}
use Rattle.machine_model.specs.Report.{line}
use Rattle.guard_model.specs.Guarded.{guarded_said_by}
use Rattle.guard_job.specs.declared.scripts.One.{One}
use Rattle.guard_job.specs.Events.{mend_events}
use Rattle.guard_job.specs.Steps.{end_by}
use Rattle.guard_job.proofs.Doing.{Stepped, byte_is, done_by, holds_of, untold}
use Rattle.guard_job.proofs.Sending.{and_then, left_by, line_done, line_failed, unused}
use Rattle.tmr_guard.specs.Steps.{banks_read_by}
use Rattle.guard_job.proofs.Left.{mend_left}
use Rattle.guard_job.proofs.scripts.do_one.Goals as goal

-- what the chip is used for by the instruction itself
abbrev own_use : Machine → ℕ → List Flip → Instruction → ChipView → ChipUse
own_use m k flips i old = and_reading (banks_read_by m i)
    (doing (mended (geometry_of m) flips k (table_in m) old.banks) (events_by m i))

pub returns-in-Ok-step-clause-done : goal.returns-in-Ok-step-clause-done
returns-in-Ok-step-clause-done g c =
    let m = machine_in c.args.guard.now in
    let n = machine_in c.step.new.self in
    let V = g.D.Dram.view in
    let i = view_of c.args.instr.now in
    let s = c.in-Ok-step.ensures in
    let step : Stepped m i n (V c.mend.new.chip) (V c.step.new.dram) c.in-Ok-step.reply = record {
      tables = rw c.mend.ensures.same at s.table;
      turns = rw c.mend.ensures.same at s.turn;
      did = rw c.mend.ensures.same at s.did;
      answer = rw c.mend.ensures.same at s.reply;
    } in
    done_by m n (due c.args.k c.args.flips.now) i (V c.args.chip.now) (V c.mend.new.chip)
    (V c.step.new.dram) c.in-Ok.mended.votes c.from.result c.in-Ok-step.reply
    (holds_of m c.in-Ok.ensures.laid) c.in-Ok.ensures.done step c.in-Ok.ensures.votes
    (byte_is c.from.result c.is_refused.result (is_refused c.in-Ok-step.reply) c.from.ensures
    c.is_refused.ensures)

pub returns-in-Ok-step-clause-goes : goal.returns-in-Ok-step-clause-goes
returns-in-Ok-step-clause-goes g c files =
    let m = machine_in c.args.guard.now in
    let V = g.D.Dram.view in
    let W = g.S.Sink.view in
    let i = view_of c.args.instr.now in
    let k = c.args.k in
    let s = c.in-Ok-step.ensures in
    let said = rw (c.mend.ensures.same, c.in-Ok.ensures.done.banks) at s.sent in
    let bytes = line k (guarded_said_by (geometry_of m) (operations_by m) (table_in m)
    (mended (geometry_of m) c.args.flips.now k (table_in m) (V c.args.chip.now).banks) i) in
    let now = due k c.args.flips.now in
    let old = V c.args.chip.now in
    let on = own_use m k c.args.flips.now i old in
    and_then (doing old.banks (mend_events (geometry_of m) now (table_in m) old.banks))
    (line_steps on (is_print i) bytes) Done files (W c.args.out.now) (W c.step.new.out)
    old (V c.mend.new.chip) (V c.step.new.dram) c.in-Ok.ensures.done.faults
    (mend_left (geometry_of m) now (table_in m) old.banks _ c.in-Ok.ensures.done.banks)
    (line_done on (is_print i) bytes files (W c.args.out.now) (W c.step.new.out)
    (V c.mend.new.chip) (V c.step.new.dram) said s.unfailed s.did.faults
    ((rw c.mend.ensures.same at s.did).banks ∙ ap (after (events_by m i))
    c.in-Ok.ensures.done.banks))

pub returns-in-Err-step-clause-goes : goal.returns-in-Err-step-clause-goes
returns-in-Err-step-clause-goes g c files =
    let m = machine_in c.args.guard.now in
    let V = g.D.Dram.view in
    let W = g.S.Sink.view in
    let i = view_of c.args.instr.now in
    let k = c.args.k in
    let s = c.in-Err-step.ensures in
    let part = rw (c.mend.ensures.same, c.in-Ok.ensures.done.banks) at s.part in
    let bytes = line k (guarded_said_by (geometry_of m) (operations_by m) (table_in m)
    (mended (geometry_of m) c.args.flips.now k (table_in m) (V c.args.chip.now).banks) i) in
    let now = due k c.args.flips.now in
    let old = V c.args.chip.now in
    let on = own_use m k c.args.flips.now i old in
    and_then (doing old.banks (mend_events (geometry_of m) now (table_in m) old.banks))
    (line_steps on (is_print i) bytes) (end_by {X = One} (Err c.in-Err-step.fault)) files
    (W c.args.out.now) (W c.step.new.out) old (V c.mend.new.chip)
    (V c.step.new.dram) c.in-Ok.ensures.done.faults
    (mend_left (geometry_of m) now (table_in m) old.banks _ c.in-Ok.ensures.done.banks)
    (line_failed One on c.in-Err-step.fault (is_print i) bytes files (W c.args.out.now)
    (W c.step.new.out) (V c.mend.new.chip) (V c.step.new.dram) (record {
      sink = s.sink_faults;
      chip = s.kept.faults;
      chip_rose = λ e. s.chip_fault (rw e refl);
      unfailed = λ e. untold m i _ (V c.mend.new.chip) (V c.step.new.dram)
          c.in-Ok.ensures.done.banks (rw c.mend.ensures.same at (s.done (rw e refl)))
          (rw c.mend.ensures.same at (s.read (rw e refl)));
      left = λ e. left_by (banks_read_by m i) (events_by m i) _ (V c.mend.new.chip).banks
          (V c.step.new.dram).banks c.in-Ok.ensures.done.banks
          (rw c.mend.ensures.same at (s.left (rw e refl)));
      unsent = λ e other. s.unsent (rw e refl) other;
      sink_rose = λ e. s.write_fault (rw e refl);
      part = part;
    }))

pub returns-in-Err-clause-goes : goal.returns-in-Err-clause-goes
returns-in-Err-clause-goes g c files =
    let m = machine_in c.args.guard.now in
    let V = g.D.Dram.view in
    let W = g.S.Sink.view in
    let i = view_of c.args.instr.now in
    let k = c.args.k in
    let old = V c.args.chip.now in
    let events = mend_events (geometry_of m) (due k c.args.flips.now) (table_in m) old.banks in
    unused (doing old.banks events) (line_steps (own_use m k c.args.flips.now i old) (is_print i) _)
    files (W c.args.out.now) old (V c.mend.new.chip) c.mend.ensures.kept.faults
    c.in-Err.ensures.failed
    (left_by 0 events old.banks old.banks (V c.mend.new.chip).banks refl c.in-Err.ensures.left)
