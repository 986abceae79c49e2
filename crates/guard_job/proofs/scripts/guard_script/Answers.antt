use Rattle.guard_job.proofs.Common.{◌≡◌, ℕ, ◌+◌, ◌≤◌, [], ◌∷◌, arith, length, sym, ◌∙◌, ap, subst}
use Rattle.guard_job.proofs.Common.{map, drop, List, false, refl, Err, Instr, count_by, Geometry}
use Rattle.guard_job.proofs.Common.{Grew, StoppedWithin, Instruction, view_of, IsPlain, is_refused}
use Rattle.guard_job.proofs.Common.{world, doing, ChipFailed, Done, Goes, Stopped, geometry_of}
use Rattle.guard_job.proofs.Common.{operations_by, table_in, turn_in, Flip, due, IsFlip}
use Rattle.guard_job.proofs.Common.{has_long_name, guarded_replies, guarded_rows_at_end}
use Rattle.guard_job.proofs.Common.{guarded_table_at_end, guarded_tally, votes_at_end, machine_in}
use Rattle.std.proofs.lemmas.Result.{err_from_is_err_and}
use Rattle.std.proofs.lemmas.List.{drop_all, length-drop}
use Rattle.dram_model.proofs.EventLaws.{Kept-more}
use Rattle.sim_machine.specs.Machine.{program_of}
use Rattle.sim_machine.proofs.Keeping.{goes_more}
use Rattle.guard_job.specs.Events.{mend_events, run_events}
use Rattle.guard_job.specs.Steps.{end_by, guarded_steps}
use Rattle.guard_job.specs.declared.scripts.One.{One}
use Rattle.guard_job.proofs.Ending.{all_here, cells_on, flips_after, left_is, mended_moved}
use Rattle.guard_job.proofs.Ending.{next_flips, others_of}
use Rattle.guard_job.proofs.Ending.{rises_more, stops_here, tally_last}
use Rattle.guard_job.proofs.Walking.{banks_go, goes_goes, line_moved, log_goes, moved, refused_goes}
use Rattle.guard_job.proofs.Left.{mend_left}
use Rattle.guard_job.proofs.Sending.{and_then, left_by, unused}
use Rattle.guard_job.proofs.Walking.{table_goes, tally_goes, votes_go}
use Rattle.guard_job.proofs.scripts.guard_script.Goals as goal

pub instrs-preserved : goal.instrs-preserved
instrs-preserved g c =
    let V = g.D.Dram.view in
    let W = g.S.Sink.view in
    let script = c.args.script.now in
    let flips = c.args.flips.now in
    let done = c.instrs.done in
    let k = done + 1 in
    let at = c.instrs.flipped in
    let one = c.in_ok-one.one in
    let inv = c.instrs.invariant in
    let first = machine_in c.args.guard.now in
    let before = machine_in c.instrs.guard in
    let after = machine_in c.do_one.new.guard in
    let shape = geometry_of first in
    let p = program_of first in
    let o = operations_by first in
    let left = drop at flips in
    let rest = map view_of (drop done script) in
    let others = map view_of (drop (done + 1) script) in
    let i = view_of c.index-script-done.result in
    let is : rest ≡ i ∷ others = left_is script done c.index-script-done.result (omega arith)
    ∙ ap (λ (x : Instr). view_of x ∷ others) (sym c.index-script-done.is) in
    let a = V c.instrs.chip in
    let b = V c.do_one.new.chip in
    let start = V c.args.chip.now in
    let table = table_in before in
    let count : one.flips ≡ length (due k left) =
    rw c.split_at.ensures.back at c.in_ok-one.ensures.flips in
    let within : one.flips ≤ length left =
    rw c.split_at.ensures.back at c.in_ok-one.ensures.within in
    let size = length-drop at flips in
    let same : due k left ≡ due k flips = inv.later k (omega arith) in
    let known = rw c.split_at.ensures.back at c.in_ok-one.ensures.done in
    let d = moved (geometry_of before) shape (program_of before) p (due k left) (due k flips) i
    (turn_in before) (turn_in after) table (table_in after) a b one.votes one.refused
    (ap geometry_of inv.goes_on)
    (ap program_of inv.goes_on) same known in
    let next = next_flips k one.flips at flips inv.sorted count in
    let due_size = ap (λ (l : List Flip). length l) same in
    let following = length-drop (at + one.flips) flips in
    record {
      within = omega arith;
      flipped = omega (arith, within, size, inv.flipped);
      stage = c.do_one.ensures.stage ∙ inv.stage;
      goes_on = goes_more first before after inv.goes_on c.do_one.ensures.goes_on;
      triples = c.in_ok-one.ensures.triples;
      borrow = c.do_one.ensures.borrow ∙ inv.borrow;
      kept = Kept-more start a b inv.kept c.do_one.ensures.kept;
      rises = rises_more _ _ _ start.counters a.counters b.counters inv.rises
          c.in_ok-one.ensures.rises (omega arith);
      few_votes = omega (arith, inv.few_votes, c.in_ok-one.ensures.few_votes);
      few_refused = omega (arith, inv.few_refused, c.in_ok-one.ensures.few_refused);
      plain = others_of IsPlain i rest others is inv.plain;
      short = others_of (λ instr. has_long_name instr ≡ false) i rest others is inv.short;
      cells = flips_after (IsFlip shape (length script)) one.flips at flips inv.cells;
      sorted = next.0;
      later = λ j l. next.1 j l ∙ inv.later j (omega (arith, l));
      table_end = table_goes shape o flips k i others (turn_in before) (turn_in after) table
          (table_in after) a b one.votes one.refused d
          ∙ ap (guarded_table_at_end shape o table) (sym is) ∙ inv.table_end;
      banks_end = banks_go shape o flips k i others (turn_in before) (turn_in after) table
          (table_in after) a b one.votes one.refused d
          ∙ ap (guarded_rows_at_end shape o flips k table a.banks) (sym is) ∙ inv.banks_end;
      tally_end = tally_goes shape o flips k i others (turn_in before) (turn_in after) table
          (table_in after) a b one.votes one.refused d left (drop (at + one.flips) flips)
          (omega (arith, count, due_size, size, following, within, inv.flipped))
          ∙ ap (λ (s : List Instruction). guarded_tally shape o table s left a.counters) (sym is)
          ∙ inv.tally_end;
      log = λ new more. inv.log new (subst (λ (s : List Instruction). Grew a.log new.log
          (run_events shape o flips k (turn_in before) table a.banks s)) (sym is)
          (log_goes shape o flips k i others (turn_in before) (turn_in after) table
          (table_in after) a b one.votes one.refused d new more));
      votes_end = sym (votes_go shape o flips k i others (turn_in before) (turn_in after) table
          (table_in after) a b one.votes one.refused d c.instrs.votes)
          ∙ ap (λ (s : List Instruction). c.instrs.votes + votes_at_end shape o table s) (sym is)
          ∙ inv.votes_end;
      refused_end = sym (refused_goes shape o flips k i others (turn_in before) (turn_in after)
          table (table_in after) a b one.votes one.refused d c.instrs.refused)
          ∙ ap (λ (s : List Instruction). c.instrs.refused
          + count_by is_refused (guarded_replies shape o table s)) (sym is)
          ∙ inv.refused_end;
      goes = λ files end w more.
          (let went = rw c.split_at.ensures.back at (c.in_ok-one.ensures.goes files) in
          let line = line_moved (geometry_of before) shape (program_of before) p (due k left)
          (due k flips) k (turn_in before) table a.banks i Done (world files (W c.instrs.out) a)
          (world files (W c.do_one.new.out) b) (ap geometry_of inv.goes_on)
          (ap program_of inv.goes_on) same went in
          inv.goes files end w (subst (λ (s : List Instruction).
          Goes (guarded_steps shape o flips k (turn_in before) table a.banks s) end
          (world files (W c.instrs.out) a) w) (sym is)
          (goes_goes shape o flips k i others (turn_in before) (turn_in after) table
          (table_in after) a b one.votes one.refused d files (W c.instrs.out)
          (W c.do_one.new.out) end w line more)));
    }

pub returns-in_err-one-clause-goes : goal.returns-in_err-one-clause-goes
returns-in_err-one-clause-goes g c files =
    let V = g.D.Dram.view in
    let W = g.S.Sink.view in
    let script = c.args.script.now in
    let flips = c.args.flips.now in
    let done = c.instrs.done in
    let k = done + 1 in
    let inv = c.instrs.invariant in
    let first = machine_in c.args.guard.now in
    let before = machine_in c.instrs.guard in
    let left = drop c.instrs.flipped flips in
    let rest = map view_of (drop done script) in
    let others = map view_of (drop (done + 1) script) in
    let i = view_of c.index-script-done.result in
    let is : rest ≡ i ∷ others = left_is script done c.index-script-done.result (omega arith)
    ∙ ap (λ (x : Instr). view_of x ∷ others) (sym c.index-script-done.is) in
    let a = V c.instrs.chip in
    let start = world files (W c.instrs.out) a in
    let last = world files (W c.do_one.new.out) (V c.do_one.new.chip) in
    let same : due k left ≡ due k flips = inv.later k (omega arith) in
    let q = err_from_is_err_and c.from_residual.result c.from_residual.ensures.1 in
    let fault = c.in_err-one.field-0.0 in
    let went = rw c.split_at.ensures.back at (c.in_err-one.ensures.goes files) in
    let line = line_moved (geometry_of before) (geometry_of first) (program_of before)
    (program_of first) (due k left) (due k left) k (turn_in before) (table_in before) a.banks i
    (end_by {X = One} (Err fault)) start last (ap geometry_of inv.goes_on)
    (ap program_of inv.goes_on) refl went in
    rw (q.1, q.2) (inv.goes files _ last (stops_here One fault (geometry_of first)
    (operations_by first) flips left k (turn_in before) (table_in before) a.banks i others rest
    start last is same line))

pub mend-requires-clause-cells : goal.mend-requires-clause-cells
mend-requires-clause-cells g c =
    let inv = c.instrs.invariant in
    let shape = geometry_of (machine_in c.args.guard.now) in
    rw c.split_at-2.ensures.back (cells_on shape _ (length c.args.script.now)
    (drop c.instrs.flipped c.args.flips.now)
    (inv.kept.geometry ∙ c.requires.geometry) inv.cells)

pub returns-in-Ok-clause-banks : goal.returns-in-Ok-clause-banks
returns-in-Ok-clause-banks g c =
    let V = g.D.Dram.view in
    let flips = c.args.flips.now in
    let script = c.args.script.now in
    let k = c.instrs.done + 1 in
    let inv = c.instrs.invariant in
    let first = machine_in c.args.guard.now in
    let last = machine_in c.instrs.guard in
    let o = operations_by first in
    let shape = geometry_of first in
    let left = drop c.instrs.flipped flips in
    let now = V c.instrs.chip in
    let none : map view_of (drop c.instrs.done script) ≡ [] =
    ap (map view_of) (drop_all c.instrs.done script (omega arith)) in
    let known = rw c.split_at-2.ensures.back at c.in-Ok.ensures.done in
    let m = mended_moved (geometry_of last) shape (due k left) (due k flips) (table_in last) now
    (V c.mend.new.chip) (ap geometry_of inv.goes_on) (inv.later k (omega arith)) known in
    m.banks ∙ ap (guarded_rows_at_end shape o flips k (table_in last) now.banks) (sym none)
    ∙ inv.banks_end

pub returns-in-Ok-clause-counters : goal.returns-in-Ok-clause-counters
returns-in-Ok-clause-counters g c =
    let V = g.D.Dram.view in
    let flips = c.args.flips.now in
    let script = c.args.script.now in
    let k = c.instrs.done + 1 in
    let inv = c.instrs.invariant in
    let first = machine_in c.args.guard.now in
    let last = machine_in c.instrs.guard in
    let o = operations_by first in
    let shape = geometry_of first in
    let left = drop c.instrs.flipped flips in
    let now = V c.instrs.chip in
    let none : map view_of (drop c.instrs.done script) ≡ [] =
    ap (map view_of) (drop_all c.instrs.done script (omega arith)) in
    let known = rw c.split_at-2.ensures.back at c.in-Ok.ensures.done in
    let m = mended_moved (geometry_of last) shape (due k left) (due k flips) (table_in last) now
    (V c.mend.new.chip) (ap geometry_of inv.goes_on) (inv.later k (omega arith)) known in
    let all : due k left ≡ left = all_here shape (length script) c.instrs.done left (omega arith)
    inv.cells inv.sorted in
    let whole = mended_moved shape shape (due k flips) left (table_in last) now
    (V c.mend.new.chip) refl (sym (inv.later k (omega arith)) ∙ all) m in
    tally_last shape o left (table_in last) now (V c.mend.new.chip) whole
    ∙ ap (λ (s : List Instruction). guarded_tally shape o (table_in last) s left now.counters)
    (sym none) ∙ inv.tally_end

pub returns-in-Ok-clause-log : goal.returns-in-Ok-clause-log
returns-in-Ok-clause-log g c =
    let V = g.D.Dram.view in
    let flips = c.args.flips.now in
    let script = c.args.script.now in
    let k = c.instrs.done + 1 in
    let inv = c.instrs.invariant in
    let first = machine_in c.args.guard.now in
    let last = machine_in c.instrs.guard in
    let o = operations_by first in
    let shape = geometry_of first in
    let left = drop c.instrs.flipped flips in
    let now = V c.instrs.chip in
    let none : map view_of (drop c.instrs.done script) ≡ [] =
    ap (map view_of) (drop_all c.instrs.done script (omega arith)) in
    let known = rw c.split_at-2.ensures.back at c.in-Ok.ensures.done in
    let m = mended_moved (geometry_of last) shape (due k left) (due k flips) (table_in last) now
    (V c.mend.new.chip) (ap geometry_of inv.goes_on) (inv.later k (omega arith)) known in
    inv.log (V c.mend.new.chip) (subst (λ (s : List Instruction).
    Grew now.log (V c.mend.new.chip).log
    (run_events shape o flips k (turn_in last) (table_in last) now.banks s)) (sym none) m.log)

pub returns-in-Ok-clause-votes : goal.returns-in-Ok-clause-votes
returns-in-Ok-clause-votes g c =
    let V = g.D.Dram.view in
    let flips = c.args.flips.now in
    let script = c.args.script.now in
    let k = c.instrs.done + 1 in
    let inv = c.instrs.invariant in
    let first = machine_in c.args.guard.now in
    let last = machine_in c.instrs.guard in
    let o = operations_by first in
    let shape = geometry_of first in
    let left = drop c.instrs.flipped flips in
    let now = V c.instrs.chip in
    let none : map view_of (drop c.instrs.done script) ≡ [] =
    ap (map view_of) (drop_all c.instrs.done script (omega arith)) in
    let known = rw c.split_at-2.ensures.back at c.in-Ok.ensures.done in
    let m = mended_moved (geometry_of last) shape (due k left) (due k flips) (table_in last) now
    (V c.mend.new.chip) (ap geometry_of inv.goes_on) (inv.later k (omega arith)) known in
    let votes = rw (ap geometry_of inv.goes_on) at c.in-Ok.ensures.votes in
    ap (λ (n : ℕ). c.instrs.votes + n) votes
    ∙ ap (λ (s : List Instruction). c.instrs.votes + votes_at_end shape o (table_in last) s)
    (sym none) ∙ inv.votes_end

pub returns-in-Ok-clause-goes : goal.returns-in-Ok-clause-goes
returns-in-Ok-clause-goes g c files =
    let V = g.D.Dram.view in
    let flips = c.args.flips.now in
    let k = c.instrs.done + 1 in
    let inv = c.instrs.invariant in
    let first = machine_in c.args.guard.now in
    let last = machine_in c.instrs.guard in
    let shape = geometry_of first in
    let table = table_in last in
    let now = V c.instrs.chip in
    let new = V c.mend.new.chip in
    let sink = g.S.Sink.view c.instrs.out in
    let none : map view_of (drop c.instrs.done c.args.script.now) ≡ [] =
    ap (map view_of) (drop_all c.instrs.done c.args.script.now (omega arith)) in
    let events = mend_events shape (due k flips) table now.banks in
    let left = drop c.instrs.flipped flips in
    let known = rw c.split_at-2.ensures.back at c.in-Ok.ensures.done in
    let m = mended_moved (geometry_of last) shape (due k left) (due k flips) table now new
    (ap geometry_of inv.goes_on) (inv.later k (omega arith)) known in
    inv.goes files Done (world files sink new)
    (subst (λ (s : List Instruction). Goes (guarded_steps shape (operations_by first) flips k
    (turn_in last) table now.banks s) Done (world files sink now) (world files sink new)) (sym none)
    (and_then (doing now.banks events) [] Done files sink sink now new new
    c.in-Ok.ensures.done.faults (mend_left shape (due k flips) table now.banks new.banks m.banks)
    refl))

pub returns-in-Err-clause-goes : goal.returns-in-Err-clause-goes
returns-in-Err-clause-goes g c files =
    let V = g.D.Dram.view in
    let flips = c.args.flips.now in
    let k = c.instrs.done + 1 in
    let inv = c.instrs.invariant in
    let first = machine_in c.args.guard.now in
    let last = machine_in c.instrs.guard in
    let shape = geometry_of first in
    let table = table_in last in
    let now = V c.instrs.chip in
    let new = V c.mend.new.chip in
    let sink = g.S.Sink.view c.instrs.out in
    let none : map view_of (drop c.instrs.done c.args.script.now) ≡ [] =
    ap (map view_of) (drop_all c.instrs.done c.args.script.now (omega arith)) in
    let events = mend_events shape (due k flips) table now.banks in
    let known = rw c.split_at-2.ensures.back at c.in-Err.ensures.left in
    let stopped : StoppedWithin 0 events now.banks new.banks =
    subst (λ (x : Geometry). StoppedWithin 0 (mend_events x (due k flips) table now.banks)
    now.banks new.banks) (ap geometry_of inv.goes_on)
    (subst (λ (fs : List Flip). StoppedWithin 0 (mend_events (geometry_of last) fs table now.banks)
    now.banks new.banks) (inv.later k (omega arith)) known) in
    inv.goes files (Stopped ChipFailed) (world files sink new)
    (subst (λ (s : List Instruction). Goes (guarded_steps shape (operations_by first) flips k
    (turn_in last) table now.banks s) (Stopped ChipFailed) (world files sink now)
    (world files sink new)) (sym none)
    (unused (doing now.banks events) [] files sink now new c.mend.ensures.kept.faults
    c.in-Err.ensures.failed (left_by 0 events now.banks now.banks new.banks refl stopped)))
