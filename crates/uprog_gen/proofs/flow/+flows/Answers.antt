use Rattle.uprog_gen.proofs.Common.{◌≡◌, ◌+◌, length, arith, on_ok_weaker}
use Rattle.uprog_gen.proofs.Coding.Emitted.{end_emits, do_emits, put_emits}
use Rattle.uprog_gen.proofs.Coding.Emitted.{if_emits, loop_emits, last_emits, turn_emits}
use Rattle.uprog_gen.proofs.flow.+flows.Goals as goal

pub emit_flow-returns-in-End-clause-emits : goal.emit_flow-returns-in-End-clause-emits
emit_flow-returns-in-End-clause-emits t c = rw c.in-End.is (end_emits c.args.code.now.items)

pub emit_flow-returns-in_ok-push_commands-in-Do-clause-emits :
    goal.emit_flow-returns-in_ok-push_commands-in-Do-clause-emits
emit_flow-returns-in_ok-push_commands-in-Do-clause-emits t c =
    let rest = rw c.deref.ensures at c.emit_flow.ensures.emits in
    rw c.in-Do.is (on_ok_weaker c.emit_flow.result
    (do_emits _ _ _ _ _ c.in_ok-push_commands-in-Do.ensures.emits) rest)

pub emit_flow-returns-in_ok-keep-in-Put-clause-emits :
    goal.emit_flow-returns-in_ok-keep-in-Put-clause-emits
emit_flow-returns-in_ok-keep-in-Put-clause-emits t c =
    let rest = rw c.deref-in-Put.ensures at c.emit_flow-in-Put.ensures.emits in
    let mid = rw c.uop_of.ensures at c.in_ok-keep-in-Put.ensures in
    rw c.in-Put.is (on_ok_weaker c.emit_flow-in-Put.result
    (put_emits c.in-Put.m _ _ _ _ mid) rest)

pub emit_flow-returns-in_ok-emit_flow-in-If-2-clause-emits :
    goal.emit_flow-returns-in_ok-emit_flow-in-If-2-clause-emits
emit_flow-returns-in_ok-emit_flow-in-If-2-clause-emits t c =
    let none = rw c.deref-in-If.ensures at c.in_ok-emit_flow-in-If.ensures.emits in
    let some = rw c.deref-in-If-2.ensures at c.in_ok-emit_flow-in-If-2.ensures.emits in
    let rest = rw c.deref-in-If-3.ensures at c.emit_flow-in-If-3.ensures.emits in
    let test : c.len-test.result ≡ length c.args.code.now.items = omega arith in
    let there : c.len-there.result ≡ length c.push_leave.new.code.items = omega arith in
    let jump : c.len-jump.result + 1 ≡ length c.emit_flow-in-If.new.code.items + 1 = omega arith in
    let past : c.len-past.result ≡ length c.emit_flow-in-If-2.new.code.items = omega arith in
    rw c.in-If.is (on_ok_weaker c.emit_flow-in-If-3.result (if_emits c.in-If.r _ _ _ _ _ _ _ _ _ _
    _ _ _ c.in_ok-keep-in-If.ensures none c.in_ok-push_leave-in-If.ensures test there jump some
    past) rest)

pub emit_flow-returns-in_ok-emit_acts-in-Loop-clause-emits :
    goal.emit_flow-returns-in_ok-emit_acts-in-Loop-clause-emits
emit_flow-returns-in_ok-emit_acts-in-Loop-clause-emits t c =
    let turns = rw c.deref-in-Loop.ensures at c.in_ok-emit_acts-in-Loop.ensures.emits in
    let rest = rw c.deref-in-Loop-2.ensures at c.emit_flow-in-Loop.ensures.emits in
    let out = c.len-out.result + 1 in
    let at : out ≡ length c.args.code.now.items + 1 = omega arith in
    let past : c.len-past-in-Loop.result ≡ length c.emit_acts.new.code.items = omega arith in
    rw c.in-Loop.is (on_ok_weaker c.emit_flow-in-Loop.result (loop_emits c.in-Loop.r (out + 2) out
    _ _ _ _ _ _ _ _ at (omega arith) c.in_ok-keep-in-Loop.ensures c.in_ok-push_leave-in-Loop.ensures
    turns past) rest)

pub emit_acts-returns-in_ok-emit_flow-in-Last-clause-emits :
    goal.emit_acts-returns-in_ok-emit_flow-in-Last-clause-emits
emit_acts-returns-in_ok-emit_flow-in-Last-clause-emits t c =
    let flow = rw c.deref.ensures at c.in_ok-emit_flow-in-Last.ensures.emits in
    rw c.in-Last.is (on_ok_weaker c.keep-in-Last.result
    (last_emits c.args.r c.args.top _ _ _ _ _ _ c.in_ok-keep.ensures flow) c.keep-in-Last.ensures)

pub emit_acts-returns-in_ok-push_leave-in-Turn-clause-emits :
    goal.emit_acts-returns-in_ok-push_leave-in-Turn-clause-emits
emit_acts-returns-in_ok-push_leave-in-Turn-clause-emits t c =
    let flow = rw c.deref-in-Turn.ensures at c.in_ok-emit_flow-in-Turn.ensures.emits in
    let more = rw c.deref-in-Turn-2.ensures at c.emit_acts.ensures.emits in
    let next : c.len.result + 3 ≡ length c.emit_flow-in-Turn.new.code.items + 3 = omega arith in
    rw c.in-Turn.is (on_ok_weaker c.emit_acts.result (turn_emits c.args.r c.args.top c.args.out _ _
    _ _ _ _ _ _ _ c.in_ok-keep.ensures flow next c.in_ok-keep-in-Turn.ensures
    c.in_ok-push_leave-in-Turn.ensures) more)
