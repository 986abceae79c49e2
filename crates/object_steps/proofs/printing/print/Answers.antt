use Rattle.object_steps.proofs.Common.{◌≡◌, ◌++◌, ◌∙◌, List, [], ℕ, arith, refl, subst, take, codes}
use Rattle.object_steps.proofs.Common.{Known, AppendsPart, Grew-none, Kept-same, columns, refusal}
use Rattle.object_steps.proofs.Common.{place_text, counts_for}
use Rattle.bbop_isa.specs.Forms.{Print}
use Rattle.machine_model.specs.Report.{line}
use Rattle.machine_model.specs.Report.Said.{Printed}
use Rattle.machine_model.specs.Script.{rows_printed}
use Rattle.object_steps.specs.Lines.{values_of, values_text}
use Rattle.object_steps.proofs.Done.{did_not_read, replies_refused, sent_nothing}
use Rattle.object_steps.proofs.Filled.{on_err}
use Rattle.object_steps.proofs.Held.{more_held, part_of_more, then_all, then_part}
use Rattle.object_steps.proofs.Rises.{few_reads}
use Rattle.object_steps.proofs.Valued.{printed_is}
use Rattle.object_steps.proofs.printing.print.Goals as goal

pub returns-in-Err-clause-borrow : goal.returns-in-Err-clause-borrow
returns-in-Err-clause-borrow g c = refl

pub returns-in-Err-clause-kept : goal.returns-in-Err-clause-kept
returns-in-Err-clause-kept g c = Kept-same (g.D.Dram.view c.args.dram.now)

pub returns-in-Err-clause-stage : goal.returns-in-Err-clause-stage
returns-in-Err-clause-stage g c = refl

pub returns-in-Err-clause-sink_faults : goal.returns-in-Err-clause-sink_faults
returns-in-Err-clause-sink_faults g c = omega arith

pub returns-in-Err-clause-no_event : goal.returns-in-Err-clause-no_event
returns-in-Err-clause-no_event g c = Grew-none (g.D.Dram.view c.args.dram.now).log

pub returns-in_err-add_values-clause-borrow : goal.returns-in_err-add_values-clause-borrow
returns-in_err-add_values-clause-borrow g c = c.add_values.ensures.borrow

pub returns-in_err-add_values-clause-kept : goal.returns-in_err-add_values-clause-kept
returns-in_err-add_values-clause-kept g c = c.add_values.ensures.kept

pub returns-in_err-add_values-clause-no_event : goal.returns-in_err-add_values-clause-no_event
returns-in_err-add_values-clause-no_event g c = c.add_values.ensures.no_event

pub returns-in_err-add_values-clause-sink_faults : goal.returns-in_err-add_values-clause-sink_faults
returns-in_err-add_values-clause-sink_faults g c = c.add_values.ensures.sink_faults

pub returns-in-Ok-put-clause-borrow : goal.returns-in-Ok-put-clause-borrow
returns-in-Ok-put-clause-borrow g c = c.add_values.ensures.borrow

pub returns-in-Ok-put-clause-kept : goal.returns-in-Ok-put-clause-kept
returns-in-Ok-put-clause-kept g c = c.add_values.ensures.kept

pub returns-in-Ok-put-clause-no_event : goal.returns-in-Ok-put-clause-no_event
returns-in-Ok-put-clause-no_event g c = c.add_values.ensures.no_event

pub returns-in-Ok-put-clause-sink_faults : goal.returns-in-Ok-put-clause-sink_faults
returns-in-Ok-put-clause-sink_faults g c =
    omega (arith, c.add_values.ensures.sink_faults, c.put.ensures.counts)

pub returns-in-Err-put-clause-borrow : goal.returns-in-Err-put-clause-borrow
returns-in-Err-put-clause-borrow g c = c.add_values.ensures.borrow

pub returns-in-Err-put-clause-kept : goal.returns-in-Err-put-clause-kept
returns-in-Err-put-clause-kept g c = c.add_values.ensures.kept

pub returns-in-Err-put-clause-no_event : goal.returns-in-Err-put-clause-no_event
returns-in-Err-put-clause-no_event g c = c.add_values.ensures.no_event

pub returns-in-Err-put-clause-sink_faults : goal.returns-in-Err-put-clause-sink_faults
returns-in-Err-put-clause-sink_faults g c =
    omega (arith, c.add_values.ensures.sink_faults, c.put.ensures.counts)

pub returns-in_err-add_values-clause-part : goal.returns-in_err-add_values-clause-part
returns-in_err-add_values-clause-part g c = λ operations.
    let banks = (g.D.Dram.view c.args.dram.now).banks in
    let began = g.S.Sink.view c.args.out.now in
    let after = g.S.Sink.view c.add_values.new.out in
    let o = c.in-Ok.o in
    let front : List ℕ = c.line_head-text.result.items ++ values_text
    (take o.count (columns c.args.g banks o)) in
    on_err c.from_residual.result (subst (λ (xs : List ℕ). Known (AppendsPart xs) began.sent
    after.sent) (printed_is c.args.g operations c.args.table.now.pairs banks c.args.number
    c.args.place.now c.args.shown.now c.line_head-text.result.items o c.in-Ok.ensures.there
    c.in-Ok.ensures.inside c.in-Ok.ensures.object c.line_head-text.ensures.text) (part_of_more front (codes "\n")
    began.sent after.sent c.in_err-add_values.ensures.part))

pub returns-in-Ok-put-clause-rises : goal.returns-in-Ok-put-clause-rises
returns-in-Ok-put-clause-rises g c =
    few_reads c.args.g c.in-Ok.o (g.D.Dram.view c.args.dram.now).counters
    (g.D.Dram.view c.add_values.new.dram).counters c.requires.lies.geometry c.in-Ok.ensures.fits
    c.in_ok-add_values.ensures.did.counters

pub returns-in-Ok-put-clause-sent : goal.returns-in-Ok-put-clause-sent
returns-in-Ok-put-clause-sent g c = λ operations.
    let banks = (g.D.Dram.view c.args.dram.now).banks in
    let began = g.S.Sink.view c.args.out.now in
    let before = g.S.Sink.view c.add_values.new.out in
    let after = g.S.Sink.view c.put.new.self in
    let o = c.in-Ok.o in
    let front : List ℕ = c.line_head-text.result.items ++ values_text
    (take o.count (columns c.args.g banks o)) in
    let held : List ℕ = c.add_values.new.text.items in
    let last : List ℕ = c.as_slice.result.now in
    let whole : last ≡ held ++ codes "\n" = c.as_slice.ensures.value ∙ c.add.ensures.text in
    let all = printed_is c.args.g operations c.args.table.now.pairs banks c.args.number
    c.args.place.now c.args.shown.now c.line_head-text.result.items o c.in-Ok.ensures.there
    c.in-Ok.ensures.inside c.in-Ok.ensures.object c.line_head-text.ensures.text in
    subst (λ (xs : List ℕ). Known (λ old new. new ≡ old ++ xs) began.sent after.sent) all
    (then_all (front ++ codes "\n") last began.sent before.sent after.sent
    (more_held front held (codes "\n") last began.sent before.sent whole
    c.in_ok-add_values.ensures.held) c.in-Ok-put.ensures.sent)

pub returns-in-Err-put-clause-part : goal.returns-in-Err-put-clause-part
returns-in-Err-put-clause-part g c = λ operations.
    let banks = (g.D.Dram.view c.args.dram.now).banks in
    let began = g.S.Sink.view c.args.out.now in
    let before = g.S.Sink.view c.add_values.new.out in
    let after = g.S.Sink.view c.put.new.self in
    let o = c.in-Ok.o in
    let front : List ℕ = c.line_head-text.result.items ++ values_text
    (take o.count (columns c.args.g banks o)) in
    let held : List ℕ = c.add_values.new.text.items in
    let last : List ℕ = c.as_slice.result.now in
    let whole : last ≡ held ++ codes "\n" = c.as_slice.ensures.value ∙ c.add.ensures.text in
    let all = printed_is c.args.g operations c.args.table.now.pairs banks c.args.number
    c.args.place.now c.args.shown.now c.line_head-text.result.items o c.in-Ok.ensures.there
    c.in-Ok.ensures.inside c.in-Ok.ensures.object c.line_head-text.ensures.text in
    subst (λ (xs : List ℕ). Known (AppendsPart xs) began.sent after.sent) all
    (then_part (front ++ codes "\n") last began.sent before.sent after.sent
    (more_held front held (codes "\n") last began.sent before.sent whole
    c.in_ok-add_values.ensures.held) c.in-Err-put.ensures.part)

pub returns-in-Ok-put-clause-unfailed : goal.returns-in-Ok-put-clause-unfailed
returns-in-Ok-put-clause-unfailed g c =
    c.in-Ok-put.ensures.unfailed ∙ c.in_ok-add_values.ensures.unfailed

pub returns-in-Err-clause-reply : goal.returns-in-Err-clause-reply
returns-in-Err-clause-reply g c = λ operations.
    let instr = Print c.args.place.now in
    let pairs = c.args.table.now.pairs in
    replies_refused (refusal c.args.g operations pairs instr) c.in-Err.why
    (counts_for c.args.g operations pairs instr) (c.in-Err.ensures.refused [])

pub returns-in-Err-clause-did : goal.returns-in-Err-clause-did
returns-in-Err-clause-did g c = λ operations.
    let instr = Print c.args.place.now in
    let pairs = c.args.table.now.pairs in
    did_not_read (refusal c.args.g operations pairs instr) c.in-Err.why
    (rows_printed c.args.g pairs instr) (g.D.Dram.view c.args.dram.now)
    (c.in-Err.ensures.refused [])

pub returns-in-Err-clause-sent : goal.returns-in-Err-clause-sent
returns-in-Err-clause-sent g c = λ operations.
    let place = c.args.place.now in
    let pairs = c.args.table.now.pairs in
    let banks = (g.D.Dram.view c.args.dram.now).banks in
    sent_nothing (refusal c.args.g operations pairs (Print place)) c.in-Err.why
    (line c.args.number (Printed (place_text c.args.shown.now)
    (values_of c.args.g banks pairs place))) (g.S.Sink.view c.args.out.now).sent
    (c.in-Err.ensures.refused [])
