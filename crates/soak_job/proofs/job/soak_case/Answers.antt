use Rattle.soak_job.proofs.Common.{◌≡◌, ◌++◌, ℕ, List, ap, sym, subst, ◌∙◌, AppendsPart, Known}
use Rattle.soak_job.proofs.Common.{Counts}
use Rattle.soak_job.specs.OneCase.{IsFileOf}
use Rattle.soak_job.specs.Sums.{case_line, in_both_banks, counted_line}
use Rattle.soak_job.proofs.Making.{at_err, at_ok}
use Rattle.soak_job.proofs.Going.{case_went, program_is, stops_at_put, stops_at_use}
use Rattle.soak_job.proofs.job.soak_case.Goals as goal

pub returns-in_default-do_case-clause-stopped : goal.returns-in_default-do_case-clause-stopped
returns-in_default-do_case-clause-stopped g c files cases =
    let f : IsFileOf c.args.case.op c.deref.result.now =
    subst (IsFileOf c.args.case.op) (sym c.deref.ensures.value) c.in-Ok.ensures in
    stops_at_use c.args.generator.now c.args.case cases f.program files (g.S.Sink.view
    c.args.out.now)
    (g.D.Dram.view c.args.chip.now) (g.D.Dram.view c.do_case.new.chip)
    (program_is c.args.case c.deref.result.now f) c.do_case.ensures.kept.faults
    c.in_default-do_case.ensures.failed (c.in_default-do_case.ensures.left f)

pub returns-then-is_err-clause-stopped : goal.returns-then-is_err-clause-stopped
returns-then-is_err-clause-stopped g c files cases =
    let f : IsFileOf c.args.case.op c.deref.result.now =
    subst (IsFileOf c.args.case.op) (sym c.deref.ensures.value) c.in-Ok.ensures in
    let old = g.S.Sink.view c.args.out.now in
    let new = g.S.Sink.view c.put.new.self in
    let line : c.as_slice.result.now ≡ case_line c.args.generator.now c.args.case f.program =
    c.as_slice.ensures.value ∙ c.line_of-line.ensures
    ∙ ap (λ (k : Counts). counted_line c.args.case k c.in-Ok-do_case.outcome.sum)
    (c.in-Ok-do_case.ensures.counts f)
    ∙ ap (counted_line c.args.case (in_both_banks c.args.case f.program))
    c.in-Ok-do_case.ensures.sum in
    let is = sym c.is_err.ensures.value ∙ c.if-is_err.true in
    stops_at_put c.args.generator.now c.args.case cases f.program files old new
    (g.D.Dram.view c.args.chip.now) (g.D.Dram.view c.do_case.new.chip)
    (program_is c.args.case c.deref.result.now f) (c.in-Ok-do_case.ensures.done f).faults
    (c.in-Ok-do_case.ensures.done f).banks
    (subst (λ (bytes : List ℕ). Known (AppendsPart bytes) old.sent new.sent) line
    (at_err c.put.result is c.put.ensures.part)) c.put.ensures.counts
    (at_err c.put.result is c.put.ensures.failed)

pub returns-clause-went : goal.returns-clause-went
returns-clause-went g c files =
    let f : IsFileOf c.args.case.op c.deref.result.now =
    subst (IsFileOf c.args.case.op) (sym c.deref.ensures.value) c.in-Ok.ensures in
    let old = g.S.Sink.view c.args.out.now in
    let new = g.S.Sink.view c.put.new.self in
    let line : c.as_slice.result.now ≡ case_line c.args.generator.now c.args.case f.program =
    c.as_slice.ensures.value ∙ c.line_of-line.ensures
    ∙ ap (λ (k : Counts). counted_line c.args.case k c.in-Ok-do_case.outcome.sum)
    (c.in-Ok-do_case.ensures.counts f)
    ∙ ap (counted_line c.args.case (in_both_banks c.args.case f.program))
    c.in-Ok-do_case.ensures.sum in
    let is = sym c.is_err.ensures.value ∙ c.if-is_err.false in
    case_went c.args.generator.now c.args.case f.program files old new
    (g.D.Dram.view c.args.chip.now) (g.D.Dram.view c.do_case.new.chip)
    (program_is c.args.case c.deref.result.now f)
    (subst (λ (bytes : List ℕ). Known (λ before after. after ≡ before ++ bytes) old.sent new.sent)
    line (at_ok c.put.result is c.put.ensures.sent))
    (at_ok c.put.result is c.put.ensures.unfailed)
    (c.in-Ok-do_case.ensures.done f) c.in-Ok-do_case.ensures.few
