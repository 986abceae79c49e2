use Rattle.soak_job.proofs.Common.{◌≡◌, ◌+◌, ◌∷◌, ◌++◌, ℕ, List, suc, ap, sym, subst, ◌∙◌, arith}
use Rattle.soak_job.proofs.Common.{drop, get_or, None, Ok, Err, AllByRecursion, drop-cons, drop_all}
use Rattle.soak_job.proofs.Common.{AppendsPart, FolderView, Known, Kept-more, world}
use Rattle.soak_job.specs.declared.job.SoakError.TheVariants as no
use Rattle.op_text.specs.declared.word_ops.WordOp.TheVariants as o
use Rattle.soak_job.specs.declared.cases.Case.{Case}
use Rattle.soak_job.specs.Sums.{last_line}
use Rattle.soak_job.specs.Done.{CanBeDone, CasesGo}
use Rattle.soak_job.proofs.Making.{at_err, at_ok}
use Rattle.soak_job.proofs.Going.{all_known, goes_on, not_known, known_last}
use Rattle.soak_job.proofs.job.soak_cases.Goals as goal

abbrev first_case : Case
first_case = record { op = o.Not; n = 0 }

abbrev no_files : FolderView
no_files = record { holds = None; load_faults = λ name. 0; store_faults = 0; taken = 0 }

pub loop-case-preserved : goal.loop-case-preserved
loop-case-preserved g c =
    let i = c.loop-case.case-index in
    let cases = c.args.cases.now in
    let h = c.loop-case.invariant in
    let case : Case = get_or cases i first_case in
    let start = g.D.Dram.view c.args.chip.now in
    let now = g.D.Dram.view c.loop-case.chip in
    let next = g.D.Dram.view c.soak_case.new.chip in
    let one : suc i ≡ i + 1 = omega arith in
    let split : drop i cases ≡ case ∷ drop (i + 1) cases =
    drop-cons cases i first_case (omega arith) ∙ ap (λ n. case ∷ drop n cases) one in
    let can = subst (AllByRecursion CanBeDone) split h.can in
    let few = (c.in_ok-soak_case.ensures.went no_files).few in
    let few_aap = h.few_aap in
    let few_ap = h.few_ap in
    let few_writes = h.few_writes in
    let few_reads = h.few_reads in
    record {
      borrow = c.in_ok-soak_case.ensures.borrow ∙ h.borrow;
      kept = Kept-more start now next h.kept c.in_ok-soak_case.ensures.kept;
      can = can.1;
      few_aap = omega (arith, few.aap, few_aap);
      few_ap = omega (arith, few.ap, few_ap);
      few_writes = omega (arith, few.writes, few_writes);
      few_reads = omega (arith, few.reads, few_reads);
      goes = λ files w result more. h.goes files w result
          (subst (λ (cs : List Case). CasesGo c.loop-case.generator cs
          (world files (g.S.Sink.view c.loop-case.out) now) w result) (sym split)
          (goes_on c.loop-case.generator case (drop (i + 1) cases)
          (world files (g.S.Sink.view c.loop-case.out) now)
          (world files (g.S.Sink.view c.soak_case.new.out) next) w result
          (c.in_ok-soak_case.ensures.went files)
          (subst (λ s. CasesGo s (drop (i + 1) cases)
          (world files (g.S.Sink.view c.soak_case.new.out) next) w result)
          c.in_ok-soak_case.ensures.following more)));
    }

pub returns-then-is_err-clause-goes : goal.returns-then-is_err-clause-goes
returns-then-is_err-clause-goes g c files =
    let chip = g.D.Dram.view c.loop-case.chip in
    let old = g.S.Sink.view c.loop-case.out in
    let new = g.S.Sink.view c.put.new.self in
    let is = sym c.is_err.ensures.value ∙ c.if-is_err.true in
    let line : c.as_slice.result.now ≡ known_last =
    c.as_slice.ensures.value ∙ c.last_line-line.ensures ∙ ap last_line c.requires.all in
    let none = drop_all c.loop-case.case-index c.args.cases.now (omega arith) in
    c.loop-case.invariant.goes files (world files new chip) _
    (subst (λ (cs : List Case). CasesGo c.loop-case.generator cs (world files old chip)
    (world files new chip) (Err no.PutFailed)) (sym none)
    (not_known c.loop-case.generator files old new chip
    (subst (λ (bytes : List ℕ). Known (AppendsPart bytes) old.sent new.sent) line
    (at_err c.put.result is c.put.ensures.part)) c.put.ensures.counts
    (at_err c.put.result is c.put.ensures.failed)))

pub returns-clause-goes : goal.returns-clause-goes
returns-clause-goes g c files =
    let chip = g.D.Dram.view c.loop-case.chip in
    let old = g.S.Sink.view c.loop-case.out in
    let new = g.S.Sink.view c.put.new.self in
    let is = sym c.is_err.ensures.value ∙ c.if-is_err.false in
    let line : c.as_slice.result.now ≡ known_last =
    c.as_slice.ensures.value ∙ c.last_line-line.ensures ∙ ap last_line c.requires.all in
    let none = drop_all c.loop-case.case-index c.args.cases.now (omega arith) in
    c.loop-case.invariant.goes files (world files new chip) _
    (subst (λ (cs : List Case). CasesGo c.loop-case.generator cs (world files old chip)
    (world files new chip) (Ok tt)) (sym none) (all_known c.loop-case.generator files old new chip
    (subst (λ (bytes : List ℕ). Known (λ before after. after ≡ before ++ bytes) old.sent new.sent)
    line (at_ok c.put.result is c.put.ensures.sent))
    (at_ok c.put.result is c.put.ensures.unfailed)))
