use Rattle.soak_job.proofs.Common.{◌≡◌, ℕ, ◌*◌, ◌%◌, ◌^◌, List, map, sym, ap, ◌∙◌, subst, sum_by}
use Rattle.soak_job.proofs.Common.{range_with_len, Banks, below, number, Did, DidRead, Kind}
use Rattle.soak_job.proofs.Common.{Microprogram, width, numbers, EntryDoes, text_op, program_of}
use Rattle.soak_job.proofs.Common.{StoppedWithin}
use Rattle.soak_job.specs.declared.cases.Case.{Case}
use Rattle.soak_job.specs.Cases.{one_statement}
use Rattle.soak_job.specs.Words.{elements, sources_at}
use Rattle.soak_job.specs.Layout.{bases_from, case_events, result_rows, source_row_count}
use Rattle.soak_job.specs.Layout.{source_rows, source_writes}
use Rattle.soak_job.specs.OneCase.{CaseDone, IsFileOf, IsProgramOf, WritesMore}
use Rattle.soak_job.proofs.Running.{case_done, on_err_always, reading_failed, wave_failed}
use Rattle.soak_job.proofs.Running.{writes_failed}
use Rattle.soak_job.proofs.Summing.{sum_is}
use Rattle.soak_job.proofs.chip.do_case.Goals as goal

-- a case whose program is in this file failed on the chip
abbrev FailsWithin : ℕ → Case → List ℕ → Banks → Banks → Type 0
FailsWithin state c file a b = (f : IsFileOf c.op file)
    → StoppedWithin 2 (case_events state c f.program) a b

pub run_case-requires-clause-does : goal.run_case-requires-clause-does
run_case-requires-clause-does g c =
    let f = c.requires.file in
    subst (IsProgramOf c.args.case) (sym (c.own_entry-entry.ensures.program f.program f.legal f.is))
    (record { legal = f.legal.entries.0; does = f.does; exact = f.exact })

pub returns-clause-sum : goal.returns-clause-sum
returns-clause-sum g c =
    let case = c.args.case in
    let f = c.requires.file in
    let m = program_of c.own_entry-entry.result in
    let mid = (g.D.Dram.view c.load_sources.new.chip).banks in
    let last = (g.D.Dram.view c.run_case.new.chip).banks in
    let same = c.own_entry-entry.ensures.program f.program f.legal f.is in
    let does : EntryDoes m (text_op (one_statement case.op)) =
    subst (λ (x : Microprogram). EntryDoes x (text_op (one_statement case.op))) (sym same) f.does in
    let kinds = c.sources_of-kinds.ensures.kinds in
    let loaded = subst (λ (ks : List Kind). map (numbers case.n ks (bases_from 0 case.n ks))
    (below 2 mid) ≡ map (sources_at c.args.generator.now case.n ks) (range_with_len 0 elements))
    kinds
    c.in_ok-load_sources.ensures.numbers in
    let base : c.bases_of-base.result.1 ≡ source_rows case =
    c.bases_of-base.ensures.end ∙ ap (source_row_count case.n) kinds in
    let rows : c.rows_of.result ≡ result_rows case =
    c.rows_of.ensures ∙ ap (λ (k : Kind). width k case.n) c.result_of.ensures in
    c.in_ok-sum.ensures.sum
    ∙ ap (λ b. sum_by (number b c.rows_of.result) (below 2 last) % 2 ^ 64) base
    ∙ ap (λ w. sum_by (number (source_rows case) w) (below 2 last) % 2 ^ 64) rows
    ∙ sum_is c.args.generator.now case m mid last c.requires.fits does loaded
    c.in_ok-run_case.ensures.alone

pub returns-clause-done : goal.returns-clause-done
returns-clause-done g c f =
    let case = c.args.case in
    let state = c.args.generator.now in
    let m = program_of c.own_entry-entry.result in
    let a = g.D.Dram.view c.args.chip.now in
    let b = g.D.Dram.view c.load_sources.new.chip in
    let d = g.D.Dram.view c.run_case.new.chip in
    let e = g.D.Dram.view c.sum_of.new.chip in
    let same = c.own_entry-entry.ensures.program f.program f.legal f.is in
    let kinds = c.sources_of-kinds.ensures.kinds in
    let rows : c.rows_of.result ≡ result_rows case =
    c.rows_of.ensures ∙ ap (λ (k : Kind). width k case.n) c.result_of.ensures in
    subst (λ (x : Microprogram). CaseDone state case x a e) same
    (case_done state case m a b d e
    (subst (λ (ks : List Kind). Did (source_writes state 0 case.n ks) a b) kinds
    c.in_ok-load_sources.ensures.did)
    (subst (λ (ks : List Kind). WritesMore (2 * source_row_count case.n ks) a.counters b.counters) kinds
    c.in_ok-load_sources.ensures.writes)
    c.in_ok-run_case.ensures.did c.in_ok-run_case.ensures.counters
    (subst (λ w. DidRead (2 * w) d e) rows c.in_ok-sum.ensures.did))

pub returns-in_err-load_sources-clause-left : goal.returns-in_err-load_sources-clause-left
returns-in_err-load_sources-clause-left g c =
    let case = c.args.case in
    let state = c.args.generator.now in
    let a = (g.D.Dram.view c.args.chip.now).banks in
    let b = (g.D.Dram.view c.load_sources.new.chip).banks in
    on_err_always {P = FailsWithin state case c.args.file.now a b} _
    (λ f. writes_failed state case f.program a b
    (subst (λ (ks : List Kind). StoppedWithin 0 (source_writes state 0 case.n ks) a b)
    c.sources_of-kinds.ensures.kinds c.in_err-load_sources.ensures.left))

pub returns-in_err-run_case-clause-left : goal.returns-in_err-run_case-clause-left
returns-in_err-run_case-clause-left g c =
    let case = c.args.case in
    let state = c.args.generator.now in
    let a = g.D.Dram.view c.args.chip.now in
    let b = g.D.Dram.view c.load_sources.new.chip in
    let d = g.D.Dram.view c.run_case.new.chip in
    let m = program_of c.own_entry-entry.result in
    on_err_always {P = FailsWithin state case c.args.file.now a.banks d.banks} _
    (λ f. subst (λ (x : Microprogram). StoppedWithin 2 (case_events state case x) a.banks d.banks)
    (c.own_entry-entry.ensures.program f.program f.legal f.is)
    (wave_failed state case m a b d.banks
    (subst (λ (ks : List Kind). Did (source_writes state 0 case.n ks) a b)
    c.sources_of-kinds.ensures.kinds c.in_ok-load_sources.ensures.did)
    c.in_err-run_case.ensures.left))

pub returns-in_err-sum-clause-left : goal.returns-in_err-sum-clause-left
returns-in_err-sum-clause-left g c =
    let case = c.args.case in
    let state = c.args.generator.now in
    let a = g.D.Dram.view c.args.chip.now in
    let b = g.D.Dram.view c.load_sources.new.chip in
    let d = g.D.Dram.view c.run_case.new.chip in
    let e = g.D.Dram.view c.sum_of.new.chip in
    let m = program_of c.own_entry-entry.result in
    on_err_always {P = FailsWithin state case c.args.file.now a.banks e.banks} _
    (λ f. subst (λ (x : Microprogram). StoppedWithin 2 (case_events state case x) a.banks e.banks)
    (c.own_entry-entry.ensures.program f.program f.legal f.is)
    (reading_failed state case m a b d e.banks
    (subst (λ (ks : List Kind). Did (source_writes state 0 case.n ks) a b)
    c.sources_of-kinds.ensures.kinds c.in_ok-load_sources.ensures.did)
    c.in_ok-run_case.ensures.did c.in_err-sum.ensures.left))
