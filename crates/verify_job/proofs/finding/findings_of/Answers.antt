use Rattle.std.proofs.Common.{◌≡◌, ◌+◌, suc, take, subst, sym, refl, arith}
use Rattle.std.specs.Prelude.{slice_index_or}
use Rattle.std.proofs.lemmas.List.{get_or_default}
use Rattle.verify_job.specs.Findings.{AreAtWidths}
use Rattle.verify_job.proofs.Found.{found_at}
use Rattle.verify_job.proofs.finding.findings_of.Goals as goal

pub loop-width-preserved : goal.loop-width-preserved
loop-width-preserved c = λ o does.
    let widths = c.args.widths.now in
    let k = c.loop-width.width-index in
    let n = slice_index_or widths k 0 in
    let next : suc k ≡ k + 1 = omega arith in
    subst (λ j. AreAtWidths (take j widths) c.args.prog.now.programs o c.keep.new.items.items) next
    (subst (AreAtWidths (take (suc k) widths) c.args.prog.now.programs o)
    (sym c.in_ok-keep.ensures)
    (found_at widths c.args.prog.now.programs o k n c.loop-width.at.items
    (record { width = n; finding = c.in_ok-finding.finding }) c.loop-width-test.true
    (get_or_default widths k 0 n c.loop-width-test.true) refl (c.in_ok-finding.ensures o does)
    (c.loop-width.invariant o does)))
