use Rattle.std.proofs.Common.{◌≡◌, ◌+◌, ◌<◌, ◌≤◌, suc, take, List, length, map, subst, sym, ◌∙◌, ap, arith}
use Rattle.std.specs.Prelude.{slice_index_or}
use Rattle.std.proofs.lemmas.List.{length-map, take_all}
use Rattle.uprog_code.specs.declared.code.EntryCode.{EntryCode}
use Rattle.uprog_code.specs.Shape.{Shape, microprogram_of}
use Rattle.uprog_code.specs.Machine.{HasEnded, trace}
use Rattle.uprog_code.proofs.Found.{entry_there}
use Rattle.verify_job.specs.Findings.{AreFindings}
use Rattle.verify_job.proofs.Found.{as_many, found_more}
use Rattle.verify_job.proofs.finding.verify_all.Goals as goal

pub findings_of-requires : goal.findings_of-requires
findings_of-requires c =
    let x = c.entry-item.result in
    let r = entry_there c.args.made.now.entries.items c.as_slice-entry-items.result.now
    c.requires.implements.0 c.loop-entry.entry-index x c.as_slice-entry-items.ensures.value
    c.requires.implements.1 c.requires.legal c.loop-entry-test.true c.entry-item.is in
    record {
      widths = c.requires.widths;
      legal = r.0;
      ends = λ n some narrow. subst (λ (s : Shape). HasEnded (trace s x.code.items n))
          (sym r.1.1.shape) (r.1.1.code.ends n some narrow);
    }

pub loop-entry-preserved : goal.loop-entry-preserved
loop-entry-preserved c = λ ops does.
    let entries = c.as_slice-entry-items.ensures.value in
    let k = c.loop-entry.entry-index in
    let x = c.entry-item.result in
    let lt = subst (λ (es : List EntryCode). k < length es) entries c.loop-entry-test.true in
    let is = subst (λ (es : List EntryCode). x ≡ slice_index_or es k x) entries c.entry-item.is in
    let next : suc k ≡ k + 1 = omega arith in
    subst (λ j. AreFindings c.args.widths.now c.args.prog.now.programs (take j ops) c.keep.new.items.items)
    next (subst (AreFindings c.args.widths.now c.args.prog.now.programs (take (suc k) ops))
    (sym c.in_ok-keep.ensures) (found_more c.args.widths.now c.args.prog.now.programs c.args.made.now.entries.items ops k x
    c.loop-entry.found.items c.in_ok-findings.findings does lt is c.in_ok-findings.ensures
    (c.loop-entry.invariant ops does)))

pub returns : goal.returns
returns c = λ ops does.
    let items = c.args.made.now.entries.items in
    let many = as_many (map microprogram_of items) ops does ∙ length-map items microprogram_of in
    let same = ap length c.as_slice-entry-items.ensures.value in
    let le : length ops ≤ c.loop-entry.entry-index =
    omega (arith, many, same, c.loop-entry-test.false) in
    subst (λ l. AreFindings c.args.widths.now c.args.prog.now.programs l c.loop-entry.found.items)
    (take_all c.loop-entry.entry-index ops le) (c.loop-entry.invariant ops does)
