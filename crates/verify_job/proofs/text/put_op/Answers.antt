use Rattle.std.proofs.Common.{◌∙◌, ◌++◌, ap, sym, arith, flat_map}
use Rattle.std.specs.Prelude.{slice_range}
use Rattle.std.proofs.lemmas.List.{append-nil}
use Rattle.op_text.specs.Language.{operation}
use Rattle.verify_job.specs.Report.{run_line, says_same}
use Rattle.verify_job.proofs.Runs.{next_text, runs_begin, runs_end}
use Rattle.verify_job.proofs.text.put_op.Goals as goal

pub loop-k-init : goal.loop-k-init
loop-k-init c =
    let op = operation c.args.op.now in
    record {
      within = omega arith;
      text = ap (λ rs. c.args.out.now.items ++ flat_map (run_line c.args.single op) rs)
          (runs_begin (says_same c.args.single op.params) c.args.found.now);
    }

pub put_ended-requires : goal.put_ended-requires
put_ended-requires c = (c.loop-k.invariant.within, c.loop-k-test.true)

pub loop-k-preserved : goal.loop-k-preserved
loop-k-preserved c =
    let op = operation c.args.op.now in
    let r = next_text (run_line c.args.single op) (says_same c.args.single op.params)
    c.args.found.now c.loop-k.from c.loop-k.k c.loop-k.invariant.within c.loop-k-test.true
    c.loop-k.out.items c.put_ended.new.out.items _ _ c.in_ok-from.ensures
    c.loop-k.invariant.text in
    record { within = r.0; text = r.1 }

pub returns : goal.returns
returns c =
    let op = operation c.args.op.now in
    let none = runs_end (says_same c.args.single op.params) c.args.found.now
    (slice_range c.args.found.now c.loop-k.from c.loop-k.k) c.loop-k.k
    (omega (arith, c.loop-k-test.false)) in
    sym (append-nil c.loop-k.out.items)
    ∙ ap (λ rs. c.loop-k.out.items ++ flat_map (run_line c.args.single op) rs) (sym none)
    ∙ c.loop-k.invariant.text
