use Rattle.std.proofs.Common.{◌∙◌, ◌++◌, ap, map, sym, arith, refl, true, false}
use Rattle.std.specs.Prelude.{◌==◌, slice_range}
use Rattle.std.proofs.lemmas.List.{append-nil}
use Rattle.verify_job.specs.Widths.{follows, span_text}
use Rattle.verify_job.proofs.Runs.{commas, next_comma, no_commas, runs_begin, runs_end}
use Rattle.verify_job.proofs.widths.put_widths.Goals as goal

pub loop-k-init : goal.loop-k-init
loop-k-init c = record {
  within = omega arith;
  text = ap (λ rs. c.args.out.now.items ++ commas true (map span_text rs))
      (runs_begin follows c.args.widths.now);
}

pub put_ended-requires : goal.put_ended-requires
put_ended-requires c = (c.loop-k.invariant.within, c.loop-k-test.true)

pub loop-k-preserved : goal.loop-k-preserved
loop-k-preserved c =
    let r = next_comma span_text follows c.args.widths.now c.loop-k.from c.loop-k.k
    c.loop-k.invariant.within c.loop-k-test.true c.loop-k.out.items c.put_ended.new.out.items _ _
    c.in_ok-from.ensures c.loop-k.invariant.text in
    record { within = r.0; text = r.1 }

pub returns : goal.returns
returns c =
    let none = runs_end follows c.args.widths.now
    (slice_range c.args.widths.now c.loop-k.from c.loop-k.k) c.loop-k.k
    (omega (arith, c.loop-k-test.false)) in
    sym (no_commas c.loop-k.from c.loop-k.out.items)
    ∙ ap (λ rs. c.loop-k.out.items ++ commas (c.loop-k.from == 0) (map span_text rs)) (sym none)
    ∙ c.loop-k.invariant.text
