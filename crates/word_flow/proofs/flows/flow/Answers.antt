use Rattle.word_flow.proofs.Common.{◌-◌, arith}
use Rattle.word_flow.proofs.Built.{flows_more, line_at}
use Rattle.word_flow.proofs.flows.flow.Goals as goal

pub begun-requires : goal.begun-requires
begun-requires c =
    let some = c.loop-k-test.true in
    let w = c.loop-k.invariant.within in
    line_at c.args.lines.now (c.loop-k.k - 1) _ c.requires (omega (arith, some, w))

pub loop-k-preserved : goal.loop-k-preserved
loop-k-preserved c =
    let h = c.loop-k.invariant in
    let s = c.in_ok-f.ensures in
    record {
      within = let w = h.within in omega (arith, w);
      built = flows_more c.args.owners.now c.args.lines.now c.loop-k.k _ c.loop-k.flows.items
          c.begun.new.flows.items c.keep.new.items.items c.in_ok-f.f c.loop-k-test.true h.within
          h.built (s.first _ h.built) (s.others _ h.built) c.in_ok-keep.ensures;
    }
