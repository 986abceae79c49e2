use Rattle.cmd_trace.proofs.Common.{◌≡◌, ◌+◌, ◌*◌, List, ℕ, length, take, ap, sym, ◌∙◌, arith}
use Rattle.cmd_trace.proofs.Common.{length-append, refl, subst, flat_map, Named, object_bytes}
use Rattle.object_alloc.proofs.Written.{objects_more}
use Rattle.cmd_trace.specs.Places.{IsPut}
use Rattle.cmd_trace.proofs.Places.{put_none, put_then, put_length}
use Rattle.cmd_trace.proofs.head.put_objects.Goals as goal

pub loop-k-init : goal.loop-k-init
loop-k-init c = record { put = put_none c.args.at c.args.out.now; len = refl }

pub put_at-requires : goal.put_at-requires
put_at-requires c =
    let k = c.loop-k in
    let front = flat_map object_bytes (take k.k c.args.table.now.pairs) in
    let few = c.loop-k-test.true in
    let long = put_length c.args.at front c.args.out.now k.out
    (omega (arith, k.invariant.len, c.requires, few, c.len-k-end.ensures.value)) k.invariant.put in
    omega (arith, long, c.requires, few, c.len-k-end.ensures.value)

pub loop-k-preserved : goal.loop-k-preserved
loop-k-preserved c =
    let k = c.loop-k in
    let pairs = c.args.table.now.pairs in
    let named : Named = c.at-name.result in
    let front = flat_map object_bytes (take k.k pairs) in
    let more = objects_more pairs k.k named c.at-name.ensures in
    let one : length (object_bytes named) ≡ 24 = ap length (sym c.record_of.ensures)
    ∙ (omega arith) in
    record {
      put = subst (λ (b : List ℕ). IsPut c.args.at b c.args.out.now c.put_at.new.out) (sym more)
          (put_then c.args.at (c.args.at + 24 * c.from.result) front
          (object_bytes named) c.args.out.now k.out c.put_at.new.out
          (omega (arith, c.requires)) (omega (arith, k.invariant.len, c.from.ensures))
          k.invariant.put
          (subst (λ (b : List ℕ). IsPut (c.args.at + 24 * c.from.result) b k.out
          c.put_at.new.out) c.record_of.ensures
          c.put_at.ensures));
      len = ap length more ∙ length-append front (object_bytes named)
          ∙ omega (arith, one, k.invariant.len);
    }
