use Rattle.uprog_bin.proofs.Common.{◌+◌, ◌-◌, ◌/◌, ◌∷◌, [], ◌++◌, List, ap, ◌∙◌, arith, Kind}
use Rattle.uprog_bin.specs.Reading.{kinds_of}
use Rattle.uprog_bin.proofs.Listings.{kinds_more}
use Rattle.uprog_bin.proofs.directory.kinds_of.Goals as goal

pub loop-k-preserved : goal.loop-k-preserved
loop-k-preserved c =
    let k = c.loop-k in
    let left = kinds_of (c.args.count - (k._k + 1)) (k.rest / 2) in
    record {
      len = omega (arith, c.push.ensures.len, k.invariant.len);
      so_far =
          ap (λ (ks : List Kind). ks ++ left) c.push.ensures.items
          ∙ ap (λ (x : Kind). (k.kinds.items ++ x ∷ []) ++ left) c.kind_of_bit.ensures
          ∙ kinds_more k.kinds.items c.args.count k._k k.rest (kinds_of c.args.count c.args.bits)
          c.loop-k-test.true k.invariant.so_far;
    }
