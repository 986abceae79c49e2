use Rattle.object_alloc.proofs.Common.{List, ℕ, ap, sym, ◌∙◌, ◌++◌, arith, append_assoc, take}
use Rattle.object_alloc.proofs.Common.{flat_map}
use Rattle.object_alloc.specs.Listed.{Named}
use Rattle.object_alloc.specs.Spelling.{object_bytes}
use Rattle.object_alloc.proofs.Written.{objects_more}
use Rattle.object_alloc.proofs.spelling.put_objects.Goals as goal

pub loop-k-preserved : goal.loop-k-preserved
loop-k-preserved c =
    let named : Named = c.at-name.result in
    let pairs : List Named = c.args.table.now.pairs in
    let front : List ℕ = flat_map object_bytes (take c.loop-k.k pairs) in
    record {
      items = c.append.ensures.items ∙ ap (λ (xs : List ℕ). c.loop-k.out.items
          ++ xs) c.record_of.ensures
          ∙ ap (λ (xs : List ℕ). xs ++ object_bytes named) c.loop-k.invariant.items
          ∙ append_assoc c.args.out.now.items front (object_bytes named)
          ∙ ap (λ (xs : List ℕ). c.args.out.now.items
          ++ xs) (sym (objects_more pairs c.loop-k.k named c.at-name.ensures));
      len = omega arith;
      room = omega arith;
    }
