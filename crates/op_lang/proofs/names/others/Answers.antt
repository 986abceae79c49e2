use Rattle.op_lang.proofs.Common.{ap, sym, not, Bool, List, ℕ, ◌∙◌, is_among}
use Rattle.op_lang.proofs.Loops.{passed-more, passed-same}
use Rattle.op_lang.proofs.names.others.Goals as goal
use Rattle.op_lang.proofs.names.others.Goals.{then-not-is_among+in_ok-keep, else-not-is_among}

pub loop-name-preserved : goal.loop-name-preserved
loop-name-preserved c =
    let i = c.loop-name.name-index in
    let x = c.name-item.result in
    let names = c.args.names.now in
    let p : List ℕ → Bool = λ n. not (is_among c.args.without.now n) in
    elim c.if-not-is_among.branch [
      | then-not-is_among+in_ok-keep w ↦ passed-more p names _ _ i x _ c.loop-name.invariant
          (ap (λ v. v.items) w.kept-is ∙ w.in_ok-keep.ensures) w.copied.ensures
          c.loop-name-test.true c.name-item.is
          (ap not (sym (rw c.bytes.ensures.value at w.if-not-is_among.ensures)))
      | else-not-is_among w ↦ passed-same p names _ _ i x c.loop-name.invariant
          (ap (λ v. v.items) w.kept-is) c.loop-name-test.true c.name-item.is
          (ap not (sym (rw c.bytes.ensures.value at w.if-not-is_among.ensures)))
    ]
