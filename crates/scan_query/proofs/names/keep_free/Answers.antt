use Rattle.scan_query.proofs.Common.{◌∙◌, ◌++◌, ◌∷◌, [], ap, sym, arith, append-nil, take, length}
use Rattle.scan_query.proofs.Common.{cond}
use Rattle.scan_query.proofs.Naming.{take_few, take_full}
use Rattle.scan_query.proofs.names.keep_free.Goals.{else-is_free-via-then-is_free+else-len-lt-NAMES}
use Rattle.scan_query.proofs.names.keep_free.Goals.{else-is_free-via-else-is_free}
use Rattle.scan_query.proofs.names.keep_free.Goals as goal

pub returns-then-len-lt-NAMES : goal.returns-then-len-lt-NAMES
returns-then-len-lt-NAMES c = λ all e.
    let n = c.args.name in
    let size = ap length e in
    c.push.ensures.items ∙ ap (λ xs. xs ++ n ∷ []) e
    ∙ take_few 65 all n (omega (arith, size, c.if-len-lt-NAMES.true, c.len.ensures.value))
    ∙ ap (λ b. take 65 (all ++ cond b (n ∷ []) []))
    (sym (sym c.is_free.ensures ∙ c.if-is_free.true))

pub returns-else-is_free : goal.returns-else-is_free
returns-else-is_free c = λ all e.
    let n = c.args.name in
    let size = ap length e in
    elim c.else-is_free.branch [
      | else-is_free-via-then-is_free+else-len-lt-NAMES w ↦ e
          ∙ take_full 65 all _ (omega (arith, size, w.if-len-lt-NAMES.false, w.len.ensures.value))
      | else-is_free-via-else-is_free w ↦ e ∙ ap (take 65) (sym (append-nil all))
          ∙ ap (λ b. take 65 (all ++ cond b (n ∷ []) []))
          (sym (sym c.is_free.ensures ∙ w.if-is_free.false))
    ]
