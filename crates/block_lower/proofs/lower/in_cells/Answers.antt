use Rattle.block_lower.proofs.Common.{sym, IfSome, subst, arith, inl, inr, refl, IfSome_then}
use Rattle.block_lower.proofs.Common.{IfOk-weaker, slots_of, block_of, steps_of}
use Rattle.block_lower.specs.Choice.{IsOther}
use Rattle.block_lower.specs.Held.{IsLoopFor}
use Rattle.block_lower.proofs.OneCell.{loop-chosen, one-item}
use Rattle.block_lower.proofs.lower.in_cells.Goals as goal

-- that of another
pub returns-in-Some : goal.returns-in-Some
returns-in-Some c =
    let s = c.state-item.result in
    let body = block_of c.args.body.now in
    let r = c.in-Some.other in
    let place = c.place_of-place.result in
    let most = c.len-most.result in
    let e = c.in_ok-other-in-len1.ensures in
    let found = c.len-most.ensures in
    let n = c.in-len1 in
    IfOk-weaker c.into_program.result _ _ (λ o h. IfSome_then o h (λ p f.
    loop-chosen (slots_of c.args.names.now) c.args.down c.args.states.now s body (block_of r.body)
    r.held (steps_of p) place most (one-item c.args.states.now s s
    (omega (arith, n.len_at_least, n.len_below)) (sym c.state-item.is)) c.place_of-place.ensures
    (omega (arith, found)) (subst (λ o. IfSome o (λ r. IsLoopFor place s.start (block_of r.body)
    most r.held)) c.in-Some.is e.held) (inr (subst (λ o. IfSome o (λ r. IsOther body
    (block_of r.body))) c.in-Some.is e.other)) f)) c.into_program.ensures

-- the body's own loop
pub returns-in-Some-own : goal.returns-in-Some-own
returns-in-Some-own c =
    let s = c.state-item.result in
    let body = block_of c.args.body.now in
    let place = c.place_of-place.result in
    let most = c.len-most.result in
    let found = c.len-most.ensures in
    let n = c.in-len1 in
    IfOk-weaker c.into_program-in-Some-own.result _ _ (λ o h. IfSome_then o h (λ p f.
    loop-chosen (slots_of c.args.names.now) c.args.down c.args.states.now s body body
    c.in-Some-own.own (steps_of p) place most (one-item c.args.states.now s s
    (omega (arith, n.len_at_least, n.len_below)) (sym c.state-item.is)) c.place_of-place.ensures
    (omega (arith, found)) (subst (λ o. IfSome o (IsLoopFor place s.start body most))
    c.in-Some-own.is c.in_ok-own-in-len1.ensures) (inl refl) f)) c.into_program-in-Some-own.ensures
