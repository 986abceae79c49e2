use Rattle.loop_front.proofs.Common.{length, ◌-◌, ◌∙◌, take, drop, arith, get_or, flow_of, Zero}
use Rattle.std.proofs.lemmas.Result.{IfOk-weaker}
use Rattle.loop_front.specs.Moments.{moves_at}
use Rattle.loop_front.proofs.Built.{put_first, first_is}
use Rattle.loop_front.proofs.moves.+put_subs.Goals as goal

pub returns-in_ok-next-in-len1-up : goal.returns-in_ok-next-in-len1-up
returns-in_ok-next-in-len1-up t c =
    let subs = c.args.subs.now in
    let rest = take (length subs - 1) (drop 1 subs) in
    let mid = flow_of c.in_ok-next-in-len1-up.next in
    IfOk-weaker c.put_sub.result _ _ (λ f e. e ∙ put_first (moves_at c.args.moment) subs rest
    (get_or subs 0 Zero) c.args.r mid (flow_of c.args.next)
    (first_is subs Zero (omega (arith, c.in-len1-up.len_at_least)))
    c.in_ok-next-in-len1-up.ensures) c.put_sub.ensures
