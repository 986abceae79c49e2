use Rattle.op_print.proofs.Heads.{on-ok, head-written}
use Rattle.op_print.proofs.print.put_head.Goals as goal

pub returns : goal.returns
returns c = on-ok c.put-2.result _ _ (λ s. head-written c.args.out.now.items _ _ _ _ _ _ _
    c.in_ok-put_sources.ensures c.in_ok-put.ensures c.in_ok-put_results.ensures s) c.put-2.ensures
