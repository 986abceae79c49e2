use Rattle.cmd_trace.proofs.Common.{◌+◌, ◌*◌, List, ℕ, length, ap, subst, arith, ◌∙◌, to_le_bytes}
use Rattle.cmd_trace.proofs.Common.{w16, w32}
use Rattle.cmd_trace.specs.Places.{IsPut}
use Rattle.cmd_trace.proofs.Places.{head_put}
use Rattle.cmd_trace.proofs.head.put_head.Goals as goal

pub returns-clause-put : goal.returns-clause-put
returns-clause-put c =
    let end = c.args.at + 14 + 24 * c.from.result in
    let number : IsPut (c.args.at + 12) (to_le_bytes w16 (length c.args.table.now.pairs))
    c.put_opening.new.out c.put_at.new.out =
    subst (λ (b : List ℕ). IsPut (c.args.at + 12) b c.put_opening.new.out c.put_at.new.out)
    (c.to_le_bytes.ensures ∙ ap (to_le_bytes w16) c.len.ensures.value) c.put_at.ensures in
    let count : IsPut end (to_le_bytes w32 c.args.count) c.put_objects.new.out c.put_at-2.new.out =
    subst (λ (b : List ℕ). IsPut end b c.put_objects.new.out c.put_at-2.new.out)
    c.to_le_bytes-2.ensures c.put_at-2.ensures in
    head_put c.args.at end c.args.out.now c.put_opening.new.out c.put_at.new.out
    c.put_objects.new.out c.put_at-2.new.out c.args.g c.args.table.now.pairs c.args.count
    (omega (arith, c.requires)) c.put_objects.ensures.len
    (omega (arith, c.from.ensures, c.len-2.ensures.value)) c.put_opening.ensures number
    c.put_objects.ensures.put count
