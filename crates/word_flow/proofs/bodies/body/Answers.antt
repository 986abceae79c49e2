use Rattle.word_flow.proofs.Common.{◌≡◌, ◌∙◌, ◌+◌, ap, length, length-map, and_parts, nat_le, nat_lt}
use Rattle.word_flow.proofs.Common.{four_of, are_own}
use Rattle.word_flow.proofs.bodies.body.Goals as goal

pub templated-requires-clause-named : goal.templated-requires-clause-named
templated-requires-clause-named c =
    let b = c.args.c.now in
    let inputs = length (four_of b.reads) in
    let p = and_parts (nat_le inputs 4) _ c.requires in
    let q = and_parts (nat_le (length (four_of b.nodes)) 6) _ p.1 in
    let r = and_parts (nat_lt 0 (length (four_of b.outs))) _ q.1 in
    let s = and_parts (are_own (inputs + 1) (four_of b.nodes)) _ r.1 in
    let reads : length c.deref-3.result.now ≡ inputs =
    ap length (c.deref-3.ensures.value ∙ c.in_ok-reads.ensures) ∙ length-map _ _ ∙ length-map _ _
    ∙ ap length (c.deref.ensures.value ∙ c.in_ok-four.ensures) in
    rw (
      reads,
      c.deref-4.ensures.value,
      c.in_ok-nodes.ensures,
      c.deref-5.ensures.value,
      c.in_ok-outs.ensures,
    ) s.1
