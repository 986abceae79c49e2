use Rattle.uprog_gen.proofs.Common.{◌≡◌, ◌∙◌, ◌≤◌, ap, map, length, refl, arith, take_all, Param}
use Rattle.uprog_gen.proofs.Common.{operation, scratch_is_small}
use Rattle.uprog_gen.proofs.head.head_of.Goals as goal

pub overflow_cast-result : goal.overflow_cast-result
overflow_cast-result c =
    let few = scratch_is_small (operation c.args.op.now) c.requires.meets in
    omega (arith, few.bits, rw c.deref.ensures.value at c.most_needed-most.ensures.bits)

pub overflow_add-result : goal.overflow_add-result
overflow_add-result c =
    let few = scratch_is_small (operation c.args.op.now) c.requires.meets in
    let need = rw c.deref.ensures.value at c.most_needed-most.ensures.bits in
    omega (arith, few.bits, c.requires.names.bits, need)

pub overflow_cast-result-2 : goal.overflow_cast-result-2
overflow_cast-result-2 c =
    let few = scratch_is_small (operation c.args.op.now) c.requires.meets in
    omega (arith, few.words, rw c.deref.ensures.value at c.most_needed-most.ensures.words)

pub overflow_add-result-2 : goal.overflow_add-result-2
overflow_add-result-2 c =
    let few = scratch_is_small (operation c.args.op.now) c.requires.meets in
    let need = rw c.deref.ensures.value at c.most_needed-most.ensures.words in
    omega (arith, few.words, c.requires.names.words, need)

pub returns-clause-shape : goal.returns-clause-shape
returns-clause-shape c =
    let params = c.args.op.now.params.items in
    let bits = rw c.deref.ensures.value at c.most_needed-most.ensures.bits in
    let words = rw c.deref.ensures.value at c.most_needed-most.ensures.words in
    let all : length params ≤ c.loop-param.param-index =
    omega (arith, c.loop-param-test.false, ap length c.deref-param-items.ensures.value) in
    let sources : c.loop-param.sources.items ≡ map (λ (p : Param). p.kind) params =
    c.loop-param.invariant ∙ ap (map (λ (p : Param). p.kind))
    (take_all c.loop-param.param-index params all) in
    rw (
      sources,
      bits,
      words,
      c.requires.names.bits,
      c.requires.names.words,
      c.kind_of_second.ensures,
    ) refl
