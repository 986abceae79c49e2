use Rattle.soak_job.proofs.Common.{◌≡◌, ◌%◌, ◌^◌, ◌+◌, ◌∙◌, ap, sym, refl, arith, subst, take, map}
use Rattle.soak_job.proofs.Common.{suc, range_with_len}
use Rattle.std.proofs.Common.{length-set}
use Rattle.std.proofs.lemmas.List.{take_all}
use Rattle.soak_job.specs.Words.{following, elements, value_at}
use Rattle.soak_job.proofs.Counting.{drawn_parts, shifted, values_more}
use Rattle.soak_job.proofs.words.draw.Goals as goal

pub loop-i-init : goal.loop-i-init
unfolding following
loop-i-init c = record { len = refl; front = refl; state = refl }

pub loop-i-preserved : goal.loop-i-preserved
unfolding following
loop-i-preserved c =
    let h = c.loop-i.invariant in
    let parts = drawn_parts c.next_word.result c.next_word.new.self _ c.loop-i.generator
    c.next_word.ensures h.state in
    let cut = ap (λ m. c.from.result % m) (shifted c.args.bits c.requires) in
    let one : suc c.loop-i.i ≡ c.loop-i.i + 1 = omega arith in
    record {
      len = length-set c.loop-i.values c.loop-i.i _ ∙ h.len;
      front = values_more c.loop-i.values (value_at c.args.generator.now c.args.bits) c.loop-i.i _
          (omega (arith, h.len)) (cut ∙ ap (λ w. w % 2 ^ c.args.bits) (c.from.ensures ∙ parts.0))
          h.front;
      state = parts.1 ∙ ap (following c.args.generator.now) one;
    }

pub returns-clause-values : goal.returns-clause-values
returns-clause-values c =
    let h = c.loop-i.invariant in
    let end : c.loop-i.i ≡ elements = omega arith in
    sym (take_all elements c.loop-i.values (omega (arith, h.len)))
    ∙ subst (λ n. take n c.loop-i.values
    ≡ map (value_at c.args.generator.now c.args.bits) (range_with_len 0 n)) end h.front
