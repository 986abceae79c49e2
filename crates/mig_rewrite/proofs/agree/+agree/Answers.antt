use Rattle.mig_rewrite.proofs.Common.{◌≡◌, ◌∙◌, ◌+◌, ◌<◌, ◌-◌, ℕ, length, subst, sym, arith}
use Rattle.mig_rewrite.proofs.Common.{false≢true}
use Rattle.mig_rewrite.specs.Plan.{is_marked}
use Rattle.mig_rewrite.specs.Values.{FitsFrom, Agree}
use Rattle.mig_rewrite.proofs.Agreeing.{fits-before, fits-after, either}
use Rattle.mig_rewrite.proofs.agree.+agree.Goals as goal

pub returns-then-free-eq0-clause-agree : goal.returns-then-free-eq0-clause-agree
returns-then-free-eq0-clause-agree t c = (
  λ yes v fits. c.agree_at.ensures.agree.0 yes v
      (subst (λ k. FitsFrom k c.args.bits.now v) c.if-free-eq0.true fits),
  λ all. c.agree_at.ensures.agree.1 (λ v fits. all v
      (subst (λ k. FitsFrom k c.args.bits.now v) (sym c.if-free-eq0.true) fits)),
)

pub returns-then-not-agree-clause-agree : goal.returns-then-not-agree-clause-agree
returns-then-not-agree-clause-agree t c =
    let last = c.args.free - 1 in
    let e : c.args.free ≡ last + 1 = omega (arith, c.if-free-eq0.false) in (
      λ yes. absurd (false≢true yes),
      λ all. sym c.if-not-agree.true ∙ c.agree.ensures.agree.1 (λ v fits. all v
          (fits-after c.args.free last c.args.bits.now c.put.new.values v c.put.ensures.long e fits
          (λ j above. c.put.ensures.others j (omega (arith, above))))),
    )

pub returns-clause-agree : goal.returns-clause-agree
returns-clause-agree t c =
    let old = c.args.bits.now in
    let last = c.args.free - 1 in
    let e : c.args.free ≡ last + 1 = omega (arith, c.if-free-eq0.false) in
    let first-long : length c.put.new.values ≡ length old = c.put.ensures.long in
    let second-long : length c.put-2.new.values ≡ length old =
    c.put-2.ensures.long ∙ c.agree.ensures.bits ∙ first-long in
    let others : (j : ℕ) → last < j → is_marked c.put-2.new.values j ≡ is_marked old j =
    λ j above. c.put-2.ensures.others j (omega (arith, above))
    ∙ c.agree.ensures.kept j (omega (arith, above))
    ∙ c.put.ensures.others j (omega (arith, above)) in (
      λ yes v fits. either (v last) (Agree c.args.m.now.mig c.args.m.now.outs.items
          c.args.r.now.mig c.args.r.now.outs.items v) (λ zero.
          c.agree.ensures.agree.0 c.if-not-agree.false v
          (fits-before c.args.free last old c.put.new.values v first-long e fits
          (c.put.ensures.here ∙ sym zero) (λ j above.
          c.put.ensures.others j (omega (arith, above)))))
          (λ one. c.agree-2.ensures.agree.0 yes v
          (fits-before c.args.free last old c.put-2.new.values v second-long e fits
          (c.put-2.ensures.here ∙ sym one) others)),
      λ all. c.agree-2.ensures.agree.1 (λ v fits. all v
          (fits-after c.args.free last old c.put-2.new.values v second-long e fits others)),
    )
