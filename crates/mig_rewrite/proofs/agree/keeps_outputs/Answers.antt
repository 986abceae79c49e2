use Rattle.mig_rewrite.proofs.Common.{◌≡◌, ◌∙◌, ap, false, length, sym, arith, length-replicate}
use Rattle.mig_rewrite.proofs.agree.keeps_outputs.Goals as goal

pub returns : goal.returns
returns c =
    let long : length c.deref_mut.result.now ≡ c.inputs-inputs.result =
    ap length (c.deref_mut.ensures.value ∙ c.in_ok-bits.ensures)
    ∙ length-replicate c.inputs-inputs.result false in (
      λ yes. (
        omega (arith, c.if-inputs-gt-MOST_INPUTS.false, c.inputs-inputs.ensures.inputs),
        record {
          inputs = sym (c.inputs.ensures.inputs) ∙ c.if-inputs.false
              ∙ c.inputs-inputs.ensures.inputs;
          long = omega (arith, c.if-len.false, c.len.ensures, c.len-else-inputs.ensures);
          values = λ v. c.agree.ensures.agree.0 yes v (λ j low b. absurd
              (omega (arith, low, b, long)));
        },
      ),
      λ same. c.agree.ensures.agree.1 (λ v fits. same.1.values v),
    )
