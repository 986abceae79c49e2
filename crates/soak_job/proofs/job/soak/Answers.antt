use Rattle.soak_job.proofs.Common.{◌≡◌, List, [], inl, inr, refl, sym, subst, ◌∙◌, AllByRecursion}
use Rattle.soak_job.proofs.Common.{world}
use Rattle.soak_job.specs.declared.cases.Case.{Case}
use Rattle.soak_job.specs.Cases.{soak_cases}
use Rattle.soak_job.specs.Done.{CanBeDone, CasesGo}
use Rattle.soak_job.proofs.Fitting.{all_done}
use Rattle.soak_job.proofs.Going.{chip_broke, soak_goes}
use Rattle.soak_job.proofs.job.soak.Goals as goal

pub soak_cases-requires-clause-can : goal.soak_cases-requires-clause-can
soak_cases-requires-clause-can g c =
    let same : c.as_slice.result.now ≡ soak_cases =
    c.as_slice.ensures.value ∙ c.all_cases-cases.ensures in
    subst (AllByRecursion CanBeDone) (sym same) all_done

pub returns-clause-goes : goal.returns-clause-goes
returns-clause-goes g c files =
    let same : c.as_slice.result.now ≡ soak_cases =
    c.as_slice.ensures.value ∙ c.all_cases-cases.ensures in
    let begun = g.D.Dram.view c.begin.new.self in
    let sink = g.S.Sink.view c.args.out.now in
    let last = world files (g.S.Sink.view c.soak_cases.new.out) (g.D.Dram.view
    c.soak_cases.new.chip)
    in
    soak_goes c.args.seed files sink (g.D.Dram.view c.args.chip.now) begun last c.soak_cases.result
    c.in-Ok.ensures.began c.in-Ok.ensures.unfailed c.soak_cases.ensures.kept
    (subst (λ (cs : List Case). CasesGo c.args.seed cs (world files sink begun) last
    c.soak_cases.result) same
    (subst (λ s. CasesGo s c.as_slice.result.now (world files sink begun) last c.soak_cases.result)
    c.seed_from_u64-generator.ensures.same (c.soak_cases.ensures.goes files)))

pub returns-in-Err-Failed-clause-goes : goal.returns-in-Err-Failed-clause-goes
returns-in-Err-Failed-clause-goes g c files = record {
  programs = [];
  are = tt;
  goes = inr (inr (
    refl,
    chip_broke files (g.S.Sink.view c.args.out.now) (g.D.Dram.view c.args.chip.now)
        (g.D.Dram.view c.begin.new.self) c.begin.ensures.faults,
    c.in-Err-Failed.ensures.failed c.in-Err-Failed.field-0-is,
    inl c.in-Err-Failed.ensures.err,
  ));
  left = tt;
}
