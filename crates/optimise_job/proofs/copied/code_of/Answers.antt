use Rattle.optimise_job.proofs.Common.{◌++◌, ◌∷◌, [], ap, ◌∙◌, sym}
use Rattle.optimise_job.proofs.Pushed.{taken}
use Rattle.optimise_job.proofs.copied.code_of.Goals as goal

pub loop-at-preserved : goal.loop-at-preserved
loop-at-preserved g c =
    c.in_ok-keep.ensures
    ∙ ap (λ us. us ++ c.fetch.result ∷ []) c.loop-at.invariant
    ∙ sym (taken (g.F.Fetch.code c.args.entry.now) c.loop-at.at c.fetch.result c.fetch.ensures)
