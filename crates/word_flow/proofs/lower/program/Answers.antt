use Rattle.word_flow.proofs.Common.{◌∙◌, ◌∷◌, [], ap, Flowed, first_of, flows_on, lines_for}
use Rattle.word_flow.proofs.Common.{coded_on}
use Rattle.std.proofs.lemmas.Result.{IfOk-weaker}
use Rattle.word_flow.proofs.Placed.{placed}
use Rattle.word_flow.proofs.lower.program.Goals as goal

pub returns : goal.returns
returns c = let op = c.args.op in
    IfOk-weaker c.alone.result _ _ (λ p is. is ∙ ap (λ x. Flowed x ∷ []) (c.in_ok-f.ensures
    ∙ ap (λ ss. first_of (flows_on (coded_on ss) (lines_for op))) c.owners.ensures
    ∙ placed op c.args.m)) c.alone.ensures
