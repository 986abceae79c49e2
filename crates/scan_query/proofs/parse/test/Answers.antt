use Rattle.scan_query.proofs.Common.{[], ◌∷◌, ◌∙◌, refl}
use Rattle.scan_model.specs.Texts as model
use Rattle.scan_query.specs.Reading.{left, seen}
use Rattle.scan_query.proofs.Taking.{exits, fails_along}
use Rattle.scan_query.proofs.Spelling.{test_reads}
use Rattle.scan_query.proofs.parse.test.Goals as goal

pub returns-in_err-symbol-clause-moves : goal.returns-in_err-symbol-clause-moves
returns-in_err-symbol-clause-moves c = exits (model.Open ∷ model.Object ∷ model.Close ∷ [])
    _ _ _ (λ x. []) _
    c.from_residual.ensures.1 (λ more. c.in_err-symbol.ensures.moves (model.Object ∷ model.Close
    ∷ more))

pub returns-in_err-place-clause-moves : goal.returns-in_err-place-clause-moves
returns-in_err-place-clause-moves c = exits (model.Open ∷ model.Object ∷ model.Close ∷ [])
    _ _ _ (λ x. []) _
    c.from_residual-in_err-place.ensures.1 (λ more. fails_along _ (c.in_ok-symbol.ensures.moves
    (model.Object ∷ model.Close ∷ more)) (c.in_err-place.ensures.moves (model.Close ∷ more)))

pub returns-in_err-value-clause-moves : goal.returns-in_err-value-clause-moves
returns-in_err-value-clause-moves c = exits (model.Open ∷ model.Object ∷ model.Close ∷ [])
    _ _ _ (λ x. []) _
    c.from_residual-in_err-value.ensures.1 (λ more. fails_along _ (c.in_ok-symbol.ensures.moves
    (model.Object ∷ model.Close ∷ more) ∙ c.in_ok-place.ensures.moves (model.Close
    ∷ more)) (c.in_err-value.ensures.moves (model.Close ∷ more)))

pub returns-in_err-symbol-2-clause-moves : goal.returns-in_err-symbol-2-clause-moves
returns-in_err-symbol-2-clause-moves c = exits (model.Open ∷ model.Object ∷ model.Close ∷ [])
    _ _ _ (λ x. []) _
    c.from_residual-in_err-symbol-2.ensures.1 (λ more. fails_along _ (c.in_ok-symbol.ensures.moves
    (model.Object ∷ model.Close ∷ more) ∙ c.in_ok-place.ensures.moves (model.Close ∷ more)
    ∙ c.in_ok-value.ensures.moves (model.Close ∷ more)) (c.in_err-symbol-2.ensures.moves more))

pub returns-clause-reads : goal.returns-clause-reads
returns-clause-reads c = test_reads c.push.result c.args.op c.in_ok-place.place c.in_ok-value.value
    (left (seen c.args.parser.now)) (left (seen c.symbol.new.parser))
    (left (seen c.operand.new.parser)) (left (seen c.bound.new.parser)) (seen c.symbol-2.new.parser)
    c.args.nodes.now.items c.push.new.nodes.items _
    c.in_ok-symbol.ensures.spells c.in_ok-place.ensures.spells
    c.in_ok-value.ensures.spells c.in_ok-symbol-2.ensures.spells
    c.push.ensures.last c.push.ensures.nodes refl
