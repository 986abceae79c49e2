use Rattle.scan_query.proofs.Common.{[], ◌∷◌, ◌∙◌, refl}
use Rattle.scan_model.specs.Texts as model
use Rattle.scan_query.specs.Reading.{left, seen}
use Rattle.scan_query.proofs.Spelling.{join_reads, not_reads}
use Rattle.scan_query.proofs.Taking.{exits, fails_along}
use Rattle.scan_query.proofs.parse.+queries.Goals as goal

pub negation-returns-in_err-symbol-clause-moves : goal.negation-returns-in_err-symbol-clause-moves
negation-returns-in_err-symbol-clause-moves t c = exits (model.Open ∷ model.Start ∷ model.Close
    ∷ []) _ _ _ (λ x. []) _
    c.from_residual.ensures.1 (λ more. c.in_err-symbol.ensures.moves (model.Start ∷ model.Close
    ∷ more))

pub negation-returns-in_err-a-clause-moves : goal.negation-returns-in_err-a-clause-moves
negation-returns-in_err-a-clause-moves t c = exits (model.Open ∷ model.Start ∷ model.Close
    ∷ []) _ _ _ (λ x. []) _
    c.from_residual-in_err-a.ensures.1 (λ more. fails_along _ (c.in_ok-symbol.ensures.moves
    (model.Start ∷ model.Close ∷ more)) (c.in_err-a.ensures.moves (model.Close ∷ more)))

pub negation-returns-in_err-symbol-2-clause-moves :
    goal.negation-returns-in_err-symbol-2-clause-moves
negation-returns-in_err-symbol-2-clause-moves t c = exits (model.Open ∷ model.Start ∷ model.Close
    ∷ []) _ _ _ (λ x. []) _
    c.from_residual-in_err-symbol-2.ensures.1 (λ more. fails_along _ (c.in_ok-symbol.ensures.moves
    (model.Start ∷ model.Close ∷ more) ∙ c.in_ok-a.ensures.moves (model.Close
    ∷ more)) (c.in_err-symbol-2.ensures.moves more))

pub join-returns-in_err-symbol-clause-moves : goal.join-returns-in_err-symbol-clause-moves
join-returns-in_err-symbol-clause-moves t c = exits (model.Open ∷ model.Start ∷ model.Between
    ∷ model.Start ∷ model.Close ∷ []) _ _ _ (λ x. []) _
    c.from_residual.ensures.1 (λ more. c.in_err-symbol.ensures.moves (model.Start ∷ model.Between
    ∷ model.Start ∷ model.Close ∷ more))

pub join-returns-in_err-a-clause-moves : goal.join-returns-in_err-a-clause-moves
join-returns-in_err-a-clause-moves t c = exits (model.Open ∷ model.Start ∷ model.Between
    ∷ model.Start ∷ model.Close ∷ []) _ _ _ (λ x. []) _
    c.from_residual-in_err-a.ensures.1 (λ more. fails_along _ (c.in_ok-symbol.ensures.moves
    (model.Start ∷ model.Between ∷ model.Start ∷ model.Close
    ∷ more)) (c.in_err-a.ensures.moves (model.Between ∷ model.Start ∷ model.Close ∷ more)))

pub join-returns-in_err-symbol-2-clause-moves : goal.join-returns-in_err-symbol-2-clause-moves
join-returns-in_err-symbol-2-clause-moves t c = exits (model.Open ∷ model.Start ∷ model.Between
    ∷ model.Start ∷ model.Close ∷ []) _ _ _ (λ x. []) _
    c.from_residual-in_err-symbol-2.ensures.1 (λ more. fails_along _ (c.in_ok-symbol.ensures.moves
    (model.Start ∷ model.Between ∷ model.Start ∷ model.Close
    ∷ more) ∙ c.in_ok-a.ensures.moves (model.Between ∷ model.Start ∷ model.Close
    ∷ more)) (c.in_err-symbol-2.ensures.moves (model.Start ∷ model.Close ∷ more)))

pub join-returns-in_err-b-clause-moves : goal.join-returns-in_err-b-clause-moves
join-returns-in_err-b-clause-moves t c = exits (model.Open ∷ model.Start ∷ model.Between
    ∷ model.Start ∷ model.Close ∷ []) _ _ _ (λ x. []) _
    c.from_residual-in_err-b.ensures.1 (λ more. fails_along _ (c.in_ok-symbol.ensures.moves
    (model.Start ∷ model.Between ∷ model.Start ∷ model.Close
    ∷ more) ∙ c.in_ok-a.ensures.moves (model.Between ∷ model.Start ∷ model.Close
    ∷ more) ∙ c.in_ok-symbol-2.ensures.moves (model.Start ∷ model.Close
    ∷ more)) (c.in_err-b.ensures.moves (model.Close ∷ more)))

pub join-returns-in_err-symbol-3-clause-moves : goal.join-returns-in_err-symbol-3-clause-moves
join-returns-in_err-symbol-3-clause-moves t c = exits (model.Open ∷ model.Start ∷ model.Between
    ∷ model.Start ∷ model.Close ∷ []) _ _ _ (λ x. []) _
    c.from_residual-in_err-symbol-3.ensures.1 (λ more. fails_along _ (c.in_ok-symbol.ensures.moves
    (model.Start ∷ model.Between ∷ model.Start ∷ model.Close
    ∷ more) ∙ c.in_ok-a.ensures.moves (model.Between ∷ model.Start ∷ model.Close
    ∷ more) ∙ c.in_ok-symbol-2.ensures.moves (model.Start ∷ model.Close
    ∷ more) ∙ c.in_ok-b.ensures.moves (model.Close
    ∷ more)) (c.in_err-symbol-3.ensures.moves more))

pub negation-returns-clause-reads : goal.negation-returns-clause-reads
negation-returns-clause-reads t c = not_reads c.push.result c.in_ok-a.a
    (left (seen c.args.parser.now)) (left (seen c.symbol.new.parser)) []
    (seen c.query.new.parser) (seen c.symbol-2.new.parser)
    c.args.nodes.now.items c.query.new.nodes.items c.push.new.nodes.items _
    c.in_ok-symbol.ensures.spells c.in_ok-a.ensures.reads c.in_ok-symbol-2.ensures.spells
    c.push.ensures.last c.push.ensures.nodes refl

pub join-returns-clause-reads : goal.join-returns-clause-reads
join-returns-clause-reads t c = join_reads c.push.result c.args.both c.in_ok-a.a c.in_ok-b.b
    (left (seen c.args.parser.now)) (left (seen c.symbol.new.parser)) []
    (left (seen c.symbol-2.new.parser))
    (seen c.query.new.parser) (seen c.query-2.new.parser) (seen c.symbol-3.new.parser)
    c.args.nodes.now.items c.query.new.nodes.items c.query-2.new.nodes.items
    c.push.new.nodes.items _
    c.in_ok-symbol.ensures.spells c.in_ok-a.ensures.reads c.in_ok-symbol-2.ensures.spells
    c.in_ok-b.ensures.reads c.in_ok-symbol-3.ensures.spells
    c.push.ensures.last c.push.ensures.nodes c.join_of.ensures

pub query-returns-in_err-op-clause-moves : goal.query-returns-in_err-op-clause-moves
query-returns-in_err-op-clause-moves t c = exits (model.Start ∷ []) _ _ _ (λ x. []) _
    c.from_residual.ensures.1 c.in_err-op.ensures.moves
