use Rattle.scan_query.proofs.Common.{[], ◌∷◌, sym, ap, map}
use Rattle.scan_model.specs.Texts as model
use Rattle.scan_query.specs.Queries.{node_of}
use Rattle.scan_query.specs.Reading.{breach, seen}
use Rattle.scan_query.proofs.Ending.{exit_finds, is_query}
use Rattle.scan_query.proofs.Taking.{fails_along}
use Rattle.scan_query.proofs.parse.whole.Goals as goal

pub returns-in_err-query-clause-finds : goal.returns-in_err-query-clause-finds
returns-in_err-query-clause-finds c = exit_finds (model.first_breach c.args.text.now) _ _
    c.from_residual.ensures.1 (fails_along _
    (ap (breach (model.Start ∷ [])) (sym c.start-parser.ensures))
    (c.in_err-query.ensures.moves []))

pub returns-clause-nodes : goal.returns-clause-nodes
returns-clause-nodes c = is_query c.texts_spell_queries.ensures c.args.text.now
    (seen c.start-parser.result) (seen c.query.new.parser) c.in_ok-query.field-0
    (map node_of c.new-nodes.result.items) (map node_of c.query.new.nodes.items)
    (ap (map node_of) c.new-nodes.ensures.items) c.start-parser.ensures c.in_ok-query.ensures.reads
    (c.in_ok-query.ensures.moves []) c.in_ok-ends.ensures.finds c.in_ok-ends.ensures.nothing
