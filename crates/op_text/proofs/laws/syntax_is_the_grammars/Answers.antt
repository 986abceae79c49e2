use Rattle.grammar.proofs.Found.{syntax_is_the_grammars}
use Rattle.op_text.specs.Rules.{nothing_yet, operation_texts}
use Rattle.op_text.specs.Trees.{IsText}
use Rattle.op_text.proofs.Link.{facts}
use Rattle.op_text.proofs.laws.syntax_is_the_grammars.Goals as goal

pub returns : goal.returns
returns c = λ items. syntax_is_the_grammars operation_texts IsText facts nothing_yet items
