use Rattle.scan_model.proofs.Common.{[], syntax_is_the_grammars}
use Rattle.scan_model.specs.Texts.{none_begun, queries}
use Rattle.scan_model.specs.TextLaws.{IsText}
use Rattle.scan_model.proofs.Accepted.{accepted, once}
use Rattle.scan_model.proofs.Faults.{count_faults, name_faults, number_faults, stays}
use Rattle.scan_model.proofs.Grammar.{facts}
use Rattle.scan_model.proofs.texts_spell_queries.Goals as goal

pub returns : goal.returns
returns c = record {
  accepted = accepted;
  once = λ p q e. (once p q [] [] e).0;
  first = stays;
  syntax_faults = λ items. syntax_is_the_grammars queries IsText facts none_begun items;
  name_faults = name_faults;
  number_faults = number_faults;
  count_faults = count_faults;
}
