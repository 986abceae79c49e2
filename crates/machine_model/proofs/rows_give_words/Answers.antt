use Rattle.machine_model.proofs.Whole.{rows_give_words, text_gives_words}
use Rattle.machine_model.proofs.Texts.{same_operations}
use Rattle.machine_model.proofs.rows_give_words.Goals as goal

pub returns : goal.returns
returns c = record { rows = rows_give_words; text = text_gives_words; same = same_operations }
