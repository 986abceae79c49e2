use Rattle.guard_model.proofs.Whole.{triples_kept, refused_stays, all_or_none}
use Rattle.guard_model.proofs.tables_stay_guarded.Goals as goal

pub returns : goal.returns
returns c = record { kept = triples_kept; stays = refused_stays; even = all_or_none }
