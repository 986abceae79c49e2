use Rattle.machine_model.proofs.Cut.{pieces_are_cut}
use Rattle.machine_model.proofs.Parts.{scripts_go_on, pieces_go_on, waves_are_answered}
use Rattle.machine_model.proofs.Parts.{lines_go_on}
use Rattle.machine_model.proofs.scripts_go_on.Goals as goal

pub returns : goal.returns
returns c = record {
  cut = pieces_are_cut;
  scripts = scripts_go_on;
  pieces = pieces_go_on;
  waves = waves_are_answered;
  lines = lines_go_on;
}
