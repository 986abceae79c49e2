use Rattle.machine_model.proofs.InOrder.{wave_steps}
use Rattle.machine_model.proofs.Pieces.{wave_counted}
use Rattle.machine_model.proofs.waves_are_steps.Goals as goal

pub returns : goal.returns
returns c = record {
  steps = wave_steps;
  counted = wave_counted;
}
