use Rattle.machine_model.proofs.Sliced.{parts_are_bits}
use Rattle.machine_model.proofs.parts_are_bits.Goals as goal

pub returns : goal.returns
returns c = parts_are_bits
