use Rattle.std.proofs.Common.{length}
use Rattle.loop_ir.proofs.wells.+steps_are_well_formed.Given as goal

abbrev pub decreases-steps_are_well_formed : goal.decreases-steps_are_well_formed
decreases-steps_are_well_formed l = length l.steps.now
