use Rattle.soak_job.proofs.Common.{[], ◌∷◌, refl, inr}
use Rattle.soak_job.proofs.Small.{program_small}
use Rattle.soak_job.proofs.chip.own_entry.Goals as goal

pub open-requires : goal.open-requires
open-requires c = program_small c.args.file.now (record {
  version = 2;
  programs = c.requires.0 ∷ [];
  is = c.requires.1;
  has = inr refl;
  spelled = c.requires.2;
})
