use Rattle.simdram_cli.proofs.Sized.{program_small}
use Rattle.simdram_cli.proofs.run.open_own.Goals as goal

pub open-requires : goal.open-requires
open-requires c = program_small c.args.file.now c.requires
