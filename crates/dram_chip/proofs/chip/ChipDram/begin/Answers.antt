use Rattle.std.proofs.Common.{refl}
use Rattle.dram_chip.proofs.Begun.{banks-begun}
use Rattle.dram_chip.proofs.chip.ChipDram.begin.Goals as goal

pub returns-in-Ok-clause-began : goal.returns-in-Ok-clause-began
returns-in-Ok-clause-began c = record {
  begun = banks-begun _ c.args.g c.in-Ok.banks.items refl c.requires c.in-Ok.ensures.banks;
  geometry = refl;
  banks = c.in-Ok.ensures.blank;
  counters = refl;
  log = tt;
}
