use Rattle.wave_model.proofs.Prefixes.{wave_stops}
use Rattle.wave_model.proofs.Sums.{wave_counts}
use Rattle.wave_model.proofs.Waves.{turns_whole, wave_banks}
use Rattle.wave_model.proofs.every_bank_follows_its_queue.Goals as goal

pub returns : goal.returns
returns c = record {
  whole = turns_whole;
  follows = wave_banks;
  stops = wave_stops;
  counts = wave_counts;
}
