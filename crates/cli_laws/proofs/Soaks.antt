-- A seed decides what a soak tells.
use Rattle.soak_job.proofs.Same.{soaks_count_the_same, soaks_tell_the_same}
use Rattle.cli_laws.specs.Unique.{OneSoaked}

pub one_soaked : OneSoaked
one_soaked seed a b c d s t = record {
  lines = soaks_tell_the_same seed s.programs t.programs s.are t.are s.left.all t.left.all;
  counters = soaks_count_the_same seed s.programs t.programs b.chip d.chip s.are t.are s.left
      t.left;
}
