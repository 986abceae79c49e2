use Rattle.uprog_bin.proofs.Common.{sym, ap, ◌∙◌, slice_set}
use Rattle.uprog_bin.proofs.Versions.{version_byte}
use Rattle.uprog_bin.proofs.version_two.migrate.Goals as goal

pub returns-clause-program : goal.returns-clause-program
returns-clause-program c = λ v ms is has e. (
  c.in_ok-entries.ensures.program v ms is has e,
  ap (λ bytes. slice_set bytes 4 2) e ∙ sym (version_byte v ms has),
)
