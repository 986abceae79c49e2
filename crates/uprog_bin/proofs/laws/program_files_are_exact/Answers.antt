use Rattle.uprog_bin.proofs.Versions.{file_is_one, version_byte}
use Rattle.uprog_bin.proofs.laws.program_files_are_exact.Goals as goal

pub returns-clause-one : goal.returns-clause-one
returns-clause-one c = file_is_one

pub returns-clause-version : goal.returns-clause-version
returns-clause-version c = version_byte
