use Rattle.std.proofs.Common.{arith}
use Rattle.std.proofs.lemmas.Map.Text.{text_keys}
use Rattle.host_edge.proofs.mem_folder.count_load_fault.Goals as goal

pub returns-in-Some-clause-files : goal.returns-in-Some-clause-files
returns-in-Some-clause-files c = λ q. grind (arith, text_keys)

pub returns-in-Some-clause-counts : goal.returns-in-Some-clause-counts
returns-in-Some-clause-counts c = λ q. grind (arith, text_keys)

pub returns-in-Some-clause-none_falls : goal.returns-in-Some-clause-none_falls
returns-in-Some-clause-none_falls c = λ q. grind (arith, text_keys)
