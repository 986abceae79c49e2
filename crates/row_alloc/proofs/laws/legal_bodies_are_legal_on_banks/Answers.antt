use Rattle.row_alloc.proofs.OnBanks.{legal-on-banks}
use Rattle.row_alloc.proofs.laws.legal_bodies_are_legal_on_banks.Goals as goal

pub returns : goal.returns
returns c = legal-on-banks
