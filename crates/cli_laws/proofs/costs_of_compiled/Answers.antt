use Rattle.cli_laws.proofs.Costs as costs
use Rattle.cli_laws.proofs.costs_of_compiled.Goals as goal

pub returns : goal.returns
returns c = costs.costs_of_compiled
