use Rattle.width_entry.proofs.Budget.{issues_same}
use Rattle.width_entry.proofs.laws.other_widths_stay.Goals as goal

pub returns : goal.returns
returns c = issues_same
