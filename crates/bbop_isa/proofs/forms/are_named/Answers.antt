use Rattle.std.proofs.Common.{◌∙◌}
use Rattle.bbop_isa.proofs.Checked.{all_seen}
use Rattle.bbop_isa.proofs.forms.are_named.Goals as goal

pub returns : goal.returns
returns c = c.all_have_names.ensures ∙ all_seen c.args.places.now
