use Rattle.uprog_bin.proofs.Common.{◌∙◌}
use Rattle.uprog_bin.proofs.Listings.{has_name_is}
use Rattle.uprog_bin.proofs.directory.has_name.Goals as goal

pub returns : goal.returns
returns c = c.any_named.ensures ∙ has_name_is c.args.earlier.now c.args.name.now
