use Rattle.scan_query.proofs.Common.{◌∙◌, ap, arith}
use Rattle.text_lex.specs.Spelled.{fits_name}
use Rattle.scan_model.proofs.FreeNames.{scan_fits}
use Rattle.scan_query.proofs.names.scan_name.Goals as goal

pub named-requires : goal.named-requires
named-requires c = ap fits_name (c.as_slice.ensures.value ∙ c.scan_text-text.ensures)
    ∙ scan_fits c.args.i (omega (arith, c.requires))
