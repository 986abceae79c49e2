use Rattle.op_text.proofs.Bounds as m
use Rattle.op_text.proofs.laws.meaning_fits.Goals as goal

pub returns : goal.returns
returns c = m.meaning_fits
