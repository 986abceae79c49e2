use Rattle.simdram_cli.proofs.Common.{refl, sym}
use Rattle.simdram_cli.proofs.WidthLists.{widths_by}
use Rattle.simdram_cli.proofs.words.cost_on.Goals as goal

pub returns-in-Some-clause-numbers : goal.returns-in-Some-clause-numbers
returns-in-Some-clause-numbers c =
    widths_by c.in-Some.widths (λ w. w.items) (λ ws. record { items = ws }) c.args.word.now
    (λ ws. refl) (sym c.in-Some.ensures)
