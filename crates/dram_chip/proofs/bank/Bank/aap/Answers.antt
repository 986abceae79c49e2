use Rattle.std.proofs.Common.{◌≡◌, ◌∙◌, ◌<◌, ap, arith, Bool}
use Rattle.dram_model.specs.Column.{Column, settle as settle_of, sense as sense_of, step}
use Rattle.dram_model.specs.Column.{read as read_of}
use Rattle.dram_model.specs.declared.address.Addr.{Addr}
use Rattle.dram_model.specs.declared.address.Command.TheVariants.{Ap, Aap}
use Rattle.dram_chip.specs.Rows.{column_at, columns_of}
use Rattle.dram_chip.proofs.bank.Bank.aap.Goals as goal

-- AP(x), and then y takes what was sensed
then-second : (x y : Addr) (v : Bool) (s t u : Column) → v ≡ sense_of x s → t ≡ step (Ap x) s
    → u ≡ settle_of y v t → u ≡ step (Aap x y) s
then-second x y v s t u e f g = g ∙ ap (settle_of y v) f ∙ ap (λ b. settle_of y b (step (Ap x) s)) e

pub returns-clause-stepped : goal.returns-clause-stepped
returns-clause-stepped c = λ k h.
    let below : k < columns_of c.activate-wire.new.self =
    omega (arith, c.activate-wire.ensures.columns) in
    then-second c.args.x c.args.y (read_of (column_at c.activate-wire.new.self k)
    c.activate-wire.result.line) (column_at c.args.self.now k) (column_at c.activate-wire.new.self k)
    (column_at c.settle.new.self k)
    (c.activate-wire.ensures.sensed k h) (c.activate-wire.ensures.stepped k h)
    (c.settle.ensures.settled k below)
