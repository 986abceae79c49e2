-- The order in force as a turn.
use Rattle.uprog_ctl.specs.declared.pickers.Order.{Order}
use Rattle.uprog_ctl.specs.declared.pickers.Order.TheVariants as order
use Rattle.wave_model.specs.Schedule.{Turn, Ahead, Turning, Drawing}

-- the order in force that a picker of the code stands for, with its state
abbrev pub turn_of : Order → Turn
turn_of (order.First forward) = Ahead
turn_of (order.Turns turns) = Turning turns.count
turn_of (order.Seeded seeded) = Drawing seeded.words
