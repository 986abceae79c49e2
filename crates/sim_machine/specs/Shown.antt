-- What the fields of a machine show.
use Rattle.uprog_ctl.specs.Orders.{turn_of}
use Rattle.sim_machine.specs.State.{State}
use Rattle.sim_machine.specs.declared.machine.Machine.TheInside.{Inside}

-- its state, by its fields
abbrev pub state_of : Inside → State
state_of m = record {
  geometry = m.geometry;
  programs = m.prog.programs;
  table = m.table.pairs;
  turn = turn_of m.order;
  file = m.file.items;
}
