-- Machines that differ in little.
use Rattle.sim_machine.proofs.Common.{◌≡◌, ◌∙◌, List, ap, refl, subst, Microprogram, Named, Turn}
use Rattle.sim_machine.proofs.Common.{LiesOn}
use Rattle.sim_machine.specs.declared.machine.Machine.{Machine}
use Rattle.sim_machine.specs.declared.machine.Machine.TheInside.{Inside}
use Rattle.sim_machine.specs.Machine.{IsLaidOut, GoesOn, table_in, turn_in}
use Rattle.sim_machine.specs.Shown.{state_of}

-- one that goes on comes to these objects and this order
pub goes_to : (old new : Machine) (table : List Named) (turn : Turn) → GoesOn old new
    → table_in new ≡ table → turn_in new ≡ turn
    → new ≡ record old { table = table; turn = turn }
goes_to old new table turn goes e f = goes
    ∙ ap (λ (t : List Named). let m : Machine = record old { table = t; turn = turn_in new } in m) e
    ∙ ap (λ (t : Turn). let m : Machine = record old { table = table; turn = t } in m) f

-- one that comes to any goes on
pub going : (old new : Machine) (table : List Named) (turn : Turn)
    → new ≡ record old { table = table; turn = turn } → GoesOn old new
going old new table turn e = rw e refl

-- and what goes on from there does, too
pub goes_more : (a b c : Machine) → GoesOn a b → GoesOn b c → GoesOn a c
goes_more a b c e f = f
    ∙ ap (λ (m : Machine).
    let n : Machine = record m { table = table_in c; turn = turn_in c } in n) e

-- one that comes to any order alone comes to its own
pub turned : (old new : Machine) (turn : Turn) → new ≡ record old { turn = turn }
    → new ≡ record old { turn = turn_in new }
turned old new turn e = rw e refl

-- the objects of a machine lie on its chip
pub laid_of : (i : Inside) (m : Machine) → LiesOn i.geometry i.table → state_of i ≡ m → IsLaidOut m
laid_of i m lies e = subst IsLaidOut e (record {
  shape = lies.geometry;
  table = record { listed = lies.listed; objects = lies.objects };
})

-- one with its own program, and another order
pub with_program : (old : Machine) (programs : List Microprogram) (t : Turn)
    → programs ≡ old.programs
    → (let m : Machine = record old { programs = programs; turn = t } in m)
    ≡ record old { turn = t }
with_program old programs t e =
    ap (λ (ps : List Microprogram).
    let m : Machine = record old { programs = ps; turn = t } in m) e
