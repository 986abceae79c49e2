-- The gates as majorities
use Rattle.std.proofs.Common.{◌≡◌, ℕ, Bool, true, false, not, ◌&&◌, ◌||◌, refl}
use Rattle.bit_rows.specs.Bits.{majority}
use Rattle.bit_rows.proofs.Gates.{majority-false, majority-true}
use Rattle.op_text.specs.Values.{majority as gate_majority}
use Rattle.mig_graph.specs.declared.Lit.{Lit}
use Rattle.mig_graph.specs.Graph.{Graph, value, values}
use Rattle.mig_graph.proofs.Laws.{value-zero}

and-value : (a b z : Bool) → z ≡ false → majority a b z ≡ (a && b)
and-value a b z e = rw e (majority-false a b)

or-value : (a b z : Bool) → z ≡ false → majority a b (not z) ≡ (a || b)
or-value a b z e = rw e (majority-true a b)

pub and-gate : (g : Graph) (bits : ℕ → Bool) (x y : Lit)
    → majority (value g bits x) (value g bits y)
    (value g bits (record { node = 0; inverted = false })) ≡ (value g bits x && value g bits y)
and-gate g bits x y = and-value (value g bits x) (value g bits y) (values g bits 0)
    (value-zero g bits)

pub or-gate : (g : Graph) (bits : ℕ → Bool) (x y : Lit)
    → majority (value g bits x) (value g bits y)
    (value g bits (record { node = 0; inverted = true })) ≡ (value g bits x || value g bits y)
or-gate g bits x y = or-value (value g bits x) (value g bits y) (values g bits 0)
    (value-zero g bits)

pub one-majority : (a b c : Bool) → majority a b c ≡ gate_majority a b c
unfolding majority
one-majority true b c = refl
one-majority false b c = refl
