use Rattle.verify_core.proofs.Common.{◌≡◌, ◌∙◌, sym, subst, flip_if, Node, constant, AreNodes}
use Rattle.verify_core.proofs.Common.{value, value-zero, ℕ, Bool, true, false, List}
use Rattle.std.proofs.Common.{refl}
use Rattle.verify_core.specs.declared.start.Begin.{Begin}
use Rattle.verify_core.specs.Starts.{IsMeant}
use Rattle.verify_core.proofs.start.held.Goals as goal

-- a constant's value
constant-at : (ns : List Node) (bits : ℕ → Bool) (b : Bool) → AreNodes ns
    → value ns bits (constant b) ≡ b
constant-at ns bits b h = rw (value-zero ns bits h) (by b)
  where
    by : (b : Bool) → flip_if b false ≡ b
    by true = refl
    by false = refl

pub returns-in-Values-clause-value : goal.returns-in-Values-clause-value
returns-in-Values-clause-value c = λ bits m.
    let given = subst (λ (b : Begin). IsMeant b bits) c.in-Values.is m in
    rw c.constant.ensures (constant-at c.args.diagram.now.nodes bits c.value_of.result
    c.requires.nodes)
    ∙ c.value_of.ensures ∙ sym (given c.args.variable)
