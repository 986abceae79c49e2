use Rattle.std.proofs.Common.{◌≡◌, ◌∙◌, ℕ, Bool, true, false, sym, refl, List}
use Rattle.bit_rows.specs.Bits.{flip_if}
use Rattle.bdd.specs.declared.Edge.{Edge}
use Rattle.bdd.specs.declared.Node.{Node}
use Rattle.bdd.specs.Graphs.{AreNodes, value}
use Rattle.bdd.proofs.Laws.{value-zero}
use Rattle.bdd.proofs.path.evaluate.Goals as goal

-- the value of the constant
constant-at : (ns : List Node) (bits : ℕ → Bool) (at : Edge) → AreNodes ns → at.node ≡ 0
    → value ns bits at ≡ at.inverted
constant-at ns bits at h n = rw (n, value-zero ns bits h) (by at.inverted)
  where
    by : (b : Bool) → flip_if b false ≡ b
    by true = refl
    by false = refl

pub returns : goal.returns
returns c = sym (constant-at c.args.nodes.now _ c.loop-at.at c.requires.nodes c.loop-at-test.false)
    ∙ c.loop-at.invariant.same
