-- When a node is written as another one, literal by literal.
use Rattle.std.specs.Prelude.{◌==◌, ◌&&◌, Bool}
use mathlib.Core.Bool.{beq}
use Rattle.mig_graph.specs.declared.Lit.{Lit}
use Rattle.mig_graph.specs.declared.Node.{Node}

-- both are one literal
abbrev pub same_lit : Lit → Lit → Bool
same_lit x y = (x.node == y.node) && beq x.inverted y.inverted

-- both have the same literals in the same order
abbrev pub same_node : Node → Node → Bool
same_node m n = same_lit m.a n.a && (same_lit m.b n.b && same_lit m.c n.c)
