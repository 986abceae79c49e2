-- Bodies that are built by a template are those of the template.
use Rattle.word_lower.proofs.Common.{◌≡◌, ℕ, zero, suc, ◌+◌, ◌<◌, true, List, [], ◌∷◌, length, refl}
use Rattle.word_lower.proofs.Common.{arith, nat_tests, Lit, Node, Graph, IsGraph, lit_at, Place}
use Rattle.word_lower.proofs.Common.{Block, IsMade}
use Rattle.row_alloc.specs.declared.body.BodyCmd.{BodyCmd}
use Rattle.word_lower.specs.Places.{template_at}
use Rattle.word_lower.specs.Shapes.{are_below}

-- each output that passes the test names a node that there is
pub all_below : (k : ℕ) (ls : List Lit) → are_below k ls ≡ true → (j : ℕ) → j < length ls
    → (lit_at ls j).node < k
all_below k [] e j lt = absurd (omega arith)
all_below k (l ∷ ls) e zero lt = grind (arith, nat_tests)
all_below k (l ∷ ls) e (suc j) lt = all_below k ls (grind arith) j (omega arith)

-- a body put together
abbrev block_of_parts : List Place → Graph → List Lit → List Place → List BodyCmd → Block
block_of_parts reads g outs writes found = record {
  reads = reads;
  graph = g;
  outs = outs;
  writes = writes;
  found = found;
}

-- bodies of equal parts are one
pub template_same : (reads writes rp wp : List Place) (nodes : List Node) (outs lits : List Lit)
    (g : Graph) (found cmds : List BodyCmd) → rp ≡ reads → wp ≡ writes
    → g ≡ record { inputs = length reads; nodes = nodes } → lits ≡ outs → found ≡ cmds
    → block_of_parts rp g lits wp found ≡ template_at reads nodes outs writes cmds
template_same reads writes rp wp nodes outs lits g found cmds er ew eg el ec =
    rw (er, ew, eg, el, ec) refl

-- its graph is as `Mig` makes them, and its outputs name nodes of it
pub template_made : (rp wp : List Place) (i : ℕ) (nodes : List Node) (outs : List Lit) (g : Graph)
    (lits : List Lit) (cmds : List BodyCmd) → IsGraph i nodes → ((j : ℕ) → j < length outs
    → (lit_at outs j).node < i + 1 + length nodes) → g ≡ record { inputs = i; nodes = nodes }
    → lits ≡ outs → IsMade (record { reads = rp; graph = g; outs = lits; writes = wp; found = cmds })
template_made rp wp i nodes outs g lits cmds graph named eg el = rw (eg, el) record {
  graph = graph;
  named = named;
}
