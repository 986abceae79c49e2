-- The places of the table's owners, and what the code counts on.
use Rattle.std.specs.Prelude.{ℕ, zero, suc, ◌+◌, Bool, true, not, ◌&&◌, nat_lt, List, [], ◌∷◌}
use Rattle.std.specs.List.{list_any}
use Rattle.mig_graph.specs.declared.Lit.{Lit}
use Rattle.mig_graph.specs.declared.Node.{Node}
use Rattle.mig_graph.specs.Literals.{inversions}
use Rattle.loop_ir.specs.declared.names.Slot.{Slot}
use Rattle.loop_ir.specs.Same.{same_node}
use Rattle.word_lower.specs.Places.{scratch_bit}

-- the argument of this number, and after the arguments the bit of scratch
abbrev pub following : List Slot → ℕ → ℕ → Slot
following [] free k = scratch_bit free
following (s ∷ ss) free zero = s
following (s ∷ ss) free (suc k) = following ss free k

-- the places of a statement's names: its target's, and its arguments' with the scratch after them
abbrev pub owners_of : Slot → List Slot → ℕ → List Slot
owners_of t args free = t ∷ following args free 0 ∷ following args free 1 ∷ following args free 2
    ∷ []

-- the node reads three lower nodes in order, at most one of them inverted
abbrev pub is_own : ℕ → Node → Bool
is_own k n = nat_lt n.a.node n.b.node && (nat_lt n.b.node n.c.node && (nat_lt n.c.node k
    && nat_lt (inversions n) 2))

-- each node does so, where the first has the number k, and no two are the same
abbrev pub are_own : ℕ → List Node → Bool
are_own k [] = true
are_own k (n ∷ ns) = is_own k n && (not (list_any (λ m. same_node n m) ns) && are_own (k + 1) ns)

-- each output names a node that there is
abbrev pub are_below : ℕ → List Lit → Bool
are_below k [] = true
are_below k (l ∷ ls) = nat_lt l.node k && are_below k ls
