-- Literals, nodes, and their values
use Rattle.std.specs.Prelude.{◌≡◌, ◌≢◌, ◌⊎◌, ℕ, ◌+◌, ◌<◌, ◌==◌, Bool, true, false, not, ◌&&◌}
use Rattle.bit_rows.specs.Bits.{majority, flip_if, bit_number}
use Rattle.mig_graph.specs.declared.Lit.{Lit}
use Rattle.mig_graph.specs.declared.Node.{Node}

-- the literal of the other value
abbrev pub complement : Lit → Lit
complement l = record { node = l.node; inverted = not l.inverted }

-- the literal, or its complement
abbrev pub complement_if : Bool → Lit → Lit
complement_if true l = complement l
complement_if false l = l

-- the node that is the majority of these three literals
abbrev pub node_of : Lit → Lit → Lit → Node
node_of x y z = record { a = x; b = y; c = z }

-- the literal's value, where the nodes have these values
abbrev pub lit_value : (ℕ → Bool) → Lit → Bool
lit_value v l = flip_if l.inverted (v l.node)

-- the majority of the values of its literals
abbrev pub node_value : (ℕ → Bool) → Node → Bool
node_value v n = majority (lit_value v n.a) (lit_value v n.b) (lit_value v n.c)

-- each literal names a lower node than k
abbrev pub IsLower : ℕ → Node → Type 0
IsLower k n = (n.a.node < k) × (n.b.node < k) × (n.c.node < k)

-- the first node's literals are x, y and z in any order
abbrev pub IsAnyOrder : Node → Lit → Lit → Lit → Type 0
IsAnyOrder n x y z =
    ((n.a ≡ x) × (n.b ≡ y) × (n.c ≡ z)) ⊎ (((n.a ≡ x) × (n.b ≡ z) × (n.c ≡ y))
    ⊎ (((n.a ≡ y) × (n.b ≡ x) × (n.c ≡ z)) ⊎ (((n.a ≡ y) × (n.b ≡ z) × (n.c ≡ x))
    ⊎ (((n.a ≡ z) × (n.b ≡ x) × (n.c ≡ y)) ⊎ ((n.a ≡ z) × (n.b ≡ y) × (n.c ≡ x))))))

-- both have the same three literals, in any order
abbrev pub SameThree : Node → Node → Type 0
SameThree m n = IsAnyOrder m n.a n.b n.c

-- inverted, and not the constant
abbrev pub is_complemented : Lit → Bool
is_complemented l = l.inverted && not (l.node == 0)

-- how many inverted literals the node has that are not the constant
abbrev pub inversions : Node → ℕ
inversions n = bit_number (is_complemented n.a) + bit_number (is_complemented n.b)
    + bit_number (is_complemented n.c)

-- no two of its literals are equal or complements: they name three nodes
abbrev pub NamesThree : Node → Type 0
NamesThree n = (n.a.node ≢ n.b.node) × (n.a.node ≢ n.c.node) × (n.b.node ≢ n.c.node)
