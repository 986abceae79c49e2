-- The values of all nodes on an assignment of the inputs
use Rattle.std.specs.Prelude.{◌≡◌, ℕ, ◌<◌, ◌≤◌, Bool, List, length}
use Rattle.mig_graph.specs.declared.Lit.{Lit}
use Rattle.mig_graph.specs.Graph.{Graph, value, values}
use Rattle.mig_graph.specs.Outputs.{lit_at}
use Rattle.mig_rewrite.specs.Plan.{is_marked}

-- the assignment gives each input from k on its value in the list
abbrev pub FitsFrom : ℕ → List Bool → (ℕ → Bool) → Type 0
FitsFrom k bits v = (j : ℕ) → k ≤ j → j < length bits → is_marked bits j ≡ v j

-- on each assignment that gives the inputs these values, the list has the values of the first nodes
abbrev pub HasValues : Graph → List Bool → List Bool → ℕ → Type 0
HasValues g bits listed k = (v : ℕ → Bool) → FitsFrom 0 bits v
    → (j : ℕ) → j < k → is_marked listed j ≡ values g v j

-- the outputs of both graphs have the same values on the assignment
abbrev pub Agree : Graph → List Lit → Graph → List Lit → (ℕ → Bool) → Type 0
Agree g outs h made v = (j : ℕ) → j < length outs
    → value h v (lit_at made j) ≡ value g v (lit_at outs j)
