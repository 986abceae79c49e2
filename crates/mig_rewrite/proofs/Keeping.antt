-- Graphs that keep a graph's outputs
use Rattle.mig_rewrite.proofs.Common.{◌<◌, length, List, ◌∙◌, arith, Lit, Graph, KeepsOutputs}

-- what keeps the outputs twice keeps them
pub keeps-twice : (g h k : Graph) (outs made more : List Lit) → KeepsOutputs g outs h made
    → KeepsOutputs h made k more → KeepsOutputs g outs k more
keeps-twice g h k outs made more x y =
    let long = x.long in
    record {
      inputs = y.inputs ∙ x.inputs;
      long = y.long ∙ x.long;
      values = λ bits j b. let d : j < length made = omega arith in
          y.values bits j d ∙ x.values bits j b;
    }
