-- The words of the lower crates, of the specs and of std that these proofs share.
pub use Rattle.bit_rows.specs.Bits.{flip_if, majority}
pub use Rattle.mig_graph.proofs.Laws.{value-node, value-zero, values-below}
pub use Rattle.mig_graph.proofs.OutputLaws.{complemented-node, each-more, value-complemented}
pub use Rattle.mig_graph.specs.Graph.{Graph, IsGraph, node_at, size_of, start, value, values}
pub use Rattle.mig_graph.specs.Literals.{IsAnyOrder, IsLower, NamesThree, complement_if, lit_value}
pub use Rattle.mig_graph.specs.Literals.{node_value}
pub use Rattle.mig_graph.specs.Outputs.{AreNamed, KeepsOutputs, lit_at}
pub use Rattle.mig_graph.specs.Reduced.{literals, node_numbered}
pub use Rattle.mig_graph.specs.declared.Lit.{Lit}
pub use Rattle.mig_graph.specs.declared.Node.{Node}
pub use Rattle.std.proofs.Common.{Bool, List, [], ap, arith, cond, drop, eq-eqb, eqb-true, false}
pub use Rattle.std.proofs.Common.{get_or-set_other, get_or-set_same, inl, inr, length}
pub use Rattle.std.proofs.Common.{length-append, length-set, refl, slice_set, subst, suc, sym, take}
pub use Rattle.std.proofs.Common.{true, zero, ℕ, ◌%◌, ◌++◌, ◌+◌, ◌-◌, ◌/◌, ◌<◌, ◌==◌, ◌∙◌, ◌∷◌, ◌≡◌}
pub use Rattle.std.proofs.Common.{◌≢◌, ◌≤◌, ◌⊎◌}
pub use Rattle.std.proofs.lemmas.Bool.{cases_eq, cases_lt, false≢true}
pub use Rattle.std.proofs.lemmas.Bool.Decides.{nat_tests}
pub use Rattle.std.proofs.lemmas.List.{length-replicate}
pub use Rattle.std.proofs.lemmas.List.Sums.{sum_by-append}
pub use Rattle.std.specs.Prelude.{None, Option, Some, count_by, flat_map, if◌then◌else◌, nat_lt}
