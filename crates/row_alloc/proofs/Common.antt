-- The words of the lower crates, of the specs and of std that these proofs share.
pub use Rattle.bit_rows.specs.Bits.{bit_number, flip_if}
unfoldable pub use Rattle.bit_rows.specs.Bits.{majority}
pub use Rattle.dram_model.proofs.ColumnLaws.{refresh}
pub use Rattle.dram_model.specs.Column.{Column, bit, drive, is_written, lines_of, plain, read, run}
pub use Rattle.dram_model.specs.Column.{sense, sense_lines, settle, settle_lines, step}
pub use Rattle.dram_model.specs.declared.address.Cell.{Cell}
pub use Rattle.dram_model.specs.declared.address.Cell.TheVariants.{D, Dcc, T}
pub use Rattle.dram_model.specs.declared.address.Line.{Line}
pub use Rattle.mig_graph.proofs.Laws.{any-order, value-node, values-below}
pub use Rattle.mig_graph.specs.Graph.{Graph, IsGraph, node_at, start, value, values}
pub use Rattle.mig_graph.specs.Literals.{IsAnyOrder, IsLower, is_complemented, node_value}
pub use Rattle.mig_graph.specs.declared.Lit.{Lit}
pub use Rattle.mig_graph.specs.declared.Node.{Node}
pub use Rattle.std.proofs.Common.{Bool, List, None, Some, [], add-one, ap, arith, drop, drop-cons}
pub use Rattle.std.proofs.Common.{eq-eqb, false, get_or, inl, inr, length, length-append, refl}
pub use Rattle.std.proofs.Common.{subst, suc, sym, true, zero, ℕ, ◌&&◌, ◌*◌, ◌++◌, ◌+◌, ◌-◌, ◌<◌}
pub use Rattle.std.proofs.Common.{◌∙◌, ◌∷◌, ◌≡◌, ◌≢◌, ◌≤◌, ◌⊎◌}
pub use Rattle.std.proofs.lemmas.Bool.{and_from, cases_eq, cases_lt, eqb-true, ltb-true, ne_eqb}
pub use Rattle.std.proofs.lemmas.Bool.Decides.{nat_tests}
pub use Rattle.std.proofs.lemmas.Grind.{common_steps}
pub use Rattle.std.proofs.lemmas.List.Folds.{list_all-append, list_all_at}
pub use Rattle.std.proofs.lemmas.Result.{IfOk-weaker}
pub use Rattle.std.specs.List.{AllByRecursion, list_all}
pub use Rattle.std.specs.Prelude.{Option, if◌then◌else◌, map, nat_lt, not, slice_index_or, sum_by}
pub use Rattle.std.specs.Prelude.{take, ◌==◌}
