-- The words of the lower crates, of the specs and of std that these proofs share.
pub use Rattle.bdd.proofs.Laws.{keeps-both, value-kept, value-zero}
pub use Rattle.bdd.specs.Edges.{constant}
pub use Rattle.bdd.specs.Graphs.{AreNodes, Keeps, value}
pub use Rattle.bdd.specs.Paths.{assigned}
pub use Rattle.bdd.specs.declared.Edge.{Edge}
pub use Rattle.bdd.specs.declared.Node.{Node}
pub use Rattle.binding_laws.proofs.Enough.{numbers-same}
pub use Rattle.binding_laws.proofs.Places.{kind_width}
pub use Rattle.binding_laws.proofs.Settled.{base-at, canonical-fits, moved}
pub use Rattle.binding_laws.specs.Canonical.{bases, canonical, canonical_rows, result_rows}
pub use Rattle.binding_laws.specs.Canonical.{value_rows}
pub use Rattle.bit_rows.specs.Bits.{bit_number, flip_if}
pub use Rattle.dram_model.specs.Column.{Column, run}
pub use Rattle.dram_model.specs.Elements.{number}
pub use Rattle.dram_model.specs.declared.address.Cell.{Cell}
pub use Rattle.dram_model.specs.declared.address.Cell.TheVariants.{D, Dcc, T}
pub use Rattle.op_text.specs.declared.tree.Kind.{Kind}
pub use Rattle.op_text.specs.declared.tree.Kind.TheVariants.{Bit, Word}
pub use Rattle.std.proofs.Common.{Some, ap, arith, below_more, inl, inr, subst, sym, take, ◌+◌, ◌∙◌}
pub use Rattle.std.proofs.Common.{◌≡◌}
pub use Rattle.std.proofs.lemmas.Bool.{cases_lt, false≢true, lt-ltb, ltb-true}
pub use Rattle.std.proofs.lemmas.List.{length-take}
pub use Rattle.std.specs.List.{range_with_len}
pub use Rattle.std.specs.Prelude.{Bool, List, [], false, filter, if◌then◌else◌, length, map, nat_lt}
pub use Rattle.std.specs.Prelude.{refl, slice_get, slice_index, suc, true, zero, ℕ, ◌*◌, ◌++◌, ◌-◌}
pub use Rattle.std.specs.Prelude.{◌<◌, ◌^◌, ◌∷◌, ◌≢◌, ◌≤◌}
pub use Rattle.symbolic_column.proofs.Lines.{column-kept}
pub use Rattle.symbolic_column.specs.Symbols.{AreCells, Cells, column_of, edge_at}
pub use Rattle.uprog_code.proofs.Kept.{trace_good}
pub use Rattle.uprog_code.specs.Bound.{Bound, bound}
pub use Rattle.uprog_code.specs.Fits.{Fits}
pub use Rattle.uprog_code.specs.Implements.{Gives, numbers}
pub use Rattle.uprog_code.specs.Issued.{AreGood}
pub use Rattle.uprog_code.specs.Machine.{Issue, in_kind, issues_of, trace}
pub use Rattle.uprog_code.specs.Shape.{Shape, results, shape_of, width}
