-- The words of the lower crates and of std that these proofs share.
pub use Rattle.dram_model.specs.Chip.{Banks}
pub use Rattle.dram_model.specs.View.{ChipView}
pub use Rattle.faults.specs.Counts.{Rose, RoseBy}
pub use Rattle.host_edge.specs.Views.{AppendsPart, Files, FolderView, Known}
pub use Rattle.std.proofs.Common.{Bool, List, None, Option, Some, [], ap, append-nil, append_assoc}
pub use Rattle.std.proofs.Common.{arith, false, inl, inr, length, refl, subst, sym, true, ℕ, ◌++◌}
pub use Rattle.std.proofs.Common.{◌∙◌, ◌∷◌, ◌≡◌, ◌≤◌, ◌⊎◌}
pub use Rattle.std.proofs.lemmas.Bool.{le-ltb}
pub use Rattle.std.specs.List.{list_any}
pub use Rattle.std.specs.Prelude.{Err, IfErr, IfSome, Ok, Result, ◌≢◌}
