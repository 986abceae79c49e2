-- The words of the lower crates, of the specs and of std that these proofs share.
pub use Rattle.bit_rows.specs.declared.TheConstants.{WIDTH_MAX}
pub use Rattle.std.proofs.Common.{Bool, List, None, Ok, Option, Result, Some, [], ap, arith, cond}
pub use Rattle.std.proofs.Common.{false, flat_map, length, map, refl, subst, suc, sym, take, true}
pub use Rattle.std.proofs.Common.{zero, ℕ, ⊎_elim, ◌++◌, ◌+◌, ◌-◌, ◌<◌, ◌∙◌, ◌∷◌, ◌≡◌, ◌≤◌}
pub use Rattle.std.proofs.lemmas.Bool.{cases_eq}
pub use Rattle.std.proofs.lemmas.List.{map-append}
pub use Rattle.std.proofs.lemmas.Option.{slice_get-get_or}
pub use Rattle.std.specs.List.{AllByRecursion}
pub use Rattle.std.specs.Option.{option_map}
pub use Rattle.std.specs.Prelude.{bytes_eq, position, slice_get, slice_index_or, ◌≢◌}
pub use Rattle.uprog_code.specs.Count.{counts_of, walked}
pub use Rattle.uprog_code.specs.Legal.{IsLegalCode}
pub use Rattle.uprog_code.specs.Machine.{Ended, HasEnded, Issue, Stuck, Trace, trace}
pub use Rattle.uprog_code.specs.Programs.{IsEntry, IsProgram}
pub use Rattle.uprog_code.specs.Shape.{Microprogram, Shape, microprogram_of, shape_of}
pub use Rattle.uprog_code.specs.Texts.{EntryDoes, ImplementsAll, TextOp}
pub use Rattle.uprog_code.specs.declared.code.EntryCode.{EntryCode}
pub use Rattle.uprog_code.specs.declared.registers.Issued.{Issued}
pub use Rattle.uprog_code.specs.declared.walker.BadWalk.{BadWalk}
pub use Rattle.uprog_code.specs.declared.walker.Counts.{Counts}
pub use Rattle.verify_core.specs.Verdicts.{DoesAt}
pub use Rattle.width_entry.specs.Lines.{issues}
