-- The words of the lower crates, of the specs and of std that these proofs share.
pub use Rattle.bit_rows.specs.declared.TheConstants.{WIDTH_MAX}
pub use Rattle.cli_model.specs.World.{World, world}
pub use Rattle.dram_model.proofs.EventLaws.{Did-none, Grew-more, Kept-more, after-append}
pub use Rattle.dram_model.specs.Chip.{Banks, Event, after}
pub use Rattle.dram_model.specs.Column.{Column, run}
pub use Rattle.dram_model.specs.Elements.{below, number}
pub use Rattle.dram_model.specs.View.{ChipView, Did, DidRead, Kept}
pub use Rattle.dram_model.specs.declared.address.Command.{Command}
pub use Rattle.dram_model.specs.declared.dram.Counters.{Counters}
pub use Rattle.dram_model.specs.declared.geometry.Geometry.{Geometry}
pub use Rattle.host_edge.specs.Views.{AppendsPart, FolderView, Known}
pub use Rattle.op_text.specs.Language.{Operation}
pub use Rattle.op_text.specs.Scratch.{param}
pub use Rattle.op_text.specs.WordOps.{Form, row_of, second_kind, signature_forms}
pub use Rattle.op_text.specs.declared.tree.Kind.{Kind}
pub use Rattle.op_text.specs.declared.tree.Kind.TheVariants.{Bit, Word}
pub use Rattle.op_text.specs.declared.word_ops.Signature.{Signature}
pub use Rattle.op_text.specs.declared.word_ops.WordOp.{WordOp}
pub use Rattle.std.proofs.Common.{Bool, List, [], ap, append-nil, arith, cond, drop, false, get_or}
pub use Rattle.std.proofs.Common.{inl, inr, length, map, refl, subst, suc, sym, take, true, zero, ℕ}
pub use Rattle.std.proofs.Common.{◌%◌, ◌*◌, ◌++◌, ◌+◌, ◌/◌, ◌<◌, ◌^◌, ◌∙◌, ◌∷◌, ◌≡◌, ◌≤◌}
pub use Rattle.std.proofs.Math.Nat.{mod-lt}
pub use Rattle.std.proofs.Math.Seq.{drop-cons}
pub use Rattle.std.proofs.lemmas.Bool.Decides.{nat_tests}
pub use Rattle.std.proofs.lemmas.List.{drop_all, length-append, map-append}
pub use Rattle.std.proofs.lemmas.List.Sums.{sum-map}
pub use Rattle.std.proofs.lemmas.Nat.{pow_pos}
pub use Rattle.std.specs.List.{AllByRecursion, range_with_len}
pub use Rattle.std.specs.Prelude.{All, Err, IfOk, None, Ok, OnErr, OnOk, Option, Result, Some}
pub use Rattle.std.specs.Prelude.{flat_map, is_none, not, sum, sum_by}
pub use Rattle.transpose_unit.proofs.Stopping.{stopped_before, stopped_later}
pub use Rattle.transpose_unit.specs.Stage.{stage_number}
pub use Rattle.transpose_unit.specs.Stopped.{StoppedWithin}
pub use Rattle.uprog_bin.specs.Opened.{program_of}
unfoldable pub use Rattle.uprog_bin.specs.Spelling.{program_bytes}
pub use Rattle.uprog_code.specs.Bound.{bound}
pub use Rattle.uprog_code.specs.Fits.{Fits}
pub use Rattle.uprog_code.specs.Implements.{numbers}
pub use Rattle.uprog_code.specs.Machine.{issues_of, trace}
pub use Rattle.uprog_code.specs.Shape.{Microprogram, Shape, width}
pub use Rattle.uprog_code.specs.Texts.{EntryDoes, ImplementsAll, op_shape, text_op}
pub use Rattle.uprog_code.specs.declared.walker.Counts.{Counts}
pub use Rattle.uprog_ctl.specs.Waves.{StoppedAmong, wave_events}
pub use Rattle.uprog_gen.specs.Totals.{AreExact}
pub use Rattle.wave_model.specs.Schedule.{Ahead, Queues, in_turn}
