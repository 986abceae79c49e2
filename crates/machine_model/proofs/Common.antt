-- The words of the lower crates, of the specs and of std that these proofs share.
pub use Rattle.bbop_isa.specs.Forms.{Bbop, Fill, Free, Init, Instruction, Load, Order, Print}
pub use Rattle.bbop_isa.specs.Laws.{IsRight}
pub use Rattle.bbop_isa.specs.declared.instr.Part.{Part}
pub use Rattle.bbop_isa.specs.declared.instr.Place.{Place}
pub use Rattle.bit_rows.specs.Bits.{bit_at, bit_number, value}
pub use Rattle.bit_rows.specs.declared.TheConstants.{WIDTH_MAX}
pub use Rattle.dram_model.proofs.EventLaws.{after-append, on_bank_all, projection}
pub use Rattle.dram_model.proofs.RowWrites.{all_own, all_writes, each_after, each_inside, part}
pub use Rattle.dram_model.proofs.RowWrites.{taken, taken_before, taken_past, writes, writes_first}
pub use Rattle.dram_model.proofs.RowWrites.{writes_nothing}
pub use Rattle.dram_model.specs.Chip.{Banks, Event, after, all_counted, blank_banks, row_in}
pub use Rattle.dram_model.specs.Chip.{with_row}
pub use Rattle.dram_model.specs.Chip.Event.{Row, Write}
pub use Rattle.dram_model.specs.Column.{Column, blank, run}
pub use Rattle.dram_model.specs.Elements.{below, column_count, number, padded_to, segments_of}
pub use Rattle.dram_model.specs.Events.{events_of, row_events}
pub use Rattle.dram_model.specs.declared.address.Cell.TheVariants.{D}
pub use Rattle.dram_model.specs.declared.address.Command.{Command}
pub use Rattle.dram_model.specs.declared.address.Command.TheVariants.{Aap}
pub use Rattle.dram_model.specs.declared.dram.Counters.{Counters}
pub use Rattle.dram_model.specs.declared.geometry.Geometry.{Geometry}
pub use Rattle.object_alloc.proofs.Tables.{IsTable-add, IsTable-without}
pub use Rattle.object_alloc.specs.Free.{AreApart, are_free, end_of, has_row, is_free}
unfoldable pub use Rattle.object_alloc.specs.Free.{free}
pub use Rattle.object_alloc.specs.Listed.{IsTable, Named, has_name, limit_of, objects_of}
pub use Rattle.object_alloc.specs.Spelling.{IsImage}
pub use Rattle.object_alloc.specs.declared.table.Object.{Object}
pub use Rattle.op_text.specs.declared.tree.Kind.{Kind}
pub use Rattle.std.proofs.Common.{Bool, List, None, Option, Some, [], ap, append-nil, append_assoc}
pub use Rattle.std.proofs.Common.{arith, cond, drop, eq-eqb, eqb, false, get_or, inl, inr, leb}
pub use Rattle.std.proofs.Common.{length, length-append, ltb, map, not, refl, subst, suc, sym, take}
pub use Rattle.std.proofs.Common.{true, zero, ℕ, ◌%◌, ◌&&◌, ◌*◌, ◌++◌, ◌+◌, ◌-◌, ◌/◌, ◌<◌, ◌^◌, ◌∙◌}
pub use Rattle.std.proofs.Common.{◌∷◌, ◌≡◌, ◌≢◌, ◌≤◌}
pub use Rattle.std.proofs.Math.Nat.{mod-eq_of_lt, suc-mul}
pub use Rattle.std.proofs.lemmas.Bool.{cases_lt, false_from_ne_true, lt-ltb, ne_eqb, or_parts}
pub use Rattle.std.proofs.lemmas.Bool.Decides.{nat_tests}
pub use Rattle.std.proofs.lemmas.List.{length-map, length-replicate, map-append}
pub use Rattle.std.proofs.lemmas.List.Elements.{All-filter, All-map, All-push, recursion_from_All}
pub use Rattle.std.proofs.lemmas.List.Sums.{sum_by-cons}
pub use Rattle.std.proofs.lemmas.Nat.{pow_pos}
pub use Rattle.std.specs.List.{AllByRecursion, find, list_any, prefix_len, range_with_len}
pub use Rattle.std.specs.Option.{option_map, unwrap_or}
pub use Rattle.std.specs.Prelude.{All, count_by, filter, flat_map, is_none, replicate, slice_index}
pub use Rattle.std.specs.Prelude.{◌||◌}
pub use Rattle.std.specs.Str.{bytes_eq}
pub use Rattle.uprog_code.specs.Bound.{bound}
pub use Rattle.uprog_code.specs.Count.{counts_of, issues_aap, issues_ap}
pub use Rattle.uprog_code.specs.Fits.{Fits, IsTouched}
pub use Rattle.uprog_code.specs.Implements.{Keeps}
pub use Rattle.uprog_code.specs.Machine.{Ended, Issue, IssueAap, IssueAp, Stuck, Trace, issues_of}
unfoldable pub use Rattle.uprog_code.specs.Machine.{trace}
pub use Rattle.uprog_code.specs.Shape.{Shape, need, results, width}
pub use Rattle.uprog_code.specs.declared.code.Uop.{Uop}
pub use Rattle.uprog_code.specs.declared.walker.Counts.{Counts}
pub use Rattle.wave_model.specs.Schedule.{WaveJob, events_of_picks}
pub use mathlib.Core.Path.{fun_ext}
