-- The words of the lower crates, of the specs and of std that these proofs share.
pub use Rattle.bbop_isa.specs.Forms.{Init, Load}
pub use Rattle.bbop_isa.specs.declared.instr.Place.{Place}
pub use Rattle.bit_rows.specs.Bits.{bit_at, bit_number}
pub use Rattle.dram_model.proofs.EventLaws.{Grew-none, Kept-more, Kept-same}
pub use Rattle.dram_model.specs.Chip.{Banks, Event}
pub use Rattle.dram_model.specs.Chip.Event.{Row, Write}
pub use Rattle.dram_model.specs.Elements.{column_count, segments_of}
pub use Rattle.dram_model.specs.View.{ChipView, Did, DidRead, Kept, with_reads}
pub use Rattle.dram_model.specs.declared.address.Command.TheVariants.{Aap}
pub use Rattle.dram_model.specs.declared.dram.Counters.{Counters}
pub use Rattle.dram_model.specs.declared.geometry.Geometry.{Geometry}
pub use Rattle.host_edge.specs.Sends.{AppendsUpTo}
pub use Rattle.host_edge.specs.Views.{AppendsPart, Known}
pub use Rattle.machine_model.proofs.First.{at_place-map, look_up-some}
pub use Rattle.machine_model.specs.Columns.{columns, segments}
pub use Rattle.machine_model.specs.Refusals.{at_place, first, goes_past, is_absent, object_named}
pub use Rattle.machine_model.specs.Refusals.{refusal, rows_of, when}
pub use Rattle.machine_model.specs.Report.{place_text}
pub use Rattle.machine_model.specs.Routines.{Routines}
pub use Rattle.machine_model.specs.Steps.{counts_for, fill_events, load_events, own_events}
pub use Rattle.machine_model.specs.declared.Why.{Why}
pub use Rattle.object_alloc.specs.Free.{are_free, end_of, free}
pub use Rattle.object_alloc.specs.Listed.{Listing, Named, has_name, limit_of, look_up, objects_of}
pub use Rattle.object_alloc.specs.Listed.{without}
pub use Rattle.object_alloc.specs.Spelling.{IsObject}
pub use Rattle.object_alloc.specs.declared.table.Object.{Object}
pub use Rattle.std.proofs.Common.{Bool, List, None, Option, Some, [], add-one, ap, append-nil}
pub use Rattle.std.proofs.Common.{append_assoc, arith, cond, drop, false, get_or, inl, inr, length}
pub use Rattle.std.proofs.Common.{length-append, map, mul-le-mul_right, mul_comm, nat_le, not}
pub use Rattle.std.proofs.Common.{position, refl, subst, suc, sym, take, true, zero, ℕ, ◌*◌, ◌++◌}
pub use Rattle.std.proofs.Common.{◌+◌, ◌-◌, ◌/◌, ◌<◌, ◌∙◌, ◌∷◌, ◌≡◌, ◌≢◌, ◌≤◌}
pub use Rattle.std.proofs.Math.Nat.{suc-mul}
pub use Rattle.std.proofs.lemmas.Bool.{cases_lt}
pub use Rattle.std.proofs.lemmas.Bool.Decides.{nat_tests}
pub use Rattle.std.proofs.lemmas.Grind.{div_ceil_times}
pub use Rattle.std.specs.List.{range_with_len}
pub use Rattle.std.specs.Option.{option_map}
pub use Rattle.std.specs.Prelude.{All, codes, decimal, flat_map, is_some, min, nat_lt, unwrap_or}
pub use Rattle.std.specs.Prelude.{◌^◌}
pub use Rattle.std.specs.Str.{bytes_eq}
pub use Rattle.transpose_unit.specs.Stage.{stage_number, stage_rows}
pub use Rattle.transpose_unit.specs.Stopped.{StoppedWithin}
pub use Rattle.uprog_code.specs.declared.walker.Counts.{Counts}
