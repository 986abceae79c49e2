-- The words of the lower crates, of the specs and of std that these proofs share.
pub use Rattle.bbop_isa.specs.Forms.{Bbop, Fill, Free, Init, Instruction, Load, Order, Print}
pub use Rattle.bbop_isa.specs.Forms.{view_of}
pub use Rattle.bbop_isa.specs.declared.instr.Place.{Place}
pub use Rattle.bit_rows.specs.Bits.{bits}
pub use Rattle.dram_model.proofs.EventLaws.{Did-more, Grew-more, Kept-more, after-append}
pub use Rattle.dram_model.specs.Chip.{Banks, Event, Grew, after}
pub use Rattle.dram_model.specs.Chip.Event.{Write}
pub use Rattle.dram_model.specs.Events.{row_events}
pub use Rattle.dram_model.specs.View.{ChipView, Did, DidRead, FailedIn, Kept, StoppedIn}
pub use Rattle.dram_model.specs.declared.geometry.Geometry.{Geometry}
pub use Rattle.faults.specs.Counts.{Rose}
pub use Rattle.guard_model.proofs.Pieces.{all_instrs}
pub use Rattle.guard_model.proofs.Runs.{done_first, done_more, if_none, none_yet, script_by}
pub use Rattle.guard_model.proofs.Runs.{script_done, script_for, script_refused}
pub use Rattle.guard_model.specs.Flips.{with_bit_inverted}
pub use Rattle.guard_model.specs.Guarded.{done_ones, joined, on_copy, place_on, plain_ones}
pub use Rattle.guard_model.specs.Guarded.{plain_script, removal}
pub use Rattle.guard_model.specs.Named.{has_long_name, is_long}
pub use Rattle.guard_model.specs.Triples.{first_stranger, is_copy, is_first, stranger_from}
pub use Rattle.guard_model.specs.Triples.{x_letter, y_letter, z_letter}
pub use Rattle.guard_model.specs.Votes.{row_vote, vote_count, vote_events, vote_job, votes}
pub use Rattle.guard_model.specs.declared.Flip.{Flip}
pub use Rattle.host_edge.specs.Views.{SinkView}
pub use Rattle.machine_model.proofs.Parts.{pieces_go_on}
pub use Rattle.machine_model.specs.Columns.{segments}
pub use Rattle.machine_model.specs.Pieces.{events_of_pieces, piece_events, piece_of, turn_at_end}
pub use Rattle.machine_model.specs.Refusals.{refusal}
pub use Rattle.machine_model.specs.Routines.{Program, Routines, routines_in}
pub use Rattle.machine_model.specs.Script.{is_refused, plus, replies, rows_printed, sum_done}
pub use Rattle.machine_model.specs.Script.{table_at_end}
pub use Rattle.machine_model.specs.Steps.{counts_for, if_done, job_events, reply_by, tabled}
pub use Rattle.machine_model.specs.declared.Reply.{Reply}
pub use Rattle.machine_model.specs.declared.Reply.TheVariants.{Done, Refused}
pub use Rattle.machine_model.specs.declared.Why.{Why}
pub use Rattle.object_alloc.specs.Listed.{Named}
pub use Rattle.object_steps.proofs.Filled.{on_err}
pub use Rattle.object_steps.specs.declared.fault.StepFault.{StepFault}
pub use Rattle.object_steps.specs.declared.fault.StepFault.TheVariants.{ChipFault, WriteFault}
pub use Rattle.sim_machine.proofs.Stepping.{if_same}
pub use Rattle.sim_machine.specs.Machine.{geometry_of, is_print, operations_by, program_of}
pub use Rattle.sim_machine.specs.Machine.{reply_of, table_in, turn_in}
pub use Rattle.sim_machine.specs.Steps.{DidAndRead}
pub use Rattle.sim_machine.specs.declared.machine.Machine.{Machine}
pub use Rattle.std.proofs.Common.{Bool, List, None, Option, Some, [], add-one, ap, append-nil}
pub use Rattle.std.proofs.Common.{append_assoc, arith, cond, drop, false, get_or, inl, inr, length}
pub use Rattle.std.proofs.Common.{map, not, refl, subst, suc, sym, take, true, zero, ℕ, ◌%◌, ◌*◌}
pub use Rattle.std.proofs.Common.{◌++◌, ◌+◌, ◌-◌, ◌/◌, ◌<◌, ◌^◌, ◌||◌, ◌∙◌, ◌∷◌, ◌≡◌, ◌≤◌}
pub use Rattle.std.proofs.lemmas.List.{map-append}
pub use Rattle.std.specs.Int.Bits.{bit_xor}
pub use Rattle.std.specs.List.{list_any, range_with_len}
pub use Rattle.std.specs.Option.{option_map}
pub use Rattle.std.specs.Prelude.{Err, IfOk, Ok, OnErr, OnOk, Result, flat_map, is_none, slice_get}
pub use Rattle.transpose_unit.proofs.Stopping.{stopped_before}
pub use Rattle.transpose_unit.specs.Stopped.{StoppedWithin}
pub use Rattle.uprog_code.specs.declared.TheConstants.{WALK_MAX}
pub use Rattle.uprog_code.specs.declared.walker.Counts.{Counts}
pub use Rattle.wave_model.specs.Schedule.{Turn}
