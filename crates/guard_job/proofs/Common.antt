-- The words of the lower crates, of the specs and of std that these proofs share.
pub use Rattle.bbop_isa.specs.Forms.{Instruction, view_of}
pub use Rattle.bbop_isa.specs.declared.instr.Instr.{Instr}
pub use Rattle.cli_model.specs.Steps.{ChipFailed, Done, End, Goes, Step, Stopped, line_steps}
pub use Rattle.cli_model.specs.Waves.{ChipUse, and_reading, doing}
pub use Rattle.cli_model.specs.World.{World, world}
pub use Rattle.dram_model.proofs.EventLaws.{Grew-more}
pub use Rattle.dram_model.specs.Chip.{Banks, Event, Grew, after, row_in}
pub use Rattle.dram_model.specs.Chip.Event.{Write}
pub use Rattle.dram_model.specs.View.{ChipView, Kept}
pub use Rattle.dram_model.specs.declared.dram.Counters.{Counters}
pub use Rattle.dram_model.specs.declared.geometry.Geometry.{Geometry}
pub use Rattle.guard_model.proofs.Commands.{vote_is_events}
pub use Rattle.guard_model.specs.FlipText.{AreSorted, IsFlip}
pub use Rattle.guard_model.specs.Flips.{all_flipped, due, flipped, with_bit_inverted}
pub use Rattle.guard_model.specs.Guarded.{guarded_events, guarded_replies, guarded_reply}
pub use Rattle.guard_model.specs.Guarded.{guarded_rows, guarded_rows_at_end, guarded_table}
pub use Rattle.guard_model.specs.Guarded.{guarded_table_at_end, guarded_tally, guarded_turn, mended}
pub use Rattle.guard_model.specs.Guarded.{plain_script, votes_at_end}
pub use Rattle.guard_model.specs.Named.{has_long_name}
pub use Rattle.guard_model.specs.Votes.{vote_count, vote_events, voted}
pub use Rattle.guard_model.specs.declared.Flip.{Flip}
pub use Rattle.host_edge.specs.Views.{FolderView, SinkView}
pub use Rattle.machine_model.specs.Agrees.{IsPlain}
pub use Rattle.machine_model.specs.Routines.{Routines}
pub use Rattle.machine_model.specs.Script.{is_refused}
pub use Rattle.object_alloc.specs.Listed.{Named}
pub use Rattle.object_steps.specs.Objects.{RisesAtMost}
pub use Rattle.object_steps.specs.declared.fault.StepFault.{StepFault}
pub use Rattle.sim_machine.specs.Machine.{geometry_of, is_print, operations_by, table_in, turn_in}
pub use Rattle.sim_machine.specs.declared.machine.Machine.{Machine}
pub use Rattle.std.proofs.Common.{Bool, List, Option, Some, [], ap, arith, cond, drop, false}
pub use Rattle.std.proofs.Common.{get_or, inl, inr, length, map, refl, subst, sym, true, ℕ, ◌++◌}
pub use Rattle.std.proofs.Common.{◌+◌, ◌-◌, ◌<◌, ◌∙◌, ◌∷◌, ◌≡◌, ◌≤◌}
pub use Rattle.std.proofs.lemmas.List.{drop_more}
pub use Rattle.std.specs.List.{AllByRecursion}
pub use Rattle.std.specs.Prelude.{Err, None, count_by}
pub use Rattle.tmr_guard.proofs.Left.{on_err_always}
pub use Rattle.tmr_guard.specs.Steps.{events_by, machine_in}
pub use Rattle.transpose_unit.specs.Stopped.{StoppedWithin}
pub use Rattle.wave_model.specs.Schedule.{Turn}
