-- The words of the lower crates, of the specs and of std that these proofs share.
pub use Rattle.bbop_isa.specs.Forms.{Bbop, Fill, Free, Init, Instruction, Load, Order, Print}
pub use Rattle.bbop_isa.specs.Forms.{view_of}
pub use Rattle.bbop_isa.specs.declared.instr.Place.{Place}
pub use Rattle.dram_model.proofs.EventLaws.{DidRead-more, Grew-more, Kept-more, Kept-same}
pub use Rattle.dram_model.specs.Chip.{Banks, Event, all_counted}
pub use Rattle.dram_model.specs.Chip.Event.{Write}
pub use Rattle.dram_model.specs.Elements.{FailedBelow}
pub use Rattle.dram_model.specs.View.{ChipView, Did, DidRead, FailedIn, Kept, with_reads}
pub use Rattle.dram_model.specs.declared.address.Command.{Command}
pub use Rattle.dram_model.specs.declared.dram.Counters.{Counters}
pub use Rattle.dram_model.specs.declared.geometry.Geometry.{Geometry}
pub use Rattle.faults.specs.Counts.{Rose}
pub use Rattle.host_edge.proofs.Tells.{Known-trans}
pub use Rattle.host_edge.specs.Views.{AppendsPart, Known, SinkView}
pub use Rattle.machine_model.proofs.First.{look_up-some}
pub use Rattle.machine_model.specs.Agrees.{IsPlain}
pub use Rattle.machine_model.specs.Opened.{rows_in_banks}
pub use Rattle.machine_model.specs.Pieces.{Alone, Piece, Wave, jobs_of, piece_of}
pub use Rattle.machine_model.specs.Refusals.{bbop_conditions, first, is_misfit, operand_conditions}
pub use Rattle.machine_model.specs.Refusals.{refusal, rows_of, srcs_in}
pub use Rattle.machine_model.specs.Report.{line, lines, said_of}
pub use Rattle.machine_model.specs.Report.Said.{Answered}
pub use Rattle.machine_model.specs.Routines.{Routine, Routines, routine_of, routines_in}
pub use Rattle.machine_model.specs.Script.{is_bbop, rows_printed}
pub use Rattle.machine_model.specs.Steps.{if_done, reply_by, reply_to}
pub use Rattle.machine_model.specs.declared.Reply.{Reply}
pub use Rattle.machine_model.specs.declared.Reply.TheVariants.{Done, Refused}
pub use Rattle.machine_model.specs.declared.Why.{Why}
pub use Rattle.object_alloc.specs.Listed.{IsTable, Named, has_name, limit_of, without}
pub use Rattle.object_alloc.specs.Spelling.{IsObject, rows_in}
pub use Rattle.object_alloc.specs.declared.table.Object.{Object}
pub use Rattle.object_steps.proofs.Filled.{on_err}
pub use Rattle.object_steps.specs.Lines.{DidReadAtMost}
pub use Rattle.object_steps.specs.Objects.{LiesOn, events_alone}
pub use Rattle.object_steps.specs.declared.fault.StepFault.{StepFault}
pub use Rattle.object_steps.specs.declared.fault.StepFault.TheVariants.{ChipFault, WriteFault}
pub use Rattle.op_text.specs.declared.tree.Kind.{Kind}
pub use Rattle.std.proofs.Common.{Bool, List, None, Some, [], add-zero, ap, append-nil}
pub use Rattle.std.proofs.Common.{append_assoc, arith, cond, drop, false, get_or, length, map, refl}
pub use Rattle.std.proofs.Common.{subst, suc, sym, take, true, vec_capacity, vec_len, zero, ℕ, ◌*◌}
pub use Rattle.std.proofs.Common.{◌++◌, ◌+◌, ◌<◌, ◌==◌, ◌∙◌, ◌∷◌, ◌≡◌, ◌≤◌}
pub use Rattle.std.proofs.Math.Nat.{mul-le-mul_right}
pub use Rattle.std.proofs.lemmas.Grind.{common_steps}
pub use Rattle.std.proofs.lemmas.Result.{on_ok_weaker}
pub use Rattle.std.specs.List.{AllByRecursion, find, range_with_len}
pub use Rattle.std.specs.Option.{option_map, option_to_list}
pub use Rattle.std.specs.Prelude.{All, Err, IfOk, IsErrOf, Ok, OnErr, OnOk, Option, Result}
pub use Rattle.std.specs.Prelude.{flat_map, is_none, nat_lt, slice_get, ◌||◌}
pub use Rattle.std.specs.Str.{bytes_eq}
pub use Rattle.transpose_unit.specs.Stopped.{StoppedWithin}
pub use Rattle.uprog_bin.specs.Opened.{program_of}
pub use Rattle.uprog_code.specs.Count.{walked}
pub use Rattle.uprog_code.specs.Machine.{issues_of}
pub use Rattle.uprog_code.specs.Shape.{Microprogram, Shape, results}
pub use Rattle.uprog_code.specs.declared.walker.Counts.{Counts}
pub use Rattle.uprog_ctl.specs.Waves.{BoundJob, CanRun, StoppedAmong, wave_job}
pub use Rattle.wave_model.specs.Schedule.{Queues, Turn, WaveJob}
