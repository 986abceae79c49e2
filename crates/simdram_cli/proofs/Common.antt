-- The words of the lower crates, of the specs and of std that these proofs share.
pub use Rattle.bbop_isa.specs.Forms.{Bbop, Fill, Free, Init, Instruction, Order, view_of}
pub use Rattle.bbop_isa.specs.Lines.{begun, lines_of}
pub use Rattle.bbop_isa.specs.Script.{script_of}
pub use Rattle.bbop_isa.specs.declared.instr.Instr.{Instr}
pub use Rattle.bbop_isa.specs.declared.instr.ScriptFault.{ScriptFault}
pub use Rattle.bit_rows.specs.declared.TheConstants.{WIDTH_MAX}
pub use Rattle.cli_model.proofs.Delivering.{IsDelivered, files_append, known_delivered, sent_append}
pub use Rattle.cli_model.proofs.Delivers.{Delivers}
pub use Rattle.cli_model.proofs.Doing.{parsed, puts, reads, refused, stores, takes, unloaded}
pub use Rattle.cli_model.proofs.Doing.{unparsed, unput, unread, wants}
pub use Rattle.cli_model.proofs.Files.{at_other, at_own, bytes_differ}
pub use Rattle.cli_model.proofs.Going.{goes_on, stops}
pub use Rattle.cli_model.proofs.Owed.{Gives, GoodFor, NotTen, TakesFirst, files_then}
pub use Rattle.cli_model.proofs.Running.{runs_answered, runs_made, runs_stopped, runs_then}
pub use Rattle.cli_model.proofs.Statuses.{OfSteps, of_more}
pub use Rattle.cli_model.specs.Faultless.{file_in}
pub use Rattle.cli_model.specs.Plan.{Answers, Loads, Makes, Plan, Then}
pub use Rattle.cli_model.specs.Reads.{LoadedAs, NotRead, refusal_of}
pub use Rattle.cli_model.specs.Runs.{EndsBy, Runs}
pub use Rattle.cli_model.specs.Stands.{files_after, sent_by}
pub use Rattle.cli_model.specs.Steps.{CannotWrite, ChipFailed, Done, End, Goes, LoadFails, NoMemory}
pub use Rattle.cli_model.specs.Steps.{Put, PutFailed, Reason, Refusal, Refused, Step, Stopped}
pub use Rattle.cli_model.specs.Steps.{Store, Stored, Take, Unstored, Use, line_steps, loading}
pub use Rattle.cli_model.specs.Waves.{ChipUse, IsLeftBy, doing}
pub use Rattle.cli_model.specs.World.{World, with_file, world}
pub use Rattle.cmd_trace.specs.Tape.{empty_log, recorded}
pub use Rattle.cmd_trace.specs.Widths.{has_begun_below}
pub use Rattle.dram_model.proofs.EventLaws.{Grew-more, Kept-more, LogIs-more, all_counted-append}
pub use Rattle.dram_model.specs.Chip.{Banks, Event, Grew, Log, LogIs, after, all_counted}
pub use Rattle.dram_model.specs.Chip.{blank_banks, counted, row_in}
pub use Rattle.dram_model.specs.Chip.Event.{Row, Write}
pub use Rattle.dram_model.specs.Elements.{column_count}
pub use Rattle.dram_model.specs.Geometry.{fits_size, is_between, is_geometry}
pub use Rattle.dram_model.specs.View.{ChipView, Did, DidRead, HasBegun, Kept, with_reads}
pub use Rattle.dram_model.specs.declared.address.Command.TheVariants.{Aap, Ap}
pub use Rattle.dram_model.specs.declared.dram.Counters.{Counters}
pub use Rattle.dram_model.specs.declared.geometry.Geometry.{Geometry}
pub use Rattle.faults.specs.Counts.{Rose}
pub use Rattle.file_fields.proofs.Padded.{name_size}
pub use Rattle.file_fields.specs.Fields.{name_bytes}
pub use Rattle.guard_job.specs.Steps.{guarded_steps}
pub use Rattle.guard_model.specs.FlipText.{flips_of}
pub use Rattle.guard_model.specs.Guarded.{guarded_replies, guarded_rows, guarded_said_by}
pub use Rattle.guard_model.specs.Guarded.{guarded_table, guarded_table_at_end, guarded_turn, mended}
pub use Rattle.guard_model.specs.Named.{first_long_name}
pub use Rattle.guard_model.specs.Report.{vote_line}
pub use Rattle.guard_model.specs.Triples.{first_stranger}
pub use Rattle.guard_model.specs.declared.Flip.{Flip}
pub use Rattle.guard_model.specs.declared.FlipsFault.{FlipsFault}
pub use Rattle.host_edge.specs.Views.{AppendsPart, Files, FolderView, Known, SinkView}
pub use Rattle.machine_model.proofs.Parts.{all_parted, scripts_go_on, waves_are_answered}
pub use Rattle.machine_model.proofs.Pieces.{counted_by_replies, events_are_steps}
pub use Rattle.machine_model.proofs.Texts.{same_operations}
pub use Rattle.machine_model.specs.Agrees.{IsPlain}
pub use Rattle.machine_model.specs.Laws.{TableFits}
pub use Rattle.machine_model.specs.Opened.{Image, objects_held, opened, row_writes, rows_in_banks}
pub use Rattle.machine_model.specs.Pieces.{Alone, AreBbops, Piece, Wave, events_of_pieces}
pub use Rattle.machine_model.specs.Pieces.{instrs_in, piece_events, pieces, script_events}
pub use Rattle.machine_model.specs.Pieces.{turn_after}
pub use Rattle.machine_model.specs.Refusals.{refusal}
pub use Rattle.machine_model.specs.Report.{Said, line, lines, said_by, said_in_rows, total_line}
pub use Rattle.machine_model.specs.Routines.{Program, Routines, meaning_in, routines_in}
pub use Rattle.machine_model.specs.Routines.{routines_of}
pub use Rattle.machine_model.specs.Script.{banks_at_end, is_bbop, is_refused, replies, rows_loaded}
pub use Rattle.machine_model.specs.Script.{rows_printed, sum_done, sum_of, table_at_end}
pub use Rattle.machine_model.specs.Script.{with_counts}
pub use Rattle.machine_model.specs.Steps.{table_after}
pub use Rattle.machine_model.specs.declared.Why.{Why}
pub use Rattle.object_alloc.specs.Exact.{found_in}
pub use Rattle.object_alloc.specs.Listed.{Listing, Named}
pub use Rattle.object_alloc.specs.Reading.{Found, ImageFault, IsFault, image_in}
pub use Rattle.object_alloc.specs.Spelling.{IsImage, Rows, image_bytes, rows_in}
pub use Rattle.object_alloc.specs.declared.fault.ImageNo.{ImageNo}
pub use Rattle.object_steps.specs.Objects.{LiesOn, RisesAtMost}
pub use Rattle.object_steps.specs.declared.fault.StepFault.{StepFault}
pub use Rattle.op_print.specs.Canonical.{canonical_text}
pub use Rattle.op_text.specs.Language.{Operation, operations}
pub use Rattle.op_text.specs.Lines.{fault_in}
pub use Rattle.op_text.specs.OpsOf.{IsOpsOf}
pub use Rattle.op_text.specs.declared.fault.OpsFault.{OpsFault}
pub use Rattle.optimise_job.specs.Outcomes.{AreOutcomes}
pub use Rattle.scan_model.specs.Answers.{query_script}
pub use Rattle.scan_model.specs.Instructions.{count_of, scan_script}
pub use Rattle.scan_model.specs.Laws.{scan_refused}
pub use Rattle.scan_model.specs.Queries.{Node, Query, nodes_of}
pub use Rattle.sim_machine.specs.Machine.{events_by, geometry_of, is_print, operations_by}
pub use Rattle.sim_machine.specs.Machine.{program_of, table_in, turn_in}
pub use Rattle.sim_machine.specs.Opening.{machine_on}
pub use Rattle.sim_machine.specs.Steps.{DidAndRead}
pub use Rattle.sim_machine.specs.declared.machine.Machine.{Machine}
pub use Rattle.std.proofs.Common.{Bool, List, None, Option, Some, [], ap, append-nil, append_assoc}
pub use Rattle.std.proofs.Common.{arith, cond, drop, false, inl, inr, length, map, refl, rules}
pub use Rattle.std.proofs.Common.{subst, suc, sym, take, true, zero, zero-add, ℕ, ◌*◌, ◌++◌, ◌+◌}
pub use Rattle.std.proofs.Common.{◌-◌, ◌/◌, ◌<◌, ◌^◌, ◌∙◌, ◌∷◌, ◌≡◌, ◌≤◌, ◌⊎◌}
pub use Rattle.std.proofs.Math.Nat.{suc-mul}
pub use Rattle.std.proofs.lemmas.Bool.{and_parts, cases_lt, eq-eqb, leb-true}
pub use Rattle.std.proofs.lemmas.List.{length-append, length-map}
pub use Rattle.std.proofs.lemmas.List.Concat.{flat_map-cons}
pub use Rattle.std.proofs.lemmas.List.FromFn.{length-range_with_len}
pub use Rattle.std.proofs.lemmas.Result.{err_from_is_err_and}
pub use Rattle.std.proofs.lemmas.Slice.Eq.{bytes_eq-Decides}
pub use Rattle.std.specs.Int.{to_le_bytes, w16, w32}
pub use Rattle.std.specs.List.{AllByRecursion, list_all, prefix_len, range_with_len}
pub use Rattle.std.specs.Option.{option_map}
pub use Rattle.std.specs.Prelude.{Err, IfErr, IfOk, IfSome, Ok, Result, bytes_eq, count_by}
pub use Rattle.std.specs.Prelude.{flat_map, nat_le, nat_lt, not, ◌&&◌, ◌==◌, ◌≢◌}
pub use Rattle.std.specs.Result.{result_ok}
pub use Rattle.tmr_guard.specs.Steps.{machine_in}
pub use Rattle.trace_model.specs.Replay.{script_trace}
pub use Rattle.trace_model.specs.Spelling.{IsTrace, Trace, bytes_of_trace}
unfoldable pub use Rattle.trace_model.specs.Spelling.{trace_bytes}
pub use Rattle.transpose_unit.specs.Stopped.{StoppedWithin}
pub use Rattle.uprog_bin.proofs.Again.{length-code}
pub use Rattle.uprog_bin.proofs.Whole.{read}
pub use Rattle.uprog_bin.specs.Opened.{IsProgramFile}
pub use Rattle.uprog_bin.specs.Reading.{ProgFault}
pub use Rattle.uprog_bin.specs.Spelling.{HasVersion, code_bytes, directory_bytes, head_bytes}
pub use Rattle.uprog_bin.specs.Spelling.{opening_bytes, shape_bytes}
unfoldable pub use Rattle.uprog_bin.specs.Spelling.{program_bytes}
pub use Rattle.uprog_code.specs.Machine.{HasEnded, trace}
pub use Rattle.uprog_code.specs.Programs.{IsEntry, IsProgram}
pub use Rattle.uprog_code.specs.Shape.{Microprogram, microprograms_of}
pub use Rattle.uprog_code.specs.Texts.{ImplementsAll, TextOp, text_op}
pub use Rattle.uprog_code.specs.declared.walker.Counts.{Counts}
pub use Rattle.uprog_gen.specs.Totals.{AreExact}
pub use Rattle.wave_model.specs.Schedule.{Ahead, Turn}
pub use denote.Ref.{Bor}
pub use mathlib.Core.Path.{fun_ext}
