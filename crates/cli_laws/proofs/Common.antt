-- The words of the lower crates and of std that these proofs share.
pub use Rattle.bbop_isa.specs.Forms.{Instruction}
pub use Rattle.bit_rows.specs.declared.TheConstants.{WIDTH_MAX}
pub use Rattle.cli_model.proofs.Files.{at_own}
pub use Rattle.cli_model.proofs.Giving.{refused_so}
pub use Rattle.cli_model.specs.Ends.{All, At, Ended, EndsSo, IsForetold}
pub use Rattle.cli_model.specs.Foreseen.{foreseen}
pub use Rattle.cli_model.specs.Plan.{AreTexts, Way, last_status, refused_last, steps_of}
pub use Rattle.cli_model.specs.Runs.{EndsBy, LeavesAt, TellsLast}
pub use Rattle.cli_model.specs.Status.{reason_status}
pub use Rattle.cli_model.specs.Steps.{CannotRead, CannotWrite, ChipFailed, Done, Load, NoMemory}
pub use Rattle.cli_model.specs.Steps.{PutFailed, Reason, Refused, TooLong}
pub use Rattle.cli_model.specs.Waves.{ChipUse}
pub use Rattle.cli_model.specs.World.{World}
pub use Rattle.dram_model.specs.Chip.{Banks}
pub use Rattle.dram_model.specs.declared.geometry.Geometry.{Geometry}
pub use Rattle.host_edge.specs.Views.{Files, Known}
pub use Rattle.machine_model.specs.Agrees.{IsPlain}
pub use Rattle.machine_model.specs.Opened.{Image, opened, rows_in_banks}
pub use Rattle.machine_model.specs.Report.{Said, said_in_rows}
pub use Rattle.machine_model.specs.Routines.{Program, Routines, entry_named, meaning_in, routine_of}
pub use Rattle.machine_model.specs.Routines.{routines_in}
pub use Rattle.machine_model.specs.Script.{banks_at_end, table_at_end}
pub use Rattle.object_alloc.specs.Listed.{Named}
pub use Rattle.object_alloc.specs.Reading.{Found, ImageFault}
unfoldable pub use Rattle.object_alloc.specs.Reading.{image_in}
pub use Rattle.object_alloc.specs.Spelling.{IsObject, image_bytes}
pub use Rattle.op_text.specs.Language.{Operation}
pub use Rattle.simdram_cli.proofs.JobPlans.{image_refuses}
pub use Rattle.simdram_cli.specs.Exec.{Executed}
pub use Rattle.simdram_cli.specs.Headline.{read_as}
pub use Rattle.simdram_cli.specs.Inputs.{image_found, image_of, image_or_refusal}
pub use Rattle.simdram_cli.specs.Job.{opening}
pub use Rattle.simdram_cli.specs.Programs.{prog_in}
pub use Rattle.simdram_cli.specs.Tracing.{Traced, trace_of}
pub use Rattle.simdram_cli.specs.declared.words.ExecNames.{ExecNames}
pub use Rattle.simdram_cli.specs.declared.words.TheConstants.{IMAGE_MAX}
pub use Rattle.simdram_cli.specs.declared.words.TraceNames.{TraceNames}
pub use Rattle.std.proofs.Common.{Bool, List, None, Option, Some, [], ap, append-nil, append_assoc}
pub use Rattle.std.proofs.Common.{arith, cond, false, inl, inr, length, map, refl, subst, sym, true}
pub use Rattle.std.proofs.Common.{ℕ, ◌++◌, ◌+◌, ◌<◌, ◌∙◌, ◌∷◌, ◌≡◌, ◌≤◌, ◌⊎◌}
pub use Rattle.std.specs.List.{AllByRecursion, list_any}
pub use Rattle.std.specs.Option.{option_map}
pub use Rattle.std.specs.Prelude.{Err, IfSome, Ok, Result, bytes_eq, ◌==◌, ◌||◌, ◌≢◌}
pub use Rattle.std.specs.Result.{result_ok}
pub use Rattle.trace_model.proofs.Files.{files_are_exact}
pub use Rattle.trace_model.specs.Replay.{replayed}
pub use Rattle.trace_model.specs.Spelling.{Trace, bytes_of_trace}
pub use Rattle.uprog_bin.proofs.Versions.{file_is_one}
pub use Rattle.uprog_code.specs.Count.{counts_of}
pub use Rattle.uprog_code.specs.Machine.{issues_of, trace}
pub use Rattle.uprog_code.specs.Shape.{Microprogram}
pub use Rattle.uprog_code.specs.Texts.{ImplementsAll, TextOp, text_op}
pub use Rattle.uprog_gen.specs.Totals.{AreExact}
pub use Rattle.verify_job.specs.Findings.{HaveRight}
