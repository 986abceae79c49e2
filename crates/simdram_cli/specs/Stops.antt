-- What a stop of the program says.
use Rattle.std.specs.Prelude.{Result, Ok, Err, codes}
use Rattle.cli_model.specs.Steps.{Refusal, Reason, CannotRead, TooLong, Refused, NoMemory}
use Rattle.cli_model.specs.Steps.{CannotWrite, PutFailed, ChipFailed, End, Done, Stopped}
use Rattle.object_alloc.specs.declared.fault.ImageNo.{ImageNo}
use Rattle.object_alloc.specs.declared.fault.ImageNo.TheVariants as image_no
use Rattle.object_steps.specs.declared.fault.StepFault.{StepFault}
use Rattle.object_steps.specs.declared.fault.StepFault.TheVariants as step_fault
use Rattle.simdram_cli.specs.Inputs.{ops_refusal, script_refusal, image_refusal}
use Rattle.simdram_cli.specs.Programs.{prog_refusal}
use Rattle.simdram_cli.specs.Queries.{query_refusal, scan_refusal}
use Rattle.cmd_trace.specs.declared.fault.TraceNo.{TraceNo}
use Rattle.cmd_trace.specs.declared.fault.TraceNo.TheVariants as trace_no
use Rattle.simdram_cli.specs.Traces.{geometry_differs, trace_refusal}
use Rattle.simdram_cli.specs.Flips.{flips_refusal, name_refusal, table_refusal}
use Rattle.simdram_cli.specs.declared.stop.Stop.{Stop}
use Rattle.simdram_cli.specs.declared.stop.Stop.TheVariants as stop

-- a recorder had no room for all events of a script
abbrev pub trace_full : Refusal
trace_full = record { status = 12; line = codes "trace full\n" }

-- the reason of a stop, as commands tell it
abbrev pub reason_of : Stop → Reason
reason_of (stop.CannotRead name) = CannotRead name.now
reason_of (stop.TooLong name) = TooLong name.now
reason_of (stop.BadOps fault) = Refused (ops_refusal fault)
reason_of (stop.BadProg fault) = Refused (prog_refusal fault)
reason_of (stop.BadScript fault) = Refused (script_refusal fault)
reason_of (stop.BadImage fault) = Refused (image_refusal fault)
reason_of (stop.BadQuery fault) = Refused (query_refusal fault)
reason_of (stop.ScanRefused why k) = Refused (scan_refusal why k)
reason_of stop.TraceFull = Refused trace_full
reason_of (stop.BadTrace fault) = Refused (trace_refusal fault)
reason_of stop.GeometryDiffers = Refused geometry_differs
reason_of (stop.GuardName k) = Refused (name_refusal k)
reason_of (stop.GuardTable k) = Refused (table_refusal k)
reason_of (stop.BadFlips fault) = Refused (flips_refusal fault)
reason_of stop.NoMemory = NoMemory
reason_of (stop.CannotWrite name) = CannotWrite name.now
reason_of stop.PutFailed = PutFailed
reason_of stop.ChipFailed = ChipFailed

-- how the steps ended that a function does
abbrev pub end_of : {X : Type 0} → Result X Stop → End
end_of (Ok x) = Done
end_of (Err s) = Stopped (reason_of s)

-- why a command stops at an image that is not read
abbrev pub image_reason : ImageNo → Reason
image_reason (image_no.Fault fault) = Refused (image_refusal fault)
image_reason image_no.NoMemory = NoMemory

-- and at a trace
abbrev pub trace_reason : TraceNo → Reason
trace_reason (trace_no.Fault fault) = Refused (trace_refusal fault)
trace_reason trace_no.NoMemory = NoMemory

-- and at an instruction that is not done
abbrev pub fault_reason : StepFault → Reason
fault_reason step_fault.ChipFault = ChipFailed
fault_reason step_fault.WriteFault = PutFailed
