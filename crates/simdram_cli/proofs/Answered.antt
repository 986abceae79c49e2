-- How a command ends whose function went through its plan.
use Rattle.simdram_cli.proofs.Common.{◌≡◌, ℕ, Result, Ok, Err, ChipView, FolderView, SinkView}
use Rattle.simdram_cli.proofs.Common.{World, world, Plan, EndsBy, Runs}
use Rattle.cli_model.specs.Status.{Tells}
use Rattle.cli_model.proofs.Running.{plan_ends}
use Rattle.simdram_cli.specs.declared.completion.Completion.{Completion}
use Rattle.simdram_cli.specs.declared.stop.Stop.{Stop}
use Rattle.simdram_cli.specs.declared.words.Command.{Command}
use Rattle.simdram_cli.specs.Commands.{CommandEnds, CommandRuns, facts}
use Rattle.simdram_cli.specs.Facts.{AllFiles, ByPlan, Keeps, WholeFolder, keeping}
use Rattle.simdram_cli.specs.Plans.{answer_to, said_of}
use Rattle.simdram_cli.specs.Stops.{end_of}

answered : (plan : Plan) (result : Result Completion Stop) (old mid new : World) (status : ℕ)
    → Runs plan old mid (said_of result) → Tells (end_of result) mid new
    → status ≡ answer_to result → EndsBy plan old new status
answered plan (Ok completion) old mid new status r tells answers =
    plan_ends plan (said_of (Ok completion)) old mid new status r tells answers
answered plan (Err stop) old mid new status r tells answers =
    plan_ends plan (said_of (Err stop)) old mid new status r tells answers

-- what it keeps of the folder, it keeps when it has told why it stopped
kept : (keeps : Keeps) (plan : Plan) (result : Result Completion Stop) (old : World)
    (files : FolderView) (s t : SinkView) (chip : ChipView) (status : ℕ)
    → keeping keeps (Runs plan old (world files s chip) (said_of result)) old (world files s chip)
    → Tells (end_of result) (world files s chip) (world files t chip) → status ≡ answer_to result
    → keeping keeps (EndsBy plan old (world files t chip) status) old (world files t chip)
kept ByPlan plan result old files s t chip status r tells e =
    answered plan result old (world files s chip) (world files t chip) status r tells e
kept AllFiles plan result old files s t chip status r tells e =
    (answered plan result old (world files s chip) (world files t chip) status r.0 tells e, r.1)
kept WholeFolder plan result old files s t chip status r tells e =
    (answered plan result old (world files s chip) (world files t chip) status r.0 tells e, r.1)

pub command_answered : (command : Command) (result : Result Completion Stop) (old : World)
    (files : FolderView) (s t : SinkView) (chip : ChipView) (status : ℕ)
    → CommandRuns command old (world files s chip) (said_of result)
    → Tells (end_of result) (world files s chip) (world files t chip) → status ≡ answer_to result
    → CommandEnds command old (world files t chip) status
command_answered command = kept (facts command).keeps (facts command).plan
