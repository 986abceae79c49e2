-- How a file is loaded and read, whatever the sink and the chip show meanwhile.
use Rattle.std.specs.Prelude.{ℕ, List}
use Rattle.host_edge.specs.Views.{FolderView}
use Rattle.op_text.specs.Language.{Operation}
use Rattle.op_text.specs.OpsOf.{IsOpsOf}
use Rattle.cli_model.specs.Reads.{LoadedAs}
use Rattle.simdram_cli.specs.declared.words.TheConstants.{OPS_MAX}

-- OPS was loaded, and its text is one of these ops
pub record OpsRead (name : List ℕ) (ops : List Operation) (old new : FolderView) : Type 0 where
  pub text : List ℕ
  pub is : IsOpsOf text ops
  pub loaded : LoadedAs name OPS_MAX text old new
