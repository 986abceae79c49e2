-- OPS is loaded by a plan, and what its text spells.
use Rattle.simdram_cli.proofs.Common.{◌≡◌, ℕ, List, Option, Some, subst, sym, Result, ChipView}
use Rattle.simdram_cli.proofs.Common.{FolderView, SinkView, Operation, IsOpsOf, World, world}
use Rattle.simdram_cli.proofs.Common.{Reason, Plan, Loads, Runs, parsed}
use Rattle.simdram_cli.specs.declared.words.TheConstants.{OPS_MAX}
use Rattle.simdram_cli.specs.Headline.{Spells}
use Rattle.simdram_cli.specs.Inputs.{ops_in}
use Rattle.simdram_cli.specs.Reads.{OpsRead}
use Rattle.simdram_cli.proofs.Reading.{ops_accepted}

pub ops_read : (name : List ℕ) (rest : List ℕ → Unit {0} → Plan) (ops : List Operation)
    (result : Result ℕ Reason) (old mid : FolderView) (sink : SinkView) (chip : ChipView)
    (new : World) → OpsRead name ops old mid
    → ((text : List ℕ) → IsOpsOf text ops → Runs (rest text tt) (world mid sink chip) new result)
    → Runs (Loads name OPS_MAX ops_in rest) (world old sink chip) new result
ops_read name rest ops result old mid sink chip new r more =
    parsed name OPS_MAX ops_in rest r.text tt result old mid sink chip new r.loaded
    (ops_accepted r.text r.is.accepted) (more r.text r.is)

pub spells_at : (file : Option (List ℕ)) (text : List ℕ) (ops : List Operation)
    → file ≡ Some text → IsOpsOf text ops → Spells file ops
spells_at file text ops e is = subst (λ (o : Option (List ℕ)). Spells o ops) (sym e) is
