use Rattle.simdram_cli.proofs.Common.{err_from_is_err_and, operations, takes, unread, wants}
use Rattle.simdram_cli.proofs.Common.{runs_made, canonical_text}
use Rattle.simdram_cli.specs.Inputs.{ops_in}
use Rattle.simdram_cli.specs.declared.words.TheConstants.{OPS_MAX}
use Rattle.simdram_cli.specs.Accounts.{ops_plan}
use Rattle.simdram_cli.proofs.Accounting.{stops_before}
use Rattle.simdram_cli.proofs.OpsPlans.{ops_read}
use Rattle.simdram_cli.proofs.account.text_of_ops.Goals as goal

pub returns-in_err-ops-clause-stopped : goal.returns-in_err-ops-clause-stopped
returns-in_err-ops-clause-stopped g c =
    let p = err_from_is_err_and c.from_residual.result c.from_residual.ensures.1 in
    rw (p.1, p.2) (stops_before (ops_plan canonical_text c.args.name.now) _ (g.F.Folder.view c.args.files.now)
    (g.F.Folder.view c.load_ops.new.files) (λ sink chip. unread c.args.name.now OPS_MAX ops_in _ _
    (g.F.Folder.view c.args.files.now) (g.F.Folder.view c.load_ops.new.files) sink chip
    c.in_err-ops.ensures.not_read))

pub returns-in_default-clause-stopped : goal.returns-in_default-clause-stopped
returns-in_default-clause-stopped g c = λ sink chip.
    ops_read c.args.name.now _ (operations c.in_ok-ops.ops) _ (g.F.Folder.view c.args.files.now)
    (g.F.Folder.view c.load_ops.new.files) sink chip _ c.in_ok-ops.ensures.read
    (λ text is. runs_made _ _ (operations c.in_ok-ops.ops) _ _ _ is (wants _ _))

pub returns-clause-told : goal.returns-clause-told
returns-clause-told g c = λ sink chip last result goes.
    ops_read c.args.name.now _ (operations c.in_ok-ops.ops) _ (g.F.Folder.view c.args.files.now)
    (g.F.Folder.view c.load_ops.new.files) sink chip _ c.in_ok-ops.ensures.read
    (λ text is. runs_made _ _ (operations c.in_ok-ops.ops) _ _ _ is
    (takes _ _ _ _ (rw c.in-Ok.ensures.text at goes)))
