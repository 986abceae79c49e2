use Rattle.simdram_cli.proofs.Common.{◌∙◌, ap, err_from_is_err_and, parsed, refused, takes}
use Rattle.simdram_cli.proofs.Common.{unloaded, wants, runs_made}
use Rattle.simdram_cli.specs.declared.words.TheConstants.{PROG_MAX}
use Rattle.simdram_cli.specs.Accounts.{program_plan}
use Rattle.simdram_cli.specs.Programs.{prog_in, prog_refusal, program_or_refusal}
use Rattle.simdram_cli.proofs.Accounting.{opened_file, stops_before}
use Rattle.simdram_cli.proofs.Migrating.{prog_is}
use Rattle.simdram_cli.proofs.account.text_of_program.Goals as goal

pub returns-in_err-bytes-clause-stopped : goal.returns-in_err-bytes-clause-stopped
returns-in_err-bytes-clause-stopped g c =
    let p = err_from_is_err_and c.from_residual.result c.from_residual.ensures.1 in
    rw (p.1, p.2) (stops_before (program_plan c.args.name.now c.args.account.now) _
    (g.F.Folder.view c.args.files.now) (g.F.Folder.view c.load.new.files)
    (λ sink chip. unloaded c.args.name.now PROG_MAX prog_in _ _ (g.F.Folder.view c.args.files.now)
    (g.F.Folder.view c.load.new.files) sink chip c.in_err-bytes.ensures.failed))

pub returns-in-Err-clause-stopped : goal.returns-in-Err-clause-stopped
returns-in-Err-clause-stopped g c = λ sink chip.
    refused c.args.name.now PROG_MAX prog_in _ c.in_ok-bytes.bytes.items
    (prog_refusal c.in-Err.fault) (g.F.Folder.view c.args.files.now)
    (g.F.Folder.view c.load.new.files) sink chip c.in_ok-bytes.ensures.loaded
    (ap program_or_refusal (rw c.deref.ensures.value at c.in-Err.ensures.exact))

pub returns-in_default-clause-stopped : goal.returns-in_default-clause-stopped
returns-in_default-clause-stopped g c =
    let text = c.in_ok-bytes.bytes.items in
    let file = opened_file c.in-Ok.prog text (c.in-Ok.ensures.bytes ∙ c.deref.ensures.value)
    c.in-Ok.ensures.spelled in
    λ sink chip. parsed c.args.name.now PROG_MAX prog_in _ text c.in-Ok.prog.programs _
    (g.F.Folder.view c.args.files.now) (g.F.Folder.view c.load.new.files) sink chip _
    c.in_ok-bytes.ensures.loaded (prog_is text file) (runs_made _ _ tt _ _ _ file (wants _ _))

pub returns-clause-told : goal.returns-clause-told
returns-clause-told g c =
    let text = c.in_ok-bytes.bytes.items in
    let file = opened_file c.in-Ok.prog text (c.in-Ok.ensures.bytes ∙ c.deref.ensures.value)
    c.in-Ok.ensures.spelled in
    λ sink chip last result goes.
    parsed c.args.name.now PROG_MAX prog_in _ text c.in-Ok.prog.programs _
    (g.F.Folder.view c.args.files.now) (g.F.Folder.view c.load.new.files) sink chip _
    c.in_ok-bytes.ensures.loaded (prog_is text file)
    (runs_made _ _ tt _ _ _ file (takes _ _ _ _ (rw c.in-Ok-program_text.ensures at goes)))
