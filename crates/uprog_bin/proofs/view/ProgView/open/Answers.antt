use Rattle.uprog_bin.proofs.Common.{◌∙◌, sym, ap, arith, err_from_is_err_and}
use Rattle.uprog_bin.specs.Opened.{file_of, programs_in}
use Rattle.uprog_bin.specs.Reading.{program_in}
use Rattle.uprog_bin.proofs.Exact.{spelled}
use Rattle.uprog_bin.proofs.Files.{accepted_is}
use Rattle.uprog_bin.proofs.Whole.{read}
use Rattle.uprog_bin.proofs.view.ProgView.open.Goals as goal

pub returns-clause-spelled : goal.returns-clause-spelled
returns-clause-spelled c =
    let bytes = c.args.bytes.now in
    spelled bytes (file_of bytes).version (programs_in bytes) (λ i.
    omega (arith, c.type_inv.bytes i))
    (accepted_is bytes c.in_ok-version.version c.in_ok-version.ensures.ok.read)

pub returns-clause-only : goal.returns-clause-only
returns-clause-only c = λ v ms is has e. sym (ap program_in e ∙ read v ms is has)
    ∙ accepted_is c.args.bytes.now c.in_ok-version.version c.in_ok-version.ensures.ok.read

pub returns-clause-exact : goal.returns-clause-exact
returns-clause-exact c =
    accepted_is c.args.bytes.now c.in_ok-version.version c.in_ok-version.ensures.ok.read

pub returns-in_err-version-clause-only : goal.returns-in_err-version-clause-only
returns-in_err-version-clause-only c = λ v ms is has e.
    let p = err_from_is_err_and c.from_residual.result c.from_residual.ensures.1 in
    rw (p.1, p.2) (sym (ap program_in e ∙ read v ms is has) ∙ c.in_err-version.ensures.err)
