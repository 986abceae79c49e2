use Rattle.width_entry.proofs.Common.{◌++◌, ap, ◌∙◌, sym, get_or, Issued, issue_of}
use Rattle.uprog_code.specs.declared.code.RowSpace.TheVariants.{B}
use Rattle.uprog_code.specs.declared.registers.Issued.TheVariants.{Aap}
use Rattle.uprog_code.specs.declared.registers.RowPosition.{RowPosition}
use Rattle.width_entry.specs.Code.{command_code}
use Rattle.width_entry.proofs.Named.{one_more}
use Rattle.width_entry.proofs.code.line_code.Goals as goal

pub loop-issued-preserved : goal.loop-issued-preserved
loop-issued-preserved c =
    let none : RowPosition = record { space = B; which = 0; index = 0 } in
    let past : Issued = Aap none none in
    let line = c.args.line.now in
    let k = c.loop-issued.issued-index in
    c.in_ok-put_command.ensures
    ∙ ap (λ us. us ++ command_code (issue_of (get_or line k past))) c.loop-issued.invariant
    ∙ sym (one_more line k past c.loop-issued-test.true)
