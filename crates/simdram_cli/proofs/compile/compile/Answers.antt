use Rattle.simdram_cli.proofs.Common.{sym, ◌∙◌, err_from_is_err_and, length-map, microprograms_of}
use Rattle.simdram_cli.proofs.Common.{puts, unput, runs_answered}
use Rattle.uprog_code.specs.Shape.{microprogram_of}
use Rattle.simdram_cli.specs.Compile.{compiled_line}
use Rattle.simdram_cli.proofs.Stores.{at_ok, at_err}
use Rattle.simdram_cli.proofs.Compiled.{compiled_stopped, compiled_taken}
use Rattle.simdram_cli.proofs.compile.compile.Goals as goal

pub returns-in_err-program : goal.returns-in_err-program
returns-in_err-program g c =
    let p = err_from_is_err_and c.from_residual.result c.from_residual.ensures.1 in
    λ chip. rw (p.1, p.2) (compiled_stopped c.args.names.now.ops.now c.args.names.now.prog.now _ _ (g.F.Folder.view c.args.files.now)
    (g.F.Folder.view c.take_program.new.files) (g.S.Sink.view c.args.out.now) chip
    c.in_err-program.ensures.stopped)

pub returns-then-is_err : goal.returns-then-is_err
returns-then-is_err g c =
    let program = microprograms_of c.in_ok-program.program in
    let entries = c.in_ok-program.program.entries in
    let many = c.len.ensures ∙ entries.ok.0 ∙ sym (length-map entries.items microprogram_of) in
    let files = g.F.Folder.view c.take_program.new.files in
    let old = g.S.Sink.view c.args.out.now in
    let new = g.S.Sink.view c.put_counted.new.out in
    let rose = at_err c.put_counted.result (sym c.is_err.ensures.value ∙ c.if-is_err.true)
    c.put_counted.ensures.failed in
    λ chip. compiled_taken c.args.names.now.ops.now c.args.names.now.prog.now _ program _
    (g.F.Folder.view c.args.files.now) files old chip _ c.in_ok-program.ensures.taken
    (unput (compiled_line program) _ files old new chip (rw many at c.put_counted.ensures.part)
    c.put_counted.ensures.counts rose)

pub returns : goal.returns
returns g c =
    let program = microprograms_of c.in_ok-program.program in
    let entries = c.in_ok-program.program.entries in
    let many = c.len.ensures ∙ entries.ok.0 ∙ sym (length-map entries.items microprogram_of) in
    let files = g.F.Folder.view c.take_program.new.files in
    let old = g.S.Sink.view c.args.out.now in
    let new = g.S.Sink.view c.put_counted.new.out in
    let known = at_ok c.put_counted.result (sym c.is_err.ensures.value ∙ c.if-is_err.false)
    c.put_counted.ensures.sent in
    λ chip. compiled_taken c.args.names.now.ops.now c.args.names.now.prog.now _ program _
    (g.F.Folder.view c.args.files.now) files old chip _ c.in_ok-program.ensures.taken
    (puts (compiled_line program) _ _ files old new chip _ (rw many at known)
    (at_ok c.put_counted.result (sym c.is_err.ensures.value ∙ c.if-is_err.false) c.put_counted.ensures.unfailed) (runs_answered 0 _ _ tt))
