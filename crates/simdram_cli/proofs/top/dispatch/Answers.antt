use Rattle.simdram_cli.proofs.Common.{world}
use Rattle.simdram_cli.proofs.Answered.{command_answered}
use Rattle.simdram_cli.proofs.top.dispatch.Goals as goal

pub returns-clause-ends : goal.returns-clause-ends
returns-clause-ends g c =
    let files = g.F.Folder.view c.do_command-ended.new.files in
    let chip = g.D.Dram.view c.do_command-ended.new.chip in
    command_answered c.args.command.now c.do_command-ended.result
    (world (g.F.Folder.view c.args.files.now) (g.S.Sink.view c.args.out.now)
    (g.D.Dram.view c.args.chip.now)) files (g.S.Sink.view c.do_command-ended.new.out)
    (g.S.Sink.view c.answer.new.out) chip c.answer.result c.do_command-ended.ensures.runs
    (c.answer.ensures.tells files chip) c.answer.ensures.status
