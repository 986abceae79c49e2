use Rattle.simdram_cli.proofs.Common.{sym, ◌∙◌, world}
use Rattle.simdram_cli.proofs.Promising.{answers_one, completes_on, keeps_promises, spares_on}
use Rattle.simdram_cli.proofs.Promising.{usage_of}
use Rattle.simdram_cli.proofs.top.simdram.Goals as goal

pub returns-in-Some-clause-usage : goal.returns-in-Some-clause-usage
returns-in-Some-clause-usage g c =
    usage_of c.args.words.now c.in-Some.command
    (world (g.F.Folder.view c.args.files.now) (g.S.Sink.view c.args.out.now)
    (g.D.Dram.view c.args.chip.now))
    (world (g.F.Folder.view c.dispatch.new.files) (g.S.Sink.view c.dispatch.new.out)
    (g.D.Dram.view c.dispatch.new.chip))
    c.dispatch.result (sym c.command_of.ensures.value ∙ c.in-Some.is) c.dispatch.ensures.ends

pub returns-in-Some-clause-no_other : goal.returns-in-Some-clause-no_other
returns-in-Some-clause-no_other g c =
    answers_one c.args.words.now c.in-Some.command
    (world (g.F.Folder.view c.args.files.now) (g.S.Sink.view c.args.out.now)
    (g.D.Dram.view c.args.chip.now))
    (world (g.F.Folder.view c.dispatch.new.files) (g.S.Sink.view c.dispatch.new.out)
    (g.D.Dram.view c.dispatch.new.chip))
    c.dispatch.result (sym c.command_of.ensures.value ∙ c.in-Some.is) c.dispatch.ensures.ends

pub returns-in-Some-clause-headline : goal.returns-in-Some-clause-headline
returns-in-Some-clause-headline g c =
    keeps_promises c.args.words.now c.in-Some.command
    (world (g.F.Folder.view c.args.files.now) (g.S.Sink.view c.args.out.now)
    (g.D.Dram.view c.args.chip.now))
    (world (g.F.Folder.view c.dispatch.new.files) (g.S.Sink.view c.dispatch.new.out)
    (g.D.Dram.view c.dispatch.new.chip))
    c.dispatch.result (sym c.command_of.ensures.value ∙ c.in-Some.is) c.in-Some.ensures.numbers
    c.dispatch.ensures.ends

pub returns-in-Some-clause-complete : goal.returns-in-Some-clause-complete
returns-in-Some-clause-complete g c =
    completes_on c.args.words.now c.in-Some.command
    (world (g.F.Folder.view c.args.files.now) (g.S.Sink.view c.args.out.now)
    (g.D.Dram.view c.args.chip.now))
    (world (g.F.Folder.view c.dispatch.new.files) (g.S.Sink.view c.dispatch.new.out)
    (g.D.Dram.view c.dispatch.new.chip))
    c.dispatch.result (sym c.command_of.ensures.value ∙ c.in-Some.is) c.dispatch.ensures.ends

pub returns-in-Some-clause-memory : goal.returns-in-Some-clause-memory
returns-in-Some-clause-memory g c =
    spares_on c.args.words.now c.in-Some.command
    (world (g.F.Folder.view c.args.files.now) (g.S.Sink.view c.args.out.now)
    (g.D.Dram.view c.args.chip.now))
    (world (g.F.Folder.view c.dispatch.new.files) (g.S.Sink.view c.dispatch.new.out)
    (g.D.Dram.view c.dispatch.new.chip))
    c.dispatch.result (sym c.command_of.ensures.value ∙ c.in-Some.is) c.dispatch.ensures.ends
