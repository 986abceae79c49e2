use Rattle.simdram_cli.proofs.Common.{[], sym, ◌∙◌, microprograms_of, program_bytes}
use Rattle.simdram_cli.proofs.Stores.{stored, unstored, take_stored, take_unstored, at_ok, at_err}
use Rattle.simdram_cli.proofs.run.write_program.Goals as goal

pub returns-then-is_err-clause-stops : goal.returns-then-is_err-clause-stops
returns-then-is_err-clause-stops g c =
    let rose = at_err c.store.result (sym c.is_err.ensures.value
    ∙ c.if-is_err.true) c.store.ensures.failed in (
      [],
      λ sink chip. take_unstored c.args.name.now (program_bytes 2 [])
          (g.F.Folder.view c.args.files.now) (g.F.Folder.view c.store.new.self) sink chip
          (unstored c.args.name.now (g.F.Folder.view c.args.files.now)
          (g.F.Folder.view c.store.new.self) sink chip c.store.ensures.others rose
          c.store.ensures.counts),
    )

pub returns-clause-goes : goal.returns-clause-goes
returns-clause-goes g c sink chip =
    let there = at_ok c.store.result (sym c.is_err.ensures.value
    ∙ c.if-is_err.false) c.store.ensures.stored in
    let bytes = program_bytes 2 (microprograms_of c.in-Ok.program) in
    take_stored c.args.name.now bytes (g.F.Folder.view c.args.files.now)
    (g.F.Folder.view c.store.new.self) sink chip
    (stored c.args.name.now bytes (g.F.Folder.view c.args.files.now)
    (g.F.Folder.view c.store.new.self) sink chip c.store.ensures.others
    (rw (c.deref.ensures.value, c.in-Ok.ensures.file) at there) c.store.ensures.counts
    (at_ok c.store.result (sym c.is_err.ensures.value ∙ c.if-is_err.false) c.store.ensures.unfailed))
