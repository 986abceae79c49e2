use Rattle.simdram_cli.proofs.Common.{[], ◌∷◌, ◌*◌, inr, refl, sym, ◌∙◌, with_reads, image_bytes}
use Rattle.simdram_cli.proofs.Common.{rows_in_banks, total_line, vote_line, machine_in, geometry_of}
use Rattle.simdram_cli.proofs.Common.{table_in, world, Put, doing}
use Rattle.simdram_cli.specs.Stops.{end_of}
use Rattle.simdram_cli.proofs.Guarding.{not_stored, stored_then}
use Rattle.simdram_cli.proofs.Stores.{at_err, at_ok, stored, use_broke, unstored}
use Rattle.cli_model.specs.Waves.{and_reading}
use Rattle.simdram_cli.proofs.guard.finish_guarded.Goals as goal

pub returns-then-is_err-clause-goes : goal.returns-then-is_err-clause-goes
returns-then-is_err-clause-goes g c =
    let bad = sym c.is_err.ensures.value ∙ c.if-is_err.true in
    inr (
      refl,
      use_broke (g.F.Folder.view c.args.files.now) (g.S.Sink.view c.args.out.now)
          (g.D.Dram.view c.args.chip.now) (g.D.Dram.view c.image.new.dram)
          c.image.ensures.kept.faults,
      at_err c.image.result bad c.image.ensures.failed,
      at_err c.image.result bad c.image.ensures.left,
    )

pub returns-then-is_err-2-clause-goes : goal.returns-then-is_err-2-clause-goes
returns-then-is_err-2-clause-goes g c =
    let m = machine_in c.args.guard.now in
    let shape = geometry_of m in
    let start = g.D.Dram.view c.args.chip.now in
    let did = at_ok c.image.result (sym c.is_err.ensures.value
    ∙ c.if-is_err.false) c.image.ensures.did in
    let rose = at_err c.store.result (sym c.is_err-2.ensures.value
    ∙ c.if-is_err-2.true) c.store.ensures.failed in
    not_stored (and_reading shape.banks (doing start.banks [])) c.args.name.now (image_bytes shape (table_in m) (rows_in_banks start.banks))
    (Put (vote_line c.args.outcome.votes c.args.flips)
    ∷ Put (total_line (with_reads (shape.banks * shape.rows) start.counters)
    c.args.outcome.refused) ∷ [])
    (g.F.Folder.view c.args.files.now) (g.F.Folder.view c.store.new.self)
    (g.S.Sink.view c.args.out.now) start (g.D.Dram.view c.image.new.dram)
    did.faults did.banks
    (unstored c.args.name.now (g.F.Folder.view c.args.files.now) (g.F.Folder.view c.store.new.self)
    (g.S.Sink.view c.args.out.now) (g.D.Dram.view c.image.new.dram) c.store.ensures.others
    rose c.store.ensures.counts)

pub returns-clause-goes : goal.returns-clause-goes
returns-clause-goes g c =
    let m = machine_in c.args.guard.now in
    let shape = geometry_of m in
    let start = g.D.Dram.view c.args.chip.now in
    let last = g.D.Dram.view c.image.new.dram in
    let files = g.F.Folder.view c.store.new.self in
    let bytes = image_bytes shape (table_in m) (rows_in_banks start.banks) in
    let read = sym c.is_err.ensures.value ∙ c.if-is_err.false in
    let file = at_ok c.image.result read c.image.ensures.file in
    let did = at_ok c.image.result read c.image.ensures.did in
    let there = at_ok c.store.result (sym c.is_err-2.ensures.value
    ∙ c.if-is_err-2.false) c.store.ensures.stored in
    stored_then (and_reading shape.banks (doing start.banks [])) c.args.name.now bytes
    (Put (vote_line c.args.outcome.votes c.args.flips)
    ∷ Put (total_line (with_reads (shape.banks * shape.rows) start.counters)
    c.args.outcome.refused) ∷ [])
    (end_of c.put_totals.result) (g.F.Folder.view c.args.files.now) files
    (g.S.Sink.view c.args.out.now) start last
    (world files (g.S.Sink.view c.put_totals.new.out) last) did.faults did.banks
    (stored c.args.name.now bytes (g.F.Folder.view c.args.files.now) files
    (g.S.Sink.view c.args.out.now) last c.store.ensures.others
    (rw (c.file.ensures, c.machine.ensures, file) at there) c.store.ensures.counts
    (at_ok c.store.result (sym c.is_err-2.ensures.value ∙ c.if-is_err-2.false) c.store.ensures.unfailed))
    (rw did.counters at c.put_totals.ensures.goes files)
