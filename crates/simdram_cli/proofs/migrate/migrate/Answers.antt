use Rattle.simdram_cli.proofs.Common.{sym, ◌∙◌, ap, length, err_from_is_err_and, program_bytes}
use Rattle.simdram_cli.proofs.Common.{parsed, puts, refused, stores, unloaded, unput, runs_answered}
use Rattle.simdram_cli.proofs.Common.{runs_made}
use Rattle.cli_model.proofs.Doing.{unstored as stops_at_store}
use Rattle.simdram_cli.specs.declared.words.TheConstants.{PROG_MAX}
use Rattle.simdram_cli.specs.Migrate.{migrated_line}
use Rattle.simdram_cli.specs.Programs.{prog_in, prog_refusal, program_or_refusal}
use Rattle.simdram_cli.proofs.Stores.{stored, unstored, at_ok, at_err}
use Rattle.simdram_cli.proofs.Migrating.{entries_are, prog_is, written}
use Rattle.simdram_cli.proofs.migrate.migrate.Goals as goal

pub returns-in_err-bytes : goal.returns-in_err-bytes
returns-in_err-bytes g c =
    let p = err_from_is_err_and c.from_residual.result c.from_residual.ensures.1 in
    λ chip. rw (p.1, p.2) (unloaded c.args.names.now.old.now PROG_MAX prog_in _ _
    (g.F.Folder.view c.args.files.now) (g.F.Folder.view c.load.new.files)
    (g.S.Sink.view c.args.out.now) chip c.in_err-bytes.ensures.failed)

pub returns-in-Err : goal.returns-in-Err
returns-in-Err g c =
    let fault = rw c.deref_mut.ensures.value at c.in-Err.ensures.fault in
    λ chip. refused c.args.names.now.old.now PROG_MAX prog_in _ c.in_ok-bytes.bytes.items
    (prog_refusal c.in-Err.fault) (g.F.Folder.view c.args.files.now)
    (g.F.Folder.view c.load.new.files) (g.S.Sink.view c.args.out.now) chip
    c.in_ok-bytes.ensures.loaded (ap program_or_refusal fault)

pub returns-then-is_err : goal.returns-then-is_err
returns-then-is_err g c =
    let file = rw c.deref_mut.ensures.value at c.in-Ok.ensures.file in
    let text = c.in_ok-bytes.bytes.items in
    let files = g.F.Folder.view c.load.new.files in
    let now = g.F.Folder.view c.store.new.self in
    let out = g.S.Sink.view c.args.out.now in
    let rose = at_err c.store.result (sym c.is_err.ensures.value ∙ c.if-is_err.true)
    c.store.ensures.failed in
    λ chip. parsed c.args.names.now.old.now PROG_MAX prog_in _ text file.programs _
    (g.F.Folder.view c.args.files.now) files out chip _ c.in_ok-bytes.ensures.loaded
    (prog_is text file) (runs_made _ _ tt _ _ _ file
    (stops_at_store c.args.names.now.new.now (program_bytes 2 file.programs) _ files now out chip
    (unstored c.args.names.now.new.now files now out chip c.store.ensures.others rose
    c.store.ensures.counts)))

pub returns-then-is_err-2 : goal.returns-then-is_err-2
returns-then-is_err-2 g c =
    let file = rw c.deref_mut.ensures.value at c.in-Ok.ensures.file in
    let text = c.in_ok-bytes.bytes.items in
    let both = c.migrate.ensures.program file.version file.programs file.is file.has
    (c.deref_mut.ensures.value ∙ file.spelled) in
    let wrote = written c.in_ok-bytes.bytes.len c.migrate.new.bytes c.in_ok-bytes.bytes.items
    (c.migrate.auto.bytes ∙ ap length c.deref_mut.ensures.value ∙ sym c.in_ok-bytes.bytes.ok.0) in
    let files = g.F.Folder.view c.load.new.files in
    let now = g.F.Folder.view c.store.new.self in
    let old = g.S.Sink.view c.args.out.now in
    let new = g.S.Sink.view c.put_counted.new.out in
    let there = at_ok c.store.result (sym c.is_err.ensures.value ∙ c.if-is_err.false)
    c.store.ensures.stored in
    let rose = at_err c.put_counted.result (sym c.is_err-2.ensures.value ∙ c.if-is_err-2.true)
    c.put_counted.ensures.failed in
    λ chip. parsed c.args.names.now.old.now PROG_MAX prog_in _ text file.programs _
    (g.F.Folder.view c.args.files.now) files old chip _ c.in_ok-bytes.ensures.loaded
    (prog_is text file) (runs_made _ _ tt _ _ _ file
    (stores c.args.names.now.new.now (program_bytes 2 file.programs) _ _ files now old chip _
    (stored c.args.names.now.new.now _ files now old chip c.store.ensures.others
    (rw (c.deref.ensures.value, wrote, both.1) at there) c.store.ensures.counts
    (at_ok c.store.result (sym c.is_err.ensures.value ∙ c.if-is_err.false) c.store.ensures.unfailed))
    (unput (migrated_line file.programs) _ now old new chip
    (rw (c.from.ensures, entries_are c.migrate.result _ _ c.in-Ok.is both.0) at
    c.put_counted.ensures.part) c.put_counted.ensures.counts rose)))

pub returns : goal.returns
returns g c =
    let file = rw c.deref_mut.ensures.value at c.in-Ok.ensures.file in
    let text = c.in_ok-bytes.bytes.items in
    let both = c.migrate.ensures.program file.version file.programs file.is file.has
    (c.deref_mut.ensures.value ∙ file.spelled) in
    let wrote = written c.in_ok-bytes.bytes.len c.migrate.new.bytes c.in_ok-bytes.bytes.items
    (c.migrate.auto.bytes ∙ ap length c.deref_mut.ensures.value ∙ sym c.in_ok-bytes.bytes.ok.0) in
    let files = g.F.Folder.view c.load.new.files in
    let now = g.F.Folder.view c.store.new.self in
    let old = g.S.Sink.view c.args.out.now in
    let new = g.S.Sink.view c.put_counted.new.out in
    let there = at_ok c.store.result (sym c.is_err.ensures.value ∙ c.if-is_err.false)
    c.store.ensures.stored in
    let known = at_ok c.put_counted.result (sym c.is_err-2.ensures.value ∙ c.if-is_err-2.false)
    c.put_counted.ensures.sent in
    λ chip. parsed c.args.names.now.old.now PROG_MAX prog_in _ text file.programs _
    (g.F.Folder.view c.args.files.now) files old chip _ c.in_ok-bytes.ensures.loaded
    (prog_is text file) (runs_made _ _ tt _ _ _ file
    (stores c.args.names.now.new.now (program_bytes 2 file.programs) _ _ files now old chip _
    (stored c.args.names.now.new.now _ files now old chip c.store.ensures.others
    (rw (c.deref.ensures.value, wrote, both.1) at there) c.store.ensures.counts
    (at_ok c.store.result (sym c.is_err.ensures.value ∙ c.if-is_err.false) c.store.ensures.unfailed))
    (puts (migrated_line file.programs) _ _ now old new chip _
    (rw (c.from.ensures, entries_are c.migrate.result _ _ c.in-Ok.is both.0) at known)
    (at_ok c.put_counted.result (sym c.is_err-2.ensures.value ∙ c.if-is_err-2.false) c.put_counted.ensures.unfailed) (runs_answered 0 _ _ tt))))
