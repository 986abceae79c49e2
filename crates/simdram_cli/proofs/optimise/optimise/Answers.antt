use Rattle.simdram_cli.proofs.Common.{◌≡◌, ◌-◌, ◌/◌, map, subst, sym, ◌∙◌, ap, err_from_is_err_and}
use Rattle.simdram_cli.proofs.Common.{operations, program_bytes, parsed, puts, refused, stores}
use Rattle.simdram_cli.proofs.Common.{takes, unloaded, unput, unread, wants, runs_answered}
use Rattle.simdram_cli.proofs.Common.{runs_made, text_op, AreOutcomes}
use Rattle.cli_model.proofs.Doing.{unstored as stops_at_store}
use Rattle.simdram_cli.specs.declared.words.TheConstants.{OPS_MAX, PROG_MAX}
use Rattle.simdram_cli.specs.Inputs.{ops_in}
use Rattle.simdram_cli.specs.Optimise.{Made, room_for}
use Rattle.simdram_cli.proofs.MadeFiles.{made_within}
use Rattle.simdram_cli.specs.Programs.{prog_in, prog_refusal, program_or_refusal}
use Rattle.simdram_cli.proofs.Accounting.{opened_file}
use Rattle.simdram_cli.proofs.Migrating.{prog_is}
use Rattle.simdram_cli.proofs.OpsPlans.{ops_read}
use Rattle.simdram_cli.proofs.Stores.{at_err, at_ok, stored, unstored}
use Rattle.simdram_cli.proofs.optimise.optimise.Goals as goal

pub returns-in_err-ops : goal.returns-in_err-ops
returns-in_err-ops g c =
    let p = err_from_is_err_and c.from_residual.result c.from_residual.ensures.1 in
    λ chip. rw (p.1, p.2) (unread c.args.names.now.ops.now OPS_MAX ops_in _ _
    (g.F.Folder.view c.args.files.now) (g.F.Folder.view c.load_ops.new.files)
    (g.S.Sink.view c.args.out.now) chip c.in_err-ops.ensures.not_read)

pub returns-in_err-bytes : goal.returns-in_err-bytes
returns-in_err-bytes g c =
    let p = err_from_is_err_and c.from_residual-in_err-bytes.result c.from_residual-in_err-bytes.ensures.1 in
    λ chip. rw (p.1, p.2) (ops_read c.args.names.now.ops.now _ (operations c.in_ok-ops.ops) _
    (g.F.Folder.view c.args.files.now) (g.F.Folder.view c.load_ops.new.files)
    (g.S.Sink.view c.args.out.now) chip _ c.in_ok-ops.ensures.read
    (λ text is. unloaded c.args.names.now.prog.now PROG_MAX prog_in _ _
    (g.F.Folder.view c.load_ops.new.files) (g.F.Folder.view c.load.new.files)
    (g.S.Sink.view c.args.out.now) chip c.in_err-bytes.ensures.failed))

pub returns-in-Err : goal.returns-in-Err
returns-in-Err g c = λ chip.
    ops_read c.args.names.now.ops.now _ (operations c.in_ok-ops.ops) _
    (g.F.Folder.view c.args.files.now) (g.F.Folder.view c.load_ops.new.files)
    (g.S.Sink.view c.args.out.now) chip _ c.in_ok-ops.ensures.read
    (λ text is. refused c.args.names.now.prog.now PROG_MAX prog_in _ c.in_ok-bytes.bytes.items
    (prog_refusal c.in-Err.fault) (g.F.Folder.view c.load_ops.new.files)
    (g.F.Folder.view c.load.new.files) (g.S.Sink.view c.args.out.now) chip
    c.in_ok-bytes.ensures.loaded
    (ap program_or_refusal (rw c.deref.ensures.value at c.in-Err.ensures.exact)))

pub returns-in_default : goal.returns-in_default
returns-in_default g c =
    let text = c.in_ok-bytes.bytes.items in
    let file = opened_file c.in-Ok.prog text (c.in-Ok.ensures.bytes ∙ c.deref.ensures.value)
    c.in-Ok.ensures.spelled in
    λ chip. ops_read c.args.names.now.ops.now _ (operations c.in_ok-ops.ops) _
    (g.F.Folder.view c.args.files.now) (g.F.Folder.view c.load_ops.new.files)
    (g.S.Sink.view c.args.out.now) chip _ c.in_ok-ops.ensures.read
    (λ ops_text is. parsed c.args.names.now.prog.now PROG_MAX prog_in _ text
    c.in-Ok.prog.programs _ (g.F.Folder.view c.load_ops.new.files)
    (g.F.Folder.view c.load.new.files) (g.S.Sink.view c.args.out.now) chip _
    c.in_ok-bytes.ensures.loaded (prog_is text file) (wants _ _))

pub returns-then-is_err : goal.returns-then-is_err
returns-then-is_err g c =
    let text = c.in_ok-bytes.bytes.items in
    let ops = operations c.in_ok-ops.ops in
    let r = c.in-Ok-optimised.ensures in
    let file = opened_file c.in-Ok.prog text (c.in-Ok.ensures.bytes ∙ c.deref.ensures.value)
    c.in-Ok.ensures.spelled in
    let room : c.room_for-room.result ≡ room_for text =
    c.room_for-room.ensures ∙ ap (λ k. (PROG_MAX - k) / 8) (c.len.ensures
    ∙ c.in_ok-bytes.bytes.ok.0) in
    let are = subst (λ k. AreOutcomes c.args.names.now.width k (map text_op ops) c.in-Ok.prog.programs
    r.lines r.made r.outcomes) room r.are in
    let within = made_within c.args.names.now.width text file
    c.in_ok-bytes.ensures.within (map text_op ops) r.lines r.made r.outcomes r.legal are in
    let made : Made = record
    { ops = ops; lines = r.lines; program = r.made; outcomes = r.outcomes } in
    let files = g.F.Folder.view c.load.new.files in
    let now = g.F.Folder.view c.store.new.self in
    let out = g.S.Sink.view c.args.out.now in
    let rose = at_err c.store.result (sym c.is_err.ensures.value ∙ c.if-is_err.true)
    c.store.ensures.failed in
    λ chip. ops_read c.args.names.now.ops.now _ ops _
    (g.F.Folder.view c.args.files.now) (g.F.Folder.view c.load_ops.new.files) out chip _
    c.in_ok-ops.ensures.read
    (λ ops_text ops_is. parsed c.args.names.now.prog.now PROG_MAX prog_in _ text
    c.in-Ok.prog.programs _ (g.F.Folder.view c.load_ops.new.files) files out chip _
    c.in_ok-bytes.ensures.loaded (prog_is text file) (takes _ _ _ _ (runs_made _ _ made _ _ _
    (record { ops = ops_is; file = file; legal = r.legal; are = are; within = within })
    (stops_at_store c.args.names.now.new.now (program_bytes 2 r.made) _ files now out chip
    (unstored c.args.names.now.new.now files now out chip c.store.ensures.others rose
    c.store.ensures.counts)))))

pub returns-then-is_err-2 : goal.returns-then-is_err-2
returns-then-is_err-2 g c =
    let text = c.in_ok-bytes.bytes.items in
    let ops = operations c.in_ok-ops.ops in
    let r = c.in-Ok-optimised.ensures in
    let file = opened_file c.in-Ok.prog text (c.in-Ok.ensures.bytes ∙ c.deref.ensures.value)
    c.in-Ok.ensures.spelled in
    let room : c.room_for-room.result ≡ room_for text =
    c.room_for-room.ensures ∙ ap (λ k. (PROG_MAX - k) / 8) (c.len.ensures
    ∙ c.in_ok-bytes.bytes.ok.0) in
    let are = subst (λ k. AreOutcomes c.args.names.now.width k (map text_op ops) c.in-Ok.prog.programs
    r.lines r.made r.outcomes) room r.are in
    let within = made_within c.args.names.now.width text file
    c.in_ok-bytes.ensures.within (map text_op ops) r.lines r.made r.outcomes r.legal are in
    let made : Made = record
    { ops = ops; lines = r.lines; program = r.made; outcomes = r.outcomes } in
    let files = g.F.Folder.view c.load.new.files in
    let now = g.F.Folder.view c.store.new.self in
    let out = g.S.Sink.view c.args.out.now in
    let there = at_ok c.store.result (sym c.is_err.ensures.value ∙ c.if-is_err.false)
    c.store.ensures.stored in
    let is = sym c.is_err-2.ensures.value ∙ c.if-is_err-2.true in
    λ chip. ops_read c.args.names.now.ops.now _ ops _
    (g.F.Folder.view c.args.files.now) (g.F.Folder.view c.load_ops.new.files) out chip _
    c.in_ok-ops.ensures.read
    (λ ops_text ops_is. parsed c.args.names.now.prog.now PROG_MAX prog_in _ text
    c.in-Ok.prog.programs _ (g.F.Folder.view c.load_ops.new.files) files out chip _
    c.in_ok-bytes.ensures.loaded (prog_is text file) (takes _ _ _ _ (runs_made _ _ made _ _ _
    (record { ops = ops_is; file = file; legal = r.legal; are = are; within = within })
    (stores c.args.names.now.new.now (program_bytes 2 r.made) _ _ files now out chip _
    (stored c.args.names.now.new.now _ files now out chip c.store.ensures.others
    (rw (c.deref-2.ensures.value, r.file_is) at there) c.store.ensures.counts
    (at_ok c.store.result (sym c.is_err.ensures.value ∙ c.if-is_err.false) c.store.ensures.unfailed))
    (unput _ _ now out (g.S.Sink.view c.put.new.self) chip
    (rw (c.deref-3.ensures.value, r.text_is) at (at_err c.put.result is c.put.ensures.part))
    c.put.ensures.counts (at_err c.put.result is c.put.ensures.failed))))))

pub returns : goal.returns
returns g c =
    let text = c.in_ok-bytes.bytes.items in
    let ops = operations c.in_ok-ops.ops in
    let r = c.in-Ok-optimised.ensures in
    let file = opened_file c.in-Ok.prog text (c.in-Ok.ensures.bytes ∙ c.deref.ensures.value)
    c.in-Ok.ensures.spelled in
    let room : c.room_for-room.result ≡ room_for text =
    c.room_for-room.ensures ∙ ap (λ k. (PROG_MAX - k) / 8) (c.len.ensures
    ∙ c.in_ok-bytes.bytes.ok.0) in
    let are = subst (λ k. AreOutcomes c.args.names.now.width k (map text_op ops) c.in-Ok.prog.programs
    r.lines r.made r.outcomes) room r.are in
    let within = made_within c.args.names.now.width text file
    c.in_ok-bytes.ensures.within (map text_op ops) r.lines r.made r.outcomes r.legal are in
    let made : Made = record
    { ops = ops; lines = r.lines; program = r.made; outcomes = r.outcomes } in
    let files = g.F.Folder.view c.load.new.files in
    let now = g.F.Folder.view c.store.new.self in
    let out = g.S.Sink.view c.args.out.now in
    let there = at_ok c.store.result (sym c.is_err.ensures.value ∙ c.if-is_err.false)
    c.store.ensures.stored in
    let known = at_ok c.put.result (sym c.is_err-2.ensures.value ∙ c.if-is_err-2.false)
    c.put.ensures.sent in
    λ chip. ops_read c.args.names.now.ops.now _ ops _
    (g.F.Folder.view c.args.files.now) (g.F.Folder.view c.load_ops.new.files) out chip _
    c.in_ok-ops.ensures.read
    (λ ops_text ops_is. parsed c.args.names.now.prog.now PROG_MAX prog_in _ text
    c.in-Ok.prog.programs _ (g.F.Folder.view c.load_ops.new.files) files out chip _
    c.in_ok-bytes.ensures.loaded (prog_is text file) (takes _ _ _ _ (runs_made _ _ made _ _ _
    (record { ops = ops_is; file = file; legal = r.legal; are = are; within = within })
    (stores c.args.names.now.new.now (program_bytes 2 r.made) _ _ files now out chip _
    (stored c.args.names.now.new.now _ files now out chip c.store.ensures.others
    (rw (c.deref-2.ensures.value, r.file_is) at there) c.store.ensures.counts
    (at_ok c.store.result (sym c.is_err.ensures.value ∙ c.if-is_err.false) c.store.ensures.unfailed))
    (puts _ _ _ now out (g.S.Sink.view c.put.new.self) chip _
    (rw (c.deref-3.ensures.value, r.text_is) at known) (at_ok c.put.result (sym c.is_err-2.ensures.value ∙ c.if-is_err-2.false) c.put.ensures.unfailed)
    (runs_answered 0 _ _ tt))))))
