-- What a `verify` found right, and what an execution gives; and what OPS and PROG decide.
use Rattle.cli_laws.proofs.Common.{◌≡◌, ◌⊎◌, ℕ, List, ◌++◌, map, Option, Some, refl, sym, ◌∙◌, ap}
use Rattle.cli_laws.proofs.Common.{subst, AllByRecursion, result_ok, Files, Known, Banks, Named}
use Rattle.cli_laws.proofs.Common.{image_bytes, Operation, TextOp, text_op, opened, rows_in_banks}
use Rattle.cli_laws.proofs.Common.{Said, said_in_rows, Program, meaning_in, routines_in}
use Rattle.cli_laws.proofs.Common.{banks_at_end, table_at_end, HaveRight, World, ExecNames}
use Rattle.cli_laws.proofs.Common.{Executed, read_as, prog_in}
use Rattle.uprog_bin.specs.Opened.{IsProgramFile}
use Rattle.uprog_bin.specs.Spelling.{program_bytes}
use Rattle.machine_model.specs.Agrees.{Agrees}
use Rattle.machine_model.specs.Opened.{objects_held}
use Rattle.machine_model.specs.Report.{report}
use Rattle.machine_model.specs.Steps.{table_of}
use Rattle.machine_model.proofs.Opened.{opened_agrees, report_same}
use Rattle.machine_model.proofs.Scripts.{script_agrees}
use Rattle.verify_job.specs.Findings.{AreFindings}
use Rattle.verify_job.proofs.Apart.{all_alike, zero_or_unknown}
use Rattle.simdram_cli.specs.declared.words.VerifyNames.{VerifyNames}
use Rattle.simdram_cli.specs.Job.{replies_by, said_in}
use Rattle.simdram_cli.specs.Verify.{Verified}
use Rattle.simdram_cli.proofs.Migrating.{prog_is}
use Rattle.simdram_cli.proofs.Promises.{table_is, tables_end}
use Rattle.simdram_cli.proofs.Tallies.{some_words}
use Rattle.cli_laws.specs.Verified.{GivesWords, IsAtWidths, OneVerified, RightIsExecuted}
use Rattle.cli_laws.specs.Verified.{said_by_words, state_by}
use Rattle.cli_laws.proofs.RightSteps.{right_steps}
use Rattle.cli_laws.proofs.Unique.{one_value, same_ops}

-- the program of a verification, as a program file is read
program_read : (names : VerifyNames) (before after : Files) (a b : World) (status : ℕ)
    (v : Verified names before after a b status) (file : Option (List ℕ))
    → file ≡ before names.prog.now → read_as prog_in file ≡ Some v.program
program_read names before after a b status v file same =
    let f : IsProgramFile (program_bytes v.version v.program) =
    record { version = v.version; programs = v.program; is = v.legal; has = v.has; spelled = refl }
    in
    ap (read_as prog_in) (same ∙ v.prog_is) ∙ ap result_ok (prog_is (program_bytes v.version v.program) f)

-- an execution of entries that are right at the widths of a script's bbops
gives_words : (t : List TextOp) (widths : List ℕ) (names : ExecNames) (before after : Files)
    (a b : World) (status : ℕ) (e : Executed names before after a b status)
    → HaveRight widths e.program t → AllByRecursion (IsAtWidths widths t) e.script
    → GivesWords t e
gives_words t widths names before after a b status e right at =
    let i = e.image in
    let g = i.geometry in
    let o = routines_in e.program in
    let words = some_words g e.accepted.geometry in
    let steps = right_steps g widths e.program t e.script words right at e.plain in
    let start = opened_agrees i words e.accepted in
    let whole = script_agrees g o (meaning_in t) e.script steps (opened i) (objects_held i) start in
    let banks : banks_at_end g o (table_of (objects_held i)) (opened i) e.script ≡ b.chip.banks =
    ap (λ (table : List Named). banks_at_end g o table (opened i) e.script) (table_is i)
    ∙ sym e.row_by_row.work.banks in
    let held : Agrees g b.chip.banks (state_by t e.program e.script i) =
    subst (λ (x : Banks). Agrees g x (state_by t e.program e.script i)) banks whole in
    let table : table_at_end g o i.table e.script ≡ table_of (state_by t e.program e.script i) =
    ap (λ (table : List Named). table_at_end g o table e.script) (sym (table_is i))
    ∙ sym (tables_end g o (meaning_in t) (objects_held i) e.script) in
    let said : said_in e.program e.script i ≡ said_by_words t e.program e.script i =
    ap (λ (table : List Named). said_in_rows g o table (opened i) e.script) (sym (table_is i))
    ∙ report_same g o (meaning_in t) e.script steps (opened i) (objects_held i) start in
    record {
      file = e.row_by_row.file
          ∙ ap (λ (x : List Named). Some (image_bytes g x
          (rows_in_banks (banks_at_end g o i.table (opened i) e.script)))) table
          ∙ ap (λ (x : Banks). Some (image_bytes g (table_of (state_by t e.program e.script i))
          (rows_in_banks x))) (sym e.row_by_row.work.banks);
      numbers = held.numbers;
      sent = subst (λ (s : List Said). Known (λ x y. y ≡ x ++ report s b.chip.counters
          (replies_by e.program e.script i)) a.sink.sent b.sink.sent) said e.row_by_row.sent;
    }

pub right_is_executed : RightIsExecuted
right_is_executed verified names before after found later a b c d status v e same at =
    let program : v.program ≡ e.program =
    one_value (read_as prog_in (found names.prog.now)) v.program e.program
    (program_read verified before after a b 0 v (found names.prog.now) same) e.prog_is in
    gives_words (map text_op v.ops) verified.widths.items names found later c d status e
    (subst (λ (p : Program). HaveRight verified.widths.items p (map text_op v.ops)) program
    (v.right refl)) at

pub one_verified : OneVerified
one_verified names before after later a b c d status other v w wide =
    let ops : v.ops ≡ w.ops =
    same_ops (before names.ops.now) v.ops w.ops v.ops_are w.ops_are in
    let program : v.program ≡ w.program =
    one_value (read_as prog_in (before names.prog.now)) v.program w.program
    (program_read names before after a b status v (before names.prog.now) refl)
    (program_read names before later c d other w (before names.prog.now) refl) in
    let widths = names.widths.items in
    let are : AreFindings widths v.program (map text_op v.ops) w.findings =
    subst (λ (p : Program). AreFindings widths p (map text_op v.ops) w.findings) (sym program)
    (subst (λ (t : List Operation). AreFindings widths w.program (map text_op t) w.findings)
    (sym ops) w.are) in
    record {
      ops = ops;
      program = program;
      alike = all_alike widths v.program (map text_op v.ops) v.findings w.findings wide v.are are;
      files = v.files ∙ sym w.files;
      answer = λ zero. subst (λ s. (s ≡ 0) ⊎ (s ≡ 20)) (sym w.answers)
          (zero_or_unknown widths v.program (map text_op v.ops) v.findings w.findings wide v.are are
          (sym v.answers ∙ zero));
    }
