-- What the files at entry decide.
use Rattle.cli_laws.proofs.Common.{◌≡◌, ◌≢◌, ℕ, Bool, true, false, List, length, map, Option, Some}
use Rattle.cli_laws.proofs.Common.{None, refl, sym, ◌∙◌, ap, inr, bytes_eq, Files, Banks}
use Rattle.cli_laws.proofs.Common.{image_bytes, Operation, text_op, file_is_one, Instruction, Image}
use Rattle.cli_laws.proofs.Common.{rows_in_banks, Program, Trace, bytes_of_trace, replayed}
use Rattle.cli_laws.proofs.Common.{files_are_exact, World, ExecNames, TraceNames, Executed, read_as}
use Rattle.cli_laws.proofs.Common.{Traced, trace_of, at_own}
use Rattle.std.proofs.lemmas.Slice.Eq.{bytes_eq-Decides}
use Rattle.op_text.proofs.Meeting.{ops_of_a_text_are_one}
use Rattle.guard_model.specs.declared.Flip.{Flip}
use Rattle.trace_model.specs.Replay.{script_trace}
use Rattle.simdram_cli.specs.declared.words.GuardNames.{GuardNames}
use Rattle.simdram_cli.specs.Flips.{flips_in}
use Rattle.simdram_cli.specs.Guard.{GuardJob, Guarded, guard_job, image_at_last, refused_of}
use Rattle.simdram_cli.specs.Guard.{table_at_last}
use Rattle.simdram_cli.specs.Headline.{Spells}
use Rattle.simdram_cli.specs.Job.{done_status, image_by, refused_by}
use Rattle.simdram_cli.specs.Replay.{image_replayed}
use Rattle.simdram_cli.specs.Tracing.{exec_of, unlogged_world}
use Rattle.cli_laws.proofs.Replays.{same_ok}
use Rattle.cli_laws.specs.Unique.{OneExecuted, OneGuardedJob, OneRecorded, OneReplayed, SameGuarded}
use Rattle.cli_laws.specs.Unique.{SameInputs, SameWork}
use mathlib.Core.Path.{fun_ext}

pub one_value : {A : Type 0} (o : Option A) (x y : A) → o ≡ Some x → o ≡ Some y → x ≡ y
one_value {A = A} o x y e f = let g : ◌≡◌ {A = Option A} (Some x) (Some y) = sym e ∙ f in cc

-- the same of the same three
by_three : {A B C D : Type 0} (f : A → B → C → D) (p q : A) (s t : B) (i j : C) → p ≡ q → s ≡ t
    → i ≡ j → f p s i ≡ f q t j
by_three f p q s t i j x y z = rw (x, y, z) refl

-- Files that differ from the same ones at two names at most, and agree there, are the same

different : (name own : List ℕ) → bytes_eq name own ≡ false → name ≡ own → ⊥
different name own e is = let same = (bytes_eq-Decides name own).1 is in cc

abbrev Keeps : (own more : List ℕ) (before after : Files) → Type 0
Keeps own more before after =
    (name : List ℕ) → name ≢ own → name ≢ more → after name ≡ before name

same_at : (own more : List ℕ) (before after later : Files) (name : List ℕ) (x y : Bool)
    → bytes_eq name own ≡ x → bytes_eq name more ≡ y → after own ≡ later own
    → after more ≡ later more → Keeps own more before after → Keeps own more before later
    → after name ≡ later name
same_at own more before after later name true y e f same too k l =
    let is = (bytes_eq-Decides name own).0 e in
    ap after is ∙ same ∙ ap later (sym is)
same_at own more before after later name false true e f same too k l =
    let is = (bytes_eq-Decides name more).0 f in
    ap after is ∙ too ∙ ap later (sym is)
same_at own more before after later name false false e f same too k l =
    k name (different name own e) (different name more f)
    ∙ sym (l name (different name own e) (different name more f))

same_files : (own more : List ℕ) (before after later : Files) → after own ≡ later own
    → after more ≡ later more → Keeps own more before after → Keeps own more before later
    → after ≡ later
same_files own more before after later same too k l =
    fun_ext (λ name. same_at own more before after later name (bytes_eq name own)
    (bytes_eq name more) refl refl same too k l)

-- Executions

same_work : (names : ExecNames) (before after later : Files) (a b c d : World) (status other : ℕ)
    (e : Executed names before after a b status) (f : Executed names before later c d other)
    → SameWork e f
same_work names before after later a b c d status other e f = record {
  program = one_value _ e.program f.program e.prog_is f.prog_is;
  script = one_value _ e.script f.script e.script_is f.script_is;
  image = one_value _ e.image f.image e.image_is f.image_is;
}

same_status : (names : ExecNames) (before after later : Files) (a b c d : World) (status other : ℕ)
    (e : Executed names before after a b status) (f : Executed names before later c d other)
    → SameWork e f → status ≡ other
same_status names before after later a b c d status other e f w =
    e.row_by_row.answers
    ∙ by_three (λ (p : Program) (s : List Instruction) (i : Image). done_status (refused_by p s i))
    e.program f.program e.script f.script e.image f.image w.program w.script w.image
    ∙ sym f.row_by_row.answers

pub one_executed : OneExecuted
one_executed names before after later a b c d status other e f =
    let w = same_work names before after later a b c d status other e f in
    let out : after names.out.now ≡ later names.out.now =
    e.row_by_row.file
    ∙ by_three (λ (p : Program) (s : List Instruction) (i : Image). Some (image_by p s i))
    e.program f.program e.script f.script e.image f.image w.program w.script w.image
    ∙ sym f.row_by_row.file in
    record {
      work = w;
      files = same_files names.out.now names.out.now before after later out out
          (λ name m n. e.others name m) (λ name m n. f.others name m);
      answer = same_status names before after later a b c d status other e f w;
    }

kept_trace : (names : TraceNames) (before after : Files) (a b : World) (status : ℕ)
    (t : Traced names before after a b status)
    → after names.trace.now ≡ Some (bytes_of_trace (trace_of t.executed))
kept_trace names before after a b status t =
    ap (λ (f : Files). f names.trace.now) t.stored
    ∙ at_own names.trace.now (bytes_of_trace (trace_of t.executed)) t.between

abbrev left_by : Trace → Image → Option (List ℕ)
left_by x i = Some (image_bytes i.geometry x.table (rows_in_banks (replayed x.events i)))

pub one_recorded : OneRecorded
one_recorded names before after later a b c d status other t u =
    let w = same_work (exec_of names) before t.between u.between a (unlogged_world b) c
    (unlogged_world d) status other t.executed u.executed in
    let trace : trace_of t.executed ≡ trace_of u.executed =
    by_three (λ (p : Program) (s : List Instruction) (i : Image). script_trace p i s)
    t.executed.program u.executed.program t.executed.script u.executed.script t.executed.image
    u.executed.image w.program w.script w.image in
    let out : after names.out.now ≡ later names.out.now =
    t.replays ∙ ap (λ (x : Trace). left_by x t.executed.image) trace
    ∙ ap (λ (i : Image). left_by (trace_of u.executed) i) w.image ∙ sym u.replays in
    let stored : after names.trace.now ≡ later names.trace.now =
    kept_trace names before after a b status t
    ∙ ap (λ (x : Trace). Some (bytes_of_trace x)) trace
    ∙ sym (kept_trace names before later c d other u) in
    record {
      work = w;
      trace = trace;
      files = same_files names.out.now names.trace.now before after later out stored t.others
          u.others;
      answer = same_status (exec_of names) before t.between u.between a (unlogged_world b) c
          (unlogged_world d) status other t.executed u.executed w;
    }

pub one_replayed : OneReplayed
one_replayed names before after later a b c d r s =
    let trace : r.trace ≡ s.trace =
    same_ok r.trace s.trace (files_are_exact.read r.trace r.legal)
    (files_are_exact.read s.trace s.legal) (one_value _ _ _ r.trace_is s.trace_is) in
    let image : r.image ≡ s.image = one_value _ r.image s.image r.image_is s.image_is in
    let out : after names.out.now ≡ later names.out.now =
    r.file ∙ ap (λ (x : Trace). Some (image_replayed x r.image)) trace
    ∙ ap (λ (i : Image). Some (image_replayed s.trace i)) image ∙ sym s.file in
    record {
      trace = trace;
      image = image;
      files = same_files names.out.now names.out.now before after later out out
          (λ name m n. r.others name m) (λ name m n. s.others name m);
    }

-- Guarded runs

pub same_ops : (file : Option (List ℕ)) (x y : List Operation) → Spells file x → Spells file y → x ≡ y
same_ops None x y s t = absurd s
same_ops (Some text) x y s t = ops_of_a_text_are_one text x y s t

abbrev read_flips : Option (List ℕ) → List Instruction → Image → Option (List Flip)
read_flips file script i = read_as (flips_in i.geometry (length script)) file

same_inputs : (names : GuardNames) (before after later : Files) (a b c d : World)
    (status other : ℕ) (g : Guarded names before after a b status)
    (h : Guarded names before later c d other) → SameInputs g h
same_inputs names before after later a b c d status other g h =
    let script : g.job.script ≡ h.job.script =
    one_value _ g.job.script h.job.script g.of_files.script h.of_files.script in
    let image : g.job.image ≡ h.job.image =
    one_value _ g.job.image h.job.image g.of_files.image h.of_files.image in
    let file = before names.flips.now in
    record {
      text = g.of_files.text
          ∙ ap (map text_op) (same_ops (before names.ops.now) g.of_files.ops h.of_files.ops
          g.of_files.are h.of_files.are)
          ∙ sym h.of_files.text;
      script = script;
      image = image;
      flips = one_value (read_flips file h.job.script h.job.image) g.job.flips h.job.flips
          (ap (λ (i : Image). read_flips file h.job.script i) (sym image)
          ∙ ap (λ (s : List Instruction). read_flips file s g.job.image) (sym script)
          ∙ g.flips_are)
          h.flips_are;
    }

job_by : (p q : Program) (s t : List Instruction) (i j : Image) (x y : List Flip) → p ≡ q → s ≡ t
    → i ≡ j → x ≡ y → guard_job p s i x ≡ guard_job q t j y
job_by p q s t i j x y e f g h = rw (e, f, g, h) refl

same_program : (names : GuardNames) (before after later : Files) (a b c d : World)
    (status other : ℕ) (g : Guarded names before after a b status)
    (h : Guarded names before later c d other) → after names.prog.now ≡ later names.prog.now
    → g.job.program ≡ h.job.program
same_program names before after later a b c d status other g h same =
    (file_is_one 2 2 g.job.program h.job.program g.program_written.legal h.program_written.legal
    (inr refl) (inr refl) (one_value (after names.prog.now) _ _ g.program_written.file
    (same ∙ h.program_written.file))).1

out_is : (names : GuardNames) (before after : Files) (a b : World) (status : ℕ)
    (g : Guarded names before after a b status) → after names.out.now ≡ Some (image_at_last g.job)
out_is names before after a b status g =
    g.rows.file
    ∙ ap (λ (x : Banks). Some (image_bytes g.job.image.geometry (table_at_last g.job) (rows_in_banks x)))
    g.rows.banks

same_guarded : (names : GuardNames) (before after later : Files) (a b c d : World)
    (status other : ℕ) (g : Guarded names before after a b status)
    (h : Guarded names before later c d other) → SameInputs g h
    → after names.prog.now ≡ later names.prog.now → SameGuarded g h
same_guarded names before after later a b c d status other g h i same =
    let job : g.job ≡ h.job =
    job_by g.job.program h.job.program g.job.script h.job.script g.job.image h.job.image
    g.job.flips h.job.flips
    (same_program names before after later a b c d status other g h same) i.script i.image
    i.flips in
    let out : after names.out.now ≡ later names.out.now =
    out_is names before after a b status g
    ∙ ap (λ (j : GuardJob). Some (image_at_last j)) job
    ∙ sym (out_is names before later c d other h) in
    record {
      job = job;
      files = same_files names.prog.now names.out.now before after later same out g.others
          h.others;
      answer = g.rows.answers ∙ ap (λ (j : GuardJob). done_status (refused_of j)) job
          ∙ sym h.rows.answers;
    }

pub one_guarded_job : OneGuardedJob
one_guarded_job names before after later a b c d status other g h =
    let i = same_inputs names before after later a b c d status other g h in
    (i, λ same. same_guarded names before after later a b c d status other g h i same)
