-- What an execution leaves where the chip failed past its opening.
use Rattle.cli_laws.proofs.Common.{◌≡◌, ℕ, ◌+◌, ◌<◌, ◌≤◌, Bool, true, false, ◌||◌, cond, List, []}
use Rattle.cli_laws.proofs.Common.{◌∷◌, ◌++◌, length, Option, Some, None, refl, sym, ◌∙◌, ap, subst}
use Rattle.cli_laws.proofs.Common.{inl, inr, arith, append_assoc, append-nil, ◌≢◌, IfSome, Result}
use Rattle.cli_laws.proofs.Common.{Ok, Err, AllByRecursion, result_ok, Files, Banks, Found}
use Rattle.cli_laws.proofs.Common.{ImageFault, image_in, Named, Instruction, IsPlain, Image, opened}
use Rattle.cli_laws.proofs.Common.{Said, said_in_rows, Program, Routines, routines_in, banks_at_end}
use Rattle.cli_laws.proofs.Common.{table_at_end, World, ChipUse, Load, Reason, CannotRead, TooLong}
use Rattle.cli_laws.proofs.Common.{Refused, NoMemory, CannotWrite, PutFailed, ChipFailed, Done}
use Rattle.cli_laws.proofs.Common.{reason_status, foreseen, Ended, All, At, EndsSo, IsForetold, Way}
use Rattle.cli_laws.proofs.Common.{AreTexts, last_status, refused_last, steps_of, TellsLast}
use Rattle.cli_laws.proofs.Common.{refused_so, ExecNames, IMAGE_MAX, read_as, image_found, image_of}
use Rattle.cli_laws.proofs.Common.{image_or_refusal, prog_in, image_refuses}
use Rattle.std.specs.Prelude.{flat_map, nat_lt}
use Rattle.file_fields.specs.Fields.{IsBytes}
use Rattle.dram_model.specs.Chip.{Event, after, row_in}
use Rattle.object_alloc.specs.Spelling.{IsImage}
use Rattle.object_alloc.proofs.Exact.{image_spelled}
use Rattle.uprog_code.specs.Programs.{IsProgram}
use Rattle.bbop_isa.specs.declared.instr.ScriptFault.{ScriptFault}
use Rattle.bbop_isa.specs.Script.{script_of}
use Rattle.wave_model.specs.Schedule.{Turn, Ahead}
use Rattle.machine_model.specs.Laws.{TableFits}
use Rattle.machine_model.specs.Pieces.{Piece, Wave, Alone, IsPiece, instrs_in, pieces, turn_after}
use Rattle.machine_model.specs.Report.{line, said_by}
use Rattle.machine_model.specs.Script.{is_touched_by}
use Rattle.machine_model.specs.Steps.{is_touched}
use Rattle.machine_model.proofs.Accepted.{accepted_is_plain}
use Rattle.machine_model.proofs.KeptAll.{untouched_stays}
use Rattle.machine_model.proofs.Parts.{scripts_go_on}
use Rattle.machine_model.proofs.Pieces.{pieces_are_script}
use Rattle.machine_model.proofs.Tables.{table_stays}
use Rattle.sim_machine.specs.Machine.{is_print}
use Rattle.cli_model.specs.Waves.{IsLeftBy}
use Rattle.cli_model.specs.Steps.{Step, Store, Open, Put, Print, Refusal, End, Stopped}
use Rattle.cli_model.specs.Steps.{line_steps}
use Rattle.cli_model.specs.Foreseen.{load_end}
use Rattle.cli_model.specs.Ends.{Stop, Causes, IsStopped}
use Rattle.cli_model.proofs.Statuses.{OfRefusal}
use Rattle.safety_laws.proofs.Safe.{stopped_waves_are_safe}
use Rattle.safety_laws.proofs.Single.{stopped_uses_are_safe}
use Rattle.simdram_cli.specs.declared.words.TheConstants.{PROG_MAX, SCRIPT_MAX}
use Rattle.simdram_cli.specs.Exec.{exec_plan}
use Rattle.simdram_cli.specs.Inputs.{script_in, script_or_refusal}
use Rattle.simdram_cli.specs.Job.{piece_steps, pieces_steps, put_lines, reading_by, script_steps}
use Rattle.simdram_cli.specs.Job.{use_on, work_steps}
use Rattle.simdram_cli.proofs.Executing.{file_program}
use Rattle.simdram_cli.proofs.JobPlans.{prog_refuses, script_refuses}
use Rattle.simdram_cli.proofs.OpenedRows.{opened_rows}
use Rattle.cli_laws.specs.Faults.{FaultSpares, FaultsSpareRows, IsPastOpening, StaysAfter}
use Rattle.cli_laws.specs.Faults.{IsFailing, StaysAsRead}

-- parts of lists

split_all : {X : Type 0} (P : X → Type 0) (xs ys : List X) → AllByRecursion P (xs ++ ys)
    → AllByRecursion P xs × AllByRecursion P ys
split_all P [] ys all = (tt, all)
split_all P (x ∷ xs) ys all = let rest = split_all P xs ys all.1 in ((all.0, rest.0), rest.1)

both_all : {X : Type 0} (P : X → Type 0) (xs ys : List X) → AllByRecursion P xs
    → AllByRecursion P ys → AllByRecursion P (xs ++ ys)
both_all P [] ys all more = more
both_all P (x ∷ xs) ys all more = (all.0, both_all P xs ys all.1 more)

middle : {X : Type 0} (P : X → Type 0) (before : List X) (at : X) (following all : List X)
    → before ++ at ∷ following ≡ all → AllByRecursion P all → P at
middle P before at following all e each =
    (split_all P before (at ∷ following) (subst (AllByRecursion P) (sym e) each)).1.0

none_done : {X : Type 0} (xs ys : List X) → xs ++ ys ≡ [] → xs ≡ []
none_done [] ys e = refl
none_done (x ∷ xs) ys e = absurd (cc)

-- a list of steps that begins with one that did not fail
record Past (x : Step) (xs before : List Step) (failed : Step) (following : List Step) : Type 0
  where
    rest : List Step
    is : before ≡ x ∷ rest
    place : rest ++ failed ∷ following ≡ xs

past : (x : Step) (xs before : List Step) (failed : Step) (following : List Step)
    → (failed ≡ x → ⊥) → before ++ failed ∷ following ≡ x ∷ xs → Past x xs before failed following
past x xs [] failed following ne e = let same : failed ≡ x = cc in absurd (ne same)
past x xs (y ∷ before) failed following ne e =
    let head : y ≡ x = cc in
    let tail : before ++ failed ∷ following ≡ xs = cc in
    record { rest = before; is = ap (λ (s : Step). s ∷ before) head; place = tail }

-- what follows of a step that failed with 9, if it is no opening
abbrev FailsTo : (S : Type 0) → World → World → Step → Type 0
FailsTo S a b step = ((on : ChipUse) → step ≢ Open on) → (reason : Reason)
    → Causes step reason a b → 9 ≡ reason_status reason → S

-- which no load has
load_no : (name : List ℕ) (limit : ℕ) (text : List ℕ) (refusal : Option Refusal)
    (reason : Reason) (a b : World) → OfRefusal (λ s. 9 ≡ s → ⊥) refusal
    → Causes (Load name limit text refusal) reason a b → 9 ≡ reason_status reason → ⊥
load_no name limit text refusal (CannotRead said) a b o c e = cc
load_no name limit text refusal (TooLong said) a b o c e = cc
load_no name limit text None (Refused said) a b o c e = cc
load_no name limit text (Some r) (Refused said) a b o c e =
    let same : said ≡ r = cc in o (e ∙ ap (λ (x : Refusal). x.status) same)
load_no name limit text refusal NoMemory a b o c e = cc
load_no name limit text refusal (CannotWrite said) a b o c e = elim c [ ]
load_no name limit text refusal PutFailed a b o c e = elim c [ ]
load_no name limit text refusal ChipFailed a b o c e = elim c [ ]

load_fails : (S : Type 0) (a b : World) (name : List ℕ) (limit : ℕ) (text : List ℕ)
    (refusal : Option Refusal) → OfRefusal (λ s. 9 ≡ s → ⊥) refusal
    → FailsTo S a b (Load name limit text refusal)
load_fails S a b name limit text refusal o =
    λ n reason c e. absurd (load_no name limit text refusal reason a b o c e)

no_nine : (reason other : Reason) → reason ≡ other → 9 ≡ reason_status reason
    → (9 ≡ reason_status other → ⊥) → ⊥
no_nine reason other same e f = f (e ∙ ap reason_status same)

put_fails : (S : Type 0) (a b : World) (bytes : List ℕ) → FailsTo S a b (Put bytes)
put_fails S a b bytes =
    λ n reason c e. absurd (no_nine reason PutFailed c.0 e (λ f. cc))

store_fails : (S : Type 0) (a b : World) (name bytes : List ℕ) → FailsTo S a b (Store name bytes)
store_fails S a b name bytes =
    λ n reason c e. absurd (no_nine reason (CannotWrite name) c.0 e (λ f. cc))

print_fails : (S : Type 0) (a b : World) (on : ChipUse) (bytes : List ℕ)
    → (IsLeftBy on b.chip.banks → S) → FailsTo S a b (Print on bytes)
print_fails S a b on bytes f n reason (inl c) e = absurd (no_nine reason PutFailed c.0 e (λ f. cc))
print_fails S a b on bytes f n reason (inr c) e = f c.2

lines_fail : (S : Type 0) (a b : World) (number : ℕ) (said : List Said)
    → AllByRecursion (FailsTo S a b) (put_lines number said)
lines_fail S a b number [] = tt
lines_fail S a b number (x ∷ said) =
    (put_fails S a b (line number x), lines_fail S a b (number + 1) said)

line_fails : (S : Type 0) (a b : World) (on : ChipUse) (prints : Bool) (bytes : List ℕ)
    → (IsLeftBy on b.chip.banks → S) → AllByRecursion (FailsTo S a b) (line_steps on prints bytes)
line_fails S a b on true bytes f = (print_fails S a b on bytes f, tt)
line_fails S a b on false bytes f =
    ((λ n reason c e. f c.2), (put_fails S a b bytes, tt))

-- a script on an image: the pieces, one after another

or_none : (b : Bool) → (b || false) ≡ false → b ≡ false
or_none true e = e
or_none false e = refl

-- where the first instructions are done
record Reached (program : Program) (i : Image) (done : List Instruction) (table : List Named)
    (banks : Banks) : Type 0 where
  fits : TableFits i.geometry table
  table_is : table ≡ table_at_end i.geometry (routines_in program) i.table done
  banks_are : banks ≡ banks_at_end i.geometry (routines_in program) i.table (opened i) done

module _ (program : Program) (i : Image) (script : List Instruction) (legal : IsProgram program)
    (S : Type 0) (a b : World)
    (found : (done failing following : List Instruction) (lost : ℕ)
    → done ++ (failing ++ following) ≡ script → IsFailing failing following
    → StaysAfter program i done failing lost b.chip.banks → S) where
  abbrev o : Routines
  o = routines_in program

  -- a row is as the done instructions leave it, if it is as before the failing ones
  stays_by : (done failing : List Instruction) (lost : ℕ) (table : List Named) (banks : Banks)
      → Reached program i done table banks
      → ((bank row : ℕ) → bank < i.geometry.banks → bank ≢ lost
      → is_touched_by i.geometry o table failing bank row ≡ false
      → row_in row (b.chip.banks bank) ≡ row_in row (banks bank))
      → StaysAfter program i done failing lost b.chip.banks
  stays_by done failing lost table banks r still bank row below ne out =
      still bank row below ne (subst (λ (t : List Named).
      is_touched_by i.geometry o t failing bank row ≡ false) (sym r.table_is) out)
      ∙ ap (λ (x : Banks). row_in row (x bank)) r.banks_are

  piece_fails : (done rest : List Instruction) (piece : Piece) (turn : Turn) (table : List Named)
      (banks : Banks) (number : ℕ) → Reached program i done table banks → IsPiece piece
      → done ++ (instrs_in piece ++ rest) ≡ script
      → AllByRecursion (FailsTo S a b) (piece_steps i.geometry o turn table banks number piece)
  piece_fails done rest (Wave wave) turn table banks number r is all = (
    (λ n reason c e. found done wave rest c.2.bank all (inr (Wave wave, is, refl))
        (stays_by done wave c.2.bank table banks r (λ bank row below ne out.
        stopped_waves_are_safe i.geometry program turn table [] wave banks b.chip.banks bank row
        legal r.fits tt is.0 c.2 below ne refl out))),
    lines_fail S a b number (said_in_rows i.geometry o table banks wave),
  )
  piece_fails done rest (Alone instr) turn table banks number r is all =
      line_fails S a b (use_on i.geometry o turn table banks instr) (is_print instr)
      (line number (said_by i.geometry o table banks instr)) (λ left.
      found done (instr ∷ []) rest left.bank all (inr (Alone instr, is, refl))
      (stays_by done (instr ∷ []) left.bank table banks r (λ bank row below ne out.
      stopped_uses_are_safe i.geometry program turn table [] instr banks b.chip.banks bank row
      legal r.fits tt left ne refl
      (or_none (is_touched i.geometry o table instr bank row) out))))

  -- the instructions of a piece more are done
  reached_more : (done : List Instruction) (piece : Piece) (table : List Named) (banks : Banks)
      → Reached program i done table banks → AllByRecursion IsPlain (instrs_in piece)
      → Reached program i (done ++ instrs_in piece)
      (table_at_end i.geometry o table (instrs_in piece))
      (banks_at_end i.geometry o table banks (instrs_in piece))
  reached_more done piece table banks r plain =
      let more = scripts_go_on i.geometry o i.table done (instrs_in piece) in
      record {
        fits = table_stays i.geometry o table (instrs_in piece) plain r.fits;
        table_is = ap (λ (t : List Named). table_at_end i.geometry o t (instrs_in piece)) r.table_is
            ∙ sym more.tables;
        banks_are = ap (λ (t : List Named). banks_at_end i.geometry o t banks (instrs_in piece))
            r.table_is
            ∙ ap (λ (x : Banks). banks_at_end i.geometry o
            (table_at_end i.geometry o i.table done) x (instrs_in piece)) r.banks_are
            ∙ sym (more.states (opened i));
      }

  pieces_fail : (ps : List Piece) (done : List Instruction) (turn : Turn) (table : List Named)
      (banks : Banks) (number : ℕ) → Reached program i done table banks
      → AllByRecursion IsPiece ps → AllByRecursion IsPlain (flat_map instrs_in ps)
      → done ++ flat_map instrs_in ps ≡ script
      → AllByRecursion (FailsTo S a b) (pieces_steps i.geometry o turn table banks number ps)
  pieces_fail [] done turn table banks number r are plain all = tt
  pieces_fail (piece ∷ ps) done turn table banks number r are plain all =
      let more = split_all IsPlain (instrs_in piece) (flat_map instrs_in ps) plain in
      both_all (FailsTo S a b) (piece_steps i.geometry o turn table banks number piece) _
      (piece_fails done (flat_map instrs_in ps) piece turn table banks number r are.0 all)
      (pieces_fail ps (done ++ instrs_in piece) (turn_after i.geometry o turn table piece)
      (table_at_end i.geometry o table (instrs_in piece))
      (banks_at_end i.geometry o table banks (instrs_in piece))
      (number + length (instrs_in piece)) (reached_more done piece table banks r more.0) are.1
      more.1 (append_assoc done (instrs_in piece) (flat_map instrs_in ps) ∙ all))

  -- the reading of the rows, after the whole script
  reading_fails : FailsTo S a b (reading_by program script i)
  reading_fails n reason c e =
      found script [] [] c.2.bank (append-nil script) (inl (refl, refl)) (λ bank row below ne out.
      ap (row_in row) (c.2.others bank ne
      ∙ ap (λ (es : List Event). after es (banks_at_end i.geometry o i.table (opened i) script) bank)
      (none_done c.2.done c.2.left c.2.all)))

  work_fails : (out : List ℕ) → TableFits i.geometry i.table → AllByRecursion IsPlain script
      → AllByRecursion (FailsTo S a b) (work_steps out program script i ++ [])
  work_fails out fits plain =
      let start : Reached program i [] i.table (opened i) =
      record { fits = fits; table_is = refl; banks_are = refl } in
      let cut = pieces_are_script script in
      both_all (FailsTo S a b) (work_steps out program script i) [] (
        (λ n reason c e. absurd (n _ refl)),
        both_all (FailsTo S a b) (script_steps program script i) _
            (pieces_fail (pieces script) [] Ahead i.table (opened i) 1 start cut.0
            (subst (AllByRecursion IsPlain) (sym cut.1) plain) cut.1)
            (reading_fails, (store_fails S a b out _, (put_fails S a b _, tt))),
      ) tt

-- what was read of the files

cond_done : (b : Bool) (reason : Reason) (rest : End) → cond b (Stopped reason) rest ≡ Done
    → rest ≡ Done
cond_done true reason rest e = absurd (cc)
cond_done false reason rest e = e

-- a file whose load was done is there, with its text; and then the steps after it are foreseen
record WasLoaded (file : Option (List ℕ)) (text : List ℕ) (rest : End) : Type 0 where
  there : file ≡ Some text
  more : rest ≡ Done

was_loaded : (name : List ℕ) (limit : ℕ) (text : List ℕ) (file : Option (List ℕ)) (rest : End)
    → load_end name limit None file rest ≡ Done → IfSome file (λ bytes. bytes ≡ text)
    → WasLoaded file text rest
was_loaded name limit text None rest e is = absurd (cc)
was_loaded name limit text (Some bytes) rest e is = record {
  there = ap (λ (x : List ℕ). Some x) is;
  more = cond_done (nat_lt limit (length bytes)) (TooLong name) rest e;
}

read_plain : (text : List ℕ) (r : Result (List Instruction) ScriptFault) (script : List Instruction)
    → script_of text ≡ r → script_or_refusal r ≡ Ok script → AllByRecursion IsPlain script
read_plain text (Ok own) script is e =
    let same : own ≡ script = cc in
    subst (AllByRecursion IsPlain) same (accepted_is_plain text own is)
read_plain text (Err fault) script is e = absurd (cc)

read_image : (bytes : List ℕ) (r : Result Found ImageFault) (i : Image) → IsBytes bytes
    → image_in bytes ≡ r → image_or_refusal r ≡ Ok i → IsImage i.geometry i.table i.rows
read_image bytes (Ok found) i fits is e =
    let same : image_found found ≡ i = cc in
    subst (λ (x : Image). IsImage x.geometry x.table x.rows) same
    (image_spelled bytes found fits is).0
read_image bytes (Err fault) i fits is e = absurd (cc)

-- rows that stay as the done instructions leave them are as in the image, if these may not change
-- them either
as_read : (program : Program) (i : Image) (done failing : List Instruction) (lost : ℕ)
    (banks : Banks) → IsProgram program → IsImage i.geometry i.table i.rows
    → AllByRecursion IsPlain done → StaysAfter program i done failing lost banks
    → StaysAsRead program i done failing lost banks
as_read program i done failing lost banks legal is plain stays bank row b r ne out spared =
    stays bank row b ne spared
    ∙ untouched_stays i.geometry program i.table done (opened i) bank row legal is.listed plain out
    ∙ opened_rows i bank row is b r

-- an execution that stopped

at_failed : (S : Type 0) (a b : World) (steps : List Step) (stop : Stop)
    → IsStopped steps stop a b 9 → ((on : ChipUse) → stop.failed ≢ Open on)
    → AllByRecursion (FailsTo S a b) steps → S
at_failed S a b steps stop so n all =
    middle (FailsTo S a b) stop.before stop.failed stop.following steps so.place all n stop.reason
    so.causes so.answers

-- its first step is a load that did not fail
past_load : (name : List ℕ) (limit : ℕ) (text : List ℕ) (steps before : List Step) (stop : Stop)
    (a b : World) → Causes stop.failed stop.reason a b → 9 ≡ reason_status stop.reason
    → before ++ stop.failed ∷ stop.following ≡ Load name limit text None ∷ steps
    → Past (Load name limit text None) steps before stop.failed stop.following
past_load name limit text steps before stop a b causes nine place =
    past (Load name limit text None) steps before stop.failed stop.following (λ e.
    load_no name limit text None stop.reason a b tt
    (subst (λ (s : Step). Causes s stop.reason a b) e causes) nine) place

-- a load that was done, as the files foretell it
loaded_by : (name : List ℕ) (limit : ℕ) (text : List ℕ) (before rest : List Step) (files : Files)
    → before ≡ Load name limit text None ∷ rest → foreseen before files ≡ Done
    → IfSome (files name) (λ bytes. bytes ≡ text)
    → WasLoaded (files name) text (foreseen rest files)
loaded_by name limit text before rest files is known text_is =
    was_loaded name limit text (files name) (foreseen rest files)
    (subst (λ (steps : List Step). foreseen steps files ≡ Done) is known) text_is

-- what the law says of the chip
abbrev Spared : ExecNames → Files → World → Type 0
Spared names before b = FaultSpares names before b.chip.banks

module _ (names : ExecNames) (before : Files) (a b : World) (bytes : List ℕ)
    (image_there : before names.image.now ≡ Some bytes) (fits : IsBytes bytes) (stop : Stop)
    (past_open : (on : ChipUse) → stop.failed ≢ Open on) where
  loads : (name : List ℕ) (limit : ℕ) (text : List ℕ)
      → FailsTo (Spared names before b) a b (Load name limit text None)
  loads name limit text = load_fails (Spared names before b) a b name limit text None tt

  read_fully : (prog : List ℕ) (program : Program) (text : List ℕ) (script : List Instruction)
      (content : List ℕ) (i : Image) → IsProgram program → prog_in prog ≡ Ok program
      → script_in text ≡ Ok script → image_of content ≡ Ok i
      → IsStopped (Load names.prog.now PROG_MAX prog None
      ∷ Load names.script.now SCRIPT_MAX text None ∷ Load names.image.now IMAGE_MAX content None
      ∷ (work_steps names.out.now program script i ++ [])) stop a b 9
      → IfSome (before names.prog.now) (λ file. file ≡ prog)
      → IfSome (before names.script.now) (λ file. file ≡ text)
      → IfSome (before names.image.now) (λ file. file ≡ content)
      → foreseen stop.before before ≡ Done → Spared names before b
  read_fully prog program text script content i legal prog_is script_is image_is so one two three
      known =
      let p = past_load names.prog.now PROG_MAX prog _ stop.before stop a b so.causes so.answers
      so.place in
      let q = past_load names.script.now SCRIPT_MAX text _ p.rest stop a b so.causes so.answers
      p.place in
      let r = past_load names.image.now IMAGE_MAX content _ q.rest stop a b so.causes so.answers
      q.place in
      let u = loaded_by names.prog.now PROG_MAX prog stop.before p.rest before p.is known one in
      let v = loaded_by names.script.now SCRIPT_MAX text p.rest q.rest before q.is u.more two in
      let w = loaded_by names.image.now IMAGE_MAX content q.rest r.rest before r.is v.more three in
      let same : bytes ≡ content = let both = sym image_there ∙ w.there in cc in
      let image = read_image content (image_in content) i (subst IsBytes same fits) refl image_is in
      let plain = read_plain text (script_of text) script refl script_is in
      middle (FailsTo (Spared names before b) a b) r.rest stop.failed stop.following _ r.place
      (work_fails program i script legal (Spared names before b) a b (λ done failing following lost all next stays. record {
        program = program;
        script = script;
        image = i;
        prog_is = ap (read_as prog_in) u.there ∙ ap result_ok prog_is;
        script_is = ap (read_as script_in) v.there ∙ ap result_ok script_is;
        image_is = ap (read_as image_of) w.there ∙ ap result_ok image_is;
        done = done;
        failing = failing;
        following = following;
        all = all;
        next = next;
        lost = lost;
        stays = stays;
        as_read = as_read program i done failing lost b.chip.banks legal image
            (split_all IsPlain done (failing ++ following)
            (subst (AllByRecursion IsPlain) (sym all) plain)).0 stays;
      }) names.out.now (record { listed = image.listed; objects = image.objects }) plain)
      past_open stop.reason so.causes so.answers

  by_way : (way : Way (exec_plan names)) → IsStopped (steps_of (exec_plan names) way) stop a b 9
      → AreTexts (exec_plan names) way before → foreseen stop.before before ≡ Done → Spared names before b
  by_way (inl cut) so texts known = at_failed (Spared names before b) a b [] stop so past_open tt
  by_way (inr (prog, inr (refusal, is))) so texts known =
      at_failed (Spared names before b) a b _ stop so past_open (
        load_fails (Spared names before b) a b names.prog.now PROG_MAX prog
            (Some refusal) (refused_so (λ s. 9 ≡ s → ⊥) (prog_in prog) refusal is
            (prog_refuses (λ s. 9 ≡ s → ⊥) (λ e. cc) prog)),
        tt,
      )
  by_way (inr (prog, inl (program, is, inl cut))) so texts known =
      at_failed (Spared names before b) a b _ stop so past_open (loads names.prog.now PROG_MAX prog, tt)
  by_way (inr (prog, inl (program, is, inr (u, file, inl cut)))) so texts known =
      at_failed (Spared names before b) a b _ stop so past_open (loads names.prog.now PROG_MAX prog, tt)
  by_way (inr (prog, inl (program, is, inr (u, file, inr (text, inr (refusal, own)))))) so texts
      known =
      at_failed (Spared names before b) a b _ stop so past_open (
        loads names.prog.now PROG_MAX prog,
        (
          load_fails (Spared names before b) a b names.script.now SCRIPT_MAX text (Some refusal)
              (refused_so (λ s. 9 ≡ s → ⊥) (script_in text) refusal own
              (script_refuses (λ s. 9 ≡ s → ⊥) (λ e. cc) text)),
          tt,
        ),
      )
  by_way (inr (prog, inl (program, is, inr (u, file, inr (text, inl (script, own, inl cut)))))) so
      texts known =
      at_failed (Spared names before b) a b _ stop so past_open (
        loads names.prog.now PROG_MAX prog,
        (loads names.script.now SCRIPT_MAX text, tt),
      )
  by_way (inr (
    prog,
    inl (
      program,
      is,
      inr (
        u,
        file,
        inr (
          text,
          inl (
            script,
            own,
            inr (content, inr (refusal, said)),
          ),
        ),
      ),
    ),
  )) so texts known =
      at_failed (Spared names before b) a b _ stop so past_open (
        loads names.prog.now PROG_MAX prog,
        (
          loads names.script.now SCRIPT_MAX text,
          (
            load_fails (Spared names before b) a b names.image.now IMAGE_MAX content
                (Some refusal) (refused_so (λ s. 9 ≡ s → ⊥) (image_of content) refusal said
                (image_refuses (λ s. 9 ≡ s → ⊥) (λ e. cc) content)),
            tt,
          ),
        ),
      )
  by_way (inr (
    prog,
    inl (
      program,
      is,
      inr (
        u,
        file,
        inr (
          text,
          inl (
            script,
            own,
            inr (content, inl (i, said, way)),
          ),
        ),
      ),
    ),
  )) so texts known =
      read_fully prog program text script content i (file_program prog program file is) is own said
      so texts.0 texts.1.0 texts.1.1.0 known

pub faults_spare_rows : FaultsSpareRows
faults_spare_rows names before old new bytes e past_open holds there fits =
    by_end e.ends.ended e.ends.so past_open
    (subst (λ (h : Option Files). IfSome h (AreTexts (exec_plan names) e.way)) holds e.texts)
    (subst (λ (h : Option Files).
    IfSome h (IsForetold (steps_of (exec_plan names) e.way) e.ends.ended)) holds e.ends.foretold)
    e.last
  where
    by_end : (ended : Ended)
        → EndsSo (steps_of (exec_plan names) e.way) (last_status (exec_plan names) e.way) ended old
        e.stood 9
        → IsPastOpening ended → AreTexts (exec_plan names) e.way before
        → IsForetold (steps_of (exec_plan names) e.way) ended before
        → TellsLast ended (refused_last (exec_plan names) e.way) e.stood new
        → FaultSpares names before new.chip.banks
    by_end All so n texts known same = absurd n
    by_end (At stop) so n texts known same =
        subst (λ (w : World). FaultSpares names before w.chip.banks) (sym same)
        (by_way names before old e.stood bytes there fits stop n e.way so texts known.0)
