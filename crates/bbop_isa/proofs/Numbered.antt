-- Scripts go line by line.
use Rattle.std.proofs.Common.{◌≡◌, ℕ, ◌+◌, List, [], ◌∷◌, ◌++◌, map, length, Option, Some, None}
use Rattle.std.proofs.Common.{Result, Ok, Err, refl, sym, ap, ◌∙◌, subst, arith}
use Rattle.std.specs.List.{flat_map, AllByRecursion}
use Rattle.std.specs.Option.{option_to_list}
use Rattle.std.specs.Result.{IsOk}
use Rattle.bbop_isa.specs.declared.instr.ScriptKind.{ScriptKind}
use Rattle.bbop_isa.specs.declared.instr.ScriptFault.{ScriptFault}
use Rattle.bbop_isa.specs.Lines.{lines_of}
use Rattle.bbop_isa.specs.Forms.{Instruction, line_of}
use Rattle.bbop_isa.specs.Script.{script_from, go_on}
use Rattle.bbop_isa.specs.Laws.{ScriptsGoByLines}

abbrev Script : Type 0
Script = Result (List Instruction) ScriptFault

abbrev accepted : List Instruction → Script
accepted script = Ok script

abbrev refused : ScriptFault → Script
refused fault = Err fault

ok_is : (x y : List Instruction) → accepted x ≡ accepted y → x ≡ y
ok_is x y is = cc

err_is : (x y : ScriptFault) → refused x ≡ refused y → x ≡ y
err_is x y is = cc

-- these lines are right, and say this
record LinesSay (lines : List (List ℕ)) (script : List Instruction) : Type 0 where
  said : List (Option Instruction)
  right : map line_of lines ≡ map Ok said
  instructions : script ≡ flat_map option_to_list said

one_line : (line : List ℕ) (lines : List (List ℕ)) (i : Option Instruction)
    (script all : List Instruction) → line_of line ≡ Ok i → LinesSay lines script
    → all ≡ option_to_list i ++ script → LinesSay (line ∷ lines) all
one_line line lines i script all is say same = record {
  said = i ∷ say.said;
  right = rw (is, say.right) refl;
  instructions = same ∙ ap (λ s. option_to_list i ++ s) say.instructions;
}

accepted_says : (number : ℕ) (lines : List (List ℕ)) (script : List Instruction)
    → script_from number lines ≡ Ok script → LinesSay lines script
accepted_says number [] script is = record {
  said = [];
  right = refl;
  instructions = sym (ok_is _ _ is);
}
accepted_says number (line ∷ lines) script is =
    at (line_of line) refl (script_from (number + 1) lines) (accepted_says (number + 1) lines) is
  where
    at : (i : Result (Option Instruction) ScriptKind) → line_of line ≡ i → (rest : Script)
        → ((s : List Instruction) → rest ≡ Ok s → LinesSay lines s)
        → go_on number i rest ≡ Ok script
        → LinesSay (line ∷ lines) script
    at (Err kind) e rest say is = absurd (cc)
    at (Ok None) e (Err fault) say is = absurd (cc)
    at (Ok (Some i)) e (Err fault) say is = absurd (cc)
    at (Ok None) e (Ok s) say is = one_line line lines None s script e (say s refl)
        (sym (ok_is _ _ is))
    at (Ok (Some i)) e (Ok s) say is = one_line line lines (Some i) s script e (say s refl)
        (sym (ok_is _ _ is))

said_is_accepted : (number : ℕ) (lines : List (List ℕ)) (said : List (Option Instruction))
    → map line_of lines ≡ map Ok said → script_from number lines ≡ Ok (flat_map option_to_list said)
said_is_accepted number [] [] is = refl
said_is_accepted number [] (i ∷ said) is = absurd (cc)
said_is_accepted number (line ∷ lines) [] is = absurd (cc)
said_is_accepted number (line ∷ lines) (None ∷ said) is =
    let first : line_of line ≡ Ok None = cc in
    let others : map line_of lines ≡ map Ok said = cc in
    rw (first, said_is_accepted (number + 1) lines said others) refl
said_is_accepted number (line ∷ lines) (Some i ∷ said) is =
    let first : line_of line ≡ Ok (Some i) = cc in
    let others : map line_of lines ≡ map Ok said = cc in
    rw (first, said_is_accepted (number + 1) lines said others) refl

-- the first of these lines at fault, where the first of all has this number
record FirstOf (number : ℕ) (lines : List (List ℕ)) (fault : ScriptFault) : Type 0 where
  before : List (List ℕ)
  line : List ℕ
  following : List (List ℕ)
  parted : lines ≡ before ++ line ∷ following
  place : fault.line ≡ length before + number
  wrong : line_of line ≡ Err fault.kind
  right : AllByRecursion (λ earlier. IsOk (line_of earlier)) before

later : (number : ℕ) (line : List ℕ) (lines : List (List ℕ)) (fault : ScriptFault)
    → IsOk (line_of line) → FirstOf (number + 1) lines fault → FirstOf number (line ∷ lines) fault
later number line lines fault right first = record {
  before = line ∷ first.before;
  line = first.line;
  following = first.following;
  parted = ap (λ ls. line ∷ ls) first.parted;
  place = omega (arith, first.place);
  wrong = first.wrong;
  right = (right, first.right);
}

refused_is_first : (number : ℕ) (lines : List (List ℕ)) (fault : ScriptFault)
    → script_from number lines ≡ Err fault → FirstOf number lines fault
refused_is_first number [] fault is = absurd (cc)
refused_is_first number (line ∷ lines) fault is =
    at (line_of line) refl (script_from (number + 1) lines) (refused_is_first (number + 1) lines) is
  where
    at : (i : Result (Option Instruction) ScriptKind) → line_of line ≡ i → (rest : Script)
        → ((f : ScriptFault) → rest ≡ Err f → FirstOf (number + 1) lines f)
        → go_on number i rest ≡ Err fault
        → FirstOf number (line ∷ lines) fault
    at (Err kind) e rest first is =
        subst (FirstOf number (line ∷ lines)) (err_is _ _ is) (record {
          before = [];
          line = line;
          following = lines;
          parted = refl;
          place = omega arith;
          wrong = e;
          right = tt;
        })
    at (Ok None) e (Ok s) first is = absurd (cc)
    at (Ok (Some i)) e (Ok s) first is = absurd (cc)
    at (Ok None) e (Err f) first is = later number line lines fault (rw e refl) (first fault is)
    at (Ok (Some i)) e (Err f) first is = later number line lines fault (rw e refl) (first fault is)

first_is_refused : (number place : ℕ) (before : List (List ℕ)) (line : List ℕ)
    (following : List (List ℕ)) (kind : ScriptKind) → place ≡ length before + number
    → line_of line ≡ Err kind
    → AllByRecursion (λ earlier. IsOk (line_of earlier)) before
    → script_from number (before ++ line ∷ following) ≡ Err (record { line = place; kind = kind })
first_is_refused number place [] line following kind at wrong right =
    let same : number ≡ place = omega (arith, at) in
    rw (wrong, same) refl
first_is_refused number place (l ∷ before) line following kind at wrong right =
    let rest = first_is_refused (number + 1) place before line following kind (omega (arith, at))
    wrong
    right.1 in
    ap (λ r. go_on number (line_of l) r) rest ∙ passes (line_of l) right.0
  where
    passes : (i : Result (Option Instruction) ScriptKind) → IsOk i
        → go_on number i (Err (record { line = place; kind = kind }))
        ≡ Err (record { line = place; kind = kind })
    passes (Ok None) ok = refl
    passes (Ok (Some i)) ok = refl
    passes (Err k) ok = absurd (cc)

pub go_by_lines : ScriptsGoByLines
go_by_lines = record {
  accepted = λ text script. (
    λ is. let say = accepted_says 1 (lines_of text) script is in
        record { said = say.said; lines = say.right; instructions = say.instructions },
    λ says. rw says.instructions (said_is_accepted 1 (lines_of text) says.said says.lines),
  );
  refused = λ text fault. (
    λ is. let first = refused_is_first 1 (lines_of text) fault is in
        record {
          before = first.before;
          line = first.line;
          following = first.following;
          parted = first.parted;
          place = first.place;
          wrong = first.wrong;
          right = first.right;
        },
    λ first. rw first.parted (first_is_refused 1 fault.line first.before first.line first.following
        fault.kind first.place first.wrong first.right),
  );
}
