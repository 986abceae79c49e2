-- A script that goes on where its first part ends.
use Rattle.machine_model.proofs.Common.{◌≡◌, ℕ, ◌+◌, Bool, true, false, List, [], ◌∷◌, ◌++◌, map}
use Rattle.machine_model.proofs.Common.{refl, sym, ◌∙◌, ap, arith, append_assoc, ◌||◌, flat_map}
use Rattle.machine_model.proofs.Common.{is_none, AllByRecursion, zero, suc, cond, length, take}
use Rattle.machine_model.proofs.Common.{drop, Geometry, Banks, Named, Place, Instruction, Init}
use Rattle.machine_model.proofs.Common.{Bbop, Load, Fill, Print, Free, Order}
use Rattle.machine_model.specs.Refusals.{refusal}
use Rattle.machine_model.specs.Script.{rows_loaded, rows_printed, rows_if_done}
use Rattle.machine_model.specs.Report.{line, lines}
use Rattle.machine_model.specs.Laws.{LinesGoOn}
use Rattle.machine_model.specs.declared.Reply.{Reply}
use Rattle.machine_model.specs.declared.Reply.TheVariants.{Done, Refused}
use Rattle.machine_model.specs.Routines.{Routines}
use Rattle.machine_model.specs.Steps.{table_after, banks_after, is_touched, reply_to}
use Rattle.machine_model.specs.Script.{is_bbop, table_at_end, banks_at_end, replies, sum_of, plus}
use Rattle.machine_model.specs.Script.{sum_done, is_touched_by, counted_in}
use Rattle.machine_model.specs.Report.{Answered, said_of, said_by, said_in_rows}
use Rattle.machine_model.specs.Pieces.{instrs_in, AreBbops, turn_after, turn_at_end}
use Rattle.machine_model.specs.Pieces.{piece_events, events_of_pieces}
use Rattle.machine_model.specs.Laws.{ScriptsGoOn, AllPiecesGoOn}
use Rattle.machine_model.specs.Laws.{WavesAreAnswered}
use Rattle.machine_model.proofs.InOrder.{bbop_table}

module _ (g : Geometry) (operations : Routines) where
  pub table_append : (table : List Named) (xs ys : List Instruction)
      → table_at_end g operations table (xs ++ ys)
      ≡ table_at_end g operations (table_at_end g operations table xs) ys
  table_append table [] ys = refl
  table_append table (x ∷ xs) ys = table_append (table_after g operations table x) xs ys

  pub replies_append : (table : List Named) (xs ys : List Instruction)
      → replies g operations table (xs ++ ys)
      ≡ replies g operations table xs
      ++ replies g operations (table_at_end g operations table xs) ys
  replies_append table [] ys = refl
  replies_append table (x ∷ xs) ys =
      ap (λ rs. reply_to g operations table x ∷ rs)
      (replies_append (table_after g operations table x) xs ys)

  pub banks_append : (table : List Named) (banks : Banks) (xs ys : List Instruction)
      → banks_at_end g operations table banks (xs ++ ys)
      ≡ banks_at_end g operations (table_at_end g operations table xs)
      (banks_at_end g operations table banks xs) ys
  banks_append table banks [] ys = refl
  banks_append table banks (x ∷ xs) ys =
      banks_append (table_after g operations table x) (banks_after g operations table banks x) xs ys

  pub said_append : (table : List Named) (banks : Banks) (xs ys : List Instruction)
      → said_in_rows g operations table banks (xs ++ ys)
      ≡ said_in_rows g operations table banks xs
      ++ said_in_rows g operations (table_at_end g operations table xs)
      (banks_at_end g operations table banks xs) ys
  said_append table banks [] ys = refl
  said_append table banks (x ∷ xs) ys =
      ap (λ rest. said_by g operations table banks x ∷ rest)
      (said_append (table_after g operations table x) (banks_after g operations table banks x) xs
      ys)

  pub rows_append : (rows : Geometry → List Named → Instruction → ℕ) (table : List Named)
      (xs ys : List Instruction) → sum_done rows g operations table (xs ++ ys)
      ≡ sum_done rows g operations table xs
      + sum_done rows g operations (table_at_end g operations table xs) ys
  rows_append rows table [] ys = omega arith
  rows_append rows table (x ∷ xs) ys =
      let more = rows_append rows (table_after g operations table x) xs ys in
      omega (arith, more)

  pub touched_append : (table : List Named) (xs ys : List Instruction) (bank row : ℕ)
      → is_touched_by g operations table (xs ++ ys) bank row
      ≡ (is_touched_by g operations table xs bank row
      || is_touched_by g operations (table_at_end g operations table xs) ys bank row)
  touched_append table [] ys bank row = refl
  touched_append table (x ∷ xs) ys bank row =
      ap (λ b. is_touched g operations table x bank row || b)
      (touched_append (table_after g operations table x) xs ys bank row)
      ∙ or_assoc (is_touched g operations table x bank row) _ _ where
        or_assoc : (a b c : Bool) → (a || (b || c)) ≡ ((a || b) || c)
        or_assoc true b c = refl
        or_assoc false b c = refl

-- the counts of replies in two parts
pub sum_append : (rs ss : List Reply) → sum_of (rs ++ ss) ≡ plus (sum_of rs) (sum_of ss)
sum_append [] ss = rw (zero_add (sum_of ss).aap, zero_add (sum_of ss).ap) refl where
  zero_add : (x : ℕ) → 0 + x ≡ x
  zero_add x = omega arith
sum_append (r ∷ rs) ss =
    let c = counted_in r in
    let e = sum_append rs ss in
    ap (plus c) e ∙ rw (
      regroup c.aap (sum_of rs).aap (sum_of ss).aap,
      regroup c.ap (sum_of rs).ap (sum_of ss).ap,
    ) refl where
      regroup : (x a b : ℕ) → x + (a + b) ≡ x + a + b
      regroup x a b = omega arith

-- a script goes on where its first part ends
pub scripts_go_on : ScriptsGoOn
scripts_go_on g operations table xs ys = record {
  tables = table_append g operations table xs ys;
  answers = replies_append g operations table xs ys;
  states = λ banks. banks_append g operations table banks xs ys;
  said = λ banks. said_append g operations table banks xs ys;
  rows = λ rows. rows_append g operations rows table xs ys;
  touched = touched_append g operations table xs ys;
}

-- pieces go on where the first of them end
pub pieces_go_on : AllPiecesGoOn
pieces_go_on g operations turn table [] qs = record { turns = refl; events = refl }
pieces_go_on g operations turn table (p ∷ ps) qs =
    let turn' = turn_after g operations turn table p in
    let table' = table_at_end g operations table (instrs_in p) in
    let rest = pieces_go_on g operations turn' table' ps qs in
    let same = sym (table_append g operations table (instrs_in p) (flat_map instrs_in ps)) in
    let es = piece_events g operations turn table p in
    let turn_then = turn_at_end g operations turn' table' ps in
    record {
      turns = rest.turns ∙ ap (λ t. turn_at_end g operations turn_then t qs) same;
      events = ap (λ fs. es ++ fs) rest.events
          ∙ ap (λ t. es ++ (events_of_pieces g operations turn' table' ps
          ++ events_of_pieces g operations turn_then t qs)) same
          ∙ sym (append_assoc es _ _);
    }

-- a bbop is said as it is answered
pub bbop_said : (reply : Reply) (instr : Instruction) (values : Place → List ℕ)
    → is_bbop instr ≡ true → said_of reply instr values ≡ Answered reply
bbop_said (Done counts) (Bbop op dst srcs count n) values h = refl
bbop_said (Refused reason) (Bbop op dst srcs count n) values h = refl
bbop_said reply (Init name count n) values h = cc
bbop_said reply (Load name loaded) values h = cc
bbop_said reply (Fill name value) values h = cc
bbop_said reply (Print name) values h = cc
bbop_said reply (Free name) values h = cc
bbop_said reply (Order o) values h = cc

wave_table : (g : Geometry) (operations : Routines) (table : List Named)
    (wave : List Instruction) → AreBbops wave → table_at_end g operations table wave ≡ table
wave_table g operations table [] h = refl
wave_table g operations table (x ∷ wave) h =
    ap (λ t. table_at_end g operations t wave) (bbop_table g operations table x h.0)
    ∙ wave_table g operations table wave h.1

wave_replies : (g : Geometry) (operations : Routines) (table : List Named)
    (wave : List Instruction) → AreBbops wave
    → replies g operations table wave ≡ map (reply_to g operations table) wave
wave_replies g operations table [] h = refl
wave_replies g operations table (x ∷ wave) h =
    ap (λ rs. reply_to g operations table x ∷ rs)
    (ap (λ t. replies g operations t wave) (bbop_table g operations table x h.0)
    ∙ wave_replies g operations table wave h.1)

wave_said : (g : Geometry) (operations : Routines) (table : List Named)
    (wave : List Instruction) (banks : Banks) → AreBbops wave
    → said_in_rows g operations table banks wave ≡ map Answered (replies g operations table wave)
wave_said g operations table [] banks h = refl
wave_said g operations table (x ∷ wave) banks h =
    rw (bbop_said (reply_to g operations table x) x _ h.0)
    (ap (λ rest. Answered (reply_to g operations table x) ∷ rest)
    (wave_said g operations (table_after g operations table x) wave
    (banks_after g operations table banks x) h.1))

if_zero : (b : Bool) → ◌≡◌ {A = ℕ} (cond b 0 0) 0
if_zero true = refl
if_zero false = refl

-- a bbop loads no row, and prints none
pub bbop_loads : (g : Geometry) (operations : Routines) (table : List Named)
    (instr : Instruction) → is_bbop instr ≡ true
    → rows_if_done rows_loaded g operations table instr ≡ 0
bbop_loads g operations table (Bbop op dst srcs count n) h =
    if_zero (is_none (refusal g operations table (Bbop op dst srcs count n)))
bbop_loads g operations table (Init name count n) h = cc
bbop_loads g operations table (Load name values) h = cc
bbop_loads g operations table (Fill name value) h = cc
bbop_loads g operations table (Print name) h = cc
bbop_loads g operations table (Free name) h = cc
bbop_loads g operations table (Order o) h = cc

pub bbop_prints : (g : Geometry) (operations : Routines) (table : List Named)
    (instr : Instruction) → is_bbop instr ≡ true
    → rows_if_done rows_printed g operations table instr ≡ 0
bbop_prints g operations table (Bbop op dst srcs count n) h =
    if_zero (is_none (refusal g operations table (Bbop op dst srcs count n)))
bbop_prints g operations table (Init name count n) h = cc
bbop_prints g operations table (Load name values) h = cc
bbop_prints g operations table (Fill name value) h = cc
bbop_prints g operations table (Print name) h = cc
bbop_prints g operations table (Free name) h = cc
bbop_prints g operations table (Order o) h = cc

wave_rows : (rows : Geometry → List Named → Instruction → ℕ) (g : Geometry)
    (operations : Routines) (table : List Named) (wave : List Instruction)
    → ((t : List Named) (instr : Instruction) → is_bbop instr ≡ true
    → rows_if_done rows g operations t instr ≡ 0)
    → AreBbops wave → sum_done rows g operations table wave ≡ 0
wave_rows rows g operations table [] none h = refl
wave_rows rows g operations table (instr ∷ wave) none h =
    let first = none table instr h.0 in
    let rest = wave_rows rows g operations (table_after g operations table instr) wave none h.1 in
    omega (arith, first, rest)

-- a wave is answered bbop by bbop, and leaves the table
pub waves_are_answered : WavesAreAnswered
waves_are_answered g operations table wave h = record {
  tables = wave_table g operations table wave h;
  answers = wave_replies g operations table wave h;
  said = λ banks. wave_said g operations table wave banks h;
  loaded = wave_rows rows_loaded g operations table wave (bbop_loads g operations) h;
  printed = wave_rows rows_printed g operations table wave (bbop_prints g operations) h;
}

-- lines go on with the number after the last
pub lines_go_on : LinesGoOn
lines_go_on number [] ys =
    let e : number ≡ number + 0 = omega arith in ap (λ k. lines k ys) e
lines_go_on number (x ∷ xs) ys =
    let e : number + 1 + length xs ≡ number + suc (length xs) = omega arith in
    ap (λ rest. line number x ++ rest) (lines_go_on (number + 1) xs ys
    ∙ ap (λ k. lines (number + 1) xs ++ lines k ys) e)
    ∙ sym (append_assoc (line number x) (lines (number + 1) xs) _)

-- what holds of each holds of the first and of the others
pub all_parted : {X : Type 0} (P : X → Type 0) (k : ℕ) (xs : List X) → AllByRecursion P xs
    → AllByRecursion P (take k xs) × AllByRecursion P (drop k xs)
all_parted P zero xs h = (tt, h)
all_parted P (suc k) [] h = (tt, tt)
all_parted P (suc k) (x ∷ xs) h = let rest = all_parted P k xs h.1 in ((h.0, rest.0), rest.1)
