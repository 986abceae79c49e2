-- One instruction with the flips and the vote before it.
use Rattle.guard_job.proofs.Common.{◌≡◌, ℕ, ◌+◌, ◌<◌, Bool, true, false, cond, List, [], ◌∷◌, ◌++◌}
use Rattle.guard_job.proofs.Common.{length, map, refl, sym, ◌∙◌, ap, subst, Option, Some, Counters}
use Rattle.guard_job.proofs.Common.{Geometry, Banks, Event, Grew, after, ChipView, Grew-more, Named}
use Rattle.guard_job.proofs.Common.{Instruction, Routines, is_refused, Machine, geometry_of}
use Rattle.guard_job.proofs.Common.{operations_by, table_in, turn_in, is_print, Turn, Flip}
use Rattle.guard_job.proofs.Common.{all_flipped, vote_count, vote_events, guarded_events}
use Rattle.guard_job.proofs.Common.{guarded_reply, guarded_rows, plain_script, None, voted}
use Rattle.guard_job.proofs.Common.{vote_is_events, events_by}
use Rattle.std.proofs.Common.{append_assoc}
use mir.Val.{bool_byte}
use Rattle.dram_model.specs.View.{Did, with_reads}
use Rattle.bbop_isa.specs.declared.instr.Place.{Place}
use Rattle.bbop_isa.specs.Forms.{Init, Bbop, Load, Fill, Print, Free, Order}
use Rattle.machine_model.specs.declared.Reply.{Reply}
use Rattle.machine_model.specs.declared.Why.{Why}
use Rattle.machine_model.specs.Pieces.{events_of_pieces, piece_of}
use Rattle.machine_model.specs.Refusals.{refusal}
use Rattle.machine_model.specs.Steps.{if_done}
use Rattle.machine_model.specs.Laws.{FitsBanks}
use Rattle.machine_model.specs.Script.{counters_at_end}
use Rattle.machine_model.proofs.Bounds.{geometry_parts}
use Rattle.machine_model.proofs.Tables.{fits_banks}
use Rattle.sim_machine.specs.Machine.{IsLaidOut}
use Rattle.sim_machine.specs.Steps.{DidAndRead}
use Rattle.sim_machine.proofs.Stepping.{if_same}
use Rattle.object_steps.specs.Lines.{DidReadAtMost}
use Rattle.guard_model.specs.Guarded.{guarded_reads, place_on}
use Rattle.guard_model.specs.Triples.{x_letter}
use Rattle.guard_model.proofs.Runs.{script_by}
use Rattle.guard_model.proofs.Commands.{vote_is_counted}
use Rattle.guard_model.proofs.Pieces.{step_is_counted, step_is_events}
use Rattle.tmr_guard.specs.Steps.{reads_by, reply_by, table_by, turn_by}
use Rattle.guard_job.specs.Events.{flip_events}
use Rattle.guard_job.specs.Parts.{InstrDone, Mended, after_flips, mended_tally}
use Rattle.guard_job.proofs.Tallies.{count_one}

-- flips, and then a vote
pub mended_by : (g : Geometry) (now : List Flip) (table : List Named) (n : ℕ) (a b c : ChipView)
    → b.banks ≡ all_flipped now a.banks → b.counters ≡ after_flips n a.counters
    → b.faults ≡ a.faults → Grew a.log b.log (flip_events now a.banks) → n ≡ length now
    → Did (vote_events g table) b c → Mended g now table a c
mended_by g now table n a b c banks counters faults log count did = record {
  banks = did.banks ∙ vote_is_events g table b.banks ∙ ap (voted g table) banks;
  counters = did.counters ∙ vote_is_counted g table b.counters
      ∙ ap (λ (k : Counters). let d : Counters = record k { aap = k.aap + vote_count g table } in d)
      counters
      ∙ ap (λ (m : ℕ). mended_tally m (vote_count g table) a.counters) count;
  faults = did.faults ∙ faults;
  log = Grew-more a.log b.log c.log (flip_events now a.banks) (vote_events g table) log did.log;
}

-- the banks of a machine hold its objects
pub record Holds (m : Machine) : Type 0 where
  pub words : 0 < (geometry_of m).words
  pub fits : FitsBanks (geometry_of m) (table_in m)

pub holds_of : (m : Machine) → IsLaidOut m → Holds m
holds_of m laid = record {
  words = (geometry_parts (geometry_of m) laid.shape).0;
  fits = fits_banks (geometry_of m) (table_in m) laid.table;
}

-- a print has no event of its own
quiet : (g : Geometry) (o : Routines) (turn : Turn) (table : List Named) (copy : Place)
    (refused : Bool) (r : Option Why)
    → events_of_pieces g o turn table (map piece_of (script_by refused
    (if_done r (Print copy ∷ []) []))) ≡ []
quiet g o turn table copy true None =
    ap (λ (es : List Event). es ++ []) (if_same (refusal g o table (Print copy)) [])
quiet g o turn table copy false None =
    ap (λ (es : List Event). es ++ []) (if_same (refusal g o table (Print copy)) [])
quiet g o turn table copy true (Some why) = refl
quiet g o turn table copy false (Some why) = refl

print_is_quiet : (g : Geometry) (o : Routines) (turn : Turn) (table : List Named)
    (instr : Instruction) → is_print instr ≡ true → guarded_events g o turn table instr ≡ []
print_is_quiet g o turn table (Print place) is =
    quiet g o turn table (place_on x_letter place)
    (is_refused (guarded_reply g o table (Print place)))
    (refusal g o table (Print (place_on x_letter place)))
print_is_quiet g o turn table (Init name count n) is = absurd (cc)
print_is_quiet g o turn table (Bbop op dst srcs count n) is = absurd (cc)
print_is_quiet g o turn table (Load name values) is = absurd (cc)
print_is_quiet g o turn table (Fill name value) is = absurd (cc)
print_is_quiet g o turn table (Free name) is = absurd (cc)
print_is_quiet g o turn table (Order order) is = absurd (cc)

-- what stands where the chip was read for a print
read_by : (g : Geometry) (o : Routines) (turn : Turn) (table : List Named)
    (instr : Instruction) (n : ℕ) (now : Banks) (a b : ChipView) → is_print instr ≡ true
    → a.banks ≡ now → DidReadAtMost n a b
    → (b.faults ≡ a.faults) × (b.banks ≡ after (guarded_events g o turn table instr) now)
read_by g o turn table instr n now a b is e read = (
  read.did.faults,
  read.did.banks ∙ e
      ∙ ap (λ (es : List Event). after es now) (sym (print_is_quiet g o turn table instr is)),
)

-- what stands where its line was not put
told_so : (m : Machine) (instr : Instruction) (now : Banks) (a b : ChipView) (prints : Bool)
    → is_print instr ≡ prints → a.banks ≡ now
    → (is_print instr ≡ false → DidAndRead (events_by m instr) (reads_by m instr) a b)
    → (is_print instr ≡ true → DidReadAtMost (reads_by m instr) a b)
    → (b.faults ≡ a.faults) × (b.banks ≡ after (events_by m instr) now)
told_so m instr now a b false is e did read =
    let d = did is in (d.faults, d.banks ∙ ap (after (events_by m instr)) e)
told_so m instr now a b true is e did read = read_by (geometry_of m) (operations_by m) (turn_in m)
    (table_in m) instr (reads_by m instr) now a b is e (read is)

pub untold : (m : Machine) (instr : Instruction) (now : Banks) (a b : ChipView) → a.banks ≡ now
    → (is_print instr ≡ false → DidAndRead (events_by m instr) (reads_by m instr) a b)
    → (is_print instr ≡ true → DidReadAtMost (reads_by m instr) a b)
    → (b.faults ≡ a.faults) × (b.banks ≡ after (events_by m instr) now)
untold m instr now a b e did read = told_so m instr now a b (is_print instr) refl e did read

-- a test as a number
as_number : (b : Bool) → bool_byte b ≡ cond b 1 0
as_number true = refl
as_number false = refl

pub byte_is : (n : ℕ) (known is : Bool) → n ≡ bool_byte known → known ≡ is → n ≡ cond is 1 0
byte_is n known is e f = e ∙ as_number known ∙ ap (λ (b : Bool). cond b 1 0) f

-- what a guarded step of a machine says
pub record Stepped (m : Machine) (instr : Instruction) (n : Machine) (a b : ChipView)
    (reply : Reply) : Type 0 where
  pub tables : table_in n ≡ table_by m instr
  pub turns : turn_in n ≡ turn_by m instr
  pub did : DidAndRead (events_by m instr) (reads_by m instr) a b
  pub answer : reply ≡ reply_by m instr

abbrev instr_counters : Geometry → Routines → List Named → Instruction → Counters → Counters
instr_counters g o table instr k = with_reads (guarded_reads g o table instr)
    (counters_at_end g o table (plain_script g o table instr) k)

pub done_by : (m n : Machine) (now : List Flip) (instr : Instruction) (a b c : ChipView)
    (votes refused : ℕ) (reply : Reply) → Holds m
    → Mended (geometry_of m) now (table_in m) a b → Stepped m instr n b c reply
    → votes ≡ vote_count (geometry_of m) (table_in m) → refused ≡ cond (is_refused reply) 1 0
    → InstrDone (geometry_of m) (operations_by m) now instr (turn_in m) (turn_in n) (table_in m)
    (table_in n) a c votes refused
done_by m n now instr a b c votes refused reply holds mended step votes_are refused_is =
    let g = geometry_of m in
    let o = operations_by m in
    let table = table_in m in
    let own = guarded_events g o (turn_in m) table instr in
    let joined = Grew-more a.log b.log c.log (flip_events now a.banks ++ vote_events g table) own
    mended.log step.did.log in
    record {
      tables = step.tables;
      turns = step.turns;
      banks = step.did.banks
          ∙ step_is_events g o (turn_in m) table instr b.banks holds.words holds.fits
          ∙ ap (λ bs. guarded_rows g o table bs instr) mended.banks;
      counters = step.did.counters
          ∙ ap (with_reads (guarded_reads g o table instr))
          (step_is_counted g o (turn_in m) table instr b.counters holds.words holds.fits)
          ∙ ap (instr_counters g o table instr) mended.counters;
      log = subst (λ (es : List Event). Grew a.log c.log es)
          (append_assoc (flip_events now a.banks) (vote_events g table) own) joined;
      votes_are = votes_are;
      refused_is = refused_is ∙ ap (λ (r : Reply). cond (is_refused r) 1 0) step.answer
          ∙ sym (count_one is_refused (reply_by m instr));
    }
