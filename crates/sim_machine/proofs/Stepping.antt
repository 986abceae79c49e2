-- What comes of an instruction that no other stands beside.
use Rattle.sim_machine.proofs.Common.{◌≡◌, ℕ, ◌+◌, Bool, true, false, cond, List, [], ◌∷◌, ◌++◌}
use Rattle.sim_machine.proofs.Common.{refl, sym, ◌∙◌, ap, subst, append-nil, add-zero, Some, None}
use Rattle.sim_machine.proofs.Common.{Option, bytes_eq, SinkView, Known, AppendsPart, Rose}
use Rattle.sim_machine.proofs.Common.{Counters, Event, all_counted, StoppedWithin, ChipView, Did}
use Rattle.sim_machine.proofs.Common.{with_reads, FailedBelow, Object, Named, has_name, without}
use Rattle.sim_machine.proofs.Common.{Geometry, Place, Instruction, Init, Bbop, Load, Fill, Print}
use Rattle.sim_machine.proofs.Common.{Free, Order, Reply, Done, Refused, Why, Counts, Routines}
use Rattle.sim_machine.proofs.Common.{Alone, piece_of, refusal, line, said_of, Answered, is_bbop}
use Rattle.sim_machine.proofs.Common.{if_done, reply_by, reply_to, events_alone, look_up-some}
use Rattle.std.proofs.lemmas.Bool.{or_parts}
use Rattle.std.specs.Prelude.{not}
use Rattle.std.specs.Option.{is_some}
use Rattle.std.proofs.lemmas.Slice.Eq.{bytes_eq-Decides}
use Rattle.host_edge.proofs.Tells.{Known-same}
use Rattle.dram_model.proofs.EventLaws.{Grew-none}
use Rattle.object_alloc.specs.Listed.{look_up}
use Rattle.machine_model.proofs.Tables.{made}
use Rattle.machine_model.specs.Steps.{table_after}
use Rattle.sim_machine.specs.declared.machine.Machine.{Machine}
use Rattle.sim_machine.specs.Machine.{GoesOn, banks_by, events_by, geometry_of, is_print}
use Rattle.sim_machine.specs.Machine.{reply_line, operations_by, reads_by, reply_of, moved_table}
use Rattle.sim_machine.specs.Machine.{table_in, leaves_table, turn_by_piece, turn_in, banks_read}
use Rattle.sim_machine.specs.Outcome.{Stepped, StoppedByChip, StoppedBySink}
use Rattle.sim_machine.specs.Steps.{DidAndRead}
use Rattle.sim_machine.proofs.Keeping.{goes_to}
use Rattle.transpose_unit.proofs.Stopping.{stopped_more}
use Rattle.machine_model.specs.declared.Why.TheVariants as why
use Rattle.machine_model.specs.Pieces as piece

-- a line that shows no values is that of the reply
pub said_answered : (reply : Reply) (instr : Instruction) (values : Place → List ℕ)
    → is_print instr ≡ false → said_of reply instr values ≡ Answered reply
said_answered (Refused why) instr values e = refl
said_answered (Done counts) (Init name count n) values e = refl
said_answered (Done counts) (Bbop op dst srcs count n) values e = refl
said_answered (Done counts) (Load place loaded) values e = refl
said_answered (Done counts) (Fill place value) values e = refl
said_answered (Done counts) (Print place) values e = absurd (cc)
said_answered (Done counts) (Free name) values e = refl
said_answered (Done counts) (Order o) values e = refl

either_none : (b : Bool) (n : ℕ) → n ≡ 0 → cond b n 0 ≡ 0
either_none true n e = e
either_none false n e = refl

-- and only a print reads rows
pub reads_none : (m : Machine) (instr : Instruction) → is_print instr ≡ false
    → reads_by m instr ≡ 0
reads_none m (Init name count n) e = either_none _ _ refl
reads_none m (Bbop op dst srcs count n) e = either_none _ _ refl
reads_none m (Load place loaded) e = either_none _ _ refl
reads_none m (Fill place value) e = either_none _ _ refl
reads_none m (Print place) e = absurd (cc)
reads_none m (Free name) e = either_none _ _ refl
reads_none m (Order o) e = refl

pub none_read : (m : Machine) (instr : Instruction) → is_print instr ≡ false
    → banks_read m instr ≡ 0
none_read m (Init name count n) e = refl
none_read m (Bbop op dst srcs count n) e = refl
none_read m (Load place loaded) e = refl
none_read m (Fill place value) e = refl
none_read m (Print place) e = absurd (cc)
none_read m (Free name) e = refl
none_read m (Order o) e = refl

no_reads : (c : Counters) → c ≡ with_reads 0 c
no_reads c = let e : c.reads + 0 ≡ c.reads = add-zero c.reads in rw e refl

-- nothing was read
pub did_only : (events : List Event) (n : ℕ) (a b : ChipView) → n ≡ 0 → Did events a b
    → DidAndRead events n a b
did_only events n a b e did = record {
  banks = did.banks;
  counters = did.counters ∙ no_reads (all_counted events a.counters)
      ∙ ap (λ k. with_reads k (all_counted events a.counters)) (sym e);
  faults = did.faults;
  log = did.log;
}

-- a piece of one instruction
pub alone : (instr : Instruction) → is_bbop instr ≡ false → piece_of instr ≡ Alone instr
alone instr e = ap (λ b. cond b (piece.Wave (instr ∷ [])) (Alone instr)) e

-- where nothing was sent, a part of every line was: none of it
pub no_part : (bytes : List ℕ) (sent : Option (List ℕ)) → Known (AppendsPart bytes) sent sent
no_part bytes sent = Known-same (AppendsPart bytes) sent (λ x. (
  [],
  ((bytes, refl), sym (append-nil x)),
))

module _ (old new : Machine) (number : ℕ) (instr : Instruction) (chip chip' : ChipView)
    (sink sink' : SinkView) (goes : GoesOn old new) (print : is_print instr ≡ false)
    (bbop : is_bbop instr ≡ false)
  where
    did_piece : Did (events_alone (geometry_of old) (operations_by old) (table_in old) instr)
        chip chip' → DidAndRead (events_by old (piece_of instr)) (reads_by old instr) chip chip'
    did_piece did = subst (λ p. DidAndRead (events_by old p) (reads_by old instr) chip chip')
        (sym (alone instr bbop)) (did_only _ _ chip chip' (reads_none old instr print) did)

    answered : (reply : Reply) → reply ≡ reply_of old instr
        → line number (Answered reply) ≡ reply_line old number chip.banks instr
    answered reply e = ap (λ r. line number (Answered r)) e
        ∙ ap (line number) (sym (said_answered (reply_of old instr) instr _ print))

    pub done_alone : (reply : Reply) → reply ≡ reply_of old instr
        → table_in new ≡ moved_table old instr
        → turn_in new ≡ turn_by_piece old (Alone instr)
        → Did (events_alone (geometry_of old) (operations_by old) (table_in old) instr) chip chip'
        → Known (λ x y. y ≡ x ++ line number (Answered reply)) sink.sent sink'.sent
        → sink'.faults ≡ sink.faults → Stepped old new number instr chip chip' sink sink' reply
    done_alone reply e table turn did sent unfailed = record {
      answer = e;
      machine = goes_to old new _ _ goes table
          (turn ∙ ap (turn_by_piece old) (sym (alone instr bbop)));
      did = did_piece did;
      sent = subst (λ text. Known (λ x y. y ≡ x ++ text) sink.sent sink'.sent) (answered reply e)
          sent;
      unfailed = unfailed;
    }

    pub failed_alone : table_in new ≡ table_in old → turn_in new ≡ turn_in old
        → FailedBelow (banks_by old instr) chip chip'
        → StoppedWithin 0 (events_alone (geometry_of old) (operations_by old) (table_in old) instr)
        chip.banks chip'.banks → sink' ≡ sink
        → StoppedByChip old new number instr chip chip' sink sink'
    failed_alone table turn failed left same = record {
      same = goes_to old new _ _ goes table refl;
      turn = λ e. turn;
      failed = failed;
      stopped = λ e. absurd (cc (e, bbop));
      left = subst (λ p. StoppedWithin (banks_read old instr) (events_by old p) chip.banks
          chip'.banks) (sym (alone instr bbop)) (stopped_more _ _ _ _ left);
      unsent = λ e. same;
      part = subst (λ (s : SinkView). Known (AppendsPart (reply_line old number chip.banks instr))
          sink.sent s.sent) (sym same) (no_part _ sink.sent);
    }

    pub unsent_alone : (reply : Reply) → reply ≡ reply_of old instr → table_in new ≡ table_in old
        → turn_in new ≡ turn_by_piece old (Alone instr)
        → Did (events_alone (geometry_of old) (operations_by old) (table_in old) instr) chip chip'
        → Rose sink.faults sink'.faults
        → Known (AppendsPart (line number (Answered reply))) sink.sent sink'.sent
        → StoppedBySink old new number instr chip chip' sink sink'
    unsent_alone reply e table turn did rose sent =
        let all = did_piece did in record {
          machine = goes_to old new _ _ goes table
              (turn ∙ ap (turn_by_piece old) (sym (alone instr bbop)));
          did = λ p. all;
          read = λ e. absurd (cc (e, print));
          rose = rose;
          part = subst (λ text. Known (AppendsPart text) sink.sent sink'.sent) (answered reply e)
              sent;
        }

-- a load, a fill and an order show no values, and are no bbops
pub leaves : (instr : Instruction) → leaves_table instr ≡ true
    → (is_print instr ≡ false) × (is_bbop instr ≡ false)
leaves (Init name count n) e = absurd (cc)
leaves (Bbop op dst srcs count n) e = absurd (cc)
leaves (Load place loaded) e = (refl, refl)
leaves (Fill place value) e = (refl, refl)
leaves (Print place) e = absurd (cc)
leaves (Free name) e = absurd (cc)
leaves (Order o) e = (refl, refl)

-- and or_parts leave other tables
pub if_same : {S : Type 0} (r : Option Why) (x : S) → if_done r x x ≡ x
if_same None x = refl
if_same (Some why) x = refl

pub same_table : (m : Machine) (instr : Instruction) → leaves_table instr ≡ true
    → table_in m ≡ moved_table m instr
same_table m (Init name count n) e = absurd (cc)
same_table m (Bbop op dst srcs count n) e = absurd (cc)
same_table m (Load place loaded) e = sym (if_same _ (table_in m))
same_table m (Fill place value) e = sym (if_same _ (table_in m))
same_table m (Print place) e = absurd (cc)
same_table m (Free name) e = absurd (cc)
same_table m (Order o) e = refl

-- a print leaves the table
pub print_table : (m : Machine) (place : Place) → table_in m ≡ moved_table m (Print place)
print_table m place = sym (if_same _ (table_in m))

pub nothing_done : (g : Geometry) (operations : Routines) (table : List Named) (name : List ℕ)
    (chip : ChipView) → Did (events_alone g operations table (Free name)) chip chip
nothing_done g operations table name chip = subst (λ events. Did events chip chip)
    (sym (if_same (refusal g operations table (Free name)) [])) (record {
      banks = refl;
      counters = refl;
      faults = refl;
      log = Grew-none chip.log;
    })

-- what frees an object
freed : (g : Geometry) (operations : Routines) (table : List Named) (name : List ℕ) (b : Bool)
    → b ≡ has_name table name
    → reply_by (cond (not b) (Some (why.NoObject 0)) None) (record { aap = 0; ap = 0 })
    ≡ reply_to g operations table (Free name)
freed g operations table name b e =
    ap (λ t. reply_by (cond (not t) (Some (why.NoObject 0)) None) (record { aap = 0; ap = 0 })) e

pub free_done : (g : Geometry) (operations : Routines) (table : List Named) (name : List ℕ)
    (o : Object) → Some o ≡ look_up table name
    → Done (record { aap = 0; ap = 0 }) ≡ reply_to g operations table (Free name)
free_done g operations table name o e =
    freed g operations table name true (ap is_some e ∙ look_up-some table name)

pub free_refused : (g : Geometry) (operations : Routines) (table : List Named) (name : List ℕ)
    → None ≡ look_up table name
    → Refused (why.NoObject 0) ≡ reply_to g operations table (Free name)
free_refused g operations table name e =
    freed g operations table name false (ap is_some e ∙ look_up-some table name)

kept_first : (p : Named) (b : Bool) (xs ys : List Named) → b ≡ false → xs ≡ ys
    → cond (not b) (p ∷ xs) xs ≡ p ∷ ys
kept_first p true xs ys e h = absurd (cc)
kept_first p false xs ys e h = ap (λ zs. p ∷ zs) h

dropped : (p : Named) (b : Bool) → b ≡ true → cond (not b) (p ∷ []) [] ≡ []
dropped p true e = refl
dropped p false e = absurd (cc)

without_new : (table : List Named) (name : List ℕ) (o : Object) → has_name table name ≡ false
    → without (table ++ (name, o) ∷ []) name ≡ table
without_new [] name o e =
    dropped (name, o) (bytes_eq name name) ((bytes_eq-Decides name name).1 refl)
without_new (p ∷ table) name o e =
    let both = or_parts (bytes_eq p.0 name) (has_name table name) e in
    kept_first p (bytes_eq p.0 name) _ _ both.0 (without_new table name o both.1)

pub not_refused : (r : Option Why) (c d : Counts) → Done d ≡ reply_by r c → r ≡ None
not_refused None c d e = refl
not_refused (Some why) c d e = absurd (cc)

if_none : {S : Type 0} (r : Option Why) (x y : S) → r ≡ None → if_done r x y ≡ x
if_none None x y e = refl
if_none (Some why) x y e = absurd (cc)

pub undone : (g : Geometry) (operations : Routines) (table : List Named) (name : List ℕ)
    (count n : ℕ) (d : Counts) → Done d ≡ reply_to g operations table (Init name count n)
    → without (table_after g operations table (Init name count n)) name ≡ table
undone g operations table name count n d e =
    let r = refusal g operations table (Init name count n) in
    let none : r ≡ None = not_refused r _ d e in
    ap (λ t. without t name) (if_none r _ table none)
    ∙ without_new table name _ (made g operations table name count n none).new

refused_table : (r : Option Why) (c : Counts) (w : Why) (x y : List Named)
    → Refused w ≡ reply_by r c → if_done r x y ≡ y
refused_table None c w x y e = absurd (cc)
refused_table (Some why) c w x y e = refl

-- and one that is refused
pub refused_same : (g : Geometry) (operations : Routines) (table : List Named)
    (instr : Instruction) (w : Why) → Refused w ≡ reply_to g operations table instr
    → table_after g operations table instr ≡ table
refused_same g operations table instr w e =
    refused_table (refusal g operations table instr) _ w _ table e
