-- What comes of a guarded print.
use Rattle.tmr_guard.proofs.Common.{◌≡◌, ℕ, ◌*◌, ◌≤◌, false, cond, List, [], ◌∷◌, ◌++◌, Option}
use Rattle.tmr_guard.proofs.Common.{Some, None, refl, sym, ◌∙◌, ap, subst, arith, append-nil}
use Rattle.tmr_guard.proofs.Common.{is_none, SinkView, Rose, ChipView, DidRead, StoppedWithin}
use Rattle.tmr_guard.proofs.Common.{WALK_MAX, Counts, Place, Instruction, Print, StepFault}
use Rattle.tmr_guard.proofs.Common.{ChipFault, WriteFault, Reply, Done, Refused, Why, refusal}
use Rattle.tmr_guard.proofs.Common.{reply_by, if_done, rows_printed, sum_done, piece_of}
use Rattle.tmr_guard.proofs.Common.{piece_events, Machine, geometry_of, operations_by, program_of}
use Rattle.tmr_guard.proofs.Common.{table_in, turn_in, reply_of, DidAndRead, if_same, x_letter}
use Rattle.tmr_guard.proofs.Common.{joined, place_on, none_yet, script_done, script_for}
use Rattle.tmr_guard.proofs.Common.{script_refused, take, is_print, map, Event, events_of_pieces}
use Rattle.host_edge.specs.Views.{Known, AppendsPart}
use Rattle.host_edge.proofs.Tells.{Known-trans}
use Rattle.object_steps.specs.Lines.{DidReadAtMost, values_of}
use Rattle.bit_rows.specs.declared.TheConstants.{WIDTH_MAX}
use Rattle.machine_model.specs.Columns.{columns}
use Rattle.machine_model.specs.Refusals.{rows_of}
use Rattle.machine_model.specs.Report.{line, place_text, said_of}
use Rattle.machine_model.specs.Report.Said.{Answered, Printed}
use Rattle.object_steps.specs.Objects.{RisesAtMost}
use Rattle.sim_machine.specs.Machine.{line_shown, reads_by, banks_read}
use Rattle.sim_machine.proofs.Rising.{rises_less}
use Rattle.sim_machine.proofs.Stepping.{no_part, print_table, said_answered}
use Rattle.tmr_guard.specs.Steps.{Broke, Guarded, RanBy, line_by, reply_by as answer_by, events_by}
use Rattle.tmr_guard.specs.Steps.{reads_by as guard_reads, script_by, banks_read_by}
use Rattle.tmr_guard.proofs.Runs.{plus_none, ran_one}
use Rattle.transpose_unit.proofs.Stopping.{stopped_more}

-- a reply that is done, or a refusal, tells of the conditions
done_is : (r : Option Why) (c d : Counts) → Done d ≡ reply_by r c → r ≡ None
done_is None c d e = refl
done_is (Some w) c d e = absurd (cc)

refused_is : (r : Option Why) (c : Counts) (w : Why) → Refused w ≡ reply_by r c → r ≡ Some w
refused_is None c w e = absurd (cc)
refused_is (Some v) c w e = let same : v ≡ w = cc in ap (λ (u : Why). Some u) same

-- the reply of one plain instruction of no commands
one_reply : (r : Option Why) → joined none_yet (reply_by r (record { aap = 0; ap = 0 }) ∷ [])
    ≡ reply_by r (record { aap = 0; ap = 0 })
one_reply None = refl
one_reply (Some w) = refl

no_reads : (r : Option Why) (w : Why) (n : ℕ) → r ≡ Some w → cond (is_none r) n 0 ≡ 0
no_reads None w n e = absurd (cc)
no_reads (Some v) w n e = refl

nothing_more : (x y text : List ℕ) → text ≡ [] → y ≡ x ++ text → y ≡ x
nothing_more x y text e h = h ∙ ap (λ t. x ++ t) e ∙ append-nil x

line_shown_is : (number : ℕ) (place : Place) (r : Option Why) (values : Place → List ℕ) → r ≡ None
    → if_done r (line number (Printed (place_text place) (values place))) []
    ≡ line number (said_of (reply_by r (record { aap = 0; ap = 0 })) (Print place) values)
line_shown_is number place None values e = refl
line_shown_is number place (Some w) values e = absurd (cc)

line_refused_is : (number : ℕ) (place : Place) (reply : Reply) (w : Why) (values : Place → List ℕ)
    → reply ≡ Refused w → line number (said_of reply (Print place) values)
    ≡ line number (Answered reply)
line_refused_is number place (Refused v) w values e = refl
line_refused_is number place (Done c) w values e = absurd (cc)

-- a guarded print, where k is the first copy
module _ (m new : Machine) (number : ℕ) (place k : Place) (chip chip' : ChipView)
    (sink sink' : SinkView) (is : k ≡ place_on x_letter place)
  where
    abbrev why_not : Option Why
    why_not = refusal (geometry_of m) (operations_by m) (table_in m) (Print k)

    abbrev text : List ℕ
    text = line_shown m number chip.banks k place

    abbrev values : Place → List ℕ
    values p = take (rows_of (table_in m) (place_on x_letter p)).count
        (columns (geometry_of m) chip.banks (rows_of (table_in m) (place_on x_letter p)))

    reply_is : answer_by m (Print place) ≡ reply_of m (Print k)
    reply_is = ap (λ (p : Place). joined none_yet (reply_of m (Print p) ∷ [])) (sym is)
        ∙ one_reply why_not

    script_shown : why_not ≡ None → script_by m (Print place) ≡ Print k ∷ []
    script_shown allowed = ap (λ (p : Place). script_for (geometry_of m) (operations_by m)
        (table_in m) (Print p ∷ [])) (sym is)
        ∙ script_done (geometry_of m) (operations_by m) (table_in m) (Print k ∷ []) (allowed, tt)

    script_none : (w : Why) → why_not ≡ Some w → script_by m (Print place) ≡ []
    script_none w refused = ap (λ (p : Place). script_for (geometry_of m) (operations_by m)
        (table_in m) (Print p ∷ [])) (sym is)
        ∙ script_refused (geometry_of m) (operations_by m) (table_in m) (Print k) [] w refused

    whole_line : why_not ≡ None → text ≡ line_by m number chip.banks (Print place)
    whole_line allowed =
        ap (λ (p : Place). if_done why_not (line number (Printed (place_text place)
        (values_of (geometry_of m) chip.banks (table_in m) p))) []) is
        ∙ line_shown_is number place why_not values allowed
        ∙ ap (λ r. line number (said_of r (Print place) values)) (sym reply_is)

    refused_line : (reply : Reply) (w : Why) → reply ≡ reply_of m (Print k) → reply ≡ Refused w
        → line number (Answered reply) ≡ line_by m number chip.banks (Print place)
    refused_line reply w e h =
        sym (line_refused_is number place reply w values h)
        ∙ ap (λ r. line number (said_of r (Print place) values)) (e ∙ sym reply_is)

    no_text : (w : Why) → why_not ≡ Some w → text ≡ []
    no_text w refused = ap (λ r. if_done r (line number (Printed (place_text place)
        (values_of (geometry_of m) chip.banks (table_in m) k))) []) refused

    print_events : DidRead (reads_by m (Print k)) chip chip'
        → DidAndRead (piece_events (geometry_of m) (operations_by m) (turn_in m) (table_in m)
        (piece_of (Print k))) (reads_by m (Print k)) chip chip'
    print_events did = subst (λ es. DidAndRead es (reads_by m (Print k)) chip chip')
        (sym (if_same why_not [])) (record {
          banks = did.banks;
          counters = did.counters;
          faults = did.faults;
          log = did.log;
        })

    pub print_shown : (reply : Reply) (d : Counts) → reply ≡ reply_of m (Print k) → reply ≡ Done d
        → table_in new ≡ table_in m → turn_in new ≡ turn_in m
        → DidRead (reads_by m (Print k)) chip chip'
        → RisesAtMost (16 * WIDTH_MAX) chip.counters chip'.counters
        → Known (λ x y. y ≡ x ++ text) sink.sent sink'.sent → sink'.faults ≡ sink.faults
        → Guarded m new number (Print place) chip chip' sink sink' reply
    print_shown reply d e h table turn did rises sent unfailed =
        let allowed : why_not ≡ None = done_is why_not _ d (sym h ∙ e) in
        record {
          answer = e ∙ sym reply_is;
          ran = subst (λ xs. RanBy m new xs chip chip') (sym (script_shown allowed))
              (ran_one (geometry_of m) (program_of m) (turn_in m) (turn_in new) (table_in m)
              (table_in new) (Print k) chip chip' (table ∙ print_table m k) turn
              (print_events did));
          rises = rises_less (16 * WIDTH_MAX) (80 * WALK_MAX) chip.counters chip'.counters
              (omega arith) rises;
          sent = subst (λ t. Known (λ x y. y ≡ x ++ t) sink.sent sink'.sent)
              (whole_line allowed) sent;
          unfailed = unfailed;
        }

    pub print_refused : (reply : Reply) (w : Why) (between : SinkView)
        → reply ≡ reply_of m (Print k) → reply ≡ Refused w
        → table_in new ≡ table_in m → turn_in new ≡ turn_in m
        → DidRead (reads_by m (Print k)) chip chip'
        → RisesAtMost (16 * WIDTH_MAX) chip.counters chip'.counters
        → Known (λ x y. y ≡ x ++ text) sink.sent between.sent
        → Known (λ x y. y ≡ x ++ line number (Answered reply)) between.sent sink'.sent
        → sink'.faults ≡ sink.faults
        → Guarded m new number (Print place) chip chip' sink sink' reply
    print_refused reply w between e h table turn did rises first sent unfailed =
        let refused : why_not ≡ Some w = refused_is why_not _ w (sym h ∙ e) in
        let none : reads_by m (Print k) ≡ 0 = no_reads why_not w _ refused in
        let quiet : DidRead 0 chip chip' = subst (λ n. DidRead n chip chip') none did in
        record {
          answer = e ∙ sym reply_is;
          ran = subst (λ xs. RanBy m new xs chip chip') (sym (script_none w refused)) (record {
            tables = table;
            turns = turn;
            did = record {
              banks = quiet.banks;
              counters = quiet.counters;
              faults = quiet.faults;
              log = quiet.log;
            };
          });
          rises = rises_less (16 * WIDTH_MAX) (80 * WALK_MAX) chip.counters chip'.counters
              (omega arith) rises;
          sent = Known-trans {R = λ x y. y ≡ x ++ text}
              {S = λ x y. y ≡ x ++ line number (Answered reply)}
              {U = λ x y. y ≡ x ++ line_by m number chip.banks (Print place)}
              sink.sent between.sent sink'.sent
              (λ x y z p q. q ∙ ap (λ t. t ++ line number (Answered reply))
              (nothing_more x y text (no_text w refused) p)
              ∙ ap (λ t. x ++ t) (refused_line reply w e h)) first sent;
          unfailed = unfailed;
        }

    -- where a call fails
    pub print_broke : (fault : StepFault) → why_not ≡ None
        → (fault ≡ ChipFault → Rose chip.faults chip'.faults)
        → (fault ≡ ChipFault
        → StoppedWithin (banks_read m (Print k)) [] chip.banks chip'.banks)
        → (fault ≡ WriteFault → Rose sink.faults sink'.faults)
        → (fault ≡ WriteFault → DidReadAtMost (reads_by m (Print k)) chip chip')
        → Known (AppendsPart text) sink.sent sink'.sent
        → Broke m number (Print place) chip chip' sink sink' fault
    print_broke fault allowed chip_rose left sink_rose read part =
        let reads : guard_reads m (Print place) ≡ reads_by m (Print k) =
        ap (sum_done rows_printed (geometry_of m) (operations_by m) (table_in m))
        (script_shown allowed) ∙ sym (plus_none (reads_by m (Print k))) in
        let quiet : events_by m (Print place) ≡ [] =
        ap (λ (xs : List Instruction). events_of_pieces (geometry_of m) (operations_by m) (turn_in m)
        (table_in m) (map piece_of xs)) (script_shown allowed) ∙ append-nil _
        ∙ if_same why_not [] in
        record {
          chip_rose = chip_rose;
          left = λ e. subst (λ (p : Place). StoppedWithin (banks_read m (Print p))
              (events_by m (Print place)) chip.banks chip'.banks) is
              (subst (λ (es : List Event). StoppedWithin (banks_read m (Print k)) es chip.banks
              chip'.banks) (sym quiet) (left e));
          sink_rose = sink_rose;
          unsent = λ e p. absurd (cc);
          done = λ e p. absurd (cc);
          read = λ e p. subst (λ n. DidReadAtMost n chip chip') (sym reads) (read e);
          part = subst (λ t. Known (AppendsPart t) sink.sent sink'.sent) (whole_line allowed) part;
        }

    -- where the line of a refusal is not put
    pub print_unsent : (reply : Reply) (w : Why) (between : SinkView)
        → reply ≡ reply_of m (Print k) → reply ≡ Refused w
        → DidRead (reads_by m (Print k)) chip chip' → sink.faults ≤ between.faults
        → Known (λ x y. y ≡ x ++ text) sink.sent between.sent
        → Rose between.faults sink'.faults
        → Known (AppendsPart (line number (Answered reply))) between.sent sink'.sent
        → Broke m number (Print place) chip chip' sink sink' WriteFault
    print_unsent reply w between e h did before first rose part =
        let refused : why_not ≡ Some w = refused_is why_not _ w (sym h ∙ e) in
        let none : reads_by m (Print k) ≡ 0 = no_reads why_not w _ refused in
        record {
          chip_rose = λ f. absurd (cc);
          left = λ f. absurd (cc);
          sink_rose = λ f. omega (arith, before, rose);
          unsent = λ f. absurd (cc);
          done = λ f p. absurd (cc);
          read = λ f p. record {
            rows = reads_by m (Print k);
            few = omega (arith, none);
            did = did;
          };
          part = Known-trans {R = λ x y. y ≡ x ++ text}
              {S = AppendsPart (line number (Answered reply))}
              {U = AppendsPart (line_by m number chip.banks (Print place))}
              sink.sent between.sent sink'.sent
              (λ x y z p q. subst (λ t. AppendsPart t x z) (refused_line reply w e h)
              (subst (λ t. AppendsPart (line number (Answered reply)) t z)
              (nothing_more x y text (no_text w refused) p) q)) first part;
        }

pub line_is : (m : Machine) (number : ℕ) (chip : ChipView) (instr : Instruction) (reply : Reply)
    → is_print instr ≡ false → reply ≡ answer_by m instr
    → line number (Answered reply) ≡ line_by m number chip.banks instr
line_is m number chip instr reply h e =
    ap (λ r. line number (Answered r)) e
    ∙ ap (line number) (sym (said_answered (answer_by m instr) instr _ h))

-- the chip failed, and nothing was put
pub silent_broke : (m : Machine) (number : ℕ) (instr : Instruction) (chip chip' : ChipView)
    (sink : SinkView) → Rose chip.faults chip'.faults
    → StoppedWithin 0 (events_by m instr) chip.banks chip'.banks
    → Broke m number instr chip chip' sink sink ChipFault
silent_broke m number instr chip chip' sink rose left = record {
  chip_rose = λ e. rose;
  left = λ e. stopped_more (banks_read_by m instr) _ _ _ left;
  sink_rose = λ e. absurd (cc);
  unsent = λ e h. refl;
  done = λ e. absurd (cc);
  read = λ e. absurd (cc);
  part = no_part (line_by m number chip.banks instr) sink.sent;
}

pub reply_broke : (m : Machine) (number : ℕ) (instr : Instruction) (reply : Reply)
    (chip chip' : ChipView) (sink sink' : SinkView) → is_print instr ≡ false
    → reply ≡ answer_by m instr
    → DidAndRead (events_by m instr) (guard_reads m instr) chip chip'
    → Rose sink.faults sink'.faults
    → Known (AppendsPart (line number (Answered reply))) sink.sent sink'.sent
    → Broke m number instr chip chip' sink sink' WriteFault
reply_broke m number instr reply chip chip' sink sink' h e did rose part = record {
  chip_rose = λ f. absurd (cc);
  left = λ f. absurd (cc);
  sink_rose = λ f. rose;
  unsent = λ f. absurd (cc);
  done = λ f p. did;
  read = λ f p. absurd (cc);
  part = subst (λ text. Known (AppendsPart text) sink.sent sink'.sent)
      (line_is m number chip instr reply h e) part;
}

pub reply_guarded : (m new : Machine) (number : ℕ) (instr : Instruction) (reply : Reply)
    (chip chip' : ChipView) (sink sink' : SinkView) → is_print instr ≡ false
    → reply ≡ answer_by m instr → RanBy m new (script_by m instr) chip chip'
    → RisesAtMost (80 * WALK_MAX) chip.counters chip'.counters
    → Known (λ x y. y ≡ x ++ line number (Answered reply)) sink.sent sink'.sent
    → sink'.faults ≡ sink.faults → Guarded m new number instr chip chip' sink sink' reply
reply_guarded m new number instr reply chip chip' sink sink' h e ran rises sent unfailed = record {
  answer = e;
  ran = ran;
  rises = rises;
  sent = subst (λ text. Known (λ x y. y ≡ x ++ text) sink.sent sink'.sent)
      (line_is m number chip instr reply h e) sent;
  unfailed = unfailed;
}
