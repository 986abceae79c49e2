-- What comes of a print.
use Rattle.sim_machine.proofs.Common.{◌≡◌, ℕ, ◌≤◌, List, [], ◌++◌, refl, sym, ◌∙◌, ap, subst}
use Rattle.sim_machine.proofs.Common.{append-nil, arith, cond, None, Some, Option, Result, Ok, Err}
use Rattle.sim_machine.proofs.Common.{OnErr, IsErrOf, is_none, SinkView, Known, AppendsPart}
use Rattle.sim_machine.proofs.Common.{Known-trans, Rose, StoppedWithin, ChipView, DidRead}
use Rattle.sim_machine.proofs.Common.{FailedBelow, Counts, Place, Print, Reply, Done, Refused, Why}
use Rattle.sim_machine.proofs.Common.{piece_of, refusal, Named, line, said_of, Answered}
use Rattle.sim_machine.proofs.Common.{rows_printed, if_done, reply_by, DidReadAtMost, StepFault}
use Rattle.sim_machine.proofs.Common.{ChipFault, WriteFault, Turn}
use Rattle.machine_model.specs.Report.{place_text}
use Rattle.machine_model.specs.Report.Said.{Printed}
use Rattle.object_steps.specs.Lines.{printed_line}
use Rattle.sim_machine.specs.declared.machine.Machine.{Machine}
use Rattle.sim_machine.specs.Machine.{banks_by, banks_read, events_by, geometry_of, reply_line}
use Rattle.sim_machine.specs.Machine.{operations_by}
use Rattle.sim_machine.specs.Machine.{reads_by, reply_of, table_in, turn_in}
use Rattle.sim_machine.specs.Outcome.{Comes, Stepped, StoppedBySink}
use Rattle.sim_machine.specs.Steps.{DidAndRead}
use Rattle.sim_machine.proofs.Stepping.{if_same, not_refused, print_table}

shown : (number : ℕ) (place : Place) (r : Option Why) (c : Counts) (values : Place → List ℕ)
    → r ≡ None → if_done r (line number (Printed (place_text place) (values place))) []
    ≡ line number (said_of (reply_by r c) (Print place) values)
shown number place None c values e = refl
shown number place (Some why) c values e = absurd (cc)

unshown : (r : Option Why) (c : Counts) (w : Why) (text : List ℕ) → Refused w ≡ reply_by r c
    → if_done r text [] ≡ []
unshown None c w text e = absurd (cc)
unshown (Some why) c w text e = refl

all_rows : (r : Option Why) (n : ℕ) → r ≡ None → cond (is_none r) n 0 ≡ n
all_rows None n e = refl
all_rows (Some why) n e = absurd (cc)

refused_said : (place : Place) (reply : Reply) (w : Why) (values : Place → List ℕ)
    → reply ≡ Refused w → said_of reply (Print place) values ≡ Answered reply
refused_said place (Refused why) w values e = refl
refused_said place (Done counts) w values e = absurd (cc)

nothing_more : (x y : List ℕ) (text : List ℕ) → text ≡ [] → y ≡ x ++ text → y ≡ x
nothing_more x y text e h = h ∙ ap (λ t. x ++ t) e ∙ append-nil x

module _ (old new : Machine) (number : ℕ) (place : Place) (chip chip' : ChipView)
    (sink sink' : SinkView) (same : new ≡ old)
  where
    abbrev shown_line : List ℕ
    shown_line = printed_line (geometry_of old) (operations_by old) (table_in old) chip.banks
        number place place

    none_else : events_by old (piece_of (Print place)) ≡ []
    none_else = if_same (refusal (geometry_of old) (operations_by old) (table_in old) (Print place))
        []

    did_read : DidRead (reads_by old (Print place)) chip chip'
        → DidAndRead (events_by old (piece_of (Print place))) (reads_by old (Print place)) chip chip'
    did_read did = subst (λ events. DidAndRead events (reads_by old (Print place)) chip chip')
        (sym none_else) (record {
          banks = did.banks;
          counters = did.counters;
          faults = did.faults;
          log = did.log;
        })

    whole_line : refusal (geometry_of old) (operations_by old) (table_in old) (Print place) ≡ None
        → shown_line ≡ reply_line old number chip.banks (Print place)
    whole_line e = shown number place _ _ _ e

    refused_line : (reply : Reply) (w : Why) → reply ≡ reply_of old (Print place)
        → reply ≡ Refused w
        → line number (Answered reply) ≡ reply_line old number chip.banks (Print place)
    refused_line reply w e h = ap (λ r. line number (Answered r)) e
        ∙ ap (line number) (sym (refused_said place (reply_of old (Print place)) w _ (sym e ∙ h)))

    pub print_done : (reply : Reply) (d : Counts) → reply ≡ reply_of old (Print place) → reply ≡
        Done d
        → DidRead (reads_by old (Print place)) chip chip'
        → Known (λ x y. y ≡ x ++ shown_line) sink.sent sink'.sent → sink'.faults ≡ sink.faults
        → Stepped old new number (Print place) chip chip' sink sink' reply
    print_done reply d e h did sent unfailed = record {
      answer = e;
      machine = same ∙ ap (λ (t : List Named). let m : Machine = record old { table = t } in m)
          (print_table old place);
      did = did_read did;
      sent = subst (λ text. Known (λ x y. y ≡ x ++ text) sink.sent sink'.sent)
          (whole_line (not_refused _ _ d (sym h ∙ e))) sent;
      unfailed = unfailed;
    }

    pub print_refused : (reply : Reply) (w : Why) (between : SinkView)
        → reply ≡ reply_of old (Print place) → reply ≡ Refused w
        → DidRead (reads_by old (Print place)) chip chip'
        → Known (λ x y. y ≡ x ++ shown_line) sink.sent between.sent
        → Known (λ x y. y ≡ x ++ line number (Answered reply)) between.sent sink'.sent
        → sink'.faults ≡ sink.faults
        → Stepped old new number (Print place) chip chip' sink sink' reply
    print_refused reply w between e h did first sent unfailed = record {
      answer = e;
      machine = same ∙ ap (λ (t : List Named). let m : Machine = record old { table = t } in m)
          (print_table old place);
      did = did_read did;
      sent = Known-trans {R = λ x y. y ≡ x ++ shown_line}
          {S = λ x y. y ≡ x ++ line number (Answered reply)}
          {U = λ x y. y ≡ x ++ reply_line old number chip.banks (Print place)}
          sink.sent between.sent sink'.sent
          (λ x y z p q. q
          ∙ ap (λ t. t ++ line number (Answered reply))
          (nothing_more x y shown_line (unshown _ _ w _ (sym h ∙ e)) p)
          ∙ ap (λ t. x ++ t) (refused_line reply w e h)) first sent;
      unfailed = unfailed;
    }

    pub print_unsent : (reply : Reply) (w : Why) (between : SinkView)
        → reply ≡ reply_of old (Print place) → reply ≡ Refused w
        → DidRead (reads_by old (Print place)) chip chip'
        → sink.faults ≤ between.faults
        → Known (λ x y. y ≡ x ++ shown_line) sink.sent between.sent
        → Rose between.faults sink'.faults
        → Known (AppendsPart (line number (Answered reply))) between.sent sink'.sent
        → StoppedBySink old new number (Print place) chip chip' sink sink'
    print_unsent reply w between e h did before first rose sent = record {
      machine = same;
      did = λ p. absurd (cc);
      read = λ p. record {
        rows = reads_by old (Print place);
        few = omega arith;
        did = did;
      };
      rose = omega (arith, before, rose);
      part = Known-trans {R = λ x y. y ≡ x ++ shown_line}
          {S = AppendsPart (line number (Answered reply))}
          {U = AppendsPart (reply_line old number chip.banks (Print place))}
          sink.sent between.sent sink'.sent
          (λ x y z p q. subst (λ t. AppendsPart t x z) (refused_line reply w e h)
          (subst (λ t. AppendsPart (line number (Answered reply)) t z)
          (nothing_more x y shown_line (unshown _ _ w _ (sym h ∙ e)) p) q)) first sent;
    }

    pub print_failed : (fault : StepFault)
        → refusal (geometry_of old) (operations_by old) (table_in old) (Print place) ≡ None
        → Known (AppendsPart shown_line) sink.sent sink'.sent
        → (fault ≡ ChipFault → FailedBelow (banks_by old (Print place)) chip chip')
        → (fault ≡ ChipFault
        → StoppedWithin (banks_read old (Print place)) [] chip.banks chip'.banks)
        → (fault ≡ WriteFault → Rose sink.faults sink'.faults)
        → (fault ≡ WriteFault
        → DidReadAtMost (rows_printed (geometry_of old) (table_in old) (Print place)) chip chip')
        → Comes old new number (Print place) chip chip' sink sink' (Err fault)
    print_failed ChipFault allowed part failed left rose read = record {
      same = same ∙ ap (λ (t : Turn). let m : Machine = record old { turn = t } in m)
          (sym (ap turn_in same));
      turn = λ e. ap turn_in same;
      failed = failed refl;
      stopped = λ p. absurd (cc);
      left = subst (λ events. StoppedWithin (banks_read old (Print place)) events chip.banks
          chip'.banks) (sym none_else) (left refl);
      unsent = λ p. absurd (cc);
      part = subst (λ t. Known (AppendsPart t) sink.sent sink'.sent) (whole_line allowed) part;
    }
    print_failed WriteFault allowed part failed left rose read = record {
      machine = same;
      did = λ p. absurd (cc);
      read = λ p. subst (λ n. DidReadAtMost n chip chip') (sym (all_rows _ _ allowed)) (read refl);
      rose = rose refl;
      part = subst (λ t. Known (AppendsPart t) sink.sent sink'.sent) (whole_line allowed) part;
    }

-- a print that fails is not refused, so that it was to read all its rows
pub read_at_most : (m : Machine) (place : Place) (result : Result Reply StepFault)
    (chip chip' : ChipView) → OnErr result (refusal (geometry_of m) (operations_by m) (table_in m)
    (Print place) ≡ None) → (IsErrOf result WriteFault
    → DidReadAtMost (rows_printed (geometry_of m) (table_in m) (Print place)) chip chip')
    → IsErrOf result WriteFault → DidReadAtMost (reads_by m (Print place)) chip chip'
read_at_most m place (Ok reply) chip chip' allowed read is = absurd (cc)
read_at_most m place (Err fault) chip chip' allowed read is =
    subst (λ n. DidReadAtMost n chip chip') (sym (all_rows _ _ allowed)) (read is)
