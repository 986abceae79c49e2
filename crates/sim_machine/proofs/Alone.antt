-- What comes of a bbop, which is a wave of one.
use Rattle.sim_machine.proofs.Common.{◌≡◌, ℕ, ◌≤◌, Bool, true, false, cond, List, [], ◌∷◌, ◌++◌}
use Rattle.sim_machine.proofs.Common.{refl, sym, ◌∙◌, ap, subst, append-nil, arith, map, get_or}
use Rattle.sim_machine.proofs.Common.{Err, is_none, AllByRecursion, SinkView, Known, AppendsPart}
use Rattle.sim_machine.proofs.Common.{Rose, Event, StoppedWithin, ChipView, Did, Queues, WaveJob}
use Rattle.sim_machine.proofs.Common.{StoppedAmong, Instruction, Init, Bbop, Load, Fill, Print}
use Rattle.sim_machine.proofs.Common.{Free, Order, Reply, Piece, Wave, jobs_of, piece_of, refusal}
use Rattle.sim_machine.proofs.Common.{line, Answered, is_bbop, StepFault, ChipFault, WriteFault}
use Rattle.machine_model.specs.Steps.{job_of}
use Rattle.sim_machine.specs.declared.machine.Machine.{Machine}
use Rattle.sim_machine.specs.Machine.{banks_by, events_by, geometry_of, is_print, reply_line}
use Rattle.sim_machine.specs.Machine.{lines_of, operations_by, queues_by, reads_by, reply_of}
use Rattle.sim_machine.specs.Machine.{moved_table, table_in, turn_by_piece, turn_in}
use Rattle.sim_machine.specs.Outcome.{Comes, Stepped}
use Rattle.sim_machine.specs.Steps.{DidAndRead}
use Rattle.sim_machine.proofs.Keeping.{goes_to}
use Rattle.sim_machine.proofs.Waving.{stopped_below}
use Rattle.sim_machine.proofs.Stepping.{did_only, if_same, no_part, reads_none, said_answered}
use Rattle.transpose_unit.proofs.Stopping.{stopped_at, stopped_more}
use Rattle.machine_model.specs.Pieces as piece

shows_none : (instr : Instruction) → is_bbop instr ≡ true → is_print instr ≡ false
shows_none (Init name count n) e = absurd (cc)
shows_none (Bbop op dst srcs count n) e = refl
shows_none (Load name values) e = absurd (cc)
shows_none (Fill name value) e = absurd (cc)
shows_none (Print name) e = absurd (cc)
shows_none (Free name) e = absurd (cc)
shows_none (Order o) e = absurd (cc)

keeps_table : (m : Machine) (instr : Instruction) → is_bbop instr ≡ true
    → table_in m ≡ moved_table m instr
keeps_table m (Init name count n) e = absurd (cc)
keeps_table m (Bbop op dst srcs count n) e = sym (if_same _ (table_in m))
keeps_table m (Load name values) e = absurd (cc)
keeps_table m (Fill name value) e = absurd (cc)
keeps_table m (Print name) e = absurd (cc)
keeps_table m (Free name) e = absurd (cc)
keeps_table m (Order o) e = absurd (cc)

one_wave : (instr : Instruction) → is_bbop instr ≡ true → piece_of instr ≡ Wave (instr ∷ [])
one_wave instr e = ap (λ b. cond b (Wave (instr ∷ [])) (piece.Alone instr)) e

job_banks : (m : Machine) (instr : Instruction)
    → (job_of (geometry_of m) (operations_by m) (table_in m) instr).banks ≤ banks_by m instr
job_banks m (Init name count n) = omega arith
job_banks m (Bbop op dst srcs count n) = omega arith
job_banks m (Load name values) = omega arith
job_banks m (Fill name value) = omega arith
job_banks m (Print name) = omega arith
job_banks m (Free name) = omega arith
job_banks m (Order o) = omega arith

one_below : (b : Bool) (k : ℕ) (f : Instruction → WaveJob) (x : Instruction) (xs : List Instruction)
    → (f x).banks ≤ k → AllByRecursion (λ job. job.banks ≤ k) (map f xs)
    → AllByRecursion (λ job. job.banks ≤ k) (map f (cond b (x ∷ xs) xs))
one_below true k f x xs h all = (h, all)
one_below false k f x xs h all = all

-- the jobs of a wave are in the banks that its bbops may change
jobs_below : (m : Machine) (wave : List Instruction) (k : ℕ)
    → AllByRecursion (λ instr. banks_by m instr ≤ k) wave
    → AllByRecursion (λ job. job.banks ≤ k)
    (jobs_of (geometry_of m) (operations_by m) (table_in m) wave)
jobs_below m [] k all = tt
jobs_below m (instr ∷ wave) k all =
    let banks = job_banks m instr in
    one_below (is_none (refusal (geometry_of m) (operations_by m) (table_in m) instr)) k
    (job_of (geometry_of m) (operations_by m) (table_in m)) instr _
    (omega (arith, all.0, banks)) (jobs_below m wave k all.1)

-- all banks but one stand where the events before the one that failed leave them
among_within : (events : List Event) (queue : Queues) (a b : ChipView)
    → StoppedAmong events queue a b → StoppedWithin 0 events a.banks b.banks
among_within events queue a b s =
    stopped_at events s.done s.bank s.command a.banks b.banks s.failed s.others

module _ (old new : Machine) (number : ℕ) (instr : Instruction) (wave : List Instruction)
    (chip chip' : ChipView) (sink sink' : SinkView)
    (same : new ≡ record old { turn = turn_in new }) (is : wave ≡ instr ∷ [])
    (bbop : is_bbop instr ≡ true)
  where
    one_line : lines_of old number wave ≡ reply_line old number chip.banks instr
    one_line = ap (lines_of old number) is
        ∙ append-nil (line number (Answered (reply_of old instr)))
        ∙ ap (line number) (sym (said_answered (reply_of old instr) instr _
        (shows_none instr bbop)))

    same_piece : Wave wave ≡ piece_of instr
    same_piece = ap Wave is ∙ sym (one_wave instr bbop)

    did_alone : Did (events_by old (Wave wave)) chip chip'
        → DidAndRead (events_by old (piece_of instr)) (reads_by old instr) chip chip'
    did_alone did = subst (λ p. DidAndRead (events_by old p) (reads_by old instr) chip chip')
        same_piece (did_only _ _ chip chip' (reads_none old instr (shows_none instr bbop)) did)

    stopped_alone : StoppedAmong (events_by old (Wave wave)) (queues_by old wave) chip chip'
        → StoppedAmong (events_by old (piece_of instr)) (queues_by old (instr ∷ [])) chip chip'
    stopped_alone stopped =
        subst (λ (p : Piece). StoppedAmong (events_by old p) (queues_by old (instr ∷ [])) chip
        chip') same_piece (subst (λ (xs : List Instruction). StoppedAmong
        (events_by old (Wave wave)) (queues_by old xs) chip chip') is stopped)

    pub bbop_done : (replies : List Reply) (d : Reply) → replies ≡ map (reply_of old) wave →
        turn_in new ≡ turn_by_piece old (Wave wave)
        → Did (events_by old (Wave wave)) chip chip'
        → Known (λ x y. y ≡ x ++ lines_of old number wave) sink.sent sink'.sent
        → sink'.faults ≡ sink.faults
        → Stepped old new number instr chip chip' sink sink' (get_or replies 0 d)
    bbop_done replies d e turn did sent unfailed = record {
      answer = ap (λ (rs : List Reply). get_or rs 0 d) (e ∙ ap (map (reply_of old)) is);
      machine = same ∙ goes_to old (record old { turn = turn_in new }) _ _ refl
          (keeps_table old instr bbop) (turn ∙ ap (turn_by_piece old) same_piece);
      did = did_alone did;
      sent = subst (λ text. Known (λ x y. y ≡ x ++ text) sink.sent sink'.sent) one_line sent;
      unfailed = unfailed;
    }

    pub bbop_failed : (fault : StepFault)
        → (fault ≡ WriteFault → turn_in new ≡ turn_by_piece old (Wave wave))
        → (fault ≡ ChipFault
        → StoppedAmong (events_by old (Wave wave)) (queues_by old wave) chip chip')
        → (fault ≡ ChipFault → sink' ≡ sink)
        → (fault ≡ WriteFault → Did (events_by old (Wave wave)) chip chip')
        → (fault ≡ WriteFault → Rose sink.faults sink'.faults)
        → (fault ≡ WriteFault
        → Known (AppendsPart (lines_of old number wave)) sink.sent sink'.sent)
        → Comes old new number instr chip chip' sink sink' (Err fault)
    bbop_failed ChipFault turn stopped unsent did rose part = record {
      same = same;
      turn = λ e. absurd (cc (e, bbop));
      failed = stopped_below (geometry_of old).banks (turn_in old)
          (jobs_of (geometry_of old) (operations_by old) (table_in old) wave) chip chip'
          (banks_by old instr) (stopped refl) (jobs_below old wave (banks_by old instr)
          (subst (AllByRecursion (λ i. banks_by old i ≤ banks_by old instr)) (sym is)
          (omega arith, tt)));
      stopped = λ e. stopped_alone (stopped refl);
      left = stopped_more _ _ _ _ (among_within _ _ chip chip' (stopped_alone (stopped refl)));
      unsent = λ e. unsent refl;
      part = subst (λ (s : SinkView). Known (AppendsPart (reply_line old number chip.banks instr))
          sink.sent s.sent) (sym (unsent refl)) (no_part _ sink.sent);
    }
    bbop_failed WriteFault turn stopped unsent did rose part =
        let all = did_alone (did refl) in record {
          machine = same ∙ goes_to old (record old { turn = turn_in new }) _ _ refl refl
              (turn refl ∙ ap (turn_by_piece old) same_piece);
          did = λ e. all;
          read = λ e. absurd (cc (e, shows_none instr bbop));
          rose = rose refl;
          part = subst (λ text. Known (AppendsPart text) sink.sent sink'.sent) one_line (part refl);
        }
