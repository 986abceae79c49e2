-- Lines that are sent one after another.
use Rattle.simdram_cli.proofs.Common.{◌≡◌, ◌⊎◌, ℕ, ◌+◌, ◌≤◌, ◌<◌, List, [], ◌∷◌, ◌++◌, Option, Some}
use Rattle.simdram_cli.proofs.Common.{None, refl, Bool, true, false, map, length, sym, ◌∙◌, ap}
use Rattle.simdram_cli.proofs.Common.{subst, inl, inr, arith, append_assoc, append-nil, FolderView}
use Rattle.simdram_cli.proofs.Common.{SinkView, Known, AppendsPart, Rose, Counters, Geometry, Banks}
use Rattle.simdram_cli.proofs.Common.{Event, after, all_counted, blank_banks, ChipView, Did}
use Rattle.simdram_cli.proofs.Common.{with_reads, Named, Instruction, Turn, Routines, refusal}
use Rattle.simdram_cli.proofs.Common.{Alone, AreBbops, Wave, Said, line, lines, said_in_rows}
use Rattle.simdram_cli.proofs.Common.{rows_printed, sum_done, waves_are_answered, StepFault}
use Rattle.simdram_cli.proofs.Common.{Machine, events_by, geometry_of, is_print, operations_by}
use Rattle.simdram_cli.proofs.Common.{table_in, DidAndRead, world, ChipUse, IsLeftBy, Step, Use}
use Rattle.simdram_cli.proofs.Common.{Put, Goes, PutFailed, ChipFailed, Done, Stopped}
use Rattle.host_edge.specs.Views.{IsPrefix}
use Rattle.machine_model.specs.Report.{Answered}
use Rattle.machine_model.specs.Steps.{reply_to}
use Rattle.object_steps.specs.Lines.{DidReadAtMost}
use Rattle.sim_machine.proofs.Stepping.{if_same}
use Rattle.cli_model.specs.Waves.{ChipWave, StoppedIn, banks_after}
use Rattle.cli_model.specs.Steps.{UseFor, Print, Printed, PrintFailed, line_steps}
use Rattle.simdram_cli.specs.Job.{put_lines, piece_steps, wave_on}
use Rattle.simdram_cli.specs.Stops.{fault_reason}
use Rattle.simdram_cli.proofs.Stores.{used, use_broke, sent, line_done, line_unput, put}
use Rattle.machine_model.specs.Pieces.{piece_events}
use Rattle.bbop_isa.specs.Forms as instruction
use Rattle.object_steps.specs.declared.fault.StepFault.TheVariants as step_fault

-- a sink that was sent these bytes, and counted no fault
abbrev more_sent : Option (List ℕ) → List ℕ → Option (List ℕ)
more_sent None bytes = None
more_sent (Some old) bytes = Some (old ++ bytes)

abbrev following : SinkView → List ℕ → SinkView
following s bytes = record { sent = more_sent s.sent bytes; faults = s.faults }

known_more : (o : Option (List ℕ)) (bytes : List ℕ)
    → Known (λ before after. after ≡ before ++ bytes) o (more_sent o bytes)
known_more None bytes = tt
known_more (Some old) bytes = refl

known_rest : (o b : Option (List ℕ)) (first rest : List ℕ)
    → Known (λ before after. after ≡ before ++ (first ++ rest)) o b
    → Known (λ before after. after ≡ before ++ rest) (more_sent o first) b
known_rest None b first rest t = tt
known_rest (Some old) None first rest t = absurd t
known_rest (Some old) (Some new) first rest t = t ∙ sym (append_assoc old first rest)

-- all lines were sent
pub lines_sent : (number : ℕ) (said : Said) (rest : List Said) (files : FolderView)
    (s t : SinkView) (chip : ChipView)
    → Known (λ before after. after ≡ before ++ lines number (said ∷ rest)) s.sent t.sent
    → t.faults ≡ s.faults
    → Goes (put_lines number (said ∷ rest)) Done (world files s chip) (world files t chip)
lines_sent number said [] files s t chip known l =
    inl (
      world files t chip,
      (
        put (line number said) files s t chip
            (subst (λ w. Known (λ before after. after ≡ before ++ w) s.sent t.sent)
            (append-nil (line number said)) known) l,
        refl,
      ),
    )
lines_sent number said (next ∷ rest) files s t chip known l =
    let first = line number said in
    let mid = following s first in
    inl (
      world files mid chip,
      (
        put first files s mid chip (known_more s.sent first) refl,
        lines_sent (number + 1) next rest files mid t chip
            (known_rest s.sent t.sent first (lines (number + 1) (next ∷ rest)) known) l,
      ),
    )

-- a part of two texts is a part of the first, or has all of it and a part of the second
parted : (p q a b : List ℕ) → p ++ q ≡ a ++ b
    → IsPrefix p a ⊎ ((more : List ℕ) × (p ≡ a ++ more) × (more ++ q ≡ b))
parted [] q a b e = inl (a, refl)
parted (x ∷ p) q [] b e = inr (x ∷ p, refl, e)
parted (x ∷ p) q (y ∷ a) b e =
    let head : x ≡ y = cc in
    let tail : p ++ q ≡ a ++ b = cc in
    elim (parted p q a b tail) [
      | inl (rest, is) ↦ inl (rest, rw (head, is) refl)
      | inr (more, is, left) ↦ inr (more, rw (head, is) refl, left)
    ]

-- where a part of lines was sent: the first line was cut, or it was sent and the others were cut
known_parted : (o b : Option (List ℕ)) (first rest : List ℕ)
    → Known (AppendsPart (first ++ rest)) o b
    → Known (AppendsPart first) o b ⊎ Known (AppendsPart rest) (more_sent o first) b
known_parted None b first rest t = inl tt
known_parted (Some old) None first rest t = absurd t
known_parted (Some old) (Some new) first rest (part, ((following, is), e)) =
    elim (parted part following first rest is) [
      | inl cut ↦ inl (part, (cut, e))
      | inr (more, all, left) ↦ inr (
        more,
        (
          (following, left),
          e ∙ ap (λ w. old ++ w) all ∙ sym (append_assoc old first more),
        ),
      )
    ]

-- a part of the lines was sent, and then the sink failed
pub lines_cut : (number : ℕ) (said : Said) (rest : List Said) (files : FolderView)
    (s t : SinkView) (chip : ChipView)
    → Known (AppendsPart (lines number (said ∷ rest))) s.sent t.sent
    → s.faults ≤ t.faults → Rose s.faults t.faults
    → Goes (put_lines number (said ∷ rest)) (Stopped PutFailed) (world files s chip)
    (world files t chip)
lines_cut number said [] files s t chip known l rose =
    inr (
      refl,
      sent (AppendsPart (line number said)) files s t chip
          (subst (λ w. Known (AppendsPart w) s.sent t.sent) (append-nil (line number said)) known)
          l,
      rose,
    )
lines_cut number said (next ∷ rest) files s t chip known l rose =
    let first = line number said in
    let mid = following s first in
    elim (known_parted s.sent t.sent first (lines (number + 1) (next ∷ rest)) known) [
      | inl cut ↦ inr (refl, sent (AppendsPart first) files s t chip cut l, rose)
      | inr more ↦ inl (
        world files mid chip,
        (
          put first files s mid chip (known_more s.sent first) refl,
          lines_cut (number + 1) next rest files mid t chip more l rose,
        ),
      )
    ]

-- a line is sent while the chip is read

printed : (R : List ℕ → List ℕ → Type 0) (banks : Banks) (files : FolderView) (s t : SinkView)
    (a b : ChipView) → Known R s.sent t.sent → s.faults ≤ t.faults → b.faults ≡ a.faults
    → b.banks ≡ banks → Printed R banks (world files s a) (world files t b)
printed R banks files s t a b known l e left =
    record { files = refl; sent = known; faults = l; chip = e; left = left }

-- and perhaps not to its end
half_printed : (bytes : List ℕ) (files : FolderView) (s t : SinkView) (a b : ChipView)
    → Known (AppendsPart bytes) s.sent t.sent → s.faults ≤ t.faults → a.faults ≤ b.faults
    → PrintFailed bytes (world files s a) (world files t b)
half_printed bytes files s t a b known l m =
    record { files = refl; sent = known; faults = l; chip = m }

print_done : (on : ChipUse) (bytes : List ℕ) (files : FolderView) (s t : SinkView) (a b : ChipView)
    → Known (λ before after. after ≡ before ++ bytes) s.sent t.sent → t.faults ≡ s.faults
    → b.faults ≡ a.faults → b.banks ≡ banks_after on
    → Goes (Print on bytes ∷ []) Done (world files s a) (world files t b)
print_done on bytes files s t a b known k e left =
    inl (world files t b, ((printed _ _ files s t a b known (omega (arith, k)) e left, k), refl))

print_unput : (on : ChipUse) (bytes : List ℕ) (files : FolderView) (s t : SinkView) (a b : ChipView)
    → Known (AppendsPart bytes) s.sent t.sent → s.faults ≤ t.faults → b.faults ≡ a.faults
    → b.banks ≡ banks_after on → Rose s.faults t.faults
    → Goes (Print on bytes ∷ []) (Stopped PutFailed) (world files s a) (world files t b)
print_unput on bytes files s t a b known l e left rose =
    inr (inl (refl, printed (AppendsPart bytes) _ files s t a b known l e left, rose))

print_unread : (on : ChipUse) (bytes : List ℕ) (files : FolderView) (s t : SinkView)
    (a b : ChipView) → Known (AppendsPart bytes) s.sent t.sent → s.faults ≤ t.faults
    → a.faults ≤ b.faults → Rose a.faults b.faults → IsLeftBy on b.banks
    → Goes (Print on bytes ∷ []) (Stopped ChipFailed) (world files s a) (world files t b)
print_unread on bytes files s t a b known l m rose left =
    inr (inr (refl, half_printed bytes files s t a b known l m, rose, left))

-- a wave

pub wave_done : (wave : ChipWave) (number : ℕ) (said : Said) (rest : List Said) (files : FolderView)
    (s t : SinkView) (a b : ChipView) → b.faults ≡ a.faults
    → b.banks ≡ after wave.events wave.banks
    → Known (λ before after. after ≡ before ++ lines number (said ∷ rest)) s.sent t.sent
    → t.faults ≡ s.faults
    → Goes (UseFor wave ∷ put_lines number (said ∷ rest)) Done (world files s a) (world files t b)
wave_done wave number said rest files s t a b e left known l =
    inl (world files s b, (used _ files s a b e left, lines_sent number said rest files s t b known l))

pub wave_unput : (wave : ChipWave) (number : ℕ) (said : Said) (rest : List Said)
    (files : FolderView)
    (s t : SinkView) (a b : ChipView) → b.faults ≡ a.faults
    → b.banks ≡ after wave.events wave.banks
    → Known (AppendsPart (lines number (said ∷ rest))) s.sent t.sent
    → s.faults ≤ t.faults → Rose s.faults t.faults
    → Goes (UseFor wave ∷ put_lines number (said ∷ rest)) (Stopped PutFailed) (world files s a)
    (world files t b)
wave_unput wave number said rest files s t a b e left known l rose = inl (
  world files s b,
  (used _ files s a b e left, lines_cut number said rest files s t b known l rose),
)

-- the chip failed, and nothing was sent
unused : (on : ChipUse) (steps : List Step) (files : FolderView) (s t : SinkView)
    (a b : ChipView) → a.faults ≤ b.faults → Rose a.faults b.faults → IsLeftBy on b.banks → t ≡ s
    → Goes (Use on ∷ steps) (Stopped ChipFailed) (world files s a) (world files t b)
unused on steps files s t a b m rose left e =
    subst (λ (x : SinkView). Goes (Use on ∷ steps) (Stopped ChipFailed) (world files s a)
    (world files x b)) (sym e) (inr (refl, use_broke files s a b m, rose, left))

-- and of a wave what then stands
unwaved : (wave : ChipWave) (steps : List Step) (files : FolderView) (s t : SinkView)
    (a b : ChipView) → a.faults ≤ b.faults → Rose a.faults b.faults → StoppedIn wave b.banks
    → t ≡ s
    → Goes (UseFor wave ∷ steps) (Stopped ChipFailed) (world files s a) (world files t b)
unwaved wave steps files s t a b m rose stopped e =
    subst (λ (x : SinkView). Goes (UseFor wave ∷ steps) (Stopped ChipFailed) (world files s a)
    (world files x b)) (sym e) (inr (refl, use_broke files s a b m, rose, stopped))

-- one instruction's line
pub instr_done : (on : ChipUse) (prints : Bool) (bytes : List ℕ) (files : FolderView)
    (s t : SinkView) (a b : ChipView)
    → Known (λ before after. after ≡ before ++ bytes) s.sent t.sent → t.faults ≡ s.faults
    → b.faults ≡ a.faults → b.banks ≡ banks_after on
    → Goes (line_steps on prints bytes) Done (world files s a) (world files t b)
instr_done on true bytes files s t a b known l m left =
    print_done on bytes files s t a b known l m left
instr_done on false bytes files s t a b known l m left =
    line_done on bytes files s t a b m left known l

-- a print has no event, and where the chip was read for it the banks stand as they were
print_is_quiet : (m : Machine) (instr : Instruction) → is_print instr ≡ true
    → events_by m (Alone instr) ≡ []
print_is_quiet m (instruction.Print name) is =
    if_same (refusal (geometry_of m) (operations_by m) (table_in m) (instruction.Print name)) []
print_is_quiet m (instruction.Init name count n) is = absurd (cc)
print_is_quiet m (instruction.Bbop op dst srcs count n) is = absurd (cc)
print_is_quiet m (instruction.Load name values) is = absurd (cc)
print_is_quiet m (instruction.Fill name value) is = absurd (cc)
print_is_quiet m (instruction.Free name) is = absurd (cc)
print_is_quiet m (instruction.Order order) is = absurd (cc)

-- what stands where its line was not put
told_so : (m : Machine) (instr : Instruction) (n : ℕ) (a b : ChipView) (prints : Bool)
    → is_print instr ≡ prints
    → (is_print instr ≡ false → DidAndRead (events_by m (Alone instr)) n a b)
    → (is_print instr ≡ true → DidReadAtMost n a b)
    → (b.faults ≡ a.faults) × (b.banks ≡ after (events_by m (Alone instr)) a.banks)
told_so m instr n a b false is did read = let d = did is in (d.faults, d.banks)
told_so m instr n a b true is did read =
    let r = read is in (
      r.did.faults,
      r.did.banks ∙ ap (λ (es : List Event). after es a.banks) (sym (print_is_quiet m instr is)),
    )

pub untold : (m : Machine) (instr : Instruction) (n : ℕ) (a b : ChipView)
    → (is_print instr ≡ false → DidAndRead (events_by m (Alone instr)) n a b)
    → (is_print instr ≡ true → DidReadAtMost n a b)
    → (b.faults ≡ a.faults) × (b.banks ≡ after (events_by m (Alone instr)) a.banks)
untold m instr n a b did read = told_so m instr n a b (is_print instr) refl did read

-- what is known where an instruction was not done
pub record Failed (on : ChipUse) (fault : StepFault) (prints : Bool) (bytes : List ℕ)
    (s t : SinkView) (a b : ChipView) : Type 0 where
  pub sink : s.faults ≤ t.faults
  pub chip : a.faults ≤ b.faults
  pub chip_rose : fault ≡ step_fault.ChipFault → Rose a.faults b.faults
  pub unfailed : fault ≡ step_fault.WriteFault
      → (b.faults ≡ a.faults) × (b.banks ≡ banks_after on)
  pub left : fault ≡ step_fault.ChipFault → IsLeftBy on b.banks
  pub unsent : fault ≡ step_fault.ChipFault → prints ≡ false → t ≡ s
  pub sink_rose : fault ≡ step_fault.WriteFault → Rose s.faults t.faults
  pub part : fault ≡ step_fault.WriteFault → Known (AppendsPart bytes) s.sent t.sent
  pub cut : prints ≡ true → Known (AppendsPart bytes) s.sent t.sent

pub instr_failed : (on : ChipUse) (fault : StepFault) (prints : Bool) (bytes : List ℕ)
    (files : FolderView) (s t : SinkView) (a b : ChipView) → Failed on fault prints bytes s t a b
    → Goes (line_steps on prints bytes) (Stopped (fault_reason fault)) (world files s a)
    (world files t b)
instr_failed on step_fault.ChipFault true bytes files s t a b f =
    print_unread on bytes files s t a b (f.cut refl) f.sink f.chip (f.chip_rose refl) (f.left refl)
instr_failed on step_fault.WriteFault true bytes files s t a b f =
    print_unput on bytes files s t a b (f.cut refl) f.sink (f.unfailed refl).0 (f.unfailed refl).1
    (f.sink_rose refl)
instr_failed on step_fault.ChipFault false bytes files s t a b f =
    unused on (Put bytes ∷ []) files s t a b f.chip (f.chip_rose refl) (f.left refl)
    (f.unsent refl refl)
instr_failed on step_fault.WriteFault false bytes files s t a b f =
    line_unput on bytes files s t a b (f.unfailed refl).0 (f.unfailed refl).1 (f.part refl) f.sink
    (f.sink_rose refl)

-- a wave's lines
abbrev answers_of : Geometry → Routines → List Named → List Instruction → List Said
answers_of g o table wave = map Answered (map (reply_to g o table) wave)

wave_said : (g : Geometry) (o : Routines) (table : List Named) (banks : Banks)
    (wave : List Instruction) → AreBbops wave
    → said_in_rows g o table banks wave ≡ answers_of g o table wave
wave_said g o table banks wave bbops =
    let w = waves_are_answered g o table wave bbops in
    w.said banks ∙ ap (map Answered) w.answers

answers_sent : (on : ChipWave) (g : Geometry) (o : Routines) (table : List Named) (number : ℕ)
    (wave : List Instruction) (files : FolderView) (s t : SinkView) (a b : ChipView)
    → 0 < length wave
    → Known (λ before after. after ≡ before ++ lines number (answers_of g o table wave)) s.sent
    t.sent → t.faults ≡ s.faults → b.faults ≡ a.faults → b.banks ≡ after on.events on.banks
    → Goes (UseFor on ∷ put_lines number (answers_of g o table wave)) Done (world files s a)
    (world files t b)
answers_sent on g o table number [] files s t a b some known l m left = absurd (omega (arith, some))
answers_sent on g o table number (instr ∷ wave) files s t a b some known l m left =
    wave_done on number (Answered (reply_to g o table instr)) (answers_of g o table wave) files s t
    a b m left known l

pub wave_sent : (g : Geometry) (o : Routines) (turn : Turn) (table : List Named) (banks : Banks)
    (number : ℕ) (wave : List Instruction) (files : FolderView) (s t : SinkView) (a b : ChipView)
    → AreBbops wave → 0 < length wave
    → Known (λ before after. after ≡ before ++ lines number (answers_of g o table wave)) s.sent
    t.sent → t.faults ≡ s.faults → b.faults ≡ a.faults
    → b.banks ≡ after (piece_events g o turn table (Wave wave)) banks
    → Goes (piece_steps g o turn table banks number (Wave wave)) Done (world files s a)
    (world files t b)
wave_sent g o turn table banks number wave files s t a b bbops some known l m left =
    rw (wave_said g o table banks wave bbops)
    (answers_sent (wave_on g o turn table banks wave) g o table number wave files s t a b some known
    l m left)

-- what is known where a wave was not done
pub record WaveFailed (fault : StepFault) (wave : ChipWave) (bytes : List ℕ) (s t : SinkView)
    (a b : ChipView) : Type 0 where
  pub sink : s.faults ≤ t.faults
  pub chip : a.faults ≤ b.faults
  pub chip_rose : fault ≡ step_fault.ChipFault → Rose a.faults b.faults
  pub unfailed : fault ≡ step_fault.WriteFault
      → (b.faults ≡ a.faults) × (b.banks ≡ after wave.events wave.banks)
  pub stopped : fault ≡ step_fault.ChipFault → StoppedIn wave b.banks
  pub unsent : fault ≡ step_fault.ChipFault → t ≡ s
  pub sink_rose : fault ≡ step_fault.WriteFault → Rose s.faults t.faults
  pub part : fault ≡ step_fault.WriteFault → Known (AppendsPart bytes) s.sent t.sent

answers_cut : (fault : StepFault) (on : ChipWave) (g : Geometry) (o : Routines)
    (table : List Named) (number : ℕ) (wave : List Instruction) (files : FolderView)
    (s t : SinkView) (a b : ChipView)
    → 0 < length wave
    → WaveFailed fault on (lines number (answers_of g o table wave)) s t a b
    → Goes (UseFor on ∷ put_lines number (answers_of g o table wave)) (Stopped (fault_reason fault))
    (world files s a) (world files t b)
answers_cut fault on g o table number [] files s t a b some f = absurd (omega (arith, some))
answers_cut step_fault.ChipFault on g o table number (instr ∷ wave) files s t a b some f =
    unwaved on (put_lines number (answers_of g o table (instr ∷ wave))) files s t a b f.chip
    (f.chip_rose refl) (f.stopped refl) (f.unsent refl)
answers_cut step_fault.WriteFault on g o table number (instr ∷ wave) files s t a b some f =
    wave_unput on number (Answered (reply_to g o table instr)) (answers_of g o table wave) files s t a
    b (f.unfailed refl).0 (f.unfailed refl).1 (f.part refl) f.sink (f.sink_rose refl)

pub wave_failed : (fault : StepFault) (g : Geometry) (o : Routines) (turn : Turn)
    (table : List Named) (banks : Banks) (number : ℕ) (wave : List Instruction)
    (files : FolderView) (s t : SinkView)
    (a b : ChipView) → AreBbops wave → 0 < length wave
    → WaveFailed fault (wave_on g o turn table banks wave)
    (lines number (answers_of g o table wave)) s t a b
    → Goes (piece_steps g o turn table banks number (Wave wave)) (Stopped (fault_reason fault))
    (world files s a) (world files t b)
wave_failed fault g o turn table banks number wave files s t a b bbops some f =
    rw (wave_said g o table banks wave bbops)
    (answers_cut fault (wave_on g o turn table banks wave) g o table number wave files s t a b some
    f)

-- a wave reads no row
pub wave_did : (g : Geometry) (o : Routines) (table : List Named) (wave : List Instruction)
    (events : List Event) (a b : ChipView) → AreBbops wave → Did events a b
    → DidAndRead events (sum_done rows_printed g o table wave) a b
wave_did g o table wave events a b bbops did =
    rw (waves_are_answered g o table wave bbops).printed (record {
      banks = did.banks;
      counters = did.counters ∙ nothing_more (all_counted events a.counters);
      faults = did.faults;
      log = did.log;
    }) where
      nothing_more : (k : Counters) → k ≡ with_reads 0 k
      nothing_more k = let e : k.reads ≡ k.reads + 0 = omega arith in rw (← e) refl
