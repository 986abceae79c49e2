-- Lines that are sent, and a chip that is used.
use Rattle.guard_job.proofs.Common.{◌≡◌, ℕ, ◌≤◌, Bool, true, false, List, [], ◌∷◌, ◌++◌, refl, sym}
use Rattle.guard_job.proofs.Common.{subst, inl, inr, Err, FolderView, SinkView, Banks, Event}
use Rattle.guard_job.proofs.Common.{ChipView, StoppedWithin, StepFault, World, world, ChipUse}
use Rattle.guard_job.proofs.Common.{doing, Step, Goes, Done, Stopped, ChipFailed, End, and_reading}
use Rattle.guard_job.proofs.Common.{arith, line_steps}
use Rattle.host_edge.specs.Views.{Known, AppendsPart}
use Rattle.faults.specs.Counts.{Rose}
use Rattle.cli_model.specs.Waves.{IsLeftBy, banks_after}
use Rattle.cli_model.proofs.Going.{stops}
use Rattle.cli_model.specs.Steps.{Use, Put, Used, Sent, Printed, PutFailed, PrintFailed, UseFailed}
use Rattle.cli_model.specs.Steps.{StepDone}
use Rattle.guard_job.specs.Steps.{end_by}
use Rattle.object_steps.specs.declared.fault.StepFault.TheVariants as step_fault

used : (banks : Banks) (files : FolderView) (s : SinkView) (a b : ChipView)
    → b.faults ≡ a.faults → b.banks ≡ banks → Used banks (world files s a) (world files s b)
used banks files s a b e left = record { files = refl; sink = refl; chip = e; left = left }

-- the use of it failed
broke : (files : FolderView) (s : SinkView) (a b : ChipView) → a.faults ≤ b.faults
    → UseFailed (world files s a) (world files s b)
broke files s a b l = record { files = refl; sink = refl; chip = l }

sent : (R : List ℕ → List ℕ → Type 0) (files : FolderView) (s t : SinkView) (chip : ChipView)
    → Known R s.sent t.sent → s.faults ≤ t.faults → Sent R (world files s chip) (world files t chip)
sent R files s t chip known l = record { files = refl; sent = known; faults = l; chip = refl }

-- to its end
put : (bytes : List ℕ) (files : FolderView) (s t : SinkView) (chip : ChipView)
    → Known (λ before after. after ≡ before ++ bytes) s.sent t.sent → t.faults ≡ s.faults
    → StepDone (Put bytes) (world files s chip) (world files t chip)
put bytes files s t chip known e = (sent _ files s t chip known (omega (arith, e)), e)

printed : (R : List ℕ → List ℕ → Type 0) (banks : Banks) (files : FolderView) (s t : SinkView)
    (a b : ChipView) → Known R s.sent t.sent → s.faults ≤ t.faults → b.faults ≡ a.faults
    → b.banks ≡ banks → Printed R banks (world files s a) (world files t b)
printed R banks files s t a b known l e left =
    record { files = refl; sent = known; faults = l; chip = e; left = left }

half_printed : (bytes : List ℕ) (files : FolderView) (s t : SinkView) (a b : ChipView)
    → Known (AppendsPart bytes) s.sent t.sent → s.faults ≤ t.faults → a.faults ≤ b.faults
    → PrintFailed bytes (world files s a) (world files t b)
half_printed bytes files s t a b known l m =
    record { files = refl; sent = known; faults = l; chip = m }

-- the chip was used, and other steps go on
pub and_then : (on : ChipUse) (steps : List Step) (end : End) (files : FolderView)
    (s t : SinkView) (a b c : ChipView) → b.faults ≡ a.faults → b.banks ≡ banks_after on
    → Goes steps end (world files s b) (world files t c)
    → Goes (Use on ∷ steps) end (world files s a) (world files t c)
and_then on steps end files s t a b c e left go =
    inl (world files s b, (used _ files s a b e left, go))

-- the chip failed
pub unused : (on : ChipUse) (steps : List Step) (files : FolderView) (s : SinkView)
    (a b : ChipView) → a.faults ≤ b.faults → Rose a.faults b.faults → IsLeftBy on b.banks
    → Goes (Use on ∷ steps) (Stopped ChipFailed) (world files s a) (world files s b)
unused on steps files s a b l rose left = inr (refl, broke files s a b l, rose, left)

-- what stands then, as the steps say it
pub left_by : (reads : ℕ) (events : List Event) (now old new : Banks) → old ≡ now
    → StoppedWithin reads events old new → IsLeftBy (and_reading reads (doing now events)) new
left_by reads events now old new e s =
    subst (λ (banks : Banks). StoppedWithin reads events banks new) e s

-- one instruction's line
pub line_done : (on : ChipUse) (prints : Bool) (bytes : List ℕ) (files : FolderView)
    (s t : SinkView) (a b : ChipView)
    → Known (λ before after. after ≡ before ++ bytes) s.sent t.sent
    → t.faults ≡ s.faults → b.faults ≡ a.faults → b.banks ≡ banks_after on
    → Goes (line_steps on prints bytes) Done (world files s a) (world files t b)
line_done on true bytes files s t a b known k e left =
    inl (
      world files t b,
      ((printed _ _ files s t a b known (omega (arith, k)) e left, k), refl),
    )
line_done on false bytes files s t a b known k e left =
    inl (
      world files s b,
      (
        used _ files s a b e left,
        inl (world files t b, (put bytes files s t b known k, refl)),
      ),
    )

-- what is known where an instruction was not done
pub record Failed (on : ChipUse) (fault : StepFault) (prints : Bool) (bytes : List ℕ)
    (s t : SinkView) (a b : ChipView) : Type 0 where
  pub sink : s.faults ≤ t.faults
  pub chip : a.faults ≤ b.faults
  pub chip_rose : fault ≡ step_fault.ChipFault → Rose a.faults b.faults
  pub unfailed : fault ≡ step_fault.WriteFault
      → (b.faults ≡ a.faults) × (b.banks ≡ banks_after on)
  pub left : fault ≡ step_fault.ChipFault → IsLeftBy on b.banks
  pub unsent : fault ≡ step_fault.ChipFault → prints ≡ false → t ≡ s
  pub sink_rose : fault ≡ step_fault.WriteFault → Rose s.faults t.faults
  pub part : Known (AppendsPart bytes) s.sent t.sent

pub line_failed : (X : Type 0) (on : ChipUse) (fault : StepFault) (prints : Bool)
    (bytes : List ℕ) (files : FolderView) (s t : SinkView) (a b : ChipView)
    → Failed on fault prints bytes s t a b
    → Goes (line_steps on prints bytes) (end_by {X = X} (Err fault)) (world files s a)
    (world files t b)
line_failed X on step_fault.ChipFault true bytes files s t a b f =
    inr (inr (
      refl,
      half_printed bytes files s t a b f.part f.sink f.chip,
      f.chip_rose refl,
      f.left refl,
    ))
line_failed X on step_fault.WriteFault true bytes files s t a b f =
    inr (inl (
      refl,
      printed (AppendsPart bytes) _ files s t a b f.part f.sink (f.unfailed refl).0
          (f.unfailed refl).1,
      f.sink_rose refl,
    ))
line_failed X on step_fault.ChipFault false bytes files s t a b f =
    subst (λ (x : SinkView). Goes (Use on ∷ Put bytes ∷ []) (Stopped ChipFailed) (world files s a)
    (world files x b)) (sym (f.unsent refl refl))
    (unused on (Put bytes ∷ []) files s a b f.chip (f.chip_rose refl) (f.left refl))
line_failed X on step_fault.WriteFault false bytes files s t a b f =
    inl (
      world files s b,
      (
        used _ files s a b (f.unfailed refl).0 (f.unfailed refl).1,
        inr (refl, sent (AppendsPart bytes) files s t b f.part f.sink, f.sink_rose refl),
      ),
    )

-- steps that stopped, whatever comes after them
pub stops_by : (X : Type 0) (fault : StepFault) (xs ys : List Step) (a b : World)
    → Goes xs (end_by {X = X} (Err fault)) a b → Goes (xs ++ ys) (end_by {X = X} (Err fault)) a b
stops_by X step_fault.ChipFault xs ys a b g = stops xs ys ChipFailed a b g
stops_by X step_fault.WriteFault xs ys a b g = stops xs ys PutFailed a b g
