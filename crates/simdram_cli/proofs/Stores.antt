-- Stores, and the steps at the end of a run.
use Rattle.simdram_cli.proofs.Common.{◌≡◌, ℕ, ◌≤◌, Bool, true, false, cond, List, [], ◌∷◌, ◌++◌}
use Rattle.simdram_cli.proofs.Common.{Option, Some, None, refl, ◌∙◌, ap, inl, inr, arith, bytes_eq}
use Rattle.simdram_cli.proofs.Common.{IfSome, Result, Ok, Err, fun_ext, bytes_eq-Decides, ChipView}
use Rattle.simdram_cli.proofs.Common.{Files, FolderView, SinkView, Known, Rose, AppendsPart}
use Rattle.simdram_cli.proofs.Common.{ChipUse, World, world, with_file, Take, Use, Store, Put}
use Rattle.simdram_cli.proofs.Common.{CannotWrite, PutFailed, Done, Stopped, Goes, Stored, Unstored}
use Rattle.std.specs.Prelude.{OnOk, OnErr, is_err}
use Rattle.host_edge.specs.Views.{NoCountFalls, KeepsOthers, HasBytes, Unfailed}
use Rattle.cli_model.specs.Steps.{Used, UseFailed, Sent, StepDone}
use Rattle.dram_model.specs.Chip.{Banks}
use Rattle.cli_model.specs.Waves.{banks_after}

different : (other name : List ℕ) → bytes_eq other name ≡ false → other ≡ name → ⊥
different other name e is = let same = (bytes_eq-Decides other name).1 is in cc

with_file_at : (name bytes : List ℕ) (before after : Files) (other : List ℕ) (same : Bool)
    → bytes_eq other name ≡ same → KeepsOthers name before after → after name ≡ Some bytes
    → after other ≡ cond same (Some bytes) (before other)
with_file_at name bytes before after other true e keeps there =
    ap after ((bytes_eq-Decides other name).0 e) ∙ there
with_file_at name bytes before after other false e keeps there =
    keeps other (λ is. absurd (different other name e is))

pub stored_is : (name bytes : List ℕ) (a b : Option Files) → Known (KeepsOthers name) a b
    → IfSome b (λ files. files name ≡ Some bytes)
    → Known (λ before after. after ≡ with_file name bytes before) a b
stored_is name bytes None b t h = tt
stored_is name bytes (Some before) None t h = absurd t
stored_is name bytes (Some before) (Some after) t h =
    fun_ext (λ other. with_file_at name bytes before after other (bytes_eq other name) refl t h)

pub stored : (name bytes : List ℕ) (old new : FolderView) (sink : SinkView) (chip : ChipView)
    → Known (KeepsOthers name) old.holds new.holds → HasBytes new name bytes → NoCountFalls old new
    → Unfailed old new → Stored name bytes (world old sink chip) (world new sink chip)
stored name bytes old new sink chip t h n u = record {
  files = stored_is name bytes old.holds new.holds t h;
  counts = n;
  unfailed = u;
  sink = refl;
  chip = refl;
}

pub unstored : (name : List ℕ) (old new : FolderView) (sink : SinkView) (chip : ChipView)
    → Known (KeepsOthers name) old.holds new.holds → Rose old.store_faults new.store_faults
    → NoCountFalls old new → Unstored name (world old sink chip) (world new sink chip)
unstored name old new sink chip t r n = record {
  others = t;
  counts = n;
  rose = r;
  sink = refl;
  chip = refl;
}

pub used : (banks : Banks) (files : FolderView) (sink : SinkView) (a b : ChipView)
    → b.faults ≡ a.faults → b.banks ≡ banks → Used banks (world files sink a) (world files sink b)
used banks files sink a b e left = record { files = refl; sink = refl; chip = e; left = left }

-- the use of the chip failed
pub use_broke : (files : FolderView) (sink : SinkView) (a b : ChipView) → a.faults ≤ b.faults
    → UseFailed (world files sink a) (world files sink b)
use_broke files sink a b l = record { files = refl; sink = refl; chip = l }

pub sent : (R : List ℕ → List ℕ → Type 0) (files : FolderView) (old new : SinkView)
    (chip : ChipView)
    → Known R old.sent new.sent → old.faults ≤ new.faults
    → Sent R (world files old chip) (world files new chip)
sent R files old new chip t l = record { files = refl; sent = t; faults = l; chip = refl }

-- to its end
pub put : (bytes : List ℕ) (files : FolderView) (old new : SinkView) (chip : ChipView)
    → Known (λ before after. after ≡ before ++ bytes) old.sent new.sent → new.faults ≡ old.faults
    → StepDone (Put bytes) (world files old chip) (world files new chip)
put bytes files old new chip t e = (sent _ files old new chip t (omega (arith, e)), e)

pub take_stored : (name bytes : List ℕ) (f g : FolderView) (s : SinkView) (k : ChipView)
    → Stored name bytes (world f s k) (world g s k)
    → Goes (Take ∷ Store name bytes ∷ []) Done (world f s k) (world g s k)
take_stored name bytes f g s k t = inl (
  world f s k,
  (refl, inl (world g s k, (t, refl))),
)

pub take_unstored : (name bytes : List ℕ) (f g : FolderView) (s : SinkView) (k : ChipView)
    → Unstored name (world f s k) (world g s k)
    → Goes (Take ∷ Store name bytes ∷ []) (Stopped (CannotWrite name)) (world f s k) (world g s k)
take_unstored name bytes f g s k t = inl (world f s k, (refl, inr (refl, t)))

pub line_done : (on : ChipUse) (bytes : List ℕ) (files : FolderView) (s t : SinkView)
    (a b : ChipView) → b.faults ≡ a.faults → b.banks ≡ banks_after on
    → Known (λ before after. after ≡ before ++ bytes) s.sent t.sent → t.faults ≡ s.faults
    → Goes (Use on ∷ Put bytes ∷ []) Done (world files s a) (world files t b)
line_done on bytes files s t a b e left p n = inl (
  world files s b,
  (used _ files s a b e left, inl (world files t b, (put bytes files s t b p n, refl))),
)

pub line_unput : (on : ChipUse) (bytes : List ℕ) (files : FolderView) (s t : SinkView)
    (a b : ChipView) → b.faults ≡ a.faults → b.banks ≡ banks_after on
    → Known (AppendsPart bytes) s.sent t.sent → s.faults ≤ t.faults → Rose s.faults t.faults
    → Goes (Use on ∷ Put bytes ∷ []) (Stopped PutFailed) (world files s a) (world files t b)
line_unput on bytes files s t a b e left p n r = inl (
  world files s b,
  (used _ files s a b e left, inr (refl, sent (AppendsPart bytes) files s t b p n, r)),
)

-- a clause at the answer that a test showed
pub at_ok : {T E P : Type 0} (r : Result T E) → is_err r ≡ false → OnOk r P → P
at_ok (Ok x) e p = p
at_ok (Err x) e p = absurd (cc)

pub at_err : {T E P : Type 0} (r : Result T E) → is_err r ≡ true → OnErr r P → P
at_err (Ok x) e p = absurd (cc)
at_err (Err x) e p = p
