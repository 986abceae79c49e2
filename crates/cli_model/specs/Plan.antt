-- A command as a plan: the files that it loads, one after another, each of which may decide what
-- follows; what it makes of them; its steps; and how it ends where all were done.
use Rattle.std.specs.Prelude.{◌≡◌, ◌⊎◌, ℕ, List, [], ◌∷◌, ◌++◌, Option, Some, None}
use Rattle.std.specs.Prelude.{Result, Ok, Err, IfSome}
use Rattle.std.proofs.Common.{inl, inr}
use Rattle.dram_model.specs.View.{ChipView}
use Rattle.host_edge.specs.Views.{Files}
use Rattle.cli_model.specs.Steps.{Step, Load, Refusal}
use Rattle.cli_model.specs.Stands.{files_after}

-- A command before its files are known: what it loads, makes and does, in order, down to its ends.
pub data Plan : Type 1 where
  -- the file of this name, of at most so many bytes, is loaded; its text and what it is read as go
  -- on, and a text that is refused ends the command
  Loads : {A : Type 0} → (name : List ℕ) (limit : ℕ) (read : List ℕ → Result A Refusal)
      → (List ℕ → A → Plan) → Plan
  -- a value that has this property is made
  Makes : {A : Type 0} → (A → Type 0) → (A → Plan) → Plan
  -- these steps are done
  Then : List Step → Plan → Plan
  -- it is done with this status, and leaves such a chip
  Answers : ℕ → (ChipView → Type 0) → Plan
  -- it is refused, which is told last, and leaves such a chip
  Refuses : Refusal → (ChipView → Type 0) → Plan

-- A way through a plan, as far as it was gone: the text of each file and what it was read as, and
-- each value that was made
abbrev pub Way : Plan → Type 0
Way (Loads {A} name limit read rest) = Unit {0} ⊎ ((text : List ℕ)
    × (((value : A) × (read text ≡ Ok value) × Way (rest text value))
    ⊎ ((refusal : Refusal) × (read text ≡ Err refusal))))
Way (Makes {A} P rest) = Unit {0} ⊎ ((value : A) × P value × Way (rest value))
Way (Then steps rest) = Way rest
Way (Answers status left) = Unit {0}
Way (Refuses refusal left) = Unit {0}

-- its steps
abbrev pub steps_of : (plan : Plan) → Way plan → List Step
steps_of (Loads name limit read rest) (inl cut) = []
steps_of (Loads name limit read rest) (inr (text, inl (value, is, way))) =
    Load name limit text None ∷ steps_of (rest text value) way
steps_of (Loads name limit read rest) (inr (text, inr (refusal, is))) =
    Load name limit text (Some refusal) ∷ []
steps_of (Makes P rest) (inl cut) = []
steps_of (Makes P rest) (inr (value, has, way)) = steps_of (rest value) way
steps_of (Then steps rest) way = steps ++ steps_of rest way
steps_of (Answers status left) way = []
steps_of (Refuses refusal left) way = []

-- the texts are those that the files have when they are loaded
abbrev pub AreTexts : (plan : Plan) → Way plan → Files → Type 0
AreTexts (Loads name limit read rest) (inl cut) files = Unit {0}
AreTexts (Loads name limit read rest) (inr (text, inl (value, is, way))) files =
    IfSome (files name) (λ bytes. bytes ≡ text) × AreTexts (rest text value) way files
AreTexts (Loads name limit read rest) (inr (text, inr (refusal, is))) files =
    IfSome (files name) (λ bytes. bytes ≡ text)
AreTexts (Makes P rest) (inl cut) files = Unit {0}
AreTexts (Makes P rest) (inr (value, has, way)) files = AreTexts (rest value) way files
AreTexts (Then steps rest) way files = AreTexts rest way (files_after steps files)
AreTexts (Answers status left) way files = Unit {0}
AreTexts (Refuses refusal left) way files = Unit {0}

-- why it is refused at its end, if it is
abbrev pub refused_last : (plan : Plan) → Way plan → Option Refusal
refused_last (Loads name limit read rest) (inl cut) = None
refused_last (Loads name limit read rest) (inr (text, inl (value, is, way))) =
    refused_last (rest text value) way
refused_last (Loads name limit read rest) (inr (text, inr (refusal, is))) = None
refused_last (Makes P rest) (inl cut) = None
refused_last (Makes P rest) (inr (value, has, way)) = refused_last (rest value) way
refused_last (Then steps rest) way = refused_last rest way
refused_last (Answers status left) way = None
refused_last (Refuses refusal left) way = Some refusal

-- the status at its end
abbrev pub last_status : (plan : Plan) → Way plan → ℕ
last_status (Loads name limit read rest) (inl cut) = 0
last_status (Loads name limit read rest) (inr (text, inl (value, is, way))) =
    last_status (rest text value) way
last_status (Loads name limit read rest) (inr (text, inr (refusal, is))) = 0
last_status (Makes P rest) (inl cut) = 0
last_status (Makes P rest) (inr (value, has, way)) = last_status (rest value) way
last_status (Then steps rest) way = last_status rest way
last_status (Answers status left) way = status
last_status (Refuses refusal left) way = refusal.status

-- the way leads to an end, which leaves this chip
abbrev pub Leaves : (plan : Plan) → Way plan → ChipView → Type 0
Leaves (Loads name limit read rest) (inl cut) chip = ⊥
Leaves (Loads name limit read rest) (inr (text, inl (value, is, way))) chip =
    Leaves (rest text value) way chip
Leaves (Loads name limit read rest) (inr (text, inr (refusal, is))) chip = ⊥
Leaves (Makes P rest) (inl cut) chip = ⊥
Leaves (Makes P rest) (inr (value, has, way)) chip = Leaves (rest value) way chip
Leaves (Then steps rest) way chip = Leaves rest way chip
Leaves (Answers status left) way chip = left chip
Leaves (Refuses refusal left) way chip = left chip
