-- How a file is loaded and read, whatever the sink and the chip show meanwhile.
use Rattle.std.specs.Prelude.{◌≡◌, ℕ, List, Option, Some, None, Result, Ok, Err, IfSome}
use Rattle.dram_model.specs.View.{ChipView}
use Rattle.host_edge.specs.Views.{Files, FolderView, SinkView}
use Rattle.cli_model.specs.World.{world}
use Rattle.cli_model.specs.Steps.{Refusal, Reason, Loaded, LoadFails}

-- why a text is refused, if it is
abbrev pub refusal_of : {A : Type 0} → Result A Refusal → Option Refusal
refusal_of (Ok x) = None
refusal_of (Err refusal) = Some refusal

-- the text of the file, where it is known and is there
abbrev pub IsText : Option Files → List ℕ → List ℕ → Type 0
IsText holds name text = IfSome holds (λ files. IfSome (files name) (λ bytes. bytes ≡ text))

-- the file was loaded, with this text
abbrev pub LoadedAs : (name : List ℕ) (limit : ℕ) (text : List ℕ) → FolderView → FolderView → Type 0
LoadedAs name limit text old new = (sink : SinkView) (chip : ChipView)
    → Loaded name limit text (world old sink chip) (world new sink chip)

-- the file was not loaded
abbrev pub NotLoaded : (name : List ℕ) (limit : ℕ) → Reason → FolderView → FolderView → Type 0
NotLoaded name limit reason old new =
    (text : List ℕ) (refusal : Option Refusal) (sink : SinkView) (chip : ChipView)
    → LoadFails name limit text refusal reason (world old sink chip) (world new sink chip)

-- the file was loaded, and its text is read as this value
pub record ReadAs {A : Type 0} (read : List ℕ
    → Result A Refusal) (name : List ℕ) (limit : ℕ) (value : A) (old new : FolderView) : Type 0
  where
    pub text : List ℕ
    pub value_is : read text ≡ Ok value
    pub loaded : LoadedAs name limit text old new

-- the file was not loaded, or its text is refused, or there was no memory to read it
pub record NotRead {A : Type 0} (read : List ℕ
    → Result A Refusal) (name : List ℕ) (limit : ℕ) (reason : Reason) (old new : FolderView) : Type
    0 where
  pub text : List ℕ
  pub is_text : IsText old.holds name text
  pub fails : (sink : SinkView) (chip : ChipView)
      → LoadFails name limit text (refusal_of (read text))
      reason (world old sink chip) (world new sink chip)
