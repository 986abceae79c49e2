-- The command `init`.
use Rattle.std.specs.Prelude.{◌≡◌, ◌≢◌, List, [], ◌∷◌, ℕ, Some}
use Rattle.host_edge.specs.Views.{Files, Known}
use Rattle.object_alloc.specs.Spelling.{image_bytes, blank_rows}
use Rattle.cli_model.specs.World.{World}
use Rattle.cli_model.specs.Steps.{Take, Store}
use Rattle.cli_model.specs.Plan.{Answers, Plan, Then}
use Rattle.simdram_cli.specs.declared.words.InitNames.{InitNames}

-- the file of an image without objects, whose rows are zeros
abbrev pub empty_image : InitNames → List ℕ
empty_image names = image_bytes names.geometry [] (blank_rows names.geometry)

-- it is stored as OUT
abbrev pub init_plan : InitNames → Plan
init_plan names = Then (Take ∷ [])
    (Then (Store names.out.now (empty_image names) ∷ []) (Answers 0 (λ chip. Unit {0})))

-- OUT is the empty image; all other files are as at entry, and nothing was sent
pub record Started (names : InitNames) (before after : Files) (old new : World) : Type 0 where
  pub is : after names.out.now ≡ Some (empty_image names)
  pub others : (other : List ℕ) → other ≢ names.out.now → after other ≡ before other
  pub sent : Known (λ x y. y ≡ x) old.sink.sent new.sink.sent
