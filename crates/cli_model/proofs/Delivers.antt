-- What a plan delivers.
use Rattle.cli_model.proofs.Common.{◌≡◌, ℕ, List, ◌++◌, Some, Ok, ChipView, Files}
use Rattle.cli_model.specs.Stands.{files_after, sent_by}
use Rattle.cli_model.specs.Plan.{Plan, Loads, Makes, Then, Answers, Refuses}

-- What a plan delivers that is done with an answer, where so much was sent before it: what it read
-- of the files and what it made of it, the files after, all that was sent, the chip and the status
abbrev pub Delivers : Plan → (before after : Files) (sent said : List ℕ) → ChipView → ℕ → Type 0
Delivers (Loads {A} name limit read rest) before after sent said chip status =
    (text : List ℕ) × (before name ≡ Some text) × (value : A) × (read text ≡ Ok value)
    × Delivers (rest text value) before after sent said chip status
Delivers (Makes {A} P rest) before after sent said chip status =
    (value : A) × P value × Delivers (rest value) before after sent said chip status
Delivers (Then steps rest) before after sent said chip status =
    Delivers rest (files_after steps before) after (sent ++ sent_by steps) said chip status
Delivers (Answers own left) before after sent said chip status =
    (after ≡ before) × (said ≡ sent) × (status ≡ own) × left chip
Delivers (Refuses refusal left) before after sent said chip status = ⊥
