-- What a plan owes: which statuses come, which files are good, and where memory is taken.
use Rattle.cli_model.proofs.Common.{◌≡◌, ◌⊎◌, ◌≤◌, ℕ, List, [], ◌∷◌, length, Option, Some, None, Ok}
use Rattle.cli_model.proofs.Common.{Err, IfErr, Files}
use Rattle.cli_model.specs.Steps.{Step, Load, Take, Store, Open, Use, UseFor, Put, Print, Refusal}
use Rattle.cli_model.specs.Stands.{files_after}
use Rattle.cli_model.specs.Plan.{Plan, Loads, Makes, Then, Answers, Refuses}
use Rattle.cli_model.specs.Faultless.{file_in}
use Rattle.cli_model.proofs.Statuses.{OfRefusal, OfSteps}

-- the statuses of its steps that fail and of its refusals are F's, and those of its answers D's
abbrev pub Gives : (F D : ℕ → Type 0) → Plan → Type 0
Gives F D (Loads {A} name limit read rest) = F 2 × F 11 × F 10
    × ((text : List ℕ) → IfErr (read text) (λ refusal. F refusal.status))
    × ((text : List ℕ) (value : A) → Gives F D (rest text value))
Gives F D (Makes {A} P rest) = (value : A) → Gives F D (rest value)
Gives F D (Then steps rest) = OfSteps F steps × Gives F D rest
Gives F D (Answers status left) = D status
Gives F D (Refuses refusal left) = F refusal.status

-- the files after the stores of these steps, in a folder that tells its files
abbrev pub files_then : List Step → Option Files → Option Files
files_then steps None = None
files_then steps (Some files) = Some (files_after steps files)

-- Each file is there, is not longer than its limit, and is accepted or refused with a status of P;
-- and so is each end
abbrev pub GoodFor : (ℕ → Type 0) → Plan → Option Files → Type 0
GoodFor P (Loads {A} name limit read rest) holds =
    (text : List ℕ) × (file_in holds name ≡ Some text) × (length text ≤ limit)
    × (((value : A) × (read text ≡ Ok value) × GoodFor P (rest text value) holds)
    ⊎ ((refusal : Refusal) × (read text ≡ Err refusal) × P refusal.status))
GoodFor P (Makes {A} Q rest) holds = (value : A) → Q value → GoodFor P (rest value) holds
GoodFor P (Then steps rest) holds =
    OfSteps (λ s. s ≡ 2 → ⊥) steps × GoodFor P rest (files_then steps holds)
GoodFor P (Answers status left) holds = P status
GoodFor P (Refuses refusal left) holds = P refusal.status

-- any status but that of a command out of memory
abbrev pub NotTen : ℕ → Type 0
NotTen s = s ≡ 10 → ⊥

-- no step takes memory, and nothing is refused or answered with its status
abbrev pub TakesNone : Plan → Type 0
TakesNone plan = Gives NotTen NotTen plan

-- memory is taken before anything is sent and before the chip has begun; and before it is, no file
-- but this one is stored
abbrev pub FirstThen : Option (List ℕ) → List Step → (first none : Type 0) → Type 0
FirstThen but [] first none = first
FirstThen but (Load name limit text refusal ∷ steps) first none =
    OfRefusal NotTen refusal × FirstThen but steps first none
FirstThen but (Take ∷ steps) first none = FirstThen but steps first none
FirstThen but (Store name bytes ∷ steps) first none =
    ((but ≡ Some name) × FirstThen but steps first none) ⊎ (OfSteps NotTen steps × none)
FirstThen but (Open on ∷ steps) first none = OfSteps NotTen steps × none
FirstThen but (Use on ∷ steps) first none = OfSteps NotTen steps × none
FirstThen but (UseFor wave ∷ steps) first none = OfSteps NotTen steps × none
FirstThen but (Put bytes ∷ steps) first none = OfSteps NotTen steps × none
FirstThen but (Print on bytes ∷ steps) first none = OfSteps NotTen steps × none

-- a plan in which memory is taken first, but for the loads and the store of this file
abbrev pub TakesFirst : Option (List ℕ) → Plan → Type 0
TakesFirst but (Loads {A} name limit read rest) =
    ((text : List ℕ) → IfErr (read text) (λ refusal. NotTen refusal.status))
    × ((text : List ℕ) (value : A) → TakesFirst but (rest text value))
TakesFirst but (Makes {A} P rest) = (value : A) → TakesFirst but (rest value)
TakesFirst but (Then steps rest) = FirstThen but steps (TakesFirst but rest) (TakesNone rest)
TakesFirst but (Answers status left) = NotTen status
TakesFirst but (Refuses refusal left) = NotTen refusal.status
