-- The files foretell how a command ends.
use Rattle.cli_model.proofs.Common.{◌≡◌, ◌⊎◌, ℕ, List, [], ◌∷◌, length, Option, Some, None, refl}
use Rattle.cli_model.proofs.Common.{sym, ◌∙◌, ap, subst, inl, inr, IfSome, le-ltb, Files, Known}
use Rattle.std.proofs.Common.{◌<◌}
use Rattle.std.proofs.lemmas.Bool.{lt-ltb}
use Rattle.cli_model.specs.World.{World, with_file}
use Rattle.cli_model.specs.Steps.{Step, Load, Take, Store, Open, Use, UseFor, Put, Print, Refusal}
use Rattle.cli_model.specs.Steps.{Reason, CannotRead, TooLong, Refused, NoMemory, CannotWrite}
use Rattle.cli_model.specs.Steps.{PutFailed, ChipFailed, End, Done, Stopped, Goes, FailsBy}
use Rattle.cli_model.specs.Steps.{LoadFails, Loaded}
use Rattle.cli_model.specs.Foreseen.{refused_or, load_end, foreseen}
use Rattle.cli_model.specs.Ends.{IsFault}

-- a command ends as its files foretell, or by a fault
abbrev pub Decided : List Step → End → Files → Type 0
Decided steps end files = (end ≡ foreseen steps files)
    ⊎ ((reason : Reason) × (end ≡ Stopped reason) × IsFault reason)

abbrev pub HasHeld : Option Files → List ℕ → List ℕ → Type 0
HasHeld holds name text = IfSome holds (λ files. files name ≡ Some text)

-- a file that is known has the bytes that it was loaded with
pub bytes_at : (holds : Option Files) (files : Files) (name text : List ℕ) → holds ≡ Some files
    → HasHeld holds name text → files name ≡ Some text
bytes_at None files name text e p = absurd (cc)
bytes_at (Some held) files name text e p = let same : held ≡ files = cc in
    subst (λ (f : Files). f name ≡ Some text) same p

abbrev HasLonger : Option Files → ℕ → List ℕ → Type 0
HasLonger holds limit name = IfSome holds (λ files. (bytes : List ℕ) × (files name ≡ Some bytes)
    × (limit < length bytes))

longer_at : (holds : Option Files) (files : Files) (limit : ℕ) (name : List ℕ) → holds ≡ Some files
    → HasLonger holds limit name → (bytes : List ℕ) × (files name ≡ Some bytes)
    × (limit < length bytes)
longer_at None files limit name e p = absurd (cc)
longer_at (Some held) files limit name e p = let same : held ≡ files = cc in
    subst (λ (f : Files). (bytes : List ℕ) × (f name ≡ Some bytes) × (limit < length bytes)) same p

-- a file that was loaded is there, and is not too long
loaded_end : (name : List ℕ) (limit : ℕ) (text : List ℕ) (refusal : Option Refusal) (rest : End)
    (a b : World) (files : Files) → Loaded name limit text a b → a.files.holds ≡ Some files
    → load_end name limit refusal (files name) rest ≡ refused_or refusal rest
loaded_end name limit text refusal rest a b files l e =
    let there = bytes_at a.files.holds files name text e l.bytes in
    rw (there, le-ltb limit (length text) l.within) refl

longer_end : (name : List ℕ) (limit : ℕ) (refusal : Option Refusal) (rest : End) (files : Files)
    → (bytes : List ℕ) × (files name ≡ Some bytes) × (limit < length bytes)
    → load_end name limit refusal (files name) rest ≡ Stopped (TooLong name)
longer_end name limit refusal rest files (bytes, there, longer) =
    rw (there, lt-ltb limit (length bytes) longer) refl

decided_by : (steps others : List Step) (end : End) (files files2 : Files)
    → foreseen others files2 ≡ foreseen steps files → Decided others end files2
    → Decided steps end files
decided_by steps others end files files2 e (inl is) = inl (is ∙ e)
decided_by steps others end files files2 e (inr fault) = inr fault

load_fails : (name : List ℕ) (limit : ℕ) (text : List ℕ) (refusal : Option Refusal)
    (steps : List Step) (reason : Reason) (a b : World) (files : Files)
    → LoadFails name limit text refusal reason a b → a.files.holds ≡ Some files
    → Decided (Load name limit text refusal ∷ steps) (Stopped reason) files
load_fails name limit text refusal steps (CannotRead said) a b files f e =
    inr (CannotRead said, refl, tt)
load_fails name limit text refusal steps (TooLong said) a b files f e =
    inl (sym (longer_end name limit refusal (foreseen steps files) files
    (longer_at a.files.holds files limit name e f.3) ∙ ap (λ n. Stopped (TooLong n)) (sym f.0)))
load_fails name limit text refusal steps (Refused r) a b files f e =
    inl (sym (loaded_end name limit text refusal (foreseen steps files) a b files f.1 e
    ∙ rw f.0 refl))
load_fails name limit text refusal steps NoMemory a b files f e = inr (NoMemory, refl, tt)
load_fails name limit text refusal steps (CannotWrite said) a b files f e = elim f [ ]
load_fails name limit text refusal steps PutFailed a b files f e = elim f [ ]
load_fails name limit text refusal steps ChipFailed a b files f e = elim f [ ]

fault_of : (reason fault : Reason) → reason ≡ fault → IsFault fault → IsFault reason
fault_of reason fault e is = subst IsFault (sym e) is

-- how a step that fails decides
step_fails : (step : Step) (steps : List Step) (end : End) (a b : World) (files : Files)
    → FailsBy step end a b → a.files.holds ≡ Some files → Decided (step ∷ steps) end files
step_fails step steps Done a b files f e = elim f [ ]
step_fails (Load name limit text refusal) steps (Stopped reason) a b files f e =
    load_fails name limit text refusal steps reason a b files f e
step_fails Take steps (Stopped reason) a b files f e =
    inr (reason, refl, fault_of reason NoMemory f.0 tt)
step_fails (Store name bytes) steps (Stopped reason) a b files f e =
    inr (reason, refl, fault_of reason (CannotWrite name) f.0 tt)
step_fails (Open on) steps (Stopped reason) a b files (inl f) e =
    inr (reason, refl, fault_of reason NoMemory f.0 tt)
step_fails (Open on) steps (Stopped reason) a b files (inr f) e =
    inr (reason, refl, fault_of reason ChipFailed f.0 tt)
step_fails (Use on) steps (Stopped reason) a b files f e =
    inr (reason, refl, fault_of reason ChipFailed f.0 tt)
step_fails (UseFor wave) steps (Stopped reason) a b files f e =
    inr (reason, refl, fault_of reason ChipFailed f.0 tt)
step_fails (Put bytes) steps (Stopped reason) a b files f e =
    inr (reason, refl, fault_of reason PutFailed f.0 tt)
step_fails (Print on bytes) steps (Stopped reason) a b files (inl f) e =
    inr (reason, refl, fault_of reason PutFailed f.0 tt)
step_fails (Print on bytes) steps (Stopped reason) a b files (inr f) e =
    inr (reason, refl, fault_of reason ChipFailed f.0 tt)

-- what is known before is known afterwards
pub known_new : (R : Files → Files → Type 0) (old new : Option Files) (files : Files)
    → Known R old new → old ≡ Some files → (after : Files) × (new ≡ Some after) × R files after
known_new R None new files t e = absurd (cc)
known_new R (Some before) None files t e = absurd t
known_new R (Some before) (Some after) files t e = let same : before ≡ files = cc in
    (after, refl, subst (λ (f : Files). R f after) same t)

pub files_decide : (steps : List Step) (end : End) (old new : World) (files : Files)
    → Goes steps end old new → old.files.holds ≡ Some files → Decided steps end files
files_decide [] Done a b files g e = inl refl
files_decide [] (Stopped reason) a b files g e = elim g [ ]
files_decide (step ∷ steps) end a b files (inr f) e = step_fails step steps end a b files f e
files_decide (Load name limit text refusal ∷ steps) end a b files (inl (mid, ((none, loaded), g)))
    e =
    let rest = files_decide steps end mid b files g (loaded.reads.files ∙ e) in
    decided_by (Load name limit text refusal ∷ steps) steps end files files
    (sym (loaded_end name limit text refusal (foreseen steps files) a mid files loaded e
    ∙ rw none refl)) rest
files_decide (Take ∷ steps) end a b files (inl (mid, (d, g))) e =
    decided_by (Take ∷ steps) steps end files files refl
    (files_decide steps end mid b files g (ap (λ (w : World). w.files.holds) d ∙ e))
files_decide (Store name bytes ∷ steps) end a b files (inl (mid, (d, g))) e =
    let next = known_new (λ before after. after ≡ with_file name bytes before) a.files.holds
    mid.files.holds files d.files e in
    decided_by (Store name bytes ∷ steps) steps end files next.0 (ap (foreseen steps) next.2)
    (files_decide steps end mid b next.0 g next.1)
files_decide (Open on ∷ steps) end a b files (inl (mid, (d, g))) e =
    decided_by (Open on ∷ steps) steps end files files refl
    (files_decide steps end mid b files g (ap (λ f. f.holds) d.files ∙ e))
files_decide (Use on ∷ steps) end a b files (inl (mid, (d, g))) e =
    decided_by (Use on ∷ steps) steps end files files refl
    (files_decide steps end mid b files g (ap (λ f. f.holds) d.files ∙ e))
files_decide (UseFor wave ∷ steps) end a b files (inl (mid, (d, g))) e =
    decided_by (UseFor wave ∷ steps) steps end files files refl
    (files_decide steps end mid b files g (ap (λ f. f.holds) d.files ∙ e))
files_decide (Put bytes ∷ steps) end a b files (inl (mid, (d, g))) e =
    decided_by (Put bytes ∷ steps) steps end files files refl
    (files_decide steps end mid b files g (ap (λ f. f.holds) d.0.files ∙ e))
files_decide (Print on bytes ∷ steps) end a b files (inl (mid, (d, g))) e =
    decided_by (Print on bytes ∷ steps) steps end files files refl
    (files_decide steps end mid b files g (ap (λ f. f.holds) d.0.files ∙ e))
