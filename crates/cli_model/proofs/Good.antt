-- Where its files are good and nothing failed, a command is done, is refused as it may be, or is
-- out of memory.
use Rattle.cli_model.proofs.Common.{◌≡◌, ◌⊎◌, ◌≤◌, ℕ, List, [], ◌∷◌, ◌++◌, length, Option, Some}
use Rattle.cli_model.proofs.Common.{None, refl, sym, ◌∙◌, ap, subst, inl, inr, arith, Result, Ok}
use Rattle.cli_model.proofs.Common.{Err, IfSome, le-ltb, Files, FolderView, ChipView, Rose}
use Rattle.cli_model.specs.World.{World, with_file}
use Rattle.cli_model.specs.Steps.{Step, Load, Take, Store, Open, Use, UseFor, Put, Print, Refusal}
use Rattle.cli_model.specs.Steps.{Reason, CannotRead, TooLong, Refused, NoMemory, CannotWrite}
use Rattle.cli_model.specs.Steps.{PutFailed, ChipFailed, End, Done, Stopped}
use Rattle.cli_model.specs.Status.{reason_status}
use Rattle.cli_model.specs.Stands.{files_after}
use Rattle.cli_model.specs.Foreseen.{foreseen}
use Rattle.cli_model.specs.Ends.{Stop, Ended, All, At, Causes, EndsSo, IsForetold, IsFault}
use Rattle.cli_model.specs.Ends.{IsStopped}
use Rattle.cli_model.proofs.Statuses.{OfSteps, OfStep, of_more, stop_so}
use Rattle.cli_model.specs.Plan.{Plan, Loads, Makes, Then, Answers, Refuses, Way, steps_of}
use Rattle.cli_model.specs.Plan.{AreTexts, refused_last, last_status, Leaves}
use Rattle.cli_model.specs.Runs.{EndsBy, LeavesAt, TellsLast}
use Rattle.cli_model.proofs.Owed.{GoodFor, files_then}
use Rattle.cli_model.specs.Faultless.{NothingFailed, file_in}

load_wants : (name : List ℕ) (limit : ℕ) (text : List ℕ) (refusal : Option Refusal)
    (reason : Reason) (a b : World) → Causes (Load name limit text refusal) reason a b
    → IsFault reason → NothingFailed a b → reason_status reason ≡ 10
load_wants name limit text refusal (CannotRead known) a b c f n = absurd (n.loads name c.1)
load_wants name limit text refusal (TooLong known) a b c f n = absurd f
load_wants name limit text refusal (Refused known) a b c f n = absurd f
load_wants name limit text refusal NoMemory a b c f n = refl
load_wants name limit text refusal (CannotWrite known) a b c f n = elim c [ ]
load_wants name limit text refusal PutFailed a b c f n = elim c [ ]
load_wants name limit text refusal ChipFailed a b c f n = elim c [ ]

step_wants : (step : Step) (reason : Reason) (a b : World) → Causes step reason a b
    → IsFault reason → NothingFailed a b → reason_status reason ≡ 10
step_wants (Load name limit text refusal) reason a b c f n =
    load_wants name limit text refusal reason a b c f n
step_wants Take reason a b c f n = ap reason_status c
step_wants (Store name bytes) reason a b c f n = absurd (n.stores c.1)
step_wants (Open on) reason a b (inl c) f n = ap reason_status c
step_wants (Open on) reason a b (inr c) f n = absurd (n.chip c.1)
step_wants (Use on) reason a b c f n = absurd (n.chip c.1)
step_wants (UseFor wave) reason a b c f n = absurd (n.chip c.1)
step_wants (Put bytes) reason a b c f n = absurd (n.puts c.1)
step_wants (Print on bytes) reason a b (inl c) f n = absurd (n.puts c.1)
step_wants (Print on bytes) reason a b (inr c) f n = absurd (n.chip c.1)

pub at_middle : (P : ℕ → Type 0) (front : List Step) (at : Step) (rest : List Step)
    → OfSteps P (front ++ at ∷ rest) → OfStep P at
at_middle P [] at rest h = h.0
at_middle P (x ∷ front) at rest h = at_middle P front at rest h.1

-- no step loads a file
abbrev pub LoadsNone : List Step → Type 0
LoadsNone steps = OfSteps (λ s. s ≡ 2 → ⊥) steps

is_fault : (reason other : Reason) → reason ≡ other → IsFault other → IsFault reason
is_fault reason other e f = subst IsFault (sym e) f

-- a step that loads none fails by a fault
fault_by : (step : Step) (reason : Reason) (a b : World) → OfStep (λ s. s ≡ 2 → ⊥) step
    → Causes step reason a b → IsFault reason
fault_by (Load name limit text refusal) reason a b h c = absurd (h.0 refl)
fault_by Take reason a b h c = is_fault reason NoMemory c tt
fault_by (Store name bytes) reason a b h c = is_fault reason (CannotWrite name) c.0 tt
fault_by (Open on) reason a b h (inl c) = is_fault reason NoMemory c tt
fault_by (Open on) reason a b h (inr c) = is_fault reason ChipFailed c.0 tt
fault_by (Use on) reason a b h c = is_fault reason ChipFailed c.0 tt
fault_by (UseFor wave) reason a b h c = is_fault reason ChipFailed c.0 tt
fault_by (Put bytes) reason a b h c = is_fault reason PutFailed c.0 tt
fault_by (Print on bytes) reason a b h (inl c) = is_fault reason PutFailed c.0 tt
fault_by (Print on bytes) reason a b h (inr c) = is_fault reason ChipFailed c.0 tt

-- a line that is reported last changes no file and no chip, and no count of faults falls
record IsAfter (known new : World) : Type 0 where
  files : new.files ≡ known.files
  chip : new.chip ≡ known.chip
  sink : known.sink.faults ≤ new.sink.faults

same_after : (known new : World) → new ≡ known → IsAfter known new
same_after known new e = record {
  files = ap (λ (w : World). w.files) e;
  chip = ap (λ (w : World). w.chip) e;
  sink = subst (λ (w : World). known.sink.faults ≤ w.sink.faults) (sym e) (omega arith);
}

last_after : (ended : Ended) (refusal : Option Refusal) (known new : World)
    → TellsLast ended refusal known new → IsAfter known new
last_after All (Some refusal) known new says =
    record { files = says.files; chip = says.chip; sink = says.faults }
last_after All None known new same = same_after known new same
last_after (At stop) refusal known new same = same_after known new same

still_nothing : (old known new : World) → IsAfter known new → NothingFailed old new
    → NothingFailed old known
still_nothing old known new a n = record {
  loads = subst (λ (f : FolderView). (name : List ℕ)
      → Rose (old.files.load_faults name) (f.load_faults name) → ⊥) a.files n.loads;
  stores = subst (λ (f : FolderView). Rose old.files.store_faults f.store_faults → ⊥) a.files
      n.stores;
  puts = λ rose. n.puts (omega (arith, rose, a.sink));
  chip = subst (λ (c : ChipView). Rose old.chip.faults c.faults → ⊥) a.chip n.chip;
}

-- what good files foretell

abbrev GoodEnd : (ℕ → Type 0) → End → Type 0
GoodEnd P Done = Unit {0}
GoodEnd P (Stopped reason) = P (reason_status reason)

none_loaded : (xs ys : List Step) (files : Files) → OfSteps (λ s. s ≡ 2 → ⊥) xs
    → foreseen (xs ++ ys) files ≡ foreseen ys (files_after xs files)
none_loaded [] ys files h = refl
none_loaded (Load name limit text refusal ∷ xs) ys files h = absurd (h.0.0 refl)
none_loaded (Take ∷ xs) ys files h = none_loaded xs ys files h.1
none_loaded (Store name bytes ∷ xs) ys files h =
    none_loaded xs ys (with_file name bytes files) h.1
none_loaded (Open on ∷ xs) ys files h = none_loaded xs ys files h.1
none_loaded (Use on ∷ xs) ys files h = none_loaded xs ys files h.1
none_loaded (UseFor wave ∷ xs) ys files h = none_loaded xs ys files h.1
none_loaded (Put bytes ∷ xs) ys files h = none_loaded xs ys files h.1
none_loaded (Print on bytes ∷ xs) ys files h = none_loaded xs ys files h.1

same_text : (file : Option (List ℕ)) (bytes text : List ℕ) → file ≡ Some bytes
    → IfSome file (λ b. b ≡ text) → bytes ≡ text
same_text None bytes text e h = absurd (cc)
same_text (Some b) bytes text e h = let same : b ≡ bytes = cc in sym same ∙ h

same_value : {A : Type 0} (r : Result A Refusal) (a b : A) → r ≡ Ok a → r ≡ Ok b → a ≡ b
same_value {A} r a b e f = let g : ◌≡◌ {A = Result A Refusal} (Ok a) (Ok b) = sym e ∙ f in cc

same_refusal : {A : Type 0} (r : Result A Refusal) (a b : Refusal) → r ≡ Err a → r ≡ Err b → a ≡ b
same_refusal {A} r a b e f = let g : ◌≡◌ {A = Result A Refusal} (Err a) (Err b) = sym e ∙ f in cc

foreseen_good : (P : ℕ → Type 0) (plan : Plan) (files : Files) → GoodFor P plan (Some files)
    → (way : Way plan) → AreTexts plan way files → GoodEnd P (foreseen (steps_of plan way) files)
foreseen_good P (Loads name limit read rest) files g (inl cut) t = tt
foreseen_good P (Loads name limit read rest) files (own, there, within, inl (v, ok, good))
    (inr (text, inl (value, is, way))) t =
    let same = same_text (files name) own text there t.0 in
    let v_is = same_value (read text) v value (ap read (sym same) ∙ ok) is in
    rw (there, le-ltb limit (length own) within) (foreseen_good P (rest text value) files
    (subst (λ (x : List ℕ). GoodFor P (rest x value) (Some files)) same
    (subst (λ x. GoodFor P (rest own x) (Some files)) v_is good)) way t.1)
foreseen_good P (Loads name limit read rest) files (own, there, within, inr (r, err, p))
    (inr (text, inl (value, is, way))) t =
    let same = same_text (files name) own text there t.0 in
    let other = ap read (sym same) ∙ err in absurd (cc)
foreseen_good P (Loads name limit read rest) files (own, there, within, inl (v, ok, good))
    (inr (text, inr (refusal, is))) t =
    let same = same_text (files name) own text there t in
    let other = ap read (sym same) ∙ ok in absurd (cc)
foreseen_good P (Loads name limit read rest) files (own, there, within, inr (r, err, p))
    (inr (text, inr (refusal, is))) t =
    let same = same_text (files name) own text there t in
    let r_is = same_refusal (read text) r refusal (ap read (sym same) ∙ err) is in
    rw (there, le-ltb limit (length own) within) (subst (λ (x : Refusal). P x.status) r_is p)
foreseen_good P (Makes Q rest) files g (inl cut) t = tt
foreseen_good P (Makes Q rest) files g (inr (value, has, way)) t =
    foreseen_good P (rest value) files (g value has) way t
foreseen_good P (Then steps rest) files g way t =
    subst (GoodEnd P) (sym (none_loaded steps (steps_of rest way) files g.0))
    (foreseen_good P rest (files_after steps files) g.1 way t)
foreseen_good P (Answers status left) files g way t = tt
foreseen_good P (Refuses refusal left) files g way t = tt

then_texts : (holds : Option Files) (steps : List Step) (rest : Plan) (way : Way rest)
    → IfSome holds (λ files. AreTexts rest way (files_after steps files))
    → IfSome (files_then steps holds) (AreTexts rest way)
then_texts None steps rest way t = tt
then_texts (Some files) steps rest way t = t

own_texts : {A : Type 0} (name limit : _) (read : List ℕ → Result A Refusal) (rest : List ℕ → A → Plan)
    (text : List ℕ) (value : A) (is : read text ≡ Ok value) (way : Way (rest text value))
    (holds : Option Files)
    → IfSome holds (AreTexts (Loads name limit read rest) (inr (text, inl (value, is, way))))
    → IfSome holds (λ files. IfSome (files name) (λ b. b ≡ text))
    × IfSome holds (AreTexts (rest text value) way)
own_texts name limit read rest text value is way None t = (tt, tt)
own_texts name limit read rest text value is way (Some files) t = t

text_of : (holds : Option Files) (name own text : List ℕ) → file_in holds name ≡ Some own
    → IfSome holds (λ files. IfSome (files name) (λ b. b ≡ text)) → own ≡ text
text_of None name own text e t = absurd (cc)
text_of (Some files) name own text e t = same_text (files name) own text e t

-- where the files are good, the status at the plan's end is one of those of a command that is done
pub end_good : (P : ℕ → Type 0) (plan : Plan) (holds : Option Files) (chip : ChipView)
    → GoodFor P plan holds
    → (way : Way plan) → IfSome holds (AreTexts plan way) → Leaves plan way chip
    → P (last_status plan way)
end_good P (Loads name limit read rest) holds chip g (inl cut) t l = elim l [ ]
end_good P (Loads name limit read rest) holds chip (own, there, within, inl (v, ok, good))
    (inr (text, inl (value, is, way))) t l =
    let both = own_texts name limit read rest text value is way holds t in
    let same = text_of holds name own text there both.0 in
    let v_is = same_value (read text) v value (ap read (sym same) ∙ ok) is in
    end_good P (rest text value) holds chip (subst (λ (x : List ℕ). GoodFor P (rest x value) holds)
    same (subst (λ x. GoodFor P (rest own x) holds) v_is good)) way both.1 l
end_good P (Loads name limit read rest) holds chip (own, there, within, inr (r, err, p))
    (inr (text, inl (value, is, way))) t l =
    let both = own_texts name limit read rest text value is way holds t in
    let same = text_of holds name own text there both.0 in
    let other = ap read (sym same) ∙ err in absurd (cc)
end_good P (Loads name limit read rest) holds chip g (inr (text, inr (refusal, is))) t l = elim l [ ]
end_good P (Makes Q rest) holds chip g (inl cut) t l = elim l [ ]
end_good P (Makes Q rest) holds chip g (inr (value, has, way)) t l =
    end_good P (rest value) holds chip (g value has) way t l
end_good P (Then steps rest) holds chip g way t l =
    end_good P rest (files_then steps holds) chip g.1 way (then_texts holds steps rest way t) l
end_good P (Answers status left) holds chip g way t l = g
end_good P (Refuses refusal left) holds chip g way t l = g

none_there : (plan : Plan) (P : ℕ → Type 0) → GoodFor P plan None → (way : Way plan)
    → LoadsNone (steps_of plan way)
none_there (Loads name limit read rest) P (own, there, within, more) way = absurd (cc)
none_there (Makes Q rest) P g (inl cut) = tt
none_there (Makes Q rest) P g (inr (value, has, way)) = none_there (rest value) P (g value has) way
none_there (Then steps rest) P g way =
    of_more (λ s. s ≡ 2 → ⊥) steps (steps_of rest way) g.0 (none_there rest P g.1 way)
none_there (Answers status left) P g way = tt
none_there (Refuses refusal left) P g way = tt

stopped_good : (P : ℕ → Type 0) (end : End) (reason : Reason) → GoodEnd P end
    → (end ≡ Stopped reason) ⊎ IsFault reason → P (reason_status reason) ⊎ IsFault reason
stopped_good P end reason g (inl e) = inl (subst (GoodEnd P) e g)
stopped_good P end reason g (inr f) = inr f

pub either_good : (P : ℕ → Type 0) (plan : Plan) (holds : Option Files) (stop : Stop) (a b : World)
    → GoodFor P plan holds
    → (way : Way plan) → IfSome holds (AreTexts plan way)
    → IfSome holds (IsForetold (steps_of plan way) (At stop))
    → stop.before ++ stop.failed ∷ stop.following ≡ steps_of plan way
    → Causes stop.failed stop.reason a b → P (reason_status stop.reason) ⊎ IsFault stop.reason
either_good P plan None stop a b g way t f place c =
    inr (fault_by stop.failed stop.reason a b (at_middle (λ s. s ≡ 2 → ⊥) stop.before stop.failed
    stop.following (subst (OfSteps (λ s. s ≡ 2 → ⊥)) (sym place) (none_there plan P g way))) c)
either_good P plan (Some files) stop a b g way t f place c =
    stopped_good P (foreseen (steps_of plan way) files) stop.reason
    (foreseen_good P plan files g way t) f.1

-- where the files are good and nothing failed, the command is done or answers 10
pub plan_completes : (P : ℕ → Type 0) (plan : Plan) (old new : World) (status : ℕ)
    → GoodFor P plan old.files.holds → P 10 → NothingFailed old new
    → EndsBy plan old new status → P status
plan_completes P plan old new status g ten n e =
    by_cases e.ends.ended e.ends.so e.ends.foretold e.left
    (still_nothing old e.stood new (last_after e.ends.ended (refused_last plan e.way) e.stood new
    e.last) n)
  where
    by_cases : (ended : Ended)
        → EndsSo (steps_of plan e.way) (last_status plan e.way) ended old e.stood status
        → IfSome old.files.holds (IsForetold (steps_of plan e.way) ended)
        → LeavesAt ended plan e.way new.chip → NothingFailed old e.stood → P status
    by_cases All so known left n =
        subst P (sym so.answers) (end_good P plan old.files.holds new.chip g e.way e.texts left)
    by_cases (At stop) so known left n =
        at_stop (either_good P plan old.files.holds stop old e.stood g e.way e.texts known so.place
        so.causes)
      where
        at_stop : P (reason_status stop.reason) ⊎ IsFault stop.reason → P status
        at_stop (inl p) = subst P (sym so.answers) p
        at_stop (inr f) =
            subst P (sym (so.answers ∙ step_wants stop.failed stop.reason old e.stood so.causes f n))
            ten

-- where its files are good for no status that its steps give when they fail, it stops by a fault
pub stop_by_fault : (F P : ℕ → Type 0) (plan : Plan) (stop : Stop) (old new : World) (status : ℕ)
    → ((s : ℕ) → P s → F s → ⊥) → GoodFor P plan old.files.holds → (way : Way plan)
    → IfSome old.files.holds (AreTexts plan way) → OfSteps F (steps_of plan way)
    → IfSome old.files.holds (IsForetold (steps_of plan way) (At stop))
    → IsStopped (steps_of plan way) stop old new status → IsFault stop.reason
stop_by_fault F P plan stop old new status apart good way texts of known so =
    by_cases (either_good P plan old.files.holds stop old new good way texts known so.place
    so.causes)
  where
    by_cases : P (reason_status stop.reason) ⊎ IsFault stop.reason → IsFault stop.reason
    by_cases (inl p) = absurd (apart (reason_status stop.reason) p (subst F so.answers
        (stop_so F (steps_of plan way) stop old new status of so)))
    by_cases (inr f) = f
