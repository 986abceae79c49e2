-- What a command that is done delivers.
use Rattle.cli_model.proofs.Common.{◌≡◌, ◌⊎◌, ℕ, ◌≤◌, Bool, true, false, List, [], ◌∷◌, ◌++◌}
use Rattle.cli_model.proofs.Common.{length, Option, Some, None, refl, sym, ◌∙◌, ap, subst, inl, inr}
use Rattle.cli_model.proofs.Common.{append-nil, append_assoc, IfSome, ChipView, Files, Known}
use Rattle.std.proofs.Common.{cond}
use Rattle.std.specs.Prelude.{nat_lt}
use Rattle.std.proofs.lemmas.Bool.{ltb-false}
use Rattle.cli_model.specs.World.{World, with_file}
use Rattle.cli_model.specs.Steps.{Step, Load, Take, Store, Open, Use, UseFor, Put, Print, Refusal}
use Rattle.cli_model.specs.Steps.{TooLong, End, Done, Stopped}
use Rattle.cli_model.specs.Stands.{files_after, sent_by}
use Rattle.cli_model.specs.Foreseen.{foreseen, load_end, refused_or}
use Rattle.cli_model.specs.Ends.{Ended, All, At, EndsSo, IsForetold}
use Rattle.cli_model.specs.Plan.{Plan, Loads, Makes, Then, Answers, Refuses, Way, steps_of}
use Rattle.cli_model.specs.Plan.{AreTexts, refused_last, last_status, Leaves}
use Rattle.cli_model.proofs.Delivers.{Delivers}
use Rattle.cli_model.specs.Runs.{EndsBy, LeavesAt, TellsLast}
use Rattle.cli_model.proofs.Owed.{Gives}
use Rattle.cli_model.proofs.Giving.{IsAnswered, plan_gives}

-- a load that does not end a command: the file is there, and its text is not refused
pub record IsThere (limit : ℕ) (refusal : Option Refusal) (file : Option (List ℕ)) (rest : End) : Type 0
  where
    pub bytes : List ℕ
    pub there : file ≡ Some bytes
    pub within : length bytes ≤ limit
    pub accepted : refusal ≡ None
    pub goes_on : rest ≡ Done

not_refused : (limit : ℕ) (refusal : Option Refusal) (bytes : List ℕ) (rest : End)
    → length bytes ≤ limit
    → refused_or refusal rest ≡ Done → IsThere limit refusal (Some bytes) rest
not_refused limit None bytes rest w e =
    record { bytes = bytes; there = refl; within = w; accepted = refl; goes_on = e }
not_refused limit (Some r) bytes rest w e = absurd (cc)

not_long : (long : Bool) (name : List ℕ) (limit : ℕ) (refusal : Option Refusal) (bytes : List ℕ) (rest : End)
    → nat_lt limit (length bytes) ≡ long
    → cond long (Stopped (TooLong name)) (refused_or refusal rest) ≡ Done
    → IsThere limit refusal (Some bytes) rest
not_long true name limit refusal bytes rest l e = absurd (cc)
not_long false name limit refusal bytes rest l e =
    not_refused limit refusal bytes rest (ltb-false limit (length bytes) l) e

-- a load that is foreseen to be done has its file, within its limit and accepted
pub load_there : (name : List ℕ) (limit : ℕ) (refusal : Option Refusal) (file : Option (List ℕ))
    (rest : End) → load_end name limit refusal file rest ≡ Done → IsThere limit refusal file rest
load_there name limit refusal None rest e = absurd (cc)
load_there name limit refusal (Some bytes) rest e =
    not_long (nat_lt limit (length bytes)) name limit refusal bytes rest refl e

-- the files after two lists of steps are those after the second, from where the first leaves them
pub files_append : (xs ys : List Step) (files : Files)
    → files_after (xs ++ ys) files ≡ files_after ys (files_after xs files)
files_append [] ys files = refl
files_append (Load name limit text refusal ∷ xs) ys files = files_append xs ys files
files_append (Take ∷ xs) ys files = files_append xs ys files
files_append (Store name bytes ∷ xs) ys files = files_append xs ys (with_file name bytes files)
files_append (Open on ∷ xs) ys files = files_append xs ys files
files_append (Use on ∷ xs) ys files = files_append xs ys files
files_append (UseFor wave ∷ xs) ys files = files_append xs ys files
files_append (Put bytes ∷ xs) ys files = files_append xs ys files
files_append (Print on bytes ∷ xs) ys files = files_append xs ys files

-- what two lists of steps send is what the one sends and then the other
pub sent_append : (xs ys : List Step) → sent_by (xs ++ ys) ≡ sent_by xs ++ sent_by ys
sent_append [] ys = refl
sent_append (Load name limit text refusal ∷ xs) ys = sent_append xs ys
sent_append (Take ∷ xs) ys = sent_append xs ys
sent_append (Store name bytes ∷ xs) ys = sent_append xs ys
sent_append (Open on ∷ xs) ys = sent_append xs ys
sent_append (Use on ∷ xs) ys = sent_append xs ys
sent_append (UseFor wave ∷ xs) ys = sent_append xs ys
sent_append (Put bytes ∷ xs) ys =
    ap (λ z. bytes ++ z) (sent_append xs ys) ∙ sym (append_assoc bytes (sent_by xs) (sent_by ys))
sent_append (Print on bytes ∷ xs) ys =
    ap (λ z. bytes ++ z) (sent_append xs ys) ∙ sym (append_assoc bytes (sent_by xs) (sent_by ys))

foreseen_rest : (xs ys : List Step) (files : Files) → foreseen (xs ++ ys) files ≡ Done
    → foreseen ys (files_after xs files) ≡ Done
foreseen_rest [] ys files e = e
foreseen_rest (Load name limit text refusal ∷ xs) ys files e =
    foreseen_rest xs ys files
    (load_there name limit refusal (files name) (foreseen (xs ++ ys) files) e).goes_on
foreseen_rest (Take ∷ xs) ys files e = foreseen_rest xs ys files e
foreseen_rest (Store name bytes ∷ xs) ys files e =
    foreseen_rest xs ys (with_file name bytes files) e
foreseen_rest (Open on ∷ xs) ys files e = foreseen_rest xs ys files e
foreseen_rest (Use on ∷ xs) ys files e = foreseen_rest xs ys files e
foreseen_rest (UseFor wave ∷ xs) ys files e = foreseen_rest xs ys files e
foreseen_rest (Put bytes ∷ xs) ys files e = foreseen_rest xs ys files e
foreseen_rest (Print on bytes ∷ xs) ys files e = foreseen_rest xs ys files e

text_in : (file : Option (List ℕ)) (bytes text : List ℕ) → file ≡ Some bytes
    → IfSome file (λ b. b ≡ text) → bytes ≡ text
text_in None bytes text e h = absurd (cc)
text_in (Some b) bytes text e h = let same : b ≡ bytes = cc in sym same ∙ h

delivered : (plan : Plan) (way : Way plan) (before after : Files) (sent said : List ℕ)
    (chip : ChipView) (status : ℕ) → foreseen (steps_of plan way) before ≡ Done
    → AreTexts plan way before → Leaves plan way chip → refused_last plan way ≡ None
    → status ≡ last_status plan way → after ≡ files_after (steps_of plan way) before
    → said ≡ sent ++ sent_by (steps_of plan way)
    → Delivers plan before after sent said chip status
delivered (Loads name limit read rest) (inl cut) before after sent said chip status f t l r s a b =
    elim l [ ]
delivered (Loads name limit read rest) (inr (text, inl (value, is, way))) before after sent said chip
    status f t l r s a b =
    let h = load_there name limit None (before name) (foreseen (steps_of (rest text value) way) before) f in (
      text,
      h.there ∙ ap (λ x. Some x) (text_in (before name) h.bytes text h.there t.0),
      value,
      is,
      delivered (rest text value) way before after sent said chip status h.goes_on t.1 l r s a b,
    )
delivered (Loads name limit read rest) (inr (text, inr (refusal, is))) before after sent said chip status
    f t l r s a b = elim l [ ]
delivered (Makes P rest) (inl cut) before after sent said chip status f t l r s a b = elim l [ ]
delivered (Makes P rest) (inr (value, has, way)) before after sent said chip status f t l r s a b =
    (value, has, delivered (rest value) way before after sent said chip status f t l r s a b)
delivered (Then steps rest) way before after sent said chip status f t l r s a b =
    let more = steps_of rest way in
    delivered rest way (files_after steps before) after (sent ++ sent_by steps) said chip status
    (foreseen_rest steps more before f) t l r s (a ∙ files_append steps more before)
    (b ∙ ap (λ x. sent ++ x) (sent_append steps more)
    ∙ sym (append_assoc sent (sent_by steps) (sent_by more)))
delivered (Answers own left) way before after sent said chip status f t l r s a b =
    (a, b ∙ append-nil sent, s, l)
delivered (Refuses refusal left) way before after sent said chip status f t l r s a b = absurd (cc)

-- what is known of the files and of what was sent after a command that is done
abbrev pub IsDelivered : Plan → World → World → ℕ → Type 0
IsDelivered plan old new status = Known (λ before after. (said : List ℕ)
    × Known (λ x y. y ≡ x ++ said) old.sink.sent new.sink.sent
    × Delivers plan before after [] said new.chip status) old.files.holds new.files.holds

known_with : (a b : Option Files) (R Q : Files → Files → Type 0) (P : Files → Type 0)
    → Known R a b → IfSome a P
    → ((before after : Files) → P before → R before after → Q before after)
    → Known Q a b
known_with None b R Q P t p h = tt
known_with (Some before) None R Q P t p h = absurd t
known_with (Some before) (Some after) R Q P t p h = h before after p t

if_two : (holds : Option Files) (P Q : Files → Type 0) → IfSome holds P → IfSome holds Q
    → IfSome holds (λ files. P files × Q files)
if_two None P Q p q = tt
if_two (Some files) P Q p q = (p, q)

-- a command delivers, or answers a status that its steps give when they fail
pub plan_delivers : (F D : ℕ → Type 0) (plan : Plan) (old new : World) (status : ℕ)
    → Gives F D plan → (F status → ⊥) → EndsBy plan old new status
    → IsDelivered plan old new status
plan_delivers F D plan old new status g apart e =
    by_cases (plan_gives F D plan old new status g e)
  where
    at_end : (ended : Ended) → ended ≡ All → refused_last plan e.way ≡ None
        → EndsSo (steps_of plan e.way) (last_status plan e.way) ended old e.stood status
        → IfSome old.files.holds (IsForetold (steps_of plan e.way) ended)
        → TellsLast ended (refused_last plan e.way) e.stood new
        → LeavesAt ended plan e.way new.chip → IsDelivered plan old new status
    at_end (At stop) is none so known last left = absurd (cc)
    at_end All is none so known last left =
        let same : new ≡ e.stood =
        subst (λ (x : Option Refusal). TellsLast All x e.stood new) none last in
        let steps = steps_of plan e.way in
        let sent : Known (λ x y. y ≡ x ++ sent_by steps) old.sink.sent new.sink.sent =
        subst (λ (w : World). Known (λ x y. y ≡ x ++ sent_by steps) old.sink.sent w.sink.sent)
        (sym same) so.sent in
        known_with old.files.holds new.files.holds
        (λ before after. after ≡ files_after steps before)
        (λ before after. (said : List ℕ) × Known (λ x y. y ≡ x ++ said) old.sink.sent new.sink.sent
        × Delivers plan before after [] said new.chip status)
        (λ files. (foreseen steps files ≡ Done) × AreTexts plan e.way files)
        (subst (λ (w : World). Known (λ before after. after ≡ files_after steps before)
        old.files.holds w.files.holds) (sym same) so.files)
        (if_two old.files.holds (λ files. foreseen steps files ≡ Done) (AreTexts plan e.way) known
        e.texts)
        (λ before after p a. (
          sent_by steps,
          sent,
          delivered plan e.way before after [] (sent_by steps) new.chip status p.0 p.1 left none
              so.answers a refl,
        ))

    by_cases : IsAnswered D plan e.way e.ends.ended status ⊎ F status
        → IsDelivered plan old new status
    by_cases (inl a) =
        at_end e.ends.ended a.all a.answered e.ends.so e.ends.foretold e.last e.left
    by_cases (inr f) = absurd (apart f)

-- what each way of delivering tells of the files at entry holds of them, where the folder tells its
-- files
pub if_delivered : (plan : Plan) (old new : World) (status : ℕ) (Q : Files → Type 0)
    → IsDelivered plan old new status
    → ((before after : Files) (said : List ℕ)
    → Known (λ x y. y ≡ x ++ said) old.sink.sent new.sink.sent
    → Delivers plan before after [] said new.chip status → Q before)
    → IfSome old.files.holds Q
if_delivered plan old new status Q d h = by_cases old.files.holds new.files.holds d
  where
    by_cases : (a b : Option Files) → Known (λ before after. (said : List ℕ)
        × Known (λ x y. y ≡ x ++ said) old.sink.sent new.sink.sent
        × Delivers plan before after [] said new.chip status) a b → IfSome a Q
    by_cases None b d = tt
    by_cases (Some before) None d = absurd d
    by_cases (Some before) (Some after) d = h before after d.0 d.1 d.2

-- what each way of delivering tells of the files before and after holds of them, where the folder
-- tells its files
pub known_delivered : (plan : Plan) (old new : World) (status : ℕ) (Q : Files → Files → Type 0)
    → IsDelivered plan old new status
    → ((before after : Files) (said : List ℕ)
    → Known (λ x y. y ≡ x ++ said) old.sink.sent new.sink.sent
    → Delivers plan before after [] said new.chip status → Q before after)
    → Known Q old.files.holds new.files.holds
known_delivered plan old new status Q d h = by_cases old.files.holds new.files.holds d
  where
    by_cases : (a b : Option Files) → Known (λ before after. (said : List ℕ)
        × Known (λ x y. y ≡ x ++ said) old.sink.sent new.sink.sent
        × Delivers plan before after [] said new.chip status) a b → Known Q a b
    by_cases None b d = tt
    by_cases (Some before) None d = absurd d
    by_cases (Some before) (Some after) d = h before after d.0 d.1 d.2
