-- What a command out of memory leaves.
use Rattle.cli_model.proofs.Common.{◌≡◌, ◌⊎◌, ℕ, List, [], ◌∷◌, ◌++◌, Option, Some, None, refl, sym}
use Rattle.cli_model.proofs.Common.{◌∙◌, ap, subst, inl, inr, false, ◌≢◌, list_any, Files, Known}
use Rattle.cli_model.proofs.Common.{ChipView}
use Rattle.std.specs.Prelude.{codes}
use Rattle.cli_model.specs.Waves.{ChipUse}
use Rattle.cli_model.specs.World.{World, with_file}
use Rattle.cli_model.specs.Steps.{Step, Load, Take, Store, Open, Use, UseFor, Put, Print, Refusal}
use Rattle.cli_model.specs.Steps.{Reason, CannotRead, TooLong, Refused, NoMemory, CannotWrite}
use Rattle.cli_model.specs.Steps.{PutFailed, ChipFailed, Unopened}
use Rattle.cli_model.specs.Status.{reason_status, reason_line}
use Rattle.cli_model.specs.Stands.{files_after, sent_by}
use Rattle.cli_model.specs.Ends.{Stop, Ended, All, At, Causes, EndsSo, IsStopped, IsLast, IsStoreOf}
use Rattle.cli_model.specs.Ends.{LeavesFiles, Sends, Wants, is_on_chip, done_steps}
use Rattle.cli_model.proofs.Statuses.{OfRefusal, OfSteps, OfStep, of_more}
use Rattle.cli_model.specs.Plan.{Plan, Loads, Makes, Then, Answers, Refuses, Way, steps_of}
use Rattle.cli_model.specs.Plan.{refused_last, last_status, Leaves}
use Rattle.cli_model.specs.Runs.{EndsBy, LeavesAt, TellsLast}
use Rattle.cli_model.specs.Faultless.{IsSpared}
use Rattle.cli_model.proofs.Owed.{NotTen, TakesFirst, TakesNone, FirstThen}
use Rattle.cli_model.proofs.Giving.{steps_give, refused_so}
use Rattle.cli_model.proofs.Good.{at_middle}
use Rattle.cli_model.proofs.Files.{at_other, bytes_differ}

-- no step takes memory, or is refused with its status
abbrev pub NoneTakes : List Step → Type 0
NoneTakes steps = OfSteps (λ s. s ≡ 10 → ⊥) steps

-- memory is taken before anything is sent and before the chip has begun; and before it is, no file
-- but this one is stored
abbrev pub StepsTake : Option (List ℕ) → List Step → Type 0
StepsTake but [] = Unit {0}
StepsTake but (Load name limit text refusal ∷ steps) = OfRefusal (λ s. s ≡ 10 → ⊥) refusal
    × StepsTake but steps
StepsTake but (Take ∷ steps) = StepsTake but steps
StepsTake but (Store name bytes ∷ steps) = ((but ≡ Some name) × StepsTake but steps)
    ⊎ NoneTakes steps
StepsTake but (Open on ∷ steps) = NoneTakes steps
StepsTake but (Use on ∷ steps) = NoneTakes steps
StepsTake but (UseFor wave ∷ steps) = NoneTakes steps
StepsTake but (Put bytes ∷ steps) = NoneTakes steps
StepsTake but (Print on bytes ∷ steps) = NoneTakes steps

-- what is done before a step that wants memory, and what is sent where it does
record IsEarly (but : Option (List ℕ)) (front : List Step) (at : Step) (reason : Reason) : Type 0
  where
    wants : reason ≡ NoMemory
    quiet : sent_by front ≡ []
    files : (before : Files) (name : List ℕ) → but ≢ Some name
        → files_after front before name ≡ before name
    off : list_any is_on_chip front ≡ false
    other : (name : List ℕ) → IsStoreOf name at → ⊥
    line : (last : List ℕ) → IsLast at reason last → last ≡ codes "no memory\n"

not_ten : (reason other : Reason) (status : ℕ) → reason ≡ other → reason_status other ≡ status
    → (status ≡ 10 → ⊥) → reason_status reason ≡ 10 → ⊥
not_ten reason other status e f apart ten = apart (sym f ∙ ap reason_status (sym e) ∙ ten)

refused_ten : (refusal : Option Refusal) (known : Refusal) → refusal ≡ Some known
    → OfRefusal (λ s. s ≡ 10 → ⊥) refusal → known.status ≡ 10 → ⊥
refused_ten None known e h ten = absurd (cc)
refused_ten (Some r) known e h ten =
    let same : r ≡ known = cc in h (ap (λ (x : Refusal). x.status) same ∙ ten)

load_early : (but : Option (List ℕ)) (name : List ℕ) (limit : ℕ) (text : List ℕ)
    (refusal : Option Refusal) (reason : Reason) (a b : World)
    → OfRefusal (λ s. s ≡ 10 → ⊥) refusal → Causes (Load name limit text refusal) reason a b
    → reason_status reason ≡ 10 → IsEarly but [] (Load name limit text refusal) reason
load_early but name limit text refusal (CannotRead known) a b h c ten = absurd (cc)
load_early but name limit text refusal (TooLong known) a b h c ten = absurd (cc)
load_early but name limit text refusal (Refused known) a b h c ten =
    absurd (refused_ten refusal known c h ten)
load_early but name limit text refusal NoMemory a b h c ten = record {
  wants = refl;
  quiet = refl;
  files = λ before other apart. refl;
  off = refl;
  other = λ other s. s;
  line = λ last is. is;
}
load_early but name limit text refusal (CannotWrite known) a b h c ten = elim c [ ]
load_early but name limit text refusal PutFailed a b h c ten = elim c [ ]
load_early but name limit text refusal ChipFailed a b h c ten = elim c [ ]

take_early : (but : Option (List ℕ)) (reason : Reason) → reason ≡ NoMemory
    → IsEarly but [] Take reason
take_early but reason c = record {
  wants = c;
  quiet = refl;
  files = λ before other apart. refl;
  off = refl;
  other = λ other s. s;
  line = λ last is. is ∙ ap reason_line c;
}

open_early : {on : ChipUse} (but : Option (List ℕ)) (reason : Reason)
    → reason ≡ NoMemory → IsEarly but [] (Open on) reason
open_early but reason c = record {
  wants = c;
  quiet = refl;
  files = λ before other apart. refl;
  off = refl;
  other = λ other s. s;
  line = λ last is. is ∙ ap reason_line c;
}

first_early : (but : Option (List ℕ)) (at : Step) (rest : List Step) (reason : Reason)
    (a b : World) → StepsTake but (at ∷ rest) → Causes at reason a b
    → reason_status reason ≡ 10 → IsEarly but [] at reason
first_early but (Load name limit text refusal) rest reason a b h c ten =
    load_early but name limit text refusal reason a b h.0 c ten
first_early but Take rest reason a b h c ten = take_early but reason c
first_early but (Store name bytes) rest reason a b h c ten =
    absurd (not_ten reason (CannotWrite name) 3 c.0 refl (λ f. cc) ten)
first_early but (Open on) rest reason a b h (inl c) ten = open_early but reason c
first_early but (Open on) rest reason a b h (inr c) ten =
    absurd (not_ten reason ChipFailed 9 c.0 refl (λ f. cc) ten)
first_early but (Use on) rest reason a b h c ten =
    absurd (not_ten reason ChipFailed 9 c.0 refl (λ f. cc) ten)
first_early but (UseFor wave) rest reason a b h c ten =
    absurd (not_ten reason ChipFailed 9 c.0 refl (λ f. cc) ten)
first_early but (Put bytes) rest reason a b h c ten =
    absurd (not_ten reason PutFailed 3 c.0 refl (λ f. cc) ten)
first_early but (Print on bytes) rest reason a b h (inl c) ten =
    absurd (not_ten reason PutFailed 3 c.0 refl (λ f. cc) ten)
first_early but (Print on bytes) rest reason a b h (inr c) ten =
    absurd (not_ten reason ChipFailed 9 c.0 refl (λ f. cc) ten)

load_takes : (name : List ℕ) (limit : ℕ) (text : List ℕ) (refusal : Option Refusal)
    (reason : Reason) (a b : World)
    → OfStep (λ s. s ≡ 10 → ⊥) (Load name limit text refusal)
    → Causes (Load name limit text refusal) reason a b → reason_status reason ≡ 10 → ⊥
load_takes name limit text refusal (CannotRead known) a b h c ten = cc
load_takes name limit text refusal (TooLong known) a b h c ten = cc
load_takes name limit text refusal (Refused known) a b h c ten = refused_ten refusal known c h.3 ten
load_takes name limit text refusal NoMemory a b h c ten = h.2 refl
load_takes name limit text refusal (CannotWrite known) a b h c ten = elim c [ ]
load_takes name limit text refusal PutFailed a b h c ten = elim c [ ]
load_takes name limit text refusal ChipFailed a b h c ten = elim c [ ]

-- a step that takes none does not want memory
step_takes : (at : Step) (reason : Reason) (a b : World) → OfStep (λ s. s ≡ 10 → ⊥) at
    → Causes at reason a b → reason_status reason ≡ 10 → ⊥
step_takes (Load name limit text refusal) reason a b h c ten =
    load_takes name limit text refusal reason a b h c ten
step_takes Take reason a b h c ten = h refl
step_takes (Store name bytes) reason a b h c ten =
    not_ten reason (CannotWrite name) 3 c.0 refl (λ f. cc) ten
step_takes (Open on) reason a b h c ten = h.1 refl
step_takes (Use on) reason a b h c ten = not_ten reason ChipFailed 9 c.0 refl (λ f. cc) ten
step_takes (UseFor wave) reason a b h c ten =
    not_ten reason ChipFailed 9 c.0 refl (λ f. cc) ten
step_takes (Put bytes) reason a b h c ten = not_ten reason PutFailed 3 c.0 refl (λ f. cc) ten
step_takes (Print on bytes) reason a b h (inl c) ten =
    not_ten reason PutFailed 3 c.0 refl (λ f. cc) ten
step_takes (Print on bytes) reason a b h (inr c) ten =
    not_ten reason ChipFailed 9 c.0 refl (λ f. cc) ten

none_takes : (front : List Step) (at : Step) (rest : List Step) (reason : Reason) (a b : World)
    → NoneTakes (front ++ at ∷ rest) → Causes at reason a b → reason_status reason ≡ 10 → ⊥
none_takes front at rest reason a b h c ten =
    step_takes at reason a b (at_middle (λ s. s ≡ 10 → ⊥) front at rest h) c ten

early : (but : Option (List ℕ)) (front : List Step) (at : Step) (rest : List Step)
    (reason : Reason) (a b : World) → StepsTake but (front ++ at ∷ rest) → Causes at reason a b
    → reason_status reason ≡ 10 → IsEarly but front at reason
early but [] at rest reason a b h c ten = first_early but at rest reason a b h c ten
early but (Load name limit text refusal ∷ front) at rest reason a b h c ten =
    let e = early but front at rest reason a b h.1 c ten in
    record {
      wants = e.wants;
      quiet = e.quiet;
      files = e.files;
      off = e.off;
      other = e.other;
      line = e.line;
    }
early but (Take ∷ front) at rest reason a b h c ten =
    let e = early but front at rest reason a b h c ten in
    record {
      wants = e.wants;
      quiet = e.quiet;
      files = e.files;
      off = e.off;
      other = e.other;
      line = e.line;
    }
early but (Store name bytes ∷ front) at rest reason a b (inl h) c ten =
    let e = early but front at rest reason a b h.1 c ten in
    record {
      wants = e.wants;
      quiet = e.quiet;
      files = λ before other apart. e.files (with_file name bytes before) other apart
          ∙ at_other other name bytes before
          (bytes_differ other name (λ same. apart (h.0 ∙ ap (λ x. Some x) (sym same))));
      off = e.off;
      other = e.other;
      line = e.line;
    }
early but (Store name bytes ∷ front) at rest reason a b (inr h) c ten =
    absurd (none_takes front at rest reason a b h c ten)
early but (Open on ∷ front) at rest reason a b h c ten =
    absurd (none_takes front at rest reason a b h c ten)
early but (Use on ∷ front) at rest reason a b h c ten =
    absurd (none_takes front at rest reason a b h c ten)
early but (UseFor wave ∷ front) at rest reason a b h c ten =
    absurd (none_takes front at rest reason a b h c ten)
early but (Put bytes ∷ front) at rest reason a b h c ten =
    absurd (none_takes front at rest reason a b h c ten)
early but (Print on bytes ∷ front) at rest reason a b h c ten =
    absurd (none_takes front at rest reason a b h c ten)

known_weaker : {A : Type 0} (R Q : A → A → Type 0) (a b : Option A) → Known R a b
    → ((x y : A) → R x y → Q x y) → Known Q a b
known_weaker R Q None b t h = tt
known_weaker R Q (Some x) None t h = absurd t
known_weaker R Q (Some x) (Some y) t h = h x y t

stop_spares : (but : Option (List ℕ)) (steps : List Step) (stop : Stop) (old new : World)
    (status : ℕ) → StepsTake but steps → IsStopped steps stop old new status → status ≡ 10
    → (list_any is_on_chip stop.before ≡ false → stop.reason ≡ NoMemory
    → Unopened old.chip new.chip) → IsSpared but old new
stop_spares but steps stop old new status first s ten unopened =
    let e = early but stop.before stop.failed stop.following stop.reason old new
    (subst (StepsTake but) (sym s.place) first) s.causes (sym s.answers ∙ ten) in
    record {
      sent = subst (λ (bytes : List ℕ). Sends bytes (codes "no memory\n") old new) e.quiet
          (subst (λ (last : List ℕ). Sends (sent_by stop.before) last old new)
          (e.line s.sent.0 s.sent.1) s.sent.2);
      files = known_weaker (LeavesFiles stop) (λ before after. (name : List ℕ) → but ≢ Some name
          → after name ≡ before name) old.files.holds new.files.holds s.files
          (λ before after left name apart. left name (e.other name) ∙ e.files before name apart);
      chip = unopened e.off e.wants;
    }

-- a plan that takes memory first

first_append : (but : Option (List ℕ)) (xs ys : List Step) (F N : Type 0)
    → FirstThen but xs F N → (F → StepsTake but ys) → (N → OfSteps NotTen ys)
    → StepsTake but (xs ++ ys)
first_append but [] ys F N h f n = f h
first_append but (Load name limit text refusal ∷ xs) ys F N h f n =
    (h.0, first_append but xs ys F N h.1 f n)
first_append but (Take ∷ xs) ys F N h f n = first_append but xs ys F N h f n
first_append but (Store name bytes ∷ xs) ys F N (inl h) f n =
    inl (h.0, first_append but xs ys F N h.1 f n)
first_append but (Store name bytes ∷ xs) ys F N (inr h) f n =
    inr (of_more NotTen xs ys h.0 (n h.1))
first_append but (Open on ∷ xs) ys F N h f n = of_more NotTen xs ys h.0 (n h.1)
first_append but (Use on ∷ xs) ys F N h f n = of_more NotTen xs ys h.0 (n h.1)
first_append but (UseFor wave ∷ xs) ys F N h f n = of_more NotTen xs ys h.0 (n h.1)
first_append but (Put bytes ∷ xs) ys F N h f n = of_more NotTen xs ys h.0 (n h.1)
first_append but (Print on bytes ∷ xs) ys F N h f n = of_more NotTen xs ys h.0 (n h.1)

takes_first : (but : Option (List ℕ)) (plan : Plan) → TakesFirst but plan → (way : Way plan)
    → StepsTake but (steps_of plan way)
takes_first but (Loads name limit read rest) h (inl cut) = tt
takes_first but (Loads name limit read rest) h (inr (text, inl (value, is, way))) =
    (tt, takes_first but (rest text value) (h.1 text value) way)
takes_first but (Loads name limit read rest) h (inr (text, inr (refusal, is))) =
    (refused_so NotTen (read text) refusal is (h.0 text), tt)
takes_first but (Makes P rest) h (inl cut) = tt
takes_first but (Makes P rest) h (inr (value, has, way)) =
    takes_first but (rest value) (h value) way
takes_first but (Then steps rest) h way =
    first_append but steps (steps_of rest way) (TakesFirst but rest) (TakesNone rest) h
    (λ f. takes_first but rest f way) (λ n. steps_give NotTen NotTen rest n way)
takes_first but (Answers status left) h way = tt
takes_first but (Refuses refusal left) h way = tt

first_end : (but : Option (List ℕ)) (steps : List Step) (F N : Type 0) → FirstThen but steps F N
    → F ⊎ N
first_end but [] F N h = inl h
first_end but (Load name limit text refusal ∷ xs) F N h = first_end but xs F N h.1
first_end but (Take ∷ xs) F N h = first_end but xs F N h
first_end but (Store name bytes ∷ xs) F N (inl h) = first_end but xs F N h.1
first_end but (Store name bytes ∷ xs) F N (inr h) = inr h.1
first_end but (Open on ∷ xs) F N h = inr h.1
first_end but (Use on ∷ xs) F N h = inr h.1
first_end but (UseFor wave ∷ xs) F N h = inr h.1
first_end but (Put bytes ∷ xs) F N h = inr h.1
first_end but (Print on bytes ∷ xs) F N h = inr h.1

none_end : (plan : Plan) → TakesNone plan → (way : Way plan) (chip : ChipView)
    → Leaves plan way chip → NotTen (last_status plan way)
none_end (Loads name limit read rest) h (inl cut) chip l = elim l [ ]
none_end (Loads name limit read rest) (two, eleven, ten, err, more)
    (inr (text, inl (value, is, way))) chip l = none_end (rest text value) (more text value) way chip l
none_end (Loads name limit read rest) h (inr (text, inr (refusal, is))) chip l = elim l [ ]
none_end (Makes P rest) h (inl cut) chip l = elim l [ ]
none_end (Makes P rest) h (inr (value, has, way)) chip l =
    none_end (rest value) (h value) way chip l
none_end (Then steps rest) h way chip l = none_end rest h.1 way chip l
none_end (Answers status left) h way chip l = h
none_end (Refuses refusal left) h way chip l = h

end_takes : (but : Option (List ℕ)) (plan : Plan) → TakesFirst but plan → (way : Way plan)
    (chip : ChipView) → Leaves plan way chip → NotTen (last_status plan way)
end_takes but (Loads name limit read rest) h (inl cut) chip l = elim l [ ]
end_takes but (Loads name limit read rest) h (inr (text, inl (value, is, way))) chip l =
    end_takes but (rest text value) (h.1 text value) way chip l
end_takes but (Loads name limit read rest) h (inr (text, inr (refusal, is))) chip l = elim l [ ]
end_takes but (Makes P rest) h (inl cut) chip l = elim l [ ]
end_takes but (Makes P rest) h (inr (value, has, way)) chip l =
    end_takes but (rest value) (h value) way chip l
end_takes but (Then steps rest) h way chip l =
    either_so (first_end but steps (TakesFirst but rest) (TakesNone rest) h)
    (λ f. end_takes but rest f way chip l)
  where
    either_so : TakesFirst but rest ⊎ TakesNone rest
        → (TakesFirst but rest → NotTen (last_status rest way)) → NotTen (last_status rest way)
    either_so (inl f) more = more f
    either_so (inr n) more = none_end rest n way chip l
end_takes but (Answers status left) h way chip l = h
end_takes but (Refuses refusal left) h way chip l = h

-- a command that takes its memory first leaves all as at entry where memory is wanting, but for one
-- file
pub plan_spares : (but : Option (List ℕ)) (plan : Plan) (old new : World) (status : ℕ)
    → TakesFirst but plan → EndsBy plan old new status → status ≡ 10 → IsSpared but old new
plan_spares but plan old new status first e ten =
    by_cases e.ends.ended e.ends.so e.last e.left e.ends.unopened
  where
    by_cases : (ended : Ended)
        → EndsSo (steps_of plan e.way) (last_status plan e.way) ended old e.stood status
        → TellsLast ended (refused_last plan e.way) e.stood new
        → LeavesAt ended plan e.way new.chip
        → (list_any is_on_chip (done_steps (steps_of plan e.way) ended) ≡ false → Wants ended
        → Unopened old.chip e.stood.chip) → IsSpared but old new
    by_cases All so last left unopened =
        absurd (end_takes but plan first e.way new.chip left (sym so.answers ∙ ten))
    by_cases (At stop) so last left unopened =
        subst (IsSpared but old) (sym last)
        (stop_spares but (steps_of plan e.way) stop old e.stood status
        (takes_first but plan first e.way) so ten unopened)
