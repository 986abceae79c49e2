-- How plans are gone through, piece by piece.
use Rattle.cli_model.proofs.Common.{◌≡◌, ℕ, List, [], ◌∷◌, ◌++◌, Option, Some, None, refl, sym, ◌∙◌}
use Rattle.cli_model.proofs.Common.{ap, subst, inl, inr, Result, Ok, Err, IfSome, ChipView, Files}
use Rattle.cli_model.proofs.Common.{Known}
use Rattle.cli_model.specs.World.{World}
use Rattle.cli_model.specs.Steps.{Step, Load, Refusal, Reason, Refused, Done, Stopped, Goes, Loaded}
use Rattle.cli_model.specs.Steps.{LoadFails}
use Rattle.cli_model.specs.Stands.{files_after}
use Rattle.cli_model.specs.Status.{Says, reason_line, reason_status}
use Rattle.cli_model.specs.Ends.{Ended, All, At}
use Rattle.cli_model.proofs.Going.{goes_on, stops, all_stand}
use Rattle.cli_model.proofs.Ending.{all_ends, stop_ends}
use Rattle.cli_model.specs.Plan.{Plan, Loads, Makes, Then, Answers, Refuses, Way, steps_of}
use Rattle.cli_model.specs.Plan.{AreTexts, refused_last, last_status, Leaves}
use Rattle.cli_model.specs.Reads.{refusal_of, IsText}
use Rattle.cli_model.specs.Runs.{Went, Runs, TellsLast, LeavesAt, EndsBy}

-- what is told of a result, and the status
abbrev pub TellsOf : Result ℕ Reason → World → World → Type 0
TellsOf (Ok status) old new = new ≡ old
TellsOf (Err reason) old new = Says (reason_line reason) old new

-- the status of a result
abbrev pub status_of : Result ℕ Reason → ℕ
status_of (Ok status) = status
status_of (Err reason) = reason_status reason

-- the way of a plan that was not begun
abbrev pub no_way : (plan : Plan) → Way plan
no_way (Loads name limit read rest) = inl tt
no_way (Makes P rest) = inl tt
no_way (Then steps rest) = no_way rest
no_way (Answers status left) = tt
no_way (Refuses refusal left) = tt

pub no_texts : (plan : Plan) (files : Files) → AreTexts plan (no_way plan) files
no_texts (Loads name limit read rest) files = tt
no_texts (Makes P rest) files = tt
no_texts (Then steps rest) files = no_texts rest (files_after steps files)
no_texts (Answers status left) files = tt
no_texts (Refuses refusal left) files = tt

-- what holds of all files holds of those that the folder tells
pub if_all : (holds : Option Files) (P : Files → Type 0) → ((files : Files) → P files)
    → IfSome holds P
if_all None P h = tt
if_all (Some files) P h = h files

pub if_both : (holds : Option Files) (P Q : Files → Type 0) → IfSome holds P → IfSome holds Q
    → IfSome holds (λ files. P files × Q files)
if_both None P Q p q = tt
if_both (Some files) P Q p q = (p, q)

bytes_are : (o : Option (List ℕ)) (text : List ℕ) → o ≡ Some text → IfSome o (λ bytes. bytes ≡ text)
bytes_are None text e = tt
bytes_are (Some bytes) text e = cc

has_text : (holds : Option Files) (name text : List ℕ)
    → IfSome holds (λ files. files name ≡ Some text) → IsText holds name text
has_text None name text h = tt
has_text (Some files) name text h = bytes_are (files name) text h

pub loaded_text : (name : List ℕ) (limit : ℕ) (text : List ℕ) (a b : World)
    → Loaded name limit text a b → IsText a.files.holds name text
loaded_text name limit text a b l = has_text a.files.holds name text l.bytes

-- a file was not loaded, or its text is refused
pub runs_unread : {A : Type 0} (name : List ℕ) (limit : ℕ) (read : List ℕ → Result A Refusal)
    (rest : List ℕ → A → Plan) (text : List ℕ) (reason : Reason) (old new : World)
    → IsText old.files.holds name text
    → LoadFails name limit text (refusal_of (read text)) reason old new
    → Runs (Loads name limit read rest) old new (Err reason)
runs_unread {A} name limit read rest text reason old new is fails = by_cases (read text) refl
  where
    by_cases : (r : Result A Refusal) → read text ≡ r
        → Runs (Loads name limit read rest) old new (Err reason)
    by_cases (Ok value) e = record {
      way = inr (text, inl (value, e, no_way (rest text value)));
      texts = if_both old.files.holds (λ files. IfSome (files name) (λ bytes. bytes ≡ text))
          (AreTexts (rest text value) (no_way (rest text value))) is
          (if_all old.files.holds (AreTexts (rest text value) (no_way (rest text value)))
          (no_texts (rest text value)));
      went = inl (inr (rw e at fails));
    }
    by_cases (Err refusal) e = record {
      way = inr (text, inr (refusal, e));
      texts = is;
      went = inl (inr (rw e at fails));
    }

went_after : (before : List Step) (plan other : Plan) (way : Way plan) (own : Way other)
    (result : Result ℕ Reason) (old mid new : World)
    → steps_of other own ≡ before ++ steps_of plan way
    → refused_last other own ≡ refused_last plan way
    → last_status other own ≡ last_status plan way
    → (Leaves plan way new.chip → Leaves other own new.chip)
    → Goes before Done old mid → Went plan way result mid new → Went other own result old new
went_after before plan other way own (Ok status) old mid new e f s l g (h, none, is, left) = (
  subst (λ (xs : List Step). Goes xs Done old new) (sym e)
      (goes_on before (steps_of plan way) Done old mid new g h),
  f ∙ none,
  is ∙ sym s,
  l left,
)
went_after before plan other way own (Err reason) old mid new e f s l g (inl h) =
    inl (subst (λ (xs : List Step). Goes xs (Stopped reason) old new) (sym e)
    (goes_on before (steps_of plan way) (Stopped reason) old mid new g h))
went_after before plan other way own (Err reason) old mid new e f s l g
    (inr (refusal, some, is, has, h, left)) = inr (
      refusal,
      f ∙ some,
      is,
      s ∙ has,
      subst (λ (xs : List Step). Goes xs Done old new) (sym e)
          (goes_on before (steps_of plan way) Done old mid new g h),
      l left,
    )

-- a file was loaded and read, and its plan was gone through
pub runs_read : {A : Type 0} (name : List ℕ) (limit : ℕ) (read : List ℕ → Result A Refusal)
    (rest : List ℕ → A → Plan) (text : List ℕ) (value : A) (result : Result ℕ Reason) (old mid new : World)
    → read text ≡ Ok value → Loaded name limit text old mid → Runs (rest text value) mid new result
    → Runs (Loads name limit read rest) old new result
runs_read name limit read rest text value result old mid new e loaded r = record {
  way = inr (text, inl (value, e, r.way));
  texts = if_both old.files.holds (λ files. IfSome (files name) (λ bytes. bytes ≡ text))
      (AreTexts (rest text value) r.way) (loaded_text name limit text old mid loaded)
      (subst (λ (h : Option Files). IfSome h (AreTexts (rest text value) r.way)) loaded.reads.files
      r.texts);
  went = went_after (Load name limit text None ∷ []) (rest text value) (Loads name limit read rest)
      r.way (inr (text, inl (value, e, r.way))) result old mid new refl refl refl (λ l. l)
      (inl (mid, ((refl, loaded), refl))) r.went;
}

-- a value was made
pub runs_made : {A : Type 0} (P : A → Type 0) (rest : A → Plan) (value : A)
    (result : Result ℕ Reason) (old new : World) → P value → Runs (rest value) old new result
    → Runs (Makes P rest) old new result
runs_made P rest value result old new has r = record {
  way = inr (value, has, r.way);
  texts = r.texts;
  went = went_after [] (rest value) (Makes P rest) r.way (inr (value, has, r.way)) result old old new
      refl refl refl (λ l. l) refl r.went;
}

before_is : (holds mid : Option Files) (steps : List Step) (P : Files → Type 0)
    → Known (λ before after. after ≡ files_after steps before) holds mid → IfSome mid P
    → IfSome holds (λ files. P (files_after steps files))
before_is None mid steps P k p = tt
before_is (Some files) None steps P k p = absurd k
before_is (Some files) (Some after) steps P k p = subst P k p

-- steps were done, and what follows was gone through
pub runs_then : (steps : List Step) (rest : Plan) (result : Result ℕ Reason) (old mid new : World)
    → Goes steps Done old mid → Runs rest mid new result → Runs (Then steps rest) old new result
runs_then steps rest result old mid new g r = record {
  way = r.way;
  texts = before_is old.files.holds mid.files.holds steps (AreTexts rest r.way)
      (all_stand steps old mid g).files r.texts;
  went = went_after steps rest (Then steps rest) r.way r.way result old mid new refl refl refl
      (λ l. l) g r.went;
}

-- they stopped
pub runs_stopped : (steps : List Step) (rest : Plan) (reason : Reason) (old new : World)
    → Goes steps (Stopped reason) old new → Runs (Then steps rest) old new (Err reason)
runs_stopped steps rest reason old new g = record {
  way = no_way rest;
  texts = if_all old.files.holds (λ files. AreTexts rest (no_way rest) (files_after steps files))
      (λ files. no_texts rest (files_after steps files));
  went = inl (stops steps (steps_of rest (no_way rest)) reason old new g);
}

-- it is done
pub runs_answered : (status : ℕ) (left : ChipView → Type 0) (at : World) → left at.chip
    → Runs (Answers status left) at at (Ok status)
runs_answered status left at has = record {
  way = tt;
  texts = if_all at.files.holds (λ files. Unit {0}) (λ files. tt);
  went = (refl, refl, refl, has);
}

-- it is refused
pub runs_refused : (refusal : Refusal) (left : ChipView → Type 0) (at : World) → left at.chip
    → Runs (Refuses refusal left) at at (Err (Refused refusal))
runs_refused refusal left at has = record {
  way = tt;
  texts = if_all at.files.holds (λ files. Unit {0}) (λ files. tt);
  went = inr (refusal, refl, refl, refl, refl, has);
}

-- how a plan that was gone through ends
pub plan_ends : (plan : Plan) (result : Result ℕ Reason) (old mid new : World) (status : ℕ)
    → Runs plan old mid result → TellsOf result mid new → status ≡ status_of result
    → EndsBy plan old new status
plan_ends plan (Ok own) old mid new status r tells answers =
    let e = all_ends (steps_of plan r.way) (last_status plan r.way) old mid mid status r.went.0 refl
    (answers ∙ r.went.2) in
    record {
      way = r.way;
      texts = r.texts;
      stood = mid;
      ends = e.0;
      last = told e.0.ended (refused_last plan r.way) mid new e.1 r.went.1 tells;
      left = left_so e.0.ended plan r.way new.chip
          (subst (λ (w : World). Leaves plan r.way w.chip) (sym tells) r.went.3);
    }
  where
    told : (ended : Ended) (refusal : Option Refusal) (mid new : World) → ended ≡ All
        → refusal ≡ None → new ≡ mid → TellsLast ended refusal mid new
    told ended refusal mid new e f same =
        subst (λ (x : Ended). TellsLast x refusal mid new) (sym e)
        (subst (λ (x : Option Refusal). TellsLast All x mid new) (sym f) same)

    left_so : (ended : Ended) (plan : Plan) (way : Way plan) (chip : ChipView)
        → Leaves plan way chip → LeavesAt ended plan way chip
    left_so All plan way chip l = l
    left_so (At stop) plan way chip l = tt
plan_ends plan (Err reason) old mid new status r tells answers =
    by_cases r.went
  where
    told : (ended : Ended) (refusal : Option Refusal) (said : Refusal) (mid new : World) → ended ≡ All
        → refusal ≡ Some said → Says said.line mid new → TellsLast ended refusal mid new
    told ended refusal said mid new e f says =
        subst (λ (x : Ended). TellsLast x refusal mid new) (sym e)
        (subst (λ (x : Option Refusal). TellsLast All x mid new) (sym f) says)

    left_so : (ended : Ended) (plan : Plan) (way : Way plan) (chip : ChipView)
        → Leaves plan way chip → LeavesAt ended plan way chip
    left_so All plan way chip l = l
    left_so (At stop) plan way chip l = tt

    by_cases : Went plan r.way (Err reason) old mid → EndsBy plan old new status
    by_cases (inl g) =
        let s = stop_ends (steps_of plan r.way) (last_status plan r.way) reason old mid new status g
        tells answers in
        record {
          way = r.way;
          texts = r.texts;
          stood = new;
          ends = s.1;
          last = subst (λ (x : Ended). TellsLast x (refused_last plan r.way) new new) (sym s.2) refl;
          left = subst (λ (x : Ended). LeavesAt x plan r.way new.chip) (sym s.2) tt;
        }
    by_cases (inr (refusal, some, is, has, g, left)) =
        let says : Says refusal.line mid new =
        subst (λ (x : Reason). Says (reason_line x) mid new) is tells in
        let e = all_ends (steps_of plan r.way) (last_status plan r.way) old mid mid status g refl
        (answers ∙ ap reason_status is ∙ sym has) in
        record {
          way = r.way;
          texts = r.texts;
          stood = mid;
          ends = e.0;
          last = told e.0.ended (refused_last plan r.way) refusal mid new e.1 some says;
          left = left_so e.0.ended plan r.way new.chip
              (subst (λ (c : ChipView). Leaves plan r.way c) (sym says.chip) left);
        }
