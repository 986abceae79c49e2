-- The pieces of a plan, as calls of a folder, a sink and a chip do them.
use Rattle.cli_model.proofs.Common.{◌≡◌, ℕ, ◌≤◌, List, [], ◌∷◌, ◌++◌, Option, Some, None, refl, ap}
use Rattle.cli_model.proofs.Common.{inl, inr, arith, Result, Ok, Err, IfSome, ChipView, Rose, Files}
use Rattle.cli_model.proofs.Common.{FolderView, Known, AppendsPart}
use Rattle.host_edge.specs.Views.{SinkView}
use Rattle.cli_model.specs.World.{World, world}
use Rattle.cli_model.specs.Steps.{Take, Put, Refusal, Reason, Refused, NoMemory, PutFailed}
use Rattle.cli_model.specs.Steps.{CannotWrite, Store, Stored, Unstored, ReadsOnly, Sent}
use Rattle.cli_model.specs.Plan.{Plan, Loads, Then}
use Rattle.cli_model.specs.Reads.{refusal_of, IsText, LoadedAs, NotLoaded, ReadAs, NotRead}
use Rattle.cli_model.specs.Runs.{Runs}
use Rattle.cli_model.proofs.Running.{loaded_text, runs_read, runs_stopped, runs_then, runs_unread}
use Rattle.std.specs.Option.{unwrap_or}

pub nothing_read : (w : World) → ReadsOnly w w
nothing_read w = record {
  files = refl;
  counts = record {
    load_faults = λ name. omega arith;
    store_faults = omega arith;
    taken = omega arith;
  };
  sink = refl;
  chip = refl;
}

-- out of memory where the plan takes it: the plan ends there
pub wants : (rest : Plan) (w : World) → Runs (Then (Take ∷ []) rest) w w (Err NoMemory)
wants rest w = runs_stopped (Take ∷ []) rest NoMemory w w (inr (refl, nothing_read w))

-- memory was taken, and the rest of the plan was done
pub takes : (rest : Plan) (result : Result ℕ Reason) (w new : World) → Runs rest w new result
    → Runs (Then (Take ∷ []) rest) w new result
takes rest result w new r =
    runs_then (Take ∷ []) rest result w w new (inl (w, (refl, refl))) r

sent : (R : List ℕ → List ℕ → Type 0) (files : FolderView) (old new : SinkView)
    (chip : ChipView)
    → Known R old.sent new.sent → old.faults ≤ new.faults
    → Sent R (world files old chip) (world files new chip)
sent R files old new chip t l = record { files = refl; sent = t; faults = l; chip = refl }

-- the sink took a part of a line or nothing: the plan ends there
pub unput : (text : List ℕ) (rest : Plan) (files : FolderView) (s t : SinkView) (chip : ChipView)
    → Known (AppendsPart text) s.sent t.sent → s.faults ≤ t.faults → Rose s.faults t.faults
    → Runs (Then (Put text ∷ []) rest) (world files s chip) (world files t chip) (Err PutFailed)
unput text rest files s t chip p n r =
    runs_stopped (Put text ∷ []) rest PutFailed (world files s chip) (world files t chip)
    (inr (refl, sent (AppendsPart text) files s t chip p n, r))

-- a line was sent, and the rest of the plan was done
pub puts : (text : List ℕ) (rest : Plan) (result : Result ℕ Reason) (files : FolderView)
    (s t : SinkView) (chip : ChipView) (new : World)
    → Known (λ before after. after ≡ before ++ text) s.sent t.sent → t.faults ≡ s.faults
    → Runs rest (world files t chip) new result
    → Runs (Then (Put text ∷ []) rest) (world files s chip) new result
puts text rest result files s t chip new p e r =
    runs_then (Put text ∷ []) rest result (world files s chip) (world files t chip) new
    (inl (
      world files t chip,
      (
        (sent (λ before after. after ≡ before ++ text) files s t chip p (omega (arith, e)), e),
        refl,
      ),
    )) r

-- a file could not be stored: the plan ends there
pub unstored : (name bytes : List ℕ) (rest : Plan) (f g : FolderView) (sink : SinkView)
    (chip : ChipView) → Unstored name (world f sink chip) (world g sink chip)
    → Runs (Then (Store name bytes ∷ []) rest) (world f sink chip) (world g sink chip)
    (Err (CannotWrite name))
unstored name bytes rest f g sink chip u =
    runs_stopped (Store name bytes ∷ []) rest (CannotWrite name) (world f sink chip)
    (world g sink chip) (inr (refl, u))

-- a file was stored, and the rest of the plan was done
pub stores : (name bytes : List ℕ) (rest : Plan) (result : Result ℕ Reason) (f g : FolderView)
    (sink : SinkView) (chip : ChipView) (new : World)
    → Stored name bytes (world f sink chip) (world g sink chip)
    → Runs rest (world g sink chip) new result
    → Runs (Then (Store name bytes ∷ []) rest) (world f sink chip) new result
stores name bytes rest result f g sink chip new s r =
    runs_then (Store name bytes ∷ []) rest result (world f sink chip) (world g sink chip) new
    (inl (world g sink chip, (s, refl))) r

-- a file that was read, and one that was not

-- a file was loaded and read, and the rest of the plan was done with its value
pub reads : {A : Type 0} (name : List ℕ) (limit : ℕ) (read : List ℕ → Result A Refusal)
    (rest : List ℕ → A → Plan) (value : A) (result : Result ℕ Reason) (old mid : FolderView)
    (sink : SinkView) (chip : ChipView) (new : World) → (r : ReadAs read name limit value old mid)
    → Runs (rest r.text value) (world mid sink chip) new result
    → Runs (Loads name limit read rest) (world old sink chip) new result
reads name limit read rest value result old mid sink chip new r more =
    runs_read name limit read rest r.text value result (world old sink chip) (world mid sink chip)
    new r.value_is (r.loaded sink chip) more

-- a file was not loaded, or not accepted: the plan ends there
pub unread : {A : Type 0} (name : List ℕ) (limit : ℕ) (read : List ℕ → Result A Refusal)
    (rest : List ℕ → A → Plan) (reason : Reason) (old new : FolderView) (sink : SinkView) (chip : ChipView)
    → NotRead read name limit reason old new
    → Runs (Loads name limit read rest) (world old sink chip) (world new sink chip) (Err reason)
unread name limit read rest reason old new sink chip n =
    runs_unread name limit read rest n.text reason (world old sink chip) (world new sink chip)
    n.is_text (n.fails sink chip)

abbrev known_text : Option Files → List ℕ → List ℕ
known_text None name = []
known_text (Some files) name = unwrap_or (files name) []

bytes_text : (o : Option (List ℕ)) → IfSome o (λ bytes. bytes ≡ unwrap_or o [])
bytes_text None = tt
bytes_text (Some bytes) = refl

known_is_text : (holds : Option Files) (name : List ℕ) → IsText holds name (known_text holds name)
known_is_text None name = tt
known_is_text (Some files) name = bytes_text (files name)

-- one that was not loaded, is refused, or could not be read, out of memory
pub unloaded : {A : Type 0} (name : List ℕ) (limit : ℕ) (read : List ℕ → Result A Refusal)
    (rest : List ℕ → A → Plan) (reason : Reason) (old new : FolderView) (sink : SinkView) (chip : ChipView)
    → NotLoaded name limit reason old new
    → Runs (Loads name limit read rest) (world old sink chip) (world new sink chip) (Err reason)
unloaded name limit read rest reason old new sink chip n =
    let text = known_text old.holds name in
    runs_unread name limit read rest text reason (world old sink chip) (world new sink chip)
    (known_is_text old.holds name) (n text (refusal_of (read text)) sink chip)

-- a file was loaded and its text refused: the plan ends there
pub refused : {A : Type 0} (name : List ℕ) (limit : ℕ) (read : List ℕ → Result A Refusal)
    (rest : List ℕ → A → Plan) (text : List ℕ) (refusal : Refusal) (old new : FolderView) (sink : SinkView)
    (chip : ChipView) → LoadedAs name limit text old new → read text ≡ Err refusal
    → Runs (Loads name limit read rest) (world old sink chip) (world new sink chip)
    (Err (Refused refusal))
refused name limit read rest text refusal old new sink chip l e =
    runs_unread name limit read rest text (Refused refusal) (world old sink chip)
    (world new sink chip) (loaded_text name limit text (world old sink chip) (world new sink chip)
    (l sink chip)) (ap refusal_of e, l sink chip)

-- a file was loaded, and memory to read it was wanting: the plan ends there
pub unparsed : {A : Type 0} (name : List ℕ) (limit : ℕ) (read : List ℕ → Result A Refusal)
    (rest : List ℕ → A → Plan) (text : List ℕ) (old new : FolderView) (sink : SinkView)
    (chip : ChipView) → LoadedAs name limit text old new
    → Runs (Loads name limit read rest) (world old sink chip) (world new sink chip) (Err NoMemory)
unparsed name limit read rest text old new sink chip l =
    runs_unread name limit read rest text NoMemory (world old sink chip)
    (world new sink chip) (loaded_text name limit text (world old sink chip) (world new sink chip)
    (l sink chip)) (l sink chip).reads

-- a file was loaded, its text is accepted, and the rest of the plan was done with its value
pub parsed : {A : Type 0} (name : List ℕ) (limit : ℕ) (read : List ℕ → Result A Refusal)
    (rest : List ℕ → A → Plan) (text : List ℕ) (value : A) (result : Result ℕ Reason) (old mid : FolderView)
    (sink : SinkView) (chip : ChipView) (new : World) → LoadedAs name limit text old mid
    → read text ≡ Ok value → Runs (rest text value) (world mid sink chip) new result
    → Runs (Loads name limit read rest) (world old sink chip) new result
parsed name limit read rest text value result old mid sink chip new l e more =
    runs_read name limit read rest text value result (world old sink chip) (world mid sink chip)
    new e (l sink chip) more
