-- A replay accepts what a recorded execution stored, and leaves what it left.
use Rattle.cli_laws.proofs.Common.{◌≡◌, ◌≤◌, ℕ, true, cond, List, Option, Some, None, refl, sym}
use Rattle.cli_laws.proofs.Common.{◌∙◌, ap, subst, length, inl, ◌==◌, Result, Ok, Err, IfSome}
use Rattle.cli_laws.proofs.Common.{list_any, result_ok, Geometry, Files, Found, ImageFault}
use Rattle.cli_laws.proofs.Common.{image_in, image_bytes, Image, rows_in_banks, Trace}
use Rattle.cli_laws.proofs.Common.{bytes_of_trace, replayed, files_are_exact, World, Reason}
use Rattle.cli_laws.proofs.Common.{CannotRead, TooLong, Refused, NoMemory, CannotWrite, PutFailed}
use Rattle.cli_laws.proofs.Common.{ChipFailed, reason_status, Ended, All, At, EndsSo, IsForetold}
use Rattle.cli_laws.proofs.Common.{last_status, steps_of, EndsBy, LeavesAt, at_own, TraceNames}
use Rattle.cli_laws.proofs.Common.{IMAGE_MAX, read_as, image_found, image_of, image_or_refusal}
use Rattle.cli_laws.proofs.Common.{Traced, trace_of}
use Rattle.trace_model.specs.Reading.{trace_in}
use Rattle.cli_model.specs.Ends.{IsFault}
use Rattle.cli_model.specs.Plan.{Plan}
use Rattle.cli_model.proofs.Giving.{steps_give}
use Rattle.cli_model.proofs.Good.{end_good, stop_by_fault}
use Rattle.cli_model.proofs.Owed.{GoodFor}
use Rattle.simdram_cli.specs.declared.words.Command.TheVariants.{Replay}
use Rattle.simdram_cli.specs.declared.words.ReplayNames.{ReplayNames}
use Rattle.simdram_cli.specs.Commands.{CanAnswer}
use Rattle.simdram_cli.specs.Replay.{replay_plan}
use Rattle.simdram_cli.specs.Traces.{geometry_differs, if_same, image_for, trace_or_refusal}
use Rattle.simdram_cli.proofs.Planned.{IsFailing, failing_apart, zero_tells}
use Rattle.simdram_cli.proofs.Replaying.{geometry_same, none_loads, replay_gives}
use Rattle.cli_laws.specs.Replays.{IsDoneUnlessFault, TracesAreAccepted, TracesReplay}
use Rattle.cli_laws.specs.Replays.{statuses_by_fault}
use Rattle.cli_laws.proofs.Images.{image_within}

same_some : {A : Type 0} (x y : A) → Some x ≡ Some y → x ≡ y
same_some x y e = cc

pub same_ok : (x y : Trace) → trace_in (bytes_of_trace x) ≡ Ok x
    → trace_in (bytes_of_trace y) ≡ Ok y → bytes_of_trace x ≡ bytes_of_trace y → x ≡ y
same_ok x y e f same =
    let one = sym e ∙ ap trace_in same ∙ f in cc

-- TRACE as it was stored
trace_kept : (recorded : TraceNames) (before after : Files) (a b : World) (status : ℕ)
    → (t : Traced recorded before after a b status)
    → after recorded.trace.now ≡ Some (bytes_of_trace (trace_of t.executed))
trace_kept recorded before after a b status t =
    ap (λ (f : Files). f recorded.trace.now) t.stored
    ∙ at_own recorded.trace.now (bytes_of_trace (trace_of t.executed)) t.between

pub traces_replay : TracesReplay
traces_replay recorded again before after then later a b c d status t r trace_same image_same =
    let own : Trace = trace_of t.executed in
    let kept = trace_kept recorded before after a b status t in
    let bytes : bytes_of_trace r.trace ≡ bytes_of_trace own =
    same_some _ _ (sym r.trace_is ∙ trace_same ∙ kept) in
    let traces : r.trace ≡ own =
    same_ok r.trace own (files_are_exact.read r.trace r.legal) t.accepted bytes in
    let images : r.image ≡ t.executed.image =
    same_some _ _ (sym r.image_is ∙ ap (read_as image_of) image_same ∙ t.executed.image_is) in
    let shapes : r.trace.geometry ≡ t.executed.image.geometry =
    sym r.same ∙ ap (λ (i : Image). i.geometry) images in
    r.file
    ∙ ap (λ (g : Geometry). Some (image_bytes g r.trace.table
    (rows_in_banks (replayed r.trace.events r.image)))) shapes
    ∙ ap (λ (x : Trace). Some (image_bytes t.executed.image.geometry x.table
    (rows_in_banks (replayed x.events r.image)))) traces
    ∙ ap (λ (i : Image). Some (image_bytes t.executed.image.geometry own.table
    (rows_in_banks (replayed own.events i)))) images
    ∙ sym t.replays

-- what is accepted

-- a file that is there and accepted as this image
record Accepts (file : Option (List ℕ)) (i : Image) : Type 0 where
  bytes : List ℕ
  there : file ≡ Some bytes
  is : image_of bytes ≡ Ok i
  within : length bytes ≤ IMAGE_MAX

read_within : (bytes : List ℕ) (read : Result Found ImageFault) (i : Image)
    → image_in bytes ≡ read → result_ok (image_or_refusal read) ≡ Some i
    → Accepts (Some bytes) i
read_within bytes (Ok found) i is e =
    let same : image_found found ≡ i = same_some _ _ e in
    record {
      bytes = bytes;
      there = refl;
      is = ap image_or_refusal is ∙ ap (λ (x : Image). Ok x) same;
      within = image_within bytes found is;
    }
read_within bytes (Err fault) i is e = absurd (cc)

accepts : (file : Option (List ℕ)) (i : Image) → read_as image_of file ≡ Some i → Accepts file i
accepts None i e = absurd (cc)
accepts (Some bytes) i e = read_within bytes (image_in bytes) i refl e

abbrev IsByFault : ℕ → Type 0
IsByFault code = list_any (λ s. s == code) statuses_by_fault ≡ true

reason_by_fault : (reason : Reason) → IsFault reason → IsByFault (reason_status reason)
reason_by_fault (CannotRead name) f = refl
reason_by_fault (TooLong name) f = absurd f
reason_by_fault (Refused refusal) f = absurd f
reason_by_fault NoMemory f = refl
reason_by_fault (CannotWrite name) f = refl
reason_by_fault PutFailed f = refl
reason_by_fault ChipFailed f = refl

-- a replay whose files are good is done, or a fault stopped it
good_ends : (again : ReplayNames) (c d : World) (code : ℕ)
    → GoodFor (λ s. s ≡ 0) (replay_plan again) c.files.holds
    → (e : EndsBy (replay_plan again) c d code)
    → IsDoneUnlessFault e.ends.ended × IsByFault code
good_ends again c d code good e = by_cases e.ends.ended e.ends.so e.ends.foretold e.left
  where
    plan : Plan
    plan = replay_plan again

    by_cases : (ended : Ended)
        → EndsSo (steps_of plan e.way) (last_status plan e.way) ended c e.stood code
        → IfSome c.files.holds (IsForetold (steps_of plan e.way) ended)
        → LeavesAt ended plan e.way d.chip → IsDoneUnlessFault ended × IsByFault code
    by_cases All so known left = (
      tt,
      subst IsByFault (sym (so.answers
          ∙ end_good (λ s. s ≡ 0) plan c.files.holds d.chip good e.way e.texts left)) refl,
    )
    by_cases (At stop) so known left =
        let F = IsFailing (Replay again) in
        let fault = stop_by_fault F (λ s. s ≡ 0) plan stop c e.stood code
        (λ s zero f. failing_apart (Replay again) s (zero_tells s zero) f) good e.way e.texts
        (steps_give F (CanAnswer (Replay again)) plan (replay_gives again) e.way) known so in
        (fault, subst IsByFault (sym so.answers) (reason_by_fault stop.reason fault))

pub traces_are_accepted : TracesAreAccepted
traces_are_accepted recorded again before after found a b c d status code t e there trace_same
    image_same =
    let own : Trace = trace_of t.executed in
    let i : Image = t.executed.image in
    let kept = trace_same ∙ trace_kept recorded before after a b status t in
    let image = accepts (before recorded.image.now) i t.executed.image_is in
    let lies = image_same ∙ image.there in
    let image_is : image_for own.geometry image.bytes ≡ Ok i =
    ap (if_same own.geometry) image.is
    ∙ ap (λ b. cond b (Ok i) (Err geometry_differs)) (geometry_same i.geometry own.geometry refl) in
    let good : GoodFor (λ s. s ≡ 0) (replay_plan again) (Some found) = (
      bytes_of_trace own,
      kept,
      t.within,
      inl (
        own,
        ap trace_or_refusal t.accepted,
        λ u legal. (
          image.bytes,
          lies,
          image.within,
          inl (i, image_is, (none_loads again.out.now own i, refl)),
        ),
      ),
    ) in
    good_ends again c d code (subst (GoodFor (λ s. s ≡ 0) (replay_plan again)) (sym there) good) e
