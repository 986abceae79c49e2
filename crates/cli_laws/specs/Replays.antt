-- A recorded execution and a replay of what it recorded.
use Rattle.std.specs.Prelude.{◌≡◌, ◌==◌, ℕ, true, List, [], ◌∷◌, Some}
use Rattle.std.specs.List.{list_any}
use Rattle.host_edge.specs.Views.{Files}
use Rattle.cli_model.specs.World.{World}
use Rattle.cli_model.specs.Ends.{Ended, All, At, IsFault}
use Rattle.cli_model.specs.Runs.{EndsBy}
use Rattle.simdram_cli.specs.declared.words.ReplayNames.{ReplayNames}
use Rattle.simdram_cli.specs.declared.words.TraceNames.{TraceNames}
use Rattle.simdram_cli.specs.Replay.{Replayed, replay_plan}
use Rattle.simdram_cli.specs.Tracing.{Traced}

-- A replay of the TRACE that a recorded execution stored, on the IMAGE that it read, writes the OUT
-- that it wrote, byte for byte
abbrev pub TracesReplay : Type 0
TracesReplay =
    (recorded : TraceNames) (again : ReplayNames) (before after then later : Files)
    (a b c d : World) (status : ℕ) → Traced recorded before after a b status
    → Replayed again then later c d
    → then again.trace.now ≡ after recorded.trace.now
    → then again.image.now ≡ before recorded.image.now
    → later again.out.now ≡ after recorded.out.now

-- all steps of a command were done, or a fault stopped it that no file foretells: a call failed, or
-- it was out of memory
abbrev pub IsDoneUnlessFault : Ended → Type 0
IsDoneUnlessFault All = Unit {0}
IsDoneUnlessFault (At stop) = IsFault stop.reason

-- the statuses of such an end: it is done; a file is not read; one is not written, or a line not
-- sent; the chip failed; there was no memory
abbrev pub statuses_by_fault : List ℕ
statuses_by_fault = 0 ∷ 2 ∷ 3 ∷ 9 ∷ 10 ∷ []

-- Where a replay finds the TRACE that a recorded execution stored and the IMAGE that it read, no
-- file is at fault: neither is too long, neither is refused, and they have one geometry. So it is
-- done, unless a call fails or it is out of memory
abbrev pub TracesAreAccepted : Type 0
TracesAreAccepted =
    (recorded : TraceNames) (again : ReplayNames) (before after found : Files)
    (a b c d : World) (status code : ℕ) → Traced recorded before after a b status
    → (e : EndsBy (replay_plan again) c d code) → c.files.holds ≡ Some found
    → found again.trace.now ≡ after recorded.trace.now
    → found again.image.now ≡ before recorded.image.now
    → IsDoneUnlessFault e.ends.ended × (list_any (λ s. s == code) statuses_by_fault ≡ true)
