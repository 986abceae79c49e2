-- Events that are done one after another.
use Rattle.cmd_trace.proofs.Common.{◌≡◌, ℕ, suc, ◌+◌, ◌-◌, ◌<◌, ◌≤◌, true, List, [], ◌∷◌, ◌++◌}
use Rattle.cmd_trace.proofs.Common.{refl, ◌∙◌, ap, subst, arith, append-nil, Result, Ok, Err}
use Rattle.cmd_trace.proofs.Common.{Geometry, Event, Grew, ChipView, Did, Kept, ◌>>=◌, IsBytes}
use Rattle.cmd_trace.proofs.Common.{IsEvent, TraceFault, event_at, events_at}
use Rattle.std.specs.Prelude.{OnErr}
use Rattle.dram_model.specs.Chip.{Banks, bank_of}
use Rattle.dram_model.specs.View.{FailedIn, StoppedIn}
use Rattle.dram_model.proofs.EventLaws.{Grew-more}
use Rattle.trace_model.proofs.Events.{event_takes}
use Rattle.cmd_trace.specs.Tape.{ends_at, events_read}
use Rattle.cmd_trace.proofs.Tapes.{rest_of, following, none_is, more_is}

-- events that are left at a place, and all are whole
abbrev pub Left : (size n : ℕ) → Geometry → (at : ℕ) → List ℕ → Type 0
Left size n g at bytes = ends_at size (events_at n g at bytes) ≡ true

left_case : (size n : ℕ) (g : Geometry) (bytes : List ℕ) (r : Result (Event × ℕ) TraceFault)
    (event : Event) (next : ℕ) → r ≡ Ok (event, next)
    → ends_at size (r >>= rest_of n g bytes) ≡ true
    → ends_at size (events_at n g next bytes >>= following event) ≡ true
left_case size n g bytes r event next e h =
    subst (λ (x : Result (Event × ℕ) TraceFault). ends_at size (x >>= rest_of n g bytes) ≡ true) e h

drop_first : (size : ℕ) (event : Event) (r : Result (List Event × ℕ) TraceFault)
    → ends_at size (r >>= following event) ≡ true → ends_at size r ≡ true
drop_first size event (Ok x) h = h
drop_first size event (Err f) h = h

read_first : (event : Event) (size : ℕ) (r : Result (List Event × ℕ) TraceFault)
    → ends_at size (r >>= following event) ≡ true
    → events_read (r >>= following event) ≡ event ∷ events_read r
read_first event size (Ok x) h = refl
read_first event size (Err f) h = absurd cc

one_left : (count k : ℕ) → k < count → count - k ≡ suc (count - (k + 1))
one_left count k l = omega (arith, l)

-- one event fewer
pub left_more : (size count k : ℕ) (g : Geometry) (at : ℕ) (bytes : List ℕ) (event : Event)
    (next : ℕ) → k < count → event_at g at bytes ≡ Ok (event, next)
    → Left size (count - k) g at bytes → Left size (count - (k + 1)) g next bytes
left_more size count k g at bytes event next l e h =
    let n = count - (k + 1) in
    drop_first size event (events_at n g next bytes)
    (left_case size n g bytes (event_at g at bytes) event next e
    (subst (λ (r : Result (List Event × ℕ) TraceFault). ends_at size r ≡ true)
    (ap (λ (m : ℕ). events_at m g at bytes) (one_left count k l) ∙ more_is n g at bytes) h))

pub read_more : (size count k : ℕ) (g : Geometry) (at : ℕ) (bytes : List ℕ) (event : Event)
    (next : ℕ) → k < count → event_at g at bytes ≡ Ok (event, next)
    → Left size (count - k) g at bytes → events_read (events_at (count - k) g at bytes)
    ≡ event ∷ events_read (events_at (count - (k + 1)) g next bytes)
read_more size count k g at bytes event next l e h =
    let n = count - (k + 1) in
    let is = ap (λ (m : ℕ). events_at m g at bytes) (one_left count k l) ∙ more_is n g at bytes in
    ap events_read (is ∙ ap (λ (r : Result (Event × ℕ) TraceFault). r >>= rest_of n g bytes) e)
    ∙ read_first event size (events_at n g next bytes)
    (left_case size n g bytes (event_at g at bytes) event next e
    (subst (λ (r : Result (List Event × ℕ) TraceFault). ends_at size r ≡ true) is h))

-- no event of those that are left is a fault
pub no_fault : (size count k : ℕ) (g : Geometry) (at : ℕ) (bytes : List ℕ) (f : TraceFault)
    → k < count → event_at g at bytes ≡ Err f → Left size (count - k) g at bytes → ⊥
no_fault size count k g at bytes f l e h =
    let n = count - (k + 1) in
    let is = ap (λ (m : ℕ). events_at m g at bytes) (one_left count k l) ∙ more_is n g at bytes
    ∙ ap (λ (r : Result (Event × ℕ) TraceFault). r >>= rest_of n g bytes) e in
    let none = subst (λ (r : Result (List Event × ℕ) TraceFault). ends_at size r ≡ true) is h in
    absurd cc

-- at the end
pub none_left : (count k : ℕ) (g : Geometry) (at : ℕ) (bytes : List ℕ) → count ≤ k
    → events_read (events_at (count - k) g at bytes) ≡ []
none_left count k g at bytes l =
    let left : count - k ≡ 0 = omega (arith, l) in
    ap (λ (m : ℕ). events_read (events_at m g at bytes)) left ∙ ap events_read (none_is g at bytes)

pub event_fits : (g : Geometry) (at : ℕ) (bytes : List ℕ) (event : Event) (next : ℕ)
    → IsBytes bytes → event_at g at bytes ≡ Ok (event, next) → IsEvent g event
event_fits g at bytes event next fits e = (event_takes g at bytes (event, next) fits e).is

-- a call failed after the events so far
pub stopped : (done left events : List Event) (event : Event) (first mid new : ChipView)
    → done ++ event ∷ left ≡ events → Did done first mid → Kept first mid
    → FailedIn (bank_of event) mid new → Grew mid.log new.log [] → StoppedIn events first new
stopped done left events event first mid new e did kept failed grew = record {
  done = done;
  event = event;
  left = left;
  all = e;
  known = subst (λ (es : List Event). Grew first.log new.log es) (append-nil done)
      (Grew-more first.log mid.log new.log done [] did.log grew);
  others = λ bank other. failed.others bank other ∙ ap (λ (banks : Banks). banks bank) did.banks;
  rose = omega (arith, failed.rose, kept.faults);
}

pub on_err : {T E P : Type 0} (r : Result T E) → P → OnErr r P
on_err (Ok x) p = tt
on_err (Err e) p = p
