-- Events that are read one after another.
use Rattle.cmd_trace.proofs.Common.{◌≡◌, ℕ, suc, ◌+◌, ◌-◌, ◌<◌, ◌≤◌, List, [], ◌∷◌, ◌++◌, refl, sym}
use Rattle.cmd_trace.proofs.Common.{◌∙◌, ap, arith, append_assoc, append-nil, Result, Ok, Err}
use Rattle.cmd_trace.proofs.Common.{Geometry, Event, ◌>>=◌, IsBytes, files_are_exact, TraceFault}
use Rattle.cmd_trace.proofs.Common.{event_at, events_at, trace_in}
use Rattle.std.specs.Prelude.{IfOk}
use Rattle.trace_model.specs.Spelling.{Trace, IsTrace, bytes_of_trace}
use Rattle.cmd_trace.specs.Opened.{Answers}
use Rattle.cmd_trace.specs.declared.fault.TraceNo.{TraceNo}
use Rattle.cmd_trace.proofs.Tapes.{rest_of, following, none_is, more_is}

-- these events, and those that are read after them
abbrev pub with_front : List Event → Result (List Event × ℕ) TraceFault
    → Result (List Event × ℕ) TraceFault
with_front front (Ok x) = Ok (front ++ x.0, x.1)
with_front front (Err f) = Err f

front_more : (front : List Event) (event : Event) (r : Result (List Event × ℕ) TraceFault)
    → with_front front (r >>= following event) ≡ with_front (front ++ event ∷ []) r
front_more front event (Ok x) =
    ap (λ (xs : List Event). Ok (xs, x.1)) (sym (append_assoc front (event ∷ []) x.0))
front_more front event (Err f) = refl

front_none : (r : Result (List Event × ℕ) TraceFault) → with_front [] r ≡ r
front_none (Ok x) = refl
front_none (Err f) = refl

pub events_more : (count k : ℕ) (g : Geometry) (front : List Event) (at : ℕ) (bytes : List ℕ)
    (event : Event) (next : ℕ) (total : Result (List Event × ℕ) TraceFault) → k < count
    → event_at g at bytes ≡ Ok (event, next)
    → with_front front (events_at (count - k) g at bytes) ≡ total
    → with_front (front ++ event ∷ []) (events_at (count - (k + 1)) g next bytes) ≡ total
events_more count k g front at bytes event next total l e so_far =
    let n = count - (k + 1) in
    let left : count - k ≡ suc n = omega (arith, l) in
    sym (front_more front event (events_at n g next bytes))
    ∙ sym (ap (λ (m : ℕ). with_front front (events_at m g at bytes)) left
    ∙ ap (with_front front) (more_is n g at bytes)
    ∙ ap (λ (r : Result (Event × ℕ) TraceFault). with_front front (r >>= rest_of n g bytes)) e)
    ∙ so_far

pub events_fault : (count k : ℕ) (g : Geometry) (front : List Event) (at : ℕ) (bytes : List ℕ)
    (f : TraceFault) (total : Result (List Event × ℕ) TraceFault) → k < count
    → event_at g at bytes ≡ Err f
    → with_front front (events_at (count - k) g at bytes) ≡ total → total ≡ Err f
events_fault count k g front at bytes f total l e so_far =
    let n = count - (k + 1) in
    let left : count - k ≡ suc n = omega (arith, l) in
    sym so_far ∙ ap (λ (m : ℕ). with_front front (events_at m g at bytes)) left
    ∙ ap (with_front front) (more_is n g at bytes)
    ∙ ap (λ (r : Result (Event × ℕ) TraceFault). with_front front (r >>= rest_of n g bytes)) e

pub events_end : (count k : ℕ) (g : Geometry) (front : List Event) (at : ℕ) (bytes : List ℕ)
    (total : Result (List Event × ℕ) TraceFault) → count ≤ k
    → with_front front (events_at (count - k) g at bytes) ≡ total → total ≡ Ok (front, at)
events_end count k g front at bytes total l so_far =
    let left : count - k ≡ 0 = omega (arith, l) in
    sym so_far ∙ ap (λ (m : ℕ). with_front front (events_at m g at bytes)) left
    ∙ ap (with_front front) (none_is g at bytes)
    ∙ ap (λ (xs : List Event). Ok (xs, at)) (append-nil front)

pub all_left : (count : ℕ) (g : Geometry) (at : ℕ) (bytes : List ℕ)
    → with_front [] (events_at (count - 0) g at bytes) ≡ events_at count g at bytes
all_left count g at bytes =
    let whole : count - 0 ≡ count = omega arith in
    ap (λ (n : ℕ). with_front [] (events_at n g at bytes)) whole
    ∙ front_none (events_at count g at bytes)

-- what is read of bytes is a trace, and they are its spelling
pub is_spelled : {X : Type 0} (bytes : List ℕ) (r : Result X TraceNo) (view : X → Trace)
    → IsBytes bytes → Answers view r (trace_in bytes)
    → IfOk r (λ x. IsTrace (view x) × (bytes ≡ bytes_of_trace (view x)))
is_spelled bytes (Ok x) view fits e = files_are_exact.spelled bytes (view x) fits e
is_spelled bytes (Err why) view fits e = tt
