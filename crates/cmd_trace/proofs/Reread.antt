-- Events are read from their place on, so what is put in front of them changes no log.
use Rattle.cmd_trace.proofs.Common.{◌≡◌, ℕ, zero, suc, ◌+◌, ◌*◌, ◌-◌, ◌≤◌, List, length, drop, refl}
use Rattle.cmd_trace.proofs.Common.{sym, ◌∙◌, ap, arith, Result, Ok, Err, drop-drop, Geometry}
use Rattle.cmd_trace.proofs.Common.{Event, Write, ChipView, bits_of_bytes, ◌>>=◌, rule, Head}
use Rattle.cmd_trace.proofs.Common.{Commands, Writes, TraceFault, bytes_at, head_at, head_in}
use Rattle.cmd_trace.proofs.Common.{is_legal_head, needed, with_row, event_at, events_at}
use Rattle.trace_model.specs.declared.TraceKind.TheVariants as kinds
use Rattle.cmd_trace.specs.declared.sizes.TheConstants.{HEAD_BYTES_MAX}
use Rattle.cmd_trace.specs.Tape.{NotesView, kept_in, recorded}
use Rattle.cmd_trace.proofs.Tapes.{event_long, following, more_is, none_is, rest_of}

-- two lists of as many bytes, the same from a place on
record SameFrom (at : ℕ) (old new : List ℕ) : Type 0 where
  rest : drop at old ≡ drop at new
  long : length old ≡ length new

same_later : (at next : ℕ) (old new : List ℕ) → at ≤ next → SameFrom at old new
    → SameFrom next old new
same_later at next old new l s =
    let sum : next ≡ at + (next - at) = omega (arith, l) in
    record {
      rest = ap (λ (n : ℕ). drop n old) sum ∙ sym (drop-drop (next - at) at old)
          ∙ ap (drop (next - at)) s.rest ∙ drop-drop (next - at) at new
          ∙ ap (λ (n : ℕ). drop n new) (sym sum);
      long = s.long;
    }

bytes_same : (len at : ℕ) (old new : List ℕ) → SameFrom at old new
    → bytes_at len at old ≡ bytes_at len at new
bytes_same len at old new s = rw (s.rest, s.long) refl

head_same : (g : Geometry) (at : ℕ) (old new : List ℕ) → SameFrom at old new
    → head_at g at old ≡ head_at g at new
unfolding head_at
head_same g at old new s =
    let rest : List ℕ → Result Head TraceFault = λ field. needed (head_in g field) at kinds.Event
    >>= λ head. rule (is_legal_head g head) at kinds.Legal >>= λ _. Ok head in
    ap (λ (r : Result (List ℕ) TraceFault). r >>= rest) (bytes_same 8 at old new s)

row_same : (g : Geometry) (at : ℕ) (old new : List ℕ) → SameFrom at old new
    → (r : Result Head TraceFault)
    → (r >>= λ head. with_row g head at old) ≡ (r >>= λ head. with_row g head at new)
row_same g at old new s (Ok (Commands bank command)) = refl
row_same g at old new s (Ok (Writes bank row)) =
    let rest : List ℕ → Result (Event × ℕ) TraceFault =
    λ field. Ok (Write bank row (bits_of_bytes field), at + 8 + 8 * g.words) in
    let later = same_later at (at + 8) old new (omega arith) s in
    ap (λ (r : Result (List ℕ) TraceFault). r >>= rest)
    (bytes_same (8 * g.words) (at + 8) old new later)
row_same g at old new s (Err f) = refl

event_same : (g : Geometry) (at : ℕ) (old new : List ℕ) → SameFrom at old new
    → event_at g at old ≡ event_at g at new
unfolding event_at
event_same g at old new s =
    ap (λ (r : Result Head TraceFault). r >>= λ head. with_row g head at old)
    (head_same g at old new s) ∙ row_same g at old new s (head_at g at new)

rest_same : (n : ℕ) (g : Geometry) (at : ℕ) (old new : List ℕ) → SameFrom at old new
    → ((place : ℕ) → SameFrom place old new → events_at n g place old ≡ events_at n g place new)
    → (r : Result (Event × ℕ) TraceFault) → event_at g at old ≡ r
    → (r >>= rest_of n g old) ≡ (r >>= rest_of n g new)
rest_same n g at old new s next (Ok first) e =
    let long = event_long g at old first e in
    let later = same_later at first.1 old new (omega (arith, long)) s in
    ap (λ (r : Result (List Event × ℕ) TraceFault). r >>= following first.0) (next first.1 later)
rest_same n g at old new s next (Err f) e = refl

events_same : (n : ℕ) (g : Geometry) (at : ℕ) (old new : List ℕ) → SameFrom at old new
    → events_at n g at old ≡ events_at n g at new
events_same zero g at old new s = none_is g at old ∙ sym (none_is g at new)
events_same (suc n) g at old new s =
    more_is n g at old
    ∙ rest_same n g at old new s (λ place later. events_same n g place old new later)
    (event_at g at old) refl
    ∙ ap (λ (r : Result (Event × ℕ) TraceFault). r >>= rest_of n g new)
    (event_same g at old new s) ∙ sym (more_is n g at new)

-- a recorder shows what it showed, whatever stands in front of what was kept
pub shows_same : (chip : ChipView) (old new : NotesView) → new.known ≡ old.known
    → new.count ≡ old.count → length new.bytes ≡ length old.bytes → kept_in new ≡ kept_in old
    → recorded chip new ≡ recorded chip old
shows_same chip old new known count long kept =
    let g = chip.geometry in
    let same : SameFrom HEAD_BYTES_MAX new.bytes old.bytes =
    record { rest = kept; long = long } in
    let read : events_at new.count g HEAD_BYTES_MAX new.bytes
    ≡ events_at old.count g HEAD_BYTES_MAX old.bytes =
    ap (λ (n : ℕ). events_at n g HEAD_BYTES_MAX new.bytes) count
    ∙ events_same old.count g HEAD_BYTES_MAX new.bytes old.bytes same in
    rw (known, read, long, kept) refl
