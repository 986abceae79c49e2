-- A tape after one event more: what it tells.
use Rattle.cmd_trace.proofs.Common.{◌≡◌, ℕ, zero, suc, ◌+◌, ◌*◌, ◌^◌, ◌<◌, ◌≤◌, true, List, [], ◌∷◌}
use Rattle.cmd_trace.proofs.Common.{◌++◌, length, drop, refl, sym, ◌∙◌, ap, subst, arith}
use Rattle.cmd_trace.proofs.Common.{length-append, append_assoc, append-nil, Result, Ok, Err}
use Rattle.cmd_trace.proofs.Common.{drop_at, Counters, Geometry, Event, Grew, Row, Write, ChipView}
use Rattle.cmd_trace.proofs.Common.{Kept, Did, bits_of_words, bits_of_bytes, bytes_of_bits, ◌>>=◌}
use Rattle.cmd_trace.proofs.Common.{rule, Head, Commands, Writes, event_head_bytes, IsEvent}
use Rattle.cmd_trace.proofs.Common.{trace_head, Named, to_le_bytes, w32, TraceFault, bytes_at}
use Rattle.cmd_trace.proofs.Common.{head_at, head_in, is_legal_head, needed, with_row, event_at}
use Rattle.cmd_trace.proofs.Common.{events_at}
use Rattle.std.proofs.lemmas.Bool.{and_parts, eqb-true, eq-eqb}
use Rattle.std.proofs.Common.{Bool, false, ◌&&◌, cond, leb, Option, Some, None}
use Rattle.std.specs.Prelude.{IfSome, is_some}
use Rattle.std.specs.Str.{bytes_eq}
use Rattle.std.proofs.lemmas.Bool.Decides.{nat_tests}
use Rattle.std.proofs.lemmas.List.Concat.{flat_map-append}
use Rattle.std.proofs.lemmas.Slice.Eq.{bytes_eq-Decides}
use Rattle.std.proofs.lemmas.List.{drop_all}
use Rattle.dram_model.specs.Geometry.{is_geometry}
use Rattle.dram_model.specs.Chip.{Log, event_bits, log_bits}
use Rattle.dram_model.specs.View.{HasBegun}
use Rattle.bit_rows.proofs.Words.{length-words}
use Rattle.object_alloc.proofs.Images.{bounds_of}
use Rattle.object_alloc.proofs.Rows.{length-bits_of_bytes}
use Rattle.file_fields.proofs.Held.{Holds, bytes_takes, bytes_again, bind_ok, ok_is}
use Rattle.file_fields.proofs.Padded.{between_is}
use Rattle.trace_model.specs.declared.TraceKind.{TraceKind}
use Rattle.trace_model.specs.Spelling.{event_bytes, events_bytes, trace_bytes}
use Rattle.trace_model.proofs.Events.{event_again}
use Rattle.trace_model.proofs.Records.{event_length}
use Rattle.trace_model.proofs.Files.{few_rows}
use Rattle.dram_model.proofs.EventLaws.{log_bits-append}
use Rattle.trace_model.specs.declared.TraceKind.TheVariants as kinds
use Rattle.cmd_trace.specs.declared.sizes.TheConstants.{EVENTS_BYTES_MAX, HEAD_BYTES_MAX}
use Rattle.cmd_trace.specs.declared.sizes.TheConstants.{TRACE_BYTES_MAX}
use Rattle.cmd_trace.specs.Tape.{NotesView, ends_at, events_on, events_read, is_whole, kept_in}
use Rattle.cmd_trace.specs.Tape.{kept_on}
use Rattle.cmd_trace.specs.Tape.{empty_log, log_on, log_shown, marked, recorded}

-- ---- bytes after those that are read change nothing

drop_longer : (at : ℕ) (bytes more : List ℕ) → at ≤ length bytes
    → drop at (bytes ++ more) ≡ drop at bytes ++ more
drop_longer zero bytes more l = refl
drop_longer (suc at) [] more l = absurd (omega (arith, l))
drop_longer (suc at) (b ∷ bytes) more l = drop_longer at bytes more (omega (arith, l))

Holds_longer : (bytes : List ℕ) (at : ℕ) (text : List ℕ) (next : ℕ) (more : List ℕ)
    → Holds bytes at text next → Holds (bytes ++ more) at text next
Holds_longer bytes at text next more h = record {
  parts = drop_longer at bytes more (omega (arith, h.ends, h.within))
      ∙ ap (λ (t : List ℕ). t ++ more) h.parts
      ∙ append_assoc text (drop next bytes) more
      ∙ ap (λ (t : List ℕ). text ++ t) (sym (drop_longer next bytes more h.within));
  ends = h.ends;
  within = omega (arith, h.within, length-append bytes more);
}

bytes_longer : (len at : ℕ) (bytes more field : List ℕ) → bytes_at len at bytes ≡ Ok field
    → bytes_at len at (bytes ++ more) ≡ Ok field
bytes_longer len at bytes more field e =
    let t = bytes_takes kinds.Short len at (at + len) bytes field e refl in
    bytes_again kinds.Short len at (at + len) (bytes ++ more) field
    (Holds_longer bytes at field (at + len) more t.0) t.1

head_longer : (g : Geometry) (at : ℕ) (bytes more : List ℕ) (h : Head) → head_at g at bytes ≡ Ok h
    → head_at g at (bytes ++ more) ≡ Ok h
unfolding head_at
head_longer g at bytes more h e =
    let rest : List ℕ → Result Head TraceFault = λ field. needed (head_in g field) at kinds.Event
    >>= λ head. rule (is_legal_head g head) at kinds.Legal >>= λ _. Ok head in
    let a = bind_ok (bytes_at 8 at bytes) rest h e in
    ap (λ (r : Result (List ℕ) TraceFault). r >>= rest) (bytes_longer 8 at bytes more a.0 a.1)
    ∙ a.2

row_longer : (g : Geometry) (h : Head) (at : ℕ) (bytes more : List ℕ) (out : Event × ℕ)
    → with_row g h at bytes ≡ Ok out → with_row g h at (bytes ++ more) ≡ Ok out
row_longer g (Commands bank command) at bytes more out e = e
row_longer g (Writes bank row) at bytes more out e =
    let rest : List ℕ → Result (Event × ℕ) TraceFault =
    λ field. Ok (Write bank row (bits_of_bytes field), at + 8 + 8 * g.words) in
    let a = bind_ok (bytes_at (8 * g.words) (at + 8) bytes) rest out e in
    ap (λ (r : Result (List ℕ) TraceFault). r >>= rest)
    (bytes_longer (8 * g.words) (at + 8) bytes more a.0 a.1) ∙ a.2

event_longer : (g : Geometry) (at : ℕ) (bytes more : List ℕ) (out : Event × ℕ)
    → event_at g at bytes ≡ Ok out → event_at g at (bytes ++ more) ≡ Ok out
unfolding event_at
event_longer g at bytes more out e =
    let a = bind_ok (head_at g at bytes) (λ head. with_row g head at bytes) out e in
    ap (λ (r : Result Head TraceFault). r >>= λ head. with_row g head at (bytes ++ more))
    (head_longer g at bytes more a.0 a.1) ∙ row_longer g a.0 at bytes more out a.2

-- no events, and one before others
abbrev pub rest_of : ℕ → Geometry → List ℕ → Event × ℕ → Result (List Event × ℕ) TraceFault
rest_of n g bytes first = events_at n g first.1 bytes >>= λ events.
    Ok (first.0 ∷ events.0, events.1)

pub none_is : (g : Geometry) (at : ℕ) (bytes : List ℕ) → events_at 0 g at bytes ≡ Ok ([], at)
unfolding events_at
none_is g at bytes = refl

pub more_is : (n : ℕ) (g : Geometry) (at : ℕ) (bytes : List ℕ)
    → events_at (suc n) g at bytes ≡ (event_at g at bytes >>= rest_of n g bytes)
unfolding events_at
more_is n g at bytes = refl

abbrev pub following : Event → List Event × ℕ → Result (List Event × ℕ) TraceFault
following first events = Ok (first ∷ events.0, events.1)

-- one event more after others
pub events_snoc : (n : ℕ) (g : Geometry) (at : ℕ) (bytes more : List ℕ) (out : List Event × ℕ)
    (event : Event) (next : ℕ) → events_at n g at bytes ≡ Ok out
    → event_at g out.1 (bytes ++ more) ≡ Ok (event, next)
    → events_at (suc n) g at (bytes ++ more) ≡ Ok (out.0 ++ event ∷ [], next)
events_snoc zero g at bytes more out event next e f =
    let none : List Event × ℕ = ([], at) in
    let is : none ≡ out = ok_is {K = TraceKind} none out (sym (none_is g at bytes) ∙ e) in
    let all = bytes ++ more in
    subst (λ (x : List Event × ℕ). event_at g x.1 all ≡ Ok (event, next)
    → events_at 1 g at all ≡ Ok (x.0 ++ event ∷ [], next)) is (λ h. more_is 0 g at all
    ∙ ap (λ (r : Result (Event × ℕ) TraceFault). r >>= rest_of 0 g all) h
    ∙ ap (λ (r : Result (List Event × ℕ) TraceFault). r >>= following event) (none_is g next all)) f
events_snoc (suc n) g at bytes more out event next e f =
    let all = bytes ++ more in
    let a = bind_ok (event_at g at bytes) (rest_of n g bytes) out (sym (more_is n g at bytes) ∙ e)
    in
    let b = bind_ok (events_at n g a.0.1 bytes) (following a.0.0) out a.2 in
    let whole : List Event × ℕ = (a.0.0 ∷ b.0.0, b.0.1) in
    let same : whole ≡ out = ok_is {K = TraceKind} whole out b.2 in
    subst (λ (x : List Event × ℕ). event_at g x.1 all ≡ Ok (event, next)
    → events_at (suc (suc n)) g at all ≡ Ok (x.0 ++ event ∷ [], next)) same (λ h.
    more_is (suc n) g at all
    ∙ ap (λ (r : Result (Event × ℕ) TraceFault). r >>= rest_of (suc n) g all)
    (event_longer g at bytes more a.0 a.1)
    ∙ ap (λ (r : Result (List Event × ℕ) TraceFault). r >>= following a.0.0)
    (events_snoc n g a.0.1 bytes more b.0 event next b.1 h)) f

-- each event takes eight bytes at least
row_long : (g : Geometry) (h : Head) (at : ℕ) (bytes : List ℕ) (out : Event × ℕ)
    → with_row g h at bytes ≡ Ok out → at + 8 ≤ out.1
row_long g (Commands bank command) at bytes out e =
    let one : Event × ℕ = (Row bank command, at + 8) in
    subst (λ (x : Event × ℕ). at + 8 ≤ x.1) (ok_is {K = TraceKind} one out e) (omega arith)
row_long g (Writes bank row) at bytes out e =
    let rest : List ℕ → Result (Event × ℕ) TraceFault =
    λ field. Ok (Write bank row (bits_of_bytes field), at + 8 + 8 * g.words) in
    let a = bind_ok (bytes_at (8 * g.words) (at + 8) bytes) rest out e in
    let one : Event × ℕ = (Write bank row (bits_of_bytes a.0), at + 8 + 8 * g.words) in
    subst (λ (x : Event × ℕ). at + 8 ≤ x.1) (ok_is {K = TraceKind} one out a.2) (omega arith)

pub event_long : (g : Geometry) (at : ℕ) (bytes : List ℕ) (out : Event × ℕ)
    → event_at g at bytes ≡ Ok out → at + 8 ≤ out.1
unfolding event_at
event_long g at bytes out e =
    let a = bind_ok (head_at g at bytes) (λ head. with_row g head at bytes) out e in
    row_long g a.0 at bytes out a.2

pub events_long : (n : ℕ) (g : Geometry) (at : ℕ) (bytes : List ℕ) (out : List Event × ℕ)
    → events_at n g at bytes ≡ Ok out → at + 8 * n ≤ out.1
unfolding events_at
events_long zero g at bytes out e =
    let none : List Event × ℕ = ([], at) in
    subst (λ (x : List Event × ℕ). at + 0 ≤ x.1) (ok_is {K = TraceKind} none out e) (omega arith)
events_long (suc n) g at bytes out e =
    let rest : Event × ℕ → Result (List Event × ℕ) TraceFault = λ first.
    events_at n g first.1 bytes >>= λ events. Ok (first.0 ∷ events.0, events.1) in
    let a = bind_ok (event_at g at bytes) rest out e in
    let b = bind_ok (events_at n g a.0.1 bytes)
    (λ events. Ok (a.0.0 ∷ events.0, events.1)) out a.2 in
    let all : List Event × ℕ = (a.0.0 ∷ b.0.0, b.0.1) in
    let one = event_long g at bytes a.0 a.1 in
    let more = events_long n g a.0.1 bytes b.0 b.1 in
    subst (λ (x : List Event × ℕ). at + 8 * suc n ≤ x.1) (ok_is {K = TraceKind} all out b.2)
    (omega (arith, one, more))

-- and eight bits of the log for each byte
row_bits_are : (g : Geometry) (h : Head) (at : ℕ) (bytes : List ℕ) (out : Event × ℕ)
    → with_row g h at bytes ≡ Ok out → 8 * at + event_bits out.0 ≡ 8 * out.1
row_bits_are g (Commands bank command) at bytes out e =
    let one : Event × ℕ = (Row bank command, at + 8) in
    subst (λ (x : Event × ℕ). 8 * at + event_bits x.0 ≡ 8 * x.1) (ok_is {K = TraceKind} one out e)
    (omega arith)
row_bits_are g (Writes bank row) at bytes out e =
    let rest : List ℕ → Result (Event × ℕ) TraceFault =
    λ field. Ok (Write bank row (bits_of_bytes field), at + 8 + 8 * g.words) in
    let a = bind_ok (bytes_at (8 * g.words) (at + 8) bytes) rest out e in
    let one : Event × ℕ = (Write bank row (bits_of_bytes a.0), at + 8 + 8 * g.words) in
    let t = bytes_takes kinds.Short (8 * g.words) (at + 8) (at + 8 + 8 * g.words) bytes a.0 a.1
    refl in
    let size = length-bits_of_bytes a.0 in
    subst (λ (x : Event × ℕ). 8 * at + event_bits x.0 ≡ 8 * x.1)
    (ok_is {K = TraceKind} one out a.2) (omega (arith, size, t.1))

event_bits_are : (g : Geometry) (at : ℕ) (bytes : List ℕ) (out : Event × ℕ)
    → event_at g at bytes ≡ Ok out → 8 * at + event_bits out.0 ≡ 8 * out.1
unfolding event_at
event_bits_are g at bytes out e =
    let a = bind_ok (head_at g at bytes) (λ head. with_row g head at bytes) out e in
    row_bits_are g a.0 at bytes out a.2

-- the bytes that events were read from are what their log takes
pub log_bits_are : (n : ℕ) (g : Geometry) (at : ℕ) (bytes : List ℕ) (out : List Event × ℕ)
    → events_at n g at bytes ≡ Ok out → 8 * at + log_bits out.0 ≡ 8 * out.1
log_bits_are zero g at bytes out e =
    let none : List Event × ℕ = ([], at) in
    subst (λ (x : List Event × ℕ). 8 * at + log_bits x.0 ≡ 8 * x.1)
    (ok_is {K = TraceKind} none out (sym (none_is g at bytes) ∙ e)) (omega arith)
log_bits_are (suc n) g at bytes out e =
    let a = bind_ok (event_at g at bytes) (rest_of n g bytes) out (sym (more_is n g at bytes) ∙ e)
    in
    let b = bind_ok (events_at n g a.0.1 bytes) (following a.0.0) out a.2 in
    let all : List Event × ℕ = (a.0.0 ∷ b.0.0, b.0.1) in
    let one = event_bits_are g at bytes a.0 a.1 in
    let more = log_bits_are n g a.0.1 bytes b.0 b.1 in
    subst (λ (x : List Event × ℕ). 8 * at + log_bits x.0 ≡ 8 * x.1)
    (ok_is {K = TraceKind} all out b.2) (omega (arith, one, more))

-- an event takes eight bits of the log for each byte of its spelling
event_bits_of : (g : Geometry) (event : Event) → IsEvent g event
    → event_bits event ≡ 8 * length (event_bytes g event)
event_bits_of g (Row bank command) is =
    let l = event_length g (Row bank command) in omega (arith, l)
event_bits_of g (Write bank row bits) is =
    let l = event_length g (Write bank row bits) in
    let size = is.2 in omega (arith, l, size)

-- ---- what is whole

abbrev done : List Event × ℕ → Result (List Event × ℕ) TraceFault
done x = Ok x

ended : (size : ℕ) (r : Result (List Event × ℕ) TraceFault) → ends_at size r ≡ true
    → r ≡ done (events_read r, size)
ended size (Ok x) h = ap (λ (n : ℕ). done (x.0, n)) (eqb-true x.1 size h)
ended size (Err f) h = absurd cc

-- a tape that tells: its events, and that they are few
pub record Tells (g : Geometry) (tape : NotesView) : Type 0 where
  pub shape : is_geometry g ≡ true
  pub room : length tape.bytes ≤ TRACE_BYTES_MAX
  pub read : events_at tape.count g HEAD_BYTES_MAX tape.bytes
      ≡ Ok (events_on g tape, length tape.bytes)
  pub spelled : kept_in tape ≡ events_bytes g (events_on g tape)

at_most : (a b : ℕ) → leb a b ≡ true → a ≤ b
at_most a b h = grind (arith, nat_tests)

whole_case : (g : Geometry) (tape : NotesView) (known : Bool) → known ≡ true
    → cond known (is_geometry g && leb (length tape.bytes) TRACE_BYTES_MAX
    && ends_at (length tape.bytes) (events_at tape.count g HEAD_BYTES_MAX tape.bytes)
    && bytes_eq (kept_in tape) (events_bytes g (events_on g tape))) true ≡ true
    → Tells g tape
whole_case g tape true t h =
    let room = leb (length tape.bytes) TRACE_BYTES_MAX in
    let ends = ends_at (length tape.bytes) (events_at tape.count g HEAD_BYTES_MAX tape.bytes) in
    let same = bytes_eq (kept_in tape) (events_bytes g (events_on g tape)) in
    let a = and_parts (is_geometry g && room && ends) same h in
    let b = and_parts (is_geometry g && room) ends a.0 in
    let c = and_parts (is_geometry g) room b.0 in
    record {
      shape = c.0;
      room = at_most (length tape.bytes) TRACE_BYTES_MAX c.1;
      read = ended (length tape.bytes) (events_at tape.count g HEAD_BYTES_MAX tape.bytes) b.1;
      spelled = (bytes_eq-Decides (kept_in tape) (events_bytes g (events_on g tape))).0 a.1;
    }
whole_case g tape false t h = absurd cc

-- a recorder that lost nothing tells all events
pub tells : (g : Geometry) (tape : NotesView) → is_whole g tape ≡ true → tape.known ≡ true
    → Tells g tape
tells g tape h t = whole_case g tape tape.known t h

-- its count
pub few : (g : Geometry) (tape : NotesView) → Tells g tape → tape.count < 2 ^ 31
few g tape t =
    let l = events_long tape.count g HEAD_BYTES_MAX tape.bytes _ t.read in
    omega (arith, l, t.room)

abbrev shown : List Event → Log
shown events = record { room = 8 * EVENTS_BYTES_MAX; events = events }

log_known : (g : Geometry) (tape : NotesView) → tape.known ≡ true
    → log_shown g tape ≡ Some (shown (events_on g tape))
log_known g tape t = rw t refl

log_unknown : (g : Geometry) (tape : NotesView) → tape.known ≡ false → log_shown g tape ≡ None
log_unknown g tape t = rw t refl

grew_some : (a b : Option Log) (x y es : List Event) → a ≡ Some (shown x) → b ≡ Some (shown y)
    → y ≡ x ++ es → Grew a b es
grew_some a b x y es e f h = rw (e, f) (ap shown h)

grew_full : (a b : Option Log) (x es : List Event) → a ≡ Some (shown x) → b ≡ None
    → 8 * EVENTS_BYTES_MAX < log_bits (x ++ es) → Grew a b es
grew_full a b x es e f h = rw (e, f) h

grew_never : (a b : Option Log) (es : List Event) → a ≡ None → b ≡ None → Grew a b es
grew_never a b es e f = rw (e, f) tt

-- after an event: what was kept is whole again, and the log grew by it
record Known (g : Geometry) (tape new : NotesView) (event : Event) : Type 0 where
  whole : is_whole g new ≡ true
  grew : Grew (log_shown g tape) (log_shown g new) (event ∷ [])

fits_known : (g : Geometry) (tape : NotesView) (event : Event) → Tells g tape → tape.known ≡ true
    → IsEvent g event
    → leb (length tape.bytes + length (event_bytes g event)) TRACE_BYTES_MAX ≡ true
    → Known g tape (record tape {
      count = tape.count + 1;
      bytes = tape.bytes ++ event_bytes g event;
    }) event
fits_known g tape event t known is fits =
    let text = event_bytes g event in
    let bytes = tape.bytes ++ text in
    let old = events_on g tape in
    let long = length-append tape.bytes text in
    let one : tape.count + 1 ≡ suc tape.count = omega arith in
    let held : Holds bytes (length tape.bytes) text (length bytes) = record {
      parts = drop_at tape.bytes text (length tape.bytes) refl
          ∙ sym (ap (λ (r : List ℕ). text ++ r) (drop_all (length bytes) bytes (omega arith))
          ∙ append-nil text);
      ends = long;
      within = omega arith;
    } in
    let next : event_at g (length tape.bytes) bytes ≡ Ok (event, length bytes) =
    event_again g (length tape.bytes) (length bytes) bytes event (few_rows g t.shape) is held in
    let read : events_at (tape.count + 1) g HEAD_BYTES_MAX bytes
    ≡ Ok (old ++ event ∷ [], length bytes) = ap (λ (n : ℕ). events_at n g HEAD_BYTES_MAX bytes) one
    ∙ events_snoc tape.count g HEAD_BYTES_MAX tape.bytes text (old, length tape.bytes) event
    (length bytes) t.read next in
    let room : leb (length bytes) TRACE_BYTES_MAX ≡ true =
    ap (λ (n : ℕ). leb n TRACE_BYTES_MAX) long ∙ fits in
    let new : NotesView = record tape { count = tape.count + 1; bytes = bytes } in
    let few = events_long tape.count g HEAD_BYTES_MAX tape.bytes _ t.read in
    let spelled : drop HEAD_BYTES_MAX bytes ≡ events_bytes g (old ++ event ∷ []) =
    drop_longer HEAD_BYTES_MAX tape.bytes text (omega (arith, few))
    ∙ ap (λ (xs : List ℕ). xs ++ text) t.spelled
    ∙ sym (flat_map-append (event_bytes g) old (event ∷ [])
    ∙ ap (λ (xs : List ℕ). events_bytes g old ++ xs) (append-nil text)) in
    let same = (bytes_eq-Decides (drop HEAD_BYTES_MAX bytes)
    (events_bytes g (old ++ event ∷ []))).1 spelled in
    record {
      whole = rw (known, t.shape, room, read, eq-eqb (length bytes) (length bytes) refl, same) refl;
      grew = grew_some (log_shown g tape) (log_shown g new) old (old ++ event ∷ []) (event ∷ [])
          (log_known g tape known)
          (log_known g new known ∙ ap (λ r. Some (shown (events_read r))) read) refl;
    }

-- an event after which the room is too small
over : (g : Geometry) (tape : NotesView) (event : Event) → Tells g tape → IsEvent g event
    → leb (length tape.bytes + length (event_bytes g event)) TRACE_BYTES_MAX ≡ false
    → 8 * EVENTS_BYTES_MAX < log_bits (events_on g tape ++ event ∷ [])
over g tape event t is f =
    let past : TRACE_BYTES_MAX < length tape.bytes + length (event_bytes g event) =
    grind (arith, nat_tests) in
    let all = log_bits_are tape.count g HEAD_BYTES_MAX tape.bytes _ t.read in
    let one = event_bits_of g event is in
    let sum = log_bits-append (events_on g tape) (event ∷ []) in
    omega (arith, past, all, one, sum)

known_case : (g : Geometry) (tape : NotesView) (event : Event) (known fits : Bool)
    → tape.known ≡ known
    → leb (length tape.bytes + length (event_bytes g event)) TRACE_BYTES_MAX ≡ fits
    → is_whole g tape ≡ true → IsEvent g event
    → Known g tape (cond (known && fits)
    (record tape { count = tape.count + 1; bytes = tape.bytes ++ event_bytes g event })
    (record tape { known = false })) event
known_case g tape event true true t f h is = fits_known g tape event (tells g tape h t) t is f
known_case g tape event true false t f h is = record {
  whole = refl;
  grew = grew_full (log_shown g tape) None (events_on g tape) (event ∷ [])
      (log_known g tape t) refl (over g tape event (tells g tape h t) is f);
}
known_case g tape event false fits t f h is = record {
  whole = refl;
  grew = grew_never (log_shown g tape) None (event ∷ []) (log_unknown g tape t) refl;
}

kept_known : (g : Geometry) (tape : NotesView) (event : Event) → is_whole g tape ≡ true
    → IsEvent g event → Known g tape (kept_on tape (event_bytes g event)) event
kept_known g tape event h is = known_case g tape event tape.known
    (leb (length tape.bytes + length (event_bytes g event)) TRACE_BYTES_MAX) refl refl h is

-- ---- what a recorder shows after each call

-- an event that was Ok
pub record DidRecord (event : Event) (old new : ChipView) : Type 0 where
  pub kept : Kept old new
  pub did : Did (event ∷ []) old new

pub did_recorded : (event : Event) (old new : ChipView) (tape after : NotesView)
    → HasBegun (recorded old tape) → IsEvent old.geometry event → Kept old new
    → Did (event ∷ []) old new → after ≡ kept_on tape (event_bytes old.geometry event)
    → DidRecord event (recorded old tape) (recorded new after)
did_recorded event old new tape after h is kept did e =
    let b = and_parts old.begun (is_whole old.geometry tape) h in
    let known = kept_known old.geometry tape event b.1 is in
    let same = kept_on tape (event_bytes old.geometry event) in
    subst (λ (t : NotesView). DidRecord event (recorded old tape) (recorded new t)) (sym e) (record {
      kept = record {
        begun = rw (kept.begun, kept.geometry, b.0, b.1, known.whole) refl;
        geometry = kept.geometry;
        faults = kept.faults;
      };
      did = record {
        banks = did.banks;
        counters = did.counters;
        faults = did.faults;
        log = subst (λ (g : Geometry). Grew (log_shown old.geometry tape) (log_shown g same)
            (event ∷ [])) (sym kept.geometry) known.grew;
      };
    })

pub same_kept : (old new : ChipView) (tape : NotesView) → Kept old new
    → Kept (recorded old tape) (recorded new tape)
same_kept old new tape kept = record {
  begun = rw (kept.begun, kept.geometry) refl;
  geometry = kept.geometry;
  faults = kept.faults;
}

-- a mark
pub marked_shows : (chip : ChipView) (tape new : NotesView) (since : Counters) → HasBegun chip
    → is_geometry chip.geometry ≡ true → new ≡ marked since tape
    → length new.bytes ≡ HEAD_BYTES_MAX
    → recorded chip new ≡ record chip { log = Some empty_log }
marked_shows chip tape new since h is e l =
    let known : new.known ≡ true = ap (λ (t : NotesView). t.known) e in
    let none : new.count ≡ 0 = ap (λ (t : NotesView). t.count) e in
    let read : events_at new.count chip.geometry HEAD_BYTES_MAX new.bytes
    ≡ Ok ([], HEAD_BYTES_MAX) =
    ap (λ (n : ℕ). events_at n chip.geometry HEAD_BYTES_MAX new.bytes) none
    ∙ none_is chip.geometry HEAD_BYTES_MAX new.bytes in
    let rest : drop HEAD_BYTES_MAX new.bytes ≡ [] =
    drop_all HEAD_BYTES_MAX new.bytes (omega (arith, l)) in
    rw (h, known, read, is, l, rest) refl

-- what was kept is the spelling of the log
pub spelled_log : (chip : ChipView) (tape : NotesView) (kept : List ℕ)
    → HasBegun (recorded chip tape)
    → kept ≡ kept_in tape
    → IfSome (log_on chip.geometry tape) (λ events. kept ≡ events_bytes chip.geometry events)
spelled_log chip tape kept h e = log_case tape.known refl where
  log_case : (known : Bool) → tape.known ≡ known
      → IfSome (cond known (Some (events_on chip.geometry tape)) None)
      (λ events. kept ≡ events_bytes chip.geometry events)
  log_case true t = e ∙ (tells chip.geometry tape
      (and_parts chip.begun (is_whole chip.geometry tape) h).1 t).spelled
  log_case false t = tt

-- what a recorder needs to keep an event
pub few_kept : (chip : ChipView) (tape : NotesView) (bank : ℕ) → HasBegun (recorded chip tape)
    → bank < chip.geometry.banks → tape.known ≡ true → (bank < 256) × (tape.count < 2 ^ 31)
few_kept chip tape bank h l t =
    let g = chip.geometry in
    let tells = tells g tape (and_parts chip.begun (is_whole g tape) h).1 t in
    let b = between_is 1 16 g.banks (bounds_of g tells.shape).banks in
    (omega (arith, b.1, l), few g tape tells)

-- an event that does not fit
pub over_room : (tape : NotesView) (text : List ℕ)
    → TRACE_BYTES_MAX < length tape.bytes + length text
    → record tape { known = false } ≡ kept_on tape text
over_room tape text l = over_case tape.known where
  past : leb (length tape.bytes + length text) TRACE_BYTES_MAX ≡ false
  past = grind (arith, nat_tests)

  over_case : (known : Bool) → record tape { known = false }
      ≡ cond (known && leb (length tape.bytes + length text) TRACE_BYTES_MAX)
      (record tape { count = tape.count + 1; bytes = tape.bytes ++ text })
      (record tape { known = false })
  over_case true = rw past refl
  over_case false = refl

-- a row that the host wrote
pub did_written : (bank row : ℕ) (words : List ℕ) (old new : ChipView) (tape after : NotesView)
    → HasBegun (recorded old tape) → bank < old.geometry.banks → row < old.geometry.rows
    → length words ≡ old.geometry.words → Kept old new
    → Did (Write bank row (bits_of_words words) ∷ []) old new
    → after ≡ kept_on tape (event_head_bytes (Writes bank row)
    ++ bytes_of_bits (8 * length words) (bits_of_words words))
    → DidRecord (Write bank row (bits_of_words words)) (recorded old tape) (recorded new after)
did_written bank row words old new tape after h l m n kept did e =
    let long = length-words words in
    did_recorded (Write bank row (bits_of_words words)) old new tape after h
    (l, m, omega (arith, long, n)) kept did (e
    ∙ ap (λ (k : ℕ). kept_on tape (event_head_bytes (Writes bank row)
    ++ bytes_of_bits (8 * k) (bits_of_words words))) n)

pub events_number : (n : ℕ) (g : Geometry) (at : ℕ) (bytes : List ℕ) (out : List Event × ℕ)
    → events_at n g at bytes ≡ Ok out → length out.0 ≡ n
events_number zero g at bytes out e =
    let none : List Event × ℕ = ([], at) in
    let is : none ≡ out = ok_is {K = TraceKind} none out (sym (none_is g at bytes) ∙ e) in
    ap (λ (x : List Event × ℕ). length x.0) (sym is)
events_number (suc n) g at bytes out e =
    let a = bind_ok (event_at g at bytes) (rest_of n g bytes) out (sym (more_is n g at bytes) ∙ e)
    in
    let b = bind_ok (events_at n g a.0.1 bytes) (following a.0.0) out a.2 in
    let whole : List Event × ℕ = (a.0.0 ∷ b.0.0, b.0.1) in
    let more = events_number n g a.0.1 bytes b.0 b.1 in
    ap (λ (x : List Event × ℕ). length x.0) (sym (ok_is {K = TraceKind} whole out b.2))
    ∙ ap suc more

-- a log that is known
is_known : (events : List Event) (known : Bool) → is_some (cond known (Some events) None) ≡ true
    → known ≡ true
is_known events true h = refl
is_known events false h = h

-- the file of the log
pub file_of_log : (chip : ChipView) (tape : NotesView) (file : List ℕ) (table : List Named)
    → HasBegun (recorded chip tape) → is_some (log_on chip.geometry tape) ≡ true
    → file ≡ (trace_head chip.geometry table ++ to_le_bytes w32 tape.count) ++ kept_in tape
    → IfSome (log_on chip.geometry tape)
    (λ events. file ≡ trace_bytes chip.geometry table events)
unfolding trace_bytes
file_of_log chip tape file table h log e =
    let g = chip.geometry in
    let t = is_known (events_on g tape) tape.known log in
    let whole = tells g tape (and_parts chip.begun (is_whole g tape) h).1 t in
    let events = events_on g tape in
    let number : length events ≡ tape.count =
    events_number tape.count g HEAD_BYTES_MAX tape.bytes (events, length tape.bytes) whole.read in
    let head = trace_head g table in
    let spelled : file ≡ head ++ (to_le_bytes w32 (length events) ++ events_bytes g events) =
    e ∙ append_assoc head (to_le_bytes w32 tape.count) (kept_in tape)
    ∙ ap (λ (n : ℕ). head ++ (to_le_bytes w32 n ++ kept_in tape)) (sym number)
    ∙ ap (λ (xs : List ℕ). head ++ (to_le_bytes w32 (length events) ++ xs)) whole.spelled in
    rw t spelled
