-- What a recorder keeps.
use Rattle.std.proofs.Common.{◌≡◌, ℕ, ◌+◌, ◌*◌, ◌≤◌, Bool, true, false, cond, leb, List, [], ◌∷◌}
use Rattle.std.proofs.Common.{◌++◌, length, length-append, refl, sym, ◌∙◌, ap, arith, append_assoc}
use Rattle.std.proofs.Common.{append-nil, mul-add}
use Rattle.std.proofs.lemmas.Bool.Decides.{nat_tests}
use Rattle.std.proofs.lemmas.List.Concat.{flat_map-cons}
use Rattle.dram_model.specs.declared.geometry.Geometry.{Geometry}
use Rattle.dram_model.specs.declared.dram.Counters.{Counters}
use Rattle.dram_model.specs.declared.address.Command.TheVariants.{Ap, Aap}
use Rattle.dram_model.specs.Chip.{Event, all_counted, counted}
use Rattle.dram_model.specs.Chip.Event.{Row, Write}
use Rattle.object_alloc.proofs.Rows.{length-bytes_of_bits}
use Rattle.object_alloc.specs.Bytes.{bytes_of_bits}
use Rattle.trace_model.specs.Spelling.{Writes, event_head_bytes, event_bytes, events_bytes}
use Rattle.trace_model.specs.Recorder.{event_size, events_size, Kept, nothing_kept, kept_more}
use Rattle.trace_model.specs.Recorder.{kept_from, kept_of}
use Rattle.trace_model.specs.Laws.{KeepsWhatFits, FittingAreFew}

at_most : (a b : ℕ) → a ≤ b → leb a b ≡ true
at_most a b h = grind (arith, nat_tests)

kept_all : (g : Geometry) (room : ℕ) (k : Kept) (events : List Event)
    → k.size + events_size g events ≤ room → (kept_from g room k events).bytes ≡ k.bytes
    ++ events_bytes g events
kept_all g room k [] l = sym (append-nil k.bytes)
kept_all g room k (event ∷ events) l =
    let fits = at_most (k.size + event_size g event) room (omega (arith, l)) in
    kept_all g room (kept_more g room k event) events (omega (arith, l))
    ∙ rw fits (append_assoc k.bytes (event_bytes g event) (events_bytes g events))
    ∙ ap (λ (t : List ℕ). k.bytes ++ t) (sym (flat_map-cons (event_bytes g) event events))

pub kept : (g : Geometry) (room : ℕ) (events : List Event) → events_size g events ≤ room
    → (kept_of g room events).bytes ≡ events_bytes g events
kept g room events l = kept_all g room nothing_kept events (omega (arith, l))

sized : (g : Geometry) (room : ℕ) (k : Kept) (events : List Event)
    → (kept_from g room k events).size ≡ k.size + events_size g events
sized g room k [] = omega arith
sized g room k (event ∷ events) = let r = sized g room (kept_more g room k event) events in omega
    (arith, r)

pub size : (g : Geometry) (room : ℕ) (events : List Event)
    → (kept_of g room events).size ≡ events_size g events
size g room events = let r = sized g room nothing_kept events in omega (arith, r)

more_from : (g : Geometry) (room : ℕ) (k : Kept) (events : List Event) (event : Event)
    → kept_from g room k (events ++ event ∷ []) ≡ kept_more g room (kept_from g room k events) event
more_from g room k [] event = refl
more_from g room k (e ∷ events) event = more_from g room (kept_more g room k e) events event

pub more : (g : Geometry) (room : ℕ) (events : List Event) (event : Event)
    → kept_of g room (events ++ event ∷ []) ≡ kept_more g room (kept_of g room events) event
more g room events event = more_from g room nothing_kept events event

one_write : (x w : ℕ) → 8 * x * (w + 1) ≡ 8 * x * w + 8 * x
one_write x w = mul-add (8 * x) w 1 ∙ omega arith

pub counted_by : (g : Geometry) (events : List Event) (k : Counters) →
    events_size g events + 8 * (k.aap + k.ap + k.writes) + 8 * g.words * k.writes
    ≡ 8 * ((all_counted events k).aap + (all_counted events k).ap +
    (all_counted events k).writes) + 8 * g.words * (all_counted events k).writes
counted_by g [] k = omega arith
counted_by g (Row bank (Ap x) ∷ events) k = let r =
    counted_by g events (counted (Row bank (Ap x)) k) in omega (arith, r)
counted_by g (Row bank (Aap x y) ∷ events) k = let r =
    counted_by g events (counted (Row bank (Aap x y)) k) in omega (arith, r)
counted_by g (Write bank row bits ∷ events) k =
    let r = counted_by g events (counted (Write bank row bits) k) in
    let w = one_write g.words k.writes in
    omega (arith, r, w)

-- an event takes as many bytes as a recorder counts for it
pub event_length : (g : Geometry) (event : Event)
    → length (event_bytes g event) ≡ event_size g event
event_length g (Row bank (Ap x)) = refl
event_length g (Row bank (Aap x y)) = refl
event_length g (Write bank row bits) = let n = length-bytes_of_bits (8 * g.words) bits in let m =
    length-append (event_head_bytes (Writes bank row)) (bytes_of_bits (8 * g.words) bits) in omega
    (arith, n, m)

-- the bytes fit in the room, and are no more than the size
record IsWithin (room : ℕ) (k : Kept) : Type 0 where
  room_holds : length k.bytes ≤ room
  size_holds : length k.bytes ≤ k.size

grown : (b : Bool) (room size : ℕ) (bytes more : List ℕ) (s : ℕ) → leb (size + s) room ≡ b
    → length more ≡ s → length bytes ≤ room → length bytes ≤ size
    → (length (cond b (bytes ++ more) bytes) ≤ room)
    × (length (cond b (bytes ++ more) bytes) ≤ size + s)
grown true room size bytes more s e n a c =
    let fits : size + s ≤ room = below (size + s) room e in
    let long = length-append bytes more in
    (omega (arith, fits, long, n, c), omega (arith, long, n, c)) where
      below : (x y : ℕ) → leb x y ≡ true → x ≤ y
      below x y h = grind (arith, nat_tests)
grown false room size bytes more s e n a c = (a, omega (arith, c))

within_more : (g : Geometry) (room : ℕ) (k : Kept) (event : Event) → IsWithin room k
    → IsWithin room (kept_more g room k event)
within_more g room k event w =
    let r = grown (leb (k.size + event_size g event) room) room k.size k.bytes (event_bytes g event)
    (event_size g event) refl (event_length g event) w.room_holds w.size_holds in
    record { room_holds = r.0; size_holds = r.1 }

within_all : (g : Geometry) (room : ℕ) (k : Kept) (events : List Event) → IsWithin room k
    → IsWithin room (kept_from g room k events)
within_all g room k [] w = w
within_all g room k (event ∷ events) w = within_all g room (kept_more g room k event) events
    (within_more g room k event w)

pub within : (g : Geometry) (room : ℕ) (events : List Event)
    → length (kept_of g room events).bytes ≤ room
within g room events = (within_all g room nothing_kept events (record {
  room_holds =
      omega arith;
  size_holds = omega arith;
})).room_holds

event_some : (g : Geometry) (event : Event) → 8 ≤ event_size g event
event_some g (Row bank command) = omega arith
event_some g (Write bank row bits) = omega arith

-- an event takes eight bytes at least
pub fitting_are_few : FittingAreFew
fitting_are_few g [] = omega arith
fitting_are_few g (event ∷ events) =
    let one = event_some g event in
    let rest = fitting_are_few g events in
    omega (arith, one, rest)

pub keeps_what_fits : KeepsWhatFits
keeps_what_fits = record {
  kept = kept;
  within = within;
  size = size;
  more = more;
  counted = counted_by;
}
