-- A trace file is read exactly.
use Rattle.std.proofs.Common.{◌≡◌, ℕ, ◌+◌, ◌*◌, ◌^◌, ◌≤◌, true, eqb, List, ◌++◌, length, refl, sym}
use Rattle.std.proofs.Common.{◌∙◌, ap, subst, arith, length-append, append-nil}
use Rattle.std.specs.Prelude.{Ok, Result, flat_map, codes}
use Rattle.std.specs.Int.{to_le_bytes, w16, w32}
use Rattle.std.specs.Str.{bytes_eq}
use Rattle.std.proofs.lemmas.Bool.{eqb-true, eq-eqb}
use Rattle.std.proofs.lemmas.List.{drop_all}
use Rattle.std.proofs.lemmas.Slice.Eq.{bytes_eq-Decides}
use Rattle.dram_model.specs.declared.geometry.Geometry.{Geometry}
use Rattle.dram_model.specs.Geometry.{is_geometry}
use Rattle.dram_model.specs.Chip.{Event}
use Rattle.object_alloc.specs.Listed.{Named}
use Rattle.object_alloc.specs.Spelling.{geometry_bytes, table_bytes, object_bytes}
use Rattle.object_alloc.specs.Reading.{geometry_at, table_at, rows_start}
use Rattle.object_alloc.proofs.Images.{geometry_takes, geometry_again, table_takes, table_again}
use Rattle.object_alloc.proofs.Images.{IsListed, bounds_of}
use Rattle.object_alloc.proofs.Exact.{objects_size}
use Rattle.file_fields.specs.Fields as fields
use Rattle.file_fields.specs.Fields.{IsBytes, ◌>>=◌, rule}
use Rattle.file_fields.proofs.Held.{Holds, Holds-then, Holds-front, Holds-back, bytes_takes}
use Rattle.file_fields.proofs.Held.{bytes_again, field_takes, field_again, number_takes}
use Rattle.file_fields.proofs.Held.{number_again, wide16, wide32, bind_ok, ok_is, rule_ok}
use Rattle.file_fields.proofs.Padded.{between_is}
use Rattle.trace_model.specs.declared.TraceKind.{TraceKind}
use Rattle.trace_model.specs.declared.TraceKind.TheVariants as kinds
use Rattle.trace_model.specs.Spelling.{events_bytes, trace_opening, trace_head, trace_bytes}
use Rattle.trace_model.specs.Spelling.{bytes_of_trace, Trace, IsTrace, IsWritten}
use Rattle.trace_model.specs.Reading.{TraceFault, bytes_at, lifted, opening_in, events_at}
use Rattle.trace_model.specs.Reading.{events_start, trace_in}
use Rattle.trace_model.specs.Laws.{FilesAreExact}
use Rattle.trace_model.proofs.Events.{lifted_ok, events_again, events_take}

abbrev version_at : List ℕ → Result ℕ TraceFault
version_at bytes = fields.field_at kinds.Short w16 (λ version. eqb version 1) kinds.Version 4 bytes

abbrev finished : Result (Unit {0}) TraceFault
finished = Ok tt

opening_takes : (bytes : List ℕ) (x : Unit {0}) → IsBytes bytes → opening_in bytes ≡ Ok x
    → Holds bytes 0 trace_opening 6
unfolding opening_in
opening_takes bytes x fits e =
    let a = bind_ok (bytes_at 4 0 bytes)
    (λ magic. rule (bytes_eq magic (codes "SDMT")) 0 kinds.Magic >>= λ _. version_at bytes
    >>= λ _. finished) x e in
    let b = bind_ok (rule (bytes_eq a.0 (codes "SDMT")) 0 kinds.Magic)
    (λ _. version_at bytes >>= λ _. finished) x a.2 in
    let c = bind_ok (version_at bytes) (λ _. finished) x b.2 in
    let magic = bytes_takes kinds.Short 4 0 4 bytes a.0 a.1 refl in
    let version = field_takes kinds.Short w16 (2 ^ 16) (to_le_bytes w16) wide16 (λ v. eqb v 1)
    kinds.Version 4 6 bytes c.0 fits c.1 refl in
    let same : a.0 ≡ codes "SDMT" = (bytes_eq-Decides a.0 (codes "SDMT")).0
    (rule_ok (bytes_eq a.0 (codes "SDMT")) 0 kinds.Magic b.0 b.1) in
    let one : c.0 ≡ 1 = eqb-true _ _ version.2 in
    let first : Holds bytes 0 (codes "SDMT") 4 =
    subst (λ (m : List ℕ). Holds bytes 0 m 4) same magic.0 in
    let second : Holds bytes 4 (to_le_bytes w16 1) 6 =
    subst (λ (v : ℕ). Holds bytes 4 (to_le_bytes w16 v) 6) one version.0 in
    Holds-then bytes 0 (codes "SDMT") 4 (to_le_bytes w16 1) 6 first second

opening_again : (bytes : List ℕ) → Holds bytes 0 trace_opening 6 → opening_in bytes ≡ Ok tt
unfolding opening_in
opening_again bytes h =
    let front = Holds-front bytes 0 (codes "SDMT") 4 (to_le_bytes w16 1) 6 h refl in
    let back = Holds-back bytes 0 (codes "SDMT") 4 (to_le_bytes w16 1) 6 h refl in
    let magic = bytes_again kinds.Short 4 0 4 bytes (codes "SDMT") front refl in
    let version = field_again kinds.Short w16 (2 ^ 16) (to_le_bytes w16) wide16 (λ v. eqb v 1)
    kinds.Version 4 6 bytes 1 back (omega arith) refl in
    rw (magic, version) refl

-- a chip's rows have numbers of 16 bits
pub few_rows : (g : Geometry) → is_geometry g ≡ true → g.rows ≤ 2 ^ 16
few_rows g h = let b = between_is 64 1006 g.rows (bounds_of g h).rows in omega (arith, b.1)

abbrev made : Geometry → List Named → List Event → Trace
made g table events = record { geometry = g; table = table; events = events }

-- what is read after each field
abbrev ending : Geometry → List Named → List ℕ → List Event × ℕ → Result Trace TraceFault
ending g table bytes events = rule (eqb (length bytes) events.1) events.1 kinds.Rest >>= λ _.
    Ok (made g table events.0)

abbrev counting : Geometry → List Named → List ℕ → ℕ → Result Trace TraceFault
counting g table bytes count = events_at count g (events_start table) bytes
    >>= ending g table bytes

abbrev numbered : List Named → List ℕ → Result ℕ TraceFault
numbered table bytes = fields.number_at kinds.Short w32 (rows_start table) bytes

abbrev tabling : Geometry → List ℕ → List Named → Result Trace TraceFault
tabling g bytes table = numbered table bytes >>= counting g table bytes

abbrev shaping : List ℕ → Geometry → Result Trace TraceFault
shaping bytes g = lifted (table_at g 12 bytes) >>= tabling g bytes

file_spelled : (bytes : List ℕ) (t : Trace) → IsBytes bytes → trace_in bytes ≡ Ok t
    → IsTrace t × (bytes ≡ bytes_of_trace t)
unfolding trace_in trace_bytes
file_spelled bytes t fits e =
    let a = bind_ok (opening_in bytes) (λ _. lifted (geometry_at 6 bytes) >>= shaping bytes) t e in
    let b = bind_ok (lifted (geometry_at 6 bytes)) (shaping bytes) t a.2 in
    let c = bind_ok (lifted (table_at b.0 12 bytes)) (tabling b.0 bytes) t b.2 in
    let d = bind_ok (numbered c.0 bytes) (counting b.0 c.0 bytes) t c.2 in
    let f = bind_ok (events_at d.0 b.0 (events_start c.0) bytes) (ending b.0 c.0 bytes) t d.2 in
    let r = bind_ok (rule (eqb (length bytes) f.0.1) f.0.1 kinds.Rest)
    (λ _. Ok (made b.0 c.0 f.0.0)) t f.2 in
    let g = b.0 in
    let table = c.0 in
    let all = f.0.0 in
    let at = rows_start table in
    let place = events_start table in
    let start = opening_takes bytes a.0 fits a.1 in
    let geometry = geometry_takes 6 bytes g fits (lifted_ok (geometry_at 6 bytes) g b.1) in
    let listed = table_takes g 12 bytes table fits (lifted_ok (table_at g 12 bytes) table c.1) in
    let number = number_takes kinds.Short w32 (2 ^ 32) (to_le_bytes w32) wide32 at place bytes d.0
    fits d.1 refl in
    let events = events_take d.0 g place bytes f.0 fits number.0.within f.1 in
    let whole : length bytes ≡ f.0.1 =
    eqb-true _ _ (rule_ok (eqb (length bytes) f.0.1) f.0.1 kinds.Rest r.0 r.1) in
    let head : Holds bytes 0 (trace_head g table) at =
    Holds-then bytes 0 trace_opening 6 (geometry_bytes g ++ table_bytes table) at start
    (Holds-then bytes 6 (geometry_bytes g) 12 (table_bytes table) at geometry.0 listed.0) in
    let count : Holds bytes at (to_le_bytes w32 (length all)) place =
    subst (λ (n : ℕ). Holds bytes at (to_le_bytes w32 n) place) (sym events.number) number.0 in
    let tail = to_le_bytes w32 (length all) ++ events_bytes g all in
    let counted : Holds bytes at tail f.0.1 = Holds-then bytes at (to_le_bytes w32 (length all))
    place (events_bytes g all) f.0.1 count events.held in
    let held = Holds-then bytes 0 (trace_head g table) at tail f.0.1 head counted in
    let text = trace_head g table ++ tail in
    let spelled : bytes ≡ text = held.parts
    ∙ ap (λ (rest : List ℕ). text ++ rest) (drop_all f.0.1 bytes (omega (arith, whole)))
    ∙ append-nil text in
    let written : IsWritten g table = record {
      listed = listed.1.listed;
      names = listed.1.names;
      objects = listed.1.objects;
    } in
    let is : IsTrace (made g table all) = record {
      geometry = geometry.1;
      written = written;
      few = omega (arith, events.number, number.1);
      events = events.are;
    } in
    subst (λ (x : Trace). IsTrace x
    × (bytes ≡ trace_head x.geometry x.table
    ++ (to_le_bytes w32 (length x.events) ++ events_bytes x.geometry x.events)))
    (ok_is {K = TraceKind} (made g table all) t r.2) (is, spelled)

-- how long the head is
pub head_length : (g : Geometry) (table : List Named) → IsWritten g table
    → length (trace_head g table) ≡ rows_start table
head_length g table w =
    let records : length (table_bytes table) ≡ 2 + 24 * length table =
    length-append (to_le_bytes w16 (length table)) (flat_map object_bytes table)
    ∙ omega (arith, objects_size table w.names) in
    let rest : length (geometry_bytes g ++ table_bytes table) ≡ 8 + 24 * length table =
    length-append (geometry_bytes g) (table_bytes table) ∙ omega (arith, records) in
    length-append trace_opening (geometry_bytes g ++ table_bytes table) ∙ omega (arith, rest)

file_read : (t : Trace) → IsTrace t → trace_in (bytes_of_trace t) ≡ Ok t
unfolding trace_in trace_bytes
file_read t is =
    let g = t.geometry in
    let table = t.table in
    let at = rows_start table in
    let place = events_start table in
    let count = to_le_bytes w32 (length t.events) in
    let tail : List ℕ = count ++ events_bytes g t.events in
    let bytes : List ℕ = trace_head g table ++ tail in
    let end : ℕ = length bytes in
    let long = head_length g table is.written in
    let whole : Holds bytes 0 (trace_head g table ++ tail) end = record {
      parts = sym (ap (λ (rest : List ℕ). bytes ++ rest) (drop_all end bytes (omega arith))
          ∙ append-nil bytes);
      ends = omega arith;
      within = omega arith;
    } in
    let head = Holds-front bytes 0 (trace_head g table) at tail end whole (omega (arith, long)) in
    let last = Holds-back bytes 0 (trace_head g table) at tail end whole (omega (arith, long)) in
    let after_opening = geometry_bytes g ++ table_bytes table in
    let start = Holds-front bytes 0 trace_opening 6 after_opening at head refl in
    let following = Holds-back bytes 0 trace_opening 6 after_opening at head refl in
    let geometry = Holds-front bytes 6 (geometry_bytes g) 12 (table_bytes table) at following refl
    in
    let listed = Holds-back bytes 6 (geometry_bytes g) 12 (table_bytes table) at following refl in
    let number = Holds-front bytes at count place (events_bytes g t.events) end last refl in
    let events = Holds-back bytes at count place (events_bytes g t.events) end last refl in
    let l : IsListed g table = record {
      listed = is.written.listed;
      names = is.written.names;
      objects = is.written.objects;
    } in
    rw (
      opening_again bytes start,
      geometry_again 6 bytes g geometry is.geometry,
      table_again g 12 bytes table is.geometry l listed,
      number_again kinds.Short w32 (2 ^ 32) (to_le_bytes w32) wide32 at place bytes
          (length t.events) number is.few,
      events_again g t.events place end bytes (few_rows g is.geometry) is.events events,
      eq-eqb end end refl,
    ) refl

-- a trace file is the spelling of the one trace that it is read as
pub files_are_exact : FilesAreExact
files_are_exact = record { spelled = file_spelled; read = file_read }
