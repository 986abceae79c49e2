-- The fault that is told of a trace file is one of the file.
use Rattle.std.proofs.Common.{◌≡◌, ◌≢◌, ℕ, zero, suc, ◌+◌, ◌*◌, Bool, true, false, List, [], ◌∷◌, ◌++◌, length}
use Rattle.std.proofs.Common.{Option, Some, None, Result, Ok, Err, refl, sym, ◌∙◌, ap, subst, inl, inr}
use Rattle.std.proofs.Common.{arith}
use Rattle.std.specs.Prelude.{◌==◌, codes}
use Rattle.std.specs.Int.{w16, w32}
use Rattle.std.specs.Str.{bytes_eq}
use Rattle.dram_model.specs.declared.geometry.Geometry.{Geometry}
use Rattle.dram_model.specs.Chip.{Event}
use Rattle.dram_model.specs.Chip.Event.{Row, Write}
use Rattle.file_fields.specs.Fields as fields
use Rattle.file_fields.specs.Fields.{◌>>=◌, fault_at, rule}
use Rattle.object_alloc.specs.declared.fault.ImageKind.{ImageKind}
use Rattle.object_alloc.specs.declared.fault.ImageKind.TheVariants as image
use Rattle.object_alloc.specs.Bytes.{bits_of_bytes}
use Rattle.object_alloc.specs.Listed.{Named}
use Rattle.object_alloc.specs.Reading.{ImageFault, geometry_at, rows_start, table_at}
use Rattle.trace_model.specs.declared.TraceKind.{TraceKind}
use Rattle.trace_model.specs.declared.TraceKind.TheVariants as kinds
use Rattle.trace_model.specs.Spelling.{Head, Commands, Writes, Trace}
use Rattle.trace_model.specs.Reading.{TraceFault, as_trace_fault, bytes_at, event_at, events_at}
use Rattle.trace_model.specs.Reading.{events_start, head_at, head_in, is_legal_head, lifted, needed}
use Rattle.trace_model.specs.Reading.{opening_in, trace_in, trace_kind, with_row}
use Rattle.file_laws.specs.Traces.{IsField, TraceFaultsStand, ends}
use Rattle.file_laws.specs.Traces.IsField.{OfImage, Event as EventField}
use Rattle.file_laws.specs.Images as images
use Rattle.file_laws.specs.Images.IsField.{Magic, Version}
use Rattle.file_laws.proofs.Steady.{IsRule, IsWhole, Reads, Steady, bytes_steady}
use Rattle.file_laws.proofs.Steady.{field_steady}
use Rattle.file_laws.proofs.Steady.{judged_steady, number_steady, pure_steady, test_steady}
use Rattle.file_laws.proofs.Steady.{then_steady, then_steady_where}
use Rattle.file_laws.proofs.Closing.{Closing, closing_after, closing_stands, ended_at}
use Rattle.file_laws.proofs.Tables.{geometry_steady, table_steady}

-- What stands as in an image file

rule_lifted : (kind : ImageKind) → IsRule images.ends kind → IsRule ends (trace_kind kind)
rule_lifted image.Short broken = absurd (broken.0 refl)
rule_lifted image.Rest broken = absurd (broken.1 refl)
rule_lifted image.Magic broken = ((λ e. cc), (λ e. cc))
rule_lifted image.Version broken = ((λ e. cc), (λ e. cc))
rule_lifted image.Geometry broken = ((λ e. cc), (λ e. cc))
rule_lifted image.Object broken = ((λ e. cc), (λ e. cc))
rule_lifted image.Overlap broken = ((λ e. cc), (λ e. cc))

lift_reads : {A : Type 0} (s : ℕ) (end : A → ℕ) (r : List ℕ → Result A ImageFault)
    (bytes : List ℕ) (v : Result A ImageFault) → Reads images.ends images.IsField s end r bytes v
    → Reads ends IsField s end (λ b. lifted (r b)) bytes (lifted v)
lift_reads {A} s end r bytes (Ok x) (l, m, same, cut) = (
  l,
  m,
  λ other h. ap (λ (v : Result A ImageFault). lifted v) (same other h),
  λ n a b. ap (λ (v : Result A ImageFault). lifted v) (cut n a b),
)
lift_reads s end r bytes (Err f) (inl short) = inl (ap as_trace_fault short)
lift_reads {A} s end r bytes (Err f) (inr (p, broken, last, field, lt, q, again, short)) = inr (
  p,
  rule_lifted f.kind broken,
  last,
  OfImage field,
  lt,
  q,
  λ other h. ap (λ (v : Result A ImageFault). lifted v) (again other h),
  λ n a b. ap (λ (v : Result A ImageFault). lifted v) (short n a b),
)

short_lifted : (kind : ImageKind) → kind ≢ image.Short → trace_kind kind ≢ kinds.Short
short_lifted image.Short h = absurd (h refl)
short_lifted image.Rest h = λ e. cc
short_lifted image.Magic h = λ e. cc
short_lifted image.Version h = λ e. cc
short_lifted image.Geometry h = λ e. cc
short_lifted image.Object h = λ e. cc
short_lifted image.Overlap h = λ e. cc

lift_whole : {A : Type 0} (v : Result A ImageFault) → IsWhole images.ends v
    → IsWhole ends (lifted v)
lift_whole (Ok x) whole = tt
lift_whole (Err f) whole = short_lifted f.kind whole

lifted_steady : {A : Type 0} (s : ℕ) (end : A → ℕ) (r : List ℕ → Result A ImageFault)
    → Steady images.ends images.IsField s end r → Steady ends IsField s end (λ b. lifted (r b))
lifted_steady s end r steady = record {
  reads = λ bytes l. lift_reads s end r bytes (r bytes) (steady.reads bytes l);
  fills = λ bytes l. let on = steady.fills bytes l in
      (on.0, lift_whole (r (bytes ++ on.0)) on.1);
}

-- An event

abbrev Judges : {A : Type 0} → ℕ → Result A TraceFault → Type 0
Judges at v = (f : TraceFault) → v ≡ Err f → (f.at ≡ at) × IsRule ends f.kind

abbrev fault_here : ℕ → TraceKind → TraceFault
fault_here at kind = record { at = at; kind = kind }

judges_err : {A : Type 0} (at : ℕ) (kind : TraceKind) → IsRule ends kind
    → Judges {A = A} at (Err (fault_here at kind))
judges_err at kind broken f e =
    let same : fault_here at kind ≡ f = cc in (
      ap (λ (g : TraceFault). g.at) (sym same),
      subst (λ (g : TraceFault). IsRule ends g.kind) same broken,
    )

judges_legal : (b : Bool) (at : ℕ) (head : Head)
    → Judges at (rule b at kinds.Legal >>= λ legal. Ok head)
judges_legal true at head = λ f e. absurd (cc)
judges_legal false at head = judges_err {A = Head} at kinds.Legal ((λ e. cc), (λ e. cc))

judges_head : (g : Geometry) (o : Option Head) (at : ℕ)
    → Judges at (needed o at kinds.Event >>= λ head.
    rule (is_legal_head g head) at kinds.Legal >>= λ legal. Ok head)
judges_head g None at = judges_err {A = Head} at kinds.Event ((λ e. cc), (λ e. cc))
judges_head g (Some head) at = judges_legal (is_legal_head g head) at head

head_steady : (g : Geometry) (at : ℕ) → IsField at (at + 8)
    → Steady ends IsField at (λ (head : Head). at + 8) (λ b. head_at g at b)
unfolding head_at
head_steady g at field =
    judged_steady ends IsField at (at + 8) (bytes_at 8 at)
    (λ bytes. needed (head_in g bytes) at kinds.Event >>= λ head.
    rule (is_legal_head g head) at kinds.Legal >>= λ legal. Ok head)
    field (omega arith) (λ bytes. judges_head g (head_in g bytes) at)
    (bytes_steady ends IsField 8 at)

row_steady : (g : Geometry) (head : Head) (at : ℕ)
    → Steady ends IsField (at + 8) (λ (x : Event × ℕ). x.1) (λ b. with_row g head at b)
row_steady g (Commands bank command) at =
    pure_steady ends IsField (at + 8) (Row bank command, at + 8) (λ x. x.1) refl
row_steady g (Writes bank row) at =
    then_steady ends IsField (at + 8) (λ field. at + 8 + 8 * g.words) (λ x. x.1)
    (bytes_at (8 * g.words) (at + 8))
    (λ field b. Ok (Write bank row (bits_of_bytes field), at + 8 + 8 * g.words))
    (λ field. pure_steady ends IsField (at + 8 + 8 * g.words)
    (Write bank row (bits_of_bytes field), at + 8 + 8 * g.words) (λ x. x.1) refl)
    (bytes_steady ends IsField (8 * g.words) (at + 8))

event_steady : (g : Geometry) (at : ℕ) → IsField at (at + 8)
    → Steady ends IsField at (λ (x : Event × ℕ). x.1) (λ b. event_at g at b)
unfolding event_at
event_steady g at field =
    then_steady ends IsField at (λ head. at + 8) (λ x. x.1) (λ b. head_at g at b)
    (λ head b. with_row g head at b) (λ head. row_steady g head at) (head_steady g at field)

-- the next event begins a multiple of eight bytes later
abbrev Later : ℕ → (Event × ℕ) → Type 0
Later at x = (m : ℕ) × (x.1 ≡ at + 8 * m)

ok_same : {A : Type 0} (x y : A) → ◌≡◌ {A = Result A TraceFault} (Ok x) (Ok y) → x ≡ y
ok_same x y e = cc

row_later : (g : Geometry) (at : ℕ) (bank row : ℕ) (v : Result (List ℕ) TraceFault)
    (x : Event × ℕ)
    → (v >>= λ field. Ok (Write bank row (bits_of_bytes field), at + 8 + 8 * g.words)) ≡ Ok x
    → Later at x
row_later g at bank row (Err f) x e = absurd (cc)
row_later g at bank row (Ok field) x e =
    let same = ok_same (Write bank row (bits_of_bytes field), at + 8 + 8 * g.words) x e in
    let there = ap (λ (y : Event × ℕ). y.1) same in
    (1 + g.words, sym there ∙ omega arith)

with_row_later : (g : Geometry) (head : Head) (at : ℕ) (b : List ℕ) (x : Event × ℕ)
    → with_row g head at b ≡ Ok x → Later at x
with_row_later g (Commands bank command) at b x e =
    let same = ok_same (Row bank command, at + 8) x e in
    let there = ap (λ (y : Event × ℕ). y.1) same in
    (1, sym there)
with_row_later g (Writes bank row) at b x e =
    row_later g at bank row (bytes_at (8 * g.words) (at + 8) b) x e

of_head : (g : Geometry) (at : ℕ) (b : List ℕ) (v : Result Head TraceFault) (x : Event × ℕ)
    → (v >>= λ head. with_row g head at b) ≡ Ok x → Later at x
of_head g at b (Err f) x e = absurd (cc)
of_head g at b (Ok head) x e = with_row_later g head at b x e

event_later : (g : Geometry) (at : ℕ) (b : List ℕ) (x : Event × ℕ) → event_at g at b ≡ Ok x
    → Later at x
unfolding event_at
event_later g at b x e = of_head g at b (head_at g at b) x e

-- the field of an event of a file of so many objects
event_field : (objects j at : ℕ) → at ≡ 18 + 24 * objects + 8 * j → IsField at (at + 8)
event_field objects j at e =
    subst (λ (x : ℕ). IsField x (x + 8)) (sym e) (EventField objects j)

events_steady : (n : ℕ) (g : Geometry) (objects j at : ℕ) → at ≡ 18 + 24 * objects + 8 * j
    → Steady ends IsField at (λ (x : List Event × ℕ). x.1) (λ b. events_at n g at b)
unfolding events_at
events_steady zero g objects j at e = pure_steady ends IsField at ([], at) (λ x. x.1) refl
events_steady (suc n) g objects j at e =
    then_steady_where ends IsField at (λ x. x.1) (λ y. y.1) (λ b. event_at g at b)
    (λ x b. events_at n g x.1 b >>= λ xs. Ok (x.0 ∷ xs.0, xs.1)) (Later at) (event_later g at)
    (λ x later. then_steady ends IsField x.1 (λ xs. xs.1) (λ y. y.1)
    (λ b. events_at n g x.1 b) (λ xs b. Ok (x.0 ∷ xs.0, xs.1))
    (λ xs. pure_steady ends IsField xs.1 (x.0 ∷ xs.0, xs.1) (λ y. y.1) refl)
    (events_steady n g objects (j + later.0) x.1 (omega (arith, e, later.1))))
    (event_steady g at (event_field objects j at e))

opening_steady : Steady ends IsField 0 (λ (u : Unit {0}). 6) (λ b. opening_in b)
unfolding opening_in
opening_steady =
    test_steady ends IsField 0 0 4 (λ u. 6) (bytes_at 4 0)
    (λ magic. bytes_eq magic (codes "SDMT")) kinds.Magic
    (λ magic b. fields.field_at kinds.Short w16 (λ version. version == 1) kinds.Version 4 b
    >>= λ version. Ok tt) (OfImage Magic) (omega arith) (omega arith) ((λ e. cc), (λ e. cc))
    (λ magic. then_steady ends IsField 4 (λ version. 6) (λ u. 6)
    (fields.field_at kinds.Short w16 (λ version. version == 1) kinds.Version 4)
    (λ version b. Ok tt) (λ version. pure_steady ends IsField 6 tt (λ u. 6) refl)
    (field_steady ends IsField w16 (λ version. version == 1) kinds.Version 4 (OfImage Version) (omega arith)
    ((λ e. cc), (λ e. cc))))
    (bytes_steady ends IsField 4 0)

abbrev trace : Geometry → List Named → List Event → Trace
trace g table events = record { geometry = g; table = table; events = events }

trace_closing : Closing ends IsField 0 (λ b. trace_in b)
unfolding trace_in
trace_closing =
    closing_after ends IsField 0 (λ u. 6) (λ b. opening_in b)
    (λ u b. lifted (geometry_at 6 b) >>= λ g. lifted (table_at g 12 b) >>= λ table.
    fields.number_at kinds.Short w32 (rows_start table) b >>= λ count.
    events_at count g (events_start table) b >>= λ events.
    rule (length b == events.1) events.1 kinds.Rest >>= λ ended. Ok (trace g table events.0))
    (λ u. closing_after ends IsField 6 (λ g. 12) (λ b. lifted (geometry_at 6 b))
    (λ g b. lifted (table_at g 12 b) >>= λ table.
    fields.number_at kinds.Short w32 (rows_start table) b >>= λ count.
    events_at count g (events_start table) b >>= λ events.
    rule (length b == events.1) events.1 kinds.Rest >>= λ ended. Ok (trace g table events.0))
    (λ g. closing_after ends IsField 12 (λ table. rows_start table) (λ b. lifted (table_at g 12 b))
    (λ table b. fields.number_at kinds.Short w32 (rows_start table) b >>= λ count.
    events_at count g (events_start table) b >>= λ events.
    rule (length b == events.1) events.1 kinds.Rest >>= λ ended. Ok (trace g table events.0))
    (λ table. closing_after ends IsField (rows_start table) (λ count. events_start table)
    (fields.number_at kinds.Short w32 (rows_start table))
    (λ count b. events_at count g (events_start table) b >>= λ events.
    rule (length b == events.1) events.1 kinds.Rest >>= λ ended. Ok (trace g table events.0))
    (λ count. closing_after ends IsField (events_start table) (λ events. events.1)
    (λ b. events_at count g (events_start table) b)
    (λ events b. rule (length b == events.1) events.1 kinds.Rest >>= λ ended.
    Ok (trace g table events.0))
    (λ events. ended_at ends IsField events.1 (trace g table events.0) (λ e. cc))
    (events_steady count g (length table) 0 (events_start table) (omega arith)))
    (number_steady ends IsField w32 (rows_start table)))
    (lifted_steady 12 (λ table. rows_start table) (λ b. table_at g 12 b) (table_steady g)))
    (lifted_steady 6 (λ g. 12) (λ b. geometry_at 6 b) geometry_steady))
    opening_steady

pub faults_stand : TraceFaultsStand
faults_stand = closing_stands ends IsField trace_in (λ e. cc) trace_closing
