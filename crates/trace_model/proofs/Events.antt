-- An event is read as it was spelled, and what is read as an event is its spelling.
use Rattle.std.proofs.lemmas.Bool.{and_parts}
use Rattle.std.proofs.Common.{◌≡◌, ℕ, zero, suc, ◌+◌, ◌*◌, ◌^◌, ◌<◌, ◌≤◌, Bool, true, false, ◌&&◌}
use Rattle.std.proofs.Common.{cond, eqb, ltb, List, [], ◌∷◌, ◌++◌, length, Option, Some, None, refl}
use Rattle.std.proofs.Common.{sym, ◌∙◌, ap, subst, arith}
use Rattle.std.specs.Prelude.{Result, Ok, Err}
use Rattle.std.specs.List.{list_all, AllByRecursion}
use Rattle.std.specs.Int.{to_le_bytes, from_le_bytes, w16}
use Rattle.std.proofs.lemmas.Bool.{lt-ltb, ltb-true, eqb-true}
use Rattle.std.proofs.lemmas.Nat.{le_bytes_2, from_le_bytes-to_le_bytes_2}
use Rattle.dram_model.specs.declared.address.Addr.{Addr}
use Rattle.dram_model.specs.declared.address.Addr.TheVariants as addr
use Rattle.dram_model.specs.declared.address.Command.{Command}
use Rattle.dram_model.specs.declared.address.Command.TheVariants.{Ap, Aap}
use Rattle.dram_model.specs.declared.geometry.Geometry.{Geometry}
use Rattle.dram_model.specs.Column.{is_legal, is_in_range, is_first, is_second}
use Rattle.dram_model.specs.Chip.{Event}
use Rattle.dram_model.specs.Chip.Event.{Row, Write}
use Rattle.object_alloc.specs.Bytes.{bits_of_bytes, bytes_of_bits}
use Rattle.object_alloc.specs.Reading.{ImageFault}
use Rattle.object_alloc.proofs.Rows.{bits-bytes, bytes-bits, length-bytes_of_bits}
use Rattle.object_alloc.proofs.Rows.{length-bits_of_bytes}
use Rattle.file_fields.specs.Fields.{IsBytes, ◌>>=◌, rule}
use Rattle.file_fields.proofs.Held.{Holds, Holds-then, Holds-front, Holds-back, Holds-fits}
use Rattle.file_fields.proofs.Held.{bytes_takes, bytes_again, bind_ok, ok_is, rule_ok}
use Rattle.trace_model.specs.declared.TraceKind.{TraceKind}
use Rattle.trace_model.specs.declared.TraceKind.TheVariants as kinds
use Rattle.trace_model.specs.Spelling.{Head, Commands, Writes, group_of, index_of, address_bytes}
use Rattle.trace_model.specs.Spelling.{no_address, event_head_bytes, event_bytes, events_bytes}
use Rattle.trace_model.specs.Spelling.{IsEvent}
use Rattle.trace_model.specs.Reading.{TraceFault, bytes_at, lifted, where_so, address_of, of_kind}
use Rattle.trace_model.specs.Reading.{head_in, needed, is_legal_head, head_at, with_row, event_at}
use Rattle.trace_model.specs.Reading.{events_at}

abbrev done : {A : Type 0} → A → Result A TraceFault
done x = Ok x

abbrev found : {A : Type 0} → A → Result A ImageFault
found x = Ok x

pub lifted_ok : {A : Type 0} (r : Result A ImageFault) (x : A) → lifted r ≡ Ok x → r ≡ Ok x
lifted_ok (Ok y) x e = ap found (same y x e) where
  same : {A : Type 0} (x y : A) → done x ≡ done y → x ≡ y
  same x y e = cc
lifted_ok (Err f) x e = absurd cc

some_is : {A : Type 0} (x y : A) → Some x ≡ Some y → x ≡ y
some_is x y e = cc

needed_ok : {A : Type 0} (o : Option A) (at : ℕ) (kind : TraceKind) (x : A)
    → needed o at kind ≡ Ok x → o ≡ Some x
needed_ok (Some y) at kind x e = ap (λ z. Some z) (ok_is {K = TraceKind} y x e)
needed_ok None at kind x e = absurd cc

where_ok : {A : Type 0} (b : Bool) (x y : A) → where_so b x ≡ Some y → (b ≡ true) × (x ≡ y)
where_ok true x y e = (refl, some_is x y e)
where_ok false x y e = absurd cc

record IsAddress (rows group k : ℕ) (x : Addr) : Type 0 where
  group_is : group ≡ group_of x
  index_is : k ≡ index_of x
  ranged : is_in_range rows x ≡ true

address_takes : (rows group k : ℕ) (x : Addr) → address_of rows group k ≡ Some x
    → IsAddress rows group k x
address_takes rows zero k x e = let w = where_ok (ltb k 16) (addr.B k) x e in subst
    (IsAddress rows 0 k) w.1 (record { group_is = refl; index_is = refl; ranged = w.0 })
address_takes rows (suc zero) k x e = let w =
    where_ok (ltb k 2) (addr.C k) x e in subst (IsAddress rows 1 k) w.1 (record {
      group_is =
          refl;
      index_is = refl;
      ranged = w.0;
    })
address_takes rows (suc (suc zero)) k x e = let w =
    where_ok (ltb k rows) (addr.D k) x e in subst (IsAddress rows 2 k) w.1 (record {
      group_is =
          refl;
      index_is = refl;
      ranged = w.0;
    })
address_takes rows (suc (suc (suc group))) k x e = absurd cc

two_bytes : (d e : ℕ) → d < 256 → e < 256 → IsBytes (d ∷ e ∷ [])
two_bytes d e l m zero = l
two_bytes d e l m (suc zero) = m
two_bytes d e l m (suc (suc i)) = omega arith

pair_back : (d e k : ℕ) → d < 256 → e < 256 → from_le_bytes w16 (d ∷ e ∷ []) ≡ k
    → to_le_bytes w16 k ≡ d ∷ e ∷ []
pair_back d e k l m is = le_bytes_2 (d ∷ e ∷ []) k refl (two_bytes d e l m) (sym is)

address_spelled : (rows group d e : ℕ) (x : Addr) → d < 256 → e < 256
    → address_of rows group (from_le_bytes w16 (d ∷ e ∷ [])) ≡ Some x
    → address_bytes x ≡ group ∷ d ∷ e ∷ []
address_spelled rows group d e x l m h =
    let a = address_takes rows group (from_le_bytes w16 (d ∷ e ∷ [])) x h in
    ap (λ (g : ℕ). g ∷ to_le_bytes w16 (index_of x)) (sym a.group_is)
    ∙ ap (λ (t : List ℕ). group ∷ t) (pair_back d e (index_of x) l m a.index_is)

index_small : (rows : ℕ) (x : Addr) → rows ≤ 2 ^ 16 → is_in_range rows x ≡ true
    → index_of x < 2 ^ 16
index_small rows (addr.B k) l h = let s = ltb-true k 16 h in omega (arith, s)
index_small rows (addr.C k) l h = let s = ltb-true k 2 h in omega (arith, s)
index_small rows (addr.D k) l h = let s = ltb-true k rows h in omega (arith, s, l)

address_is : (rows : ℕ) (x : Addr) → is_in_range rows x ≡ true
    → address_of rows (group_of x) (index_of x) ≡ Some x
address_is rows (addr.B k) h = rw h refl
address_is rows (addr.C k) h = rw h refl
address_is rows (addr.D k) h = rw h refl

address_again : (rows : ℕ) (x : Addr) → rows ≤ 2 ^ 16 → is_in_range rows x ≡ true
    → address_of rows (group_of x) (from_le_bytes w16 (to_le_bytes w16 (index_of x))) ≡ Some x
address_again rows x l h = ap (address_of rows (group_of x)) (from_le_bytes-to_le_bytes_2
    (index_of x) (index_small rows x l h)) ∙ address_is rows x h

abbrev IsHead : Geometry → Head → Type 0
IsHead g (Commands bank command) = bank < g.banks
IsHead g (Writes bank row) = (bank < g.banks) × (row < g.rows)

blank_is : (f i j : ℕ) → list_all (λ b. eqb b 0) (f ∷ i ∷ j ∷ []) ≡ true
    → no_address ≡ f ∷ i ∷ j ∷ []
blank_is f i j h =
    let a = and_parts (eqb f 0) (list_all (λ b. eqb b 0) (i ∷ j ∷ [])) h in
    let b = and_parts (eqb i 0) (list_all (λ b. eqb b 0) (j ∷ [])) a.1 in
    let c = and_parts (eqb j 0) true b.1 in
    rw (eqb-true f 0 a.0, eqb-true i 0 b.0, eqb-true j 0 c.0) refl

head_case : (g : Geometry) (h : Head) (a b c d e f i j : ℕ) (x y : Option Addr) (blank : Bool)
    → b < g.banks → d < 256 → e < 256 → i < 256 → j < 256
    → address_of g.rows c (from_le_bytes w16 (d ∷ e ∷ [])) ≡ x
    → address_of g.rows f (from_le_bytes w16 (i ∷ j ∷ [])) ≡ y
    → list_all (λ k. eqb k 0) (f ∷ i ∷ j ∷ []) ≡ blank
    → of_kind a b x y blank ≡ Some h → (a ∷ b ∷ c ∷ d ∷ e ∷ f ∷ i ∷ j ∷ [] ≡ event_head_bytes h)
    × IsHead g h
head_case g h zero b c d e f i j None y blank lb ld le li lj ex ey eb is = absurd cc
head_case g h zero b c d e f i j (Some x) None blank lb ld le li lj ex ey eb is = absurd cc
head_case g h zero b c d e f i j (Some x) (Some y) blank lb ld le li lj ex ey eb is =
    let one : Head = Commands b (Aap x y) in
    subst (λ (k : Head). (0 ∷ b ∷ c ∷ d ∷ e ∷ f ∷ i ∷ j ∷ [] ≡ event_head_bytes k)
    × IsHead g k) (some_is one h is) (
      sym (ap (λ (t : List ℕ). 0 ∷ b ∷ t ++ address_bytes y)
          (address_spelled g.rows c d e x ld le ex)
          ∙ ap (λ (t : List ℕ). 0 ∷ b ∷ c ∷ d ∷ e ∷ t)
          (address_spelled g.rows f i j y li lj ey)),
      lb,
    )
head_case g h (suc zero) b c d e f i j None y blank lb ld le li lj ex ey eb is = absurd cc
head_case g h (suc zero) b c d e f i j (Some x) y blank lb ld le li lj ex ey eb is =
    let one : Head = Commands b (Ap x) in
    let w = where_ok blank one h is in
    subst (λ (k : Head). (1 ∷ b ∷ c ∷ d ∷ e ∷ f ∷ i ∷ j ∷ [] ≡ event_head_bytes k)
    × IsHead g k) w.1 (
      sym (ap (λ (t : List ℕ). 1 ∷ b ∷ t ++ no_address) (address_spelled g.rows c d e x ld le ex)
          ∙ ap (λ (t : List ℕ). 1 ∷ b ∷ c ∷ d ∷ e ∷ t) (blank_is f i j (eb ∙ w.0))),
      lb,
    )
head_case g h (suc (suc zero)) b c d e f i j None y blank lb ld le li lj ex ey eb is = absurd cc
head_case g h (suc (suc zero)) b c d e f i j (Some (addr.B k)) y blank lb ld le li lj ex ey eb is =
    absurd cc
head_case g h (suc (suc zero)) b c d e f i j (Some (addr.C k)) y blank lb ld le li lj ex ey eb is =
    absurd cc
head_case g h (suc (suc zero)) b c d e f i j (Some
    (addr.D row)) y blank lb ld le li lj ex ey eb is =
    let one : Head = Writes b row in
    let w = where_ok blank one h is in
    let a = address_takes g.rows c (from_le_bytes w16 (d ∷ e ∷ [])) (addr.D row) ex in
    subst (λ (k : Head). (2 ∷ b ∷ c ∷ d ∷ e ∷ f ∷ i ∷ j ∷ [] ≡ event_head_bytes k)
    × IsHead g k) w.1 (
      sym (ap (λ (t : List ℕ). 2 ∷ b ∷ t ++ no_address) (address_spelled g.rows c d e
          (addr.D row) ld le ex) ∙ ap (λ (t : List ℕ). 2 ∷ b ∷ c ∷ d ∷ e ∷ t) (blank_is f i j (eb
          ∙ w.0))),
      (lb, ltb-true row g.rows a.ranged),
    )
head_case g h (suc (suc (suc a))) b c d e f i j x y blank lb ld le li lj ex ey eb is = absurd cc

bank_case : {A : Type 0} (b : Bool) (x : Option A) (y : A) → cond b x None ≡ Some y
    → (b ≡ true) × (x ≡ Some y)
bank_case true x y e = (refl, e)
bank_case false x y e = absurd cc

eight_takes : (g : Geometry) (h : Head) (a b c d e f i j : ℕ)
    → IsBytes (a ∷ b ∷ c ∷ d ∷ e ∷ f ∷ i ∷ j ∷ [])
    → head_in g (a ∷ b ∷ c ∷ d ∷ e ∷ f ∷ i ∷ j ∷ []) ≡ Some h
    → (a ∷ b ∷ c ∷ d ∷ e ∷ f ∷ i ∷ j ∷ [] ≡ event_head_bytes h) × IsHead g h
eight_takes g h a b c d e f i j fits is =
    let x = address_of g.rows c (from_le_bytes w16 (d ∷ e ∷ [])) in
    let y = address_of g.rows f (from_le_bytes w16 (i ∷ j ∷ [])) in
    let blank = list_all (λ k. eqb k 0) (f ∷ i ∷ j ∷ []) in
    let r = bank_case (ltb b g.banks) (of_kind a b x y blank) h is in
    head_case g h a b c d e f i j x y blank (ltb-true b g.banks r.0) (fits 3) (fits 4) (fits 6)
    (fits 7) refl refl refl r.1

head_takes : (g : Geometry) (h : Head) (field : List ℕ) → length field ≡ 8 → IsBytes field
    → head_in g field ≡ Some h → (field ≡ event_head_bytes h) × IsHead g h
head_takes g h [] n fits is = absurd (omega (arith, n))
head_takes g h (a ∷ []) n fits is = absurd (omega (arith, n))
head_takes g h (a ∷ b ∷ []) n fits is = absurd (omega (arith, n))
head_takes g h (a ∷ b ∷ c ∷ []) n fits is = absurd (omega (arith, n))
head_takes g h (a ∷ b ∷ c ∷ d ∷ []) n fits is = absurd (omega (arith, n))
head_takes g h (a ∷ b ∷ c ∷ d ∷ e ∷ []) n fits is = absurd (omega (arith, n))
head_takes g h (a ∷ b ∷ c ∷ d ∷ e ∷ f ∷ []) n fits is = absurd (omega (arith, n))
head_takes g h (a ∷ b ∷ c ∷ d ∷ e ∷ f ∷ i ∷ []) n fits is = absurd (omega (arith, n))
head_takes g h (a ∷ b ∷ c ∷ d ∷ e ∷ f ∷ i ∷ j ∷ []) n fits is =
    eight_takes g h a b c d e f i j fits is
head_takes g h (a ∷ b ∷ c ∷ d ∷ e ∷ f ∷ i ∷ j ∷ k ∷ more) n fits is = absurd (omega (arith, n))

-- its addresses name rows of the bank
abbrev Ranged : ℕ → Command → Type 0
Ranged rows (Ap x) = is_in_range rows x ≡ true
Ranged rows (Aap x y) = (is_in_range rows x ≡ true) × (is_in_range rows y ≡ true)

legal_ranged : (rows : ℕ) (command : Command) → is_legal rows command ≡ true → Ranged rows command
legal_ranged rows (Ap x) h = (and_parts (is_in_range rows x) (is_first x) h).0
legal_ranged rows (Aap x y) h =
    let b = and_parts (is_in_range rows x && is_first x) (is_in_range rows y && is_second y) h in (
      (and_parts (is_in_range rows x) (is_first x) b.0).0,
      (and_parts (is_in_range rows y)
          (is_second y) b.1).0,
    )

commands_again : (g : Geometry) (bank : ℕ) (command : Command) → g.rows ≤ 2 ^ 16 → bank < g.banks
    → Ranged g.rows command → head_in g (event_head_bytes (Commands bank command)) ≡ Some
    (Commands bank command)
commands_again g bank (Ap x) l m r = rw (lt-ltb bank g.banks m, address_again g.rows x l r) refl
commands_again g bank (Aap x y) l m r = rw
    (lt-ltb bank g.banks m, address_again g.rows x l r.0, address_again g.rows y l r.1) refl

writes_again : (g : Geometry) (bank row : ℕ) → g.rows ≤ 2 ^ 16 → bank < g.banks → row < g.rows
    → head_in g (event_head_bytes (Writes bank row)) ≡ Some (Writes bank row)
writes_again g bank row l m r = rw (
  lt-ltb bank g.banks m,
  address_again g.rows (addr.D row) l
      (lt-ltb row g.rows r),
) refl

head_size : (h : Head) → length (event_head_bytes h) ≡ 8
head_size (Commands bank (Ap x)) = refl
head_size (Commands bank (Aap x y)) = refl
head_size (Writes bank row) = refl

-- a head that was read: eight bytes, which name an event that a chip can do
pub record HeadTaken (g : Geometry) (at : ℕ) (bytes : List ℕ) (h : Head) : Type 0 where
  pub held : Holds bytes at (event_head_bytes h) (at + 8)
  pub is : IsHead g h
  pub legal : is_legal_head g h ≡ true

pub head_at_takes : (g : Geometry) (at : ℕ) (bytes : List ℕ) (h : Head) → IsBytes bytes
    → head_at g at bytes ≡ Ok h → HeadTaken g at bytes h
unfolding head_at
head_at_takes g at bytes h fits e =
    let a = bind_ok (bytes_at 8 at bytes) (λ field. needed (head_in g field) at kinds.Event
    >>= λ head. rule (is_legal_head g head) at kinds.Legal >>= λ _. Ok head) h e in
    let b = bind_ok (needed (head_in g a.0) at kinds.Event)
    (λ head. rule (is_legal_head g head) at kinds.Legal >>= λ _. Ok head) h a.2 in
    let c = bind_ok (rule (is_legal_head g b.0) at kinds.Legal) (λ _. done b.0) h b.2 in
    let t = bytes_takes kinds.Short 8 at (at + 8) bytes a.0 a.1 refl in
    let is = head_takes g b.0 a.0 t.1 (Holds-fits bytes at a.0 (at + 8) t.0 fits)
    (needed_ok (head_in g a.0) at kinds.Event b.0 b.1) in
    let legal = rule_ok (is_legal_head g b.0) at kinds.Legal c.0 c.1 in
    subst (HeadTaken g at bytes) (ok_is {K = TraceKind} b.0 h c.2) (record {
      held = subst (λ (f : List ℕ). Holds bytes at f (at + 8)) is.0 t.0;
      is = is.1;
      legal = legal;
    })

commands_at : (g : Geometry) (at : ℕ) (bytes : List ℕ) (bank : ℕ) (command : Command)
    → g.rows ≤ 2 ^ 16 → bank < g.banks → is_legal g.rows command ≡ true
    → Holds bytes at (event_head_bytes (Commands bank command)) (at + 8)
    → head_at g at bytes ≡ Ok (Commands bank command)
unfolding head_at
commands_at g at bytes bank command l m legal h = rw (
  bytes_again kinds.Short 8 at (at + 8) bytes (event_head_bytes (Commands bank command)) h
      (head_size (Commands bank command)),
  commands_again g bank command l m (legal_ranged g.rows command legal),
  legal,
) refl

writes_at : (g : Geometry) (at : ℕ) (bytes : List ℕ) (bank row : ℕ) → g.rows ≤ 2 ^ 16
    → bank < g.banks → row < g.rows
    → Holds bytes at (event_head_bytes (Writes bank row)) (at + 8)
    → head_at g at bytes ≡ Ok (Writes bank row)
unfolding head_at
writes_at g at bytes bank row l m n h = rw (
  bytes_again kinds.Short 8 at (at + 8) bytes (event_head_bytes (Writes bank row)) h
      (head_size (Writes bank row)),
  writes_again g bank row l m n,
) refl

-- an event that stands there is read
pub event_again : (g : Geometry) (at next : ℕ) (bytes : List ℕ) (event : Event) → g.rows ≤ 2 ^ 16
    → IsEvent g event → Holds bytes at (event_bytes g event) next
    → event_at g at bytes ≡ Ok (event, next)
unfolding event_at
event_again g at next bytes (Row bank command) l ok h =
    let e : next ≡ at + 8 = h.ends ∙ ap (λ (n : ℕ). at + n) (head_size (Commands bank command)) in
    let held = subst (λ (n : ℕ). Holds bytes at (event_head_bytes (Commands bank command)) n) e h in
    rw (commands_at g at bytes bank command l ok.0 ok.1 held)
    (ap (λ (n : ℕ). Ok (Row bank command, n)) (sym e))
event_again g at next bytes (Write bank row bits) l ok h =
    let head = event_head_bytes (Writes bank row) in
    let text = bytes_of_bits (8 * g.words) bits in
    let long = length-bytes_of_bits (8 * g.words) bits in
    let front = Holds-front bytes at head (at + 8) text next h refl in
    let back = Holds-back bytes at head (at + 8) text next h refl in
    let e : at + 8 + 8 * g.words ≡ next = omega (arith, back.ends, long) in
    let same : bits_of_bytes text ≡ bits = bits-bytes (8 * g.words) bits (ok.2 ∙ omega arith) in
    rw (
      writes_at g at bytes bank row l ok.0 ok.1 front,
      bytes_again kinds.Short (8 * g.words) (at + 8) next bytes text back long,
      same,
      e,
    ) refl

pub record Taken (g : Geometry) (at : ℕ) (bytes : List ℕ) (event : Event) (next : ℕ) : Type 0 where
  pub held : Holds bytes at (event_bytes g event) next
  pub is : IsEvent g event

row_takes : (g : Geometry) (h : Head) (at : ℕ) (bytes : List ℕ) (out : Event × ℕ) → IsBytes bytes
    → HeadTaken g at bytes h → with_row g h at bytes ≡ Ok out → Taken g at bytes out.0 out.1
row_takes g (Commands bank command) at bytes out fits t e =
    let one : Event × ℕ = (Row bank command, at + 8) in
    subst (λ (x : Event × ℕ). Taken g at bytes x.0 x.1) (ok_is {K = TraceKind} one out e)
    (record { held = t.held; is = (t.is, t.legal) })
row_takes g (Writes bank row) at bytes out fits taken e =
    let place = at + 8 in
    let next = at + 8 + 8 * g.words in
    let a = bind_ok (bytes_at (8 * g.words) place bytes)
    (λ field. Ok (Write bank row (bits_of_bytes field), next)) out e in
    let t = bytes_takes kinds.Short (8 * g.words) place next bytes a.0 a.1 refl in
    let part = Holds-fits bytes place a.0 next t.0 fits in
    let again : bytes_of_bits (8 * g.words) (bits_of_bytes a.0) ≡ a.0 =
    bytes-bits (8 * g.words) a.0 part t.1 in
    let long = length-bits_of_bytes a.0 in
    let one : Event × ℕ = (Write bank row (bits_of_bytes a.0), next) in
    subst (λ (x : Event × ℕ). Taken g at bytes x.0 x.1) (ok_is {K =
    TraceKind} one out a.2) (record {
      held = Holds-then bytes at (event_head_bytes (Writes bank row)) place
          (bytes_of_bits (8 * g.words) (bits_of_bytes a.0)) next taken.held
          (subst (λ (f : List ℕ). Holds bytes place f next) (sym again) t.0);
      is = (taken.is.0, taken.is.1, omega (arith, long, t.1));
    })

-- an event that was read stands there in its one spelling
pub event_takes : (g : Geometry) (at : ℕ) (bytes : List ℕ) (out : Event × ℕ) → IsBytes bytes
    → event_at g at bytes ≡ Ok out → Taken g at bytes out.0 out.1
unfolding event_at
event_takes g at bytes out fits e =
    let a = bind_ok (head_at g at bytes) (λ head. with_row g head at bytes) out e in
    row_takes g a.0 at bytes out fits (head_at_takes g at bytes a.0 fits a.1) a.2

pub events_again : (g : Geometry) (events : List Event) (at next : ℕ) (bytes : List ℕ)
    → g.rows ≤ 2 ^ 16 → AllByRecursion (IsEvent g) events
    → Holds bytes at (events_bytes g events) next
    → events_at (length events) g at bytes ≡ Ok (events, next)
unfolding events_at
events_again g [] at next bytes l ok h =
    let e : at ≡ next = omega (arith, h.ends) in
    ap (λ (n : ℕ). Ok ([], n)) e
events_again g (event ∷ events) at next bytes l ok h =
    let place = at + length (event_bytes g event) in
    let rest = events_bytes g events in
    let front = Holds-front bytes at (event_bytes g event) place rest next h refl in
    let back = Holds-back bytes at (event_bytes g event) place rest next h refl in
    rw (
      event_again g at place bytes event l ok.0 front,
      events_again g events place next bytes l ok.1 back,
    ) refl

pub record AllTaken (g : Geometry) (n at : ℕ) (bytes : List ℕ) (events : List Event)
    (next : ℕ) : Type 0 where
  pub held : Holds bytes at (events_bytes g events) next
  pub are : AllByRecursion (IsEvent g) events
  pub number : length events ≡ n

pub events_take : (n : ℕ) (g : Geometry) (at : ℕ) (bytes : List ℕ) (out : List Event × ℕ)
    → IsBytes bytes → at ≤ length bytes → events_at n g at bytes ≡ Ok out
    → AllTaken g n at bytes out.0 out.1
unfolding events_at
events_take zero g at bytes out fits l e =
    let none : List Event × ℕ = ([], at) in
    subst (λ (x : List Event × ℕ). AllTaken g 0 at bytes x.0 x.1)
    (ok_is {K = TraceKind} none out e) (record {
      held = record { parts = refl; ends = omega arith; within = l };
      are = tt;
      number = refl;
    })
events_take (suc n) g at bytes out fits l e =
    let a = bind_ok (event_at g at bytes)
    (λ event. events_at n g event.1 bytes >>= λ events. Ok (event.0 ∷ events.0, events.1)) out e in
    let b = bind_ok (events_at n g a.0.1 bytes) (λ events. Ok (a.0.0 ∷ events.0, events.1)) out a.2
    in
    let t = event_takes g at bytes a.0 fits a.1 in
    let r = events_take n g a.0.1 bytes b.0 fits t.held.within b.1 in
    let all : List Event × ℕ = (a.0.0 ∷ b.0.0, b.0.1) in
    subst (λ (x : List Event × ℕ). AllTaken g (suc n) at bytes x.0 x.1)
    (ok_is {K = TraceKind} all out b.2) (record {
      held = Holds-then bytes at (event_bytes g a.0.0) a.0.1 (events_bytes g b.0.0) b.0.1 t.held
          r.held;
      are = (t.is, r.are);
      number = omega (arith, r.number);
    })
