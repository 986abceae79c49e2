-- A state of triples as a list of guarded objects.
use Rattle.guard_model.proofs.Common.{and_parts, ◌≡◌, ◌≢◌, ℕ, suc, ◌+◌, ◌<◌, Bool, true, false, not}
use Rattle.guard_model.proofs.Common.{◌&&◌, cond, eqb, List, [], ◌∷◌, length, get_or, drop, Option}
use Rattle.guard_model.proofs.Common.{Some, None, refl, sym, arith, AllByRecursion, bytes_eq}
use Rattle.guard_model.proofs.Common.{nat_tests, fits_name, Object, Named, Held, table_of}
use Rattle.guard_model.proofs.Common.{same_bytes, bytes_same}
use Rattle.std.specs.List.{AllPairs}
use Rattle.object_alloc.specs.Free.{AreApart}
use Rattle.machine_model.proofs.Sliced.{has_from}
use Rattle.guard_model.specs.Triples.{x_letter, y_letter, z_letter, is_first_name, is_first}
use Rattle.guard_model.specs.Triples.{is_copy, stranger_from}
use Rattle.guard_model.proofs.Votes.{RowsApart}

-- a guarded object: where each copy begins, and the numbers of all three
pub record Trio : Type 0 where
  pub name : List ℕ
  pub x : ℕ
  pub y : ℕ
  pub z : ℕ
  pub width : ℕ
  pub count : ℕ
  pub numbers : List ℕ

abbrev pub place : Trio → ℕ → Object
place t base = record { base = base; width = t.width; count = t.count }

abbrev pub copy : ℕ → ℕ → Trio → Held
copy letter base t = record { name = letter ∷ t.name; object = place t base; numbers = t.numbers }

abbrev pub spread : List Trio → List Held
spread [] = []
spread (t ∷ ts) = copy x_letter t.x t ∷ copy y_letter t.y t ∷ copy z_letter t.z t ∷ spread ts

-- the one copy under the guarded name
abbrev pub alone : Trio → Held
alone t = record { name = t.name; object = place t t.x; numbers = t.numbers }

-- a held object, wherever it lies
abbrev pub unplaced : Held → Held
unplaced h = record {
  name = h.name;
  object =
      record { base = 0; width = h.object.width; count = h.object.count };
  numbers = h.numbers;
}

abbrev pub HaveNames : List Trio → Type 0
HaveNames ts = AllByRecursion (λ (t : Trio). fits_name t.name ≡ true) ts

same_number : (k : ℕ) → eqb k k ≡ true
same_number k = grind (arith, nat_tests)

copies_pass : (letter : ℕ) (t : Trio) (base : ℕ) → is_copy letter (x_letter ∷ t.name, place t t.x)
    (letter ∷ t.name, place t base) ≡ true
copies_pass letter t base = rw (
  bytes_same (letter ∷ t.name)
      (letter ∷ t.name) refl,
  same_number t.width,
  same_number t.count,
) refl

pub all_pass : (a b c : Bool) (k l m : ℕ) (r : Option ℕ) → a ≡ true → b ≡ true → c ≡ true → r ≡ None
    → cond (not a) (Some k) (cond (not b) (Some l) (cond (not c) (Some m) r)) ≡ None
all_pass true true true k l m r d e f g = g
all_pass true true false k l m r d e f g = cc
all_pass true false c k l m r d e f g = cc
all_pass false b c k l m r d e f g = cc

pub no_stranger : (ts : List Trio) (k : ℕ) → HaveNames ts → stranger_from k (table_of (spread ts))
    ≡ None
no_stranger [] k named = refl
no_stranger (t ∷ ts) k named = all_pass (fits_name t.name) _ _ k (k + 1) (k + 2) _ named.0
    (copies_pass y_letter t t.y) (copies_pass z_letter t t.z) (no_stranger ts (k + 3) named.1)

-- the other way
pub one_none : (b : Bool) (k : ℕ) (r : Option ℕ) → cond (not b) (Some k) r ≡ None → (b ≡ true)
    × (r ≡ None)
one_none true k r h = (refl, h)
one_none false k r h = cc

pub first_name : (name : List ℕ) → is_first_name name ≡ true → (name ≡ x_letter ∷ drop 1 name)
    × (fits_name (drop 1 name) ≡ true)
first_name [] h = cc
first_name (letter ∷ name) h = let both = and_parts (eqb letter x_letter) (fits_name name) h in
    let e : letter ≡ x_letter = grind (arith, nat_tests) in (rw e refl, both.1) where
      and_parts : (a b : Bool) → (a && b) ≡ true → (a ≡ true) × (b ≡ true)
      and_parts true b h = (refl, h)
      and_parts false b h = cc

pub equal_tested : (a b : ℕ) → eqb a b ≡ true → a ≡ b
equal_tested a b h = grind (arith, nat_tests)

-- a copy has the first one's name but for the letter, its width and its count
pub copy_is : (letter : ℕ) (first p : Named) → is_copy letter first p ≡ true
    → (p.0 ≡ letter ∷ drop 1 first.0) × (p.1.width ≡ first.1.width) × (p.1.count ≡ first.1.count)
copy_is letter first p h =
    let a = and_parts (bytes_eq p.0 (letter ∷ drop 1 first.0))
    (eqb p.1.width first.1.width && eqb p.1.count first.1.count) h in
    let b = and_parts (eqb p.1.width first.1.width) (eqb p.1.count first.1.count) a.1 in
    (same_bytes _ _ a.0, equal_tested _ _ b.0, equal_tested _ _ b.1)

-- three objects are the copies of one
pub record IsTriple (x y z : Named) : Type 0 where
  pub first : x.0 ≡ x_letter ∷ drop 1 x.0
  pub fits : fits_name (drop 1 x.0) ≡ true
  pub second : (y.0 ≡ y_letter ∷ drop 1 x.0) × (y.1.width ≡ x.1.width) × (y.1.count ≡ x.1.count)
  pub third : (z.0 ≡ z_letter ∷ drop 1 x.0) × (z.1.width ≡ x.1.width) × (z.1.count ≡ x.1.count)

pub triple : (x y z : Named) (rest : List Named) (k : ℕ)
    → stranger_from k (x ∷ y ∷ z ∷ rest) ≡ None
    → IsTriple x y z × (stranger_from (k + 3) rest ≡ None)
triple x y z rest k h =
    let a = one_none (is_first x) k _ h in
    let b = one_none (is_copy y_letter x y) (k + 1) _ a.1 in
    let c = one_none (is_copy z_letter x z) (k + 2) _ b.1 in
    let n = first_name x.0 a.0 in (
      record {
        first = n.0;
        fits = n.1;
        second = copy_is y_letter x y b.0;
        third = copy_is z_letter x z c.0;
      },
      c.1,
    )

three : {X : Type 0} (a b c x y z : X) (r s : List X) → a ≡ x → b ≡ y → c ≡ z → r ≡ s → a ∷ b ∷ c
    ∷ r ≡ x ∷ y ∷ z ∷ s
three a b c x y z r s e f g h = rw (e, f, g, h) refl

abbrev pub entry : Held → Named
entry h = (h.name, h.object)

entry_same : (p : Named) (name : List ℕ) (w c : ℕ) → name ≡ p.0 → w ≡ p.1.width → c ≡ p.1.count
    → (name, record { base = p.1.base; width = w; count = c }) ≡ p
entry_same p name w c e f i = rw (e, f, i) refl

abbrev pub trio_of : Held → Held → Held → Trio
trio_of x y z = record {
  name = drop 1 x.name;
  x = x.object.base;
  y = y.object.base;
  z =
      z.object.base;
  width = x.object.width;
  count = x.object.count;
  numbers = x.numbers;
}

abbrev pub trios_of : List Held → List Trio
trios_of (x ∷ y ∷ z ∷ rest) = trio_of x y z ∷ trios_of rest
trios_of state = []

-- a table without a stranger is that of trios
pub trios_spread : (state : List Held) (k : ℕ) → stranger_from k (table_of state) ≡ None
    → (table_of (spread (trios_of state)) ≡ table_of state) × HaveNames (trios_of state)
trios_spread [] k h = (refl, tt)
trios_spread (x ∷ []) k h = cc
trios_spread (x ∷ y ∷ []) k h = cc
trios_spread (x ∷ y ∷ z ∷ rest) k h =
    let t = triple (entry x) (entry y) (entry z) (table_of rest) k h in
    let more = trios_spread rest (k + 3) t.1 in (
      three _ _ _ (entry x) (entry y) (entry z) _ (table_of rest)
          (entry_same (entry x) (x_letter ∷ drop 1 x.name) x.object.width x.object.count
          (sym t.0.first) refl refl)
          (entry_same (entry y) (y_letter ∷ drop 1 x.name) x.object.width x.object.count
          (sym t.0.second.0) (sym t.0.second.1) (sym t.0.second.2))
          (entry_same (entry z) (z_letter ∷ drop 1 x.name) x.object.width x.object.count
          (sym t.0.third.0) (sym t.0.third.1) (sym t.0.third.2))
          more.0,
      (t.0.fits, more.1),
    )

-- No row is in two copies
abbrev pub Clear : Object → Object → Type 0
Clear o p = (i j : ℕ) → i < o.width → j < p.width → o.base + i ≢ p.base + j

pub clear_of : (o p : Object) → AreApart o p → Clear o p
clear_of o p apart i j a b e =
    let has = has_from o (o.base + i) (omega arith) (omega arith) in
    let also = has_from p (o.base + i) (omega (arith, e)) (omega (arith, e)) in
    let not = apart (o.base + i) has in
    cc

-- none of the copies of t has a row of o
abbrev pub OutOf : Trio → Object → Type 0
OutOf t o = Clear (place t t.x) o × Clear (place t t.y) o × Clear (place t t.z) o

abbrev pub TriosApart : Trio → Trio → Type 0
TriosApart t u = OutOf t (place u u.x) × OutOf t (place u u.y) × OutOf t (place u u.z)

abbrev pub Separate : List Trio → Type 0
Separate [] = Unit {0}
Separate (t ∷ ts) = RowsApart t.x t.y t.z t.width × AllByRecursion (TriosApart t) ts
    × AllByRecursion (λ u. TriosApart u t) ts × Separate ts

pub clear_back : (o p : Object) → Clear o p → Clear p o
clear_back o p c i j a b e = c j i b a (sym e)

pub back : (t u : Trio) → TriosApart t u → TriosApart u t
back t u a =
    let x = place t t.x in
    let y = place t t.y in
    let z = place t t.z in
    let p = place u u.x in
    let q = place u u.y in
    let r = place u u.z in (
      (clear_back x p a.0.0, clear_back x q a.1.0, clear_back x r a.2.0),
      (clear_back y p a.0.1, clear_back y q a.1.1, clear_back y r a.2.1),
      (clear_back z p a.0.2, clear_back z q a.1.2, clear_back z r a.2.2),
    )

all_back : (t : Trio) (ts : List Trio) → AllByRecursion (TriosApart t) ts → AllByRecursion
    (λ u. TriosApart u t) ts
all_back t [] h = tt
all_back t (u ∷ ts) h = (back t u h.0, all_back t ts h.1)

abbrev Pairs : List Named → Type 0
Pairs table = AllPairs (λ p q. AreApart p.1 q.1) table

pairs_tail : (p : Named) (table : List Named) → Pairs (p ∷ table) → Pairs table
pairs_tail p table h i j d l m = h (suc i) (suc j) d (omega arith) (omega arith)

-- the first is apart from each later one
abbrev AllApart : Object → List Named → Type 0
AllApart o table = (j : ℕ) (d : Named) → j < length table → AreApart o (get_or table j d).1

pairs_head : (p : Named) (table : List Named) → Pairs (p ∷ table) → AllApart p.1 table
pairs_head p table h j d l = h 0 (suc j) d (omega arith) (omega arith)

apart_tail : (o : Object) (p : Named) (table : List Named) → AllApart o (p ∷ table)
    → AllApart o table
apart_tail o p table h j d l = h (suc j) d (omega arith)

apart_head : (o : Object) (p : Named) (table : List Named) → AllApart o (p ∷ table) → AreApart o p.1
apart_head o p table h = h 0 p (omega arith)

abbrev ClearOf : Object → Trio → Type 0
ClearOf o u = Clear o (place u u.x) × Clear o (place u u.y) × Clear o (place u u.z)

clear_all : (o : Object) (ts : List Trio) → AllApart o (table_of (spread ts)) → AllByRecursion
    (ClearOf o) ts
clear_all o [] h = tt
clear_all o (u ∷ ts) h =
    let p0 = entry (copy x_letter u.x u) in
    let p1 = entry (copy y_letter u.y u) in
    let p2 = entry (copy z_letter u.z u) in
    let r2 = table_of (spread ts) in
    let h1 = apart_tail o p0 (p1 ∷ p2 ∷ r2) h in
    let h2 = apart_tail o p1 (p2 ∷ r2) h1 in (
      (
        clear_of o p0.1 (apart_head o p0 (p1 ∷ p2 ∷ r2) h),
        clear_of o p1.1
            (apart_head o p1 (p2 ∷ r2) h1),
        clear_of o p2.1 (apart_head o p2 r2 h2),
      ),
      clear_all o ts (apart_tail o p2 r2 h2),
    )

trios_apart : (t : Trio) (ts : List Trio) → AllByRecursion (ClearOf (place t t.x)) ts
    → AllByRecursion (ClearOf (place t t.y)) ts → AllByRecursion (ClearOf (place t t.z)) ts
    → AllByRecursion (TriosApart t) ts
trios_apart t [] a b c = tt
trios_apart t (u ∷ ts) a b c = (
  ((a.0.0, b.0.0, c.0.0), (a.0.1, b.0.1, c.0.1), (a.0.2, b.0.2, c.0.2)),
  trios_apart t ts a.1 b.1 c.1,
)

pub separate_of : (ts : List Trio) → AllPairs (λ p q. AreApart p.1 q.1) (table_of (spread ts))
    → Separate ts
separate_of [] h = tt
separate_of (t ∷ ts) h =
    let p0 = entry (copy x_letter t.x t) in
    let p1 = entry (copy y_letter t.y t) in
    let p2 = entry (copy z_letter t.z t) in
    let r2 = table_of (spread ts) in
    let r1 = p2 ∷ r2 in
    let r0 = p1 ∷ r1 in
    let h1 = pairs_tail p0 r0 h in
    let h2 = pairs_tail p1 r1 h1 in
    let h3 = pairs_tail p2 r2 h2 in
    let a0 = pairs_head p0 r0 h in
    let a1 = pairs_head p1 r1 h1 in
    let a2 = pairs_head p2 r2 h2 in
    let x = place t t.x in
    let y = place t t.y in
    let z = place t t.z in
    let x1 = apart_tail x p1 r1 a0 in
    let rest = trios_apart t ts (clear_all x ts (apart_tail x p2 r2 x1))
    (clear_all y ts (apart_tail y p2 r2 a1)) (clear_all z ts a2) in (
      record {
        xy = clear_of x y (apart_head x p1 r1 a0);
        xz = clear_of x z (apart_head x p2 r2 x1);
        yz = clear_of y z (apart_head y p2 r2 a1);
      },
      rest,
      all_back t ts rest,
      separate_of ts h3,
    )
