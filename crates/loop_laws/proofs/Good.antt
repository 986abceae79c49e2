-- The test on owners and subscripts is enough for a body.
use Rattle.loop_laws.proofs.Common.{◌≡◌, ℕ, zero, suc, ◌<◌, Bool, true, false, List, [], ◌∷◌}
use Rattle.loop_laws.proofs.Common.{length, refl, sym, ap, subst, arith, ◌⊎◌, inl, inr, ◌==◌}
use Rattle.loop_laws.proofs.Common.{nat_tests, cases_Bool, and_parts, eq-eqb}
use Rattle.std.proofs.Common.{not}
use Rattle.loop_ir.specs.Costs.{sub_code}
use Rattle.loop_laws.proofs.Same.{sub_true}
use Rattle.loop_laws.specs.Rooms.{Room, room_for, Owner, InRoom, InCells, same_owner, Mark}
use Rattle.loop_laws.specs.Rooms.{fits, is_there, all_fit}
use Rattle.loop_laws.specs.Rooms.{none_like, alone_in, writes_fit}
use Rattle.loop_laws.proofs.Fitting.{mark_at, IsThere}

pub there_is : (rooms : List Room) (o : Owner) → is_there o (length rooms) ≡ true → IsThere rooms o
there_is rooms (InRoom k) e = grind (arith, nat_tests)
there_is rooms (InCells w) e = tt

owner_same : (a b : Owner) → a ≡ b → same_owner a b ≡ true
owner_same (InRoom j) b e = subst (λ o. same_owner (InRoom j) o ≡ true) e (eq-eqb j j refl)
owner_same (InCells w) b e = subst (λ o. same_owner (InCells w) o ≡ true) e (eq-eqb w w refl)

not_true : (b : Bool) → not b ≡ true → b ≡ true → ⊥
not_true true e f = cc
not_true false e f = cc

pub none_at : (owner : Owner) (ms : List Mark) (k : ℕ) → none_like owner ms ≡ true → k < length ms
    → owner ≡ (mark_at ms k).owner → ⊥
none_at owner [] k e lt h = absurd (omega arith)
none_at owner (m ∷ ms) zero e lt h = let f = owner_same owner m.owner h in
    let g : not (same_owner owner m.owner) ≡ true = grind arith in not_true _ g f
none_at owner (m ∷ ms) (suc k) e lt h = none_at owner ms k (grind arith) (omega arith) h

-- of a list of reads, the first has the owner and no other, or it has not
alone_cases : (p m : Mark) (ms : List Mark) → alone_in p (m ∷ ms) ≡ true
    → ((p.sub ≡ m.sub) × (none_like p.owner ms ≡ true))
    ⊎ ((p.owner ≡ m.owner → ⊥) × (alone_in p ms ≡ true))
alone_cases p m ms e = elim (cases_Bool (same_owner p.owner m.owner)) [
  | inl h ↦
      let g = and_parts (sub_code p.sub == sub_code m.sub) (none_like p.owner ms) (rw h at e) in
      inl (sub_true p.sub m.sub g.0, g.1)
  | inr h ↦ inr ((λ g. let f = owner_same p.owner m.owner g in cc), rw h at e)
]

-- a read with the owner is the very place, and no other read has the owner
abbrev IsAlone : Mark → List Mark → ℕ → Type 0
IsAlone p ms k = k < length ms → p.owner ≡ (mark_at ms k).owner → (p.sub ≡ (mark_at ms k).sub)
    × ((l : ℕ) → l < length ms → p.owner ≡ (mark_at ms l).owner → k ≡ l)

alone_at : (p : Mark) (ms : List Mark) (k : ℕ) → alone_in p ms ≡ true → IsAlone p ms k
alone_at p [] k e = λ lk h. absurd (omega arith)
alone_at p (m ∷ ms) k e = by k (alone_cases p m ms e) (alone_at p ms)
  where
    by : (k : ℕ) → ((p.sub ≡ m.sub) × (none_like p.owner ms ≡ true))
        ⊎ ((p.owner ≡ m.owner → ⊥) × (alone_in p ms ≡ true))
        → ((j : ℕ) → alone_in p ms ≡ true → IsAlone p ms j) → IsAlone p (m ∷ ms) k
    by zero (inl c) more lk h = (
      c.0,
      elim [
        | zero ↦ λ ll g. refl
        | suc l ↦ λ ll g. absurd (none_at p.owner ms l c.1 (omega arith) g)
      ],
    )
    by zero (inr c) more lk h = absurd (c.0 h)
    by (suc k) (inl c) more lk h = absurd (none_at p.owner ms k c.1 (omega arith) h)
    by (suc k) (inr c) more lk h = let a = more k c.1 (omega arith) h in (
      a.0,
      elim [
        | zero ↦ λ ll g. absurd (c.0 g)
        | suc l ↦ λ ll g. ap suc (a.1 l (omega arith) g)
      ],
    )

pub alone_sub : (p : Mark) (ms : List Mark) (k : ℕ) → alone_in p ms ≡ true → k < length ms
    → p.owner ≡ (mark_at ms k).owner → p.sub ≡ (mark_at ms k).sub
alone_sub p ms k e lt h = (alone_at p ms k e lt h).0

pub alone_once : (p : Mark) (ms : List Mark) (k l : ℕ) → alone_in p ms ≡ true → k < length ms
    → l < length ms → p.owner ≡ (mark_at ms k).owner → p.owner ≡ (mark_at ms l).owner → k ≡ l
alone_once p ms k l e lk ll h g = (alone_at p ms k e lk h).1 l ll g

pub record WriteAt (rooms : List Room) (reads : List Mark) (p : Mark) : Type 0 where
  pub written : (room_for rooms p.owner).written ≡ true
  pub alone : alone_in p reads ≡ true

record FirstAt (rooms : List Room) (reads : List Mark) (p : Mark) (ms : List Mark) : Type 0 where
  first : WriteAt rooms reads p
  none : none_like p.owner ms ≡ true
  more : writes_fit rooms reads ms ≡ true

first_at : (rooms : List Room) (reads : List Mark) (p : Mark) (ms : List Mark)
    → writes_fit rooms reads (p ∷ ms) ≡ true → FirstAt rooms reads p ms
first_at rooms reads p ms e =
    record {
      first = record { written = grind arith; alone = grind arith };
      none = grind arith;
      more = grind arith;
    }

pub write_at : (rooms : List Room) (reads ms : List Mark) (j : ℕ) → writes_fit rooms reads ms ≡ true
    → j < length ms → WriteAt rooms reads (mark_at ms j)
write_at rooms reads [] j e lt = absurd (omega arith)
write_at rooms reads (p ∷ ms) zero e lt = (first_at rooms reads p ms e).first
write_at rooms reads (p ∷ ms) (suc j) e lt = write_at rooms reads ms j
    (first_at rooms reads p ms e).more (omega arith)

pub writes_once : (rooms : List Room) (reads ms : List Mark) (i j : ℕ)
    → writes_fit rooms reads ms ≡ true → i < length ms → j < length ms
    → (mark_at ms i).owner ≡ (mark_at ms j).owner → i ≡ j
writes_once rooms reads [] i j e li lj h = absurd (omega arith)
writes_once rooms reads (p ∷ ms) zero zero e li lj h = refl
writes_once rooms reads (p ∷ ms) zero (suc j) e li lj h =
    absurd (none_at p.owner ms j (first_at rooms reads p ms e).none (omega arith) h)
writes_once rooms reads (p ∷ ms) (suc i) zero e li lj h =
    absurd (none_at p.owner ms i (first_at rooms reads p ms e).none (omega arith) (sym h))
writes_once rooms reads (p ∷ ms) (suc i) (suc j) e li lj h =
    ap suc (writes_once rooms reads ms i j (first_at rooms reads p ms e).more (omega arith)
    (omega arith) h)

pub record FitAt (in_loop : Bool) (rooms : List Room) (p : Mark) : Type 0 where
  pub there : IsThere rooms p.owner
  pub fit : fits in_loop (room_for rooms p.owner).rows p.sub ≡ true

pub fit_at : (in_loop : Bool) (rooms : List Room) (ms : List Mark) (k : ℕ)
    → all_fit in_loop rooms ms ≡ true → k < length ms → FitAt in_loop rooms (mark_at ms k)
fit_at in_loop rooms [] k e lt = absurd (omega arith)
fit_at in_loop rooms (p ∷ ms) zero e lt =
    record { there = there_is rooms p.owner (grind arith); fit = grind arith }
fit_at in_loop rooms (p ∷ ms) (suc k) e lt = fit_at in_loop rooms ms k (grind arith) (omega arith)
