-- What an instruction comes to, where it is done and where it is refused.
use Rattle.object_steps.proofs.Common.{◌≡◌, ℕ, ◌+◌, ◌<◌, ◌≤◌, true, false, List, [], Option, Some}
use Rattle.object_steps.proofs.Common.{None, length, map, refl, sym, ◌∙◌, ap, arith, nat_le}
use Rattle.object_steps.proofs.Common.{position, ◌-◌, ◌∷◌, ◌++◌, append-nil, cond, subst, ◌^◌}
use Rattle.object_steps.proofs.Common.{unwrap_or, Geometry, Banks, Event, Counters, ChipView, Did}
use Rattle.object_steps.proofs.Common.{DidRead, with_reads, Known, StoppedWithin, Grew-none, Counts}
use Rattle.object_steps.proofs.Common.{Object, are_free, free, Named, Place, Load, Why, Routines}
use Rattle.object_steps.proofs.Common.{is_absent, goes_past, rows_of, refusal, at_place, first}
use Rattle.object_steps.proofs.Common.{at_place-map, option_map}
use Rattle.std.proofs.lemmas.Bool.{eq-eqb}
use Rattle.dram_model.proofs.EventLaws.{Did-none}
use Rattle.object_alloc.proofs.Tables.{in_range}
use Rattle.machine_model.proofs.Below.{base_free, row_within}
use Rattle.object_alloc.specs.Free.{is_free}
use Rattle.std.specs.Prelude.{is_none}
use Rattle.machine_model.specs.declared.Reply.TheVariants.{Done, Refused}
use Rattle.machine_model.specs.Steps.{if_done, reply_by}
use Rattle.machine_model.specs.declared.Why.TheVariants as why
use Rattle.object_steps.proofs.Refused.{alone}

pub did_all : (r : Option Why) (events : List Event) (a b : ChipView) → r ≡ None → Did events a b
    → Did (if_done r events []) a b
did_all r events a b e did = rw e did

pub stopped_all : (r : Option Why) (events : List Event) (a b : Banks) → r ≡ None
    → StoppedWithin 0 events a b → StoppedWithin 0 (if_done r events []) a b
stopped_all r events a b e s = rw e s

pub did_nothing : (r : Option Why) (reason : Why) (events : List Event) (a : ChipView)
    → r ≡ Some reason → Did (if_done r events []) a a
did_nothing r reason events a e = rw e (Did-none a)

pub replies_done : (r : Option Why) (known counts : Counts) → r ≡ None → known ≡ counts
    → Done known ≡ reply_by r counts
replies_done r known counts e f = rw (e, f) refl

pub replies_refused : (r : Option Why) (reason : Why) (counts : Counts) → r ≡ Some reason
    → Refused reason ≡ reply_by r counts
replies_refused r reason counts e = rw e refl

range_found : (n : ℕ) (values : List ℕ) (found : Option ℕ)
    → found ≡ position (λ v. nat_le (2 ^ n) v) values
    → first (at_place why.Range 1 (map (λ v. nat_le (2 ^ n) v) values) ∷ [])
    ≡ option_map (λ i. why.Range (1 + i)) found
range_found n values found e =
    alone (at_place why.Range 1 (map (λ v. nat_le (2 ^ n) v) values))
    ∙ at_place-map (λ k. why.Range k) 1 (λ v. nat_le (2 ^ n) v) values
    ∙ ap (option_map (λ i. why.Range (1 + i))) (sym e)

load_range : (g : Geometry) (operations : Routines) (table : List Named) (place : Place)
    (values : List ℕ) (o : Object) (found : Option ℕ) → is_absent table place.name ≡ false
    → goes_past table place ≡ false → o ≡ rows_of table place
    → length values ≡ o.count → found ≡ position (λ v. nat_le (2 ^ o.width) v) values
    → refusal g operations table (Load place values) ≡ option_map (λ i. why.Range (1 + i)) found
load_range g operations table place values o found there inside e same f =
    rw (there, inside, ← e, eq-eqb (length values) o.count same) (range_found o.width values found f)

pub load_refused : (g : Geometry) (operations : Routines) (table : List Named) (place : Place)
    (values : List ℕ) (o : Object) (at k : ℕ) → is_absent table place.name ≡ false
    → goes_past table place ≡ false → o ≡ rows_of table place → length values ≡ o.count
    → Some at ≡ position (λ v. nat_le (2 ^ o.width) v) values → k ≡ at + 1
    → refusal g operations table (Load place values) ≡ Some (why.Range k)
load_refused g operations table place values o at k there inside e same f h =
    let next : 1 + at ≡ k = omega arith in
    load_range g operations table place values o (Some at) there inside e same f
    ∙ ap (λ k. Some (why.Range k)) next

pub load_allowed : (g : Geometry) (operations : Routines) (table : List Named) (place : Place)
    (values : List ℕ) (o : Object) → is_absent table place.name ≡ false
    → goes_past table place ≡ false → o ≡ rows_of table place → length values ≡ o.count
    → None ≡ position (λ v. nat_le (2 ^ o.width) v) values
    → refusal g operations table (Load place values) ≡ None
load_allowed g operations table place values o there inside e same f =
    load_range g operations table place values o None there inside e same f

-- where so many rows begin they are free
pub found_free : (limit : ℕ) (objects : List Object) (k base : ℕ)
    → free limit objects k ≡ Some base → are_free limit objects k base ≡ true
found_free limit objects k base e =
    subst (λ (found : Option ℕ). are_free limit objects k (unwrap_or found 0) ≡ true) e
    (base_free limit objects k (ap is_none e)).1

pub found_within : (limit : ℕ) (objects : List Object) (k base : ℕ) → 0 < k
    → free limit objects k ≡ Some base → base + k ≤ limit
found_within limit objects k base some e =
    let last = row_within limit objects (base + k - 1) (in_range (is_free limit objects) base k
    (base + k - 1) (found_free limit objects k base e) (omega arith) (omega arith)) in
    omega (arith, last)

pub same_after : {X : Type 0} (r : Option Why) (reason : Why) (new old : X) → r ≡ Some reason
    → old ≡ if_done r new old
same_after r reason new old e = rw e refl

reads_stay : (k : Counters) → k ≡ with_reads 0 k
reads_stay k = let e : k.reads ≡ k.reads + 0 = omega arith in rw (← e) refl

no_reads : (a : ChipView) → DidRead 0 a a
no_reads a = record {
  banks = refl;
  counters = reads_stay a.counters;
  faults = refl;
  log = Grew-none a.log;
}

nothing_sent : (sent : Option (List ℕ)) → Known (λ x y. y ≡ x ++ []) sent sent
nothing_sent None = tt
nothing_sent (Some xs) = sym (append-nil xs)

-- a refused print reads nothing, and nothing is said by it
pub did_not_read : (r : Option Why) (reason : Why) (n : ℕ) (a : ChipView) → r ≡ Some reason
    → DidRead (cond (is_none r) n 0) a a
did_not_read r reason n a e = rw e (no_reads a)

pub sent_nothing : (r : Option Why) (reason : Why) (text : List ℕ) (sent : Option (List ℕ))
    → r ≡ Some reason → Known (λ x y. y ≡ x ++ if_done r text []) sent sent
sent_nothing r reason text sent e = rw e (nothing_sent sent)
