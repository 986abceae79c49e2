-- The guarded step of trios, for the instructions that add or remove objects, and for the rest.
use Rattle.guard_model.proofs.Common.{or_parts, ◌≡◌, ℕ, ◌*◌, Bool, true, false, not, ◌||◌, cond}
use Rattle.guard_model.proofs.Common.{eqb, List, [], ◌∷◌, ◌++◌, map, length, Option, Some, None}
use Rattle.guard_model.proofs.Common.{refl, sym, ◌∙◌, ap, inl, inr, ◌⊎◌, replicate, filter, is_none}
use Rattle.guard_model.proofs.Common.{nat_lt, bytes_eq, map-append, fits_name, Geometry}
use Rattle.guard_model.proofs.Common.{column_count, Object, free, Named, has_name, limit_of, Place}
use Rattle.guard_model.proofs.Common.{Instruction, Init, Bbop, Load, Fill, Print, Free, Order, Why}
use Rattle.guard_model.proofs.Common.{object_size, Routines, refusal, when, Held, table_of, worded}
use Rattle.guard_model.proofs.Common.{tabled, words_at_end, is_refused, replies, bytes_same}
use Rattle.std.proofs.Common.{append_assoc, append-nil}
use Rattle.std.specs.Prelude.{nat_le}
use Rattle.std.specs.List.{list_any}
use Rattle.object_alloc.specs.Listed.{without, objects_of}
use Rattle.bbop_isa.specs.declared.instr.Order.{Order as Orders}
use Rattle.machine_model.specs.Steps.{new_object, base_for}
use Rattle.machine_model.proofs.Facts.{first_none, when_none}
use Rattle.machine_model.specs.declared.Why.TheVariants as why
use Rattle.guard_model.specs.Triples.{x_letter, y_letter, z_letter}
use Rattle.guard_model.specs.Guarded.{place_on, plain_script, guarded_reply, joined, done_ones}
use Rattle.guard_model.specs.Guarded.{adds}
use Rattle.guard_model.specs.Laws.{HasName}
use Rattle.guard_model.proofs.Trios.{Trio, copy, spread, alone, HaveNames, unplaced}
use Rattle.guard_model.proofs.Names.{is_x, is_y, is_z, letters_differ, copies_like, has_copy}
use Rattle.guard_model.proofs.Refused.{free_like}
use Rattle.guard_model.proofs.Runs.{AllDone, words_all, script_for, script_by, script_done}
use Rattle.guard_model.proofs.Runs.{script_refused, reply_done, reply_first, reply_more, done_first}
use Rattle.guard_model.proofs.Runs.{done_more, none_yet}
use Rattle.guard_model.proofs.Keeps.{IsStep, three_alike, load_step, fill_step, bbop_step}

cond_same : {X : Type 0} (b : Bool) (x : X) → cond b x x ≡ x
cond_same true x = refl
cond_same false x = refl

print_words : (g : Geometry) (operations : Routines) (meaning : List ℕ → ℕ → List ℕ → List ℕ)
    (state : List Held) (place : Place) (r : Option Why) → refusal g operations (table_of state)
    (Print place) ≡ r → words_at_end g operations meaning state
    (script_for g operations (table_of state) (Print place ∷ [])) ≡ state
print_words g operations meaning state place None e =
    let d : AllDone g operations (table_of state) (Print place ∷ []) = (e, tt) in
    ap (words_at_end g operations meaning state)
    (script_done g operations (table_of state) (Print place ∷ []) d)
    ∙ words_all g operations meaning state (Print place ∷ []) d
print_words g operations meaning state place (Some w) e = ap
    (words_at_end g operations meaning state)
    (script_refused g operations (table_of state) (Print place) [] w e)

print_script : (g : Geometry) (operations : Routines) (table : List Named) (place : Place)
    (r : Option Why) → refusal g operations table (Print place) ≡ r
    → (script_for g operations table (Print place ∷ []) ≡ Print place ∷ []) ⊎
    (script_for g operations table (Print place ∷ []) ≡ [])
print_script g operations table place None e = inl
    (script_done g operations table (Print place ∷ []) (e, tt))
print_script g operations table place (Some w) e = inr
    (script_refused g operations table (Print place) [] w e)

pub print_step : (g : Geometry) (operations : Routines) (meaning : List ℕ → ℕ → List ℕ → List ℕ)
    (ts : List Trio) (place : Place) → HaveNames ts → IsStep g operations meaning ts (Print place)
print_step g operations meaning ts place have =
    let first = place_on x_letter place in
    record {
      trios = ts;
      words = print_words g operations meaning (spread ts) first
          (refusal g operations (table_of (spread ts)) (Print first)) refl;
      named = have;
      stays = λ h. refl;
      even = λ h. print_script g operations (table_of (spread ts)) first
          (refusal g operations (table_of (spread ts)) (Print first)) refl;
      alone = ap (map unplaced) (sym (cond_same
          (is_refused (guarded_reply g operations (table_of (spread ts)) (Print place)))
          (map alone ts)));
    }

pub order_step : (g : Geometry) (operations : Routines) (meaning : List ℕ → ℕ → List ℕ → List ℕ)
    (ts : List Trio) (o : Orders) → HaveNames ts → IsStep g operations meaning ts (Order o)
order_step g operations meaning ts o have =
    record {
      trios = ts;
      words = refl;
      named = have;
      stays = λ h. refl;
      even =
          λ h. inl refl;
      alone = refl;
    }

-- Removal
any_case : {X : Type 0} (p q : X → Bool) (x : X) (xs : List X) (a b : Bool) → p x ≡ a → q x ≡ b
    → (a ≡ true → b ≡ true) → list_any p (filter q xs) ≡ list_any p xs → list_any p
    (cond b (x ∷ filter q xs) (filter q xs)) ≡ (a || list_any p xs)
any_case p q x xs true true e f h go = rw e refl
any_case p q x xs true false e f h go = let c = h refl in cc
any_case p q x xs false true e f h go = rw e go
any_case p q x xs false false e f h go = go

any_filter : {X : Type 0} (p q : X → Bool) (xs : List X) → ((x : X) → p x ≡ true → q x ≡ true)
    → list_any p (filter q xs) ≡ list_any p xs
any_filter p q [] h = refl
any_filter p q (x ∷ xs) h = any_case p q x xs (p x) (q x) refl refl (h x) (any_filter p q xs h)

-- other names stay
has_without : (table : List Named) (c d : ℕ) (m n : List ℕ) → eqb d c ≡ false → has_name
    (without table (c ∷ m)) (d ∷ n) ≡ has_name table (d ∷ n)
has_without table c d m n ne = any_filter (λ (p : Named). bytes_eq p.0 (d ∷ n))
    (λ (p : Named). not (bytes_eq p.0 (c ∷ m))) table
    (λ p h. ap not (letters_differ d c n m ne p.0 h))

abbrev keep : List ℕ → Held → Bool
keep name h = not (bytes_eq h.name name)

abbrev keep_all : List ℕ → List Held → List Held
keep_all name state = filter (keep (z_letter ∷ name))
    (filter (keep (y_letter ∷ name)) (filter (keep (x_letter ∷ name)) state))

gone_case : (t : Trio) (name : List ℕ) (rest : List Held) (b : Bool) → bytes_eq t.name name ≡ b
    → keep_all name (copy x_letter t.x t ∷ copy y_letter t.y t ∷ copy z_letter t.z t ∷ rest) ≡ cond
    (not b) (copy x_letter t.x t ∷ copy y_letter t.y t ∷ copy z_letter t.z t ∷ keep_all name rest)
    (keep_all name rest)
gone_case t name rest true e =
    let y = copy y_letter t.y t in
    let z = copy z_letter t.z t in
    let f1 = filter (keep (x_letter ∷ name)) rest in
    let f2 = filter (keep (y_letter ∷ name)) f1 in
    let f3 = filter (keep (z_letter ∷ name)) f2 in
    ap (λ b. filter (keep (z_letter ∷ name))
    (filter (keep (y_letter ∷ name))
    (cond (not b) (copy x_letter t.x t ∷ y ∷ z ∷ f1) (y ∷ z ∷ f1)))) e
    ∙ ap (λ b. filter (keep (z_letter ∷ name)) (cond (not b) (y ∷ z ∷ f2) (z ∷ f2))) e
    ∙ ap (λ b. cond (not b) (z ∷ f3) f3) e
gone_case t name rest false e =
    let x = copy x_letter t.x t in
    let y = copy y_letter t.y t in
    let z = copy z_letter t.z t in
    let f1 = filter (keep (x_letter ∷ name)) rest in
    let f2 = filter (keep (y_letter ∷ name)) f1 in
    let f3 = filter (keep (z_letter ∷ name)) f2 in
    ap (λ b. filter (keep (z_letter ∷ name))
    (filter (keep (y_letter ∷ name)) (cond (not b) (x ∷ y ∷ z ∷ f1) (y ∷ z ∷ f1)))) e
    ∙ ap (λ b. filter (keep (z_letter ∷ name)) (x ∷ cond (not b) (y ∷ z ∷ f2) (z ∷ f2))) e
    ∙ ap (λ b. x ∷ y ∷ cond (not b) (z ∷ f3) f3) e

spread_case : (t : Trio) (ts : List Trio) (b : Bool) → cond b
    (copy x_letter t.x t ∷ copy y_letter t.y t ∷ copy z_letter t.z t ∷ spread ts) (spread ts)
    ≡ spread (cond b (t ∷ ts) ts)
spread_case t ts true = refl
spread_case t ts false = refl

abbrev trios_without : List Trio → List ℕ → List Trio
trios_without ts name = filter (λ (t : Trio). not (bytes_eq t.name name)) ts

all_gone : (ts : List Trio) (name : List ℕ) → keep_all name (spread ts) ≡ spread
    (trios_without ts name)
all_gone [] name = refl
all_gone (t ∷ ts) name =
    let b = bytes_eq t.name name in
    gone_case t name (spread ts) b refl
    ∙ ap (λ r. cond (not b) (copy x_letter t.x t ∷ copy y_letter t.y t ∷ copy z_letter t.z t ∷ r) r)
    (all_gone ts name)
    ∙ spread_case t (trios_without ts name) (not b)

alone_gone_case : (t : Trio) (ts : List Trio) (b : Bool) → map alone (cond b (t ∷ ts) ts) ≡ cond b
    (alone t ∷ map alone ts) (map alone ts)
alone_gone_case t ts true = refl
alone_gone_case t ts false = refl

alone_gone : (ts : List Trio) (name : List ℕ) → map alone (trios_without ts name) ≡ filter
    (keep name) (map alone ts)
alone_gone [] name = refl
alone_gone (t ∷ ts) name = let b = not (bytes_eq t.name name) in alone_gone_case t
    (trios_without ts name) b ∙ ap (λ r. cond b (alone t ∷ r) r) (alone_gone ts name)

named_case : (t : Trio) (ts : List Trio) (b : Bool) → fits_name t.name ≡ true → HaveNames ts
    → HaveNames (cond b (t ∷ ts) ts)
named_case t ts true h k = (h, k)
named_case t ts false h k = k

named_gone : (ts : List Trio) (name : List ℕ) → HaveNames ts → HaveNames (trios_without ts name)
named_gone [] name h = tt
named_gone (t ∷ ts) name h = named_case t (trios_without ts name) (not (bytes_eq t.name name)) h.0
    (named_gone ts name h.1)

pub free_step : (g : Geometry) (operations : Routines) (meaning : List ℕ → ℕ → List ℕ → List ℕ)
    (ts : List Trio) (name : List ℕ) → HaveNames ts → IsStep g operations meaning ts (Free name)
free_step g operations meaning ts name have =
    let table = table_of (spread ts) in
    let lone = table_of (map alone ts) in
    let by = λ (b : Bool). when (not b) (why.NoObject 0) in
    three_alike g operations meaning ts (Free name) (Free (x_letter ∷ name))
    (Free (y_letter ∷ name)) (Free (z_letter ∷ name)) (refusal g operations lone (Free name))
    (trios_without ts name) refl
    (free_like g operations table lone x_letter (copies_like x_letter (λ t. t.x) ts is_x) name)
    (ap by (has_without table x_letter y_letter name name refl)
    ∙ free_like g operations table lone y_letter (copies_like y_letter (λ t. t.y) ts is_y) name)
    (ap by (has_without (without table (x_letter ∷ name)) y_letter z_letter name name refl
    ∙ has_without table x_letter z_letter name name refl)
    ∙ free_like g operations table lone z_letter (copies_like z_letter (λ t. t.z) ts is_z) name)
    (all_gone ts name) have (named_gone ts name have) (alone_gone ts name)

-- A new object
pub spread_append : (ts us : List Trio) → spread (ts ++ us) ≡ spread ts ++ spread us
spread_append [] us = refl
spread_append (t ∷ ts) us = ap (λ r. copy x_letter t.x t ∷ copy y_letter t.y t ∷ copy z_letter t.z t
    ∷ r) (spread_append ts us)

named_append : (ts : List Trio) (t : Trio) → HaveNames ts → fits_name t.name ≡ true → HaveNames
    (ts ++ t ∷ [])
named_append [] t h f = (f, tt)
named_append (u ∷ ts) t h f = (h.0, named_append ts t h.1 f)

-- where no object has the name, all stay
none_gone : (state : List Held) (name : List ℕ) → has_name (table_of state) name ≡ false → filter
    (keep name) state ≡ state
none_gone [] name h = refl
none_gone (h' ∷ state) name h = let both = or_parts (bytes_eq h'.name name)
    (has_name (table_of state) name) h in rw both.0 (ap (λ r. h' ∷ r) (none_gone state name both.1))

filter_case : (x : Held) (b : Bool) (f r ys : List Held) → f ≡ r ++ ys → cond b (x ∷ f) f ≡ cond b
    (x ∷ r) r ++ ys
filter_case x true f r ys e = ap (λ l. x ∷ l) e
filter_case x false f r ys e = e

filter_append : (p : Held → Bool) (xs ys : List Held) → filter p (xs ++ ys) ≡ filter p xs
    ++ filter p ys
filter_append p [] ys = refl
filter_append p (x ∷ xs) ys = filter_case x (p x) _ _ _ (filter_append p xs ys)

or_assoc : (a b c d : Bool) → d ≡ (b || c) → (a || d) ≡ ((a || b) || c)
or_assoc true b c d e = refl
or_assoc false b c d e = e

any_append : (p : Named → Bool) (xs ys : List Named) → list_any p (xs ++ ys)
    ≡ (list_any p xs || list_any p ys)
any_append p [] ys = refl
any_append p (x ∷ xs) ys = or_assoc (p x) (list_any p xs) (list_any p ys) _ (any_append p xs ys)

or_true : (a : Bool) → (a || true) ≡ true
or_true true = refl
or_true false = refl

-- the object that was added stands
has_added : (table : List Named) (name : List ℕ) (o : Object) → has_name
    (table ++ (name, o) ∷ []) name ≡ true
has_added table name o = any_append (λ (p : Named). bytes_eq p.0 name) table ((name, o) ∷ []) ∙ rw
    (bytes_same name name refl) (or_true (has_name table name))

has_kept : (table : List Named) (name : List ℕ) (p : Named) → has_name table name ≡ true → has_name
    (table ++ p ∷ []) name ≡ true
has_kept table name p h = any_append (λ (q : Named). bytes_eq q.0 name) table (p ∷ []) ∙ rw h refl

abbrev held_new : Geometry → List Held → List ℕ → ℕ → ℕ → Held
held_new g state name count n = let o = new_object g (table_of state) count n in
    record { name = name; object = o; numbers = replicate (object_size g o) 0 }

-- the last, where its name is new, is all that its removal takes
last_gone : (state : List Held) (h : Held) → has_name (table_of state) h.name ≡ false → filter
    (keep h.name) (state ++ h ∷ []) ≡ state
last_gone state h new = filter_append (keep h.name) state (h ∷ []) ∙ rw
    (none_gone state h.name new, bytes_same h.name h.name refl) (append-nil state)

free_done : (g : Geometry) (operations : Routines) (table : List Named) (name : List ℕ)
    → has_name table name ≡ true → refusal g operations table (Free name) ≡ None
free_done g operations table name h = ap (λ b. when (not b) (why.NoObject 0)) h

refused_step : (g : Geometry) (operations : Routines) (meaning : List ℕ → ℕ → List ℕ → List ℕ)
    (ts : List Trio) (instr : Instruction) (script : List Instruction) → plain_script g operations
    (table_of (spread ts)) instr ≡ script
    → is_refused (guarded_reply g operations (table_of (spread ts)) instr) ≡ true
    → words_at_end g operations meaning (spread ts) script ≡ spread ts → HaveNames ts → adds instr
    ≡ true → IsStep g operations meaning ts instr
refused_step g operations meaning ts instr script is reply words have add = record {
  trios = ts;
  words = ap (words_at_end g operations meaning (spread ts)) is ∙ words;
  named = have;
  stays = λ h. refl;
  even = λ h. cc;
  alone = ap (λ b. map unplaced (cond b (map alone ts)
      (worded g operations meaning (map alone ts) instr))) (sym reply);
}

is_new : (g : Geometry) (operations : Routines) (table : List Named) (name : List ℕ) (count n : ℕ)
    → refusal g operations table (Init name count n) ≡ None → has_name table name ≡ false
is_new g operations table name count n h =
    let rest = when (nat_le 256 (length table)) why.TableFull ∷ when
    (nat_lt (column_count g * g.banks) count) why.TooLarge ∷ when
    (is_none (free (limit_of g) (objects_of table) n)) why.NoRows ∷ [] in
    when_none _ _ (first_none (when (has_name table name) why.Exists) rest h).0

-- the trio that is added
abbrev added : Geometry → List Held → List ℕ → ℕ → ℕ → Trio
added g state name count n =
    let one = state ++ held_new g state (x_letter ∷ name) count n ∷ [] in
    let two = one ++ held_new g one (y_letter ∷ name) count n ∷ [] in
    record {
      name = name;
      x = base_for g (table_of state) n;
      y = base_for g (table_of one) n;
      z = base_for g (table_of two) n;
      width = n;
      count = count;
      numbers = replicate (object_size g (new_object g (table_of state) count n)) 0;
    }

three_more : (s : List Held) (a b c : Held) → ((s ++ a ∷ []) ++ b ∷ []) ++ c ∷ [] ≡ s
    ++ (a ∷ b ∷ c ∷ [])
three_more s a b c = ap (λ l. l ++ c ∷ []) (append_assoc s (a ∷ []) (b ∷ [])) ∙ append_assoc s
    (a ∷ b ∷ []) (c ∷ [])

abbrev made : Geometry → List Trio → ℕ → List ℕ → ℕ → ℕ → List Named
made g ts c name count n = tabled g (table_of (spread ts)) (Init (c ∷ name) count n)

abbrev made_both : Geometry → List Trio → List ℕ → ℕ → ℕ → List Named
made_both g ts name count n = tabled g (made g ts x_letter name count n)
    (Init (y_letter ∷ name) count n)

new_x : (g : Geometry) (operations : Routines) (ts : List Trio) (name : List ℕ) (count n : ℕ)
    → refusal g operations (table_of (spread ts)) (Init (x_letter ∷ name) count n) ≡ None → has_name
    (table_of (spread ts)) (x_letter ∷ name) ≡ false
new_x g operations ts name count n e = is_new g operations (table_of (spread ts))
    (x_letter ∷ name) count n e

new_y : (g : Geometry) (operations : Routines) (ts : List Trio) (name : List ℕ) (count n : ℕ)
    → refusal g operations (table_of (spread ts)) (Init (x_letter ∷ name) count n) ≡ None → has_name
    (table_of (spread ts)) (y_letter ∷ name) ≡ false
new_y g operations ts name count n e = has_copy y_letter (λ t. t.y) ts name is_y ∙ sym
    (has_copy x_letter (λ t. t.x) ts name is_x) ∙ new_x g operations ts name count n e

init_third : (g : Geometry) (operations : Routines) (meaning : List ℕ → ℕ → List ℕ → List ℕ)
    (ts : List Trio) (name : List ℕ) (count n : ℕ) (r : Option Why)
    → refusal g operations (table_of (spread ts)) (Init (x_letter ∷ name) count n) ≡ None
    → refusal g operations (made g ts x_letter name count n) (Init (y_letter ∷ name) count n) ≡ None
    → refusal g operations (made_both g ts name count n) (Init (z_letter ∷ name) count n) ≡ r
    → HaveNames ts → fits_name name ≡ true → IsStep g operations meaning ts (Init name count n)
init_third g operations meaning ts name count n None e1 e2 e3 have fits =
    let state = spread ts in
    let table = table_of state in
    let a = Init (x_letter ∷ name) count n in
    let b = Init (y_letter ∷ name) count n in
    let c = Init (z_letter ∷ name) count n in
    let all = a ∷ b ∷ c ∷ [] in
    let d : AllDone g operations table all = (e1, (e2, (e3, tt))) in
    let one = state ++ held_new g state (x_letter ∷ name) count n ∷ [] in
    let two = one ++ held_new g one (y_letter ∷ name) count n ∷ [] in
    let t = added g state name count n in
    let lone = map alone ts in
    let made_one = held_new g lone name count n in
    record {
      trios = ts ++ t ∷ [];
      words = ap (words_at_end g operations meaning state) (script_done g operations table all d)
          ∙ words_all g operations meaning state all d
          ∙ three_more state (held_new g state (x_letter ∷ name) count n)
          (held_new g one (y_letter ∷ name) count n) (held_new g two (z_letter ∷ name) count n)
          ∙ sym (spread_append ts (t ∷ []));
      named = named_append ts t have fits;
      stays = λ h. let f = reply_done g operations table all none_yet d in cc;
      even = λ h. cc;
      alone = ap (map unplaced) (map-append alone ts (t ∷ [])) ∙ map-append unplaced lone
          (alone t ∷ []) ∙ sym (map-append unplaced lone (made_one ∷ []))
          ∙ ap (λ b. map unplaced (cond b lone (lone ++ made_one ∷ [])))
          (sym (reply_done g operations table all none_yet d));
    }
init_third g operations meaning ts name count n (Some w) e1 e2 e3 have fits =
    let state = spread ts in
    let table = table_of state in
    let a = Init (x_letter ∷ name) count n in
    let b = Init (y_letter ∷ name) count n in
    let c = Init (z_letter ∷ name) count n in
    let free_x = Free (x_letter ∷ name) in
    let free_y = Free (y_letter ∷ name) in
    let t1 = tabled g table a in
    let t2 = tabled g t1 b in
    let o1 = new_object g table count n in
    let o2 = new_object g t1 count n in
    let h1 = held_new g state (x_letter ∷ name) count n in
    let h2 = held_new g (state ++ h1 ∷ []) (y_letter ∷ name) count n in
    let reply : is_refused (joined none_yet (replies g operations table (a ∷ b ∷ c ∷ []))) ≡ true =
    ap is_refused (reply_more g operations table a (b ∷ c ∷ []) none_yet e1
    ∙ reply_more g operations t1 b (c ∷ []) _ e2 ∙ reply_first g operations t2 c [] _ w e3) in
    let done : done_ones g operations table (a ∷ b ∷ c ∷ []) ≡ a ∷ b ∷ [] =
    done_more g operations table a (b ∷ c ∷ []) e1 ∙ ap (λ l. a ∷ l)
    (done_more g operations t1 b (c ∷ []) e2 ∙ ap (λ l. b ∷ l)
    (done_first g operations t2 c [] w e3)) in
    let script = a ∷ b ∷ free_x ∷ free_y ∷ [] in
    let is : script_for g operations table (a ∷ b ∷ c ∷ []) ≡ script = ap
    (λ r. script_by r (done_ones g operations table (a ∷ b ∷ c ∷ []))) reply ∙ ap
    (script_by true) done in
    let d : AllDone g operations table script = (
      e1,
      (
        e2,
        (
          free_done g operations t2 (x_letter ∷ name)
              (has_kept t1 (x_letter ∷ name) (y_letter ∷ name, o2)
              (has_added table (x_letter ∷ name) o1)),
          (
            free_done g operations (without t2 (x_letter ∷ name)) (y_letter ∷ name)
                (has_without t2 x_letter y_letter name name refl
                ∙ has_added t1 (y_letter ∷ name) o2),
            tt,
          ),
        ),
      ),
    ) in
    let gone_x : filter (keep (x_letter ∷ name)) ((state ++ h1 ∷ []) ++ h2 ∷ []) ≡ state ++ h2
    ∷ [] =
    filter_append (keep (x_letter ∷ name)) (state ++ h1 ∷ []) (h2 ∷ []) ∙ ap (λ l. l ++ h2 ∷ [])
    (last_gone state h1 (new_x g operations ts name count n e1)) in
    refused_step g operations meaning ts (Init name count n) script is reply
    (words_all g operations meaning state script d ∙ ap (filter (keep (y_letter ∷ name))) gone_x
    ∙ last_gone state h2 (new_y g operations ts name count n e1)) have refl

init_second : (g : Geometry) (operations : Routines) (meaning : List ℕ → ℕ → List ℕ → List ℕ)
    (ts : List Trio) (name : List ℕ) (count n : ℕ) (r : Option Why)
    → refusal g operations (table_of (spread ts)) (Init (x_letter ∷ name) count n) ≡ None
    → refusal g operations (made g ts x_letter name count n) (Init (y_letter ∷ name) count n) ≡ r
    → HaveNames ts → fits_name name ≡ true → IsStep g operations meaning ts (Init name count n)
init_second g operations meaning ts name count n None e1 e2 have fits =
    init_third g operations meaning ts name count n
    (refusal g operations (made_both g ts name count n) (Init (z_letter ∷ name) count n)) e1 e2 refl
    have fits
init_second g operations meaning ts name count n (Some w) e1 e2 have fits =
    let state = spread ts in
    let table = table_of state in
    let a = Init (x_letter ∷ name) count n in
    let b = Init (y_letter ∷ name) count n in
    let c = Init (z_letter ∷ name) count n in
    let free_x = Free (x_letter ∷ name) in
    let t1 = tabled g table a in
    let o1 = new_object g table count n in
    let h1 = held_new g state (x_letter ∷ name) count n in
    let reply : is_refused (joined none_yet (replies g operations table (a ∷ b ∷ c ∷ []))) ≡ true =
    ap is_refused (reply_more g operations table a (b ∷ c ∷ []) none_yet e1
    ∙ reply_first g operations t1 b (c ∷ []) _ w e2) in
    let done : done_ones g operations table (a ∷ b ∷ c ∷ []) ≡ a ∷ [] =
    done_more g operations table a (b ∷ c ∷ []) e1 ∙ ap (λ l. a ∷ l)
    (done_first g operations t1 b (c ∷ []) w e2) in
    let script = a ∷ free_x ∷ [] in
    let is : script_for g operations table (a ∷ b ∷ c ∷ []) ≡ script = ap
    (λ r. script_by r (done_ones g operations table (a ∷ b ∷ c ∷ []))) reply ∙ ap
    (script_by true) done in
    let d : AllDone g operations table script =
    (e1, (free_done g operations t1 (x_letter ∷ name) (has_added table (x_letter ∷ name) o1), tt))
    in
    refused_step g operations meaning ts (Init name count n) script is reply
    (words_all g operations meaning state script d ∙ last_gone state h1
    (new_x g operations ts name count n e1)) have refl

init_first : (g : Geometry) (operations : Routines) (meaning : List ℕ → ℕ → List ℕ → List ℕ)
    (ts : List Trio) (name : List ℕ) (count n : ℕ) (r : Option Why)
    → refusal g operations (table_of (spread ts)) (Init (x_letter ∷ name) count n) ≡ r
    → HaveNames ts → fits_name name ≡ true → IsStep g operations meaning ts (Init name count n)
init_first g operations meaning ts name count n None e1 have fits =
    init_second g operations meaning ts name count n
    (refusal g operations (made g ts x_letter name count n) (Init (y_letter ∷ name) count n)) e1
    refl have fits
init_first g operations meaning ts name count n (Some w) e1 have fits =
    let table = table_of (spread ts) in
    let a = Init (x_letter ∷ name) count n in
    let rest = Init (y_letter ∷ name) count n ∷ Init (z_letter ∷ name) count n ∷ [] in
    refused_step g operations meaning ts (Init name count n) []
    (script_refused g operations table a rest w e1)
    (ap is_refused (reply_first g operations table a rest none_yet w e1)) refl have refl

-- Every guarded step takes trios to trios
pub step : (g : Geometry) (operations : Routines) (meaning : List ℕ → ℕ → List ℕ → List ℕ)
    (ts : List Trio) (instr : Instruction) → HaveNames ts → HasName instr
    → IsStep g operations meaning ts instr
step g operations meaning ts (Init name count n) have fits =
    init_first g operations meaning ts name count n
    (refusal g operations (table_of (spread ts)) (Init (x_letter ∷ name) count n)) refl have fits
step g operations meaning ts (Bbop op dst srcs count n) have fits =
    bbop_step g operations meaning ts op dst srcs count n have
step g operations meaning ts (Load place values) have fits =
    load_step g operations meaning ts place values have
step g operations meaning ts (Fill place value) have fits =
    fill_step g operations meaning ts place value have
step g operations meaning ts (Print place) have fits =
    print_step g operations meaning ts place have
step g operations meaning ts (Free name) have fits = free_step g operations meaning ts name have
step g operations meaning ts (Order o) have fits = order_step g operations meaning ts o have
