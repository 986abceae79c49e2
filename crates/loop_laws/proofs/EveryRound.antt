-- Every round of a loop program by owners keeps the rules.
use Rattle.loop_laws.proofs.Common.{◌≡◌, ℕ, zero, suc, ◌+◌, ◌-◌, ◌<◌, ◌≤◌, Bool, true, false, List}
use Rattle.loop_laws.proofs.Common.{[], ◌∷◌, ◌++◌, map, length, refl, sym, ap, ◌∙◌, subst, arith}
use Rattle.loop_laws.proofs.Common.{◌⊎◌, inl, inr, nat_le, AllByRecursion, nat_tests, cases_eq}
use Rattle.loop_laws.proofs.Common.{and_parts, length-map, RoundOf, round_at, rounds, all_rounds}
use Rattle.loop_laws.proofs.Common.{Space, Sub, Place, Block, StepOf, AllParts, Single, Along}
use Rattle.loop_laws.proofs.Common.{Flowed, Spot, spot_at, nth_place, is_state, HasCommands}
use Rattle.std.proofs.lemmas.Bool.{cases_lt}
use Rattle.bit_rows.specs.declared.TheConstants.{WIDTH_MAX}
use Rattle.loop_ir.specs.Loops.{sub_value}
use Rattle.loop_ir.specs.declared.ir.Space.TheVariants.{Result, Source, ScratchBit, ScratchWord}
use Rattle.loop_ir.specs.declared.ir.Space.TheVariants.{Cells}
use Rattle.loop_ir.specs.Spots.{spot_in, nth_spot, IsOwn}
use Rattle.loop_ir.specs.WellFormed.{IsOneValue}
use Rattle.loop_ir.specs.Limits.{IsRound, StepHasValues}
use Rattle.loop_laws.specs.Rooms.{Extent, extent, Room, room_at, room_for, Owner, InRoom}
use Rattle.loop_laws.specs.Rooms.{InCells, Mark, Marked, placed, placed_body, placed_steps, row_in}
use Rattle.loop_laws.specs.Rooms.{IsOwned, RoomsApart, is_long, fits, all_fit, writes_fit}
use Rattle.loop_laws.specs.Rooms.{body_fits, steps_fit}
use Rattle.loop_laws.specs.Forms.{IsSlim, has_room, steps_have_room, states_fit}
use Rattle.loop_laws.specs.Forms.{steps_states_fit}
use Rattle.loop_laws.specs.Laws.{MarksAreEnough}
use Rattle.loop_laws.proofs.Fitting.{mark_at, IsThere, IndexOk}
use Rattle.loop_laws.proofs.Alike.{HaveRows, past_row, tested_fit, steps_find_like}
use Rattle.loop_laws.proofs.Good.{WriteAt, fit_at, write_at, writes_once, alone_sub, alone_once}

pub most_is : (a b : ℕ) → nat_le a b ≡ true → a ≤ b
most_is a b e = grind arith

long : (n : ℕ) (w : Extent) → is_long w ≡ true → n ≤ extent n w
long n w e = grind arith

pub first : (n : ℕ) (w : Extent) → 0 < n → 0 < extent n w
first n w h = grind arith

-- a subscript that fits stays below the number of rows
pub within : (n i : ℕ) (in_loop : Bool) (w : Extent) (u : Sub) → 0 < n → IndexOk n i in_loop
    → fits in_loop w u ≡ true → sub_value n i [] u < extent n w
within n i true w u h ok e = grind arith
within n i false w u h ok e = grind arith

pub nth_placed : (rooms : List Room) (ms : List Mark) (k : ℕ) → k < length ms
    → nth_place (map (placed rooms) ms) k ≡ placed rooms (mark_at ms k)
nth_placed rooms [] k lt = absurd (omega arith)
nth_placed rooms (m ∷ ms) zero lt = refl
nth_placed rooms (m ∷ ms) (suc k) lt = nth_placed rooms ms k (omega arith)

pub placed_same : (rooms : List Room) (p m : Mark) → p.owner ≡ m.owner → p.sub ≡ m.sub
    → placed rooms p ≡ placed rooms m
placed_same rooms p m e f = ap (λ x. placed rooms (record { owner = x; sub = p.sub })) e
    ∙ ap (λ x. placed rooms (record { owner = m.owner; sub = x })) f

pub below_map : {A B : Type 0} (f : A → B) (xs : List A) (k : ℕ) → k < length (map f xs) → k < length xs
below_map f xs k lt = let e = length-map xs f in omega arith

pub spot_space : (n : ℕ) (s : Space) (w v : ℕ) → (spot_in n s w v).space ≡ s
spot_space n Result w v = refl
spot_space n Source w v = refl
spot_space n ScratchBit w v = refl
spot_space n ScratchWord w v = refl
spot_space n Cells w v = refl

pub own_spot : (n : ℕ) (s : Space) (w v : ℕ) → IsOwn s → IsOwn (spot_in n s w v).space
own_spot n s w v own = subst IsOwn (sym (spot_space n s w v)) own

-- two owners are one or they are not
pub owner_cases : (a b : Owner) → (a ≡ b) ⊎ (a ≡ b → ⊥)
owner_cases (InRoom j) (InRoom k) = elim (cases_eq j k) [
  | inl e ↦ inl (ap InRoom e)
  | inr ne ↦ inr (λ e. ne (cc))
]
owner_cases (InRoom j) (InCells w) = inr (λ e. cc)
owner_cases (InCells w) (InRoom k) = inr (λ e. cc)
owner_cases (InCells v) (InCells w) = elim (cases_eq v w) [
  | inl e ↦ inl (ap InCells e)
  | inr ne ↦ inr (λ e. ne (cc))
]

-- a row of a room of rows is no state
not_state : (n : ℕ) (r : Room) (u w v : ℕ) → is_state r.space ≡ false
    → row_in n r u ≡ spot_in n Cells w v → ⊥
not_state n r u w v rows e = let f : r.space ≡ Cells =
    sym (spot_space n r.space r.which u) ∙ ap (λ (q : Spot). q.space) e in
    let g : is_state r.space ≡ true = ap is_state f in cc

module _ (n : ℕ) (rooms : List Room) (are : RoomsApart n rooms) (rows : HaveRows rooms) where
  -- rows of two owners of which one may be written are not the same
  pub owners_apart : (a b : Owner) (u v : ℕ) → IsThere rooms a → IsThere rooms b
      → (room_for rooms a).written ≡ true → (a ≡ b → ⊥) → u < extent n (room_for rooms a).rows
      → v < extent n (room_for rooms b).rows
      → row_in n (room_for rooms a) u ≡ row_in n (room_for rooms b) v → ⊥
  owners_apart (InRoom j) (InRoom k) u v ta tb w ne lu lv e =
      are.apart j k u v ta tb w (λ h. ne (ap InRoom h)) lu lv e
  owners_apart (InRoom j) (InCells x) u v ta tb w ne lu lv e =
      not_state n (room_at rooms j) u x v (rows j) e
  owners_apart (InCells x) (InRoom k) u v ta tb w ne lu lv e =
      not_state n (room_at rooms k) v x u (rows k) (sym e)
  owners_apart (InCells x) (InCells y) u v ta tb w ne lu lv e =
      ne (ap InCells (ap (λ (q : Spot). q.which) e))

  -- a place with a row is an owner's row
  pub owned_at : (a : Owner) (u : ℕ) (q : Spot) → IsThere rooms a
      → is_state (room_for rooms a).space ≡ false → u < extent n (room_for rooms a).rows
      → q ≡ row_in n (room_for rooms a) u → IsOwned n rooms q
  owned_at (InRoom k) u q there row lu e = (k, u, there, lu, e)
  owned_at (InCells w) u q there row lu e = cc

  pub own_of : (a : Owner) → IsThere rooms a → (room_for rooms a).written ≡ true
      → IsOwn (room_for rooms a).space
  own_of (InRoom k) there w = are.own k there w
  own_of (InCells x) there w = tt

first_ok : (n : ℕ) (in_loop : Bool) → 0 < n → IndexOk n 0 in_loop
first_ok n true some = some
first_ok n false some = tt

-- a place that fits has a row of its owner
record Lies (n i : ℕ) (rooms : List Room) (ms : List Mark) (k : ℕ) : Type 0 where
  there : IsThere rooms (mark_at ms k).owner
  below : sub_value n i [] (mark_at ms k).sub < extent n (room_for rooms (mark_at ms k).owner).rows
  place : nth_place (map (placed rooms) ms) k ≡ placed rooms (mark_at ms k)

lies : (n i : ℕ) (in_loop : Bool) (rooms : List Room) (ms : List Mark) → 0 < n
    → IndexOk n i in_loop → all_fit in_loop rooms ms ≡ true → (k : ℕ)
    → k < length (map (placed rooms) ms) → Lies n i rooms ms k
lies n i in_loop rooms ms some ok e k lt =
    let l = below_map (placed rooms) ms k lt in
    let f = fit_at in_loop rooms ms k e l in
    record {
      there = f.there;
      below = within n i in_loop _ (mark_at ms k).sub some ok f.fit;
      place = nth_placed rooms ms k l;
    }

module _ (n : ℕ) (rooms : List Room) (are : RoomsApart n rooms) (rows : HaveRows rooms) where
  module _ (i : ℕ) where
    abbrev Row : List Mark → ℕ → Spot
    Row ms k = nth_spot n i [] (map (placed rooms) ms) k

    -- rows that are one have one owner
    meets : (ms ns : List Mark) (j k : ℕ) → Lies n i rooms ms j → Lies n i rooms ns k
        → (room_for rooms (mark_at ms j).owner).written ≡ true → Row ms j ≡ Row ns k
        → (mark_at ms j).owner ≡ (mark_at ns k).owner
    meets ms ns j k x y w e = elim (owner_cases (mark_at ms j).owner (mark_at ns k).owner) [
      | inl c ↦ c
      | inr ne ↦ absurd (owners_apart n rooms are rows _ _ _ _ x.there y.there w ne x.below y.below
          (sym (ap (spot_at n i []) x.place) ∙ e ∙ ap (spot_at n i []) y.place))
    ]

    had : (ms : List Mark) (k : ℕ) → Lies n i rooms ms k
        → is_state (nth_place (map (placed rooms) ms) k).space ≡ false → IsOwned n rooms (Row ms k)
    had ms k x row = owned_at n rooms are rows _ _ _ x.there
        (sym (ap (λ (p : Place). is_state p.space) x.place) ∙ row) x.below
        (ap (spot_at n i []) x.place)

  -- places of one value have one owner
  one_owner : (ms ns : List Mark) (j k : ℕ) → Lies n 0 rooms ms j → Lies n 0 rooms ns k → 0 < n
      → (room_for rooms (mark_at ms j).owner).written ≡ true
      → IsOneValue (nth_place (map (placed rooms) ms) j) (nth_place (map (placed rooms) ns) k)
      → (mark_at ms j).owner ≡ (mark_at ns k).owner
  one_owner ms ns j k x y some w e = elim (owner_cases (mark_at ms j).owner (mark_at ns k).owner) [
    | inl c ↦ c
    | inr ne ↦
        let a = room_for rooms (mark_at ms j).owner in
        let b = room_for rooms (mark_at ns k).owner in
        let ex = x.place in
        let ey = y.place in
        let s : a.space ≡ b.space = cc (e.0) in
        let t : a.which ≡ b.which = cc (e.1) in
        absurd (owners_apart n rooms are rows _ _ 0 0 x.there y.there w ne (first n a.rows some)
        (first n b.rows some) (cc (s, t)))
  ]

  module _ (some : 0 < n) (in_loop : Bool) (b : Marked) (e : body_fits in_loop rooms b ≡ true)
    where
      reads : all_fit in_loop rooms b.reads ≡ true
      reads = grind arith

      writes : all_fit in_loop rooms b.writes ≡ true
      writes = grind arith

      fit : writes_fit rooms b.reads b.writes ≡ true
      fit = grind arith

      at : (j : ℕ) → j < length (map (placed rooms) b.writes)
          → WriteAt rooms b.reads (mark_at b.writes j)
      at j lj = write_at rooms b.reads b.writes j fit (below_map (placed rooms) b.writes j lj)

      round_is : (i : ℕ) → IndexOk n i in_loop
          → IsRound (IsOwned n rooms) n (round_at (placed_body rooms b) i)
      round_is i ok =
          let rd = below_map (placed rooms) b.reads in
          let wr = below_map (placed rooms) b.writes in
          let x = lies n i in_loop rooms b.reads some ok reads in
          let y = lies n i in_loop rooms b.writes some ok writes in
          record {
            reads = λ k lk row. had i b.reads k (x k lk) row;
            writes = λ j lj row. had i b.writes j (y j lj) row;
            own = λ j lj. (let w = room_for rooms (mark_at b.writes j).owner in
                subst (λ (q : Spot). IsOwn q.space) (sym (ap (spot_at n i []) (y j lj).place))
                (own_spot n w.space w.which _
                (own_of n rooms are rows _ (y j lj).there (at j lj).written)));
            apart = λ i' j li lj h. writes_once rooms b.reads b.writes i' j fit (wr i' li) (wr j lj)
                (meets i b.writes b.writes i' j (y i' li) (y j lj) (at i' li).written h);
            same = λ j k lj lk h.
                (let c = meets i b.writes b.reads j k (y j lj) (x k lk) (at j lj).written h in
                (y j lj).place ∙ placed_same rooms (mark_at b.writes j) (mark_at b.reads k) c
                (alone_sub (mark_at b.writes j) b.reads k (at j lj).alone (rd k lk) c)
                ∙ sym (x k lk).place);
            once = λ j k l lj lk ll h g. alone_once (mark_at b.writes j) b.reads k l (at j lj).alone
                (rd k lk) (rd l ll)
                (meets i b.writes b.reads j k (y j lj) (x k lk) (at j lj).written h)
                (meets i b.writes b.reads j l (y j lj) (x l ll) (at j lj).written g);
          }

      slim_is : has_room (placed_body rooms b) ≡ true → states_fit (placed_body [] b) ≡ true
          → HasCommands (placed_body rooms b) → IsSlim (placed_body rooms b)
      slim_is h k commands =
          let c = placed_body rooms b in
          let rd = below_map (placed rooms) b.reads in
          let wr = below_map (placed rooms) b.writes in
          let x = lies n 0 in_loop rooms b.reads some (first_ok n in_loop some) reads in
          let y = lies n 0 in_loop rooms b.writes some (first_ok n in_loop some) writes in
          record {
            reads = grind (arith, nat_tests);
            states = tested_fit rooms rows b k (grind (arith, nat_tests));
            commands = commands;
            apart = λ i j li lj h. writes_once rooms b.reads b.writes i j fit (wr i li) (wr j lj)
                (one_owner b.writes b.writes i j (y i li) (y j lj) some (at i li).written h);
            same = λ j k lj lk h.
                ap (λ (p : Place). p.sub) (y j lj).place
                ∙ alone_sub (mark_at b.writes j) b.reads k (at j lj).alone (rd k lk)
                (one_owner b.writes b.reads j k (y j lj) (x k lk) some (at j lj).written h)
                ∙ sym (ap (λ (p : Place). p.sub) (x k lk).place);
            inputs = grind (arith, nat_tests);
            outputs = grind (arith, nat_tests);
            rows = grind (arith, nat_tests);
          }

pub all_append : {A : Type 0} (P : A → Type 0) (xs ys : List A) → AllByRecursion P xs
    → AllByRecursion P ys → AllByRecursion P (xs ++ ys)
all_append P [] ys a b = b
all_append P (x ∷ xs) ys a b = (a.0, all_append P xs ys a.1 b)

rounds_of : (P : RoundOf Block → Type 0) (b : Block) (i count limit : ℕ) → i + count ≡ limit
    → ((j : ℕ) → j < limit → P (round_at b j)) → AllByRecursion P (rounds b i count)
rounds_of P b i zero limit e h = tt
rounds_of P b i (suc count) limit e h =
    (h i (omega arith), rounds_of P b (i + 1) count limit (omega arith) h)

-- the rows that it may have are among others
pub round_among : (P Q : Spot → Type 0) → ((q : Spot) → P q → Q q) → (n : ℕ) (r : RoundOf Block)
    → IsRound P n r → IsRound Q n r
round_among P Q h n r is = record {
  reads = λ k lk row. h _ (is.reads k lk row);
  writes = λ j lj row. h _ (is.writes j lj row);
  own = is.own;
  apart = is.apart;
  same = is.same;
  once = is.once;
}

pub rounds_among : (P Q : Spot → Type 0) → ((q : Spot) → P q → Q q)
    → (n : ℕ) (rs : List (RoundOf Block)) → AllByRecursion (IsRound P n) rs
    → AllByRecursion (IsRound Q n) rs
rounds_among P Q h n [] all = tt
rounds_among P Q h n (r ∷ rs) all = (round_among P Q h n r all.0, rounds_among P Q h n rs all.1)

-- the first row of each room is one that may be had
pub rooms_row : (may_have : ℕ → Spot → Type 0) (rooms : List Room)
    → ((q : Spot) → IsOwned 1 rooms q → may_have 1 q)
    → ((q : Spot) → may_have 1 q → is_state q.space ≡ false) → HaveRows rooms
rooms_row may_have rooms among rows k = elim (cases_lt k (length rooms)) [
  | inl lt ↦
      let r = room_at rooms k in
      ap is_state (sym (spot_space 1 r.space r.which 0))
      ∙ rows (row_in 1 r 0) (among (row_in 1 r 0) (k, 0, lt, first 1 r.rows (omega arith), refl))
  | inr le ↦ past_row rooms k le
]

-- what the tests say of every body and every round
module _ (may_have : ℕ → Spot → Type 0) (rooms : List Room) (rows : HaveRows rooms)
    (are : (n : ℕ) → 0 < n → n ≤ WIDTH_MAX → RoomsApart n rooms)
    (among : (n : ℕ) → 0 < n → n ≤ WIDTH_MAX → (q : Spot) → IsOwned n rooms q → may_have n q) where
  abbrev Rounds : (ℕ → List (RoundOf Block)) → Type 0
  Rounds f = (n : ℕ) → 0 < n → n ≤ WIDTH_MAX → AllByRecursion (IsRound (may_have n) n) (f n)

  round : (n i : ℕ) → 0 < n → n ≤ WIDTH_MAX → (in_loop : Bool) (b : Marked)
      → body_fits in_loop rooms b ≡ true → IndexOk n i in_loop
      → IsRound (may_have n) n (round_at (placed_body rooms b) i)
  round n i some most in_loop b e ok = round_among (IsOwned n rooms) (may_have n)
      (among n some most) n _ (round_is n rooms (are n some most) rows some in_loop b e i ok)

  slim : (in_loop : Bool) (b : Marked) → body_fits in_loop rooms b ≡ true
      → has_room (placed_body rooms b) ≡ true → states_fit (placed_body [] b) ≡ true
      → HasCommands (placed_body rooms b) → IsSlim (placed_body rooms b)
  slim in_loop b = slim_is 1 rooms (are 1 (omega arith) (omega arith)) rows (omega arith) in_loop b

  record StepsFine (ss : List (StepOf Block)) : Type 0 where
    slim : AllParts IsSlim ss
    values : AllByRecursion (StepHasValues may_have) ss
    rounds : Rounds (λ n. all_rounds n ss)

  steps_fine : (ss : List (StepOf Marked)) → steps_fit rooms ss ≡ true
      → steps_have_room (placed_steps rooms ss) ≡ true
      → steps_states_fit (placed_steps [] ss) ≡ true
      → AllParts HasCommands (placed_steps rooms ss) → StepsFine (placed_steps rooms ss)
  steps_fine [] e h k does = record { slim = tt; values = tt; rounds = λ n some most. tt }
  steps_fine (Single b ∷ ss) e h k does =
      let x = and_parts (body_fits false rooms b) _ e in
      let y = and_parts (has_room (placed_body rooms b)) _ h in
      let z = and_parts (states_fit (placed_body [] b)) _ k in
      let more = steps_fine ss x.1 y.1 z.1 does.1 in
      record {
        slim = (slim false b x.0 y.0 z.0 does.0, more.slim);
        values = (tt, more.values);
        rounds = λ n some most. (round n 0 some most false b x.0 tt, more.rounds n some most);
      }
  steps_fine (Along b ∷ ss) e h k does =
      let x = and_parts (body_fits true rooms b) _ e in
      let y = and_parts (has_room (placed_body rooms b)) _ h in
      let z = and_parts (states_fit (placed_body [] b)) _ k in
      let more = steps_fine ss x.1 y.1 z.1 does.1 in
      record {
        slim = (slim true b x.0 y.0 z.0 does.0, more.slim);
        values = (tt, more.values);
        rounds = λ n some most. all_append _ _ _
            (rounds_of (IsRound (may_have n) n) (placed_body rooms b) 0 n n (omega arith)
            (λ i lt. round n i some most true b x.0 lt)) (more.rounds n some most);
      }
  steps_fine (Flowed x ∷ ss) e h k does = cc

-- the tests on the marks say of every round at every width what it has to keep
pub marks_are_enough : (may_have : ℕ → Spot → Type 0) → MarksAreEnough may_have
marks_are_enough may_have rooms steps are among rows tested short states does =
    let ss = placed_steps rooms steps in
    let have = rooms_row may_have rooms (among 1 (omega arith) (omega arith)) (rows 1) in
    let fine = steps_fine may_have rooms have are among steps tested (grind arith) (grind arith)
    does in
    record {
      slim = fine.slim;
      find = steps_find_like rooms have [] steps ∙ (grind arith);
      stand = grind arith;
      values = fine.values;
      rounds = fine.rounds;
      size = grind (arith, nat_tests);
      few = grind (arith, nat_tests);
    }
