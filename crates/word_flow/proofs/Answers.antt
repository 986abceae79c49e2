-- What a flow does at a width, by states that stand for its rows and cells.
use Rattle.word_flow.proofs.Common.{AllByRecursion, after_rounds, flow_rounds, rounds_cost, RoundOf}
use Rattle.word_flow.proofs.Common.{RoomsApart, placed_body, turn_cost, list_all, flow_map, is_state}
use Rattle.word_flow.proofs.Common.{room_for, HaveRows, BodyCmd, chained, IsRound, room_at, IsOwned}
use Rattle.word_flow.proofs.Common.{IsThere, length, FlowOf, sum_by, row_in, Extent, extent}
use Rattle.word_flow.proofs.Common.{false, subst, arith, Block, zeros, Spots, Owner, Marked, true, ℕ}
use Rattle.word_flow.proofs.Common.{List, refl, Spot, Room, Fine, ◌≡◌, ◌<◌, map, run, [], wp}
use Rattle.loop_ir.specs.FlowTests.{is_event_safe}
use Rattle.word_flow.proofs.Checks.{body_holds, held_is}
use Rattle.word_flow.proofs.FlowOps.{flow_does}
use Rattle.word_flow.proofs.Placing.{IsFree}
use Rattle.word_flow.proofs.Views.{View, Step, shown, is_known, Like, Likes, same_like, each}
use Rattle.word_flow.proofs.Views.{weighed}

-- a flow over states, from what stands in rows and cells, with its commands and what holds after it
pub record Answers (A : Type 0) (code : A → Marked) (f : FlowOf A) (es : List Extent)
    (known : List Owner) (x : List BodyCmd → ℕ) (n : ℕ) (c : View) (total weight : ℕ)
    (Post : View → Type 0) : Type 1 where
  pub S : Type 0
  pub InRange : A → List ℕ → S → Type 0
  pub does : A → List ℕ → S → S
  pub view : S → View
  pub cost : S → ℕ
  pub more : S → ℕ
  pub alive : S → List ℕ
  pub step : (b : A) (g : List ℕ) (s : S) → InRange b g s → Step n es known (code b) g (view s)
      (view (does b g s)) (cost s) (cost (does b g s)) (more s) (more (does b g s)) (alive s)
      (alive (does b g s)) x
  pub start : S
  pub begins : shown es known c ≡ shown es known (view start)
  pub fresh : alive start ≡ []
  pub free : cost start ≡ 0
  pub light : more start ≡ 0
  pub Q : List ℕ → S → Type 0
  pub whole : wp A S n (Fine A S n InRange) does f Q zeros start
  pub gives : (g : List ℕ) (s : S) → Q g s → Post (view s) × (cost s ≡ total) × (more s ≡ weight)

pub answers_of : {A : Type 0} {code : A → Marked} {f : FlowOf A} {es : List Extent} {known : List Owner}
    {x : List BodyCmd → ℕ} {n : ℕ} {c : View} {total weight : ℕ} {Post : View → Type 0} (S : Type 0)
    (InRange : A → List ℕ → S → Type 0) (does : A → List ℕ → S → S) (view : S → View) (cost more : S → ℕ)
    (alive : S → List ℕ) → ((b : A) (g : List ℕ) (s : S) → InRange b g s → Step n es known (code b) g
    (view s) (view (does b g s)) (cost s) (cost (does b g s)) (more s) (more (does b g s)) (alive s)
    (alive (does b g s)) x) → (start : S) → shown es known c ≡ shown es known (view start)
    → alive start ≡ [] → cost start ≡ 0 → more start ≡ 0 → (Q : List ℕ → S → Type 0)
    → wp A S n (Fine A S n InRange) does f Q zeros start
    → ((g : List ℕ) (s : S) → Q g s → Post (view s) × (cost s ≡ total) × (more s ≡ weight))
    → Answers A code f es known x n c total weight Post
answers_of S InRange does view cost more alive step start begins fresh free light Q whole gives = record {
  S = S;
  InRange = InRange;
  does = does;
  view = view;
  cost = cost;
  more = more;
  alive = alive;
  step = step;
  start = start;
  begins = begins;
  fresh = fresh;
  free = free;
  light = light;
  Q = Q;
  whole = whole;
  gives = gives;
}

-- what its rounds do to rows and cells
pub record Answered (n : ℕ) (rooms : List Room) (known : List Owner) (f : FlowOf Block) (total : ℕ)
    (x : List BodyCmd → ℕ) (weight : ℕ) (Post : View → Type 0) (before : Spots) : Type 0 where
  pub keeps : AllByRecursion (IsRound (IsOwned n rooms) n) (flow_rounds n f)
  pub paid : rounds_cost (flow_rounds n f) ≡ total
  pub weighed : sum_by (λ (r : RoundOf Block). x r.part.found) (flow_rounds n f) ≡ weight
  pub found : chained [] (flow_rounds n f) ≡ true
  pub safe : list_all (is_event_safe n) (run n f zeros).events ≡ true
  pub end : View
  pub post : Post end
  pub held : (a : Owner) → is_known known a ≡ true → IsThere rooms a → (v : ℕ)
      → v < extent n (room_for rooms a).rows
      → after_rounds n (flow_rounds n f) before (row_in n (room_for rooms a) v) ≡ end a v
  pub rest : (q : Spot) → is_state q.space ≡ false → IsFree n rooms q
      → after_rounds n (flow_rounds n f) before q ≡ before q

pub answered : (n : ℕ) (rooms : List Room) (some : 0 < n) (are : RoomsApart n rooms)
    (have : HaveRows rooms) (moves : (k u v : ℕ) → k < length rooms
    → u < extent n (room_at rooms k).rows → v < extent n (room_at rooms k).rows
    → row_in n (room_at rooms k) u ≡ row_in n (room_at rooms k) v → u ≡ v)
    (es : List Extent) (shape : map (λ (r : Room). r.rows) rooms ≡ es) (known : List Owner)
    (A : Type 0) (code : A → Marked) (x : List BodyCmd → ℕ) (w : ℕ)
    → ((b : A) → body_holds rooms known x w (code b) ≡ true) → (f : FlowOf A)
    (total weight : ℕ) (Post : View → Type 0) (before : Spots)
    → Answers A code f es known x n (λ a v. before (row_in n (room_for rooms a) v)) total weight Post
    → Answered n rooms known (flow_map (λ b. placed_body rooms (code b)) f) total x weight Post before
answered n rooms some are have moves es shape known A code x w holds f total weight
    Post before a =
    let at = λ (b : A). held_is rooms known x w (code b) (holds b) in
    let c : View = λ a v. before (row_in n (room_for rooms a) v) in
    let like : Like n rooms some are have moves es shape known before c before =
    record { held = λ a k t v lv. refl; rest = λ q r free. refl } in
    let begun = same_like n rooms some are have moves es shape known before c (a.view a.start) before
    a.begins like in
    let r = flow_does A a.S (λ b. placed_body rooms (code b)) n (IsOwned n rooms) a.InRange a.does
    (Likes n rooms some are have moves es shape known before A a.S code a.InRange a.does a.view a.cost
    a.more a.alive x (λ b. (at b).keeps) (λ b. (at b).knows) a.step) turn_cost
    a.cost a.alive
    (each n rooms some are have moves es shape known before A a.S code a.InRange a.does a.view a.cost
    a.more a.alive x (λ b. (at b).keeps) (λ b. (at b).knows) a.step) f
    a.Q a.start before a.whole begun in
    let t = flow_does A a.S (λ b. placed_body rooms (code b)) n (IsOwned n rooms) a.InRange a.does
    (Likes n rooms some are have moves es shape known before A a.S code a.InRange a.does a.view a.cost
    a.more a.alive x (λ b. (at b).keeps) (λ b. (at b).knows) a.step)
    (λ b. x b.found) a.more a.alive
    (weighed n rooms some are have moves es shape known before A a.S code a.InRange a.does a.view a.cost
    a.more a.alive x (λ b. (at b).keeps) (λ b. (at b).knows) a.step) f
    a.Q a.start before a.whole begun in
    let post = a.gives r.regs r.end r.post in
    record {
      keeps = r.keeps;
      paid = (let p = r.paid in let q = post.1 in let z = a.free in omega (arith, p, q, z));
      weighed = (let p = t.paid in let q = (a.gives t.regs t.end t.post).2 in let z = a.light in
          omega (arith, p, q, z));
      found = subst (λ l. chained l (flow_rounds n (flow_map (λ b. placed_body rooms (code b)) f)) ≡ true)
          a.fresh r.found;
      safe = r.safe;
      end = a.view r.end;
      post = post.0;
      held = r.like.held;
      rest = r.like.rest;
    }
