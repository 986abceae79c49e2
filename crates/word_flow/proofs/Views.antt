-- What bodies do to rows and cells, by what stands in those of their owners.
use Rattle.word_flow.proofs.Common.{owners_apart, placed_body, values_from, owner_cases, cases_Bool}
use Rattle.word_flow.proofs.Common.{same_owner, writes_fit, RoomsApart, finds_like, ◌≡◌}
use Rattle.word_flow.proofs.Common.{and_parts, sub_value, write_all, turn_cost, left_like, and_from}
use Rattle.word_flow.proofs.Common.{eqb-true, set_spot, nth_spot, is_state, room_for, is_there, suc}
use Rattle.word_flow.proofs.Common.{HaveRows, flip_if, spot_in, left_by, BodyCmd, room_at, InCells}
use Rattle.word_flow.proofs.Common.{IsOwned, IsThere, length, ⊎_elim, eq-eqb, false}
use Rattle.word_flow.proofs.Common.{values, Source, row_in, Extent, extent, InRoom, Marked, placed}
use Rattle.word_flow.proofs.Common.{subst, arith, start, Block, Spots, finds, Owner, zero, ℕ}
use Rattle.word_flow.proofs.Common.{Bool, true, cond, List, refl, ◌&&◌, ◌||◌, ◌==◌, Spot, Room, ◌+◌}
use Rattle.word_flow.proofs.Common.{Full, Mark, ◌<◌, ◌∷◌, map, sym, ◌∙◌, Lit, One, [], ap}
use Rattle.mig_graph.specs.declared.Node.{Node}
use Rattle.mig_graph.specs.Literals.{lit_value, node_value}
use Rattle.loop_laws.proofs.Same.{set_same, set_other}
use Rattle.loop_laws.proofs.Good.{there_is}
use Rattle.word_lower.proofs.BodyRules.{all_there, AllIn, keeps, kept_is, owner_true, round_is}
use Rattle.word_flow.proofs.FlowOps.{Does}
use Rattle.word_flow.proofs.Placing.{IsFree}

-- what stands in the rows and cells of each owner
abbrev pub View : Type 0
View = Owner → ℕ → Bool

abbrev put_at : View → Owner → ℕ → Bool → View
put_at c a i b o v = cond (same_owner o a && (v == i)) b (c o v)

-- what places hold, with these registers, and d past the last one
abbrev reads_of : ℕ → List ℕ → View → Bool → List Mark → ℕ → Bool
reads_of n g c d [] k = d
reads_of n g c d (m ∷ ms) zero = c m.owner (sub_value n 0 g m.sub)
reads_of n g c d (m ∷ ms) (suc k) = reads_of n g c d ms k

abbrev writes_of : ℕ → List ℕ → (ℕ → Bool) → List Mark → List Lit → View → View
writes_of n g env [] ls c = c
writes_of n g env (m ∷ ms) [] c = c
writes_of n g env (m ∷ ms) (l ∷ ls) c = writes_of n g env ms ls
    (put_at c m.owner (sub_value n 0 g m.sub) (lit_value env l))

-- what stands there after a body
abbrev pub after_body : ℕ → List ℕ → Bool → Marked → View → View
after_body n g d b c = writes_of n g (values b.graph (reads_of n g c d b.reads)) b.writes b.outs c

-- how many rows an owner has
abbrev pub extent_of : List Extent → Owner → Extent
extent_of [] (InRoom k) = One
extent_of (e ∷ es) (InRoom zero) = e
extent_of (e ∷ es) (InRoom (suc k)) = extent_of es (InRoom k)
extent_of es (InCells w) = One

-- the rows of an owner
abbrev seen : Extent → (ℕ → Bool) → ℕ → Bool
seen One f v = f 0
seen Full f v = f v

-- those of these owners
abbrev pub shown : List Extent → List Owner → View → List (ℕ → Bool)
shown es [] c = []
shown es (o ∷ os) c = seen (extent_of es o) (c o) ∷ shown es os c

-- the owner is among these
abbrev pub is_known : List Owner → Owner → Bool
is_known [] a = false
is_known (o ∷ os) a = same_owner a o || is_known os a

-- all places have such owners
abbrev pub all_known : List Owner → List Mark → Bool
all_known os [] = true
all_known os (m ∷ ms) = is_known os m.owner && all_known os ms

-- each place is one of its owner's rows
abbrev pub Within : ℕ → List ℕ → List Extent → List Mark → Type 0
Within n g es [] = Unit {0}
Within n g es (m ∷ ms) = (sub_value n 0 g m.sub < extent n (extent_of es m.owner))
    × Within n g es ms

-- What a body does to what an operation's state says: the places that it reads and writes are rows
-- of their owners, it finds the cells that it reads, and this is what stands there after it
pub record Step (n : ℕ) (es : List Extent) (known : List Owner) (c : Marked) (g : List ℕ)
    (view after : View) (cost spent more sum : ℕ) (alive left : List ℕ)
    (x : List BodyCmd → ℕ) : Type 0 where
  pub reads : Within n g es c.reads
  pub writes : Within n g es c.writes
  pub states : List ℕ
  pub are : alive ≡ states
  pub finds : finds states (placed_body [] c) ≡ true
  pub leaves : left ≡ left_by (placed_body [] c)
  pub same : (d : Bool) → shown es known (after_body n g d c view) ≡ shown es known after
  pub paid : spent ≡ cost + length c.found
  pub weighed : sum ≡ more + x c.found

pub stepped : {n : ℕ} {es : List Extent} {known : List Owner} {c : Marked} {g : List ℕ}
    {view after : View} {cost spent more sum : ℕ} {alive left : List ℕ} {x : List BodyCmd → ℕ}
    → Within n g es c.reads
    → Within n g es c.writes → (states : List ℕ) → alive ≡ states
    → finds states (placed_body [] c) ≡ true → left ≡ left_by (placed_body [] c)
    → ((d : Bool) → shown es known (after_body n g d c view) ≡ shown es known after)
    → spent ≡ cost + length c.found → sum ≡ more + x c.found
    → Step n es known c g view after cost spent more sum alive left x
stepped reads writes states are finds leaves same paid weighed = record {
  reads = reads;
  writes = writes;
  states = states;
  are = are;
  finds = finds;
  leaves = leaves;
  same = same;
  paid = paid;
  weighed = weighed;
}

same_true : (a : Owner) → same_owner a a ≡ true
same_true (InRoom k) = eq-eqb k k refl
same_true (InCells w) = eq-eqb w w refl

seen_at : (n : ℕ) (e : Extent) (f g : ℕ → Bool) → seen e f ≡ seen e g → (v : ℕ) → v < extent n e
    → f v ≡ g v
seen_at n One f g e v lv = let z : v ≡ 0 = omega (arith, lv) in
    ap f z ∙ ap (λ h. h 0) e ∙ ap g (sym z)
seen_at n Full f g e v lv = ap (λ h. h v) e

abbrev head : List (ℕ → Bool) → ℕ → Bool
head [] v = false
head (f ∷ fs) v = f v

abbrev tail : List (ℕ → Bool) → List (ℕ → Bool)
tail [] = []
tail (f ∷ fs) = fs

pub shown_at : (n : ℕ) (es : List Extent) (os : List Owner) (c d : View)
    → shown es os c ≡ shown es os d → (a : Owner) → is_known os a ≡ true → (v : ℕ)
    → v < extent n (extent_of es a) → c a v ≡ d a v
shown_at n es [] c d e a k v lv = absurd (cc)
shown_at n es (o ∷ os) c d e a k v lv = by (same_owner a o) refl k
    (λ k. shown_at n es os c d (ap tail e) a k v lv)
  where
    by : (b : Bool) → same_owner a o ≡ b → (b || is_known os a) ≡ true
        → (is_known os a ≡ true → c a v ≡ d a v) → c a v ≡ d a v
    by true h k more =
        let is : a ≡ o = owner_true a o h in
        seen_at n (extent_of es a) (c a) (d a)
        (subst (λ o. seen (extent_of es o) (c o) ≡ seen (extent_of es o) (d o)) (sym is) (ap head e))
        v lv
    by false h k more = more k

values_same : (k : ℕ) (ns : List Node) (v w : ℕ → Bool) → ((j : ℕ) → v j ≡ w j) → (j : ℕ)
    → values_from k ns v j ≡ values_from k ns w j
unfolding values_from
values_same k [] v w h j = h j
values_same k (m ∷ ns) v w h j = values_same (k + 1) ns (λ i. cond (i == k) (node_value v m) (v i))
    (λ i. cond (i == k) (node_value w m) (w i)) (λ i. ap (λ b. cond (i == k) b (v i)) node
    ∙ ap (cond (i == k) (node_value w m)) (h i)) j
  where
    node : node_value v m ≡ node_value w m
    node = rw (h m.a.node, h m.b.node, h m.c.node) refl

start_same : (x y : ℕ → Bool) → ((k : ℕ) → x k ≡ y k) → (j : ℕ) → start x j ≡ start y j
start_same x y h zero = refl
start_same x y h (suc j) = h j

module _ (n : ℕ) (rooms : List Room) (some : 0 < n) (are : RoomsApart n rooms)
    (have : HaveRows rooms) (moves : (k u v : ℕ) → k < length rooms
    → u < extent n (room_at rooms k).rows → v < extent n (room_at rooms k).rows
    → row_in n (room_at rooms k) u ≡ row_in n (room_at rooms k) v → u ≡ v)
    (es : List Extent) (shape : map (λ (r : Room). r.rows) rooms ≡ es) (known : List Owner)
    (before : Spots) where
  abbrev ext : Owner → ℕ
  ext a = extent n (room_for rooms a).rows

  -- a row of an owner
  abbrev pub spot : Owner → ℕ → Spot
  spot a v = row_in n (room_for rooms a) v

  -- the rows and cells are as the view says, and no other row has changed
  pub record Like (c : View) (bits : Spots) : Type 0 where
    pub held : (a : Owner) → is_known known a ≡ true → IsThere rooms a → (v : ℕ) → v < ext a
        → bits (spot a v) ≡ c a v
    pub rest : (q : Spot) → is_state q.space ≡ false → IsFree n rooms q → bits q ≡ before q

  moves_of : (a : Owner) (u v : ℕ) → IsThere rooms a → u < ext a → v < ext a → spot a u ≡ spot a v
      → u ≡ v
  moves_of (InRoom k) u v there lu lv e = moves k u v there lu lv e
  moves_of (InCells w) u v there lu lv e = omega (arith, lu, lv)

  -- two rows that are one are the same row of one owner, where one of them may be written
  one_row : (o a : Owner) (v i : ℕ) → IsThere rooms o → IsThere rooms a
      → (room_for rooms a).written ≡ true → v < ext o → i < ext a → spot o v ≡ spot a i
      → (same_owner o a && (v == i)) ≡ true
  one_row o a v i to ta w lv li e = ⊎_elim
      (λ (is : o ≡ a).
      let lu : v < ext a = subst (λ o. v < ext o) is lv in
      let f : spot a v ≡ spot a i = ap (λ o. spot o v) (sym is) ∙ e in
      and_from (same_owner o a) (v == i) (ap (λ o. same_owner o a) is ∙ same_true a)
      (eq-eqb v i (moves_of a v i ta lu li f)))
      (λ (ne : o ≡ a → ⊥). absurd (owners_apart n rooms are have a o i v ta to w (λ is. ne (sym is)) li
      lv (sym e)))
      (owner_cases o a)

  no_free : (a : Owner) (i : ℕ) (q : Spot) → IsThere rooms a → (room_for rooms a).written ≡ true
      → i < ext a → is_state q.space ≡ false → IsFree n rooms q → q ≡ spot a i → ⊥
  no_free (InRoom k) i q there w li row free e = free k i there w li e
  no_free (InCells w) i q there wr li row free e =
      let z : false ≡ true = sym row ∙ ap (λ (q : Spot). is_state q.space) e in cc

  put_like : (c : View) (bits : Spots) (a : Owner) (i : ℕ) (b d : Bool) → IsThere rooms a
      → (room_for rooms a).written ≡ true → i < ext a → b ≡ d → Like c bits
      → Like (put_at c a i d) (set_spot bits (spot a i) b)
  put_like c bits a i b d there w li e l = record {
    held = λ o k to v lv. ⊎_elim
        (λ (h : (same_owner o a && (v == i)) ≡ true).
        let p = and_parts (same_owner o a) (v == i) h in
        set_same bits (spot a i) b (spot o v) (ap (λ o. spot o v) (owner_true o a p.0)
        ∙ ap (spot a) (eqb-true v i p.1)) ∙ e ∙ sym (ap (λ t. cond t d (c o v)) h))
        (λ (h : (same_owner o a && (v == i)) ≡ false). set_other bits (spot a i) b (spot o v)
        (λ f. (let z : false ≡ true = sym h ∙ one_row o a v i to there w lv li f in cc))
        ∙ l.held o k to v lv ∙ sym (ap (λ t. cond t d (c o v)) h))
        (cases_Bool (same_owner o a && (v == i)));
    rest = λ q row free. set_other bits (spot a i) b q (no_free a i q there w li row free)
        ∙ l.rest q row free;
  }

  read_like : (c : View) (bits : Spots) (g : List ℕ) (ms : List Mark) → all_there rooms ms ≡ true
      → all_known known ms ≡ true → AllIn n g rooms ms → Like c bits → (k : ℕ)
      → bits (nth_spot n 0 g (map (placed rooms) ms) k)
      ≡ reads_of n g c (bits (spot_in n Source 0 0)) ms k
  read_like c bits g [] t e a l k = refl
  read_like c bits g (m ∷ ms) t e a l zero = l.held m.owner
      (and_parts (is_known known m.owner) _ e).0
      (there_is rooms m.owner (and_parts (is_there m.owner (length rooms)) _ t).0)
      (sub_value n 0 g m.sub) a.0
  read_like c bits g (m ∷ ms) t e a l (suc k) = read_like c bits g ms
      (and_parts (is_there m.owner (length rooms)) _ t).1
      (and_parts (is_known known m.owner) _ e).1 a.1 l k

  write_like : (g : List ℕ) (x y : ℕ → Bool) → ((j : ℕ) → x j ≡ y j) → (reads ms : List Mark)
      (ls : List Lit) → all_there rooms ms ≡ true → writes_fit rooms reads ms ≡ true
      → AllIn n g rooms ms → (c : View) (bits : Spots) → Like c bits
      → Like (writes_of n g y ms ls c) (write_all n 0 g x (map (placed rooms) ms) ls bits)
  write_like g x y h reads [] ls t w a c bits l = l
  write_like g x y h reads (m ∷ ms) [] t w a c bits l = l
  write_like g x y h reads (m ∷ ms) (k ∷ ls) t w a c bits l =
      let p = and_parts (is_there m.owner (length rooms)) _ t in
      let q = and_parts _ (writes_fit rooms reads ms) w in
      let i = sub_value n 0 g m.sub in
      write_like g x y h reads ms ls p.1 q.1 a.1 (put_at c m.owner i (lit_value y k))
      (set_spot bits (spot m.owner i) (lit_value x k))
      (put_like c bits m.owner i (lit_value x k) (lit_value y k) (there_is rooms m.owner p.0)
      (and_parts (room_for rooms m.owner).written _ q.0).0 a.0 (ap (flip_if k.inverted) (h k.node)) l)

  rows_of : (a : Owner) → (room_for rooms a).rows ≡ extent_of es a
  rows_of a = by rooms a ∙ ap (λ es. extent_of es a) shape
    where
      by : (rs : List Room) (a : Owner)
          → (room_for rs a).rows ≡ extent_of (map (λ (r : Room). r.rows) rs) a
      by [] (InRoom k) = refl
      by (r ∷ rs) (InRoom zero) = refl
      by (r ∷ rs) (InRoom (suc k)) = by rs (InRoom k)
      by [] (InCells w) = refl
      by (r ∷ rs) (InCells w) = refl

  all_in : (g : List ℕ) (ms : List Mark) → Within n g es ms → AllIn n g rooms ms
  all_in g [] a = tt
  all_in g (m ∷ ms) a = (
    subst (λ e. sub_value n 0 g m.sub < extent n e) (sym (rows_of m.owner)) a.0,
    all_in g ms a.1,
  )

  pub same_like : (c d : View) (bits : Spots) → shown es known c ≡ shown es known d → Like c bits
      → Like d bits
  same_like c d bits e l = record {
    held = λ a k t v lv. l.held a k t v lv ∙ shown_at n es known c d e a k v
        (subst (λ e. v < extent n e) (rows_of a) lv);
    rest = l.rest;
  }

  module _ (A S : Type 0) (code : A → Marked) (InRange : A → List ℕ → S → Type 0)
      (does : A → List ℕ → S → S) (view : S → View) (cost more : S → ℕ) (alive : S → List ℕ)
      (x : List BodyCmd → ℕ) (keep : (b : A) → keeps rooms (code b) ≡ true)
      (knows : (b : A) → all_known known (code b).reads ≡ true)
      (step : (b : A) (g : List ℕ) (s : S) → InRange b g s → Step n es known (code b) g (view s)
      (view (does b g s)) (cost s) (cost (does b g s)) (more s) (more (does b g s)) (alive s)
      (alive (does b g s)) x) where
    abbrev block : A → Block
    block b = placed_body rooms (code b)

    abbrev pub Likes : S → Spots → Type 0
    Likes s bits = Like (view s) bits

    module _ (weight : Block → ℕ) (spent : S → ℕ) (pays : (b : A) (g : List ℕ) (s : S)
        → InRange b g s → spent (does b g s) ≡ spent s + weight (block b)) where
      does_each : (b : A) (g : List ℕ) (s : S) (bits : Spots) → InRange b g s → Likes s bits
          → Does A S block n (IsOwned n rooms) InRange does Likes weight spent alive b g s bits
      does_each b g s bits r l =
          let c = code b in
          let kept = kept_is rooms c (keep b) in
          let t = step b g s r in
          let reads = all_in g c.reads t.reads in
          let writes = all_in g c.writes t.writes in
          let d = bits (spot_in n Source 0 0) in
          record {
            keeps = round_is n rooms some are have c (keep b) g reads writes;
            like = same_like (after_body n g d c (view s)) (view (does b g s)) _ (t.same d)
                (write_like g _ _ (values_same (c.graph.inputs + 1) c.graph.nodes _ _
                (start_same _ _ (read_like (view s) bits g c.reads kept.reads (knows b) reads l)))
                c.reads c.writes c.outs kept.writes kept.fit writes (view s) bits l);
            paid = pays b g s r;
            found = finds_like rooms have (alive s) c
                ∙ ap (λ a. finds a (placed_body [] c)) t.are ∙ t.finds;
            left = t.leaves ∙ sym (left_like rooms have c);
          }

    -- each body does so, and pays its commands, and its weight
    pub each : (b : A) (g : List ℕ) (s : S) (bits : Spots) → InRange b g s → Likes s bits
        → Does A S block n (IsOwned n rooms) InRange does Likes turn_cost cost alive b g s bits
    each = does_each turn_cost cost (λ b g s r. (step b g s r).paid)

    pub weighed : (b : A) (g : List ℕ) (s : S) (bits : Spots) → InRange b g s → Likes s bits
        → Does A S block n (IsOwned n rooms) InRange does Likes (λ b. x b.found) more alive b g s bits
    weighed = does_each (λ b. x b.found) more (λ b g s r. (step b g s r).weighed)
