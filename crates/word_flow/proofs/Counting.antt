-- bitcount: the elements of a level are added in pairs, and their carries are the next level's.
use Rattle.word_flow.proofs.Common.{◌≡◌, ℕ, zero, suc, ◌+◌, ◌-◌, ◌*◌, ◌^◌, ◌<◌, ◌≤◌, Bool, true}
use Rattle.word_flow.proofs.Common.{false, not, cond, List, [], ◌∷◌, refl, sym, ap, ◌∙◌, subst}
use Rattle.word_flow.proofs.Common.{arith, slice_index, ◌==◌, ◌/◌, eq-eqb, ne_eqb, pow-suc, SetT}
use Rattle.word_flow.proofs.Common.{Mov, FlowOf, EventOf, End, Do, Put, If, Loop, Last, wp_some}
use Rattle.word_flow.proofs.Common.{Fine, majority}
use Rattle.word_flow.proofs.Halving.{halve}
use Rattle.word_flow.proofs.Counts.{Part, Copied, Three, Two, Next, Carried, Summed, Cleared}
use Rattle.word_flow.proofs.Counts.{load_next, next_pair, filled, level, above, bitcount}
use Rattle.word_flow.proofs.Loops.{◌▹◌, regs, before, each}
pub use Rattle.word_lower.proofs.Setting.{bit, number}
pub use Rattle.word_lower.proofs.Sums.{value_same as number_same}
use Rattle.word_flow.proofs.Halving as halving

-- the target's rows, the cells in which two bits, the complement of the second and that of a third
-- one are added, that of their sum, the states that a body may read, and the commands so far
pub record State : Type 0 where
  pub y : ℕ → Bool
  pub b : Bool
  pub a : Bool
  pub na : Bool
  pub nc : Bool
  pub ns : Bool
  pub alive : List ℕ
  pub cost : ℕ

abbrev pub put : (ℕ → Bool) → ℕ → Bool → ℕ → Bool
put y c v q = cond (q == c) v (y q)

pub put_same : (y : ℕ → Bool) (c : ℕ) (v : Bool) → put y c v c ≡ v
put_same y c v = ap (λ b. cond b v (y c)) (eq-eqb c c refl)

pub put_other : (y : ℕ → Bool) (c : ℕ) (v : Bool) (q : ℕ) → (q ≡ c → ⊥) → put y c v q ≡ y q
put_other y c v q ne = ap (λ b. cond b v (y q)) (ne_eqb q c ne)

-- the carry of the three bits in cells, and the complement of their sum
abbrev pub carry_of : Bool → Bool → Bool → Bool
carry_of b a nc = majority b (not nc) a

abbrev pub sum_of : Bool → Bool → Bool → Bool → Bool
sum_of b a na nc = majority (not b) (carry_of b a nc) (majority nc na (carry_of b a nc))

digit : (b a na nc : Bool) → na ≡ not a → bit (not (sum_of b a na nc)) + 2 * bit (carry_of b a nc)
    ≡ bit b + bit a + bit (not nc)
unfolding majority
digit b a na nc e = grind (arith, e)

not_not : (b : Bool) → not (not b) ≡ b
not_not b = grind arith

-- how many of so many bits from a place on are set
unfoldable pub tally : (ℕ → Bool) → ℕ → ℕ → ℕ
tally f a zero = 0
tally f a (suc k) = tally f a k + bit (f (a + k))

tally_same : (f g : ℕ → Bool) (a k : ℕ) → ((j : ℕ) → j < k → f (a + j) ≡ g (a + j))
    → tally f a k ≡ tally g a k
unfolding tally
tally_same f g a zero h = refl
tally_same f g a (suc k) h =
    let e = tally_same f g a k (λ j lj. h j (omega (arith, lj))) in
    let b = ap bit (h k (omega arith)) in
    omega (arith, e, b)

tally_front : (f : ℕ → Bool) (a k : ℕ) → tally f a (suc k) ≡ bit (f a) + tally f (a + 1) k
unfolding tally
tally_front f a zero = let e : a + 0 ≡ a = omega arith in
    let b = ap (λ v. bit (f v)) e in omega (arith, b)
tally_front f a (suc k) =
    let h = tally_front f a k in
    let e : a + 1 + k ≡ a + suc k = omega arith in
    let b = ap (λ v. bit (f v)) e in
    omega (arith, h, b)

tally_two : (f : ℕ → Bool) (a k : ℕ)
    → tally f a (suc (suc k)) ≡ bit (f a) + bit (f (a + 1)) + tally f (a + 2) k
tally_two f a k =
    let h = tally_front f a (suc k) in
    let g = tally_front f (a + 1) k in
    let e : a + 1 + 1 ≡ a + 2 = omega arith in
    let b = ap (λ v. tally f v k) e in
    omega (arith, h, g, b)

-- a level's sum and its carries, as its elements
level_sum : (low b t e p q : ℕ) → b + 2 * t ≡ e → q ≡ p * 2
    → low + b * p + q * t ≡ low + p * e
level_sum low b t e p q h g = let a : p * (b + 2 * t) ≡ p * e = ap (λ x. p * x) h in
    rw g (omega (arith, a))

-- what a level of so many elements takes, and so many levels from one of so many elements on
unfoldable pub level_cost : ℕ → ℕ
level_cost e = cond (e / 2 == 0) (cond (e == 0) 1 0) (6 * (e / 2) + 2)

unfoldable pub levels_cost : ℕ → ℕ → ℕ
levels_cost zero e = 0
levels_cost (suc k) e = level_cost e + levels_cost k (e / 2)

filled_cost : (e h : ℕ) → e / 2 ≡ suc h → level_cost e ≡ 6 * suc h + 2
unfolding level_cost
filled_cost e h is = grind (arith, is)

-- the states that a sum is made of, and the one that it leaves
abbrev pub loads : List ℕ
loads = 9 ∷ 10 ∷ 1 ∷ 12 ∷ []

abbrev pub left : List ℕ
left = 6 ∷ []

abbrev pub at : List ℕ → ℕ → ℕ
at g r = slice_index g r

-- a level's elements: the argument's bits or the target's
abbrev pub from : (ℕ → Bool) → Bool → State → ℕ → Bool
from x true t = x
from x false t = t.y

-- bits and the complement of a sum come into cells
abbrev pub loaded : State → Bool → Bool → Bool → ℕ → State
loaded t b a nc cost = record t {
  b = b;
  a = a;
  na = not a;
  nc = nc;
  alive = loads;
  cost = t.cost + cost;
}

-- a bit goes into a row of the target
abbrev pub stored : State → ℕ → Bool → State
stored t c v = record t { y = put t.y c v; alive = []; cost = t.cost + 1 }

abbrev pub does : (ℕ → Bool) → Part → List ℕ → State → State
does x Copied g t = stored t 0 (x 0)
does x (Three f) g t = loaded t (from x f t (at g 3)) (from x f t (at g 4)) (not (from x f t (at g 0))) 4
does x (Two f) g t = loaded t (from x f t (at g 0)) (from x f t (at g 4)) true 4
does x (Next f) g t = loaded t (from x f t (at g 3)) (from x f t (at g 4)) t.ns 3
does x Carried g t = record t {
  y = put t.y (at g 5) (carry_of t.b t.a t.nc);
  ns = sum_of t.b t.a t.na t.nc;
  alive = left;
  cost = t.cost + 3;
}
does x Summed g t = stored t (at g 0) (not t.ns)
does x Cleared g t = stored t (at g 0) false

abbrev pub InRange : ℕ → Part → List ℕ → State → Type 0
InRange n Copied g t = 0 < n
InRange n (Three b) g t = (at g 0 < n) × (at g 4 < n) × (at g 3 < n)
InRange n (Two b) g t = (at g 0 < n) × (at g 4 < n)
InRange n (Next b) g t = (at g 4 < n) × (at g 3 < n) × (t.alive ≡ left)
InRange n Carried g t = (at g 5 < n) × (t.alive ≡ loads)
InRange n Summed g t = (at g 0 < n) × (t.alive ≡ left)
InRange n Cleared g t = at g 0 < n

module _ (n : ℕ) (some : 0 < n) (small : n ≤ 128) (x : ℕ → Bool) (total : ℕ) where
  abbrev F : EventOf Part → State → Type 0
  F = Fine Part State n (InRange n)

  abbrev Asked : Type 1
  Asked = List ℕ → State → Type 0

  abbrev W : FlowOf Part → Asked → Asked
  W f = before Part State n (InRange n) (does x) f

  -- half of the elements, and whether one is left
  halved : (o e h0 p0 a c w j : ℕ) (k : FlowOf Part) (Q : Asked) (s : State) → e ≤ n
      → ((h p : ℕ) → p ≤ 1 → 2 * h + p ≡ e → W k Q (regs o 0 h p a c w j) s)
      → W (halve k) Q (regs o e h0 p0 a c w j) s
  halved = halving.halved Part State n F (does x) (λ m g s h. h small) (λ r g s h. h)

  -- what holds before a level: the bits below it and its elements are worth the argument's ones
  record Levelled (b : Bool) (o e : ℕ) (t : State) : Type 0 where
    room : o + e ≤ n
    counted : number t.y o + 2 ^ o * tally (from x b t) o e ≡ tally x 0 n
    levels : ℕ
    there : o + levels ≡ n
    paid : (b ≡ true → n ≡ 1 → ⊥) → t.cost + levels_cost levels e ≡ total

  -- after a carry of a level whose sum and elements were worth so much: j carries stand, and m pairs
  -- come
  record Paired (b : Bool) (o h low all due j m a c : ℕ) (t : State) : Type 0 where
    alive : t.alive ≡ left
    paid : t.cost + 6 * m ≡ due
    full : j + m ≡ h
    low_is : number t.y o ≡ low
    sum : bit (not t.ns) + 2 * tally t.y (o + 1) j + tally (from x b t) a (2 * m) ≡ all
    place : c ≡ o + 1 + j
    behind : c ≤ a
    room : a + 2 * m ≤ n
    up : c + m ≤ n

  -- before a carry, after which so many pairs come
  record Loaded (b : Bool) (o h low all due j m a c : ℕ) (t : State) : Type 0 where
    alive : t.alive ≡ loads
    turned : t.na ≡ not t.a
    paid : t.cost + 3 + 6 * m ≡ due
    full : j + suc m ≡ h
    low_is : number t.y o ≡ low
    sum : bit t.b + bit t.a + bit (not t.nc) + 2 * tally t.y (o + 1) j
        + tally (from x b t) a (2 * m) ≡ all
    place : c ≡ o + 1 + j
    behind : c < a
    room : a + 2 * m ≤ n
    up : c + suc m ≤ n

  abbrev Before : Bool → ℕ → ℕ → ℕ → ℕ → ℕ → ℕ → ℕ → ℕ → ℕ → State → Type 0
  Before b o h low all due j zero a c t = Paired b o h low all due j 0 a c t
  Before b o h low all due j (suc m) a c t = Loaded b o h low all due j m a c t

  -- a carry goes where nothing is read any more
  carried : (b : Bool) (t : State) (o h low all due j m a c o0 e0 h0 p0 a0 w0 j0 : ℕ)
      → Loaded b o h low all due j m a c t
      → Paired b o h low all due (j + 1) m a (c + 1) (does x Carried (regs o0 e0 h0 p0 a0 c w0 j0) t)
  unfolding tally
  carried b t o h low all due j m a c o0 e0 h0 p0 a0 w0 j0 l =
      let v = carry_of t.b t.a t.nc in
      let y = put t.y c v in
      let place = l.place in
      let lt = l.behind in
      let one : suc j ≡ j + 1 = omega arith in
      let at_c : o + 1 + j ≡ c = sym place in
      let carries : tally y (o + 1) j ≡ tally t.y (o + 1) j = tally_same y t.y (o + 1) j
      (λ i li. grind (arith, place, li)) in
      let last : y (o + 1 + j) ≡ v = ap y at_c ∙ put_same t.y c v in
      let top = ap bit last in
      let more : tally y (o + 1) (j + 1) ≡ tally t.y (o + 1) j + bit v =
      ap (tally y (o + 1)) (sym one) ∙ (let z : tally y (o + 1) j + bit (y (o + 1 + j))
      ≡ tally t.y (o + 1) j + bit v = omega (arith, carries, top) in z) in
      let rest = kept b t a c (2 * m) lt in
      let d = digit t.b t.a t.na t.nc l.turned in
      record {
        alive = refl;
        paid = omega (arith, l.paid);
        full = omega (arith, l.full);
        low_is = number_same y t.y o (λ i li. grind (arith, place, li)) ∙ l.low_is;
        sum = omega (arith, more, rest, d, l.sum);
        place = omega (arith, place);
        behind = omega (arith, lt);
        room = l.room;
        up = omega (arith, l.up);
      }
    where
      kept : (b : Bool) (t : State) (a c k : ℕ) → c < a
          → tally (from x b (does x Carried (regs o0 e0 h0 p0 a0 c w0 j0) t)) a k
          ≡ tally (from x b t) a k
      kept true t a c k lt = refl
      kept false t a c k lt = tally_same (put t.y c (carry_of t.b t.a t.nc)) t.y a k
          (λ i li. grind (arith, lt))

  from_same : (b : Bool) (t s : State) (a k : ℕ) → s.y ≡ t.y → tally (from x b s) a k
      ≡ tally (from x b t) a k
  from_same true t s a k e = refl
  from_same false t s a k e = ap (λ y. tally y a k) e

  -- the loop over the pairs
  pairs : (b : Bool) (o e h low all due j a c m w v : ℕ) (Q : Asked) (k : FlowOf Part) (t : State)
      → m ≤ n → Before b o h low all due j m a c t
      → ((j a c : ℕ) (s : State) → Paired b o h low all due j 0 a c s
      → W k Q (regs o e 0 (a + 1) a c w v) s)
      → W (Loop 2 (Last (next_pair b)) k) Q (regs o e m (a + 1) a c w v) t
  unfolding tally
  pairs b o e h low all due j a c m w v Q k t le i f = each Part State n (InRange n) (does x) 2
      (next_pair b) k Q (ℕ × ℕ × ℕ) (λ y m. regs o e m (y.1 + 1) y.1 y.2 w v)
      (λ y m t. Before b o h low all due y.0 m y.1 y.2 t) (λ y m. refl)
      (λ y m t R l go. turn m y.0 y.1 y.2 t R l go) (λ y t l. f y.0 y.1 y.2 t l) (j, a, c) m t refl le i
    where
      turn : (m j a c : ℕ) (t : State) (R : Asked) → Loaded b o h low all due j m a c t
          → ((y : ℕ × ℕ × ℕ) (t : State) → Before b o h low all due y.0 m y.1 y.2 t
          → R (regs o e m (y.1 + 1) y.1 y.2 w v) t) → W (next_pair b) R (regs o e m (a + 1) a c w v) t
      turn zero j a c t R l f = (omega (arith, l.up), l.alive) ▹ omega (arith, l.up, small)
          ▹ f (j + 1, a, c + 1) _ (carried b t o h low all due j 0 a c o e 0 (a + 1) a w v l)
      turn (suc m) j a c t R l f =
          let p = carried b t o h low all due j (suc m) a c o e (suc m) (a + 1) a w v l in
          let t1 = does x Carried (regs o e (suc m) (a + 1) a c w v) t in
          let t2 = does x (Next b) (regs o e (suc m) (a + 1) a (c + 1) w v) t1 in
          let r = p.room in
          let two : 2 * suc m ≡ suc (suc (2 * m)) = omega arith in
          let front = ap (tally (from x b t1) a) two ∙ tally_two (from x b t1) a (2 * m) in
          let rest = from_same b t1 t2 (a + 2) (2 * m) refl in
          let swap : a + 2 + 1 ≡ a + 1 + 2 = omega arith in
          let q : Loaded b o h low all due (j + 1) m (a + 2) (c + 1) t2 = record {
            alive = refl;
            turned = refl;
            paid = omega (arith, p.paid);
            full = omega (arith, p.full);
            low_is = p.low_is;
            sum = omega (arith, front, rest, p.sum);
            place = p.place;
            behind = omega (arith, p.behind);
            room = omega (arith, r);
            up = omega (arith, p.up);
          } in
          (omega (arith, l.up), l.alive) ▹ omega (arith, l.up, small)
          ▹ wp_some Part State n F (does x) 2 m (load_next b) End End R
          (regs o e (suc m) (a + 1) a (c + 1) w v) t1 refl ((omega (arith, r), omega (arith, r), refl)
          ▹ omega (arith, r, small) ▹ omega (arith, r, small)
          ▹ subst (λ z. R (regs o e (suc m) z (a + 2) (c + 1) w v) t2) swap (f (j + 1, a + 2, c + 1) t2 q))

  -- a level with pairs: its bit of the target, and the elements of the level above
  filled_level : (b : Bool) (o e h p a0 c0 w v : ℕ) (Q : Asked) (t : State) → 0 < h → p ≤ 1
      → 2 * h + p ≡ e → Levelled b o e t
      → ((p a c : ℕ) (s : State) → Levelled false (o + 1) h s → Q (regs o h 0 p a c w v) s)
      → W (filled b) Q (regs o h h p a0 c0 w v) t
  unfolding tally levels_cost
  filled_level b o e h p a0 c0 w v Q t many le is l f = by p le is
    where
      hs : suc (h - 1) ≡ h
      hs = omega (arith, many)

      low : ℕ
      low = number t.y o

      all : ℕ
      all = tally (from x b t) o e

      due : ℕ
      due = t.cost + 7 + 6 * (h - 1)

      first : (p : ℕ) (x1 y1 z1 : Bool) → 2 * h + p ≡ e
          → bit x1 + bit y1 + bit (not z1) + tally (from x b t) (o + 2 + p) (2 * (h - 1)) ≡ all
          → Loaded b o h low all due 0 (h - 1) (o + 2 + p) (o + 1) (loaded t x1 y1 z1 4)
      first p x1 y1 z1 is sum =
          let rest = from_same b t (loaded t x1 y1 z1 4) (o + 2 + p) (2 * (h - 1)) refl in
          record {
            alive = refl;
            turned = refl;
            paid = omega arith;
            full = omega (arith, hs);
            low_is = refl;
            sum = omega (arith, rest, sum);
            place = omega arith;
            behind = omega arith;
            room = omega (arith, l.room, is, hs);
            up = omega (arith, l.room, is, hs);
          }

      last : (j a c : ℕ) (s : State) → Paired b o h low all due j 0 a c s
          → W (Do Summed End) Q (regs o h 0 (a + 1) a c w v) s
      last j a c s i =
          let bit_o = not s.ns in
          let y = put s.y o bit_o in
          let one : suc o ≡ o + 1 = omega arith in
          let js : j ≡ h = omega (arith, i.full) in
          let carries : tally y (o + 1) h ≡ tally s.y (o + 1) h = tally_same y s.y (o + 1) h
          (λ q lq. grind arith) in
          let lower : number y o ≡ number s.y o = number_same y s.y o (λ q lq. grind (arith, lq)) in
          let here = ap (λ z. bit z * 2 ^ o) (put_same s.y o bit_o) in
          let sum : bit bit_o + 2 * tally s.y (o + 1) h ≡ all =
          ap (λ z. bit bit_o + 2 * tally s.y (o + 1) z) (sym js) ∙ (let z : bit bit_o
          + 2 * tally s.y (o + 1) j ≡ all = omega (arith, i.sum) in z) in
          let worth = level_sum (number s.y o) (bit bit_o) (tally s.y (o + 1) h) all (2 ^ o) (2 ^ suc o)
          sum (pow-suc 2 o) in
          let spelled : number y (suc o) + 2 ^ suc o * tally y (o + 1) h ≡ tally x 0 n =
          ap (λ z. number y o + bit (y o) * 2 ^ o + 2 ^ suc o * z) carries
          ∙ ap (λ z. number y o + z + 2 ^ suc o * tally s.y (o + 1) h) here
          ∙ ap (λ z. z + bit bit_o * 2 ^ o + 2 ^ suc o * tally s.y (o + 1) h) lower
          ∙ worth ∙ ap (λ z. z + 2 ^ o * all) i.low_is ∙ l.counted in
          let more : suc (l.levels - 1) ≡ l.levels = omega (arith, l.there, l.room, is, many) in
          let half : e / 2 ≡ h = omega (arith, is, le) in
          let one_level : level_cost e ≡ 6 * h + 2 = ap (λ z. level_cost e) hs
          ∙ filled_cost e (h - 1) (half ∙ sym hs) ∙ ap (λ z. 6 * z + 2) hs in
          let later : levels_cost l.levels e ≡ level_cost e + levels_cost (l.levels - 1) h =
          ap (λ z. levels_cost z e) (sym more)
          ∙ ap (λ z. level_cost e + levels_cost (l.levels - 1) z) half in
          let before : t.cost + levels_cost l.levels e ≡ total = l.paid (λ z k.
          absurd (omega (arith, l.room, is, many, k))) in (
            (omega (arith, l.room, is, many), i.alive),
            f (a + 1) a c _ (record {
              levels = l.levels - 1;
              there = omega (arith, more, l.there);
              paid = λ z. omega (arith, i.paid, before, later, one_level, hs);
              room = omega (arith, l.room, is, many);
              counted = subst (λ z. number y z + 2 ^ z * tally y (o + 1) h ≡ tally x 0 n) one spelled;
            }),
          )

      -- the first sum of the level is made in cells
      begun : (a : ℕ) (s : State) → Loaded b o h low all due 0 (h - 1) a (o + 1) s
          → W (Loop 2 (Last (next_pair b)) (Do Summed End)) Q (regs o h h (a + 1) a (o + 1) w v) s
      begun a s i = subst (λ m. W (Loop 2 (Last (next_pair b)) (Do Summed End)) Q
          (regs o h m (a + 1) a (o + 1) w v) s) hs
          (pairs b o h h low all due 0 a (o + 1) (suc (h - 1)) w v Q (Do Summed End) s
          (omega (arith, l.room, is, hs)) i last)

      by : (p : ℕ) → p ≤ 1 → 2 * h + p ≡ e → W (filled b) Q (regs o h h p a0 c0 w v) t
      by zero le is =
          let c = from x b t o in
          let d = from x b t (o + 1) in
          let two : e ≡ suc (suc (2 * (h - 1))) = omega (arith, is, hs) in
          let front = ap (tally (from x b t) o) two ∙ tally_two (from x b t) o (2 * (h - 1)) in
          let r = l.room in
          let place : o + 1 + 1 ≡ o + 2 + 0 = omega arith in
          let none : o + 2 ≡ o + 2 + 0 = omega arith in
          let there = ap (λ z. tally (from x b t) z (2 * (h - 1))) none in
          let i = first 0 c d true is (omega (arith, front, there)) in
          tt ▹ omega (arith, r, is, many, small) ▹ tt
          ▹ (omega (arith, r, is, many), omega (arith, r, is, many))
          ▹ omega (arith, r, is, many, small) ▹ tt ▹ omega (arith, r, is, many, small)
          ▹ subst (λ z. W (Loop 2 (Last (next_pair b)) (Do Summed End)) Q
          (regs o h h (z + 1) z (o + 1) w v) (loaded t c d true 4)) (sym place)
          (begun (o + 2 + 0) (loaded t c d true 4) i)
      by (suc zero) le is =
          let c = from x b t o in
          let d = from x b t (o + 1) in
          let g = from x b t (o + 1 + 1) in
          let three : e ≡ suc (suc (suc (2 * (h - 1)))) = omega (arith, is, hs) in
          let up : o + 1 + 2 ≡ o + 2 + 1 = omega arith in
          let next : o + 1 + 1 + 2 ≡ o + 2 + 1 + 1 = omega arith in
          let front = ap (tally (from x b t) o) three ∙ tally_front (from x b t) o (suc (suc (2 * (h - 1))))
          in
          let more = tally_two (from x b t) (o + 1) (2 * (h - 1)) in
          let there = ap (λ z. tally (from x b t) z (2 * (h - 1))) up in
          let twice : bit (not (not c)) ≡ bit c = ap bit (not_not c) in
          let r = l.room in
          let i = first 1 g d (not c) is (omega (arith, front, more, there, twice)) in
          let new = loaded t g d (not c) 4 in
          tt ▹ omega (arith, r, is, many, small) ▹ tt ▹ tt ▹ omega (arith, r, is, many, small)
          ▹ (omega (arith, r, is, many), omega (arith, r, is, many), omega (arith, r, is, many))
          ▹ omega (arith, r, is, many, small) ▹ omega (arith, r, is, many, small)
          ▹ subst (λ z. W (Loop 2 (Last (next_pair b)) (Do Summed End)) Q
          (regs o h h z (o + 1 + 2) (o + 1) w v) new) (sym next)
          (subst (λ z. W (Loop 2 (Last (next_pair b)) (Do Summed End)) Q
          (regs o h h (o + 2 + 1 + 1) z (o + 1) w v) new) (sym up) (begun (o + 2 + 1) new i))
      by (suc (suc p)) le is = absurd (omega (arith, le))

  -- a level: with pairs, or else what is done for one element or none
  level_does : (b : Bool) (o e h0 p0 a c w v : ℕ) (none k : FlowOf Part) (Q : Asked) (t : State)
      → Levelled b o e t
      → ((p a c : ℕ) → e ≡ p → p ≤ 1 → W none (W k Q) (regs o 0 0 p a c w v) t)
      → ((h p a c : ℕ) (s : State) → Levelled false (o + 1) h s → W k Q (regs o h 0 p a c w v) s)
      → W (level b none k) Q (regs o e h0 p0 a c w v) t
  level_does b o e h0 p0 a c w v none k Q t l few many =
      halved o e h0 p0 a c w v (Put (Mov 1 2) (If 2 (filled b) none k)) Q t (omega (arith, l.room))
      (λ h p le is. (tt, by h p le is))
    where
      by : (h p : ℕ) → p ≤ 1 → 2 * h + p ≡ e → W (If 2 (filled b) none k) Q (regs o h h p a c w v) t
      by zero p le is = few p a c (omega (arith, is)) le
      by (suc h) p le is = wp_some Part State n F (does x) 2 h (filled b) none k Q
          (regs o (suc h) (suc h) p a c w v) t refl
          (filled_level b o e (suc h) p a c w v (W k Q) t (omega arith) le is l
          (λ q x z s j. many (suc h) q x z s j))

  later : (k e c : ℕ) → level_cost e + levels_cost (k - 1) (e / 2) ≡ c + levels_cost (k - 1) 0 → 0 < k
      → levels_cost k e ≡ c + levels_cost (k - 1) 0
  unfolding levels_cost
  later zero e c is lk = absurd (omega (arith, lk))
  later (suc k) e c is lk = let z : suc k - 1 ≡ k = omega arith in
      ap (λ m. level_cost e + levels_cost m (e / 2)) (sym z) ∙ is

  -- a level of one element or none
  lone : (o p a c w v : ℕ) (Q : Asked) (t : State) → o < n → p ≤ 1 → Levelled false o p t
      → ((s : State) → Levelled false (o + 1) 0 s → Q (regs o 0 0 p a c w v) s)
      → W (If 3 End (Do Cleared End) End) Q (regs o 0 0 p a c w v) t
  unfolding tally level_cost levels_cost
  lone o zero a c w v Q t lo le l f =
      let y = put t.y o false in
      let one : suc o ≡ o + 1 = omega arith in
      let here = ap (λ z. bit z * 2 ^ o) (put_same t.y o false) in
      let lower : number y o ≡ number t.y o = number_same y t.y o (λ q lq. grind (arith, lq)) in
      let spelled : number y (suc o) + 2 ^ suc o * 0 ≡ tally x 0 n = omega (arith, here, lower, l.counted)
      in (
        lo,
        f (stored t o false) (record {
          levels = l.levels - 1;
          there = omega (arith, l.there, lo);
          paid = λ z. omega (
            arith,
            l.paid (λ e k. absurd (cc)),
            later l.levels 0 1 refl
                (omega (arith, l.there, lo)),
          );
          room = omega (arith, lo);
          counted = subst (λ z. number y z + 2 ^ z * 0 ≡ tally x 0 n) one spelled;
        }),
      )
  lone o (suc zero) a c w v Q t lo le l f =
      let one : suc o ≡ o + 1 = omega arith in
      let at : o + 0 ≡ o = omega arith in
      let here = ap (λ z. 2 ^ o * (0 + bit (t.y z))) at in
      let alone = ap (λ z. 2 ^ o * z) (let z : 0 + bit (t.y o) ≡ bit (t.y o) = omega arith in z) in
      let turned : 2 ^ o * bit (t.y o) ≡ bit (t.y o) * 2 ^ o = swapped (2 ^ o) (bit (t.y o)) in
      let spelled : number t.y (suc o) + 2 ^ suc o * 0 ≡ tally x 0 n =
      omega (arith, here, alone, turned, l.counted) in
      f t (record {
        levels = l.levels - 1;
        there = omega (arith, l.there, lo);
        paid = λ z. omega (
          arith,
          l.paid (λ e k. absurd (cc)),
          later l.levels 1 0 refl
              (omega (arith, l.there, lo)),
        );
        room = omega (arith, lo);
        counted = subst (λ z. number t.y z + 2 ^ z * 0 ≡ tally x 0 n) one spelled;
      })
    where
      swapped : (a b : ℕ) → a * b ≡ b * a
      swapped a b = grind arith
  lone o (suc (suc p)) a c w v Q t lo le l f = absurd (omega (arith, le))

  -- the levels above the lowest
  levels : (o e h p a c w v : ℕ) (Q : Asked) (t : State) → o + 1 ≡ n - w → w ≤ n → w < n
      → Levelled false (o + 1) e t
      → ((g : List ℕ) (s : State) → number s.y n ≡ tally x 0 n → s.cost ≡ total → Q g s)
      → W (Loop 6 (Last above) End) Q (regs o e h p a c w v) t
  unfolding tally levels_cost
  levels o e h p a c w v Q t is le lt l f = each Part State n (InRange n) (does x) 6 above End Q
      (ℕ × ℕ × ℕ × ℕ × ℕ × ℕ) (λ y m. regs y.0 y.1 y.2 y.3 y.4 y.5 m v)
      (λ y m t. (y.0 + 1 + m ≡ n) × Levelled false (y.0 + 1) y.1 t) (λ y m. refl) step ends
      (o, e, h, p, a, c) w t refl le (omega (arith, is, lt), l)
    where
      step : (y : ℕ × ℕ × ℕ × ℕ × ℕ × ℕ) (m : ℕ) (t : State) (R : Asked)
          → (y.0 + 1 + suc m ≡ n) × Levelled false (y.0 + 1) y.1 t
          → ((z : ℕ × ℕ × ℕ × ℕ × ℕ × ℕ) (t : State) → (z.0 + 1 + m ≡ n) × Levelled false (z.0 + 1) z.1 t
          → R (regs z.0 z.1 z.2 z.3 z.4 z.5 m v) t) → W above R (regs y.0 y.1 y.2 y.3 y.4 y.5 m v) t
      step y m t R i f =
          let o = y.0 in
          let k = i.0 in
          omega (arith, k, small) ▹ level_does false (o + 1) y.1 y.2 y.3 y.4 y.5 m v
          (If 3 End (Do Cleared End) End) End R t i.1
          (λ p a c is le. lone (o + 1) p a c m v R t (omega (arith, k)) le
          (subst (λ z. Levelled false (o + 1) z t) is i.1)
          (λ s j. f (o + 1, 0, 0, p, a, c) s (omega (arith, k), j)))
          (λ h p a c s j. f (o + 1, h, 0, p, a, c) s (omega (arith, k), j))

      ends : (y : ℕ × ℕ × ℕ × ℕ × ℕ × ℕ) (t : State) → (y.0 + 1 + 0 ≡ n) × Levelled false (y.0 + 1) y.1 t
          → Q (regs y.0 y.1 y.2 y.3 y.4 y.5 0 v) t
      ends y t i =
          let l = i.1 in
          let k : y.0 + 1 ≡ n = omega (arith, i.0) in
          let none : y.1 ≡ 0 = omega (arith, l.room, i.0) in
          let over : l.levels ≡ 0 = omega (arith, l.there, i.0) in
          let paid = l.paid (λ e k. absurd (cc)) in
          let nothing = ap (λ z. levels_cost z y.1) over in
          f _ t (subst (λ z. number t.y z ≡ tally x 0 n) k
          (let s = ap (λ z. 2 ^ (y.0 + 1) * tally t.y (y.0 + 1) z) none in
          omega (arith, s, l.counted))) (omega (arith, paid, nothing))

  -- the whole: wherever the registers begin
  pub bitcount_does : (o e h p a c w v : ℕ) (t : State)
      → ((n ≡ 1 → ⊥) → t.cost + levels_cost n n ≡ total) → (n ≡ 1 → t.cost + 1 ≡ total)
      → W bitcount (λ g s. (number s.y n ≡ tally x 0 n) × (s.cost ≡ total)) (regs o e h p a c w v) t
  unfolding tally levels_cost
  bitcount_does o e h p a c w v t pays pays_one = tt ▹ tt
      ▹ level_does true 0 n h p a c w v (Do Copied End) up Q t start
      (λ p a c is le. some ▹ tt ▹ levels 0 0 0 p a c (n - 1) v Q copied (omega (arith, some))
      (omega arith) (omega (arith, some)) (one p is le) (λ g s k j. (k, j)))
      (λ h p a c s l. tt ▹ levels 0 h 0 p a c (n - 1) v Q s (omega (arith, some)) (omega arith)
      (omega (arith, some)) l (λ g s k j. (k, j)))
    where
      Q : Asked
      Q = λ g s. (number s.y n ≡ tally x 0 n) × (s.cost ≡ total)

      up : FlowOf Part
      up = Put (SetT 6) (Loop 6 (Last above) End)

      start : Levelled true 0 n t
      start = record {
        room = omega arith;
        counted = omega arith;
        levels = n;
        there = omega arith;
        paid = λ z. pays (z refl);
      }

      copied : State
      copied = stored t 0 (x 0)

      one : (p : ℕ) → n ≡ p → p ≤ 1 → Levelled false 1 0 copied
      one p is le = let k : n ≡ 1 = omega (arith, is, le, some) in
          let here = ap bit (put_same t.y 0 (x 0)) in
          record {
            levels = 0;
            there = sym k;
            paid = λ z. omega (arith, pays_one k);
            room = some;
            counted = subst (λ z. number copied.y 1 + 2 ^ 1 * 0 ≡ tally x 0 z) (sym k)
                (omega (arith, here));
          }
