-- xor_red: the parity of the elements, two at a time.
use Rattle.word_flow.proofs.Common.{◌≡◌, ℕ, zero, suc, ◌+◌, ◌-◌, ◌*◌, ◌<◌, ◌≤◌, Bool, true, false}
use Rattle.word_flow.proofs.Common.{not, List, [], ◌∷◌, refl, ap, ◌∙◌, subst, arith, slice_index}
use Rattle.word_flow.proofs.Common.{◌/◌, SetI, AddI, SubI, FlowOf, EventOf, End, Do, Put, If, Loop}
use Rattle.word_flow.proofs.Common.{Last, wp_some, Fine, majority}
use Rattle.word_flow.proofs.Counting.{bit}
use Rattle.word_flow.proofs.Halving.{halved}
use Rattle.word_flow.proofs.Loops.{◌▹◌, regs, before, each}
use Rattle.word_flow.proofs.Parities.{Part, Alone, LoneTwo, LoneThree, OpenTwo, OpenThree, Pair}
use Rattle.word_flow.proofs.Parities.{Ended, two_more, few, many, xor_red, parity_total, parity_aps}

-- the target's bit, the complement of the parity in T3 and DCC0, and in T2, the states that a body
-- may read, and the commands and AP so far
pub record State : Type 0 where
  pub y : Bool
  pub ns : Bool
  pub nt : Bool
  pub alive : List ℕ
  pub cost : ℕ
  pub aps : ℕ

abbrev pub parity_left : List ℕ
parity_left = 6 ∷ 2 ∷ []

-- the parity of two and of three elements
abbrev pub two_of : Bool → Bool → Bool
two_of a b = majority (not b) (majority true a b) (majority false (not a) (majority true a b))

abbrev pub three_of : Bool → Bool → Bool → Bool
three_of c a b = majority (not b) (majority (not c) a b) (majority c (not a) (majority (not c) a b))

-- and its complement
abbrev pub open_two : Bool → Bool → Bool
open_two a b = majority (not a) (majority false a b) (majority true (not b) (majority false a b))

abbrev pub open_three : Bool → Bool → Bool → Bool
open_three c a b = not (majority b (not (majority c a b)) (majority c a (not (majority c a b))))

-- with two elements more, from the complement
abbrev pub pair_of : Bool → Bool → Bool → Bool
pair_of a b s = majority (not b) (majority a b (not s)) (majority (not a) s (majority a b (not s)))

abbrev pub ended_of : Bool → Bool → Bool → Bool → Bool
ended_of a b s t = not (majority b (not (majority a b t)) (majority a s (not (majority a b t))))

two_digit : (a b : Bool) → bit (two_of a b) + 2 * bit (majority false a b) ≡ bit a + bit b
unfolding majority
two_digit a b = grind arith

three_digit : (c a b : Bool) → bit (three_of c a b) + 2 * bit (majority c a b) ≡ bit c + bit a + bit b
unfolding majority
three_digit c a b = grind arith

open_two_digit : (a b : Bool) → bit (not (open_two a b)) + 2 * bit (majority false a b) ≡ bit a + bit b
unfolding majority
open_two_digit a b = grind arith

open_three_digit : (c a b : Bool) → bit (not (open_three c a b)) + 2 * bit (majority c a b)
    ≡ bit c + bit a + bit b
unfolding majority
open_three_digit c a b = grind arith

pair_digit : (a b s : Bool) → bit (not (pair_of a b s)) + 2 * bit (majority a b (not s))
    ≡ bit a + bit b + bit (not s)
unfolding majority
pair_digit a b s = grind arith

ended_digit : (a b s : Bool) → bit (ended_of a b s s) + 2 * bit (majority a b (not s))
    ≡ bit a + bit b + bit (not s)
unfolding majority
ended_digit a b s = grind arith

abbrev pub at : List ℕ → ℕ → ℕ
at g r = slice_index g r

-- the parity is found, and its complement stands in cells
abbrev pub given : State → Bool → ℕ → ℕ → State
given t v c k = record t { y = v; alive = []; cost = t.cost + c; aps = t.aps + k }

abbrev pub standing : State → Bool → ℕ → State
standing t v c = record t {
  ns = v;
  nt = v;
  alive = parity_left;
  cost = t.cost + c;
  aps = t.aps + 1;
}

abbrev pub does : (ℕ → Bool) → Part → List ℕ → State → State
does x Alone g t = given t (x 0) 1 0
does x LoneTwo g t = given t (two_of (x 0) (x (at g 4))) 7 0
does x LoneThree g t = given t (three_of (x 0) (x (at g 4)) (x (at g 5))) 7 0
does x OpenTwo g t = standing t (open_two (x 0) (x (at g 4))) 7
does x OpenThree g t = standing t (open_three (x 0) (x (at g 4)) (x (at g 5))) 7
does x Pair g t = standing t (pair_of (x (at g 4)) (x (at g 5)) t.ns) 6
does x Ended g t = given t (ended_of (x (at g 4)) (x (at g 5)) t.ns t.nt) 6 1

abbrev pub InRange : ℕ → Part → List ℕ → State → Type 0
InRange n Alone g t = 0 < n
InRange n LoneTwo g t = (0 < n) × (at g 4 < n)
InRange n LoneThree g t = (0 < n) × (at g 4 < n) × (at g 5 < n)
InRange n OpenTwo g t = (0 < n) × (at g 4 < n)
InRange n OpenThree g t = (0 < n) × (at g 4 < n) × (at g 5 < n)
InRange n Pair g t = (at g 4 < n) × (at g 5 < n) × (t.alive ≡ parity_left)
InRange n Ended g t = (at g 4 < n) × (at g 5 < n) × (t.alive ≡ parity_left)

-- how many of the first elements are set
abbrev pub ones : (ℕ → Bool) → ℕ → ℕ
ones f zero = 0
ones f (suc k) = ones f k + bit (f k)

two_on : (f : ℕ → Bool) (k a b : ℕ) → a ≡ k → b ≡ k + 1
    → ones f (k + 2) ≡ ones f k + bit (f a) + bit (f b)
two_on f k a b ea eb =
    let p = ap (λ v. bit (f v)) ea in
    let q : bit (f b) ≡ bit (f (suc k)) = ap (λ v. bit (f v))
    (let z : b ≡ suc k = omega (arith, eb) in z) in
    let r : ones f (k + 2) ≡ ones f (suc (suc k)) = ap (ones f)
    (let z : k + 2 ≡ suc (suc k) = omega arith in z) in
    omega (arith, p, q, r)

module _ (n : ℕ) (some : 0 < n) (small : n ≤ 128) (x : ℕ → Bool) where
  abbrev F : EventOf Part → State → Type 0
  F = Fine Part State n (InRange n)

  abbrev Asked : Type 1
  Asked = List ℕ → State → Type 0

  abbrev W : FlowOf Part → Asked → Asked
  W f = before Part State n (InRange n) (does x) f

  -- what is to come
  abbrev pub Over : Asked
  Over g t = ((q : ℕ) × (bit t.y + 2 * q ≡ ones x n)) × (t.cost ≡ parity_total n)
      × (t.aps ≡ parity_aps n)

  aps_few : n < 4 → parity_aps n ≡ 0
  aps_few lt = grind (arith, lt)

  aps_many : 4 ≤ n → parity_aps n ≡ n / 2
  aps_many le = grind (arith, le)

  -- so many elements are in the parity, and so many pairs come before the last
  record Paired (a b m : ℕ) (t : State) : Type 0 where
    half : ℕ
    odd : bit (not t.ns) + 2 * half ≡ ones x a
    next : b ≡ a + 1
    same : t.nt ≡ t.ns
    alive : t.alive ≡ parity_left
    rest : a + 2 * m + 2 ≡ n
    paid : t.cost + 6 * m + 6 ≡ parity_total n
    counted : t.aps + m + 1 ≡ parity_aps n

  pairs_do : (p a b m : ℕ) (t : State) → Paired a b m t
      → W (Loop 2 (Last two_more) (Do Ended End)) Over (regs 0 0 m p a b 0 0) t
  pairs_do p a b m t c = each Part State n (InRange n) (does x) 2 two_more (Do Ended End) Over
      (ℕ × ℕ) (λ y m. regs 0 0 m p y.0 y.1 0 0) (λ y m t. Paired y.0 y.1 m t) (λ y m. refl) step ends
      (a, b) m t refl (omega (arith, c.rest)) c
    where
      step : (y : ℕ × ℕ) (m : ℕ) (t : State) (R : Asked) → Paired y.0 y.1 (suc m) t
          → ((z : ℕ × ℕ) (t : State) → Paired z.0 z.1 m t → R (regs 0 0 m p z.0 z.1 0 0) t)
          → W two_more R (regs 0 0 m p y.0 y.1 0 0) t
      step y m t R c go =
          let a = y.0 in
          let b = y.1 in
          let v = majority (x a) (x b) (not t.ns) in
          let d = pair_digit (x a) (x b) t.ns in
          let u = two_on x a a b refl c.next in
          (omega (arith, c.rest), omega (arith, c.next, c.rest), c.alive) ▹ omega (arith, c.rest, small)
          ▹ omega (arith, c.next, c.rest, small) ▹ go (a + 2, b + 2) _ (record {
            half = c.half + bit v;
            odd = omega (arith, d, u, c.odd);
            next = omega (arith, c.next);
            same = refl;
            alive = refl;
            rest = omega (arith, c.rest);
            paid = omega (arith, c.paid);
            counted = omega (arith, c.counted);
          })

      ends : (y : ℕ × ℕ) (t : State) → Paired y.0 y.1 0 t
          → W (Do Ended End) Over (regs 0 0 0 p y.0 y.1 0 0) t
      ends y t c =
          let a = y.0 in
          let b = y.1 in
          let v = majority (x a) (x b) (not t.ns) in
          let d = ap (λ z. bit (ended_of (x a) (x b) t.ns z) + 2 * bit v) c.same
          ∙ ended_digit (x a) (x b) t.ns in
          let u = two_on x a a b refl c.next in
          let all = ap (ones x) (let z : a + 2 ≡ n = omega (arith, c.rest) in z) in
          (omega (arith, c.rest), omega (arith, c.next, c.rest), c.alive) ▹ (
            (c.half + bit v, omega (arith, d, u, all, c.odd)),
            omega (arith, c.paid),
            omega (arith, c.counted),
          )

  -- the whole
  pub xor_does : (t : State) → t.cost ≡ 0 → t.aps ≡ 0 → W xor_red Over (regs 0 0 0 0 0 0 0 0) t
  xor_does t free none = tt ▹ halved Part State n F (does x) (λ m g s h. h small) (λ r g s h. h) 0 n 0 0
      0 0 0 0 rest Over t (omega arith) (λ h p le is. tt ▹ tt ▹ by h p le is)
    where
      rest : FlowOf Part
      rest = Put (SetI 4 1) (Put (SetI 5 2) (If 2 (Put (SubI 2 1) (If 2 many few End)) (Do Alone End) End))

      loop : FlowOf Part
      loop = Put (SubI 2 1) (Loop 2 (Last two_more) (Do Ended End))

      open_two_first : FlowOf Part
      open_two_first = Do OpenTwo (Put (AddI 4 1) (Put (AddI 5 1) End))

      open_three_first : FlowOf Part
      open_three_first = Do OpenThree (Put (AddI 4 2) (Put (AddI 5 2) End))

      -- two or three elements
      few_do : (p : ℕ) → p ≤ 1 → 2 + p ≡ n → W few Over (regs 0 0 0 p 1 2 0 0) t
      few_do zero le is =
          let d = two_digit (x 0) (x 1) in
          let u = ap (ones x) (let z : 2 ≡ n = omega (arith, is) in z) in
          (some, omega (arith, is)) ▹ (
            (bit (majority false (x 0) (x 1)), omega (arith, d, u)),
            omega (arith, free, is),
            omega (arith, none, aps_few (omega (arith, is))),
          )
      few_do (suc zero) le is =
          let d = three_digit (x 0) (x 1) (x 2) in
          let u = ap (ones x) (let z : 3 ≡ n = omega (arith, is) in z) in
          (some, omega (arith, is), omega (arith, is)) ▹ (
            (bit (majority (x 0) (x 1) (x 2)), omega (arith, d, u)),
            omega (arith, free, is),
            omega (arith, none, aps_few (omega (arith, is))),
          )
      few_do (suc (suc p)) le is = absurd (omega (arith, le))

      -- more
      many_do : (h p : ℕ) → p ≤ 1 → 2 * suc (suc h) + p ≡ n → W many Over (regs 0 0 (suc h) p 1 2 0 0) t
      many_do h zero le is = (some, omega (arith, is)) ▹ omega arith ▹ omega arith
          ▹ omega arith ▹ pairs_do 0 2 3 (suc h - 1) _ (record {
            half = bit (majority false (x 0) (x 1));
            odd = (let d = open_two_digit (x 0) (x 1) in omega (arith, d));
            next = refl;
            same = refl;
            alive = refl;
            rest = omega (arith, is);
            paid = omega (arith, free, is);
            counted = omega (arith, none, is, aps_many (omega (arith, is)));
          })
      many_do h (suc zero) le is = (some, omega (arith, is), omega (arith, is))
          ▹ omega arith ▹ omega arith ▹ omega arith ▹ pairs_do 1 3 4 (suc h - 1) _ (record {
            half = bit (majority (x 0) (x 1) (x 2));
            odd = (let d = open_three_digit (x 0) (x 1) (x 2) in omega (arith, d));
            next = refl;
            same = refl;
            alive = refl;
            rest = omega (arith, is);
            paid = omega (arith, free, is);
            counted = omega (arith, none, is, aps_many (omega (arith, is)));
          })
      many_do h (suc (suc p)) le is = absurd (omega (arith, le))

      pairs : (h p : ℕ) → p ≤ 1 → 2 * suc h + p ≡ n
          → W (If 2 many few End) Over (regs 0 0 (suc h - 1) p 1 2 0 0) t
      pairs zero p le is = few_do p le (omega (arith, is))
      pairs (suc h) p le is =
          let z : suc h ≡ suc (suc h) - 1 = omega arith in
          subst (λ m. W (If 2 many few End) Over (regs 0 0 m p 1 2 0 0) t) z
          (wp_some Part State n F (does x) 2 h many few End Over (regs 0 0 (suc h) p 1 2 0 0) t refl
          (many_do h p le is))

      by : (h p : ℕ) → p ≤ 1 → 2 * h + p ≡ n
          → W (If 2 (Put (SubI 2 1) (If 2 many few End)) (Do Alone End) End) Over (regs 0 0 h p 1 2 0 0) t
      by zero p le is =
          let u = ap (ones x) (let z : 1 ≡ n = omega (arith, is, le, some) in z) in
          some ▹ (
            (0, omega (arith, u)),
            omega (arith, free, is, le),
            omega (arith, none, aps_few (omega (arith, is, le))),
          )
      by (suc h) p le is = wp_some Part State n F (does x) 2 h (Put (SubI 2 1) (If 2 many few End))
          (Do Alone End) End Over (regs 0 0 (suc h) p 1 2 0 0) t refl (omega arith ▹ pairs h p le is)
