-- Divisions: a window of the dividend's bits, from which the divisor is taken where it fits.
use Rattle.word_flow.proofs.Common.{◌≡◌, ℕ, zero, suc, ◌+◌, ◌-◌, ◌*◌, ◌^◌, ◌<◌, ◌≤◌, Bool, true}
use Rattle.word_flow.proofs.Common.{false, not, cond, List, [], ◌∷◌, refl, sym, ap, ◌∙◌, subst}
use Rattle.word_flow.proofs.Common.{arith, slice_index, SetI, SetN, AddI, SubI, FlowOf, EventOf}
use Rattle.word_flow.proofs.Common.{End, Do, Put, If, Loop, Last, wp_some, wp_none, Fine, majority}
use Rattle.word_flow.proofs.Quotients.{Part, GatherTop, Gather, First, Over, Above, Kept, TakeFirst}
use Rattle.word_flow.proofs.Quotients.{Take, gather_next, gathers, over, take, takes, compares}
use Rattle.word_flow.proofs.Quotients.{step_of, division}
use Rattle.word_flow.proofs.Counting.{bit, put, put_same, put_other}
use Rattle.word_flow.proofs.Loops.{◌▹◌, regs, before, each}
use Rattle.word_flow.proofs.Slices.{val, val_same, val_below, val_none, val_one, val_more}
use Rattle.word_flow.proofs.Slices.{val_front, val_split, power}

-- the window's rows, the quotient's, and those of the higher bits; the bit of the quotient that was
-- written last; what is found, a zero, and a borrow in cells; the states that a body may read, and
-- the commands and AP so far
pub record State : Type 0 where
  pub w : ℕ → Bool
  pub q : ℕ → Bool
  pub h : ℕ → Bool
  pub f : Bool
  pub g : Bool
  pub k : Bool
  pub b : Bool
  pub alive : List ℕ
  pub cost : ℕ
  pub aps : ℕ

abbrev pub found_left : List ℕ
found_left = 0 ∷ []

abbrev pub zero_left : List ℕ
zero_left = 0 ∷ 2 ∷ []

abbrev pub borrow_left : List ℕ
borrow_left = 4 ∷ []

-- what is found with a further bit of the window and of the divisor
abbrev pub over_of : Bool → Bool → Bool → Bool
over_of r d g = majority r (not d) g

-- what is taken of a position, what a borrow is read from, the next borrow, and what is left
abbrev pub half : Bool → Bool → Bool → Bool
half r w y = majority r (not w) y

abbrev pub lent : Bool → Bool → Bool → Bool
lent r w y = majority (not r) w (half r w y)

abbrev pub less : Bool → Bool → Bool → Bool
less r w y = majority (not y) (half r w y) (lent r w y)

-- without a borrow
abbrev pub half_first : Bool → Bool → Bool
half_first r y = majority true r y

abbrev pub lent_first : Bool → Bool → Bool
lent_first r y = majority false (not r) (half_first r y)

abbrev pub less_first : Bool → Bool → Bool
less_first r y = majority (not y) (half_first r y) (lent_first r y)

taken : (r b y : Bool) → bit (less r b y) + bit y + bit b ≡ bit r + 2 * bit (lent r b y)
unfolding majority
taken r b y = grind arith

taken_first : (r y : Bool) → bit (less_first r y) + bit y ≡ bit r + 2 * bit (lent_first r y)
unfolding majority
taken_first r y = grind arith

-- the divisor's bit where it is taken away
abbrev both : Bool → Bool → Bool
both true y = y
both false y = false

both_is : (d q : Bool) → majority false d q ≡ both q d
unfolding majority
both_is d q = grind arith

both_first : (q d : Bool) → majority q false d ≡ both q d
unfolding majority
both_first q d = grind arith

and_not : (h g : Bool) → majority false (not h) g ≡ both g (not h)
unfolding majority
and_not h g = grind arith

-- whether a number is at most another
abbrev Says : Bool → ℕ → ℕ → Type 0
Says true y x = y ≤ x
Says false y x = x < y

says_first : (d a : Bool) (y x : ℕ) → y ≡ bit d → x ≡ bit a → Says (majority true a (not d)) y x
unfolding majority
says_first d a y x e f = grind (arith, e, f)

says_more : (g d r : Bool) (y x p y' x' : ℕ) → Says g y x → y < p → x < p → y' ≡ y + p * bit d
    → x' ≡ x + p * bit r → Says (over_of r d g) y' x'
unfolding majority
says_more g d r y x p y' x' s l m e f = grind (arith, s, l, m, e, f)

unlent : (b : Bool) (w z x p : ℕ) → w + z ≡ x + p * bit b → z ≤ x → w < p → w + z ≡ x
unlent b w z x p h le lt = grind (arith, h, le, lt)

bit_small : (b : Bool) → bit b ≤ 1
bit_small b = grind arith

abbrev pub at : List ℕ → ℕ → ℕ
at g r = slice_index g r

-- a bit of the quotient is found
abbrev pub finds_bit : State → ℕ → Bool → ℕ → State
finds_bit t j v c = record t {
  q = put t.q j v;
  f = v;
  g = v;
  alive = found_left;
  cost = t.cost + c;
}

-- a row of the window is what is left
abbrev pub leaves_row : State → ℕ → Bool → Bool → ℕ → State
leaves_row t x v b c = record t {
  w = put t.w x v;
  b = b;
  alive = borrow_left;
  cost = t.cost + c;
  aps = t.aps + 1;
}

abbrev pub gathered : State → ℕ → Bool → ℕ → State
gathered t r v c = record t { h = put t.h r v; g = v; alive = found_left; cost = t.cost + c }

-- a subtraction can begin
abbrev pub ready : State → State
ready t = record t { k = false; alive = zero_left }

abbrev pub does : (ℕ → Bool) → (ℕ → Bool) → Part → List ℕ → State → State
does a d GatherTop g t = gathered t (at g 3) (d (at g 3)) 2
does a d Gather g t = gathered t (at g 3) (majority true (d (at g 3)) t.g) 3
does a d First g t = finds_bit t (at g 0) (majority true (a (at g 0)) (not (d 0))) 4
does a d Over g t = finds_bit t (at g 0) (over_of (t.w (at g 4)) (d (at g 3)) t.g) 3
does a d Above g t = ready (finds_bit t (at g 0) (majority false (not (t.h (at g 1))) t.g) 3)
does a d Kept g t = ready (record t { cost = t.cost + 1 })
does a d TakeFirst g t = let y = majority t.g t.k (d 0) in
    leaves_row t (at g 0) (less_first (a (at g 0)) y) (lent_first (a (at g 0)) y) 8
does a d Take g t = let y = majority false (d (at g 3)) t.f in
    leaves_row t (at g 4) (less (t.w (at g 4)) t.b y) (lent (t.w (at g 4)) t.b y) 9

abbrev pub InRange : ℕ → Part → List ℕ → State → Type 0
InRange n GatherTop g t = at g 3 < n
InRange n Gather g t = (at g 3 < n) × (t.alive ≡ found_left)
InRange n First g t = (at g 0 < n) × (0 < n)
InRange n Over g t = (at g 0 < n) × (at g 3 < n) × (at g 4 < n) × (t.alive ≡ found_left)
InRange n Above g t = (at g 0 < n) × (at g 1 < n) × (t.alive ≡ found_left)
InRange n Kept g t = t.alive ≡ found_left
InRange n TakeFirst g t = (at g 0 < n) × (0 < n) × (t.alive ≡ zero_left)
InRange n Take g t = (at g 0 < n) × (at g 3 < n) × (at g 4 < n) × (t.alive ≡ borrow_left)
    × (t.q (at g 0) ≡ t.f)

-- So many digits are what a quotient, a divisor and what is left make; with the divisor 0 the quotient
-- is all ones. What is left stands in the window, but where the quotient alone is wanted
pub record Divided (lone : Bool) (a : ℕ → Bool) (dv m k left : ℕ) (t : State) : Type 0 where
  pub rem : val a m k ≡ val t.q m k * dv + left
  pub small_rem : 0 < dv → left < dv
  pub ones : dv ≡ 0 → val t.q m k + 1 ≡ 2 ^ k
  pub kept : lone ≡ false → val t.w m k ≡ left

-- the commands and AP of the last step
abbrev pub last_cost : Bool → ℕ → ℕ
last_cost true k = 4 + 3 * k
last_cost false k = 13 + 12 * k

abbrev pub last_aps : Bool → ℕ → ℕ
last_aps true k = 0
last_aps false k = k + 1

-- what is to hold of registers and state, and before a flow, so that it holds after it
abbrev pub Asked : Type 1
Asked = List ℕ → State → Type 0

abbrev pub walks : ℕ → (ℕ → Bool) → (ℕ → Bool) → FlowOf Part → Asked → Asked
walks n a d f = before Part State n (InRange n) (does a d) f

module _ (n : ℕ) (small : n ≤ 128) (a d hi : ℕ → Bool)
    (low : (k : ℕ) → k < n → hi k ≡ false → val d 0 n ≡ val d 0 k)
    (high : (k : ℕ) → k < n → hi k ≡ true → 2 ^ k ≤ val d 0 n) where
  abbrev F : EventOf Part → State → Type 0
  F = Fine Part State n (InRange n)

  abbrev W : FlowOf Part → Asked → Asked
  W = walks n a d

  abbrev pub D : ℕ
  D = val d 0 n

  -- one step, from this state
  module _ (j k e f v left0 : ℕ) (t0 : State) (is : j + 1 + k ≡ n)
      (was : Divided false a D (j + 1) k left0 t0)
      (highest : (r : ℕ) → 0 < r → r < n → t0.h r ≡ hi r) where
    -- the window with the dividend's next bit
    x0 : ℕ → Bool
    x0 = put t0.w j (a j)

    -- the divisor where it is taken away
    abbrev z0 : Bool → ℕ → Bool
    z0 fit r = both fit (d r)

    x_other : (r : ℕ) → j < r → x0 r ≡ t0.w r
    unfolding x0
    x_other r lt = put_other t0.w j (a j) r (λ z. absurd (omega (arith, z, lt)))

    x_is : val x0 j (k + 1) ≡ bit (a j) + 2 * left0
    unfolding x0
    x_is =
        let b = ap bit (put_same t0.w j (a j)) in
        let e = val_same x0 t0.w (j + 1) k (λ u lu. x_other (j + 1 + u) (omega arith)) in
        let l = was.kept refl in
        omega (arith, val_front x0 j k, b, e, l)

    -- what a step leaves as it was
    record Same (q h : ℕ → Bool) : Type 0 where
      above : (r : ℕ) → j < r → q r ≡ t0.q r
      higher : (r : ℕ) → 0 < r → r < n → h r ≡ hi r

    put_above : (q h : ℕ → Bool) (u : Bool) → Same q h → Same (put q j u) h
    put_above q h u s = record {
      above = λ r lr. put_other q j u r (λ z. absurd (omega (arith, z, lr))) ∙ s.above r lr;
      higher = s.higher;
    }

    -- so many digits are compared
    record Compared (i x m : ℕ) (t : State) : Type 0 where
      says : Says t.g (val d 0 i) (val x0 j i)
      q_is : t.q j ≡ t.g
      f_is : t.f ≡ t.g
      w_is : (r : ℕ) → t.w r ≡ t0.w r
      same : Same t.q t.h
      some : 0 < i
      place : x ≡ j + i
      ends : i + m ≡ k + 1
      alive : t.alive ≡ found_left
      paid : t.cost + 3 * m ≡ t0.cost + 4 + 3 * k
      counted : t.aps ≡ t0.aps

    compares_do : (Q : Asked) (r : FlowOf Part) → ((x : ℕ) (t : State) → Compared (k + 1) x 0 t
        → W r Q (regs j (k + 1) 0 (k + 1) x e f v) t) → (m p x : ℕ)
        → W (compares r) Q (regs j (k + 1) m p x e f v) t0
    unfolding x0
    compares_do Q r done m p x = (omega (arith, is), omega (arith, is)) ▹ tt ▹ omega arith ▹ tt ▹ tt
        ▹ omega (arith, is, small) ▹ each Part State n (InRange n) (does a d) 2 over r Q (ℕ × ℕ)
        (λ y m. regs j (k + 1) m y.0 y.1 e f v) (λ y m t. Compared y.0 y.1 m t) (λ y m. refl) step
        (λ y t c. (let all : k + 1 ≡ y.0 = omega (arith, c.ends) in
        subst (λ i. W r Q (regs j (k + 1) 0 i y.1 e f v) t) all
        (done y.1 t (subst (λ i. Compared i y.1 0 t) (sym all) c)))) (1, j + 1) (k + 1 - 1) _ refl
        (omega (arith, is)) (record {
          says = says_first (d 0) (a j) _ _ (val_one d 0) (val_one x0 j ∙ ap bit (put_same t0.w j (a j)));
          q_is = put_same t0.q j (majority true (a j) (not (d 0)));
          f_is = refl;
          w_is = λ r. refl;
          same = put_above t0.q t0.h _ (record { above = λ r lr. refl; higher = highest });
          some = omega arith;
          place = refl;
          ends = omega arith;
          alive = refl;
          paid = omega arith;
          counted = refl;
        })
      where
        step : (y : ℕ × ℕ) (m : ℕ) (t : State) (R : Asked) → Compared y.0 y.1 (suc m) t
            → ((z : ℕ × ℕ) (t : State) → Compared z.0 z.1 m t → R (regs j (k + 1) m z.0 z.1 e f v) t)
            → W over R (regs j (k + 1) m y.0 y.1 e f v) t
        step y m t R c go =
            let i = y.0 in
            let x = y.1 in
            let u = over_of (t.w x) (d i) t.g in
            let old = ap (λ b. 2 ^ i * bit b) (x_other x (omega (arith, c.place, c.some)) ∙ sym (c.w_is x))
            in
            let mx = val_more x0 j i x (sym c.place) in
            (omega (arith, is), omega (arith, c.ends, is), omega (arith, c.place, c.ends, is), c.alive)
            ▹ omega (arith, c.ends, is, small) ▹ omega (arith, c.place, c.ends, is, small)
            ▹ go (i + 1, x + 1) _ (record {
              says = says_more t.g (d i) (t.w x) (val d 0 i) (val x0 j i) (2 ^ i) _ _ c.says
                  (val_below d 0 i) (val_below x0 j i) (val_more d 0 i i (omega arith))
                  (omega (arith, mx, old));
              q_is = put_same t.q j u;
              f_is = refl;
              w_is = c.w_is;
              same = put_above t.q t.h u c.same;
              some = omega arith;
              place = omega (arith, c.place);
              ends = omega (arith, c.ends);
              alive = refl;
              paid = omega (arith, c.paid);
              counted = c.counted;
            })

    -- the divisor fits just where the quotient's bit says so
    abbrev Fits : Bool → Type 0
    Fits true = (D ≡ val d 0 (k + 1)) × (val d 0 (k + 1) ≤ val x0 j (k + 1))
    Fits false = val x0 j (k + 1) < D

    -- what was found is that the divisor fits, in the last step and where no higher bit is set
    fits_last : (g : Bool) → k + 1 ≡ n → Says g (val d 0 (k + 1)) (val x0 j (k + 1)) → Fits g
    fits_last g all s = grind (arith, s, ap (val d 0) all)

    fits_above : (g h : Bool) → hi (k + 1) ≡ h → Says g (val d 0 (k + 1)) (val x0 j (k + 1)) → k + 1 < n
        → Fits (both g (not h))
    fits_above g h eh s lt =
        grind (arith, eh, s, low (k + 1) lt, high (k + 1) lt, val_below x0 j (k + 1))

    -- what a step leaves
    record After (lone : Bool) (cost aps : ℕ) (t : State) : Type 0 where
      left : ℕ
      divided : Divided lone a D j (k + 1) left t
      higher : (r : ℕ) → 0 < r → r < n → t.h r ≡ hi r
      paid : t.cost ≡ t0.cost + cost
      counted : t.aps ≡ t0.aps + aps

    divided : (lone fit : Bool) (left : ℕ) (t : State) → Fits fit → t.q j ≡ fit → Same t.q t.h
        → left + val (z0 fit) 0 (k + 1) ≡ val x0 j (k + 1)
        → (lone ≡ false → val t.w j (k + 1) ≡ left) → Divided lone a D j (k + 1) left t
    divided lone fit left t fits q same sum kept = by fit fits sum
        (front ∙ ap (λ b. bit b + 2 * val t0.q (j + 1) k) q)
      where
        front : val t.q j (k + 1) ≡ bit (t.q j) + 2 * val t0.q (j + 1) k
        front = let u = val_same t.q t0.q (j + 1) k (λ u lu. same.above (j + 1 + u) (omega arith)) in
            omega (arith, val_front t.q j k, u)

        by : (b : Bool) → Fits b → left + val (z0 b) 0 (k + 1) ≡ val x0 j (k + 1)
            → val t.q j (k + 1) ≡ bit b + 2 * val t0.q (j + 1) k → Divided lone a D j (k + 1) left t
        by true fits sum q = let m = ap (λ r. r * D) q in record {
          rem = omega (arith, m, val_front a j k, was.rem, x_is, sum, fits.0);
          small_rem = λ some. (let l = was.small_rem some in
              omega (arith, l, x_is, sum, fits.0, bit_small (a j)));
          ones = λ none. (let o = was.ones none in omega (arith, q, o, power k));
          kept = kept;
        }
        by false fits sum q = let m = ap (λ r. r * D) q in let z = val_none 0 (k + 1) in record {
          rem = omega (arith, m, val_front a j k, was.rem, x_is, sum, z);
          small_rem = λ some. omega (arith, fits, sum, z);
          ones = λ none. absurd (omega (arith, fits, none));
          kept = kept;
        }

    -- the divisor is taken from so many digits where it fits
    record Taken (fit : Bool) (due i x m : ℕ) (t : State) : Type 0 where
      sum : val t.w j i + val (z0 fit) 0 i ≡ val x0 j i + 2 ^ i * bit t.b
      q_is : t.q j ≡ fit
      f_is : t.f ≡ fit
      same : Same t.q t.h
      rest : (r : ℕ) → x ≤ r → t.w r ≡ t0.w r
      some : 0 < i
      place : x ≡ j + i
      ends : i + m ≡ k + 1
      alive : t.alive ≡ borrow_left
      paid : t.cost + 9 * m ≡ due
      counted : t.aps + m ≡ t0.aps + (k + 1)

    -- before that
    record Ready (fit : Bool) (c : ℕ) (t : State) : Type 0 where
      fits : Fits fit
      g_is : t.g ≡ fit
      f_is : t.f ≡ fit
      k_is : t.k ≡ false
      q_is : t.q j ≡ fit
      same : Same t.q t.h
      w_is : (r : ℕ) → t.w r ≡ t0.w r
      alive : t.alive ≡ zero_left
      paid : t.cost ≡ t0.cost + c
      counted : t.aps ≡ t0.aps

    takes_do : (fit : Bool) (c : ℕ) (Q : Asked) (r : FlowOf Part) → ((x : ℕ) (s : State)
        → After false (c + 8 + 9 * k) (k + 1) s → W r Q (regs j (k + 1) 0 (k + 1) x e f v) s)
        → (m p x : ℕ) (t : State) → Ready fit c t → W (takes r) Q (regs j (k + 1) m p x e f v) t
    unfolding x0
    takes_do fit c Q r done m p x t b =
        let y = majority t.g t.k (d 0) in
        let l = less_first (a j) y in
        let o = lent_first (a j) y in
        let w = put t.w j l in
        let here = ap bit (put_same t.w j l) in
        let digit = taken_first (a j) y in
        let mask = ap (λ z. bit (majority t.g z (d 0))) b.k_is ∙ ap bit (both_first t.g (d 0))
        ∙ ap (λ z. bit (both z (d 0))) b.g_is in
        let xs = val_one x0 j ∙ ap bit (put_same t0.w j (a j)) in
        let one : 2 ^ 1 ≡ 2 = refl in
        let carry = ap (λ z. z * bit o) one in
        (omega (arith, is), omega (arith, is), b.alive) ▹ tt ▹ omega arith ▹ tt ▹ tt
        ▹ omega (arith, is, small) ▹ each Part State n (InRange n) (does a d) 2 take r Q (ℕ × ℕ)
        (λ y m. regs j (k + 1) m y.0 y.1 e f v) (λ y m t. Taken fit due y.0 y.1 m t) (λ y m. refl) step
        ends (1, j + 1) (k + 1 - 1) _ refl (omega (arith, is)) (record {
          sum = omega (arith, val_one w j, val_one (z0 fit) 0, here, digit, mask, xs, carry);
          q_is = b.q_is;
          f_is = b.f_is;
          same = b.same;
          rest = λ r lr. put_other t.w j l r (λ z. absurd (omega (arith, z, lr))) ∙ b.w_is r;
          some = omega arith;
          place = refl;
          ends = omega arith;
          alive = refl;
          paid = omega (arith, b.paid);
          counted = omega (arith, b.counted);
        })
      where
        due : ℕ
        due = t0.cost + (c + 8 + 9 * k)

        step : (y : ℕ × ℕ) (m : ℕ) (t : State) (R : Asked) → Taken fit due y.0 y.1 (suc m) t
            → ((z : ℕ × ℕ) (t : State) → Taken fit due z.0 z.1 m t
            → R (regs j (k + 1) m z.0 z.1 e f v) t) → W take R (regs j (k + 1) m y.0 y.1 e f v) t
        step y m t R c go =
            let i = y.0 in
            let x = y.1 in
            let z = majority false (d i) t.f in
            let l = less (t.w x) t.b z in
            let o = lent (t.w x) t.b z in
            let w = put t.w x l in
            let below = val_same w t.w j i (λ u lu. grind (arith, c.place, lu)) in
            let mw = val_more w j i x (sym c.place) in
            let mz = val_more (z0 fit) 0 i i (omega arith) in
            let mx = val_more x0 j i x (sym c.place) in
            let digit = ap (λ b. 2 ^ i * bit b) (put_same t.w x l) in
            let old = ap (λ b. 2 ^ i * bit b) (x_other x (omega (arith, c.place, c.some))
            ∙ sym (c.rest x (omega arith))) in
            let masked = ap (λ b. 2 ^ i * bit b) (both_is (d i) t.f ∙ ap (λ f. both f (d i)) c.f_is) in
            let scaled = ap (λ z. 2 ^ i * z) (taken (t.w x) t.b z) in
            let up = ap (λ z. z * bit o) (power i) in (
              omega (arith, is),
              omega (arith, c.ends, is),
              omega (arith, c.place, c.ends, is),
              c.alive,
              c.q_is ∙ sym c.f_is,
            ) ▹ omega (arith, c.ends, is, small) ▹ omega (arith, c.place, c.ends, is, small)
            ▹ go (i + 1, x + 1) _ (record {
              sum = omega (arith, c.sum, below, mw, mz, mx, digit, old, masked, scaled, up);
              q_is = c.q_is;
              f_is = c.f_is;
              same = c.same;
              rest = λ u lu. put_other t.w x l u (λ z. absurd (omega (arith, z, lu)))
                  ∙ c.rest u (omega (arith, lu));
              some = omega arith;
              place = omega (arith, c.place);
              ends = omega (arith, c.ends);
              alive = refl;
              paid = omega (arith, c.paid);
              counted = omega (arith, c.counted);
            })

        fitting : (fit : Bool) → Fits fit → val (z0 fit) 0 (k + 1) ≤ val x0 j (k + 1)
        fitting fit s = grind (arith, s, val_none 0 (k + 1))

        ends : (y : ℕ × ℕ) (t : State) → Taken fit due y.0 y.1 0 t
            → W r Q (regs j (k + 1) 0 y.0 y.1 e f v) t
        ends y t c =
            let all : k + 1 ≡ y.0 = omega (arith, c.ends) in
            let full = subst (λ i. val t.w j i + val (z0 fit) 0 i ≡ val x0 j i + 2 ^ i * bit t.b) (sym all)
            c.sum in
            let exact = unlent t.b _ _ _ _ full (fitting fit b.fits) (val_below t.w j (k + 1)) in
            subst (λ i. W r Q (regs j (k + 1) 0 i y.1 e f v) t) all (done y.1 t (record {
              left = val t.w j (k + 1);
              divided = divided false fit _ t b.fits c.q_is c.same exact (λ z. refl);
              higher = c.same.higher;
              paid = omega (arith, c.paid);
              counted = omega (arith, c.counted);
            }))

    -- whether a higher bit of the divisor is set
    above_does : (Q : Asked) (r : FlowOf Part) (x : ℕ) (t : State) → k + 1 < n → Compared (k + 1) x 0 t
        → ((fit : Bool) (s : State) → Ready fit (7 + 3 * k) s → W r Q (regs j (k + 1) 0 (k + 1) x e f v) s)
        → W (Do Above r) Q (regs j (k + 1) 0 (k + 1) x e f v) t
    above_does Q r x t lt c done =
        let h = hi (k + 1) in
        let u = majority false (not (t.h (k + 1))) t.g in
        let u_is : u ≡ both t.g (not h) = ap (λ z. majority false (not z) t.g)
        (c.same.higher (k + 1) (omega arith) lt) ∙ and_not h t.g in
        (omega (arith, is), lt, c.alive) ▹ done (both t.g (not h)) _ (record {
          fits = fits_above t.g h refl c.says lt;
          g_is = u_is;
          f_is = u_is;
          k_is = refl;
          q_is = put_same t.q j u ∙ u_is;
          same = put_above t.q t.h u c.same;
          w_is = c.w_is;
          alive = refl;
          paid = omega (arith, c.paid);
          counted = c.counted;
        })

    -- what the last step leaves
    left_of : Bool → ℕ
    left_of true = val x0 j (k + 1) - D
    left_of false = val x0 j (k + 1)

    left_is : (fit : Bool) → Fits fit → left_of fit + val (z0 fit) 0 (k + 1) ≡ val x0 j (k + 1)
    unfolding left_of
    left_is fit s = grind (arith, s, val_none 0 (k + 1))

    -- a step
    abbrev Outcome : Bool → State → Type 0
    Outcome lone s = (j ≡ 0 → After lone (last_cost lone k) (last_aps lone k) s)
        × (0 < j → After false (15 + 12 * k) (k + 1) s)

    -- before the last one, where a higher bit may be set
    some_does : (lone : Bool) (Q : Asked) → ((p x : ℕ) (s : State) → Outcome lone s
        → Q (regs j (k + 1 + 1) 0 p x e f v) s) → (x : ℕ) (s : State) → 0 < j → Compared (k + 1) x 0 s
        → W (Do Above (takes (Put (AddI 1 1) End))) Q (regs j (k + 1) 0 (k + 1) x e f v) s
    some_does lone Q done x s some c =
        above_does Q (takes (Put (AddI 1 1) End)) x s (omega (arith, some, is)) c
        (λ fit r b. takes_do fit (7 + 3 * k) Q (Put (AddI 1 1) End) (λ x y o. omega (arith, is, small)
        ▹ done (k + 1) x y (
          λ z. absurd (omega (arith, some, z)),
          λ z. subst (λ c. After false c (k + 1) y) (omega arith) o,
        )) 0 (k + 1) x r b)

    step_does : (lone : Bool) (Q : Asked) → ((p x : ℕ) (s : State) → Outcome lone s
        → Q (regs j (k + 1 + 1) 0 p x e f v) s) → (m p x : ℕ)
        → W (step_of lone) Q (regs j (k + 1) m p x e f v) t0
    step_does true Q done m p x = compares_do Q (If 0 (Do Above (takes End)) End rest)
        (λ x s c. by j refl x s c) m p x
      where
        rest : FlowOf Part
        rest = Put (AddI 1 1) End

        by : (z : ℕ) → j ≡ z → (x : ℕ) (s : State) → Compared (k + 1) x 0 s
            → W (If 0 (Do Above (takes End)) End rest) Q (regs j (k + 1) 0 (k + 1) x e f v) s
        by zero none x s c =
            let fits = fits_last s.g (omega (arith, none, is)) c.says in
            wp_none Part State n F (does a d) 0 (Do Above (takes End)) End rest Q
            (regs j (k + 1) 0 (k + 1) x e f v) s none (omega (arith, is, small) ▹ done (k + 1) x s (
              λ z. record {
                left = left_of s.g;
                divided = divided true s.g _ s fits c.q_is c.same (left_is s.g fits) (λ z. absurd (cc));
                higher = c.same.higher;
                paid = omega (arith, c.paid);
                counted = omega (arith, c.counted);
              },
              λ some. absurd (omega (arith, some, none)),
            ))
        by (suc z) some x s c = wp_some Part State n F (does a d) 0 z (Do Above (takes End)) End rest Q
            (regs j (k + 1) 0 (k + 1) x e f v) s some
            (some_does true Q done x s (omega (arith, some)) c)
    step_does false Q done m p x = compares_do Q (If 0 (Do Above End) (Do Kept End) rest)
        (λ x s c. by j refl x s c) m p x
      where
        rest : FlowOf Part
        rest = takes (Put (AddI 1 1) End)

        by : (z : ℕ) → j ≡ z → (x : ℕ) (s : State) → Compared (k + 1) x 0 s
            → W (If 0 (Do Above End) (Do Kept End) rest) Q (regs j (k + 1) 0 (k + 1) x e f v) s
        by zero none x s c = wp_none Part State n F (does a d) 0 (Do Above End) (Do Kept End) rest Q
            (regs j (k + 1) 0 (k + 1) x e f v) s none (c.alive ▹ takes_do s.g (5 + 3 * k) Q
            (Put (AddI 1 1) End) (λ x y o. omega (arith, is, small)
            ▹ done (k + 1) x y (
              λ z. subst (λ c. After false c (k + 1) y) (omega arith) o,
              λ some. absurd (omega (arith, some, none)),
            )) 0 (k + 1) x (ready (record s { cost = s.cost + 1 })) (record {
              fits = fits_last s.g (omega (arith, none, is)) c.says;
              g_is = refl;
              f_is = c.f_is;
              k_is = refl;
              q_is = c.q_is;
              same = c.same;
              w_is = c.w_is;
              alive = refl;
              paid = omega (arith, c.paid);
              counted = c.counted;
            }))
        by (suc z) some x s c = wp_some Part State n F (does a d) 0 z (Do Above End) (Do Kept End) rest Q
            (regs j (k + 1) 0 (k + 1) x e f v) s some
            (some_does false Q done x s (omega (arith, some)) c)

  -- all steps, where the rows of the higher bits are right
  module _ (some : 0 < n) (lone : Bool) (base : ℕ) where
    record Before (m k : ℕ) (t : State) : Type 0 where
      ends : m + k ≡ n
      left : ℕ
      divided : Divided false a D m k left t
      higher : (r : ℕ) → 0 < r → r < n → t.h r ≡ hi r
      paid : t.cost ≡ base + 9 * k + 6 * (k * k)
      counted : 2 * t.aps ≡ k * k + k

    begins : (t : State) → t.cost ≡ base → t.aps ≡ 0 → ((r : ℕ) → 0 < r → r < n → t.h r ≡ hi r)
        → Before n 0 t
    unfolding val
    begins t paid none higher = record {
      ends = omega arith;
      left = 0;
      divided = record {
        rem = omega arith;
        small_rem = λ z. z;
        ones = λ z. (let u : 2 ^ 0 ≡ 1 = refl in omega (arith, u));
        kept = λ z. refl;
      };
      higher = higher;
      paid = omega (arith, paid);
      counted = omega (arith, none);
    }

    -- what holds in the end
    pub record Whole (t : State) : Type 0 where
      pub left : ℕ
      pub divided : Divided lone a D 0 n left t
      pub k : ℕ
      pub all : k + 1 ≡ n
      pub paid : t.cost ≡ base + 9 * k + 6 * (k * k) + last_cost lone k
      pub counted : 2 * t.aps ≡ k * k + k + 2 * last_aps lone k

    steps_do : (Q : Asked) → ((g : List ℕ) (s : State) → Whole s → Q g s) → (c p x e f v : ℕ) (t : State)
        → t.cost ≡ base → t.aps ≡ 0 → ((r : ℕ) → 0 < r → r < n → t.h r ≡ hi r)
        → W (Loop 0 (Last (step_of lone)) End) Q (regs n 1 c p x e f v) t
    steps_do Q done c p x e f v t paid none higher = each Part State n (InRange n) (does a d) 0
        (step_of lone) End Q (ℕ × ℕ × ℕ × ℕ) (λ y m. regs m (y.0 + 1) y.1 y.2 y.3 e f v)
        (λ y m t. (0 < m → Before m y.0 t) × (m ≡ 0 → Whole t)) (λ y m. refl) step
        (λ y t o. done _ t (o.1 refl)) (0, c, p, x) n t refl (omega arith)
        (λ z. begins t paid none higher, λ z. absurd (omega (arith, z, some)))
      where
        step : (y : ℕ × ℕ × ℕ × ℕ) (m : ℕ) (t : State) (R : Asked)
            → ((0 < suc m → Before (suc m) y.0 t) × (suc m ≡ 0 → Whole t))
            → ((z : ℕ × ℕ × ℕ × ℕ) (t : State) → ((0 < m → Before m z.0 t) × (m ≡ 0 → Whole t))
            → R (regs m (z.0 + 1) z.1 z.2 z.3 e f v) t)
            → W (step_of lone) R (regs m (y.0 + 1) y.1 y.2 y.3 e f v) t
        step y m t R o go =
            let k = y.0 in
            let b = o.0 (omega arith) in
            let up : suc m ≡ m + 1 = omega arith in
            let is : m + 1 + k ≡ n = omega (arith, b.ends) in
            step_does m k e f v b.left t is (subst (λ r. Divided false a D r k b.left t) up b.divided)
            b.higher
            lone R (λ p x s h. go (k + 1, 0, p, x) s (
              λ z. (let r = h.1 z in record {
                ends = omega (arith, is);
                left = r.left;
                divided = r.divided;
                higher = r.higher;
                paid = omega (arith, r.paid, b.paid);
                counted = omega (arith, r.counted, b.counted);
              }),
              λ z. (let r = h.0 z in let all : k + 1 ≡ n = omega (arith, is, z) in record {
                left = r.left;
                divided = subst (λ m. Divided lone a D m n r.left s) z
                    (subst (λ q. Divided lone a D m q r.left s) all r.divided);
                k = k;
                all = all;
                paid = omega (arith, r.paid, b.paid);
                counted = omega (arith, r.counted, b.counted);
              }),
            )) y.1 y.2 y.3

-- whether one of so many bits from a place on is set
unfoldable some_set : (ℕ → Bool) → ℕ → ℕ → Bool
some_set f a zero = false
some_set f a (suc k) = majority true (f a) (some_set f (a + 1) k)

or_off : (b : Bool) → majority true b false ≡ b
unfolding majority
or_off b = grind arith

-- it is, just where they spell no 0
some_is : (f : ℕ → Bool) (a k : ℕ) → (some_set f a k ≡ false → val f a k ≡ 0)
    × (some_set f a k ≡ true → 1 ≤ val f a k)
unfolding some_set val majority
some_is f a zero = (λ e. refl, λ e. absurd (cc))
some_is f a (suc k) = by (f a) (some_set f (a + 1) k) refl (some_is f (a + 1) k)
    (let z : suc k ≡ k + 1 = omega arith in ap (val f a) z ∙ val_front f a k)
  where
    by : (b r : Bool) → f a ≡ b → (r ≡ false → val f (a + 1) k ≡ 0) × (r ≡ true → 1 ≤ val f (a + 1) k)
        → val f a (suc k) ≡ bit (f a) + 2 * val f (a + 1) k
        → (majority true b r ≡ false → val f a (suc k) ≡ 0)
        × (majority true b r ≡ true → 1 ≤ val f a (suc k))
    by true r e h v = let b = ap bit e in (λ z. absurd (cc), λ z. omega (arith, v, b))
    by false true e h v = (λ z. absurd (cc), λ z. omega (arith, v, h.1 refl))
    by false false e h v = let b = ap bit e in (λ z. omega (arith, v, b, h.0 refl), λ z. absurd (cc))

module _ (n : ℕ) (d : ℕ → Bool) where
  pub higher : ℕ → Bool
  higher k = some_set d k (n - k)

  split_at : (k : ℕ) → k < n → val d 0 n ≡ val d 0 k + 2 ^ k * val d k (n - k)
  split_at k lt = let e : k + (n - k) ≡ n = omega (arith, lt) in
      ap (val d 0) (sym e) ∙ val_split d k (n - k)

  pub higher_low : (k : ℕ) → k < n → higher k ≡ false → val d 0 n ≡ val d 0 k
  unfolding higher
  higher_low k lt e = let z = ap (λ v. 2 ^ k * v) ((some_is d k (n - k)).0 e) in
      omega (arith, split_at k lt, z)

  most : (v p w l : ℕ) → 1 ≤ v → w ≡ l + p * v → p ≤ w
  most zero p w l some e = absurd (omega (arith, some))
  most (suc v) p w l some e = omega (arith, e)

  pub higher_high : (k : ℕ) → k < n → higher k ≡ true → 2 ^ k ≤ val d 0 n
  unfolding higher
  higher_high k lt e = most (val d k (n - k)) (2 ^ k) (val d 0 n) (val d 0 k)
      ((some_is d k (n - k)).1 e) (split_at k lt)

  pub higher_top : 0 < n → higher (n - 1) ≡ d (n - 1)
  unfolding higher some_set
  higher_top some = let e : n - (n - 1) ≡ 1 = omega (arith, some) in
      ap (some_set d (n - 1)) e ∙ or_off (d (n - 1))

  pub higher_next : (r : ℕ) → suc r < n → higher r ≡ majority true (d r) (higher (suc r))
  unfolding higher some_set
  higher_next r lt =
      let e : n - r ≡ suc (n - suc r) = omega (arith, lt) in
      let one : r + 1 ≡ suc r = omega arith in
      ap (some_set d r) e ∙ ap (λ k. majority true (d r) (some_set d k (n - suc r))) one

  -- the bits of the divisor are gathered
  module _ (small : n ≤ 128) (some : 0 < n) (a : ℕ → Bool) where
    abbrev WG : FlowOf Part → Asked → Asked
    WG = walks n a d

    abbrev FG : EventOf Part → State → Type 0
    FG = Fine Part State n (InRange n)

    record Gathered (r m : ℕ) (t : State) : Type 0 where
      place : r ≡ m + 1
      right : (q : ℕ) → r ≤ q → q < n → t.h q ≡ higher q
      found : t.g ≡ higher r
      alive : t.alive ≡ found_left
      paid : t.cost + 3 * m + 4 ≡ 3 * n
      none : t.aps ≡ 0
      room : r < n

    gathers_do : (k0 m0 x e f v : ℕ) (k : FlowOf Part) (Q : Asked) → ((p : ℕ) (s : State)
        → ((r : ℕ) → 0 < r → r < n → s.h r ≡ higher r) → s.aps ≡ 0 → (n ≡ 1 → s.cost ≡ 0)
        → (1 < n → s.cost + 4 ≡ 3 * n) → WG k Q (regs 0 k0 m0 p x e f v) s) → (j p : ℕ) (t : State)
        → t.cost ≡ 0 → t.aps ≡ 0 → WG (gathers k) Q (regs j k0 m0 p x e f v) t
    gathers_do k0 m0 x e f v k Q done j p t free none = tt ▹ tt ▹ by (n - 1) refl
      where
        top : FlowOf Part
        top = Do GatherTop (Put (SubI 0 1) (Loop 0 (Last gather_next) End))

        step : (r m : ℕ) (t : State) (R : Asked) → Gathered r (suc m) t
            → ((r : ℕ) (t : State) → Gathered r m t → R (regs m k0 m0 r x e f v) t)
            → WG gather_next R (regs m k0 m0 r x e f v) t
        step r m t R c go =
            let u = majority true (d (r - 1)) t.g in
            let up : suc (r - 1) ≡ r = omega (arith, c.place) in
            let u_is : u ≡ higher (r - 1) = ap (majority true (d (r - 1))) (c.found ∙ ap higher (sym up))
            ∙ sym (higher_next (r - 1) (omega (arith, up, c.room))) in
            omega (arith, c.place) ▹ (omega (arith, c.room), c.alive) ▹ go (r - 1) _ (record {
              place = omega (arith, c.place);
              right = λ q le lt. grind (arith, u_is, c.right q, le, lt);
              found = u_is;
              alive = refl;
              paid = omega (arith, c.paid);
              none = c.none;
              room = omega (arith, c.room);
            })

        by : (z : ℕ) → n - 1 ≡ z → WG (If 0 top End k) Q (regs (n - 1) k0 m0 (n - 1) x e f v) t
        by zero is = wp_none Part State n FG (does a d) 0 top End k Q
            (regs (n - 1) k0 m0 (n - 1) x e f v) t is
            (subst (λ j. WG k Q (regs j k0 m0 (n - 1) x e f v) t) (sym is)
            (done (n - 1) t (λ r lo hi. absurd (omega (arith, lo, hi, is))) none (λ one. free)
            (λ more. absurd (omega (arith, more, is)))))
        by (suc z) is = wp_some Part State n FG (does a d) 0 z top End k Q
            (regs (n - 1) k0 m0 (n - 1) x e f v) t is (omega (arith, some) ▹ omega (arith, is)
            ▹ each Part State n (InRange n) (does a d) 0 gather_next End (WG k Q) ℕ
            (λ r m. regs m k0 m0 r x e f v) Gathered (λ r m. refl) step
            (λ r s c. done r s (λ q lo lt. c.right q (omega (arith, lo, c.place)) lt) c.none
            (λ one. absurd (omega (arith, one, is))) (λ more. (let p = c.paid in omega (arith, p))))
            (n - 1) (n - 1 - 1) _ refl (omega arith) (record {
              place = omega (arith, is);
              right = λ r le lt. grind (arith, higher_top some, le, lt);
              found = sym (higher_top some);
              alive = refl;
              paid = omega (arith, free, is);
              none = none;
              room = omega (arith, some);
            }))

    -- the whole, wherever the registers begin
    pub division_does : (lone : Bool) (Q : Asked) → ((g : List ℕ) (s : State) (left : ℕ)
        → Divided lone a (val d 0 n) 0 n left s → (n ≡ 1 → s.cost ≡ cond lone 4 13)
        → (1 < n → s.cost + 6 ≡ 6 * (n * n) + cond lone 3 12 * n)
        → (2 * s.aps + cond lone n 0 ≡ n * n + cond lone 0 n) → Q g s)
        → (j k m p x e f v : ℕ) (t : State) → t.cost ≡ 0 → t.aps ≡ 0
        → WG (division lone) Q (regs j k m p x e f v) t
    division_does lone Q done j k m p x e f v t free none =
        gathers_do k m x e f v (Put (SetN 0) (Put (SetI 1 1) (Loop 0 (Last (step_of lone)) End))) Q
        (λ p s right none one more. tt ▹ tt ▹ steps_do n small a d higher higher_low higher_high some lone
        s.cost Q (λ g r h. (let nn : n * n ≡ (h.k + 1) * (h.k + 1) = ap (λ z. z * z) (sym h.all) in
        done g r h.left h.divided (λ o. grind (arith, h.paid, one o, h.all, nn, o))
        (λ l. grind (arith, h.paid, more l, nn, h.all)) (grind (arith, h.counted, nn, h.all))))
        m p x e f v s refl none right) j p t free none
