-- mul: the first argument where a bit of the second is set, added from that position on.
use Rattle.word_flow.proofs.Common.{◌≡◌, ℕ, zero, suc, ◌+◌, ◌-◌, ◌*◌, ◌^◌, ◌<◌, ◌≤◌, Bool, true}
use Rattle.word_flow.proofs.Common.{false, not, List, [], ◌∷◌, refl, sym, ap, ◌∙◌, subst, arith}
use Rattle.word_flow.proofs.Common.{slice_set, slice_index, ◌%◌, pow-add, SetI, SetT, AddI, FlowOf}
use Rattle.word_flow.proofs.Common.{TurnsOf, EventOf, End, Do, Put, Loop, Last, Turn, wp_loop, Fine}
use Rattle.word_flow.proofs.Common.{majority}
use Rattle.word_flow.proofs.Products.{Part, Joined, JoinedToo, Turned, First, Added, next_add}
use Rattle.word_flow.proofs.Products.{add_row, mul}
use Rattle.word_flow.proofs.Counting.{bit, number, put, put_same, put_other, number_same}
use Rattle.word_flow.proofs.Loops.{◌▹◌, regs, before, each}
use Rattle.word_flow.proofs.Slices.{val, val_same, val_one, val_more, val_split, agree_val, power}

-- the target's rows, the scratch bit, a zero and a bit of the second argument in cells, the
-- complement of a carry, the states that a body may read, and the commands and AP so far
pub record State : Type 0 where
  pub y : ℕ → Bool
  pub t : Bool
  pub k : Bool
  pub g : Bool
  pub w : Bool
  pub alive : List ℕ
  pub cost : ℕ
  pub aps : ℕ

-- the complement of what is added; what a carry is read from; the next carry's complement; the sum
abbrev pub kept_out : Bool → Bool → Bool
kept_out a t = majority true (not a) t

abbrev pub half_sum : Bool → Bool → Bool → Bool
half_sum y w m = majority y (not w) m

abbrev pub carry_out : Bool → Bool → Bool → Bool
carry_out y w m = majority (not y) w (half_sum y w m)

abbrev pub sum_out : Bool → Bool → Bool → Bool
sum_out y w m = majority (not m) (half_sum y w m) (carry_out y w m)

added_digit : (y w m : Bool) → bit (sum_out y w m) + 2 * bit (not (carry_out y w m))
    ≡ bit y + bit (not m) + bit (not w)
unfolding majority
added_digit y w m = grind arith

-- without a carry
abbrev pub first_half : Bool → Bool → Bool
first_half y m = majority false y m

abbrev pub first_carry : Bool → Bool → Bool
first_carry y m = majority true (not y) (first_half y m)

abbrev pub first_sum : Bool → Bool → Bool
first_sum y m = majority (not m) (first_half y m) (first_carry y m)

first_digit : (y m : Bool) → bit (first_sum y m) + 2 * bit (not (first_carry y m)) ≡ bit y + bit (not m)
unfolding majority
first_digit y m = grind arith

-- a bit where the other is set, by the complement of this
gated_bit : (a z : Bool) → bit (not (kept_out a (not z))) ≡ bit z * bit a
unfolding majority
gated_bit a z = grind arith

joined_bit : (a z : Bool) → bit (majority false a z) ≡ bit z * bit a
unfolding majority
joined_bit a z = grind arith

-- in whichever order
swapped : (a b : Bool) → majority a false b ≡ majority false a b
unfolding majority
swapped a b = grind arith

-- one more bit of the second factor: the part of the first that fits is added to the high rows
product_step : (low t y c p q a h b k v all : ℕ) → y + c * q ≡ t + b * a → all ≡ a + q * h
    → low + p * t + k * (p * q) ≡ all * v → low + p * y + (k + c + h * b) * (p * q)
    ≡ all * (v + b * p)
product_step low t y c p q a h b k v all e f g =
    let e1 : p * (y + c * q) ≡ p * (t + b * a) = ap (λ z. p * z) e in
    let e2 : all * (b * p) ≡ (a + q * h) * (b * p) = ap (λ z. z * (b * p)) f in
    omega (arith, e1, e2, g)

abbrev pub at : List ℕ → ℕ → ℕ
at g r = slice_index g r

-- the states that bodies leave: a zero in T0 and a bit in T3; the complement of a carry in T3 and DCC1
abbrev pub pair_left : List ℕ
pair_left = 0 ∷ 3 ∷ []

abbrev pub carry_left : List ℕ
carry_left = 4 ∷ []

-- a row is written, and so many commands and AP leave these states
abbrev pub spent : State → ℕ → Bool → List ℕ → ℕ → ℕ → State
spent s j v l c a = record s {
  y = put s.y j v;
  alive = l;
  cost = s.cost + c;
  aps = s.aps + a;
}

abbrev pub does : (ℕ → Bool) → (ℕ → Bool) → Part → List ℕ → State → State
does x z Joined g s =
    record (spent s (at g 1) (majority false (x (at g 1)) (z 0)) pair_left 4 0) { k = false; g = z 0 }
does x z JoinedToo g s = spent s (at g 1) (majority (x (at g 1)) s.k s.g) [] 2 0
does x z Turned g s = record s { t = not (z (at g 1)); alive = []; cost = s.cost + 2 }
does x z First g s = let m = kept_out (x 0) s.t in let y = s.y (at g 1) in
    record (spent s (at g 1) (first_sum y m) carry_left 9 1) { w = first_carry y m }
does x z Added g s = let m = kept_out (x (at g 3)) s.t in let y = s.y (at g 4) in
    record (spent s (at g 4) (sum_out y s.w m) carry_left 9 1) { w = carry_out y s.w m }

abbrev pub InRange : ℕ → Part → List ℕ → State → Type 0
InRange n Joined g s = (at g 1 < n) × (0 < n)
InRange n JoinedToo g s = (at g 1 < n) × (s.alive ≡ pair_left)
InRange n Turned g s = at g 1 < n
InRange n First g s = (0 < n) × (at g 1 < n)
InRange n Added g s = (at g 3 < n) × (at g 4 < n) × (s.alive ≡ carry_left)

module _ (n : ℕ) (some : 0 < n) (small : n ≤ 128) (x z : ℕ → Bool) where
  abbrev F : EventOf Part → State → Type 0
  F = Fine Part State n (InRange n)

  abbrev Asked : Type 1
  Asked = List ℕ → State → Type 0

  abbrev W : FlowOf Part → Asked → Asked
  W f = before Part State n (InRange n) (does x z) f

  -- the first row, two positions at a time
  first_rows : (Q : Asked) (k : FlowOf Part) (s : State) → s.cost ≡ 0 → s.aps ≡ 0
      → ((s : State) → ((j : ℕ) → j < n → s.y j ≡ majority false (x j) (z 0))
      → s.cost ≡ 3 * n + n % 2 → s.aps ≡ 0 → W k Q (regs 0 n 0 0 0 0 0 0) s)
      → W (Loop 0 (Turn (Do Joined (Put (AddI 1 1) End)) (Last (Do JoinedToo (Put (AddI 1 1) End)))) k) Q
      (regs n 0 0 0 0 0 0 0) s
  first_rows Q k s free none done = wp_loop Part State n F (does x z) 0 turns I k Q
      (regs n 0 0 0 0 0 0 0) s (omega arith) (one, two)
      (0, 0, refl, refl, omega arith, omega (arith, free), (λ j lj. absurd (omega (arith, lj))), none) ends
    where
      second : FlowOf Part
      second = Do JoinedToo (Put (AddI 1 1) End)

      turns : TurnsOf Part
      turns = Turn (Do Joined (Put (AddI 1 1) End)) (Last second)

      I : TurnsOf Part → ℕ → Asked
      I (Turn y ts) m g s = (i : ℕ) × (h : ℕ) × (g ≡ regs m i 0 0 0 0 0 0) × (i ≡ 2 * h) × (i + m ≡ n)
          × (s.cost ≡ 3 * i) × ((j : ℕ) → j < i → s.y j ≡ majority false (x j) (z 0)) × (s.aps ≡ 0)
      I (Last y) m g s = (i : ℕ) × (h : ℕ) × (g ≡ regs m i 0 0 0 0 0 0) × (i ≡ 2 * h + 1) × (i + m ≡ n)
          × (s.cost ≡ 3 * i + 1) × ((j : ℕ) → j < i → s.y j ≡ majority false (x j) (z 0)) × (s.aps ≡ 0)
          × (s.k ≡ false) × (s.g ≡ z 0) × (s.alive ≡ pair_left)

      more : (y : ℕ → Bool) (i : ℕ) (b : Bool) → b ≡ majority false (x i) (z 0)
          → ((j : ℕ) → j < i → y j ≡ majority false (x j) (z 0))
          → (j : ℕ) → j < i + 1 → put y i b j ≡ majority false (x j) (z 0)
      more y i b e old j lj = grind (arith, e, old j, lj)

      one : (m : ℕ) (g : List ℕ) (s : State) (R : Asked) → I turns (suc m) g s
          → ((h : List ℕ) (s : State) → I (Last second) m h s → R h s)
          → W (Do Joined (Put (AddI 1 1) End)) R (slice_set g 0 m) s
      one m g s R i go = subst (λ l. W (Do Joined (Put (AddI 1 1) End)) R (slice_set l 0 m) s) (sym i.2)
          ((omega (arith, i.4), some) ▹ omega (arith, i.4, small) ▹ go (regs m (i.0 + 1) 0 0 0 0 0 0) _ (
            i.0 + 1,
            i.1,
            refl,
            omega (arith, i.3),
            omega (arith, i.4),
            omega (arith, i.5),
            more s.y i.0 (majority false (x i.0) (z 0)) refl i.6,
            omega (arith, i.7),
            refl,
            refl,
            refl,
          ))

      two : (m : ℕ) (g : List ℕ) (s : State) (R : Asked) → I (Last second) (suc m) g s
          → ((h : List ℕ) (s : State) → I turns m h s → R h s) → W second R (slice_set g 0 m) s
      two m g s R i go = subst (λ l. W second R (slice_set l 0 m) s) (sym i.2)
          ((omega (arith, i.4), i.10) ▹ omega (arith, i.4, small) ▹ go (regs m (i.0 + 1) 0 0 0 0 0 0) _ (
            i.0 + 1,
            i.1 + 1,
            refl,
            omega (arith, i.3),
            omega (arith, i.4),
            omega (arith, i.5),
            more s.y i.0 (majority (x i.0) s.k s.g) (ap (λ q. majority (x i.0) q s.g) i.8
                ∙ ap (majority (x i.0) false) i.9 ∙ swapped (x i.0) (z 0)) i.6,
            omega (arith, i.7),
          ))

      all_done : (i h : ℕ) (s : State) → i ≡ n → s.cost ≡ 3 * n + n % 2
          → ((j : ℕ) → j < i → s.y j ≡ majority false (x j) (z 0)) → s.aps ≡ 0
          → W k Q (regs 0 i 0 0 0 0 0 0) s
      all_done i h s all paid rows none = subst (λ r. W k Q (regs 0 r 0 0 0 0 0 0) s) (sym all)
          (done s (λ j lj. rows j (omega (arith, lj, all))) paid none)

      ends : (ts : TurnsOf Part) (g : List ℕ) (s : State) → I ts 0 g s → W k Q g s
      ends (Turn y ts) g s i =
          let all : i.0 ≡ n = omega (arith, i.4) in
          let even : n % 2 ≡ 0 = omega (arith, all, i.3) in
          subst (λ l. W k Q l s) (sym i.2)
          (all_done i.0 i.1 s all (omega (arith, i.5, all, even)) i.6 i.7)
      ends (Last y) g s i =
          let all : i.0 ≡ n = omega (arith, i.4) in
          let odd : n % 2 ≡ 1 = omega (arith, all, i.3) in
          subst (λ l. W k Q l s) (sym i.2)
          (all_done i.0 i.1 s all (omega (arith, i.5, all, odd)) i.6 i.7)

  -- so many positions of a row are added to the target's rows, which were those
  record Adding (o : ℕ) (y0 : ℕ → Bool) (due all i a p : ℕ) (s : State) : Type 0 where
    sum : val s.y o i + bit (not s.w) * 2 ^ i ≡ val y0 o i + bit (z o) * val x 0 i
    t_is : s.t ≡ not (z o)
    low : (j : ℕ) → j < o → s.y j ≡ y0 j
    rest : (j : ℕ) → a ≤ j → s.y j ≡ y0 j
    place : a ≡ o + i
    alive : s.alive ≡ carry_left
    paid : s.cost + 9 * p ≡ due
    counted : s.aps + p ≡ all
    ends : a + p ≡ n

  adds : (o : ℕ) (y0 : ℕ → Bool) (due all m : ℕ) (Q : Asked) (k : FlowOf Part)
      → ((i a : ℕ) (s : State) → Adding o y0 due all i a 0 s → W k Q (regs m o 0 i a 0 0 0) s)
      → (i a p : ℕ) (s : State) → Adding o y0 due all i a p s
      → W (Loop 2 (Last next_add) k) Q (regs m o p i a 0 0 0) s
  adds o y0 due all m Q k done i a p s begun = each Part State n (InRange n) (does x z) 2 next_add k Q
      (ℕ × ℕ) (λ q p. regs m o p q.0 q.1 0 0 0) (λ q p s. Adding o y0 due all q.0 q.1 p s) (λ q p. refl)
      step (λ q s c. done q.0 q.1 s c) (i, a) p s refl (let e = begun.ends in omega (arith, e)) begun
    where
      step : (q : ℕ × ℕ) (p : ℕ) (s : State) (R : Asked) → Adding o y0 due all q.0 q.1 (suc p) s
          → ((q : ℕ × ℕ) (s : State) → Adding o y0 due all q.0 q.1 p s → R (regs m o p q.0 q.1 0 0 0) s)
          → W next_add R (regs m o p q.0 q.1 0 0 0) s
      step q p s R c go =
          let i = q.0 in
          let a = q.1 in
          let kept = kept_out (x i) s.t in
          let b = sum_out (s.y a) s.w kept in
          let w1 = carry_out (s.y a) s.w kept in
          let y1 = put s.y a b in
          let below = val_same y1 s.y o i (λ u lu. grind (arith, c.place, lu)) in
          let mx = ap (λ q. bit (z o) * q) (val_more x 0 i i (omega arith)) in
          let here = ap (λ b. 2 ^ i * bit b) (put_same s.y a b) in
          let old = ap (λ b. 2 ^ i * bit b) (c.rest a (omega arith)) in
          let gate = ap (λ q. bit (not (kept_out (x i) q))) c.t_is ∙ gated_bit (x i) (z o) in
          let digit : bit b + 2 * bit (not w1) ≡ bit (s.y a) + bit (z o) * bit (x i) + bit (not s.w) =
          omega (arith, added_digit (s.y a) s.w kept, gate) in
          let scaled = ap (λ q. 2 ^ i * q) digit in
          let up = ap (λ q. bit (not w1) * q) (power i) in
          (omega (arith, c.ends, c.place), omega (arith, c.ends), c.alive)
          ▹ omega (arith, c.ends, c.place, small)
          ▹ omega (arith, c.ends, small) ▹ go (i + 1, a + 1) _ (record {
            sum = omega (
              arith,
              c.sum,
              below,
              val_more y1 o i a (sym c.place),
              val_more y0 o i a
                  (sym c.place),
              mx,
              here,
              old,
              scaled,
              up,
            );
            t_is = c.t_is;
            low = λ j lj. grind (arith, c.low j lj, c.place, lj);
            rest = λ j lj. grind (arith, c.rest j, lj);
            place = omega (arith, c.place);
            alive = refl;
            paid = omega (arith, c.paid);
            counted = omega (arith, c.counted);
            ends = omega (arith, c.ends);
          })

  -- after so many bits of the second argument: the product with these, but for a multiple of 2 ^ n
  record Multiplied (o : ℕ) (s : State) : Type 0 where
    over : ℕ
    product : val s.y 0 n + over * 2 ^ n ≡ val x 0 n * val z 0 o

  -- a row
  added : (o : ℕ) (s t : State) (due all r : ℕ) → Multiplied o s → Adding o s.y due all r n 0 t
      → Multiplied (o + 1) t
  added o s t due all r before c =
      let rows : o + r ≡ n = sym c.place in
      let back : r + o ≡ n = omega (arith, rows) in
      let all_x = ap (val x 0) (sym back) ∙ val_split x r o in
      let new_y = ap (val t.y 0) (sym rows) ∙ val_split t.y o r in
      let old_y = ap (val s.y 0) (sym rows) ∙ val_split s.y o r in
      let low = val_same t.y s.y 0 o (λ j lj. c.low (0 + j) (omega (arith, lj))) in
      let pow : 2 ^ n ≡ 2 ^ o * 2 ^ r = ap (λ q. 2 ^ q) (sym rows) ∙ pow-add 2 o r in
      let k = before.over in
      let carry = bit (not t.w) in
      let h = val x r o in
      let was = ap (λ q. k * q) pow in
      let is = ap (λ q. (k + carry + h * bit (z o)) * q) pow in
      let step = product_step (val s.y 0 o) (val s.y o r) (val t.y o r) carry (2 ^ o) (2 ^ r)
      (val x 0 r) h (bit (z o)) k (val z 0 o) (val x 0 n) c.sum all_x
      (omega (arith, old_y, before.product, was)) in
      let next = ap (λ q. val x 0 n * q) (val_more z 0 o o (omega arith)) in
      record {
        over = k + carry + h * bit (z o);
        product = omega (arith, new_y, low, is, step, next);
      }

  -- what holds in the end
  abbrev pub Over : Asked
  Over g s = ((over : ℕ) × (number s.y n + over * 2 ^ n ≡ number x n * number z n))
      × (2 * s.cost + 4 ≡ 9 * (n * n) + n + 2 * (n % 2)) × (2 * s.aps + n ≡ n * n)

  record Rows (o m : ℕ) (s : State) : Type 0 where
    ends : o + m ≡ n
    multiplied : Multiplied o s
    paid : 2 * s.cost + 13 * m + 9 * (m * m) + 4 ≡ 9 * (n * n) + n + 2 * (n % 2)
    counted : 2 * s.aps + (m * m + m) + n ≡ n * n

  rows_do : (s : State) → Rows 1 (n - 1) s → W (Loop 0 (Last add_row) End) Over (regs (n - 1) 1 0 0 0 0 0 0)
      s
  rows_do s begun = each Part State n (InRange n) (does x z) 0 add_row End Over (ℕ × ℕ × ℕ × ℕ)
      (λ q m. regs m q.0 q.1 q.2 q.3 0 0 0) (λ q m s. Rows q.0 m s) (λ q m. refl) step ends (1, 0, 0, 0)
      (n - 1) s refl (omega arith) begun
    where
      step : (q : ℕ × ℕ × ℕ × ℕ) (m : ℕ) (s : State) (R : Asked) → Rows q.0 (suc m) s
          → ((q : ℕ × ℕ × ℕ × ℕ) (s : State) → Rows q.0 m s → R (regs m q.0 q.1 q.2 q.3 0 0 0) s)
          → W add_row R (regs m q.0 q.1 q.2 q.3 0 0 0) s
      step q m s R c go =
          let o = q.0 in
          let kept = kept_out (x 0) (not (z o)) in
          let b = first_sum (s.y o) kept in
          let gate = gated_bit (x 0) (z o) in
          let two : 2 ^ 1 ≡ 2 = refl in
          let carry = ap (λ q. bit (not (first_carry (s.y o) kept)) * q) two in
          let here = ap bit (put_same s.y o b) in
          let factor = ap (λ q. bit (z o) * q) (val_one x 0) in
          omega (arith, c.ends) ▹ (some, omega (arith, c.ends)) ▹ tt ▹ tt ▹ tt
          ▹ omega (arith, c.ends, small)
          ▹ adds o s.y (s.cost + 11 + 9 * m) (s.aps + 1 + m) m R (Put (AddI 1 1) End)
          (λ i a t d. (let all : a ≡ n = omega (arith, d.ends) in
          omega (arith, c.ends, small) ▹ go (o + 1, 0, i, a) t (record {
            ends = omega (arith, c.ends);
            multiplied = added o s t (s.cost + 11 + 9 * m) (s.aps + 1 + m) i c.multiplied
                (subst (λ a. Adding o s.y (s.cost + 11 + 9 * m) (s.aps + 1 + m) i a 0 t) all d);
            paid = omega (arith, c.paid, d.paid);
            counted = omega (arith, c.counted, d.counted);
          }))) 1 (o + 1) m _ (record {
            sum = omega (
              arith,
              val_one (put s.y o b) o,
              val_one s.y o,
              here,
              factor,
              carry,
              first_digit (s.y o) kept,
              gate,
            );
            t_is = refl;
            low = λ j lj. put_other s.y o b j (λ q. absurd (omega (arith, q, lj)));
            rest = λ j lj. put_other s.y o b j (λ q. absurd (omega (arith, q, lj)));
            place = refl;
            alive = refl;
            paid = omega arith;
            counted = refl;
            ends = omega (arith, c.ends);
          })

      ends : (q : ℕ × ℕ × ℕ × ℕ) (s : State) → Rows q.0 0 s → Over (regs 0 q.0 q.1 q.2 q.3 0 0 0) s
      ends q s c =
          let all : q.0 ≡ n = omega (arith, c.ends) in
          let m = subst (λ o. Multiplied o s) all c.multiplied in (
            (
              m.over,
              ap (λ v. v + m.over * 2 ^ n) (agree_val s.y n) ∙ m.product
                  ∙ ap (λ v. v * val z 0 n) (sym (agree_val x n))
                  ∙ ap (λ v. number x n * v) (sym (agree_val z n)),
            ),
            omega (arith, c.paid),
            omega (arith, c.counted),
          )

  -- the whole
  pub mul_does : (s : State) → s.cost ≡ 0 → s.aps ≡ 0 → W mul Over (regs 0 0 0 0 0 0 0 0) s
  mul_does s free none = tt ▹ tt
      ▹ first_rows Over (Put (SetT 0) (Put (SetI 1 1) (Loop 0 (Last add_row) End))) s
      free none (λ t rows paid light. tt ▹ tt
      ▹ rows_do t (first t rows paid light (n - 1) (omega (arith, some))))
    where
      gated : (k : ℕ) → number (λ j. majority false (x j) (z 0)) k ≡ bit (z 0) * number x k
      gated zero = omega arith
      gated (suc k) = let h = gated k in let b = joined_bit (x k) (z 0) in
          omega (arith, h, ap (λ q. q * 2 ^ k) b)

      first : (t : State) → ((j : ℕ) → j < n → t.y j ≡ majority false (x j) (z 0))
          → t.cost ≡ 3 * n + n % 2 → t.aps ≡ 0 → (k : ℕ) → k + 1 ≡ n → Rows 1 k t
      first t rows paid none k is =
          let a = sym (agree_val t.y n) ∙ number_same t.y (λ j. majority false (x j) (z 0)) n rows
          ∙ gated n in
          let b = ap (λ q. bit (z 0) * q) (agree_val x n) in
          let c = ap (λ q. val x 0 n * q) (val_one z 0) in
          let q : n * n ≡ (k + 1) * (k + 1) = ap (λ t. t * t) (sym is) in
          record {
            ends = omega (arith, is);
            multiplied = record { over = 0; product = omega (arith, a, b, c) };
            paid = omega (arith, paid, q, is);
            counted = omega (arith, none, q, is);
          }
