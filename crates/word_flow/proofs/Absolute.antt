-- abs: above the lowest bit that is set the bits are turned, where the sign is set.
use Rattle.word_flow.proofs.Common.{◌≡◌, ℕ, zero, suc, ◌+◌, ◌-◌, ◌*◌, ◌^◌, ◌<◌, ◌≤◌, Bool, true}
use Rattle.word_flow.proofs.Common.{false, not, cond, List, [], ◌∷◌, refl, sym, ap, ◌∙◌, subst}
use Rattle.word_flow.proofs.Common.{arith, slice_index, nat_lt, pow-suc, SetI, SubI, FlowOf}
use Rattle.word_flow.proofs.Common.{EventOf, End, Do, Put, If, wp_some, wp_none, Fine, majority}
use Rattle.word_flow.proofs.Absolutes.{Part, Copied, Seen, SeenLast, Negated, NegatedLast, Top}
use Rattle.word_flow.proofs.Absolutes.{next_bit, between, abs, absolute_total}
use Rattle.word_flow.proofs.Counting.{bit, number, number_same, put, put_same, put_other}
use Rattle.word_flow.proofs.Loops.{◌▹◌, regs, before, each}

-- the target's rows, whether a bit was set under the sign and its complement in cells, the states
-- that a body may read, and the commands and AP so far
pub record State : Type 0 where
  pub y : ℕ → Bool
  pub c : Bool
  pub nc : Bool
  pub alive : List ℕ
  pub cost : ℕ
  pub aps : ℕ

abbrev pub seen_left : List ℕ
seen_left = 4 ∷ []

abbrev pub last_left : List ℕ
last_left = 12 ∷ []

abbrev pub at : List ℕ → ℕ → ℕ
at g r = slice_index g r

-- the bit that is turned where one was seen, and whether one is seen then
abbrev pub bit_out : Bool → Bool → Bool
bit_out a c = majority false (majority true a c) (not (majority false a c))

abbrev pub seen_out : Bool → Bool → Bool → Bool
seen_out a s c = majority s (majority false a c) (bit_out a c)

-- so many commands leave these states
abbrev pub spent : State → List ℕ → ℕ → State
spent t l k = record t { alive = l; cost = t.cost + k }

abbrev pub does : ℕ → (ℕ → Bool) → Part → List ℕ → State → State
does n x Copied g t = record (spent t [] 1) { y = put t.y 0 (x 0) }
does n x Seen g t = record (spent t seen_left 4) {
  c = majority false (x 0) (x (at g 2));
  aps = t.aps + 1;
}
does n x SeenLast g t = record (spent t last_left 4) { nc = not (majority false (x 0) (x (at g 2))) }
does n x Negated g t = record (spent t seen_left 8) {
  y = put t.y (at g 1) (bit_out (x (at g 1)) t.c);
  c = seen_out (x (at g 1)) (x (at g 2)) t.c;
}
does n x NegatedLast g t = record (spent t last_left 8) {
  y = put t.y (at g 1) (bit_out (x (at g 1)) t.c);
  nc = not (seen_out (x (at g 1)) (x (at g 2)) t.c);
}
does n x Top g t = record (spent t [] 3) { y = put t.y (at g 2) (majority false (x (at g 2)) t.nc) }

abbrev pub InRange : ℕ → Part → List ℕ → State → Type 0
InRange n Copied g t = 0 < n
InRange n Seen g t = (0 < n) × (at g 2 < n)
InRange n SeenLast g t = (0 < n) × (at g 2 < n)
InRange n Negated g t = (at g 1 < n) × (at g 2 < n) × (t.alive ≡ seen_left)
InRange n NegatedLast g t = (at g 1 < n) × (at g 2 < n) × (t.alive ≡ seen_left)
InRange n Top g t = (at g 2 < n) × (t.alive ≡ last_left)

-- the bits of the number or, where the sign is set, of its complement to a power of 2
abbrev pub Turned : Bool → (ℕ → Bool) → (ℕ → Bool) → ℕ → Bool → Type 0
Turned true x y i c = number y i + number x i ≡ bit c * 2 ^ i
Turned false x y i c = (number y i ≡ number x i) × (c ≡ false)

first_digit : (s a : Bool) (x y : ℕ → Bool) → x 0 ≡ a → y 0 ≡ a
    → Turned s x y 1 (majority false a s)
unfolding majority
first_digit s a x y e f = grind (arith, ap bit e, ap bit f)

next_digit : (s a c : Bool) (x y z : ℕ → Bool) (i : ℕ) → Turned s x y i c → x i ≡ a
    → z i ≡ bit_out a c → number z i ≡ number y i → Turned s x z (suc i) (seen_out a s c)
unfolding majority
next_digit s a c x y z i h e f n =
    grind (arith, h, n, ap (λ v. bit v * 2 ^ i) e, ap (λ v. bit v * 2 ^ i) f, pow-suc 2 i)

-- the top bit is the sign, and stays only where no bit below it was set
top_digit : (s c : Bool) (x y z : ℕ → Bool) (k : ℕ) → Turned s x y k c → x k ≡ s
    → z k ≡ majority false s (not c) → number z k ≡ number y k
    → (s ≡ true → number z (suc k) + number x (suc k) ≡ 2 ^ suc k)
    × (s ≡ false → number z (suc k) ≡ number x (suc k))
unfolding majority
top_digit s c x y z k h e f n =
    grind (arith, h, n, ap (λ v. bit v * 2 ^ k) e, ap (λ v. bit v * 2 ^ k) f, pow-suc 2 k)

module _ (n : ℕ) (some : 0 < n) (small : n ≤ 128) (x : ℕ → Bool) where
  abbrev F : EventOf Part → State → Type 0
  F = Fine Part State n (InRange n)

  abbrev Asked : Type 1
  Asked = List ℕ → State → Type 0

  abbrev W : FlowOf Part → Asked → Asked
  W f = before Part State n (InRange n) (does n x) f

  -- the sign, and what is to come
  abbrev pub s : Bool
  s = x (n - 1)

  abbrev pub Over : State → Type 0
  Over t = (s ≡ true → number t.y n + number x n ≡ 2 ^ n) × (s ≡ false → number t.y n ≡ number x n)
      × (t.cost ≡ absolute_total n) × (t.aps ≡ cond (nat_lt 2 n) 1 0)

  total_is : (c : ℕ) → 1 < n → c + 8 ≡ 8 * n → c ≡ absolute_total n
  total_is c more e = grind (arith, more, e)

  kept_low : (y : ℕ → Bool) (i : ℕ) (v : Bool) → number (put y i v) i ≡ number y i
  kept_low y i v = number_same (put y i v) y i (λ j lj. put_other y i v j
      (λ e. absurd (omega (arith, e, lj))))

  -- before the top position
  record Seeing (t : State) : Type 0 where
    c : Bool
    turned : Turned s x t.y (n - 1) c
    nc_is : t.nc ≡ not c
    alive : t.alive ≡ last_left
    paid : t.cost + 11 ≡ 8 * n
    counted : t.aps ≡ cond (nat_lt 2 n) 1 0

  top_does : (i m : ℕ) (Q : Asked) (t : State) → 1 < n → ((g : List ℕ) (t : State) → Over t → Q g t)
      → Seeing t → W (Do Top End) Q (regs m i (n - 1) 0 0 0 0 0) t
  top_does i m Q t more done h =
      let k = n - 1 in
      let v = majority false (x k) t.nc in
      let z = put t.y k v in
      let up : suc k ≡ n = omega (arith, some) in
      let r = top_digit (x k) h.c x t.y z k h.turned refl
      (put_same t.y k v ∙ ap (majority false (x k)) h.nc_is) (kept_low t.y k v) in
      (omega (arith, some), h.alive) ▹ done _ _ (
        λ e. subst (λ q. number z q + number x q ≡ 2 ^ q) up (r.0 e),
        λ e. subst (λ q. number z q ≡ number x q) up (r.1 e),
        total_is (t.cost + 3) more (omega (arith, h.paid)),
        h.counted,
      )

  -- so many positions stand between the lowest and the top one
  record Between (i m : ℕ) (t : State) : Type 0 where
    one : 0 < i
    ends : i + m + 2 ≡ n
    turned : Turned s x t.y i t.c
    alive : t.alive ≡ seen_left
    paid : t.cost + 3 ≡ 8 * i
    counted : t.aps ≡ 1

  between_does : (Q : Asked) (t : State) → 2 < n → t.y 0 ≡ x 0 → t.cost ≡ 1 → t.aps ≡ 0
      → ((i : ℕ) (t : State) → Seeing t → Q (regs 0 i (n - 1) 0 0 0 0 0) t)
      → W between Q (regs (n - 1 - 1) 1 (n - 1) 0 0 0 0 0) t
  between_does Q t more low paid none done = (some, omega (arith, some)) ▹ omega (arith, more)
      ▹ each Part State n (InRange n) (does n x) 0 next_bit (Do NegatedLast End) Q ℕ
      (λ i m. regs m i (n - 1) 0 0 0 0 0) Between (λ i m. refl) step ends 1 (n - 1 - 1 - 1) _ refl
      (omega arith) (record {
        one = omega arith;
        ends = omega (arith, more);
        turned = first_digit (x (n - 1)) (x 0) x t.y refl low;
        alive = refl;
        paid = omega (arith, paid);
        counted = omega (arith, none);
      })
    where
      next : (i : ℕ) (t : State) → Turned (x (n - 1)) x t.y i t.c
          → Turned (x (n - 1)) x (put t.y i (bit_out (x i) t.c)) (i + 1) (seen_out (x i) (x (n - 1)) t.c)
      next i t h = let u = bit_out (x i) t.c in let one : suc i ≡ i + 1 = omega arith in
          subst (λ q. Turned (x (n - 1)) x (put t.y i u) q (seen_out (x i) (x (n - 1)) t.c)) one
          (next_digit (x (n - 1)) (x i) t.c x t.y (put t.y i u) i h refl (put_same t.y i u)
          (kept_low t.y i u))

      step : (i m : ℕ) (t : State) (R : Asked) → Between i (suc m) t
          → ((i : ℕ) (t : State) → Between i m t → R (regs m i (n - 1) 0 0 0 0 0) t)
          → W next_bit R (regs m i (n - 1) 0 0 0 0 0) t
      step i m t R h go = (omega (arith, h.ends), omega (arith, some), h.alive)
          ▹ omega (arith, h.ends, small) ▹ go (i + 1) _ (record {
            one = omega arith;
            ends = omega (arith, h.ends);
            turned = next i t h.turned;
            alive = refl;
            paid = omega (arith, h.paid);
            counted = h.counted;
          })

      ends : (i : ℕ) (t : State) → Between i 0 t
          → W (Do NegatedLast End) Q (regs 0 i (n - 1) 0 0 0 0 0) t
      ends i t h =
          let up : i + 1 ≡ n - 1 = omega (arith, h.ends) in
          (omega (arith, h.ends), omega (arith, some), h.alive) ▹ done i _ (record {
            c = seen_out (x i) (x (n - 1)) t.c;
            turned = subst (λ q. Turned (x (n - 1)) x (put t.y i (bit_out (x i) t.c)) q
                (seen_out (x i) (x (n - 1)) t.c)) up (next i t h.turned);
            nc_is = refl;
            alive = refl;
            paid = omega (arith, h.paid, up);
            counted = grind (arith, h.counted, more);
          })

  -- the whole
  pub abs_does : (t : State) (Q : Asked) → t.cost ≡ 0 → t.aps ≡ 0
      → ((g : List ℕ) (t : State) → Over t → Q g t) → W abs Q (regs 0 0 0 0 0 0 0 0) t
  abs_does t Q free none done = some ▹ tt ▹ tt ▹ by (n - 1) refl
    where
      t1 : State
      t1 = does n x Copied (regs 0 0 0 0 0 0 0 0) t

      top : FlowOf Part
      top = Do Top End

      some_bits : FlowOf Part
      some_bits = Put (SubI 0 1) (Put (SetI 1 1) (If 0 between (Do SeenLast End) top))

      low : put t.y 0 (x 0) 0 ≡ x 0
      low = put_same t.y 0 (x 0)

      few : n ≤ 2 → t.aps ≡ cond (nat_lt 2 n) 1 0
      few le = grind (arith, none, le)

      more : (z w : ℕ) → n - 1 ≡ suc z → n - 1 - 1 ≡ w
          → W (If 0 between (Do SeenLast End) top) Q (regs (n - 1 - 1) 1 (n - 1) 0 0 0 0 0)
          (does n x Copied (regs 0 0 0 0 0 0 0 0) t)
      more z zero is two = wp_none Part State n F (does n x) 0 between (Do SeenLast End) top Q
          (regs (n - 1 - 1) 1 (n - 1) 0 0 0 0 0) (does n x Copied (regs 0 0 0 0 0 0 0 0) t) two
          ((some, omega (arith, some)) ▹ top_does 1 (n - 1 - 1) Q _ (omega (arith, is)) done (record {
            c = majority false (x 0) (x (n - 1));
            turned = subst (λ q. Turned (x (n - 1)) x (put t.y 0 (x 0)) q
                (majority false (x 0) (x (n - 1))))
                (let u : 1 ≡ n - 1 = omega (arith, is, two) in u)
                (first_digit (x (n - 1)) (x 0) x (put t.y 0 (x 0)) refl low);
            nc_is = refl;
            alive = refl;
            paid = omega (arith, free, is, two);
            counted = few (omega (arith, two));
          }))
      more z (suc w) is two = wp_some Part State n F (does n x) 0 w between (Do SeenLast End) top Q
          (regs (n - 1 - 1) 1 (n - 1) 0 0 0 0 0) (does n x Copied (regs 0 0 0 0 0 0 0 0) t) two
          (between_does (W top Q) (does n x Copied (regs 0 0 0 0 0 0 0 0) t) (omega (arith, two)) low
          (omega (arith, free)) none (λ i u h. top_does i 0 Q u (omega (arith, is)) done h))

      by : (z : ℕ) → n - 1 ≡ z
          → W (If 0 some_bits End End) Q (regs (n - 1) 0 (n - 1) 0 0 0 0 0)
          (does n x Copied (regs 0 0 0 0 0 0 0 0) t)
      by zero is = let one : n ≡ 1 = omega (arith, is, some) in
          wp_none Part State n F (does n x) 0 some_bits End End Q
          (regs (n - 1) 0 (n - 1) 0 0 0 0 0) (does n x Copied (regs 0 0 0 0 0 0 0 0) t) is (done _ _ (
            λ sign. subst (λ q. number (put t.y 0 (x 0)) q + number x q ≡ 2 ^ q) (sym one)
                (let v = ap bit low in let w = ap bit (ap x (let u : 0 ≡ n - 1 = omega (arith, one) in u)
                ∙ sign) in
                let p : 2 ^ 0 ≡ 1 = refl in let q : 2 ^ 1 ≡ 2 = refl in omega (arith, v, w, p, q)),
            λ sign. subst (λ q. number (put t.y 0 (x 0)) q ≡ number x q) (sym one)
                (let v = ap bit low in omega (arith, v)),
            ap (λ z. z + 1) free ∙ ap absolute_total (sym one),
            few (omega (arith, one)),
          ))
      by (suc z) is = wp_some Part State n F (does n x) 0 z some_bits End End Q
          (regs (n - 1) 0 (n - 1) 0 0 0 0 0) (does n x Copied (regs 0 0 0 0 0 0 0 0) t) is
          (omega (arith, is) ▹ tt ▹ more z (n - 1 - 1) is refl)
