-- relu: each bit where the top one is not set.
use Rattle.word_flow.proofs.Common.{◌≡◌, ℕ, zero, suc, ◌+◌, ◌-◌, ◌*◌, ◌<◌, ◌≤◌, Bool, false, not}
use Rattle.word_flow.proofs.Common.{List, [], ◌∷◌, refl, sym, ap, ◌∙◌, subst, arith, slice_set}
use Rattle.word_flow.proofs.Common.{slice_index, FlowOf, TurnsOf, EventOf, End, Do, If, Loop, Last}
use Rattle.word_flow.proofs.Common.{Turn, wp_some, wp_none, wp_loop, Fine, majority}
use Rattle.word_flow.proofs.Loops.{◌▹◌, regs, before}
use Rattle.word_flow.proofs.Counting.{put}
use Rattle.word_flow.proofs.Rectified.{Part, Turned, Both, Agreed, Cleared, both, agreed, relu}
use Rattle.word_flow.proofs.Rectified.{rectified_total}

-- the target's rows, the complement of the top bit in T1 and in DCC0, the constant in T3, the states
-- that a body may read, and the commands so far
pub record State : Type 0 where
  pub y : ℕ → Bool
  pub t1 : Bool
  pub t3 : Bool
  pub d0 : Bool
  pub alive : List ℕ
  pub cost : ℕ

abbrev pub turned_left : List ℕ
turned_left = 1 ∷ 11 ∷ []

abbrev pub both_left : List ℕ
both_left = 3 ∷ 11 ∷ []

abbrev pub at : List ℕ → ℕ → ℕ
at g r = slice_index g r

-- so many commands leave these states
abbrev pub spent : State → List ℕ → ℕ → State
spent t l k = record t { alive = l; cost = t.cost + k }

abbrev pub does : (ℕ → Bool) → Part → List ℕ → State → State
does x Turned g t = let v = not (x (at g 2)) in record (spent t turned_left 2) { t1 = v; d0 = v }
does x Both g t = record (spent t both_left 3) {
  y = put t.y (at g 1) (majority false (x (at g 1)) t.t1);
  t3 = false;
}
does x Agreed g t = record (spent t turned_left 3) {
  y = put t.y (at g 1) (majority (x (at g 1)) t.t3 t.d0);
  t1 = t.d0;
}
does x Cleared g t = record (spent t [] 1) { y = put t.y (at g 2) false }

abbrev pub InRange : ℕ → Part → List ℕ → State → Type 0
InRange n Turned g t = at g 2 < n
InRange n Both g t = (at g 1 < n) × (t.alive ≡ turned_left)
InRange n Agreed g t = (at g 1 < n) × (t.alive ≡ both_left)
InRange n Cleared g t = at g 2 < n

-- in whichever order, and a bit with its own complement
swapped : (a b : Bool) → majority a false b ≡ majority false a b
unfolding majority
swapped a b = grind arith

against : (a : Bool) → majority false a (not a) ≡ false
unfolding majority
against a = grind arith

module _ (n : ℕ) (some : 0 < n) (small : n ≤ 128) (x : ℕ → Bool) where
  abbrev F : EventOf Part → State → Type 0
  F = Fine Part State n (InRange n)

  abbrev Asked : Type 1
  Asked = List ℕ → State → Type 0

  abbrev W : FlowOf Part → Asked → Asked
  W f = before Part State n (InRange n) (does x) f

  -- the complement of the top bit, and what a row is to be
  abbrev pub low : Bool
  low = not (x (n - 1))

  abbrev pub Kept : ℕ → State → Type 0
  Kept i t = (j : ℕ) → j < i → t.y j ≡ majority false (x j) low

  abbrev pub Over : State → Type 0
  Over t = Kept n t × (t.cost ≡ rectified_total n)

  total_is : (c : ℕ) → 1 < n → c ≡ 3 * n → c ≡ rectified_total n
  total_is c more e = grind (arith, more, e)

  -- one row more
  more : (y : ℕ → Bool) (i : ℕ) (v : Bool) → v ≡ majority false (x i) low
      → ((j : ℕ) → j < i → y j ≡ majority false (x j) low)
      → (j : ℕ) → j < i + 1 → put y i v j ≡ majority false (x j) low
  more y i v e old j lj = grind (arith, e, old j, lj)

  -- the top row
  clears : (m i : ℕ) (t : State) → Kept (n - 1) t → t.cost + 1 ≡ rectified_total n
      → W (Do Cleared End) (λ g t. Over t) (regs m i (n - 1) 0 0 0 0 0) t
  clears m i t kept paid = omega (arith, some) ▹ (
    λ j lj. more t.y (n - 1) false (sym (against (x (n - 1)))) kept j (omega (arith, lj, some)),
    paid,
  )

  turns_do : (m : ℕ) (Q : Asked) (t : State) → m + 1 ≡ n → t.t1 ≡ low → t.d0 ≡ low
      → t.alive ≡ turned_left → t.cost ≡ 2
      → ((m i : ℕ) (t : State) → Kept (n - 1) t → t.cost + 1 ≡ 3 * n
      → Q (regs m i (n - 1) 0 0 0 0 0) t)
      → W (Loop 0 (Turn both (Last agreed)) End) Q (regs m 0 (n - 1) 0 0 0 0 0) t
  turns_do m Q t is one two alive paid done = wp_loop Part State n F (does x) 0 all I End Q
      (regs m 0 (n - 1) 0 0 0 0 0) t (omega (arith, is)) (both_does, agreed_does)
      (0, refl, omega (arith, is), omega (arith, paid), λ j lj. absurd (omega (arith, lj)), two, one, alive)
      ends
    where
      all : TurnsOf Part
      all = Turn both (Last agreed)

      I : TurnsOf Part → ℕ → Asked
      I (Turn y ts) m g t = (i : ℕ) × (g ≡ regs m i (n - 1) 0 0 0 0 0) × (i + m + 1 ≡ n)
          × (t.cost ≡ 3 * i + 2) × Kept i t × (t.d0 ≡ low) × (t.t1 ≡ low) × (t.alive ≡ turned_left)
      I (Last y) m g t = (i : ℕ) × (g ≡ regs m i (n - 1) 0 0 0 0 0) × (i + m + 1 ≡ n)
          × (t.cost ≡ 3 * i + 2) × Kept i t × (t.d0 ≡ low) × (t.t3 ≡ false) × (t.alive ≡ both_left)

      both_does : (m : ℕ) (g : List ℕ) (t : State) (R : Asked) → I all (suc m) g t
          → ((h : List ℕ) (t : State) → I (Last agreed) m h t → R h t) → W both R (slice_set g 0 m) t
      both_does m g t R h go =
          let i = h.0 in
          let v = majority false (x i) t.t1 in
          subst (λ l. W both R (slice_set l 0 m) t) (sym h.1) ((omega (arith, h.2), h.7)
          ▹ omega (arith, h.2, small) ▹ go (regs m (i + 1) (n - 1) 0 0 0 0 0) _ (
            i + 1,
            refl,
            omega (arith, h.2),
            omega (arith, h.3),
            more t.y i v (ap (majority false (x i)) h.6) h.4,
            h.5,
            refl,
            refl,
          ))

      agreed_does : (m : ℕ) (g : List ℕ) (t : State) (R : Asked) → I (Last agreed) (suc m) g t
          → ((h : List ℕ) (t : State) → I all m h t → R h t) → W agreed R (slice_set g 0 m) t
      agreed_does m g t R h go =
          let i = h.0 in
          let v = majority (x i) t.t3 t.d0 in
          subst (λ l. W agreed R (slice_set l 0 m) t) (sym h.1) ((omega (arith, h.2), h.7)
          ▹ omega (arith, h.2, small) ▹ go (regs m (i + 1) (n - 1) 0 0 0 0 0) _ (
            i + 1,
            refl,
            omega (arith, h.2),
            omega (arith, h.3),
            more t.y i v (ap (λ q. majority (x i) q t.d0) h.6 ∙ ap (majority (x i) false) h.5
                ∙ swapped (x i) low) h.4,
            h.5,
            h.5,
            refl,
          ))

      ends : (ts : TurnsOf Part) (g : List ℕ) (t : State) → I ts 0 g t → Q g t
      ends (Turn y ts) g t h = let all : h.0 ≡ n - 1 = omega (arith, h.2) in
          subst (λ l. Q l t) (sym h.1) (done 0 h.0 t (subst (λ i. Kept i t) all h.4)
          (omega (arith, h.3, h.2)))
      ends (Last y) g t h = let all : h.0 ≡ n - 1 = omega (arith, h.2) in
          subst (λ l. Q l t) (sym h.1) (done 0 h.0 t (subst (λ i. Kept i t) all h.4)
          (omega (arith, h.3, h.2)))

  -- the whole
  pub relu_does : (t : State) → t.cost ≡ 0 → W relu (λ g t. Over t) (regs 0 0 0 0 0 0 0 0) t
  relu_does t free = tt ▹ tt ▹ tt ▹ by (n - 1) refl
    where
      top : FlowOf Part
      top = Do Cleared End

      turns : FlowOf Part
      turns = Do Turned (Loop 0 (Turn both (Last agreed)) End)

      by : (z : ℕ) → n - 1 ≡ z
          → W (If 0 turns End top) (λ g t. Over t) (regs (n - 1) 0 (n - 1) 0 0 0 0 0) t
      by zero is = wp_none Part State n F (does x) 0 turns End top (λ g t. Over t)
          (regs (n - 1) 0 (n - 1) 0 0 0 0 0) t is
          (clears (n - 1) 0 t (λ j lj. absurd (omega (arith, lj, is)))
          (let one : n ≡ 1 = omega (arith, is, some) in
          let r : rectified_total n ≡ 1 = ap rectified_total one in omega (arith, free, r)))
      by (suc z) is = wp_some Part State n F (does x) 0 z turns End top (λ g t. Over t)
          (regs (n - 1) 0 (n - 1) 0 0 0 0 0) t is (omega (arith, some)
          ▹ turns_do (n - 1) (W top (λ g t. Over t))
          (does x Turned (regs (n - 1) 0 (n - 1) 0 0 0 0 0) t) (omega (arith, some)) refl refl refl
          (omega (arith, free)) (λ m i t kept paid. clears m i t kept
          (total_is (t.cost + 1) (omega (arith, is)) paid)))
