-- and_red and or_red: two cells in turn, of which what both give is what was joined.
use Rattle.word_flow.proofs.Common.{◌≡◌, ℕ, zero, suc, ◌+◌, ◌-◌, ◌*◌, ◌<◌, ◌≤◌, Bool, not, List, []}
use Rattle.word_flow.proofs.Common.{◌∷◌, refl, sym, ap, ◌∙◌, subst, arith, slice_set, slice_index}
use Rattle.word_flow.proofs.Common.{FlowOf, TurnsOf, EventOf, End, Do, Put, If, Loop, Last}
use Rattle.word_flow.proofs.Common.{◌⊎◌, inl, inr, Turn, SubI, SetI, wp_some, wp_none, wp_loop, Fine, majority}
use Rattle.word_flow.proofs.Reductions.{Part, Alone, Begun, Left, Right, Ended, left, right}
use Rattle.word_flow.proofs.Reductions.{reduction, joined, reduction_total}
use Rattle.word_flow.proofs.Loops.{◌▹◌, regs, before}

-- the target's bit, the two with their complements, the states that a body may read, and the
-- commands and rounds so far
pub record State : Type 0 where
  pub y : Bool
  pub u : Bool
  pub w : Bool
  pub nu : Bool
  pub nw : Bool
  pub alive : List ℕ
  pub cost : ℕ
  pub rounds : ℕ

-- what is left where the left is next, and where the right is
abbrev pub to_left : List ℕ
to_left = 3 ∷ 1 ∷ 12 ∷ []

abbrev pub to_right : List ℕ
to_right = 3 ∷ 1 ∷ 11 ∷ []

abbrev pub at : List ℕ → ℕ → ℕ
at g r = slice_index g r

-- a round of so many commands leaves these states
abbrev pub spent : State → List ℕ → ℕ → State
spent s l k = record s { alive = l; cost = s.cost + k; rounds = s.rounds + 1 }

abbrev pub does : Bool → (ℕ → Bool) → Part → List ℕ → State → State
does c x Alone g s = record (spent s [] 1) { y = x 0 }
does c x Begun g s = record (spent s to_left 2) { u = x 0; w = x (at g 1); nw = not (x (at g 1)) }
does c x Left g s = let v = majority (x (at g 1)) s.u s.nw in
    record (spent s to_right 2) { u = v; nu = not v }
does c x Right g s = let v = majority (x (at g 1)) s.w s.nu in
    record (spent s to_left 2) { w = v; nw = not v }
does c x Ended g s = record (spent s [] 2) { y = majority c s.u s.w }

-- what may be read: the two, and the complement of the right or of the left
abbrev pub InRange : ℕ → Part → List ℕ → State → Type 0
InRange n Alone g s = 0 < n
InRange n Begun g s = (0 < n) × (at g 1 < n)
InRange n Left g s = (at g 1 < n) × (s.alive ≡ to_left)
InRange n Right g s = (at g 1 < n) × (s.alive ≡ to_right)
InRange n Ended g s = (s.alive ≡ to_left) ⊎ (s.alive ≡ to_right)

-- one element more
joins : (c : Bool) (x : ℕ → Bool) (i : ℕ) (g : Bool) → 0 < i → g ≡ joined c x i
    → majority c (x i) g ≡ joined c x (i + 1)
joins c x zero g some e = absurd (omega (arith, some))
joins c x (suc i) g some e = let one : suc (suc i) ≡ suc i + 1 = omega arith in
    ap (majority c (x (suc i))) e ∙ ap (joined c x) one

-- the first two, in either order
swapped : (c a b : Bool) → majority c a b ≡ majority c b a
unfolding majority
swapped c a b = grind arith

-- what joins one of the two, against the complement of the other, joins what both give
by_left : (c z u w : Bool) → majority c (majority z u (not w)) w ≡ majority c z (majority c u w)
unfolding majority
by_left c z u w = grind arith

by_right : (c z u w : Bool) → majority c u (majority z w (not u)) ≡ majority c z (majority c u w)
unfolding majority
by_right c z u w = grind arith

module _ (n : ℕ) (some : 0 < n) (small : n ≤ 128) (c : Bool) (x : ℕ → Bool) where
  abbrev F : EventOf Part → State → Type 0
  F = Fine Part State n (InRange n)

  abbrev Asked : Type 1
  Asked = List ℕ → State → Type 0

  abbrev W : FlowOf Part → Asked → Asked
  W f = before Part State n (InRange n) (does c x) f

  abbrev Over : State → Type 0
  Over s = (s.y ≡ joined c x n) × (s.cost ≡ reduction_total n) × (s.rounds ≡ n)

  -- i elements are joined in the two, and m are left
  abbrev Place : ℕ → ℕ → State → Type 0
  Place i m s = (1 < i) × (i + m ≡ n) × (s.cost + 2 ≡ 2 * i) × (s.rounds + 1 ≡ i)
      × (majority c s.u s.w ≡ joined c x i)

  -- a round more
  next : (i m : ℕ) (s t : State) → Place i (suc m) s → t.cost ≡ s.cost + 2
      → t.rounds ≡ s.rounds + 1 → majority c t.u t.w ≡ majority c (x i) (majority c s.u s.w)
      → Place (i + 1) m t
  next i m s t p cost rounds e = (
    omega (arith, p.0),
    omega (arith, p.1),
    omega (arith, p.2, cost),
    omega (arith, p.3, rounds),
    e ∙ joins c x i (majority c s.u s.w) (omega (arith, p.0)) p.4,
  )

  total_is : (k : ℕ) → 1 < n → k ≡ 2 * n → k ≡ reduction_total n
  total_is k many e = grind (arith, many, e)

  -- what both give
  ends_do : (i : ℕ) (g : List ℕ) (s : State) → 1 < n → Place i 0 s
      → (s.alive ≡ to_left) ⊎ (s.alive ≡ to_right) → W (Do Ended End) (λ g s. Over s) g s
  ends_do i g s many p alive = let full : i ≡ n = omega (arith, p.1) in
      alive ▹ (
        p.4 ∙ ap (joined c x) full,
        total_is (s.cost + 2) many (omega (arith, p.2, full)),
        p.3 ∙ full,
      )

  turns_do : (s : State) → 1 < n → Place 2 (n - 1 - 1) s → s.nw ≡ not s.w → s.alive ≡ to_left
      → W (Loop 0 (Turn left (Last right)) (Do Ended End)) (λ g s. Over s)
      (regs (n - 1 - 1) 2 0 0 0 0 0 0) s
  turns_do s many p turned alive = wp_loop Part State n F (does c x) 0 all I (Do Ended End)
      (λ g s. Over s) (regs (n - 1 - 1) 2 0 0 0 0 0 0) s (omega arith) (left_does, right_does)
      (2, refl, p, turned, alive) ends
    where
      all : TurnsOf Part
      all = Turn left (Last right)

      I : TurnsOf Part → ℕ → Asked
      I (Turn y ts) m g s = (i : ℕ) × (g ≡ regs m i 0 0 0 0 0 0) × Place i m s × (s.nw ≡ not s.w)
          × (s.alive ≡ to_left)
      I (Last y) m g s = (i : ℕ) × (g ≡ regs m i 0 0 0 0 0 0) × Place i m s × (s.nu ≡ not s.u)
          × (s.alive ≡ to_right)

      left_does : (m : ℕ) (g : List ℕ) (s : State) (R : Asked) → I all (suc m) g s
          → ((h : List ℕ) (s : State) → I (Last right) m h s → R h s) → W left R (slice_set g 0 m) s
      left_does m g s R i go =
          let k = i.0 in
          let p = i.2 in
          let t = does c x Left (regs m k 0 0 0 0 0 0) s in
          let e = ap (λ q. majority c (majority (x k) s.u q) s.w) i.3 ∙ by_left c (x k) s.u s.w in
          subst (λ l. W left R (slice_set l 0 m) s) (sym i.1) ((omega (arith, p.1), i.4)
          ▹ omega (arith, p.1, small) ▹ go (regs m (k + 1) 0 0 0 0 0 0) t
          (k + 1, refl, next k m s t p refl refl e, refl, refl))

      right_does : (m : ℕ) (g : List ℕ) (s : State) (R : Asked) → I (Last right) (suc m) g s
          → ((h : List ℕ) (s : State) → I all m h s → R h s) → W right R (slice_set g 0 m) s
      right_does m g s R i go =
          let k = i.0 in
          let p = i.2 in
          let t = does c x Right (regs m k 0 0 0 0 0 0) s in
          let e = ap (λ q. majority c s.u (majority (x k) s.w q)) i.3 ∙ by_right c (x k) s.u s.w in
          subst (λ l. W right R (slice_set l 0 m) s) (sym i.1) ((omega (arith, p.1), i.4)
          ▹ omega (arith, p.1, small) ▹ go (regs m (k + 1) 0 0 0 0 0 0) t
          (k + 1, refl, next k m s t p refl refl e, refl, refl))

      ends : (ts : TurnsOf Part) (g : List ℕ) (s : State) → I ts 0 g s
          → W (Do Ended End) (λ g s. Over s) g s
      ends (Turn y ts) g s i = ends_do i.0 g s many i.2 (inl i.4)
      ends (Last y) g s i = ends_do i.0 g s many i.2 (inr i.4)

  -- the whole
  pub reduction_does : (s : State) → s.cost ≡ 0 → s.rounds ≡ 0
      → W reduction (λ g s. Over s) (regs 0 0 0 0 0 0 0 0) s
  reduction_does s free none = tt ▹ by (n - 1) refl
    where
      turns : FlowOf Part
      turns = Loop 0 (Turn left (Last right)) (Do Ended End)

      more : FlowOf Part
      more = Put (SetI 1 1) (Do Begun (Put (SubI 0 1) (Put (SetI 1 2) turns)))

      by : (z : ℕ) → n - 1 ≡ z
          → W (If 0 more (Do Alone End) End) (λ g s. Over s) (regs (n - 1) 0 0 0 0 0 0 0) s
      by zero is = let one : n ≡ 1 = omega (arith, is, some) in
          wp_none Part State n F (does c x) 0 more (Do Alone End) End (λ g s. Over s)
          (regs (n - 1) 0 0 0 0 0 0 0) s is (some ▹ (
            ap (joined c x) (sym one),
            (let e : s.cost + 1 ≡ 1 = omega (arith, free) in e ∙ ap reduction_total (sym one)),
            omega (arith, none, one),
          ))
      by (suc z) is = let many : 1 < n = omega (arith, is) in
          wp_some Part State n F (does c x) 0 z more (Do Alone End) End (λ g s. Over s)
          (regs (n - 1) 0 0 0 0 0 0 0) s is (tt ▹ (some, many) ▹ omega (arith, many) ▹ tt
          ▹ turns_do (does c x Begun (regs (n - 1) 1 0 0 0 0 0 0) s) many (
            omega arith,
            omega (arith, many),
            omega (arith, free),
            omega (arith, none),
            swapped c (x 0) (x 1),
          ) refl refl)
