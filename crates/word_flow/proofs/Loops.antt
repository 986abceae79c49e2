-- Shorter forms for what flows do: steps in a row, a file of registers, and a loop of one turn.
use Rattle.word_flow.proofs.Common.{◌≡◌, ℕ, suc, ◌≤◌, List, [], ◌∷◌, refl, sym, subst, arith}
use Rattle.word_flow.proofs.Common.{slice_set, slice_index, FlowOf, TurnsOf, Loop, Last, wp}
use Rattle.word_flow.proofs.Common.{wp_loop, Fine}

infixr 3 ◌▹◌
-- one and then the other
pub ◌▹◌ : {A B : Type 0} → A → B → A × B
a ▹ b = (a, b)

-- the eight registers
abbrev pub regs : ℕ → ℕ → ℕ → ℕ → ℕ → ℕ → ℕ → ℕ → List ℕ
regs a b c d e f g h = a ∷ b ∷ c ∷ d ∷ e ∷ f ∷ g ∷ h ∷ []

module _ (A S : Type 0) (n : ℕ) (InRange : A → List ℕ → S → Type 0) (does : A → List ℕ → S → S) where
  -- what must hold before a flow whose bodies are in range, so that this holds after it
  abbrev pub before : FlowOf A → (List ℕ → S → Type 0) → List ℕ → S → Type 0
  before f = wp A S n (Fine A S n InRange) does f

  -- a loop of one turn, by what holds before each iteration, where m of them come and the registers
  -- are those of y
  pub each : (r : ℕ) (x k : FlowOf A) (Q : List ℕ → S → Type 0) (X : Type 0) (at : X → ℕ → List ℕ)
      (I : X → ℕ → S → Type 0) → ((y : X) (m : ℕ) → slice_set (at y (suc m)) r m ≡ at y m)
      → ((y : X) (m : ℕ) (s : S) (R : List ℕ → S → Type 0) → I y (suc m) s
      → ((z : X) (t : S) → I z m t → R (at z m) t) → before x R (at y m) s)
      → ((y : X) (s : S) → I y 0 s → before k Q (at y 0) s)
      → (y : X) (m : ℕ) (s : S) → slice_index (at y m) r ≡ m → m ≤ n → I y m s
      → before (Loop r (Last x) k) Q (at y m) s
  each r x k Q X at I sets step ends y m s is le i =
      wp_loop A S n (Fine A S n InRange) does r (Last x) J k Q (at y m) s (omega (arith, is, le)) next
      (subst (λ c. J (Last x) c (at y m) s) (sym is) (y, refl, i))
      (λ ts g t j. subst (λ l. before k Q l t) (sym j.1) (ends j.0 t j.2))
    where
      J : TurnsOf A → ℕ → List ℕ → S → Type 0
      J ts m g s = (y : X) × (g ≡ at y m) × I y m s

      next : (m : ℕ) (g : List ℕ) (s : S) (R : List ℕ → S → Type 0) → J (Last x) (suc m) g s
          → ((h : List ℕ) (t : S) → J (Last x) m h t → R h t) → before x R (slice_set g r m) s
      next m g s R j go = subst (λ l. before x R (slice_set l r m) s) (sym j.1)
          (subst (λ l. before x R l s) (sym (sets j.0 m))
          (step j.0 m s R j.2 (λ z t i. go (at z m) t (z, refl, i))))
