-- Half of a number, and whether one is left, by a loop of two turns without a body.
use Rattle.word_flow.proofs.Common.{slice_index, slice_set, TurnsOf, EventOf, Counted, wp_loop, ◌≡◌}
use Rattle.word_flow.proofs.Common.{FlowOf, IsSafe, subst, arith, Moved, Claim, List, refl, SetI, ℕ}
use Rattle.word_flow.proofs.Common.{AddI, Loop, Last, Turn, suc, ◌+◌, ◌*◌, ◌≤◌, sym, End, Put, wp}
use Rattle.loop_ir.specs.declared.ir.Move.{Move}
use Rattle.word_flow.proofs.Loops.{◌▹◌, regs}

-- half of what register 1 holds, which it loses, comes into register 2, and what is left into 3
abbrev pub halve : {A : Type 0} → FlowOf A → FlowOf A
halve k = Put (SetI 2 0) (Put (SetI 3 0) (Loop 1 (Turn (Put (SetI 3 1) End)
    (Last (Put (SetI 3 0) (Put (AddI 2 1) End)))) k))

-- wherever a safe move is fine, and so is a loop of no more iterations than the width
module _ (A S : Type 0) (n : ℕ) (F : EventOf A → S → Type 0) (does : A → List ℕ → S → S)
    (safe : (m : Move) (g : List ℕ) (s : S) → (n ≤ 128 → IsSafe m g) → F (Moved m g) s)
    (few : (r : ℕ) (g : List ℕ) (s : S) → slice_index g r ≤ n → F (Counted r g) s) where
  abbrev Asked : Type 1
  Asked = Claim A S n F does

  abbrev W : FlowOf A → Asked → Asked
  W f = wp A S n F does f

  pub halved : (o e h0 p0 a c w j : ℕ) (k : FlowOf A) (Q : Asked) (s : S) → e ≤ n
      → ((h p : ℕ) → p ≤ 1 → 2 * h + p ≡ e → W k Q (regs o 0 h p a c w j) s)
      → W (halve k) Q (regs o e h0 p0 a c w j) s
  halved o e h0 p0 a c w j k Q s le f = safe (SetI 2 0) (regs o e h0 p0 a c w j) s (λ small. tt)
      ▹ safe (SetI 3 0) (regs o e 0 p0 a c w j) s (λ small. tt)
      ▹ wp_loop A S n F does 1 turns I k Q (regs o e 0 0 a c w j) s
      (few 1 (regs o e 0 0 a c w j) s le) (odd_one, even_one) (0, refl, refl, omega arith) ends
    where
      last : FlowOf A
      last = Put (SetI 3 0) (Put (AddI 2 1) End)

      turns : TurnsOf A
      turns = Turn (Put (SetI 3 1) End) (Last last)

      I : TurnsOf A → ℕ → Asked
      I (Turn x ts) m g t = (h : ℕ) × (t ≡ s) × (g ≡ regs o m h 0 a c w j) × (2 * h + m ≡ e)
      I (Last x) m g t = (h : ℕ) × (t ≡ s) × (g ≡ regs o m h 1 a c w j) × (2 * h + 1 + m ≡ e)

      odd_one : (m : ℕ) (g : List ℕ) (t : S) (R : Asked) → I turns (suc m) g t
          → ((h : List ℕ) (t : S) → I (Last last) m h t → R h t)
          → W (Put (SetI 3 1) End) R (slice_set g 1 m) t
      odd_one m g t R i f = subst (λ l. W (Put (SetI 3 1) End) R (slice_set l 1 m) t) (sym i.2) (
        safe (SetI 3 1) (regs o m i.0 0 a c w j) t (λ small. tt),
        f (regs o m i.0 1 a c w j) t (i.0, i.1, refl, omega (arith, i.3)),
      )

      even_one : (m : ℕ) (g : List ℕ) (t : S) (R : Asked) → I (Last last) (suc m) g t
          → ((h : List ℕ) (t : S) → I turns m h t → R h t) → W last R (slice_set g 1 m) t
      even_one m g t R i f = subst (λ l. W last R (slice_set l 1 m) t) (sym i.2)
          (safe (SetI 3 0) (regs o m i.0 1 a c w j) t (λ small. tt)
          ▹ safe (AddI 2 1) (regs o m i.0 0 a c w j) t (λ small. omega (arith, i.3, le, small))
          ▹ f (regs o m (i.0 + 1) 0 a c w j) t (i.0 + 1, i.1, refl, omega (arith, i.3)))

      ends : (ts : TurnsOf A) (g : List ℕ) (t : S) → I ts 0 g t → W k Q g t
      ends (Turn x ts) g t i = subst (λ l. W k Q l t) (sym i.2)
          (subst (W k Q (regs o 0 i.0 0 a c w j)) (sym i.1)
          (f i.0 0 (omega arith) (omega (arith, i.3))))
      ends (Last x) g t i = subst (λ l. W k Q l t) (sym i.2)
          (subst (W k Q (regs o 0 i.0 1 a c w j)) (sym i.1)
          (f i.0 1 (omega arith) (omega (arith, i.3))))
