-- shl1 and shr1 as one flow: its bodies, how they follow one another, and what they do.
use Rattle.word_flow.proofs.Common.{◌≡◌, ℕ, suc, ◌+◌, ◌-◌, ◌<◌, ◌≤◌, Bool, true, false, List, []}
use Rattle.word_flow.proofs.Common.{◌∷◌, refl, sym, ◌∙◌, subst, arith, slice_index, SetT, SubI}
use Rattle.word_flow.proofs.Common.{FlowOf, zeros, End, Do, Put, Loop, Last, Marked, coded_of}
use Rattle.word_flow.specs.declared.shift.TheConstants.{CLEARS_LOWEST, CLEARS_TOP, UP, DOWN}
use Rattle.word_flow.proofs.Counting.{put, put_same, put_other}
use Rattle.word_flow.proofs.Loops.{◌▹◌, before, each}

-- the bodies: a row is cleared, and a bit comes into the next row
pub data Part : Type 0 where
  Cleared : Part
  Moved : Part

-- the registers of the row that a bit comes from and of that into which it comes: 0 is the lower one
abbrev pub from : Bool → ℕ
from true = 0
from false = 1

abbrev pub into : Bool → ℕ
into true = 1
into false = 0

-- what each reads, computes and writes, and its command, where bits go up or down
abbrev pub code : Bool → Part → Marked
code true Cleared = coded_of CLEARS_LOWEST
code false Cleared = coded_of CLEARS_TOP
code true Moved = coded_of UP
code false Moved = coded_of DOWN

abbrev pub moves : FlowOf Part
moves = Do Moved (Put (SubI 1 1) End)

abbrev pub shift : FlowOf Part
shift = Put (SetT 0) (Put (SetT 1) (Do Cleared (Loop 0 (Last moves) End)))

-- the target's rows, and the commands so far
pub record State : Type 0 where
  pub y : ℕ → Bool
  pub cost : ℕ

abbrev pub at : List ℕ → ℕ → ℕ
at g r = slice_index g r

-- the row that is cleared
abbrev pub edge : Bool → List ℕ → ℕ
edge true g = 0
edge false g = at g 1

abbrev pub does : Bool → (ℕ → Bool) → Part → List ℕ → State → State
does up x Cleared g t = record { y = put t.y (edge up g) false; cost = t.cost + 1 }
does up x Moved g t = record { y = put t.y (at g (into up)) (x (at g (from up))); cost = t.cost + 1 }

abbrev pub InRange : ℕ → Bool → Part → List ℕ → State → Type 0
InRange n up Cleared g t = edge up g < n
InRange n up Moved g t = (at g (from up) < n) × (at g (into up) < n)

abbrev regs : ℕ → ℕ → List ℕ
regs a b = a ∷ b ∷ 0 ∷ 0 ∷ 0 ∷ 0 ∷ 0 ∷ 0 ∷ []

-- of a row and the one above it, that which a bit comes from, and that into which it comes
abbrev pub source : Bool → ℕ → ℕ
source up i = at (regs i (suc i)) (from up)

abbrev pub target : Bool → ℕ → ℕ
target up i = at (regs i (suc i)) (into up)

-- the row that is cleared, and that each other one has its neighbour's bit, from this position on
pub record Shifted (n : ℕ) (up : Bool) (x : ℕ → Bool) (m : ℕ) (t : State) : Type 0 where
  pub cleared : t.y (edge up (regs (n - 1) (n - 1))) ≡ false
  pub moved : (i : ℕ) → m ≤ i → suc i < n → t.y (target up i) ≡ x (source up i)

source_below : (n : ℕ) (up : Bool) (i : ℕ) → suc i < n → source up i < n
source_below n true i lt = omega (arith, lt)
source_below n false i lt = lt

target_below : (n : ℕ) (up : Bool) (i : ℕ) → suc i < n → target up i < n
target_below n true i lt = lt
target_below n false i lt = omega (arith, lt)

edge_below : (n : ℕ) (up : Bool) → 0 < n → edge up (regs (n - 1) (n - 1)) < n
edge_below n true lt = lt
edge_below n false lt = omega (arith, lt)

target_once : (up : Bool) (i j : ℕ) → target up i ≡ target up j → i ≡ j
target_once true i j e = omega (arith, e)
target_once false i j e = e

edge_apart : (n : ℕ) (up : Bool) (i : ℕ) → suc i < n → edge up (regs (n - 1) (n - 1)) ≡ target up i
    → ⊥
edge_apart n true i lt e = absurd (omega (arith, e))
edge_apart n false i lt e = absurd (omega (arith, e, lt))

module _ (n : ℕ) (some : 0 < n) (up : Bool) (x : ℕ → Bool) where
  abbrev Asked : Type 1
  Asked = List ℕ → State → Type 0

  abbrev W : FlowOf Part → Asked → Asked
  W f = before Part State n (InRange n up) (does up x) f

  -- one bit more
  more : (m : ℕ) (t : State) → suc m < n → Shifted n up x (suc m) t
      → Shifted n up x m (does up x Moved (regs m (suc m)) t)
  more m t lt old = record {
    cleared = put_other t.y (target up m) (x (source up m)) (edge up (regs (n - 1) (n - 1)))
        (edge_apart n up m lt) ∙ old.cleared;
    moved = λ i le li. grind (arith, old.moved i, target_once up i m, le, li);
  }

  pub shift_does : (t : State) → t.cost ≡ 0
      → W shift (λ g t. Shifted n up x 0 t × (t.cost ≡ n)) zeros t
  shift_does t free = tt ▹ tt ▹ edge_below n up some ▹ each Part State n (InRange n up) (does up x) 0 moves
      End
      Q ℕ (λ i m. regs m i) I (λ i m. refl) step (λ i t h. (h.3, omega (arith, h.2))) (n - 1)
      (n - 1) start refl
      (omega arith) (
        refl,
        omega (arith, some),
        omega (arith, free, some),
        record {
          cleared = put_same t.y (edge up (regs (n - 1) (n - 1))) false;
          moved = λ i le lt. absurd (omega (arith, le, lt));
        },
      )
    where
      Q : Asked
      Q = λ g t. Shifted n up x 0 t × (t.cost ≡ n)

      start : State
      start = does up x Cleared (regs (n - 1) (n - 1)) t

      I : ℕ → ℕ → State → Type 0
      I i m t = (i ≡ m) × (m < n) × (t.cost + m ≡ n) × Shifted n up x m t

      step : (i m : ℕ) (t : State) (R : Asked) → I i (suc m) t
          → ((j : ℕ) (t : State) → I j m t → R (regs m j) t) → W moves R (regs m i) t
      step i m t R h go = subst (λ k. W moves R (regs m k) t) (sym h.0)
          ((source_below n up m h.1, target_below n up m h.1) ▹ omega arith ▹ go (suc m - 1) _ (
            omega arith,
            omega (arith, h.1),
            omega (arith, h.2),
            more m t h.1 h.3,
          ))
