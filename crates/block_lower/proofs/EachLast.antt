-- The rounds of a start, of a body at each position but the top one, and of another body there.
use Rattle.block_lower.proofs.Common.{◌≡◌, ℕ, zero, suc, ◌+◌, ◌*◌, ◌<◌, ◌≤◌, Bool, true, false}
use Rattle.block_lower.proofs.Common.{cond, List, [], ◌∷◌, refl, ap, ◌∙◌, append-nil, arith, ◌==◌}
use Rattle.block_lower.proofs.Common.{sum_by, AllByRecursion, list_all, range_with_len, and_from}
use Rattle.block_lower.proofs.Common.{ne_eqb, sum_by-cons, FlowOf, RoundOf, flow_rounds, chained}
use Rattle.block_lower.proofs.Common.{left_by}
use Rattle.std.specs.Prelude.{nat_le}
use Rattle.std.proofs.lemmas.Bool.{le-leb}
use Rattle.bit_rows.specs.declared.TheConstants.{WIDTH_MAX}
use Rattle.loop_ir.specs.declared.ir.Move.TheVariants.{AddI}
use Rattle.loop_ir.specs.Plain.{Block}
use Rattle.loop_ir.specs.Flows.{RunOf, join, cycle, run, acts, zeros}
use Rattle.loop_ir.specs.Flows.FlowOf.{End, Do, Put, If}
use Rattle.loop_ir.specs.Flows.TurnsOf.{Last}
use Rattle.loop_ir.specs.FlowTests.{is_event_safe, widths}
use Rattle.loop_ir.specs.Loops.{rounds_in}
use Rattle.loop_ir.specs.Chains.{finds}
use Rattle.block_lower.specs.Held.{each_last}

-- the registers at a position that has so many after it
abbrev pub regs_at : ℕ → ℕ → List ℕ
regs_at i m = i ∷ m ∷ 0 ∷ 0 ∷ 0 ∷ 0 ∷ 0 ∷ 0 ∷ []

-- the round of a body there
abbrev pub round_with : {A : Type 0} → A → ℕ → ℕ → RoundOf A
round_with b i m = record { part = b; i = 0; regs = regs_at i m }

-- the rounds from a position on
abbrev pub from_on : {A : Type 0} → A → A → ℕ → ℕ → List (RoundOf A)
from_on each last i zero = round_with last i 0 ∷ []
from_on each last i (suc m) = round_with each i (suc m) ∷ from_on each last (i + 1) m

module _ {A : Type 0} (each last : A) (n : ℕ) where
  abbrev turn : FlowOf A
  turn = If 1 (Do each End) (Do last End) (Put (AddI 0 1) End)

  -- what the loop does from a position on
  abbrev left : ℕ → List ℕ → RunOf A
  left count g = cycle 1 (acts n (Last turn)) (acts n (Last turn)) count g

  -- what it does at a position, by whether that is the top one
  abbrev chosen : Bool → ℕ → ℕ → RunOf A
  chosen top i m = join (cond top (run n (Do last End) (regs_at i m))
      (run n (Do each End) (regs_at i m))) (run n (Put (AddI 0 1) End))

  some : (m : ℕ) → (suc m == 0) ≡ false
  some m = ne_eqb (suc m) 0 (λ z. absurd (omega (arith, z)))

  rounds_left : (i m x : ℕ) → rounds_in (left (suc m) (regs_at i x)).events ≡ from_on each last i m
  rounds_left i zero x = refl
  rounds_left i (suc m) x =
      ap (λ top. rounds_in (join (chosen top i (suc m)) (left (suc m))).events) (some m)
      ∙ ap (λ rs. round_with each i (suc m) ∷ rs) (rounds_left (i + 1) m (suc m))

  safe_left : (i m x : ℕ) → i + m < 1023
      → list_all (is_event_safe n) (left (suc m) (regs_at i x)).events ≡ true
  safe_left i zero x l = and_from (nat_le (i + 1) 1023) true (le-leb (i + 1) 1023 (omega (arith, l)))
      refl
  safe_left i (suc m) x l =
      ap (λ top. list_all (is_event_safe n) (join (chosen top i (suc m)) (left (suc m))).events)
      (some m)
      ∙ and_from (nat_le (i + 1) 1023) _ (le-leb (i + 1) 1023 (omega (arith, l)))
      (safe_left (i + 1) m (suc m) (omega (arith, l)))

module _ {A : Type 0} (start each last : A) where
  -- the rounds at a width that has so many positions above the lowest
  pub rounds_are : (m : ℕ) → flow_rounds (suc m) (each_last start each last)
      ≡ round_with start 0 0 ∷ from_on each last 0 m
  rounds_are m =
      let l = left each last (suc m) (suc m) (regs_at 0 (suc m)) in
      ap (λ es. round_with start 0 0 ∷ rounds_in es) (append-nil l.events)
      ∙ ap (λ rs. round_with start 0 0 ∷ rs) (rounds_left each last (suc m) 0 m (suc m))

  safe_at : (m : ℕ) → suc m ≤ WIDTH_MAX → list_all (is_event_safe (suc m))
      (run (suc m) (each_last start each last) zeros).events ≡ true
  safe_at m l =
      let s = left each last (suc m) (suc m) (regs_at 0 (suc m)) in
      and_from (nat_le (suc m) (suc m)) _ (le-leb (suc m) (suc m) (omega arith))
      (ap (λ es. list_all (is_event_safe (suc m)) es) (append-nil s.events)
      ∙ safe_left each last (suc m) 0 m (suc m) (omega (arith, l)))

-- a test of each width
range_all : (p : ℕ → Bool) (a count : ℕ)
    → ((n : ℕ) → a ≤ n → n < a + count → p n ≡ true) → list_all p (range_with_len a count) ≡ true
range_all p a zero h = refl
range_all p a (suc k) h = and_from (p a) (list_all p (range_with_len (a + 1) k))
    (h a (omega arith) (omega arith))
    (range_all p (a + 1) k (λ n le lt. h n (omega (arith, le)) (omega (arith, lt))))

pub every_width : (p : ℕ → Bool) → ((m : ℕ) → suc m ≤ WIDTH_MAX → p (suc m) ≡ true)
    → list_all p widths ≡ true
every_width p h = range_all p 1 WIDTH_MAX by
  where
    by : (n : ℕ) → 1 ≤ n → n < 1 + WIDTH_MAX → p n ≡ true
    by zero le lt = absurd (omega (arith, le))
    by (suc m) le lt = h m (omega (arith, lt))

pub always_safe : {A : Type 0} (start each last : A)
    → list_all (λ n. list_all (is_event_safe n) (run n (each_last start each last) zeros).events)
    widths ≡ true
always_safe start each last = every_width
    (λ n. list_all (is_event_safe n) (run n (each_last start each last) zeros).events)
    (safe_at start each last)

-- what they add up to
pub sum_from : {A : Type 0} (f : A → ℕ) (each last : A) (i m : ℕ)
    → sum_by (λ (r : RoundOf A). f r.part) (from_on each last i m) ≡ m * f each + f last
sum_from {A = A} f each last i zero =
    let a = sum_by-cons (λ (r : RoundOf A). f r.part) (round_with last i 0) [] in omega (arith, a)
sum_from {A = A} f each last i (suc m) =
    let a = sum_by-cons (λ (r : RoundOf A). f r.part) (round_with each i (suc m))
    (from_on each last (i + 1) m) in
    let e = sum_from f each last (i + 1) m in
    omega (arith, a, e)

-- what holds of all
pub all_from : {A : Type 0} (P : RoundOf A → Type 0) (each last : A) (n i m : ℕ) → i + m + 1 ≡ n
    → ((j k : ℕ) → j + k + 1 ≡ n → P (round_with each j k) × P (round_with last j k))
    → AllByRecursion P (from_on each last i m)
all_from P each last n i zero at h = ((h i 0 at).1, tt)
all_from P each last n i (suc m) at h =
    ((h i (suc m) at).0, all_from P each last n (i + 1) m (omega (arith, at)) h)

-- each body finds its states
module _ (each last : Block) (alike : (alive : List ℕ) → finds alive last ≡ finds alive each)
    (again : finds (left_by each) each ≡ true) where
  pub chain_from : (alive : List ℕ) → finds alive each ≡ true → (i m : ℕ)
      → chained alive (from_on each last i m) ≡ true
  chain_from alive h i zero = and_from (finds alive last) true (alike alive ∙ h) refl
  chain_from alive h i (suc m) = and_from (finds alive each) _ h
      (chain_from (left_by each) again (i + 1) m)
