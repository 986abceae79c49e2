-- The flow of mul does a statement of it.
use Rattle.word_flow.proofs.Common.{◌≡◌, ℕ, zero, suc, ◌+◌, ◌-◌, ◌*◌, ◌<◌, ◌≤◌, Bool, true, false}
use Rattle.word_flow.proofs.Common.{cond, List, [], ◌∷◌, None, refl, sym, ap, ◌∙◌}
use Rattle.word_flow.proofs.Common.{arith, ◌==◌, ◌/◌, ◌%◌, Word, Space, Room, Extent, Full, One}
use Rattle.word_flow.proofs.Common.{Owner, InRoom, InCells, room_of, scratch_bit, slot, name_at}
use Rattle.word_flow.proofs.Common.{flow_total, flow_aps, values_from, sense_three, first_node}
use Rattle.word_flow.proofs.Targets.{answers_of, aps_in, body_holds, Operation, Value}
use Rattle.word_flow.proofs.Targets.{OneDone, of_words, one_target, word_value, two_values, View}
use Rattle.word_flow.proofs.Targets.{Step, stepped}
use Rattle.word_flow.proofs.Computing.{stands_target, stands_arg, target_fresh}
use Rattle.word_flow.proofs.Multiplying.{State, InRange, does, pair_left, carry_left, Over}
use Rattle.word_flow.proofs.Multiplying.{mul_does}
use Rattle.word_flow.proofs.Loops.{◌▹◌}
use Rattle.word_flow.proofs.Numbers.{product_low, half_below, square}
use Rattle.word_flow.proofs.Placing.{Name, BitAt}
use Rattle.word_flow.proofs.Products.{Part, Joined, JoinedToo, Turned, First, Added, code, mul}
use Rattle.word_flow.proofs.Counting.{number}
use Rattle.op_text.specs.declared.word_ops.WordOp.TheVariants as op

abbrev known : List Owner
known = InRoom 0 ∷ InRoom 1 ∷ InRoom 2 ∷ InRoom 3 ∷ InCells 0 ∷ InCells 3 ∷ InCells 4 ∷ []

abbrev es : List Extent
es = Full ∷ Full ∷ Full ∷ One ∷ []

abbrev w : ℕ
w = 1

abbrev view : (ℕ → Bool) → (ℕ → Bool) → State → View
view x z s (InRoom zero) v = s.y v
view x z s (InRoom (suc zero)) v = x v
view x z s (InRoom (suc (suc zero))) v = z v
view x z s (InRoom (suc (suc (suc k)))) v = s.t
view x z s (InCells c) v = cond (c == 0) s.k (cond (c == 3) s.g s.w)

abbrev start : View → State
start c = record {
  y = c (InRoom 0);
  t = c (InRoom 3) 0;
  k = c (InCells 0) 0;
  g = c (InCells 3) 0;
  w = c (InCells 4) 0;
  alive = [];
  cost = 0;
  aps = 0;
}

abbrev rooms : Space → ℕ → Space → ℕ → Space → ℕ → ℕ → List Room
rooms s0 w0 s1 w1 s2 w2 fb = room_of true (slot s0 w0 Word) ∷ room_of false (slot s1 w1 Word)
    ∷ room_of false (slot s2 w2 Word) ∷ room_of true (scratch_bit fb) ∷ []

holds : (s0 : Space) (w0 : ℕ) (s1 : Space) (w1 : ℕ) (s2 : Space) (w2 fb : ℕ) (b : Part)
    → body_holds (rooms s0 w0 s1 w1 s2 w2 fb) known aps_in w (code b) ≡ true
unfolding sense_three first_node
holds s0 w0 s1 w1 s2 w2 fb Joined = refl
holds s0 w0 s1 w1 s2 w2 fb JoinedToo = refl
holds s0 w0 s1 w1 s2 w2 fb Turned = refl
holds s0 w0 s1 w1 s2 w2 fb First = refl
holds s0 w0 s1 w1 s2 w2 fb Added = refl

module _ (n : ℕ) (x z : ℕ → Bool) where
  step : (b : Part) (g : List ℕ) (s : State) → InRange n b g s → Step n es known (code b) g
      (view x z s) (view x z (does x z b g s)) s.cost (does x z b g s).cost s.aps
      (does x z b g s).aps s.alive (does x z b g s).alive aps_in
  unfolding values_from
  step Joined g s r = stepped (r.0, (r.1, tt)) (r.0, (omega arith, (omega arith, tt))) s.alive refl
      refl refl (λ d. refl) refl refl
  step JoinedToo g s r = stepped (r.0, (omega arith, (omega arith, tt))) (r.0, tt) pair_left r.1 refl
      refl (λ d. refl) refl refl
  step Turned g s r = stepped (r, tt) (omega arith, tt) s.alive refl refl refl (λ d. refl) refl
      (omega arith)
  step First g s r = stepped (r.0, (omega arith, (r.1, tt))) (r.1, (omega arith, tt)) s.alive refl
      refl refl (λ d. refl) refl refl
  step Added g s r = stepped (r.0, (omega arith, (r.1, (omega arith, tt)))) (r.1, (omega arith, tt))
      carry_left r.2 refl refl (λ d. refl) refl refl

-- one of two numbers in a row is even
even_product : (n : ℕ) → (h : ℕ) × (n * (n - 1) ≡ 2 * h)
even_product zero = (0, refl)
even_product (suc zero) = (0, refl)
even_product (suc (suc n)) =
    let h = even_product (suc n) in
    let e : suc n - 1 ≡ n = omega arith in
    let f : suc (suc n) - 1 ≡ suc n = omega arith in
    let g : suc n * n ≡ 2 * h.0 = ap (λ x. suc n * x) (sym e) ∙ h.1 in
    (h.0 + suc n, ap (λ x. suc (suc n) * x) f ∙ omega (arith, g))

half_product : (n : ℕ) → 2 * (n * (n - 1) / 2) ≡ n * (n - 1)
half_product n = let h = even_product n in let e = h.1 in
    let f : n * (n - 1) / 2 ≡ h.0 = ap (λ x. x / 2) e ∙ omega arith in omega (arith, e, f)

-- the commands in closed form
total_is : (n c : ℕ) → 0 < n → 2 * c + 4 ≡ 9 * (n * n) + n + 2 * (n % 2) → c ≡ flow_total op.Mul n
total_is zero c some e = absurd (omega (arith, some))
total_is (suc k) c some e =
    let h = half_product (suc k) in
    let one : suc k - 1 ≡ k = omega arith in
    let g : suc k * (suc k - 1) ≡ suc k * k = ap (λ x. suc k * x) one in
    omega (arith, e, h, g)

-- which are few
few : (n : ℕ) → 0 < n → flow_total op.Mul n ≤ 11 * (n * n) + 15 * n
few zero some = absurd (omega (arith, some))
few (suc k) some =
    let h = half_product (suc k) in
    let e : suc k - 1 ≡ k = omega arith in
    let f : suc k * (suc k - 1) ≡ suc k * k = ap (λ x. suc k * x) e in
    omega (arith, h, f)

operation : Operation op.Mul Part code mul es known aps_in (flow_aps op.Mul) w
    (Value op.Mul Word 0 (1 ∷ 2 ∷ []))
operation = record {
  answers = λ n some small c. (let x = c (InRoom 1) in let z = c (InRoom 2) in
      answers_of State (InRange n) (does x z) (view x z) (λ s. s.cost) (λ s. s.aps) (λ s. s.alive)
      (step n x z) (start c) refl refl refl refl (Over n some small x z)
      (mul_does n some small x z (start c) refl refl) (λ g s q. (
        product_low s.y n q.0.0 (number x n * number z n) q.0.1,
        total_is n s.cost some q.1,
        half_below n s.aps q.2,
      )));
  aps = λ n. omega arith;
  cheap = λ n some. omega (arith, few n some, square n);
}

pub mul_done : OneDone op.Mul
mul_done = of_words op.Mul refl (λ slots fb fw target args meets placed s0 w0 s1 w1 s2 w2 found at.
    (let t = slot s0 w0 Word in
    let a = slot s1 w1 Word in
    let b = slot s2 w2 Word in
    let fresh = target_fresh slots fb fw target None op.Mul args meets placed t found (a ∷ b ∷ []) at
    in
    let arg = stands_arg slots fb fw target None op.Mul args meets placed t found (a ∷ b ∷ []) at in
    one_target slots fb fw target op.Mul args meets placed t found (a ∷ b ∷ []) at
    (Name true target t ∷ Name false (name_at args 0) a ∷ Name false (name_at args 1) b ∷ BitAt fb ∷ [])
    (stands_target slots fb fw target None op.Mul args meets placed t found (a ∷ b ∷ []) at
    ▹ arg 0 (omega arith) ▹ arg 1 (omega arith) ▹ (0, omega arith, omega arith) ▹ tt)
    ((λ e. fresh 0 (omega arith), (λ e. fresh 1 (omega arith), (λ e. tt, tt)))
    ▹ (λ e. absurd (cc), (λ e. tt, tt)) ▹ (λ e. tt, tt) ▹ tt ▹ tt) Part code mul es refl known aps_in
    (flow_aps op.Mul) w (holds s0 w0 s1 w1 s2 w2 fb) refl 0 (1 ∷ 2 ∷ []) operation
    (omega arith) refl (λ n v. refl) (λ n. refl) (λ n. refl)
    (λ n bits. two_values _ _ _ _ (word_value n s1 w1 bits) (word_value n s2 w2 bits))))
