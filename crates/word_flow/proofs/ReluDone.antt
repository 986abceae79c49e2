-- The flow of relu does a statement of it.
use Rattle.word_flow.proofs.Common.{◌≡◌, ℕ, zero, suc, ◌-◌, ◌*◌, ◌^◌, ◌<◌, ◌≤◌, Bool, true, false}
use Rattle.word_flow.proofs.Common.{cond, List, [], ◌∷◌, not, refl, sym, ap, ◌∙◌, arith, ◌==◌}
use Rattle.word_flow.proofs.Common.{nat_lt, majority, Word, half, Space, Extent, Full, Owner}
use Rattle.word_flow.proofs.Common.{InRoom, InCells, value_same, flow_aps, flow_total, values_from}
use Rattle.word_flow.proofs.Common.{sense_three, first_node}
use Rattle.word_lower.proofs.Bitwise.{relu_gives}
use Rattle.word_flow.proofs.Targets.{answers_of, aps_in, body_holds, Operation, Value}
use Rattle.word_flow.proofs.Targets.{OneDone, word_rooms, of_word, View, Step, stepped}
use Rattle.word_flow.proofs.Rectified.{Part, Turned, Both, Agreed, Cleared, code, relu}
use Rattle.word_flow.proofs.Rectifying.{State, InRange, does, turned_left, both_left, Over}
use Rattle.word_flow.proofs.Rectifying.{relu_does}
use Rattle.op_text.specs.declared.word_ops.WordOp.TheVariants as op
use Rattle.word_lower.proofs.Setting as set

abbrev known : List Owner
known = InRoom 0 ∷ InRoom 1 ∷ InCells 1 ∷ InCells 3 ∷ InCells 11 ∷ []

abbrev es : List Extent
es = Full ∷ Full ∷ []

abbrev w : ℕ
w = 1

abbrev view : (ℕ → Bool) → State → View
view x s (InRoom zero) v = s.y v
view x s (InRoom (suc k)) v = x v
view x s (InCells c) v = cond (c == 1) s.t1 (cond (c == 3) s.t3 s.d0)

abbrev start : View → State
start c = record {
  y = c (InRoom 0);
  t1 = c (InCells 1) 0;
  t3 = c (InCells 3) 0;
  d0 = c (InCells 11) 0;
  alive = [];
  cost = 0;
}

holds : (s0 : Space) (w0 : ℕ) (s1 : Space) (w1 : ℕ) (b : Part)
    → body_holds (word_rooms Word s0 w0 s1 w1) known aps_in w (code b) ≡ true
unfolding sense_three first_node
holds s0 w0 s1 w1 Turned = refl
holds s0 w0 s1 w1 Both = refl
holds s0 w0 s1 w1 Agreed = refl
holds s0 w0 s1 w1 Cleared = refl

module _ (n : ℕ) (x : ℕ → Bool) where
  step : (b : Part) (g : List ℕ) (s : State) → InRange n b g s → Step n es known (code b) g
      (view x s) (view x (does x b g s)) s.cost (does x b g s).cost 0 0 s.alive (does x b g s).alive
      aps_in
  unfolding values_from
  step Turned g s r = stepped (r, tt) (omega arith, (omega arith, tt)) s.alive refl refl refl
      (λ d. refl) refl refl
  step Both g s r = stepped (r.0, (omega arith, (omega arith, tt)))
      (r.0, (omega arith, (omega arith, tt))) turned_left r.1 refl refl (λ d. refl) refl refl
  step Agreed g s r = stepped (r.0, (omega arith, (omega arith, tt)))
      (r.0, (omega arith, (omega arith, tt))) both_left r.1 refl refl (λ d. refl) refl refl
  step Cleared g s r = stepped tt (r, tt) s.alive refl refl refl (λ d. refl) refl refl

-- the number itself below the half, and else 0
relu_is : (y x : ℕ → Bool) (n : ℕ) → 0 < n
    → ((v : ℕ) → v < n → y v ≡ majority false (x v) (not (x (n - 1))))
    → set.number y n ≡ cond (nat_lt (set.number x n) (half n)) (set.number x n) 0
relu_is y x zero some h = absurd (omega (arith, some))
relu_is y x (suc m) some h =
    let one : suc m - 1 ≡ m = omega arith in
    value_same y (λ v. majority false (x v) (not (x m))) (suc m)
    (λ v lv. h v lv ∙ ap (λ k. majority false (x v) (not (x k))) one)
    ∙ relu_gives x m
    ∙ ap (λ k. cond (nat_lt (set.number x (suc m)) (2 ^ k)) (set.number x (suc m)) 0) (sym one)

few : (n : ℕ) → 0 < n → flow_total op.Relu n ≤ 3 * n
few n some = grind (arith, some)

operation : Operation op.Relu Part code relu es known aps_in (flow_aps op.Relu) w
    (Value op.Relu Word 0 (1 ∷ []))
operation = record {
  answers = λ n some small c. (let x = c (InRoom 1) in
      answers_of State (InRange n) (does x) (view x) (λ s. s.cost) (λ s. 0) (λ s. s.alive) (step n x)
      (start c) refl refl refl refl (λ g s. Over n some small x s)
      (relu_does n some small x (start c) refl)
      (λ g s q. (relu_is s.y x n some q.0, q.1, refl)));
  aps = λ n. omega arith;
  cheap = λ n some. omega (arith, few n some);
}

pub relu_done : OneDone op.Relu
relu_done = of_word Word operation holds (λ s0 w0 s1 w1. refl) refl refl
    (λ s0 w0 s1 w1 fb fw. refl)
