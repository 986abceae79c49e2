-- The flow of abs does a statement of it.
use Rattle.word_flow.proofs.Common.{◌≡◌, ℕ, zero, suc, ◌+◌, ◌-◌, ◌*◌, ◌^◌, ◌<◌, ◌≤◌, Bool, true}
use Rattle.word_flow.proofs.Common.{false, cond, List, [], ◌∷◌, not, refl, sym, ap, ◌∙◌}
use Rattle.word_flow.proofs.Common.{arith, ◌==◌, ◌%◌, nat_lt, Word, half, Space, Extent, Full}
use Rattle.word_flow.proofs.Common.{Owner, InRoom, InCells, value_below, last_sum, top_half}
use Rattle.word_flow.proofs.Common.{flow_aps, flow_total, values_from, sense_three, first_node}
use Rattle.word_flow.proofs.Absolutes.{Part, Copied, Seen, SeenLast, Negated, NegatedLast, Top}
use Rattle.word_flow.proofs.Absolutes.{code, abs}
use Rattle.word_flow.proofs.Absolute.{State, InRange, does, seen_left, last_left, Over, abs_does}
use Rattle.word_flow.proofs.Targets.{answers_of, aps_in, body_holds, Operation, Value}
use Rattle.word_flow.proofs.Targets.{OneDone, word_rooms, of_word, View, Step, stepped}
use Rattle.op_text.specs.declared.word_ops.WordOp.TheVariants as op
use Rattle.word_lower.proofs.Setting as set

abbrev known : List Owner
known = InRoom 0 ∷ InRoom 1 ∷ InCells 4 ∷ InCells 12 ∷ []

abbrev es : List Extent
es = Full ∷ Full ∷ []

abbrev w : ℕ
w = 1

abbrev view : (ℕ → Bool) → State → View
view x s (InRoom zero) v = s.y v
view x s (InRoom (suc k)) v = x v
view x s (InCells c) v = cond (c == 4) s.c s.nc

abbrev start : View → State
start c = record {
  y = c (InRoom 0);
  c = c (InCells 4) 0;
  nc = c (InCells 12) 0;
  alive = [];
  cost = 0;
  aps = 0;
}

holds : (s0 : Space) (w0 : ℕ) (s1 : Space) (w1 : ℕ) (b : Part)
    → body_holds (word_rooms Word s0 w0 s1 w1) known aps_in w (code b) ≡ true
unfolding sense_three first_node
holds s0 w0 s1 w1 Copied = refl
holds s0 w0 s1 w1 Seen = refl
holds s0 w0 s1 w1 SeenLast = refl
holds s0 w0 s1 w1 Negated = refl
holds s0 w0 s1 w1 NegatedLast = refl
holds s0 w0 s1 w1 Top = refl

module _ (n : ℕ) (x : ℕ → Bool) where
  step : (b : Part) (g : List ℕ) (s : State) → InRange n b g s → Step n es known (code b) g
      (view x s) (view x (does n x b g s)) s.cost (does n x b g s).cost s.aps (does n x b g s).aps
      s.alive (does n x b g s).alive aps_in
  unfolding values_from
  step Copied g s r = stepped (r, tt) (r, tt) s.alive refl refl refl (λ d. refl) refl (omega arith)
  step Seen g s r = stepped (r.0, (r.1, tt)) (omega arith, tt) s.alive refl refl refl (λ d. refl)
      refl refl
  step SeenLast g s r = stepped (r.0, (r.1, tt)) (omega arith, tt) s.alive refl refl refl
      (λ d. refl) refl (omega arith)
  step Negated g s r = stepped (r.0, (r.1, (omega arith, tt))) (r.0, (omega arith, tt)) seen_left r.2
      refl refl (λ d. refl) refl (omega arith)
  step NegatedLast g s r = stepped (r.0, (r.1, (omega arith, tt))) (r.0, (omega arith, tt)) seen_left
      r.2 refl refl (λ d. refl) refl (omega arith)
  step Top g s r = stepped (r.0, (omega arith, tt)) (r.0, tt) last_left r.1 refl refl (λ d. refl) refl
      (omega arith)

few : (n : ℕ) → 0 < n → flow_total op.Abs n ≤ 34 * n + 1
few n some = grind (arith, some)

-- the number itself below the half, and else its complement to 2 ^ n
abs_is : (y x : ℕ → Bool) (n : ℕ) → 0 < n
    → (x (n - 1) ≡ true → set.number y n + set.number x n ≡ 2 ^ n)
    → (x (n - 1) ≡ false → set.number y n ≡ set.number x n)
    → set.number y n ≡ cond (nat_lt (set.number x n) (half n)) (set.number x n)
    ((2 ^ n - set.number x n) % 2 ^ n)
abs_is y x zero some turned kept = absurd (omega (arith, some))
abs_is y x (suc m) some turned kept = by (x (suc m - 1)) refl
  where
    p : ℕ
    p = 2 ^ suc m

    v : ℕ
    v = set.number x (suc m)

    top : nat_lt v (half (suc m)) ≡ not (x (suc m - 1))
    top = let one : suc m - 1 ≡ m = omega arith in
        ap (λ k. nat_lt v (2 ^ k)) one ∙ top_half x m ∙ ap (λ k. not (x k)) (sym one)

    by : (b : Bool) → x (suc m - 1) ≡ b → set.number y (suc m)
        ≡ cond (nat_lt v (half (suc m))) v ((p - v) % p)
    by true e =
        let h = turned e in
        let s : set.number y (suc m) + 0 * p ≡ p - v = omega (arith, h) in
        last_sum (set.number y (suc m)) 0 p (p - v) (value_below y (suc m)) s
        ∙ ap (λ c. cond c v ((p - v) % p)) (sym (top ∙ ap not e))
    by false e = kept e ∙ ap (λ c. cond c v ((p - v) % p)) (sym (top ∙ ap not e))

operation : Operation op.Abs Part code abs es known aps_in (flow_aps op.Abs) w
    (Value op.Abs Word 0 (1 ∷ []))
operation = record {
  answers = λ n some small c. (let x = c (InRoom 1) in
      answers_of State (InRange n) (does n x) (view x) (λ s. s.cost) (λ s. s.aps) (λ s. s.alive)
      (step n x) (start c) refl refl refl refl (λ g s. Over n some small x s)
      (abs_does n some small x (start c) (λ g s. Over n some small x s) refl refl (λ g s o. o))
      (λ g s q. (abs_is s.y x n some q.0 q.1, q.2, q.3)));
  aps = λ n. omega arith;
  cheap = λ n some. omega (arith, few n some);
}

pub abs_done : OneDone op.Abs
abs_done = of_word Word operation holds (λ s0 w0 s1 w1. refl) refl refl
    (λ s0 w0 s1 w1 fb fw. refl)
