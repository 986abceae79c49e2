-- The flow of bitcount does a statement of it.
use Rattle.word_flow.proofs.Common.{◌≡◌, ℕ, zero, suc, ◌+◌, ◌*◌, ◌<◌, ◌≤◌, Bool, true, false, cond}
use Rattle.word_flow.proofs.Common.{List, [], ◌∷◌, refl, sym, ap, ◌∙◌, arith, ◌==◌, ◌/◌, Word}
use Rattle.word_flow.proofs.Common.{Space, Extent, Full, Owner, InRoom, InCells, flow_aps}
use Rattle.word_flow.proofs.Common.{flow_total, digits, values_from, sense_three, first_node}
use Rattle.word_flow.proofs.Targets.{answers_of, aps_in, body_holds, Operation, Value}
use Rattle.word_flow.proofs.Targets.{OneDone, word_rooms, of_word, View, Step, stepped}
use Rattle.word_flow.proofs.Counting.{State, InRange, does, loads, left, number, tally}
use Rattle.word_flow.proofs.Counting.{bitcount_does}
use Rattle.word_flow.proofs.Counts.{Part, Copied, Three, Two, Next, Carried, Summed, Cleared, code}
use Rattle.word_flow.proofs.Counts.{bitcount}
use Rattle.word_flow.proofs.Numbers.{twice_below, tally_ones, square}
use Rattle.word_flow.proofs.Totals.{total_is}
use Rattle.op_text.specs.declared.word_ops.WordOp.TheVariants as op

abbrev known : List Owner
known = InRoom 0 ∷ InRoom 1 ∷ InCells 9 ∷ InCells 10 ∷ InCells 1 ∷ InCells 12 ∷ InCells 6 ∷ []

abbrev es : List Extent
es = Full ∷ Full ∷ []

abbrev w : ℕ
w = 1

abbrev view : (ℕ → Bool) → State → View
view x s (InRoom zero) v = s.y v
view x s (InRoom (suc k)) v = x v
view x s (InCells c) v = cond (c == 9) s.b (cond (c == 10) s.nc (cond (c == 1) s.a
    (cond (c == 12) s.na s.ns)))

abbrev start : View → State
start c = record {
  y = c (InRoom 0);
  b = c (InCells 9) 0;
  a = c (InCells 1) 0;
  na = c (InCells 12) 0;
  nc = c (InCells 10) 0;
  ns = c (InCells 6) 0;
  alive = [];
  cost = 0;
}

holds : (s0 : Space) (w0 : ℕ) (s1 : Space) (w1 : ℕ) (b : Part)
    → body_holds (word_rooms Word s0 w0 s1 w1) known aps_in w (code b) ≡ true
unfolding sense_three first_node
holds s0 w0 s1 w1 Copied = refl
holds s0 w0 s1 w1 (Three true) = refl
holds s0 w0 s1 w1 (Three false) = refl
holds s0 w0 s1 w1 (Two true) = refl
holds s0 w0 s1 w1 (Two false) = refl
holds s0 w0 s1 w1 (Next true) = refl
holds s0 w0 s1 w1 (Next false) = refl
holds s0 w0 s1 w1 Carried = refl
holds s0 w0 s1 w1 Summed = refl
holds s0 w0 s1 w1 Cleared = refl

module _ (n : ℕ) (x : ℕ → Bool) where
  step : (b : Part) (g : List ℕ) (s : State) → InRange n b g s → Step n es known (code b) g
      (view x s) (view x (does x b g s)) s.cost (does x b g s).cost 0 0 s.alive (does x b g s).alive
      aps_in
  unfolding values_from
  step Copied g s r = stepped (r, tt) (r, tt) s.alive refl refl refl (λ d. refl) refl refl
  step (Three true) g s r = stepped (r.0, (r.1, (r.2, tt)))
      (omega arith, (omega arith, (omega arith, (omega arith, tt)))) s.alive refl refl refl
      (λ d. refl) refl refl
  step (Three false) g s r = stepped (r.0, (r.1, (r.2, tt)))
      (omega arith, (omega arith, (omega arith, (omega arith, tt)))) s.alive refl refl refl
      (λ d. refl) refl refl
  step (Two true) g s r = stepped (r.0, (r.1, tt))
      (omega arith, (omega arith, (omega arith, (omega arith, tt)))) s.alive refl refl refl
      (λ d. refl) refl refl
  step (Two false) g s r = stepped (r.0, (r.1, tt))
      (omega arith, (omega arith, (omega arith, (omega arith, tt)))) s.alive refl refl refl
      (λ d. refl) refl refl
  step (Next true) g s r = stepped (r.0, (r.1, (omega arith, tt)))
      (omega arith, (omega arith, (omega arith, (omega arith, tt)))) left r.2 refl refl
      (λ d. refl) refl refl
  step (Next false) g s r = stepped (r.0, (r.1, (omega arith, tt)))
      (omega arith, (omega arith, (omega arith, (omega arith, tt)))) left r.2 refl refl
      (λ d. refl) refl refl
  step Carried g s r = stepped (omega arith, (omega arith, (omega arith, (omega arith, tt))))
      (r.0, (omega arith, tt)) loads r.1 refl refl (λ d. refl) refl refl
  step Summed g s r = stepped (omega arith, tt) (r.0, tt) left r.1 refl refl (λ d. refl) refl refl
  step Cleared g s r = stepped tt (r, tt) s.alive refl refl refl (λ d. refl) refl refl

digits_few : (k e : ℕ) → digits k e ≤ k
digits_few zero e = omega arith
digits_few (suc k) e = by (e == 0) (digits_few k (e / 2))
  where
    by : (b : Bool) → digits k (e / 2) ≤ k → cond b 0 (1 + digits k (e / 2)) ≤ suc k
    by true h = omega arith
    by false h = omega (arith, h)

few : (n : ℕ) → 0 < n → flow_total op.Bitcount n ≤ 22 * (n * n) + 4 * n
few n some = grind (arith, some, digits_few n n, twice_below n)

at_least : (n : ℕ) → 0 < n → (n ≡ 1 → ⊥) → 1 < n
at_least n some ne = grind (arith, some, ne)

operation : Operation op.Bitcount Part code bitcount es known aps_in (flow_aps op.Bitcount) w
    (Value op.Bitcount Word 0 (1 ∷ []))
operation = record {
  answers = λ n some small c. (let x = c (InRoom 1) in let total = flow_total op.Bitcount n in
      answers_of State (InRange n) (does x) (view x) (λ s. s.cost) (λ s. 0) (λ s. s.alive) (step n x)
      (start c) refl refl refl refl (λ g s. (number s.y n ≡ tally x 0 n) × (s.cost ≡ total))
      (bitcount_does n some small x total 0 0 0 0 0 0 0 0 (start c)
      (λ many. (let e = total_is n (at_least n some many) in omega (arith, e)))
      (λ one. ap (flow_total op.Bitcount) (sym one))) (λ g s q. (q.0 ∙ tally_ones x n, q.1, refl)));
  aps = λ n. omega arith;
  cheap = λ n some. omega (arith, few n some, square n);
}

pub count_done : OneDone op.Bitcount
count_done = of_word Word operation holds (λ s0 w0 s1 w1. refl) refl refl
    (λ s0 w0 s1 w1 fb fw. refl)
