-- The flow of xor_red does a statement of it.
use Rattle.word_flow.proofs.Common.{◌≡◌, ℕ, zero, suc, ◌+◌, ◌*◌, Bool, true, false, cond, List, []}
use Rattle.word_flow.proofs.Common.{◌∷◌, refl, sym, ap, ◌∙◌, arith, ◌==◌, ◌%◌, Bit, ones_of}
use Rattle.word_flow.proofs.Common.{Space, Extent, Full, One, Owner, InRoom, InCells, ones_of_none}
use Rattle.word_flow.proofs.Common.{ones_of_more, flow_aps, values_from, sense_three, first_node}
use Rattle.word_flow.proofs.Targets.{answers_of, aps_in, body_holds, Operation, Value}
use Rattle.word_flow.proofs.Targets.{OneDone, word_rooms, of_word, View, Step, stepped}
use Rattle.word_flow.proofs.Numbers.{one_bit}
use Rattle.word_flow.proofs.Pairing.{State, InRange, does, ones, parity_left, Over, xor_does}
use Rattle.word_flow.proofs.Parities.{Part, Alone, LoneTwo, LoneThree, OpenTwo, OpenThree, Pair}
use Rattle.word_flow.proofs.Parities.{Ended, code, xor_red}
use Rattle.op_text.specs.declared.word_ops.WordOp.TheVariants as op
use Rattle.word_lower.proofs.Setting as set

abbrev known : List Owner
known = InRoom 0 ∷ InRoom 1 ∷ InCells 6 ∷ InCells 2 ∷ []

abbrev es : List Extent
es = One ∷ Full ∷ []

abbrev w : ℕ
w = 1

abbrev view : (ℕ → Bool) → State → View
view x s (InRoom zero) v = s.y
view x s (InRoom (suc k)) v = x v
view x s (InCells c) v = cond (c == 6) s.ns s.nt

abbrev start : View → State
start c = record {
  y = c (InRoom 0) 0;
  ns = c (InCells 6) 0;
  nt = c (InCells 2) 0;
  alive = [];
  cost = 0;
  aps = 0;
}

holds : (s0 : Space) (w0 : ℕ) (s1 : Space) (w1 : ℕ) (b : Part)
    → body_holds (word_rooms Bit s0 w0 s1 w1) known aps_in w (code b) ≡ true
unfolding sense_three first_node
holds s0 w0 s1 w1 Alone = refl
holds s0 w0 s1 w1 LoneTwo = refl
holds s0 w0 s1 w1 LoneThree = refl
holds s0 w0 s1 w1 OpenTwo = refl
holds s0 w0 s1 w1 OpenThree = refl
holds s0 w0 s1 w1 Pair = refl
holds s0 w0 s1 w1 Ended = refl

module _ (n : ℕ) (x : ℕ → Bool) where
  step : (b : Part) (g : List ℕ) (s : State) → InRange n b g s → Step n es known (code b) g
      (view x s) (view x (does x b g s)) s.cost (does x b g s).cost s.aps (does x b g s).aps s.alive
      (does x b g s).alive aps_in
  unfolding values_from
  step Alone g s r = stepped (r, tt) (omega arith, tt) s.alive refl refl refl (λ d. refl) refl refl
  step LoneTwo g s r = stepped (r.0, (r.1, tt)) (omega arith, tt) s.alive refl refl refl
      (λ d. refl) refl refl
  step LoneThree g s r = stepped (r.0, (r.1, (r.2, tt))) (omega arith, tt) s.alive refl refl refl
      (λ d. refl) refl refl
  step OpenTwo g s r = stepped (r.0, (r.1, tt)) (omega arith, (omega arith, tt)) s.alive refl refl
      refl (λ d. refl) refl refl
  step OpenThree g s r = stepped (r.0, (r.1, (r.2, tt))) (omega arith, (omega arith, tt)) s.alive
      refl refl refl (λ d. refl) refl refl
  step Pair g s r = stepped (r.0, (r.1, (omega arith, tt))) (omega arith, (omega arith, tt))
      parity_left r.2 refl refl (λ d. refl) refl refl
  step Ended g s r = stepped (r.0, (r.1, (omega arith, (omega arith, tt)))) (omega arith, tt)
      parity_left r.2 refl refl (λ d. refl) refl refl

odd_is : (b : Bool) (q k : ℕ) → set.bit b + 2 * q ≡ k → set.bit b ≡ k % 2
odd_is true q k e = omega (arith, e)
odd_is false q k e = omega (arith, e)

-- how many of the bits are set
ones_are : (x : ℕ → Bool) (n : ℕ) → ones x n ≡ ones_of n (set.number x n)
ones_are x zero = sym (ones_of_none x)
ones_are x (suc n) = ap (λ z. z + set.bit (x n)) (ones_are x n) ∙ sym (ones_of_more x n)

operation : Operation op.XorRed Part code xor_red es known aps_in (flow_aps op.XorRed) w
    (Value op.XorRed Bit 0 (1 ∷ []))
operation = record {
  answers = λ n some small c. (let x = c (InRoom 1) in
      answers_of State (InRange n) (does x) (view x) (λ s. s.cost) (λ s. s.aps) (λ s. s.alive) (step n x)
      (start c) refl refl refl refl (Over n some small x) (xor_does n some small x (start c) refl refl)
      (λ g s q. (
        one_bit s.y ∙ odd_is s.y q.0.0 (ones x n) q.0.1 ∙ ap (λ z. z % 2) (ones_are x n),
        q.1,
        q.2,
      )));
  aps = λ n. omega arith;
  cheap = λ n some. omega (arith, some);
}

pub xor_red_done : OneDone op.XorRed
xor_red_done = of_word Bit operation holds (λ s0 w0 s1 w1. refl) refl refl
    (λ s0 w0 s1 w1 fb fw. refl)
