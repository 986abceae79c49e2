-- The flows of shl1 and shr1 do statements of them.
use Rattle.word_flow.proofs.Common.{◌≡◌, ℕ, zero, suc, ◌-◌, ◌<◌, Bool, true, false, List, [], ◌∷◌}
use Rattle.word_flow.proofs.Common.{refl, sym, subst, arith, Word, Space, Extent, Full, Owner}
use Rattle.word_flow.proofs.Common.{InRoom, InCells, number, shl1_gives, shr1_gives, flow_aps}
use Rattle.word_flow.proofs.Common.{values_from, sense_three, first_node}
use Rattle.std.proofs.Common.{◌/◌}
use Rattle.word_flow.proofs.Answers.{Answers}
use Rattle.word_flow.proofs.Targets.{answers_of, aps_in, body_holds, Operation, Value}
use Rattle.word_flow.proofs.Targets.{OneDone, word_rooms, of_word, View, Step, stepped}
use Rattle.word_flow.proofs.Shifting.{Part, Cleared, Moved, code, shift, State, InRange, does}
use Rattle.word_flow.proofs.Shifting.{Shifted, shift_does}
use Rattle.op_text.specs.declared.word_ops.WordOp.TheVariants as op

abbrev known : List Owner
known = InRoom 0 ∷ InRoom 1 ∷ []

abbrev es : List Extent
es = Full ∷ Full ∷ []

abbrev w : ℕ
w = 1

abbrev view : (ℕ → Bool) → State → View
view x s (InRoom zero) v = s.y v
view x s (InRoom (suc k)) v = x v
view x s (InCells c) v = false

holds : (up : Bool) (s0 : Space) (w0 : ℕ) (s1 : Space) (w1 : ℕ) (b : Part)
    → body_holds (word_rooms Word s0 w0 s1 w1) known aps_in w (code up b) ≡ true
unfolding sense_three first_node
holds true s0 w0 s1 w1 Cleared = refl
holds true s0 w0 s1 w1 Moved = refl
holds false s0 w0 s1 w1 Cleared = refl
holds false s0 w0 s1 w1 Moved = refl

step : (n : ℕ) (up : Bool) (x : ℕ → Bool) (b : Part) (g : List ℕ) (s : State) → InRange n up b g s
    → Step n es known (code up b) g (view x s) (view x (does up x b g s)) s.cost
    (does up x b g s).cost 0 0 [] [] aps_in
unfolding values_from
step n true x Cleared g s r = stepped tt (r, tt) [] refl refl refl (λ d. refl) refl refl
step n false x Cleared g s r = stepped tt (r, tt) [] refl refl refl (λ d. refl) refl refl
step n true x Moved g s r = stepped (r.0, tt) (r.1, tt) [] refl refl refl (λ d. refl) refl refl
step n false x Moved g s r = stepped (r.0, tt) (r.1, tt) [] refl refl refl (λ d. refl) refl refl

answers : (up : Bool) (n : ℕ) → 0 < n → (c : View) (Post : View → Type 0)
    → ((s : State) → Shifted n up (c (InRoom 1)) 0 s → Post (view (c (InRoom 1)) s))
    → Answers Part (code up) shift es known aps_in n c n 0 Post
answers up n some c Post gives = let x = c (InRoom 1) in
    answers_of State (InRange n up) (does up x) (view x) (λ s. s.cost) (λ s. 0) (λ s. []) (step n up x)
    (record { y = c (InRoom 0); cost = 0 }) refl refl refl refl
    (λ g s. Shifted n up x 0 s × (s.cost ≡ n)) (shift_does n some up x _ refl)
    (λ g s q. (gives s q.0, q.1, refl))

shl1 : Operation op.Shl1 Part (code true) shift es known aps_in (flow_aps op.Shl1) w
    (Value op.Shl1 Word 0 (1 ∷ []))
shl1 = record {
  answers = λ n some small c. answers true n some c (Value op.Shl1 Word 0 (1 ∷ []) n c) (λ s h.
      shl1_gives (c (InRoom 1)) s.y n h.cleared (λ i lt. h.moved i (omega arith) lt));
  aps = λ n. omega arith;
  cheap = λ n some. omega arith;
}

shr1 : Operation op.Shr1 Part (code false) shift es known aps_in (flow_aps op.Shr1) w
    (Value op.Shr1 Word 0 (1 ∷ []))
shr1 = record {
  answers = λ n some small c. answers false n some c (Value op.Shr1 Word 0 (1 ∷ []) n c) (λ s h.
      (let all : n ≡ suc (n - 1) = omega (arith, some) in
      let x = c (InRoom 1) in
      subst (λ k. number s.y k ≡ number x k / 2) (sym all)
      (shr1_gives x s.y (n - 1) h.cleared (λ i lt. h.moved i (omega arith) (omega (arith, lt))))));
  aps = λ n. omega arith;
  cheap = λ n some. omega arith;
}

pub shl1_done : OneDone op.Shl1
shl1_done = of_word Word shl1 (holds true) (λ s0 w0 s1 w1. refl) refl refl
    (λ s0 w0 s1 w1 fb fw. refl)

pub shr1_done : OneDone op.Shr1
shr1_done = of_word Word shr1 (holds false) (λ s0 w0 s1 w1. refl) refl refl
    (λ s0 w0 s1 w1 fb fw. refl)
