-- The flows of and_red and or_red do statements of them.
use Rattle.word_flow.proofs.Common.{◌≡◌, ℕ, zero, suc, ◌*◌, Bool, true, false, cond, List, []}
use Rattle.word_flow.proofs.Common.{inl, inr, ◌∷◌, not, refl, sym, ap, ◌∙◌, arith, ◌==◌, BodyCmd, Bit}
use Rattle.word_flow.proofs.Common.{WordOp, ◌<◌, ◌≤◌, op_ceiling, op_value, Space, Extent}
use Rattle.word_flow.proofs.Common.{Full, Owner, InRoom, InCells, flow_total, flow_aps, majority}
use Rattle.word_flow.proofs.Common.{values_from, sense_three, first_node}
use Rattle.loop_laws.specs.Rooms.{One as OneRow}
use Rattle.word_flow.proofs.Targets.{answers_of, body_holds, Operation, Value, OneDone}
use Rattle.word_flow.proofs.Targets.{word_rooms, of_word, View, Step, stepped}
use Rattle.word_flow.proofs.Numbers.{one_bit, any_gives, all_gives}
use Rattle.word_flow.proofs.Reducing.{State, InRange, does, to_left, to_right, reduction_does}
use Rattle.word_flow.proofs.Reductions.{Part, Alone, Begun, Left, Right, Ended, code, reduction}
use Rattle.word_flow.proofs.Reductions.{joined, reduction_total}
use Rattle.op_text.specs.declared.word_ops.WordOp.TheVariants as op
use Rattle.word_lower.proofs.Setting as set

abbrev known : List Owner
known = InRoom 0 ∷ InRoom 1 ∷ InCells 1 ∷ InCells 3 ∷ InCells 11 ∷ InCells 12 ∷ []

abbrev es : List Extent
es = OneRow ∷ Full ∷ []

-- each round counts as one
abbrev each_one : List BodyCmd → ℕ
each_one cmds = 1

abbrev w : ℕ
w = 0

abbrev view : (ℕ → Bool) → State → View
view x s (InRoom zero) v = s.y
view x s (InRoom (suc k)) v = x v
view x s (InCells c) v = cond (c == 1) s.w (cond (c == 3) s.u (cond (c == 11) s.nu s.nw))

abbrev start : View → State
start c = record {
  y = c (InRoom 0) 0;
  u = c (InCells 3) 0;
  w = c (InCells 1) 0;
  nu = c (InCells 11) 0;
  nw = c (InCells 12) 0;
  alive = [];
  cost = 0;
  rounds = 0;
}

holds : (c : Bool) (s0 : Space) (w0 : ℕ) (s1 : Space) (w1 : ℕ) (b : Part)
    → body_holds (word_rooms Bit s0 w0 s1 w1) known each_one w (code c b) ≡ true
unfolding sense_three first_node
holds true s0 w0 s1 w1 Alone = refl
holds true s0 w0 s1 w1 Begun = refl
holds true s0 w0 s1 w1 Left = refl
holds true s0 w0 s1 w1 Right = refl
holds true s0 w0 s1 w1 Ended = refl
holds false s0 w0 s1 w1 Alone = refl
holds false s0 w0 s1 w1 Begun = refl
holds false s0 w0 s1 w1 Left = refl
holds false s0 w0 s1 w1 Right = refl
holds false s0 w0 s1 w1 Ended = refl

module _ (n : ℕ) (x : ℕ → Bool) where
  step : (c : Bool) (b : Part) (g : List ℕ) (s : State) → InRange n b g s → Step n es known
      (code c b) g (view x s) (view x (does c x b g s)) s.cost (does c x b g s).cost s.rounds
      (does c x b g s).rounds s.alive (does c x b g s).alive each_one
  unfolding values_from
  step c Alone g s r = stepped (r, tt) (omega arith, tt) s.alive refl refl refl (λ d. refl) refl refl
  step c Begun g s r = stepped (r.0, (r.1, tt)) (omega arith, (omega arith, (omega arith, tt)))
      s.alive refl refl refl (λ d. refl) refl refl
  step c Left g s r = stepped (r.0, (omega arith, (omega arith, (omega arith, tt))))
      (omega arith, (omega arith, (omega arith, tt))) to_left r.1 refl refl (λ d. refl) refl refl
  step c Right g s r = stepped (r.0, (omega arith, (omega arith, (omega arith, tt))))
      (omega arith, (omega arith, (omega arith, tt))) to_right r.1 refl refl (λ d. refl) refl refl
  step true Ended g s (inl r) = stepped (omega arith, (omega arith, tt)) (omega arith, tt) to_left r
      refl refl (λ d. refl) refl refl
  step true Ended g s (inr r) = stepped (omega arith, (omega arith, tt)) (omega arith, tt) to_right r
      refl refl (λ d. refl) refl refl
  step false Ended g s (inl r) = stepped (omega arith, (omega arith, tt)) (omega arith, tt) to_left r
      refl refl (λ d. refl) refl refl
  step false Ended g s (inr r) = stepped (omega arith, (omega arith, tt)) (omega arith, tt) to_right r
      refl refl (λ d. refl) refl refl

abbrev red_op : Bool → WordOp
red_op true = op.OrRed
red_op false = op.AndRed

first_joins : (c b : Bool) → majority c b (not c) ≡ b
unfolding majority
first_joins c b = grind arith

next_joins : (c : Bool) (x : ℕ → Bool) (i : ℕ) → joined c x (suc i) ≡ majority c (x i) (joined c x i)
next_joins c x zero = sym (first_joins c (x 0))
next_joins c x (suc i) = refl

-- what joins all bits is the operation's value
value_is : (c : Bool) (x : ℕ → Bool) (n : ℕ)
    → set.bit (joined c x n) ≡ op_value (red_op c) n (set.number x n ∷ [])
value_is true x n = ap set.bit (any_gives x (joined true x) n refl (λ i lt. next_joins true x i))
value_is false x n = ap set.bit (all_gives x (joined false x) n refl (λ i lt. next_joins false x i))

-- and few
few_all : (n : ℕ) → 0 < n → flow_total op.AndRed n ≤ op_ceiling op.AndRed n
few_all n some = grind (arith, some)

module _ (c : Bool) (total : (n : ℕ) → reduction_total n ≡ flow_total (red_op c) n)
    (aps : (n : ℕ) → 0 * n ≡ flow_aps (red_op c) n)
    (few : (n : ℕ) → 0 < n → flow_total (red_op c) n ≤ op_ceiling (red_op c) n) where
  operation : Operation (red_op c) Part (code c) reduction es known each_one (λ n. n) w
      (Value (red_op c) Bit 0 (1 ∷ []))
  operation = record {
    answers = λ n some small v. (let x = v (InRoom 1) in
        answers_of State (InRange n) (does c x) (view x) (λ s. s.cost) (λ s. s.rounds) (λ s. s.alive)
        (step n x c) (start v) refl refl refl refl
        (λ g s. (s.y ≡ joined c x n) × (s.cost ≡ reduction_total n) × (s.rounds ≡ n))
        (reduction_does n some small c x (start v) refl refl)
        (λ g s q. (one_bit s.y ∙ ap set.bit q.0 ∙ value_is c x n, q.1 ∙ total n, q.2)));
    aps = aps;
    cheap = few;
  }

pub and_red_done : OneDone op.AndRed
and_red_done = of_word Bit (operation false (λ n. refl) (λ n. omega arith) few_all)
    (holds false) (λ s0 w0 s1 w1. refl) refl refl (λ s0 w0 s1 w1 fb fw. refl)

pub or_red_done : OneDone op.OrRed
or_red_done = of_word Bit (operation true (λ n. refl) (λ n. omega arith) few_all)
    (holds true) (λ s0 w0 s1 w1. refl) refl refl (λ s0 w0 s1 w1 fb fw. refl)
