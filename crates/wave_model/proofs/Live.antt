-- The live banks, before and after one of them does its next command.
use Rattle.std.proofs.Common.{◌≡◌, ℕ, zero, suc, ◌+◌, ◌<◌, Bool, true, false, not, cond, eqb}
use Rattle.std.proofs.Common.{List, [], ◌∷◌, length, get_or, drop, refl, sym, ◌∙◌, ap, subst, inl}
use Rattle.std.proofs.Common.{inr, arith, eq-eqb}
use Rattle.std.specs.Prelude.{remove}
use Rattle.std.specs.List.{range_with_len, filter}
use Rattle.std.proofs.lemmas.Bool.{ne_eqb}
use Rattle.std.proofs.lemmas.Bool.Decides.{eqb_tells}
use Rattle.std.proofs.lemmas.List.Elements.{filter_agree}
use Rattle.dram_model.specs.declared.address.Command.{Command}
use Rattle.wave_model.specs.Schedule.{Queues, is_live, live, without_next}
use Rattle.wave_model.proofs.Waves.{IsLiveIn, live_at}

-- a live bank stands among the live ones once
apart_case : (left : Queues) (a n i j : ℕ) (rest : List ℕ) (t : Bool)
    → ((k : ℕ) → k < length rest → IsLiveIn left (a + 1) n (get_or rest k 0))
    → ((i j : ℕ) → i < length rest → j < length rest → get_or rest i 0 ≡ get_or rest j 0 → i ≡ j)
    → i < length (cond t (a ∷ rest) rest) → j < length (cond t (a ∷ rest) rest)
    → get_or (cond t (a ∷ rest) rest) i 0 ≡ get_or (cond t (a ∷ rest) rest) j 0 → i ≡ j
apart_case left a n zero zero rest true above go h k e = refl
apart_case left a n zero (suc j) rest true above go h k e =
    let r = above j (omega arith) in absurd (omega (arith, r.0, e))
apart_case left a n (suc i) zero rest true above go h k e =
    let r = above i (omega arith) in absurd (omega (arith, r.0, e))
apart_case left a n (suc i) (suc j) rest true above go h k e =
    ap suc (go i j (omega arith) (omega arith) e)
apart_case left a n i j rest false above go h k e = go i j h k e

apart_in : (left : Queues) (a n i j : ℕ)
    → i < length (filter (is_live left) (range_with_len a n))
    → j < length (filter (is_live left) (range_with_len a n))
    → get_or (filter (is_live left) (range_with_len a n)) i 0
    ≡ get_or (filter (is_live left) (range_with_len a n)) j 0 → i ≡ j
apart_in left a zero i j h k e = absurd (omega arith)
apart_in left a (suc n) i j h k e =
    apart_case left a n i j (filter (is_live left) (range_with_len (a + 1) n)) (is_live left a)
    (live_at left (a + 1) n) (apart_in left (a + 1) n) h k e

-- no bank stands twice among the live ones
pub live_apart : (banks : ℕ) (left : Queues) (i j : ℕ) → i < length (live banks left)
    → j < length (live banks left) → get_or (live banks left) i 0 ≡ get_or (live banks left) j 0
    → i ≡ j
live_apart banks left i j h k e = apart_in left 0 banks i j h k e

-- another bank's queue stays
pub other_left : (left : Queues) (b x : ℕ) → (b ≡ x → ⊥) → without_next b left x ≡ left x
other_left left b x ne = rw (ne_eqb b x ne) refl

-- a bank that is picked has done its first command
pub own_left : (left : Queues) (b : ℕ) → without_next b left b ≡ drop 1 (left b)
own_left left b = rw (eq-eqb b b refl) refl

-- a queue with some command is a live bank's
pub alive : (cs : List Command) → 0 < length cs → not (eqb (length cs) 0) ≡ true
alive cs h = elim (eqb_tells (length cs) 0) [
  | inl z ↦ absurd (omega (arith, z.1))
  | inr z ↦ rw z.0 refl
]

some_left : (cs : List Command) → 0 < length (drop 1 cs)
    → not (eqb (length (drop 1 cs)) 0) ≡ not (eqb (length cs) 0)
some_left [] h = absurd (omega arith)
some_left (c ∷ cs) h = alive cs h ∙ sym (alive (c ∷ cs) (omega arith))

-- where more is left, the same banks are live
pub live_kept : (banks b : ℕ) (left : Queues) → 0 < length (drop 1 (left b))
    → live banks (without_next b left) ≡ live banks left
live_kept banks b left h =
    filter_agree (is_live (without_next b left)) (is_live left) same (range_with_len 0 banks)
  where
    same : (x : ℕ) → is_live (without_next b left) x ≡ is_live left x
    same x = elim (eqb_tells b x) [
      | inl e ↦ rw e.0 (subst (λ (y : ℕ). not (eqb (length (drop 1 (left y))) 0)
          ≡ not (eqb (length (left y)) 0)) e.1 (some_left (left b) h))
      | inr e ↦ rw e.0 refl
    ]

-- the banks past this one are as live as before
live_beyond : (left : Queues) (b a n : ℕ) → b < a
    → filter (is_live (without_next b left)) (range_with_len a n)
    ≡ filter (is_live left) (range_with_len a n)
live_beyond left b a zero h = refl
live_beyond left b a (suc n) h =
    rw (
      other_left left b a (λ e. absurd (omega (arith, e))),
      live_beyond left b (a + 1) n (omega arith),
    ) refl

gone_case : (left : Queues) (a n k b : ℕ) (rest rest' : List ℕ) (t : Bool) → is_live left a ≡ t
    → ((k : ℕ) → k < length rest → IsLiveIn left (a + 1) n (get_or rest k 0))
    → drop 1 (left b) ≡ [] → (b < a + 1 → rest' ≡ rest)
    → ((k : ℕ) → k < length rest → b ≡ get_or rest k 0 → rest' ≡ remove rest k)
    → k < length (cond t (a ∷ rest) rest) → b ≡ get_or (cond t (a ∷ rest) rest) k 0
    → cond (is_live (without_next b left) a) (a ∷ rest') rest' ≡ remove (cond t (a ∷ rest) rest) k
gone_case left a n zero b rest rest' true e above none beyond go h is =
    let dead : is_live (without_next b left) a ≡ false =
    subst (λ (x : ℕ). is_live (without_next b left) x ≡ false) is
    (ap (λ (cs : List Command). not (eqb (length cs) 0)) (own_left left b ∙ none)) in
    rw dead (beyond (omega (arith, is)))
gone_case left a n (suc k) b rest rest' true e above none beyond go h is =
    let r = above k (omega arith) in
    let same = other_left left b a (λ q. absurd (omega (arith, r.0, q, is))) in
    let alive : is_live (without_next b left) a ≡ true =
    ap (λ (cs : List Command). not (eqb (length cs) 0)) same ∙ e in
    rw alive (ap (λ xs. a ∷ xs) (go k (omega arith) is))
gone_case left a n k b rest rest' false e above none beyond go h is =
    let r = above k h in
    let same = other_left left b a (λ q. absurd (omega (arith, r.0, q, is))) in
    let dead : is_live (without_next b left) a ≡ false =
    ap (λ (cs : List Command). not (eqb (length cs) 0)) same ∙ e in
    rw dead (go k h is)

gone_in : (left : Queues) (b : ℕ) → drop 1 (left b) ≡ [] → (a n k : ℕ)
    → k < length (filter (is_live left) (range_with_len a n))
    → b ≡ get_or (filter (is_live left) (range_with_len a n)) k 0
    → filter (is_live (without_next b left)) (range_with_len a n)
    ≡ remove (filter (is_live left) (range_with_len a n)) k
gone_in left b none a zero k h is = absurd (omega arith)
gone_in left b none a (suc n) k h is =
    gone_case left a n k b (filter (is_live left) (range_with_len (a + 1) n))
    (filter (is_live (without_next b left)) (range_with_len (a + 1) n)) (is_live left a) refl
    (live_at left (a + 1) n) none (λ lt. live_beyond left b (a + 1) n lt)
    (gone_in left b none (a + 1) n) h is

-- where nothing more is left, the bank is the only one that is no longer live
pub live_gone : (banks b k : ℕ) (left : Queues) → drop 1 (left b) ≡ []
    → k < length (live banks left) → b ≡ get_or (live banks left) k 0
    → live banks (without_next b left) ≡ remove (live banks left) k
live_gone banks b k left none h is = gone_in left b none 0 banks k h is
