-- Each operation's loop program gives its value.
use Rattle.word_lower.proofs.Common.{◌≡◌, ℕ, suc, ◌+◌, ◌<◌, Bool, true, false, not, cond, List, []}
use Rattle.word_lower.proofs.Common.{◌∷◌, refl, sym, ap, ◌∙◌, arith, nat_lt, majority, Kind, Word}
use Rattle.word_lower.proofs.Common.{Bit, WordOp, bits_inside, row_of, width, ScratchBit, Cells}
use Rattle.word_lower.proofs.Common.{Block, StepOf, Single, Along, round_at, all_rounds, Spot}
use Rattle.word_lower.proofs.Common.{Spots, set_spot, after_round, after_rounds, Mark, InRoom}
use Rattle.word_lower.proofs.Common.{InCells, placed_body, set_same, set_other}
use Rattle.mig_graph.specs.Graph.{values_from}
use Rattle.loop_ir.specs.declared.ir.Sub.{Sub}
use Rattle.row_alloc.specs.declared.known_held.TheConstants.{AGREE}
use Rattle.op_text.specs.declared.word_ops.WordOp.TheVariants as op
use Rattle.loop_ir.specs.declared.ir.Sub.TheVariants as sub
use Rattle.word_lower.specs.Places.{scratch_bit, cells}
use Rattle.word_lower.specs.Programs.{off, joined, ordered}
use Rattle.word_lower.specs.Programs.{is_linear}
use Rattle.word_lower.proofs.Setting.{value_of, bit, number, operation, Slots, rooms_for, steps_for, row}
use Rattle.word_lower.proofs.Setting.{number_at, AreSlots, Gives}
use Rattle.word_lower.proofs.Sums.{value_false, compare, add_gives, sub_gives}
use Rattle.word_lower.proofs.Bitwise.{value_and, value_or, value_unlike, value_chosen, value_cond}
use Rattle.word_lower.proofs.Bitwise.{value_inverted, value_true, unlike_of, chosen_of}
use Rattle.word_lower.proofs.Bitwise.{least, greatest, at_least, added_digit, lessened_digit}
use Rattle.word_lower.proofs.Bitwise.{turned_bit, both_least}
use Rattle.word_lower.proofs.Passes.{IsFree, IsKept, cell_free, cell_apart, bit_free, kept_set}
use Rattle.word_lower.proofs.Passes.{done, at_bit, at_each, carry_does, states, level, states_does}
use Rattle.word_lower.proofs.Filled.{arg_kind, gives_kind}

-- what a bit of the target, which holds the value of a word or of a bit, is made of
module _ (o : WordOp) (n k : ℕ) (m : Slots) (are : AreSlots n k k 0 m) (before : Spots)
    (F : Bool → Bool → Bool → Bool)
    (e : (a b : ℕ → Bool) (s : Bool) → number (λ i. F (a i) (b i) s) k
    ≡ operation o k (number a k) (number b k) (number (λ i. s) 1)) where
  on_words : (b : Block) → k ≡ n → ((i : ℕ) (s : Spots) → after_round n (round_at b i) s
      ≡ set_spot s (row n m.target i) (F (s (row n m.a i)) (s (row n m.b i)) (s (row n m.s 0))))
      → Gives o n k k 0 m before (after_rounds n (all_rounds n (Along b ∷ [])) before)
  on_words = at_each o n k 0 m are before before (λ q f. refl) (row n m.s 0)
      (λ v lt f. are.s.target v lt (sym f)) F
      (e (λ i. before (row n m.a i)) (λ i. before (row n m.b i)) (before (row n m.s 0)))

  on_bits : k ≡ 1 → Gives o n k k 0 m before (set_spot before (row n m.target 0)
      (F (before (row n m.a 0)) (before (row n m.b 0)) (before (row n m.s 0))))
  on_bits = at_bit o n k 0 m are before before (λ q f. refl) (row n m.s 0)
      (λ v lt f. are.s.target v lt (sym f)) F
      (e (λ i. before (row n m.a i)) (λ i. before (row n m.b i)) (before (row n m.s 0)))

abbrev over : Bool → Bool → Bool → Bool
over x y g = majority x (not y) g

-- the state is whether a is over b, or at least b where it starts as 1
over_is : (a b g : ℕ → Bool) (n : ℕ) (x : Bool) → g 0 ≡ x
    → ((i : ℕ) → g (suc i) ≡ over (a i) (b i) (g i))
    → g n ≡ nat_lt (number b n) (number a n + bit x)
over_is a b g n x start h = compare a b g n (λ i lt. h i)
    ∙ ap (λ x. nat_lt (number b n) (number a n + bit x)) start

no_more : (a b : ℕ) → nat_lt b (a + bit false) ≡ nat_lt b a
no_more a b = let e : a + bit false ≡ a = omega arith in ap (nat_lt b) e

-- a round writes the state of the comparison to a row and to its cells
abbrev Compares : ℕ → Slots → Block → Spot → Type 0
Compares n m b p = (i : ℕ) (s : Spots) → (let q = row n (cells 0) 0 in
    let g = over (s (row n m.a i)) (s (row n m.b i)) (s q) in
    after_round n (round_at b i) s ≡ set_spot (set_spot s p g) q g)

module _ (n k bits : ℕ) (m : Slots) (are : AreSlots n k n bits m) (before : Spots) (some : 0 < n)
    (b : Block) (p : Spot) (ne : p ≡ row n (cells 0) 0 → ⊥) (free : IsFree n k bits m p) (x : Bool)
    (round : Compares n m b p) where
  pub compared_does : (ss : List (StepOf Block)) (P : Spots → Type 0)
      → ((s : Spots) → IsKept n k bits m before s
      → s p ≡ nat_lt (number_at n before m.b n) (number_at n before m.a n + bit x)
      → P (after_rounds n (all_rounds n ss) s))
      → P (after_rounds n (all_rounds n (Along b ∷ ss)) (set_spot before (row n (cells 0) 0) x))
  compared_does ss P end =
      let q = row n (cells 0) 0 in
      let G = λ (u v g h : Bool). over u v h in
      let cell = cell_free n k n bits m are 0 in
      let start = set_spot before q x in
      let st = states n k bits m are before b p q ne free cell G G round start in
      states_does n k bits m are before b p q ne free cell G G round start ss P
      (kept_set n k n bits m are before before q x cell (λ q f. refl))
      (λ s kept hp hq. end s kept (hp
      ∙ level n k bits m are before b p q ne free cell G G round start (λ u v g h. refl) n some
      ∙ over_is (λ i. before (row n m.a i)) (λ i. before (row n m.b i)) (λ i. (st i).1) n x
      (set_same before q x q refl) (λ i. refl)))

-- an operation whose value is a bit
bit_gives : (o : WordOp) (n : ℕ) (m : Slots) → AreSlots n 1 n 0 m → (before s : Spots) (v : Bool)
    → IsKept n 1 0 m before s → s (row n m.target 0) ≡ v
    → bit v ≡ value_of o n m before n → Gives o n 1 n 0 m before s
bit_gives o n m are before s v kept e g =
    let one : number (λ i. v) 1 ≡ bit v = omega arith in
    done n 1 n 0 m are o (λ i. v) before s kept (λ i lt. let z : i ≡ 0 = omega arith in
    ap (λ i. s (row n m.target i)) z ∙ e) (one ∙ g)

-- the comparison of the arguments, with its state in a bit of scratch too, and the choice by it
choice_does : (o : WordOp) (n : ℕ) → 0 < n → (m : Slots) (are : AreSlots n n n 1 m) (before : Spots)
    (b c : Block) (F : Bool → Bool → Bool → Bool)
    → Compares n m b (row n (scratch_bit m.free_bit) 0)
    → ((i : ℕ) (s : Spots) → after_round n (round_at c i) s
    ≡ set_spot s (row n m.target i) (F (s (row n m.a i)) (s (row n m.b i))
    (s (row n (scratch_bit m.free_bit) 0))))
    → ((g : Bool) → g ≡ nat_lt (number_at n before m.b n) (number_at n before m.a n)
    → number (λ i. F (before (row n m.a i)) (before (row n m.b i)) g) n
    ≡ value_of o n m before n)
    → Gives o n n n 1 m before (after_rounds n (all_rounds n (Along b ∷ Along c ∷ []))
    (set_spot before (row n (cells 0) 0) false))
choice_does o n some m are before b c F first second e =
    let p = row n (scratch_bit m.free_bit) 0 in
    compared_does n n 1 m are before some b p
    (λ e. let z : ScratchBit ≡ Cells = ap (λ (q : Spot). q.space) e in cc)
    (bit_free n n n 1 m are (omega arith)) false first (Along c ∷ []) (Gives o n n n 1 m before)
    (λ s kept h. at_each o n n 1 m are before s kept p (are.bit (omega arith)) F
    (e (s p) (h ∙ no_more (number_at n before m.a n) (number_at n before m.b n))) c refl second)

-- a place of an owner by its number: 0 is the target, then come the arguments
abbrev on : ℕ → Sub → Mark
on owner s = record { owner = InRoom owner; sub = s }

abbrev state : ℕ → Mark
state layout = record { owner = InCells layout; sub = sub.Zero }

eq_does : (n : ℕ) (m : Slots) → AreSlots n 1 n 0 m → (before : Spots) → Gives op.Eq n 1 n 0 m before
    (after_rounds n (all_rounds n (steps_for op.Eq Bit m)) before)
unfolding values_from
eq_does n m are before =
    let body = placed_body (rooms_for op.Eq m) (ordered (on 1 sub.Inner)
    (on 2 sub.Inner) (state 2) (state 3)) in
    let last = placed_body (rooms_for op.Eq m) (joined off (state 2) (state 3)
    (on 0 sub.Zero) AGREE) in
    let p = row n (cells 2) 0 in
    let q = row n (cells 3) 0 in
    let low : 0 < 1 = omega arith in
    let ne : p ≡ q → ⊥ = λ e. (let f : 2 ≡ 3 = ap (λ (q : Spot). q.which) e in omega (arith, f)) in
    let pf = cell_free n 1 n 0 m are 2 in
    let qf = cell_free n 1 n 0 m are 3 in
    let one = set_spot before p true in
    let start = set_spot one q true in
    let G = λ (x y g h : Bool). over x y g in
    let H = λ (x y g h : Bool). majority (not x) y h in
    let st = states n 1 0 m are before body p q ne pf qf G H (λ i s. refl) start in
    let a = λ (i : ℕ). before (row n m.a i) in
    let b = λ (i : ℕ). before (row n m.b i) in
    states_does n 1 0 m are before body p q ne pf qf G H (λ i s. refl) start (Single last ∷ [])
    (Gives op.Eq n 1 n 0 m before)
    (kept_set n 1 n 0 m are before one q true qf
    (kept_set n 1 n 0 m are before before p true pf (λ q f. refl)))
    (λ s kept hp hq.
    let t = row n m.target 0 in
    let v = majority false (s p) (s q) in
    let ep = hp ∙ over_is a b (λ i. (st i).0) n true
    (set_other one q true p ne ∙ set_same before p true p refl) (λ i. refl) in
    let eq = hq ∙ over_is b a (λ i. (st i).1) n true (set_same one q true q refl)
    (λ i. turned_bit (a i) (b i) ((st i).1)) in
    bit_gives op.Eq n m are before (set_spot s t v) v
    (kept_set n 1 n 0 m are before s t v (λ q f. f.target 0 low) kept)
    (set_same s t v t refl) (ap bit (rw (ep, eq) (both_least (number a n) (number b n)))))

order_does : (o : WordOp) (n : ℕ) → 0 < n → (m : Slots) (are : AreSlots n 1 n 0 m) (before : Spots)
    (b : Block) (x : Bool) → Compares n m b (row n m.target 0)
    → bit (nat_lt (number_at n before m.b n) (number_at n before m.a n + bit x))
    ≡ value_of o n m before n → Gives o n 1 n 0 m before
    (after_rounds n (all_rounds n (Along b ∷ [])) (set_spot before (row n (cells 0) 0) x))
order_does o n some m are before b x round e =
    compared_does n 1 0 m are before some b (row n m.target 0) (cell_apart n 1 n 0 m are 0 0)
    (λ q f. f.target 0 (omega arith)) x round [] (Gives o n 1 n 0 m before)
    (λ s kept h. bit_gives o n m are before s _ kept h e)

abbrev pub DoesIn : WordOp → Kind → ℕ → Slots → Type 0
DoesIn p c n m = let sh = (row_of p).signature in let k = gives_kind sh c in
    (before : Spots) → Gives p n (width n k) (width n (arg_kind sh c)) (bits_inside p) m before
    (after_rounds n (all_rounds n (steps_for p k m)) before)

-- The program of a linear operation gives its value, in the form that has words, and in the one
-- that has bits where there is one
pub op_gives : (p : WordOp) (c : Kind) → is_linear p ≡ true → (n : ℕ) (m : Slots) → 0 < n
    → AreSlots n (width n (gives_kind (row_of p).signature c))
    (width n (arg_kind (row_of p).signature c)) (bits_inside p) m → DoesIn p c n m
unfolding values_from
op_gives op.Not Word l n m some are before = on_words op.Not n n m are before (λ x y s. not x)
    (λ a b s. value_inverted a n) _ refl (λ i s. refl)
op_gives op.Not Bit l n m some are before = on_bits op.Not n 1 m are before (λ x y s. not x)
    (λ a b s. value_inverted a 1) refl
op_gives op.And Word l n m some are before = on_words op.And n n m are before
    (λ x y s. majority false x y) (λ a b s. value_and a b n) _ refl (λ i s. refl)
op_gives op.And Bit l n m some are before = on_bits op.And n 1 m are before
    (λ x y s. majority false x y) (λ a b s. value_and a b 1) refl
op_gives op.Or Word l n m some are before = on_words op.Or n n m are before
    (λ x y s. majority true x y) (λ a b s. value_or a b n) _ refl (λ i s. refl)
op_gives op.Or Bit l n m some are before = on_bits op.Or n 1 m are before
    (λ x y s. majority true x y) (λ a b s. value_or a b 1) refl
op_gives op.Xor Word l n m some are before = on_words op.Xor n n m are before
    (λ x y s. unlike_of x y) (λ a b s. value_unlike a b n) _ refl (λ i s. refl)
op_gives op.Xor Bit l n m some are before = on_bits op.Xor n 1 m are before
    (λ x y s. unlike_of x y) (λ a b s. value_unlike a b 1) refl
op_gives op.Copy Word l n m some are before = on_words op.Copy n n m are before (λ x y s. x)
    (λ a b s. refl) _ refl (λ i s. refl)
op_gives op.Copy Bit l n m some are before = on_bits op.Copy n 1 m are before (λ x y s. x)
    (λ a b s. refl) refl
op_gives op.IfElse Word l n m some are before = on_words op.IfElse n n m are before chosen_of
    (λ a b s. value_chosen a b s n) _ refl (λ i s. refl)
op_gives op.IfElse Bit l n m some are before = on_bits op.IfElse n 1 m are before chosen_of
    (λ a b s. value_chosen a b s 1) refl
op_gives op.Zero c l n m some are before = on_words op.Zero n n m are before (λ x y s. false)
    (λ a b s. value_false n) _ refl (λ i s. refl)
op_gives op.Ones c l n m some are before = on_words op.Ones n n m are before (λ x y s. true)
    (λ a b s. value_true n) _ refl (λ i s. refl)
op_gives op.Add c l n m some are before =
    let a = λ (i : ℕ). before (row n m.a i) in
    let b = λ (i : ℕ). before (row n m.b i) in
    carry_does op.Add n 1 m are before _ (row n (scratch_bit m.free_bit) 0)
    (bit_free n n n 1 m are (omega arith)) (are.bit (omega arith)) false
    (λ x y c. majority c (not (majority x y c)) (majority x y (not c)))
    (λ x y c. majority x y c) (λ i s. refl) (λ y g s hy hg. add_gives a b y g n s (λ i lt.
    rw (hy i, hg i) (added_digit (a i) (b i) (g i))))
op_gives op.Sub c l n m some are before =
    let a = λ (i : ℕ). before (row n m.a i) in
    let b = λ (i : ℕ). before (row n m.b i) in
    let d = λ (x y c : Bool). majority (not x) c (majority x y (not c)) in
    carry_does op.Sub n 1 m are before _ (row n (cells 4) 0) (cell_free n n n 1 m are 4)
    (λ v lt. cell_apart n n n 1 m are 4 v) false
    (λ x y c. majority (not y) (majority x y (not c)) (d x y c)) d (λ i s. refl)
    (λ y g s hy hg. sub_gives a b y (λ i. not (g i)) n (ap not s) (λ i lt.
    rw (hy i, hg i) (lessened_digit (a i) (b i) (g i))))
op_gives op.Min c l n m some are before = choice_does op.Min n some m are before
    _ _ (λ x y g. chosen_of y x g) (λ i s. refl) (λ i s. refl) (λ g h. value_cond _ _ g n
    ∙ ap (λ g. cond g (number_at n before m.b n) (number_at n before m.a n)) h ∙ least _ _)
op_gives op.Max c l n m some are before = choice_does op.Max n some m are before
    _ _ chosen_of (λ i s. refl) (λ i s. refl) (λ g h. value_cond _ _ g n
    ∙ ap (λ g. cond g (number_at n before m.a n) (number_at n before m.b n)) h ∙ greatest _ _)
op_gives op.Eq c l n m some are before = eq_does n m are before
op_gives op.Gt c l n m some are before = order_does op.Gt n some m are before _ false
    (λ i s. refl) (ap bit (no_more (number_at n before m.a n) (number_at n before m.b n)))
op_gives op.Ge c l n m some are before = order_does op.Ge n some m are before _ true
    (λ i s. refl) (ap bit (at_least (number_at n before m.a n) (number_at n before m.b n)))
op_gives p c l n m some are before = cc
