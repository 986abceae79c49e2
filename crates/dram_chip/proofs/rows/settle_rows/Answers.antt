use Rattle.std.proofs.Common.{◌≡◌, ℕ, ◌+◌, ◌-◌, ◌<◌, ◌≤◌, ◌++◌, List, length}
use Rattle.std.proofs.Common.{get_or, take, drop, sym, ap, ◌∙◌, arith, inl, inr}
use Rattle.std.proofs.Common.{get_or-take}
use Rattle.std.proofs.lemmas.List.{get_or_append_left}
use Rattle.std.proofs.lemmas.Grind.{common_steps}
use mathlib.Core.Logic.{◌⊎◌}
use Rattle.bit_rows.specs.Bits.{bit_at, word_bit, majority, majority_word}
use Rattle.bit_rows.proofs.WordBits.{majority-bit}
use Rattle.dram_chip.specs.Rows.{Settled}
use Rattle.dram_chip.proofs.Placed.{past, alike, placed, length-placed, placed-at, placed-off}
use Rattle.dram_chip.proofs.Placed.{headed, length-headed, headed-at, headed-off, read-front}
use Rattle.dram_chip.proofs.rows.settle_rows.Goals as goal

-- three rows of a list
record Rows (low mid high A B C : List ℕ) (a b c n : ℕ) : Type 0 where
  fits : a + n ≤ b
  next : b + n ≤ c
  low_length : length low ≡ b
  mid_length : length mid ≡ c - b
  high_length : n ≤ length high
  a_length : length A ≡ n
  b_length : length B ≡ n
  c_length : length C ≡ n

three : List ℕ → List ℕ → List ℕ → List ℕ → List ℕ → List ℕ → ℕ → ℕ → List ℕ
three low mid high A B C a n = placed low A a n ++ (headed mid B n ++ headed high C n)

three-a : (low mid high A B C : List ℕ) (a b c n q : ℕ) → Rows low mid high A B C a b c n → q < n
    → get_or (three low mid high A B C a n) (a + q) 0 ≡ get_or A q 0
unfolding three
three-a low mid high A B C a b c n q r h =
    get_or_append_left (placed low A a n) (headed mid B n ++ headed high C n) 0 (a + q)
    (omega (
      arith,
      length-placed low A a n (omega (arith, r.fits, r.low_length)) r.a_length,
      r.fits,
      r.low_length,
    ))
    ∙ placed-at low A a n q (omega (arith, r.fits, r.low_length)) r.a_length h

three-b : (low mid high A B C : List ℕ) (a b c n q : ℕ) → Rows low mid high A B C a b c n → q < n
    → get_or (three low mid high A B C a n) (b + q) 0 ≡ get_or B q 0
unfolding three
three-b low mid high A B C a b c n q r h =
    past (placed low A a n) (headed mid B n ++ headed high C n) b q
    (length-placed low A a n (omega (arith, r.fits, r.low_length)) r.a_length ∙ r.low_length)
    ∙ get_or_append_left (headed mid B n) (headed high C n) 0 q
    (omega (
      arith,
      length-headed mid B n (omega (arith, r.next, r.mid_length)) r.b_length,
      r.next,
      r.mid_length,
    ))
    ∙ headed-at mid B n q r.b_length h

three-c : (low mid high A B C : List ℕ) (a b c n q : ℕ) → Rows low mid high A B C a b c n → q < n
    → get_or (three low mid high A B C a n) (c + q) 0 ≡ get_or C q 0
unfolding three
three-c low mid high A B C a b c n q r h =
    let at : c + q ≡ b + (c - b + q) = omega (arith, r.next) in
    ap (λ k. get_or (placed low A a n ++ (headed mid B n ++ headed high C n)) k 0) at
    ∙ past (placed low A a n) (headed mid B n ++ headed high C n) b (c - b + q)
    (length-placed low A a n (omega (arith, r.fits, r.low_length)) r.a_length ∙ r.low_length)
    ∙ past (headed mid B n) (headed high C n) (c - b) q
    (length-headed mid B n (omega (arith, r.next, r.mid_length)) r.b_length ∙ r.mid_length)
    ∙ headed-at high C n q r.c_length h

beyond : (k b n j : ℕ) → k ≡ b + j → (k < b) ⊎ (b + n ≤ k) → n ≤ j
beyond k b n j e (inl h) = absurd (omega arith)
beyond k b n j e (inr h) = omega arith

three-off : (low mid high A B C : List ℕ) (a b c n k : ℕ) → Rows low mid high A B C a b c n
    → (k < a) ⊎ (a + n ≤ k) → (k < b) ⊎ (b + n ≤ k) → (k < c) ⊎ (c + n ≤ k)
    → get_or (three low mid high A B C a n) k 0 ≡ get_or (low ++ (mid ++ high)) k 0
unfolding three
three-off low mid high A B C a b c n k r oa ob oc =
    let front : length (placed low A a n) ≡ length low =
    length-placed low A a n (omega (arith, r.fits, r.low_length)) r.a_length in
    let middle : length (headed mid B n) ≡ length mid =
    length-headed mid B n (omega (arith, r.next, r.mid_length)) r.b_length in
    alike (placed low A a n) low (headed mid B n ++ headed high C n) (mid ++ high) k front
    (λ l. placed-off low A a n k (omega (arith, r.fits, r.low_length)) r.a_length oa)
    (λ j e. alike (headed mid B n) mid (headed high C n) high j middle
    (λ l. headed-off mid B n j r.b_length (beyond k b n j (omega (arith, e, front, r.low_length))
    ob))
    (λ i f. headed-off high C n i r.c_length (beyond k c n i
    (omega (arith, e, f, front, middle, r.low_length, r.mid_length, r.next)) oc)))

-- the words of the other two rows as they were
was-b : (all low mid high rest : List ℕ) (b c n q : ℕ) → all ≡ low ++ rest → rest ≡ mid ++ high
    → length low ≡ b → length mid ≡ c - b → b + n ≤ c → q < n
    → get_or (take n mid) q 0 ≡ get_or all (b + q) 0
was-b all low mid high rest b c n q e f l m g h =
    get_or-take n mid q 0 h ∙ sym (get_or_append_left mid high 0 q (omega arith))
    ∙ ap (λ xs. get_or xs q 0) (sym f) ∙ sym (past low rest b q l)
    ∙ ap (λ xs. get_or xs (b + q) 0) (sym e)

was-c : (all low mid high rest : List ℕ) (b c n q : ℕ) → all ≡ low ++ rest → rest ≡ mid ++ high
    → length low ≡ b → length mid ≡ c - b → b + n ≤ c → q < n
    → get_or (take n high) q 0 ≡ get_or all (c + q) 0
was-c all low mid high rest b c n q e f l m g h =
    let at : b + (c - b + q) ≡ c + q = omega arith in
    get_or-take n high q 0 h ∙ sym (past mid high (c - b) q m)
    ∙ ap (λ xs. get_or xs (c - b + q) 0) (sym f) ∙ sym (past low rest b (c - b + q) l)
    ∙ ap (λ xs. get_or xs (b + (c - b + q)) 0) (sym e) ∙ ap (λ k. get_or all k 0) at

-- a bit that is the majority of three
majority-of : (x y u v w y' u' w' : ℕ) (r : ℕ) → x ≡ y
    → bit_at y r ≡ majority (bit_at u r) (bit_at v r) (bit_at w r) → u ≡ y' → v ≡ u' → w ≡ w'
    → bit_at x r ≡ majority (bit_at y' r) (bit_at u' r) (bit_at w' r)
majority-of x y u v w y' u' w' r e f g h i = ap (λ k. bit_at k r) e ∙ f
    ∙ ap (λ k. majority (bit_at k r) (bit_at v r) (bit_at w r)) g
    ∙ ap (λ k. majority (bit_at y' r) (bit_at k r) (bit_at w r)) h
    ∙ ap (λ k. majority (bit_at y' r) (bit_at u' r) (bit_at k r)) i

-- what is known at the end, of the rows and the parts that they stand in
record Parts (all low rest mid high A B C : List ℕ) (a b c n : ℕ) : Type 0 where
  rows : Rows low mid high A B C a b c n
  first : all ≡ low ++ rest
  second : rest ≡ mid ++ high
  bits : (q r : ℕ) → q < n → word_bit A q r ≡ majority
      (word_bit (take (a + n - a) (drop a low)) q r) (word_bit (take n mid) q r)
      (word_bit (take n high) q r)
  b_same : B ≡ A
  c_same : C ≡ A

settled-a : (all low rest mid high A B C : List ℕ) (a b c n q r : ℕ)
    → Parts all low rest mid high A B C a b c n → q < n
    → word_bit (three low mid high A B C a n) (a + q) r ≡ majority (word_bit all (a + q) r)
    (word_bit all (b + q) r) (word_bit all (c + q) r)
settled-a all low rest mid high A B C a b c n q r s h =
    majority-of _ (get_or A q 0) _ _ _ _ _ _ r (three-a low mid high A B C a b c n q s.rows h)
    (s.bits q r h)
    (read-front all low rest a b n q s.first s.rows.low_length s.rows.fits h)
    (was-b all low mid high rest b c n q s.first s.second s.rows.low_length s.rows.mid_length
    s.rows.next h)
    (was-c all low mid high rest b c n q s.first s.second s.rows.low_length s.rows.mid_length
    s.rows.next h)

settled-b : (all low rest mid high A B C : List ℕ) (a b c n q r : ℕ)
    → Parts all low rest mid high A B C a b c n → q < n
    → word_bit (three low mid high A B C a n) (b + q) r ≡ majority (word_bit all (a + q) r)
    (word_bit all (b + q) r) (word_bit all (c + q) r)
settled-b all low rest mid high A B C a b c n q r s h =
    majority-of _ (get_or A q 0) _ _ _ _ _ _ r (three-b low mid high A B C a b c n q s.rows h
    ∙ ap (λ xs. get_or xs q 0) s.b_same) (s.bits q r h)
    (read-front all low rest a b n q s.first s.rows.low_length s.rows.fits h)
    (was-b all low mid high rest b c n q s.first s.second s.rows.low_length s.rows.mid_length
    s.rows.next h)
    (was-c all low mid high rest b c n q s.first s.second s.rows.low_length s.rows.mid_length
    s.rows.next h)

settled-c : (all low rest mid high A B C : List ℕ) (a b c n q r : ℕ)
    → Parts all low rest mid high A B C a b c n → q < n
    → word_bit (three low mid high A B C a n) (c + q) r ≡ majority (word_bit all (a + q) r)
    (word_bit all (b + q) r) (word_bit all (c + q) r)
settled-c all low rest mid high A B C a b c n q r s h =
    majority-of _ (get_or A q 0) _ _ _ _ _ _ r (three-c low mid high A B C a b c n q s.rows h
    ∙ ap (λ xs. get_or xs q 0) s.c_same) (s.bits q r h)
    (read-front all low rest a b n q s.first s.rows.low_length s.rows.fits h)
    (was-b all low mid high rest b c n q s.first s.second s.rows.low_length s.rows.mid_length
    s.rows.next h)
    (was-c all low mid high rest b c n q s.first s.second s.rows.low_length s.rows.mid_length
    s.rows.next h)

front-length : (low : List ℕ) (a n : ℕ) → a + n ≤ length low
    → length (take (a + n - a) (drop a low)) ≡ n
front-length low a n l = grind (arith, common_steps)

parts : (all low rest mid high A B C : List ℕ) (a b c n : ℕ) → a + n ≤ b → b + n ≤ c
    → c + n ≤ length all → all ≡ low ++ rest → rest ≡ mid ++ high → length low ≡ b
    → length rest + b ≡ length all → length mid ≡ c - b → length high + (c - b) ≡ length rest
    → length A ≡ length (take (a + n - a) (drop a low))
    → ((q r : ℕ) → q < length (take (a + n - a) (drop a low))
    → word_bit A q r ≡ majority (word_bit (take (a + n - a) (drop a low)) q r)
    (word_bit (take n mid) q r) (word_bit (take n high) q r))
    → B ≡ A → C ≡ A → Parts all low rest mid high A B C a b c n
parts all low rest mid high A B C a b c n fits next room first second l m k h e bits f g =
    let width : length (take (a + n - a) (drop a low)) ≡ n = front-length low a n (omega arith) in
    record {
      rows = record {
        fits = fits;
        next = next;
        low_length = l;
        mid_length = k;
        high_length =
            omega arith;
        a_length = e ∙ width;
        b_length = ap length f ∙ e ∙ width;
        c_length =
            ap length g ∙ e ∙ width;
      };
      first = first;
      second = second;
      bits = λ q r d. bits q r (omega arith);
      b_same = f;
      c_same = g;
    }

-- the one word of each row
only : (new all : List ℕ) (n to a b c q r : ℕ) → n ≡ 1 → q < n
    → get_or new to 0 ≡ majority_word (get_or all a 0) (get_or all b 0) (get_or all c 0)
    → word_bit new (to + q) r ≡ majority (word_bit all (a + q) r) (word_bit all (b + q) r)
    (word_bit all (c + q) r)
only new all n to a b c q r e h m =
    let first : q ≡ 0 = omega (arith, e, h) in
    let at : (k : ℕ) → k + q ≡ k = λ k. omega (arith, first) in
    ap (λ k. word_bit new k r) (at to) ∙ ap (λ w. bit_at w r) m
    ∙ majority-bit (get_or all a 0) (get_or all b 0) (get_or all c 0) r
    ∙ ap (λ k. majority (word_bit all k r) (word_bit all b r) (word_bit all c r)) (sym (at a))
    ∙ ap (λ k. majority (word_bit all (a + q) r) (word_bit all k r) (word_bit all c r)) (sym (at b))
    ∙ ap (λ k. majority (word_bit all (a + q) r) (word_bit all (b + q) r) (word_bit all k r))
    (sym (at c))

-- a word outside a row of one word is another one
apart : (k a n : ℕ) → n ≡ 1 → (k < a) ⊎ (a + n ≤ k) → k ≡ a → ⊥
apart k a n one (inl l) e = absurd (omega (arith, l, e))
apart k a n one (inr l) e = absurd (omega (arith, l, e, one))

all-settled : (all low rest mid high A B C : List ℕ) (a b c n : ℕ)
    → Parts all low rest mid high A B C a b c n
    → Settled n a b c all (three low mid high A B C a n)
all-settled all low rest mid high A B C a b c n s = record {
  first = λ q r h. settled-a all low rest mid high A B C a b c n q r s h;
  second = λ q r h. settled-b all low rest mid high A B C a b c n q r s h;
  third = λ q r h. settled-c all low rest mid high A B C a b c n q r s h;
  others = λ k p q r. three-off low mid high A B C a b c n k s.rows p q r
      ∙ ap (λ xs. get_or (low ++ xs) k 0) (sym s.second) ∙ ap (λ xs. get_or xs k 0) (sym s.first);
}

pub returns-then-n-eq1-clause-settled : goal.returns-then-n-eq1-clause-settled
returns-then-n-eq1-clause-settled c =
    let new = c.settle_word.new.all in
    let all = c.args.all.now in
    let one = c.if-n-eq1.true in
    record {
      first = λ q r h. only new all c.args.n c.args.a c.args.a c.args.b c.args.c q r one h
          c.settle_word.ensures.a;
      second = λ q r h. only new all c.args.n c.args.b c.args.a c.args.b c.args.c q r one h
          c.settle_word.ensures.b;
      third = λ q r h. only new all c.args.n c.args.c c.args.a c.args.b c.args.c q r one h
          c.settle_word.ensures.c;
      others = λ k p q r. c.settle_word.ensures.others k (apart k c.args.a c.args.n one p)
          (apart k c.args.b c.args.n one q) (apart k c.args.c c.args.n one r);
    }

pub returns-else-n-eq1-clause-settled : goal.returns-else-n-eq1-clause-settled
unfolding three placed headed
returns-else-n-eq1-clause-settled c =
    all-settled c.args.all.now c.split_at_mut-low.result.0.now c.split_at_mut-low.result.1.now
    c.split_at_mut-mid.result.0.now c.split_at_mut-mid.result.1.now
    c.settle3.new.a c.settle3.new.b c.settle3.new.c c.args.a c.args.b c.args.c c.args.n
    (parts c.args.all.now c.split_at_mut-low.result.0.now c.split_at_mut-low.result.1.now
    c.split_at_mut-mid.result.0.now c.split_at_mut-mid.result.1.now
    c.settle3.new.a c.settle3.new.b c.settle3.new.c c.args.a c.args.b c.args.c c.args.n c.requires.a
    c.requires.b c.requires.c
    c.split_at_mut-low.ensures.value c.split_at_mut-mid.ensures.value
    c.split_at_mut-low.ensures.front_len c.split_at_mut-low.ensures.back_len
    c.split_at_mut-mid.ensures.front_len c.split_at_mut-mid.ensures.back_len
    c.settle3.ensures.length c.settle3.ensures.bits c.settle3.ensures.b_same
    c.settle3.ensures.c_same)
