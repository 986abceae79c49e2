-- A transpose by steps that each exchange one digit of the numbers of words and bits
use Rattle.transpose_unit.proofs.Common.{◌≡◌, ℕ, zero, suc, ◌+◌, ◌-◌, ◌*◌, ◌/◌, ◌%◌, ◌^◌, ◌<◌, ◌≤◌}
use Rattle.transpose_unit.proofs.Common.{◌==◌, Bool, true, false, if◌then◌else◌, List, length}
use Rattle.transpose_unit.proofs.Common.{get_or, set, refl, sym, ap, ◌∙◌, arith, inl, inr, subst}
use Rattle.transpose_unit.proofs.Common.{length-set, cases_lt, nat_tests, get_or-set_same}
use Rattle.transpose_unit.proofs.Common.{get_or-set_other, pow_pos, bit_at}
use Rattle.std.proofs.lemmas.Bool.{and_right, cases_eq, and_parts}
use Rattle.std.proofs.Common.{◌&&◌, ◌||◌, not, bit_and, bit_or, ◌⊎◌}
use Rattle.std.proofs.lemmas.Nat.{shr-shr, shr_split}
use Rattle.std.proofs.lemmas.Nat.Bits.{bit_at_cat_low, bit_at_cat_high, bit_at-zero}
use mathlib.Core.Bool.{beq}
use Rattle.bit_rows.proofs.WordBits.{and-bit, or-bit, not-bit}
use Rattle.transpose_unit.specs.Exchange.{is_weight, IsMask, crossed, IsExchanged}
use Rattle.transpose_unit.specs.Stage.{IsTransposed}

-- what holds of each weight
by-weight : (P : ℕ → Type 0) (w : ℕ) → is_weight w ≡ true → P 32 → P 16 → P 8 → P 4 → P 2 → P 1
    → P w
by-weight P w h a b c d e f = elim (cases_eq w 32) [
  | inl i ↦ subst P (sym i) a
  | inr n32 ↦ elim (cases_eq w 16) [
    | inl i ↦ subst P (sym i) b
    | inr n16 ↦ elim (cases_eq w 8) [
      | inl i ↦ subst P (sym i) c
      | inr n8 ↦ elim (cases_eq w 4) [
        | inl i ↦ subst P (sym i) d
        | inr n4 ↦ elim (cases_eq w 2) [
          | inl i ↦ subst P (sym i) e
          | inr n2 ↦ elim (cases_eq w 1) [
            | inl i ↦ subst P (sym i) f
            | inr n1 ↦ absurd (grind (arith, nat_tests, h, n32, n16, n8, n4, n2, n1))
          ]
        ]
      ]
    ]
  ]
]

-- the digit of a number below its weight, and above it
digit-below : (w : ℕ) → is_weight w ≡ true → (c : ℕ) → w ≤ c → c / w % 2 ≡ 0
    → (c - w) / w % 2 ≡ 1
digit-below w h = by-weight (λ w. (c : ℕ) → w ≤ c → c / w % 2 ≡ 0 → (c - w) / w % 2 ≡ 1) w h
    (λ c l e. omega arith)
    (λ c l e. omega arith)
    (λ c l e. omega arith)
    (λ c l e. omega arith)
    (λ c l e. omega arith)
    (λ c l e. omega arith)

digit-above : (w : ℕ) → is_weight w ≡ true → (c : ℕ) → c / w % 2 ≡ 1
    → (w ≤ c) × ((c - w) / w % 2 ≡ 0)
digit-above w h = by-weight (λ w. (c : ℕ) → c / w % 2 ≡ 1 → (w ≤ c) × ((c - w) / w % 2 ≡ 0)) w h
    (λ c e. (omega arith, omega arith))
    (λ c e. (omega arith, omega arith))
    (λ c e. (omega arith, omega arith))
    (λ c e. (omega arith, omega arith))
    (λ c e. (omega arith, omega arith))
    (λ c e. (omega arith, omega arith))

digit-of : (n : ℕ) → (n % 2 ≡ 0) ⊎ (n % 2 ≡ 1)
digit-of n = elim (cases_eq (n % 2) 0) [ inl e ↦ inl e | inr ne ↦ inr (omega (arith, ne)) ]

if-even : (n : ℕ) (a b : Bool) → n % 2 ≡ 0 → (if n % 2 == 0 then a else b) ≡ a
if-even n a b e = rw e refl

if-odd : (n : ℕ) (a b : Bool) → n % 2 ≡ 1 → (if n % 2 == 0 then a else b) ≡ b
if-odd n a b e = rw e refl

-- shifted words
shr-bit : (v w c : ℕ) → bit_at (v / 2 ^ w) c ≡ bit_at v (c + w)
shr-bit v w c = let turn : w + c ≡ c + w = omega arith in
    ap (λ n. n % 2 == 1) (shr-shr v w c) ∙ ap (bit_at v) turn

low-bit : (v c : ℕ) → c < 64 → bit_at (v % 2 ^ 64) c ≡ bit_at v c
low-bit v c l = sym (ap (λ n. n == 1) (bit_at_cat_low (v / 2 ^ 64) 64 (v % 2 ^ 64) c l))
    ∙ ap (λ n. bit_at n c) (shr_split v 64)

no-more : (n : ℕ) → n + 0 ≡ n
no-more n = omega arith

shl-below : (v w c : ℕ) → c < 64 → c < w → bit_at (v * 2 ^ w % 2 ^ 64) c ≡ false
shl-below v w c l m = low-bit (v * 2 ^ w) c l
    ∙ ap (λ n. bit_at n c) (sym (no-more (v * 2 ^ w)))
    ∙ ap (λ n. n == 1) (bit_at_cat_low v w 0 c m ∙ bit_at-zero c)

shl-above : (v w c : ℕ) → c < 64 → w ≤ c → bit_at (v * 2 ^ w % 2 ^ 64) c ≡ bit_at v (c - w)
shl-above v w c l m = low-bit (v * 2 ^ w) c l
    ∙ ap (λ n. bit_at n c) (sym (no-more (v * 2 ^ w)))
    ∙ ap (λ n. n == 1) (bit_at_cat_high v w 0 c (pow_pos w) m)

-- a mask at a digit that is known
has : (w mask : ℕ) → IsMask w mask → (c : ℕ) → c < 64 → c / w % 2 ≡ 0 → bit_at mask c ≡ true
has w mask h c l e = h c l ∙ ap (λ n. n == 0) e

lacks : (w mask : ℕ) → IsMask w mask → (c : ℕ) → c < 64 → c / w % 2 ≡ 1 → bit_at mask c ≡ false
lacks w mask h c l e = h c l ∙ ap (λ n. n == 0) e

and-true : (a b : Bool) → b ≡ true → (a && b) ≡ a
and-true a b e = grind (arith, e)

or-false : (a b : Bool) → b ≡ false → (a || b) ≡ a
or-false a b e = grind (arith, e)

false-or : (a b : Bool) → a ≡ false → (a || b) ≡ b
false-or a b e = grind (arith, e)

pub lower-bits : (w mask a b c : ℕ) → is_weight w ≡ true → IsMask w mask → c < 64
    → bit_at (bit_or (bit_and a mask) (bit_and b mask * 2 ^ w % 2 ^ 64)) c
    ≡ (if c / w % 2 == 0 then bit_at a c else bit_at b (c - w))
lower-bits w mask a b c h m l = or-bit (bit_and a mask) (bit_and b mask * 2 ^ w % 2 ^ 64) c
    ∙ elim (digit-of (c / w)) [
      | inl e ↦ or-false _ _ (moved e) ∙ and-bit a mask c ∙ and-true _ _ (has w mask m c l e)
          ∙ sym (if-even (c / w) (bit_at a c) (bit_at b (c - w)) e)
      | inr e ↦ false-or _ _ (and-bit a mask c ∙ and_right _ _ (lacks w mask m c l e))
          ∙ shl-above (bit_and b mask) w c l (digit-above w h c e).0 ∙ and-bit b mask (c - w)
          ∙ and-true _ _ (has w mask m (c - w) (omega arith) (digit-above w h c e).1)
          ∙ sym (if-odd (c / w) (bit_at a c) (bit_at b (c - w)) e)
    ]
  where
    moved : c / w % 2 ≡ 0 → bit_at (bit_and b mask * 2 ^ w % 2 ^ 64) c ≡ false
    moved e = elim (cases_lt c w) [
      | inl lt ↦ shl-below (bit_and b mask) w c l lt
      | inr ge ↦ shl-above (bit_and b mask) w c l ge ∙ and-bit b mask (c - w)
          ∙ and_right _ _ (lacks w mask m (c - w) (omega arith) (digit-below w h c ge e))
    ]

pub upper-bits : (w mask a b c : ℕ) → mask < 2 ^ 64 → IsMask w mask → c < 64
    → bit_at (bit_or (bit_and (a / 2 ^ w) mask) (bit_and b (2 ^ 64 - 1 - mask))) c
    ≡ (if c / w % 2 == 0 then bit_at a (c + w) else bit_at b c)
upper-bits w mask a b c small m l =
    or-bit (bit_and (a / 2 ^ w) mask) (bit_and b (2 ^ 64 - 1 - mask)) c
    ∙ elim (digit-of (c / w)) [
      | inl e ↦ or-false _ _ (and-bit b (2 ^ 64 - 1 - mask) c ∙ and_right _ _
          (not-bit mask c small l ∙ ap not (has w mask m c l e)))
          ∙ and-bit (a / 2 ^ w) mask c ∙ and-true _ _ (has w mask m c l e) ∙ shr-bit a w c
          ∙ sym (if-even (c / w) (bit_at a (c + w)) (bit_at b c) e)
      | inr e ↦ false-or _ _ (and-bit (a / 2 ^ w) mask c
          ∙ and_right _ _ (lacks w mask m c l e)) ∙ and-bit b (2 ^ 64 - 1 - mask) c
          ∙ and-true _ _ (not-bit mask c small l ∙ ap not (lacks w mask m c l e))
          ∙ sym (if-odd (c / w) (bit_at a (c + w)) (bit_at b c) e)
    ]

-- ---- pairs of words

-- the first word of pair k: its number lacks the weight
abbrev pub first_of : ℕ → ℕ → ℕ
first_of w k = k / w * w + k

-- the pair of a word
abbrev pub pair_of : ℕ → ℕ → ℕ
pair_of w i = i / (2 * w) * w + i % w

pub record IsPair (w k : ℕ) : Type 0 where
  pub inside : first_of w k + w < 64
  pub even : first_of w k / w % 2 ≡ 0
  pub odd : (first_of w k + w) / w % 2 ≡ 1
  pub first : pair_of w (first_of w k) ≡ k
  pub second : pair_of w (first_of w k + w) ≡ k
  pub only : (i : ℕ) → i < 64 → pair_of w i ≡ k → (i ≡ first_of w k → ⊥)
      → (i ≡ first_of w k + w → ⊥) → ⊥

pub pair-at : (w : ℕ) → is_weight w ≡ true → (k : ℕ) → k < 32 → IsPair w k
pair-at w h = by-weight (λ w. (k : ℕ) → k < 32 → IsPair w k) w h
    (λ k l. record {
      inside = omega arith;
      even = omega arith;
      odd = omega arith;
      first =
          omega arith;
      second = omega arith;
      only = λ i li e m n. omega arith;
    })
    (λ k l. record {
      inside = omega arith;
      even = omega arith;
      odd = omega arith;
      first =
          omega arith;
      second = omega arith;
      only = λ i li e m n. omega arith;
    })
    (λ k l. record {
      inside = omega arith;
      even = omega arith;
      odd = omega arith;
      first =
          omega arith;
      second = omega arith;
      only = λ i li e m n. omega arith;
    })
    (λ k l. record {
      inside = omega arith;
      even = omega arith;
      odd = omega arith;
      first =
          omega arith;
      second = omega arith;
      only = λ i li e m n. omega arith;
    })
    (λ k l. record {
      inside = omega arith;
      even = omega arith;
      odd = omega arith;
      first =
          omega arith;
      second = omega arith;
      only = λ i li e m n. omega arith;
    })
    (λ k l. record {
      inside = omega arith;
      even = omega arith;
      odd = omega arith;
      first =
          omega arith;
      second = omega arith;
      only = λ i li e m n. omega arith;
    })

-- where the bits of a pair come from
crossed-same : (w i j : ℕ) (d : ℕ) → i / w % 2 ≡ d → j / w % 2 ≡ d → crossed w i j ≡ i
crossed-same w i j d e f = rw (e, f) (omega arith)

crossed-up : (w i j : ℕ) → i / w % 2 ≡ 0 → j / w % 2 ≡ 1 → crossed w i j ≡ i + w
crossed-up w i j e f = rw (e, f) (omega arith)

crossed-down : (w i j : ℕ) → i / w % 2 ≡ 1 → j / w % 2 ≡ 0 → crossed w i j ≡ i - w
crossed-down w i j e f = rw (e, f) (omega arith)

at-places : (old : List ℕ) (i j c d : ℕ) → i ≡ j → c ≡ d
    → bit_at (get_or old i 0) c ≡ bit_at (get_or old j 0) d
at-places old i j c d e f = rw (e, f) refl

first-crossed : (w i c : ℕ) (old : List ℕ) → i / w % 2 ≡ 0
    → (if c / w % 2 == 0 then bit_at (get_or old i 0) c else bit_at (get_or old (i + w) 0) (c - w))
    ≡ bit_at (get_or old (crossed w i c) 0) (crossed w c i)
first-crossed w i c old e = elim (digit-of (c / w)) [
  | inl f ↦ if-even (c / w) (bit_at (get_or old i 0) c) (bit_at (get_or old (i + w) 0) (c - w)) f
      ∙ at-places old i (crossed w i c) c (crossed w c i)
      (sym (crossed-same w i c 0 e f)) (sym (crossed-same w c i 0 f e))
  | inr f ↦ if-odd (c / w) (bit_at (get_or old i 0) c) (bit_at (get_or old (i + w) 0) (c - w)) f
      ∙ at-places old (i + w) (crossed w i c) (c - w) (crossed w c i)
      (sym (crossed-up w i c e f)) (sym (crossed-down w c i f e))
]

second-crossed : (w i c : ℕ) (old : List ℕ) → (i + w) / w % 2 ≡ 1
    → (if c / w % 2 == 0 then bit_at (get_or old i 0) (c + w) else bit_at (get_or old (i + w) 0) c)
    ≡ bit_at (get_or old (crossed w (i + w) c) 0) (crossed w c (i + w))
second-crossed w i c old e = elim (digit-of (c / w)) [
  | inl f ↦ if-even (c / w) (bit_at (get_or old i 0) (c + w)) (bit_at (get_or old (i + w) 0) c) f
      ∙ at-places old i (crossed w (i + w) c) (c + w) (crossed w c (i + w))
      (back i w ∙ sym (crossed-down w (i + w) c e f)) (sym (crossed-up w c (i + w) f e))
  | inr f ↦ if-odd (c / w) (bit_at (get_or old i 0) (c + w)) (bit_at (get_or old (i + w) 0) c) f
      ∙ at-places old (i + w) (crossed w (i + w) c) c (crossed w c (i + w))
      (sym (crossed-same w (i + w) c 1 e f)) (sym (crossed-same w c (i + w) 1 f e))
]
  where
    back : (i w : ℕ) → i ≡ i + w - w
    back i w = omega arith

-- the pairs below k are exchanged, and the others are as before
pub record SoFar (w k : ℕ) (old m : List ℕ) : Type 0 where
  pub size : length m ≡ 64
  pub done : (i c : ℕ) → i < 64 → pair_of w i < k → c < 64
      → bit_at (get_or m i 0) c ≡ bit_at (get_or old (crossed w i c) 0) (crossed w c i)
  pub left : (i : ℕ) → i < 64 → k ≤ pair_of w i → get_or m i 0 ≡ get_or old i 0

pub one-pair : (w k x y : ℕ) (old m : List ℕ) → is_weight w ≡ true → k < 32 → SoFar w k old m
    → ((c : ℕ) → c < 64 → bit_at x c ≡ (if c / w % 2 == 0 then bit_at (get_or m (first_of w k) 0) c
    else bit_at (get_or m (first_of w k + w) 0) (c - w)))
    → ((c : ℕ) → c < 64 → bit_at y c
    ≡ (if c / w % 2 == 0 then bit_at (get_or m (first_of w k) 0) (c + w)
    else bit_at (get_or m (first_of w k + w) 0) c))
    → SoFar w (k + 1) old (set (set m (first_of w k) x) (first_of w k + w) y)
one-pair w k x y old m h l s ex ey =
    let pair : IsPair w k = pair-at w h k l in
    let i : ℕ = first_of w k in
    let some : i ≡ i + w → ⊥ = λ e. absurd (two-digits (i / w % 2) pair.even (ap (λ n. n / w % 2) e
    ∙ pair.odd)) in
    let low : get_or m i 0 ≡ get_or old i 0 = s.left i (omega (arith, pair.inside))
    (omega (arith, pair.first)) in
    let high : get_or m (i + w) 0 ≡ get_or old (i + w) 0 = s.left (i + w) pair.inside
    (omega (arith, pair.second)) in
    let length-one : length (set m i x) ≡ 64 = length-set m i x ∙ s.size in
    let there : get_or (set (set m i x) (i + w) y) (i + w) 0 ≡ y =
    get_or-set_same (set m i x) (i + w) y 0 (omega (arith, length-one, pair.inside)) in
    let here : get_or (set (set m i x) (i + w) y) i 0 ≡ x =
    get_or-set_other (set m i x) (i + w) i y 0 some
    ∙ get_or-set_same m i x 0 (omega (arith, s.size, pair.inside)) in
    record {
      size = length-set (set m i x) (i + w) y ∙ length-one;
      done = λ j c lj lp lc. elim (cases_eq j (i + w)) [
        | inl e ↦ subst (λ n. bit_at (get_or (set (set m i x) (i + w) y) n 0) c
            ≡ bit_at (get_or old (crossed w n c) 0) (crossed w c n)) (sym e)
            (ap (λ n. bit_at n c) there ∙ ey c lc
            ∙ rw (low, high) (second-crossed w i c old pair.odd))
        | inr n2 ↦ elim (cases_eq j i) [
          | inl e ↦ subst (λ n. bit_at (get_or (set (set m i x) (i + w) y) n 0) c
              ≡ bit_at (get_or old (crossed w n c) 0) (crossed w c n)) (sym e)
              (ap (λ n. bit_at n c) here ∙ ex c lc
              ∙ rw (low, high) (first-crossed w i c old pair.even))
          | inr n1 ↦ (let other : pair_of w j ≡ k → ⊥ = λ e. pair.only j lj e n1 n2 in
              ap (λ n. bit_at n c) (get_or-set_other (set m i x) (i + w) j y 0 n2
              ∙ get_or-set_other m i j x 0 n1)
              ∙ s.done j c lj (omega (arith, other)) lc)
        ]
      ];
      left = λ j lj lp.
          let n1 : j ≡ i → ⊥ = λ e. less k (pair_of w j) lp (ap (pair_of w) e ∙ pair.first) in
          let n2 : j ≡ i + w → ⊥ = λ e. less k (pair_of w j) lp (ap (pair_of w) e ∙ pair.second) in
          get_or-set_other (set m i x) (i + w) j y 0 n2 ∙ get_or-set_other m i j x 0 n1
          ∙ s.left j lj (omega arith);
    }
  where
    two-digits : (n : ℕ) → n ≡ 0 → n ≡ 1 → ⊥
    two-digits n e f = omega arith

    less : (k p : ℕ) → k + 1 ≤ p → p ≡ k → ⊥
    less k p l e = omega arith

-- ---- the six steps

-- i, with the digits from this weight on that c has
abbrev pub mixed : (w i c : ℕ) → ℕ
mixed w i c = c / w * w + i % w

-- words and bits have exchanged these digits of their numbers
abbrev pub IsMixed : ℕ → List ℕ → List ℕ → Type 0
IsMixed w old new = (i c : ℕ) → i < 64 → c < 64
    → bit_at (get_or new i 0) c ≡ bit_at (get_or old (mixed w i c) 0) (mixed w c i)

crossed-small : (w : ℕ) → is_weight w ≡ true → (i c : ℕ) → i < 64 → c < 64 → crossed w i c < 64
crossed-small w h = by-weight (λ w. (i c : ℕ) → i < 64 → c < 64 → crossed w i c < 64) w h
    (λ i c li lc. omega arith)
    (λ i c li lc. omega arith)
    (λ i c li lc. omega arith)
    (λ i c li lc. omega arith)
    (λ i c li lc. omega arith)
    (λ i c li lc. omega arith)

mixed-more : (w : ℕ) → is_weight w ≡ true → (i c : ℕ) → i < 64 → c < 64
    → mixed (2 * w) (crossed w i c) (crossed w c i) ≡ mixed w i c
mixed-more w h = by-weight (λ w. (i c : ℕ) → i < 64 → c < 64
    → mixed (2 * w) (crossed w i c) (crossed w c i) ≡ mixed w i c) w h
    (λ i c li lc. omega arith)
    (λ i c li lc. omega arith)
    (λ i c li lc. omega arith)
    (λ i c li lc. omega arith)
    (λ i c li lc. omega arith)
    (λ i c li lc. omega arith)

pub step-more : (w v : ℕ) (old a b : List ℕ) → is_weight w ≡ true → v ≡ 2 * w → IsMixed v old a
    → IsExchanged w a b → IsMixed w old b
step-more w v old a b h e m s = λ i c li lc.
    let before : IsMixed (2 * w) old a = subst (λ n. IsMixed n old a) e m in
    s i c li lc
    ∙ before (crossed w i c) (crossed w c i) (crossed-small w h i c li lc)
    (crossed-small w h c i lc li)
    ∙ at-places old (mixed (2 * w) (crossed w i c) (crossed w c i)) (mixed w i c)
    (mixed (2 * w) (crossed w c i) (crossed w i c)) (mixed w c i) (mixed-more w h i c li lc)
    (mixed-more w h c i lc li)

pub no-step : (old : List ℕ) → IsMixed 64 old old
no-step old = λ i c li lc. at-places old i (mixed 64 i c) c (mixed 64 c i) (omega arith)
    (omega arith)

pub last-step : (old new : List ℕ) → IsMixed 1 old new → IsTransposed old new
last-step old new m = λ i c li lc. m i c li lc
    ∙ at-places old (mixed 1 i c) c (mixed 1 c i) i (omega arith) (omega arith)

-- ---- the masks

agree : (ℕ → Bool) → (ℕ → Bool) → ℕ → Bool
agree f g zero = true
agree f g (suc n) = beq (f n) (g n) && agree f g n

same-bit : (a b : Bool) → beq a b ≡ true → a ≡ b
same-bit a b h = grind arith

agree-at : (f g : ℕ → Bool) (n k : ℕ) → agree f g n ≡ true → k < n → f k ≡ g k
unfolding agree
agree-at f g zero k h l = absurd (omega arith)
agree-at f g (suc n) k h l = elim (cases_eq k n) [
  | inl e ↦ subst (λ j. f j ≡ g j) (sym e) (same-bit _ _ (and_parts _ _ h).0)
  | inr ne ↦ agree-at f g n k (and_parts _ _ h).1 (omega (arith, ne))
]

pub mask-32 : IsMask 32 4294967295
unfolding agree
mask-32 = λ c l. agree-at (bit_at 4294967295) (λ c. c / 32 % 2 == 0) 64 c refl l

pub mask-16 : IsMask 16 281470681808895
unfolding agree
mask-16 = λ c l. agree-at (bit_at 281470681808895) (λ c. c / 16 % 2 == 0) 64 c refl l

pub mask-8 : IsMask 8 71777214294589695
unfolding agree
mask-8 = λ c l. agree-at (bit_at 71777214294589695) (λ c. c / 8 % 2 == 0) 64 c refl l

pub mask-4 : IsMask 4 1085102592571150095
unfolding agree
mask-4 = λ c l. agree-at (bit_at 1085102592571150095) (λ c. c / 4 % 2 == 0) 64 c refl l

pub mask-2 : IsMask 2 3689348814741910323
unfolding agree
mask-2 = λ c l. agree-at (bit_at 3689348814741910323) (λ c. c / 2 % 2 == 0) 64 c refl l

pub mask-1 : IsMask 1 6148914691236517205
unfolding agree
mask-1 = λ c l. agree-at (bit_at 6148914691236517205) (λ c. c / 1 % 2 == 0) 64 c refl l
