-- No two expressions are spelled alike.
use Rattle.std.proofs.Common.{◌≡◌, ℕ, true, false, List, [], ◌∷◌, refl, ap, ◌∙◌, codes, arith}
use Rattle.text_lex.specs.Spelled.{fits_name}
use Rattle.op_text.specs.Language.{Term, Nought, Unity, Named, Negation, Conjunction, Disjunction}
use Rattle.op_text.specs.Language.{Parity, Majority}
use Rattle.op_text.specs.Spelling.{term_text, IsShut, SpelledOnce}

-- the first byte of the first token
abbrev first : List (List ℕ) → ℕ
first [] = 0
first ([] ∷ xs) = 0
first ((b ∷ bs) ∷ xs) = b

close_shut : (x : List (List ℕ)) → IsShut (codes ")" ∷ x)
close_shut x y e = omega (arith, ap first e)

comma_shut : (x : List (List ℕ)) → IsShut (codes "," ∷ x)
comma_shut x y e = omega (arith, ap first e)

no_digit_name : (n d : List ℕ) → n ≡ d → fits_name n ≡ true → fits_name d ≡ false → ⊥
no_digit_name n d e h k = let h' = rw e at h in cc

following : (g h : List ℕ) (s t : List (List ℕ)) → g ∷ h ∷ s ≡ g ∷ h ∷ t → s ≡ t
following g h s t e = cc

next : (g : List ℕ) (s t : List (List ℕ)) → g ∷ s ≡ g ∷ t → s ≡ t
next g s t e = cc

pub spelled_once : SpelledOnce
spelled_once Nought Nought x y f g h k e = (refl, next _ x y e)
spelled_once Nought Unity x y f g h k e = absurd (omega (arith, ap first e))
spelled_once Nought (Named np) x y f g h k e = absurd (no_digit_name np (codes "0") (cc) g refl)
spelled_once Nought (Negation a') x y f g h k e = absurd (omega (arith, ap first e))
spelled_once Nought (Conjunction a' b') x y f g h k e = absurd (omega (arith, ap first e))
spelled_once Nought (Disjunction a' b') x y f g h k e = absurd (omega (arith, ap first e))
spelled_once Nought (Parity a' b') x y f g h k e = absurd (omega (arith, ap first e))
spelled_once Nought (Majority a' b' c') x y f g h k e = absurd (omega (arith, ap first e))
spelled_once Unity Nought x y f g h k e = absurd (omega (arith, ap first e))
spelled_once Unity Unity x y f g h k e = (refl, next _ x y e)
spelled_once Unity (Named np) x y f g h k e = absurd (no_digit_name np (codes "1") (cc) g refl)
spelled_once Unity (Negation a') x y f g h k e = absurd (omega (arith, ap first e))
spelled_once Unity (Conjunction a' b') x y f g h k e = absurd (omega (arith, ap first e))
spelled_once Unity (Disjunction a' b') x y f g h k e = absurd (omega (arith, ap first e))
spelled_once Unity (Parity a' b') x y f g h k e = absurd (omega (arith, ap first e))
spelled_once Unity (Majority a' b' c') x y f g h k e = absurd (omega (arith, ap first e))
spelled_once (Named n) Nought x y f g h k e = absurd (no_digit_name n (codes "0") (cc) f refl)
spelled_once (Named n) Unity x y f g h k e = absurd (no_digit_name n (codes "1") (cc) f refl)
spelled_once (Named n) (Named np) x y f g h k e =
    (let s : n ≡ np = cc in ap Named s, let s : x ≡ y = cc in s)
spelled_once (Named n) (Negation a') x y f g h k e = absurd (h (term_text a' (codes ")" ∷ y)) (cc))
spelled_once (Named n) (Conjunction a' b') x y f g h k e =
    absurd (h (term_text a' (codes "," ∷ term_text b' (codes ")" ∷ y))) (cc))
spelled_once (Named n) (Disjunction a' b') x y f g h k e =
    absurd (h (term_text a' (codes "," ∷ term_text b' (codes ")" ∷ y))) (cc))
spelled_once (Named n) (Parity a' b') x y f g h k e =
    absurd (h (term_text a' (codes "," ∷ term_text b' (codes ")" ∷ y))) (cc))
spelled_once (Named n) (Majority a' b' c') x y f g h k e =
    absurd (h (term_text a' (codes "," ∷ term_text b' (codes "," ∷ term_text c' (codes ")" ∷ y))))
    (cc))
spelled_once (Negation a) Nought x y f g h k e = absurd (omega (arith, ap first e))
spelled_once (Negation a) Unity x y f g h k e = absurd (omega (arith, ap first e))
spelled_once (Negation a) (Named np) x y f g h k e = absurd (k (term_text a (codes ")" ∷ x)) (cc))
spelled_once (Negation a) (Negation a') x y f g h k e =
    let i0 = spelled_once a a' (codes ")" ∷ x) (codes ")" ∷ y) f g (close_shut _) (close_shut _)
    (following (codes "not") (codes "(") _ _ e) in
    (ap (λ (m : Term). Negation m) i0.0, next _ _ _ i0.1)
spelled_once (Negation a) (Conjunction a' b') x y f g h k e = absurd (omega (arith, ap first e))
spelled_once (Negation a) (Disjunction a' b') x y f g h k e = absurd (omega (arith, ap first e))
spelled_once (Negation a) (Parity a' b') x y f g h k e = absurd (omega (arith, ap first e))
spelled_once (Negation a) (Majority a' b' c') x y f g h k e = absurd (omega (arith, ap first e))
spelled_once (Conjunction a b) Nought x y f g h k e = absurd (omega (arith, ap first e))
spelled_once (Conjunction a b) Unity x y f g h k e = absurd (omega (arith, ap first e))
spelled_once (Conjunction a b) (Named np) x y f g h k e =
    absurd (k (term_text a (codes "," ∷ term_text b (codes ")" ∷ x))) (cc))
spelled_once (Conjunction a b) (Negation a') x y f g h k e = absurd (omega (arith, ap first e))
spelled_once (Conjunction a b) (Conjunction a' b') x y f g h k e =
    let i0 = spelled_once a a' (codes "," ∷ term_text b (codes ")" ∷ x)) (codes ","
    ∷ term_text b' (codes ")" ∷ y)) f.0 g.0 (comma_shut _) (comma_shut _)
    (following (codes "and") (codes "(") _ _ e) in
    let i1 = spelled_once b b' (codes ")" ∷ x) (codes ")" ∷ y) f.1 g.1 (close_shut _) (close_shut _)
    (next _ _ _ i0.1) in (
      ap (λ (m : Term). Conjunction m b) i0.0 ∙ ap (λ (m : Term). Conjunction a' m) i1.0,
      next _ _ _ i1.1,
    )
spelled_once (Conjunction a b) (Disjunction a' b') x y f g h k e =
    absurd (omega (arith, ap first e))
spelled_once (Conjunction a b) (Parity a' b') x y f g h k e = absurd (omega (arith, ap first e))
spelled_once (Conjunction a b) (Majority a' b' c') x y f g h k e =
    absurd (omega (arith, ap first e))
spelled_once (Disjunction a b) Nought x y f g h k e = absurd (omega (arith, ap first e))
spelled_once (Disjunction a b) Unity x y f g h k e = absurd (omega (arith, ap first e))
spelled_once (Disjunction a b) (Named np) x y f g h k e =
    absurd (k (term_text a (codes "," ∷ term_text b (codes ")" ∷ x))) (cc))
spelled_once (Disjunction a b) (Negation a') x y f g h k e = absurd (omega (arith, ap first e))
spelled_once (Disjunction a b) (Conjunction a' b') x y f g h k e =
    absurd (omega (arith, ap first e))
spelled_once (Disjunction a b) (Disjunction a' b') x y f g h k e =
    let i0 = spelled_once a a' (codes "," ∷ term_text b (codes ")" ∷ x)) (codes ","
    ∷ term_text b' (codes ")" ∷ y)) f.0 g.0 (comma_shut _) (comma_shut _)
    (following (codes "or") (codes "(") _ _ e) in
    let i1 = spelled_once b b' (codes ")" ∷ x) (codes ")" ∷ y) f.1 g.1 (close_shut _) (close_shut _)
    (next _ _ _ i0.1) in (
      ap (λ (m : Term). Disjunction m b) i0.0 ∙ ap (λ (m : Term). Disjunction a' m) i1.0,
      next _ _ _ i1.1,
    )
spelled_once (Disjunction a b) (Parity a' b') x y f g h k e = absurd (omega (arith, ap first e))
spelled_once (Disjunction a b) (Majority a' b' c') x y f g h k e =
    absurd (omega (arith, ap first e))
spelled_once (Parity a b) Nought x y f g h k e = absurd (omega (arith, ap first e))
spelled_once (Parity a b) Unity x y f g h k e = absurd (omega (arith, ap first e))
spelled_once (Parity a b) (Named np) x y f g h k e =
    absurd (k (term_text a (codes "," ∷ term_text b (codes ")" ∷ x))) (cc))
spelled_once (Parity a b) (Negation a') x y f g h k e = absurd (omega (arith, ap first e))
spelled_once (Parity a b) (Conjunction a' b') x y f g h k e = absurd (omega (arith, ap first e))
spelled_once (Parity a b) (Disjunction a' b') x y f g h k e = absurd (omega (arith, ap first e))
spelled_once (Parity a b) (Parity a' b') x y f g h k e =
    let i0 = spelled_once a a' (codes "," ∷ term_text b (codes ")" ∷ x)) (codes ","
    ∷ term_text b' (codes ")" ∷ y)) f.0 g.0 (comma_shut _) (comma_shut _)
    (following (codes "xor") (codes "(") _ _ e) in
    let i1 = spelled_once b b' (codes ")" ∷ x) (codes ")" ∷ y) f.1 g.1 (close_shut _) (close_shut _)
    (next _ _ _ i0.1) in
    (ap (λ (m : Term). Parity m b) i0.0 ∙ ap (λ (m : Term). Parity a' m) i1.0, next _ _ _ i1.1)
spelled_once (Parity a b) (Majority a' b' c') x y f g h k e = absurd (omega (arith, ap first e))
spelled_once (Majority a b c) Nought x y f g h k e = absurd (omega (arith, ap first e))
spelled_once (Majority a b c) Unity x y f g h k e = absurd (omega (arith, ap first e))
spelled_once (Majority a b c) (Named np) x y f g h k e =
    absurd (k (term_text a (codes "," ∷ term_text b (codes "," ∷ term_text c (codes ")" ∷ x))))
    (cc))
spelled_once (Majority a b c) (Negation a') x y f g h k e = absurd (omega (arith, ap first e))
spelled_once (Majority a b c) (Conjunction a' b') x y f g h k e = absurd (omega (arith, ap first e))
spelled_once (Majority a b c) (Disjunction a' b') x y f g h k e = absurd (omega (arith, ap first e))
spelled_once (Majority a b c) (Parity a' b') x y f g h k e = absurd (omega (arith, ap first e))
spelled_once (Majority a b c) (Majority a' b' c') x y f g h k e =
    let i0 = spelled_once a a' (codes "," ∷ term_text b (codes "," ∷ term_text c (codes ")" ∷ x)))
    (codes "," ∷ term_text b' (codes "," ∷ term_text c' (codes ")" ∷ y))) f.0 g.0 (comma_shut _)
    (comma_shut _) (following (codes "maj") (codes "(") _ _ e) in
    let i1 = spelled_once b b' (codes "," ∷ term_text c (codes ")" ∷ x)) (codes ","
    ∷ term_text c' (codes ")" ∷ y)) f.1 g.1 (comma_shut _) (comma_shut _) (next _ _ _ i0.1) in
    let i2 = spelled_once c c' (codes ")" ∷ x) (codes ")" ∷ y) f.2 g.2 (close_shut _) (close_shut _)
    (next _ _ _ i1.1) in (
      ap (λ (m : Term). Majority m b c) i0.0 ∙ ap (λ (m : Term). Majority a' m c) i1.0
          ∙ ap (λ (m : Term). Majority a' b' m) i2.0,
      next _ _ _ i2.1,
    )
