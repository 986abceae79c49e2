-- Lists of kinds that are compared one by one
use Rattle.verify_core.proofs.Common.{Bool, true, false, List, [], ◌∷◌, refl, false≢true, Kind}
use Rattle.verify_core.proofs.Common.{Word, Bit, ◌≡◌}
use Rattle.std.specs.Cmp.Lexicographic.{pointwise}
use Rattle.op_text.specs.contracts.tree.KindPartialEq.TheImpl.{eq-value}

one-kind : (x y : Kind) → eq-value.it x y ≡ true → x ≡ y
one-kind Word Word h = refl
one-kind Bit Bit h = refl
one-kind Word Bit h = absurd (false≢true h)
one-kind Bit Word h = absurd (false≢true h)

self-kind : (x : Kind) → eq-value.it x x ≡ true
self-kind Word = refl
self-kind Bit = refl

pub kinds-same : (xs ys : List Kind) → pointwise eq-value.it xs ys ≡ true → xs ≡ ys
kinds-same [] [] h = refl
kinds-same [] (y ∷ ys) h = absurd (false≢true h)
kinds-same (x ∷ xs) [] h = absurd (false≢true h)
kinds-same (x ∷ xs) (y ∷ ys) h = by (eq-value.it x y) refl (λ r. kinds-same xs ys r)
  where
    by : (b : Bool) → eq-value.it x y ≡ b → (pointwise eq-value.it xs ys ≡ true → xs ≡ ys)
        → x ∷ xs ≡ y ∷ ys
    by true e more = rw (one-kind x y e, more (rw e at h)) refl
    by false e more = absurd (false≢true (rw e at h))

pub kinds-self : (xs : List Kind) → pointwise eq-value.it xs xs ≡ true
kinds-self [] = refl
kinds-self (x ∷ xs) = rw (self-kind x) (kinds-self xs)
