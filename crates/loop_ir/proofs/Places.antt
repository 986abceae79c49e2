-- Places of a list.
use Rattle.std.proofs.Common.{◌≡◌, ℕ, zero, suc, ◌+◌, ◌<◌, Bool, true, false, List, [], ◌∷◌, length}
use Rattle.std.proofs.Common.{get_or, take, drop, ◌-◌, refl, sym, subst, arith, ap, inl, inr}
use Rattle.std.proofs.lemmas.Bool.{cases_lt}
use Rattle.std.proofs.Math.Seq.{take-length}
use Rattle.loop_ir.specs.declared.ir.Place.{Place}
use Rattle.loop_ir.specs.Spots.{nth_place}
use Rattle.loop_ir.specs.WellFormed.{IsOneValue}

-- a list with an element, by its first one and the rest
pub front : {A : Type 0} (xs : List A) (d : A) → 0 < length xs
    → xs ≡ get_or xs 0 d ∷ take (length xs - 1) (drop 1 xs)
front [] d l = absurd (omega arith)
front (x ∷ xs) d l = let e : length (x ∷ xs) - 1 ≡ length xs = omega arith in
    rw (e, take-length xs) refl

pub nth-is : (ps : List Place) (k : ℕ) (d : Place) → k < length ps → get_or ps k d ≡ nth_place ps k
nth-is [] k d l = absurd (omega arith)
nth-is (p ∷ ps) zero d l = refl
nth-is (p ∷ ps) (suc k) d l = nth-is ps k d (omega arith)

-- one is refused, so not all hold
pub refuses : (A : Type 0) (P : Place → Type 0) (ps : List Place) (i : ℕ) (d : Place) (r : Bool)
    → i < length ps → r ≡ false → (P (get_or ps i d) → r ≡ true)
    → (false ≡ true → A) × (((k : ℕ) → k < length ps → P (nth_place ps k)) → false ≡ true)
refuses A P ps i d r l fails h = (
  λ e. absurd (cc),
  λ all. let e = h (subst P (sym (nth-is ps i d l)) (all i l)) in cc,
)

-- what holds of i of them and of one more
pub each-more : (P : Place → Type 0) (ps : List Place) (i : ℕ) (d : Place) → i < length ps
    → ((k : ℕ) → k < i → P (nth_place ps k)) → P (get_or ps i d) → (k : ℕ) → k < i + 1
    → P (nth_place ps k)
each-more P ps i d l h p k b = elim (cases_lt k i) [
  | inl c ↦ h k c
  | inr c ↦ let e : i ≡ k = omega arith in subst (λ j. P (nth_place ps j)) e
      (subst P (nth-is ps i d l) p)
]

abbrev pub AreApart : List Place → Type 0
AreApart ps = (i j : ℕ) → i < length ps → j < length ps
    → IsOneValue (nth_place ps i) (nth_place ps j) → i ≡ j

abbrev pub IsApart : Place → List Place → Type 0
IsApart p ps = (k : ℕ) → k < length ps → IsOneValue p (nth_place ps k) → ⊥

pub apart-more : (p : Place) (ps : List Place) → IsApart p ps → AreApart ps → AreApart (p ∷ ps)
apart-more p ps first rest zero zero li lj e = refl
apart-more p ps first rest zero (suc j) li lj e = absurd (first j (omega arith) e)
apart-more p ps first rest (suc i) zero li lj e = absurd (first i (omega arith) (sym e.0, sym e.1))
apart-more p ps first rest (suc i) (suc j) li lj e = ap suc (rest i j (omega arith) (omega arith) e)

pub apart-first : (p : Place) (ps : List Place) → AreApart (p ∷ ps) → IsApart p ps
apart-first p ps all k l e = let f = all 0 (suc k) (omega arith) (omega arith) e in
    absurd (omega (arith, f))

pub apart-rest : (p : Place) (ps : List Place) → AreApart (p ∷ ps) → AreApart ps
apart-rest p ps all i j li lj e = let f = all (suc i) (suc j) (omega arith) (omega arith) e in
    omega (arith, f)

-- a list with a first place is apart where that is apart from the rest, and the rest is
pub apart-is : (ps rest : List Place) (p : Place) (a b : Bool) → ps ≡ p ∷ rest
    → (a ≡ true → IsApart p rest) → (IsApart p rest → a ≡ true) → (b ≡ true → AreApart rest)
    → (AreApart rest → b ≡ true)
    → (a ≡ true → b ≡ true → AreApart ps) × (AreApart ps → (a ≡ true) × (b ≡ true))
apart-is ps rest p a b e fa ga fb gb = rw e (
  λ x y. apart-more p rest (fa x) (fb y),
  λ all. (ga (apart-first p rest all), gb (apart-rest p rest all)),
)

pub apart-first-of : (ps rest : List Place) (p : Place) → ps ≡ p ∷ rest → AreApart ps
    → IsApart p rest
apart-first-of ps rest p e = rw e (apart-first p rest)
