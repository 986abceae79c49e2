-- Operands are spelled as they are read.
use Rattle.std.proofs.Common.{◌≡◌, ◌↔◌, ℕ, ◌+◌, ◌≤◌, List, [], ◌∷◌, ◌++◌, map, length, Option, Some}
use Rattle.std.proofs.Common.{None, true, refl, ap, ◌∙◌, subst, arith}
use Rattle.std.specs.List.{flat_map}
use Rattle.bbop_isa.specs.Words.{Word}
use Rattle.bbop_isa.specs.Operands.{Written, Term, Named, Value, Break, Stray, Operands}
use Rattle.bbop_isa.specs.Operands.{operands_in, operands_of, with_place, with_number, before_places}
use Rattle.bbop_isa.specs.Operands.{with_commas, term_words, terms_of, in_words, AreOperands}
use Rattle.bbop_isa.proofs.Terming.{no_stray, words_are, terms_are}

-- terms that are these operands
record AreTerms (terms : List Term) (o : Operands) : Type 0 where
  spelled : terms ≡ with_commas (map Named o.places ++ map Value o.numbers)
  some : 1 ≤ length o.places + length o.numbers

some_is : {A : Type 0} (x y : A) → Some x ≡ Some y → x ≡ y
some_is x y is = cc

one_more : (term : Term) (terms : List Term) → 1 ≤ length terms
    → term ∷ Break ∷ with_commas terms ≡ with_commas (term ∷ terms)
one_more term [] some = absurd (omega arith)
one_more term (next ∷ terms) some = refl

sizes : (places : List Written) (numbers : List (Option ℕ)) → 1 ≤ length places + length numbers
    → 1 ≤ length (map Named places ++ map Value numbers)
sizes [] [] some = absurd (omega arith)
sizes [] (number ∷ numbers) some = omega arith
sizes (place ∷ places) numbers some = omega arith

after_place : (place : Written) (terms : List Term) (p : Operands) → AreTerms terms p
    → AreTerms (Named place ∷ Break ∷ terms)
    (record { places = place ∷ p.places; numbers = p.numbers })
after_place place terms p are = record {
  spelled = ap (λ ts. Named place ∷ Break ∷ ts) are.spelled
      ∙ one_more (Named place) (map Named p.places ++ map Value p.numbers)
      (sizes p.places p.numbers are.some);
  some = omega arith;
}

after_number : (number : Option ℕ) (terms : List Term) (places : List Written)
    (numbers : List (Option ℕ)) (o : Operands)
    → AreTerms terms (record { places = places; numbers = numbers })
    → before_places number places numbers ≡ Some o → AreTerms (Value number ∷ Break ∷ terms) o
after_number number terms [] numbers o are is =
    subst (AreTerms (Value number ∷ Break ∷ terms)) (some_is _ _ is) (record {
      spelled = ap (λ ts. Value number ∷ Break ∷ ts) are.spelled
          ∙ one_more (Value number) (map Value numbers) (sizes [] numbers are.some);
      some = omega arith;
    })
after_number number terms (place ∷ places) numbers o are is = absurd (cc)

terms_are_spelled : (terms : List Term) (o : Operands) → operands_in terms ≡ Some o
    → AreTerms terms o
terms_are_spelled (Named place ∷ []) o is = subst (AreTerms (Named place ∷ [])) (some_is _ _ is)
    (record { spelled = refl; some = omega arith })
terms_are_spelled (Value number ∷ []) o is = subst (AreTerms (Value number ∷ []))
    (some_is _ _ is) (record { spelled = refl; some = omega arith })
terms_are_spelled (Named place ∷ Break ∷ terms) o is = at (operands_in terms) (terms_are_spelled terms) is
  where
    at : (r : Option Operands) → ((p : Operands) → r ≡ Some p → AreTerms terms p)
        → with_place place r ≡ Some o → AreTerms (Named place ∷ Break ∷ terms) o
    at None rest is = absurd (cc)
    at (Some p) rest is = subst (AreTerms (Named place ∷ Break ∷ terms)) (some_is _ _ is)
        (after_place place terms p (rest p refl))
terms_are_spelled (Value number ∷ Break ∷ terms) o is =
    at (operands_in terms) (terms_are_spelled terms) is
  where
    at : (r : Option Operands) → ((p : Operands) → r ≡ Some p → AreTerms terms p)
        → with_number number r ≡ Some o → AreTerms (Value number ∷ Break ∷ terms) o
    at None rest is = absurd (cc)
    at (Some p) rest is = after_number number terms p.places p.numbers o (rest p refl) is
terms_are_spelled [] o is = absurd (cc)
terms_are_spelled (Break ∷ terms) o is = absurd (cc)
terms_are_spelled (Stray ∷ terms) o is = absurd (cc)
terms_are_spelled (Named place ∷ Named other ∷ terms) o is = absurd (cc)
terms_are_spelled (Named place ∷ Value other ∷ terms) o is = absurd (cc)
terms_are_spelled (Named place ∷ Stray ∷ terms) o is = absurd (cc)
terms_are_spelled (Value number ∷ Named other ∷ terms) o is = absurd (cc)
terms_are_spelled (Value number ∷ Value other ∷ terms) o is = absurd (cc)
terms_are_spelled (Value number ∷ Stray ∷ terms) o is = absurd (cc)

numbers_are_read : (number : Option ℕ) (numbers : List (Option ℕ))
    → operands_in (with_commas (map Value (number ∷ numbers)))
    ≡ Some (record { places = []; numbers = number ∷ numbers })
numbers_are_read number [] = refl
numbers_are_read number (next ∷ numbers) = ap (with_number number) (numbers_are_read next numbers)

places_are_read : (place : Written) (places : List Written) (numbers : List (Option ℕ))
    → operands_in (with_commas (map Named (place ∷ places) ++ map Value numbers))
    ≡ Some (record { places = place ∷ places; numbers = numbers })
places_are_read place [] [] = refl
places_are_read place [] (number ∷ numbers) = ap (with_place place) (numbers_are_read number numbers)
places_are_read place (next ∷ places) numbers = ap (with_place place) (places_are_read next places numbers)

spelled_terms : (places : List Written) (numbers : List (Option ℕ))
    → 1 ≤ length places + length numbers
    → operands_in (with_commas (map Named places ++ map Value numbers))
    ≡ Some (record { places = places; numbers = numbers })
spelled_terms [] [] some = absurd (omega arith)
spelled_terms [] (number ∷ numbers) some = numbers_are_read number numbers
spelled_terms (place ∷ places) numbers some = places_are_read place places numbers

-- No stray is among operands with commas between them.
numbers_have_none : (numbers : List (Option ℕ)) → no_stray (with_commas (map Value numbers)) ≡ true
numbers_have_none [] = refl
numbers_have_none (number ∷ []) = refl
numbers_have_none (number ∷ next ∷ numbers) = numbers_have_none (next ∷ numbers)

none_is_stray : (places : List Written) (numbers : List (Option ℕ))
    → no_stray (with_commas (map Named places ++ map Value numbers)) ≡ true
none_is_stray [] numbers = numbers_have_none numbers
none_is_stray (place ∷ []) [] = refl
none_is_stray (place ∷ []) (number ∷ numbers) = none_is_stray [] (number ∷ numbers)
none_is_stray (place ∷ next ∷ places) numbers = none_is_stray (next ∷ places) numbers

pub read_is_spelled : (words : List Word) (o : Operands) → operands_of words ≡ Some o
    → AreOperands words o
read_is_spelled words o is =
    let are = terms_are_spelled (terms_of words) o is in
    let none : no_stray (terms_of words) ≡ true = rw are.spelled (none_is_stray o.places o.numbers) in
    record {
      spelled = words_are words none ∙ ap (flat_map term_words) are.spelled;
      some = are.some;
    }

pub spelled_is_read : (places : List Written) (numbers : List (Option ℕ))
    → 1 ≤ length places + length numbers
    → operands_of (in_words (map Named places ++ map Value numbers))
    ≡ Some (record { places = places; numbers = numbers })
spelled_is_read places numbers some =
    ap operands_in (terms_are (with_commas (map Named places ++ map Value numbers)))
    ∙ spelled_terms places numbers some

pub spelled_both : (words : List Word) (o : Operands) → (operands_of words ≡ Some o)
    ↔ AreOperands words o
spelled_both words o = (
  read_is_spelled words o,
  λ are. rw are.spelled (spelled_is_read o.places o.numbers are.some),
)
