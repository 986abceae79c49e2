-- The places of arguments, by their numbers.
use Rattle.word_lower.proofs.Common.{◌≡◌, ℕ, zero, suc, ◌<◌, ◌≤◌, List, [], ◌∷◌, length}
use Rattle.word_lower.proofs.Common.{slice_index_or, Some, refl, ap, ◌∙◌, arith, Slot, Slots}
use Rattle.word_lower.specs.Places.{AreAt, scratch_bit}
use Rattle.word_lower.specs.Shapes.{following}

after_at : (slots : Slots) (names : List (List ℕ)) (ss : List Slot) (free k : ℕ) (d : List ℕ)
    → AreAt slots names ss → k < length names
    → slots (slice_index_or names k d) ≡ Some (following ss free k)
after_at slots [] ss free k d at lt = absurd (omega arith)
after_at slots (n ∷ ns) [] free k d at lt = absurd at
after_at slots (n ∷ ns) (s ∷ ss) free zero d at lt = at.0
after_at slots (n ∷ ns) (s ∷ ss) free (suc k) d at lt =
    after_at slots ns ss free k d at.1 (omega arith)

-- an argument lies where its owner's number says
pub owner_is : (slots : Slots) (names : List (List ℕ)) (ss : List Slot) (free k : ℕ) (x : List ℕ)
    → x ≡ slice_index_or names k x → AreAt slots names ss → k < length names
    → slots x ≡ Some (following ss free k)
owner_is slots names ss free k x e at lt = ap slots e ∙ after_at slots names ss free k x at lt

pub after_past : (slots : Slots) (names : List (List ℕ)) (ss : List Slot) (free k : ℕ)
    → AreAt slots names ss → length names ≤ k → following ss free k ≡ scratch_bit free
after_past slots [] [] free k at le = refl
after_past slots [] (s ∷ ss) free k at le = absurd at
after_past slots (n ∷ ns) [] free k at le = absurd at
after_past slots (n ∷ ns) (s ∷ ss) free zero at le = absurd (omega arith)
after_past slots (n ∷ ns) (s ∷ ss) free (suc k) at le =
    after_past slots ns ss free k at.1 (omega arith)
