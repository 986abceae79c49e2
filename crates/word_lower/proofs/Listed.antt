-- Lists in which something may be wanting.
use Rattle.word_lower.proofs.Common.{◌≡◌, ℕ, zero, suc, ◌<◌, ◌≤◌, List, [], ◌∷◌, length, refl}
use Rattle.word_lower.proofs.Common.{arith, Word, Source, Slot}
use Rattle.std.specs.Prelude.{slice_index_or}
use Rattle.word_lower.specs.Places.{slot_at}

-- the slot of a number, and where there is none
pub slot_is : (ss : List Slot) (k : ℕ) (d : Slot) → k < length ss
    → slice_index_or ss k d ≡ slot_at ss k
slot_is [] k d lt = absurd (omega (arith, lt))
slot_is (s ∷ ss) zero d lt = refl
slot_is (s ∷ ss) (suc k) d lt = slot_is ss k d (omega (arith, lt))

pub slot_none : (ss : List Slot) (k : ℕ) → length ss ≤ k
    → ◌≡◌ {A = Slot} (record { space = Source; which = 0; kind = Word }) (slot_at ss k)
slot_none [] k le = refl
slot_none (s ∷ ss) zero le = absurd (omega (arith, le))
slot_none (s ∷ ss) (suc k) le = slot_none ss k (omega (arith, le))
