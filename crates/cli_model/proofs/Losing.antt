-- A fault of the chip loses one bank at most.
use Rattle.cli_model.proofs.Common.{◌≢◌, ◌⊎◌, ℕ, sym, ◌∙◌, inl, inr, Banks}
use Rattle.std.proofs.lemmas.Bool.{cases_eq}
use Rattle.cli_model.specs.Waves.{ChipUse, IsLeftBy}
use Rattle.cli_model.specs.Laws.{HoldsPart, OneBankIsLost}

of_two : (on : ChipUse) (left : Banks) (a b : ℕ) → a ≢ b → IsLeftBy on left
    → HoldsPart on left a ⊎ HoldsPart on left b
of_two on left a b apart s = elim (cases_eq a s.bank) [
  | inl same ↦ inr (s.done, s.left, s.all, s.others b (λ e. apart (same ∙ sym e)))
  | inr other ↦ inl (s.done, s.left, s.all, s.others a other)
]

pub one_bank_is_lost : OneBankIsLost
one_bank_is_lost on old new a b apart begun (inl (inl memory)) = absurd (cc memory)
one_bank_is_lost on old new a b apart begun (inl (inr (failed, rose, inl unopened))) =
    absurd (cc (begun, unopened.begun))
one_bank_is_lost on old new a b apart begun (inl (inr (failed, rose, inr left))) =
    of_two on new.chip.banks a b apart left
one_bank_is_lost on old new a b apart begun (inr (failed, rose, left)) =
    of_two on new.chip.banks a b apart left
