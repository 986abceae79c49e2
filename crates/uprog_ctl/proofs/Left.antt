-- One command more on a bank.
use Rattle.uprog_ctl.proofs.Common.{ℕ, ◌+◌, ◌≤◌, [], ◌∷◌, sym, ap, ◌∙◌, subst, Counters, Command}
use Rattle.uprog_ctl.proofs.Common.{Banks, SameBut, Row, ChipView, Did, counted-bound}
use Rattle.dram_model.proofs.EventLaws.{on-others}

-- the other banks stay
pub others_stay : (bank : ℕ) (command : Command) (old new : ChipView)
    → Did (Row bank command ∷ []) old new → SameBut bank old.banks new.banks
others_stay bank command old new did = λ other h.
    ap (λ (banks : Banks). banks other) did.banks
    ∙ on-others bank (command ∷ []) old.banks other h

-- and it counts as at most one of each kind
pub few : (bank : ℕ) (command : Command) (old new : ChipView)
    → Did (Row bank command ∷ []) old new
    → (new.counters.aap ≤ old.counters.aap + 1) × (new.counters.ap ≤ old.counters.ap + 1)
few bank command old new did =
    let h = counted-bound (Row bank command ∷ []) old.counters in
    subst (λ (k : Counters). (k.aap ≤ old.counters.aap + 1) × (k.ap ≤ old.counters.ap + 1))
    (sym did.counters) (h.0, h.1)
