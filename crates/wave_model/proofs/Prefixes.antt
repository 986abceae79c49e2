-- A wave that stops on the way.
use Rattle.std.proofs.Common.{◌≡◌, ℕ, zero, suc, List, [], ◌∷◌, take, refl}
use Rattle.std.proofs.Common.{◌∙◌, ap}
use Rattle.std.proofs.lemmas.Bool.Decides.{eqb_tells}
use Rattle.std.proofs.Common.{inl, inr}
use Rattle.std.proofs.lemmas.List.{take-map}
use Rattle.dram_model.specs.declared.address.Command.{Command}
use Rattle.dram_model.specs.Chip.{Event, bank_of}
use Rattle.dram_model.specs.Chip.Event.{Row}
use Rattle.dram_model.specs.Events.{events_of}
use Rattle.dram_model.proofs.EventLaws.{on_bank_all, projection}
use Rattle.wave_model.specs.Schedule.{events_of_picks}
use Rattle.wave_model.specs.Laws.{StopsInItsQueue}
use Rattle.wave_model.proofs.Waves.{own_queue, on_own}

-- the first events have the first events of a bank
first_of : (bank : ℕ) (es : List Event) (k : ℕ)
    → (m : ℕ) × (events_of bank (take k es) ≡ take m (events_of bank es))
first_of bank es zero = (0, refl)
first_of bank [] (suc k) = (0, refl)
first_of bank (e ∷ es) (suc k) =
    let rest = first_of bank es k in
    elim (eqb_tells (bank_of e) bank) [
      | inl h ↦ (suc rest.0, rw h.0 (ap (λ xs. e ∷ xs) rest.1))
      | inr h ↦ (rest.0, rw h.0 rest.1)
    ]

-- Each bank stands where the first commands of its own queue leave it
pub wave_stops : StopsInItsQueue
wave_stops banks picks left chip bank k whole within =
    let es = events_of_picks banks picks left in
    let part = first_of bank es k in (
      part.0,
      projection (take k es) chip bank
          ∙ ap (λ (xs : List Event). on_bank_all xs (chip bank)) (part.1
          ∙ ap (take part.0) (own_queue banks picks left bank whole within)
          ∙ take-map (λ (c : Command). Row bank c) part.0 (left bank))
          ∙ on_own bank (take part.0 (left bank)) (chip bank),
    )
