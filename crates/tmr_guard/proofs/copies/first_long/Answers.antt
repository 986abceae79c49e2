use Rattle.tmr_guard.proofs.Common.{◌+◌, ◌∙◌, ap, sym, option_map, view_of, has_long_name}
use Rattle.tmr_guard.proofs.Placing.{position_mapped}
use Rattle.tmr_guard.proofs.copies.first_long.Goals as goal

pub returns-in-Some-clause-value : goal.returns-in-Some-clause-value
returns-in-Some-clause-value c =
    sym (ap (option_map (λ place. place + 1))
    (position_mapped has_long_name view_of c.args.script.now ∙ sym c.place_of_long.ensures.value
    ∙ c.in-Some.is))

pub returns-in-None-clause-value : goal.returns-in-None-clause-value
returns-in-None-clause-value c =
    sym (ap (option_map (λ place. place + 1))
    (position_mapped has_long_name view_of c.args.script.now ∙ sym c.place_of_long.ensures.value
    ∙ c.in-None.is))
