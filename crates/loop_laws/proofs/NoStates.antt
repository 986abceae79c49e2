-- Bodies and loop programs of which nothing stands in cells.
use Rattle.loop_laws.proofs.Common.{or_parts, ◌≡◌, ℕ, suc, ◌<◌, true, false, List, [], ◌∷◌, ◌++◌}
use Rattle.loop_laws.proofs.Common.{Bool, length, refl, arith, list_any, list_all, AllByRecursion}
use Rattle.loop_laws.proofs.Common.{Place, Block, StepOf, AllParts, Single, Along, Flowed, is_state}
use Rattle.loop_laws.proofs.Common.{nth_place, has_states, states_in, steps_find, chained}
use Rattle.loop_laws.proofs.Common.{flow_finds, FlowOf, AllFlow, zeros, widths, RoundOf}
use Rattle.loop_laws.proofs.Common.{flow_rounds}
pub use Rattle.loop_laws.proofs.Alike.{rows_fit}
use Rattle.loop_laws.proofs.FlowRounds.{run_all}

-- nothing of the body stands in cells
abbrev pub HasRows : Block → Type 0
HasRows b = has_states b ≡ false

none_any : (ps qs : List Place)
    → ((k : ℕ) → k < length ps → is_state (nth_place ps k).space ≡ false)
    → ((k : ℕ) → k < length qs → is_state (nth_place qs k).space ≡ false)
    → list_any (λ p. is_state p.space) (ps ++ qs) ≡ false
none_any [] [] f g = refl
none_any [] (q ∷ qs) f g = rw (g 0 (omega arith))
    (none_any [] qs f (λ k l. g (suc k) (omega (arith, l))))
none_any (p ∷ ps) qs f g = rw (f 0 (omega arith))
    (none_any ps qs (λ k l. f (suc k) (omega (arith, l))) g)

-- so it is where each of its places is a row
pub has_rows : (b : Block)
    → ((k : ℕ) → k < length b.reads → is_state (nth_place b.reads k).space ≡ false)
    → ((j : ℕ) → j < length b.writes → is_state (nth_place b.writes j).space ≡ false) → HasRows b
has_rows b f g = none_any b.reads b.writes f g

none_in : (ps qs : List Place) → list_any (λ p. is_state p.space) (ps ++ qs) ≡ false
    → states_in ps ≡ []
none_in [] qs none = refl
none_in (p ∷ ps) qs none = rw (or_parts (is_state p.space) _ none).0 (none_in ps qs (grind arith))

rounds_rows : (alive : List ℕ) (rs : List (RoundOf Block))
    → AllByRecursion (λ r. HasRows r.part) rs → chained alive rs ≡ true
rounds_rows alive [] all = refl
rounds_rows alive (r ∷ rs) all = rw (none_in r.part.reads r.part.writes all.0)
    (rounds_rows _ rs all.1)

-- a test that passes on whatever passes on all of these
passes : (test : ℕ → Bool) → ((n : ℕ) → test n ≡ true) → (ns : List ℕ) → list_all test ns ≡ true
passes test h [] = refl
passes test h (n ∷ ns) = rw (h n) (passes test h ns)

flow_rows : (f : FlowOf Block) → AllFlow HasRows f → flow_finds f ≡ true
flow_rows f all = passes (λ n. chained [] (flow_rounds n f)) (λ n.
    rounds_rows [] (flow_rounds n f) (run_all Block HasRows n f all zeros)) widths

-- no body looks for a state
pub no_state_sought : (alive : List ℕ) (ss : List (StepOf Block)) → AllParts HasRows ss
    → steps_find alive ss ≡ true
no_state_sought alive [] all = refl
no_state_sought alive (Single b ∷ ss) all = rw (none_in b.reads b.writes all.0)
    (no_state_sought _ ss all.1)
no_state_sought alive (Along b ∷ ss) all = rw (none_in b.reads b.writes all.0)
    (no_state_sought _ ss all.1)
no_state_sought alive (Flowed f ∷ ss) all = rw (flow_rows f all.0) (no_state_sought [] ss all.1)
