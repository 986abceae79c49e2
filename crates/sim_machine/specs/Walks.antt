-- Walks that were done, and are kept.
use Rattle.std.specs.Prelude.{◌≡◌, ◌+◌, ◌*◌, ◌≤◌, List, length, Option, Some, IfOk, IfSome, All}
use Rattle.std.specs.Prelude.{slice_get}
use Rattle.uprog_code.specs.declared.TheConstants.{WALK_MAX}
use Rattle.uprog_code.specs.Shape.{Microprogram}
use Rattle.uprog_code.specs.Machine.{trace}
use Rattle.uprog_code.specs.Count.{walked}
use Rattle.sim_machine.specs.declared.walks.Walk.{Walk}

-- this came of the walk: the counts of its entry's trace at its width, or where that is stuck
pub record IsWalk (programs : List Microprogram) (w : Walk) : Type 0 where
  pub walks : (m : Microprogram) → slice_get programs w.at ≡ Some m
      → walked (trace m.shape m.code w.n) ≡ w.came
  pub few : IfOk w.came (λ counts. counts.aap + counts.ap ≤ WALK_MAX)

-- room for a walk of each entry at each width, and those that are kept came of their entries
pub record AreWalks (programs : List Microprogram) (walks : List (Option Walk)) : Type 0 where
  pub long : length walks ≡ 129 * length programs
  pub each : All (λ slot. IfSome slot (IsWalk programs)) walks
