-- When a subscript's register is moved.
-- Private contracts alone speak of this.
use Rattle.std.specs.Prelude.{ℕ, List}
use Rattle.loop_ir.specs.declared.ir.Move.{Move}
use Rattle.loop_ir.specs.declared.ir.Sub.{Sub}
use Rattle.loop_front.specs.declared.moves.Moment.{Moment}
use Rattle.loop_front.specs.declared.moves.Moment.TheVariants.{Start, Before, After}
use Rattle.loop_front.specs.Front.{start, before, after}

-- what is done to a register of a subscript at this moment
abbrev pub moves_at : Moment → Sub → ℕ → List Move
moves_at Start s r = start s r
moves_at Before s r = before s r
moves_at After s r = after s r
