-- Flips, as they are read.
use Rattle.tmr_guard.proofs.Common.{◌≡◌, ℕ, ◌+◌, ◌≤◌, Bool, true, false, List, [], ◌∷◌, ◌++◌}
use Rattle.tmr_guard.proofs.Common.{length, Option, Some, None, arith, option_map, Geometry, Flip}
use Rattle.tmr_guard.proofs.Common.{Result, Ok, Err}
use Rattle.std.specs.List.{AllByRecursion}
use Rattle.text_lex.specs.Lexical.{Item, items_of, items_from, IsRight}
use Rattle.bbop_isa.specs.Lines.{lines_of}
use Rattle.bbop_isa.specs.Words.{words_in}
use Rattle.guard_model.specs.declared.FlipsKind.{FlipsKind}
use Rattle.guard_model.specs.declared.FlipsFault.{FlipsFault}
use Rattle.guard_model.specs.FlipText.{numbers_of, flip_in, flips_from, flips_of}

-- the numbers kept, before those that are left, where all words are numbers
abbrev pub prepend : Bool → List (Option ℕ) → Option (List (Option ℕ)) → Option (List (Option ℕ))
prepend false kept more = None
prepend true kept None = None
prepend true kept (Some more) = Some (kept ++ more)

pub record SoFar (line : List ℕ) (kept : List (Option ℕ)) (plain : Bool) (left : List Item) : Type
    0 where
  pub words : option_map numbers_of (words_in (items_of line))
      ≡ option_map (λ ws. prepend plain kept (numbers_of ws)) (words_in left)
  pub right : AllByRecursion (IsRight line) left

-- The lines of a text
abbrev pub following : List Flip → Result (List Flip) FlipsFault → Result (List Flip) FlipsFault
following before (Ok flips) = Ok (before ++ flips)
following before (Err fault) = Err fault

-- the flips so far, and what is left of the text, whose first line has this number, after a line
-- with this K
pub record ReadSoFar (g : Geometry) (instrs : ℕ) (text : List ℕ) (flips : List Flip)
    (rest : List ℕ) (number before : ℕ) : Type 0 where
  pub said : flips_of g instrs text ≡ following flips
      (flips_from g instrs number (lines_of rest) before)
  pub place : number + length rest ≤ length text + 1

-- a line that is refused has a byte
pub refused_has_byte : (g : Geometry) (instrs before : ℕ) (line : List ℕ) (kind : FlipsKind)
    → flip_in g instrs before (words_in (items_of line)) ≡ Err kind → 1 ≤ length line
unfolding items_from
refused_has_byte g instrs before [] kind is = absurd (cc)
refused_has_byte g instrs before (b ∷ bs) kind is = omega arith
