-- The microprogram of the operation `xor` on words, straight code for width 1.
use Rattle.std.specs.Prelude.{ℕ, List, [], ◌∷◌, None}
use Rattle.op_text.specs.declared.tree.Kind.TheVariants.{Word}
use Rattle.uprog_code.specs.declared.code.RowSpace.{RowSpace}
use Rattle.uprog_code.specs.declared.code.RowSpace.TheVariants as space
use Rattle.uprog_code.specs.declared.code.RowRef.{RowRef}
use Rattle.uprog_code.specs.declared.code.Uop.{Uop}
use Rattle.uprog_code.specs.declared.code.Uop.TheVariants.{Done, Aap, Ap}
use Rattle.uprog_code.specs.Shape.{Shape}

-- two words give a word, without scratch
abbrev pub xor_shape : Shape
xor_shape = record {
  sources = Word ∷ Word ∷ [];
  result = Word;
  second = None;
  bits = 0;
  words = 0;
}

-- a row of the B or C group
abbrev pub fixed_row : RowSpace → ℕ → RowRef
fixed_row space which = record { space = space; which = which; index = 0 }

-- the row of position 0
abbrev pub first_row : RowSpace → ℕ → RowRef
first_row space which = record { space = space; which = which; index = 8 }

-- the sources into both cells of two pairs, and then four majorities
abbrev pub xor_code : List Uop
xor_code =
    Aap (first_row space.Source 0) (fixed_row space.B 8)
    ∷ Aap (first_row space.Source 1) (fixed_row space.B 9)
    ∷ Aap (fixed_row space.C 0) (fixed_row space.B 10) ∷ Ap (fixed_row space.B 14)
    ∷ Ap (fixed_row space.B 15)
    ∷ Aap (fixed_row space.C 1) (fixed_row space.B 2)
    ∷ Aap (fixed_row space.B 12) (first_row space.Result 0) ∷ Done ∷ []
