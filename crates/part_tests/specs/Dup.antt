-- The microprogram of an operation with two results, both its source; for width 1.
use Rattle.std.specs.Prelude.{List, [], ◌∷◌, Some}
use Rattle.op_text.specs.declared.tree.Kind.TheVariants.{Word}
use Rattle.uprog_code.specs.declared.code.RowSpace.TheVariants as space
use Rattle.uprog_code.specs.declared.code.Uop.{Uop}
use Rattle.uprog_code.specs.declared.code.Uop.TheVariants.{Done, Aap}
use Rattle.uprog_code.specs.Shape.{Shape}
use Rattle.part_tests.specs.Xor.{fixed_row, first_row}

-- a word in, and two words out
abbrev pub dup_shape : Shape
dup_shape = record {
  sources = Word ∷ [];
  result = Word;
  second = Some Word;
  bits = 0;
  words = 0;
}

-- the source into T0, and T0 into both results
abbrev pub dup_code : List Uop
dup_code =
    Aap (first_row space.Source 0) (fixed_row space.B 0)
    ∷ Aap (fixed_row space.B 0) (first_row space.Result 0)
    ∷ Aap (fixed_row space.B 0) (first_row space.Result 1) ∷ Done ∷ []
