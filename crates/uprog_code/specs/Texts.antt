-- When a program implements the operations of a text.
use Rattle.std.specs.Prelude.{◌≡◌, ℕ, List, [], ◌∷◌, map}
use Rattle.std.specs.Option.{option_map}
use Rattle.op_text.specs.declared.tree.Param.{Param}
use Rattle.op_text.specs.Language.{Operation}
use Rattle.op_text.specs.Meaning.{meaning}
use Rattle.op_text.specs.Scratch.{scratch_bits, scratch_words, ceiling}
use Rattle.uprog_code.specs.Shape.{Shape, Microprogram}
use Rattle.uprog_code.specs.Implements.{Implements}

-- an op of a text, as far as a machine knows it: its name, its kinds and scratch, how many commands
-- it may take, and the numbers that it makes of its sources' numbers
pub record TextOp : Type 0 where
  pub name : List ℕ
  pub shape : Shape
  pub ceiling : ℕ → ℕ
  pub meaning : ℕ → List ℕ → List ℕ

-- the kinds of an op's sources and of its one or two results, and its scratch
abbrev pub op_shape : Operation → Shape
op_shape op = record {
  sources = map (λ p. p.kind) op.params;
  result = op.result.kind;
  second = option_map (λ (p : Param). p.kind) op.second;
  bits = scratch_bits op;
  words = scratch_words op;
}

-- an op of a text with the ceiling and the meaning that its definitions give
abbrev pub text_op : Operation → TextOp
text_op op = record {
  name = op.name;
  shape = op_shape op;
  ceiling = ceiling op;
  meaning = meaning op;
}

-- the entry is the op's, and its code does the op
pub record EntryDoes (e : Microprogram) (o : TextOp) : Type 0 where
  pub name : e.name ≡ o.name
  pub shape : e.shape ≡ o.shape
  pub code : Implements o.shape e.code o.ceiling o.meaning

-- the program has the ops of the text, in order, and does them
abbrev pub ImplementsAll : List Microprogram → List TextOp → Type 0
ImplementsAll [] [] = Unit {0}
ImplementsAll [] (o ∷ t) = ⊥
ImplementsAll (e ∷ p) [] = ⊥
ImplementsAll (e ∷ p) (o ∷ t) = EntryDoes e o × ImplementsAll p t
