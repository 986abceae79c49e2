-- What an operation takes and gives, and its microprogram, as plain lists.
use Rattle.std.specs.Prelude.{ℕ, ◌+◌, ◌*◌, List, ◌∷◌, map, Option}
use Rattle.std.specs.Option.{option_to_list}
use Rattle.op_text.specs.declared.tree.Kind.{Kind}
use Rattle.op_text.specs.declared.tree.Kind.TheVariants.{Word, Bit}
use Rattle.uprog_code.specs.declared.code.Uop.{Uop}
use Rattle.uprog_code.specs.declared.code.Head.{Head}
use Rattle.uprog_code.specs.declared.code.EntryCode.{EntryCode}
use Rattle.uprog_code.specs.declared.code.Program.{Program}

-- the kinds of its sources and of its one or two results, and its bits and words of scratch
pub record Shape : Type 0 where
  pub sources : List Kind
  pub result : Kind
  pub second : Option Kind
  pub bits : ℕ
  pub words : ℕ

-- the shape that an entry's head tells
abbrev pub shape_of : Head → Shape
shape_of head = record {
  sources = head.sources.items;
  result = head.result;
  second = head.second;
  bits = head.bits;
  words = head.words;
}

-- the kinds of its results, in order
abbrev pub results : Shape → List Kind
results shape = shape.result ∷ option_to_list shape.second

-- an operation's name, shape and code
pub record Microprogram : Type 0 where
  pub name : List ℕ
  pub shape : Shape
  pub code : List Uop

-- the microprogram that an entry of a compiled program holds
abbrev pub microprogram_of : EntryCode → Microprogram
microprogram_of e = record { name = e.head.name; shape = shape_of e.head; code = e.code.items }

-- the entries of a compiled program, in order
abbrev pub microprograms_of : Program → List Microprogram
microprograms_of p = map microprogram_of p.entries.items

-- how many rows a word or a bit takes
abbrev pub width : Kind → ℕ → ℕ
width Word n = n
width Bit n = 1

-- how many rows its scratch takes
abbrev pub need : Shape → ℕ → ℕ
need shape n = shape.bits + n * shape.words
