-- The word operations: how they are spelled, what they take and give.
use Rattle.std.specs.Prelude.{◌≡◌, ℕ, List, [], ◌∷◌, ◌++◌, Bool, true, false, Option, Some, None}
use Rattle.std.specs.Prelude.{bytes_eq, codes, map, unwrap_or, if◌then◌else◌}
use Rattle.std.specs.List.{list_any}
use Rattle.op_text.specs.declared.tree.Kind.{Kind}
use Rattle.op_text.specs.declared.tree.Kind.TheVariants.{Word, Bit}
use Rattle.op_text.specs.declared.word_ops.WordOp.{WordOp}
use Rattle.op_text.specs.declared.word_ops.WordOp.TheVariants as o
use Rattle.op_text.specs.declared.word_ops.WordRow.{WordRow}
use Rattle.op_text.specs.declared.word_ops.Signature.{Signature}
use Rattle.op_text.specs.declared.word_ops.Signature.TheVariants as signs

-- all word operations, in their order
abbrev pub all_ops : List WordOp
all_ops = o.Not ∷ o.And ∷ o.Or ∷ o.Xor ∷ o.Copy ∷ o.Zero ∷ o.Ones ∷ o.Shl1 ∷ o.Shr1 ∷ o.Add
    ∷ o.Sub ∷ o.Mul ∷ o.Div ∷ o.Rem ∷ o.Abs ∷ o.Relu ∷ o.Min ∷ o.Max ∷ o.Eq ∷ o.Gt ∷ o.Ge
    ∷ o.IfElse ∷ o.Bitcount ∷ o.AndRed ∷ o.OrRed ∷ o.XorRed ∷ o.Divmod ∷ []

-- an operation's name
abbrev pub op_text : WordOp → List ℕ
op_text o.Not = codes "not"
op_text o.And = codes "and"
op_text o.Or = codes "or"
op_text o.Xor = codes "xor"
op_text o.Copy = codes "copy"
op_text o.Zero = codes "zero"
op_text o.Ones = codes "ones"
op_text o.Shl1 = codes "shl1"
op_text o.Shr1 = codes "shr1"
op_text o.Add = codes "add"
op_text o.Sub = codes "sub"
op_text o.Mul = codes "mul"
op_text o.Div = codes "div"
op_text o.Rem = codes "rem"
op_text o.Abs = codes "abs"
op_text o.Relu = codes "relu"
op_text o.Min = codes "min"
op_text o.Max = codes "max"
op_text o.Eq = codes "eq"
op_text o.Gt = codes "gt"
op_text o.Ge = codes "ge"
op_text o.IfElse = codes "if_else"
op_text o.Bitcount = codes "bitcount"
op_text o.AndRed = codes "and_red"
op_text o.OrRed = codes "or_red"
op_text o.XorRed = codes "xor_red"
op_text o.Divmod = codes "divmod"

-- a row of the table of word operations, as the definitions have it
abbrev pub row : WordOp → Signature → Option Kind → ℕ → ℕ → WordRow
row op signature second bits words = record {
  op = op;
  signature = signature;
  second = second;
  bits = bits;
  words = words;
}

-- What it takes and gives, the kind of a second result, and its internal scratch: so many bits and
-- so many words
abbrev pub row_of : WordOp → WordRow
row_of o.Not = row o.Not signs.OneOf None 0 0
row_of o.And = row o.And signs.TwoOf None 0 0
row_of o.Or = row o.Or signs.TwoOf None 0 0
row_of o.Xor = row o.Xor signs.TwoOf None 0 0
row_of o.Copy = row o.Copy signs.OneOf None 0 0
row_of o.Zero = row o.Zero signs.Nothing None 0 0
row_of o.Ones = row o.Ones signs.Nothing None 0 0
row_of o.Shl1 = row o.Shl1 (signs.OneWord Word) None 1 0
row_of o.Shr1 = row o.Shr1 (signs.OneWord Word) None 1 0
row_of o.Add = row o.Add (signs.TwoWords Word) None 1 0
row_of o.Sub = row o.Sub (signs.TwoWords Word) None 1 0
row_of o.Mul = row o.Mul (signs.TwoWords Word) None 1 0
row_of o.Div = row o.Div (signs.TwoWords Word) None 2 2
row_of o.Rem = row o.Rem (signs.TwoWords Word) None 2 2
row_of o.Abs = row o.Abs (signs.OneWord Word) None 1 0
row_of o.Relu = row o.Relu (signs.OneWord Word) None 0 0
row_of o.Min = row o.Min (signs.TwoWords Word) None 1 0
row_of o.Max = row o.Max (signs.TwoWords Word) None 1 0
row_of o.Eq = row o.Eq (signs.TwoWords Bit) None 0 0
row_of o.Gt = row o.Gt (signs.TwoWords Bit) None 0 0
row_of o.Ge = row o.Ge (signs.TwoWords Bit) None 0 0
row_of o.IfElse = row o.IfElse signs.Choice None 0 0
row_of o.Bitcount = row o.Bitcount (signs.OneWord Word) None 1 0
row_of o.AndRed = row o.AndRed (signs.OneWord Bit) None 0 0
row_of o.OrRed = row o.OrRed (signs.OneWord Bit) None 0 0
row_of o.XorRed = row o.XorRed (signs.OneWord Bit) None 0 0
row_of o.Divmod = row o.Divmod (signs.TwoWords Word) (Some Word) 2 2

-- an operation's place in their order
abbrev pub number : WordOp → ℕ
number o.Not = 0
number o.And = 1
number o.Or = 2
number o.Xor = 3
number o.Copy = 4
number o.Zero = 5
number o.Ones = 6
number o.Shl1 = 7
number o.Shr1 = 8
number o.Add = 9
number o.Sub = 10
number o.Mul = 11
number o.Div = 12
number o.Rem = 13
number o.Abs = 14
number o.Relu = 15
number o.Min = 16
number o.Max = 17
number o.Eq = 18
number o.Gt = 19
number o.Ge = 20
number o.IfElse = 21
number o.Bitcount = 22
number o.AndRed = 23
number o.OrRed = 24
number o.XorRed = 25
number o.Divmod = 26

-- all operations' names and rows
abbrev pub word_rows : List (List ℕ × WordRow)
word_rows = map (λ p. (op_text p, row_of p)) all_ops

-- the operation of the first row with this name
abbrev pub first_named : List (List ℕ × WordRow) → List ℕ → Option WordOp
first_named [] text = None
first_named (r ∷ rows) text = if bytes_eq r.0 text then Some r.1.op else first_named rows text

-- the word operation that a name names
abbrev pub op_named : List ℕ → Option WordOp
op_named text = first_named word_rows text

-- a form of an operation: the kinds of its arguments and of its first result
pub record Form : Type 0 where
  pub takes : List Kind
  pub gives : Kind

-- a form with these kinds
abbrev pub form : List Kind → Kind → Form
form takes gives = record { takes = takes; gives = gives }

-- an argument and a result of one kind, whichever
abbrev pub of_one : List Form
of_one = form (Word ∷ []) Word ∷ form (Bit ∷ []) Bit ∷ []

-- two arguments and a result of one kind, whichever
abbrev pub of_two : List Form
of_two = form (Word ∷ Word ∷ []) Word ∷ form (Bit ∷ Bit ∷ []) Bit ∷ []

-- a word, of which a value of this kind is made
abbrev pub word_to : Kind → List Form
word_to k = form (Word ∷ []) k ∷ []

-- two words, of which a value of this kind is made
abbrev pub words_to : Kind → List Form
words_to k = form (Word ∷ Word ∷ []) k ∷ []

-- the forms of each signature
abbrev pub signature_forms : Signature → List Form
signature_forms signs.Nothing = form [] Word ∷ []
signature_forms signs.OneOf = of_one
signature_forms signs.TwoOf = of_two
signature_forms (signs.OneWord k) = word_to k
signature_forms (signs.TwoWords k) = words_to k
signature_forms signs.Choice = form (Word ∷ Word ∷ Bit ∷ []) Word ∷ form (Bit ∷ Bit ∷ Bit ∷ []) Bit
    ∷ []

-- the forms of each operation
abbrev pub forms : WordOp → List Form
forms p = signature_forms (row_of p).signature

-- the kind of the second result, if the operation has one
abbrev pub second_kind : WordOp → Option Kind
second_kind p = (row_of p).second

-- the kind of a second target, a word where the operation has no second result
abbrev pub second_gives : WordOp → Kind
second_gives p = unwrap_or (second_kind p) Word

-- whether two kinds are one
abbrev pub same_kind : Kind → Kind → Bool
same_kind Word Word = true
same_kind Bit Bit = true
same_kind a b = false

-- what a list of kinds still lacks of another that it begins
abbrev pub lacks : List Kind → List Kind → Option (List Kind)
lacks [] all = Some all
lacks (k ∷ ks) [] = None
lacks (k ∷ ks) (j ∷ js) = if same_kind k j then lacks ks js else None

-- the arguments are all of a form
abbrev pub is_whole : Option (List Kind) → Bool
is_whole (Some []) = true
is_whole o = false

-- the form lacks arguments
abbrev pub is_part : Option (List Kind) → Bool
is_part (Some (k ∷ ks)) = true
is_part o = false

-- the arguments are the beginning of a form, or all of it
abbrev pub is_begun : Option (List Kind) → Bool
is_begun (Some ks) = true
is_begun None = false

-- the first form that these kinds fill
abbrev pub filled : List Form → List Kind → Option Kind
filled [] given = None
filled (f ∷ fs) given = if is_whole (lacks given f.takes) then Some f.gives else filled fs given

-- whether a first argument of a kind, or none, fits
abbrev pub begins : List Kind → Option Kind → Bool
begins [] None = true
begins [] (Some k) = false
begins (j ∷ js) None = false
begins (j ∷ js) (Some k) = same_kind j k

-- the kind that the first form with this first argument gives
abbrev pub given_first : List Form → Option Kind → Kind
given_first [] first = Word
given_first (f ∷ fs) first = if begins f.takes first then f.gives else given_first fs first

-- the kind of the first argument, if there is one
abbrev pub first_of : List Kind → Option Kind
first_of [] = None
first_of (k ∷ ks) = Some k

-- The first argument settles the kind of the result.
abbrev pub FirstSettles : Type 0
FirstSettles = (p : WordOp) (kinds : List Kind) (k : Kind) → filled (forms p) kinds ≡ Some k
    → given_first (forms p) (first_of kinds) ≡ k

-- whether one more argument of this kind may stand after these
abbrev pub may_take : List Form → List Kind → Kind → Bool
may_take fs given k = list_any (λ f. is_begun (lacks (given ++ k ∷ []) f.takes)) fs

-- whether another argument may stand after these
abbrev pub wants_more : List Form → List Kind → Bool
wants_more fs given = list_any (λ f. is_part (lacks given f.takes)) fs
