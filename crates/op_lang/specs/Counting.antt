-- The names that statements define, and how many of them are of a kind.
use Rattle.std.specs.Prelude.{ℕ, Bool, ◌&&◌, not, List, ◌++◌}
use Rattle.op_text.specs.declared.tree.Kind.{Kind}
use Rattle.op_text.specs.declared.tree.Kind.TheVariants.{Word, Bit}
use Rattle.op_text.specs.declared.tree.Param.{Param}
use Rattle.op_text.specs.Language.{Statement, Operation}
use Rattle.op_text.specs.WordOps.{same_kind}
use Rattle.op_text.specs.Rules.{is_among}
use Rattle.op_text.specs.Scratch.{body_defines, need_inside, bits_inside, words_inside}
use Rattle.op_text.specs.Scratch.{scratch_bits, scratch_words}

-- the names that can be read after these statements
abbrev pub known_after : List Param → List Statement → List Param
known_after params body = params ++ body_defines params body

-- whether a name is of this kind and no result
abbrev pub is_counted : Kind → List (List ℕ) → Param → Bool
is_counted k outcomes p = same_kind p.kind k && not (is_among outcomes p.name)

-- the greatest number that the program keeps
abbrev pub MOST : ℕ
MOST = 65535

-- what a statement needs beside the names
abbrev pub need_of : Kind → Statement → ℕ
need_of Bit s = need_inside bits_inside s
need_of Word s = need_inside words_inside s

-- the scratch of an op by the kind of its rows
abbrev pub rows_needed : Kind → Operation → ℕ
rows_needed Bit op = scratch_bits op
rows_needed Word op = scratch_words op
