-- The operations that a scan's program has.
use Rattle.std.specs.Prelude.{ℕ, List, [], ◌∷◌, None, map, codes}
use Rattle.op_text.specs.declared.tree.Kind.{Kind}
use Rattle.op_text.specs.declared.tree.Kind.TheVariants.{Word, Bit}
use Rattle.op_text.specs.declared.word_ops.WordOp.{WordOp}
use Rattle.op_text.specs.declared.word_ops.WordOp.TheVariants as o
use Rattle.op_text.specs.Language.{Operation, Compute}
use Rattle.op_text.specs.Scratch.{param}
use Rattle.uprog_code.specs.Texts.{TextOp, text_op}

-- op NAME(a: KIND, b: KIND) -> y: bit { y = OP(a, b); }
abbrev pub of_two_sources : List ℕ → Kind → WordOp → Operation
of_two_sources name kind op = record {
  name = name;
  params = param (codes "a") kind ∷ param (codes "b") kind ∷ [];
  result = param (codes "y") Bit;
  second = None;
  body = Compute (codes "y") None op (codes "a" ∷ codes "b" ∷ []) ∷ [];
}

-- op NAME(a: bit) -> y: bit { y = OP(a); }
abbrev pub of_one_source : List ℕ → WordOp → Operation
of_one_source name op = record {
  name = name;
  params = param (codes "a") Bit ∷ [];
  result = param (codes "y") Bit;
  second = None;
  body = Compute (codes "y") None op (codes "a" ∷ []) ∷ [];
}

-- the six ops of which all queries are made
abbrev pub scan_operations : List Operation
scan_operations =
    of_two_sources (codes "s_eq") Word o.Eq ∷ of_two_sources (codes "s_gt") Word o.Gt
    ∷ of_two_sources (codes "s_ge") Word o.Ge
    ∷ of_one_source (codes "s_not") o.Not ∷ of_two_sources (codes "s_and") Bit o.And
    ∷ of_two_sources (codes "s_or") Bit o.Or ∷ []

-- the same ops as a machine knows those of a text
abbrev pub scan_text : List TextOp
scan_text = map text_op scan_operations
