-- Worked texts: what is written for these trees, byte for byte.
use Rattle.std.proofs.Common.{◌≡◌, ℕ, true, false, List, [], ◌∷◌, ◌++◌, codes, refl}
use Rattle.std.proofs.Common.{Some, None}
use Rattle.op_text.specs.declared.tree.Kind.{Kind}
use Rattle.op_text.specs.declared.tree.Kind.TheVariants.{Word, Bit}
use Rattle.op_text.specs.declared.tree.Param.{Param}
use Rattle.op_text.specs.declared.word_ops.WordOp.TheVariants as o
use Rattle.op_text.specs.Language.{Term, Nought, Unity, Named, Negation, Conjunction, Disjunction}
use Rattle.op_text.specs.Language.{Parity, Majority, Equation, Compute, Visit, Operation}
use Rattle.op_print.specs.Canonical.{canonical_text}

abbrev a : List ℕ
a = codes "a"

abbrev b : List ℕ
b = codes "b"

abbrev c : List ℕ
c = codes "c"

abbrev y : List ℕ
y = codes "y"

abbrev param : List ℕ → Kind → Param
param n k = record { name = n; kind = k }

abbrev equals : List ℕ → Term → Equation
equals n t = record { name = n; value = t }

abbrev mac : Operation
mac = record {
  name = codes "mac";
  params = param a Word ∷ param b Word ∷ param c Word ∷ [];
  result = param y Word;
  second = None;
  body = Compute (codes "t") None o.Mul (a ∷ b ∷ []) ∷ Compute y None o.Add (codes "t" ∷ c ∷ [])
      ∷ [];
}

abbrev sum : Operation
sum = record {
  name = codes "sum";
  params = param a Word ∷ param b Word ∷ [];
  result = param y Word;
  second = None;
  body = Visit (record {
    down = false;
    states = record { name = c; start = false } ∷ [];
    lets = equals (codes "x") (Parity (Named a) (Named b)) ∷ [];
    assigns = equals y (Parity (Named (codes "x")) (Named c))
        ∷ equals c (Majority (Named a) (Named b) (Named c)) ∷ [];
  }) ∷ [];
}

two_ops : canonical_text (mac ∷ sum ∷ []) ≡
    codes "op mac(a: word, b: word, c: word) -> y: word {\n"
    ++ codes "  t = mul(a, b);\n  y = add(t, c);\n}\n"
    ++ codes "op sum(a: word, b: word) -> y: word {\n  serial up (c = 0) {\n"
    ++ codes "    let x = xor(a, b);\n    y = xor(x, c);\n    c = maj(a, b, c);\n  }\n}\n"
two_ops = refl

-- an operation without arguments, a block without states, and one downwards with two
abbrev odd : Operation
odd = record {
  name = codes "odd";
  params = param a Bit ∷ [];
  result = param y Bit;
  second = None;
  body = Compute (codes "z") None o.Zero []
      ∷ Visit (record {
        down = false;
        states = [];
        lets = [];
        assigns = equals (codes "v") (Negation (Conjunction (Named a) Unity)) ∷ [];
      })
      ∷ Visit (record {
        down = true;
        states = record { name = y; start = true } ∷ record { name = c; start = false } ∷ [];
        lets = [];
        assigns = equals y (Disjunction Nought (Named (codes "v"))) ∷ [];
      }) ∷ [];
}

odd_op : canonical_text (odd ∷ []) ≡
    codes "op odd(a: bit) -> y: bit {\n  z = zero();\n  serial up () {\n"
    ++ codes "    v = not(and(a, 1));\n  }\n"
    ++ codes "  serial down (y = 1, c = 0) {\n    y = or(0, v);\n  }\n}\n"
odd_op = refl

-- two results of one statement
abbrev dm : Operation
dm = record {
  name = codes "dm";
  params = param a Word ∷ param b Word ∷ [];
  result = param (codes "q") Word;
  second = Some (param (codes "r") Word);
  body = Compute (codes "q") (Some (codes "r")) o.Divmod (a ∷ b ∷ []) ∷ [];
}

two_results : canonical_text (dm ∷ []) ≡
    codes "op dm(a: word, b: word) -> q: word, r: word {\n  q, r = divmod(a, b);\n}\n"
two_results = refl

no_ops : canonical_text [] ≡ []
no_ops = refl
