-- Worked values: word operations, whole operations, their scratch and their ceilings.
use Rattle.std.proofs.Common.{◌≡◌, ℕ, ◌+◌, ◌*◌, false, List, [], ◌∷◌, Some, None, map, codes, refl}
use Rattle.op_text.specs.declared.tree.Kind.TheVariants.{Word, Bit}
use Rattle.op_text.specs.declared.word_ops.WordOp.{WordOp}
use Rattle.op_text.specs.declared.word_ops.WordOp.TheVariants as o
use Rattle.op_text.specs.Language.{Term, Named, Parity, Majority, Equation, Compute, Visit}
use Rattle.op_text.specs.Language.{Operation}
use Rattle.op_text.specs.Values.{bits, op_value, second_value}
use Rattle.op_text.specs.Meaning.{meaning}
use Rattle.op_text.specs.Scratch.{scratch_bits, scratch_words, need, ceiling, param}
use Rattle.op_text.specs.Costs.{op_ceiling}

-- an operation's values at a width, for each list of arguments
abbrev Gives : WordOp → ℕ → List (List ℕ) → List ℕ → Type 0
Gives p n args values = map (op_value p n) args ≡ values

abbrev one : ℕ → List ℕ
one a = a ∷ []

abbrev two : ℕ → ℕ → List ℕ
two a b = a ∷ b ∷ []

not_3 : Gives o.Not 3 (one 0 ∷ one 5 ∷ one 7 ∷ []) (7 ∷ 2 ∷ 0 ∷ [])
not_3 = refl

and_4 : Gives o.And 4 (two 12 10 ∷ two 15 6 ∷ []) (8 ∷ 6 ∷ [])
unfolding bits
and_4 = refl

or_4 : Gives o.Or 4 (two 12 10 ∷ two 1 6 ∷ []) (14 ∷ 7 ∷ [])
unfolding bits
or_4 = refl

xor_4 : Gives o.Xor 4 (two 12 10 ∷ two 15 15 ∷ []) (6 ∷ 0 ∷ [])
unfolding bits
xor_4 = refl

copy_ones : Gives o.Copy 4 (one 9 ∷ []) (9 ∷ []) × Gives o.Zero 4 ([] ∷ []) (0 ∷ [])
    × Gives o.Ones 4 ([] ∷ []) (15 ∷ [])
copy_ones = (refl, refl, refl)

shifts : Gives o.Shl1 4 (one 9 ∷ one 3 ∷ []) (2 ∷ 6 ∷ [])
    × Gives o.Shr1 4 (one 9 ∷ one 1 ∷ []) (4 ∷ 0 ∷ [])
shifts = (refl, refl)

sums : Gives o.Add 4 (two 9 8 ∷ two 3 4 ∷ []) (1 ∷ 7 ∷ [])
    × Gives o.Sub 4 (two 3 5 ∷ two 5 3 ∷ []) (14 ∷ 2 ∷ [])
sums = (refl, refl)

products : Gives o.Mul 4 (two 5 6 ∷ two 0 9 ∷ []) (14 ∷ 0 ∷ [])
products = refl

quotients : Gives o.Div 4 (two 14 4 ∷ two 3 0 ∷ []) (3 ∷ 15 ∷ [])
    × Gives o.Rem 4 (two 14 4 ∷ two 3 0 ∷ []) (2 ∷ 3 ∷ [])
quotients = (refl, refl)

signs : Gives o.Abs 4 (one 7 ∷ one 8 ∷ one 15 ∷ []) (7 ∷ 8 ∷ 1 ∷ [])
    × Gives o.Relu 4 (one 7 ∷ one 8 ∷ []) (7 ∷ 0 ∷ []) × Gives o.Abs 1 (one 1 ∷ []) (1 ∷ [])
signs = (refl, refl, refl)

bounds : Gives o.Min 4 (two 9 3 ∷ two 2 2 ∷ []) (3 ∷ 2 ∷ [])
    × Gives o.Max 4 (two 9 3 ∷ two 2 2 ∷ []) (9 ∷ 2 ∷ [])
bounds = (refl, refl)

tests : Gives o.Eq 4 (two 9 9 ∷ two 9 8 ∷ []) (1 ∷ 0 ∷ [])
    × Gives o.Gt 4 (two 9 8 ∷ two 8 8 ∷ []) (1 ∷ 0 ∷ [])
    × Gives o.Ge 4 (two 8 8 ∷ two 7 8 ∷ []) (1 ∷ 0 ∷ [])
tests = (refl, refl, refl)

choices : Gives o.IfElse 4 ((9 ∷ 3 ∷ 1 ∷ []) ∷ (9 ∷ 3 ∷ 0 ∷ []) ∷ []) (9 ∷ 3 ∷ [])
choices = refl

counts : Gives o.Bitcount 4 (one 0 ∷ one 11 ∷ one 15 ∷ []) (0 ∷ 3 ∷ 4 ∷ [])
    × Gives o.XorRed 4 (one 11 ∷ one 15 ∷ []) (1 ∷ 0 ∷ [])
unfolding bits
counts = (refl, refl)

reductions : Gives o.AndRed 4 (one 15 ∷ one 14 ∷ []) (1 ∷ 0 ∷ [])
    × Gives o.OrRed 4 (one 0 ∷ one 8 ∷ []) (0 ∷ 1 ∷ [])
reductions = (refl, refl)

divmod_is_both : (n a b : ℕ) → (op_value o.Divmod n (two a b) ≡ op_value o.Div n (two a b))
    × (second_value o.Divmod n (two a b) ≡ op_value o.Rem n (two a b))
divmod_is_both n a b = (refl, refl)

-- the numbers that two targets are given
both_values : (map (second_value o.Divmod 8) (two 255 7 ∷ two 7 0 ∷ []) ≡ 3 ∷ 7 ∷ [])
    × Gives o.Divmod 8 (two 255 7 ∷ two 7 0 ∷ []) (36 ∷ 255 ∷ [])
both_values = (refl, refl)

abbrev name : List ℕ → Term
name n = Named n

abbrev equals : List ℕ → Term → Equation
equals n t = record { name = n; value = t }

-- t = mul(a, b); y = add(t, c);
abbrev mac : Operation
mac = record {
  name = codes "mac";
  params = param (codes "a") Word ∷ param (codes "b") Word ∷ param (codes "c") Word ∷ [];
  result = param (codes "y") Word;
  second = None;
  body = Compute (codes "t") None o.Mul (codes "a" ∷ codes "b" ∷ [])
      ∷ Compute (codes "y") None o.Add (codes "t" ∷ codes "c" ∷ []) ∷ [];
}

mac_means : (meaning mac 4 (3 ∷ 4 ∷ 9 ∷ []) ≡ 5 ∷ []) × (scratch_bits mac ≡ 1)
    × (scratch_words mac ≡ 1) × (need mac 32 ≡ 33) × (ceiling mac 32 ≡ 12033)
unfolding bits
mac_means = (refl, refl, refl, refl, refl)

-- serial up (c = 0) { let x = xor(a, b); y = xor(x, c); c = maj(a, b, c); }
abbrev sum : Operation
sum = record {
  name = codes "sum";
  params = param (codes "a") Word ∷ param (codes "b") Word ∷ [];
  result = param (codes "y") Word;
  second = None;
  body = Visit (record {
    down = false;
    states = record { name = codes "c"; start = false } ∷ [];
    lets = equals (codes "x") (Parity (name (codes "a")) (name (codes "b"))) ∷ [];
    assigns = equals (codes "y") (Parity (name (codes "x")) (name (codes "c")))
        ∷ equals (codes "c") (Majority (name (codes "a")) (name (codes "b")) (name (codes "c")))
        ∷ [];
  }) ∷ [];
}

sum_means : (meaning sum 4 (9 ∷ 8 ∷ []) ≡ 1 ∷ []) × (meaning sum 4 (3 ∷ 4 ∷ []) ≡ 7 ∷ [])
    × (scratch_bits sum ≡ 1) × (scratch_words sum ≡ 0) × (ceiling sum 4 ≡ 4 * (4 * 7 + 3 * 2) + 1)
unfolding bits
sum_means = (refl, refl, refl, refl, refl)

ceilings : (op_ceiling o.Div 8 ≡ 29 * 64 + 18 * 8)
    × (ceiling mac 32 ≡ 11 * 1024 + 15 * 32 + 9 * 32 + 1)
unfolding bits
ceilings = (refl, refl)

-- q, r = divmod(a, b);
abbrev dm : Operation
dm = record {
  name = codes "dm";
  params = param (codes "a") Word ∷ param (codes "b") Word ∷ [];
  result = param (codes "q") Word;
  second = Some (param (codes "r") Word);
  body = Compute (codes "q") (Some (codes "r")) o.Divmod (codes "a" ∷ codes "b" ∷ []) ∷ [];
}

dm_means : (meaning dm 8 (255 ∷ 7 ∷ []) ≡ 36 ∷ 3 ∷ []) × (meaning dm 8 (7 ∷ 0 ∷ []) ≡ 255 ∷ 7 ∷ [])
    × (scratch_bits dm ≡ 2) × (scratch_words dm ≡ 2) × (ceiling dm 8 ≡ 29 * 64 + 24 * 8)
unfolding bits
dm_means = (refl, refl, refl, refl, refl)

-- h, t = divmod(a, b); q = add(h, t); e = eq(h, t);
-- a word and a bit as results, and two targets that are none of them
abbrev mixed : Operation
mixed = record {
  name = codes "mixed";
  params = param (codes "a") Word ∷ param (codes "b") Word ∷ [];
  result = param (codes "q") Word;
  second = Some (param (codes "e") Bit);
  body = Compute (codes "h") (Some (codes "t")) o.Divmod (codes "a" ∷ codes "b" ∷ [])
      ∷ Compute (codes "q") None o.Add (codes "h" ∷ codes "t" ∷ [])
      ∷ Compute (codes "e") None o.Eq (codes "h" ∷ codes "t" ∷ []) ∷ [];
}

mixed_means : (meaning mixed 4 (14 ∷ 4 ∷ []) ≡ 5 ∷ 0 ∷ [])
    × (meaning mixed 4 (10 ∷ 4 ∷ []) ≡ 4 ∷ 1 ∷ []) × (scratch_bits mixed ≡ 2)
    × (scratch_words mixed ≡ 4)
    × (ceiling mixed 4 ≡ 29 * 16 + 24 * 4 + (9 * 4 + 1) + (19 * 4 + 1))
unfolding bits
mixed_means = (refl, refl, refl, refl, refl)
