-- What the op of one statement means: the value of its operation.
use Rattle.soak_job.proofs.Common.{◌≡◌, ℕ, zero, suc, ◌+◌, ◌*◌, ◌/◌, ◌%◌, ◌^◌, ◌<◌, Bool, true}
use Rattle.soak_job.proofs.Common.{false, List, [], ◌∷◌, get_or, length, take, cond, refl, ap, ◌∙◌}
use Rattle.soak_job.proofs.Common.{arith, subst, None, mod-lt, pow_pos, nat_tests, Kind, Word, Bit}
use Rattle.soak_job.proofs.Common.{WordOp, Signature, Operation, param, Form, row_of}
use Rattle.soak_job.proofs.Common.{signature_forms, width}
use Rattle.std.proofs.Common.{◌==◌, rules}
use Rattle.std.specs.Prelude.{codes, unwrap_or}
use Rattle.std.proofs.Math.Nat.{div-le_self, mod-le, pow-succ'}
use Rattle.std.proofs.lemmas.List.Sums.{count_by-le-length}
use Rattle.op_text.specs.Language.{Compute}
use Rattle.op_text.specs.Values.{bit_by_bit, bit_number, bits, both, of_none, of_one, of_two}
use Rattle.op_text.specs.Values.{ones_of, op_value, value}
use Rattle.op_text.specs.WordOps.{filled, forms, op_text}
use Rattle.op_text.specs.Meaning.{meaning, width as result_width}
use Rattle.op_text.specs.declared.word_ops.WordOp.TheVariants as o
use Rattle.op_text.specs.declared.word_ops.Signature.TheVariants as signs
use Rattle.soak_job.proofs.CaseFits.{form_at}
use Rattle.soak_job.specs.Cases.{arguments, one_statement, or_a_word, params_of}
use Rattle.soak_job.specs.Cases.{result_kind, source_kinds, source_names}

-- as many values as kinds, each below 2 to its width
abbrev pub AreSmall : ℕ → List Kind → List ℕ → Type 0
AreSmall n [] [] = Unit {0}
AreSmall n [] (v ∷ vs) = ⊥
AreSmall n (k ∷ ks) [] = ⊥
AreSmall n (k ∷ ks) (v ∷ vs) = (v < 2 ^ width k n) × AreSmall n ks vs

low_bit : (v : ℕ) → bit_number (v % 2 == 1) + 2 * (v / 2) ≡ v
low_bit v = grind (arith, nat_tests)

-- the number that its own bits spell
value-bits : (n v : ℕ) → v < 2 ^ n → value (bits v n) ≡ v
unfolding bits
value-bits zero v l = omega arith
value-bits (suc n) v l =
    let h : v / 2 < 2 ^ n = omega (arith, pow-succ' 2 n) in
    ap (λ (k : ℕ). bit_number (v % 2 == 1) + 2 * k) (value-bits n (v / 2) h) ∙ low_bit v

two_powers : (m : ℕ) → 2 ^ suc m ≡ 2 * 2 ^ m
two_powers m = omega arith

value_below : (bs : List Bool) → value bs < 2 ^ length bs
value_below [] = omega arith
value_below (true ∷ bs) = let h = value_below bs in rw (two_powers (length bs)) (omega (arith, h))
value_below (false ∷ bs) = let h = value_below bs in rw (two_powers (length bs)) (omega (arith, h))

length-bits : (v n : ℕ) → length (bits v n) ≡ n
unfolding bits
length-bits v zero = refl
length-bits v (suc n) = ap suc (length-bits (v / 2) n)

length-both : (f : Bool → Bool → Bool) (a b n : ℕ) → length (both f (bits a n) (bits b n)) ≡ n
unfolding bits
length-both f a b zero = refl
length-both f a b (suc n) = ap suc (length-both f (a / 2) (b / 2) n)

below_bits : (f : Bool → Bool → Bool) (n a b : ℕ) → bit_by_bit f n a b < 2 ^ n
below_bits f n a b = subst (λ m. bit_by_bit f n a b < 2 ^ m) (length-both f a b n)
    (value_below (both f (bits a n) (bits b n)))

below_bit : (b : Bool) → bit_number b < 2 ^ 1
below_bit true = omega arith
below_bit false = omega arith

below_power : (n : ℕ) → n < 2 ^ n
below_power zero = omega arith
below_power (suc n) = let h = below_power n in let p = two_powers n in omega (arith, h, p)

below_ones : (n a : ℕ) → ones_of n a < 2 ^ n
below_ones n a = let h = count_by-le-length (λ b. b) (bits a n) in
    let size = length-bits a n in let p = below_power n in omega (arith, h, size, p)

below_choice : (b : Bool) (x y m : ℕ) → x < m → y < m → cond b x y < m
below_choice true x y m l k = l
below_choice false x y m l k = k

below_mod : (n a : ℕ) → a % 2 ^ n < 2 ^ n
below_mod n a = mod-lt a (pow_pos n)

below_two : (a : ℕ) → a % 2 < 2 ^ 1
below_two a = mod-lt a (omega arith)

-- the forms that values have
ruleset below = (below_mod, below_two, below_bits, below_bit, below_choice)

-- The value of each operation fits its result. The tactics go through all operations; one with a
-- value of another form gets a clause of its own.
none_fits : (p : WordOp) (n : ℕ) → of_none p n < 2 ^ n
none_fits o.Ones n = let some = pow_pos n in omega (arith, some)
none_fits p n = pow_pos n

one_fits : (p : WordOp) (n a : ℕ) → a < 2 ^ n → of_one p n a < 2 ^ width (result_kind p) n
one_fits o.Bitcount n a l = below_ones n a
one_fits p n a l = let some = pow_pos n in
    first_of (search (rules, below), grind (arith, below_choice))

two_fits : (p : WordOp) (n a b : ℕ) → a < 2 ^ n → b < 2 ^ n
    → of_two p n a b < 2 ^ width (result_kind p) n
two_fits o.Not n a b l k = pow_pos n
two_fits p n a b l k =
    let some = pow_pos n in
    let quotient = div-le_self a b in
    let rest = mod-le a b in
    first_of (search (rules, below), grind (arith, below_choice))

-- the values on arguments of a signature's form fit its result, where those of one and of two do
fits_at : (p : WordOp) (s : Signature) (n : ℕ) (values : List ℕ)
    → AreSmall n (or_a_word (form_at s).takes) values
    → ((a : ℕ) → a < 2 ^ n → of_one p n a < 2 ^ width (form_at s).gives n)
    → ((a b : ℕ) → a < 2 ^ n → b < 2 ^ n → of_two p n a b < 2 ^ width (form_at s).gives n)
    → op_value p n (take (length (form_at s).takes) values) < 2 ^ width (form_at s).gives n
fits_at p signs.Nothing n (a ∷ []) l one two = none_fits p n
fits_at p signs.OneOf n (a ∷ []) l one two = one a l.0
fits_at p (signs.OneWord k) n (a ∷ []) l one two = one a l.0
fits_at p signs.TwoOf n (a ∷ b ∷ []) l one two = two a b l.0 l.1.0
fits_at p (signs.TwoWords k) n (a ∷ b ∷ []) l one two = two a b l.0 l.1.0
fits_at p signs.Choice n (a ∷ b ∷ x ∷ []) l one two =
    below_choice (x == 1) a b (2 ^ n) l.0 l.1.0
fits_at p s n values l one two = absurd (assumption)

fits_result : (p : WordOp) (n : ℕ) (values : List ℕ) → AreSmall n (source_kinds p) values
    → op_value p n (arguments p values) < 2 ^ width (result_kind p) n
fits_result p n values l = fits_at p (row_of p).signature n values l (one_fits p n) (two_fits p n)

-- the op of one statement with a form, and the number of its one result
abbrev statement_of : WordOp → Form → Operation
statement_of p f = record {
  name = op_text p;
  params = params_of (or_a_word f.takes) source_names;
  result = param (codes "y") f.gives;
  second = None;
  body = Compute (codes "y") None p (take (length f.takes) source_names) ∷ [];
}

abbrev meant_at : WordOp → Form → ℕ → List ℕ → ℕ
meant_at p f n values = get_or (meaning (statement_of p f) n values) 0 0

-- a result by the forms of a signature
abbrev given : WordOp → List Form → ℕ → List Kind → List ℕ → ℕ
given p fs n kinds args =
    value (bits (op_value p n args) (result_width n (unwrap_or (filled fs kinds) Word)))

-- a value that fits its kind, of its own bits
own_value : (n : ℕ) (k : Kind) (v : ℕ) → v < 2 ^ width k n → value (bits v (result_width n k)) ≡ v
own_value n Word v l = value-bits n v l
own_value n Bit v l = value-bits 1 v l

means_at : (p : WordOp) (s : Signature) (n : ℕ) (values : List ℕ) → forms p ≡ signature_forms s
    → AreSmall n (or_a_word (form_at s).takes) values
    → op_value p n (take (length (form_at s).takes) values) < 2 ^ width (form_at s).gives n
    → meant_at p (form_at s) n values ≡ op_value p n (take (length (form_at s).takes) values)
means_at p signs.Nothing n (a ∷ []) e l f =
    ap (λ (fs : List Form). given p fs n [] []) e ∙ own_value n Word _ f
means_at p signs.OneOf n (a ∷ []) e l f =
    ap (λ (fs : List Form). given p fs n (Word ∷ []) (value (bits a n) ∷ [])) e
    ∙ ap (λ v. value (bits (op_value p n (v ∷ [])) n)) (value-bits n a l.0) ∙ own_value n Word _ f
means_at p (signs.OneWord k) n (a ∷ []) e l f =
    ap (λ (fs : List Form). given p fs n (Word ∷ []) (value (bits a n) ∷ [])) e
    ∙ ap (λ v. value (bits (op_value p n (v ∷ [])) (result_width n k))) (value-bits n a l.0)
    ∙ own_value n k _ f
means_at p signs.TwoOf n (a ∷ b ∷ []) e l f =
    ap (λ (fs : List Form). given p fs n (Word ∷ Word ∷ [])
    (value (bits a n) ∷ value (bits b n) ∷ [])) e
    ∙ ap (λ v. value (bits (op_value p n (v ∷ value (bits b n) ∷ [])) n)) (value-bits n a l.0)
    ∙ ap (λ v. value (bits (op_value p n (a ∷ v ∷ [])) n)) (value-bits n b l.1.0)
    ∙ own_value n Word _ f
means_at p (signs.TwoWords k) n (a ∷ b ∷ []) e l f =
    ap (λ (fs : List Form). given p fs n (Word ∷ Word ∷ [])
    (value (bits a n) ∷ value (bits b n) ∷ [])) e
    ∙ ap (λ v. value (bits (op_value p n (v ∷ value (bits b n) ∷ [])) (result_width n k)))
    (value-bits n a l.0)
    ∙ ap (λ v. value (bits (op_value p n (a ∷ v ∷ [])) (result_width n k))) (value-bits n b l.1.0)
    ∙ own_value n k _ f
means_at p signs.Choice n (a ∷ b ∷ x ∷ []) e l f =
    ap (λ (fs : List Form). given p fs n (Word ∷ Word ∷ Bit ∷ [])
    (value (bits a n) ∷ value (bits b n) ∷ value (bits x 1) ∷ [])) e
    ∙ ap (λ v. value (bits (op_value p n (v ∷ value (bits b n) ∷ value (bits x 1) ∷ [])) n))
    (value-bits n a l.0)
    ∙ ap (λ v. value (bits (op_value p n (a ∷ v ∷ value (bits x 1) ∷ [])) n)) (value-bits n b l.1.0)
    ∙ ap (λ v. value (bits (op_value p n (a ∷ b ∷ v ∷ [])) n)) (value-bits 1 x l.1.1.0)
    ∙ own_value n Word _ f
means_at p s n values e l f = absurd (assumption)

-- the number of the one result of an operation's op
abbrev pub meant : WordOp → ℕ → List ℕ → ℕ
meant op n values = get_or (meaning (one_statement op) n values) 0 0

-- the op of one statement means its operation's value
pub means : (op : WordOp) (n : ℕ) (values : List ℕ) → AreSmall n (source_kinds op) values
    → meant op n values ≡ op_value op n (arguments op values)
means op n values l =
    means_at op (row_of op).signature n values refl l (fits_result op n values l)
