-- Bits, gates and the values of the word operations.
use Rattle.std.specs.Prelude.{ℕ, zero, suc, ◌+◌, ◌-◌, ◌*◌, ◌/◌, ◌%◌, ◌^◌, ◌==◌, nat_lt, nat_le, min}
use Rattle.std.specs.Prelude.{max, Bool, true, false, not, ◌&&◌, ◌||◌, List, [], ◌∷◌, count_by}
use Rattle.std.specs.Prelude.{if◌then◌else◌}
use Rattle.op_text.specs.declared.word_ops.WordOp.{WordOp}
use Rattle.op_text.specs.declared.word_ops.WordOp.TheVariants as o

-- a bit as a number
abbrev pub bit_number : Bool → ℕ
bit_number true = 1
bit_number false = 0

-- the number that the bits spell, the lowest first: the sum of bit k times 2 ^ k
abbrev pub value : List Bool → ℕ
value [] = 0
value (b ∷ bs) = bit_number b + 2 * value bs

-- the lowest n bits of v, the lowest first
unfoldable pub bits : ℕ → ℕ → List Bool
bits v zero = []
bits v (suc n) = (v % 2 == 1) ∷ bits (v / 2) n

-- the exclusive or of two bits
abbrev pub differ : Bool → Bool → Bool
differ true b = not b
differ false b = b

-- at least two of the three are true
abbrev pub majority : Bool → Bool → Bool → Bool
majority true b c = b || c
majority false b c = b && c

-- two lists of bits combined place by place
abbrev pub both : (Bool → Bool → Bool) → List Bool → List Bool → List Bool
both f [] bs = []
both f (a ∷ as') [] = []
both f (a ∷ as') (b ∷ bs) = f a b ∷ both f as' bs

-- numbers below 2 ^ n, combined bit by bit
abbrev pub bit_by_bit : (Bool → Bool → Bool) → ℕ → ℕ → ℕ → ℕ
bit_by_bit f n a b = value (both f (bits a n) (bits b n))

-- how many of the lowest n bits are 1
abbrev pub ones_of : ℕ → ℕ → ℕ
ones_of n a = count_by (λ b. b) (bits a n)

-- the numbers below this one have a top bit of 0
abbrev pub half : ℕ → ℕ
half n = 2 ^ (n - 1)

-- the value of an operation that takes no argument: all zeros or all ones
abbrev pub of_none : WordOp → ℕ → ℕ
of_none o.Ones n = 2 ^ n - 1
of_none p n = 0

-- the value of an operation on one number; a signed one is read in two's complement
abbrev pub of_one : WordOp → ℕ → ℕ → ℕ
of_one o.Not n a = 2 ^ n - 1 - a
of_one o.Copy n a = a
of_one o.Shl1 n a = 2 * a % 2 ^ n
of_one o.Shr1 n a = a / 2
of_one o.Abs n a = if nat_lt a (half n) then a else (2 ^ n - a) % 2 ^ n
of_one o.Relu n a = if nat_lt a (half n) then a else 0
of_one o.Bitcount n a = ones_of n a
of_one o.AndRed n a = bit_number (a == 2 ^ n - 1)
of_one o.OrRed n a = bit_number (nat_lt 0 a)
of_one o.XorRed n a = ones_of n a % 2
of_one p n a = 0

-- the value of an operation on two numbers below 2 ^ n; a division by 0 gives all ones and leaves
-- the dividend
abbrev pub of_two : WordOp → ℕ → ℕ → ℕ → ℕ
of_two o.And n a b = bit_by_bit (λ x y. x && y) n a b
of_two o.Or n a b = bit_by_bit (λ x y. x || y) n a b
of_two o.Xor n a b = bit_by_bit differ n a b
of_two o.Add n a b = (a + b) % 2 ^ n
of_two o.Sub n a b = (a + 2 ^ n - b) % 2 ^ n
of_two o.Mul n a b = a * b % 2 ^ n
of_two o.Div n a b = if b == 0 then 2 ^ n - 1 else a / b
of_two o.Rem n a b = if b == 0 then a else a % b
of_two o.Min n a b = min a b
of_two o.Max n a b = max a b
of_two o.Eq n a b = bit_number (a == b)
of_two o.Gt n a b = bit_number (nat_lt b a)
of_two o.Ge n a b = bit_number (nat_le b a)
of_two o.Divmod n a b = if b == 0 then 2 ^ n - 1 else a / b
of_two p n a b = 0

-- the value of an operation on numbers below 2 ^ n: of its first result
abbrev pub op_value : WordOp → ℕ → List ℕ → ℕ
op_value p n [] = of_none p n
op_value p n (a ∷ []) = of_one p n a
op_value p n (a ∷ b ∷ []) = of_two p n a b
op_value p n (a ∷ b ∷ c ∷ more) = if c == 1 then a else b

-- the value of the second result of an operation that has one
abbrev pub second_value : WordOp → ℕ → List ℕ → ℕ
second_value o.Divmod n args = op_value o.Rem n args
second_value p n args = 0
