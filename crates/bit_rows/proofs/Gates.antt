-- The majority with a constant: with 0 it is and, with 1 it is or
use Rattle.std.proofs.Common.{◌≡◌, Bool, true, false, ◌&&◌, ◌||◌, refl}
use Rattle.bit_rows.specs.Bits.{majority}

-- a majority with 0 is an and
pub majority-false : (a b : Bool) → majority a b false ≡ (a && b)
unfolding majority
majority-false true true = refl
majority-false true false = refl
majority-false false true = refl
majority-false false false = refl

-- a majority with 1 is an or
pub majority-true : (a b : Bool) → majority a b true ≡ (a || b)
unfolding majority
majority-true true true = refl
majority-true true false = refl
majority-true false true = refl
majority-true false false = refl
