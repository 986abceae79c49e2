-- The code is legal, and its trace ends.
use Rattle.std.proofs.Common.{refl, arith}
use Rattle.uprog_code.specs.Machine.{trace, issue, HasEnded}
use Rattle.uprog_code.specs.Legal.{IsLegalCode}
use Rattle.part_tests.specs.Xor.{xor_shape, xor_code}

pub xor_is_legal : IsLegalCode xor_shape xor_code
xor_is_legal = record {
  short = omega arith;
  each = (refl, (refl, (refl, (refl, (refl, (refl, (refl, (refl, tt))))))));
  last = refl;
}

pub xor_ends : HasEnded (trace xor_shape xor_code 1)
unfolding trace issue
xor_ends = tt
