-- The code is legal, and its trace ends.
use Rattle.std.proofs.Common.{refl, arith}
use Rattle.uprog_code.specs.Machine.{trace, issue, HasEnded}
use Rattle.uprog_code.specs.Legal.{IsLegalCode}
use Rattle.part_tests.specs.Dup.{dup_shape, dup_code}

pub dup_is_legal : IsLegalCode dup_shape dup_code
dup_is_legal = record {
  short = omega arith;
  each = (refl, (refl, (refl, (refl, tt))));
  last = refl;
}

pub dup_ends : HasEnded (trace dup_shape dup_code 1)
unfolding trace issue
dup_ends = tt
