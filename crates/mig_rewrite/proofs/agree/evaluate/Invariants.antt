use Rattle.mig_rewrite.proofs.Common.{◌≡◌, length, size_of}
use Rattle.mig_rewrite.specs.Values.{HasValues}
use Rattle.mig_rewrite.proofs.agree.evaluate.Given as goal

-- the values so far
abbrev pub invariant-loop-k : goal.invariant-loop-k
invariant-loop-k l = record {
  long : length l.values ≡ size_of l.m;
  has : HasValues l.m l.bits l.values l.k;
}
