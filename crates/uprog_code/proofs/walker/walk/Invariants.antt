use Rattle.std.proofs.Common.{◌≡◌, ◌+◌, ◌-◌, ◌<◌, ◌≤◌, length}
use Rattle.uprog_code.specs.Shape.{shape_of}
use Rattle.uprog_code.specs.declared.TheConstants.{WALK_MAX}
use Rattle.uprog_code.specs.Machine.{issue, trace}
use Rattle.uprog_code.specs.OneStep.{AreRegisters}
use Rattle.uprog_code.specs.Count.{walked}
use Rattle.uprog_code.proofs.Rounds.{Leads}
use Rattle.uprog_code.proofs.Steps.{walked_after}
use Rattle.uprog_code.proofs.walker.walk.Given as goal

-- the counts so far, with what is left to issue, are those of the whole trace; and the state that
-- is kept leads to this one
abbrev pub invariant-loop-k : goal.invariant-loop-k
invariant-loop-k g l = let code = g.F.Fetch.code l.code in let shape = shape_of l.head in record {
  place : l.pc < length code;
  registers : AreRegisters l.regs;
  few : l.counts.aap + l.counts.ap ≤ l.k;
  end : (l.k ≤ l.end) × (l.end ≤ WALK_MAX);
  before : l.mark.step ≤ l.k;
  leads : Leads shape code l.n (l.k - l.mark.step) l.mark.pc l.mark.regs l.pc l.regs;
  same : walked_after l.counts (issue shape code l.n (l.end - l.k) l.pc l.regs)
      ≡ walked (trace (g.F.Fetch.shape l.code) code l.n);
}
