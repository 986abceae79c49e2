use Rattle.width_entry.proofs.Common.{◌≡◌, ◌-◌, ◌<◌, length, WALK_MAX, issue, onto, trace}
use Rattle.uprog_code.specs.OneStep.{AreRegisters}
use Rattle.width_entry.specs.Lines.{issues}
use Rattle.width_entry.proofs.line.issued_line.Given as goal

-- the commands so far, and then what is left to issue, are the whole trace
abbrev pub invariant-loop-k : goal.invariant-loop-k
invariant-loop-k g l =
    let shape = g.F.Fetch.shape l.entry in
    let code = g.F.Fetch.code l.entry in
    let left = issue shape code l.n (WALK_MAX - l.k) l.pc l.regs in
    record {
      place : l.pc < length code;
      registers : AreRegisters l.regs;
      whole : onto (issues l.line.items) left ≡ trace shape code l.n;
    }
