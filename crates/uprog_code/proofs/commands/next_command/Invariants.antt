use Rattle.std.proofs.Common.{◌≡◌, ◌-◌, ◌<◌, length}
use Rattle.uprog_code.specs.Machine.{issue, issues_of, HasEnded}
use Rattle.uprog_code.specs.OneStep.{AreRegisters}
use Rattle.uprog_code.specs.Commands.{rest_of}
use Rattle.uprog_code.proofs.commands.next_command.Given as goal

-- what is left to issue from here is what was left at the start
abbrev pub invariant-loop-k : goal.invariant-loop-k
invariant-loop-k g l =
    let shape = g.F.Fetch.shape l.entry in
    let code = g.F.Fetch.code l.entry in
    let n = l.binding.n in
    let here = issue shape code n (l.fn.walk.left - l.k) l.pc l.walk.regs in
    record {
      place : l.pc < length code;
      registers : AreRegisters l.walk.regs;
      ended : HasEnded here;
      rest : issues_of here ≡ issues_of (rest_of shape code n l.fn.walk);
    }
