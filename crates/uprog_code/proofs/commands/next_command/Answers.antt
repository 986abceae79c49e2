use Rattle.std.proofs.Common.{◌≡◌, ◌+◌, ◌-◌, List, [], ◌∷◌, ◌++◌, length, true, sym, ap, ◌∙◌, subst}
use Rattle.std.proofs.Common.{arith, Ok}
use Rattle.std.proofs.lemmas.Bool.{false≢true}
use Rattle.dram_model.specs.declared.address.Command.{Command}
use Rattle.dram_model.specs.Column.{is_legal}
use Rattle.uprog_code.specs.declared.registers.Turn.TheVariants.{Over}
use Rattle.uprog_code.specs.Shape.{Shape, shape_of}
use Rattle.uprog_code.specs.Machine.{Issue, issue, issues_of, HasEnded}
use Rattle.uprog_code.specs.OneStep.{turn_trace, issues_by, issue_of}
use Rattle.uprog_code.specs.Issued.{is_good}
use Rattle.uprog_code.specs.Bound.{bound, bound_command, bound_of}
use Rattle.uprog_code.proofs.Kept.{command_legal}
use Rattle.uprog_code.proofs.Steps.{legal_operands, no_more}
use Rattle.uprog_code.proofs.Seek.{command_step, quiet, step_from, stepped, told, told_is}
use Rattle.uprog_code.proofs.commands.next_command.Goals as goal

pub step-requires-clause-operands : goal.step-requires-clause-operands
step-requires-clause-operands g c =
    let code = g.F.Fetch.code c.args.entry.now in
    let shape = g.F.Fetch.shape c.args.entry.now in (
      length code,
      legal_operands shape code c.loop-k.pc c.fetch-uop.result c.requires.legal
          c.fetch-uop.ensures,
    )

pub command_at-requires-clause-good : goal.command_at-requires-clause-good
command_at-requires-clause-good g c = λ is one.
    let code = g.F.Fetch.code c.args.entry.now in
    let shape = g.F.Fetch.shape c.args.entry.now in
    let b = c.args.binding.now in
    let left = c.args.walk.now.left - c.loop-k.k - 1 in
    let on = command_step shape code b.n (c.args.walk.now.left - c.loop-k.k) left
    c.loop-k.pc c.loop-k.walk.regs c.fetch-uop.result is c.requires.legal
    (omega arith) c.loop-k.invariant.place c.fetch-uop.ensures one c.loop-k.invariant.ended in
    subst (λ (s : Shape). is_good s b.n is ≡ true) (sym c.requires.head)
    (subst (λ (d : Issue). is_good shape b.n d ≡ true) (told_is is) on.good.0)

pub returns-in-Some : goal.returns-in-Some
returns-in-Some g c =
    let code = g.F.Fetch.code c.args.entry.now in
    let shape = g.F.Fetch.shape c.args.entry.now in
    let b = c.args.binding.now in
    let rows = c.args.rows in
    let left = c.args.walk.now.left - c.loop-k.k - 1 in
    let one = c.in-Some.ensures.0 in
    let on = command_step shape code b.n (c.args.walk.now.left - c.loop-k.k) left
    c.loop-k.pc c.loop-k.walk.regs c.fetch-uop.result one c.requires.legal
    (omega arith) c.loop-k.invariant.place c.fetch-uop.ensures c.in-Some.ensures.1
    c.loop-k.invariant.ended in
    let is = issue_of (told one) in
    let next : c.in-Some.next ≡ bound_command rows shape b.n
    (bound_of b) is = c.in-Some.ensures.2
    ∙ ap (λ (s : Shape). bound_command rows s b.n (bound_of b) one)
    c.requires.head
    ∙ ap (bound_command rows shape b.n (bound_of b)) (sym (told_is one)) in
    record {
      first = ap (bound rows shape b.n (bound_of b)) (sym c.loop-k.invariant.rest ∙ on.issues)
          ∙ ap (λ (k : Command). k ∷ bound rows shape b.n (bound_of b)
          (issues_of (issue shape code b.n left (c.loop-k.pc + 1) c.loop-k.walk.regs))) (sym next);
      legal = subst (λ (k : Command). is_legal rows k ≡ true) (sym next)
          (command_legal rows shape b.n (bound_of b) c.requires.fits c.requires.some is on.good.0);
      fewer = omega arith;
      stands = record {
        place = on.place;
        registers = c.loop-k.invariant.registers;
        ended = on.ended;
      };
    }

pub returns-then-is_over : goal.returns-then-is_over
returns-then-is_over g c =
    let code = g.F.Fetch.code c.args.entry.now in
    let shape = g.F.Fetch.shape c.args.entry.now in
    let b = c.args.binding.now in
    let left = c.args.walk.now.left - (c.loop-k.k + 1) in
    let next = issue shape code b.n left in
    let here = step_from shape (shape_of c.args.head.now) code b.n
    (c.args.walk.now.left - c.loop-k.k) left c.loop-k.pc c.loop-k.walk.regs c.step.new.regs
    c.fetch-uop.result c.step.result c.requires.head (omega arith) c.fetch-uop.ensures
    c.step.ensures.does in
    let over = c.in-Ok.is ∙ ap Ok (c.is_over.ensures.0 c.if-is_over.true) in
    ap (bound c.args.rows shape b.n (bound_of b)) (sym c.loop-k.invariant.rest
    ∙ ap issues_of (here ∙ ap (λ r. turn_trace r next c.loop-k.pc c.step.new.regs) over))

pub loop-k-preserved : goal.loop-k-preserved
loop-k-preserved g c =
    let code = g.F.Fetch.code c.args.entry.now in
    let shape = g.F.Fetch.shape c.args.entry.now in
    let b = c.args.binding.now in
    let left = c.args.walk.now.left - (c.loop-k.k + 1) in
    let ne : c.in-Ok.turn ≡ Over → ⊥ = λ e. false≢true (sym c.if-is_over.false
    ∙ c.is_over.ensures.1 e) in
    let on = stepped shape (shape_of c.args.head.now) code b.n
    (c.args.walk.now.left - c.loop-k.k) left c.loop-k.pc c.place_after-pc.result
    c.loop-k.walk.regs c.step.new.regs c.fetch-uop.result c.in-Ok.turn c.step.result
    c.requires.legal c.requires.head (omega arith) c.loop-k.invariant.place
    c.fetch-uop.ensures c.step.ensures.does c.step.ensures.over c.step.ensures.target c.in-Ok.is ne
    c.place_after-pc.ensures c.loop-k.invariant.ended in
    let none : issues_by c.in-Ok.turn ≡ [] = quiet (shape_of c.args.head.now) b.n
    c.fetch-uop.result c.in-Ok.turn c.step.result c.loop-k.walk.regs c.step.new.regs
    c.in_default.ensures c.step.ensures.does c.in-Ok.is in
    let following = issues_of (issue shape code b.n left c.place_after-pc.result
    c.step.new.regs) in
    record {
      place = on.place;
      registers = c.step.ensures.registers;
      ended = on.ended;
      rest = ap (λ (is : List Issue). is ++ following) (sym none) ∙ sym on.issues
          ∙ c.loop-k.invariant.rest;
    }

pub returns-in-Err : goal.returns-in-Err
returns-in-Err g c =
    let code = g.F.Fetch.code c.args.entry.now in
    let shape = g.F.Fetch.shape c.args.entry.now in
    let b = c.args.binding.now in
    let left = c.args.walk.now.left - (c.loop-k.k + 1) in
    let next = issue shape code b.n left in
    let here = step_from shape (shape_of c.args.head.now) code b.n
    (c.args.walk.now.left - c.loop-k.k) left c.loop-k.pc c.loop-k.walk.regs c.step.new.regs
    c.fetch-uop.result c.step.result c.requires.head (omega arith) c.fetch-uop.ensures
    c.step.ensures.does in
    let stuck = here ∙ ap (λ r. turn_trace r next c.loop-k.pc c.step.new.regs) c.in-Err.is in
    absurd (subst HasEnded stuck c.loop-k.invariant.ended)

pub returns : goal.returns
returns g c =
    let code = g.F.Fetch.code c.args.entry.now in
    let shape = g.F.Fetch.shape c.args.entry.now in
    let b = c.args.binding.now in
    let none : c.args.walk.now.left - c.loop-k.k ≡ 0 = omega arith in
    absurd (subst HasEnded (no_more shape code b.n
    (c.args.walk.now.left - c.loop-k.k) c.loop-k.pc c.loop-k.walk.regs none)
    c.loop-k.invariant.ended)
