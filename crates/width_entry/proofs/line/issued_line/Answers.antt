use Rattle.width_entry.proofs.Common.{◌≡◌, ◌+◌, ◌-◌, ◌<◌, length, sym, ap, ◌∙◌, subst, arith}
use Rattle.width_entry.proofs.Common.{false≢true, WALK_MAX, Budget, shape_of, issue, onto, start}
use Rattle.width_entry.proofs.Common.{trace, turn_trace, legal_operands, trace_is, some_first}
use Rattle.std.proofs.Common.{Ok}
use Rattle.uprog_code.specs.declared.registers.Turn.TheVariants.{Over}
use Rattle.uprog_code.specs.OneStep.{issues_by}
use Rattle.uprog_code.proofs.Steps.{no_more, start_registers, goes_on, not_last, place_in}
use Rattle.width_entry.specs.Lines.{issues}
use Rattle.uprog_code.proofs.Seek.{step_from}
use Rattle.width_entry.proofs.Whole.{never_stuck, onto_both, onto_end, onto_nil}
use Rattle.width_entry.proofs.line.issued_line.Goals as goal

pub loop-k-init : goal.loop-k-init
loop-k-init g c =
    let code = g.F.Fetch.code c.args.entry.now in
    let shape = g.F.Fetch.shape c.args.entry.now in
    record {
      place = some_first shape code c.requires.legal;
      registers = start_registers;
      whole =
          ap (λ xs. onto (issues xs) (issue shape code c.args.n WALK_MAX 0 start))
          c.new-line.ensures.items
          ∙ onto_nil (issue shape code c.args.n WALK_MAX 0 start)
          ∙ trace_is shape code c.args.n;
    }

pub step-requires-clause-operands : goal.step-requires-clause-operands
step-requires-clause-operands g c =
    let code = g.F.Fetch.code c.args.entry.now in (
      length code,
      legal_operands (g.F.Fetch.shape c.args.entry.now) code c.loop-k.pc
          c.fetch-uop.result c.requires.legal c.fetch-uop.ensures,
    )

pub returns-then-is_over : goal.returns-then-is_over
returns-then-is_over g c =
    let code = g.F.Fetch.code c.args.entry.now in
    let shape = g.F.Fetch.shape c.args.entry.now in
    let next = issue shape code c.args.n (WALK_MAX - (c.loop-k.k + 1)) in
    let here = step_from shape (shape_of c.head-head.result) code c.args.n (WALK_MAX - c.loop-k.k)
    (WALK_MAX - (c.loop-k.k + 1)) c.loop-k.pc c.loop-k.regs c.step.new.regs c.fetch-uop.result
    c.step.result c.head-head.ensures.shape (omega arith) c.fetch-uop.ensures
    c.step.ensures.does in
    let over = c.in-Ok.is ∙ ap Ok (c.is_over.ensures.0 c.if-is_over.true) in
    let none = here ∙ ap (λ r. turn_trace r next c.loop-k.pc c.step.new.regs) over in
    sym c.loop-k.invariant.whole
    ∙ ap (onto (issues c.loop-k.line.items)) none
    ∙ onto_end (issues c.loop-k.line.items)

pub returns-in-Err : goal.returns-in-Err
returns-in-Err g c =
    let code = g.F.Fetch.code c.args.entry.now in
    let shape = g.F.Fetch.shape c.args.entry.now in
    let next = issue shape code c.args.n (WALK_MAX - (c.loop-k.k + 1)) in
    let here = step_from shape (shape_of c.head-head.result) code c.args.n (WALK_MAX - c.loop-k.k)
    (WALK_MAX - (c.loop-k.k + 1)) c.loop-k.pc c.loop-k.regs c.step.new.regs c.fetch-uop.result
    c.step.result c.head-head.ensures.shape (omega arith) c.fetch-uop.ensures
    c.step.ensures.does in
    let stuck = here ∙ ap (λ r. turn_trace r next c.loop-k.pc c.step.new.regs) c.in-Err.is in
    absurd (never_stuck (issues c.loop-k.line.items) c.loop-k.pc c.in-Err.field-0
    (trace shape code c.args.n) c.requires.ends
    (sym (ap (onto (issues c.loop-k.line.items)) stuck) ∙ c.loop-k.invariant.whole))

pub returns : goal.returns
returns g c =
    let code = g.F.Fetch.code c.args.entry.now in
    let shape = g.F.Fetch.shape c.args.entry.now in
    let none : WALK_MAX - c.loop-k.k ≡ 0 = omega arith in
    absurd (never_stuck (issues c.loop-k.line.items) c.loop-k.pc Budget
    (trace shape code c.args.n) c.requires.ends
    (sym (ap (onto (issues c.loop-k.line.items)) (no_more shape code c.args.n
    (WALK_MAX - c.loop-k.k) c.loop-k.pc c.loop-k.regs none)) ∙ c.loop-k.invariant.whole))

pub loop-k-preserved : goal.loop-k-preserved
loop-k-preserved g c =
    let code = g.F.Fetch.code c.args.entry.now in
    let shape = g.F.Fetch.shape c.args.entry.now in
    let next = issue shape code c.args.n (WALK_MAX - (c.loop-k.k + 1)) in
    let here = step_from shape (shape_of c.head-head.result) code c.args.n (WALK_MAX - c.loop-k.k)
    (WALK_MAX - (c.loop-k.k + 1)) c.loop-k.pc c.loop-k.regs c.step.new.regs c.fetch-uop.result
    c.step.result c.head-head.ensures.shape (omega arith) c.fetch-uop.ensures
    c.step.ensures.does in
    let ne : c.in-Ok.turn ≡ Over → ⊥ = λ e. false≢true (sym c.if-is_over.false
    ∙ c.is_over.ensures.1 e) in
    let more = not_last code c.loop-k.pc c.fetch-uop.result c.in-Ok.turn c.step.result
    c.loop-k.invariant.place c.fetch-uop.ensures c.requires.legal.last c.step.ensures.over
    c.in-Ok.is ne in
    let operands = legal_operands shape code c.loop-k.pc c.fetch-uop.result c.requires.legal
    c.fetch-uop.ensures in
    let on = here ∙ ap (λ r. turn_trace r next c.loop-k.pc c.step.new.regs) c.in-Ok.is
    ∙ goes_on c.in-Ok.turn next c.loop-k.pc c.step.new.regs ne
    ∙ ap (λ q. onto (issues_by c.in-Ok.turn) (next q c.step.new.regs))
    (sym c.place_after-pc.ensures) in
    let rest = next c.place_after-pc.result c.step.new.regs in
    record {
      place = subst (λ q. q < length code) (sym c.place_after-pc.ensures)
          (place_in (length code) c.loop-k.pc c.fetch-uop.result c.in-Ok.turn c.step.result more
          operands c.step.ensures.target c.in-Ok.is);
      registers = c.step.ensures.registers;
      whole =
          ap (λ cs. onto cs rest) c.in_ok-put_turn-in-Ok.ensures
          ∙ onto_both (issues c.loop-k.line.items) (issues_by c.in-Ok.turn) rest
          ∙ ap (onto (issues c.loop-k.line.items)) (sym on)
          ∙ c.loop-k.invariant.whole;
    }
