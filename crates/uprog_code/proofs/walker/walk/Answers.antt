use Rattle.std.proofs.Common.{◌≡◌, ℕ, List, ◌+◌, ◌-◌, ◌<◌, ◌≤◌, length, sym, ap, ◌∙◌, subst, refl, arith, Ok}
use Rattle.std.proofs.lemmas.Bool.{false≢true}
use Rattle.uprog_code.specs.declared.TheConstants.{WALK_MAX}
use Rattle.uprog_code.specs.declared.registers.Turn.TheVariants.{Over}
use Rattle.uprog_code.specs.declared.walker.Counts.{Counts}
use Rattle.uprog_code.specs.Shape.{Shape, shape_of}
use Rattle.uprog_code.specs.declared.code.Uop.{Uop}
use Rattle.uprog_code.specs.declared.walker.Why3.TheVariants.{Budget}
use Rattle.uprog_code.specs.Machine.{Stuck, issue, start}
use Rattle.uprog_code.specs.OneStep.{turn_trace, next_place}
use Rattle.uprog_code.specs.Count.{walked, counts_after}
use Rattle.uprog_code.proofs.Steps.{legal_operands, trace_is, no_more, one_step, start_registers}
use Rattle.uprog_code.proofs.Steps.{goes_on, not_last, place_in, walked_is, counts_on, few_after}
use Rattle.uprog_code.proofs.Steps.{some_first, none_left, walked_after}
use Rattle.uprog_code.proofs.Rounds.{stays, step_leads, leads_on, ends_alike, kept_leads}
use Rattle.uprog_code.specs.declared.walker.State.{State}
use Rattle.uprog_code.proofs.walker.walk.Goals as goal

-- a walk whose budget is spent is stuck here, whatever it has counted
spent : (shape : Shape) (code : List Uop) (n left pc : ℕ) (regs : List ℕ) (k : Counts) → left ≡ 0
    → walked (Stuck pc Budget) ≡ walked_after k (issue shape code n left pc regs)
spent shape code n left pc regs k none =
    sym (ap (walked_after k) (no_more shape code n left pc regs none))

pub loop-k-init : goal.loop-k-init
loop-k-init g c =
    let code = g.F.Fetch.code c.args.code.now in
    let shape = g.F.Fetch.shape c.args.code.now in
    record {
      place = some_first shape code c.requires.legal;
      registers = start_registers;
      few = omega arith;
      end = (omega arith, omega arith);
      before = omega arith;
      leads = stays (shape_of c.head-head.result) code c.args.n 0 0 start refl;
      same =
          walked_is (issue (shape_of c.head-head.result) code c.args.n WALK_MAX 0 start)
          ∙ ap (λ (s : Shape). walked (issue s code c.args.n WALK_MAX 0 start))
          c.head-head.ensures.shape
          ∙ ap walked (trace_is shape code c.args.n);
    }

pub step-requires-clause-operands : goal.step-requires-clause-operands
step-requires-clause-operands g c =
    let code = g.F.Fetch.code c.args.code.now in (
      length code,
      legal_operands (g.F.Fetch.shape c.args.code.now) code c.loop-k.pc
          c.fetch-uop.result c.requires.legal c.fetch-uop.ensures,
    )

pub returns-in-Err-clause-value : goal.returns-in-Err-clause-value
returns-in-Err-clause-value g c =
    let code = g.F.Fetch.code c.args.code.now in
    let shape = shape_of c.head-head.result in
    let turn = one_step shape code c.args.n (c.loop-k.end - c.loop-k.k) (c.loop-k.end - (c.loop-k.k + 1))
    c.loop-k.pc c.loop-k.regs c.step.new.regs c.fetch-uop.result c.step.result (omega arith)
    c.fetch-uop.ensures c.step.ensures.does in
    let next = issue shape code c.args.n (c.loop-k.end - (c.loop-k.k + 1)) in
    sym (sym c.loop-k.invariant.same ∙ ap (walked_after c.loop-k.counts) turn
    ∙ ap (λ r. walked_after c.loop-k.counts (turn_trace r next c.loop-k.pc c.step.new.regs))
    c.in-Err.is)

pub returns-then-is_over-clause-value : goal.returns-then-is_over-clause-value
returns-then-is_over-clause-value g c =
    let code = g.F.Fetch.code c.args.code.now in
    let shape = shape_of c.head-head.result in
    let turn = one_step shape code c.args.n (c.loop-k.end - c.loop-k.k) (c.loop-k.end - (c.loop-k.k + 1))
    c.loop-k.pc c.loop-k.regs c.step.new.regs c.fetch-uop.result c.step.result (omega arith)
    c.fetch-uop.ensures c.step.ensures.does in
    let next = issue shape code c.args.n (c.loop-k.end - (c.loop-k.k + 1)) in
    let over = c.is_over.ensures.0 c.if-is_over.true in
    sym
    (sym c.loop-k.invariant.same
    ∙ ap (walked_after c.loop-k.counts) turn
    ∙ ap (λ r. walked_after c.loop-k.counts (turn_trace r next c.loop-k.pc c.step.new.regs))
    c.in-Ok.is
    ∙ ap (λ t. walked_after c.loop-k.counts (turn_trace (Ok t) next c.loop-k.pc c.step.new.regs))
    over
    ∙ none_left c.loop-k.counts)

pub loop-k-preserved : goal.loop-k-preserved
loop-k-preserved g c =
    let code = g.F.Fetch.code c.args.code.now in
    let shape = shape_of c.head-head.result in
    let n = c.args.n in
    let next = issue shape code n (c.loop-k.end - (c.loop-k.k + 1)) in
    let turn = one_step shape code n (c.loop-k.end - c.loop-k.k) (c.loop-k.end - (c.loop-k.k + 1))
    c.loop-k.pc c.loop-k.regs c.step.new.regs c.fetch-uop.result c.step.result (omega arith)
    c.fetch-uop.ensures c.step.ensures.does in
    let ne : c.in-Ok.turn ≡ Over → ⊥ = λ e. false≢true (sym c.if-is_over.false
    ∙ c.is_over.ensures.1 e) in
    let more = not_last code c.loop-k.pc c.fetch-uop.result c.in-Ok.turn c.step.result
    c.loop-k.invariant.place c.fetch-uop.ensures c.requires.legal.last c.step.ensures.over
    c.in-Ok.is ne in
    let operands = legal_operands (g.F.Fetch.shape c.args.code.now) code c.loop-k.pc
    c.fetch-uop.result c.requires.legal c.fetch-uop.ensures in
    let on = goes_on c.in-Ok.turn next c.loop-k.pc c.step.new.regs ne in
    let here : State = record {
      step = c.loop-k.k + 1;
      pc = c.place_after-pc.result;
      regs = c.step.new.regs;
    } in
    let led = leads_on shape code n (c.loop-k.k - c.loop-k.mark.step) (here.step
    - c.loop-k.mark.step) c.loop-k.mark.pc c.loop-k.mark.regs c.loop-k.pc c.loop-k.regs here.pc
    here.regs c.loop-k.invariant.leads (omega arith) (λ all left at e spent.
    step_leads shape code n all left c.loop-k.pc c.loop-k.regs here.regs c.fetch-uop.result
    c.in-Ok.turn c.step.result e c.fetch-uop.ensures c.step.ensures.does c.in-Ok.is ne at
    (ap (λ q. issue shape code n left q here.regs) (sym c.place_after-pc.ensures) ∙ spent)) in
    let alike = ends_alike shape code n c.loop-k.mark here c.loop-k.end c.end_since-end.result
    c.counted-counts.result (omega arith) (omega arith) led c.end_since-end.ensures in
    let kept = kept_leads shape code n c.loop-k.mark here c.kept_after-mark.result (omega arith)
    led c.kept_after-mark.ensures in
    record {
      place = subst (λ q. q < length code) (sym c.place_after-pc.ensures)
          (place_in (length code) c.loop-k.pc c.fetch-uop.result c.in-Ok.turn c.step.result more
          operands c.step.ensures.target c.in-Ok.is);
      registers = c.step.ensures.registers;
      few = subst (λ (x : Counts). x.aap + x.ap ≤ c.loop-k.k + 1) (sym c.counted-counts.ensures)
          (few_after c.in-Ok.turn c.loop-k.counts c.loop-k.k c.loop-k.invariant.few);
      end = (alike.later, omega arith);
      before = kept.0;
      leads = kept.1;
      same =
          alike.same
          ∙ ap (λ x. walked_after x (next c.place_after-pc.result c.step.new.regs))
          c.counted-counts.ensures
          ∙ ap (λ q. walked_after (counts_after c.in-Ok.turn c.loop-k.counts)
          (next q c.step.new.regs)) c.place_after-pc.ensures
          ∙ sym (counts_on c.in-Ok.turn c.loop-k.counts
          (next (next_place c.in-Ok.turn c.loop-k.pc) c.step.new.regs))
          ∙ ap (walked_after c.loop-k.counts) (sym on)
          ∙ ap (λ r. walked_after c.loop-k.counts (turn_trace r next c.loop-k.pc c.step.new.regs))
          (sym c.in-Ok.is)
          ∙ ap (walked_after c.loop-k.counts) (sym turn)
          ∙ c.loop-k.invariant.same;
    }

pub returns-then-k-end-clause-value : goal.returns-then-k-end-clause-value
returns-then-k-end-clause-value g c =
    c.out_of_budget.ensures ∙ spent (shape_of c.head-head.result) (g.F.Fetch.code c.args.code.now)
    c.args.n (c.loop-k.end - c.loop-k.k) c.loop-k.pc c.loop-k.regs c.loop-k.counts (omega arith)
    ∙ c.loop-k.invariant.same

pub returns-clause-value : goal.returns-clause-value
returns-clause-value g c =
    c.out_of_budget-2.ensures ∙ spent (shape_of c.head-head.result) (g.F.Fetch.code c.args.code.now)
    c.args.n (c.loop-k.end - c.loop-k.k) c.loop-k.pc c.loop-k.regs c.loop-k.counts (omega arith)
    ∙ c.loop-k.invariant.same
