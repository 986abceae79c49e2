use Rattle.uprog_ctl.proofs.Common.{◌≡◌, ◌+◌, ◌≤◌, SameBut, row_events, ChipView, Kept, Did}
use Rattle.uprog_ctl.proofs.Common.{WALK_MAX, commands_from, StandsIn}
use Rattle.uprog_ctl.specs.Events.{trace_events}
use Rattle.uprog_ctl.proofs.controller.run.Given as goal

-- the commands that are left do from here what the whole trace does from the start
abbrev pub invariant-loop-k : goal.invariant-loop-k
invariant-loop-k g l =
    let dram = g.D.Dram in
    let shape = g.F.Fetch.shape l.entry in
    let code = g.F.Fetch.code l.entry in
    let first = dram.view l.fn.dram in
    let now = dram.view l.dram in
    record {
      stands : StandsIn shape code l.binding.n l.walk;
      left : l.walk.left + l.k ≤ WALK_MAX;
      borrow : dram.borrow l.dram ≡ dram.borrow l.fn.dram;
      kept : Kept first now;
      rest : (final : ChipView)
          → Did (row_events l.bank (commands_from l.rows shape code l.binding l.walk)) now final
          → Did (trace_events l.bank first.geometry.rows shape code l.binding) first final;
      few : (now.counters.aap ≤ first.counters.aap + l.k)
          × (now.counters.ap ≤ first.counters.ap + l.k);
      others : SameBut l.bank first.banks now.banks;
    }
