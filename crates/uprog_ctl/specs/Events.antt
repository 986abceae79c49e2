-- The events of a microprogram that runs in a bank.
use Rattle.std.specs.Prelude.{ℕ, ◌+◌, List}
use Rattle.dram_model.specs.declared.dram.Counters.{Counters}
use Rattle.dram_model.specs.Chip.{Event}
use Rattle.dram_model.specs.Events.{row_events}
use Rattle.uprog_code.specs.declared.binding.Binding.{Binding}
use Rattle.uprog_code.specs.declared.code.Uop.{Uop}
use Rattle.uprog_code.specs.Shape.{Shape}
use Rattle.uprog_code.specs.declared.walker.Counts.{Counts}
use Rattle.uprog_code.specs.Machine.{Issue, trace, issues_of}
use Rattle.uprog_code.specs.Bound.{bound, bound_of}

-- these row commands, bound, in order
abbrev pub issue_events : ℕ → ℕ → Shape → Binding → List Issue → List Event
issue_events bank rows shape b issues = row_events bank (bound rows shape b.n (bound_of b) issues)

-- all commands of the trace at the binding's width
abbrev pub trace_events : ℕ → ℕ → Shape → List Uop → Binding → List Event
trace_events bank rows shape code b = issue_events bank rows shape b
    (issues_of (trace shape code b.n))

-- counters after so many commands of each kind
abbrev pub risen : Counts → Counters → Counters
risen counts c = record c { aap = c.aap + counts.aap; ap = c.ap + counts.ap }
