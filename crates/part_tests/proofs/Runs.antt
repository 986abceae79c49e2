-- A run reads no row for the host, and writing an object reads none.
use Rattle.std.proofs.Common.{◌≡◌, ℕ, List, ap, ◌∙◌}
use Rattle.dram_model.specs.declared.dram.Counters.{Counters}
use Rattle.dram_model.specs.Chip.{all_counted}
use Rattle.dram_model.specs.declared.geometry.Geometry.{Geometry}
use Rattle.dram_model.specs.Elements.{write_events}
use Rattle.transpose_unit.proofs.Held.{counted_hold}
use Rattle.uprog_code.specs.declared.code.Uop.{Uop}
use Rattle.uprog_code.specs.declared.binding.Binding.{Binding}
use Rattle.uprog_code.specs.Shape.{Shape}
use Rattle.uprog_code.specs.Machine.{trace, issues_of}
use Rattle.uprog_ctl.specs.Events.{trace_events}
use Rattle.uprog_ctl.proofs.Counting.{counted-issues}

pub run_reads : (bank rows : ℕ) (shape : Shape) (code : List Uop) (b : Binding) (old new : Counters)
    → new ≡ all_counted (trace_events bank rows shape code b) old → new.reads ≡ old.reads
run_reads bank rows shape code b old new e = ap (λ k. k.reads) (e
    ∙ counted-issues bank rows shape b (issues_of (trace shape code b.n)) old)

pub write_reads : (g : Geometry) (base n : ℕ) (values : List ℕ) (old new : Counters)
    → new ≡ all_counted (write_events g base n values) old → new.reads ≡ old.reads
write_reads g base n values old new e = ap (λ k. k.reads) (e ∙ counted_hold g base n values old)
