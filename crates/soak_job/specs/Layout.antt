-- Where a case stands on the chip, and what it does there.
use Rattle.std.specs.Prelude.{ℕ, ◌+◌, ◌<◌, ◌≤◌, List, [], ◌∷◌, ◌++◌, sum_by}
use Rattle.op_text.specs.declared.tree.Kind.{Kind}
use Rattle.dram_model.specs.declared.geometry.Geometry.{Geometry}
use Rattle.dram_model.specs.Chip.{Event}
use Rattle.dram_model.specs.Elements.{write_events}
use Rattle.uprog_code.specs.Shape.{Microprogram, need, width}
use Rattle.uprog_code.specs.Machine.{Issue, trace, issues_of}
use Rattle.uprog_code.specs.Texts.{op_shape}
use Rattle.uprog_code.specs.Bound.{Bound, bound}
use Rattle.wave_model.specs.Schedule.{Queues, queues, in_turn, Ahead}
use Rattle.uprog_ctl.specs.Waves.{wave_events}
use Rattle.soak_job.specs.declared.cases.Case.{Case}
use Rattle.soak_job.specs.Cases.{one_statement, source_kinds, result_kind}
use Rattle.soak_job.specs.Words.{following, values_of, elements}

-- the chip of a soak: two banks of 512 data rows and 128 columns, so 256 elements
abbrev pub soak_chip : Geometry
soak_chip = record { banks = 2; rows = 512; words = 2 }

-- the first row of each source, upwards from a row
abbrev pub bases_from : (row n : ℕ) → List Kind → List ℕ
bases_from row n [] = []
bases_from row n (k ∷ ks) = row ∷ bases_from (row + width k n) n ks

-- how many rows sources of these kinds take
abbrev pub source_row_count : ℕ → List Kind → ℕ
source_row_count n kinds = sum_by (λ k. width k n) kinds

-- how many rows of each bank the sources take
abbrev pub source_rows : Case → ℕ
source_rows c = source_row_count c.n (source_kinds c.op)

-- how many rows of each bank the result takes
abbrev pub result_rows : Case → ℕ
result_rows c = width (result_kind c.op) c.n

-- sources from row 0 on, then the result, and scratch after it
abbrev pub layout : Case → Bound
layout c = record {
  results = source_rows c ∷ [];
  sources = bases_from 0 c.n (source_kinds c.op);
  scratch = source_rows c + result_rows c;
}

-- the row commands of its program
abbrev pub issues_at : Case → Microprogram → List Issue
issues_at c m = issues_of (trace m.shape m.code c.n)

-- both banks do them
abbrev pub case_queues : Case → Microprogram → Queues
case_queues c m = queues (record {
  commands = bound soak_chip.rows m.shape c.n (layout c) (issues_at c m);
  banks = soak_chip.banks;
} ∷ [])

-- the writes of the sources, each after the one before
abbrev pub source_writes : (state row n : ℕ) → List Kind → List Event
source_writes state row n [] = []
source_writes state row n (k ∷ ks) =
    write_events soak_chip row (width k n) (values_of state (width k n))
    ++ source_writes (following state elements) (row + width k n) n ks

-- what happens on the chip: the sources are written, and the program runs in both banks as one
-- wave, always in the first bank that has commands left
abbrev pub case_events : (state : ℕ) → Case → Microprogram → List Event
case_events state c m = source_writes state 0 c.n (source_kinds c.op)
    ++ wave_events in_turn soak_chip.banks Ahead (case_queues c m)

-- A case that the chip has room for: its width is 1 to 64, and its scratch ends below the spill
-- group
pub record FitsChip (c : Case) : Type 0 where
  pub some : 0 < c.n
  pub narrow : c.n ≤ 64
  pub rows : source_rows c + result_rows c + need (op_shape (one_statement c.op)) c.n ≤ 480
