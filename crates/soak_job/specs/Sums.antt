-- What the line of a case tells.
use Rattle.std.specs.Prelude.{ℕ, ◌*◌, ◌%◌, ◌^◌, List, ◌++◌, sum_by, codes, decimal}
use Rattle.std.specs.List.{range_with_len}
use Rattle.op_text.specs.Values.{op_value}
use Rattle.op_text.specs.WordOps.{op_text}
use Rattle.uprog_code.specs.Shape.{Microprogram}
use Rattle.uprog_code.specs.Count.{counts_of}
use Rattle.uprog_code.specs.declared.walker.Counts.{Counts}
use Rattle.soak_job.specs.declared.cases.Case.{Case}
use Rattle.soak_job.specs.Cases.{arguments, source_kinds}
use Rattle.soak_job.specs.Words.{elements, sources_at}
use Rattle.soak_job.specs.Layout.{issues_at}

-- the operation's value on element i of the sources
abbrev pub case_value : (state : ℕ) → Case → (i : ℕ) → ℕ
case_value state c i =
    op_value c.op c.n (arguments c.op (sources_at state c.n (source_kinds c.op) i))

-- the sum of its values over all elements, modulo 2 ^ 64
abbrev pub case_sum : (state : ℕ) → Case → ℕ
case_sum state c = sum_by (case_value state c) (range_with_len 0 elements) % 2 ^ 64

-- the row commands of its program in the two banks
abbrev pub in_both_banks : Case → Microprogram → Counts
in_both_banks c m = record {
  aap = 2 * (counts_of (issues_at c m)).aap;
  ap = 2 * (counts_of (issues_at c m)).ap;
}

-- a line of the report: operation, width, row commands of both banks, and the sum of the values
abbrev pub counted_line : Case → Counts → (sum : ℕ) → List ℕ
counted_line c counts sum = op_text c.op ++ codes " " ++ decimal c.n ++ codes " aap="
    ++ decimal counts.aap ++ codes " ap=" ++ decimal counts.ap ++ codes " sum=" ++ decimal sum
    ++ codes "\n"

-- the line of a case: the row commands of its program, and the sum of the operation's values
abbrev pub case_line : (state : ℕ) → Case → Microprogram → List ℕ
case_line state c m = counted_line c (in_both_banks c m) (case_sum state c)

-- the line after those of so many cases
abbrev pub last_line : ℕ → List ℕ
last_line cases = codes "soak " ++ decimal cases ++ codes " cases\n"
