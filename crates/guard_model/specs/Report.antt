-- The report of a guarded run, as bytes.
use Rattle.std.specs.Prelude.{ℕ, List, ◌++◌, codes, decimal, count_by}
use Rattle.dram_model.specs.declared.dram.Counters.{Counters}
use Rattle.machine_model.specs.declared.Reply.{Reply}
use Rattle.machine_model.specs.Report.{Said, lines, total_line}
use Rattle.machine_model.specs.Script.{is_refused}

-- the line of the votes' commands and of the flips
abbrev pub vote_line : ℕ → ℕ → List ℕ
vote_line aap flips = codes "vote aap=" ++ decimal aap ++ codes " flips=" ++ decimal flips
    ++ codes "\n"

-- the report: a line for each instruction, the line of the votes, and the line of the totals
abbrev pub guarded_report : List Said → ℕ → ℕ → Counters → List Reply → List ℕ
guarded_report said aap flips tally all = lines 1 said ++ vote_line aap flips ++ total_line tally
    (count_by is_refused all)
