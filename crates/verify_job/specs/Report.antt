-- The report of findings, as a text.
use Rattle.std.specs.Prelude.{ℕ, Bool, ◌&&◌, if◌then◌else◌, List, [], ◌∷◌, ◌++◌, map}
use Rattle.std.specs.Prelude.{bytes_eq, codes, count_by, decimal, length}
use Rattle.std.specs.List.{flat_map, zip}
use Rattle.op_text.specs.declared.tree.Param.{Param}
use Rattle.op_text.specs.Language.{Operation}
use Rattle.uprog_code.specs.declared.walker.Counts.{Counts}
use Rattle.uprog_code.specs.Shape.{Shape, shape_of}
use Rattle.prog_text.specs.Costs.{stuck_word}
use Rattle.prog_text.specs.Widths.{is_single}
use Rattle.verify_core.specs.declared.case.Case.{Case}
use Rattle.verify_core.specs.declared.verdict.Limit.{Limit}
use Rattle.verify_core.specs.declared.verdict.Limit.TheVariants.{Nodes, Depth, Steps}
use Rattle.verify_core.specs.declared.verdict.Verdict.{Verdict}
use Rattle.verify_core.specs.declared.verdict.Verdict.TheVariants.{Right, Wrong, Stuck, OtherKinds}
use Rattle.verify_core.specs.declared.verdict.Verdict.TheVariants.{Unknown}
use Rattle.verify_job.specs.declared.finding.Finding.{Finding}
use Rattle.verify_job.specs.declared.finding.Finding.TheVariants.{NoEntry, Entry}
use Rattle.verify_job.specs.declared.finding.FoundAt.{FoundAt}
use Rattle.verify_job.specs.declared.finding.OpFindings.{OpFindings}
use Rattle.verify_job.specs.Findings.{is_right_throughout}
use Rattle.verify_job.specs.Cells.{ones_text}
use Rattle.verify_job.specs.Widths.{runs_of, widths_text}

-- a number after a blank
abbrev pub number_text : ℕ → List ℕ
number_text x = codes " " ++ decimal x

-- numbers, each after a blank
abbrev pub numbers_text : List ℕ → List ℕ
numbers_text xs = flat_map number_text xs

-- a source's name and its number
abbrev pub source_text : Param → ℕ → List ℕ
source_text p x = codes " " ++ p.name ++ codes "=" ++ decimal x

-- the names and numbers of the sources
abbrev pub sources_text : List Param → List ℕ → List ℕ
sources_text ps xs = flat_map (λ p. source_text p.0 p.1) (zip ps xs)

-- a case: its sources, what an entry of the shape gives, what the op means, and the cells that are
-- 1 at its start, where there are any
abbrev pub case_text : List Param → Shape → ℕ → Case → List ℕ
case_text ps shape n case = sources_text ps case.sources.items ++ codes " gives"
    ++ numbers_text case.got.items ++ codes " not" ++ numbers_text case.wanted.items
    ++ ones_text shape n case.ones.items

-- which limit a diagram reached
abbrev pub limit_word : Limit → List ℕ
limit_word (Nodes count) = codes "nodes"
limit_word Depth = codes "depth"
limit_word (Steps count) = codes "steps"

-- a verdict, without its case and its row commands
abbrev pub verdict_text : Verdict → List ℕ
verdict_text (Right counts) = codes " right"
verdict_text (Wrong case) = codes " wrong"
verdict_text (Stuck walk) =
    codes " bad_walk " ++ decimal walk.at ++ codes " " ++ stuck_word walk.why
verdict_text OtherKinds = codes " other_kinds"
verdict_text (Unknown limit) = codes " unknown " ++ limit_word limit

-- a finding, without its case and its row commands
abbrev pub finding_text : Finding → List ℕ
finding_text NoEntry = codes " no_entry"
finding_text (Entry head verdict) = verdict_text verdict

-- the row commands of an entry that is right
abbrev pub counts_text : Counts → List ℕ
counts_text counts = codes " aap=" ++ decimal counts.aap ++ codes " ap=" ++ decimal counts.ap

-- what follows a finding at a width, with the names of the op's sources: of an entry that is wrong
-- its case; of one that is right its row commands, where one width alone was asked for
abbrev pub rest_text : Bool → List Param → ℕ → Finding → List ℕ
rest_text single ps n NoEntry = []
rest_text single ps n (Entry head (Right counts)) = if single then counts_text counts else []
rest_text single ps n (Entry head (Wrong case)) = case_text ps (shape_of head) n case
rest_text single ps n (Entry head (Stuck walk)) = []
rest_text single ps n (Entry head OtherKinds) = []
rest_text single ps n (Entry head (Unknown limit)) = []

-- the same is said at two widths
abbrev pub says_same : Bool → List Param → FoundAt → FoundAt → Bool
says_same single ps f g = bytes_eq (finding_text f.finding) (finding_text g.finding)
    && bytes_eq (rest_text single ps f.width f.finding) (rest_text single ps g.width g.finding)

-- at which widths, where more than one was asked for
abbrev pub at_text : Bool → List ℕ → List ℕ
at_text single widths = if single then [] else codes " at " ++ widths_text widths

-- the line of widths at which the same is said of an op
abbrev pub run_line : Bool → Operation → List FoundAt → List ℕ
run_line single op [] = []
run_line single op (f ∷ fs) = op.name ++ finding_text f.finding
    ++ at_text single (map (λ x. x.width) (f ∷ fs))
    ++ rest_text single op.params f.width f.finding ++ codes "\n"

-- the lines of an op: widths that follow one another in the list share a line where the same is
-- said at them
abbrev pub op_lines : Bool → Operation → List FoundAt → List ℕ
op_lines single op found =
    flat_map (run_line single op) (runs_of (says_same single op.params) found)

-- the lines of the ops
abbrev pub lines : Bool → List Operation → List OpFindings → List ℕ
lines single ops found = flat_map (λ p. op_lines single p.0 p.1.at.items) (zip ops found)

-- how many entries do their ops at each width, of how many, and the widths
abbrev pub last_line : List ℕ → List OpFindings → List ℕ
last_line widths found = codes "verified " ++ decimal (count_by is_right_throughout found)
    ++ codes " of " ++ decimal (length found) ++ codes " at " ++ widths_text widths ++ codes "\n"

-- the lines of the ops, and the last one
abbrev pub report : List ℕ → List Operation → List OpFindings → List ℕ
report widths ops found = lines (is_single widths) ops found ++ last_line widths found
