-- What the entries of a program cost at widths.
use Rattle.std.specs.Prelude.{ℕ, Bool, if◌then◌else◌, List, [], ◌++◌, Result, Ok, Err, codes}
use Rattle.std.specs.Prelude.{decimal}
use Rattle.std.specs.List.{flat_map}
use Rattle.uprog_code.specs.declared.walker.BadWalk.{BadWalk}
use Rattle.uprog_code.specs.declared.walker.Counts.{Counts}
use Rattle.uprog_code.specs.declared.walker.Why3.{Why3}
use Rattle.uprog_code.specs.declared.walker.Why3.TheVariants.{Index, Register, Budget}
use Rattle.uprog_code.specs.Shape.{Shape, Microprogram, need}
use Rattle.uprog_code.specs.Machine.{trace}
use Rattle.uprog_code.specs.Count.{walked}
use Rattle.prog_text.specs.Widths.{is_single}

-- the word of `cost` for what makes a walk stuck
abbrev pub stuck_word : Why3 → List ℕ
stuck_word Index = codes "index"
stuck_word Register = codes "register"
stuck_word Budget = codes "budget"

-- its commands and its rows of scratch, or where its walk is stuck
abbrev pub cost_text : Shape → ℕ → Result Counts BadWalk → List ℕ
cost_text shape n (Ok counts) = codes " aap=" ++ decimal counts.aap ++ codes " ap="
    ++ decimal counts.ap ++ codes " rows=" ++ decimal (need shape n)
cost_text shape n (Err walk) = codes " bad_walk " ++ decimal walk.at ++ codes " "
    ++ stuck_word walk.why

-- at which width, where more than one was asked for
abbrev pub at_text : Bool → ℕ → List ℕ
at_text single n = if single then [] else codes " at " ++ decimal n

-- the line of an entry at a width: its name, and its row commands and scratch
abbrev pub cost_line : Bool → Microprogram → ℕ → List ℕ
cost_line single m n = m.name ++ at_text single n
    ++ cost_text m.shape n (walked (trace m.shape m.code n)) ++ codes "\n"

-- the lines of an entry, one for each width
abbrev pub cost_lines : List ℕ → Microprogram → List ℕ
cost_lines widths m = flat_map (cost_line (is_single widths) m) widths

-- the lines of each entry
abbrev pub costs : List ℕ → List Microprogram → List ℕ
costs widths program = flat_map (cost_lines widths) program
