-- The listing of a program.
use Rattle.std.specs.Prelude.{ℕ, ◌+◌, ◌==◌, List, [], ◌∷◌, ◌++◌, length, Option, Some, None, codes}
use Rattle.std.specs.Prelude.{decimal, if◌then◌else◌}
use Rattle.std.specs.List.{flat_map}
use Rattle.op_text.specs.declared.tree.Kind.{Kind}
use Rattle.uprog_code.specs.declared.code.RowSpace.{RowSpace}
use Rattle.uprog_code.specs.declared.code.RowSpace.TheVariants.{B, C, Result, Source, ScratchBit}
use Rattle.uprog_code.specs.declared.code.RowSpace.TheVariants.{ScratchWord, Spill}
use Rattle.uprog_code.specs.declared.code.RowRef.{RowRef}
use Rattle.uprog_code.specs.declared.code.Uop.{Uop}
use Rattle.uprog_code.specs.declared.code.Uop.TheVariants.{Done, SetI, SetN, SetT, Mov, Add, AddI}
use Rattle.uprog_code.specs.declared.code.Uop.TheVariants.{SubI, Bnez, Aap, Ap}
use Rattle.uprog_code.specs.Shape.{Shape, Microprogram}

-- which row or value of its space
abbrev pub value_text : RowSpace → ℕ → List ℕ
value_text B which = codes "B" ++ decimal which
value_text C which = codes "C" ++ decimal which
value_text Result which = if which == 0 then codes "y" else codes "z"
value_text Source which = codes "s" ++ decimal which
value_text ScratchBit which = codes "t" ++ decimal which
value_text ScratchWord which = codes "w" ++ decimal which
value_text Spill which = codes "p" ++ decimal which

-- the register with the position in a value; an index of 8 is position 0
abbrev pub index_text : ℕ → List ℕ
index_text i = if i == 8 then codes "[0]" else (codes "[r" ++ decimal i ++ codes "]")

-- an index stands after the values that have positions
abbrev pub position_text : RowSpace → ℕ → List ℕ
position_text B i = []
position_text C i = []
position_text Result i = index_text i
position_text Source i = index_text i
position_text ScratchBit i = []
position_text ScratchWord i = index_text i
position_text Spill i = []

-- a row of an instruction with its index, if it has one
abbrev pub row_text : RowRef → List ℕ
row_text r = value_text r.space r.which ++ position_text r.space r.index

-- a register as an operand, after a blank
abbrev pub register_operand : ℕ → List ℕ
register_operand r = codes " r" ++ decimal r

-- a number as an operand, after a blank
abbrev pub number_operand : ℕ → List ℕ
number_operand k = codes " " ++ decimal k

-- a row as an operand, after a blank
abbrev pub row_operand : RowRef → List ℕ
row_operand x = codes " " ++ row_text x

-- an instruction by its name and its operands
abbrev pub uop_text : Uop → List ℕ
uop_text Done = codes "DONE"
uop_text (SetI r k) = codes "SETI" ++ register_operand r ++ number_operand k
uop_text (SetN r) = codes "SETN" ++ register_operand r
uop_text (SetT r) = codes "SETT" ++ register_operand r
uop_text (Mov r s) = codes "MOV" ++ register_operand r ++ register_operand s
uop_text (Add r s) = codes "ADD" ++ register_operand r ++ register_operand s
uop_text (AddI r k) = codes "ADDI" ++ register_operand r ++ number_operand k
uop_text (SubI r k) = codes "SUBI" ++ register_operand r ++ number_operand k
uop_text (Bnez r t) = codes "BNEZ" ++ register_operand r ++ number_operand t
uop_text (Aap x y) = codes "AAP" ++ row_operand x ++ row_operand y
uop_text (Ap x) = codes "AP" ++ row_operand x

-- an instruction on its line, after its number, which is what a jump names
abbrev pub uop_line : ℕ → Uop → List ℕ
uop_line place uop = decimal place ++ codes " " ++ uop_text uop ++ codes "\n"

-- a line for each instruction, the first of which has this number
abbrev pub code_lines : ℕ → List Uop → List ℕ
code_lines place [] = []
code_lines place (uop ∷ uops) = uop_line place uop ++ code_lines (place + 1) uops

-- how many sources an entry takes, and the bits and words of its scratch
abbrev pub shape_text : Shape → List ℕ
shape_text shape = codes " sources=" ++ decimal (length shape.sources) ++ codes " bits="
    ++ decimal shape.bits ++ codes " words=" ++ decimal shape.words

-- an entry with two results says so
abbrev pub results_text : Option Kind → List ℕ
results_text None = []
results_text (Some kind) = codes " results=2"

-- the line that begins an entry
abbrev pub entry_line : Microprogram → List ℕ
entry_line m = codes "entry " ++ m.name ++ shape_text m.shape ++ codes " code="
    ++ decimal (length m.code) ++ results_text m.shape.second ++ codes "\n"

-- an entry with all of its instructions
abbrev pub entry_text : Microprogram → List ℕ
entry_text m = entry_line m ++ code_lines 0 m.code

-- each entry, with its instructions from 0 on
abbrev pub listing : List Microprogram → List ℕ
listing program = flat_map entry_text program
