-- The code of a body, whose indices are in registers.
-- Private contracts alone speak of this.
use Rattle.std.specs.Prelude.{ℕ, if◌then◌else◌, List, map, nat_lt}
use Rattle.uprog_code.specs.declared.code.RowSpace.{RowSpace}
use Rattle.uprog_code.specs.declared.code.RowSpace.TheVariants as row
use Rattle.uprog_code.specs.declared.code.RowRef.{RowRef}
use Rattle.uprog_code.specs.declared.code.Uop.{Uop}
use Rattle.uprog_code.specs.declared.code.Uop.TheVariants.{Aap, Ap}
use Rattle.row_alloc.specs.declared.body.BodyRef.{BodyRef}
use Rattle.row_alloc.specs.declared.body.BodyRef.TheVariants as ref
use Rattle.row_alloc.specs.declared.body.BodyCmd.{BodyCmd}
use Rattle.row_alloc.specs.declared.body.BodyCmd.TheVariants as cmd
use Rattle.loop_ir.specs.declared.ir.Sub.{Sub}
use Rattle.loop_ir.specs.declared.ir.Sub.TheVariants.{Zero, Inner, InnerDown, Register}
use Rattle.loop_ir.specs.declared.ir.Space.{Space}
use Rattle.loop_ir.specs.declared.ir.Space.TheVariants.{Result, Source, ScratchBit, ScratchWord}
use Rattle.loop_ir.specs.declared.ir.Space.TheVariants.{Cells}
use Rattle.loop_ir.specs.declared.ir.Place.{Place}
use Rattle.loop_ir.specs.Plain.{Block}
use Rattle.loop_ir.specs.Spots.{nth_place}

-- The space of a row. What stands in cells has none, and is given a bit's
abbrev pub row_space : Space → RowSpace
row_space Result = row.Result
row_space Source = row.Source
row_space ScratchBit = row.ScratchBit
row_space ScratchWord = row.ScratchWord
row_space Cells = row.ScratchBit

-- the register that a subscript names; 8 stands for the number 0
abbrev pub register : Sub → ℕ
register Zero = 8
register Inner = 8
register InnerDown = 8
register (Register r) = if nat_lt r 8 then r else 8

-- a scratch bit has no index, nor has what stands in cells
abbrev pub index_in : Space → ℕ → ℕ
index_in Result r = r
index_in Source r = r
index_in ScratchBit r = 0
index_in ScratchWord r = r
index_in Cells r = 0

-- a place's row in the code, whose index is a register
abbrev pub place_ref : Place → RowRef
place_ref p = record {
  space = row_space p.space;
  which = p.which;
  index = index_in p.space (register p.sub);
}

-- a body's row in the code
abbrev pub code_ref : Block → BodyRef → RowRef
code_ref b (ref.B k) = record { space = row.B; which = k; index = 0 }
code_ref b (ref.C k) = record { space = row.C; which = k; index = 0 }
code_ref b (ref.In k) = place_ref (nth_place b.reads k)
code_ref b (ref.Out k) = place_ref (nth_place b.writes k)
code_ref b (ref.Spill k) = record { space = row.Spill; which = k; index = 0 }

-- a body's command as an instruction
abbrev pub code_uop : Block → BodyCmd → Uop
code_uop b (cmd.Aap x y) = Aap (code_ref b x) (code_ref b y)
code_uop b (cmd.Ap x) = Ap (code_ref b x)

-- the instructions of a body's commands
abbrev pub body_uops : Block → List Uop
body_uops b = map (code_uop b) b.found
