-- The commands of rounds, as commands of the trace.
use Rattle.uprog_gen.proofs.Common.{Issue, position, BodyRef, BodyCmd, Place, RoundOf, sub_value}
use Rattle.uprog_gen.proofs.Common.{nth_place, Block}
use Rattle.std.specs.Prelude.{ℕ, List, [], ◌∷◌, ◌++◌, map}
use Rattle.uprog_code.specs.declared.code.RowRef.{RowRef}
use Rattle.uprog_code.specs.Machine.{IssueAap, IssueAp}
use Rattle.uprog_code.specs.declared.code.RowSpace.TheVariants as row
use Rattle.row_alloc.specs.declared.body.BodyRef.TheVariants as ref
use Rattle.row_alloc.specs.declared.body.BodyCmd.TheVariants as cmd
use Rattle.uprog_gen.specs.Code.{row_space}

-- a place's row, in a command of the trace
abbrev pub place_row : ℕ → ℕ → List ℕ → Place → RowRef
place_row n i g p = record {
  space = row_space p.space;
  which = p.which;
  index = position (row_space p.space) (sub_value n i g p.sub);
}

-- a body's row in a round, in a command of the trace
abbrev pub round_ref : ℕ → RoundOf Block → BodyRef → RowRef
round_ref n r (ref.B k) = record { space = row.B; which = k; index = 0 }
round_ref n r (ref.C k) = record { space = row.C; which = k; index = 0 }
round_ref n r (ref.In k) = place_row n r.i r.regs (nth_place r.part.reads k)
round_ref n r (ref.Out k) = place_row n r.i r.regs (nth_place r.part.writes k)
round_ref n r (ref.Spill k) = record { space = row.Spill; which = k; index = 0 }

-- a body's command in a round, as a command of the trace
abbrev pub round_command : ℕ → RoundOf Block → BodyCmd → Issue
round_command n r (cmd.Aap x y) = IssueAap (round_ref n r x) (round_ref n r y)
round_command n r (cmd.Ap x) = IssueAp (round_ref n r x)

-- all commands of the rounds
abbrev pub rounds_commands : ℕ → List (RoundOf Block) → List Issue
rounds_commands n [] = []
rounds_commands n (r ∷ rs) = map (round_command n r) r.part.found ++ rounds_commands n rs
