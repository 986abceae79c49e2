use Rattle.row_alloc.proofs.Common.{◌≡◌, ◌<◌, ℕ, Bool, true, List, length, ◌∙◌, sym, refl, Some}
use Rattle.row_alloc.proofs.Common.{AllByRecursion, list_all, Graph}
use Rattle.std.proofs.Common.{◌↔◌, IsTrue, map}
use Rattle.dram_model.specs.declared.address.Cell.TheVariants.{D as CellD}
use Rattle.row_alloc.specs.declared.body.BodyCmd.{BodyCmd}
use Rattle.row_alloc.specs.declared.body.OutRow.{OutRow}
use Rattle.row_alloc.specs.declared.body.Held.{Held}
use Rattle.row_alloc.specs.Rows.{out_at, bound}
use Rattle.row_alloc.specs.Legal.{are_legal}
use Rattle.row_alloc.specs.Numbering.{own_rows}
use Rattle.row_alloc.specs.Symbolic.{Symbols, sym_run}
use Rattle.row_alloc.specs.Held.{taken, rows_start, symbols_held, IsHeldChecked, IsLeft, reads_rows}
use Rattle.row_alloc.specs.Table.{symbols_of}
use Rattle.row_alloc.proofs.HeldChecked.{held-does}
use Rattle.row_alloc.proofs.held.check_held.Goals as goal

abbrev EndRight : List OutRow → Symbols → Type 0
EndRight outs sy = (j : ℕ) → j < length outs
    → sy (CellD ((own_rows outs).output j)) ≡ Some (out_at outs j).lit

-- what the tests of the ends tell, the second made only where the first passes
module _ (g : Graph) (outs : List OutRow) (enter leave : List Held) (cmds : List BodyCmd)
    (a : Bool) (sy first : Symbols) (i : ℕ) (e : i ≡ g.inputs)
    (f : sy ≡ sym_run g (map (bound (own_rows outs)) cmds) first)
    (h : first ≡ taken enter (rows_start i enter)) (ends : IsTrue a ↔ EndRight outs sy) where
  after : sy ≡ symbols_held g outs enter cmds
  after = rw (f, h, e) refl

  told : IsTrue a ↔ EndRight outs (symbols_held g outs enter cmds)
  told = rw after at ends

  both_told : (b : Bool) → are_legal i (length outs) cmds ≡ true
      → list_all (reads_rows enter) cmds ≡ true → (IsTrue b ↔ AllByRecursion (IsLeft sy) leave)
      → IsTrue a → IsTrue b ↔ IsHeldChecked g outs enter leave cmds
  both_told b legal unread cells t =
      let left : IsTrue b ↔ AllByRecursion (IsLeft (symbols_held g outs enter cmds)) leave =
      rw after at cells in (
        λ u. record { legal = rw e at legal; unread = unread; ends = told.0 t; leaves = left.0 u },
        λ checked. left.1 checked.leaves,
      )

pub returns-then-ends_right-clause-exact : goal.returns-then-ends_right-clause-exact
returns-then-ends_right-clause-exact c = both_told c.args.m.now c.args.outs.now c.args.enter.now
    c.args.leave.now c.args.cmds.now c.ends_right.result (symbols_of c.follow.new.table)
    (symbols_of c.holding-table.result) c.inputs-inputs.result c.inputs-inputs.ensures.inputs
    c.follow.ensures c.holding-table.ensures c.ends_right.ensures c.leaves_right.result
    (sym c.all_legal.ensures ∙ c.if-not-all_legal.false)
    (sym c.all_read_rows.ensures ∙ c.if-not-all_read_rows.false) c.leaves_right.ensures
    c.if-ends_right.true

pub returns-then-ends_right-clause-does : goal.returns-then-ends_right-clause-does
returns-then-ends_right-clause-does c = λ t. held-does c.args.m.now c.args.outs.now
    c.args.enter.now c.args.leave.now c.args.cmds.now c.inputs-inputs.ensures.graph c.requires.fit
    ((returns-then-ends_right-clause-exact c).0 t)

pub returns-else-ends_right-clause-exact : goal.returns-else-ends_right-clause-exact
returns-else-ends_right-clause-exact c = (
  λ t. let e = c.if-ends_right.false in absurd (cc),
  λ h. (told c.args.m.now c.args.outs.now c.args.enter.now c.args.leave.now c.args.cmds.now
      c.ends_right.result (symbols_of c.follow.new.table) (symbols_of c.holding-table.result)
      c.inputs-inputs.result c.inputs-inputs.ensures.inputs c.follow.ensures
      c.holding-table.ensures c.ends_right.ensures).1 h.ends,
)
