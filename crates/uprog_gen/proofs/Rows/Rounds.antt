-- The rows of a round in a bank.
use Rattle.uprog_gen.proofs.Common.{Shape, Bound, Rows, Block, RoundOf, Spot, nth_place, nth_spot}
use Rattle.uprog_gen.proofs.Common.{IsOwn, is_state}
use Rattle.std.specs.Prelude.{◌≡◌, ℕ, ◌+◌, ◌-◌, ◌<◌, if◌then◌else◌}
use Rattle.uprog_gen.specs.Where.{spot_row, IsSpot}

-- how the operation's rows lie in a bank: none that it may write shares its row with another, and
-- all lie below the spill group
pub record IsLaid (rows : ℕ) (head : Shape) (n : ℕ) (b : Bound) : Type 0 where
  pub own : (p q : Spot) → IsSpot head n p → IsSpot head n q → IsOwn p.space
      → spot_row head n b p ≡ spot_row head n b q → p ≡ q
  pub low : (p : Spot) → IsSpot head n p → spot_row head n b p < rows - 32

-- the data rows of a round's body, in a bank of so many data rows: what stands in cells is given one
-- out of the bank
abbrev pub round_rows : ℕ → Shape → ℕ → Bound → RoundOf Block → Rows
round_rows rows head n b r = record {
  input = λ k. if is_state (nth_place r.part.reads k).space then rows + 32
      else spot_row head n b (nth_spot n r.i r.regs r.part.reads k);
  output = λ j. spot_row head n b (nth_spot n r.i r.regs r.part.writes j);
  spill = λ i. rows - 32 + i;
}
