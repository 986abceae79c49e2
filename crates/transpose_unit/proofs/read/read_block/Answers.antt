use Rattle.transpose_unit.proofs.Common.{◌≡◌, ℕ, ◌+◌, ◌*◌, ◌/◌, ◌<◌, ◌∙◌, arith, get_or, length}
use Rattle.transpose_unit.proofs.Common.{List, subst, bit_at}
use Rattle.transpose_unit.specs.Stage.{stage_rows}
use Rattle.transpose_unit.proofs.Blocks.{two_words}
use Rattle.transpose_unit.proofs.read.read_block.Goals as goal

pub returns : goal.returns
returns c = λ k l.
    let stage : List ℕ = c.args.stage.now in
    let words : ℕ = length stage / stage_rows c.args.n in
    let low : ℕ = get_or c.columns_at-lower.result k 0 in
    let high : ℕ = get_or c.upper_columns-upper.result k 0 in
    let Lower : ℕ → Type 0 = λ r. (j b : ℕ) → j < 64 → b < 64
    → bit_at (get_or c.columns_at-lower.result b 0) j
    ≡ bit_at (get_or c.args.stage.now ((0 + j) * (length c.args.stage.now / r) + c.args.w) 0) b in
    let Upper : ℕ → Type 0 = λ r. (j b : ℕ) → 64 + j < c.args.n → j < 64 → b < 64
    → bit_at (get_or c.upper_columns-upper.result b 0) j
    ≡ bit_at (get_or c.args.stage.now ((64 + j) * (length c.args.stage.now / r) + c.args.w) 0) b in
    let lower = subst Lower c.stage_rows.ensures c.columns_at-lower.ensures in
    let upper = subst Upper c.stage_rows.ensures c.upper_columns-upper.ensures in
    c.loop-c.invariant.below k (omega arith)
    ∙ two_words words c.args.n c.args.w k low high stage c.requires.word l c.requires.narrow
    c.requires.stage (c.loop-c.invariant.small k (omega arith)) (λ j m. lower j k m l)
    (λ j m o. upper j k m o l)
