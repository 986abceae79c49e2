use Rattle.transpose_unit.proofs.Common.{◌≡◌, ℕ, ◌+◌, ◌*◌, ◌∙◌, ap, arith, length, get_or, bit_at}
use Rattle.transpose_unit.specs.Stage.{stage_rows}
use Rattle.transpose_unit.proofs.Sets.{halves}
use Rattle.transpose_unit.proofs.Rows.{rows-low, rows-high}
use Rattle.transpose_unit.proofs.stage.fill_stage.Goals as goal

nothing : (k : ℕ) → 0 + k ≡ k
nothing k = omega arith

pub fill_rows-requires-clause-stage : goal.fill_rows-requires-clause-stage
fill_rows-requires-clause-stage c = c.requires.stage
    ∙ ap (λ (r : ℕ). r * c.args.words) (rows-low c.args.n c.if-n-le64.true)

pub split_at_mut-low-requires : goal.split_at_mut-low-requires
split_at_mut-low-requires c = let size : length c.args.stage.now ≡ 128 * c.args.words =
    c.requires.stage ∙ ap (λ (r : ℕ). r * c.args.words) (rows-high c.args.n c.if-n-le64.false) in
    omega (arith, size)

pub fill_rows-requires-else-n-le64-2-clause-stage :
    goal.fill_rows-requires-else-n-le64-2-clause-stage
fill_rows-requires-else-n-le64-2-clause-stage c =
    let size : length c.args.stage.now ≡ 128 * c.args.words =
    c.requires.stage ∙ ap (λ (r : ℕ). r * c.args.words) (rows-high c.args.n c.if-n-le64.false)
    in
    omega (arith, size, c.split_at_mut-low.ensures.back_len)

pub returns-then-n-le64-clause-bits : goal.returns-then-n-le64-clause-bits
returns-then-n-le64-clause-bits c = λ k w b lk lw lb. c.fill_rows.ensures.bits k w b
    (omega (arith, lk, rows-low c.args.n c.if-n-le64.true)) lw lb
    ∙ ap (λ (j : ℕ). bit_at (get_or c.args.values.now (c.args.start + 64 * w + b) 0) j) (nothing k)

pub returns-else-n-le64-clause-bits : goal.returns-else-n-le64-clause-bits
returns-else-n-le64-clause-bits c = λ k w b lk lw lb.
    let values : ℕ → ℕ = λ w. get_or c.args.values.now (c.args.start + 64 * w + b) 0 in
    let size : length c.fill_rows-else-n-le64.new.stage ≡ 64 * c.args.words =
    omega (arith, c.fill_rows-else-n-le64.ensures.len, c.split_at_mut-low.ensures.front_len) in
    halves c.args.words (stage_rows c.args.n) c.args.n c.fill_rows-else-n-le64.new.stage
    c.fill_rows-else-n-le64-2.new.stage (λ k w x. bit_at x b
    ≡ bit_at (values w) k) size (rows-high c.args.n c.if-n-le64.false)
    (λ k w lk lw. c.fill_rows-else-n-le64.ensures.bits k w b lk lw lb
    ∙ ap (λ (j : ℕ). bit_at (values w) j) (nothing k))
    (λ k w lk lw. c.fill_rows-else-n-le64-2.ensures.bits k w b lk lw lb) k w lk lw
