use Rattle.object_steps.proofs.Common.{◌≡◌, ℕ, ◌+◌, ◌*◌, ◌/◌, ◌≤◌, ◌++◌, ◌∙◌, List, length, map}
use Rattle.object_steps.proofs.Common.{take, drop, append_assoc, arith, subst, sym, ap, min}
use Rattle.object_steps.proofs.Common.{range_with_len, Known, AppendsPart, AppendsUpTo}
use Rattle.object_steps.proofs.Common.{stage_number, stage_rows}
use Rattle.object_steps.specs.Lines.{values_text}
use Rattle.object_steps.proofs.Filled.{on_err}
use Rattle.object_steps.proofs.Held.{then_more, then_cut, part_of_more}
use Rattle.object_steps.proofs.Valued.{block_text, values_split}
use Rattle.object_steps.proofs.printing.add_columns.Goals as goal

pub loop-block-preserved : goal.loop-block-preserved
loop-block-preserved g c =
    let first = g.S.Sink.view c.args.out.now in
    let now = g.S.Sink.view c.loop-block.out in
    let new = g.S.Sink.view c.add_all.new.out in
    let stage : List ℕ = c.args.stage.now in
    let f : ℕ → ℕ = stage_number (length stage / stage_rows c.args.n) c.args.n stage in
    let block : ℕ = c.loop-block.block in
    let count : ℕ = c.args.count in
    let here : ℕ = c.columns_in.result in
    let before : List ℕ = values_text (map f (range_with_len 0 (min count (64 * block)))) in
    let piece : List ℕ = values_text (take here c.read_block-numbers.result) in
    let all : (c.args.text.now.items ++ before) ++ piece
    ≡ c.args.text.now.items ++ values_text (map f (range_with_len 0
    (min count (64 * (block + 1))))) =
    append_assoc c.args.text.now.items before piece
    ∙ ap (λ (xs : List ℕ). c.args.text.now.items ++ xs)
    (block_text f count block here c.read_block-numbers.result (omega arith) (omega arith)
    c.columns_in.ensures c.read_block-numbers.ensures) in
    record {
      unfailed = c.in_ok-add_all.ensures.unfailed ∙ c.loop-block.invariant.unfailed;
      room = c.in_ok-add_all.ensures.room;
      held = subst (λ (xs : List ℕ). Known (AppendsUpTo c.add_all.new.text.items xs) first.sent
          new.sent) all (then_more (c.args.text.now.items ++ before) c.loop-block.text.items piece
          c.add_all.new.text.items first.sent now.sent new.sent c.loop-block.invariant.held
          c.in_ok-add_all.ensures.held);
    }

pub returns-in_err-add_all-clause-part : goal.returns-in_err-add_all-clause-part
returns-in_err-add_all-clause-part g c =
    let first = g.S.Sink.view c.args.out.now in
    let now = g.S.Sink.view c.loop-block.out in
    let new = g.S.Sink.view c.add_all.new.out in
    let stage : List ℕ = c.args.stage.now in
    let f : ℕ → ℕ = stage_number (length stage / stage_rows c.args.n) c.args.n stage in
    let block : ℕ = c.loop-block.block in
    let count : ℕ = c.args.count in
    let here : ℕ = c.columns_in.result in
    let k : ℕ = min count (64 * (block + 1)) in
    let before : List ℕ = values_text (map f (range_with_len 0 (min count (64 * block)))) in
    let piece : List ℕ = values_text (take here c.read_block-numbers.result) in
    let rest : List ℕ = values_text (drop k (map f (range_with_len 0 count))) in
    let less : min c.args.count (64 * (c.loop-block.block + 1)) ≤ c.args.count = omega arith in
    let all : ((c.args.text.now.items ++ before) ++ piece) ++ rest
    ≡ c.args.text.now.items ++ values_text (map f (range_with_len 0 count)) =
    append_assoc (c.args.text.now.items ++ before) piece rest
    ∙ append_assoc c.args.text.now.items before (piece ++ rest)
    ∙ ap (λ (xs : List ℕ). c.args.text.now.items ++ xs) (sym (append_assoc before piece rest)
    ∙ ap (λ (xs : List ℕ). xs ++ rest) (block_text f count block here c.read_block-numbers.result
    (omega arith) (omega arith) c.columns_in.ensures c.read_block-numbers.ensures)
    ∙ values_split f k count less) in
    on_err c.from_residual.result (subst (λ (xs : List ℕ). Known (AppendsPart xs) first.sent
    new.sent) all (part_of_more ((c.args.text.now.items ++ before)
    ++ piece) rest first.sent new.sent
    (then_cut (c.args.text.now.items ++ before) c.loop-block.text.items piece first.sent now.sent
    new.sent c.loop-block.invariant.held c.in_err-add_all.ensures.part)))
