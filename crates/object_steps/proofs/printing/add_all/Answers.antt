use Rattle.object_steps.proofs.Common.{◌≡◌, ℕ, ◌+◌, ◌++◌, ◌∙◌, List, take, drop, ap, append_assoc}
use Rattle.object_steps.proofs.Common.{arith, subst, sym, get_or, refl, codes, decimal, Known}
use Rattle.object_steps.proofs.Common.{AppendsPart, AppendsUpTo}
use Rattle.object_steps.specs.Lines.{values_text}
use Rattle.object_steps.proofs.Filled.{on_err}
use Rattle.object_steps.proofs.Held.{then_more, then_part, part_of_more}
use Rattle.object_steps.proofs.Valued.{text_more, text_split}
use Rattle.object_steps.proofs.printing.add_all.Goals as goal

pub loop-value-preserved : goal.loop-value-preserved
loop-value-preserved g c =
    let first = g.S.Sink.view c.args.out.now in
    let now = g.S.Sink.view c.loop-value.out in
    let new = g.S.Sink.view c.add_value.new.out in
    let values : List ℕ = c.args.values.now in
    let i : ℕ = c.loop-value.value-index in
    let before : List ℕ = values_text (take i values) in
    let value : ℕ = get_or values i 0 in
    let piece : List ℕ = codes " " ++ decimal value in
    let all : (c.args.text.now.items ++ before) ++ piece
    ≡ c.args.text.now.items ++ values_text (take (i + 1) values) =
    append_assoc c.args.text.now.items before piece
    ∙ ap (λ (xs : List ℕ). c.args.text.now.items ++ xs)
    (sym (text_more values i value (omega arith) refl)) in
    record {
      unfailed = c.in_ok-add_value.ensures.unfailed ∙ c.loop-value.invariant.unfailed;
      room = c.in_ok-add_value.ensures.room;
      held = subst (λ (xs : List ℕ). Known (AppendsUpTo c.add_value.new.text.items xs) first.sent
          new.sent) all (then_more (c.args.text.now.items ++ before) c.loop-value.text.items piece
          c.add_value.new.text.items first.sent now.sent new.sent c.loop-value.invariant.held
          c.in_ok-add_value.ensures.held);
    }

pub returns-in_err-add_value-clause-part : goal.returns-in_err-add_value-clause-part
returns-in_err-add_value-clause-part g c =
    let first = g.S.Sink.view c.args.out.now in
    let now = g.S.Sink.view c.loop-value.out in
    let new = g.S.Sink.view c.add_value.new.out in
    let values : List ℕ = c.args.values.now in
    let i : ℕ = c.loop-value.value-index in
    let before : List ℕ = values_text (take i values) in
    let rest : List ℕ = values_text (drop i values) in
    let all : (c.args.text.now.items ++ before) ++ rest
    ≡ c.args.text.now.items ++ values_text values =
    append_assoc c.args.text.now.items before rest
    ∙ ap (λ (xs : List ℕ). c.args.text.now.items ++ xs) (text_split values i) in
    on_err c.from_residual.result (subst (λ (xs : List ℕ). Known (AppendsPart xs) first.sent
    new.sent) all (part_of_more (c.args.text.now.items ++ before) rest first.sent new.sent
    (then_part (c.args.text.now.items ++ before) c.loop-value.text.items first.sent now.sent
    new.sent c.loop-value.invariant.held c.in_err-add_value.ensures.part)))
