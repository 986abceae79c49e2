use Rattle.word_lower.proofs.Common.{slice_index_or, sym, ap, ◌++◌, ◌∷◌, [], ◌∙◌, refl, None}
use Rattle.word_lower.specs.Places.{slot_at, program_on}
use Rattle.word_lower.specs.Lines.{lines_steps}
use Rattle.word_lower.proofs.Append.{lines_more}
use Rattle.word_lower.proofs.bodies.program.Goals as goal

pub loop-line-init : goal.loop-line-init
loop-line-init c = rw c.new-steps.ensures.items (record { same = refl; made = tt })

pub loop-line-preserved : goal.loop-line-preserved
loop-line-preserved c =
    let so = c.loop-line.invariant in
    record {
      same = c.in_ok-add_step.ensures.same
          ∙ ap (λ l. l ++ program_on (slot_at c.args.owners.now) (lines_steps (slice_index_or
          c.args.lines.now c.loop-line.line-index None ∷ []))) so.same
          ∙ sym (lines_more (slot_at c.args.owners.now) c.args.lines.now c.loop-line.line-index None
          c.loop-line-test.true);
      made = c.in_ok-add_step.ensures.made so.made;
    }
