use Rattle.std.proofs.Common.{◌∙◌, ap, ◌++◌, ◌∷◌, []}
use Rattle.uprog_code.specs.Shape.{shape_of}
use Rattle.part_tests.proofs.Waves.{xor_can_run}
use Rattle.part_tests.proofs.wave_tests.xor_job.Goals as goal

pub returns : goal.returns
returns c =
    let entry = c.in_ok-entry.entry in
    xor_can_run (shape_of entry.head) entry.code.items c.push-2.new.self c.args.left c.args.right
    c.args.to c.args.banks c.in_ok-entry.ensures.shape c.in_ok-entry.ensures.code
    (c.push-2.ensures.items ∙ ap (λ xs. xs ++ c.args.right ∷ []) (c.push.ensures.items
    ∙ ap (λ xs. xs ++ c.args.left ∷ []) c.new-sources.ensures)) c.requires.left c.requires.right
    c.requires.to c.requires.banks
