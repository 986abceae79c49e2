use Rattle.width_entry.proofs.Common.{◌++◌, ap, ◌∙◌, sym, length, map, take, ◌∷◌, [], append_assoc}
use Rattle.width_entry.proofs.Common.{legal_operands}
use Rattle.width_entry.specs.Code.{moved_uop}
use Rattle.width_entry.proofs.Own.{one_more}
use Rattle.width_entry.proofs.code.put_own.Goals as goal

pub moved_uop-requires : goal.moved_uop-requires
moved_uop-requires g c =
    let code = g.F.Fetch.code c.args.entry.now in record {
      room = (
        length code,
        legal_operands (g.F.Fetch.shape c.args.entry.now) code c.loop-at.at c.fetch.result
            c.requires.legal c.fetch.ensures,
        c.requires.room,
      );
    }

pub loop-at-preserved : goal.loop-at-preserved
loop-at-preserved g c =
    let own = g.F.Fetch.code c.args.entry.now in
    let by = c.args.by in
    let first = map (moved_uop by) (take c.loop-at.at own) in
    let u = c.fetch.result in
    let before = c.args.code.now.items in
    c.in_ok-keep.ensures
    ∙ ap (λ x. c.loop-at.code.items ++ x ∷ []) c.moved_uop.ensures
    ∙ ap (λ us. us ++ moved_uop by u ∷ []) c.loop-at.invariant
    ∙ append_assoc before first (moved_uop by u ∷ [])
    ∙ ap (λ us. before ++ us) (sym (one_more (moved_uop by) own c.loop-at.at u c.fetch.ensures))
