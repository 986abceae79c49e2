use Rattle.loop_front.proofs.Common.{ℕ, Bool, [], ◌∷◌, ◌++◌, map, cond, sym, ap, ◌∙◌, arith, filter}
use Rattle.loop_front.proofs.Common.{range_with_len, flow_of, names}
use Rattle.std.proofs.Common.{append-nil}
use Rattle.std.proofs.lemmas.List.FromFn.{filter_of_map_range_with_len_more}
use Rattle.loop_front.proofs.names.cleared.Goals.{then-names+in_ok-keep, else-names}
use Rattle.loop_front.proofs.names.cleared.Goals as goal

pub loop-r-preserved : goal.loop-r-preserved
loop-r-preserved c =
    let t : ℕ → Bool = λ r. names r (flow_of c.args.flow.now) in
    let r = c.loop-r.r in
    let old = filter t (map (λ r. r) (range_with_len 0 r)) in
    let more = filter_of_map_range_with_len_more t (λ r. r) 0 r r (omega arith) in
    elim c.if-names.branch [
      | then-names+in_ok-keep w ↦ ap (λ v. v.items) w.registers-is ∙ w.in_ok-keep.ensures
          ∙ ap (λ l. l ++ r ∷ []) c.loop-r.invariant
          ∙ ap (λ b. old ++ cond b (r ∷ []) []) (sym w.if-names.true ∙ c.names.ensures) ∙ sym more
      | else-names w ↦ ap (λ v. v.items) w.registers-is ∙ c.loop-r.invariant ∙ sym (append-nil old)
          ∙ ap (λ b. old ++ cond b (r ∷ []) []) (sym w.if-names.false ∙ c.names.ensures) ∙ sym more
    ]
