use Rattle.soak_job.proofs.Common.{Geometry, ◌∷◌, ◌≡◌, ◌∙◌, ◌*◌, ◌<◌, ◌^◌, ◌+◌, suc, sym, ap, subst}
use Rattle.soak_job.proofs.Common.{arith, drop, get_or, All, drop-cons, drop_all, Word, Kept-more}
use Rattle.soak_job.proofs.Counting.{values_small}
use Rattle.soak_job.proofs.Running.{on_err_always}
use Rattle.soak_job.proofs.Loading.{all_loaded, has_rows, source_failed, step_as}
use Rattle.soak_job.proofs.load.load_sources.Goals as goal

pub write_object-requires-clause-rows : goal.write_object-requires-clause-rows
write_object-requires-clause-rows g c =
    let i = c.loop-kind.kind-index in
    has_rows c.args.n (drop i c.args.kinds.now) (drop (suc i) c.args.kinds.now)
    (get_or c.args.kinds.now i Word) c.loop-kind.row c.rows_of-rows.result _
    (drop-cons c.args.kinds.now i Word (omega arith)) c.rows_of-rows.ensures
    c.loop-kind.invariant.so_far.rows c.requires.rows

pub write_object-requires-clause-small : goal.write_object-requires-clause-small
write_object-requires-clause-small g c = subst (All (λ v. v < 2 ^ c.rows_of-rows.result))
    (sym c.draw-values.ensures.values) (values_small c.loop-kind.generator c.rows_of-rows.result)

pub loop-kind-preserved : goal.loop-kind-preserved
loop-kind-preserved g c =
    let i = c.loop-kind.kind-index in
    let start = g.D.Dram.view c.args.chip.now in
    let now = g.D.Dram.view c.loop-kind.chip in
    let mid = g.D.Dram.view c.write_object.new.dram in
    let one : suc i ≡ i + 1 = omega arith in
    record {
      borrow = c.in_ok-write_object.ensures.borrow ∙ c.loop-kind.invariant.borrow;
      kept = Kept-more start now mid c.loop-kind.invariant.kept c.in_ok-write_object.ensures.kept;
      so_far = step_as c.args.n c.args.kinds.now (drop i c.args.kinds.now)
          (drop (i + 1) c.args.kinds.now) c.draw-values.result (get_or c.args.kinds.now i Word)
          c.args.generator.now c.loop-kind.generator c.loop-kind.row c.draw-values.new.generator
          c.from-row.result c.rows_of-rows.result start now mid c.requires.some
          (drop-cons c.args.kinds.now i Word (omega arith)
          ∙ ap (λ n. get_or c.args.kinds.now i Word ∷ drop n c.args.kinds.now) one)
          c.draw-values.ensures.following c.rows_of-rows.ensures c.from-row.ensures
          c.draw-values.ensures.values (omega arith) c.loop-kind.invariant.so_far
          c.in_ok-write_object.ensures.did c.in_ok-write_object.ensures.numbers;
    }

pub returns-clause-did : goal.returns-clause-did
returns-clause-did g c =
    let now = g.D.Dram.view c.loop-kind.chip in
    let kept = c.loop-kind.invariant.kept in
    let width = g.met.D.Dram.width c.loop-kind.chip (kept.begun ∙ c.requires.begun) in
    let shape = kept.geometry ∙ c.requires.geometry in
    (all_loaded c.args.n c.args.kinds.now _ c.args.generator.now c.loop-kind.generator
    c.loop-kind.row (g.D.Dram.view c.args.chip.now) now
    (drop_all c.loop-kind.kind-index c.args.kinds.now (omega arith))
    (width 0 (rw shape (omega arith)) ∙ ap (λ (x : Geometry). 64 * x.words) shape)
    (width 1 (rw shape (omega arith)) ∙ ap (λ (x : Geometry). 64 * x.words) shape)
    c.loop-kind.invariant.so_far).0

pub returns-clause-numbers : goal.returns-clause-numbers
returns-clause-numbers g c =
    let now = g.D.Dram.view c.loop-kind.chip in
    let kept = c.loop-kind.invariant.kept in
    let width = g.met.D.Dram.width c.loop-kind.chip (kept.begun ∙ c.requires.begun) in
    let shape = kept.geometry ∙ c.requires.geometry in
    (all_loaded c.args.n c.args.kinds.now _ c.args.generator.now c.loop-kind.generator
    c.loop-kind.row (g.D.Dram.view c.args.chip.now) now
    (drop_all c.loop-kind.kind-index c.args.kinds.now (omega arith))
    (width 0 (rw shape (omega arith)) ∙ ap (λ (x : Geometry). 64 * x.words) shape)
    (width 1 (rw shape (omega arith)) ∙ ap (λ (x : Geometry). 64 * x.words) shape)
    c.loop-kind.invariant.so_far).1

pub returns-in_err-write_object-clause-left : goal.returns-in_err-write_object-clause-left
returns-in_err-write_object-clause-left g c =
    let i = c.loop-kind.kind-index in
    let start = g.D.Dram.view c.args.chip.now in
    let now = g.D.Dram.view c.loop-kind.chip in
    on_err_always _ (source_failed c.args.n c.args.kinds.now (drop i c.args.kinds.now)
    (drop (suc i) c.args.kinds.now) c.draw-values.result (get_or c.args.kinds.now i Word)
    c.args.generator.now c.loop-kind.generator c.loop-kind.row c.rows_of-rows.result start now
    (g.D.Dram.view c.write_object.new.dram).banks (drop-cons c.args.kinds.now i Word (omega arith))
    c.rows_of-rows.ensures c.draw-values.ensures.values c.loop-kind.invariant.so_far
    c.in_err-write_object.ensures.stopped)
