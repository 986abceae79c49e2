use Rattle.transpose_unit.proofs.Common.{◌≡◌, ℕ, ◌+◌, ◌-◌, ◌*◌, ◌∷◌, [], ◌≤◌, List, take, drop, ap}
use Rattle.transpose_unit.proofs.Common.{◌∙◌, arith, refl, bits_of_words, Banks, Event, Write}
use Rattle.transpose_unit.proofs.Common.{Counters, Did-more, Kept-more, ◌<◌}
use Rattle.dram_model.specs.View.{FailedIn}
use Rattle.transpose_unit.specs.Stage.{stage_events, stage_row, stage_rows}
use Rattle.transpose_unit.proofs.Columns.{one_row}
use Rattle.transpose_unit.proofs.Rows.{rows-enough}
use Rattle.transpose_unit.proofs.Events.{on_err_always, stage_more, stage_others, part_is}
use Rattle.transpose_unit.proofs.write.write_rows.Goals as goal

pub loop-k-preserved : goal.loop-k-preserved
loop-k-preserved g c =
    let dram = g.D.Dram in
    let kept = c.loop-k.invariant in
    let k : ℕ = c.loop-k.k in
    let words : ℕ = c.args.g.words in
    let start : ℕ = c.from.result * c.from-words.result in
    let part : List ℕ = take (start + c.from-words.result - start) (drop start c.args.stage.now) in
    let row : ℕ = c.args.base + c.from-in-loop-k.result in
    let so_far : List Event = stage_events words c.args.bank c.args.base k c.args.stage.now in
    let at : c.from.result * c.from-words.result ≡ c.loop-k.k * c.args.g.words =
    rw (c.from.ensures, c.from-words.ensures) refl in
    let is : take (c.from.result * c.from-words.result + c.from-words.result - c.from.result
    * c.from-words.result) (drop (c.from.result * c.from-words.result) c.args.stage.now)
    ≡ stage_row c.args.g.words c.args.stage.now c.loop-k.k =
    part_is words k start c.from-words.result c.args.stage.now at c.from-words.ensures in
    let place : c.args.base + c.from-in-loop-k.result ≡ c.args.base + c.loop-k.k =
    ap (λ (n : ℕ). c.args.base + n) c.from-in-loop-k.ensures in
    let more = stage_more words c.args.bank c.args.base k row c.args.stage.now part place is in
    let event : Event = Write c.args.bank row (bits_of_words part) in
    let first = dram.view c.args.dram.now in
    let now = dram.view c.loop-k.dram in
    let new = dram.view c.write_row.new.self in
    let did = c.in_ok-write_row.ensures.did in
    let wrote : new.counters.writes ≡ now.counters.writes + 1 =
    ap (λ (n : Counters). n.writes) did.counters in
    record {
      borrow = c.in_ok-write_row.ensures.borrow ∙ kept.borrow;
      kept = Kept-more first now new kept.kept c.in_ok-write_row.ensures.kept;
      did = rw more (Did-more so_far (event ∷ []) first now new kept.did did);
      writes = omega (arith, wrote, kept.writes);
    }

pub returns-in_err-write_row-clause-failed : goal.returns-in_err-write_row-clause-failed
returns-in_err-write_row-clause-failed g c =
    let first = g.D.Dram.view c.args.dram.now in
    let new = g.D.Dram.view c.write_row.new.self in
    let failed = c.in_err-write_row.ensures.failed in
    let all : FailedIn c.args.bank first new = record {
      rose = omega (arith, c.loop-k.invariant.kept.faults, failed.rose);
      others = λ b ne. failed.others b ne
          ∙ ap (λ (banks : Banks). banks b) c.loop-k.invariant.did.banks
          ∙ stage_others c.args.g.words c.args.bank c.args.base c.loop-k.k c.args.stage.now
          first.banks b ne;
    } in
    on_err_always c.from_residual.result all

pub returns-in_err-write_row-clause-some : goal.returns-in_err-write_row-clause-some
returns-in_err-write_row-clause-some g c =
    let some : 0 < c.args.n = omega arith in
    on_err_always c.from_residual.result some

pub slice_bounds-write_row-end : goal.slice_bounds-write_row-end
slice_bounds-write_row-end g c =
    let at : c.from.result * c.from-words.result ≡ c.loop-k.k * c.args.g.words =
    rw (c.from.ensures, c.from-words.ensures) refl in
    let next : c.loop-k.k + 1 ≤ stage_rows c.args.n =
    omega (arith, rows-enough c.args.n c.requires.narrow) in
    omega (
      arith,
      at,
      c.from-words.ensures,
      one_row c.loop-k.k c.args.g.words (stage_rows c.args.n)
          next,
      c.requires.stage,
    )
