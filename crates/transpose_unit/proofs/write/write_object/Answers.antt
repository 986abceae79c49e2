use Rattle.transpose_unit.proofs.Common.{◌≡◌, ◌≢◌, ℕ, ◌+◌, ◌*◌, ◌<◌, List, length, get_or, ap}
use Rattle.transpose_unit.proofs.Common.{subst, ◌∙◌, arith, mul-add, flat_map, range_with_len}
use Rattle.transpose_unit.proofs.Common.{Geometry, Banks, Event, Did, Did-more, Kept-more}
use Rattle.transpose_unit.proofs.Common.{column_count, segments_of, size_of, padded_to}
use Rattle.transpose_unit.proofs.Common.{write_events, numbers_in, bit_at, row_bits, refl, Write}
use Rattle.std.specs.Int.{div_ceil}
use Rattle.dram_model.specs.Elements.{FailedBelow}
use Rattle.transpose_unit.specs.Stopped.{StoppedWithin}
use Rattle.transpose_unit.proofs.Stopping.{stopped_turn, next_in}
use Rattle.transpose_unit.specs.Stage.{stage_rows}
use Rattle.transpose_unit.proofs.Rows.{rows-enough}
use Rattle.transpose_unit.proofs.Events.{on_err_always}
use Rattle.transpose_unit.proofs.Segments.{bank_events, banks_more, padded_at, padded_length}
use Rattle.transpose_unit.proofs.Segments.{segments_cover, segments_fit, stage_events_are}
use Rattle.transpose_unit.proofs.Segments.{words_some}
use Rattle.transpose_unit.proofs.Held.{after_first, numbers_hold}
use Rattle.transpose_unit.proofs.write.write_object.Goals as goal

pub write_rows-requires-clause-begun : goal.write_rows-requires-clause-begun
write_rows-requires-clause-begun g c = c.loop-bank.invariant.kept.begun ∙ c.requires.begun

pub returns-in_err-write_rows-clause-borrow : goal.returns-in_err-write_rows-clause-borrow
returns-in_err-write_rows-clause-borrow g c =
    c.in_err-write_rows.ensures.borrow ∙ c.loop-bank.invariant.borrow

pub returns-in_err-write_rows-clause-kept : goal.returns-in_err-write_rows-clause-kept
returns-in_err-write_rows-clause-kept g c =
    Kept-more _ _ _ c.loop-bank.invariant.kept c.in_err-write_rows.ensures.kept

pub returns-clause-borrow : goal.returns-clause-borrow
returns-clause-borrow g c = c.loop-bank.invariant.borrow

pub returns-clause-kept : goal.returns-clause-kept
returns-clause-kept g c = c.loop-bank.invariant.kept

pub loop-bank-preserved : goal.loop-bank-preserved
loop-bank-preserved g c =
    let dram = g.D.Dram in
    let kept = c.loop-bank.invariant in
    let shape : Geometry = c.args.g in
    let values : List ℕ = c.args.values.now in
    let bank : ℕ = c.loop-bank.bank in
    let numbers : List ℕ = padded_to (size_of c.args.g (length c.args.values.now)) c.args.values.now
    in
    let words = words_some c.args.g.words c.args.g.banks (length c.args.values.now) c.requires.some
    c.requires.fits in
    let segments = c.div_ceil-bank-end.ensures
    ∙ ap (λ (w : ℕ). div_ceil (length c.args.values.now) (64 * w)) c.from-words.ensures in
    let inside : c.loop-bank.bank < segments_of c.args.g (length c.args.values.now) =
    omega (arith, segments) in
    let long : length (padded_to (size_of c.args.g (length c.args.values.now)) c.args.values.now)
    ≡ column_count c.args.g * segments_of c.args.g (length c.args.values.now) =
    padded_length (size_of shape (length values)) values
    (segments_cover shape (length values) (omega arith)) in
    let P : ℕ → Type 0 = λ x. (k w b : ℕ) → k < stage_rows c.args.n → w < x → b < 64
    → bit_at (get_or c.fill_stage.new.stage (k * x + w) 0) b
    ≡ bit_at (get_or c.args.values.now (c.loop-bank.bank * (64 * x) + 64 * w + b) 0) k in
    let bits = subst P c.from-words.ensures c.fill_stage.ensures.bits in
    let size : length c.fill_stage.new.stage ≡ stage_rows c.args.n * c.args.g.words =
    omega (arith, c.fill_stage.ensures.len, c.requires.stage) in
    let is = stage_events_are shape c.args.base c.args.n numbers values c.fill_stage.new.stage
    (segments_of shape (length values)) bank (stage_rows c.args.n)
    (rows-enough c.args.n c.requires.narrow) long inside
    (padded_at (size_of shape (length values)) values) size bits in
    let so_far : List Event = flat_map (bank_events shape c.args.base c.args.n numbers)
    (range_with_len 0 bank) in
    let own : List Event = bank_events shape c.args.base c.args.n numbers bank in
    let more = banks_more shape c.args.base c.args.n numbers bank in
    let sum : c.args.n * c.loop-bank.bank + c.args.n ≡ c.args.n * (c.loop-bank.bank + 1) =
    omega (arith, mul-add c.args.n c.loop-bank.bank 1) in
    let first = dram.view c.args.dram.now in
    let now = dram.view c.loop-bank.dram in
    let new = dram.view c.write_rows.new.dram in
    let did : Did own now new = subst (λ (es : List Event). Did es now new) is
    c.in_ok-write_rows.ensures.did in
    record {
      borrow = c.in_ok-write_rows.ensures.borrow ∙ kept.borrow;
      kept = Kept-more first now new kept.kept c.in_ok-write_rows.ensures.kept;
      did = rw more (Did-more so_far own first now new kept.did did);
      writes = omega (arith, c.in_ok-write_rows.ensures.writes, kept.writes, sum);
    }

pub returns-in_err-write_rows-clause-failed : goal.returns-in_err-write_rows-clause-failed
returns-in_err-write_rows-clause-failed g c =
    let first = g.D.Dram.view c.args.dram.now in
    let new = g.D.Dram.view c.write_rows.new.dram in
    let failed = c.in_err-write_rows.ensures.failed in
    let segments = c.div_ceil-bank-end.ensures
    ∙ ap (λ (w : ℕ). div_ceil (length c.args.values.now) (64 * w)) c.from-words.ensures in
    let numbers : List ℕ = padded_to (size_of c.args.g (length c.args.values.now)) c.args.values.now
    in
    let inside : c.loop-bank.bank < segments_of c.args.g (length c.args.values.now) =
    omega (arith, segments) in
    let all : FailedBelow (segments_of c.args.g (length c.args.values.now)) first new = record {
      rose = omega (arith, c.loop-bank.invariant.kept.faults, failed.rose);
      others = λ b l.
          let ne : b ≢ c.loop-bank.bank = λ e. absurd (omega arith) in
          failed.others b ne ∙ ap (λ (banks : Banks). banks b) c.loop-bank.invariant.did.banks
          ∙ after_first c.args.g c.args.base c.args.n numbers first.banks c.loop-bank.bank b
          (omega arith);
    } in
    on_err_always c.from_residual.result all

pub returns-in_err-write_rows-clause-stopped : goal.returns-in_err-write_rows-clause-stopped
unfolding write_events
returns-in_err-write_rows-clause-stopped g c =
    let first = g.D.Dram.view c.args.dram.now in
    let now = g.D.Dram.view c.loop-bank.dram in
    let new = g.D.Dram.view c.write_rows.new.dram in
    let segments = c.div_ceil-bank-end.ensures
    ∙ ap (λ (w : ℕ). div_ceil (length c.args.values.now) (64 * w)) c.from-words.ensures in
    let numbers : List ℕ = padded_to (size_of c.args.g (length c.args.values.now)) c.args.values.now
    in
    let inside : c.loop-bank.bank < segments_of c.args.g (length c.args.values.now) =
    omega (arith, segments) in
    let all : StoppedWithin 0 (flat_map (bank_events c.args.g c.args.base c.args.n numbers)
    (range_with_len 0 (segments_of c.args.g (length c.args.values.now)))) first.banks new.banks =
    stopped_turn (bank_events c.args.g c.args.base c.args.n numbers)
    (segments_of c.args.g (length c.args.values.now)) c.loop-bank.bank c.loop-bank.bank inside
    first.banks now.banks new.banks (next_in (λ k. Write c.loop-bank.bank (c.args.base + k)
    (row_bits c.args.g numbers c.loop-bank.bank k)) c.args.n c.loop-bank.bank
    c.in_err-write_rows.ensures.some refl) c.loop-bank.invariant.did.banks
    c.in_err-write_rows.ensures.failed.others in
    on_err_always c.from_residual.result all

pub returns-clause-did : goal.returns-clause-did
unfolding write_events
returns-clause-did g c =
    let first = g.D.Dram.view c.args.dram.now in
    let now = g.D.Dram.view c.loop-bank.dram in
    let numbers : List ℕ = padded_to (size_of c.args.g (length c.args.values.now)) c.args.values.now
    in
    let segments = c.div_ceil-bank-end.ensures
    ∙ ap (λ (w : ℕ). div_ceil (length c.args.values.now) (64 * w)) c.from-words.ensures in
    let last : c.loop-bank.bank ≡ segments_of c.args.g (length c.args.values.now) =
    omega (arith, segments) in
    subst (λ (k : ℕ). Did (flat_map (bank_events c.args.g c.args.base c.args.n numbers)
    (range_with_len 0 k)) first now) last c.loop-bank.invariant.did

pub returns-clause-numbers : goal.returns-clause-numbers
returns-clause-numbers g c =
    let first = g.D.Dram.view c.args.dram.now in
    let words = words_some c.args.g.words c.args.g.banks (length c.args.values.now) c.requires.some
    c.requires.fits in
    let fit = segments_fit c.args.g (length c.args.values.now) c.args.g.banks (omega arith)
    c.requires.fits in
    let did = returns-clause-did g c in
    ap (λ (b : Banks). numbers_in c.args.g b c.args.base c.args.n (length c.args.values.now))
    did.banks
    ∙ numbers_hold c.args.g c.args.base c.args.n c.args.values.now first.banks words
    c.requires.small (λ bank l. g.met.D.Dram.width c.args.dram.now c.requires.begun bank
    (omega (arith, ap (λ (x : Geometry). x.banks) c.requires.geometry, fit))
    ∙ ap (λ (x : Geometry). 64 * x.words) c.requires.geometry)
