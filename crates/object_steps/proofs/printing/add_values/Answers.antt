use Rattle.object_steps.proofs.Common.{◌≡◌, ℕ, ◌+◌, ◌*◌, ◌/◌, ◌<◌, ◌≤◌, ◌++◌, ◌∙◌, List, length}
use Rattle.object_steps.proofs.Common.{map, [], ap, arith, subst, range_with_len, nat_tests, Known}
use Rattle.object_steps.proofs.Common.{AppendsPart, AppendsUpTo, Geometry, Banks, DidRead}
use Rattle.object_steps.proofs.Common.{Kept-more, stage_number, stage_rows, segments}
use Rattle.dram_model.proofs.EventLaws.{DidRead-more, Grew-more}
use Rattle.transpose_unit.proofs.Stopping.{stopped_first}
use Rattle.object_steps.specs.Lines.{values_text}
use Rattle.object_steps.proofs.Filled.{one_times_more}
use Rattle.object_steps.proofs.Held.{part_of_more, put_is_part, then_cut, then_more}
use Rattle.object_steps.proofs.Valued.{bank_text, few_read, first_values, front_text}
use Rattle.object_steps.proofs.printing.add_values.Goals as goal

pub read_segment-requires-clause-begun : goal.read_segment-requires-clause-begun
read_segment-requires-clause-begun g c = c.loop-bank.invariant.kept.begun ∙ c.requires.begun

pub read_segment-requires-clause-geometry : goal.read_segment-requires-clause-geometry
read_segment-requires-clause-geometry g c =
    c.loop-bank.invariant.kept.geometry ∙ c.requires.geometry

pub returns-in-Err-clause-borrow : goal.returns-in-Err-clause-borrow
returns-in-Err-clause-borrow g c = c.read_segment.ensures.borrow ∙ c.loop-bank.invariant.borrow

pub returns-in-Err-clause-kept : goal.returns-in-Err-clause-kept
returns-in-Err-clause-kept g c =
    Kept-more _ _ _ c.loop-bank.invariant.kept c.read_segment.ensures.kept

pub returns-in-Err-clause-sink_faults : goal.returns-in-Err-clause-sink_faults
returns-in-Err-clause-sink_faults g c = omega (arith, c.loop-bank.invariant.unfailed)

pub returns-in-Err-clause-no_event : goal.returns-in-Err-clause-no_event
returns-in-Err-clause-no_event g c =
    Grew-more _ _ _ [] [] c.loop-bank.invariant.did.log c.in-Err.ensures.no_event

pub returns-in-Err-add_columns-clause-borrow : goal.returns-in-Err-add_columns-clause-borrow
returns-in-Err-add_columns-clause-borrow g c =
    c.read_segment.ensures.borrow ∙ c.loop-bank.invariant.borrow

pub returns-in-Err-add_columns-clause-kept : goal.returns-in-Err-add_columns-clause-kept
returns-in-Err-add_columns-clause-kept g c =
    Kept-more _ _ _ c.loop-bank.invariant.kept c.read_segment.ensures.kept

pub returns-in-Err-add_columns-clause-sink_faults : goal.returns-in-Err-add_columns-clause-sink_faults
returns-in-Err-add_columns-clause-sink_faults g c =
    omega (arith, c.loop-bank.invariant.unfailed, c.add_columns.ensures.counts)

pub returns-in-Err-add_columns-clause-no_event : goal.returns-in-Err-add_columns-clause-no_event
returns-in-Err-add_columns-clause-no_event g c =
    Grew-more _ _ _ [] [] c.loop-bank.invariant.did.log c.in-Ok.ensures.did.log

pub returns-clause-borrow : goal.returns-clause-borrow
returns-clause-borrow g c = c.loop-bank.invariant.borrow

pub returns-clause-kept : goal.returns-clause-kept
returns-clause-kept g c = c.loop-bank.invariant.kept

pub returns-clause-sink_faults : goal.returns-clause-sink_faults
returns-clause-sink_faults g c = omega (arith, c.loop-bank.invariant.unfailed)

pub returns-clause-unfailed : goal.returns-clause-unfailed
returns-clause-unfailed g c = c.loop-bank.invariant.unfailed

pub returns-clause-room : goal.returns-clause-room
returns-clause-room g c = c.loop-bank.invariant.room

pub returns-clause-no_event : goal.returns-clause-no_event
returns-clause-no_event g c = c.loop-bank.invariant.did.log

pub loop-bank-preserved : goal.loop-bank-preserved
loop-bank-preserved g c =
    let first = g.D.Dram.view c.args.dram.now in
    let now = g.D.Dram.view c.loop-bank.dram in
    let new = g.D.Dram.view c.read_segment.new.dram in
    let began = g.S.Sink.view c.args.out.now in
    let before = g.S.Sink.view c.loop-bank.out in
    let after = g.S.Sink.view c.add_columns.new.out in
    let kept = c.loop-bank.invariant in
    let o = c.args.o in
    let bank : ℕ = c.loop-bank.bank in
    let stage = c.read_segment.new.stage in
    let start : List ℕ = c.args.text.now.items in
    let so_far : List ℕ =
    start ++ values_text (first_values o.base o.width o.count bank first.banks) in
    let own : List ℕ = values_text (map (stage_number (length stage / stage_rows o.width) o.width
    stage) (range_with_len 0 c.elements_in.result)) in
    let words : 0 < c.args.g.words = grind (arith, nat_tests, c.requires.passes) in
    let inside : c.loop-bank.bank < segments c.args.g c.args.o =
    omega (arith, c.segments-bank-end.ensures.value) in
    let all : so_far ++ own
    ≡ start ++ values_text (first_values o.base o.width o.count (bank + 1) first.banks) =
    bank_text c.args.g o bank c.elements_in.result start stage first.banks now.banks words inside
    (λ b l. g.met.D.Dram.width c.args.dram.now c.requires.begun b
    (omega (
      arith,
      l,
      c.segments-bank-end.ensures.fits,
      ap (λ (x : Geometry). x.banks) c.requires.geometry,
    ))
    ∙ ap (λ (x : Geometry). 64 * x.words) c.requires.geometry) c.elements_in.ensures
    (omega (arith, kept.stage, c.requires.stage)) kept.did.banks c.in-Ok.ensures.numbers in
    record {
      borrow = c.in-Ok.ensures.borrow ∙ kept.borrow;
      kept = Kept-more first now new kept.kept c.in-Ok.ensures.kept;
      did = subst (λ (n : ℕ). DidRead n first new) (one_times_more bank o.width)
          (DidRead-more (bank * o.width) o.width first now new kept.did c.in-Ok.ensures.did);
      stage = omega (arith, kept.stage);
      unfailed = c.in-Ok-add_columns.ensures.unfailed ∙ kept.unfailed;
      room = c.in-Ok-add_columns.ensures.room;
      held = subst (λ (xs : List ℕ). Known (AppendsUpTo c.add_columns.new.text.items xs) began.sent
          after.sent) all (then_more so_far c.loop-bank.text.items own
          c.add_columns.new.text.items began.sent before.sent after.sent kept.held
          c.in-Ok-add_columns.ensures.held);
    }

pub returns-in-Err-clause-part : goal.returns-in-Err-clause-part
returns-in-Err-clause-part g c =
    let first = g.D.Dram.view c.args.dram.now in
    let began = g.S.Sink.view c.args.out.now in
    let before = g.S.Sink.view c.loop-bank.out in
    let o = c.args.o in
    let start : List ℕ = c.args.text.now.items in
    let so_far : List ℕ =
    start ++ values_text (first_values o.base o.width o.count c.loop-bank.bank first.banks) in
    let inside : c.loop-bank.bank ≤ segments c.args.g c.args.o =
    omega (arith, c.segments-bank-end.ensures.value) in
    let front = front_text c.args.g o c.loop-bank.bank start first.banks inside in
    subst (λ (xs : List ℕ). Known (AppendsPart xs) began.sent before.sent) front.1
    (part_of_more so_far front.0 began.sent before.sent (put_is_part so_far c.loop-bank.text.items
    began.sent before.sent c.loop-bank.invariant.held))

pub returns-in-Err-clause-stopped : goal.returns-in-Err-clause-stopped
returns-in-Err-clause-stopped g c = λ _.
    let first = g.D.Dram.view c.args.dram.now in
    let new = g.D.Dram.view c.read_segment.new.dram in
    let inside : c.loop-bank.bank < segments c.args.g c.args.o =
    omega (arith, c.segments-bank-end.ensures.value) in
    stopped_first (segments c.args.g c.args.o) [] c.loop-bank.bank first.banks new.banks inside
    (λ b ne.
    c.in-Err.ensures.failed.others b ne
    ∙ ap (λ (banks : Banks). banks b) c.loop-bank.invariant.did.banks)

pub returns-in-Err-add_columns-clause-part : goal.returns-in-Err-add_columns-clause-part
returns-in-Err-add_columns-clause-part g c =
    let first = g.D.Dram.view c.args.dram.now in
    let now = g.D.Dram.view c.loop-bank.dram in
    let began = g.S.Sink.view c.args.out.now in
    let before = g.S.Sink.view c.loop-bank.out in
    let after = g.S.Sink.view c.add_columns.new.out in
    let kept = c.loop-bank.invariant in
    let o = c.args.o in
    let bank : ℕ = c.loop-bank.bank in
    let stage = c.read_segment.new.stage in
    let start : List ℕ = c.args.text.now.items in
    let so_far : List ℕ =
    start ++ values_text (first_values o.base o.width o.count bank first.banks) in
    let next : List ℕ =
    start ++ values_text (first_values o.base o.width o.count (bank + 1) first.banks) in
    let own : List ℕ = values_text (map (stage_number (length stage / stage_rows o.width) o.width
    stage) (range_with_len 0 c.elements_in.result)) in
    let words : 0 < c.args.g.words = grind (arith, nat_tests, c.requires.passes) in
    let inside : c.loop-bank.bank < segments c.args.g c.args.o =
    omega (arith, c.segments-bank-end.ensures.value) in
    let within : c.loop-bank.bank + 1 ≤ segments c.args.g c.args.o = omega arith in
    let all : so_far ++ own ≡ next =
    bank_text c.args.g o bank c.elements_in.result start stage first.banks now.banks words inside
    (λ b l. g.met.D.Dram.width c.args.dram.now c.requires.begun b
    (omega (
      arith,
      l,
      c.segments-bank-end.ensures.fits,
      ap (λ (x : Geometry). x.banks) c.requires.geometry,
    ))
    ∙ ap (λ (x : Geometry). 64 * x.words) c.requires.geometry) c.elements_in.ensures
    (omega (arith, kept.stage, c.requires.stage)) kept.did.banks c.in-Ok.ensures.numbers in
    let front = front_text c.args.g o (bank + 1) start first.banks within in
    subst (λ (xs : List ℕ). Known (AppendsPart xs) began.sent after.sent) front.1
    (part_of_more next front.0 began.sent after.sent (subst (λ (xs : List ℕ). Known (AppendsPart xs)
    began.sent after.sent) all (then_cut so_far c.loop-bank.text.items own began.sent before.sent
    after.sent kept.held c.in-Err-add_columns.ensures.part)))

pub returns-in-Err-add_columns-clause-read : goal.returns-in-Err-add_columns-clause-read
returns-in-Err-add_columns-clause-read g c = λ _.
    let first = g.D.Dram.view c.args.dram.now in
    let now = g.D.Dram.view c.loop-bank.dram in
    let new = g.D.Dram.view c.read_segment.new.dram in
    let bank : ℕ = c.loop-bank.bank in
    let width : ℕ = c.args.o.width in
    let inside : c.loop-bank.bank < segments c.args.g c.args.o =
    omega (arith, c.segments-bank-end.ensures.value) in
    record {
      rows = (c.loop-bank.bank + 1) * c.args.o.width;
      few = few_read bank width (segments c.args.g c.args.o) inside;
      did = subst (λ (n : ℕ). DidRead n first new) (one_times_more bank width)
          (DidRead-more (bank * width) width first now new c.loop-bank.invariant.did
          c.in-Ok.ensures.did);
    }
