use Rattle.sim_machine.proofs.Common.{[], ◌+◌, ◌*◌, arith, vec_len, ap, ◌∙◌, Banks, FailedIn}
use Rattle.sim_machine.proofs.Common.{Grew-more, Kept-more, DidRead-more, on_err}
use Rattle.dram_model.specs.Chip.{row_in}
use Rattle.object_alloc.specs.Bytes.{bytes_of_bits}
use Rattle.sim_machine.proofs.Rows.{next_bytes, more_reads}
use Rattle.sim_machine.proofs.image.read_bank.Goals as goal

pub read_row-requires-clause-begun : goal.read_row-requires-clause-begun
read_row-requires-clause-begun g c = c.loop-row.invariant.kept.begun ∙ c.requires.begun

pub returns-in_err-read_row-clause-borrow : goal.returns-in_err-read_row-clause-borrow
returns-in_err-read_row-clause-borrow g c = c.in_err-read_row.ensures.borrow ∙ c.loop-row.invariant.borrow

pub returns-in_err-read_row-clause-kept : goal.returns-in_err-read_row-clause-kept
returns-in_err-read_row-clause-kept g c =
    Kept-more _ _ _ c.loop-row.invariant.kept c.in_err-read_row.ensures.kept

pub returns-in_err-read_row-clause-stage : goal.returns-in_err-read_row-clause-stage
returns-in_err-read_row-clause-stage g c = c.in_err-read_row.ensures.stage ∙ c.loop-row.invariant.stage

pub returns-in_err-read_row-clause-no_event : goal.returns-in_err-read_row-clause-no_event
returns-in_err-read_row-clause-no_event g c =
    Grew-more _ _ _ [] [] c.loop-row.invariant.did.log c.in_err-read_row.ensures.no_event

pub returns-in_err-read_row-clause-capacity : goal.returns-in_err-read_row-clause-capacity
returns-in_err-read_row-clause-capacity g c =
    omega (arith, c.loop-row.invariant.capacity, c.in_err-read_row.ensures.capacity)

pub returns-in_err-read_row-clause-failed : goal.returns-in_err-read_row-clause-failed
returns-in_err-read_row-clause-failed g c =
    let first = g.D.Dram.view c.args.dram.now in
    let new = g.D.Dram.view c.read_row.new.dram in
    let failed = c.in_err-read_row.ensures.failed in
    let all : FailedIn c.args.bank first new = record {
      rose = omega (arith, c.loop-row.invariant.kept.faults, failed.rose);
      others = λ b ne. failed.others b ne
          ∙ ap (λ (banks : Banks). banks b) c.loop-row.invariant.did.banks;
    } in
    on_err c.from_residual.result all

pub returns-clause-borrow : goal.returns-clause-borrow
returns-clause-borrow g c = c.loop-row.invariant.borrow

pub returns-clause-kept : goal.returns-clause-kept
returns-clause-kept g c = c.loop-row.invariant.kept

pub returns-clause-stage : goal.returns-clause-stage
returns-clause-stage g c = c.loop-row.invariant.stage

pub returns-clause-capacity : goal.returns-clause-capacity
returns-clause-capacity g c = c.loop-row.invariant.capacity

pub returns-clause-no_event : goal.returns-clause-no_event
returns-clause-no_event g c = c.loop-row.invariant.did.log

pub loop-row-preserved : goal.loop-row-preserved
loop-row-preserved g c =
    let first = g.D.Dram.view c.args.dram.now in
    let now = g.D.Dram.view c.loop-row.dram in
    let new = g.D.Dram.view c.read_row.new.dram in
    let kept = c.loop-row.invariant in
    let here = rw (kept.kept.geometry, c.requires.geometry, kept.did.banks)
    at c.in_ok-read_row.ensures.file in
    record {
      borrow = c.in_ok-read_row.ensures.borrow ∙ kept.borrow;
      kept = Kept-more first now new kept.kept c.in_ok-read_row.ensures.kept;
      stage = c.in_ok-read_row.ensures.stage ∙ kept.stage;
      did = DidRead-more c.loop-row.row 1 first now new kept.did c.in_ok-read_row.ensures.did;
      file = next_bytes (λ row. bytes_of_bits (8 * c.args.g.words)
          (row_in row (first.banks c.args.bank))) c.loop-row.row _ _ _ kept.file here;
      len = (rw (kept.kept.geometry, c.requires.geometry) at c.in_ok-read_row.ensures.len)
          ∙ ap (λ x. x + 8 * c.args.g.words) kept.len
          ∙ more_reads c.loop-row.row (8 * c.args.g.words) (vec_len c.args.file.now);
      capacity = omega (arith, kept.capacity, c.in_ok-read_row.ensures.capacity);
    }
