use Rattle.sim_machine.proofs.Common.{[], ◌+◌, ◌*◌, arith, vec_len, ap, ◌∙◌, subst, Rose, Banks}
use Rattle.sim_machine.proofs.Common.{StoppedWithin, DidRead, Grew-more, Kept-more, DidRead-more}
use Rattle.sim_machine.proofs.Common.{on_err, ◌<◌}
use Rattle.transpose_unit.proofs.Stopping.{stopped_first}
use Rattle.sim_machine.specs.Image.{bank_bytes}
use Rattle.sim_machine.proofs.Rows.{next_bytes, more_reads, one_times_more}
use Rattle.sim_machine.proofs.image.read_rows.Goals as goal

pub read_bank-requires-clause-begun : goal.read_bank-requires-clause-begun
read_bank-requires-clause-begun g c = c.loop-bank.invariant.kept.begun ∙ c.requires.begun

pub read_bank-requires-clause-geometry : goal.read_bank-requires-clause-geometry
read_bank-requires-clause-geometry g c = c.loop-bank.invariant.kept.geometry ∙ c.requires.geometry

pub read_bank-requires-clause-words : goal.read_bank-requires-clause-words
read_bank-requires-clause-words g c = c.loop-bank.invariant.stage ∙ c.requires.words

pub read_bank-requires-clause-small : goal.read_bank-requires-clause-small
read_bank-requires-clause-small g c = c.requires.small

pub returns-in_err-read_bank-clause-borrow : goal.returns-in_err-read_bank-clause-borrow
returns-in_err-read_bank-clause-borrow g c = c.in_err-read_bank.ensures.borrow ∙ c.loop-bank.invariant.borrow

pub returns-in_err-read_bank-clause-kept : goal.returns-in_err-read_bank-clause-kept
returns-in_err-read_bank-clause-kept g c =
    Kept-more _ _ _ c.loop-bank.invariant.kept c.in_err-read_bank.ensures.kept

pub returns-in_err-read_bank-clause-stage : goal.returns-in_err-read_bank-clause-stage
returns-in_err-read_bank-clause-stage g c = c.in_err-read_bank.ensures.stage ∙ c.loop-bank.invariant.stage

pub returns-in_err-read_bank-clause-no_event : goal.returns-in_err-read_bank-clause-no_event
returns-in_err-read_bank-clause-no_event g c =
    Grew-more _ _ _ [] [] c.loop-bank.invariant.did.log c.in_err-read_bank.ensures.no_event

pub returns-in_err-read_bank-clause-capacity : goal.returns-in_err-read_bank-clause-capacity
returns-in_err-read_bank-clause-capacity g c =
    omega (arith, c.loop-bank.invariant.capacity, c.in_err-read_bank.ensures.capacity)

pub returns-in_err-read_bank-clause-rose : goal.returns-in_err-read_bank-clause-rose
returns-in_err-read_bank-clause-rose g c =
    let first = g.D.Dram.view c.args.dram.now in
    let new = g.D.Dram.view c.read_bank.new.dram in
    let failed = c.in_err-read_bank.ensures.failed in
    let all : Rose first.faults new.faults =
    omega (arith, c.loop-bank.invariant.kept.faults, failed.rose) in
    on_err c.from_residual.result all

pub returns-in_err-read_bank-clause-stopped : goal.returns-in_err-read_bank-clause-stopped
returns-in_err-read_bank-clause-stopped g c =
    let first = g.D.Dram.view c.args.dram.now in
    let new = g.D.Dram.view c.read_bank.new.dram in
    let inside : c.loop-bank.bank < c.args.g.banks = omega arith in
    let all : StoppedWithin c.args.g.banks [] first.banks new.banks =
    stopped_first c.args.g.banks [] c.loop-bank.bank first.banks new.banks inside (λ b ne.
    c.in_err-read_bank.ensures.failed.others b ne
    ∙ ap (λ (banks : Banks). banks b) c.loop-bank.invariant.did.banks) in
    on_err c.from_residual.result all

pub returns-clause-borrow : goal.returns-clause-borrow
returns-clause-borrow g c = c.loop-bank.invariant.borrow

pub returns-clause-kept : goal.returns-clause-kept
returns-clause-kept g c = c.loop-bank.invariant.kept

pub returns-clause-stage : goal.returns-clause-stage
returns-clause-stage g c = c.loop-bank.invariant.stage

pub returns-clause-capacity : goal.returns-clause-capacity
returns-clause-capacity g c = c.loop-bank.invariant.capacity

pub returns-clause-no_event : goal.returns-clause-no_event
returns-clause-no_event g c = c.loop-bank.invariant.did.log

pub loop-bank-preserved : goal.loop-bank-preserved
loop-bank-preserved g c =
    let first = g.D.Dram.view c.args.dram.now in
    let now = g.D.Dram.view c.loop-bank.dram in
    let new = g.D.Dram.view c.read_bank.new.dram in
    let kept = c.loop-bank.invariant in
    let here = rw kept.did.banks at c.in_ok-read_bank.ensures.file in
    record {
      borrow = c.in_ok-read_bank.ensures.borrow ∙ kept.borrow;
      kept = Kept-more first now new kept.kept c.in_ok-read_bank.ensures.kept;
      stage = c.in_ok-read_bank.ensures.stage ∙ kept.stage;
      did = subst (λ n. DidRead n first new)
          (one_times_more c.loop-bank.bank c.args.g.rows)
          (DidRead-more (c.loop-bank.bank * c.args.g.rows) c.args.g.rows first now new kept.did
          c.in_ok-read_bank.ensures.did);
      file = next_bytes (λ bank. bank_bytes c.args.g first.banks bank c.args.g.rows)
          c.loop-bank.bank _ _ _ kept.file here;
      len = c.in_ok-read_bank.ensures.len ∙ ap (λ x. x + c.args.g.rows * (8 * c.args.g.words))
          kept.len ∙ more_reads c.loop-bank.bank (c.args.g.rows * (8 * c.args.g.words))
          (vec_len c.args.file.now);
      capacity = omega (arith, kept.capacity, c.in_ok-read_bank.ensures.capacity);
    }
