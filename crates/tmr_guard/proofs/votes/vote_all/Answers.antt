use Rattle.tmr_guard.proofs.Common.{◌+◌, ◌*◌, ◌<◌, arith, refl, sym, ap, subst, ◌∙◌, length, take}
use Rattle.tmr_guard.proofs.Common.{Named, vote_count, vote_events, Did, Kept-more, on_err}
use Rattle.object_alloc.specs.Spelling.{IsObject}
use Rattle.dram_model.proofs.EventLaws.{Did-none, Kept-same}
use Rattle.tmr_guard.proofs.Rounds.{next_triple, next_count, widths, got, below_rows, object_at}
use Rattle.tmr_guard.proofs.Rounds.{all_taken}
use Rattle.tmr_guard.proofs.Stops.{triple_stopped}
use Rattle.tmr_guard.proofs.votes.vote_all.Goals as goal

pub loop-k-init : goal.loop-k-init
loop-k-init g c = record {
  borrow = refl;
  kept = Kept-same _;
  counted = refl;
  few = omega arith;
  aap = omega arith;
  did = Did-none _;
}

pub loop-k-preserved : goal.loop-k-preserved
loop-k-preserved g c =
    let table = c.args.table.now.pairs in
    let k = c.loop-k.k in
    let l : 3 * k + 2 < length table = omega (
      arith,
      c.loop-k-test.true,
      c.len-k-end.ensures.value,
    ) in
    let x = c.at.result in
    let p = got table (3 * k) x x c.at.ensures in
    let q = got table (3 * k + 1) c.at-in-loop-k.result x c.at-in-loop-k.ensures in
    let r = got table (3 * k + 2) c.at-in-loop-k-2.result x c.at-in-loop-k-2.ensures in
    let first = g.D.Dram.view c.args.dram.now in
    let now = g.D.Dram.view c.loop-k.dram in
    let new = g.D.Dram.view c.vote_triple.new.dram in
    record {
      borrow = c.in_ok-aap.ensures.borrow ∙ c.loop-k.invariant.borrow;
      kept = Kept-more first now new c.loop-k.invariant.kept c.in_ok-aap.ensures.kept;
      counted = ap (λ n. n + c.in_ok-aap.field-0) c.loop-k.invariant.counted
          ∙ ap (λ n. vote_count c.args.g (take (3 * k) table) + n) c.in_ok-aap.ensures.count
          ∙ sym (next_count c.args.g table k x x l p);
      few = omega (arith, c.loop-k.invariant.few, c.in_ok-aap.ensures.few);
      aap = omega (arith, c.loop-k.invariant.aap, c.in_ok-aap.ensures.aap);
      did = next_triple c.args.g table k x c.at-in-loop-k.result c.at-in-loop-k-2.result x _ _ _ l
          p q r c.loop-k.invariant.did c.in_ok-aap.ensures.did;
    }

pub vote_triple-requires-clause-object : goal.vote_triple-requires-clause-object
vote_triple-requires-clause-object g c =
    object_at (λ (p : Named). IsObject c.args.g p.1) c.args.table.now.pairs (3 * c.loop-k.k)
    c.at.result c.requires.objects c.at.ensures
    (omega (arith, c.loop-k-test.true, c.len-k-end.ensures.value))

pub vote_triple-requires-clause-x : goal.vote_triple-requires-clause-x
vote_triple-requires-clause-x g c = below_rows c.args.g.rows c.args.table.now.pairs
    (3 * c.loop-k.k) c.at.result c.requires.listed.within c.at.ensures
    (omega (arith, c.loop-k-test.true, c.len-k-end.ensures.value))

pub vote_triple-requires-clause-y : goal.vote_triple-requires-clause-y
vote_triple-requires-clause-y g c =
    let table = c.args.table.now.pairs in
    let k = c.loop-k.k in
    let x = c.at.result in
    let l : 3 * k + 2 < length table = omega (
      arith,
      c.loop-k-test.true,
      c.len-k-end.ensures.value,
    ) in
    let p = got table (3 * k) x x c.at.ensures in
    let q = got table (3 * k + 1) c.at-in-loop-k.result x c.at-in-loop-k.ensures in
    let r = got table (3 * k + 2) c.at-in-loop-k-2.result x c.at-in-loop-k-2.ensures in
    let w = widths table k x c.at-in-loop-k.result c.at-in-loop-k-2.result x c.requires.triples l
    p q r in
    let end = below_rows c.args.g.rows table (3 * k + 1) c.at-in-loop-k.result
    c.requires.listed.within c.at-in-loop-k.ensures (omega arith) in
    omega (arith, w.0, end)

pub vote_triple-requires-clause-z : goal.vote_triple-requires-clause-z
vote_triple-requires-clause-z g c =
    let table = c.args.table.now.pairs in
    let k = c.loop-k.k in
    let x = c.at.result in
    let l : 3 * k + 2 < length table = omega (
      arith,
      c.loop-k-test.true,
      c.len-k-end.ensures.value,
    ) in
    let p = got table (3 * k) x x c.at.ensures in
    let q = got table (3 * k + 1) c.at-in-loop-k.result x c.at-in-loop-k.ensures in
    let r = got table (3 * k + 2) c.at-in-loop-k-2.result x c.at-in-loop-k-2.ensures in
    let w = widths table k x c.at-in-loop-k.result c.at-in-loop-k-2.result x c.requires.triples l
    p q r in
    let end = below_rows c.args.g.rows table (3 * k + 2) c.at-in-loop-k-2.result
    c.requires.listed.within c.at-in-loop-k-2.ensures (omega arith) in
    omega (arith, w.1, end)

pub vote_triple-requires-clause-room : goal.vote_triple-requires-clause-room
vote_triple-requires-clause-room g c = omega (
  arith,
  c.loop-k.invariant.aap,
  c.requires.room,
  c.loop-k-test.true,
  c.len-k-end.type_inv,
)

pub overflow_add-aap : goal.overflow_add-aap
overflow_add-aap g c = omega (
  arith,
  c.loop-k.invariant.few,
  c.in_ok-aap.ensures.few,
  c.loop-k-test.true,
  c.len-k-end.type_inv,
)

pub returns-clause-count : goal.returns-clause-count
returns-clause-count g c = c.loop-k.invariant.counted
    ∙ ap (vote_count c.args.g) (all_taken c.args.table.now.pairs c.loop-k.k c.len-k-end.result
    c.requires.triples c.len-k-end.ensures.value c.loop-k-test.false)

pub returns-clause-did : goal.returns-clause-did
returns-clause-did g c =
    let V = g.D.Dram.view in
    subst (λ t. Did (vote_events c.args.g t) (V c.args.dram.now) (V c.loop-k.dram))
    (all_taken c.args.table.now.pairs c.loop-k.k c.len-k-end.result c.requires.triples
    c.len-k-end.ensures.value c.loop-k-test.false) c.loop-k.invariant.did

pub returns-in_err-aap-clause-stopped : goal.returns-in_err-aap-clause-stopped
returns-in_err-aap-clause-stopped g c =
    let V = g.D.Dram.view in
    let table = c.args.table.now.pairs in
    let k = c.loop-k.k in
    let x = c.at.result in
    let p = got table (3 * k) x x c.at.ensures in
    let q = got table (3 * k + 1) c.at-in-loop-k.result x c.at-in-loop-k.ensures in
    let r = got table (3 * k + 2) c.at-in-loop-k-2.result x c.at-in-loop-k-2.ensures in
    on_err c.from_residual.result (triple_stopped c.args.g table k c.len-k-end.result x
    c.at-in-loop-k.result c.at-in-loop-k-2.result x (V c.args.dram.now) (V c.loop-k.dram)
    (V c.vote_triple.new.dram) c.requires.triples c.len-k-end.ensures.value
    c.loop-k-test.true p q r c.loop-k.invariant.did c.loop-k.invariant.kept
    c.in_err-aap.ensures.stopped)
