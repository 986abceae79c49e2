use Rattle.object_alloc.proofs.Common.{◌<◌, arith, sym, inl, inr, cases_lt}
use Rattle.object_alloc.specs.Free.{meets, end_of}
use Rattle.object_alloc.specs.Listed.{objects_of}
use Rattle.object_alloc.proofs.Bases.{free_is, free_is_none, blocked_is, clear_is, base_taken}
use Rattle.object_alloc.proofs.Bases.{base_clear, end_within, meets_is}
use Rattle.object_alloc.proofs.table.least_base.Goals as goal

pub returns-then-k-limit : goal.returns-then-k-limit
returns-then-k-limit c = sym (free_is_none c.args.limit (objects_of c.args.pairs.now) c.args.k 0
    (omega arith) (λ d h. absurd (omega arith)))

pub loop-end-smaller : goal.loop-end-smaller
loop-end-smaller c =
    let found = blocked_is (meets c.loop-end.base c.args.k) (objects_of c.args.pairs.now) _
    c.in-Some.ensures in
    let past : c.loop-end.base < end_of found.0 =
    meets_is c.loop-end.base c.args.k found.0 found.2 in
    let last = end_within c.args.limit c.args.pairs.now found.0 found.1 c.requires.objects in
    omega (arith, found.3, past, last)

pub loop-end-preserved : goal.loop-end-preserved
loop-end-preserved c =
    let found = blocked_is (meets c.loop-end.base c.args.k) (objects_of c.args.pairs.now) _
    c.in-Some.ensures in
    let last = end_within c.args.limit c.args.pairs.now found.0 found.1 c.requires.objects in
    record {
      within = omega (arith, found.3, last);
      below = λ d h. elim (cases_lt d c.loop-end.base) [
        | inl lt ↦ c.loop-end.invariant.below d lt
        | inr ge ↦ base_taken c.args.limit (objects_of c.args.pairs.now) c.args.k c.loop-end.base d
            found.0 found.1 found.2 ge (omega (arith, found.3))
      ];
    }

pub returns-then-base-k : goal.returns-then-base-k
returns-then-base-k c =
    let clear = clear_is (meets c.loop-end.base c.args.k) (objects_of c.args.pairs.now)
    c.blocker.result c.blocker.ensures c.in_default.not-Some in
    sym (free_is c.args.limit (objects_of c.args.pairs.now) c.args.k c.loop-end.base
    c.if-base-k.true (base_clear _ _ _ _ c.if-base-k.true clear) c.loop-end.invariant.below)

pub returns-else-base-k : goal.returns-else-base-k
returns-else-base-k c =
    sym (free_is_none c.args.limit (objects_of c.args.pairs.now) c.args.k c.loop-end.base
    (omega arith) c.loop-end.invariant.below)
