use Rattle.simdram_cli.proofs.Common.{◌≡◌, ◌+◌, ◌-◌, ◌<◌, ◌≤◌, ◌∷◌, [], ◌++◌, suc, length, ap, sym}
use Rattle.simdram_cli.proofs.Common.{◌∙◌, arith, refl, range_with_len, length-range_with_len}
use Rattle.simdram_cli.proofs.Common.{WIDTH_MAX}
use Rattle.std.proofs.lemmas.List.{append_assoc}
use Rattle.std.proofs.Common.{length-append}
use Rattle.simdram_cli.specs.Numbers.{value_of}
use Rattle.simdram_cli.specs.Widths.{first_of, last_of}
use Rattle.simdram_cli.proofs.WidthLists.{range_more, span_listed, span_not}
use Rattle.simdram_cli.proofs.WidthLists.{span_ordered}
use Rattle.simdram_cli.proofs.widths.push_span.Goals as goal
use Rattle.simdram_cli.proofs.widths.push_span.Goals.{then-first-from-via-then-first-from, then-first-from-via-else-first-from+then-last-from}

pub returns-in_default-clause-none : goal.returns-in_default-clause-none
returns-in_default-clause-none c =
    span_not c.args.low c.args.part.now (λ span above within.
    let far = c.in_default.ensures.none span in
    let most : WIDTH_MAX ≡ 128 = refl in
    omega (arith, far, within, most))

pub returns-then-first-from-clause-none : goal.returns-then-first-from-clause-none
returns-then-first-from-clause-none c =
    span_not c.args.low c.args.part.now (λ span above within.
    let most : WIDTH_MAX ≡ 128 = refl in
    elim c.then-first-from.branch [
      | then-first-from-via-then-first-from w ↦ omega (
        arith,
        above,
        w.if-first-from.true,
        c.from.ensures,
        c.in-Some.ensures.some.1,
      )
      | then-first-from-via-else-first-from+then-last-from w ↦ omega (
        arith,
        within,
        most,
        w.if-last-from.true,
        w.from-else-first-from.ensures,
        c.in-Some.ensures.some.2,
      )
    ])

pub push-requires : goal.push-requires
push-requires c =
    let old = c.args.widths.now.items in
    let range = range_with_len c.in-Some.first (c.loop-n.n - c.in-Some.first) in
    let all = ap length c.loop-n.invariant in
    let more = length-append old range in
    let long = length-range_with_len c.in-Some.first (c.loop-n.n - c.in-Some.first) in
    let room : length c.loop-n.widths.items < 128 =
    omega (
      arith,
      all,
      more,
      long,
      c.requires.few,
      c.from.ensures,
      c.if-first-from.false,
      c.from-else-first-from.ensures,
      c.if-last-from.false,
      c.loop-n-test.true,
      c.loop-n.auto.n,
    ) in
    (omega arith, room)

pub loop-n-preserved : goal.loop-n-preserved
loop-n-preserved c =
    let old = c.args.widths.now.items in
    let first = c.in-Some.first in
    let n = c.loop-n.n in
    let k = n - first in
    let whole : n ≡ first + k = omega (arith, c.loop-n.auto.n) in
    let some : suc k ≡ n + 1 - first = omega (arith, c.loop-n.auto.n) in
    c.push.ensures.items ∙ ap (λ l. l ++ n ∷ []) c.loop-n.invariant
    ∙ append_assoc old (range_with_len first k) (n ∷ [])
    ∙ ap (λ l. old ++ l) (ap (λ x. range_with_len first k ++ x ∷ []) whole
    ∙ sym (range_more first k) ∙ ap (range_with_len first) some)

pub returns-clause-some : goal.returns-clause-some
returns-clause-some c =
    let old = c.args.widths.now.items in
    let part = c.args.part.now in
    let first = c.in-Some.first in
    let n = c.loop-n.n in
    let most : WIDTH_MAX ≡ 128 = refl in
    let ends = c.in-Some.ensures.some in
    let ordered = span_ordered part ends.0 in
    let above : c.args.low < value_of (first_of part) =
    omega (arith, c.from.ensures, c.if-first-from.false, ends.1) in
    let within : value_of (last_of part) ≤ WIDTH_MAX =
    omega (arith, most, c.from-else-first-from.ensures, c.if-last-from.false, ends.2) in
    let many : n - first ≡ value_of (last_of part) + 1 - value_of (first_of part) =
    omega (arith, ordered, ends.1, ends.2, c.loop-n-test.false, c.loop-n.auto.n, c.loop-n.auto.n-end) in
    let all = ap length c.loop-n.invariant in
    let more = length-append old (range_with_len first (n - first)) in
    let long = length-range_with_len first (n - first) in (
      ends.2,
      ends.0,
      span_listed c.args.low part ends.0 above within,
      c.loop-n.invariant ∙ ap (λ l. old ++ l) (ap (range_with_len first) many
          ∙ ap (λ a. range_with_len a (value_of (last_of part) + 1 - value_of (first_of part)))
          ends.1),
      omega (arith, all, more, long, many, ordered, c.requires.few, above, ends.1, ends.2),
    )
