use Rattle.simdram_cli.proofs.Common.{rules, ◌≡◌, ◌∷◌, [], List, ℕ, ◌∙◌, ap, arith}
use Rattle.simdram_cli.specs.Widths.{parts_of, widths_in}
use Rattle.simdram_cli.proofs.WidthLists.{listed, listed_all, listed_more, listed_not, no_comma}
use Rattle.simdram_cli.proofs.WidthLists.{none_made, parts_cut, some_made}
use Rattle.simdram_cli.proofs.widths.widths_of.Goals as goal

pub returns-in_default-push_span : goal.returns-in_default-push_span
returns-in_default-push_span c =
    let cut = c.in-Some.ensures.byte (omega arith) (λ w o h. h) in
    let parts = parts_cut c.loop-part.rest.now c.in-Some.part.now c.in-Some.more.now cut.2 cut.0
    cut.1 in
    none_made _ (widths_in c.args.word.now)
    (c.loop-part.invariant.2 ∙ ap (listed c.loop-part.low c.loop-part.widths.items) parts
    ∙ listed_not c.loop-part.low c.loop-part.widths.items c.in-Some.part.now
    (parts_of c.in-Some.more.now) c.in_default-push_span.ensures.none)

pub loop-part-preserved : goal.loop-part-preserved
loop-part-preserved c =
    let cut = c.in-Some.ensures.byte (omega arith) (λ w o h. h) in
    let parts = parts_cut c.loop-part.rest.now c.in-Some.part.now c.in-Some.more.now cut.2 cut.0
    cut.1 in
    let some = c.in-Some-push_span.ensures.some in (
      search rules,
      some.4,
      c.loop-part.invariant.2 ∙ ap (listed c.loop-part.low c.loop-part.widths.items) parts
          ∙ listed_more c.loop-part.low c.in-Some-push_span.last c.loop-part.widths.items
          c.push_span.new.widths.items c.in-Some.part.now (parts_of c.in-Some.more.now) some.0 some.1
          some.2 some.3,
    )

pub returns-in-Some-push_span-2 : goal.returns-in-Some-push_span-2
returns-in-Some-push_span-2 c =
    let none = no_comma c.loop-part.rest.now (c.in_default.ensures.byte (omega arith) (λ w o h. h))
    in
    let some = c.in-Some-push_span-2.ensures.some in
    let last = c.in-Some-push_span-2.field-0 in
    let new = c.push_span-2.new.widths.items in
    some_made _ (widths_in c.args.word.now) new
    (c.loop-part.invariant.2 ∙ ap (listed c.loop-part.low c.loop-part.widths.items) none
    ∙ listed_more c.loop-part.low last c.loop-part.widths.items new c.loop-part.rest.now [] some.0
    some.1 some.2 some.3 ∙ listed_all last new)

pub returns-in-None : goal.returns-in-None
returns-in-None c =
    let none = no_comma c.loop-part.rest.now (c.in_default.ensures.byte (omega arith) (λ w o h. h))
    in
    none_made _ (widths_in c.args.word.now)
    (c.loop-part.invariant.2 ∙ ap (listed c.loop-part.low c.loop-part.widths.items) none
    ∙ listed_not c.loop-part.low c.loop-part.widths.items c.loop-part.rest.now []
    c.in-None.ensures.none)
