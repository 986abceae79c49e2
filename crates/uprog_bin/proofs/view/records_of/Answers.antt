use Rattle.uprog_bin.proofs.Common.{◌+◌, ◌*◌, leb, eqb, length, arith, eqb-true, rule_ok}
use Rattle.uprog_bin.specs.declared.fault.ProgKind.TheVariants as kinds
use Rattle.uprog_bin.proofs.Files.{opened_from}
use Rattle.uprog_bin.proofs.view.records_of.Goals as goal

pub returns-clause-ok : goal.returns-clause-ok
returns-clause-ok c =
    let bytes = c.args.bytes.now in
    let few = rule_ok (leb c.in_ok-count.count 32) 6 kinds.Directory c.in_ok-rule.field-0
    c.in_ok-rule.ensures in
    let long = eqb-true (length bytes) c.in_ok-end.end
    (rule_ok (eqb (length bytes) c.in_ok-end.end) c.in_ok-end.end kinds.Rest
    c.in_ok-rule-2.field-0 c.in_ok-rule-2.ensures) in
    let codes = c.in_ok-end.ensures.gives in
    opened_from c.in_ok-version.version bytes c.in_ok-count.count c.in_ok-listed.listed.items
    c.as_slice.result.now (8 + 27
    * c.len.result) c.in_ok-end.end codes.0 c.requires c.in_ok-version.ensures.gives
    c.in_ok-count.ensures.gives few c.in_ok-listed.ensures.gives c.as_slice.ensures.value
    (omega (arith, c.len.ensures.value)) codes.1 c.in_ok-end.ensures.end long
