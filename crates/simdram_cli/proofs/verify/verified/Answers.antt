use Rattle.simdram_cli.proofs.Common.{map, operations, text_op}
use Rattle.simdram_cli.proofs.verify.verified.Goals as goal

pub verify_all-requires : goal.verify_all-requires
verify_all-requires c = record {
  widths = c.requires.widths;
  legal = c.in-Ok.ensures.program;
  implements = (map text_op (operations c.args.ops.now), c.in-Ok.ensures.implements);
}

pub returns : goal.returns
returns c =
    let ops = operations c.args.ops.now in
    record {
      findings = c.in_ok-found.found.items;
      are = c.in_ok-found.ensures (map text_op ops) c.in-Ok.ensures.implements;
      text_is = rw c.as_slice.ensures.value at c.in_ok-text.ensures;
      status_is = rw c.as_slice-2.ensures.value at c.status.ensures;
    }
