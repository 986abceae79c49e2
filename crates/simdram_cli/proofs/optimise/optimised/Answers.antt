use Rattle.simdram_cli.proofs.Common.{map, ◌∙◌, operations, microprograms_of, text_op}
use Rattle.optimise_job.specs.Outcomes.{lines_of}
use Rattle.simdram_cli.proofs.optimise.optimised.Goals as goal

pub searched_lines-requires : goal.searched_lines-requires
searched_lines-requires c = record {
  some = c.requires.some;
  narrow = c.requires.narrow;
  made_legal = c.in-Ok.ensures.program;
  implements = (map text_op (operations c.args.ops.now), c.in-Ok.ensures.implements);
}

pub with_lines-requires : goal.with_lines-requires
with_lines-requires c = record {
  program = c.requires.program;
  lines = rw c.as_slice.ensures.value c.in_ok-lines.ensures;
  some = c.requires.some;
  narrow = c.requires.narrow;
  made_legal = c.in-Ok.ensures.program;
  implements = (map text_op (operations c.args.ops.now), c.in-Ok.ensures.implements);
}

pub returns : goal.returns
returns c =
    let ops = operations c.args.ops.now in
    let new = c.in_ok-new.new in
    record {
      lines = lines_of c.in_ok-lines.lines.items;
      made = microprograms_of new.program;
      outcomes = new.outcomes.items;
      legal = c.in_ok-new.ensures.program;
      are = rw c.as_slice.ensures.value at
          (c.in_ok-new.ensures.outcomes (map text_op ops) c.in-Ok.ensures.implements);
      file_is = c.in_ok-file.ensures;
      text_is = rw c.as_slice-2.ensures.value at c.in_ok-text.ensures;
    }
