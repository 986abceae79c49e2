use Rattle.row_alloc.proofs.Sequence.{does-direct}
use Rattle.row_alloc.proofs.plain.direct.Goals as goal

pub returns-clause-does : goal.returns-clause-does
returns-clause-does c = rw (
  c.in_ok-keep.ensures,
  c.new-cmds.ensures.items,
  c.source-from.ensures,
  c.inputs.ensures.inputs,
) (does-direct c.args.m.now c.args.outs.now c.requires.fit
    c.requires.nodes c.requires.one c.requires.lit)
