use Rattle.uprog_gen.proofs.Common.{take, ap, arith, length, length-append, length-map, length-take}
use Rattle.uprog_gen.proofs.Common.{Uop, block_of, turn-most}
use Rattle.uprog_gen.specs.Code.{code_uop}
use Rattle.uprog_gen.proofs.emit.push_commands.Goals as goal

pub returns-clause-short : goal.returns-clause-short
returns-clause-short c =
    let b = block_of c.args.body.now in
    let k = c.loop-cmd.cmd-index in
    omega (
      arith,
      ap length c.loop-cmd.invariant,
      length-append {A = Uop},
      length-map (take k b.found) (code_uop b),
      length-take k b.found,
      turn-most b c.requires.commands,
    )
