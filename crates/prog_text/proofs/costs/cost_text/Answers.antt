use Rattle.uprog_bin.specs.Opened.{program_of}
use Rattle.prog_text.specs.Costs.{cost_lines}
use Rattle.prog_text.proofs.Written.{part_more}
use Rattle.prog_text.proofs.costs.cost_text.Goals as goal

pub loop-k-preserved : goal.loop-k-preserved
loop-k-preserved c =
    part_more (cost_lines c.args.widths.now) c.args.prog.now.programs c.loop-k.k
    (program_of c.entry.result) c.loop-k.out.items c.put_costs.new.out.items _
    c.entry.ensures.program c.in_ok-put_costs.ensures c.loop-k.invariant
