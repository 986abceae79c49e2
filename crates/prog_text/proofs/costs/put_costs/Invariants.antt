use Rattle.std.proofs.Common.{◌≡◌, ◌++◌, drop, flat_map}
use Rattle.prog_text.specs.Costs.{cost_line, cost_lines}
use Rattle.prog_text.specs.Widths.{is_single}
use Rattle.prog_text.proofs.costs.put_costs.Given as goal

-- what was written, with the widths that are left, is all
abbrev pub invariant-loop-width : goal.invariant-loop-width
invariant-loop-width g l = l.out.items
    ++ flat_map (cost_line (is_single l.widths) (record {
      name = g.F.Fetch.name l.entry;
      shape = g.F.Fetch.shape l.entry;
      code = g.F.Fetch.code l.entry;
    })) (drop l.width-index l.widths)
    ≡ l.initial.out.items ++ cost_lines l.widths (record {
      name = g.F.Fetch.name l.entry;
      shape = g.F.Fetch.shape l.entry;
      code = g.F.Fetch.code l.entry;
    })
