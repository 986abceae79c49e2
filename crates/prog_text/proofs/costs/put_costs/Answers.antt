use Rattle.std.specs.Prelude.{slice_index_or}
use Rattle.std.proofs.lemmas.List.{get_or_default}
use Rattle.uprog_code.specs.Shape.{Microprogram}
use Rattle.prog_text.specs.Costs.{cost_line}
use Rattle.prog_text.specs.Widths.{is_single}
use Rattle.uprog_code.proofs.Written.{next_part}
use Rattle.prog_text.proofs.costs.put_costs.Goals as goal

pub put_cost-requires : goal.put_cost-requires
put_cost-requires g c =
    let is = c.requires.widths c.loop-width.width-index 0 c.loop-width-test.true in
    record { legal = c.requires.legal; some = is.0; narrow = is.1 }

pub loop-width-preserved : goal.loop-width-preserved
loop-width-preserved g c =
    let widths = c.args.widths.now in
    let k = c.loop-width.width-index in
    let entry : Microprogram = record {
      name = g.F.Fetch.name c.args.entry.now;
      shape = g.F.Fetch.shape c.args.entry.now;
      code = g.F.Fetch.code c.args.entry.now;
    } in
    let width = slice_index_or widths k 0 in
    next_part (cost_line (is_single widths) entry) widths k width c.loop-width.out.items
    c.put_cost.new.out.items _ c.loop-width-test.true
    (get_or_default widths k 0 width c.loop-width-test.true) c.in_ok-put_cost.ensures
    c.loop-width.invariant
