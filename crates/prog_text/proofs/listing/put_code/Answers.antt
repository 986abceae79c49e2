use Rattle.prog_text.proofs.Written.{line_more}
use Rattle.prog_text.proofs.listing.put_code.Goals as goal

pub loop-place-preserved : goal.loop-place-preserved
loop-place-preserved g c =
    line_more (g.F.Fetch.code c.args.entry.now) c.loop-place.place c.fetch.result
    c.loop-place.out.items c.put_line.new.out.items _ c.fetch.ensures c.in_ok-put_line.ensures
    c.loop-place.invariant
