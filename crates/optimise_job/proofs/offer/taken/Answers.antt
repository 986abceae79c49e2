use Rattle.optimise_job.proofs.Common.{Microprogram, microprogram_of, issues}
use Rattle.optimise_job.proofs.Offers.{is_shorter}
use Rattle.optimise_job.proofs.offer.taken.Goals as goal

pub returns-in-Ok-Right-said-clause-taken : goal.returns-in-Ok-Right-said-clause-taken
returns-in-Ok-Right-said-clause-taken g c = λ o does.
    let e : Microprogram = record {
      name = g.F.Fetch.name c.args.entry.now;
      shape = g.F.Fetch.shape c.args.entry.now;
      code = g.F.Fetch.code c.args.entry.now;
    } in
    let found = c.in_ok-found.found in
    let own = rw c.in-Ok-Right.field-0-is at c.in-Ok-Right.ensures in
    let new = rw c.in-Ok-Right-said.field-0-is at c.in-Ok-Right-said.ensures in
    is_shorter c.args.n c.args.room o e (issues c.args.line.now) (microprogram_of found.entry)
    found.before found.after c.in-Ok-Right-said.field-0-0 c.in_ok-found.ensures.fewer
    c.in_ok-found.ensures.fits (own o does).2 (new o does) c.in_default.ensures.none
