use Rattle.simdram_cli.proofs.Common.{◌∙◌, ap, inl, inr, refl, Err, found_in, world}
use Rattle.simdram_cli.specs.Inputs.{image_found}
use Rattle.simdram_cli.proofs.Stores.{use_broke, used}
use Rattle.simdram_cli.proofs.Tallies.{opened_counted}
use Rattle.simdram_cli.proofs.perform.open.Goals as goal

pub returns-in-Ok-clause-opened : goal.returns-in-Ok-clause-opened
returns-in-Ok-clause-opened g c =
    let o = c.in-Ok.ensures.opened in
    record {
      begun = o.begun;
      geometry = o.geometry;
      banks = o.banks;
      counters = o.counters ∙ opened_counted (image_found (found_in c.args.image));
      log = o.log;
    }

pub returns-in-Ok-clause-goes : goal.returns-in-Ok-clause-goes
returns-in-Ok-clause-goes g c files sink =
    let last = g.D.Dram.view c.open.new.dram in
    inl (
      world files sink last,
      (
        used _ files sink (g.D.Dram.view c.args.chip.now) last c.in-Ok.ensures.unfailed
            c.in-Ok.ensures.opened.banks,
        refl,
      ),
    )

pub returns-in-Err-ChipFault-clause-goes : goal.returns-in-Err-ChipFault-clause-goes
returns-in-Err-ChipFault-clause-goes g c files sink =
    let last = g.D.Dram.view c.open.new.dram in
    let is = ap Err c.in-Err-ChipFault.field-0-is in
    inr (inr (
      refl,
      use_broke files sink (g.D.Dram.view c.args.chip.now) last c.open.ensures.faults,
      c.in-Err-ChipFault.ensures.failed is,
      c.in-Err-ChipFault.ensures.left is,
    ))
