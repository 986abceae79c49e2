use Rattle.simdram_cli.proofs.Common.{arith, err_from_is_err_and}
use Rattle.guard_model.proofs.Texts.{flips_are_right}
use Rattle.simdram_cli.specs.Flips.{flips_in}
use Rattle.simdram_cli.specs.declared.words.TheConstants.{FLIPS_MAX}
use Rattle.simdram_cli.proofs.Guarding.{accepted_flips, flips_accepted, flips_refused}
use Rattle.simdram_cli.proofs.Reading.{not_read, text_refused, text_unread}
use Rattle.simdram_cli.proofs.guard.load_flips.Goals as goal

pub returns-in_err-text-clause-not_read : goal.returns-in_err-text-clause-not_read
returns-in_err-text-clause-not_read g c =
    let p = err_from_is_err_and c.from_residual.result c.from_residual.ensures.1 in
    rw (p.1, p.2) (not_read (flips_in c.args.g c.args.instrs) c.args.name.now FLIPS_MAX _
    (g.F.Folder.view c.args.files.now) (g.F.Folder.view c.load.new.files)
    c.in_err-text.ensures.failed)

pub returns-in-Ok-clause-read : goal.returns-in-Ok-clause-read
returns-in-Ok-clause-read g c = record {
  text = c.in_ok-text.text.items;
  value_is = flips_accepted c.args.g c.args.instrs c.in_ok-text.text.items c.in-Ok.flips.items
      (rw c.deref.ensures.value at c.in-Ok.ensures.accepted);
  loaded = c.in_ok-text.ensures.loaded;
}

pub returns-in-Ok-clause-cells : goal.returns-in-Ok-clause-cells
returns-in-Ok-clause-cells g c =
    (flips_are_right c.args.g c.args.instrs c.in_ok-text.text.items c.in-Ok.flips.items
    (rw c.deref.ensures.value at c.in-Ok.ensures.accepted)).0

pub returns-in-Ok-clause-sorted : goal.returns-in-Ok-clause-sorted
returns-in-Ok-clause-sorted g c =
    (flips_are_right c.args.g c.args.instrs c.in_ok-text.text.items c.in-Ok.flips.items
    (rw c.deref.ensures.value at c.in-Ok.ensures.accepted)).1

pub returns-in-Ok-clause-few : goal.returns-in-Ok-clause-few
returns-in-Ok-clause-few g c =
    let few = accepted_flips c.args.g c.args.instrs c.in_ok-text.text.items c.in-Ok.flips.items
    (rw c.deref.ensures.value at c.in-Ok.ensures.accepted) in
    let within = c.in_ok-text.ensures.within in
    omega (arith, few, within)

pub returns-in-Err-Fault-clause-not_read : goal.returns-in-Err-Fault-clause-not_read
returns-in-Err-Fault-clause-not_read g c =
    let refused = rw (
      c.in-Err-Fault.field-0-is,
      c.deref.ensures.value,
    ) at c.in-Err-Fault.ensures.refused in
    text_refused (flips_in c.args.g c.args.instrs) c.args.name.now FLIPS_MAX
    c.in_ok-text.text.items _ (g.F.Folder.view c.args.files.now)
    (g.F.Folder.view c.load.new.files) c.in_ok-text.ensures.loaded
    (flips_refused c.args.g c.args.instrs c.in_ok-text.text.items c.in-Err-Fault.fault refused)

pub returns-clause-not_read : goal.returns-clause-not_read
returns-clause-not_read g c =
    text_unread (flips_in c.args.g c.args.instrs) c.args.name.now FLIPS_MAX
    c.in_ok-text.text.items (g.F.Folder.view c.args.files.now)
    (g.F.Folder.view c.load.new.files) c.in_ok-text.ensures.loaded
