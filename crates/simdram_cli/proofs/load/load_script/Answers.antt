use Rattle.simdram_cli.proofs.Common.{arith, map, length-map, err_from_is_err_and, view_of}
use Rattle.machine_model.proofs.Accepted.{accepted_is_plain}
use Rattle.simdram_cli.specs.Inputs.{script_in}
use Rattle.simdram_cli.specs.declared.words.TheConstants.{SCRIPT_MAX}
use Rattle.simdram_cli.proofs.Reading.{not_read, text_refused, text_unread, script_refused}
use Rattle.simdram_cli.proofs.Reading.{script_accepted}
use Rattle.simdram_cli.proofs.Scripts.{accepted_few}
use Rattle.simdram_cli.proofs.load.load_script.Goals as goal

pub returns-in_err-text-clause-not_read : goal.returns-in_err-text-clause-not_read
returns-in_err-text-clause-not_read g c =
    let p = err_from_is_err_and c.from_residual.result c.from_residual.ensures.1 in
    rw (p.1, p.2) (not_read script_in c.args.name.now SCRIPT_MAX _
    (g.F.Folder.view c.args.files.now) (g.F.Folder.view c.load.new.files)
    c.in_err-text.ensures.failed)

pub returns-in-Err-Fault-clause-not_read : goal.returns-in-Err-Fault-clause-not_read
returns-in-Err-Fault-clause-not_read g c =
    let refused = rw (
      c.in-Err-Fault.field-0-is,
      c.deref.ensures.value,
    ) at c.in-Err-Fault.ensures.refused in
    text_refused script_in c.args.name.now SCRIPT_MAX c.in_ok-text.text.items _
    (g.F.Folder.view c.args.files.now) (g.F.Folder.view c.load.new.files)
    c.in_ok-text.ensures.loaded
    (script_refused c.in_ok-text.text.items c.in-Err-Fault.fault refused)

pub returns-clause-not_read : goal.returns-clause-not_read
returns-clause-not_read g c =
    text_unread script_in c.args.name.now SCRIPT_MAX c.in_ok-text.text.items
    (g.F.Folder.view c.args.files.now) (g.F.Folder.view c.load.new.files)
    c.in_ok-text.ensures.loaded

pub returns-in-Ok-clause-plain : goal.returns-in-Ok-clause-plain
returns-in-Ok-clause-plain g c =
    accepted_is_plain c.in_ok-text.text.items (map view_of c.in-Ok.script.items)
    (rw c.deref.ensures.value at c.in-Ok.ensures.accepted)

pub returns-in-Ok-clause-few : goal.returns-in-Ok-clause-few
returns-in-Ok-clause-few g c =
    let few = accepted_few c.in_ok-text.text.items (map view_of c.in-Ok.script.items)
    (rw c.deref.ensures.value at c.in-Ok.ensures.accepted) in
    let within = c.in_ok-text.ensures.within in
    omega (arith, rw length-map at few, within)

pub returns-in-Ok-clause-read : goal.returns-in-Ok-clause-read
returns-in-Ok-clause-read g c = record {
  text = c.in_ok-text.text.items;
  value_is = script_accepted c.in_ok-text.text.items (map view_of c.in-Ok.script.items)
      (rw c.deref.ensures.value at c.in-Ok.ensures.accepted);
  loaded = c.in_ok-text.ensures.loaded;
}
