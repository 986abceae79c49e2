use Rattle.tmr_guard.proofs.Common.{◌∙◌, ap, with_bit_inverted}
use Rattle.tmr_guard.proofs.Flipping.{banks_of, flip_done, log_of, no_event_of, others_of}
use Rattle.tmr_guard.proofs.Flipping.{unfailed_of}
use Rattle.tmr_guard.proofs.flips.do_flip.Goals as goal

pub returns-clause-banks : goal.returns-clause-banks
returns-clause-banks g c =
    let V = g.D.Dram.view in
    let h = c.write_row.ensures.did in
    let r = c.in_ok-read_row.ensures.read in
    let i = c.invert_column.ensures.bits in
    let b = c.in_ok-read_row.ensures.did.banks in
    let e = flip_done c.args.f.now (V c.args.dram.now).banks _ _ _ b r i in
    banks_of c.write_row.result _ _ _ _ h e

pub returns-clause-faults : goal.returns-clause-faults
returns-clause-faults g c =
    let V = g.D.Dram.view in
    unfailed_of c.write_row.result _ (V c.args.dram.now) _ (V c.write_row.new.self)
    c.in_ok-read_row.ensures.did c.write_row.ensures.did

pub returns-clause-log : goal.returns-clause-log
returns-clause-log g c =
    let V = g.D.Dram.view in
    let f = c.args.f.now in
    log_of c.write_row.result f.bank f.row _ _ (V c.args.dram.now) _ (V c.write_row.new.self)
    c.in_ok-read_row.ensures.did c.write_row.ensures.did (c.invert_column.ensures.bits
    ∙ ap (with_bit_inverted f.column) c.in_ok-read_row.ensures.read)

pub returns-clause-others : goal.returns-clause-others
returns-clause-others g c =
    let V = g.D.Dram.view in
    others_of c.write_row.result c.args.f.now.bank (V c.args.dram.now) _ (V c.write_row.new.self)
    c.in_ok-read_row.ensures.did.banks c.write_row.ensures.failed

pub returns-clause-no_event : goal.returns-clause-no_event
returns-clause-no_event g c =
    let V = g.D.Dram.view in
    no_event_of c.write_row.result (V c.args.dram.now) (V c.read_row.new.self)
    (V c.write_row.new.self)
    c.in_ok-read_row.ensures.did.log c.write_row.ensures.no_event
