use Rattle.sim_machine.specs.Shown.{state_of}
use Rattle.sim_machine.proofs.Keeping.{laid_of, with_program}
use Rattle.sim_machine.proofs.Common.{◌≡◌, ◌∙◌, ◌++◌, List, ap, arith, map, refl, subst, Known}
use Rattle.sim_machine.proofs.Common.{ChipView, Did, Microprogram, Instruction, Reply, Piece, Wave}
use Rattle.sim_machine.proofs.Common.{lines, Answered, routines_in, reply_to, view_of}
use Rattle.uprog_bin.specs.Opened.{File}
use Rattle.machine_model.specs.Pieces.{piece_events}
use Rattle.sim_machine.specs.declared.machine.Machine.{Machine}
use Rattle.sim_machine.specs.Machine.{events_by, geometry_of, reply_of, table_in, turn_in}
use Rattle.sim_machine.proofs.Rising.{wave_rises}
use Rattle.sim_machine.proofs.machine.Machine.wave.Goals as goal

-- the walks that are kept change nothing
did_by : (m : Machine) (piece : Piece) (ps : List Microprogram)
    (old new : ChipView) → ps ≡ m.programs
    → Did (piece_events (geometry_of m) (routines_in ps) (turn_in m) (table_in m) piece) old
    new → Did (events_by m piece) old new
did_by m piece ps old new same did =
    subst (λ (ps : List Microprogram). Did (piece_events (geometry_of m) (routines_in ps) (turn_in
    m)
    (table_in m) piece) old new) same did

replies_by : (m : Machine) (wave : List Instruction) (ps : List Microprogram)
    (replies : List Reply) → ps ≡ m.programs
    → replies ≡ map (reply_to (geometry_of m) (routines_in ps) (table_in m)) wave
    → replies ≡ map (reply_of m) wave
replies_by m wave ps replies same is =
    subst (λ (ps : List Microprogram). replies ≡ map (reply_to (geometry_of m) (routines_in ps)
    (table_in m)) wave) same is

pub returns-in-Err-clause-borrow : goal.returns-in-Err-clause-borrow
returns-in-Err-clause-borrow g c = c.do_wave.ensures.borrow

pub returns-in-Err-clause-kept : goal.returns-in-Err-clause-kept
returns-in-Err-clause-kept g c = c.do_wave.ensures.kept

pub returns-in-Err-clause-sink_faults : goal.returns-in-Err-clause-sink_faults
returns-in-Err-clause-sink_faults g c = omega arith

pub returns-clause-borrow : goal.returns-clause-borrow
returns-clause-borrow g c = c.do_wave.ensures.borrow

pub returns-clause-kept : goal.returns-clause-kept
returns-clause-kept g c = c.do_wave.ensures.kept

pub returns-clause-sink_faults : goal.returns-clause-sink_faults
returns-clause-sink_faults g c = c.put_lines.ensures.faults

pub returns-in-Err-put_lines-clause-borrow : goal.returns-in-Err-put_lines-clause-borrow
returns-in-Err-put_lines-clause-borrow g c = c.do_wave.ensures.borrow

pub returns-in-Err-put_lines-clause-kept : goal.returns-in-Err-put_lines-clause-kept
returns-in-Err-put_lines-clause-kept g c = c.do_wave.ensures.kept

pub returns-in-Err-put_lines-clause-sink_faults : goal.returns-in-Err-put_lines-clause-sink_faults
returns-in-Err-put_lines-clause-sink_faults g c = c.put_lines.ensures.faults

pub returns-in-Err-clause-chip_fault : goal.returns-in-Err-clause-chip_fault
returns-in-Err-clause-chip_fault g c = λ e. c.in-Err.ensures.stopped.rose

pub returns-clause-rises : goal.returns-clause-rises
returns-clause-rises g c =
    let m = state_of c.self.inside in
    wave_rises m view_of c.args.instrs.now _ _ (laid_of c.self.inside m c.self.invariant.set refl)
    c.requires.bbops c.requires.some c.requires.few c.requires.plain
    (did_by m (Wave (map view_of c.args.instrs.now)) _ _ _
    (ap (λ (f : File). f.programs) c.learn_all.ensures) c.in-Ok.ensures.did).counters

pub returns-clause-did : goal.returns-clause-did
returns-clause-did g c = rw (← c.self.view_is) (
    did_by (state_of c.self.inside) (Wave (map view_of c.args.instrs.now)) _ _ _ (ap (λ (f : File).
    f.programs) c.learn_all.ensures)
    c.in-Ok.ensures.did)

pub returns-in-Err-put_lines-clause-done : goal.returns-in-Err-put_lines-clause-done
returns-in-Err-put_lines-clause-done g c = rw (← c.self.view_is) (λ e.
    did_by (state_of c.self.inside) (Wave (map view_of c.args.instrs.now)) _ _ _ (ap (λ (f : File).
    f.programs) c.learn_all.ensures)
    c.in-Ok.ensures.did)

pub returns-clause-sent : goal.returns-clause-sent
returns-clause-sent g c = rw (← c.self.view_is) (
    let S = g.S.Sink in
    let is = c.as_slice.ensures.value ∙ replies_by (state_of c.self.inside)
    (map view_of c.args.instrs.now) _ _ (ap (λ (f : File). f.programs) c.learn_all.ensures)
    c.in-Ok.ensures.replies in
    subst (λ (rs : List Reply). Known (λ before after. after
    ≡ before ++ lines c.args.number (map Answered rs))
    (S.view c.args.out.now).sent (S.view c.put_lines.new.out).sent) is
    c.in-Ok-put_lines.ensures.sent)

pub returns-in-Err-clause-same : goal.returns-in-Err-clause-same
returns-in-Err-clause-same g c = rw (← c.self.view_is) (with_program (state_of c.self.inside) _ _
    (ap (λ (f : File). f.programs) c.learn_all.ensures))

pub returns-clause-same : goal.returns-clause-same
returns-clause-same g c = rw (← c.self.view_is) (with_program (state_of c.self.inside) _ _
    (ap (λ (f : File). f.programs) c.learn_all.ensures))

pub returns-in-Err-put_lines-clause-same : goal.returns-in-Err-put_lines-clause-same
returns-in-Err-put_lines-clause-same g c = rw (← c.self.view_is) (with_program (state_of
    c.self.inside) _ _
    (ap (λ (f : File). f.programs) c.learn_all.ensures))
