use Rattle.tmr_guard.proofs.Common.{◌∙◌, [], ◌∷◌, ap, subst, sym, piece_of, Counts, view_of, Reply}
use Rattle.tmr_guard.proofs.Common.{Done, plus, geometry_of, program_of, table_in, turn_in}
use Rattle.tmr_guard.proofs.Common.{x_letter, y_letter, z_letter, on_copy}
use Rattle.tmr_guard.specs.Steps.{DidOne, RepliedBy, machine_in}
use Rattle.tmr_guard.proofs.Exits.{exit_all, exit_first, exit_second, exit_third, moved_one}
use Rattle.tmr_guard.proofs.Exits.{moved_ran}
use Rattle.tmr_guard.proofs.Left.{after_one, after_removal, at_first, at_later, in_guarded}
use Rattle.tmr_guard.proofs.Left.{moved_left, not_print, on_err_always}
use Rattle.tmr_guard.proofs.guards.Guard.on_three.Goals as goal

pub returns-in-Refused-clause-replied : goal.returns-in-Refused-clause-replied
returns-in-Refused-clause-replied g c =
    let V = g.D.Dram.view in
    let m = machine_in c.args.self.now in
    let m1 = machine_in c.plain.new.self in
    let i = view_of c.args.instr.now in
    let one = subst (λ (r : Reply). DidOne m m1 (on_copy x_letter i) r (V c.args.dram.now)
    (V c.plain.new.dram)) c.in-Refused.is c.in_ok-counts.ensures.did in
    exit_first (geometry_of m) (program_of m) (table_in m) i (on_copy x_letter i)
    (on_copy y_letter i) (on_copy z_letter i) c.requires.three _ _ _ c.in-Refused.why _ _ one

pub returns-in-Refused-2-clause-replied : goal.returns-in-Refused-2-clause-replied
returns-in-Refused-2-clause-replied g c =
    let V = g.D.Dram.view in
    let m = machine_in c.args.self.now in
    let m1 = machine_in c.plain.new.self in
    let m2 = machine_in c.plain-2.new.self in
    let i = view_of c.args.instr.now in
    let shape1 = ap geometry_of c.in_ok-counts.ensures.goes_on in
    let program1 = ap program_of c.in_ok-counts.ensures.goes_on in
    let shape2 = ap geometry_of c.in_ok-counts-2.ensures.goes_on ∙ shape1 in
    let program2 = ap program_of c.in_ok-counts-2.ensures.goes_on ∙ program1 in
    let one = subst (λ (r : Reply). DidOne m m1 (on_copy x_letter i) r (V c.args.dram.now)
    (V c.plain.new.dram)) c.in-Done.is c.in_ok-counts.ensures.did in
    let two = moved_one (geometry_of m) (geometry_of m1) (program_of m) (program_of m1) _ _ _ _ _
    _
    _ _ shape1 program1 (subst (λ (r : Reply). DidOne m1 m2 (on_copy y_letter i) r
    (V c.plain.new.dram) (V c.plain-2.new.dram)) c.in-Refused-2.is
    c.in_ok-counts-2.ensures.did) in
    let back = moved_ran (geometry_of m) (geometry_of m2) (program_of m) (program_of m2) _ _ _ _ _
    _ _ shape2 program2 c.in_ok-take_back-in-Refused-2.ensures.ran in
    exit_second (geometry_of m) (program_of m) (table_in m) i (on_copy x_letter i)
    (on_copy y_letter i) (on_copy z_letter i) c.requires.three _ _ _ _ _ _ _ c.in-Done.counts
    c.in-Refused-2.why _ _ _ _ one two back

pub returns-in-Refused-3-clause-replied : goal.returns-in-Refused-3-clause-replied
returns-in-Refused-3-clause-replied g c =
    let V = g.D.Dram.view in
    let m = machine_in c.args.self.now in
    let m1 = machine_in c.plain.new.self in
    let m2 = machine_in c.plain-2.new.self in
    let m3 = machine_in c.plain-3.new.self in
    let m4 = machine_in c.take_back-in-Refused-3.new.self in
    let i = view_of c.args.instr.now in
    let shape1 = ap geometry_of c.in_ok-counts.ensures.goes_on in
    let program1 = ap program_of c.in_ok-counts.ensures.goes_on in
    let shape2 = ap geometry_of c.in_ok-counts-2.ensures.goes_on ∙ shape1 in
    let program2 = ap program_of c.in_ok-counts-2.ensures.goes_on ∙ program1 in
    let shape3 = ap geometry_of c.in_ok-counts-3.ensures.goes_on ∙ shape2 in
    let program3 = ap program_of c.in_ok-counts-3.ensures.goes_on ∙ program2 in
    let shape4 = ap geometry_of c.in_ok-take_back-in-Refused-3.ensures.goes_on ∙ shape3 in
    let program4 = ap program_of c.in_ok-take_back-in-Refused-3.ensures.goes_on ∙ program3 in
    let one = subst (λ (r : Reply). DidOne m m1 (on_copy x_letter i) r (V c.args.dram.now)
    (V c.plain.new.dram)) c.in-Done.is c.in_ok-counts.ensures.did in
    let two = moved_one (geometry_of m) (geometry_of m1) (program_of m) (program_of m1) _ _ _ _ _
    _
    _ _ shape1 program1 (subst (λ (r : Reply). DidOne m1 m2 (on_copy y_letter i) r
    (V c.plain.new.dram) (V c.plain-2.new.dram)) c.in-Done-2.is
    c.in_ok-counts-2.ensures.did) in
    let three = moved_one (geometry_of m) (geometry_of m2) (program_of m) (program_of m2) _ _ _ _
    _
    _ _ _ shape2 program2 (subst (λ (r : Reply). DidOne m2 m3 (on_copy z_letter i) r
    (V c.plain-2.new.dram) (V c.plain-3.new.dram)) c.in-Refused-3.is
    c.in_ok-counts-3.ensures.did) in
    let back = moved_ran (geometry_of m) (geometry_of m3) (program_of m) (program_of m3) _ _ _ _ _
    _ _ shape3 program3 c.in_ok-take_back-in-Refused-3.ensures.ran in
    let again = moved_ran (geometry_of m) (geometry_of m4) (program_of m) (program_of m4) _ _ _ _
    _
    _ _ shape4 program4 c.in_ok-take_back-in-Refused-3-2.ensures.ran in
    exit_third (geometry_of m) (program_of m) (table_in m) i (on_copy x_letter i)
    (on_copy y_letter i) (on_copy z_letter i) c.requires.three _ _ _ _ _ _ _ _ _ _ _
    c.in-Done.counts c.in-Done-2.counts c.in-Refused-3.why _ _ _ _ _ _ one two three back
    again

pub returns-clause-replied : goal.returns-clause-replied
returns-clause-replied g c =
    let V = g.D.Dram.view in
    let m = machine_in c.args.self.now in
    let m1 = machine_in c.plain.new.self in
    let m2 = machine_in c.plain-2.new.self in
    let m3 = machine_in c.plain-3.new.self in
    let i = view_of c.args.instr.now in
    let shape1 = ap geometry_of c.in_ok-counts.ensures.goes_on in
    let program1 = ap program_of c.in_ok-counts.ensures.goes_on in
    let shape2 = ap geometry_of c.in_ok-counts-2.ensures.goes_on ∙ shape1 in
    let program2 = ap program_of c.in_ok-counts-2.ensures.goes_on ∙ program1 in
    let one = subst (λ (r : Reply). DidOne m m1 (on_copy x_letter i) r (V c.args.dram.now)
    (V c.plain.new.dram)) c.in-Done.is c.in_ok-counts.ensures.did in
    let two = moved_one (geometry_of m) (geometry_of m1) (program_of m) (program_of m1) _ _ _ _ _
    _
    _ _ shape1 program1 (subst (λ (r : Reply). DidOne m1 m2 (on_copy y_letter i) r
    (V c.plain.new.dram) (V c.plain-2.new.dram)) c.in-Done-2.is
    c.in_ok-counts-2.ensures.did) in
    let three = moved_one (geometry_of m) (geometry_of m2) (program_of m) (program_of m2) _ _ _ _
    _
    _ _ _ shape2 program2 (subst (λ (r : Reply). DidOne m2 m3 (on_copy z_letter i) r
    (V c.plain-2.new.dram) (V c.plain-3.new.dram)) c.in-Done-3.is
    c.in_ok-counts-3.ensures.did) in
    let total = c.plus-2.ensures
    ∙ ap (λ (k : Counts). plus k c.in-Done-3.counts) c.plus.ensures in
    subst (λ (k : Counts). RepliedBy m m3 i (Done k) (V c.args.dram.now) (V c.plain-3.new.dram))
    (sym total)
    (exit_all (geometry_of m) (program_of m) (table_in m) i (on_copy x_letter i)
    (on_copy y_letter i) (on_copy z_letter i) c.requires.three _ _ _ _ _ _ _ c.in-Done.counts
    c.in-Done-2.counts c.in-Done-3.counts _ _ _ _ one two three)

pub returns-in_err-counts-clause-left : goal.returns-in_err-counts-clause-left
returns-in_err-counts-clause-left g c =
    let V = g.D.Dram.view in
    let m = machine_in c.args.self.now in
    let m1 = machine_in c.plain.new.self in
    let i = view_of c.args.instr.now in
    let x = on_copy x_letter i in
    let y = on_copy y_letter i in
    let z = on_copy z_letter i in
    let a = V c.args.dram.now in
    let b = V c.plain.new.dram in
    on_err_always _ (in_guarded m i (x ∷ y ∷ z ∷ []) a.banks b.banks c.requires.three
    (at_first (geometry_of m) (program_of m) (turn_in m) (table_in m) x (y ∷ z ∷ []) a.banks b.banks
    (c.in_err-counts.ensures.left (not_print x_letter i c.requires.three))))

pub returns-in_err-counts-2-clause-left : goal.returns-in_err-counts-2-clause-left
returns-in_err-counts-2-clause-left g c =
    let V = g.D.Dram.view in
    let m = machine_in c.args.self.now in
    let m1 = machine_in c.plain.new.self in
    let i = view_of c.args.instr.now in
    let x = on_copy x_letter i in
    let y = on_copy y_letter i in
    let z = on_copy z_letter i in
    let a = V c.args.dram.now in
    let b = V c.plain.new.dram in
    let one = subst (λ (r : Reply). DidOne m m1 x r a b) c.in-Done.is c.in_ok-counts.ensures.did in
    let m2 = machine_in c.plain-2.new.self in
    let d = V c.plain-2.new.dram in
    let shape1 = ap geometry_of c.in_ok-counts.ensures.goes_on in
    let program1 = ap program_of c.in_ok-counts.ensures.goes_on in
    let left = moved_left (geometry_of m) (geometry_of m1) (program_of m) (program_of m1)
    (turn_in m1) (table_in m1) (piece_of y) b.banks d.banks shape1 program1
    (c.in_err-counts-2.ensures.left (not_print y_letter i c.requires.three)) in
    on_err_always _ (in_guarded m i (x ∷ y ∷ z ∷ []) a.banks d.banks
    c.requires.three (at_later (geometry_of m) (program_of m) _ _ _ _ x (y ∷ z ∷ [])
    c.in-Done.counts a b d.banks one
    (at_first (geometry_of m) (program_of m) (turn_in m1) (table_in m1) y (z ∷ []) b.banks d.banks
    left)))

pub returns-in_err-take_back-in-Refused-2-clause-left : goal.returns-in_err-take_back-in-Refused-2-clause-left
returns-in_err-take_back-in-Refused-2-clause-left g c =
    let V = g.D.Dram.view in
    let m = machine_in c.args.self.now in
    let m1 = machine_in c.plain.new.self in
    let i = view_of c.args.instr.now in
    let x = on_copy x_letter i in
    let y = on_copy y_letter i in
    let z = on_copy z_letter i in
    let a = V c.args.dram.now in
    let b = V c.plain.new.dram in
    let one = subst (λ (r : Reply). DidOne m m1 x r a b) c.in-Done.is c.in_ok-counts.ensures.did in
    let m2 = machine_in c.plain-2.new.self in
    let d = V c.plain-2.new.dram in
    let shape1 = ap geometry_of c.in_ok-counts.ensures.goes_on in
    let program1 = ap program_of c.in_ok-counts.ensures.goes_on in
    let two = moved_one (geometry_of m) (geometry_of m1) (program_of m) (program_of m1) _ _ _ _ _
    _ _ _ shape1 program1 (subst (λ (r : Reply). DidOne m1 m2 y r b d) c.in-Refused-2.is
    c.in_ok-counts-2.ensures.did) in
    let f = V c.take_back.new.dram in
    let left = after_one (geometry_of m) (program_of m) (turn_in m1) (turn_in m2) (table_in m1)
    (table_in m2) y _ b d f.banks two c.in_err-take_back-in-Refused-2.ensures.left in
    on_err_always _ (in_guarded m i (x ∷ y ∷ z ∷ []) a.banks f.banks
    c.requires.three (at_later (geometry_of m) (program_of m) _ _ _ _ x (y ∷ z ∷ [])
    c.in-Done.counts a b f.banks one
    (at_first (geometry_of m) (program_of m) (turn_in m1) (table_in m1) y (z ∷ []) b.banks f.banks
    left)))

pub returns-in_err-counts-3-clause-left : goal.returns-in_err-counts-3-clause-left
returns-in_err-counts-3-clause-left g c =
    let V = g.D.Dram.view in
    let m = machine_in c.args.self.now in
    let m1 = machine_in c.plain.new.self in
    let i = view_of c.args.instr.now in
    let x = on_copy x_letter i in
    let y = on_copy y_letter i in
    let z = on_copy z_letter i in
    let a = V c.args.dram.now in
    let b = V c.plain.new.dram in
    let one = subst (λ (r : Reply). DidOne m m1 x r a b) c.in-Done.is c.in_ok-counts.ensures.did in
    let m2 = machine_in c.plain-2.new.self in
    let d = V c.plain-2.new.dram in
    let shape1 = ap geometry_of c.in_ok-counts.ensures.goes_on in
    let program1 = ap program_of c.in_ok-counts.ensures.goes_on in
    let two = moved_one (geometry_of m) (geometry_of m1) (program_of m) (program_of m1) _ _ _ _ _
    _ _ _ shape1 program1 (subst (λ (r : Reply). DidOne m1 m2 y r b d) c.in-Done-2.is
    c.in_ok-counts-2.ensures.did) in
    let m3 = machine_in c.plain-3.new.self in
    let e = V c.plain-3.new.dram in
    let shape2 = ap geometry_of c.in_ok-counts-2.ensures.goes_on ∙ shape1 in
    let program2 = ap program_of c.in_ok-counts-2.ensures.goes_on ∙ program1 in
    let left = moved_left (geometry_of m) (geometry_of m2) (program_of m) (program_of m2)
    (turn_in m2) (table_in m2) (piece_of z) d.banks e.banks shape2 program2
    (c.in_err-counts-3.ensures.left (not_print z_letter i c.requires.three)) in
    on_err_always _ (in_guarded m i (x ∷ y ∷ z ∷ []) a.banks e.banks
    c.requires.three (at_later (geometry_of m) (program_of m) _ _ _ _ x (y ∷ z ∷ [])
    c.in-Done.counts a b e.banks one
    (at_later (geometry_of m) (program_of m) _ _ _ _ y (z ∷ []) c.in-Done-2.counts b d
    e.banks two (at_first (geometry_of m) (program_of m) (turn_in m2) (table_in m2) z [] d.banks e.banks
    left))))

pub returns-in_err-take_back-in-Refused-3-clause-left : goal.returns-in_err-take_back-in-Refused-3-clause-left
returns-in_err-take_back-in-Refused-3-clause-left g c =
    let V = g.D.Dram.view in
    let m = machine_in c.args.self.now in
    let m1 = machine_in c.plain.new.self in
    let i = view_of c.args.instr.now in
    let x = on_copy x_letter i in
    let y = on_copy y_letter i in
    let z = on_copy z_letter i in
    let a = V c.args.dram.now in
    let b = V c.plain.new.dram in
    let one = subst (λ (r : Reply). DidOne m m1 x r a b) c.in-Done.is c.in_ok-counts.ensures.did in
    let m2 = machine_in c.plain-2.new.self in
    let d = V c.plain-2.new.dram in
    let shape1 = ap geometry_of c.in_ok-counts.ensures.goes_on in
    let program1 = ap program_of c.in_ok-counts.ensures.goes_on in
    let two = moved_one (geometry_of m) (geometry_of m1) (program_of m) (program_of m1) _ _ _ _ _
    _ _ _ shape1 program1 (subst (λ (r : Reply). DidOne m1 m2 y r b d) c.in-Done-2.is
    c.in_ok-counts-2.ensures.did) in
    let m3 = machine_in c.plain-3.new.self in
    let e = V c.plain-3.new.dram in
    let shape2 = ap geometry_of c.in_ok-counts-2.ensures.goes_on ∙ shape1 in
    let program2 = ap program_of c.in_ok-counts-2.ensures.goes_on ∙ program1 in
    let three = moved_one (geometry_of m) (geometry_of m2) (program_of m) (program_of m2) _ _ _ _
    _ _ _ _ shape2 program2 (subst (λ (r : Reply). DidOne m2 m3 z r d e) c.in-Refused-3.is
    c.in_ok-counts-3.ensures.did) in
    let f = V c.take_back-in-Refused-3.new.dram in
    let left = after_one (geometry_of m) (program_of m) (turn_in m2) (turn_in m3) (table_in m2)
    (table_in m3) z _ d e f.banks three c.in_err-take_back-in-Refused-3.ensures.left in
    on_err_always _ (in_guarded m i (x ∷ y ∷ z ∷ []) a.banks f.banks
    c.requires.three (at_later (geometry_of m) (program_of m) _ _ _ _ x (y ∷ z ∷ [])
    c.in-Done.counts a b f.banks one
    (at_later (geometry_of m) (program_of m) _ _ _ _ y (z ∷ []) c.in-Done-2.counts b d
    f.banks two (at_first (geometry_of m) (program_of m) (turn_in m2) (table_in m2) z [] d.banks f.banks
    left))))

pub returns-in_err-take_back-in-Refused-3-2-clause-left : goal.returns-in_err-take_back-in-Refused-3-2-clause-left
returns-in_err-take_back-in-Refused-3-2-clause-left g c =
    let V = g.D.Dram.view in
    let m = machine_in c.args.self.now in
    let m1 = machine_in c.plain.new.self in
    let i = view_of c.args.instr.now in
    let x = on_copy x_letter i in
    let y = on_copy y_letter i in
    let z = on_copy z_letter i in
    let a = V c.args.dram.now in
    let b = V c.plain.new.dram in
    let one = subst (λ (r : Reply). DidOne m m1 x r a b) c.in-Done.is c.in_ok-counts.ensures.did in
    let m2 = machine_in c.plain-2.new.self in
    let d = V c.plain-2.new.dram in
    let shape1 = ap geometry_of c.in_ok-counts.ensures.goes_on in
    let program1 = ap program_of c.in_ok-counts.ensures.goes_on in
    let two = moved_one (geometry_of m) (geometry_of m1) (program_of m) (program_of m1) _ _ _ _ _
    _ _ _ shape1 program1 (subst (λ (r : Reply). DidOne m1 m2 y r b d) c.in-Done-2.is
    c.in_ok-counts-2.ensures.did) in
    let m3 = machine_in c.plain-3.new.self in
    let e = V c.plain-3.new.dram in
    let shape2 = ap geometry_of c.in_ok-counts-2.ensures.goes_on ∙ shape1 in
    let program2 = ap program_of c.in_ok-counts-2.ensures.goes_on ∙ program1 in
    let three = moved_one (geometry_of m) (geometry_of m2) (program_of m) (program_of m2) _ _ _ _
    _ _ _ _ shape2 program2 (subst (λ (r : Reply). DidOne m2 m3 z r d e) c.in-Refused-3.is
    c.in_ok-counts-3.ensures.did) in
    let f = V c.take_back-in-Refused-3.new.dram in
    let h = V c.take_back-in-Refused-3-2.new.dram in
    let back = c.in_ok-take_back-in-Refused-3.ensures.ran in
    let gone = after_removal _ _ _ _ _ _ x e f h.banks back
    c.in_err-take_back-in-Refused-3-2.ensures.left in
    let left = after_one (geometry_of m) (program_of m) (turn_in m2) (turn_in m3) (table_in m2)
    (table_in m3) z _ d e h.banks three gone in
    on_err_always _ (in_guarded m i (x ∷ y ∷ z ∷ []) a.banks h.banks
    c.requires.three (at_later (geometry_of m) (program_of m) _ _ _ _ x (y ∷ z ∷ [])
    c.in-Done.counts a b h.banks one
    (at_later (geometry_of m) (program_of m) _ _ _ _ y (z ∷ []) c.in-Done-2.counts b d
    h.banks two (at_first (geometry_of m) (program_of m) (turn_in m2) (table_in m2) z [] d.banks h.banks
    left))))
