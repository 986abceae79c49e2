use Rattle.uprog_ctl.proofs.Common.{◌≡◌, [], ◌∷◌, List, true, refl, sym, ap, ◌∙◌, subst, arith}
use Rattle.uprog_ctl.proofs.Common.{Command, Row, row_events, Geometry, Did, Did-more, Did-none}
use Rattle.uprog_ctl.proofs.Common.{Kept-same, Kept-more, Walk, bound, bound_of, commands_from}
use Rattle.uprog_ctl.proofs.Common.{StandsIn, issues_of, start_stands}
use Rattle.dram_model.specs.Column.{is_legal}
use Rattle.uprog_code.specs.Fits.{Fits}
use Rattle.uprog_code.specs.Machine.{trace}
use Rattle.uprog_code.proofs.Seek.{start_commands, not_spent}
use Rattle.uprog_ctl.proofs.Left.{few, others_stay}
use Rattle.uprog_ctl.proofs.controller.run.Goals as goal

pub loop-k-init : goal.loop-k-init
loop-k-init g c =
    let first = g.D.Dram.view c.args.dram.now in
    let code = g.F.Fetch.code c.args.entry.now in
    let shape = g.F.Fetch.shape c.args.entry.now in
    let b = c.args.binding.now in
    let all : commands_from c.geometry-rows.result.rows shape code b c.start-walk.result
    ≡ bound first.geometry.rows shape b.n (bound_of b) (issues_of (trace shape code b.n)) =
    ap (commands_from c.geometry-rows.result.rows shape code b) c.start-walk.ensures
    ∙ start_commands c.geometry-rows.result.rows shape code b
    ∙ ap (λ (q : Geometry). bound q.rows shape b.n (bound_of b) (issues_of (trace shape code b.n)))
    c.geometry-rows.ensures in
    record {
      stands = subst (StandsIn shape code b.n) (sym c.start-walk.ensures)
          (start_stands shape code b.n c.requires.legal c.requires.ends);
      left = omega (arith, ap (λ (w : Walk). w.left) c.start-walk.ensures);
      borrow = refl;
      kept = Kept-same first;
      rest = λ final h. subst (λ (cs : List Command). Did (row_events c.args.bank cs) first final)
          all h;
      few = (omega arith, omega arith);
      others = λ other h. refl;
    }

pub next_command-requires-clause-fits : goal.next_command-requires-clause-fits
next_command-requires-clause-fits g c =
    subst (λ (q : Geometry). Fits q.rows (g.F.Fetch.shape c.args.entry.now) c.args.binding.now.n
    (bound_of c.args.binding.now)) (sym c.geometry-rows.ensures) c.requires.fits

pub loop-k-preserved : goal.loop-k-preserved
loop-k-preserved g c =
    let first = g.D.Dram.view c.args.dram.now in
    let now = g.D.Dram.view c.loop-k.dram in
    let new = g.D.Dram.view c.do_command.new.dram in
    let bank = c.args.bank in
    let command = c.in-Some.command in
    let following = commands_from c.geometry-rows.result.rows (g.F.Fetch.shape c.args.entry.now)
    (g.F.Fetch.code c.args.entry.now) c.args.binding.now c.next_command.new.walk in
    let found = c.in-Some.ensures in
    let done = c.in_ok-do_command-in-Some.ensures in
    let risen = few bank command now new done.did in
    record {
      stands = found.stands;
      left = omega (arith, found.fewer);
      borrow = done.borrow ∙ c.loop-k.invariant.borrow;
      kept = Kept-more first now new c.loop-k.invariant.kept done.kept;
      rest = λ final h. c.loop-k.invariant.rest final
          (subst (λ (cs : List Command). Did (row_events bank cs) now final) (sym found.first)
          (Did-more (Row bank command ∷ []) (row_events bank following) now new final done.did h));
      few = (
        omega (arith, risen.0, c.loop-k.invariant.few.0),
        omega (arith, risen.1, c.loop-k.invariant.few.1),
      );
      others = λ other h. others_stay bank command now new done.did other h
          ∙ c.loop-k.invariant.others other h;
    }

pub do_command-requires-clause-legal : goal.do_command-requires-clause-legal
do_command-requires-clause-legal g c =
    subst (λ (q : Geometry). is_legal q.rows c.in-Some.command ≡ true)
    (c.geometry-rows.ensures ∙ sym c.loop-k.invariant.kept.geometry) c.in-Some.ensures.legal

pub returns-in-None-clause-did : goal.returns-in-None-clause-did
returns-in-None-clause-did g c =
    let now = g.D.Dram.view c.loop-k.dram in
    c.loop-k.invariant.rest now (subst (λ (cs : List Command). Did (row_events c.args.bank cs) now
    now) (sym c.in-None.ensures) (Did-none now))

pub returns-clause-did : goal.returns-clause-did
returns-clause-did g c =
    absurd (not_spent (g.F.Fetch.shape c.args.entry.now) (g.F.Fetch.code c.args.entry.now)
    c.args.binding.now.n c.loop-k.walk c.loop-k.invariant.stands (omega arith))
