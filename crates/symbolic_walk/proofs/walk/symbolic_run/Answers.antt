use Rattle.std.proofs.Common.{◌≡◌, ℕ, List, true, refl, sym, ap, ◌∙◌, subst, arith}
use Rattle.dram_model.specs.declared.address.Command.{Command}
use Rattle.dram_model.specs.Column.{is_legal, run}
use Rattle.uprog_code.specs.declared.commands.Walk.{Walk}
use Rattle.uprog_code.specs.Commands.{commands_from, StandsIn}
use Rattle.uprog_code.proofs.Seek.{start_stands, start_commands, not_spent}
use Rattle.bdd.proofs.Laws.{keeps-self, keeps-both}
use Rattle.symbolic_column.specs.Symbols.{column_of}
use Rattle.symbolic_walk.proofs.walk.symbolic_run.Goals as goal

pub loop-k-init : goal.loop-k-init
loop-k-init g c =
    let code = g.F.Fetch.code c.args.entry.now in
    let shape = g.F.Fetch.shape c.args.entry.now in
    let b = c.args.binding.now in
    record {
      stands = subst (StandsIn shape code b.n) (sym c.start-walk.ensures)
          (start_stands shape code b.n c.requires.legal c.requires.ends);
      left = omega (arith, ap (λ (w : Walk). w.left) c.start-walk.ensures);
      nodes = c.requires.nodes;
      cells = c.requires.cells;
      keeps = keeps-self c.args.diagram.now.nodes;
      limit = refl;
      rows = refl;
      does = λ bits. ap (λ (cs : List Command). run cs
          (column_of c.args.diagram.now.nodes bits c.args.column.now))
          (ap (commands_from c.args.rows shape code b) c.start-walk.ensures
          ∙ start_commands c.args.rows shape code b);
    }

pub step-requires-clause-legal : goal.step-requires-clause-legal
step-requires-clause-legal g c =
    subst (λ (n : ℕ). is_legal n c.in-Some.command ≡ true)
    (sym (c.loop-k.invariant.rows ∙ c.requires.rows)) c.in-Some.ensures.legal

pub returns-in-None-clause-column : goal.returns-in-None-clause-column
returns-in-None-clause-column g c = λ bits.
    sym (ap (λ (cs : List Command). run cs
    (column_of c.loop-k.diagram.nodes bits c.loop-k.column)) c.in-None.ensures)
    ∙ c.loop-k.invariant.does bits

pub returns-clause-column : goal.returns-clause-column
returns-clause-column g c =
    absurd (not_spent (g.F.Fetch.shape c.args.entry.now) (g.F.Fetch.code c.args.entry.now)
    c.args.binding.now.n c.loop-k.walk c.loop-k.invariant.stands (omega arith))

pub loop-k-preserved : goal.loop-k-preserved
loop-k-preserved g c =
    let following = commands_from c.args.rows (g.F.Fetch.shape c.args.entry.now)
    (g.F.Fetch.code c.args.entry.now) c.args.binding.now c.next_command.new.walk in
    let found = c.in-Some.ensures in
    let done = c.in_ok-step-in-Some.ensures in
    record {
      stands = found.stands;
      left = omega (arith, found.fewer);
      nodes = done.nodes;
      cells = done.cells;
      keeps = keeps-both c.args.diagram.now.nodes c.loop-k.diagram.nodes c.step.new.diagram.nodes
          c.loop-k.invariant.keeps done.keeps;
      limit = done.limits ∙ c.loop-k.invariant.limit;
      rows = done.rows ∙ c.loop-k.invariant.rows;
      does = λ bits.
          ap (run following) (done.column bits)
          ∙ sym (ap (λ (cs : List Command). run cs
          (column_of c.loop-k.diagram.nodes bits c.loop-k.column)) found.first)
          ∙ c.loop-k.invariant.does bits;
    }
