use Rattle.row_alloc.proofs.Common.{◌≡◌, ◌<◌, ℕ, List, ◌++◌, [], ◌∷◌, length, arith, ◌+◌, subst}
use Rattle.row_alloc.proofs.Common.{common_steps, Graph}
use Rattle.row_alloc.specs.declared.body.OutRow.{OutRow}
use Rattle.row_alloc.specs.declared.body.BodyCmd.{BodyCmd}
use Rattle.row_alloc.specs.declared.body.BodyCmd.TheVariants.{Aap}
use Rattle.row_alloc.specs.declared.body.BodyRef.TheVariants.{Spill, Out}
use Rattle.row_alloc.specs.Body.{FitBody}
use Rattle.row_alloc.proofs.Written.{Writes}
use Rattle.row_alloc.proofs.Late.{writes-late}
use Rattle.row_alloc.proofs.Sequence.{writes-none, writes-more, does-written}
use Rattle.row_alloc.proofs.plain.write_part.Goals as goal

next : (g : Graph) (outs : List OutRow) (m k : ℕ) (cmds more : List BodyCmd)
    → more ≡ cmds ++ Aap (Spill k) (Out m) ∷ [] → k ≡ length g.nodes + m → Writes g outs m cmds
    → FitBody g outs → m < length outs → Writes g outs (m + 1) more
next g outs m k cmds more e h so fit l = rw (e, h) (writes-more g outs m cmds so fit l)

pub loop-j-init : goal.loop-j-init
loop-j-init c = record {
  writes = writes-none c.args.m.now c.args.outs.now c.args.cmds.items c.requires.stashed;
  count = omega arith;
}

pub loop-j-preserved : goal.loop-j-preserved
loop-j-preserved c = record {
  writes = next c.args.m.now c.args.outs.now c.loop-j.j _ c.loop-j.cmds.items _ c.in_ok-keep.ensures
      (omega arith) c.loop-j.invariant.writes c.requires.fit (omega arith);
  count = rw c.in_ok-keep.ensures (grind (arith, common_steps, c.loop-j.invariant.count));
}

pub returns-clause-does : goal.returns-clause-does
returns-clause-does c = let e : c.loop-j.j ≡ length c.args.outs.now = omega arith in let P : ℕ
    → Type 0 = λ n. Writes c.args.m.now c.args.outs.now n c.loop-j.cmds.items in
    does-written c.args.m.now c.args.outs.now c.loop-j.cmds.items
    (subst P e c.loop-j.invariant.writes)

pub returns-clause-late : goal.returns-clause-late
returns-clause-late c = writes-late c.args.outs.now c.loop-j.cmds.items
    c.loop-j.invariant.writes.parts
