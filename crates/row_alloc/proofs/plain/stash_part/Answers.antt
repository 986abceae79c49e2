use Rattle.row_alloc.proofs.Common.{◌≡◌, ◌<◌, ℕ, Bool, List, ◌++◌, length, arith, ◌+◌, true, false}
use Rattle.row_alloc.proofs.Common.{[], ◌∷◌, length-append, take, sum_by, Graph, is_complemented}
use Rattle.std.proofs.Common.{if◌then◌else◌}
use Rattle.std.proofs.lemmas.List.Sums.{sum_by_more}
use Rattle.row_alloc.specs.declared.body.OutRow.{OutRow}
use Rattle.row_alloc.specs.declared.body.BodyCmd.{BodyCmd}
use Rattle.row_alloc.specs.declared.body.BodyCmd.TheVariants.{Aap}
use Rattle.row_alloc.specs.declared.body.BodyRef.TheVariants.{B, Spill}
use Rattle.row_alloc.specs.Rows.{out_at}
use Rattle.row_alloc.specs.Body.{FitBody}
use Rattle.row_alloc.specs.Length.{output_length}
use Rattle.row_alloc.specs.Phases.{Prepares, stash_commands, source_of}
use Rattle.row_alloc.proofs.Sequence.{prepares-stash}
use Rattle.row_alloc.proofs.plain.stash_part.Goals as goal

next : (g : Graph) (outs : List OutRow) (m i k : ℕ) (cmds more : List BodyCmd)
    → more ≡ cmds ++ stash_commands i (out_at outs m).lit k → i ≡ g.inputs → k ≡ length g.nodes + m
    → Prepares g outs (length g.nodes) m cmds → FitBody g outs → m < length outs
    → Prepares g outs (length g.nodes) (m + 1) more
next g outs m i k cmds more e f h so fit l = rw (e, f, h) (prepares-stash g outs m cmds so fit l)

one-or-two : (b : Bool) (x y z : BodyCmd) → length (if b then x ∷ y ∷ [] else z ∷ []) + 1
    ≡ (if b then 3 else 2)
one-or-two true x y z = omega arith
one-or-two false x y z = omega arith

stash-length : (i k : ℕ) (o : OutRow) → length (stash_commands i o.lit k) + 1 ≡ output_length o
stash-length i k o = one-or-two (is_complemented o.lit) (Aap (source_of i o.lit) (B 5))
    (Aap (B 4) (Spill k)) (Aap (source_of i o.lit) (Spill k))

longer : (i k a j : ℕ) (outs : List OutRow) (cmds more : List BodyCmd)
    → more ≡ cmds ++ stash_commands i (out_at outs j).lit k → j < length outs
    → length cmds + j ≡ a + sum_by output_length (take j outs)
    → length more + (j + 1) ≡ a + sum_by output_length (take (j + 1) outs)
longer i k a j outs cmds more e l h =
    rw e (omega (
      arith,
      length-append cmds (stash_commands i (out_at outs j).lit k),
      stash-length i k (out_at outs j),
      sum_by_more output_length outs j (out_at [] 0) l,
    ))

pub loop-j-preserved : goal.loop-j-preserved
loop-j-preserved c = let e = c.in_ok-push_stash.ensures in record {
  prepares = next c.args.m.now c.args.outs.now c.loop-j.j _ _ c.loop-j.cmds.items _ e
      c.inputs.ensures.inputs (omega arith) c.loop-j.invariant.prepares c.requires.fit
      c.loop-j-test.true;
  count = longer c.inputs.result (c.node_count-nodes.result + c.loop-j.j) (length c.args.cmds.items)
      c.loop-j.j c.args.outs.now c.loop-j.cmds.items _ e c.loop-j-test.true
      c.loop-j.invariant.count;
}
