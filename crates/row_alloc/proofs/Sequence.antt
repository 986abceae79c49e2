-- The plain body's commands, one piece after another
use Rattle.row_alloc.proofs.Common.{◌≡◌, ℕ, ◌+◌, ◌<◌, false, List, [], ◌∷◌, ◌++◌, length, refl, sym}
use Rattle.row_alloc.proofs.Common.{◌∙◌, arith, subst, Column, Node, is_complemented, IsLower}
use Rattle.row_alloc.proofs.Common.{IsAnyOrder, node_value, Graph, value, values, node_at, IsGraph}
use Rattle.row_alloc.proofs.Common.{value-node, any-order}
use Rattle.row_alloc.specs.declared.body.BodyRef.TheVariants.{Out, Spill}
use Rattle.row_alloc.specs.declared.body.BodyCmd.{BodyCmd}
use Rattle.row_alloc.specs.declared.body.BodyCmd.TheVariants.{Aap}
use Rattle.row_alloc.specs.declared.body.OutRow.{OutRow}
use Rattle.row_alloc.specs.Rows.{Rows, place, run_body, out_at, AreApart}
use Rattle.row_alloc.specs.Body.{FitBody, DoesBody}
use Rattle.row_alloc.specs.Phases.{source_of, node_commands, stash_commands, inputs_of, IsReady}
use Rattle.row_alloc.specs.Phases.{Prepares}
use Rattle.row_alloc.proofs.Written.{IsWritten, Writes}
use Rattle.row_alloc.proofs.Activations.{copy-command}
use Rattle.row_alloc.proofs.Holds.{run-body-append, Puts, puts-at, puts-off, source-holds}
use Rattle.row_alloc.proofs.LegalPieces.{legal-append, source-legal, less, node-legal, stash-legal}
use Rattle.row_alloc.proofs.LegalPieces.{write-legal}
use Rattle.row_alloc.proofs.Late.{early-append, node-early, stash-early, parts-first, parts-more}
use Rattle.row_alloc.proofs.Steps.{node-step, stash-step, write-start, write-step}

-- nothing is done yet
pub prepares-none : (g : Graph) (outs : List OutRow) → Prepares g outs 0 0 []
prepares-none g outs = record {
  legal = refl;
  early = refl;
  ready = λ rows s apart. record {
    nodes = λ i l. absurd (omega arith);
    stash = λ j l. absurd (omega arith);
    kept = λ r h. refl;
  };
}

-- the commands of one node more
pub prepares-node : (g : Graph) (outs : List OutRow) (k : ℕ) (cmds : List BodyCmd) (x : Node)
    → Prepares g outs k 0 cmds → IsGraph g.inputs g.nodes → k < length g.nodes → k < 32
    → IsAnyOrder x (node_at g.nodes k).a (node_at g.nodes k).b (node_at g.nodes k).c
    → IsLower (g.inputs + 1 + k) x → is_complemented x.b ≡ false → is_complemented x.c ≡ false
    → Prepares g outs (k + 1) 0 (cmds ++ node_commands g.inputs x k)
prepares-node g outs k cmds x so graph l small order lower tb tc = record {
  legal = legal-append g.inputs (length outs) cmds (node_commands g.inputs x k) so.legal
      (node-legal g.inputs (length outs) k k x lower (omega arith) small);
  early = early-append cmds (node_commands g.inputs x k) so.early (node-early g.inputs k x);
  ready = λ rows s apart.
      let v = values g (inputs_of rows s) in
      let e : v (g.inputs + 1 + k) ≡ node_value v x =
      value-node g.inputs g.nodes (inputs_of rows s) k graph l
      ∙ sym (any-order v x (node_at g.nodes k).a (node_at g.nodes k).b (node_at g.nodes k).c
      order) in
      subst (IsReady g outs rows s (k + 1) 0)
      (sym (run-body-append rows cmds (node_commands g.inputs x k) s))
      (node-step g outs rows s k (run_body rows cmds s) x (so.ready rows s apart) apart small lower
      tb tc e);
}

-- the commands of one output more
pub prepares-stash : (g : Graph) (outs : List OutRow) (m : ℕ) (cmds : List BodyCmd)
    → Prepares g outs (length g.nodes) m cmds → FitBody g outs → m < length outs
    → Prepares g outs (length g.nodes) (m + 1) (cmds
    ++ stash_commands g.inputs (out_at outs m).lit (length g.nodes + m))
prepares-stash g outs m cmds so fit l =
    let more = stash_commands g.inputs (out_at outs m).lit (length g.nodes + m) in record {
      legal = legal-append g.inputs (length outs) cmds more so.legal
          (stash-legal g.inputs (length outs) (length g.nodes) (length g.nodes + m)
          (out_at outs m).lit (fit.named m l) (omega (arith, fit.rows)) (omega (arith, fit.rows)));
      early = early-append cmds more so.early
          (stash-early g.inputs (length g.nodes + m) (out_at outs m).lit);
      ready = λ rows s apart.
          subst (IsReady g outs rows s (length g.nodes) (m + 1))
          (sym (run-body-append rows cmds more s))
          (stash-step g outs rows s m (run_body rows cmds s) (so.ready rows s apart) apart fit l);
    }

pub writes-none : (g : Graph) (outs : List OutRow) (cmds : List BodyCmd)
    → Prepares g outs (length g.nodes) (length outs) cmds → Writes g outs 0 cmds
writes-none g outs cmds so = record {
  legal = so.legal;
  parts = parts-first cmds so.early;
  written = λ rows s apart. write-start g outs rows s (run_body rows cmds s)
      (so.ready rows s apart);
}

-- one output more in its own row
pub writes-more : (g : Graph) (outs : List OutRow) (m : ℕ) (cmds : List BodyCmd)
    → Writes g outs m cmds → FitBody g outs → m < length outs
    → Writes g outs (m + 1) (cmds ++ Aap (Spill (length g.nodes + m)) (Out m) ∷ [])
writes-more g outs m cmds so fit l =
    let more : List BodyCmd = Aap (Spill (length g.nodes + m)) (Out m) ∷ [] in record {
      legal = legal-append g.inputs (length outs) cmds more so.legal
          (write-legal g.inputs (length outs) (length g.nodes + m) m (omega (arith, fit.rows)) l);
      parts = parts-more cmds (Aap (Spill (length g.nodes + m)) (Out m)) so.parts refl;
      written = λ rows s apart.
          subst (IsWritten g outs rows s (m + 1)) (sym (run-body-append rows cmds more s))
          (write-step g outs rows s m (run_body rows cmds s) (so.written rows s apart) apart fit l);
    }

pub does-written : (g : Graph) (outs : List OutRow) (cmds : List BodyCmd)
    → Writes g outs (length outs) cmds → DoesBody g outs cmds
does-written g outs cmds so = record {
  legal = so.legal;
  values = λ rows s apart. (so.written rows s apart).done;
  others = λ rows s apart r h k. (so.written rows s apart).kept r h k;
}

-- one command where the only output is a constant or an input that is not inverted
pub does-direct : (g : Graph) (outs : List OutRow) → FitBody g outs → length g.nodes ≡ 0
    → length outs ≡ 1 → is_complemented (out_at outs 0).lit ≡ false
    → DoesBody g outs (Aap (source_of g.inputs (out_at outs 0).lit) (Out 0) ∷ [])
does-direct g outs fit none one complemented =
    let l = (out_at outs 0).lit in
    let cmds : List BodyCmd = Aap (source_of g.inputs l) (Out 0) ∷ [] in
    let below : l.node < g.inputs + 1 + 0 = omega (arith, fit.named 0 (omega arith)) in
    let puts : (rows : Rows) (s : Column) → AreApart rows g.inputs outs
    → Puts rows cmds s (rows.output 0) (value g (inputs_of rows s) l) = λ rows s apart r.
    let h = rw complemented at (source-holds g outs rows s 0 0 s l
    ((prepares-none g outs).ready rows s apart) apart (omega arith) below) in
    copy-command s (place rows (source_of g.inputs l)) h.cell (rows.output 0) r h.lines
    ∙ rw h.bit_is refl in record {
      legal = let small : 0 < length outs = omega arith in
          rw (
            source-legal g.inputs (length outs) 0 l below (omega arith),
            less 0 (length outs) small,
          ) refl;
      values = λ rows s apart j b. let q : j ≡ 0 = omega arith in
          rw q (puts-at rows cmds s (rows.output 0) (value g (inputs_of rows s) l)
          (puts rows s apart));
      others = λ rows s apart r h k. puts-off rows cmds s (rows.output 0)
          (value g (inputs_of rows s) l) r (puts rows s apart) (h 0 (omega arith));
    }
