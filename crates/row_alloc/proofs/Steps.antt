-- Each piece of the plain body keeps what is true of the column so far
use Rattle.row_alloc.proofs.Common.{◌≡◌, ℕ, ◌+◌, ◌<◌, false, List, [], ◌∷◌, length, refl, sym, ◌∙◌}
use Rattle.row_alloc.proofs.Common.{arith, inl, inr, cases_lt, D, Column, Node, is_complemented}
use Rattle.row_alloc.proofs.Common.{IsLower, node_value, Graph, value, values}
use Rattle.dram_model.specs.declared.address.Addr.TheVariants.{D as AddrD}
use Rattle.row_alloc.specs.declared.body.BodyRef.TheVariants.{Out, Spill}
use Rattle.row_alloc.specs.declared.body.BodyCmd.{BodyCmd}
use Rattle.row_alloc.specs.declared.body.BodyCmd.TheVariants.{Aap}
use Rattle.row_alloc.specs.declared.body.OutRow.{OutRow}
use Rattle.row_alloc.specs.Rows.{Rows, run_body, out_at, AreApart}
use Rattle.row_alloc.specs.Body.{FitBody}
use Rattle.row_alloc.specs.Phases.{node_commands, stash_commands, inputs_of, IsReady}
use Rattle.row_alloc.proofs.Written.{IsWritten}
use Rattle.row_alloc.proofs.Activations.{copy-command}
use Rattle.row_alloc.proofs.Holds.{Puts, puts-at, puts-off, node-puts, stash-puts}

-- one node more
pub node-step : (g : Graph) (outs : List OutRow) (rows : Rows) (s : Column) (k : ℕ) (t : Column)
    (x : Node) → IsReady g outs rows s k 0 t → AreApart rows g.inputs outs → k < 32
    → IsLower (g.inputs + 1 + k) x → is_complemented x.b ≡ false → is_complemented x.c ≡ false
    → values g (inputs_of rows s) (g.inputs + 1 + k) ≡ node_value (values g (inputs_of rows s)) x
    → IsReady g outs rows s (k + 1) 0 (run_body rows (node_commands g.inputs x k) t)
node-step g outs rows s k t x ready apart small lower tb tc e =
    let v = node_value (values g (inputs_of rows s)) x in
    let puts = node-puts g outs rows s k 0 k t x ready apart (omega arith) lower tb tc in
    let cmds = node_commands g.inputs x k in record {
      nodes = λ i l. elim (cases_lt i k) [
        | inl b ↦ puts-off rows cmds t (rows.spill k) v (rows.spill i) puts (λ f.
            absurd (let q : k ≡ i = apart.spills k i small (omega arith) f in omega arith))
            ∙ ready.nodes i b
        | inr b ↦ let q : i ≡ k = omega arith in
            rw q (puts-at rows cmds t (rows.spill k) v puts ∙ sym e)
      ];
      stash = λ j l. absurd (omega arith);
      kept = λ r h. puts-off rows cmds t (rows.spill k) v r puts (h k small) ∙ ready.kept r h;
    }

-- one output more in its spill row
pub stash-step : (g : Graph) (outs : List OutRow) (rows : Rows) (s : Column) (m : ℕ) (t : Column)
    → IsReady g outs rows s (length g.nodes) m t → AreApart rows g.inputs outs → FitBody g outs
    → m < length outs
    → IsReady g outs rows s (length g.nodes) (m + 1)
    (run_body rows (stash_commands g.inputs (out_at outs m).lit (length g.nodes + m)) t)
stash-step g outs rows s m t ready apart fit l =
    let n = length g.nodes in
    let v = value g (inputs_of rows s) (out_at outs m).lit in
    let d = rows.spill (length g.nodes + m) in
    let small : length g.nodes + m < 32 = omega (arith, fit.rows) in
    let cmds = stash_commands g.inputs (out_at outs m).lit (length g.nodes + m) in
    let puts = stash-puts g outs rows s (length g.nodes) m (length g.nodes + m) t
    (out_at outs m).lit ready apart (omega (arith, fit.rows)) (fit.named m l) in record {
      nodes = λ i b. puts-off rows cmds t d v (rows.spill i) puts (λ f.
          absurd (let q : length g.nodes + m ≡ i =
          apart.spills (length g.nodes + m) i small (omega arith) f in omega arith))
          ∙ ready.nodes i b;
      stash = λ j b. elim (cases_lt j m) [
        | inl c ↦ puts-off rows cmds t d v (rows.spill (length g.nodes + j)) puts (λ f.
            absurd (let q : length g.nodes + m
            ≡ length g.nodes + j = apart.spills (length g.nodes + m) (length g.nodes + j) small
            (omega arith) f in omega arith)) ∙ ready.stash j c
        | inr c ↦ let q : j ≡ m = omega arith in rw q (puts-at rows cmds t d v puts)
      ];
      kept = λ r h. puts-off rows cmds t d v r puts (h (length g.nodes + m) small) ∙ ready.kept r h;
    }

-- when all outputs stand in spill rows, none is written yet
pub write-start : (g : Graph) (outs : List OutRow) (rows : Rows) (s t : Column)
    → IsReady g outs rows s (length g.nodes) (length outs) t → IsWritten g outs rows s 0 t
write-start g outs rows s t ready = record {
  done = λ j l. absurd (omega arith);
  stash = ready.stash;
  kept = λ r h k. ready.kept r k;
}

-- one output more in its own row
pub write-step : (g : Graph) (outs : List OutRow) (rows : Rows) (s : Column) (m : ℕ) (t : Column)
    → IsWritten g outs rows s m t → AreApart rows g.inputs outs → FitBody g outs → m < length outs
    → IsWritten g outs rows s (m + 1) (run_body rows (Aap (Spill (length g.nodes + m)) (Out m)
    ∷ []) t)
write-step g outs rows s m t written apart fit l =
    let v = t (D (rows.spill (length g.nodes + m))) in
    let d = rows.output m in
    let cmds : List BodyCmd = Aap (Spill (length g.nodes + m)) (Out m) ∷ [] in
    let puts : Puts rows cmds t d v = λ r. copy-command t (AddrD (rows.spill (length g.nodes + m)))
    (D (rows.spill (length g.nodes + m))) d r refl in record {
      done = λ j b. elim (cases_lt j m) [
        | inl c ↦ puts-off rows cmds t d v (rows.output j) puts (λ f.
            absurd (let q : m ≡ j = apart.outputs m j l (omega arith) f in omega arith))
            ∙ written.done j c
        | inr c ↦ let q : j ≡ m = omega arith in
            rw q (puts-at rows cmds t d v puts ∙ written.stash m l)
      ];
      stash = λ j b. puts-off rows cmds t d v (rows.spill (length g.nodes + j)) puts (λ f.
          absurd (apart.spill_output (length g.nodes + j) m (omega (arith, fit.rows)) l (sym f)))
          ∙ written.stash j b;
      kept = λ r h k. puts-off rows cmds t d v r puts (h m l) ∙ written.kept r h k;
    }
