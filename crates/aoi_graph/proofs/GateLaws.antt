-- What is true of the nodes' values
use Rattle.std.specs.Prelude.{◌≡◌, ◌≢◌, ℕ, zero, suc, ◌+◌, ◌<◌, Bool, false, List, [], ◌∷◌, length}
use Rattle.std.specs.Prelude.{refl}
use Rattle.std.proofs.Common.{sym, ◌∙◌, ap, arith, eq-eqb}
use Rattle.std.proofs.lemmas.Bool.{ne_eqb}
use Rattle.aoi_graph.specs.declared.AoiNode.{AoiNode}
use Rattle.aoi_graph.specs.declared.AoiNode.TheVariants.{Zero, Input, Not, And, Or, Maj}
use Rattle.aoi_graph.specs.Gates.{with_value, gate_value, ReadsBelow, aoi_at, aoi_from, aoi_values}
use Rattle.aoi_graph.specs.Gates.{AreLower}

-- a node that is set leaves the value of every other
pub with-other : (k : ℕ) (b : Bool) (v : ℕ → Bool) (n : ℕ) → n ≢ k → with_value k b v n ≡ v n
with-other k b v n h = rw (ne_eqb n k h) refl

-- a node that is set has the value it was set to
pub with-same : (k : ℕ) (b : Bool) (v : ℕ → Bool) → with_value k b v k ≡ b
with-same k b v = rw (eq-eqb k k refl) refl

pub aoi-below : (bits : ℕ → Bool) (k : ℕ) (ns : List AoiNode) (v : ℕ → Bool) (n : ℕ) → n < k
    → aoi_from bits k ns v n ≡ v n
unfolding aoi_from
aoi-below bits k [] v n l = refl
aoi-below bits k (m ∷ ns) v n l = aoi-below bits (k + 1) ns (with_value k (gate_value bits v m) v) n
    (omega arith) ∙ with-other k (gate_value bits v m) v n (omega arith)

-- a gate's value rests on the nodes below it alone
pub gate-below : (bits v w : ℕ → Bool) (k : ℕ) (n : AoiNode) → ((i : ℕ) → i < k → v i ≡ w i)
    → ReadsBelow k n → gate_value bits v n ≡ gate_value bits w n
gate-below bits v w k Zero h b = refl
gate-below bits v w k (Input n) h b = refl
gate-below bits v w k (Not a) h b = rw (h a b) refl
gate-below bits v w k (And a c) h b = rw (h a b.0, h c b.1) refl
gate-below bits v w k (Or a c) h b = rw (h a b.0, h c b.1) refl
gate-below bits v w k (Maj a c d) h b = rw (h a b.0, h c b.1, h d b.2) refl

aoi-at-from : (bits : ℕ → Bool) (k : ℕ) (ns : List AoiNode) (v : ℕ → Bool) (j : ℕ)
    → ((i : ℕ) → i < length ns → ReadsBelow (k + i) (aoi_at ns i)) → j < length ns
    → aoi_from bits k ns v (k + j) ≡ gate_value bits (aoi_from bits k ns v) (aoi_at ns j)
unfolding aoi_from
aoi-at-from bits k [] v j h l = absurd (omega arith)
aoi-at-from bits k (n ∷ ns) v zero h l =
    let e : k + 0 ≡ k = omega arith in
    let w = with_value k (gate_value bits v n) v in
    rw e (aoi-below bits (k + 1) ns w k (omega arith) ∙ with-same k (gate_value bits v n) v
    ∙ gate-below bits v (aoi_from bits (k + 1) ns w) k n (λ i b.
    sym (aoi-below bits (k + 1) ns w i (omega arith)
    ∙ with-other k (gate_value bits v n) v i (omega arith))) (rw e at (h 0 (omega arith))))
aoi-at-from bits k (n ∷ ns) v (suc j) h l =
    let e : k + suc j ≡ k + 1 + j = omega arith in
    rw e (aoi-at-from bits (k + 1) ns (with_value k (gate_value bits v n) v) j (λ i b.
    let f : k + suc i ≡ k + 1 + i = omega arith in
    rw f at (h (suc i) (omega arith))) (omega arith))

-- the value of a node
pub aoi-at-node : (bits : ℕ → Bool) (ns : List AoiNode) (j : ℕ) → AreLower ns → j < length ns
    → aoi_values ns bits j ≡ gate_value bits (aoi_values ns bits) (aoi_at ns j)
aoi-at-node bits ns j h l = let e : 0 + j ≡ j = omega arith in
    ap (aoi_values ns bits) (sym e) ∙ aoi-at-from bits 0 ns (λ _. false) j (λ i b. let f : 0 + i
    ≡ i = omega arith in rw f (h i b)) l
