-- What holds under the canonical binding holds under each that fits
use Rattle.std.specs.Prelude.{◌≡◌, ℕ, zero, suc, ◌+◌, ◌<◌, Bool, true, List, [], ◌∷◌}
use Rattle.std.specs.Prelude.{map, slice_get, slice_index, refl}
use Rattle.std.specs.List.{range_with_len}
use Rattle.std.proofs.Common.{sym, ◌∙◌, ap, arith}
use Rattle.std.proofs.lemmas.Bool.{lt-ltb, eq-eqb}
use Rattle.bit_rows.specs.Bits.{value}
use Rattle.dram_model.specs.declared.address.Cell.TheVariants.{D}
use Rattle.dram_model.specs.Column.{Column, run}
use Rattle.dram_model.specs.Elements.{number}
use Rattle.op_text.specs.declared.tree.Kind.{Kind}
use Rattle.op_text.specs.declared.tree.Kind.TheVariants.{Word, Bit}
use Rattle.uprog_code.specs.declared.code.RowSpace.TheVariants as space
use Rattle.uprog_code.specs.Shape.{Shape, width, results}
use Rattle.uprog_code.specs.Machine.{Issue, in_kind}
use Rattle.uprog_code.specs.Bound.{Bound, bound}
use Rattle.uprog_code.specs.Fits.{AreBelow, Fits}
use Rattle.uprog_code.specs.Implements.{numbers, Gives}
use Rattle.uprog_code.specs.Issued.{AreGood}
use Rattle.binding_laws.specs.Alike.{Alike}
use Rattle.binding_laws.specs.Canonical.{canonical, canonical_rows}
use Rattle.binding_laws.proofs.Rebound.{run_alike}
use Rattle.binding_laws.proofs.Settled.{canonical-fits, moved, moved-alike}

range-same : (f g : ℕ → Bool) (a b w : ℕ) → ((i : ℕ) → i < w → f (a + i) ≡ g (b + i))
    → map f (range_with_len a w) ≡ map g (range_with_len b w)
range-same f g a b zero h = refl
range-same f g a b (suc w) h =
    let p : a + 0 ≡ a = omega arith in
    let q : b + 0 ≡ b = omega arith in
    let first : f a ≡ g b = rw (p, q) at (h 0 (omega arith)) in
    let rest = range-same f g (a + 1) (b + 1) w (λ i l.
    let r : a + 1 + i ≡ a + suc i = omega arith in
    let s : b + 1 + i ≡ b + suc i = omega arith in
    rw (r, s) (h (suc i) (omega arith))) in
    rw (first, rest) refl

kind-in : (k : Kind) (rest : List Kind) (n i : ℕ) → i < width k n
    → in_kind (slice_get (k ∷ rest) 0) n i ≡ true
kind-in Word rest n i l = lt-ltb i n l
kind-in Bit rest n i l = eq-eqb i 0 (omega arith)

-- values whose rows hold the same are the same numbers
pub numbers-same : (p q n : ℕ) (ks : List Kind) (bs cs : List ℕ) (s t : Column) → AreBelow p n ks bs
    → AreBelow q n ks cs
    → ((w i : ℕ) → in_kind (slice_get ks w) n i ≡ true
    → s (D (slice_index bs w + i)) ≡ t (D (slice_index cs w + i)))
    → numbers n ks bs s ≡ numbers n ks cs t
numbers-same p q n [] bs cs s t f g h = refl
numbers-same p q n (k ∷ ks) [] cs s t f g h = absurd f
numbers-same p q n (k ∷ ks) (b ∷ bs) [] s t f g h = absurd g
numbers-same p q n (k ∷ ks) (b ∷ bs) (c ∷ cs) s t f g h =
    let first : number b (width k n) s ≡ number c (width k n) t =
    ap value (range-same (λ r. s (D r)) (λ r. t (D r)) b c (width k n) (λ i l.
    h 0 i (kind-in k ks n i l))) in
    let rest = numbers-same p q n ks bs cs s t f.1 g.1 (λ w i l. h (suc w) i l) in
    rw (first, rest) refl

-- it is enough to have, for each binding that fits and each column, one column that is alike under
-- the canonical binding and from which the commands give the meaning
pub enough-from : (shape : Shape) (n : ℕ) (issues : List Issue) (meaning : List ℕ → List ℕ) → 0 < n
    → AreGood shape n issues
    → ((q : ℕ) (c : Bound) (t : Column) → Fits q shape n c → (s : Column)
    × Alike shape n (canonical_rows shape n) q (canonical shape n) c s t
    × (numbers n (results shape) (canonical shape n).results
    (run (bound (canonical_rows shape n) shape n (canonical shape n) issues) s)
    ≡ meaning (numbers n shape.sources (canonical shape n).sources s)))
    → Gives shape n issues meaning
enough-from shape n issues meaning some good h = record {
  value = λ rows c t fits.
      let own = canonical-fits shape n some in
      let p = canonical_rows shape n in
      let b = canonical shape n in
      let found = h rows c t fits in
      let s = found.0 in
      let end = run_alike shape n p rows b c own fits issues s t found.1 good in
      sym (numbers-same p rows n (results shape) b.results c.results
      (run (bound p shape n b issues) s) (run (bound rows shape n c issues) t) own.results
      fits.results (λ w i l. end.row space.Result w i refl l))
      ∙ found.2
      ∙ ap meaning (numbers-same p rows n shape.sources b.sources c.sources s t own.sources
      fits.sources (λ w i l. found.1.row space.Source w i refl l));
}

-- commands of a trace that give the meaning under the canonical binding give it under each that fits
pub enough : (shape : Shape) (n : ℕ) (issues : List Issue) (meaning : List ℕ → List ℕ) → 0 < n
    → AreGood shape n issues
    → ((s : Column) → numbers n (results shape) (canonical shape n).results
    (run (bound (canonical_rows shape n) shape n (canonical shape n) issues) s)
    ≡ meaning (numbers n shape.sources (canonical shape n).sources s))
    → Gives shape n issues meaning
enough shape n issues meaning some good h =
    enough-from shape n issues meaning some good (λ q c t fits. let s = moved shape n q c t in
    (s, moved-alike shape n q c t some fits, h s))
