use Rattle.mig_rewrite.proofs.Common.{◌≡◌, ◌∙◌, ◌+◌, ◌<◌, ◌/◌, ◌%◌, ◌==◌, ℕ, Bool, List, [], ◌∷◌}
use Rattle.mig_rewrite.proofs.Common.{ap, length, length-append, refl, subst, sym, arith}
use Rattle.mig_rewrite.proofs.Common.{if◌then◌else◌, nat_lt, majority, Lit, Graph, size_of, value}
use Rattle.mig_rewrite.proofs.Common.{lit_value, lit_at, each-more}
use Rattle.std.specs.Prelude.{slice_index_or}
use Rattle.mig_rewrite.specs.declared.rebuild.Part.TheVariants.{One}
use Rattle.mig_rewrite.specs.declared.sketch.Sketch.{Sketch}
use Rattle.mig_rewrite.specs.Plan.{part_value}
use Rattle.mig_rewrite.specs.Offers.{operand, short_value, sketch_values, Stands}
use Rattle.mig_rewrite.proofs.Offering.{short-read, stands-first, stands-more}
use Rattle.mig_rewrite.proofs.standing.built.Goals as goal

-- the value of what is made for a node
read : (s : Sketch) (bits : ℕ → Bool) (g : Graph) (lits : List Lit) (three : List ℕ) (new : Lit)
    (k : ℕ) (x y z : Lit) (h : Graph) → Stands g bits lits s k
    → ((i : ℕ) → slice_index_or three i 0 ≡ operand s k i)
    → x.node ≡ (if nat_lt (slice_index_or three 0 0 / 2) (length lits)
    then slice_index_or three 0 0 / 2 else 0)
    → x.inverted ≡ (slice_index_or three 0 0 % 2 == 1)
    → y.node ≡ (if nat_lt (slice_index_or three 1 0 / 2) (length lits)
    then slice_index_or three 1 0 / 2 else 0)
    → y.inverted ≡ (slice_index_or three 1 0 % 2 == 1)
    → z.node ≡ (if nat_lt (slice_index_or three 2 0 / 2) (length lits)
    then slice_index_or three 2 0 / 2 else 0)
    → z.inverted ≡ (slice_index_or three 2 0 % 2 == 1)
    → value h bits new ≡ part_value (λ n. value g bits (lit_at lits n)) (One x y z)
    → value h bits new ≡ majority (short_value (sketch_values s bits k) (operand s k 0))
    (short_value (sketch_values s bits k) (operand s k 1))
    (short_value (sketch_values s bits k) (operand s k 2))
read s bits g lits three new k x y z h stands are xn xi yn yi zn zi made =
    let w : ℕ → Bool = λ n. value g bits (lit_at lits n) in
    let v = sketch_values s bits k in
    let a : lit_value w x ≡ short_value v (operand s k 0) =
    short-read g bits lits s k (slice_index_or three 0 0) x stands xn xi
    ∙ ap (short_value v) (are 0) in
    let b : lit_value w y ≡ short_value v (operand s k 1) =
    short-read g bits lits s k (slice_index_or three 1 0) y stands yn yi
    ∙ ap (short_value v) (are 1) in
    let d : lit_value w z ≡ short_value v (operand s k 2) =
    short-read g bits lits s k (slice_index_or three 2 0) z stands zn zi
    ∙ ap (short_value v) (are 2) in
    made ∙ ap (λ p. majority p (lit_value w y) (lit_value w z)) a
    ∙ ap (λ p. majority (short_value v (operand s k 0)) p (lit_value w z)) b
    ∙ ap (λ p. majority (short_value v (operand s k 0)) (short_value v (operand s k 1)) p) d

pub loop-k-init : goal.loop-k-init
loop-k-init c =
    let mig = c.in_ok-mig.mig in
    let inputs = ap (λ (g : Graph). g.inputs) c.in_ok-mig.ensures in
    let long = c.in_ok-lits.ensures.long in
    record {
      inputs = inputs;
      some = omega (arith, long);
      named = λ k b. let d : k < c.args.offer.now.inputs + 1 = omega (arith, b, long) in
          subst (λ l. l.node < size_of mig) (sym (c.in_ok-lits.ensures.each k d))
          (omega (arith, d, inputs));
      few = omega (arith, ap (λ (g : Graph). length g.nodes) c.in_ok-mig.ensures);
      stands = λ bits. stands-first mig bits c.in_ok-lits.lits.items c.args.offer.now inputs long
          c.in_ok-lits.ensures.each;
    }

pub loop-k-preserved : goal.loop-k-preserved
loop-k-preserved c =
    let s = c.args.offer.now in
    let k = c.loop-k.k in
    let old = c.loop-k.mig in
    let mig = c.make.new.mig in
    let lits = c.loop-k.lits.items in
    let l = c.in_ok-l.l in
    let so = c.loop-k.invariant in
    let e = c.in_ok-keep.ensures in
    let long : length c.keep.new.items.items ≡ length lits + 1 =
    rw e (omega (arith, length-append lits (l ∷ []))) in
    let named : (n : ℕ) → n < length lits → (lit_at lits n).node < size_of mig =
    λ n b. omega (arith, so.named n b, c.make.ensures.inputs, c.make.ensures.least) in
    record {
      inputs = c.make.ensures.inputs ∙ so.inputs;
      some = omega (arith, long);
      named = λ n b. each-more (λ _ x. x.node < size_of mig) lits c.keep.new.items.items l
          (length lits) refl e named c.in_ok-l.ensures.named n (omega (arith, b, long));
      few = omega (arith, so.few, c.in_ok-l.ensures.count);
      stands = λ bits. stands-more old mig bits lits c.keep.new.items.items s k l (so.stands bits) e
          so.named (c.in_ok-l.ensures.kept bits)
          (read s bits old lits c.operands.result l k c.literal.result c.literal-in-loop-k.result
          c.literal-in-loop-k-2.result mig (so.stands bits) c.operands.ensures
          (rw (c.len-count.ensures, c.loop-k.lits.ok.0) at c.literal.ensures.node) c.literal.ensures.inverted
          (rw (c.len-count.ensures, c.loop-k.lits.ok.0) at c.literal-in-loop-k.ensures.node)
          c.literal-in-loop-k.ensures.inverted
          (rw (c.len-count.ensures, c.loop-k.lits.ok.0) at c.literal-in-loop-k-2.ensures.node)
          c.literal-in-loop-k-2.ensures.inverted
          (rw c.deref.ensures.value at (c.in_ok-l.ensures.value bits)));
    }

pub returns-clause-values : goal.returns-clause-values
returns-clause-values c = λ bits j b.
    let done : c.loop-k.k ≡ c.args.offer.now.count =
    omega (arith, c.loop-k-test.false, c.loop-k.auto.k-end) in
    c.in_ok-outs.ensures.values c.loop-k.mig bits (rw c.deref-2.ensures.value
    (subst (λ (k : ℕ). Stands c.loop-k.mig bits c.loop-k.lits.items c.args.offer.now k) done
    (c.loop-k.invariant.stands bits))) j b
