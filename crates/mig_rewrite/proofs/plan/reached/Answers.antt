use Rattle.mig_rewrite.proofs.Common.{◌≡◌, ℕ, List, Bool, ◌-◌, ◌≤◌, true, ◌++◌, length, arith, sym}
use Rattle.mig_rewrite.proofs.Common.{ap, ◌∙◌, take, drop, node_numbered}
use Rattle.mig_rewrite.specs.Plan.{is_marked}
use Rattle.mig_rewrite.specs.Reach.{ReadsMarked}
use Rattle.mig_rewrite.proofs.Marks.{written, closed-more}
use Rattle.mig_rewrite.proofs.plan.reached.Goals as goal

pub loop-k-preserved : goal.loop-k-preserved
loop-k-preserved c =
    let so = c.loop-k.invariant in
    let new = c.mark_read.new.marks in
    let old = c.loop-k.marks.items in
    let same = c.deref_mut-in-loop-k.ensures.value in
    let long : length new ≡ length old = c.mark_read.auto.marks ∙ ap length same in
    let e : take c.loop-k.marks.len (new ++ drop (length new) old) ≡ new =
    written c.loop-k.marks.len new old (long ∙ sym c.loop-k.marks.ok.0) in
    let grew : (j : ℕ) → is_marked old j ≡ true → is_marked new j ≡ true =
    rw same at c.mark_read.ensures.grew in
    let others : (j : ℕ) → c.loop-k.k - 1 ≤ j → is_marked new j ≡ is_marked old j =
    rw same at c.mark_read.ensures.others in
    let only : (set : List Bool) → (is_marked old (c.loop-k.k - 1) ≡ true
    → ReadsMarked set (node_numbered c.args.m.now.mig (c.loop-k.k - 1)))
    → ((j : ℕ) → is_marked old j ≡ true → is_marked set j ≡ true)
    → (j : ℕ) → is_marked new j ≡ true → is_marked set j ≡ true =
    rw same at c.mark_read.ensures.only in
    record {
      long = ap length e ∙ long ∙ so.long;
      least = omega arith;
      most = omega arith;
      outputs = rw e (λ j b. grew _ (so.outputs j b));
      closed = rw e (closed-more c.args.m.now.mig old new c.loop-k.k (omega arith) so.closed
          c.mark_read.ensures.read others grew);
      only = rw e (λ j marked set closed. only set (λ k. closed.closed (c.loop-k.k - 1) (omega arith)
          (omega arith) (so.only _ k set closed)) (λ i m. so.only i m set closed) j marked);
    }
