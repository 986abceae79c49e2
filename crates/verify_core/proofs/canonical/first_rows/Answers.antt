use Rattle.verify_core.proofs.Common.{◌≡◌, ◌∙◌, ◌+◌, take, ap, arith, sym, length-take, Kind, bases}
use Rattle.verify_core.proofs.Common.{◌*◌, ◌<◌, ◌≤◌, ℕ, zero, suc, List, [], ◌∷◌, ◌++◌, length}
use Rattle.std.proofs.Common.{refl}
use Rattle.verify_core.proofs.canonical.first_rows.Goals as goal

long : (n s : ℕ) (ks : List Kind) → length (bases n s ks) ≡ length ks
long n s [] = refl
long n s (k ∷ ks) = ap suc (long n (s + n) ks)

-- one value more
bases-more : (n s i : ℕ) (ks : List Kind) → i < length ks
    → bases n s (take (i + 1) ks) ≡ bases n s (take i ks) ++ (s + n * i) ∷ []
bases-more n s i [] l = absurd (omega arith)
bases-more n s zero (k ∷ ks) l = let e : s + n * 0 ≡ s = omega arith in rw e refl
bases-more n s (suc i) (k ∷ ks) l =
    let e : suc i + 1 ≡ suc (i + 1) = omega arith in
    let f : s + n + n * i ≡ s + n * suc i = omega arith in
    rw (e, ← f) (ap (λ xs. s ∷ xs) (bases-more n (s + n) i ks (omega arith)))

short : (n s i : ℕ) (ks : List Kind) → i < length ks → length ks ≤ 4
    → length (bases n s (take i ks)) < 4
short n s i ks l m = omega (arith, long n s (take i ks), length-take i ks)

pub push-requires : goal.push-requires
push-requires c =
    let l : length c.loop-kind.rows.items < 4 = rw c.loop-kind.invariant.rows
    (short c.args.n c.args.start c.loop-kind._kind-index c.args.kinds.now c.loop-kind-test.true
    c.requires.few) in
    (omega arith, l)

pub loop-kind-preserved : goal.loop-kind-preserved
loop-kind-preserved c = record {
  rows = c.push.ensures.items
      ∙ ap (λ (xs : List ℕ). xs ++ c.loop-kind.next ∷ []) c.loop-kind.invariant.rows
      ∙ ap (λ v. bases c.args.n c.args.start (take c.loop-kind._kind-index c.args.kinds.now)
      ++ v ∷ []) c.loop-kind.invariant.next
      ∙ sym (bases-more c.args.n c.args.start c.loop-kind._kind-index c.args.kinds.now
      c.loop-kind-test.true);
  next = omega (arith, c.loop-kind.invariant.next);
}
