-- What a vote does to a column.
use Rattle.guard_model.proofs.Common.{◌≡◌, ◌≢◌, ℕ, zero, suc, ◌+◌, ◌<◌, ◌≤◌, Bool, true, false}
use Rattle.guard_model.proofs.Common.{cond, eqb, not, refl, sym, ◌∙◌, ap, subst, arith, inl, inr}
use Rattle.guard_model.proofs.Common.{cases_lt, nat_tests, D, majority, Column, run}
use Rattle.std.proofs.lemmas.Bool.{ne_eqb}
use Rattle.dram_model.proofs.ColumnLaws.{after-run, run-append}
use Rattle.guard_model.specs.Votes.{row_vote, votes}
use Rattle.guard_model.specs.Laws.{RowVote}

-- the majority of three rows
abbrev pub most : Column → ℕ → ℕ → ℕ → Bool
most s x y z = majority (s (D x)) (s (D y)) (s (D z))

vote_at : (s : Column) (x y z r : ℕ) → run (row_vote x y z) s (D r) ≡ cond (eqb z r) (most s x y z)
    (cond (eqb y r) (most s x y z) (cond (eqb x r) (most s x y z) (s (D r))))
vote_at s x y z r = after-run (row_vote x y z) s (D r) _ refl

pub vote_x : (s : Column) (x y z : ℕ) → run (row_vote x y z) s (D x) ≡ most s x y z
vote_x s x y z = vote_at s x y z x ∙ grind (arith, nat_tests)

pub vote_y : (s : Column) (x y z : ℕ) → run (row_vote x y z) s (D y) ≡ most s x y z
vote_y s x y z = vote_at s x y z y ∙ grind (arith, nat_tests)

pub vote_z : (s : Column) (x y z : ℕ) → run (row_vote x y z) s (D z) ≡ most s x y z
vote_z s x y z = vote_at s x y z z ∙ grind (arith, nat_tests)

pub vote_other : (s : Column) (x y z r : ℕ) → x ≢ r → y ≢ r → z ≢ r → run (row_vote x y z) s (D r)
    ≡ s (D r)
vote_other s x y z r a b c = vote_at s x y z r ∙ rw (ne_eqb z r c, ne_eqb y r b, ne_eqb x r a) refl

-- the rows of three ranges differ
pub record RowsApart (x y z w : ℕ) : Type 0 where
  pub xy : (i j : ℕ) → i < w → j < w → x + i ≢ y + j
  pub xz : (i j : ℕ) → i < w → j < w → x + i ≢ z + j
  pub yz : (i j : ℕ) → i < w → j < w → y + i ≢ z + j

-- a row outside all three stays
pub votes_others : (s : Column) (x y z a n r : ℕ)
    → ((k : ℕ) → a ≤ k → k < a + n → (x + k ≢ r) × (y + k ≢ r) × (z + k ≢ r)) → run
    (votes x y z a n) s (D r) ≡ s (D r)
votes_others s x y z a zero r out = refl
votes_others s x y z a (suc n) r out =
    let here = out a (omega arith) (omega arith) in
    ap (λ (t : Column). t (D r)) (run-append (row_vote (x + a) (y + a) (z + a))
    (votes x y z (a + 1) n) s)
    ∙ votes_others (run (row_vote (x + a) (y + a) (z + a)) s) x y z (a + 1) n r
    (λ k l m. out k (omega arith) (omega arith))
    ∙ vote_other s (x + a) (y + a) (z + a) r here.0 here.1 here.2

-- the bits of the three rows are their majority
abbrev pub Voted : Column → Column → ℕ → ℕ → ℕ → ℕ → Type 0
Voted t s x y z k = (t (D (x + k)) ≡ most s (x + k) (y + k) (z + k))
    × (t (D (y + k)) ≡ most s (x + k) (y + k) (z + k))
    × (t (D (z + k)) ≡ most s (x + k) (y + k) (z + k))

pub votes_own : (s : Column) (x y z a n w k : ℕ) → RowsApart x y z w → a + n ≤ w → a ≤ k → k < a + n
    → Voted (run (votes x y z a n) s) s x y z k
votes_own s x y z a zero w k ap' w' l m = absurd (omega arith)
votes_own s x y z a (suc n) w k d le l m =
    let t = run (row_vote (x + a) (y + a) (z + a)) s in
    let step : (r : ℕ) → run (votes x y z a (suc n)) s (D r) ≡ run (votes x y z (a + 1) n) t (D r) =
    λ r. ap (λ (t : Column). t (D r))
    (run-append (row_vote (x + a) (y + a) (z + a)) (votes x y z (a + 1) n) s) in
    elim (cases_lt a k) [
      | inl lt ↦
          let rest = votes_own t x y z (a + 1) n w k d (omega arith) (omega arith) (omega arith) in
          let at_x : t (D (x + k)) ≡ s (D (x + k)) = vote_other s (x + a) (y + a) (z + a) (x + k)
          (λ e. omega arith) (λ e. d.xy k a (omega arith) (omega arith) (sym e))
          (λ e. d.xz k a (omega arith) (omega arith) (sym e)) in
          let at_y : t (D (y + k)) ≡ s (D (y + k)) = vote_other s (x + a) (y + a) (z + a) (y + k)
          (d.xy a k (omega arith) (omega arith)) (λ e. omega arith)
          (λ e. d.yz k a (omega arith) (omega arith) (sym e)) in
          let at_z : t (D (z + k)) ≡ s (D (z + k)) = vote_other s (x + a) (y + a) (z + a) (z + k)
          (d.xz a k (omega arith) (omega arith)) (d.yz a k (omega arith) (omega arith))
          (λ e. omega arith) in
          let same : most t (x + k) (y + k) (z + k) ≡ most s (x + k) (y + k) (z + k) = rw
          (at_x, at_y, at_z) refl in
          (step (x + k) ∙ rest.0 ∙ same, step (y + k) ∙ rest.1 ∙ same, step (z + k) ∙ rest.2 ∙ same)
      | inr ge ↦
          let e : k ≡ a = omega arith in
          let at_a : Voted (run (votes x y z a (suc n)) s) s x y z a = (
            step (x + a) ∙ votes_others t x y z (a + 1) n (x + a)
                (λ j p q. (
                  λ e. omega arith,
                  λ e. d.xy a j (omega arith) (omega arith)
                      (sym e),
                  λ e. d.xz a j (omega arith) (omega arith) (sym e),
                )) ∙ vote_x s (x + a) (y + a)
                (z + a),
            step (y + a) ∙ votes_others t x y z (a + 1) n (y + a)
                (λ j p q. (
                  d.xy j a (omega arith) (omega arith),
                  λ e. omega arith,
                  λ e. d.yz a j
                      (omega arith) (omega arith) (sym e),
                )) ∙ vote_y s (x + a) (y + a) (z + a),
            step (z + a) ∙ votes_others t x y z (a + 1) n (z + a)
                (λ j p q. (
                  d.xz j a (omega arith) (omega arith),
                  d.yz j a (omega arith)
                      (omega arith),
                  λ e. omega arith,
                )) ∙ vote_z s (x + a) (y + a) (z + a),
          ) in
          subst (λ j. Voted (run (votes x y z a (suc n)) s) s x y z j) (sym e) at_a
    ]

majority_ab : (a b c : Bool) → a ≡ b → majority a b c ≡ a
unfolding majority
majority_ab true true true e = refl
majority_ab true true false e = refl
majority_ab true false true e = cc
majority_ab true false false e = cc
majority_ab false true true e = cc
majority_ab false true false e = cc
majority_ab false false true e = refl
majority_ab false false false e = refl

majority_ac : (a b c : Bool) → a ≡ c → majority a b c ≡ a
unfolding majority
majority_ac true true true e = refl
majority_ac true true false e = cc
majority_ac true false true e = refl
majority_ac true false false e = cc
majority_ac false true true e = cc
majority_ac false true false e = refl
majority_ac false false true e = cc
majority_ac false false false e = refl

majority_bc : (a b c : Bool) → b ≡ c → majority a b c ≡ b
unfolding majority
majority_bc true true true e = refl
majority_bc true true false e = cc
majority_bc true false true e = cc
majority_bc true false false e = refl
majority_bc false true true e = refl
majority_bc false true false e = cc
majority_bc false false true e = cc
majority_bc false false false e = refl

-- where at most one of three tests holds, and the bits of the others are v, the majority is v
pub most_of : (v p q r a b c : Bool) → not (majority a b c) ≡ true → (a ≡ false → p ≡ v)
    → (b ≡ false → q ≡ v) → (c ≡ false → r ≡ v) → majority p q r ≡ v
unfolding majority
most_of v p q r true true c h e f g = cc
most_of v p q r true false true h e f g = cc
most_of v p q r true false false h e f g =
    majority_bc p q r (f refl ∙ sym (g refl)) ∙ f refl
most_of v p q r false true true h e f g = cc
most_of v p q r false true false h e f g =
    majority_ac p q r (e refl ∙ sym (g refl)) ∙ e refl
most_of v p q r false false c h e f g = majority_ab p q r (e refl ∙ sym (f refl)) ∙ e refl

pub row_votes : RowVote
row_votes s x y z = (vote_x s x y z, vote_y s x y z, vote_z s x y z, λ r. vote_other s x y z r)
