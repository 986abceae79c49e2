-- The AAP and the AP of rounds.
use Rattle.uprog_gen.proofs.Common.{◌≡◌, ℕ, ◌+◌, Bool, cond, List, [], ◌∷◌, map, refl, sym, ap, ◌∙◌}
use Rattle.uprog_gen.proofs.Common.{count_by, sum_by, sum_by-cons, sum_by-append, Issue, issues_aap}
use Rattle.uprog_gen.proofs.Common.{issues_ap, BodyCmd, Aap, Ap, Block, RoundOf, is_aap, is_ap}
use Rattle.uprog_gen.proofs.Rows.Issued.{round_command, rounds_commands}

-- the kinds of commands in a round
pub aap_same : (n : ℕ) (r : RoundOf Block) (c : BodyCmd)
    → issues_aap (round_command n r c) ≡ is_aap c
aap_same n r (Aap x y) = refl
aap_same n r (Ap x) = refl

pub ap_same : (n : ℕ) (r : RoundOf Block) (c : BodyCmd)
    → issues_ap (round_command n r c) ≡ is_ap c
ap_same n r (Aap x y) = refl
ap_same n r (Ap x) = refl

-- as many commands of one kind come from rounds as their bodies carry
module _ (f : BodyCmd → Bool) (g : Issue → Bool) (n : ℕ)
    (same : (r : RoundOf Block) (c : BodyCmd) → g (round_command n r c) ≡ f c) where
  round_counts : (r : RoundOf Block) (cmds : List BodyCmd)
      → count_by g (map (round_command n r) cmds) ≡ count_by f cmds
  round_counts r [] = refl
  round_counts r (c ∷ cmds) =
      sum_by-cons (λ (i : Issue). cond (g i) 1 0) (round_command n r c)
      (map (round_command n r) cmds)
      ∙ ap (λ b. cond b 1 0 + count_by g (map (round_command n r) cmds)) (same r c)
      ∙ ap (λ k. cond (f c) 1 0 + k) (round_counts r cmds)
      ∙ sym (sum_by-cons (λ (c : BodyCmd). cond (f c) 1 0) c cmds)

  pub all_counts : (rs : List (RoundOf Block)) → count_by g (rounds_commands n rs)
      ≡ sum_by (λ (r : RoundOf Block). count_by f r.part.found) rs
  all_counts [] = refl
  all_counts (r ∷ rs) =
      sum_by-append (λ (i : Issue). cond (g i) 1 0) (map (round_command n r) r.part.found)
      (rounds_commands n rs)
      ∙ ap (λ m. m + count_by g (rounds_commands n rs)) (round_counts r r.part.found)
      ∙ ap (λ m. count_by f r.part.found + m) (all_counts rs)
      ∙ sym (sum_by-cons (λ (r : RoundOf Block). count_by f r.part.found) r rs)
