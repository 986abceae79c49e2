-- Rounds that do the same at the same rows take the same commands, and leave the same bits.
use Rattle.uprog_gen.proofs.Common.{◌≡◌, ℕ, zero, suc, ◌+◌, Bool, List, [], ◌∷◌, ◌++◌, length, refl}
use Rattle.uprog_gen.proofs.Common.{sym, ap, ◌∙◌, sum_by, count_by, sum_by-cons, Lit, BodyCmd}
use Rattle.uprog_gen.proofs.Common.{Place, Block, RoundOf, Spots, spot_at, nth_spot, round_env}
use Rattle.uprog_gen.proofs.Common.{after_round, after_rounds, is_aap, is_ap, rounds_cost, AreLike}
use mathlib.Core.Path.{fun_ext}
use Rattle.mig_graph.specs.Graph.{values}
use Rattle.mig_graph.specs.Literals.{lit_value}
use Rattle.loop_ir.specs.Spots.{set_spot, write_all}
use Rattle.loop_front.specs.Like.{IsSameRow, AreSameRows, IsLike}
use Rattle.uprog_gen.specs.Does.{rounds_counts}

module _ (n : ℕ) where
  -- what their commands count is the same of both
  sum_like : (f : List BodyCmd → ℕ) (rs ss : List (RoundOf Block)) → AreLike n rs ss
      → sum_by (λ (r : RoundOf Block). f r.part.found) ss
      ≡ sum_by (λ (r : RoundOf Block). f r.part.found) rs
  sum_like f [] [] l = refl
  sum_like f (r ∷ rs) (s ∷ ss) l = sum_by-cons (λ (r : RoundOf Block). f r.part.found) s ss
      ∙ ap (λ k. k + sum_by (λ (r : RoundOf Block). f r.part.found) ss) (ap f l.0.found)
      ∙ ap (λ k. f r.part.found + k) (sum_like f rs ss l.1)
      ∙ sym (sum_by-cons (λ (r : RoundOf Block). f r.part.found) r rs)
  sum_like f rs ss l = absurd l

  pub cost_like : (rs ss : List (RoundOf Block)) → AreLike n rs ss
      → rounds_cost ss ≡ rounds_cost rs
  cost_like rs ss l = sum_like length rs ss l

  pub counts_like : (rs ss : List (RoundOf Block)) → AreLike n rs ss
      → rounds_counts ss ≡ rounds_counts rs
  counts_like rs ss l =
      rw (sum_like (count_by is_aap) rs ss l, sum_like (count_by is_ap) rs ss l) refl

  spot_like : (r s : RoundOf Block) (p q : Place) → IsSameRow n r s p q
      → spot_at n s.i s.regs q ≡ spot_at n r.i r.regs p
  spot_like r s p q h = rw (h.space, h.which, h.index) refl

  nth_like : (r s : RoundOf Block) (ps qs : List Place) → AreSameRows n r s ps qs → (k : ℕ)
      → nth_spot n s.i s.regs qs k ≡ nth_spot n r.i r.regs ps k
  nth_like r s [] [] h k = refl
  nth_like r s (p ∷ ps) (q ∷ qs) h zero = spot_like r s p q h.0
  nth_like r s (p ∷ ps) (q ∷ qs) h (suc k) = nth_like r s ps qs h.1 k
  nth_like r s ps qs h k = absurd h

  write_like : (r s : RoundOf Block) (env : ℕ → Bool) (ps qs : List Place)
      → AreSameRows n r s ps qs → (ls : List Lit) (bits : Spots)
      → write_all n s.i s.regs env qs ls bits ≡ write_all n r.i r.regs env ps ls bits
  write_like r s env [] [] h ls bits = refl
  write_like r s env (p ∷ ps) (q ∷ qs) h [] bits = refl
  write_like r s env (p ∷ ps) (q ∷ qs) h (l ∷ ls) bits =
      ap (λ x. write_all n s.i s.regs env qs ls (set_spot bits x (lit_value env l)))
      (spot_like r s p q h.0)
      ∙ write_like r s env ps qs h.1 ls
      (set_spot bits (spot_at n r.i r.regs p) (lit_value env l))
  write_like r s env ps qs h ls bits = absurd h

  round_like : (r s : RoundOf Block) → IsLike n r s → (bits : Spots)
      → after_round n s bits ≡ after_round n r bits
  round_like r s l bits =
      let at = λ (k : ℕ). bits (nth_spot n s.i s.regs s.part.reads k) in
      let env : round_env n s bits ≡ round_env n r bits = ap (λ g. values g at) l.graph
      ∙ ap (values r.part.graph)
      (fun_ext (λ k. ap bits (nth_like r s r.part.reads s.part.reads l.reads k))) in
      ap (λ e. write_all n s.i s.regs e s.part.writes s.part.outs bits) env
      ∙ ap (λ o. write_all n s.i s.regs (round_env n r bits) s.part.writes o bits) l.outs
      ∙ write_like r s (round_env n r bits) r.part.writes s.part.writes l.writes r.part.outs bits

  pub after_like : (rs ss : List (RoundOf Block)) → AreLike n rs ss → (bits : Spots)
      → after_rounds n ss bits ≡ after_rounds n rs bits
  after_like [] [] l bits = refl
  after_like (r ∷ rs) (s ∷ ss) l bits = ap (after_rounds n ss) (round_like r s l.0 bits)
      ∙ after_like rs ss l.1 (after_round n r bits)
  after_like rs ss l bits = absurd l

-- rounds of both, one after another
pub like_both : (n : ℕ) (rs ss ts us : List (RoundOf Block)) → AreLike n rs ss → AreLike n ts us
    → AreLike n (rs ++ ts) (ss ++ us)
like_both n [] [] ts us h k = k
like_both n (r ∷ rs) (s ∷ ss) ts us h k = (h.0, like_both n rs ss ts us h.1 k)
like_both n rs ss ts us h k = absurd h
