-- The registers of two runs: what is alike below 7 stays alike under a move.
use Rattle.loop_laws.proofs.Common.{◌≡◌, ℕ, ◌+◌, ◌-◌, ◌<◌, Bool, true, List, length, refl, sym, ap}
use Rattle.loop_laws.proofs.Common.{◌∙◌, arith, inl, inr, slice_index, slice_set, nat_le, eq-eqb}
use Rattle.loop_laws.proofs.Common.{cases_eq, Move, SetI, SetN, SetT, Mov, AddI, SubI, Add, moved}
use Rattle.loop_laws.proofs.Common.{is_safe}
use Rattle.std.proofs.Common.{length-set, get_or-set_other}
use Rattle.std.proofs.lemmas.Grind.{get_or-set_at}
use Rattle.loop_ir.specs.FlowTests.{is_low, is_moved}

-- both have the same in the registers below 7 that pass this test
pub record Alike (t : ℕ → Bool) (z g : List ℕ) : Type 0 where
  pub flow : length z ≡ 8
  pub code : length g ≡ 8
  pub same : (q : ℕ) → q < 7 → t q ≡ true → slice_index g q ≡ slice_index z q

module _ (t : ℕ → Bool) where
  pub set_both : (z g : List ℕ) (r v w : ℕ) → w ≡ v → Alike t z g
      → Alike t (slice_set z r v) (slice_set g r w)
  set_both z g r v w e a = record {
    flow = length-set z r v ∙ a.flow;
    code = length-set g r w ∙ a.code;
    same = λ q l tq. elim (cases_eq q r) [
      | inl is ↦ get_or-set_at g r q w 0 is (omega (arith, is, l, a.code))
          ∙ e ∙ sym (get_or-set_at z r q v 0 is (omega (arith, is, l, a.flow)))
      | inr ne ↦ get_or-set_other g r q w 0 ne ∙ a.same q l tq
          ∙ sym (get_or-set_other z r q v 0 ne)
    ];
  }

  -- a move whose registers are below 7 and pass the test
  pub move_like : (n : ℕ) (m : Move) (z g : List ℕ) → is_low m ≡ true
      → ((r : ℕ) → is_moved r m ≡ true → t r ≡ true) → Alike t z g
      → (is_safe m g ≡ is_safe m z) × Alike t (moved n m z) (moved n m g)
  move_like n (SetI r k) z g low p a = (refl, set_both z g r k k refl a)
  move_like n (SetN r) z g low p a = (refl, set_both z g r n n refl a)
  move_like n (SetT r) z g low p a = (refl, set_both z g r (n - 1) (n - 1) refl a)
  move_like n (Mov r s) z g low p a =
      (refl, set_both z g r _ _ (a.same s (grind arith) (p s (grind (arith, eq-eqb s s)))) a)
  move_like n (AddI r k) z g low p a =
      let e = a.same r (grind arith) (p r (eq-eqb r r refl)) in
      let l = set_both z g r _ _ (ap (λ v. v + k) e) a in (ap (λ v. nat_le (v + k) 1023) e, l)
  move_like n (SubI r k) z g low p a =
      let e = a.same r (grind arith) (p r (eq-eqb r r refl)) in
      let l = set_both z g r _ _ (ap (λ v. v - k) e) a in (ap (λ v. nat_le k v) e, l)
  move_like n (Add r s) z g low p a =
      let e = a.same r (grind arith) (p r (grind (arith, eq-eqb r r))) in
      let f = a.same s (grind arith) (p s (grind (arith, eq-eqb s s))) in
      let both : slice_index g r + slice_index g s ≡ slice_index z r + slice_index z s
      = omega arith in
      (ap (λ v. nat_le v 1023) both, set_both z g r _ _ both a)
