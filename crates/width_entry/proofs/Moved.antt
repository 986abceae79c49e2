-- Code behind other instructions issues what it issues alone.
use Rattle.width_entry.proofs.Common.{◌≡◌, ℕ, zero, suc, ◌+◌, ◌-◌, Bool, true, false, List, [], ◌∷◌}
use Rattle.width_entry.proofs.Common.{◌++◌, length, map, refl, ap, ◌∙◌, arith, Option, Some, None}
use Rattle.width_entry.proofs.Common.{◌==◌, if◌then◌else◌, nat_le, slice_get, slice_index}
use Rattle.width_entry.proofs.Common.{slice_set, option_map, slice_get-map, Uop, Done, SetI, SetN}
use Rattle.width_entry.proofs.Common.{SetT, Mov, Add, AddI, SubI, Bnez, Aap, Ap, Why3, Budget}
use Rattle.width_entry.proofs.Common.{Index, Register, Shape, Ended, Issue, IssueAap, IssueAp, Next}
use Rattle.width_entry.proofs.Common.{Stuck, Trace, act, act_at, all_in_range, command_at, issue}
use Rattle.width_entry.proofs.Common.{issued, onto}
use Rattle.width_entry.specs.Code.{moved_uop}
use Rattle.width_entry.specs.Widths.{moved}
use Rattle.width_entry.proofs.Steps.{beyond}

moved_onto : (by : ℕ) (cs : List Issue) (t : Trace) → onto cs (moved by t) ≡ moved by (onto cs t)
moved_onto by cs (Ended ds) = refl
moved_onto by cs (Stuck at why) = refl

stuck_on : (by pc pc' : ℕ) (why : Why3) → pc' ≡ pc + by → Stuck pc' why ≡ moved by (Stuck pc why)
stuck_on by pc pc' why e = ap (λ q. Stuck q why) e

-- what follows, where all of it is moved
abbrev IsNext : ℕ → Next → Next → Type 0
IsNext by next next' = (q q' : ℕ) (regs : List ℕ) → q' ≡ q + by
    → next' q' regs ≡ moved by (next q regs)

module _ (shape : Shape) (n by : ℕ) where
  either : (b : Bool) (t t' u u' : Trace) → t' ≡ moved by t → u' ≡ moved by u
      → (if b then t' else u') ≡ moved by (if b then t else u)
  either true t t' u u' e f = e
  either false t t' u u' e f = f

  issued_on : (c : Issue) (pc pc' : ℕ) (t t' : Trace) → pc' ≡ pc + by → t' ≡ moved by t
      → issued shape n c pc' t' ≡ moved by (issued shape n c pc t)
  issued_on c pc pc' t t' e f = either (all_in_range shape n c) (onto (c ∷ []) t)
      (onto (c ∷ []) t') (Stuck pc Index) (Stuck pc' Index)
      (ap (onto (c ∷ [])) f ∙ moved_onto by (c ∷ []) t) (stuck_on by pc pc' Index e)

  act_on : (u : Uop) (next next' : Next) → IsNext by next next' → (pc pc' : ℕ) (regs : List ℕ)
      → pc' ≡ pc + by
      → act shape n (moved_uop by u) next' pc' regs ≡ moved by (act shape n u next pc regs)
  act_on Done next next' h pc pc' regs e = refl
  act_on (SetI r k) next next' h pc pc' regs e = h (pc + 1) (pc' + 1) _ (omega arith)
  act_on (SetN r) next next' h pc pc' regs e = h (pc + 1) (pc' + 1) _ (omega arith)
  act_on (SetT r) next next' h pc pc' regs e = h (pc + 1) (pc' + 1) _ (omega arith)
  act_on (Mov r s) next next' h pc pc' regs e = h (pc + 1) (pc' + 1) _ (omega arith)
  act_on (Add r s) next next' h pc pc' regs e =
      let regs' = slice_set regs r (slice_index regs r + slice_index regs s) in
      either (nat_le (slice_index regs r + slice_index regs s) 1023) (next (pc + 1) regs')
      (next' (pc' + 1) regs') (Stuck pc Register) (Stuck pc' Register)
      (h (pc + 1) (pc' + 1) regs' (omega arith)) (stuck_on by pc pc' Register e)
  act_on (AddI r k) next next' h pc pc' regs e =
      let regs' = slice_set regs r (slice_index regs r + k) in
      either (nat_le (slice_index regs r + k) 1023) (next (pc + 1) regs') (next' (pc' + 1) regs')
      (Stuck pc Register) (Stuck pc' Register) (h (pc + 1) (pc' + 1) regs' (omega arith))
      (stuck_on by pc pc' Register e)
  act_on (SubI r k) next next' h pc pc' regs e =
      let regs' = slice_set regs r (slice_index regs r - k) in
      either (nat_le k (slice_index regs r)) (next (pc + 1) regs') (next' (pc' + 1) regs')
      (Stuck pc Register) (Stuck pc' Register) (h (pc + 1) (pc' + 1) regs' (omega arith))
      (stuck_on by pc pc' Register e)
  act_on (Bnez r t) next next' h pc pc' regs e =
      either (slice_index regs r == 0) (next (pc + 1) regs) (next' (pc' + 1) regs) (next t regs)
      (next' (t + by) regs) (h (pc + 1) (pc' + 1) regs (omega arith)) (h t (t + by) regs refl)
  act_on (Aap x y) next next' h pc pc' regs e =
      issued_on (command_at regs (IssueAap x y)) pc pc' (next (pc + 1) regs)
      (next' (pc' + 1) regs) e (h (pc + 1) (pc' + 1) regs (omega arith))
  act_on (Ap x) next next' h pc pc' regs e =
      issued_on (command_at regs (IssueAp x)) pc pc' (next (pc + 1) regs) (next' (pc' + 1) regs) e
      (h (pc + 1) (pc' + 1) regs (omega arith))

  at_on : (o : Option Uop) (next next' : Next) → IsNext by next next' → (pc pc' : ℕ)
      (regs : List ℕ) → pc' ≡ pc + by
      → act_at shape n (option_map (moved_uop by) o) next' pc' regs
      ≡ moved by (act_at shape n o next pc regs)
  at_on None next next' h pc pc' regs e = refl
  at_on (Some u) next next' h pc pc' regs e = act_on u next next' h pc pc' regs e

  -- from a place of the moved code on
  pub moved_walk : (own pre : List Uop) → length pre ≡ by → (left pc pc' : ℕ) (regs : List ℕ)
      → pc' ≡ pc + by → issue shape (pre ++ map (moved_uop by) own) n left pc' regs
      ≡ moved by (issue shape own n left pc regs)
  unfolding issue
  moved_walk own pre long zero pc pc' regs e = stuck_on by pc pc' Budget e
  moved_walk own pre long (suc left) pc pc' regs e =
      let code = pre ++ map (moved_uop by) own in
      ap (λ o. act_at shape n o (issue shape code n left) pc' regs)
      (beyond pre (map (moved_uop by) own) pc pc' (omega (arith, long, e))
      ∙ slice_get-map (moved_uop by) own pc)
      ∙ at_on (slice_get own pc) (issue shape own n left) (issue shape code n left)
      (λ q q' r f. moved_walk own pre long left q q' r f) pc pc' regs e
