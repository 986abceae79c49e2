-- A walk that ends with less of the budget ends with more of it, by the same commands.
use Rattle.width_entry.proofs.Common.{◌≡◌, ℕ, zero, suc, ◌+◌, ◌-◌, ◌<◌, ◌≤◌, Bool, true, false}
use Rattle.width_entry.proofs.Common.{List, [], ◌∷◌, refl, sym, ap, ◌∙◌, subst, arith, ⊎_elim}
use Rattle.width_entry.proofs.Common.{Option, Some, None, ◌≢◌, ◌==◌, if◌then◌else◌, nat_le}
use Rattle.width_entry.proofs.Common.{slice_get, slice_index, slice_set, WIDTH_MAX, WALK_MAX, Uop}
use Rattle.width_entry.proofs.Common.{Done, SetI, SetN, SetT, Mov, Add, AddI, SubI, Bnez, Aap, Ap}
use Rattle.width_entry.proofs.Common.{Why3, Index, Register, Microprogram, Shape, Ended, HasEnded}
use Rattle.width_entry.proofs.Common.{Issue, IssueAap, IssueAp, Next, Stuck, Trace, act, act_at}
use Rattle.width_entry.proofs.Common.{all_in_range, command_at, issue, issued, onto, start, trace}
use Rattle.width_entry.proofs.Common.{trace_is}
use Rattle.std.proofs.Common.{inl, inr}
use Rattle.std.specs.Prelude.{◌⊎◌, length}
use Rattle.uprog_code.specs.Machine.{issues_of}
use Rattle.width_entry.specs.Lines.{line_room}
use Rattle.width_entry.specs.Widths.{IsForWidth, IssuesSame, moved, test_steps, trace_less}

-- where the one ends, the other ends with the same commands
abbrev pub Follows : Trace → Trace → Type 0
Follows t u = (cs : List Issue) → t ≡ Ended cs → u ≡ Ended cs

onto_follows : (c : Issue) (t u : Trace) → Follows t u → Follows (onto (c ∷ []) t) (onto (c ∷ []) u)
onto_follows c (Ended ds) u h cs e = ap (onto (c ∷ [])) (h ds refl) ∙ e
onto_follows c (Stuck at why) u h cs e = absurd (cc)

abbrev NextFollows : Next → Next → Type 0
NextFollows next next' = (q : ℕ) (regs : List ℕ) → Follows (next q regs) (next' q regs)

either_follows : (b : Bool) (t t' u u' : Trace) → Follows t t' → Follows u u'
    → Follows (if b then t else u) (if b then t' else u')
either_follows true t t' u u' h k = h
either_follows false t t' u u' h k = k

stuck_follows : (pc : ℕ) (why : Why3) → Follows (Stuck pc why) (Stuck pc why)
stuck_follows pc why cs e = e

module _ (shape : Shape) (n : ℕ) where
  issued_follows : (c : Issue) (pc : ℕ) (t u : Trace) → Follows t u
      → Follows (issued shape n c pc t) (issued shape n c pc u)
  issued_follows c pc t u h = either_follows (all_in_range shape n c) (onto (c ∷ []) t)
      (onto (c ∷ []) u) (Stuck pc Index) (Stuck pc Index) (onto_follows c t u h)
      (stuck_follows pc Index)

  act_follows : (u : Uop) (next next' : Next) → NextFollows next next' → (pc : ℕ) (regs : List ℕ)
      → Follows (act shape n u next pc regs) (act shape n u next' pc regs)
  act_follows Done next next' h pc regs = λ cs e. e
  act_follows (SetI r k) next next' h pc regs = h (pc + 1) _
  act_follows (SetN r) next next' h pc regs = h (pc + 1) _
  act_follows (SetT r) next next' h pc regs = h (pc + 1) _
  act_follows (Mov r s) next next' h pc regs = h (pc + 1) _
  act_follows (Add r s) next next' h pc regs =
      let regs' = slice_set regs r (slice_index regs r + slice_index regs s) in
      either_follows (nat_le (slice_index regs r + slice_index regs s) 1023) (next (pc + 1) regs')
      (next' (pc + 1) regs') (Stuck pc Register) (Stuck pc Register) (h (pc + 1) regs')
      (stuck_follows pc Register)
  act_follows (AddI r k) next next' h pc regs =
      let regs' = slice_set regs r (slice_index regs r + k) in
      either_follows (nat_le (slice_index regs r + k) 1023) (next (pc + 1) regs')
      (next' (pc + 1) regs') (Stuck pc Register) (Stuck pc Register) (h (pc + 1) regs')
      (stuck_follows pc Register)
  act_follows (SubI r k) next next' h pc regs =
      let regs' = slice_set regs r (slice_index regs r - k) in
      either_follows (nat_le k (slice_index regs r)) (next (pc + 1) regs')
      (next' (pc + 1) regs') (Stuck pc Register) (Stuck pc Register) (h (pc + 1) regs')
      (stuck_follows pc Register)
  act_follows (Bnez r t) next next' h pc regs = either_follows (slice_index regs r == 0)
      (next (pc + 1) regs) (next' (pc + 1) regs) (next t regs) (next' t regs) (h (pc + 1) regs)
      (h t regs)
  act_follows (Aap x y) next next' h pc regs = issued_follows (command_at regs (IssueAap x y)) pc
      (next (pc + 1) regs) (next' (pc + 1) regs) (h (pc + 1) regs)
  act_follows (Ap x) next next' h pc regs = issued_follows (command_at regs (IssueAp x)) pc
      (next (pc + 1) regs) (next' (pc + 1) regs) (h (pc + 1) regs)

  at_follows : (o : Option Uop) (next next' : Next) → NextFollows next next' → (pc : ℕ)
      (regs : List ℕ) → Follows (act_at shape n o next pc regs) (act_at shape n o next' pc regs)
  at_follows None next next' h pc regs = λ cs e. e
  at_follows (Some u) next next' h pc regs = act_follows u next next' h pc regs

  -- with more of the budget
  pub longer : (code : List Uop) (left all pc : ℕ) (regs : List ℕ) → left ≤ all
      → Follows (issue shape code n left pc regs) (issue shape code n all pc regs)
  unfolding issue
  longer code zero all pc regs le = λ cs e. absurd (cc)
  longer code (suc left) zero pc regs le = absurd (omega arith)
  longer code (suc left) (suc all) pc regs le = at_follows (slice_get code pc)
      (issue shape code n left) (issue shape code n all)
      (λ q r. longer code left all q r (omega arith)) pc regs

-- the commands, where it ends
ended_is : (t : Trace) → HasEnded t → t ≡ Ended (issues_of t)
ended_is (Ended cs) h = refl
ended_is (Stuck at why) h = absurd h

moved_ends : (by : ℕ) (t : Trace) → HasEnded (moved by t) → HasEnded t
moved_ends by (Ended cs) h = h
moved_ends by (Stuck at why) h = h

moved_issues : (by : ℕ) (t : Trace) → issues_of (moved by t) ≡ issues_of t
moved_issues by (Ended cs) = refl
moved_issues by (Stuck at why) = refl

none_issued : (t : Trace) → (HasEnded t → ⊥) → issues_of t ≡ []
none_issued (Ended cs) h = absurd (h tt)
none_issued (Stuck at why) h = refl

decided : (t : Trace) → HasEnded t ⊎ (HasEnded t → ⊥)
decided (Ended cs) = inl tt
decided (Stuck at why) = inr (λ h. h)

-- what an entry for a width issues elsewhere, where its walk ends if the entry's own does
pub issues_same : (n m : ℕ) (line : List Issue) (e r : Microprogram) → IsForWidth n line e r
    → 0 < m → m ≤ WIDTH_MAX → m ≢ n
    → (HasEnded (trace e.shape e.code m) → HasEnded (trace r.shape r.code m)) → IssuesSame e r m
issues_same n m line e r is some narrow ne ends =
    let old = trace e.shape e.code m in
    let new = trace r.shape r.code m in
    let less = trace_less (test_steps n m) e m in
    let by = line_room line + 11 in
    let same = is.elsewhere m some narrow ne in
    let follows : Follows less old = λ cs f. sym (trace_is e.shape e.code m)
    ∙ longer e.shape m e.code (WALK_MAX - test_steps n m) WALK_MAX 0 start (omega arith) cs f in
    let there : HasEnded new → old ≡ Ended (issues_of less) = λ h.
    follows (issues_of less) (ended_is less (moved_ends by less (subst HasEnded same h))) in
    record {
      ends = λ h. subst HasEnded (sym (there h)) tt;
      ended = ends;
      issues = ⊎_elim
          (λ (h : HasEnded new). ap issues_of same ∙ moved_issues by less
          ∙ sym (ap issues_of (there h)))
          (λ (h : HasEnded new → ⊥). none_issued new h ∙ sym (none_issued old (λ k. h (ends k))))
          (decided new);
    }
