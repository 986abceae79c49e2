-- A walk that stands again where it stood goes round until its budget is spent.
use Rattle.std.proofs.Common.{◌≡◌, ℕ, zero, suc, ◌+◌, ◌-◌, ◌*◌, ◌/◌, ◌%◌, ◌<◌, ◌≤◌, ◌⊎◌, List, refl}
use Rattle.std.proofs.Common.{sym, ap, ◌∙◌, subst, ⊎_elim, arith, Some, Result, Ok}
use Rattle.std.specs.Prelude.{slice_get}
use Rattle.std.proofs.lemmas.Bool.{cases_eq}
use Rattle.std.proofs.lemmas.Nat.{div-add-mod'}
use Rattle.std.proofs.Math.Nat.{suc-mul}
use Rattle.uprog_code.specs.declared.code.Uop.{Uop}
use Rattle.uprog_code.specs.declared.registers.Turn.{Turn}
use Rattle.uprog_code.specs.declared.registers.Turn.TheVariants.{Over}
use Rattle.uprog_code.specs.declared.walker.Why3.{Why3}
use Rattle.uprog_code.specs.declared.walker.Why3.TheVariants.{Budget}
use Rattle.uprog_code.specs.declared.walker.Counts.{Counts}
use Rattle.uprog_code.specs.declared.walker.State.{State}
use Rattle.uprog_code.specs.Shape.{Shape}
use Rattle.uprog_code.specs.Machine.{Stuck, Next, onto, act, issue}
use Rattle.uprog_code.specs.OneStep.{turn_trace, next_place, issues_by}
use Rattle.uprog_code.proofs.Steps.{no_more, one_step, goes_on, walked_after}

module _ (shape : Shape) (code : List Uop) (n : ℕ) where
  -- the budget is spent before the walk from here ends, and at this place
  abbrev pub IsSpentAt : ℕ → ℕ → List ℕ → ℕ → Type 0
  IsSpentAt left pc regs at = issue shape code n left pc regs ≡ Stuck at Budget

  -- so many steps lead from one state to another: a budget that is spent on the way from the second
  -- one is spent at the same place from the first, and so is one of fewer steps
  pub record Leads (steps pc : ℕ) (regs : List ℕ) (to : ℕ) (after : List ℕ) : Type 0 where
    pub on : (left at : ℕ) → IsSpentAt left to after at → IsSpentAt (left + steps) pc regs at
    pub within : (left : ℕ) → left ≤ steps → (at : ℕ) × IsSpentAt left pc regs at

  pub stays : (steps pc : ℕ) (regs : List ℕ) → steps ≡ 0 → Leads steps pc regs pc regs
  stays steps pc regs none = record {
    on = λ left at e.
        let same : left + steps ≡ left = omega arith in
        ap (λ k. issue shape code n k pc regs) same ∙ e;
    within = λ left few. (pc, no_more shape code n left pc regs (omega arith));
  }

  -- a step that goes on
  pub step_leads : (all left pc : ℕ) (regs regs' : List ℕ) (uop : Uop) (turn : Turn)
      (res : Result Turn Why3) → all ≡ suc left → slice_get code pc ≡ Some uop
      → ((next : Next) (q : ℕ) → act shape n uop next q regs ≡ turn_trace res next q regs')
      → res ≡ Ok turn → (turn ≡ Over → ⊥) → (at : ℕ)
      → IsSpentAt left (next_place turn pc) regs' at → IsSpentAt all pc regs at
  step_leads all left pc regs regs' uop turn res e found does is ne at spent =
      one_step shape code n all left pc regs regs' uop res e found does
      ∙ ap (λ r. turn_trace r (issue shape code n left) pc regs') is
      ∙ goes_on turn (issue shape code n left) pc regs' ne
      ∙ ap (onto (issues_by turn)) spent

  -- one step more
  pub leads_on : (steps more pc : ℕ) (regs : List ℕ) (to : ℕ) (after : List ℕ) (to' : ℕ)
      (after' : List ℕ) → Leads steps pc regs to after → more ≡ steps + 1
      → ((all left at : ℕ) → all ≡ suc left → IsSpentAt left to' after' at
      → IsSpentAt all to after at) → Leads more pc regs to' after'
  leads_on steps more pc regs to after to' after' h e step = record { on = on; within = within }
    where
      on : (left at : ℕ) → IsSpentAt left to' after' at → IsSpentAt (left + more) pc regs at
      on left at spent =
          let same : left + more ≡ left + 1 + steps = omega arith in
          ap (λ k. issue shape code n k pc regs) same
          ∙ h.on (left + 1) at (step (left + 1) left at (omega arith) spent)

      within : (left : ℕ) → left ≤ more → (at : ℕ) × IsSpentAt left pc regs at
      within left few = ⊎_elim
          (λ (all : left ≡ more).
          let same : left ≡ 0 + more = omega arith in (
            to',
            ap (λ k. issue shape code n k pc regs) same
                ∙ on 0 to' (no_more shape code n 0 to' after' refl),
          ))
          (λ (less : left ≡ more → ⊥). h.within left (omega arith))
          (cases_eq left more)

  -- whole rounds change nothing
  around : (p pc : ℕ) (regs : List ℕ) → Leads p pc regs pc regs → (r at : ℕ)
      → IsSpentAt r pc regs at → (q left : ℕ) → left ≡ q * p + r → IsSpentAt left pc regs at
  around p pc regs h r at spent zero left e =
      let same : left ≡ r = omega arith in ap (λ k. issue shape code n k pc regs) same ∙ spent
  around p pc regs h r at spent (suc q) left e =
      let same : left ≡ q * p + r + p = omega (arith, suc-mul q p) in
      ap (λ k. issue shape code n k pc regs) same
      ∙ h.on (q * p + r) at (around p pc regs h r at spent q (q * p + r) refl)

  -- so a walk that stands where it stood is stuck at the same place when whole rounds are left out
  rounds : (p pc : ℕ) (regs : List ℕ) → Leads p pc regs pc regs → 0 < p → (counts : Counts)
      (left : ℕ) → walked_after counts (issue shape code n (left % p) pc regs)
      ≡ walked_after counts (issue shape code n left pc regs)
  rounds p pc regs h some counts left =
      let s = h.within (left % p) (omega arith) in
      let all = around p pc regs h (left % p) s.0 s.1 (left / p) left
      (sym (div-add-mod' left p)) in
      ap (walked_after counts) (s.1 ∙ sym all)

  -- the walk from here is the same whether it is to end at one step or at another, earlier one
  pub record EndsAlike (here : State) (end end' : ℕ) (counts : Counts) : Type 0 where
    pub later : here.step ≤ end'
    pub earlier : end' ≤ end
    pub same : walked_after counts (issue shape code n (end' - here.step) here.pc here.regs)
        ≡ walked_after counts (issue shape code n (end - here.step) here.pc here.regs)

  pub ends_alike : (mark here : State) (end end' : ℕ) (counts : Counts) → mark.step < here.step
      → here.step ≤ end
      → Leads (here.step - mark.step) mark.pc mark.regs here.pc here.regs
      → (end' ≡ end) ⊎ ((mark.pc ≡ here.pc) × (mark.regs ≡ here.regs)
      × (end' ≡ here.step + (end - here.step) % (here.step - mark.step)))
      → EndsAlike here end end' counts
  ends_alike mark here end end' counts later before h is = ⊎_elim same again is
    where
      same : end' ≡ end → EndsAlike here end end' counts
      same e = record {
        later = omega arith;
        earlier = omega arith;
        same = ap (λ k. walked_after counts (issue shape code n (k - here.step) here.pc here.regs))
            e;
      }

      again : (mark.pc ≡ here.pc) × (mark.regs ≡ here.regs)
          × (end' ≡ here.step + (end - here.step) % (here.step - mark.step))
          → EndsAlike here end end' counts
      again a =
          let p = here.step - mark.step in
          let e = a.2 in
          let some : 0 < p = omega arith in
          let round = subst (λ (x : ℕ). Leads p x here.regs here.pc here.regs) a.0
          (subst (λ (r : List ℕ). Leads p mark.pc r here.pc here.regs) a.1 h) in
          let left : end' - here.step ≡ (end - here.step) % p = omega arith in
          record {
            later = omega arith;
            earlier = omega arith;
            same = ap (λ k. walked_after counts (issue shape code n k here.pc here.regs)) left
                ∙ rounds p here.pc here.regs round some counts (end - here.step);
          }

  -- the state that is kept leads here
  pub kept_leads : (mark here kept : State) → mark.step < here.step
      → Leads (here.step - mark.step) mark.pc mark.regs here.pc here.regs
      → (kept ≡ mark) ⊎ (kept ≡ here) → (kept.step ≤ here.step)
      × Leads (here.step - kept.step) kept.pc kept.regs here.pc here.regs
  kept_leads mark here kept later h is = ⊎_elim
      (λ (e : kept ≡ mark). subst (λ (k : State). (k.step ≤ here.step)
      × Leads (here.step - k.step) k.pc k.regs here.pc here.regs) (sym e) (omega arith, h))
      (λ (e : kept ≡ here). subst (λ (k : State). (k.step ≤ here.step)
      × Leads (here.step - k.step) k.pc k.regs here.pc here.regs) (sym e)
      (omega arith, stays (here.step - here.step) here.pc here.regs (omega arith)))
      is
