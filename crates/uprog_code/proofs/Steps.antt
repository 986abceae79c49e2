-- One step of a machine that follows legal code.
use Rattle.std.proofs.Common.{◌≡◌, ℕ, zero, suc, ◌+◌, ◌-◌, ◌<◌, ◌≤◌, Bool, true, false, ◌&&◌, List}
use Rattle.std.proofs.Common.{[], ◌∷◌, length, refl, sym, ap, ◌∙◌, subst, ⊎_elim, arith, Some}
use Rattle.std.proofs.Common.{Result, Ok, Err}
use Rattle.std.specs.Prelude.{nat_lt, nat_le, slice_get, slice_index, count_by, cond}
use Rattle.std.specs.List.{AllByRecursion}
use Rattle.std.proofs.lemmas.List.Sums.{sum_by-cons}
use Rattle.std.proofs.lemmas.Bool.{cases_eq, ltb-true, leb-true}
use Rattle.std.proofs.lemmas.Option.{slice_get_within}
use Rattle.uprog_code.specs.declared.code.Uop.{Uop}
use Rattle.uprog_code.specs.declared.code.Uop.TheVariants.{Done, SetI, SetN, SetT, Mov, Add, AddI}
use Rattle.uprog_code.specs.declared.code.Uop.TheVariants.{SubI, Bnez, Aap, Ap}
use Rattle.uprog_code.specs.declared.TheConstants.{WALK_MAX}
use Rattle.uprog_code.specs.declared.registers.Turn.{Turn}
use Rattle.uprog_code.specs.declared.registers.Turn.TheVariants.{Over, On, To, Issues}
use Rattle.uprog_code.specs.declared.registers.Issued.{Issued}
use Rattle.uprog_code.specs.declared.registers.Issued.TheVariants as issued
use Rattle.uprog_code.specs.declared.walker.Why3.{Why3}
use Rattle.uprog_code.specs.declared.walker.Why3.TheVariants.{Budget}
use Rattle.uprog_code.specs.declared.walker.Counts.{Counts}
use Rattle.uprog_code.specs.declared.walker.BadWalk.{BadWalk}
use Rattle.uprog_code.specs.Shape.{Shape}
use Rattle.uprog_code.specs.Machine.{Trace, Ended, Stuck, Issue, Next, onto, act, act_at, issue}
use Rattle.uprog_code.specs.Machine.{trace, start}
use Rattle.uprog_code.specs.Legal.{is_legal, IsLegalCode}
use Rattle.uprog_code.specs.OneStep.{HasOperands, AreRegisters, turn_trace, next_place, issue_of}
use Rattle.uprog_code.specs.OneStep.{issues_by}
use Rattle.uprog_code.specs.Count.{walked, counts_after, issues_aap, issues_ap}

pub both : (a b : Bool) → (a && b) ≡ true → (a ≡ true) × (b ≡ true)
both true b h = (refl, h)
both false b h = absurd (cc)

pub operands : (shape : Shape) (size : ℕ) (i : Uop) → is_legal shape size i ≡ true
    → HasOperands size i
operands shape size Done h = tt
operands shape size (SetI r k) h = let b = both (nat_lt r 8) (nat_le k 1023) h in
    (ltb-true r 8 b.0, leb-true k 1023 b.1)
operands shape size (SetN r) h = ltb-true r 8 h
operands shape size (SetT r) h = ltb-true r 8 h
operands shape size (Mov r s) h = let b = both (nat_lt r 8) (nat_lt s 8) h in
    (ltb-true r 8 b.0, ltb-true s 8 b.1)
operands shape size (Add r s) h = let b = both (nat_lt r 8) (nat_lt s 8) h in
    (ltb-true r 8 b.0, ltb-true s 8 b.1)
operands shape size (AddI r k) h = let b = both (nat_lt r 8) (nat_le k 1023) h in
    (ltb-true r 8 b.0, leb-true k 1023 b.1)
operands shape size (SubI r k) h = let b = both (nat_lt r 8) (nat_le k 1023) h in
    (ltb-true r 8 b.0, leb-true k 1023 b.1)
operands shape size (Bnez r t) h = let b = both (nat_lt r 8) (nat_lt t size) h in
    (ltb-true r 8 b.0, ltb-true t size b.1)
operands shape size (Aap x y) h = tt
operands shape size (Ap x) h = tt

-- what holds of each element holds of the one at a place
pub at_place : {X : Type 0} (P : X → Type 0) (xs : List X) (k : ℕ) (x : X) → AllByRecursion P xs
    → slice_get xs k ≡ Some x → P x
at_place P [] k x all e = absurd (cc)
at_place P (y ∷ ys) zero x all e = let same : y ≡ x = cc in subst P same all.0
at_place P (y ∷ ys) (suc k) x all e = at_place P ys k x all.1 e

-- the operands of legal code's instructions are in range
pub legal_operands : (shape : Shape) (code : List Uop) (k : ℕ) (i : Uop) → IsLegalCode shape code
    → slice_get code k ≡ Some i → HasOperands (length code) i
legal_operands shape code k i legal e = operands shape (length code) i
    (at_place (λ j. is_legal shape (length code) j ≡ true) code k i legal.each e)

-- the trace is what is issued from the first instruction on
pub trace_is : (shape : Shape) (code : List Uop) (n : ℕ)
    → issue shape code n WALK_MAX 0 start ≡ trace shape code n
unfolding trace
trace_is shape code n = refl

-- a walk whose budget is spent is stuck
pub no_more : (shape : Shape) (code : List Uop) (n left pc : ℕ) (regs : List ℕ) → left ≡ 0
    → issue shape code n left pc regs ≡ Stuck pc Budget
unfolding issue
no_more shape code n left pc regs e = ap (λ m. issue shape code n m pc regs) e

issue_more : (shape : Shape) (code : List Uop) (n left pc : ℕ) (regs : List ℕ)
    → issue shape code n (suc left) pc regs ≡ act_at shape n (slice_get code pc)
    (issue shape code n left) pc regs
unfolding issue
issue_more shape code n left pc regs = refl

-- what is left is what the step leads to
pub one_step : (shape : Shape) (code : List Uop) (n all left pc : ℕ) (regs regs' : List ℕ)
    (uop : Uop) (res : Result Turn Why3) → all ≡ suc left → slice_get code pc ≡ Some uop
    → ((next : Next) (q : ℕ) → act shape n uop next q regs ≡ turn_trace res next q regs')
    → issue shape code n all pc regs ≡ turn_trace res (issue shape code n left) pc regs'
one_step shape code n all left pc regs regs' uop res e at does =
    ap (λ m. issue shape code n m pc regs) e
    ∙ issue_more shape code n left pc regs
    ∙ ap (λ o. act_at shape n o (issue shape code n left) pc regs) at
    ∙ does (issue shape code n left) pc

-- the registers at the start are eight of at most 1023
pub start_registers : AreRegisters start
start_registers = (refl, small)
  where
    small : (k : ℕ) → slice_index start k ≤ 1023
    small zero = omega arith
    small (suc zero) = omega arith
    small (suc (suc zero)) = omega arith
    small (suc (suc (suc zero))) = omega arith
    small (suc (suc (suc (suc zero)))) = omega arith
    small (suc (suc (suc (suc (suc zero))))) = omega arith
    small (suc (suc (suc (suc (suc (suc zero)))))) = omega arith
    small (suc (suc (suc (suc (suc (suc (suc zero))))))) = omega arith
    small (suc (suc (suc (suc (suc (suc (suc (suc k)))))))) = omega arith

onto_none : (t : Trace) → t ≡ onto [] t
onto_none (Ended es) = refl
onto_none (Stuck at why) = refl

-- a step that is not the last goes on at the next place
pub goes_on : (turn : Turn) (next : Next) (pc : ℕ) (regs : List ℕ) → (turn ≡ Over → ⊥)
    → turn_trace (Ok turn) next pc regs ≡ onto (issues_by turn) (next (next_place turn pc) regs)
goes_on Over next pc regs ne = absurd (ne refl)
goes_on On next pc regs ne = onto_none _
goes_on (To t) next pc regs ne = onto_none _
goes_on (Issues c) next pc regs ne = refl

-- the place after the last instruction is never reached
pub not_last : (code : List Uop) (pc : ℕ) (uop : Uop) (turn : Turn) (res : Result Turn Why3)
    → pc < length code → slice_get code pc ≡ Some uop → slice_get code (length code - 1) ≡ Some Done
    → (uop ≡ Done → res ≡ Ok Over) → res ≡ Ok turn → (turn ≡ Over → ⊥) → pc + 1 < length code
not_last code pc uop turn res lt at last over is ne =
    ⊎_elim
    (λ (e : pc ≡ length code - 1).
    let same : Some uop ≡ Some Done = sym at ∙ ap (slice_get code) e ∙ last in
    let done : uop ≡ Done = cc in
    let was : Ok turn ≡ Ok Over = sym is ∙ over done in
    let t : turn ≡ Over = cc in
    absurd (ne t))
    (λ (d : pc ≡ length code - 1 → ⊥). omega arith)
    (cases_eq pc (length code - 1))

-- a step leads to a place in the code
pub place_in : (size pc : ℕ) (uop : Uop) (turn : Turn) (res : Result Turn Why3) → pc + 1 < size
    → HasOperands size uop → ((size t : ℕ) → HasOperands size uop → res ≡ Ok (To t) → t < size)
    → res ≡ Ok turn → next_place turn pc < size
place_in size pc uop Over res lt legal jumps is = omega arith
place_in size pc uop On res lt legal jumps is = lt
place_in size pc uop (To t) res lt legal jumps is = jumps size t legal is
place_in size pc uop (Issues c) res lt legal jumps is = lt

-- counting
abbrev counts : ℕ → ℕ → Result Counts BadWalk
counts a p = Ok (record { aap = a; ap = p })

equal_counts : (a b p q : ℕ) → a ≡ b → p ≡ q → counts a p ≡ counts b q
equal_counts a b p q e f = ap (λ x. counts x p) e ∙ ap (counts b) f

-- what a walk answers that has counted so many before the trace
abbrev pub walked_after : Counts → Trace → Result Counts BadWalk
walked_after c (Ended issues) = Ok (record {
  aap = c.aap + count_by issues_aap issues;
  ap = c.ap + count_by issues_ap issues;
})
walked_after c (Stuck at why) = Err (record { at = at; why = why })

pub none_left : (k : Counts) → walked_after k (Ended []) ≡ Ok k
none_left k = equal_counts (k.aap + 0) k.aap (k.ap + 0) k.ap (omega arith) (omega arith)

pub walked_is : (t : Trace) → walked_after (record { aap = 0; ap = 0 }) t ≡ walked t
walked_is (Ended cs) = grind arith
walked_is (Stuck at why) = refl

count_more : (p : Issue → Bool) (c : Issue) (cs : List Issue)
    → count_by p (c ∷ cs) ≡ cond (p c) 1 0 + count_by p cs
count_more p c cs = sum_by-cons (λ x. cond (p x) 1 0) c cs

one_more : (i : Issued) (c : Counts) (cs : List Issue)
    → counts (c.aap + count_by issues_aap (issue_of i ∷ cs)) (c.ap
    + count_by issues_ap (issue_of i ∷ cs)) ≡ counts ((counts_after (Issues i) c).aap
    + count_by issues_aap cs) ((counts_after (Issues i) c).ap + count_by issues_ap cs)
one_more (issued.Aap x y) c cs =
    let t : count_by issues_aap (issue_of (issued.Aap x y) ∷ cs) ≡ 1 + count_by issues_aap cs =
    count_more issues_aap (issue_of (issued.Aap x y)) cs in
    let o : count_by issues_ap (issue_of (issued.Aap x y) ∷ cs) ≡ 0 + count_by issues_ap cs =
    count_more issues_ap (issue_of (issued.Aap x y)) cs in
    equal_counts (c.aap + count_by issues_aap (issue_of (issued.Aap x y) ∷ cs)) (c.aap + 1
    + count_by issues_aap cs) (c.ap + count_by issues_ap (issue_of (issued.Aap x y) ∷ cs)) (c.ap
    + count_by issues_ap cs) (omega arith) (omega arith)
one_more (issued.Ap x) c cs =
    let t : count_by issues_aap (issue_of (issued.Ap x) ∷ cs) ≡ 0 + count_by issues_aap cs =
    count_more issues_aap (issue_of (issued.Ap x)) cs in
    let o : count_by issues_ap (issue_of (issued.Ap x) ∷ cs) ≡ 1 + count_by issues_ap cs =
    count_more issues_ap (issue_of (issued.Ap x)) cs in
    equal_counts (c.aap + count_by issues_aap (issue_of (issued.Ap x) ∷ cs)) (c.aap
    + count_by issues_aap cs) (c.ap + count_by issues_ap (issue_of (issued.Ap x) ∷ cs)) (c.ap + 1
    + count_by issues_ap cs) (omega arith) (omega arith)

pub counts_on : (turn : Turn) (c : Counts) (t : Trace)
    → walked_after c (onto (issues_by turn) t) ≡ walked_after (counts_after turn c) t
counts_on Over c (Ended cs) = refl
counts_on On c (Ended cs) = refl
counts_on (To p) c (Ended cs) = refl
counts_on (Issues c') c (Ended cs) = one_more c' c cs
counts_on Over c (Stuck at why) = refl
counts_on On c (Stuck at why) = refl
counts_on (To p) c (Stuck at why) = refl
counts_on (Issues (issued.Aap x y)) c (Stuck at why) = refl
counts_on (Issues (issued.Ap x)) c (Stuck at why) = refl

pub few_after : (turn : Turn) (c : Counts) (k : ℕ) → c.aap + c.ap ≤ k
    → (counts_after turn c).aap + (counts_after turn c).ap ≤ k + 1
few_after Over c k h = omega arith
few_after On c k h = omega arith
few_after (To t) c k h = omega arith
few_after (Issues (issued.Aap x y)) c k h = omega arith
few_after (Issues (issued.Ap x)) c k h = omega arith

-- legal code has some instruction
pub some_first : (shape : Shape) (code : List Uop) → IsLegalCode shape code → 0 < length code
some_first shape code legal = let h = slice_get_within code (length code - 1) Done legal.last in
    omega arith
