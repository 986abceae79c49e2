-- One step on the way to the next row command.
use Rattle.std.proofs.Common.{◌≡◌, ℕ, suc, ◌+◌, ◌<◌, Bool, true, false, List, [], ◌∷◌, ◌++◌}
use Rattle.std.proofs.Common.{length, refl, sym, ap, ◌∙◌, subst, Ok, Some, Result}
use Rattle.std.specs.Prelude.{slice_get, slice_index, nat_le, ◌==◌, ◌&&◌, if◌then◌else◌}
use Rattle.uprog_code.specs.declared.code.Uop.{Uop}
use Rattle.uprog_code.specs.declared.code.Uop.TheVariants.{Done, SetI, SetN, SetT, Mov, Add, AddI}
use Rattle.uprog_code.specs.declared.code.Uop.TheVariants.{SubI, Bnez, Aap, Ap}
use Rattle.uprog_code.specs.declared.code.RowRef.{RowRef}
use Rattle.uprog_code.specs.declared.code.RowSpace.{RowSpace}
use Rattle.uprog_code.specs.declared.code.RowSpace.TheVariants as space
use Rattle.uprog_code.specs.declared.registers.RowPosition.{RowPosition}
use Rattle.uprog_code.specs.declared.registers.Issued.{Issued}
use Rattle.uprog_code.specs.declared.registers.Issued.TheVariants as told_as
use Rattle.uprog_code.specs.declared.registers.Turn.{Turn}
use Rattle.uprog_code.specs.declared.registers.Turn.TheVariants.{Over, On, To, Issues}
use Rattle.uprog_code.specs.declared.walker.Why3.{Why3}
use Rattle.uprog_code.specs.declared.walker.Why3.TheVariants.{Index, Register}
use Rattle.uprog_code.specs.Shape.{Shape}
use Rattle.uprog_code.specs.Machine.{Next, Trace, Ended, Stuck, Issue, IssueAap, IssueAp, act}
use Rattle.uprog_code.specs.Machine.{act_at, issue, issued, issues_of, HasEnded, onto}
use Rattle.uprog_code.specs.Machine.{all_in_range, command_at, position, start, trace}
use Rattle.uprog_code.specs.OneStep.{turn_trace, issues_by, issue_of, next_place, HasOperands}
use Rattle.uprog_code.specs.Legal.{IsLegalCode, may_be_first, may_be_second}
use Rattle.uprog_code.specs.Bound.{Bound, address_in, bound, bound_of}
use Rattle.uprog_code.specs.Issued.{AreGood, is_good, is_issued, is_issued_in}
use Rattle.uprog_code.proofs.Kept.{turn_good}
use Rattle.uprog_code.proofs.Steps.{legal_operands, goes_on, not_last, place_in, one_step}
use Rattle.uprog_code.proofs.Steps.{no_more, some_first, start_registers, trace_is}
use Rattle.uprog_code.specs.Commands.{row_commands, commands_from, StandsIn}
use Rattle.uprog_code.specs.declared.TheConstants.{WALK_MAX}
use Rattle.uprog_code.specs.declared.binding.Binding.{Binding}
use Rattle.uprog_code.specs.declared.commands.Walk.{Walk}

ended-onto : (cs : List Issue) (t : Trace) → HasEnded (onto cs t) → HasEnded t
ended-onto cs (Ended ds) h = tt
ended-onto cs (Stuck at why) h = absurd h

issues-onto : (cs : List Issue) (t : Trace) → HasEnded (onto cs t)
    → issues_of (onto cs t) ≡ cs ++ issues_of t
issues-onto cs (Ended ds) h = refl
issues-onto cs (Stuck at why) h = absurd h

-- a step by a head of this shape
pub step_from : (shape shape' : Shape) (code : List Uop) (n all left pc : ℕ) (regs regs' : List ℕ)
    (uop : Uop) (res : Result Turn Why3) → shape' ≡ shape → all ≡ suc left
    → slice_get code pc ≡ Some uop → ((next : Next) (q : ℕ)
    → act shape' n uop next q regs ≡ turn_trace res next q regs')
    → issue shape code n all pc regs ≡ turn_trace res (issue shape code n left) pc regs'
step_from shape shape' code n all left pc regs regs' uop res same e at does =
    one_step shape code n all left pc regs regs' uop res e at (λ next q.
    ap (λ (s : Shape). act s n uop next q regs) (sym same) ∙ does next q)

-- a step that isn't the last: what it issues, and what is left after it
pub record Stepped (shape : Shape) (code : List Uop) (n : ℕ) (here : Trace) (left q : ℕ)
    (regs : List ℕ) (turn : Turn) : Type 0 where
  pub ended : HasEnded (issue shape code n left q regs)
  pub issues : issues_of here ≡ issues_by turn ++ issues_of (issue shape code n left q regs)
  pub place : q < length code
  pub good : AreGood shape n (issues_by turn)

pub stepped : (shape shape' : Shape) (code : List Uop) (n all left pc q : ℕ) (regs regs' : List ℕ)
    (uop : Uop) (turn : Turn) (res : Result Turn Why3) → IsLegalCode shape code → shape' ≡ shape
    → all ≡ suc left → pc < length code → slice_get code pc ≡ Some uop
    → ((next : Next) (p : ℕ) → act shape' n uop next p regs ≡ turn_trace res next p regs')
    → (uop ≡ Done → res ≡ Ok Over)
    → ((size t : ℕ) → HasOperands size uop → res ≡ Ok (To t) → t < size)
    → res ≡ Ok turn → (turn ≡ Over → ⊥) → q ≡ next_place turn pc
    → HasEnded (issue shape code n all pc regs)
    → Stepped shape code n (issue shape code n all pc regs) left q regs' turn
stepped shape shape' code n all left pc q regs regs' uop turn res legal same e lt at does over jumps
    is ne goes ended =
    let next = issue shape code n left in
    let on : issue shape code n all pc regs ≡ onto (issues_by turn) (next q regs') =
    step_from shape shape' code n all left pc regs regs' uop res same e at does
    ∙ ap (λ r. turn_trace r next pc regs') is
    ∙ goes_on turn next pc regs' ne
    ∙ ap (λ p. onto (issues_by turn) (next p regs')) (sym goes) in
    let whole = subst HasEnded on ended in
    let does' : (nx : Next) (p : ℕ) → act shape n uop nx p regs ≡ turn_trace res nx p regs' =
    λ nx p. ap (λ (s : Shape). act s n uop nx p regs) (sym same) ∙ does nx p in
    let more = not_last code pc uop turn res lt at legal.last over is ne in
    let place = place_in (length code) pc uop turn res more
    (legal_operands shape code pc uop legal at) jumps is in
    record {
      ended = ended-onto (issues_by turn) (next q regs') whole;
      issues = ap issues_of on ∙ issues-onto (issues_by turn) (next q regs') whole;
      place = subst (λ p. p < length code) (sym goes) place;
      good = turn_good shape n code pc regs regs' uop turn res legal at does' is;
    }

-- what a row command does where the walk is not stuck at it
issued_on : (shape : Shape) (n : ℕ) (c d : Issue) (p : ℕ) (t : Trace) → c ∷ [] ≡ d ∷ []
    → HasEnded (issued shape n c p t) → (q : ℕ) (u : Trace)
    → issued shape n c q u ≡ onto (d ∷ []) u
issued_on shape n c d p t e ended q u = ranged (all_in_range shape n c) ended
    ∙ ap (λ (cs : List Issue). onto cs u) e
  where
    ranged : (b : Bool) → HasEnded (if b then onto (c ∷ []) t else Stuck p Index)
        → (if b then onto (c ∷ []) u else Stuck q Index) ≡ onto (c ∷ []) u
    ranged true h = refl
    ranged false h = absurd h

row_does : (shape : Shape) (n : ℕ) (uop : Uop) (is : Issued) (regs : List ℕ) (here : Next) (p : ℕ)
    → row_commands regs uop ≡ issue_of is ∷ [] → HasEnded (act shape n uop here p regs)
    → (next : Next) (q : ℕ) → act shape n uop next q regs ≡ turn_trace (Ok (Issues is)) next q regs
row_does shape n Done is regs here p e ended next q = absurd (cc)
row_does shape n (SetI r k) is regs here p e ended next q = absurd (cc)
row_does shape n (SetN r) is regs here p e ended next q = absurd (cc)
row_does shape n (SetT r) is regs here p e ended next q = absurd (cc)
row_does shape n (Mov r s) is regs here p e ended next q = absurd (cc)
row_does shape n (Add r s) is regs here p e ended next q = absurd (cc)
row_does shape n (AddI r k) is regs here p e ended next q = absurd (cc)
row_does shape n (SubI r k) is regs here p e ended next q = absurd (cc)
row_does shape n (Bnez r t) is regs here p e ended next q = absurd (cc)
row_does shape n (Aap x y) is regs here p e ended next q =
    issued_on shape n (command_at regs (IssueAap x y)) (issue_of is) p (here (p + 1) regs) e ended q
    (next (q + 1) regs)
row_does shape n (Ap x) is regs here p e ended next q =
    issued_on shape n (command_at regs (IssueAp x)) (issue_of is) p (here (p + 1) regs) e ended q
    (next (q + 1) regs)

acts : (shape : Shape) (code : List Uop) (n all left pc : ℕ) (regs : List ℕ) (uop : Uop)
    → all ≡ suc left → slice_get code pc ≡ Some uop
    → issue shape code n all pc regs ≡ act shape n uop (issue shape code n left) pc regs
unfolding issue
acts shape code n all left pc regs uop e at =
    ap (λ m. issue shape code n m pc regs) e
    ∙ ap (λ o. act_at shape n o (issue shape code n left) pc regs) at

-- a row command where the trace ends
pub row_step : (shape : Shape) (code : List Uop) (n all left pc : ℕ) (regs : List ℕ) (uop : Uop)
    (is : Issued) → IsLegalCode shape code → all ≡ suc left → pc < length code
    → slice_get code pc ≡ Some uop → row_commands regs uop ≡ issue_of is ∷ []
    → HasEnded (issue shape code n all pc regs)
    → Stepped shape code n (issue shape code n all pc regs) left (pc + 1) regs (Issues is)
row_step shape code n all left pc regs uop is legal e lt at one ended =
    let does = row_does shape n uop is regs (issue shape code n left) pc one
    (subst HasEnded (acts shape code n all left pc regs uop e at) ended) in
    let res : Result Turn Why3 = Ok (Issues is) in
    let over : uop ≡ Done → res ≡ Ok Over = λ (d : uop ≡ Done).
    let none : [] ≡ issue_of is ∷ [] =
    subst (λ (u : Uop). row_commands regs u ≡ issue_of is ∷ []) d one in
    absurd (cc) in
    let jumps : (size t : ℕ) → HasOperands size uop → res ≡ Ok (To t) → t < size =
    λ (size t : ℕ) (h : HasOperands size uop) (f : res ≡ Ok (To t)). absurd (cc) in
    let ne : Issues is ≡ Over → ⊥ = λ (f : Issues is ≡ Over). absurd (cc) in
    stepped shape shape code n all left pc (pc + 1) regs regs uop (Issues is) res legal refl e lt at
    does over jumps refl ne refl ended

-- a row and a command as the walker tells them
abbrev pub place_of : RowRef → RowPosition
place_of r = record { space = r.space; which = r.which; index = r.index }

abbrev pub told : Issue → Issued
told (IssueAap x y) = told_as.Aap (place_of x) (place_of y)
told (IssueAp x) = told_as.Ap (place_of x)

pub told_is : (c : Issue) → issue_of (told c) ≡ c
told_is (IssueAap x y) = refl
told_is (IssueAp x) = refl

pub command_step : (shape : Shape) (code : List Uop) (n all left pc : ℕ) (regs : List ℕ)
    (uop : Uop) (c : Issue) → IsLegalCode shape code → all ≡ suc left → pc < length code
    → slice_get code pc ≡ Some uop → row_commands regs uop ≡ c ∷ []
    → HasEnded (issue shape code n all pc regs)
    → Stepped shape code n (issue shape code n all pc regs) left (pc + 1) regs (Issues (told c))
command_step shape code n all left pc regs uop c legal e lt at one ended =
    row_step shape code n all left pc regs uop (told c) legal e lt at
    (one ∙ ap (λ (d : Issue). d ∷ []) (sym (told_is c))) ended

-- where a row has no position, any gives the same row of a bank
pub placed_good : (shape : Shape) (n : ℕ) (s : RowSpace) (which i : ℕ)
    → is_issued_in shape n s which i ≡ is_issued_in shape n s which (position s i)
placed_good shape n space.B which i = refl
placed_good shape n space.C which i = refl
placed_good shape n space.Result which i = refl
placed_good shape n space.Source which i = refl
placed_good shape n space.ScratchBit which i = refl
placed_good shape n space.ScratchWord which i = refl
placed_good shape n space.Spill which i = refl

pub placed_address : (rows : ℕ) (shape : Shape) (n : ℕ) (b : Bound) (s : RowSpace) (which i : ℕ)
    → address_in rows shape n b s which i ≡ address_in rows shape n b s which (position s i)
placed_address rows shape n b space.B which i = refl
placed_address rows shape n b space.C which i = refl
placed_address rows shape n b space.Result which i = refl
placed_address rows shape n b space.Source which i = refl
placed_address rows shape n b space.ScratchBit which i = refl
placed_address rows shape n b space.ScratchWord which i = refl
placed_address rows shape n b space.Spill which i = refl

-- each row of a good command is one that legal code may name
both : (a b : Bool) → (a && b) ≡ true → (a ≡ true) × (b ≡ true)
both true true e = (refl, refl)
both true false e = absurd (cc)
both false b e = absurd (cc)

pub first_good : (shape : Shape) (n : ℕ) (x y : RowRef) → is_good shape n (IssueAap x y) ≡ true
    → is_issued shape n x ≡ true
first_good shape n x y e =
    let pair = both (is_issued shape n x && may_be_first x.space x.which)
    (is_issued shape n y && may_be_second y.space) e in
    (both (is_issued shape n x) (may_be_first x.space x.which) pair.0).0

pub second_good : (shape : Shape) (n : ℕ) (x y : RowRef) → is_good shape n (IssueAap x y) ≡ true
    → is_issued shape n y ≡ true
second_good shape n x y e =
    let pair = both (is_issued shape n x && may_be_first x.space x.which)
    (is_issued shape n y && may_be_second y.space) e in
    (both (is_issued shape n y) (may_be_second y.space) pair.1).0

pub one_good : (shape : Shape) (n : ℕ) (x : RowRef) → is_good shape n (IssueAp x) ≡ true
    → is_issued shape n x ≡ true
one_good shape n x e = (both (is_issued shape n x) (may_be_first x.space x.which) e).0

-- any other instruction issues nothing
either : (b : Bool) (t u : Trace) → issues_of t ≡ [] → issues_of u ≡ []
    → issues_of (if b then t else u) ≡ []
either true t u e f = e
either false t u e f = f

silent : (shape : Shape) (n : ℕ) (uop : Uop) (regs : List ℕ) → row_commands regs uop ≡ []
    → issues_of (act shape n uop (λ q r. Ended []) 0 regs) ≡ []
silent shape n Done regs e = refl
silent shape n (SetI r k) regs e = refl
silent shape n (SetN r) regs e = refl
silent shape n (SetT r) regs e = refl
silent shape n (Mov r s) regs e = refl
silent shape n (Add r s) regs e =
    either (nat_le (slice_index regs r + slice_index regs s) 1023) (Ended []) (Stuck 0 Register)
    refl refl
silent shape n (AddI r k) regs e =
    either (nat_le (slice_index regs r + k) 1023) (Ended []) (Stuck 0 Register) refl refl
silent shape n (SubI r k) regs e =
    either (nat_le k (slice_index regs r)) (Ended []) (Stuck 0 Register) refl refl
silent shape n (Bnez r t) regs e =
    either (slice_index regs r == 0) (Ended []) (Ended []) refl refl
silent shape n (Aap x y) regs e = absurd (cc)
silent shape n (Ap x) regs e = absurd (cc)

pub quiet : (shape : Shape) (n : ℕ) (uop : Uop) (turn : Turn) (res : Result Turn Why3)
    (regs regs' : List ℕ) → row_commands regs uop ≡ []
    → ((next : Next) (q : ℕ) → act shape n uop next q regs ≡ turn_trace res next q regs')
    → res ≡ Ok turn → issues_by turn ≡ []
quiet shape n uop turn res regs regs' none does is =
    let stop : Next = λ q r. Ended [] in
    alone turn ∙ sym (ap issues_of (does stop 0 ∙ ap (λ r. turn_trace r stop 0 regs') is))
    ∙ silent shape n uop regs none
  where
    alone : (t : Turn)
        → issues_by t ≡ issues_of (turn_trace (Ok t) (λ q r. Ended []) 0 regs')
    alone Over = refl
    alone On = refl
    alone (To p) = refl
    alone (Issues c) = refl

-- where each walk begins
abbrev pub first_walk : Walk
first_walk = record { pc = 0; regs = start; left = WALK_MAX }

-- a walk that ends can be followed from its start
pub start_stands : (shape : Shape) (code : List Uop) (n : ℕ) → IsLegalCode shape code
    → HasEnded (trace shape code n) → StandsIn shape code n first_walk
start_stands shape code n legal ends = record {
  place = some_first shape code legal;
  registers = start_registers;
  ended = subst HasEnded (sym (trace_is shape code n)) ends;
}

-- and has all its commands left there
pub start_commands : (rows : ℕ) (shape : Shape) (code : List Uop) (b : Binding)
    → commands_from rows shape code b first_walk
    ≡ bound rows shape b.n (bound_of b) (issues_of (trace shape code b.n))
start_commands rows shape code b =
    ap (λ (t : Trace). bound rows shape b.n (bound_of b) (issues_of t)) (trace_is shape code b.n)

-- a walk that ends has some of its budget left
pub not_spent : (shape : Shape) (code : List Uop) (n : ℕ) (w : Walk) → StandsIn shape code n w
    → w.left ≡ 0 → ⊥
not_spent shape code n w stands none =
    subst HasEnded (no_more shape code n w.left w.pc w.regs none) stands.ended
