-- The code of a flow, whose bodies have their indices in registers.
use Rattle.uprog_gen.proofs.Common.{◌≡◌, ℕ, zero, suc, ◌+◌, ◌-◌, ◌*◌, ◌≤◌, Bool, true, cond, List}
use Rattle.uprog_gen.proofs.Common.{[], ◌∷◌, ◌++◌, map, refl, sym, ap, ◌∙◌, subst, arith}
use Rattle.uprog_gen.proofs.Common.{append-nil, slice_index, nat_lt, AllByRecursion, list_all}
use Rattle.uprog_gen.proofs.Common.{and_parts, lt-ltb, ltb-true, WIDTH_MAX, Shape, Issue, Uop}
use Rattle.uprog_gen.proofs.Common.{Place, Sub, Register, Block, FlowOf, EventOf, AllFlow, run}
use Rattle.uprog_gen.proofs.Common.{Moved, Counted, counts, nests, sub_value, rounds_in}
use Rattle.uprog_gen.proofs.Common.{stays_in_registers, nth_place, run_all}
use Rattle.std.proofs.lemmas.List.{get_or_past}
use Rattle.loop_ir.specs.declared.ir.Sub.TheVariants.{Zero}
use Rattle.loop_ir.specs.Flows.EventOf.{Done}
use Rattle.loop_ir.specs.FlowTests.{is_event_safe}
use Rattle.loop_ir.specs.Limits.{is_in_register}
use Rattle.uprog_gen.specs.Code.{register}
use Rattle.uprog_gen.specs.FlowCode.{code_of, size}
use Rattle.uprog_gen.proofs.Coding.FlowSizes.{limit, twice}
use Rattle.uprog_gen.proofs.Rows.Issued.{round_command, rounds_commands}
use Rattle.uprog_gen.proofs.Running.Goes.{HasAt}
use Rattle.uprog_gen.proofs.Running.Runs.{Runs, run_more}
use Rattle.uprog_gen.proofs.Running.Held.{Names, InRange, run_body}
use Rattle.uprog_gen.proofs.Running.Flowed.{Alike, issues, IsFine, flow_runs}

abbrev is_there : Sub → Bool
is_there s = is_in_register (λ r. true) s

-- the register of a place's subscript holds it
in_register : (n : ℕ) (g h : List ℕ) (s : Sub) → Alike g h → is_there s ≡ true
    → slice_index h (register s) ≡ sub_value n 0 g s
in_register n g h Zero a e = get_or_past h 8 0 (omega (arith, a.code))
in_register n g h (Register r) a e =
    let lt = ltb-true r 7 (and_parts (nat_lt r 7) true e).0 in
    ap (λ c. slice_index h (cond c r 8)) (lt-ltb r 8 (omega (arith, lt))) ∙ a.same r lt
in_register n g h s a e = cc

abbrev are_there : List Place → Bool
are_there ps = list_all (λ p. is_there p.sub) ps

there_front : (xs ys : List Place) → are_there (xs ++ ys) ≡ true → (k : ℕ)
    → is_there (nth_place xs k).sub ≡ true
there_front [] ys h k = refl
there_front (x ∷ xs) ys h zero = grind (arith, h)
there_front (x ∷ xs) ys h (suc k) = there_front xs ys (grind (arith, h)) k

there_back : (xs ys : List Place) → are_there (xs ++ ys) ≡ true → (k : ℕ)
    → is_there (nth_place ys k).sub ≡ true
there_back [] ys h k =
    there_front ys [] (subst (λ l. are_there l ≡ true) (sym (append-nil ys)) h) k
there_back (x ∷ xs) ys h k = there_back xs ys (grind (arith, h)) k

-- so it is in a body
abbrev pub Stays : Block → Type 0
Stays p = stays_in_registers (λ r. true) p ≡ true

named : (n : ℕ) (b : Block) (g h : List ℕ) → stays_in_registers (λ r. true) b ≡ true → Alike g h
    → Names n b g h
named n b g h stays a = record {
  reads = λ k. in_register n g h (nth_place b.reads k).sub a
      (there_front b.reads b.writes stays k);
  writes = λ k. in_register n g h (nth_place b.writes k).sub a
      (there_back b.reads b.writes stays k);
}

module _ (head : Shape) (code : List Uop) (n : ℕ) where
  -- the commands of a flow's body
  abbrev issued_by : Block → List ℕ → List Issue
  issued_by p g = map (round_command n (record { part = p; i = 0; regs = g })) p.found

  issues_rounds : (es : List (EventOf Block))
      → issues head issued_by n code es ≡ rounds_commands n (rounds_in es)
  unfolding issues
  issues_rounds [] = refl
  issues_rounds (Done p g ∷ es) = ap (λ l. issued_by p g ++ l) (issues_rounds es)
  issues_rounds (Moved m g ∷ es) = issues_rounds es
  issues_rounds (Counted r g ∷ es) = issues_rounds es

  fine : (es : List (EventOf Block)) → AllByRecursion (InRange head n) (rounds_in es)
      → AllByRecursion (λ r. Stays r.part) (rounds_in es) → list_all (is_event_safe n) es ≡ true
      → AllByRecursion (IsFine head issued_by n code) es
  fine [] ok stays safe = tt
  fine (Done p g ∷ es) ok stays safe = (
    λ h pc a has. run_body head code n p g (Alike g) p.found pc h (named n p g h stays.0 a) a has
        ok.0,
    fine es ok.1 stays.1 safe,
  )
  fine (Moved m g ∷ es) ok stays safe =
      (grind (arith, safe), fine es ok stays (grind (arith, safe)))
  fine (Counted r g ∷ es) ok stays safe =
      (grind (arith, safe), fine es ok stays (grind (arith, safe)))

-- the code of the flow can run from these registers
pub record CanRun (head : Shape) (n : ℕ) (f : FlowOf Block) (g : List ℕ) : Type 0 where
  pub counts : counts f ≡ true
  pub nests : nests 2 f ≡ true
  pub stays : AllFlow Stays f
  pub safe : list_all (is_event_safe n) (run n f g).events ≡ true
  pub ranges : AllByRecursion (InRange head n) (rounds_in (run n f g).events)

pub run_flow : (head : Shape) (code : List Uop) (n : ℕ) → n ≤ WIDTH_MAX → (f : FlowOf Block)
    (pc : ℕ) (g regs : List ℕ) → CanRun head n f g → size f ≤ 4096 → Alike g regs
    → HasAt code pc (code_of f pc)
    → Runs head code n pc regs ((WIDTH_MAX * WIDTH_MAX - 1) * size f)
    (rounds_commands n (rounds_in (run n f g).events)) (pc + size f)
    (Alike (run n f g).regs)
run_flow head code n small f pc g regs can short a has =
    let es = (run n f g).events in
    run_more head code n _ _ _ (limit n f) _ _ _
    (twice n small f can.nests short) (rw (sym (issues_rounds head code n es))
    (flow_runs head (issued_by head code n) n code f pc g regs can.counts a has
    (fine head code n es can.ranges (run_all Block Stays n f can.stays g) can.safe)))
