-- The code of flows, one after another, issues the commands of all their rounds.
use Rattle.uprog_gen.proofs.Common.{◌≡◌, ℕ, suc, ◌+◌, ◌-◌, ◌*◌, ◌<◌, ◌≤◌, List, [], ◌∷◌, ◌++◌, map}
use Rattle.uprog_gen.proofs.Common.{length, Some, refl, sym, ap, ◌∙◌, subst, arith, append-nil}
use Rattle.uprog_gen.proofs.Common.{append_assoc, length-append, slice_get, WIDTH_MAX, Ended, issue}
use Rattle.uprog_gen.proofs.Common.{trace, Uop, Done, Shape, FlowOf, run, RoundOf, rounds_in, Block}
use Rattle.uprog_code.specs.declared.TheConstants.{WALK_MAX}
use Rattle.uprog_code.specs.Machine.{start}
use Rattle.uprog_gen.specs.FlowCode.{code_of, size}
use Rattle.uprog_gen.proofs.Coding.FlowSizes.{code_long, flows_code}
use Rattle.uprog_gen.proofs.Rows.Issued.{round_command, rounds_commands}
use Rattle.uprog_gen.proofs.Running.Goes.{HasAt, has_front, has_back, has_all, Goes}
use Rattle.uprog_gen.proofs.Running.Runs.{Runs, run_then, run_none, run_at}
use Rattle.uprog_gen.proofs.Running.Flowed.{Alike}
use Rattle.uprog_gen.proofs.Running.FlowStep.{CanRun, run_flow}

-- the rounds of flows, each from the registers that the one before it left
abbrev pub flows_rounds : ℕ → List (FlowOf Block) → List ℕ → List (RoundOf Block)
flows_rounds n [] g = []
flows_rounds n (f ∷ fs) g = rounds_in (run n f g).events ++ flows_rounds n fs (run n f g).regs

-- the code of each can run from there
abbrev pub CanRunAll : Shape → ℕ → List (FlowOf Block) → List ℕ → Type 0
CanRunAll head n [] g = Unit {0}
CanRunAll head n (f ∷ fs) g = CanRun head n f g × CanRunAll head n fs (run n f g).regs

pub commands_append : (n : ℕ) (xs ys : List (RoundOf Block))
    → rounds_commands n (xs ++ ys) ≡ rounds_commands n xs ++ rounds_commands n ys
commands_append n [] ys = refl
commands_append n (r ∷ rs) ys = rw (commands_append n rs ys) (sym (append_assoc
    (map (round_command n r) r.part.found) (rounds_commands n rs) (rounds_commands n ys)))

-- how many instructions are done at most for each that stands in code of at most 4096
abbrev most_turns : ℕ
most_turns = WIDTH_MAX * WIDTH_MAX - 1

run_flows : (head : Shape) (code : List Uop) (n : ℕ) → n ≤ WIDTH_MAX → (fs : List (FlowOf Block))
    (pc : ℕ) (g regs : List ℕ) → CanRunAll head n fs g
    → length (flows_code fs pc) ≤ 4096 → Alike g regs
    → HasAt code pc (flows_code fs pc)
    → Runs head code n pc regs (most_turns * length (flows_code fs pc))
    (rounds_commands n (flows_rounds n fs g)) (pc + length (flows_code fs pc))
    (λ r. Unit {0})
run_flows head code n small [] pc g regs can short a has =
    run_none head code n pc (pc + 0) regs (λ r. Unit {0}) (omega arith) tt
run_flows head code n small (f ∷ fs) pc g regs can short a has =
    let k = size f in
    let front = code_of f pc in
    let more = flows_code fs (pc + k) in
    let m = length more in
    let long = code_long f pc in
    let len : length (front ++ more) ≡ k + m = omega (arith, length-append front more, long) in
    let h = run n f g in
    let limit : most_turns * k + most_turns * m ≡ most_turns * length (front ++ more) =
    omega (arith, len) in
    run_at head code n _ (pc + k + m) _ _ _ _ _ (omega (arith, len))
    (rw (commands_append n (rounds_in h.events) (flows_rounds n fs h.regs))
    (run_then head code n _ (pc + k) _ _ _ _ _ _ _ _ _ limit
    (run_flow head code n small f pc g regs can.0 (omega (arith, len, short)) a
    (has_front code pc front more has))
    (λ r b. run_flows head code n small fs (pc + k) h.regs r can.1 (omega (arith, len, short)) b
    (subst (λ l. HasAt code (pc + l) more) long (has_back code pc front more has)))))

-- the trace: sixteen statements of 256 instructions never reach the budget
pub flows_trace : (head : Shape) (n : ℕ) (fs : List (FlowOf Block)) → n ≤ WIDTH_MAX
    → length (flows_code fs 0) ≤ 4096 → CanRunAll head n fs start
    → trace head (flows_code fs 0 ++ Done ∷ []) n
    ≡ Ended (rounds_commands n (flows_rounds n fs start))
unfolding trace issue
flows_trace head n fs small short can =
    let is = flows_code fs 0 in
    let code = is ++ Done ∷ [] in
    let has = has_all code [] in
    let a = run_flows head code n small fs 0 start start can short
    (record { flow = refl; code = refl; same = λ q lt. refl }) (has_front code 0 is (Done ∷ []) has) in
    let at = (has_back code 0 is (Done ∷ []) has).0 in
    let enough : a.count < WALK_MAX = in_budget a.count (length is) short a.few in
    last a.count (WALK_MAX) (0 + length is) a.regs' enough at a.goes
  where
    in_budget : (k size : ℕ) → size ≤ 4096 → k ≤ most_turns * size → k < WALK_MAX
    in_budget k size s few = omega (arith, few)

    last : (k all pc : ℕ) (r : List ℕ) → k < all
        → slice_get (flows_code fs 0 ++ Done ∷ []) pc ≡ Some Done
        → Goes head (flows_code fs 0 ++ Done ∷ []) n 0 start k
        (rounds_commands n (flows_rounds n fs start)) pc r
        → issue head (flows_code fs 0 ++ Done ∷ []) n all 0 start
        ≡ Ended (rounds_commands n (flows_rounds n fs start))
    last k all pc r lt at g =
        let left = all - k - 1 in
        g.by all (suc left) (omega arith)
        ∙ rw at (ap Ended (append-nil (rounds_commands n (flows_rounds n fs start))))
