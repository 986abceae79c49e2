-- How long the code of a flow is, and how many instructions of it are walked.
use Rattle.uprog_gen.proofs.Common.{◌≡◌, ℕ, ◌+◌, ◌-◌, ◌*◌, ◌≤◌, true, List, [], ◌∷◌, ◌++◌, length}
use Rattle.uprog_gen.proofs.Common.{refl, arith, length-append, ◌&&◌, and_parts, length-map}
use Rattle.uprog_gen.proofs.Common.{mul-le-mul_right, WIDTH_MAX, Uop, FlowOf, TurnsOf, End, Do, Put}
use Rattle.uprog_gen.proofs.Common.{If, Loop, Last, Turn, AllFlow, AllActs, flow_size, nests}
use Rattle.uprog_gen.proofs.Common.{body_cost, Block, IsSmall, turn-most}
use Rattle.loop_ir.specs.Flows.{acts_size}
use Rattle.loop_ir.specs.FlowTests.{all_nest}
use Rattle.uprog_gen.specs.Code.{code_uop, body_uops}
use Rattle.uprog_gen.specs.FlowCode.{size, turns_size, code_of, turns_code}

-- the code of flows, one after another, whose first instruction has this place
abbrev pub flows_code : List (FlowOf Block) → ℕ → List Uop
flows_code [] pc = []
flows_code (f ∷ fs) pc = code_of f pc ++ flows_code fs (pc + size f)

abbrev mutual
  -- how many instructions are walked at most, where no loop has more than n iterations
  pub limit : ℕ → FlowOf Block → ℕ
  limit n End = 0
  limit n (Do b k) = length (body_uops b) + limit n k
  limit n (Put m k) = 1 + limit n k
  limit n (If r x y k) = 3 + (limit n x + limit n y) + limit n k
  limit n (Loop r ts k) = 5 + n * turns_limit n ts + limit n k

  pub turns_limit : ℕ → TurnsOf Block → ℕ
  turns_limit n (Last x) = 2 + limit n x
  turns_limit n (Turn x ts) = 4 + limit n x + turns_limit n ts

mutual
  pub code_long : (f : FlowOf Block) (pc : ℕ) → length (code_of f pc) ≡ size f
  code_long End pc = refl
  code_long (Do b k) pc =
      omega (arith, length-append {A = Uop}, code_long k (pc + length (body_uops b)))
  code_long (Put m k) pc = omega (arith, code_long k (pc + 1))
  code_long (If r x y k) pc =
      let at_x = pc + 1 + size y + 2 in
      omega (
        arith,
        length-append {A = Uop},
        code_long y (pc + 1),
        code_long x at_x,
        code_long k (at_x + size x),
      )
  code_long (Loop r ts k) pc =
      let top = pc + 1 + 2 in
      omega (
        arith,
        length-append {A = Uop},
        turns_long r top (pc + 1) ts top,
        code_long k (top + turns_size ts),
      )

  pub turns_long : (r top out : ℕ) (ts : TurnsOf Block) (pc : ℕ)
      → length (turns_code r top out ts pc) ≡ turns_size ts
  turns_long r top out (Last x) pc =
      omega (arith, length-append {A = Uop}, code_long x (pc + 1))
  turns_long r top out (Turn x ts) pc =
      let next = pc + 1 + size x + 1 + 2 in
      omega (
        arith,
        length-append {A = Uop},
        code_long x (pc + 1),
        turns_long r top out ts next,
      )

-- the code of one flow, and that of more
pub flows_long : (f : FlowOf Block) (fs : List (FlowOf Block)) (pc : ℕ)
    → length (flows_code (f ∷ fs) pc)
    ≡ size f + length (flows_code fs (pc + size f))
flows_long f fs pc = omega (arith, length-append {A = Uop}, code_long f pc)

-- a body has no more instructions than its nodes and outputs allow
body_few : (p : Block) → IsSmall p → length (body_uops p) ≤ body_cost p
body_few p is = omega (arith, length-map p.found (code_uop p), turn-most p is.commands)

mutual
  pub flow_few : (f : FlowOf Block) → AllFlow IsSmall f
      → size f ≤ flow_size body_cost f
  flow_few End h = omega arith
  flow_few (Do b k) h = omega (arith, body_few b h.0, flow_few k h.1)
  flow_few (Put m k) h = omega (arith, flow_few k h)
  flow_few (If r x y k) h = omega (arith, flow_few x h.0, flow_few y h.1.0, flow_few k h.1.1)
  flow_few (Loop r ts k) h = omega (arith, acts_few ts h.0, flow_few k h.1)

  pub acts_few : (ts : TurnsOf Block) → AllActs IsSmall ts
      → turns_size ts ≤ acts_size body_cost ts
  acts_few (Last x) h = omega (arith, flow_few x h)
  acts_few (Turn x ts) h = omega (arith, flow_few x h.0, acts_few ts h.1)

-- Walks: as many instructions as stand in the code, times the greatest width for each of two loops
-- that stand inside one another
module _ (n : ℕ) (small : n ≤ WIDTH_MAX) where
  mutual
    straight : (f : FlowOf Block) → nests 0 f ≡ true → limit n f ≤ size f
    straight End h = omega arith
    straight (Do b k) h = omega (arith, straight k h)
    straight (Put m k) h = omega (arith, straight k h)
    straight (If r x y k) h =
        let p = and_parts (nests 0 x) (nests 0 y && nests 0 k) h in
        let q = and_parts (nests 0 y) (nests 0 k) p.1 in
        omega (arith, straight x p.0, straight y q.0, straight k q.1)
    straight (Loop r ts k) h = cc

    straight_acts : (ts : TurnsOf Block) → all_nest 0 ts ≡ true → turns_limit n ts ≤ turns_size ts
    straight_acts (Last x) h = omega (arith, straight x h)
    straight_acts (Turn x ts) h =
        let p = and_parts (nests 0 x) (all_nest 0 ts) h in
        omega (arith, straight x p.0, straight_acts ts p.1)

  mutual
    once : (f : FlowOf Block) → nests 1 f ≡ true → limit n f ≤ WIDTH_MAX * size f
    once End h = omega arith
    once (Do b k) h = omega (arith, once k h)
    once (Put m k) h = omega (arith, once k h)
    once (If r x y k) h =
        let p = and_parts (nests 1 x) (nests 1 y && nests 1 k) h in
        let q = and_parts (nests 1 y) (nests 1 k) p.1 in
        omega (arith, once x p.0, once y q.0, once k q.1)
    once (Loop r ts k) h =
        let p = and_parts (all_nest 0 ts) (nests 1 k) h in
        let most : n * turns_limit n ts ≤ WIDTH_MAX * turns_limit n ts =
        mul-le-mul_right (turns_limit n ts) small in
        omega (arith, most, straight_acts ts p.0, once k p.1)

    once_acts : (ts : TurnsOf Block) → all_nest 1 ts ≡ true
        → turns_limit n ts ≤ WIDTH_MAX * turns_size ts
    once_acts (Last x) h = omega (arith, once x h)
    once_acts (Turn x ts) h =
        let p = and_parts (nests 1 x) (all_nest 1 ts) h in
        omega (arith, once x p.0, once_acts ts p.1)

  pub twice : (f : FlowOf Block) → nests 2 f ≡ true → size f ≤ 4096
      → limit n f ≤ (WIDTH_MAX * WIDTH_MAX - 1) * size f
  twice End h s = omega arith
  twice (Do b k) h s = let lk = twice k h (omega (arith, s)) in omega (arith, lk)
  twice (Put m k) h s = let lk = twice k h (omega (arith, s)) in omega (arith, lk)
  twice (If r x y k) h s =
      let p = and_parts (nests 2 x) (nests 2 y && nests 2 k) h in
      let q = and_parts (nests 2 y) (nests 2 k) p.1 in
      let lx = twice x p.0 (omega (arith, s)) in
      let ly = twice y q.0 (omega (arith, s)) in
      let lk = twice k q.1 (omega (arith, s)) in
      omega (arith, lx, ly, lk)
  twice (Loop r ts k) h s =
      let p = and_parts (all_nest 1 ts) (nests 2 k) h in
      let lk = twice k p.1 (omega (arith, s)) in
      let most : n * turns_limit n ts ≤ WIDTH_MAX * turns_limit n ts =
      mul-le-mul_right (turns_limit n ts) small in
      omega (arith, most, once_acts ts p.0, lk, s)
