-- What holds of the bodies of flows.
use Rattle.uprog_gen.proofs.Common.{◌≡◌, Bool, true, ◌&&◌, and_parts, Block, FlowOf, TurnsOf}
use Rattle.uprog_gen.proofs.Common.{AllFlow, AllActs, End, Do, Put, If, Loop, Last, Turn}
use Rattle.loop_ir.specs.Flows.{all_flow, all_acts}

-- what follows for each body
module _ (A : Type 0) (P Q : A → Type 0) (by : (a : A) → P a → Q a) where
  mutual
    pub flow_among : (f : FlowOf A) → AllFlow P f → AllFlow Q f
    flow_among End p = tt
    flow_among (Do b k) p = (by b p.0, flow_among k p.1)
    flow_among (Put m k) p = flow_among k p
    flow_among (If r x y k) p = (flow_among x p.0, (flow_among y p.1.0, flow_among k p.1.1))
    flow_among (Loop r ts k) p = (acts_among ts p.0, flow_among k p.1)

    acts_among : (ts : TurnsOf A) → AllActs P ts → AllActs Q ts
    acts_among (Last x) p = flow_among x p
    acts_among (Turn x ts) p = (flow_among x p.0, acts_among ts p.1)

-- where a test passes on all bodies, it passes on each
mutual
  pub flow_tested : (t : Block → Bool) (f : FlowOf Block) → all_flow t f ≡ true
      → AllFlow (λ b. t b ≡ true) f
  flow_tested t End p = tt
  flow_tested t (Do b k) p =
      let q = and_parts (t b) (all_flow t k) p in
      (q.0, flow_tested t k q.1)
  flow_tested t (Put m k) p = flow_tested t k p
  flow_tested t (If r x y k) p =
      let q = and_parts (all_flow t x) (all_flow t y && all_flow t k) p in
      let s = and_parts (all_flow t y) (all_flow t k) q.1 in
      (flow_tested t x q.0, (flow_tested t y s.0, flow_tested t k s.1))
  flow_tested t (Loop r ts k) p =
      let q = and_parts (all_acts t ts) (all_flow t k) p in
      (acts_tested t ts q.0, flow_tested t k q.1)

  acts_tested : (t : Block → Bool) (ts : TurnsOf Block) → all_acts t ts ≡ true
      → AllActs (λ b. t b ≡ true) ts
  acts_tested t (Last x) p = flow_tested t x p
  acts_tested t (Turn x ts) p =
      let q = and_parts (all_flow t x) (all_acts t ts) p in
      (flow_tested t x q.0, acts_tested t ts q.1)
