-- Flows as plain data, and what a run of one does.
use Rattle.std.specs.Prelude.{ℕ, zero, suc, ◌+◌, ◌-◌, ◌==◌, if◌then◌else◌, List, [], ◌∷◌, ◌++◌}
use Rattle.std.specs.Prelude.{slice_index, slice_set, ◌&&◌, Bool, true}
use Rattle.loop_ir.specs.declared.ir.Move.{Move}
use Rattle.loop_ir.specs.declared.ir.Move.TheVariants.{SetI, SetN, SetT, Mov, AddI, SubI, Add}

mutual
  -- one after another: a body, a move, a choice by whether a register is not 0, and a loop whose
  -- register counts its iterations down to 0; the last flow is what follows
  pub data FlowOf (A : Type 0) : Type 0 where
    End : FlowOf A
    Do : A → FlowOf A → FlowOf A
    Put : Move → FlowOf A → FlowOf A
    If : ℕ → FlowOf A → FlowOf A → FlowOf A → FlowOf A
    Loop : ℕ → TurnsOf A → FlowOf A → FlowOf A

  -- what a loop does in turn, one an iteration
  pub data TurnsOf (A : Type 0) : Type 0 where
    Last : FlowOf A → TurnsOf A
    Turn : FlowOf A → TurnsOf A → TurnsOf A

-- what happens in a run: a body with the registers as they stand, a move, or a loop that begins to
-- count a register down
pub data EventOf (A : Type 0) : Type 0 where
  Done : A → List ℕ → EventOf A
  Moved : Move → List ℕ → EventOf A
  Counted : ℕ → List ℕ → EventOf A

-- the events of a run, and the registers after it
pub record RunOf (A : Type 0) : Type 0 where
  pub events : List (EventOf A)
  pub regs : List ℕ

-- the registers as a step that is a flow begins
abbrev pub zeros : List ℕ
zeros = 0 ∷ 0 ∷ 0 ∷ 0 ∷ 0 ∷ 0 ∷ 0 ∷ 0 ∷ []

-- the registers after a move, at width n
abbrev pub moved : ℕ → Move → List ℕ → List ℕ
moved n (SetI r k) g = slice_set g r k
moved n (SetN r) g = slice_set g r n
moved n (SetT r) g = slice_set g r (n - 1)
moved n (Mov r s) g = slice_set g r (slice_index g s)
moved n (AddI r k) g = slice_set g r (slice_index g r + k)
moved n (SubI r k) g = slice_set g r (slice_index g r - k)
moved n (Add r s) g = slice_set g r (slice_index g r + slice_index g s)

-- a run without events
abbrev pub nothing : {A : Type 0} → List ℕ → RunOf A
nothing g = record { events = []; regs = g }

-- first this event
abbrev pub onto : {A : Type 0} → EventOf A → RunOf A → RunOf A
onto e a = record { events = e ∷ a.events; regs = a.regs }

-- and then what follows
abbrev pub join : {A : Type 0} → RunOf A → (List ℕ → RunOf A) → RunOf A
join a f = record { events = a.events ++ (f a.regs).events; regs = (f a.regs).regs }

-- what stands behind the first, or all of them again
abbrev pub behind : {B : Type 0} → List B → List B → List B
behind all [] = all
behind all (x ∷ xs) = x ∷ xs

-- as many iterations as the count, by turns: in each the register holds how many come after it
abbrev pub cycle : {A : Type 0} → ℕ → List (List ℕ → RunOf A) → List (List ℕ → RunOf A) → ℕ
    → List ℕ → RunOf A
cycle r all xs zero g = nothing g
cycle r all [] (suc m) g = nothing g
cycle r all (x ∷ xs) (suc m) g = join (x (slice_set g r m)) (cycle r all (behind all xs) m)

abbrev mutual
  -- a run of a flow at width n, from these registers
  pub run : {A : Type 0} → ℕ → FlowOf A → List ℕ → RunOf A
  run n End g = nothing g
  run n (Do b k) g = onto (Done b g) (run n k g)
  run n (Put m k) g = onto (Moved m g) (run n k (moved n m g))
  run n (If r x y k) g = join (if slice_index g r == 0 then run n y g else run n x g) (run n k)
  run n (Loop r ts k) g = onto (Counted r g)
      (join (cycle r (acts n ts) (acts n ts) (slice_index g r) g) (run n k))

  -- what each turn does
  pub acts : {A : Type 0} → ℕ → TurnsOf A → List (List ℕ → RunOf A)
  acts n (Last x) = run n x ∷ []
  acts n (Turn x ts) = run n x ∷ acts n ts

abbrev mutual
  -- what holds of every body of a flow
  pub AllFlow : {A : Type 0} → (A → Type 0) → FlowOf A → Type 0
  AllFlow P End = Unit {0}
  AllFlow P (Do b k) = P b × AllFlow P k
  AllFlow P (Put m k) = AllFlow P k
  AllFlow P (If r x y k) = AllFlow P x × (AllFlow P y × AllFlow P k)
  AllFlow P (Loop r ts k) = AllActs P ts × AllFlow P k

  pub AllActs : {A : Type 0} → (A → Type 0) → TurnsOf A → Type 0
  AllActs P (Last x) = AllFlow P x
  AllActs P (Turn x ts) = AllFlow P x × AllActs P ts

abbrev mutual
  -- the same flow over other things, made of each body
  pub flow_map : {A B : Type 0} → (A → B) → FlowOf A → FlowOf B
  flow_map f End = End
  flow_map f (Do b k) = Do (f b) (flow_map f k)
  flow_map f (Put m k) = Put m (flow_map f k)
  flow_map f (If r x y k) = If r (flow_map f x) (flow_map f y) (flow_map f k)
  flow_map f (Loop r ts k) = Loop r (acts_map f ts) (flow_map f k)

  pub acts_map : {A B : Type 0} → (A → B) → TurnsOf A → TurnsOf B
  acts_map f (Last x) = Last (flow_map f x)
  acts_map f (Turn x ts) = Turn (flow_map f x) (acts_map f ts)

abbrev mutual
  -- how many instructions a flow takes, where a body takes so many
  pub flow_size : {A : Type 0} → (A → ℕ) → FlowOf A → ℕ
  flow_size c End = 0
  flow_size c (Do b k) = c b + flow_size c k
  flow_size c (Put m k) = 1 + flow_size c k
  flow_size c (If r x y k) = 3 + flow_size c x + flow_size c y + flow_size c k
  flow_size c (Loop r ts k) = 3 + acts_size c ts + flow_size c k

  pub acts_size : {A : Type 0} → (A → ℕ) → TurnsOf A → ℕ
  acts_size c (Last x) = 2 + flow_size c x
  acts_size c (Turn x ts) = 4 + flow_size c x + acts_size c ts

abbrev mutual
  -- whether a test passes on all bodies of a flow
  pub all_flow : {A : Type 0} → (A → Bool) → FlowOf A → Bool
  all_flow t End = true
  all_flow t (Do b k) = t b && all_flow t k
  all_flow t (Put m k) = all_flow t k
  all_flow t (If r x y k) = all_flow t x && (all_flow t y && all_flow t k)
  all_flow t (Loop r ts k) = all_acts t ts && all_flow t k

  pub all_acts : {A : Type 0} → (A → Bool) → TurnsOf A → Bool
  all_acts t (Last x) = all_flow t x
  all_acts t (Turn x ts) = all_flow t x && all_acts t ts

abbrev mutual
  -- the number of bodies of a flow
  pub flow_bodies : {A : Type 0} → FlowOf A → ℕ
  flow_bodies End = 0
  flow_bodies (Do b k) = 1 + flow_bodies k
  flow_bodies (Put m k) = flow_bodies k
  flow_bodies (If r x y k) = flow_bodies x + flow_bodies y + flow_bodies k
  flow_bodies (Loop r ts k) = acts_bodies ts + flow_bodies k

  pub acts_bodies : {A : Type 0} → TurnsOf A → ℕ
  acts_bodies (Last x) = flow_bodies x
  acts_bodies (Turn x ts) = flow_bodies x + acts_bodies ts
