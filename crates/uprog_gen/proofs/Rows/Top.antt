-- The code of flows does to every column what the rounds of the statements do to the named rows.
use Rattle.uprog_gen.proofs.Common.{◌≡◌, ℕ, ◌+◌, ◌-◌, ◌<◌, ◌≤◌, true, List, [], ◌∷◌, ◌++◌, map}
use Rattle.uprog_gen.proofs.Common.{length, refl, sym, ap, ◌∙◌, subst, ⊎_elim, arith, inl, inr}
use Rattle.uprog_gen.proofs.Common.{length-append, append_assoc, AllByRecursion, length-map}
use Rattle.uprog_gen.proofs.Common.{sum_by-cons, WIDTH_MAX, Done, Shape, results, Counts, counts_of}
use Rattle.uprog_gen.proofs.Common.{issues_aap, issues_ap, Bound, trace, issues_of, Fits, Space}
use Rattle.uprog_gen.proofs.Common.{Result, Source, ScratchBit, ScratchWord, Cells, Block, StepOf}
use Rattle.uprog_gen.proofs.Common.{FlowOf, flow_size, RoundOf, all_rounds, rounds_in, IsRound}
use Rattle.uprog_gen.proofs.Common.{stays_in_registers, IsSmall, Spot, IsOwn, is_aap, is_ap}
use Rattle.uprog_gen.proofs.Common.{body_cost, turn_cost, rounds_cost, chained, run_all, AreLike}
use Rattle.uprog_code.specs.Machine.{start}
use Rattle.uprog_code.specs.Fits.{IsTouched}
use Rattle.loop_ir.specs.Flows.{run as run_of}
use Rattle.loop_ir.specs.Loops.{step_rounds}
use Rattle.loop_laws.proofs.EveryRound.{all_append}
use Rattle.loop_front.specs.FlowOfSteps.{IsFlowOf}
use Rattle.uprog_gen.specs.Where.{spot_row, row_in, IsSpot, IsIn, spots_in}
use Rattle.uprog_gen.specs.FlowCode.{code_of}
use Rattle.uprog_gen.specs.Does.{rounds_counts, DoesRounds, IsCheap, AreCheap, joined, total}
use Rattle.uprog_gen.specs.Entries.{AreFlowsOf}
use Rattle.uprog_gen.proofs.Coding.FlowSizes.{flow_few, flows_code}
use Rattle.uprog_gen.proofs.Coding.FlowMaps.{flow_tested}
use Rattle.uprog_gen.proofs.Rows.Issued.{round_command, rounds_commands}
use Rattle.uprog_gen.proofs.Rows.Numbers.{aap_same, ap_same, all_counts}
use Rattle.uprog_gen.proofs.Rows.Chained.{both_chained}
use Rattle.uprog_gen.proofs.Rows.Like.{cost_like, counts_like, after_like, like_both}
use Rattle.uprog_gen.proofs.Bodies.Outs.{commands_do}
use Rattle.uprog_gen.proofs.Rows.Agree.{AreRounds, IsMine, rounds_agree, rounds_keep}
use Rattle.uprog_gen.proofs.Rows.Laid.{laid, value_among, bit_among, word_among}
use Rattle.uprog_gen.proofs.Rows.Ranges.{commands_range}
use Rattle.uprog_gen.proofs.Running.Held.{InRange}
use Rattle.uprog_gen.proofs.Running.Goes.{has_all}
use Rattle.uprog_gen.proofs.Running.FlowStep.{CanRun, run_flow}
use Rattle.uprog_gen.proofs.Running.Program.{CanRunAll, flows_rounds, flows_trace, commands_append}

-- What the rounds of flows keep of a loop program: they are like its rounds, with rows that they
-- may have and the states that they read
record Keeps (head : Shape) (n : ℕ) (steps : List (StepOf Block)) (rs : List (RoundOf Block))
    : Type 0 where
  is : AllByRecursion (IsRound (IsSpot head n) n) rs
  small : AllByRecursion (λ r. IsSmall r.part) rs
  like : AreLike n (all_rounds n steps) rs
  find : chained [] rs ≡ true

module _ (head : Shape) (n : ℕ) where
  ranges : (rs : List (RoundOf Block)) → AllByRecursion (IsRound (IsSpot head n) n) rs
      → AllByRecursion (λ r. IsSmall r.part) rs → AllByRecursion (InRange head n) rs
  ranges [] is small = tt
  ranges (r ∷ rs) is small =
      let d = commands_do r.part small.0 in (
        commands_range head n r is.0 small.0 r.part.found d.legal d.unread,
        ranges rs is.1 small.1,
      )

  are : (rows : ℕ) (b : Bound) (fits : Fits rows head n b) (rs : List (RoundOf Block))
      → AllByRecursion (IsRound (IsSpot head n) n) rs → AllByRecursion (λ r. IsSmall r.part) rs
      → AreRounds rows head n b (laid rows head n b fits) rs
  are rows b fits [] is small = tt
  are rows b fits (r ∷ rs) is small = (is.0, small.0, are rows b fits rs is.1 small.1)

-- as many commands as the bodies carry
all_commands : (n : ℕ) (rs : List (RoundOf Block)) → length (rounds_commands n rs) ≡ rounds_cost rs
all_commands n [] = refl
all_commands n (r ∷ rs) =
    omega (
      arith,
      length-append (map (round_command n r) r.part.found) (rounds_commands n rs),
      length-map r.part.found (round_command n r),
      all_commands n rs,
      sum_by-cons (λ (q : RoundOf Block). turn_cost q.part) r rs,
    )

pub all_rounds-append : {A : Type 0} (n : ℕ) (xs ys : List (StepOf A))
    → all_rounds n (xs ++ ys) ≡ all_rounds n xs ++ all_rounds n ys
all_rounds-append n [] ys = refl
all_rounds-append n (x ∷ xs) ys = ap (λ l. step_rounds n x ++ l) (all_rounds-append n xs ys)
    ∙ sym (append_assoc (step_rounds n x) (all_rounds n xs) (all_rounds n ys))

-- the rounds of one statement and of those after it
keeps_both : (head : Shape) (n : ℕ) (p q : List (StepOf Block)) (rs ss : List (RoundOf Block))
    → Keeps head n p rs → Keeps head n q ss → Keeps head n (p ++ q) (rs ++ ss)
keeps_both head n p q rs ss h k = record {
  is = all_append (IsRound (IsSpot head n) n) rs ss h.is k.is;
  small = all_append (λ r. IsSmall r.part) rs ss h.small k.small;
  like = rw (all_rounds-append n p q)
      (like_both n (all_rounds n p) rs (all_rounds n q) ss h.like k.like);
  find = both_chained rs ss [] h.find k.find;
}

module _ (head : Shape) (n : ℕ) (some : 0 < n) (small : n ≤ WIDTH_MAX) where
  -- one flow, from any eight registers
  one_keeps : (p : List (StepOf Block)) (f : FlowOf Block) → IsFlowOf (IsSpot head) p f
      → (g : List ℕ) → length g ≡ 8 → Keeps head n p (rounds_in (run_of n f g).events)
  one_keeps p f is g size =
      let of = is.runs n some small g size in
      record {
        is = of.rounds;
        small = run_all Block IsSmall n f is.small g;
        like = of.like;
        find = of.find;
      }

  one_runs : (p : List (StepOf Block)) (f : FlowOf Block) → IsFlowOf (IsSpot head) p f
      → (g : List ℕ) → length g ≡ 8 → CanRun head n f g
  one_runs p f is g size =
      let k = one_keeps p f is g size in
      record {
        counts = is.counts;
        nests = is.nests;
        stays = flow_tested (stays_in_registers (λ r. true)) f is.stays;
        safe = (is.runs n some small g size).safe;
        ranges = ranges head n (rounds_in (run_of n f g).events) k.is k.small;
      }

  -- there are eight still
  still_eight : (p : List (StepOf Block)) (f : FlowOf Block) → IsFlowOf (IsSpot head) p f
      → flow_size body_cost f ≤ 256 → (g : List ℕ) → length g ≡ 8
      → length (run_of n f g).regs ≡ 8
  still_eight p f is short g size =
      let few = flow_few f is.small in
      (run_flow head (code_of f 0) n small f 0 g g (one_runs p f is g size)
      (omega (arith, few, short))
      (record { flow = size; code = size; same = λ q lt. refl })
      (has_all (code_of f 0) [])).known.flow

  -- flows, one after another
  all_keep : (ps : List (List (StepOf Block))) (fs : List (FlowOf Block))
      → AreFlowsOf (IsSpot head) ps fs → (g : List ℕ) → length g ≡ 8
      → Keeps head n (joined ps) (flows_rounds n fs g) × CanRunAll head n fs g
  all_keep [] [] of g size = (record { is = tt; small = tt; like = tt; find = refl }, tt)
  all_keep (p ∷ ps) (f ∷ fs) of g size =
      let after = run_of n f g in
      let more = all_keep ps fs of.1 after.regs (still_eight p f of.0.0 of.0.1 g size) in (
        keeps_both head n p (joined ps) (rounds_in after.events) (flows_rounds n fs after.regs)
            (one_keeps p f of.0.0 g size) more.0,
        (one_runs p f of.0.0 g size, more.1),
      )
  all_keep ps fs of g size = absurd of

module _ (rows : ℕ) (head : Shape) (n : ℕ) (b : Bound) (fits : Fits rows head n b) where
  -- an own row lies in the result or the scratch
  own_touched : (s : Space) (w i : ℕ) → IsIn head n s w i → IsOwn s
      → IsTouched rows head n b (row_in head n b s w i)
  own_touched Result w i p own =
      inl (value_among rows n (results head) b.results fits.results w i p)
  own_touched Source w i p own = absurd own
  own_touched ScratchBit w i p own = inr (inl (bit_among rows head n b fits w p.0))
  own_touched ScratchWord w i p own = inr (inl (word_among rows head n b fits i p.1))
  own_touched Cells w i p own = absurd p

  mine_touched : (q : ℕ) → IsMine rows head n b (laid rows head n b fits) q
      → IsTouched rows head n b q
  mine_touched q m =
      ⊎_elim
      (λ (h : (p : Spot) × IsSpot head n p × IsOwn p.space
      × (q ≡ spot_row head n b p)). subst (IsTouched rows head n b) (sym h.3)
      (own_touched h.0.space h.0.which h.0.index h.1 h.2))
      (λ (h : (i : ℕ) × (i < 32) × (q ≡ rows - 32 + i)). inr
      (inr (omega (arith, h.2), omega (arith, h.1, h.2))))
      m

abbrev pub counts : ℕ → ℕ → Counts
counts a b = record { aap = a; ap = b }

pub both_counts : {a b c d : ℕ} → a ≡ c → b ≡ d → counts a b ≡ counts c d
both_counts e f = rw (e, f) refl

module _ (head : Shape) (n : ℕ) where
  -- they take the loop program's AAP and AP
  keeps_exact : (p : List (StepOf Block)) (rs : List (RoundOf Block)) → Keeps head n p rs
      → counts_of (rounds_commands n rs) ≡ rounds_counts (all_rounds n p)
  keeps_exact p rs k =
      both_counts (all_counts is_aap issues_aap n (aap_same n) rs)
      (all_counts is_ap issues_ap n (ap_same n) rs) ∙ counts_like n (all_rounds n p) rs k.like

  -- a statement takes no more than its ceiling
  statement_most : (p : List (StepOf Block)) (rs : List (RoundOf Block)) (most : ℕ)
      → Keeps head n p rs → IsCheap n p most → length (rounds_commands n rs) ≤ most
  statement_most p rs most k h =
      omega (arith, all_commands n rs, cost_like n (all_rounds n p) rs k.like, h)

  within : 0 < n → n ≤ WIDTH_MAX → (ps : List (List (StepOf Block))) (fs : List (FlowOf Block))
      → AreFlowsOf (IsSpot head) ps fs → (g : List ℕ) → length g ≡ 8
      → (ceilings : List (ℕ → ℕ)) → AreCheap n ps ceilings
      → length (rounds_commands n (flows_rounds n fs g)) ≤ total ceilings n
  within some small [] [] of g size [] cheap =
      let e : total [] n ≡ 0 = refl in omega (arith, e)
  within some small [] [] of g size (c ∷ cs) cheap = absurd cheap
  within some small [] (f ∷ fs) of g size cs cheap = absurd of
  within some small (p ∷ ps) [] of g size cs cheap = absurd of
  within some small (p ∷ ps) (f ∷ fs) of g size [] cheap = absurd cheap
  within some small (p ∷ ps) (f ∷ fs) of g size (c ∷ cs) cheap =
      let after = run_of n f g in
      let rs = rounds_in after.events in
      let more = flows_rounds n fs after.regs in
      let eight = still_eight head n some small p f of.0.0 of.0.1 g size in
      omega (
        arith,
        ap length (commands_append n rs more),
        length-append (rounds_commands n rs) (rounds_commands n more),
        statement_most p rs (c n) (one_keeps head n some small p f of.0.0 g size) cheap.0,
        within some small ps fs of.1 after.regs eight cs cheap.1,
        sum_by-cons (λ (c : ℕ → ℕ). c n) c cs,
      )

pub flows_do : (head : Shape) (n : ℕ) (ps : List (List (StepOf Block))) (fs : List (FlowOf Block))
    → 0 < n → n ≤ WIDTH_MAX → length (flows_code fs 0) ≤ 4096
    → AreFlowsOf (IsSpot head) ps fs
    → DoesRounds head n (joined ps) (flows_code fs 0 ++ Done ∷ [])
flows_do head n ps fs some small short of =
    let all = all_rounds n (joined ps) in
    let rs = flows_rounds n fs start in
    let k = all_keep head n some small ps fs of start refl in
    let t = flows_trace head n fs small short k.1 in
    let is = λ (rows : ℕ) (b : Bound) (fits : Fits rows head n b).
    are head n rows b fits rs k.0.is k.0.small in
    record {
      ends = rw t tt;
      exact = rw t (keeps_exact head n (joined ps) rs k.0);
      agrees = λ rows b s fits.
          rw (t, sym (after_like n all rs k.0.like (spots_in head n b s)))
          (rounds_agree rows head n b (laid rows head n b fits) rs [] (spots_in head n b s) s
          (is rows b fits) k.0.find (record { named = λ p h. refl; cells = tt }));
      keeps = λ rows b s fits q out. rw t (rounds_keep rows head n b (laid rows head n b fits) rs s
          (is rows b fits) q (λ m. out (mine_touched rows head n b fits q m)));
    }

pub flows_within : (head : Shape) (n : ℕ) (ps : List (List (StepOf Block)))
    (fs : List (FlowOf Block)) → 0 < n → n ≤ WIDTH_MAX
    → length (flows_code fs 0) ≤ 4096 → AreFlowsOf (IsSpot head) ps fs
    → (ceilings : List (ℕ → ℕ)) → AreCheap n ps ceilings
    → length (issues_of (trace head (flows_code fs 0 ++ Done ∷ []) n))
    ≤ total ceilings n
flows_within head n ps fs some small short of ceilings cheap =
    let can = (all_keep head n some small ps fs of start refl).1 in
    rw (flows_trace head n fs small short can)
    (within head n some small ps fs of start refl ceilings cheap)
