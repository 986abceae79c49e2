-- Several statements, one after another, and the operation that they make.
use Rattle.uprog_gen.proofs.Common.{◌≡◌, ℕ, zero, suc, ◌+◌, ◌*◌, ◌<◌, ◌≤◌, Bool, List, [], ◌∷◌}
use Rattle.uprog_gen.proofs.Common.{◌++◌, map, length, refl, sym, ap, ◌∙◌, subst, arith, slice_get}
use Rattle.uprog_gen.proofs.Common.{slice_index, AllByRecursion, range_with_len, length-map}
use Rattle.uprog_gen.proofs.Common.{length-take, WIDTH_MAX, D, Column, Kind, Uop, Done, Shape}
use Rattle.uprog_gen.proofs.Common.{results, Bound, bound, trace, issues_of, Fits, AreBelow}
use Rattle.uprog_gen.proofs.Common.{Implements, Flow, Space, Result, Source, Block, StepOf, flow_of}
use Rattle.uprog_gen.proofs.Common.{FlowOf, RoundOf, all_rounds, Spots, after_round, after_rounds}
use Rattle.std.proofs.Common.{zero-add, add-zero, add-one, suc-add, add-suc}
use Rattle.std.specs.Prelude.{take}
use Rattle.std.proofs.lemmas.Grind.{common_steps}
use Rattle.dram_model.specs.Column.{run}
use Rattle.uprog_code.specs.Shape.{width}
use Rattle.uprog_code.specs.Implements.{numbers}
use Rattle.uprog_gen.specs.Where.{Agree, spots_in, IsSpot, IsBelow}
use Rattle.uprog_gen.specs.FlowCode.{size, code_of}
use Rattle.uprog_gen.specs.Does.{DoesRounds, Means, AreCheap, joined, total, after_statements}
use Rattle.uprog_gen.specs.Does.{numbers_in}
use Rattle.uprog_gen.specs.Programs.{together}
use Rattle.uprog_gen.specs.Entries.{AreFlowsOf, IsCodeOf}
use Rattle.uprog_gen.proofs.Rows.Top.{flows_do, flows_within, all_rounds-append}
use Rattle.uprog_gen.proofs.Coding.FlowSizes.{code_long, flow_few, flows_long, flows_code}
use Rattle.uprog_gen.proofs.Coding.Legal.{code_legal}

abbrev pub Statement : Type 0
Statement = List (StepOf Block)

after_rounds-append : (n : ℕ) (xs ys : List (RoundOf Block)) (bits : Spots)
    → after_rounds n (xs ++ ys) bits ≡ after_rounds n ys (after_rounds n xs bits)
after_rounds-append n [] ys bits = refl
after_rounds-append n (x ∷ xs) ys bits = after_rounds-append n xs ys (after_round n x bits)

-- the rounds of all statements do what the statements do, one after another
after_joined : (n : ℕ) (ps : List Statement) (bits : Spots)
    → after_rounds n (all_rounds n (joined ps)) bits ≡ after_statements n ps bits
after_joined n [] bits = refl
after_joined n (p ∷ ps) bits =
    rw (all_rounds-append n p (joined ps), after_rounds-append)
    (after_joined n ps (after_rounds n (all_rounds n p) bits))

-- numbers of rows
pub same_bits : (f g : ℕ → Bool) (a c w : ℕ) → ((i : ℕ) → i < w → f (a + i) ≡ g (c + i))
    → map f (range_with_len a w) ≡ map g (range_with_len c w)
same_bits f g a c zero h = refl
same_bits f g a c (suc w) h =
    let first = simp add-zero at (h 0 (omega arith)) in
    rw (
      first,
      same_bits f g (a + 1) (c + 1) w (λ i lt.
          simp (add-one, suc-add) (simp add-suc at (h (suc i) (omega arith)))),
    ) refl

-- of values that lie in a column where the named rows say
values_same : (space : Space) (rows n : ℕ) (bits : Spots) (s : Column) (ks : List Kind)
    (bs : List ℕ) (which : ℕ) → AreBelow rows n ks bs
    → ((v i : ℕ) → IsBelow (slice_get ks v) n i
    → bits (record { space = space; which = which + v; index = i })
    ≡ s (D (slice_index bs v + i)))
    → numbers_in space n ks which bits ≡ numbers n ks bs s
values_same space rows n bits s [] bs which fit at = refl
values_same space rows n bits s (k ∷ ks) [] which fit at = absurd fit
values_same space rows n bits s (k ∷ ks) (c ∷ bs) which fit is =
    rw (
      same_bits (λ i. bits (record { space = space; which = which; index = i })) (λ row. s (D row))
          0 c (width k n) (λ i lt. simp zero-add (simp add-zero at (is 0 i lt))),
      values_same space rows n bits s ks bs (which + 1) fit.1 (λ v i below.
          simp (add-one, suc-add) (simp add-suc at (is (suc v) i below))),
    ) refl

-- the code takes at most the sum of what each statement takes
abbrev pub IsWithin : Shape → List Statement → List Uop → Type 0
IsWithin head ps code = (n : ℕ) → 0 < n → n ≤ WIDTH_MAX → (ceilings : List (ℕ → ℕ))
    → AreCheap n ps ceilings → length (issues_of (trace head code n)) ≤ total ceilings n

-- rounds that mean an operation implement it
pub does_implement : (head : Shape) (ps : List Statement) (code : List Uop)
    → ((n : ℕ) → 0 < n → n ≤ WIDTH_MAX → DoesRounds head n (joined ps) code)
    → IsWithin head ps code → (ceilings : List (ℕ → ℕ)) (meaning : ℕ → List ℕ → List ℕ)
    → Means head ps ceilings meaning
    → Implements head code (total ceilings) meaning
does_implement head ps code does few ceilings meaning means = record {
  ends = λ n some small. (does n some small).ends;
  cheap = λ n some small. few n some small ceilings (means.cheap n some small);
  gives = λ n some small. record { value = λ rows b s fits. gives n some small rows b s fits };
  keeps = λ n some small. record {
    row = λ rows b s fits q out. (does n some small).keeps rows b s
        fits q out;
  };
}
  where
    gives : (n : ℕ) → 0 < n → n ≤ WIDTH_MAX → (rows : ℕ) (b : Bound) (s : Column)
        → Fits rows head n b → numbers n (results head) b.results
        (run (bound rows head n b (issues_of (trace head code n))) s)
        ≡ meaning n (numbers n head.sources b.sources s)
    gives n some small rows b s fits =
        let t : Column = run (bound rows head n b (issues_of (trace head code n))) s in
        let bits : Spots = spots_in head n b s in
        let new : Spots = after_rounds n (all_rounds n (joined ps)) bits in
        let agrees : Agree head n b new t = (does n some small).agrees rows b s fits in
        sym (values_same Result rows n new t (results head) b.results 0 fits.results (λ v i below.
        simp zero-add (sym (agrees (record { space = Result; which = v; index = i }) below))))
        ∙ ap (numbers_in Result n (results head) 0) (after_joined n ps bits)
        ∙ means.gives n some small bits
        ∙ ap (meaning n) (values_same Source rows n bits s head.sources b.sources 0 fits.sources
        (λ v i below. simp zero-add))

-- the code of each flow
abbrev pieces : List (FlowOf Block) → ℕ → List (List Uop)
pieces [] pc = []
pieces (f ∷ fs) pc = code_of f pc ∷ pieces fs (pc + size f)

pieces_together : (fs : List (FlowOf Block)) (pc : ℕ)
    → flows_code fs pc ≡ together (pieces fs pc)
pieces_together [] pc = refl
pieces_together (f ∷ fs) pc = ap (λ l. code_of f pc ++ l)
    (pieces_together fs (pc + size f))

pieces_taken : (k : ℕ) (fs : List (FlowOf Block)) (pc : ℕ)
    → pieces (take k fs) pc ≡ take k (pieces fs pc)
pieces_taken zero fs pc = refl
pieces_taken (suc k) [] pc = refl
pieces_taken (suc k) (f ∷ fs) pc = ap (λ l. code_of f pc ∷ l)
    (pieces_taken k fs (pc + size f))

module _ (head : Shape) where
  -- flows of these statements
  abbrev Are : List Statement → List (FlowOf Block) → Type 0
  Are ps fs = AreFlowsOf (IsSpot head) ps fs

  -- the first of them
  first : (k : ℕ) (ps : List Statement) (fs : List (FlowOf Block)) → Are ps fs
      → Are (take k ps) (take k fs)
  first zero ps fs are = tt
  first (suc k) [] [] are = tt
  first (suc k) [] (f ∷ fs) are = absurd are
  first (suc k) (p ∷ ps) [] are = absurd are
  first (suc k) (p ∷ ps) (f ∷ fs) are = (are.0, first k ps fs are.1)

  -- a piece for each, of at most 256 instructions
  record Pieces (ps : List Statement) (fs : List (FlowOf Block)) (pc : ℕ) : Type 0 where
    pub many : length (pieces fs pc) ≡ length ps
    pub short : AllByRecursion (λ p. length p ≤ 256) (pieces fs pc)
    pub few : length (flows_code fs pc) ≤ 256 * length fs

  cut : (ps : List Statement) (fs : List (FlowOf Block)) (pc : ℕ) → Are ps fs → Pieces ps fs pc
  cut [] [] pc are = record { many = refl; short = tt; few = omega arith }
  cut [] (f ∷ fs) pc are = absurd are
  cut (p ∷ ps) [] pc are = absurd are
  cut (p ∷ ps) (f ∷ fs) pc are =
      let more = cut ps fs (pc + size f) are.1 in
      let one : size f ≤ 256 = omega (arith, flow_few f are.0.0.small, are.0.1) in
      record {
        many = omega arith;
        short = (omega (arith, code_long f pc), more.short);
        few = omega (arith, flows_long f fs pc);
      }

  does : (ps : List Statement) (fs : List (FlowOf Block)) → Are ps fs → length fs ≤ 16 → (n : ℕ)
      → 0 < n → n ≤ WIDTH_MAX
      → DoesRounds head n (joined ps) (flows_code fs 0 ++ Done ∷ [])
  does ps fs are most n some small =
      flows_do head n ps fs some small (omega (arith, (cut ps fs 0 are).few)) are

  entry : (ps : List Statement) (fs : List (FlowOf Block)) → Are ps fs → length fs ≤ 16
      → IsCodeOf head ps (flows_code fs 0 ++ Done ∷ [])
  entry ps fs are most =
      let own = cut ps fs 0 are in
      let short : length (flows_code fs 0) ≤ 4096 = omega arith in
      let within : IsWithin head ps (flows_code fs 0 ++ Done ∷ []) =
      λ n some small. flows_within head n ps fs some small short are in
      record {
        legal = code_legal head ps fs short are;
        parts = record {
          parts = pieces fs 0;
          many = own.many;
          short = own.short;
          whole = ap (λ l. l ++ Done ∷ []) (pieces_together fs 0);
          each = λ k n some small.
              (subst (λ l. DoesRounds head n (joined (take k ps)) (l ++ Done ∷ []))
              (pieces_together (take k fs) 0 ∙ ap together (pieces_taken k fs 0))
              (does (take k ps) (take k fs) (first k ps fs are) (omega (arith, length-take k fs)) n
              some small));
        };
        does = does ps fs are most;
        few = within;
        implements = does_implement head ps (flows_code fs 0 ++ Done ∷ [])
            (does ps fs are most) within;
      }

  -- the code after the last flow
  pub code_is : (fs : List Flow) (k : ℕ) (mid code : List Uop) → length fs ≤ 16 → k ≡ length fs
      → mid ≡ flows_code (map flow_of (take k fs)) 0 → code ≡ mid ++ Done ∷ []
      → (ps : List Statement) → AreFlowsOf (IsSpot head) ps (map flow_of fs)
      → IsCodeOf head ps code
  code_is fs k mid code few e a is ps are =
      let all : take k fs ≡ fs = grind (arith, common_steps) in
      let same : mid ≡ flows_code (map flow_of fs) 0 =
      a ∙ ap (λ (l : List Flow). flows_code (map flow_of l) 0) all in
      subst (IsCodeOf head ps) (sym (is ∙ ap (λ l. l ++ Done ∷ []) same))
      (entry ps (map flow_of fs) are (omega (arith, length-map fs flow_of)))
