-- The loop programs of an operation's statements mean the operation, within its ceiling and its own
-- rows.
use Rattle.uprog_gen.proofs.Common.{or_left, or_right, ◌≡◌, ℕ, ◌+◌, ◌*◌, ◌<◌, ◌≤◌, Bool, true}
use Rattle.uprog_gen.proofs.Common.{false, cond, List, [], ◌∷◌, ◌++◌, map, Option, Some, refl, sym}
use Rattle.uprog_gen.proofs.Common.{ap, ◌∙◌, subst, arith, bytes_eq, inl, inr, range_with_len}
use Rattle.uprog_gen.proofs.Common.{AllByRecursion, sum_by-cons, mul_comm, WIDTH_MAX, Kind, Param}
use Rattle.uprog_gen.proofs.Common.{Statement, Compute, Visit, Operation, result_names, is_among}
use Rattle.uprog_gen.proofs.Common.{kind_among, NameValue, width, changed, defines, body_defines}
use Rattle.uprog_gen.proofs.Common.{kind_of, names_width, need_inside, bits_inside, words_inside}
use Rattle.uprog_gen.proofs.Common.{scratch_words, Each, IsNew, names_of, Differ, IsKnown, Context}
use Rattle.uprog_gen.proofs.Common.{next_context, at_start, OperationMeets, all_names, same_name}
use Rattle.uprog_gen.proofs.Common.{is_same, or_first, op_shape, Uop, Implements, Result, Source}
use Rattle.uprog_gen.proofs.Common.{Slot, StepOf, Block, Along, Flowed, all_rounds, Spot, Spots}
use Rattle.uprog_gen.proofs.Common.{IsOwn, HasValues, CanCompile, Slots, HoldsAt, args_width}
use Rattle.std.proofs.lemmas.List.FromFn.{length-map-range_with_len}
use Rattle.std.proofs.Math.Nat.{mul-add, mul-le-mul_left}
use Rattle.bit_rows.specs.Bits.{value}
use Rattle.op_text.specs.Language.{results}
use Rattle.op_text.specs.Meaning.{holding, with_sources, holds_nothing, number, after_op, meaning}
use Rattle.op_text.specs.Scratch.{statement_ceiling, body_ceiling, scratch_bits}
use Rattle.op_text.specs.Costs.{op_ceiling}
use Rattle.op_rules.proofs.Names.{or_second}
use Rattle.loop_ir.specs.Plain.StepOf.{Single}
use Rattle.loop_laws.proofs.EveryRound.{rounds_among}
use Rattle.loop_ir.specs.Limits.{StepHasValues}
use Rattle.loop_ir.specs.Lowered.{IsStatementRow, kind_at, ceiling_of}
use Rattle.op_text.specs.Values as text
use Rattle.uprog_code.specs.Shape as shape
use Rattle.uprog_gen.proofs.Coding.FlowMaps.{flow_among}
use Rattle.uprog_gen.specs.Where.{IsSpot}
use Rattle.uprog_gen.specs.Does.{after_statements, spot_number, numbers_in, AreCheap, total, Means}
use Rattle.uprog_gen.specs.Layout.{IsLayout, slot, source_lays, place_in, defined_lays, found}
use Rattle.uprog_gen.specs.Programs.{AreLowered}
use Rattle.uprog_gen.proofs.Naming.Lays.{lay, by_bool, some_is, found-append, or_else, found_kind}
use Rattle.uprog_gen.proofs.Naming.Lays.{source_params}
use Rattle.uprog_gen.proofs.Naming.Lies.{LiesIn, kinds_of}
use Rattle.uprog_gen.proofs.Naming.Among.{changed_other, each_among}
use Rattle.uprog_gen.proofs.Naming.Scene.{width_same, kind_known, known_among, slot_there}
use Rattle.uprog_gen.proofs.Naming.Scene.{kind_back, slot_lies, slot_own, slot_spots, results_known}
use Rattle.uprog_gen.proofs.Naming.Scene.{shape_results}
use Rattle.uprog_gen.proofs.Naming.Stage.{Stage, first_stage, next_stage, known_slot, bits_need}
use Rattle.uprog_gen.proofs.Naming.Stage.{words_need}
use Rattle.uprog_gen.proofs.Meaning.Numbers.{value_same, bits_of_value}
use Rattle.uprog_gen.proofs.Meaning.Walked.{HoldsAll, body_holds}

-- the sources' rows hold the sources
sources_other : (n : ℕ) (names : List ℕ → NameValue) (ps : List Param) (values : List ℕ) (name :
    List ℕ) → is_among (names_of ps) name ≡ false → with_sources n names ps values name ≡ names name
sources_other n names [] values name h = refl
sources_other n names (p ∷ ps) [] name h = refl
sources_other n names (p ∷ ps) (v ∷ values) name h =
    sources_other n (changed names p.name (holding n p.kind v)) ps values name
    (or_second (bytes_eq p.name name) (is_among (names_of ps) name) h)
    ∙ changed_other names p.name name (holding n p.kind v)
    (or_first (bytes_eq p.name name) (is_among (names_of ps) name) h)

changed_same : (names : List ℕ → NameValue) (name : List ℕ) (v : NameValue)
    → changed names name v name ≡ v
changed_same names name v = ap (λ b. cond b v (names name)) (is_same name name refl)

source_held : (n k : ℕ) (j : Kind) (bits : Spots)
    → HoldsAt n (Some (slot Source k j)) (holding n j (spot_number Source k (shape.width j n) bits))
    bits
source_held n k j bits =
    let row : ℕ → Bool = λ i. bits (record { space = Source; which = k; index = i }) in
    let all : ℕ → List Bool = λ w. map row (range_with_len 0 w) in (
      refl,
      ap (λ w. text.bits (value (all w)) (width n j)) (sym (width_same j n))
          ∙ ap (text.bits (value (all (width n j))))
          (sym (length-map-range_with_len row 0 (width n j))) ∙ bits_of_value (all (width n j)),
    )

sources_hold : (n k : ℕ) (ps : List Param) (names : List ℕ → NameValue) (bits : Spots)
    → Differ (names_of ps) → (name : List ℕ) (x : Slot) → found (source_lays k ps) name ≡ Some x
    → HoldsAt n (Some x)
    (with_sources n names ps (numbers_in Source n (kinds_of ps) k bits) name) bits
sources_hold n k [] names bits d name x e = absurd (cc)
sources_hold n k (p ∷ ps) names bits d name x e =
    let v = spot_number Source k (shape.width p.kind n) bits in
    let names' = changed names p.name (holding n p.kind v) in
    let rest = numbers_in Source n (kinds_of ps) (k + 1) bits in
    by_bool (λ b. cond b (Some (slot Source k p.kind)) (found (source_lays (k + 1) ps) name)
    ≡ Some x → HoldsAt n (Some x) (with_sources n names' ps rest name) bits) (bytes_eq p.name name)
    (λ s f. rw (
      ← some_is _ x f,
      ← same_name p.name name s,
      sources_other n names' ps rest p.name d.0,
      changed_same names p.name (holding n p.kind v),
    ) (source_held n k p.kind bits)) (λ s f. sources_hold n (k + 1) ps names' bits d.1 name x f) e

-- rows that a statement may have are the operation's
module _ (P Q : ℕ → Spot → Type 0) (f : (n : ℕ) (q : Spot) → P n q → Q n q) where
  values_more : (b : Block) → HasValues P b → HasValues Q b
  values_more b has = record {
    reads = λ k lt row. let v = has.reads k lt row in (v.0, v.1, f v.0 _ v.2);
    writes = λ j lt row. let v = has.writes j lt row in (v.0, v.1, f v.0 _ v.2);
    own = has.own;
  }

  steps_more : (ss : List (StepOf Block)) → AllByRecursion (StepHasValues P) ss
      → AllByRecursion (StepHasValues Q) ss
  steps_more [] h = tt
  steps_more (Single b ∷ ss) h = (tt, steps_more ss h.1)
  steps_more (Along b ∷ ss) h = (tt, steps_more ss h.1)
  steps_more (Flowed x ∷ ss) h =
      (flow_among Block (HasValues P) (HasValues Q) values_more x h.0, steps_more ss h.1)

  can_more : (steps : List (StepOf Block)) → CanCompile P steps → CanCompile Q steps
  can_more steps can = record {
    small = can.small;
    find = can.find;
    stand = can.stand;
    values = steps_more steps can.values;
    rounds = λ n some small. rounds_among (P n) (Q n) (f n) n (all_rounds n steps)
        (can.rounds n some small);
    size = can.size;
    few = can.few;
  }

-- the ceiling of each statement, where these names are known
abbrev pub ceilings : List Param → List Statement → List (ℕ → ℕ)
ceilings known [] = []
ceilings known (s ∷ body) = (λ n. statement_ceiling op_ceiling known n s)
    ∷ ceilings (known ++ defines known s) body

-- the ceilings together
pub total_ceilings : (known : List Param) (body : List Statement) (n : ℕ)
    → total (ceilings known body) n ≡ body_ceiling op_ceiling known n body
total_ceilings known [] n = refl
total_ceilings known (s ∷ body) n =
    sum_by-cons (λ (c : ℕ → ℕ). c n) (λ m. statement_ceiling op_ceiling known m s)
    (ceilings (known ++ defines known s) body)
    ∙ ap (λ m. statement_ceiling op_ceiling known n s + m)
    (total_ceilings (known ++ defines known s) body n)

pub lower_ceiling : (shape : shape.Shape) (code : List Uop) (low high : ℕ → ℕ) (meaning : ℕ → List ℕ
    → List ℕ) → ((n : ℕ) → low n ≡ high n) → Implements shape code low meaning
    → Implements shape code high meaning
lower_ceiling shape code low high meaning e does = record {
  ends = does.ends;
  cheap = λ n some small. omega (arith, does.cheap n some small, e n);
  gives = does.gives;
  keeps = does.keeps;
}

zero_on : (j : ℕ) → j ≡ 0 + j
zero_on j = omega arith

-- a later name has a place after the first
later : (w : ℕ) (x name : List ℕ) (names : List (List ℕ)) → is_among names x ≡ false
    → is_among names name ≡ true → w + place_in (x ∷ names) name ≡ w + 1 + place_in names name
later w x name names new among =
    let same = λ (e : bytes_eq x name ≡ true). ap (is_among names) (same_name x name e) in
    grind (arith, new, among, same)

-- what holds of each known name holds of each of these
each_held : (known : List Param) (P : List ℕ → Type 0) (ps : List Param)
    → Each (λ (r : Param). kind_among known r.name ≡ Some r.kind) ps
    → ((name : List ℕ) → is_among (names_of known) name ≡ true → P name)
    → Each (λ (r : Param). P r.name) ps
each_held known P [] h f = tt
each_held known P (p ∷ ps) h f =
    (f p.name (known_among known p.name p.kind h.0), each_held known P ps h.1 f)

module _ (op : Operation) (meets : OperationMeets op) (slots : Slots) (free_bit free_word : ℕ)
    (is : IsLayout op slots free_bit free_word) where
  source_slot : (name : List ℕ) → is_among (names_of op.params) name ≡ true
      → (x : Slot) × (slots name ≡ Some x) × (found (source_lays 0 op.params) name ≡ Some x)
  source_slot name h =
      let k = kind_known op.params name h in
      let x = kind_back (found (source_lays 0 op.params) name) k.0
      (sym (found_kind (source_lays 0 op.params) name)
      ∙ ap (λ ps. kind_among ps name) (source_params 0 op.params) ∙ k.1) in
      let own = defined_lays (result_names op) 0 0 (body_defines op.params op.body) in (
        x.0,
        is.at name ∙ found-append (source_lays 0 op.params) own name
            ∙ ap (λ o. or_else o (found own name)) x.1,
        x.1,
      )

  first_holds : (n : ℕ) (bits : Spots) → HoldsAll n slots
      (with_sources n holds_nothing op.params (numbers_in Source n (kinds_of op.params) 0 bits))
      bits (names_of op.params)
  first_holds n bits name h =
      let x = source_slot name h in
      rw (x.1) (sources_hold n 0 op.params holds_nothing bits meets.params_differ name x.0 x.2)

  -- each result stands in its own rows
  result_slot : (name : List ℕ) (k : Kind) → is_among (result_names op) name ≡ true
      → kind_among (all_names op) name ≡ Some k
      → slots name ≡ Some (slot Result (place_in (result_names op) name) k)
  result_slot name k among known =
      let x = slot_there _ meets _ _ _ is name k known in
      x.1 ∙ ap Some (by x.0 x.1 x.2 (slot_lies _ meets _ _ _ is name x.0 x.1))
    where
      by : (x : Slot) → slots name ≡ Some x → x.kind ≡ k → LiesIn op (lay name x)
          → x ≡ slot Result (place_in (result_names op) name) k
      by x e j (inl h) = absurd (subst IsOwn h.0 (slot_own _ meets _ _ _ is name x
          (each_among (IsNew (names_of op.params)) (result_names op) name meets.results_new among)
          e))
      by x e j (inr (inl h)) = rw (← h.0, ← h.1, ← j) refl
      by x e j (inr (inr (inl h))) = absurd (cc (h.4, among))
      by x e j (inr (inr (inr h))) = absurd (cc (h.4, among))

  -- so the last rounds leave the meaning there
  result_means : (n w : ℕ) (k : Kind) (held : NameValue) (bits : Spots)
      → HoldsAt n (Some (slot Result w k)) held bits
      → spot_number Result w (shape.width k n) bits ≡ text.value held.bits
  result_means n w k held bits h =
      let all : ℕ → List Bool = λ u. map (λ i.
      bits (record { space = Result; which = w; index = i })) (range_with_len 0 u) in
      ap (λ u. value (all u)) (sym (width_same k n))
      ∙ sym (value_same (all (width n k))) ∙ ap text.value (sym h.1)

  results_mean : (n w : ℕ) (held : List ℕ → NameValue) (bits : Spots) (ps : List Param)
      → Differ (names_of ps)
      → Each (λ (r : Param). kind_among (all_names op) r.name ≡ Some r.kind) ps
      → ((name : List ℕ) (k : Kind) → is_among (names_of ps) name ≡ true
      → kind_among (all_names op) name ≡ Some k
      → slots name ≡ Some (slot Result (w + place_in (names_of ps) name) k))
      → Each (λ (r : Param). HoldsAt n (slots r.name) (held r.name) bits) ps
      → numbers_in Result n (kinds_of ps) w bits ≡ map number (map held (names_of ps))
  results_mean n w held bits [] differ known at h = refl
  results_mean n w held bits (p ∷ ps) differ known at h =
      let names = names_of ps in
      let same = is_same p.name p.name refl in
      let first : w + place_in (p.name ∷ names) p.name ≡ w = grind (arith, same) in
      let own : slots p.name ≡ Some (slot Result w p.kind) = at p.name p.kind
      (or_left (bytes_eq p.name p.name) (is_among names p.name) same) known.0
      ∙ ap (λ j. Some (slot Result j p.kind)) first in
      ap (λ v. v ∷ numbers_in Result n (kinds_of ps) (w + 1) bits)
      (result_means n w p.kind (held p.name) bits
      (subst (λ (o : Option Slot). HoldsAt n o (held p.name) bits) own h.0))
      ∙ ap (λ l. number (held p.name) ∷ l) (results_mean n (w + 1) held bits ps differ.1 known.1
      (λ name k among e. at name k (or_right (bytes_eq p.name name) (is_among names name) among) e
      ∙ ap (λ j. Some (slot Result j k)) (later w p.name name names differ.0 among)) h.1)

  row_more : (s : Statement) (n : ℕ) (q : Spot)
      → need_inside bits_inside s + free_bit ≤ scratch_bits op
      → need_inside words_inside s + free_word ≤ scratch_words op
      → IsStatementRow slots free_bit free_word s n q → IsSpot (op_shape op) n q
  row_more s n q few_bits few_words (inl r) = subst (IsSpot (op_shape op) n) (sym r.6)
      (slot_spots _ meets _ _ _ is r.0 r.1 r.4 n r.2 r.5)
  row_more s n q few_bits few_words (inr (inl h)) =
      subst (IsSpot (op_shape op) n) (sym h.2) (omega (arith, h.1, few_bits), refl)
  row_more s n q few_bits few_words (inr (inr h)) = subst (IsSpot (op_shape op) n) (sym h.2) (
    refl,
    let m : n * (need_inside words_inside s + free_word)
        ≤ n * scratch_words op = mul-le-mul_left n few_words in
        omega (
          arith,
          h.1,
          m,
          mul-add n (need_inside words_inside s) free_word,
          mul_comm free_word n,
        ),
  )

  module _ (c : Context) (s : Statement) (rest : List Statement) (st : Stage op c (s ∷ rest)) where
    pub args_same : (n : ℕ) (args : List (List ℕ)) → Each (IsKnown c.known) args
        → args_width slots n args ≡ names_width c.known n args
    args_same n [] h = refl
    args_same n (a ∷ args) h =
        let x = known_slot _ meets _ _ _ is _ _ _ st a (kind_of c.known a)
        h.0 in
        ap (λ o. width n (kind_at o)) x.1 ∙ ap (width n) x.2

    can_statement : (steps : List (StepOf Block))
        → CanCompile (IsStatementRow slots free_bit free_word s) steps
        → CanCompile (IsSpot (op_shape op)) steps
    can_statement steps can =
        can_more (IsStatementRow slots free_bit free_word s) (IsSpot (op_shape op))
        (λ n q. row_more s n q (omega (arith, is.bits, bits_need _ _ _ _ st))
        (omega (arith, is.words, words_need _ _ _ _ st))) steps can

  pub ceiling_same : (c : Context) (s : Statement) (rest : List Statement) → Stage op c (s ∷ rest)
      → (n : ℕ) → ceiling_of slots s n ≡ statement_ceiling op_ceiling c.known n s
  ceiling_same c (Compute target second p args) rest st n =
      ap (op_ceiling p) (args_same _ _ _ st n args st.body.0.known)
  ceiling_same c (Visit b) rest st n = refl

  all_can : (rest : List Statement) (c : Context) → Stage op c rest
      → (ps : List (List (StepOf Block))) → AreLowered slots free_bit free_word rest ps
      → AllByRecursion (CanCompile (IsSpot (op_shape op))) ps
  all_can [] c st [] low = tt
  all_can (s ∷ rest) c st (p ∷ ps) low = (
    can_statement _ _ _ st p low.0.can,
    all_can rest (next_context c s) (next_stage op _ _ _ st) ps low.1,
  )
  all_can _ _ _ _ low = absurd low

  all_cheap : (n : ℕ) → 0 < n → n ≤ WIDTH_MAX → (rest : List Statement) (c : Context)
      → Stage op c rest → (ps : List (List (StepOf Block)))
      → AreLowered slots free_bit free_word rest ps → AreCheap n ps (ceilings c.known rest)
  all_cheap n some small [] c st [] low = tt
  all_cheap n some small (s ∷ rest) c st (p ∷ ps) low = (
    omega (arith, low.0.cheap n some small, ceiling_same _ _ _ st n),
    all_cheap n some small rest (next_context c s) (next_stage op _ _ _ st) ps low.1,
  )
  all_cheap _ _ _ _ _ _ _ low = absurd low

  pub can_compile : (ps : List (List (StepOf Block)))
      → AreLowered slots free_bit free_word op.body ps
      → AllByRecursion (CanCompile (IsSpot (op_shape op))) ps
  can_compile ps low = all_can op.body (at_start op) (first_stage op meets) ps low

  pub statements_mean : (ps : List (List (StepOf Block)))
      → AreLowered slots free_bit free_word op.body ps
      → Means (op_shape op) ps (ceilings op.params op.body) (meaning op)
  statements_mean ps low = record {
    gives = λ n some small bits.
        let sources = numbers_in Source n (kinds_of op.params) 0 bits in
        let first = with_sources n holds_nothing op.params sources in
        let all = body_holds _ meets _ _ _ is op.body (at_start op)
        (first_stage op meets) ps low n some small first bits (first_holds n bits) in
        let last = after_statements n ps bits in
        let held = after_op op n sources in
        let each = each_held (all_names op) (λ name. HoldsAt n (slots name) (held name) last)
        (results op) (results_known op meets slots free_bit free_word is)
        (λ name known. all name known) in
        ap (λ l. numbers_in Result n l 0 last) (shape_results op)
        ∙ results_mean n 0 held last (results op) meets.results_differ
        (results_known op meets slots free_bit free_word is) (λ name k among e.
        result_slot name k among e ∙ ap (λ j. Some (slot Result j k))
        (zero_on (place_in (result_names op) name))) each;
    cheap = λ n some small. all_cheap n some small op.body (at_start op) (first_stage op meets) ps
        low;
  }
