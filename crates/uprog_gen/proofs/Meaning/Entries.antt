-- From the code of an operation's statements to its entry.
use Rattle.uprog_gen.proofs.Common.{◌≡◌, false, ℕ, zero, suc, ◌+◌, ◌<◌, ◌≤◌, List, [], ◌∷◌, ◌++◌}
use Rattle.uprog_gen.proofs.Common.{take, map, length, refl, sym, ap, ◌∙◌, subst, arith}
use Rattle.uprog_gen.proofs.Common.{slice_index_or, AllByRecursion, and_parts, map-append, map_more}
use Rattle.uprog_gen.proofs.Common.{length-map, Param, is_among, Statement, Operation, operation}
use Rattle.uprog_gen.proofs.Common.{Op, Each, Differ, OperationMeets, scratch_is_small, EntryCode}
use Rattle.uprog_gen.proofs.Common.{Head, Shape, Microprogram, shape_of, microprogram_of, op_shape}
use Rattle.uprog_gen.proofs.Common.{StepOf, Block, FlowOf, AllFlow, flow_size, body_cost, IsSmall}
use Rattle.uprog_gen.proofs.Common.{CanCompile, Spot, Slots, front}
use Rattle.std.specs.Prelude.{◌≢◌, bytes_eq}
use Rattle.std.specs.List.{AllPairs}
use Rattle.std.proofs.lemmas.Bool.{or_parts}
use Rattle.std.proofs.lemmas.Slice.Eq.{bytes_eq-Decides}
use Rattle.std.proofs.lemmas.List.Elements.{All-from_recursion}
use Rattle.std.proofs.lemmas.List.Kept.{AllPairs-cons}
use Rattle.text_lex.specs.Spelled.{fits_name}
use Rattle.op_text.specs.Items.{spelling_of}
use Rattle.op_text.specs.Rules.{is_plain}
use Rattle.op_text.specs.Scratch.{ceiling}
use Rattle.op_rules.specs.Meets.{OpsMeet}
use Rattle.uprog_code.specs.Programs.{IsEntry, IsProgram}
use Rattle.uprog_code.specs.Texts.{text_op, EntryDoes, ImplementsAll}
use Rattle.loop_front.proofs.Fronts.{front_is}
use Rattle.uprog_gen.specs.Where.{IsSpot}
use Rattle.uprog_gen.specs.Does.{total}
use Rattle.uprog_gen.specs.Layout.{IsLayout}
use Rattle.uprog_gen.specs.Programs.{AreLowered, HasParts, IsCompiledFrom, IsCompiled, AreCompiled}
use Rattle.uprog_gen.specs.Entries.{AreFlowsOf, IsCodeOf, AreFronts}
use Rattle.uprog_gen.proofs.Meaning.Meant.{ceilings, lower_ceiling, total_ceilings, statements_mean}
use Rattle.uprog_gen.proofs.Meaning.Meant.{can_compile}

lowered_length : (slots : Slots) (free_bit free_word : ℕ) (body : List Statement)
    (ps : List (List (StepOf Block))) → AreLowered slots free_bit free_word body ps
    → length ps ≡ length body
lowered_length slots free_bit free_word [] [] h = refl
lowered_length slots free_bit free_word (s ∷ body) (p ∷ ps) h =
    omega (arith, lowered_length slots free_bit free_word body ps h.1)
lowered_length _ _ _ _ _ h = absurd h

-- the code of the operation's statements does it
entry_does : (op : Operation) (meets : OperationMeets op) (slots : Slots)
    (free_bit free_word : ℕ) → IsLayout op slots free_bit free_word
    → (ps : List (List (StepOf Block))) → AreLowered slots free_bit free_word op.body ps
    → (e : Microprogram) → e.name ≡ op.name → e.shape ≡ op_shape op
    → IsCodeOf e.shape ps e.code → EntryDoes e (text_op op)
entry_does op meets slots free_bit free_word is ps low e name shape code = record {
  name = name;
  shape = shape;
  code = lower_ceiling (op_shape op) e.code (total (ceilings op.params op.body)) (ceiling op)
      (text_op op).meaning (total_ceilings op.params op.body) (rw (← shape)
      (code.implements (ceilings op.params op.body) (text_op op).meaning
      (rw (shape) (statements_mean _ meets _ _ _ is ps low))));
}

pub entry_compiled : (op : Operation) (meets : OperationMeets op) (slots : Slots)
    (free_bit free_word : ℕ) → IsLayout op slots free_bit free_word
    → (ps : List (List (StepOf Block))) → AreLowered slots free_bit free_word op.body ps
    → (e : Microprogram) → e.name ≡ op.name → e.shape ≡ op_shape op
    → IsCodeOf e.shape ps e.code → IsCompiledFrom e op slots free_bit free_word ps
entry_compiled op meets slots free_bit free_word is ps low e name shape code = record {
  does = entry_does _ meets _ _ _ is ps low e name shape code;
  legal = code.legal;
  laid = is;
  lowered = low;
  parts = subst (λ k. HasParts k e.shape ps e.code)
      (lowered_length slots free_bit free_word op.body ps low) code.parts;
}

-- the flows of loop programs that code can be made of
module _ (may_have : ℕ → Spot → Type 0) where
  fronts_are : (ps : List (List (StepOf Block))) → AllByRecursion (CanCompile may_have) ps
      → AreFlowsOf may_have ps (map front ps)
  fronts_are [] h = tt
  fronts_are (p ∷ ps) h =
      let is = front_is may_have p h.0 in
      ((is, omega (arith, is.size, h.0.size)), fronts_are ps h.1)

  fronts_all : (P : FlowOf Block → Type 0)
      → ((p : List (StepOf Block)) → CanCompile may_have p → P (front p))
      → (ps : List (List (StepOf Block))) → AllByRecursion (CanCompile may_have) ps
      → AllByRecursion P (map front ps)
  fronts_all P all [] h = tt
  fronts_all P all (p ∷ ps) h = (all p h.0, fronts_all P all ps h.1)

module _ (op : Operation) (meets : OperationMeets op) (slots : Slots) (free_bit free_word : ℕ)
    (is : IsLayout op slots free_bit free_word) (flows : List (FlowOf Block))
    (f : AreFronts slots free_bit free_word op.body flows) where
  abbrev may_have : ℕ → Spot → Type 0
  may_have = IsSpot (op_shape op)

  can : AllByRecursion (CanCompile may_have) f.statements
  can = can_compile _ meets _ _ _ is f.statements f.lowered

  pub flows_small : AllByRecursion (AllFlow IsSmall) flows
  flows_small = rw (f.fronts) (fronts_all may_have (AllFlow IsSmall)
      (λ p h. (front_is may_have p h).small) f.statements can)

  pub flows_short : AllByRecursion (λ f. flow_size body_cost f ≤ 256) flows
  flows_short = rw (f.fronts) (fronts_all may_have (λ f. flow_size body_cost f ≤ 256)
      (λ p h. omega (arith, (front_is may_have p h).size, h.size)) f.statements can)

  pub flows_few : length flows ≤ 16
  flows_few = omega (
    arith,
    ap length f.fronts,
    length-map f.statements front,
    lowered_length slots free_bit free_word op.body f.statements f.lowered,
    meets.few_statements,
  )

  -- the entry's code is that of the statements
  pub entry_coded : (head : Head) (entry : EntryCode) → entry.head ≡ head
      → shape_of head ≡ op_shape op
      → ((ps : List (List (StepOf Block))) → AreFlowsOf (IsSpot (shape_of head)) ps flows
      → IsCodeOf (shape_of head) ps entry.code.items)
      → IsCodeOf (shape_of entry.head) f.statements entry.code.items
  entry_coded head entry same shape code = rw (same) (code f.statements
      (rw (shape, f.fronts) (fronts_are may_have f.statements can)))

-- one entry more
compiled-append : (es : List Microprogram) (ops : List Operation) (e : Microprogram)
    (op : Operation) → AreCompiled es ops → IsCompiled e op
    → AreCompiled (es ++ e ∷ []) (ops ++ op ∷ [])
compiled-append [] [] e op h i = (i, tt)
compiled-append (d ∷ es) (p ∷ ops) e op h i = (h.0, compiled-append es ops e op h.1 i)
compiled-append _ _ _ _ h _ = absurd h

pub compiled_more : (items : List Op) (k : ℕ) (x : Op) (old new : List EntryCode)
    (entry : EntryCode) → k < length items → x ≡ slice_index_or items k x → new ≡ old ++ entry ∷ []
    → AreCompiled (map microprogram_of old) (map operation (take k items))
    → IsCompiled (microprogram_of entry) (operation x)
    → AreCompiled (map microprogram_of new) (map operation (take (k + 1) items))
compiled_more items k x old new entry lt e f h i =
    rw (f, map-append microprogram_of old (entry ∷ []), map_more operation items k x lt, ← e)
    (compiled-append (map microprogram_of old) (map operation (take k items))
    (microprogram_of entry) (operation x) h i)

pub compiled_implement : (es : List Microprogram) (ops : List Operation) → AreCompiled es ops
    → ImplementsAll es (map text_op ops)
compiled_implement [] [] h = tt
compiled_implement (e ∷ es) (op ∷ ops) h = (h.0.from.does, compiled_implement es ops h.1)
compiled_implement _ _ h = absurd h

pub op_at : (P : Operation → Type 0) (items : List Op) (k : ℕ) (x : Op)
    → Each P (map operation items) → k < length items → x ≡ slice_index_or items k x
    → P (operation x)
op_at P [] k x h lt e = absurd (omega arith)
op_at P (y ∷ items) zero x h lt e = subst (λ (z : Op). P (operation z)) (sym e) h.0
op_at P (y ∷ items) (suc k) x h lt e = op_at P items k x h.1 (omega arith) e

entry_is : (e : Microprogram) (op : Operation) → OperationMeets op → IsCompiled e op → IsEntry e
entry_is e op meets c =
    let few = scratch_is_small op meets in
    let shape = c.from.does.shape in
    let sources = ap (λ (s : Shape). length s.sources) shape
    ∙ length-map op.params (λ (p : Param). p.kind) in
    let bits = ap (λ (s : Shape). s.bits) shape in
    let words = ap (λ (s : Shape). s.words) shape in
    record {
      name = ap fits_name c.from.does.name ∙ (and_parts (fits_name op.name)
          (is_plain (spelling_of op.name)) meets.name).0;
      some = omega (arith, sources, meets.has_params);
      few = omega (arith, sources, meets.few_params);
      bits = omega (arith, bits, few.bits);
      words = omega (arith, words, few.words);
      code = c.from.legal;
    }

entries_are : (es : List Microprogram) (ops : List Operation) → AreCompiled es ops
    → Each OperationMeets ops → AllByRecursion IsEntry es
entries_are [] [] c m = tt
entries_are (e ∷ es) (op ∷ ops) c m = (entry_is e op m.0 c.0, entries_are es ops c.1 m.1)
entries_are _ _ c _ = absurd c

compiled_length : (es : List Microprogram) (ops : List Operation) → AreCompiled es ops
    → length es ≡ length ops
compiled_length [] [] c = refl
compiled_length (e ∷ es) (op ∷ ops) c = omega (arith, compiled_length es ops c.1)
compiled_length _ _ c = absurd c

differ_names : (a b : List ℕ) → bytes_eq b a ≡ false → a ≢ b
differ_names a b e is = let same = (bytes_eq-Decides b a).1 (sym is) in cc

others_differ : (e : Microprogram) (name : List ℕ) → e.name ≡ name
    → (es : List Microprogram) (ops : List Operation) → AreCompiled es ops
    → is_among (map (λ (op : Operation). op.name) ops) name ≡ false
    → AllByRecursion (λ (m : Microprogram). e.name ≢ m.name) es
others_differ e name is [] [] c new = tt
others_differ e name is (m ∷ es) (op ∷ ops) c new =
    let parts = or_parts (bytes_eq op.name name)
    (is_among (map (λ (op : Operation). op.name) ops) name) new in (
      λ same. differ_names name op.name parts.0 (sym is ∙ same ∙ c.0.from.does.name),
      others_differ e name is es ops c.1 parts.1,
    )
others_differ _ _ _ _ _ c _ = absurd c

names_differ : (es : List Microprogram) (ops : List Operation) → AreCompiled es ops
    → Differ (map (λ (op : Operation). op.name) ops)
    → AllPairs (λ (m n : Microprogram). m.name ≢ n.name) es
names_differ [] [] c d = λ i j x l m. absurd (omega arith)
names_differ (e ∷ es) (op ∷ ops) c d = AllPairs-cons (λ (m n : Microprogram). m.name ≢ n.name) e es
    (All-from_recursion (λ (m : Microprogram). e.name ≢ m.name) es
    (others_differ e op.name c.0.from.does.name es ops c.1 d.0)) (names_differ es ops c.1 d.1)
names_differ _ _ c _ = absurd c

-- a file can hold the entries
pub compiled_program : (es : List Microprogram) (ops : List Operation) → AreCompiled es ops
    → OpsMeet ops → IsProgram es
compiled_program es ops c meets = record {
  few = omega (arith, compiled_length es ops c, meets.few_ops);
  entries = entries_are es ops c meets.each;
  names = names_differ es ops c meets.differ;
}
