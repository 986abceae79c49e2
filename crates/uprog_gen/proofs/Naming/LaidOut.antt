-- All names of an operation come to their places.
use Rattle.uprog_gen.proofs.Common.{◌≡◌, ℕ, zero, suc, ◌+◌, ◌<◌, ◌≤◌, cond, List, [], ◌∷◌, ◌++◌}
use Rattle.uprog_gen.proofs.Common.{map, length, take, Option, Some, None, refl, sym, ap, ◌∙◌}
use Rattle.uprog_gen.proofs.Common.{subst, arith, append_assoc, append-nil, count_by}
use Rattle.uprog_gen.proofs.Common.{slice_index_or, map_more, take_all, sum_by-append, Kind, Word}
use Rattle.uprog_gen.proofs.Common.{Bit, Param, Stmt, Statement, Compute, Visit, Operation}
use Rattle.uprog_gen.proofs.Common.{statement, result_names, kind_among, defines, body_defines}
use Rattle.uprog_gen.proofs.Common.{names_of, Differ, Context, next_context, at_start}
use Rattle.uprog_gen.proofs.Common.{StatementMeets, BodyMeets, OperationMeets, new-left}
use Rattle.uprog_gen.proofs.Common.{names-append, scratch_is_small, Slot, NameMap, slots_of}
use Rattle.std.proofs.Common.{drop}
use Rattle.std.proofs.lemmas.List.{take-map, take-append-drop}
use Rattle.op_rules.proofs.Apart.{names_stand_once}
use Rattle.uprog_gen.specs.Layout.{Lay, is_scratch, source_lays, defined_lays, found, IsLayoutMap}
use Rattle.uprog_gen.specs.Laying.{placed, Lays, kind_in, Knows, IsShort}
use Rattle.uprog_gen.proofs.Naming.Lays.{params_of, or_else, found_kind, lays_params}
use Rattle.uprog_gen.proofs.Naming.Placed.{placed_same, placed-append, placed_found}
use Rattle.uprog_gen.proofs.Naming.Placed.{defined_lays-append}

-- the names of the first k statements have come to their places, and those of the sources
pub record IsLaidTo (op : Operation) (k : ℕ) (m : NameMap) : Type 0 where
  pub at : (name : List ℕ) → slots_of m name ≡ placed (λ n. None) (source_lays 0 op.params
      ++ defined_lays (result_names op) 0 0 (body_defines op.params (take k op.body))) name
  pub bits : m.free_bit ≡ count_by (is_scratch (result_names op) Bit)
      (body_defines op.params (take k op.body))
  pub words : m.free_word ≡ count_by (is_scratch (result_names op) Word)
      (body_defines op.params (take k op.body))

pub body_defines-append : (known : List Param) (xs ys : List Statement)
    → body_defines known (xs ++ ys) ≡ body_defines known xs
    ++ body_defines (known ++ body_defines known xs) ys
body_defines-append known [] ys = ap (λ l. body_defines l ys) (sym (append-nil known))
body_defines-append known (x ∷ xs) ys =
    let d = defines known x in
    ap (λ l. d ++ l) (body_defines-append (known ++ d) xs ys
    ∙ ap (λ l. body_defines (known ++ d) xs ++ body_defines l ys)
    (append_assoc known d (body_defines (known ++ d) xs)))
    ∙ sym (append_assoc d (body_defines (known ++ d) xs)
    (body_defines (known ++ (d ++ body_defines (known ++ d) xs)) ys))

differ_left : (xs ys : List (List ℕ)) → Differ (xs ++ ys) → Differ xs
differ_left [] ys h = tt
differ_left (x ∷ xs) ys h = (new-left xs ys x h.0, differ_left xs ys h.1)

-- the statements of an operation are short
short_at : (c : Context) (items : List Stmt) (k : ℕ) (x : Stmt) → BodyMeets c (map statement items)
    → k < length items → x ≡ slice_index_or items k x → IsShort (statement x)
short_at c [] k x h lt e = absurd (omega arith)
short_at c (y ∷ items) zero x h lt e = subst (λ (z : Stmt). IsShort (statement z)) (sym e)
    (by (statement y) h.0)
  where
    by : (s : Statement) → StatementMeets c s → IsShort s
    by (Compute target second p args) m = tt
    by (Visit b) m = (m.few_states, m.few_assigns)
short_at c (y ∷ items) (suc k) x h lt e = short_at (next_context c (statement y)) items k x h.1
    (omega arith) e

or_none : (o : Option Slot) → or_else o None ≡ o
or_none None = refl
or_none (Some x) = refl

module _ (op : Operation) (meets : OperationMeets op) where
  -- the names of the first k statements, and what they make
  abbrev pub front : ℕ → List Param
  front k = body_defines op.params (take k op.body)

  abbrev first_lays : ℕ → List Lay
  first_lays k = source_lays 0 op.params ++ defined_lays (result_names op) 0 0 (front k)

  front_params : (k : ℕ) → params_of (first_lays k) ≡ op.params ++ front k
  front_params k = lays_params (result_names op) op.params (front k)

  -- the rest
  abbrev back : ℕ → List Param
  back k = body_defines (op.params ++ front k) (drop k op.body)

  whole : (k : ℕ) → body_defines op.params op.body ≡ front k ++ back k
  whole k = ap (body_defines op.params) (sym (take-append-drop k op.body))
      ∙ body_defines-append op.params (take k op.body) (drop k op.body)

  front_differ : (k : ℕ) → Differ (names_of (op.params ++ front k))
  front_differ k =
      let all : Differ (names_of (op.params ++ (front k ++ back k))) =
      subst (λ ps. Differ (names_of (op.params ++ ps))) (whole k)
      (names_stand_once op meets).differ in
      let split : Differ (names_of (op.params ++ front k) ++ names_of (back k)) =
      subst Differ (ap names_of (sym (append_assoc op.params (front k) (back k)))
      ∙ names-append (op.params ++ front k) (back k)) all in
      differ_left (names_of (op.params ++ front k)) (names_of (back k)) split

  first_found : (k : ℕ) (name : List ℕ) → placed (λ n. None) (first_lays k) name
      ≡ found (first_lays k) name
  first_found k name = placed_found (λ n. None) (first_lays k)
      (subst (λ ps. Differ (names_of ps)) (sym (front_params k)) (front_differ k)) name
      ∙ or_none (found (first_lays k) name)

  pub laid_knows : (k : ℕ) (m : NameMap) → IsLaidTo op k m → Knows (op.params ++ front k) m
  laid_knows k m is name = ap kind_in (is.at name ∙ first_found k name)
      ∙ sym (found_kind (first_lays k) name) ∙ ap (λ ps. kind_among ps name) (front_params k)

  few : (k : Kind) (j : ℕ) → count_by (is_scratch (result_names op) k) (front j) ≤ 128
  few k j = omega (
    arith,
    (scratch_is_small op meets).names k,
    ap (count_by (is_scratch (result_names op) k)) (whole j),
    sum_by-append (λ (q : Param). cond (is_scratch (result_names op) k q) 1 0) (front j) (back j),
  )

  pub laid_bits : (k : ℕ) (m : NameMap) → IsLaidTo op k m → m.free_bit ≤ 128
  laid_bits k m is = omega (arith, is.bits, few Bit k)

  pub laid_words : (k : ℕ) (m : NameMap) → IsLaidTo op k m → m.free_word ≤ 128
  laid_words k m is = omega (arith, is.words, few Word k)

  -- one statement more
  pub laid_more : (k : ℕ) (s : Statement) (old new : NameMap)
      → take (k + 1) op.body ≡ take k op.body ++ s ∷ [] → IsLaidTo op k old
      → Lays (result_names op) (defines (op.params ++ front k) s) old new → IsLaidTo op (k + 1) new
  laid_more k s old new e is h =
      let d = defines (op.params ++ front k) s in
      let more : front (k + 1) ≡ front k ++ d =
      ap (body_defines op.params) e ∙ body_defines-append op.params (take k op.body) (s ∷ [])
      ∙ ap (λ l. front k ++ l) (append-nil d) in
      let bits' : old.free_bit ≡ 0 + count_by (is_scratch (result_names op) Bit) (front k) =
      omega (arith, is.bits) in
      let words' : old.free_word ≡ 0 + count_by (is_scratch (result_names op) Word) (front k) =
      omega (arith, is.words) in
      let b0 = 0 + count_by (is_scratch (result_names op) Bit) (front k) in
      let w0 = 0 + count_by (is_scratch (result_names op) Word) (front k) in
      record {
        at = λ n. h.at n ∙ placed_same (slots_of old) (placed (λ m. None) (first_lays k))
            (defined_lays (result_names op) old.free_bit old.free_word d) is.at n ∙ rw (
              bits',
              words',
              more,
              defined_lays-append (result_names op) 0 0 (front k) d,
              ← append_assoc (source_lays 0 op.params) (defined_lays (result_names op) 0 0 (front k))
                  (defined_lays (result_names op) b0 w0 d),
              placed-append (λ m. None) (first_lays k) (defined_lays (result_names op) b0 w0 d) n,
            ) refl;
        bits = omega (
          arith,
          h.bits,
          is.bits,
          ap (count_by (is_scratch (result_names op) Bit)) more,
          sum_by-append (λ (q : Param). cond (is_scratch (result_names op) Bit q) 1 0) (front k) d,
        );
        words = omega (
          arith,
          h.words,
          is.words,
          ap (count_by (is_scratch (result_names op) Word)) more,
          sum_by-append (λ (q : Param). cond (is_scratch (result_names op) Word q) 1 0) (front k) d,
        );
      }

  -- and all
  pub laid_all : (k : ℕ) (m : NameMap) → length op.body ≤ k → IsLaidTo op k m → IsLayoutMap op m
  laid_all k m le is =
      let e : front k ≡ body_defines op.params op.body =
      ap (body_defines op.params) (take_all k op.body le) in
      record {
        at = λ name. is.at name ∙ first_found k name
            ∙ ap (λ l. found (source_lays 0 op.params ++ defined_lays (result_names op) 0 0 l)
            name) e;
        bits = is.bits ∙ ap (count_by (is_scratch (result_names op) Bit)) e;
        words = is.words ∙ ap (count_by (is_scratch (result_names op) Word)) e;
      }

pub statement_short : (op : Operation) (items : List Stmt) (k : ℕ) (x : Stmt) → OperationMeets op
    → op.body ≡ map statement items → k < length items → x ≡ slice_index_or items k x
    → IsShort (statement x)
statement_short op items k x meets e lt is = short_at (at_start op) items k x
    (subst (BodyMeets (at_start op)) e meets.body) lt is

pub body_more : (items : List Stmt) (k : ℕ) (x : Stmt) → k < length items
    → x ≡ slice_index_or items k x → take (k + 1) (map statement items)
    ≡ take k (map statement items) ++ statement x ∷ []
body_more items k x lt e = take-map statement (k + 1) items ∙ map_more statement items k x lt
    ∙ ap (λ y. map statement (take k items) ++ statement y ∷ []) (sym e)
    ∙ ap (λ l. l ++ statement x ∷ []) (sym (take-map statement k items))
