-- A block's values rest on the names that it reads alone
use Rattle.std.proofs.Common.{◌≡◌, ℕ, zero, suc, Bool, true, false, ◌||◌, if◌then◌else◌, List, []}
use Rattle.std.proofs.Common.{◌∷◌, refl, sym, ◌∙◌}
use Rattle.std.specs.Prelude.{Option, Some, None, is_some, slice_get, bytes_eq}
use Rattle.std.specs.List.{AllByRecursion}
use Rattle.std.specs.Option.{option_map_or}
use Rattle.indexmap.specs.IndexMap.{get}
use Rattle.op_text.specs.declared.tree.Assign.{Assign}
use Rattle.op_text.specs.Language.{Term, Nought, Unity, Named, Negation, Conjunction, Disjunction}
use Rattle.op_text.specs.Language.{Parity, Majority, term}
use Rattle.op_text.specs.Meaning.{term_bit, changed}
use Rattle.aoi_graph.specs.declared.AoiNode.{AoiNode}
use Rattle.aoi_graph.specs.Blocks.{Numbers, NamesInputs, ReadsKnown, BlockReads, HaveValues}
use Rattle.aoi_graph.specs.Blocks.{after_lets, input_value, is_input}

-- both give the known names the same values
abbrev Agree : (List ℕ → Bool) → (List ℕ → Bool) → (List ℕ → Bool) → Type 0
Agree known r s = (name : List ℕ) → known name ≡ true → r name ≡ s name

term-agrees : (known r s : List ℕ → Bool) (t : Term) → Agree known r s → ReadsKnown known t
    → term_bit r t ≡ term_bit s t
term-agrees known r s Nought same k = refl
term-agrees known r s Unity same k = refl
term-agrees known r s (Named name) same k = same name k
term-agrees known r s (Negation a) same k = rw (term-agrees known r s a same k) refl
term-agrees known r s (Conjunction a b) same k =
    rw (term-agrees known r s a same k.0, term-agrees known r s b same k.1) refl
term-agrees known r s (Disjunction a b) same k =
    rw (term-agrees known r s a same k.0, term-agrees known r s b same k.1) refl
term-agrees known r s (Parity a b) same k = rw (
  term-agrees known r s a same k.0,
  term-agrees known r s b same k.1,
) refl
term-agrees known r s (Majority a b c) same k =
    rw (
      term-agrees known r s a same k.0,
      term-agrees known r s b same k.1,
      term-agrees known r s c same k.2,
    ) refl

either : (b k v w x y : Bool) → v ≡ w → (k ≡ true → x ≡ y) → (b || k) ≡ true
    → (if b then v else x) ≡ (if b then w else y)
either true k v w x y e f h = e
either false k v w x y e f h = f h

changed-agrees : (known r s : List ℕ → Bool) (name : List ℕ) (v w : Bool) → Agree known r s → v ≡ w
    → Agree (λ n. bytes_eq n name || known n) (changed r name v) (changed s name w)
changed-agrees known r s name v w same e n h =
    either (bytes_eq n name) (known n) v w (r n) (s n) e (same n) h

assign-agrees : (known r s : List ℕ → Bool) (assigns : List Assign) (j : ℕ) (a : Assign)
    → Agree known r s → AllByRecursion (λ (a : Assign). ReadsKnown known (term a.value)) assigns
    → slice_get assigns j ≡ Some a → term_bit r (term a.value) ≡ term_bit s (term a.value)
assign-agrees known r s [] j a same k g = absurd cc
assign-agrees known r s (x ∷ xs) zero a same k g = let e : x ≡ a = cc in
    rw (← e) (term-agrees known r s (term x.value) same k.0)
assign-agrees known r s (x ∷ xs) (suc j) a same k g = assign-agrees known r s xs j a same k.1 g

block-agrees : (known r s : List ℕ → Bool) (lets assigns : List Assign) (j : ℕ) (a : Assign)
    → Agree known r s → BlockReads known lets assigns → slice_get assigns j ≡ Some a
    → term_bit (after_lets r lets) (term a.value) ≡ term_bit (after_lets s lets) (term a.value)
block-agrees known r s [] assigns j a same k g = assign-agrees known r s assigns j a same k g
block-agrees known r s (l ∷ lets) assigns j a same k g =
    let v = term_bit r (term l.value) in
    let w = term_bit s (term l.value) in
    block-agrees (λ n. bytes_eq n l.name || known n) (changed r l.name v) (changed s l.name w) lets
    assigns j a (changed-agrees known r s l.name v w same
    (term-agrees known r s (term l.value) same k.0)) k.1 g

held-value : (bits : ℕ → Bool) (o : Option ℕ) (b : Bool) → ((i : ℕ) → o ≡ Some i → b ≡ bits i)
    → is_some o ≡ true → option_map_or (λ i. bits i) o false ≡ b
held-value bits None b h k = absurd cc
held-value bits (Some i) b h k = sym (h i refl)

-- the values of the block, where the names of the inputs alone are known
pub known-values : (inputs : Numbers) (bits : ℕ → Bool) (env : List ℕ
    → Bool) (lets assigns : List Assign) (nodes : List AoiNode) (outs : List ℕ)
    → BlockReads (is_input inputs) lets assigns → NamesInputs inputs bits env
    → HaveValues nodes outs bits (after_lets (input_value inputs bits) lets) assigns
    → HaveValues nodes outs bits (after_lets env lets) assigns
known-values inputs bits env lets assigns nodes outs reads names have j a g =
    have j a g ∙ block-agrees (is_input inputs) (input_value inputs bits) env lets assigns j a
    (λ n k. held-value bits (get bytes_eq inputs n) (env n) (names n) k) reads g
