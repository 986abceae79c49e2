-- The names after one let more
use Rattle.std.proofs.Common.{◌≡◌, ◌≢◌, ◌⊎◌, ℕ, ◌+◌, ◌<◌, ◌≤◌, Bool, List, [], ◌∷◌, ◌++◌, length}
use Rattle.std.proofs.Common.{refl, sym, ◌∙◌, ap, arith, inl, inr, take, get_or}
use Rattle.std.specs.Prelude.{Some, bytes_eq, map, true, false}
use Rattle.std.specs.Cmp.Lexicographic.{bytes_decides}
use Rattle.std.proofs.lemmas.Bool.{cases_Bool}
use Rattle.std.proofs.lemmas.List.{take_more, map-append}
use Rattle.std.proofs.lemmas.List.Sums.{sum_by-append, sum-map}
use Rattle.indexmap.specs.IndexMap.{get}
use Rattle.aoi_graph.specs.declared.AoiNode.{AoiNode}
use Rattle.op_text.specs.declared.tree.Assign.{Assign}
use Rattle.op_text.specs.Language.{Equation, term, equation}
use Rattle.op_text.specs.Meaning.{term_bit, changed}
use Rattle.op_text.specs.Scratch.{term_weight}
use Rattle.aoi_graph.specs.Gates.{aoi_values}
use Rattle.aoi_graph.specs.Blocks.{Numbers, after_lets, parts, all_weights, all_parts}
use Rattle.aoi_graph.specs.Making.{Grows, IsEnv, AreBelow}
use Rattle.aoi_graph.proofs.Growing.{env-stays}

pub lets-and-one : (env : List ℕ → Bool) (xs : List Assign) (a : Assign)
    → after_lets env (xs ++ a ∷ []) ≡ changed (after_lets env xs) a.name
    (term_bit (after_lets env xs) (term a.value))
lets-and-one env [] a = refl
lets-and-one env (x ∷ xs) a = lets-and-one (changed env x.name (term_bit env (term x.value))) xs a

pub take-one-more : (lets : List Assign) (a : Assign) (i : ℕ) → i < length lets
    → a ≡ get_or lets i a → take (i + 1) lets ≡ take i lets ++ a ∷ []
take-one-more lets a i b e = take_more lets i a b
    ∙ ap (λ (x : Assign). take i lets ++ x ∷ []) (sym e)

pub weights-more : (xs : List Assign) (a : Assign)
    → all_weights (xs ++ a ∷ []) ≡ all_weights xs + (0 + term_weight (term a.value))
weights-more xs a =
    let f : Equation → ℕ = λ e. term_weight e.value in
    rw (
      map-append equation xs (a ∷ []),
      sum-map f (map equation xs ++ equation a ∷ []),
      sum-map f (map equation xs),
    ) (sum_by-append f (map equation xs) (equation a ∷ []))

pub parts-more : (xs : List Assign) (a : Assign)
    → all_parts (xs ++ a ∷ []) ≡ all_parts xs + (0 + parts (term a.value))
parts-more xs a = sum_by-append (λ (a : Assign). parts (term a.value)) xs (a ∷ [])

-- whether a name is another one
pub names-tell : (n name : List ℕ) → ((bytes_eq n name ≡ true) × (n ≡ name))
    ⊎ ((bytes_eq n name ≡ false) × (n ≢ name))
names-tell n name = elim (cases_Bool (bytes_eq n name)) [
  | inl t ↦ inl (t, (bytes_decides n name).0 t)
  | inr f ↦ inr (f, λ e. let t = (bytes_decides n name).1 e in absurd cc)
]

-- the names stand for nodes
pub below-more : (known next : Numbers) (size more : ℕ) (name : List ℕ) (k : ℕ)
    → AreBelow known size → size ≤ more → k < more → get bytes_eq next name ≡ Some k
    → ((n : List ℕ) → n ≢ name → get bytes_eq next n ≡ get bytes_eq known n) → AreBelow next more
below-more known next size more name k h l b same others n j e = elim (names-tell n name) [
  | inl t ↦ let f : get bytes_eq next n ≡ Some k = rw t.1 same in let g : j ≡ k = cc in omega arith
  | inr t ↦ let f = h n j (sym (others n t.1) ∙ e) in omega arith
]

-- and have their values
pub env-more : (nodes mid : List AoiNode) (g p : ℕ) (known next inputs : Numbers) (bits : ℕ
    → Bool) (env : List ℕ → Bool) (name : List ℕ) (k : ℕ) (v : Bool) → Grows nodes mid g p
    → AreBelow known (length nodes) → get bytes_eq next name ≡ Some k
    → ((n : List ℕ) → n ≢ name → get bytes_eq next n ≡ get bytes_eq known n)
    → aoi_values mid bits k ≡ v → IsEnv nodes known inputs bits env
    → IsEnv mid next inputs bits (changed env name v)
env-more nodes mid g p known next inputs bits env name k v x below same others value h n =
    elim (names-tell n name) [
      | inl t ↦
          let f : get bytes_eq next n ≡ Some k = rw t.1 same in
          rw (t.0, f) (sym value)
      | inr t ↦ rw (t.0, others n t.1) (env-stays nodes mid g p known inputs bits env x below h n)
    ]
