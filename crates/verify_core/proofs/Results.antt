-- Rows of results, kind by kind
use Rattle.verify_core.proofs.Common.{ℕ, zero, suc, ◌*◌, ◌<◌, Bool, true, List, ◌∷◌, slice_get, sym}
use Rattle.verify_core.proofs.Common.{◌∙◌, ap, arith, Some, flip_if, D, Column, Kind, Shape, width}
use Rattle.verify_core.proofs.Common.{in_kind, Edge, Node, Keeps, AreCells, Cells, column_of}
use Rattle.verify_core.proofs.Common.{column-kept, kind_width, ◌≡◌, ◌+◌}
use Rattle.std.specs.Prelude.{IfSome, IfNone}
use Rattle.std.specs.Option.{option_to_list}
use Rattle.std.proofs.Common.{Option, None}
use Rattle.verify_core.specs.SymbolicRuns.{IsDifference, ResultsAgree, ResultsDiffer}

-- a difference in a diagram that grew since the columns were made
pub difference-from : (old mid new : List Node) (own made : Cells) (row : ℕ) (e : Edge)
    → Keeps old mid → AreCells old own → AreCells old made → IsDifference mid new own made row e
    → IsDifference old new own made row e
difference-from old mid new own made row e k p q d = record {
  named = d.named;
  some = d.some;
  value = λ bits. d.value bits
      ∙ ap (λ (s : Column). flip_if (s (D row)) (column_of mid bits made (D row)))
      (column-kept old mid bits own k p)
      ∙ ap (λ (s : Column). flip_if (column_of old bits own (D row)) (s (D row)))
      (column-kept old mid bits made k q);
}

pub second-differs : (shape : Shape) (n i : ℕ) (old new : List Node) (own made : Cells) (e : Edge)
    → in_kind shape.second n i ≡ true → IsDifference old new own made (n + i) e
    → ResultsDiffer shape n old new own made e
second-differs shape n i old new own made e l d = record {
  which = 1;
  position = i;
  inside = second-kind shape.second l;
  difference = let z : 1 * n + i ≡ n + i = omega arith in rw z d;
}
  where
    second-kind : (o : Option Kind) → in_kind o n i ≡ true
        → in_kind (slice_get (shape.result ∷ option_to_list o) 1) n i ≡ true
    second-kind None h = h
    second-kind (Some k) h = h

-- results that agree, one and the other
pub both-agree : (shape : Shape) (n : ℕ) (nodes : List Node) (own made : Cells)
    → ((bits : ℕ → Bool) (i : ℕ) → i < width shape.result n
    → column_of nodes bits own (D (0 + i)) ≡ column_of nodes bits made (D (0 + i)))
    → ((bits : ℕ → Bool) (i : ℕ) → in_kind shape.second n i ≡ true
    → column_of nodes bits own (D (n + i)) ≡ column_of nodes bits made (D (n + i)))
    → ResultsAgree shape n nodes own made
both-agree shape n nodes own made first second bits zero i h =
    let z : 0 * n + i ≡ 0 + i = omega arith in
    rw z (first bits i (kind_width shape.result n i h))
both-agree shape n nodes own made first second bits (suc zero) i h =
    let z : 1 * n + i ≡ n + i = omega arith in
    rw z (second bits i (second-kind shape.second h))
  where
    second-kind : (o : Option Kind)
        → in_kind (slice_get (shape.result ∷ option_to_list o) 1) n i ≡ true
        → in_kind o n i ≡ true
    second-kind None h = h
    second-kind (Some k) h = h
both-agree shape n nodes own made first second bits (suc (suc w)) i h =
    absurd (past shape.second h)
  where
    past : (o : Option Kind)
        → in_kind (slice_get (shape.result ∷ option_to_list o) (suc (suc w))) n i ≡ true → ⊥
    past None h = absurd (cc)
    past (Some k) h = absurd (cc)

-- columns that agree in a diagram that grew agreed before
pub agree-from : (old mid : List Node) (own made : Cells) (n : ℕ) (o : Option Kind) → Keeps old mid
    → AreCells old own → AreCells old made
    → ((bits : ℕ → Bool) (i : ℕ) → in_kind o n i ≡ true
    → column_of mid bits own (D (n + i)) ≡ column_of mid bits made (D (n + i)))
    → (bits : ℕ → Bool) (i : ℕ) → in_kind o n i ≡ true
    → column_of old bits own (D (n + i)) ≡ column_of old bits made (D (n + i))
agree-from old mid own made n o k p q agree bits i h =
    ap (λ (s : Column). s (D (n + i))) (sym (column-kept old mid bits own k p))
    ∙ agree bits i h
    ∙ ap (λ (s : Column). s (D (n + i))) (column-kept old mid bits made k q)

-- what is said of no value, where there is none
pub said : {X : Type 0} (o : Option X) (A : Type 0) → o ≡ None → IfNone o A → A
said None A e h = h
said (Some x) A e h = absurd (cc)

pub none-map : (A B : Type 0) (o : Option Edge) → (A → B) → IfNone o A → IfNone o B
none-map A B None f h = f h
none-map A B (Some e) f h = tt

pub some-map : (A B : Edge → Type 0) (o : Option Edge) → ((e : Edge) → A e → B e) → IfSome o A
    → IfSome o B
some-map A B None f h = tt
some-map A B (Some e) f h = f e h

pub said-some : {X : Type 0} (o : Option X) (x : X) (A : X → Type 0) → o ≡ Some x → IfSome o A
    → A x
said-some o x A e h = rw e at h
