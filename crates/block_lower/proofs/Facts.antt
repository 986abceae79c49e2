-- The names of a block and their places.
use Rattle.block_lower.proofs.Common.{◌≡◌, ℕ, zero, suc, ◌<◌, true, false, not, List, [], ◌∷◌, Some}
use Rattle.block_lower.proofs.Common.{length, refl, sym, ap, ◌∙◌, subst, arith, ◌⊎◌, inl, inr}
use Rattle.block_lower.proofs.Common.{cases_Bool, length-map, Kind, Word, Bit, Equation, Block}
use Rattle.block_lower.proofs.Common.{Visit, width, is_among, state_names, word_names, Slot, IsOwn}
use Rattle.block_lower.proofs.Common.{Slots, holds_kind, BlockMeets, AreDistinct, written_names}
use Rattle.block_lower.proofs.Common.{statement_names, targets_of, slot_spot, IsRowOf}
use Rattle.std.proofs.lemmas.Bool.{not_from_false, not-true}
use Rattle.loop_ir.specs.Statements.{HasKind, IsPlaced, block_reads, read_names}
use Rattle.block_lower.specs.Inputs.{block_inputs, name_at}
use Rattle.block_lower.proofs.Names.{name-true, among-left, among-right, among-kept, among-filtered}
use Rattle.block_lower.proofs.Names.{among-at, among-is, AreOnce}
use Rattle.block_lower.proofs.Gathering.{gathered-from, gathered-once}
use Rattle.block_lower.proofs.Rows.{slot_or, slots-once}

-- what is given of a block
pub record Given (slots : Slots) (free_bit free_word : ℕ) (b : Block) : Type 0 where
  pub meets : BlockMeets slots b
  pub placed : IsPlaced slots free_bit free_word (Visit b)

-- which names are which
abbrev pub IsState : Block → List ℕ → Type 0
IsState b x = is_among (state_names b) x ≡ true

abbrev pub IsWord : Block → List ℕ → Type 0
IsWord b x = is_among (word_names b) x ≡ true

abbrev pub IsTarget : Block → List ℕ → Type 0
IsTarget b x = is_among (targets_of b.assigns) x ≡ true

abbrev pub IsInput : Block → List ℕ → Type 0
IsInput b x = is_among (block_inputs b) x ≡ true

abbrev pub IsRead : Block → List ℕ → Type 0
IsRead b x = is_among (read_names (Visit b)) x ≡ true

abbrev pub IsWritten : Block → List ℕ → Type 0
IsWritten b x = is_among (written_names (Visit b)) x ≡ true

abbrev pub IsNamed : Block → List ℕ → Type 0
IsNamed b x = is_among (statement_names (Visit b)) x ≡ true

pub once-distinct : (names : List (List ℕ)) → AreDistinct names → AreOnce names
once-distinct [] d i j li lj e = absurd (omega arith)
once-distinct (x ∷ xs) d zero zero li lj e = refl
once-distinct (x ∷ xs) d zero (suc j) li lj e = let h = among-is xs j x (omega arith) (sym e) in
    let f = d.0 in absurd (cc)
once-distinct (x ∷ xs) d (suc i) zero li lj e = let h = among-is xs i x (omega arith) e in
    let f = d.0 in absurd (cc)
once-distinct (x ∷ xs) d (suc i) (suc j) li lj e =
    ap suc (once-distinct xs d.1 i j (omega arith) (omega arith) e)

pub inputs-once : (b : Block) → AreOnce (block_inputs b)
inputs-once b = gathered-once [] (block_reads b) (λ i j li lj e. absurd (omega arith))

module _ (b : Block) (x : List ℕ) where
  pub state-written : IsState b x → IsWritten b x
  state-written e = among-left (state_names b) (word_names b) x e

  pub word-written : IsWord b x → IsWritten b x
  word-written e = among-right (state_names b) (word_names b) x e

  pub written-named : IsWritten b x → IsNamed b x
  written-named e = among-left (written_names (Visit b)) (read_names (Visit b)) x e

  pub read-named : IsRead b x → IsNamed b x
  read-named e = among-right (written_names (Visit b)) (read_names (Visit b)) x e

  pub state-named : IsState b x → IsNamed b x
  state-named e = written-named (state-written e)

  -- a target is a state or a word
  pub target-is : IsTarget b x → IsState b x ⊎ IsWord b x
  target-is e = elim (cases_Bool (is_among (state_names b) x)) [
    | inl s ↦ inl s
    | inr f ↦ inr (among-kept (λ name. not (is_among (state_names b) name)) (targets_of b.assigns) x
        e (not_from_false (is_among (state_names b) x) f))
  ]

  pub target-written : IsTarget b x → IsWritten b x
  target-written e = elim (target-is e) [ inl s ↦ state-written s | inr w ↦ word-written w ]

  pub word-target : IsWord b x → IsTarget b x × (is_among (state_names b) x ≡ false)
  word-target e =
      let h = among-filtered (λ name. not (is_among (state_names b) name)) (targets_of b.assigns) x
      e in
      (h.0, not-true (is_among (state_names b) x) h.1)

  -- an input is a state, or one that is read as it stands
  pub input-is : IsInput b x → IsState b x ⊎ IsRead b x
  input-is e = elim (cases_Bool (is_among (state_names b) x)) [
    | inl s ↦ inl s
    | inr f ↦ elim (gathered-from [] (block_reads b) x e) [
      | inl h ↦ absurd (cc)
      | inr h ↦ inr (among-kept (λ name. not (is_among (state_names b) name)) (block_reads b) x h
          (not_from_false (is_among (state_names b) x) f))
    ]
  ]

  pub input-named : IsInput b x → IsNamed b x
  input-named e = elim (input-is e) [ inl s ↦ state-named s | inr r ↦ read-named r ]

-- the targets and the inputs by their numbers
module _ (b : Block) where
  pub targets-long : length (targets_of b.assigns) ≡ length b.assigns
  targets-long = length-map b.assigns (λ (e : Equation). e.name)

  abbrev pub target : ℕ → List ℕ
  target j = name_at (targets_of b.assigns) j

  abbrev pub input : ℕ → List ℕ
  input k = name_at (block_inputs b) k

  pub target-among : (j : ℕ) → j < length b.assigns → IsTarget b (target j)
  target-among j l = among-at (targets_of b.assigns) j (omega (arith, targets-long))

  pub target-named : (j : ℕ) → j < length b.assigns → IsNamed b (target j)
  target-named j l = written-named b (target j) (target-written b (target j) (target-among j l))

  pub input-at : (k : ℕ) → k < length (block_inputs b) → IsNamed b (input k)
  input-at k l = input-named b (input k) (among-at (block_inputs b) k l)

module _ {slots : Slots} {fb fw : ℕ} {b : Block} (g : Given slots fb fw b) where
  -- a name that is read as it stands is neither a state nor a target
  pub read-is : (x : List ℕ) → IsRead b x
      → (is_among (state_names b) x ≡ false) × (is_among (targets_of b.assigns) x ≡ false)
  read-is x e =
      let h = among-filtered (λ name. not (is_among (state_names b) name)) (block_reads b) x e in
      let other = not-true (is_among (state_names b) x) h.1 in (
        other,
        elim (cases_Bool (is_among (targets_of b.assigns) x)) [
          | inl t ↦ elim (target-is b x t) [
            | inl s ↦ absurd (cc)
            | inr w ↦ (let f = g.meets.fresh x w in let r = h.0 in absurd (cc))
          ]
          | inr f ↦ f
        ],
      )

  -- a name's place
  pub found : (x : List ℕ) → IsNamed b x → slots x ≡ Some (slot_or (slots x))
  found x e = let h = g.placed.there x e in h.1 ∙ ap Some (sym (ap slot_or h.1))

  pub held-kind : (x : List ℕ) → IsNamed b x
      → holds_kind (slot_or (slots x)).space (slot_or (slots x)).kind ≡ true
  held-kind x e = let h = g.placed.there x e in
      subst (λ (y : Slot). holds_kind y.space y.kind ≡ true) (sym (ap slot_or h.1)) h.2

  kind-is : (x : List ℕ) (k : Kind) → HasKind slots x k → (slot_or (slots x)).kind ≡ k
  kind-is x k h = ap (λ o. (slot_or o).kind) h.found ∙ h.kind

  pub state-kind : (x : List ℕ) → IsState b x → (slot_or (slots x)).kind ≡ Bit
  state-kind x e = kind-is x Bit (g.meets.bits x e)

  pub word-kind : (x : List ℕ) → IsWord b x → (slot_or (slots x)).kind ≡ Word
  word-kind x e = kind-is x Word (g.meets.words x e)

  pub same-place : (x y : List ℕ) → IsNamed b x → IsNamed b y
      → (slot_or (slots x)).space ≡ (slot_or (slots y)).space
      → (slot_or (slots x)).which ≡ (slot_or (slots y)).which → x ≡ y
  same-place x y ex ey s w = name-true x y (g.placed.differ x y (slot_or (slots x))
      (slot_or (slots y)) ex ey (found x ex) (found y ey) s w)

  -- a row is of one name, at one index
  pub rows-once : (n : ℕ) (x y : List ℕ) (v w : ℕ) → IsNamed b x → IsNamed b y
      → v < width n (slot_or (slots x)).kind → w < width n (slot_or (slots y)).kind
      → slot_spot n (slot_or (slots x)) v ≡ slot_spot n (slot_or (slots y)) w → (x ≡ y) × (v ≡ w)
  rows-once n x y v w ex ey lv lw e =
      let h = slots-once n (slot_or (slots x)) (slot_or (slots y)) v w (held-kind x ex)
      (held-kind y ey) lv lw e in
      (same-place x y ex ey h.0 h.1, h.2)

  pub own-row : (x : List ℕ) → IsWritten b x → IsOwn (slot_or (slots x)).space
  own-row x e = g.placed.own x (slot_or (slots x)) e (found x (written-named b x e))

  -- a name's row at an index is one of its rows
  pub row-is : (names : List (List ℕ)) (n v : ℕ) (x : List ℕ)
      → v < width n (slot_or (slots x)).kind → is_among names x ≡ true → IsNamed b x
      → IsRowOf n slots names (slot_spot n (slot_or (slots x)) v)
  row-is names n v x lt e s = (x, slot_or (slots x), v, e, found x s, lt, refl)
