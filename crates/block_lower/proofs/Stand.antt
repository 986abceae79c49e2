-- Where the names of a block stand: each in its row, or the block's one state in cells.
use Rattle.block_lower.proofs.Common.{◌≡◌, ℕ, ◌<◌, Bool, true, false, cond, List, refl, sym, ap}
use Rattle.block_lower.proofs.Common.{◌∙◌, subst, ◌⊎◌, inl, inr, cases_Bool, Kind, Block, Visit}
use Rattle.block_lower.proofs.Common.{width, is_among, state_names, Space, Result, Source}
use Rattle.block_lower.proofs.Common.{ScratchBit, ScratchWord, Cells, Spot, is_state, IsOwn, Slots}
use Rattle.block_lower.proofs.Common.{holds_kind, targets_of, statement_names, written_names}
use Rattle.block_lower.proofs.Common.{slot_spot, IsRowOf, IsStatementRow}
use Rattle.std.proofs.lemmas.Bool.{false≢true}
use Rattle.block_lower.proofs.Rows.{slot_or, row_of, row-below, named_row, spot-space}
use Rattle.block_lower.proofs.Facts.{Given, IsState, IsTarget, IsWritten, IsNamed, written-named}
use Rattle.block_lower.proofs.Facts.{held-kind, state-kind, rows-once, own-row, row-is}

-- the name of cells
abbrev pub cell_spot : ℕ → Spot
cell_spot w = record { space = Cells; which = w; index = 0 }

-- which names stand in cells: none, or the block's one state, which it assigns
pub record Away (b : Block) : Type 0 where
  pub is : List ℕ → Bool
  pub cells : ℕ
  pub state : (x : List ℕ) → is x ≡ true → IsState b x
  pub alone : (x y : List ℕ) → is x ≡ true → IsState b y → x ≡ y
  pub set : (x : List ℕ) → is x ≡ true → IsTarget b x

abbrev pub in_rows : (b : Block) → Away b
in_rows b = record {
  is = λ x. false;
  cells = 0;
  state = λ x e. absurd (false≢true e);
  alone = λ x y e f. absurd (false≢true e);
  set = λ x e. absurd (false≢true e);
}

-- where a name stands at a position
abbrev pub stand : {b : Block} → Away b → Slots → ℕ → ℕ → List ℕ → Spot
stand a slots n p x = cond (a.is x) (cell_spot a.cells) (named_row n slots p x)

space-row : (s : Space) (k : Kind) → holds_kind s k ≡ true → is_state s ≡ false
space-row Result k h = refl
space-row Source k h = refl
space-row ScratchBit k h = refl
space-row ScratchWord k h = refl
space-row Cells k h = cc

module _ {slots : Slots} {fb fw : ℕ} {b : Block} (g : Given slots fb fw b) where
  pub named-space : (x : List ℕ) → IsNamed b x → is_state (slot_or (slots x)).space ≡ false
  named-space x e = space-row (slot_or (slots x)).space (slot_or (slots x)).kind (held-kind g x e)

  pub row-space : (n v : ℕ) (x : List ℕ) → IsNamed b x
      → is_state (slot_spot n (slot_or (slots x)) v).space ≡ false
  row-space n v x e = ap is_state (spot-space n (slot_or (slots x)).space (slot_or (slots x)).which v)
      ∙ named-space x e

  abbrev at_row : ℕ → List ℕ → ℕ
  at_row p x = row_of p (slot_or (slots x)).kind

  at-below : (n p : ℕ) (x : List ℕ) → p < n → at_row p x < width n (slot_or (slots x)).kind
  at-below n p x lt = row-below n p (slot_or (slots x)).kind lt

  -- no row of a name is in cells
  no-row : (n v w : ℕ) (x : List ℕ) → IsNamed b x
      → slot_spot n (slot_or (slots x)) v ≡ cell_spot w → ⊥
  no-row n v w x e f = let t = sym (row-space n v x e) ∙ ap (λ (q : Spot). is_state q.space) f in cc

  -- the row of a state is the same at each position
  pub state-row : (n p : ℕ) (x : List ℕ) → IsState b x
      → named_row n slots p x ≡ slot_spot n (slot_or (slots x)) 0
  state-row n p x e = ap (λ k. slot_spot n (slot_or (slots x)) (row_of p k)) (state-kind g x e)

  module _ (a : Away b) where
    pub cases_away : (n p : ℕ) (x : List ℕ)
        → ((a.is x ≡ true) × (stand a slots n p x ≡ cell_spot a.cells))
        ⊎ ((a.is x ≡ false) × (stand a slots n p x ≡ named_row n slots p x))
    cases_away n p x = elim (cases_Bool (a.is x)) [
      | inl e ↦ inl (e, ap (λ c. cond c (cell_spot a.cells) (named_row n slots p x)) e)
      | inr e ↦ inr (e, ap (λ c. cond c (cell_spot a.cells) (named_row n slots p x)) e)
    ]

    pub row-stand : (n p : ℕ) (x : List ℕ) → is_among (state_names b) x ≡ false
        → stand a slots n p x ≡ named_row n slots p x
    row-stand n p x f = elim (cases_away n p x) [
      | inl e ↦ let s = a.state x e.0 in absurd (cc)
      | inr e ↦ e.1
    ]

    pub unset-stand : (n p : ℕ) (x : List ℕ) → is_among (targets_of b.assigns) x ≡ false
        → stand a slots n p x ≡ named_row n slots p x
    unset-stand n p x f = elim (cases_away n p x) [
      | inl e ↦ let s = a.set x e.0 in absurd (cc)
      | inr e ↦ e.1
    ]

    pub stand-still : (n p q : ℕ) (x : List ℕ) → IsState b x
        → stand a slots n p x ≡ stand a slots n q x
    stand-still n p q x e = ap (cond (a.is x) (cell_spot a.cells))
        (state-row n p x e ∙ sym (state-row n q x e))

    -- one that stands in a row of a name is that name
    pub stand-row : (n p : ℕ) (x y : List ℕ) (v : ℕ) → p < n → IsNamed b x → IsNamed b y
        → v < width n (slot_or (slots y)).kind
        → stand a slots n p x ≡ slot_spot n (slot_or (slots y)) v
        → (x ≡ y) × (at_row p x ≡ v)
    stand-row n p x y v lt ex ey lv e = elim (cases_away n p x) [
      | inl f ↦ absurd (no-row n v a.cells y ey (sym e ∙ f.1))
      | inr f ↦ rows-once g n x y (at_row p x) v ex ey
          (at-below n p x lt) lv (sym f.1 ∙ e)
    ]

    -- a row that is none of those that the block sets is not where a name is that it sets
    pub stand-rest : (n p : ℕ) (x : List ℕ) → p < n → IsWritten b x → (q : Spot)
        → is_state q.space ≡ false → (IsRowOf n slots (written_names (Visit b)) q → ⊥)
        → q ≡ stand a slots n p x → ⊥
    stand-rest n p x lt w q r out e = elim (cases_away n p x) [
      | inl f ↦ let t = ap (λ (s : Spot). is_state s.space) (e ∙ f.1) in cc
      | inr f ↦ out (subst (IsRowOf n slots (written_names (Visit b))) (sym (e ∙ f.1))
          (row-is g (written_names (Visit b)) n (at_row p x) x (at-below n p x lt) w
          (written-named b x w)))
    ]

    -- a row where a name stands is one of the statement's
    pub stand-had : (n p : ℕ) (x : List ℕ) → p < n → IsNamed b x
        → is_state (stand a slots n p x).space ≡ false
        → IsStatementRow slots fb fw (Visit b) n (stand a slots n p x)
    stand-had n p x lt e r = elim (cases_away n p x) [
      | inl f ↦ absurd (let t = ap (λ (s : Spot). is_state s.space) f.1 in cc)
      | inr f ↦ inl (subst (IsRowOf n slots (statement_names (Visit b))) (sym f.1)
          (row-is g (statement_names (Visit b)) n (at_row p x) x (at-below n p x lt) e
          e))
    ]

    pub stand-own : (n p : ℕ) (x : List ℕ) → IsWritten b x → IsOwn (stand a slots n p x).space
    stand-own n p x w = elim (cases_away n p x) [
      | inl f ↦ subst (λ (s : Spot). IsOwn s.space) (sym f.1) tt
      | inr f ↦ subst (λ (s : Spot). IsOwn s.space) (sym f.1)
          (subst IsOwn (sym (spot-space n (slot_or (slots x)).space (slot_or (slots x)).which
          (at_row p x)))
          (own-row g x w))
    ]

  -- two that stand in one place are one name
  pub stand-once : (a z : Away b) (n p : ℕ) (x y : List ℕ) → p < n → IsNamed b x → IsNamed b y
      → stand z slots n p x ≡ stand a slots n p y → (x ≡ y) × (z.is x ≡ a.is y)
  stand-once a z n p x y lt ex ey e = elim (cases_away z n p x) [
    | inl f ↦ elim (cases_away a n p y) [
      | inl h ↦ (z.alone x y f.0 (a.state y h.0), f.0 ∙ sym h.0)
      | inr h ↦ absurd (no-row n (at_row p y) z.cells y ey (sym h.1 ∙ sym e ∙ f.1))
    ]
    | inr f ↦ elim (cases_away a n p y) [
      | inl h ↦ absurd (no-row n (at_row p x) a.cells x ex (sym f.1 ∙ e ∙ h.1))
      | inr h ↦ (
        (rows-once g n x y (at_row p x) (at_row p y) ex ey (at-below n p x lt)
            (at-below n p y lt) (sym f.1 ∙ e ∙ h.1)).0,
        f.0 ∙ sym h.0,
      )
    ]
  ]
