-- The loop programs of all statements, one after another, leave in each name's rows what the
-- operation means.
use Rattle.uprog_gen.proofs.Common.{◌≡◌, ℕ, ◌+◌, ◌*◌, ◌<◌, ◌≤◌, Bool, true, false, List, [], ◌∷◌}
use Rattle.uprog_gen.proofs.Common.{◌++◌, Option, Some, None, refl, sym, ap, ◌∙◌, subst, arith, ◌⊎◌}
use Rattle.uprog_gen.proofs.Common.{inl, inr, ⊎_elim, append_assoc, append-nil, mul-add-lt}
use Rattle.uprog_gen.proofs.Common.{mul_comm, WIDTH_MAX, Kind, Word, Bit, Param, Statement}
use Rattle.uprog_gen.proofs.Common.{Operation, is_among, NameValue, width, after_statement, defines}
use Rattle.uprog_gen.proofs.Common.{body_defines, names_of, Context, next_context, OperationMeets}
use Rattle.uprog_gen.proofs.Common.{names-append, Space, Result, Source, ScratchBit, ScratchWord}
use Rattle.uprog_gen.proofs.Common.{Cells, Slot, StepOf, Block, all_rounds, Spot, Spots, spot_in}
use Rattle.uprog_gen.proofs.Common.{after_rounds, is_state, Slots, holds_kind, written_names}
use Rattle.uprog_gen.proofs.Common.{slot_spot, HoldsAt}
use Rattle.std.proofs.lemmas.Bool.{cases_order}
use Rattle.op_text.specs.Meaning.{after_body}
use Rattle.loop_ir.specs.Lowered.{slot_bits, Holds, IsRowOf, IsInside, IsChanged, Does}
use Rattle.uprog_gen.specs.Does.{after_statements}
use Rattle.uprog_gen.specs.Layout.{IsLayout}
use Rattle.uprog_gen.specs.Programs.{AreLowered}
use Rattle.uprog_gen.proofs.Coding.Joined.{same_bits}
use Rattle.uprog_gen.proofs.Naming.Among.{among_split, statement_other}
use Rattle.uprog_gen.proofs.Naming.Scene.{known_among, slots_apart}
use Rattle.uprog_gen.proofs.Naming.Stage.{Stage, next_stage, read_known, written_defined}
use Rattle.uprog_gen.proofs.Naming.Ready.{slot_holds, slot_bit, slot_word}

-- a row's place can be read off
spot_space : (n : ℕ) (s : Space) (w v : ℕ) → (spot_in n s w v).space ≡ s
spot_space n Result w v = refl
spot_space n Source w v = refl
spot_space n ScratchBit w v = refl
spot_space n ScratchWord w v = refl
spot_space n Cells w v = refl

words_apart : (n w v x u : ℕ) → v < n → u < n → w * n + v ≡ x * n + u → w ≡ x
words_apart n w v x u f g e = by (cases_order w x)
  where
    by : (w ≡ x) ⊎ ((w < x) ⊎ (x < w)) → w ≡ x
    by (inl h) = h
    by (inr (inl h)) = absurd (omega (arith, e, mul-add-lt w n v x h f, mul_comm x n))
    by (inr (inr h)) = absurd (omega (arith, e, mul-add-lt x n u w h g, mul_comm w n))

-- a value in a space of words is a word
word_below : (n v : ℕ) (k : Kind) → holds_kind ScratchWord k ≡ true → v < width n k → v < n
word_below n v Word h lt = lt
word_below n v Bit h lt = absurd (cc)

spot_which : (n : ℕ) (s : Space) (w v x u : ℕ) (k j : Kind) → holds_kind s k ≡ true
    → holds_kind s j ≡ true → v < width n k → u < width n j → spot_in n s w v ≡ spot_in n s x u
    → w ≡ x
spot_which n Result w v x u k j hk hj lv lu e = ap (λ (p : Spot). p.which) e
spot_which n Source w v x u k j hk hj lv lu e = ap (λ (p : Spot). p.which) e
spot_which n ScratchBit w v x u k j hk hj lv lu e = ap (λ (p : Spot). p.which) e
spot_which n ScratchWord w v x u k j hk hj lv lu e =
    words_apart n w v x u (word_below n v k hk lv) (word_below n u j hj lu)
    (ap (λ (p : Spot). p.index) e)
spot_which n Cells w v x u k j hk hj lv lu e = absurd (cc)

same_spaces : (n : ℕ) (x y : Slot) (v u : ℕ) → slot_spot n x v ≡ slot_spot n y u → x.space ≡ y.space
same_spaces n x y v u e = sym (spot_space n x.space x.which v) ∙ ap (λ (p : Spot). p.space) e
    ∙ spot_space n y.space y.which u

same_places : (n : ℕ) (x y : Slot) (v u : ℕ) → holds_kind x.space x.kind ≡ true
    → holds_kind y.space y.kind ≡ true → v < width n x.kind → u < width n y.kind
    → slot_spot n x v ≡ slot_spot n y u → x.which ≡ y.which
same_places n x y v u hx hy lv lu e =
    let s = same_spaces n x y v u e in
    spot_which n x.space x.which v y.which u x.kind y.kind hx
    (subst (λ (t : Space). holds_kind t y.kind ≡ true) (sym s) hy) lv lu (e
    ∙ ap (λ (t : Space). spot_in n t y.which u) (sym s))

-- a name lies in rows
no_state : (s : Space) (k : Kind) → holds_kind s k ≡ true → is_state s ≡ false
no_state Result k h = refl
no_state Source k h = refl
no_state ScratchBit k h = refl
no_state ScratchWord k h = refl
no_state Cells k h = absurd (cc)

-- the names' rows hold their values
abbrev pub HoldsAll : ℕ → Slots → (List ℕ → NameValue) → Spots → List (List ℕ) → Type 0
HoldsAll n slots held bits names = (name : List ℕ) → is_among names name ≡ true
    → Holds n slots held bits name

tested : (b : Bool) → (b ≡ true) ⊎ (b ≡ false)
tested true = inl refl
tested false = inr refl

module _ (op : Operation) (meets : OperationMeets op) (slots : Slots) (free_bit free_word : ℕ)
    (is : IsLayout op slots free_bit free_word) where
  holds : (name : List ℕ) (x : Slot) → slots name ≡ Some x → holds_kind x.space x.kind ≡ true
  holds name x e = slot_holds _ meets _ _ _ is name x e

  -- no row of a name is one of another's
  other_row : (n : ℕ) (names : List (List ℕ)) (name : List ℕ) (x : Slot) (v : ℕ)
      → is_among names name ≡ false → slots name ≡ Some x → v < width n x.kind
      → IsRowOf n slots names (slot_spot n x v) → ⊥
  other_row n names name x v out e lt r =
      let m = r.0 in
      let y = r.1 in
      let u = r.2 in
      let f : slots m ≡ Some y = r.4 in
      let q : slot_spot n x v ≡ slot_spot n y u = r.6 in
      let same : name ≡ m = slots_apart _ meets _ _ _ is name m x y e f
      (same_spaces n x y v u q) (same_places n x y v u (holds name x e) (holds m y f) lt r.5 q)
      in absurd (cc (subst (λ (a : List ℕ). is_among names a ≡ true) (sym same) r.3, out))

  -- nor of the internal scratch
  inner_row : (n : ℕ) (s : Statement) (name : List ℕ) (x : Slot) (v : ℕ) → slots name ≡ Some x
      → v < width n x.kind → IsInside n free_bit free_word s (slot_spot n x v) → ⊥
  inner_row n s name x v e lt (inl h) =
      let sp : x.space ≡ ScratchBit = sym (spot_space n x.space x.which v)
      ∙ ap (λ (p : Spot). p.space) h.2 in
      let q : spot_in n ScratchBit x.which v ≡ spot_in n ScratchBit (free_bit + h.0) 0 =
      ap (λ (t : Space). spot_in n t x.which v) (sym sp) ∙ h.2 in
      absurd (omega (arith, ap (λ (p : Spot). p.which) q, slot_bit _ meets _ _ _ is name x e sp))
  inner_row n s name x v e lt (inr h) =
      let sp : x.space ≡ ScratchWord = sym (spot_space n x.space x.which v)
      ∙ ap (λ (p : Spot). p.space) h.2 in
      let q : spot_in n ScratchWord x.which v ≡ spot_in n ScratchWord free_word h.0 =
      ap (λ (t : Space). spot_in n t x.which v) (sym sp) ∙ h.2 in
      let l : v < n = word_below n v x.kind (subst (λ (t : Space). holds_kind t x.kind
      ≡ true) sp (holds name x e)) lt in
      absurd (omega (
        arith,
        ap (λ (p : Spot). p.index) q,
        mul-add-lt x.which n v free_word (slot_word _ meets _ _ _ is name x e sp) l,
        mul_comm free_word n,
      ))

  unchanged : (n : ℕ) (s : Statement) (name : List ℕ) (x : Slot) (v : ℕ)
      → is_among (written_names s) name ≡ false → slots name ≡ Some x → v < width n x.kind
      → IsChanged n slots free_bit free_word s (slot_spot n x v) → ⊥
  unchanged n s name x v out e lt (inl r) = other_row n (written_names s) name x v out e lt r
  unchanged n s name x v out e lt (inr r) = inner_row n s name x v e lt r

  -- what a statement doesn't set stays
  kept_bits : (n : ℕ) (s : Statement) (steps : List (StepOf Block)) (bits : Spots) (name : List ℕ)
      (x : Slot) → Does slots free_bit free_word s n steps → is_among (written_names s) name ≡ false
      → slots name ≡ Some x → slot_bits n bits x
      ≡ slot_bits n (after_rounds n (all_rounds n steps) bits) x
  kept_bits n s steps bits name x does out e =
      let new = after_rounds n (all_rounds n steps) bits in
      same_bits (λ v. bits (slot_spot n x v)) (λ v. new (slot_spot n x v)) 0 0 (width n x.kind)
      (λ v lt. let z : 0 + v ≡ v = omega arith in
      ap (λ u. bits (slot_spot n x u)) z ∙ sym (does.keeps bits (slot_spot n x v)
      (ap is_state (spot_space n x.space x.which v) ∙ no_state x.space x.kind (holds name x e))
      (unchanged n s name x v out e lt)) ∙ ap (λ u. new (slot_spot n x u)) (sym z))

  kept_holds : (n : ℕ) (s : Statement) (steps : List (StepOf Block)) (held : List ℕ
      → NameValue) (bits : Spots) (name : List ℕ) → Does slots free_bit free_word s n steps
      → is_among (written_names s) name ≡ false → Holds n slots held bits name
      → Holds n slots (after_statement n held s) (after_rounds n (all_rounds n steps) bits) name
  kept_holds n s steps held bits name does out h = by (slots name) refl h
    where
      new : Spots
      new = after_rounds n (all_rounds n steps) bits

      by : (o : Option Slot) → slots name ≡ o → HoldsAt n o (held name) bits
          → HoldsAt n (slots name) (after_statement n held s name) new
      by None e k = absurd k
      by (Some x) e k = rw (e, statement_other n held s name out)
          (k.0, k.1 ∙ kept_bits n s steps bits name x does out e)

  -- one statement
  step_holds : (c : Context) (s : Statement) (rest : List Statement) → Stage op c (s ∷ rest)
      → (n : ℕ) (steps : List (StepOf Block)) (held : List ℕ → NameValue) (bits : Spots)
      → Does slots free_bit free_word s n steps → HoldsAll n slots held bits (names_of c.known)
      → HoldsAll n slots (after_statement n held s) (after_rounds n (all_rounds n steps) bits)
      (names_of (next_context c s).known)
  step_holds c s rest st n steps held bits does all name h = ⊎_elim
      (λ (w : is_among (written_names s) name
      ≡ true). does.gives held bits (λ r hr. let k = read_known c s r st.body.0 hr in
      all r (known_among c.known r k.0 k.1)) name w)
      (λ (w : is_among (written_names s) name ≡ false). kept_holds n s steps held bits name does w
      (⊎_elim (all name) (λ (d : is_among (names_of (defines c.known s)) name
      ≡ true). absurd (cc (d, w, written_defined c.known s name)))
      (among_split (names_of c.known) (names_of (defines c.known s)) name
      (ap (λ l. is_among l name) (sym (names-append c.known (defines c.known s))) ∙ h))))
      (tested (is_among (written_names s) name))

  -- all statements
  pub body_holds : (rest : List Statement) (c : Context) → Stage op c rest
      → (ps : List (List (StepOf Block))) → AreLowered slots free_bit free_word rest ps → (n : ℕ)
      → 0 < n → n ≤ WIDTH_MAX → (held : List ℕ → NameValue) (bits : Spots)
      → HoldsAll n slots held bits (names_of c.known)
      → HoldsAll n slots (after_body n rest held) (after_statements n ps bits)
      (names_of (c.known ++ body_defines c.known rest))
  body_holds [] c st [] low n some small held bits all =
      subst (λ (l : List Param). HoldsAll n slots held bits (names_of l)) (sym (append-nil c.known))
      all
  body_holds (s ∷ rest) c st (p ∷ ps) low n some small held bits all =
      let held' = after_statement n held s in
      let bits' = after_rounds n (all_rounds n p) bits in
      subst (λ (l : List Param). HoldsAll n slots (after_body n rest held')
      (after_statements n ps bits') (names_of l)) (append_assoc c.known (defines c.known s)
      (body_defines (c.known ++ defines c.known s) rest))
      (body_holds rest (next_context c s) (next_stage op _ _ _ st) ps low.1 n some small held' bits'
      (step_holds _ _ _ st n p held bits (low.0.does n some small) all))
  body_holds _ _ _ _ low _ _ _ _ _ _ = absurd low
