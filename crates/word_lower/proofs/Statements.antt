-- An operation's loop program does the statement.
use Rattle.word_lower.proofs.Common.{◌≡◌, inl, inr, ℕ, zero, suc, ◌+◌, ◌*◌, ◌/◌, ◌<◌, Bool, true}
use Rattle.word_lower.proofs.Common.{false, List, [], ◌∷◌, ◌++◌, map, length, Option, Some, None}
use Rattle.word_lower.proofs.Common.{refl, sym, ap, ◌∙◌, subst, arith, ◌||◌, if◌then◌else◌, Kind}
use Rattle.word_lower.proofs.Common.{Word, Bit, WordOp, bits, value, op_value, forms, filled, width}
use Rattle.word_lower.proofs.Common.{bits_inside, op_ceiling, Space, Result, Source, ScratchBit}
use Rattle.word_lower.proofs.Common.{ScratchWord, Cells, Slot, Block, StepOf, AllParts, all_rounds}
use Rattle.word_lower.proofs.Common.{Spot, Spots, spot_in, after_rounds, is_state, Slots}
use Rattle.word_lower.proofs.Common.{holds_kind, slot_spot, slot_bits, turn_cost, Room, room_at}
use Rattle.word_lower.proofs.Common.{IsOwned, extent, placed_steps, IsMade, HaveRows}
use Rattle.std.proofs.lemmas.Bool.{or_left, or_right}
use Rattle.std.specs.Prelude.{bytes_eq, unwrap_or}
use Rattle.std.specs.Option.{option_to_list}
use Rattle.std.proofs.lemmas.Nat.{div-mul-add}
use Rattle.std.proofs.lemmas.Slice.Eq.{bytes_eq-Decides}
use Rattle.op_text.specs.WordOps.{second_kind}
use Rattle.op_text.specs.Language.{Statement, Compute}
use Rattle.op_text.specs.Rules.{is_among}
use Rattle.op_text.specs.Meaning.{NameValue, number, args_width, computed, after_statement}
use Rattle.loop_ir.specs.Statements.{statement_names, IsPlaced, HaveKinds, SecondMeets}
use Rattle.loop_ir.specs.Statements.{ComputeMeets}
use Rattle.loop_ir.specs.Lowered.{HoldsAt, Holds, IsStatementRow, Does, IsLowered}
use Rattle.loop_laws.proofs.Summed.{sum_is}
use Rattle.loop_laws.proofs.Alike.{InRooms, rounds_cost_like}
use Rattle.loop_laws.proofs.EveryRound.{marks_are_enough, rooms_row}
use Rattle.loop_laws.proofs.Compile.{made_compile}
use Rattle.op_text.specs.declared.word_ops.WordOp.TheVariants as op
use Rattle.loop_ir.specs.Lowered as l
use Rattle.word_lower.specs.Places.{scratch_bit, AreAt, program_on}
use Rattle.word_lower.specs.Forms.{IsWritten}
use Rattle.word_lower.specs.Programs.{program, is_linear}
use Rattle.word_lower.specs.Shapes.{owners_of}
use Rattle.word_lower.proofs.Setting.{scratch_from, rooms_of}
use Rattle.word_lower.proofs.Pieces.{slot_at, AreApart, Pieces, RoomView, is_target, spot_space}
use Rattle.word_lower.proofs.Pieces.{is_arg, is_scratch, room_view, rooms_apart, extent_is, kind_row}
use Rattle.word_lower.proofs.Commands.{steps_have}
use Rattle.word_lower.proofs.Lowering.{slots_width, steps_on, DoesOp, Lowers, op_lowers}

-- rows that are one belong to one place
pub record OnePlace (s t : Space) (w x : ℕ) : Type 0 where
  pub space : s ≡ t
  pub which : w ≡ x

same_which : (n : ℕ) (s : Space) (w x u v : ℕ) (j k : Kind) → u < width n j → v < width n k
    → holds_kind s j ≡ true → holds_kind s k ≡ true → spot_in n s w u ≡ spot_in n s x v → w ≡ x
same_which n Result w x u v j k lu lv hj hk e = ap (λ (q : Spot). q.which) e
same_which n Source w x u v j k lu lv hj hk e = ap (λ (q : Spot). q.which) e
same_which n ScratchBit w x u v j k lu lv hj hk e = ap (λ (q : Spot). q.which) e
same_which n ScratchWord w x u v Word Word lu lv hj hk e = let f : w * n + u ≡ x * n + v =
    ap (λ (q : Spot). q.index) e in sym (div-mul-add w n u lu) ∙ ap (λ z. z / n) f
    ∙ div-mul-add x n v lv
same_which n ScratchWord w x u v Bit k lu lv hj hk e = cc
same_which n ScratchWord w x u v Word Bit lu lv hj hk e = cc
same_which n Cells w x u v j k lu lv hj hk e = cc

-- places that have a row in common are one
pub one_place : (n : ℕ) (s t : Slot) (u v : ℕ) → u < width n s.kind → v < width n t.kind
    → holds_kind s.space s.kind ≡ true → holds_kind t.space t.kind ≡ true
    → slot_spot n s u ≡ slot_spot n t v → OnePlace s.space t.space s.which t.which
one_place n s t u v lu lv hs ht e =
    let f : s.space ≡ t.space = sym (spot_space n s.space s.which u)
    ∙ ap (λ (q : Spot). q.space) e ∙ spot_space n t.space t.which v in
    record {
      space = f;
      which = same_which n t.space s.which t.which u v s.kind t.kind lu lv
          (sym (ap (λ z. holds_kind z s.kind) f) ∙ hs) ht
          (sym (ap (λ z. spot_in n z s.which u) f) ∙ e);
    }

-- so many bits of scratch are so many
pub length_scratch : (free count : ℕ) → length (scratch_from free count) ≡ count
length_scratch free zero = refl
length_scratch free (suc count) = ap suc (length_scratch (free + 1) count)

-- bit j of the scratch, by its number
pub scratch_at : (free count j : ℕ) → j < count
    → slot_at (scratch_from free count) j ≡ scratch_bit (free + j)
scratch_at free zero j lt = absurd (omega arith)
scratch_at free (suc count) zero lt = let e : free ≡ free + 0 = omega arith in ap scratch_bit e
scratch_at free (suc count) (suc j) lt = let e : free + 1 + j ≡ free + suc j = omega arith in
    scratch_at (free + 1) count j (omega arith) ∙ ap scratch_bit e

-- one name is found equal to itself
pub same_name : (a b : List ℕ) → a ≡ b → bytes_eq a b ≡ true
same_name a b e = (bytes_eq-Decides a b).1 e

-- the name of an argument, by its number
pub name_at : List (List ℕ) → ℕ → List ℕ
name_at [] k = []
name_at (n ∷ ns) zero = n
name_at (n ∷ ns) (suc k) = name_at ns k

-- an argument's name is among the names
pub among_like : (names : List (List ℕ)) (i : ℕ) (name : List ℕ) → i < length names
    → bytes_eq (name_at names i) name ≡ true → is_among names name ≡ true
unfolding name_at
among_like [] i name lt e = absurd (omega arith)
among_like (n ∷ ns) zero name lt e = or_left (bytes_eq n name) (is_among ns name) e
among_like (n ∷ ns) (suc i) name lt e = or_right (bytes_eq n name) (is_among ns name)
    (among_like ns i name (omega arith) e)

pub among_at : (names : List (List ℕ)) (i : ℕ) → i < length names
    → is_among names (name_at names i) ≡ true
among_at names i lt = among_like names i (name_at names i) lt
    (same_name (name_at names i) (name_at names i) refl)

-- an argument by its number has its name and its place
pub at_place : (slots : Slots) (names : List (List ℕ)) (ss : List Slot) (i : ℕ)
    → AreAt slots names ss → i < length ss → (i < length names)
    × (slots (name_at names i) ≡ Some (slot_at ss i))
unfolding name_at
at_place slots [] [] i at lt = absurd (omega arith)
at_place slots (n ∷ ns) (s ∷ ss) zero at lt = (omega arith, at.0)
at_place slots (n ∷ ns) (s ∷ ss) (suc i) at lt = let h =
    at_place slots ns ss i at.1 (omega arith) in ((let l = h.0 in omega arith), h.1)
at_place slots names ss i at lt = absurd at

-- a name has one place
pub same_slot : (x y : Slot) → Some x ≡ Some y → x ≡ y
same_slot x y e = cc

spot_row : (n : ℕ) (s : Space) (w v : ℕ) (k : Kind) → holds_kind s k ≡ true
    → is_state (spot_in n s w v).space ≡ false
spot_row n s w v k h = ap is_state (spot_space n s w v) ∙ kind_row s k h

-- nothing of a statement stands in cells
pub statement_rows : (slots : Slots) (free_bit free_word : ℕ) (s : Statement)
    → IsPlaced slots free_bit free_word s → (n : ℕ) (q : Spot)
    → IsStatementRow slots free_bit free_word s n q → is_state q.space ≡ false
statement_rows slots free_bit free_word s placed n q (inl h) =
    let t = placed.there h.0 h.3 in
    let same : t.0 ≡ h.1 = same_slot t.0 h.1 (sym t.1 ∙ h.4) in
    let holds : holds_kind h.1.space h.1.kind ≡ true =
    subst (λ (x : Slot). holds_kind x.space x.kind ≡ true) same t.2 in
    ap (λ (p : Spot). is_state p.space) h.6 ∙ spot_row n h.1.space h.1.which h.2 h.1.kind holds
statement_rows slots free_bit free_word s placed n q (inr (inl h)) =
    ap (λ (p : Spot). is_state p.space) h.2
statement_rows slots free_bit free_word s placed n q (inr (inr h)) =
    ap (λ (p : Spot). is_state p.space) h.2

pub kinds_at : (slots : Slots) (names : List (List ℕ)) (ss : List Slot) (kinds : List Kind)
    → AreAt slots names ss → HaveKinds slots names kinds → map (λ (s : Slot). s.kind) ss ≡ kinds
kinds_at slots [] [] [] at have = refl
kinds_at slots [] [] (k ∷ ks) at have = absurd have
kinds_at slots [] (s ∷ ss) ks at have = absurd at
kinds_at slots (n ∷ ns) [] ks at have = absurd at
kinds_at slots (n ∷ ns) (s ∷ ss) [] at have = absurd have
kinds_at slots (n ∷ ns) (s ∷ ss) (k ∷ ks) at have =
    let e : s ≡ have.0.slot = same_slot s have.0.slot (sym at.0 ∙ have.0.found) in
    ap (λ x. x ∷ map (λ (s : Slot). s.kind) ss) (ap (λ (s : Slot). s.kind) e ∙ have.0.kind)
    ∙ ap (λ xs. k ∷ xs) (kinds_at slots ns ss ks at.1 have.1)

among_after : (second : Option (List ℕ)) (args : List (List ℕ)) (name : List ℕ)
    → is_among args name ≡ true → is_among (option_to_list second ++ args) name ≡ true
among_after None args name e = e
among_after (Some x) args name e = or_right (bytes_eq x name) (is_among args name) e

-- the names hold what the rows at their places hold
pub HeldAt : ℕ → (List ℕ → NameValue) → Spots → List (List ℕ) → List Slot → Type 0
HeldAt n held rows [] [] = Unit {0}
HeldAt n held rows [] (s ∷ ss) = ⊥
HeldAt n held rows (name ∷ names) [] = ⊥
HeldAt n held rows (name ∷ names) (s ∷ ss) = ((held name).kind ≡ s.kind)
    × ((held name).bits ≡ slot_bits n rows s) × HeldAt n held rows names ss

-- the arguments' rows hold the arguments' values
pub held_args : (n : ℕ) (slots : Slots) (held : List ℕ
    → NameValue) (rows : Spots) (names : List (List ℕ)) (ss : List Slot) → AreAt slots names ss
    → ((name : List ℕ) → is_among names name ≡ true → Holds n slots held rows name)
    → HeldAt n held rows names ss
unfolding HeldAt
held_args n slots held rows [] [] at h = tt
held_args n slots held rows (name ∷ names) (s ∷ ss) at h =
    let a : HoldsAt n (Some s) (held name) rows =
    subst (λ (x : Option Slot). HoldsAt n x (held name) rows) at.0
    (h name (or_left (bytes_eq name name) (is_among names name) (same_name name name refl))) in (
      a.0,
      a.1,
      held_args n slots held rows names ss at.1 (λ x e.
          h x (or_right (bytes_eq name x) (is_among names x) e)),
    )
held_args n slots held rows names ss at h = absurd at

-- the values held have the kinds of their places
pub held_kinds : (n : ℕ) (held : List ℕ → NameValue) (rows : Spots) (names : List (List ℕ))
    (ss : List Slot) → HeldAt n held rows names ss
    → map (λ (h : NameValue). h.kind) (map held names) ≡ map (λ (s : Slot). s.kind) ss
unfolding HeldAt
held_kinds n held rows [] [] at = refl
held_kinds n held rows (name ∷ names) (s ∷ ss) at =
    ap (λ k. k ∷ map (λ (h : NameValue). h.kind) (map held names)) at.0
    ∙ ap (λ ks. s.kind ∷ ks) (held_kinds n held rows names ss at.2)
held_kinds n held rows names ss at = absurd at

-- the values held are what their rows spell
pub held_numbers : (n : ℕ) (held : List ℕ → NameValue) (rows : Spots) (names : List (List ℕ))
    (ss : List Slot) → HeldAt n held rows names ss
    → map number (map held names) ≡ map (λ s. value (slot_bits n rows s)) ss
unfolding HeldAt
held_numbers n held rows [] [] at = refl
held_numbers n held rows (name ∷ names) (s ∷ ss) at =
    ap (λ bs. value bs ∷ map number (map held names)) at.1
    ∙ ap (λ vs. value (slot_bits n rows s) ∷ vs) (held_numbers n held rows names ss at.2)
held_numbers n held rows names ss at = absurd at

-- the values held are as wide as their places
pub held_width : (n : ℕ) (held : List ℕ → NameValue) (rows : Spots) (names : List (List ℕ))
    (ss : List Slot) → HeldAt n held rows names ss
    → args_width n (map held names) ≡ slots_width n ss
unfolding HeldAt
held_width n held rows [] [] at = refl
held_width n held rows (name ∷ names) (s ∷ ss) at = ap (width n) at.0
held_width n held rows names ss at = absurd at

-- the arguments are as wide as their places
pub named_width : (n : ℕ) (slots : Slots) (names : List (List ℕ)) (ss : List Slot)
    → AreAt slots names ss → l.args_width slots n names ≡ slots_width n ss
named_width n slots [] [] at = refl
named_width n slots (name ∷ names) (s ∷ ss) at = ap (λ x. width n (l.kind_at x)) at.0
named_width n slots names ss at = absurd at

module _ (slots : Slots) (p : WordOp) (args : List (List ℕ)) (ss : List Slot)
    (at : AreAt slots args ss) (t : Slot) where
  -- what a target holds after the statement
  pub answer : (n : ℕ) (held : List ℕ → NameValue) (before after : Spots)
      → filled (forms p) (map (λ (s : Slot). s.kind) ss) ≡ Some t.kind
      → ((name : List ℕ) → is_among args name ≡ true → Holds n slots held before name)
      → slot_bits n after t ≡ bits (op_value p (slots_width n ss)
      (map (λ s. value (slot_bits n before s)) ss)) (width n t.kind)
      → HoldsAt n (Some t) (computed n p (map held args)) after
  answer n held before after filled_form h gives =
      let a = held_args n slots held before args ss at h in
      let k : unwrap_or (filled (forms p) (map (λ (h : NameValue). h.kind) (map held args))) Word
      ≡ t.kind = ap (λ ks. unwrap_or (filled (forms p) ks) Word)
      (held_kinds n held before args ss a) ∙ ap (λ x. unwrap_or x Word) filled_form in
      let v : op_value p (args_width n (map held args)) (map number (map held args))
      ≡ op_value p (slots_width n ss) (map (λ s. value (slot_bits n before s)) ss) =
      ap (λ x. op_value p x (map number (map held args))) (held_width n held before args ss a)
      ∙ ap (λ xs. op_value p (slots_width n ss) xs) (held_numbers n held before args ss a) in (
        k,
        ap (λ x. bits (op_value p (args_width n (map held args)) (map number (map held args)))
            (width n x)) k ∙ ap (λ x. bits x (width n t.kind)) v ∙ sym gives,
      )

  -- and so each name that is a target, where there is one alone
  pub by_name : (target : List ℕ) → slots target ≡ Some t → (n : ℕ) (held : List ℕ → NameValue)
      (after : Spots) → HoldsAt n (Some t) (computed n p (map held args)) after
      → (name : List ℕ) → (bytes_eq target name || false) ≡ true
      → Holds n slots (after_statement n held (Compute target None p args)) after name
  by_name target found n held after h name e =
      let s = Compute target None p args in
      let same : target ≡ name = (bytes_eq-Decides target name).0 (only (bytes_eq target name) e)
      in
      let one : HoldsAt n (Some t) (after_statement n held s target) after =
      subst (λ (c : Bool). HoldsAt n (Some t) (if c then computed n p (map held args)
      else held target) after) (sym (same_name target target refl)) h in
      subst (λ x. Holds n slots (after_statement n held s) after x) same
      (subst (λ (x : Option Slot). HoldsAt n x (after_statement n held s target) after) (sym found)
      one)
    where
      only : (b : Bool) → (b || false) ≡ true → b ≡ true
      only true e = refl
      only false e = cc

-- an operation that takes one pass has no second target
pub alone : (slots : Slots) (target : List ℕ) (second : Option (List ℕ)) (args : List (List ℕ))
    (p : WordOp) → is_linear p ≡ true → SecondMeets slots target args second (second_kind p)
    → second ≡ None
alone slots target None args p linear h = refl
alone slots target (Some x) args op.Divmod linear h = cc
alone slots target (Some x) args p linear h = absurd h

module _ (slots : Slots) (free_bit free_word : ℕ) (target : List ℕ)
    (second : Option (List ℕ)) (p : WordOp) (args : List (List ℕ))
    (meets : ComputeMeets slots target second p args)
    (placed : IsPlaced slots free_bit free_word (Compute target second p args)) (t : Slot)
    (found : slots target ≡ Some t) (ss : List Slot) (at : AreAt slots args ss) where
  pub among_target : is_among (statement_names (Compute target second p args)) target ≡ true
  among_target = or_left (bytes_eq target target) (is_among (option_to_list second ++ args) target)
      (same_name target target refl)

  pub among_arg : (i : ℕ) → i < length args → is_among (statement_names (Compute target second
      p args))
      (name_at args i) ≡ true
  among_arg i lt = or_right (bytes_eq target (name_at args i))
      (is_among (option_to_list second ++ args) (name_at args i))
      (among_after second args (name_at args i) (among_at args i lt))

  pub written : is_among (target ∷ option_to_list second) target ≡ true
  written = or_left (bytes_eq target target) (is_among (option_to_list second) target)
      (same_name target target refl)

  pub holds : (name : List ℕ) (x : Slot) → is_among (statement_names (Compute target second p
      args)) name
      ≡ true → slots name ≡ Some x → holds_kind x.space x.kind ≡ true
  holds name x a f = let h = placed.there name a in let e : h.0 ≡ x =
      same_slot h.0 x (sym h.1 ∙ f) in subst (λ (x : Slot). holds_kind x.space x.kind ≡ true) e h.2

  arg_apart : (n i : ℕ) → i < length ss → AreApart n (slot_at ss i) t
  arg_apart n i lt =
      let h = at_place slots args ss i at lt in
      let a = among_arg i h.0 in
      record {
        by = λ u v lu lv e.
            (let one = one_place n (slot_at ss i) t u v lu lv
            (holds (name_at args i) (slot_at ss i) a h.1) (holds target t among_target found) e
            in
            let same = placed.differ (name_at args i) target (slot_at ss i) t a among_target h.1
            found one.space one.which in
            let z : false ≡ true = sym meets.fresh ∙ among_like args i target h.0 same in
            cc);
      }

  pub scratch_apart : (n j : ℕ) (name : List ℕ) (x : Slot) → j < bits_inside p
      → is_among (statement_names (Compute target second p args)) name ≡ true → slots name ≡ Some x
      → AreApart n x (scratch_bit (free_bit + j))
  scratch_apart n j name x lj a f = record {
    by = λ u v lu lv e.
        (let one = one_place n x (scratch_bit (free_bit + j)) u v lu lv (holds name x a f) refl e in
        absurd (omega (arith, placed.bit name x a f one.space, one.which)));
  }

  scratch_each : (n i j : ℕ) → (i ≡ j → ⊥) → AreApart n (scratch_bit (free_bit + i))
      (scratch_bit (free_bit + j))
  scratch_each n i j ne = record {
    by = λ u v lu lv e.
        (let f : free_bit + i ≡ free_bit + j = ap (λ (q : Spot). q.which) e in ne (omega arith));
  }

  pub pieces : (n : ℕ) → Pieces n t ss (scratch_from free_bit (bits_inside p))
  pieces n =
      let len = length_scratch free_bit (bits_inside p) in
      let is = λ (j : ℕ) (lt : j < length (scratch_from free_bit (bits_inside p))). scratch_at
      free_bit (bits_inside p) j (omega arith) in
      record {
        own = placed.own target t written found;
        holds = holds target t among_target found;
        given = λ i lt. arg_apart n i lt;
        rows = λ i lt.
            (let h = at_place slots args ss i at lt in
            kind_row (slot_at ss i).space (slot_at ss i).kind
            (holds (name_at args i) (slot_at ss i) (among_arg i h.0) h.1));
        owned = λ j lt. rw (is j lt) tt;
        free = λ j lt. rw (is j lt) (record {
          by = λ u v lu lv e.
              (scratch_apart n j target t (omega arith) among_target found).by v u lv lu (sym e);
        });
        others = λ i j li lj. rw (is j lj) (let h = at_place slots args ss i at li in
            scratch_apart n j (name_at args i) (slot_at ss i) (omega arith) (among_arg i h.0) h.1);
        each = λ i j li lj ne. rw (is i li, is j lj) (scratch_each n i j ne);
      }

  -- the rooms' rows are the statement's
  view_row : (n k v : ℕ) (q : Spot) (r : Room)
      → RoomView t ss (scratch_from free_bit (bits_inside p)) k r → v < extent n r.rows
      → q ≡ spot_in n r.space r.which v → IsStatementRow slots free_bit free_word
      (Compute target second p args) n q
  view_row n k v q r is_target lt g = let x = extent_is n t.kind in
      inl (target, t, v, among_target, found, omega arith, g)
  view_row n k v q r (is_arg i l) lt g =
      let x = extent_is n (slot_at ss i).kind in
      let h = at_place slots args ss i at l in
      inl (name_at args i, slot_at ss i, v, among_arg i h.0, h.1, omega arith, g)
  view_row n k v q r (is_scratch j l) lt g =
      let len = length_scratch free_bit (bits_inside p) in
      let is = scratch_at free_bit (bits_inside p) j (omega arith) in
      inr (inl (j, omega arith, g ∙ ap (λ (z : Slot). spot_in n z.space z.which v) is))

  pub row_of : (n : ℕ) (q : Spot)
      → IsOwned n (rooms_of t ss (scratch_from free_bit (bits_inside p))) q
      → IsStatementRow slots free_bit free_word (Compute target second p args) n q
  row_of n q o =
      view_row n o.0 o.1 q (room_at (rooms_of t ss (scratch_from free_bit (bits_inside p))) o.0)
      (room_view t ss (scratch_from free_bit (bits_inside p)) o.0 o.2) o.3 o.4

  -- none of the rooms stands in cells
  pub have_rows : HaveRows (rooms_of t ss (scratch_from free_bit (bits_inside p)))
  have_rows =
      rooms_row (IsStatementRow slots free_bit free_word (Compute target second p args))
      (rooms_of t ss (scratch_from free_bit (bits_inside p))) (row_of 1)
      (statement_rows slots free_bit free_word (Compute target second p args) placed 1)

  pub arg_kinds : map (λ (s : Slot). s.kind) ss ≡ meets.kinds
  arg_kinds = kinds_at slots args ss meets.kinds at meets.have

  pub target_kind : meets.kind ≡ t.kind
  target_kind = let e : meets.gives.slot ≡ t =
      same_slot meets.gives.slot t (sym meets.gives.found ∙ found) in
      sym meets.gives.kind ∙ ap (λ (s : Slot). s.kind) e

  pub form_filled : filled (forms p) (map (λ (s : Slot). s.kind) ss) ≡ Some t.kind
  form_filled = ap (filled (forms p)) arg_kinds ∙ meets.form ∙ ap (λ k. Some k) target_kind

  module _ (linear : is_linear p ≡ true) where
    abbrev steps : List (StepOf Block)
    steps = steps_on p t.kind t ss free_bit

    abbrev lowers : Lowers p t.kind t ss free_bit × ((n : ℕ) → 0 < n
        → Pieces n t ss (scratch_from free_bit (bits_inside p)) → DoesOp p n t.kind t ss free_bit)
    lowers = op_lowers p t.kind t ss free_bit linear form_filled refl

    none : second ≡ None
    none = alone slots target second args p linear meets.others

    does : (n : ℕ) → 0 < n → Does slots free_bit free_word (Compute target second p args) n steps
    does n some = let op = lowers.1 n some (pieces n) in record {
      gives = λ held rows h name e.
          (let new = after_rounds n (all_rounds n steps) rows in
          subst (λ x. Holds n slots (after_statement n held (Compute target x p args)) new name)
          (sym none) (by_name slots p args ss at t target found n held new
          (answer slots p args ss at t n held rows new form_filled h (op.gives rows)) name
          (subst (λ x. is_among (target ∷ option_to_list x) name ≡ true) none e)));
      keeps = λ rows q row out. op.keeps rows q row
          (λ v lv e. out (inl (target, t, v, written, found, lv, e)))
          (λ j lj e. out (inr (inl (j, lj, e))));
    }

    -- the program on the owners' places does the statement
    pub lowered_on : (built : List (StepOf Block))
        → built ≡ program_on (slot_at (owners_of t ss free_bit)) (program p t.kind)
        → AllParts IsMade built
        → IsLowered slots free_bit free_word (Compute target second p args) built
    lowered_on built same made =
        let row = IsStatementRow slots free_bit free_word (Compute target second p args) in
        let rooms = rooms_of t ss (scratch_from free_bit (bits_inside p)) in
        let tests = lowers.0 in
        let one : 0 < 1 = omega arith in
        let apart = λ (n : ℕ). rooms_apart n t ss (scratch_from free_bit (bits_inside p)) (pieces n) in
        let e = same ∙ tests.same in
        let c = made_compile row steps (subst (AllParts IsMade) e made)
        (marks_are_enough row rooms (program p t.kind)
        (λ n some most. apart n) (λ n some most. row_of n)
        (statement_rows slots free_bit free_word (Compute target second p args) placed) tests.fit
        tests.short tests.states (steps_have 1 rooms one (apart 1) have_rows (program p t.kind)
        tests.fit tests.commands)) in
        subst (IsLowered slots free_bit free_word (Compute target second p args)) (sym e) record {
          well = c.0;
          can = c.1;
          does = λ n some most. does n some;
          cheap = λ n some most. (let b = tests.cheap n some in
              let w = ap (op_ceiling p) (named_width n slots args ss at) in
              let like = rounds_cost_like rooms n (program p t.kind) in
              let sum = sum_is turn_cost n (placed_steps [] (program p t.kind)) in
              omega (arith, b, w, like, sum));
        }

-- the arguments have places
pub record Places (slots : Slots) (names : List (List ℕ)) : Type 0 where
  pub list : List Slot
  pub at : AreAt slots names list

-- names that have kinds have places
pub places_of : (slots : Slots) (names : List (List ℕ)) (kinds : List Kind)
    → HaveKinds slots names kinds → Places slots names
places_of slots [] [] have = record { list = []; at = tt }
places_of slots [] (k ∷ ks) have = absurd have
places_of slots (n ∷ ns) [] have = absurd have
places_of slots (n ∷ ns) (k ∷ ks) have = let more = places_of slots ns ks have.1 in
    record { list = have.0.slot ∷ more.list; at = (have.0.found, more.at) }

-- a written program lies in rooms of rows
pub written_in_rooms : (slots : Slots) (free_bit free_word : ℕ) (target : List ℕ)
    (second : Option (List ℕ)) (p : WordOp) (args : List (List ℕ)) (linear : is_linear p ≡ true)
    (meets : ComputeMeets slots target second p args)
    (placed : IsPlaced slots free_bit free_word (Compute target second p args))
    (built : List (StepOf Block)) → IsWritten slots free_bit (Compute target second p args) built
    → InRooms (program p meets.gives.slot.kind) built
written_in_rooms slots free_bit free_word target second p args linear meets placed built written =
    let t = meets.gives.slot in
    let found = meets.gives.found in
    let ss = places_of slots args meets.kinds meets.have in
    let given = op_lowers p t.kind t ss.list free_bit linear (form_filled slots free_bit free_word
    target second p args meets placed t found ss.list ss.at) refl in
    record {
      rooms = rooms_of t ss.list (scratch_from free_bit (bits_inside p));
      rows = have_rows slots free_bit free_word target second p args meets placed t found ss.list
          ss.at;
      same = written t ss.list found ss.at ∙ given.0.same;
    }
