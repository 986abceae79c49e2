-- The names of a word statement as owners of rooms, and what its targets hold.
use Rattle.word_flow.proofs.Common.{◌≡◌, ◌⊎◌, inl, inr, ℕ, ◌<◌, Bool, true, false, List, map}
use Rattle.word_flow.proofs.Common.{length, Option, Some, None, refl, sym, ap, ◌∙◌, subst, ◌||◌}
use Rattle.word_flow.proofs.Common.{bytes_eq, if◌then◌else◌, bytes_eq-Decides, WordOp, bits, value}
use Rattle.word_flow.proofs.Common.{op_value, second_value, second_gives, Compute, is_among, Slot}
use Rattle.word_flow.proofs.Common.{Spots, Slots, IsPlaced, ComputeMeets, slot_bits, HoldsAt, Holds}
use Rattle.word_flow.proofs.Common.{AreAt, slots_width, name_at, at_place, among_like, among_target}
use Rattle.word_flow.proofs.Common.{among_arg, or_left, or_right, same_name, written, form_filled}
use Rattle.word_flow.proofs.Common.{held_args, held_numbers, held_width, answer, by_name, NameValue}
use Rattle.word_flow.proofs.Common.{width, args_width, computed, second_computed, after_statement}
use Rattle.op_text.specs.Meaning.{number}
use Rattle.word_lower.proofs.Pieces.{slot_at}
use Rattle.word_flow.proofs.Placing.{Name, Stands, not_same}

-- a name that is none of these is not the same as one of them
pub fresh_at : (names : List (List ℕ)) (name : List ℕ) (i : ℕ) → i < length names
    → is_among names name ≡ false → bytes_eq name (name_at names i) ≡ false
fresh_at names name i lt e = not_same (name_at names i) name (by (bytes_eq (name_at names i) name)
    refl)
  where
    by : (b : Bool) → bytes_eq (name_at names i) name ≡ b → bytes_eq (name_at names i) name ≡ false
    by false f = f
    by true f = let z : false ≡ true = sym e ∙ among_like names i name lt f in cc

module _ (slots : Slots) (free_bit free_word : ℕ) (target : List ℕ) (second : Option (List ℕ))
    (p : WordOp) (args : List (List ℕ)) (meets : ComputeMeets slots target second p args)
    (placed : IsPlaced slots free_bit free_word (Compute target second p args)) (t : Slot)
    (found : slots target ≡ Some t) (ss : List Slot) (at : AreAt slots args ss) where
  pub stands_target : Stands slots free_bit free_word (Compute target second p args) placed
      (Name true target t)
  stands_target = (
    among_target slots free_bit free_word target second p args meets placed t found ss at,
    found,
    λ e. written slots free_bit free_word target second p args meets placed t found ss at,
  )

  pub stands_arg : (i : ℕ) → i < length ss → Stands slots free_bit free_word
      (Compute target second p args) placed (Name false (name_at args i) (slot_at ss i))
  stands_arg i lt = let h = at_place slots args ss i at lt in (
    among_arg slots free_bit free_word target second p args meets placed t found ss at i h.0,
    h.1,
    λ e. absurd (cc),
  )

  pub target_fresh : (i : ℕ) → i < length ss → bytes_eq target (name_at args i) ≡ false
  target_fresh i lt = fresh_at args target i (at_place slots args ss i at lt).0 meets.fresh

module _ (slots : Slots) (free_bit free_word : ℕ) (target name : List ℕ) (p : WordOp)
    (args : List (List ℕ))
    (placed : IsPlaced slots free_bit free_word (Compute target (Some name) p args)) (u : Slot)
    (near : slots name ≡ Some u) where
  pub stands_second : Stands slots free_bit free_word (Compute target (Some name) p args) placed
      (Name true name u)
  stands_second = (
    or_right (bytes_eq target name) _ (or_left (bytes_eq name name) _ (same_name name name refl)),
    near,
    λ e. or_right (bytes_eq target name) _ (or_left (bytes_eq name name) _ (same_name name name refl)),
  )

-- what one target holds after the statement
module _ (slots : Slots) (free_bit free_word : ℕ) (target : List ℕ) (p : WordOp)
    (args : List (List ℕ)) (meets : ComputeMeets slots target None p args)
    (placed : IsPlaced slots free_bit free_word (Compute target None p args)) (t : Slot)
    (found : slots target ≡ Some t) (ss : List Slot) (at : AreAt slots args ss) where
  pub one_gives : (n : ℕ) (held : List ℕ → NameValue) (before after : Spots)
      → ((name : List ℕ) → is_among args name ≡ true → Holds n slots held before name)
      → slot_bits n after t ≡ bits (op_value p (slots_width n ss)
      (map (λ s. value (slot_bits n before s)) ss)) (width n t.kind)
      → (name : List ℕ) → (bytes_eq target name || false) ≡ true
      → Holds n slots (after_statement n held (Compute target None p args)) after name
  one_gives n held before after h gives name e = by_name slots p args ss at t target found n held
      after (answer slots p args ss at t n held before after
      (form_filled slots free_bit free_word target None p args meets placed t found ss at) h gives)
      name e

module _ (slots : Slots) (p : WordOp) (args : List (List ℕ)) (ss : List Slot)
    (at : AreAt slots args ss) (t : Slot) where
  -- what a second target holds after the statement
  second_answer : (n : ℕ) (held : List ℕ → NameValue) (before after : Spots)
      → second_gives p ≡ t.kind
      → ((name : List ℕ) → is_among args name ≡ true → Holds n slots held before name)
      → slot_bits n after t ≡ bits (second_value p (slots_width n ss)
      (map (λ s. value (slot_bits n before s)) ss)) (width n t.kind)
      → HoldsAt n (Some t) (second_computed n p (map held args)) after
  second_answer n held before after k h gives =
      let a = held_args n slots held before args ss at h in
      let v : second_value p (args_width n (map held args)) (map number (map held args))
      ≡ second_value p (slots_width n ss) (map (λ s. value (slot_bits n before s)) ss) =
      ap (λ x. second_value p x (map number (map held args))) (held_width n held before args ss a)
      ∙ ap (λ xs. second_value p (slots_width n ss) xs) (held_numbers n held before args ss a) in (
        k,
        ap (λ x. bits (second_value p (args_width n (map held args)) (map number (map held args)))
            (width n x)) k ∙ ap (λ x. bits x (width n t.kind)) v ∙ sym gives,
      )

or_one : (p q : Bool) → (p || (q || false)) ≡ true → (p ≡ true) ⊎ (q ≡ true)
or_one true q e = inl refl
or_one false true e = inr refl
or_one false false e = cc

-- what two targets hold after the statement
module _ (slots : Slots) (free_bit free_word : ℕ) (target name : List ℕ) (p : WordOp)
    (args : List (List ℕ)) (meets : ComputeMeets slots target (Some name) p args)
    (placed : IsPlaced slots free_bit free_word (Compute target (Some name) p args)) (t : Slot)
    (found : slots target ≡ Some t) (u : Slot) (near : slots name ≡ Some u) (ss : List Slot)
    (at : AreAt slots args ss) (other : bytes_eq target name ≡ false)
    (kind : second_gives p ≡ u.kind) where
  module _ (n : ℕ) (held : List ℕ → NameValue) (before after : Spots)
      (h : (x : List ℕ) → is_among args x ≡ true → Holds n slots held before x)
      (gives : slot_bits n after t ≡ bits (op_value p (slots_width n ss)
      (map (λ s. value (slot_bits n before s)) ss)) (width n t.kind))
      (gives_other : slot_bits n after u ≡ bits (second_value p (slots_width n ss)
      (map (λ s. value (slot_bits n before s)) ss)) (width n u.kind)) where
    abbrev left : List ℕ → NameValue
    left = after_statement n held (Compute target (Some name) p args)

    abbrev a : NameValue
    a = computed n p (map held args)

    abbrev b : NameValue
    b = second_computed n p (map held args)

    held_first : HoldsAt n (Some t) (left target) after
    held_first = subst (λ (c : Bool). HoldsAt n (Some t) (if c then b else (if bytes_eq target target
        then a else held target)) after) (sym other)
        (subst (λ (c : Bool). HoldsAt n (Some t) (if c then a else held target) after)
        (sym (same_name target target refl))
        (answer slots p args ss at t n held before after
        (form_filled slots free_bit free_word target (Some name) p args meets placed t found ss at)
        h gives))

    held_other : HoldsAt n (Some u) (left name) after
    held_other = subst (λ (c : Bool). HoldsAt n (Some u) (if c then b else (if bytes_eq name target
        then a else held name)) after) (sym (same_name name name refl))
        (second_answer slots p args ss at u n held before after kind h gives_other)

    pub two_give : (x : List ℕ) → (bytes_eq target x || (bytes_eq name x || false)) ≡ true
        → Holds n slots left after x
    two_give x e = elim (or_one (bytes_eq target x) (bytes_eq name x) e) [
      | inl c ↦ subst (λ y. Holds n slots left after y) ((bytes_eq-Decides target x).0 c)
          (subst (λ (z : Option Slot). HoldsAt n z (left target) after) (sym found) held_first)
      | inr c ↦ subst (λ y. Holds n slots left after y) ((bytes_eq-Decides name x).0 c)
          (subst (λ (z : Option Slot). HoldsAt n z (left name) after) (sym near) held_other)
    ]
