-- The kinds that fill the forms of each shape, and places of these kinds.
use Rattle.word_lower.proofs.Common.{◌≡◌, ◌⊎◌, inl, inr, ℕ, List, [], ◌∷◌, map, Some, refl, ap}
use Rattle.word_lower.proofs.Common.{Kind, Word, Bit, Signature, forms, filled, Space, Slot}
use Rattle.op_text.specs.WordOps.{form, signature_forms, of_one, of_two, word_to, words_to}
use Rattle.op_text.specs.declared.word_ops.WordOp.TheVariants as op
use Rattle.op_text.specs.declared.word_ops.Signature.TheVariants as shape
use Rattle.word_lower.proofs.Setting.{taken}
use Rattle.word_lower.proofs.Pieces.{slot}

same_kinds : (j k : Kind) → Some j ≡ Some k → k ≡ j
same_kinds j k e = cc

-- the kinds that fill a form
pub filled_none : (ks : List Kind) (k : Kind) → filled (form [] Word ∷ []) ks ≡ Some k
    → (ks ≡ []) × (k ≡ Word)
filled_none [] k e = (refl, same_kinds Word k e)
filled_none ks k e = cc

-- an operation on a word takes just a word
pub filled_word : (g : Kind) (ks : List Kind) (k : Kind) → filled (word_to g) ks ≡ Some k
    → (ks ≡ Word ∷ []) × (k ≡ g)
filled_word g (Word ∷ []) k e = (refl, same_kinds g k e)
filled_word g ks k e = cc

-- an operation on two words takes just two words
pub filled_words : (g : Kind) (ks : List Kind) (k : Kind) → filled (words_to g) ks ≡ Some k
    → (ks ≡ Word ∷ Word ∷ []) × (k ≡ g)
filled_words g (Word ∷ (Word ∷ [])) k e = (refl, same_kinds g k e)
filled_words g ks k e = cc

pub filled_one : (ks : List Kind) (k : Kind) → filled of_one ks ≡ Some k
    → ((ks ≡ Word ∷ []) × (k ≡ Word)) ⊎ ((ks ≡ Bit ∷ []) × (k ≡ Bit))
filled_one (Word ∷ []) k e = inl (refl, same_kinds Word k e)
filled_one (Bit ∷ []) k e = inr (refl, same_kinds Bit k e)
filled_one ks k e = cc

pub filled_two : (ks : List Kind) (k : Kind) → filled of_two ks ≡ Some k
    → ((ks ≡ Word ∷ Word ∷ []) × (k ≡ Word)) ⊎ ((ks ≡ Bit ∷ Bit ∷ []) × (k ≡ Bit))
filled_two (Word ∷ (Word ∷ [])) k e = inl (refl, same_kinds Word k e)
filled_two (Bit ∷ (Bit ∷ [])) k e = inr (refl, same_kinds Bit k e)
filled_two ks k e = cc

pub filled_choice : (ks : List Kind) (k : Kind) → filled (forms op.IfElse) ks ≡ Some k
    → ((ks ≡ Word ∷ Word ∷ Bit ∷ []) × (k ≡ Word)) ⊎ ((ks ≡ Bit ∷ Bit ∷ Bit ∷ []) × (k ≡ Bit))
filled_choice (Word ∷ (Word ∷ (Bit ∷ []))) k e = inl (refl, same_kinds Word k e)
filled_choice (Bit ∷ (Bit ∷ (Bit ∷ []))) k e = inr (refl, same_kinds Bit k e)
filled_choice ks k e = cc

-- a place of a known kind
pub slot_is : (t : Slot) (k : Kind) → t.kind ≡ k → t ≡ slot t.space t.which k
slot_is t k e = ap (slot t.space t.which) e

-- without kinds there is no argument
pub no_slots : (ss : List Slot) → map (λ (s : Slot). s.kind) ss ≡ [] → ss ≡ []
no_slots [] e = refl
no_slots (s ∷ ss) e = cc

pub record More (ss : List Slot) (k : Kind) (ks : List Kind) : Type 0 where
  pub space : Space
  pub which : ℕ
  pub more : List Slot
  pub is : ss ≡ slot space which k ∷ more
  pub others : map (λ (s : Slot). s.kind) more ≡ ks

-- with a kind there is an argument of this kind, and those after it
pub one_slot : (ss : List Slot) (k : Kind) (ks : List Kind) → map (λ (s : Slot). s.kind) ss ≡ k ∷ ks
    → More ss k ks
one_slot [] k ks e = cc
one_slot (s ∷ ss) k ks e = record {
  space = s.space;
  which = s.which;
  more = ss;
  is = ap (λ x. x ∷ ss) (slot_is s k (cc));
  others = cc;
}

-- The two forms of a shape that takes words or bits, by which of the two it takes. Other shapes
-- have one form
abbrev pub arg_kind : Signature → Kind → Kind
arg_kind shape.OneOf c = c
arg_kind shape.TwoOf c = c
arg_kind shape.Choice c = c
arg_kind sh c = Word

abbrev pub gives_kind : Signature → Kind → Kind
gives_kind shape.Nothing c = Word
gives_kind (shape.OneWord g) c = g
gives_kind (shape.TwoWords g) c = g
gives_kind sh c = c

abbrev pub takes_kinds : Signature → Kind → List Kind
takes_kinds sh c = taken sh (arg_kind sh c) (arg_kind sh c) Bit

-- these kinds fill one of them
pub record FormOf (sh : Signature) (ks : List Kind) (k : Kind) : Type 0 where
  pub which : Kind
  pub takes : ks ≡ takes_kinds sh which
  pub gives : k ≡ gives_kind sh which

pub form_of : (sh : Signature) (ks : List Kind) (k : Kind) → filled (signature_forms sh) ks ≡ Some k
    → FormOf sh ks k
form_of shape.Nothing ks k e = let f = filled_none ks k e in
    record { which = Word; takes = f.0; gives = f.1 }
form_of (shape.OneWord g) ks k e = let f = filled_word g ks k e in
    record { which = Word; takes = f.0; gives = f.1 }
form_of (shape.TwoWords g) ks k e = let f = filled_words g ks k e in
    record { which = Word; takes = f.0; gives = f.1 }
form_of shape.OneOf ks k e = elim (filled_one ks k e) [
  | inl f ↦ record { which = Word; takes = f.0; gives = f.1 }
  | inr f ↦ record { which = Bit; takes = f.0; gives = f.1 }
]
form_of shape.TwoOf ks k e = elim (filled_two ks k e) [
  | inl f ↦ record { which = Word; takes = f.0; gives = f.1 }
  | inr f ↦ record { which = Bit; takes = f.0; gives = f.1 }
]
form_of shape.Choice ks k e = elim (filled_choice ks k e) [
  | inl f ↦ record { which = Word; takes = f.0; gives = f.1 }
  | inr f ↦ record { which = Bit; takes = f.0; gives = f.1 }
]
