-- Events that each bank sees alike: they leave the banks alike, and are counted alike.
use Rattle.machine_model.proofs.Common.{◌≡◌, ℕ, Bool, true, false, cond, eqb, List, [], ◌∷◌, ◌++◌}
use Rattle.machine_model.proofs.Common.{refl, sym, ◌∙◌, ap, inl, inr, eq-eqb, ne_eqb, fun_ext, Aap}
use Rattle.machine_model.proofs.Common.{Counters, Banks, Event, after, all_counted, Row, Write}
use Rattle.machine_model.proofs.Common.{events_of, on_bank_all, projection}
use Rattle.std.proofs.lemmas.Bool.Decides.{eqb_tells}
use Rattle.dram_model.specs.declared.address.Command.TheVariants.{Ap}
use Rattle.dram_model.specs.Chip.{bank_of, counted}

abbrev pub Alike : List Event → List Event → Type 0
Alike es fs = (bank : ℕ) → events_of bank es ≡ events_of bank fs

append_case : (t : Bool) (e : Event) (xs ys zs : List Event) → zs ≡ xs ++ ys
    → cond t (e ∷ zs) zs ≡ cond t (e ∷ xs) xs ++ ys
append_case true e xs ys zs h = ap (λ l. e ∷ l) h
append_case false e xs ys zs h = h

pub events_of-append : (bank : ℕ) (es fs : List Event)
    → events_of bank (es ++ fs) ≡ events_of bank es ++ events_of bank fs
events_of-append bank [] fs = refl
events_of-append bank (e ∷ es) fs = append_case (eqb (bank_of e) bank) e (events_of bank es)
    (events_of bank fs) (events_of bank (es ++ fs)) (events_of-append bank es fs)

pub Alike-append : (a b c d : List Event) → Alike a b → Alike c d → Alike (a ++ c) (b ++ d)
Alike-append a b c d h k bank = events_of-append bank a c
    ∙ ap (λ es. es ++ events_of bank c) (h bank)
    ∙ ap (λ es. events_of bank b ++ es) (k bank)
    ∙ sym (events_of-append bank b d)

pub alike_after : (es fs : List Event) → Alike es fs → (chip : Banks)
    → after es chip ≡ after fs chip
alike_after es fs h chip = fun_ext (λ bank. projection es chip bank
    ∙ ap (λ own. on_bank_all own (chip bank)) (h bank) ∙ sym (projection fs chip bank))

counted_swap : (e f : Event) (k : Counters) → counted e (counted f k) ≡ counted f (counted e k)
counted_swap (Row a (Ap x)) (Row b (Ap y)) k = refl
counted_swap (Row a (Ap x)) (Row b (Aap y z)) k = refl
counted_swap (Row a (Ap x)) (Write b y bits) k = refl
counted_swap (Row a (Aap w x)) (Row b (Ap y)) k = refl
counted_swap (Row a (Aap w x)) (Row b (Aap y z)) k = refl
counted_swap (Row a (Aap w x)) (Write b y bits) k = refl
counted_swap (Write a x bits) (Row b (Ap y)) k = refl
counted_swap (Write a x bits) (Row b (Aap y z)) k = refl
counted_swap (Write a x bits) (Write b y more) k = refl

-- the events without the first of a bank
abbrev pub without_first : ℕ → List Event → List Event
without_first bank [] = []
without_first bank (f ∷ fs) = cond (eqb (bank_of f) bank) fs (f ∷ without_first bank fs)

head_is : (e f : Event) (es fs : List Event) → f ∷ fs ≡ e ∷ es → f ≡ e
head_is e f es fs h = cc

tail_is : (e f : Event) (es fs : List Event) → f ∷ fs ≡ e ∷ es → fs ≡ es
tail_is e f es fs h = cc

first_counted : (bank : ℕ) (fs : List Event) (e : Event) (rest : List Event) (k : Counters)
    → events_of bank fs ≡ e ∷ rest
    → all_counted fs k ≡ all_counted (without_first bank fs) (counted e k)
first_counted bank [] e rest k h = cc
first_counted bank (f ∷ fs) e rest k h =
    first_case (eqb (bank_of f) bank) h (first_counted bank fs e rest (counted f k)) where
      first_case : (t : Bool) → cond t (f ∷ events_of bank fs) (events_of bank fs) ≡ e ∷ rest
          → (events_of bank fs ≡ e ∷ rest → all_counted fs (counted f k)
          ≡ all_counted (without_first bank fs) (counted e (counted f k)))
          → all_counted fs (counted f k)
          ≡ all_counted (cond t fs (f ∷ without_first bank fs)) (counted e k)
      first_case true h go = ap (λ x. all_counted fs (counted x k)) (head_is e f rest _ h)
      first_case false h go = go h ∙ ap (all_counted (without_first bank fs)) (counted_swap e f k)

first_own : (bank : ℕ) (fs : List Event) (e : Event) (rest : List Event)
    → events_of bank fs ≡ e ∷ rest → events_of bank (without_first bank fs) ≡ rest
first_own bank [] e rest h = cc
first_own bank (f ∷ fs) e rest h = elim (eqb_tells (bank_of f) bank) [
  | inl s ↦ rw s.0 (tail_is e f rest (events_of bank fs) (rw s.0 at h))
  | inr s ↦ rw (s.0, s.0) (first_own bank fs e rest (rw s.0 at h))
]

first_other : (bank other : ℕ) (fs : List Event) → (bank ≡ other → ⊥)
    → events_of other (without_first bank fs) ≡ events_of other fs
first_other bank other [] n = refl
first_other bank other (f ∷ fs) n = elim (eqb_tells (bank_of f) bank) [
  | inl s ↦
      let apart : eqb (bank_of f) other ≡ false =
      ne_eqb (bank_of f) other (λ e. n (sym s.1 ∙ e)) in
      rw (s.0, apart) refl
  | inr s ↦ rw s.0 (ap (λ own. cond (eqb (bank_of f) other) (f ∷ own) own)
      (first_other bank other fs n))
]

none_left : (f : Event) (fs : List Event) → [] ≡ events_of (bank_of f) (f ∷ fs) → ⊥
none_left f fs h =
    let t : eqb (bank_of f) (bank_of f) ≡ true = eq-eqb (bank_of f) (bank_of f) refl in
    let e : [] ≡ f ∷ events_of (bank_of f) fs = rw t at h in
    cc

pub alike_counted : (es fs : List Event) → Alike es fs → (k : Counters)
    → all_counted es k ≡ all_counted fs k
alike_counted [] [] h k = refl
alike_counted [] (f ∷ fs) h k = absurd (none_left f fs (h (bank_of f)))
alike_counted (e ∷ es) fs h k =
    let bank = bank_of e in
    let t : eqb (bank_of e) (bank_of e) ≡ true = eq-eqb (bank_of e) (bank_of e) refl in
    let own : events_of (bank_of e) fs ≡ e ∷ events_of (bank_of e) es =
    sym (h (bank_of e)) ∙ rw t refl in
    alike_counted es (without_first bank fs) (λ b. elim (eqb_tells bank b) [
      | inl s ↦ ap (λ x. events_of x es) (sym s.1)
          ∙ sym (first_own bank fs e (events_of bank es) own)
          ∙ ap (λ x. events_of x (without_first bank fs)) s.1
      | inr s ↦
          let mine : events_of b (e ∷ es) ≡ events_of b es = rw s.0 refl in
          sym mine ∙ h b ∙ sym (first_other bank b fs s.1)
    ]) (counted e k)
    ∙ sym (first_counted bank fs e (events_of bank es) k own)
