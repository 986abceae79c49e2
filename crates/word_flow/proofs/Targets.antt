-- An operation's flow does a statement of it, in exactly so many commands, wherever its names are.
use Rattle.word_flow.proofs.Common.{bits_of_number, value_of_list, after_rounds, ComputeMeets, Bool}
use Rattle.word_flow.proofs.Common.{filled_words, flow_rounds, filled_word, slots_width, value_same}
use Rattle.word_flow.proofs.Common.{named_width, form_filled, placed_body, slot_bits, extent_is, ◌≡◌}
use Rattle.word_flow.proofs.Common.{steps_for, op_value, words_to, flow_map, IsPlaced, one_slot, []}
use Rattle.word_flow.proofs.Common.{no_slots, BodyCmd, Compute, word_to, spot_in, room_at, room_of}
use Rattle.word_flow.proofs.Common.{rows_of, slot_is, name_at, rows_on, length, WordOp, ◌<◌}
use Rattle.word_flow.proofs.Common.{filled, Flowed, FlowOf, row_in, Extent, extent, InRoom, number}
use Rattle.word_flow.proofs.Common.{false, subst, arith, value, forms, Space, Spots, Slots, Owner}
use Rattle.word_flow.proofs.Common.{AreAt, Marked, width, true, List, Some, None, refl, Kind, Word}
use Rattle.word_flow.proofs.Common.{bits, Slot, Room, Full, slot, ◌∷◌, map, sym, ◌∙◌, ap, ℕ}
use Rattle.word_flow.proofs.Computing.{stands_target, stands_arg, target_fresh, one_gives}
use Rattle.word_flow.proofs.FlowLowered.{flow_holds}
use Rattle.word_flow.proofs.Loops.{◌▹◌}
use Rattle.word_flow.proofs.Placing.{Whose, Name, rooms_whose, AllStand, AllDiffer}
use Rattle.word_flow.proofs.Views.{is_known}
pub use Rattle.word_flow.proofs.FlowLowered.{IsExact, IsDone, Operation, done}
pub use Rattle.word_flow.proofs.Answers.{answers_of}
pub use Rattle.word_flow.proofs.Checks.{aps_in, body_holds}
pub use Rattle.word_flow.proofs.Views.{View, Step, stepped}

-- a row has the bits of the number that it holds
pub spelled : (n : ℕ) (t : Slot) (after : Spots) (e : ℕ → Bool) (x : ℕ)
    → ((v : ℕ) → v < width n t.kind → after (spot_in n t.space t.which v) ≡ e v)
    → number e (width n t.kind) ≡ x → slot_bits n after t ≡ bits x (width n t.kind)
spelled n t after e x h is = let m = width n t.kind in
    sym (bits_of_number (λ v. after (spot_in n t.space t.which v)) m)
    ∙ ap (λ z. bits z m) (value_same (λ v. after (spot_in n t.space t.which v)) e m h ∙ is)

-- what the target's rows hold, of what the arguments' rows hold
abbrev pub Value : WordOp → Kind → ℕ → List ℕ → ℕ → View → View → Type 0
Value p g k js n c e = number (e (InRoom k)) (width n g)
    ≡ op_value p n (map (λ j. number (c (InRoom j)) n) js)

module _ (slots : Slots) (fb fw : ℕ) (target : List ℕ) (p : WordOp) (args : List (List ℕ))
    (meets : ComputeMeets slots target None p args)
    (placed : IsPlaced slots fb fw (Compute target None p args)) (t : Slot)
    (found : slots target ≡ Some t) (ss : List Slot) (at : AreAt slots args ss) (ws : List Whose)
    (stand : AllStand slots fb fw (Compute target None p args) placed ws) (differ : AllDiffer ws)
    (A : Type 0) (code : A → Marked) (f : FlowOf A) (es : List Extent)
    (shape : map (λ (r : Room). r.rows) (rooms_whose ws) ≡ es) (known : List Owner)
    (x : List BodyCmd → ℕ) (weight : ℕ → ℕ) (w : ℕ)
    (holds : (b : A) → body_holds (rooms_whose ws) known x w (code b) ≡ true)
    (sized : flow_holds (flow_map (λ b. placed_body (rooms_whose ws) (code b)) f) ≡ true)
    (k : ℕ) (js : List ℕ) (o : Operation p A code f es known x weight w (Value p t.kind k js)) where
  pub one_target : k < length (rooms_whose ws) → is_known known (InRoom k) ≡ true
      → ((n v : ℕ) → row_in n (room_at (rooms_whose ws) k) v ≡ spot_in n t.space t.which v)
      → ((n : ℕ) → extent n (room_at (rooms_whose ws) k).rows ≡ width n t.kind)
      → ((n : ℕ) → slots_width n ss ≡ n)
      → ((n : ℕ) (bits : Spots)
      → map (λ j. number (λ v. bits (row_in n (room_at (rooms_whose ws) j) v)) n) js
      ≡ map (λ s. value (slot_bits n bits s)) ss)
      → IsDone slots fb fw target None p args
      (Flowed (flow_map (λ b. placed_body (rooms_whose ws) (code b)) f) ∷ [])
  one_target there knows place rows wide numbers = done slots fb fw target None p args placed ws stand
      differ A code f es shape known x weight w holds sized (Value p t.kind k js) o
      (λ n. named_width n slots args ss at ∙ wide n)
      (λ n some small held before r h name e. (let after = after_rounds n (flow_rounds n
      (flow_map (λ b. placed_body (rooms_whose ws) (code b)) f)) before in
      one_gives slots fb fw target p args meets placed t found ss at n held before after h
      (spelled n t after (r.end (InRoom k)) _ (λ v lv. ap after (sym (place n v))
      ∙ r.held (InRoom k) knows there v (subst (λ x. v < x) (sym (rows n)) lv))
      (r.post ∙ ap (op_value p n) (numbers n before)
      ∙ ap (λ x. op_value p x (map (λ s. value (slot_bits n before s)) ss)) (sym (wide n)))) name e))

pub word_value : (n : ℕ) (space : Space) (which : ℕ) (before : Spots)
    → number (λ v. before (spot_in n space which v)) n
    ≡ value (slot_bits n before (slot space which Word))
word_value n space which before = sym (value_of_list (λ v. before (spot_in n space which v)) n)

-- Where a target of this kind and arguments are what fills a form, it is enough to know them
by_word : (P : Slot → List Slot → Type 0) (g : Kind) → ((s0 : Space) (w0 : ℕ) (s1 : Space) (w1 : ℕ)
    → P (slot s0 w0 g) (slot s1 w1 Word ∷ [])) → (t : Slot) (ss : List Slot)
    → filled (word_to g) (map (λ (s : Slot). s.kind) ss) ≡ Some t.kind → P t ss
by_word P g h t ss e =
    let f = filled_word g (map (λ (s : Slot). s.kind) ss) t.kind e in
    let x = one_slot ss Word [] f.0 in
    subst (λ t. P t ss) (sym (slot_is t g f.1))
    (subst (P (slot t.space t.which g))
    (sym (x.is ∙ ap (λ l. slot x.space x.which Word ∷ l) (no_slots x.more x.others)))
    (h t.space t.which x.space x.which))

pub by_words : (P : Slot → List Slot → Type 0) → ((s0 : Space) (w0 : ℕ) (s1 : Space) (w1 : ℕ)
    (s2 : Space) (w2 : ℕ) → P (slot s0 w0 Word) (slot s1 w1 Word ∷ slot s2 w2 Word ∷ []))
    → (t : Slot) (ss : List Slot)
    → filled (words_to Word) (map (λ (s : Slot). s.kind) ss) ≡ Some t.kind → P t ss
by_words P h t ss e =
    let f = filled_words Word (map (λ (s : Slot). s.kind) ss) t.kind e in
    let x = one_slot ss Word (Word ∷ []) f.0 in
    let y = one_slot x.more Word [] x.others in
    subst (λ t. P t ss) (sym (slot_is t Word f.1))
    (subst (P (slot t.space t.which Word))
    (sym (x.is ∙ ap (λ l. slot x.space x.which Word ∷ l) (y.is
    ∙ ap (λ l. slot y.space y.which Word ∷ l) (no_slots y.more y.others))))
    (h t.space t.which x.space x.which y.space y.which))

-- a statement of such an operation with one target is done
abbrev pub OneDone : WordOp → Type 0
OneDone p = (slots : Slots) (fb fw : ℕ) (target : List ℕ) (args : List (List ℕ))
    → ComputeMeets slots target None p args → IsPlaced slots fb fw (Compute target None p args)
    → (t : Slot) → slots target ≡ Some t → (ss : List Slot) → AreAt slots args ss
    → IsDone slots fb fw target None p args (steps_for p (rows_on t None ss fb fw))

-- with one argument, a word
abbrev pub word_rooms : Kind → Space → ℕ → Space → ℕ → List Room
word_rooms g s0 w0 s1 w1 = room_of true (slot s0 w0 g) ∷ room_of false (slot s1 w1 Word) ∷ []

pub of_word : {p : WordOp} (g : Kind) {A : Type 0} {code : A → Marked} {f : FlowOf A}
    {known : List Owner} {x : List BodyCmd → ℕ} {weight : ℕ → ℕ} {w : ℕ}
    → Operation p A code f (rows_of g ∷ Full ∷ []) known x weight w (Value p g 0 (1 ∷ []))
    → ((s0 : Space) (w0 : ℕ) (s1 : Space) (w1 : ℕ) (b : A)
    → body_holds (word_rooms g s0 w0 s1 w1) known x w (code b) ≡ true)
    → ((s0 : Space) (w0 : ℕ) (s1 : Space) (w1 : ℕ)
    → flow_holds (flow_map (λ b. placed_body (word_rooms g s0 w0 s1 w1) (code b)) f) ≡ true)
    → is_known known (InRoom 0) ≡ true → forms p ≡ word_to g
    → ((s0 : Space) (w0 : ℕ) (s1 : Space) (w1 fb fw : ℕ)
    → steps_for p (rows_on (slot s0 w0 g) None (slot s1 w1 Word ∷ []) fb fw)
    ≡ Flowed (flow_map (λ b. placed_body (word_rooms g s0 w0 s1 w1) (code b)) f) ∷ []) → OneDone p
of_word {p} g {A} {code} {f} {known} {x} {weight} {w} o holds sized knows form steps slots fb fw target
    args meets placed t found ss at = by_word (λ t ss. slots target ≡ Some t → AreAt slots args ss
    → IsDone slots fb fw target None p args (steps_for p (rows_on t None ss fb fw))) g by t ss
    (subst (λ fs. filled fs (map (λ (s : Slot). s.kind) ss) ≡ Some t.kind) form
    (form_filled slots fb fw target None p args meets placed t found ss at)) found at
  where
    by : (s0 : Space) (w0 : ℕ) (s1 : Space) (w1 : ℕ) → slots target ≡ Some (slot s0 w0 g)
        → AreAt slots args (slot s1 w1 Word ∷ [])
        → IsDone slots fb fw target None p args
        (steps_for p (rows_on (slot s0 w0 g) None (slot s1 w1 Word ∷ []) fb fw))
    by s0 w0 s1 w1 found at =
        let t = slot s0 w0 g in
        let ss = slot s1 w1 Word ∷ [] in
        let ws = Name true target t ∷ Name false (name_at args 0) (slot s1 w1 Word) ∷ [] in
        subst (IsDone slots fb fw target None p args) (sym (steps s0 w0 s1 w1 fb fw))
        (one_target slots fb fw target p args meets placed t found ss at ws
        (stands_target slots fb fw target None p args meets placed t found ss at
        ▹ stands_arg slots fb fw target None p args meets placed t found ss at 0 (omega arith) ▹ tt)
        ((λ e. target_fresh slots fb fw target None p args meets placed t found ss at 0 (omega arith), tt)
        ▹ tt ▹ tt) A code f (rows_of g ∷ Full ∷ []) refl known x weight w
        (holds s0 w0 s1 w1) (sized s0 w0 s1 w1) 0 (1 ∷ []) o (omega arith) knows (λ n v. refl)
        (λ n. extent_is n g) (λ n. refl) (λ n bits. ap (λ x. x ∷ []) (word_value n s1 w1 bits)))

pub two_values : (a b c d : ℕ) → a ≡ c → b ≡ d → a ∷ b ∷ [] ≡ c ∷ d ∷ []
two_values a b c d e f = ap (λ x. x ∷ b ∷ []) e ∙ ap (λ x. c ∷ x ∷ []) f

-- with two arguments, words
pub of_words : (p : WordOp) → forms p ≡ words_to Word
    → ((slots : Slots) (fb fw : ℕ) (target : List ℕ) (args : List (List ℕ))
    → ComputeMeets slots target None p args → IsPlaced slots fb fw (Compute target None p args)
    → (s0 : Space) (w0 : ℕ) (s1 : Space) (w1 : ℕ) (s2 : Space) (w2 : ℕ)
    → slots target ≡ Some (slot s0 w0 Word)
    → AreAt slots args (slot s1 w1 Word ∷ slot s2 w2 Word ∷ [])
    → IsDone slots fb fw target None p args (steps_for p (rows_on (slot s0 w0 Word) None
    (slot s1 w1 Word ∷ slot s2 w2 Word ∷ []) fb fw))) → OneDone p
of_words p form by slots fb fw target args meets placed t found ss at =
    by_words (λ t ss. slots target ≡ Some t → AreAt slots args ss
    → IsDone slots fb fw target None p args (steps_for p (rows_on t None ss fb fw)))
    (by slots fb fw target args meets placed) t ss
    (subst (λ fs. filled fs (map (λ (s : Slot). s.kind) ss) ≡ Some t.kind) form
    (form_filled slots fb fw target None p args meets placed t found ss at)) found at
