-- The flows of div, rem and divmod do statements of them.
use Rattle.word_flow.proofs.Common.{second_value, after_rounds, ComputeMeets, scratch_word, Compute}
use Rattle.word_flow.proofs.Common.{slice_index, flow_rounds, scratch_bit, named_width, form_filled}
use Rattle.word_flow.proofs.Common.{values_from, sense_three, flow_total, placed_body, first_node, ℕ}
use Rattle.word_flow.proofs.Common.{WIDTH_MAX, Statement, same_slot, steps_for, bytes_eq, majority}
use Rattle.word_flow.proofs.Common.{op_value, flow_map, IsPlaced, at_place, flow_aps, InCells, zero}
use Rattle.word_flow.proofs.Common.{room_of, rows_of, slot_is, name_at, rows_on, WordOp, []}
use Rattle.word_flow.proofs.Common.{Flowed, FlowOf, Extent, InRoom, false, subst, arith, Space, ◌≡◌}
use Rattle.word_flow.proofs.Common.{Block, Slots, Owner, AreAt, Bool, true, cond, List, Some, None}
use Rattle.word_flow.proofs.Common.{refl, ◌==◌, Kind, Word, Slot, Room, Full, slot, suc, ◌+◌, ◌-◌}
use Rattle.word_flow.proofs.Common.{◌*◌, ◌^◌, ◌<◌, ◌≤◌, ◌∷◌, sym, ◌∙◌, ◌/◌, ◌%◌, Bit, ap}
use Rattle.word_flow.proofs.Answers.{Answers}
use Rattle.word_flow.proofs.Targets.{answers_of, aps_in, body_holds, Operation, Value}
use Rattle.word_flow.proofs.Targets.{OneDone, IsDone, of_words, one_target, word_value, two_values}
use Rattle.word_flow.proofs.Targets.{by_words, spelled, done, View, Step, stepped}
use Rattle.word_flow.proofs.Computing.{stands_target, stands_arg, stands_second, target_fresh}
use Rattle.word_flow.proofs.Computing.{fresh_at, two_give}
use Rattle.word_flow.proofs.Counting.{number}
use Rattle.word_flow.proofs.Dividing.{State, InRange, does, found_left, zero_left, borrow_left}
use Rattle.word_flow.proofs.Dividing.{less, lent, leaves_row, Divided, division_does}
use Rattle.word_flow.proofs.Loops.{◌▹◌}
use Rattle.word_flow.proofs.Numbers.{twice_below, half_below, square, quotient_is, remainder_is}
use Rattle.word_flow.proofs.Placing.{Whose, Name, BitAt, WordAt, AllStand, AllDiffer, not_same}
use Rattle.word_flow.proofs.Placing.{rooms_whose}
use Rattle.word_flow.proofs.Quotients.{Part, GatherTop, Gather, First, Over, Above, Kept, TakeFirst}
use Rattle.word_flow.proofs.Quotients.{Take, code, division}
use Rattle.word_flow.proofs.Slices.{val, agree_val}
use Rattle.word_flow.proofs.Views.{shown}
use Rattle.op_text.specs.declared.word_ops.WordOp.TheVariants as op

-- the quotient's bits have a row each, or one in turn
abbrev pub kept_in : Bool → Kind
kept_in true = Word
kept_in false = Bit

abbrev known : List Owner
known = InRoom 0 ∷ InRoom 1 ∷ InRoom 2 ∷ InRoom 3 ∷ InRoom 4 ∷ InCells 0 ∷ InCells 2 ∷ InCells 4 ∷ []

abbrev es : Bool → List Extent
es l = rows_of (kept_in l) ∷ Full ∷ Full ∷ Full ∷ Full ∷ []

abbrev w : ℕ
w = 1

abbrev view : Bool → (ℕ → Bool) → (ℕ → Bool) → State → View
view l a d s (InRoom zero) v = cond l (s.q v) s.f
view l a d s (InRoom (suc zero)) v = a v
view l a d s (InRoom (suc (suc zero))) v = d v
view l a d s (InRoom (suc (suc (suc zero)))) v = s.h v
view l a d s (InRoom (suc (suc (suc (suc k))))) v = s.w v
view l a d s (InCells c) v = cond (c == 0) s.g (cond (c == 2) s.k s.b)

abbrev start : View → State
start c = record {
  w = c (InRoom 4);
  q = c (InRoom 0);
  h = c (InRoom 3);
  f = c (InRoom 0) 0;
  g = c (InCells 0) 0;
  k = c (InCells 2) 0;
  b = c (InCells 4) 0;
  alive = [];
  cost = 0;
  aps = 0;
}

abbrev rooms : Bool → Slot → Slot → Slot → Slot → Slot → List Room
rooms l q a d h r = room_of true (slot q.space q.which (kept_in l))
    ∷ room_of false (slot a.space a.which Word) ∷ room_of false (slot d.space d.which Word)
    ∷ room_of true (slot h.space h.which Word) ∷ room_of true (slot r.space r.which Word) ∷ []

holds : (l : Bool) (q a d h r : Slot) (b : Part)
    → body_holds (rooms l q a d h r) known aps_in w (code l b) ≡ true
unfolding sense_three first_node
holds l q a d h r GatherTop = refl
holds l q a d h r Gather = refl
holds true q a d h r First = refl
holds false q a d h r First = refl
holds true q a d h r Over = refl
holds false q a d h r Over = refl
holds true q a d h r Above = refl
holds false q a d h r Above = refl
holds l q a d h r Kept = refl
holds l q a d h r TakeFirst = refl
holds true q a d h r Take = refl
holds false q a d h r Take = refl

module _ (n : ℕ) (a d : ℕ → Bool) where
  step : (l : Bool) (b : Part) (g : List ℕ) (s : State) → InRange n b g s → Step n (es l) known
      (code l b) g (view l a d s) (view l a d (does a d b g s)) s.cost (does a d b g s).cost s.aps
      (does a d b g s).aps s.alive (does a d b g s).alive aps_in
  unfolding values_from
  step l GatherTop g s r = stepped (r, tt) (r, (omega arith, tt)) s.alive refl refl refl (λ d. refl)
      refl (omega arith)
  step l Gather g s r = stepped (r.0, (omega arith, tt)) (r.0, (omega arith, tt)) found_left r.1 refl
      refl (λ d. refl) refl (omega arith)
  step true First g s r = stepped (r.0, (r.1, tt)) (r.0, (omega arith, tt)) s.alive refl refl refl
      (λ d. refl) refl (omega arith)
  step false First g s r = stepped (r.0, (r.1, tt)) (omega arith, (omega arith, tt)) s.alive refl refl
      refl (λ d. refl) refl (omega arith)
  step true Over g s r = stepped (r.2, (r.1, (omega arith, tt))) (r.0, (omega arith, tt)) found_left
      r.3 refl refl (λ d. refl) refl (omega arith)
  step false Over g s r = stepped (r.2, (r.1, (omega arith, tt))) (omega arith, (omega arith, tt))
      found_left r.3 refl refl (λ d. refl) refl (omega arith)
  step true Above g s r = stepped (r.1, (omega arith, tt)) (r.0, (omega arith, (omega arith, tt)))
      found_left r.2 refl refl (λ d. refl) refl (omega arith)
  step false Above g s r = stepped (r.1, (omega arith, tt))
      (omega arith, (omega arith, (omega arith, tt))) found_left r.2 refl refl (λ d. refl) refl
      (omega arith)
  step l Kept g s r = stepped (omega arith, tt) (omega arith, (omega arith, tt)) found_left r refl
      refl (λ d. refl) refl (omega arith)
  step l TakeFirst g s r = stepped (omega arith, (omega arith, (r.1, (r.0, tt))))
      (r.0, (omega arith, tt)) zero_left r.2 refl refl (λ d. refl) refl refl
  step true Take g s r = stepped (r.1, (r.0, (r.2, (omega arith, tt)))) (r.2, (omega arith, tt))
      borrow_left r.3 refl refl (λ e. ap (λ q. (let y = majority false (d (slice_index g 3)) q in
      let t = s.w (slice_index g 4) in
      shown (es true) known (view true a d (leaves_row s (slice_index g 4) (less t s.b y)
      (lent t s.b y) 9)))) r.4) refl refl
  step false Take g s r = stepped (r.1, (omega arith, (r.2, (omega arith, tt)))) (r.2, (omega arith, tt))
      borrow_left r.3 refl refl (λ d. refl) refl refl

-- whose quotient alone is wanted, and whose remainder is
abbrev pub op_of : Bool → WordOp
op_of true = op.Div
op_of false = op.Rem

-- the commands and AP in closed form
total_is : (lone : Bool) (n c : ℕ) → 0 < n → (n ≡ 1 → c ≡ cond lone 4 13)
    → (1 < n → c + 6 ≡ 6 * (n * n) + cond lone 3 12 * n) → c ≡ flow_total (op_of lone) n
total_is lone n c some one more = grind (arith, some, one, more)

aps_are : (lone : Bool) (n c : ℕ) → 2 * c + cond lone n 0 ≡ n * n + cond lone 0 n
    → c ≡ flow_aps (op_of lone) n
aps_are true n c e = half_below n c (omega (arith, e))
aps_are false n c e = let d : n * (n + 1) ≡ 2 * c = omega (arith, e) in
    sym (ap (λ x. x / 2) d ∙ omega arith)

-- three times the commands are no more than the ceiling
few : (lone : Bool) (n : ℕ) → 0 < n → flow_total (op_of lone) n ≤ 29 * (n * n) + 18 * n
few lone n some = grind (arith, some, twice_below n)

module _ (lone : Bool) (n : ℕ) (a d : ℕ → Bool) (left : ℕ) (s : State)
    (is : Divided lone a (val d 0 n) 0 n left s) where
  quotient : number s.q n ≡ op_value op.Div n (number a n ∷ number d n ∷ [])
  quotient = agree_val s.q n ∙ quotient_is (val a 0 n) (val d 0 n) (val s.q 0 n) left (2 ^ n) is.rem
      is.small_rem is.ones
      ∙ ap (λ z. cond (val d 0 n == 0) (2 ^ n - 1) (z / val d 0 n)) (sym (agree_val a n))
      ∙ ap (λ z. cond (z == 0) (2 ^ n - 1) (number a n / z)) (sym (agree_val d n))

  remainder : lone ≡ false → number s.w n ≡ op_value op.Rem n (number a n ∷ number d n ∷ [])
  remainder e = agree_val s.w n ∙ is.kept e
      ∙ remainder_is (val a 0 n) (val d 0 n) (val s.q 0 n) left is.rem is.small_rem
      ∙ ap (λ z. cond (val d 0 n == 0) z (z % val d 0 n)) (sym (agree_val a n))
      ∙ ap (λ z. cond (z == 0) (number a n) (number a n % z)) (sym (agree_val d n))

-- what a division leaves of the two
abbrev Divides : ℕ → View → View → Type 0
Divides n c e = (number (e (InRoom 0)) n
    ≡ op_value op.Divmod n (number (c (InRoom 1)) n ∷ number (c (InRoom 2)) n ∷ []))
    × (number (e (InRoom 4)) n
    ≡ second_value op.Divmod n (number (c (InRoom 1)) n ∷ number (c (InRoom 2)) n ∷ []))

begins : (l : Bool) (c : View) → shown (es l) known c
    ≡ shown (es l) known (view l (c (InRoom 1)) (c (InRoom 2)) (start c))
begins true c = refl
begins false c = refl

divides : (lone l : Bool) (n : ℕ) → 0 < n → n ≤ WIDTH_MAX → (c : View) (Post : View → Type 0)
    → ((s : State) (left : ℕ) → Divided lone (c (InRoom 1)) (val (c (InRoom 2)) 0 n) 0 n left s
    → Post (view l (c (InRoom 1)) (c (InRoom 2)) s))
    → Answers Part (code l) (division lone) (es l) known aps_in n c (flow_total (op_of lone) n)
    (flow_aps (op_of lone) n) Post
divides lone l n some small c Post h = let a = c (InRoom 1) in let d = c (InRoom 2) in
    answers_of State (InRange n) (does a d) (view l a d) (λ s. s.cost) (λ s. s.aps) (λ s. s.alive)
    (step n a d l) (start c) (begins l c) refl refl refl
    (λ g s. Post (view l a d s) × (s.cost ≡ flow_total (op_of lone) n) × (s.aps ≡ flow_aps (op_of lone) n))
    (division_does n d small some a lone _ (λ g s left z one more aps. (
      h s left z,
      total_is lone n s.cost some one more,
      aps_are lone n s.aps aps,
    )) 0 0 0 0 0 0 0 0 (start c) refl refl) (λ g s q. q)

div_operation : Operation op.Div Part (code true) (division true) (es true) known aps_in
    (flow_aps op.Div) w (Value op.Div Word 0 (1 ∷ 2 ∷ []))
div_operation = record {
  answers = λ n some small c. divides true true n some small c (Value op.Div Word 0 (1 ∷ 2 ∷ []) n c)
      (λ s left is. quotient true n (c (InRoom 1)) (c (InRoom 2)) left s is);
  aps = λ n. omega arith;
  cheap = λ n some. omega (arith, few true n some, square n);
}

rem_operation : Operation op.Rem Part (code false) (division false) (es false) known aps_in
    (flow_aps op.Rem) w (Value op.Rem Word 4 (1 ∷ 2 ∷ []))
rem_operation = record {
  answers = λ n some small c. divides false false n some small c
      (Value op.Rem Word 4 (1 ∷ 2 ∷ []) n c)
      (λ s left is. remainder false n (c (InRoom 1)) (c (InRoom 2)) left s is refl);
  aps = λ n. omega arith;
  cheap = λ n some. omega (arith, few false n some, square n);
}

divmod_operation : Operation op.Divmod Part (code true) (division false) (es true) known aps_in
    (flow_aps op.Divmod) w Divides
divmod_operation = record {
  answers = λ n some small c. divides false true n some small c (Divides n c) (λ s left is. (
    quotient false n (c (InRoom 1)) (c (InRoom 2)) left s is,
    remainder false n (c (InRoom 1)) (c (InRoom 2)) left s is refl,
  ));
  aps = λ n. omega arith;
  cheap = λ n some. omega (arith, few false n some, square n);
}

pub div_done : OneDone op.Div
div_done = of_words op.Div refl (λ slots fb fw target args meets placed s0 w0 s1 w1 s2 w2 found at.
    (let t = slot s0 w0 Word in
    let a = slot s1 w1 Word in
    let b = slot s2 w2 Word in
    let fresh = target_fresh slots fb fw target None op.Div args meets placed t found (a ∷ b ∷ []) at
    in
    let arg = stands_arg slots fb fw target None op.Div args meets placed t found (a ∷ b ∷ []) at in
    one_target slots fb fw target op.Div args meets placed t found (a ∷ b ∷ []) at
    (Name true target t ∷ Name false (name_at args 0) a ∷ Name false (name_at args 1) b ∷ WordAt fw
    ∷ WordAt (fw + 1) ∷ [])
    (stands_target slots fb fw target None op.Div args meets placed t found (a ∷ b ∷ []) at
    ▹ arg 0 (omega arith) ▹ arg 1 (omega arith) ▹ (0, omega arith, omega arith)
    ▹ (1, omega arith, omega arith) ▹ tt)
    ((λ e. fresh 0 (omega arith), (λ e. fresh 1 (omega arith), (λ e. tt, (λ e. tt, tt))))
    ▹ (λ e. absurd (cc), (λ e. tt, (λ e. tt, tt))) ▹ (λ e. tt, (λ e. tt, tt))
    ▹ (λ e f. absurd (omega (arith, f)), tt) ▹ tt ▹ tt)
    Part (code true) (division true) (es true) refl known aps_in (flow_aps op.Div) w
    (holds true t a b (scratch_word fw) (scratch_word (fw + 1))) refl 0 (1 ∷ 2 ∷ []) div_operation
    (omega arith) refl (λ n v. refl) (λ n. refl) (λ n. refl)
    (λ n bits. two_values _ _ _ _ (word_value n s1 w1 bits) (word_value n s2 w2 bits))))

pub rem_done : OneDone op.Rem
rem_done = of_words op.Rem refl (λ slots fb fw target args meets placed s0 w0 s1 w1 s2 w2 found at.
    (let t = slot s0 w0 Word in
    let a = slot s1 w1 Word in
    let b = slot s2 w2 Word in
    let fresh = target_fresh slots fb fw target None op.Rem args meets placed t found (a ∷ b ∷ []) at
    in
    let arg = stands_arg slots fb fw target None op.Rem args meets placed t found (a ∷ b ∷ []) at in
    one_target slots fb fw target op.Rem args meets placed t found (a ∷ b ∷ []) at
    (BitAt fb ∷ Name false (name_at args 0) a ∷ Name false (name_at args 1) b ∷ WordAt fw
    ∷ Name true target t ∷ [])
    ((0, omega arith, omega arith) ▹ arg 0 (omega arith) ▹ arg 1 (omega arith)
    ▹ (0, omega arith, omega arith)
    ▹ stands_target slots fb fw target None op.Rem args meets placed t found (a ∷ b ∷ []) at ▹ tt)
    ((λ e. tt, (λ e. tt, (λ e. tt, (λ e. tt, tt))))
    ▹ (λ e. absurd (cc), (λ e. tt, (λ e. not_same target (name_at args 0) (fresh 0 (omega arith)), tt)))
    ▹ (λ e. tt, (λ e. not_same target (name_at args 1) (fresh 1 (omega arith)), tt))
    ▹ (λ e. tt, tt) ▹ tt ▹ tt)
    Part (code false) (division false) (es false) refl known aps_in (flow_aps op.Rem) w
    (holds false (scratch_bit fb) a b (scratch_word fw) t) refl 4 (1 ∷ 2 ∷ []) rem_operation
    (omega arith) refl (λ n v. refl) (λ n. refl) (λ n. refl)
    (λ n bits. two_values _ _ _ _ (word_value n s1 w1 bits) (word_value n s2 w2 bits))))

module _ (slots : Slots) (fb fw : ℕ) (target name : List ℕ) (args : List (List ℕ))
    (meets : ComputeMeets slots target (Some name) op.Divmod args)
    (placed : IsPlaced slots fb fw (Compute target (Some name) op.Divmod args)) (s0 : Space) (w0 : ℕ)
    (s1 : Space) (w1 : ℕ) (s2 : Space) (w2 : ℕ) (s3 : Space) (w3 : ℕ)
    (near : slots name ≡ Some (slot s3 w3 Word)) (found : slots target ≡ Some (slot s0 w0 Word))
    (at : AreAt slots args (slot s1 w1 Word ∷ slot s2 w2 Word ∷ [])) where
  abbrev t : Slot
  t = slot s0 w0 Word

  abbrev u : Slot
  u = slot s3 w3 Word

  abbrev ss : List Slot
  ss = slot s1 w1 Word ∷ slot s2 w2 Word ∷ []

  abbrev said : Statement
  said = Compute target (Some name) op.Divmod args

  abbrev owners : List Whose
  owners = Name true target t ∷ Name false (name_at args 0) (slot s1 w1 Word)
      ∷ Name false (name_at args 1) (slot s2 w2 Word) ∷ WordAt fw ∷ Name true name u ∷ []

  arg : (i : ℕ) → i < 2 → bytes_eq target (name_at args i) ≡ false
  arg i lt = target_fresh slots fb fw target (Some name) op.Divmod args meets placed t found ss at i lt

  stand : AllStand slots fb fw said placed owners
  stand = stands_target slots fb fw target (Some name) op.Divmod args meets placed t found ss at
      ▹ stands_arg slots fb fw target (Some name) op.Divmod args meets placed t found ss at 0 (omega arith)
      ▹ stands_arg slots fb fw target (Some name) op.Divmod args meets placed t found ss at 1 (omega arith)
      ▹ (0, omega arith, omega arith) ▹ stands_second slots fb fw target name op.Divmod args placed u near
      ▹ tt

  other_fresh : (i : ℕ) → i < 2 → bytes_eq (name_at args i) name ≡ false
  other_fresh i lt = not_same name (name_at args i)
      (fresh_at args name i (at_place slots args ss i at lt).0 meets.others.fresh)

  differ : AllDiffer owners
  differ = (λ e. arg 0 (omega arith), (λ e. arg 1 (omega arith), (λ e. tt, (λ e. meets.others.other, tt))))
      ▹ (λ e. absurd (cc), (λ e. tt, (λ e. other_fresh 0 (omega arith), tt)))
      ▹ (λ e. tt, (λ e. other_fresh 1 (omega arith), tt)) ▹ (λ e. tt, tt) ▹ tt ▹ tt

  abbrev made : FlowOf Block
  made = flow_map (λ b. placed_body (rooms_whose owners) (code true b)) (division false)

  both_done : IsDone slots fb fw target (Some name) op.Divmod args (Flowed made ∷ [])
  both_done = done slots fb fw target (Some name) op.Divmod args placed owners stand differ Part
      (code true) (division false) (es true) refl known aps_in (flow_aps op.Divmod) w
      (holds true t (slot s1 w1 Word) (slot s2 w2 Word) (scratch_word fw) u) refl Divides divmod_operation
      (λ n. named_width n slots args ss at) (λ n some small held before r h x e.
      (let values = two_values _ _ _ _ (word_value n s1 w1 before) (word_value n s2 w2 before) in
      let after = after_rounds n (flow_rounds n made) before in
      two_give slots fb fw target name op.Divmod args meets placed t found u near ss at
      meets.others.other refl n held before after h
      (spelled n t after (r.end (InRoom 0)) _ (λ v lv. r.held (InRoom 0) refl (omega arith) v lv)
      (r.post.0 ∙ ap (op_value op.Divmod n) values))
      (spelled n u after (r.end (InRoom 4)) _ (λ v lv. r.held (InRoom 4) refl (omega arith) v lv)
      (r.post.1 ∙ ap (second_value op.Divmod n) values)) x e))

pub divmod_done : (slots : Slots) (fb fw : ℕ) (target name : List ℕ) (args : List (List ℕ))
    → ComputeMeets slots target (Some name) op.Divmod args
    → IsPlaced slots fb fw (Compute target (Some name) op.Divmod args) → (t : Slot)
    → slots target ≡ Some t → (u : Slot) → slots name ≡ Some u → (ss : List Slot)
    → AreAt slots args ss → IsDone slots fb fw target (Some name) op.Divmod args
    (steps_for op.Divmod (rows_on t (Some u) ss fb fw))
divmod_done slots fb fw target name args meets placed t found u near ss at =
    subst (λ u. Two u t ss) (sym (slot_is u Word other_kind))
    (by_words (Two (slot u.space u.which Word))
    (λ s0 w0 s1 w1 s2 w2 near found at. both_done slots fb fw target name args meets placed s0 w0 s1 w1
    s2 w2 u.space u.which near found at) t ss
    (form_filled slots fb fw target (Some name) op.Divmod args meets placed t found ss at))
    near found at
  where
    Two : Slot → Slot → List Slot → Type 0
    Two u t ss = slots name ≡ Some u → slots target ≡ Some t → AreAt slots args ss
        → IsDone slots fb fw target (Some name) op.Divmod args
        (steps_for op.Divmod (rows_on t (Some u) ss fb fw))

    other_kind : u.kind ≡ Word
    other_kind = let e : meets.others.gives.slot ≡ u =
        same_slot meets.others.gives.slot u (sym meets.others.gives.found ∙ near) in
        sym (ap (λ (s : Slot). s.kind) e) ∙ meets.others.gives.kind
