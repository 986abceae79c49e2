-- Where the arguments fill a form of an operation, its loop program does it, keeps its ceiling, and
-- passes the tests.
use Rattle.word_lower.proofs.Common.{◌≡◌, ℕ, suc, ◌+◌, ◌<◌, ◌≤◌, true, false, List, [], ◌∷◌, map}
use Rattle.word_lower.proofs.Common.{Some, refl, sym, ap, ◌∙◌, subst, arith, Kind, Word, Bit}
use Rattle.word_lower.proofs.Common.{WordOp, Signature, row_of, forms, filled, bits, value}
use Rattle.word_lower.proofs.Common.{op_value, width, bits_inside, op_ceiling, ScratchBit, Slot}
use Rattle.word_lower.proofs.Common.{Block, StepOf, all_rounds, Spot, Spots, spot_in, after_rounds}
use Rattle.word_lower.proofs.Common.{is_state, turn_cost, slot_spot, slot_bits, steps_fit}
use Rattle.word_lower.proofs.Common.{placed_steps}
use Rattle.row_alloc.specs.Symbolic.{sense_three, first_node}
use Rattle.loop_laws.specs.Forms.{is_short, keeps_states}
use Rattle.loop_laws.proofs.Summed.{steps_sum}
use Rattle.op_text.specs.declared.word_ops.WordOp.TheVariants as op
use Rattle.op_text.specs.declared.word_ops.Signature.TheVariants as shape
use Rattle.word_lower.specs.Places.{program_on}
use Rattle.word_lower.specs.Programs.{program, is_linear}
use Rattle.word_lower.specs.Shapes.{owners_of}
use Rattle.word_lower.proofs.Setting.{scratch_from, rooms_of, taken, Slots, row, number_at, Gives}
use Rattle.word_lower.proofs.Lists.{bits_of_number, value_of_list}
use Rattle.word_lower.proofs.Pieces.{slot, slot_at, Pieces, names, are_slots}
use Rattle.word_lower.proofs.Filled.{arg_kind, gives_kind, takes_kinds, form_of, slot_is}
use Rattle.word_lower.proofs.Operations.{op_gives}
use Rattle.word_lower.proofs.Commands.{steps_do}

-- the width of the first argument, or n where there is none
abbrev pub slots_width : ℕ → List Slot → ℕ
slots_width n [] = n
slots_width n (a ∷ args) = width n a.kind

abbrev pub steps_on : WordOp → Kind → Slot → List Slot → ℕ → List (StepOf Block)
steps_on p k t args free = placed_steps (rooms_of t args (scratch_from free (bits_inside p)))
    (program p k)

pub record DoesOp (p : WordOp) (n : ℕ) (k : Kind) (t : Slot) (args : List Slot) (free : ℕ) : Type 0
  where
    pub gives : (before : Spots)
        → slot_bits n (after_rounds n (all_rounds n (steps_on p k t args free)) before) t
        ≡ bits (op_value p (slots_width n args) (map (λ a. value (slot_bits n before a)) args))
        (width n t.kind)
    pub keeps : (before : Spots) (q : Spot) → is_state q.space ≡ false
        → ((v : ℕ) → v < width n t.kind → q ≡ slot_spot n t v → ⊥)
        → ((j : ℕ) → j < bits_inside p → q ≡ spot_in n ScratchBit (free + j) 0 → ⊥)
        → after_rounds n (all_rounds n (steps_on p k t args free)) before q ≡ before q

pub record Lowers (p : WordOp) (k : Kind) (t : Slot) (args : List Slot) (free : ℕ) : Type 0 where
  pub fit : steps_fit (rooms_of t args (scratch_from free (bits_inside p))) (program p k) ≡ true
  pub same : program_on (slot_at (owners_of t args free)) (program p k) ≡ steps_on p k t args free
  pub short : is_short (steps_on p k t args free) ≡ true
  pub states : keeps_states (placed_steps [] (program p k)) ≡ true
  pub commands : steps_do (program p k) ≡ true
  pub cheap : (n : ℕ) → 0 < n → steps_sum turn_cost n (placed_steps [] (program p k))
      ≤ op_ceiling p (slots_width n args)

-- a place with another kind, and places of these kinds
abbrev of_kind : Slot → Kind → Slot
of_kind s k = slot s.space s.which k

abbrev of_kinds : List Kind → (ℕ → Slot) → List Slot
of_kinds [] f = []
of_kinds (k ∷ ks) f = of_kind (f 0) k ∷ of_kinds ks (λ i. f (suc i))

are_of_kinds : (ss : List Slot) (ks : List Kind) → map (λ (s : Slot). s.kind) ss ≡ ks
    → ss ≡ of_kinds ks (slot_at ss)
are_of_kinds [] [] e = refl
are_of_kinds [] (k ∷ ks) e = cc
are_of_kinds (s ∷ ss) [] e = cc
are_of_kinds (s ∷ ss) (k ∷ ks) e =
    let f : map (λ (s : Slot). s.kind) ss ≡ ks = cc in
    ap (λ x. x ∷ ss) (slot_is s k (cc)) ∙ ap (λ xs. of_kind s k ∷ xs) (are_of_kinds ss ks f)

-- the arguments of a form
abbrev args_in : Signature → Kind → (ℕ → Slot) → List Slot
args_in sh c f = of_kinds (takes_kinds sh c) f

args_are : (sh : Signature) (c : Kind) (f : ℕ → Slot) → (let ss = args_in sh c f in
    taken sh (slot_at ss 0) (slot_at ss 1) (slot_at ss 2) ≡ ss)
args_are shape.Nothing c f = refl
args_are sh c f = refl

rows_are : (sh : Signature) (c : Kind) (f : ℕ → Slot) (n : ℕ) → 0 < n → (let ss = args_in sh c f in
    (width n (arg_kind sh c) ≤ width n (slot_at ss 0).kind)
    × (width n (arg_kind sh c) ≤ width n (slot_at ss 1).kind))
rows_are shape.OneOf Word f n some = (omega arith, omega arith)
rows_are shape.TwoOf Word f n some = (omega arith, omega arith)
rows_are shape.Choice Word f n some = (omega arith, omega arith)
rows_are sh c f n some = (omega arith, omega arith)

width_is : (sh : Signature) (c : Kind) (f : ℕ → Slot) (n : ℕ) → slots_width n (args_in sh c f)
    ≡ width n (arg_kind sh c)
width_is shape.Nothing c f n = refl
width_is sh c f n = refl

numbers_are : (n : ℕ) (before : Spots) (ss : List Slot)
    → map (λ s. value (slot_bits n before s)) ss
    ≡ map (λ (s : Slot). number_at n before s (width n s.kind)) ss
numbers_are n before [] = refl
numbers_are n before (s ∷ ss) =
    ap (λ x. x ∷ map (λ s. value (slot_bits n before s)) ss)
    (value_of_list (λ v. before (row n s v)) (width n s.kind))
    ∙ ap (λ xs. number_at n before s (width n s.kind) ∷ xs) (numbers_are n before ss)

numbers_taken : (sh : Signature) (c : Kind) (f : ℕ → Slot) (n : ℕ) (before : Spots)
    → (let ss = args_in sh c f in let l = width n (arg_kind sh c) in
    map (λ (s : Slot). number_at n before s (width n s.kind)) ss
    ≡ taken sh (number_at n before (slot_at ss 0) l) (number_at n before (slot_at ss 1) l)
    (number_at n before (slot_at ss 2) 1))
numbers_taken shape.Nothing c f n before = refl
numbers_taken sh c f n before = refl

-- what computes, in each form
tested : (p : WordOp) (k : Kind) (t : Slot) (args : List Slot) (free : ℕ)
    → steps_fit (rooms_of t args (scratch_from free (bits_inside p))) (program p k) ≡ true
    → program_on (slot_at (owners_of t args free)) (program p k) ≡ steps_on p k t args free
    → is_short (steps_on p k t args free) ≡ true
    → keeps_states (placed_steps [] (program p k)) ≡ true → steps_do (program p k) ≡ true
    → ((n : ℕ) → 0 < n → steps_sum turn_cost n (placed_steps [] (program p k))
    ≤ op_ceiling p (slots_width n args)) → Lowers p k t args free
tested p k t args free a b c d e f =
    record { fit = a; same = b; short = c; states = d; commands = e; cheap = f }

computes : (c : Kind) (p : WordOp) (t : Slot) (f : ℕ → Slot) (free : ℕ)
    → (let sh = (row_of p).signature in let k = gives_kind sh c in
    Lowers p k (of_kind t k) (args_in sh c f) free)
unfolding sense_three first_node
computes Word op.Not t f free = tested _ _ _ _ _ refl refl refl refl refl
    (λ n some. omega (arith, some))
computes Word p t f free = tested _ _ _ _ _ refl refl refl refl refl
    (λ n some. omega (arith, some))
computes Bit op.Not t f free = tested _ _ _ _ _ refl refl refl refl refl
    (λ n some. omega (arith, some))
computes Bit p t f free = tested _ _ _ _ _ refl refl refl refl refl
    (λ n some. omega (arith, some))

-- in each form the program does the operation
module _ (p : WordOp) (c : Kind) (t : Slot) (f : ℕ → Slot) (free : ℕ) (linear : is_linear p ≡ true)
  where
    abbrev sh : Signature
    sh = (row_of p).signature

    abbrev k : Kind
    k = gives_kind sh c

    abbrev target : Slot
    target = of_kind t k

    abbrev args : List Slot
    args = args_in sh c f

    abbrev m : Slots
    m = names target args free

    abbrev left : ℕ → Spots → Spots
    left n before = after_rounds n (all_rounds n (steps_on p k target args free)) before

    gives : (n : ℕ) → 0 < n → Pieces n target args (scratch_from free (bits_inside p))
        → (before : Spots) → Gives p n (width n k) (width n (arg_kind sh c)) (bits_inside p) m
        before
        (left n before)
    gives n some are before =
        let enough = rows_are sh c f n some in
        subst (λ ss. Gives p n (width n k) (width n (arg_kind sh c)) (bits_inside p) m before
        (after_rounds n (all_rounds n (placed_steps (rooms_of target ss (scratch_from free
        (bits_inside p))) (program p k))) before)) (args_are sh c f)
        (op_gives p c linear n m some (are_slots n (bits_inside p) target args free are
        (width n (arg_kind sh c)) some enough.0 enough.1) before)

    does : (n : ℕ) → 0 < n → Pieces n target args (scratch_from free (bits_inside p))
        → DoesOp p n k target args free
    does n some are = record {
      gives = λ before. sym (bits_of_number (λ v. left n before (row n target v)) (width n k))
          ∙ ap (λ y. bits y (width n k)) ((gives n some are before).gives
          ∙ ap (op_value p (width n (arg_kind sh c)))
          (sym (numbers_are n before args ∙ numbers_taken sh c f n before))
          ∙ ap (λ l. op_value p l (map (λ s. value (slot_bits n before s)) args))
          (sym (width_is sh c f n)));
      keeps = λ before q row out other. (gives n some are before).keeps q record {
        no_state = row;
        target = out;
        bit = λ h e. other 0 h (let f : free ≡ free + 0 = omega arith in
            e ∙ ap (λ z. spot_in n ScratchBit z 0) f);
      };
    }

-- where the arguments fill a form of a linear operation, its program passes the tests, and does it
pub op_lowers : (p : WordOp) (k : Kind) (t : Slot) (args : List Slot) (free : ℕ)
    → is_linear p ≡ true → filled (forms p) (map (λ (s : Slot). s.kind) args) ≡ Some k → t.kind ≡ k
    → Lowers p k t args free × ((n : ℕ) → 0 < n
    → Pieces n t args (scratch_from free (bits_inside p)) → DoesOp p n k t args free)
op_lowers p k t args free linear e h =
    let sh = (row_of p).signature in
    let form = form_of sh (map (λ (s : Slot). s.kind) args) k e in
    let g = gives_kind sh form.which in
    let Does = λ (j : Kind) (x : Slot) (ss : List Slot). Lowers p j x ss free × ((n : ℕ) → 0 < n
    → Pieces n x ss (scratch_from free (bits_inside p)) → DoesOp p n j x ss free) in
    subst (λ j. Does j t args) (sym form.gives)
    (subst (λ x. Does g x args) (sym (slot_is t g (h ∙ form.gives)))
    (subst (λ ss. Does g (of_kind t g) ss) (sym (are_of_kinds args (takes_kinds sh form.which)
    form.takes))
    (computes form.which p t (slot_at args) free, does p form.which t (slot_at args) free linear)))
