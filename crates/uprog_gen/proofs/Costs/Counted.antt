-- The commands of an operation: of each word operation its own, of each block its bodies'.
use Rattle.uprog_gen.proofs.Common.{◌≡◌, ℕ, ◌+◌, ◌<◌, ◌≤◌, Bool, true, false, List, [], ◌∷◌, ◌++◌}
use Rattle.uprog_gen.proofs.Common.{Option, Some, refl, sym, ap, ◌∙◌, WIDTH_MAX, Kind, WordOp}
use Rattle.uprog_gen.proofs.Common.{Statement, Compute, Visit, Operation, names_width, Param}
use Rattle.uprog_gen.proofs.Common.{Context, next_context, OperationMeets, Block, StepOf}
use Rattle.uprog_gen.proofs.Common.{all_rounds, turn_aaps, turn_aps, Slots, IsPlaced, ComputeMeets}
use Rattle.uprog_gen.proofs.Common.{HaveKinds, args_width, is_flow, rounds_sum}
use Rattle.word_lower.specs.Programs.{is_linear}
use Rattle.word_lower.proofs.Statements.{written_in_rooms}
use Rattle.word_flow.proofs.Exactly.{flow_exactly}
use Rattle.loop_laws.proofs.Summed.{sum_append}
use Rattle.op_text.specs.declared.word_ops.WordOp.TheVariants as op
use Rattle.uprog_gen.specs.Costs.{op_aaps, op_aps}
use Rattle.uprog_gen.specs.Does.{joined}
use Rattle.uprog_gen.specs.Layout.{IsLayout}
use Rattle.uprog_gen.specs.Programs.{IsAsWritten, AreWritten}
use Rattle.uprog_gen.specs.Totals.{parts_total}
use Rattle.uprog_gen.proofs.Rows.Top.{all_rounds-append}
use Rattle.uprog_gen.proofs.Naming.Stage.{Stage, next_stage}
use Rattle.uprog_gen.proofs.Meaning.Meant.{args_same}
use Rattle.uprog_gen.proofs.Naming.Ready.{statement_meets, is_placed}
use Rattle.uprog_gen.proofs.Costs.Exact.{IsExactly, is_exactly, flow_is_exactly, op_width}
use Rattle.uprog_gen.proofs.Costs.Exact.{first_width, width_is}

have_first : (slots : Slots) (n : ℕ) (args : List (List ℕ)) (ks : List Kind)
    → HaveKinds slots args ks → args_width slots n args ≡ first_width n ks
have_first slots n [] [] h = refl
have_first slots n (a ∷ args) (k ∷ ks) h = rw (h.0.found, h.0.kind) refl
have_first slots n args ks h = absurd h

-- an operation that is no flow takes a pass or two
one_of : (p : WordOp) → is_flow p ≡ false → is_linear p ≡ true
one_of op.Not other = refl
one_of p other = cc

-- a statement's written program takes the operation's commands
exactly : (slots : Slots) (free_bit free_word : ℕ) (target : List ℕ) (second : Option (List ℕ))
    (p : WordOp) (args : List (List ℕ)) (meets : ComputeMeets slots target second p args)
    → IsPlaced slots free_bit free_word (Compute target second p args)
    → (steps : List (StepOf Block))
    → IsAsWritten slots free_bit free_word (Compute target second p args) steps
    → IsExactly p (λ n. op_width p meets.gives.slot.kind n) steps
exactly slots free_bit free_word target second p args meets placed steps w = by (is_flow p) refl
  where
    by : (b : Bool) → is_flow p ≡ b → IsExactly p (λ n. op_width p meets.gives.slot.kind n) steps
    by true e = flow_is_exactly p meets.gives.slot.kind steps e
        (flow_exactly slots free_bit free_word target second p args steps e meets placed (w.flow e))
    by false e = is_exactly p meets.gives.slot.kind steps e
        (written_in_rooms slots free_bit free_word target second p args (one_of p e) meets
        placed steps (w.linear e))

-- the rounds of one statement and of those after it
sum_joined : (f : Block → ℕ) (n : ℕ) (q : List (StepOf Block)) (ps : List (List (StepOf Block)))
    → rounds_sum f (all_rounds n (q ++ joined ps))
    ≡ rounds_sum f (all_rounds n q) + rounds_sum f (all_rounds n (joined ps))
sum_joined f n q ps = ap (rounds_sum f) (all_rounds-append n q (joined ps))
    ∙ sum_append f (all_rounds n q) (all_rounds n (joined ps))

pub record AreExactly (known : List Param) (body : List Statement)
    (ps : List (List (StepOf Block))) : Type 0 where
  pub aaps : (n : ℕ) → 0 < n → n ≤ WIDTH_MAX → rounds_sum turn_aaps (all_rounds n (joined ps))
      ≡ parts_total op_aaps turn_aaps known n body ps
  pub aps : (n : ℕ) → 0 < n → n ≤ WIDTH_MAX → rounds_sum turn_aps (all_rounds n (joined ps))
      ≡ parts_total op_aps turn_aps known n body ps

module _ (o : Operation) (meets : OperationMeets o) (slots : Slots) (free_bit free_word : ℕ)
    (is : IsLayout o slots free_bit free_word) where
  -- a word statement's program takes the operation's commands
  pub one_exactly : (c : Context) (target : List ℕ) (second : Option (List ℕ)) (p : WordOp)
      (args : List (List ℕ)) (rest : List Statement)
      → Stage o c (Compute target second p args ∷ rest) → (q : List (StepOf Block))
      → IsAsWritten slots free_bit free_word (Compute target second p args) q
      → IsExactly p (λ n. names_width c.known n args) q
  one_exactly c target second p args rest st q w =
      let s = Compute target second p args in
      let m = statement_meets o meets slots free_bit free_word is c s rest st in
      let placed = is_placed o meets slots free_bit free_word is c s rest st in
      let one = exactly slots free_bit free_word target second p args m placed q w in
      let wide = λ (n : ℕ). sym (args_same o meets slots free_bit free_word is c s rest st n args
      st.body.0.known) ∙ have_first slots n args m.kinds m.have
      ∙ width_is p m.kinds m.gives.slot.kind n (m.form ∙ ap Some (sym m.gives.kind)) in
      record {
        aaps = λ n some small. one.aaps n some small ∙ ap (op_aaps p) (sym (wide n));
        aps = λ n some small. one.aps n some small ∙ ap (op_aps p) (sym (wide n));
      }

  pub all_exactly : (rest : List Statement) (c : Context) → Stage o c rest
      → (ps : List (List (StepOf Block))) → AreWritten slots free_bit free_word rest ps
      → AreExactly c.known rest ps
  all_exactly [] c st [] w = record {
    aaps = λ n some small. refl;
    aps = λ n some small. refl;
  }
  all_exactly (Visit b ∷ rest) c st (q ∷ ps) w =
      let s = Visit b in
      let more = all_exactly rest (next_context c s) (next_stage o c s rest st) ps w.1 in
      record {
        aaps = λ n some small. rw (sum_joined turn_aaps n q ps, more.aaps n some small) refl;
        aps = λ n some small. rw (sum_joined turn_aps n q ps, more.aps n some small) refl;
      }
  all_exactly (Compute target second p args ∷ rest) c st (q ∷ ps) w =
      let s = Compute target second p args in
      let one = one_exactly c target second p args rest st q w.0 in
      let more = all_exactly rest (next_context c s) (next_stage o c s rest st) ps w.1 in
      record {
        aaps = λ n some small.
            rw (sum_joined turn_aaps n q ps, one.aaps n some small, more.aaps n some small) refl;
        aps = λ n some small.
            rw (sum_joined turn_aps n q ps, one.aps n some small, more.aps n some small) refl;
      }
  all_exactly rest c st ps w = absurd w
