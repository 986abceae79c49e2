-- A loop program that is built on a statement's rows does it, with one target or two, and is exact.
use Rattle.word_flow.proofs.Common.{is_flow_statement, statement_total, option_to_list, second_kind}
use Rattle.word_flow.proofs.Common.{StatementMeets, IsFlowWritten, ComputeMeets, words_inside, true}
use Rattle.word_flow.proofs.Common.{rounds_cost, all_rounds, WIDTH_MAX, Statement, IsLowered, subst}
use Rattle.word_flow.proofs.Common.{places_of, steps_for, IsPlaced, Compute, rows_on, is_flow, List}
use Rattle.word_flow.proofs.Common.{Option, WordOp, StepOf, Places, Block, Slots, AreAt, Some, Slot}
use Rattle.word_flow.proofs.Common.{rounds_aps, statement_aps, Rows, ◌≡◌, ◌+◌, ◌<◌, ◌≤◌, sym, ◌∙◌, ap, ℕ}
use Rattle.word_flow.proofs.Exactly.{IsDone, flow_done, SecondPlace, second_place}

module _ (slots : Slots) (free_bit free_word : ℕ) (s : Statement) (target : List ℕ)
    (second : Option (List ℕ)) (p : WordOp) (args : List (List ℕ))
    (e : s ≡ Compute target second p args) (flow_one : is_flow_statement s ≡ true)
    (meets : StatementMeets slots s) (placed : IsPlaced slots free_bit free_word s) where
  word_meets : ComputeMeets slots target second p args
  word_meets = subst (StatementMeets slots) e meets

  word_placed : IsPlaced slots free_bit free_word (Compute target second p args)
  word_placed = subst (IsPlaced slots free_bit free_word) e placed

  pub word_flow : is_flow p ≡ true
  word_flow = subst (λ x. is_flow_statement x ≡ true) e flow_one

  found_args : Places slots args
  found_args = places_of slots args word_meets.kinds word_meets.have

  found_second : SecondPlace slots second
  found_second = second_place slots target args second (second_kind p) word_meets.others

  module _ (m : Rows) (named : List (List ℕ)) (are : named ≡ args)
      (on : (t : Slot) (u : Option Slot) (ss : List Slot) → slots target ≡ Some t
      → AreAt slots (option_to_list second) (option_to_list u) → AreAt slots named ss
      → m ≡ rows_on t u ss free_bit free_word) where
    on_args : (t : Slot) (u : Option Slot) (ss : List Slot) → slots target ≡ Some t
        → AreAt slots (option_to_list second) (option_to_list u) → AreAt slots args ss
        → m ≡ rows_on t u ss free_bit free_word
    on_args t u ss found near at = on t u ss found near
        (subst (λ names. AreAt slots names ss) (sym are) at)

    m_is : m ≡ rows_on word_meets.gives.slot found_second.place found_args.list free_bit free_word
    m_is = on_args word_meets.gives.slot found_second.place found_args.list word_meets.gives.found
        found_second.at found_args.at

    pub has_words : m.free_word + words_inside p ≤ 256
    has_words = subst (λ (m : Rows). m.free_word + words_inside p ≤ 256) (sym m_is)
        word_placed.words

    done : IsDone slots free_bit free_word target second p args (steps_for p m)
    done = subst (λ m. IsDone slots free_bit free_word target second p args (steps_for p m)) (sym m_is)
        (flow_done slots free_bit free_word target second p args word_flow word_meets word_placed
        word_meets.gives.slot word_meets.gives.found found_second.place found_second.at
        found_args.list found_args.at)

    module _ (steps : List (StepOf Block)) (same : steps ≡ steps_for p m) where
      pub statement_lowered : IsLowered slots free_bit free_word s steps
      statement_lowered = subst (λ x. IsLowered slots free_bit free_word x steps) (sym e)
          (subst (IsLowered slots free_bit free_word (Compute target second p args)) (sym same)
          done.lowered)

      pub statement_exact : (n : ℕ) → 0 < n → n ≤ WIDTH_MAX
          → rounds_cost (all_rounds n steps) ≡ statement_total s n
      statement_exact n some small = ap (λ ss. rounds_cost (all_rounds n ss)) same
          ∙ done.exact.total n some small ∙ ap (λ x. statement_total x n) (sym e)

      pub statement_aps_are : (n : ℕ) → 0 < n → n ≤ WIDTH_MAX
          → rounds_aps (all_rounds n steps) ≡ statement_aps s n
      statement_aps_are n some small = ap (λ ss. rounds_aps (all_rounds n ss)) same
          ∙ done.exact.aps n some small ∙ ap (λ x. statement_aps x n) (sym e)

      pub statement_written : IsFlowWritten slots free_bit free_word s steps
      statement_written = subst (λ x. IsFlowWritten slots free_bit free_word x steps) (sym e)
          (λ t u ss found near at. same ∙ ap (steps_for p) (on_args t u ss found near at))
