-- The states get their starts where they stand.
use Rattle.block_lower.proofs.Common.{◌≡◌, ℕ, ◌<◌, Bool, true, false, List, [], ◌∷◌, ◌++◌, map}
use Rattle.block_lower.proofs.Common.{length, bytes_eq, refl, sym, ap, ◌∙◌, arith, ◌⊎◌, inl, inr}
use Rattle.block_lower.proofs.Common.{or_cases, or_left, or_right, Lit, BodyCmd, State, Block}
use Rattle.block_lower.proofs.Common.{Visit, NameValue, changed, with_states, with_blanks, is_among}
use Rattle.block_lower.proofs.Common.{Place, StepOf, RoundOf, all_rounds, Spot, Spots, is_state}
use Rattle.block_lower.proofs.Common.{set_spot, spot_at, after_round, after_rounds, Slots}
use Rattle.block_lower.proofs.Common.{written_names, IsRowOf}
use Rattle.std.proofs.lemmas.List.{length-replicate}
use Rattle.mig_graph.specs.Graph.{values_from}
use Rattle.loop_ir.specs.Plain.{Block as Body}
use Rattle.loop_laws.proofs.Same.{set_same, set_other}
use Rattle.block_lower.specs.Form.{place_of, constant, start}
use Rattle.block_lower.proofs.Names.{name-true, name-same, cases_name}
use Rattle.block_lower.proofs.Rows.{position, place-row}
use Rattle.block_lower.proofs.Facts.{Given, IsState, IsWord, state-written, state-named}
use Rattle.block_lower.proofs.Facts.{word-target, read-is}
use Rattle.block_lower.proofs.Folds.{changed-same, changed-other, names_of, states-other}
use Rattle.block_lower.proofs.Folds.{blanks-other, blanks-at}
use Rattle.block_lower.proofs.Stand.{Away, in_rows, stand, stand-still, stand-once, stand-rest}
use Rattle.block_lower.proofs.Visits.{Stands, one_bit}

-- the body that writes one constant
abbrev pub lone : Bool → Place → List BodyCmd → Body
lone v p cmds = let l : Lit = record { node = 0; inverted = v } in
    record {
      reads = [];
      graph = record { inputs = 0; nodes = [] };
      outs = l ∷ [];
      writes = p ∷ [];
      found = cmds;
    }

-- its round
abbrev pub lone_round : Bool → Place → List BodyCmd → List ℕ → RoundOf Body
lone_round v p cmds regs = record { part = lone v p cmds; i = 0; regs = regs }

pub lone-does : (n : ℕ) (v : Bool) (p : Place) (cmds : List BodyCmd) (regs : List ℕ) (bits : Spots)
    → after_round n (lone_round v p cmds regs) bits ≡ set_spot bits (spot_at n 0 regs p) v
unfolding values_from
lone-does n true p cmds regs bits = refl
lone-does n false p cmds regs bits = refl

-- the states of the list are the block's
abbrev pub AreStates : Block → List State → Type 0
AreStates b ss = (x : List ℕ) → is_among (names_of ss) x ≡ true → IsState b x

pub head-state : (b : Block) (s : State) (ss : List State) → AreStates b (s ∷ ss)
    → IsState b s.name
head-state b s ss all = all s.name (or_left (bytes_eq s.name s.name) (is_among (names_of ss) s.name)
    (name-same s.name s.name refl))

pub tail-states : (b : Block) (s : State) (ss : List State) → AreStates b (s ∷ ss) → AreStates b ss
tail-states b s ss all x e = all x (or_right (bytes_eq s.name x) (is_among (names_of ss) x) e)

abbrev pub started : {b : Block} → Away b → Slots → ℕ → List State → Spots → Spots
started a slots n [] bits = bits
started a slots n (s ∷ ss) bits = started a slots n ss
    (set_spot bits (stand a slots n 0 s.name) s.start)

module _ {slots : Slots} {fb fw : ℕ} {b : Block} (g : Given slots fb fw b) (n : ℕ) where
  -- a state's row as the loop's program finds it
  pub state-at : (x : List ℕ) → IsState b x
      → spot_at n 0 [] (place_of b.down (slots x)) ≡ stand (in_rows b) slots n 0 x
  state-at x e = place-row n 0 b.down (slots x)
      ∙ stand-still g (in_rows b) n (position b.down n 0) 0 x e

  pub starts-do : (ss : List State) → AreStates b ss → (more : List (StepOf Body)) (bits : Spots)
      → after_rounds n (all_rounds n (map (start slots b.down) ss ++ more)) bits
      ≡ after_rounds n (all_rounds n more) (started (in_rows b) slots n ss bits)
  starts-do [] all more bits = refl
  starts-do (s ∷ ss) all more bits =
      ap (after_rounds n (all_rounds n (map (start slots b.down) ss ++ more)))
      (lone-does n s.start (place_of b.down (slots s.name))
      (constant s.start (place_of b.down (slots s.name))).found [] bits
      ∙ ap (λ q. set_spot bits q s.start) (state-at s.name (head-state b s ss all)))
      ∙ starts-do ss (tail-states b s ss all) more
      (set_spot bits (stand (in_rows b) slots n 0 s.name) s.start)

  module _ (a : Away b) (lt : 0 < n) where
    started-rest : (ss : List State) → AreStates b ss → (bits : Spots) (q : Spot)
        → is_state q.space ≡ false → (IsRowOf n slots (written_names (Visit b)) q → ⊥)
        → started a slots n ss bits q ≡ bits q
    started-rest [] all bits q r out = refl
    started-rest (s ∷ ss) all bits q r out =
        let spot = stand a slots n 0 s.name in
        started-rest ss (tail-states b s ss all) (set_spot bits spot s.start) q r out
        ∙ set_other bits spot s.start q (stand-rest g a n 0 s.name lt
        (state-written b s.name (head-state b s ss all)) q r out)

    -- names and places get the same starts
    states-match : (ss : List State) → AreStates b ss → (names : List ℕ → NameValue) (bits : Spots)
        (x : List ℕ) → IsState b x
        → (is_among (names_of ss) x ≡ true) ⊎ (names x ≡ one_bit (bits (stand a slots n 0 x)))
        → with_states names ss x ≡ one_bit (started a slots n ss bits (stand a slots n 0 x))
    states-match [] all names bits x e (inl m) = absurd (cc)
    states-match [] all names bits x e (inr m) = m
    states-match (s ∷ ss) all names bits x e m =
        let h = head-state b s ss all in
        let spot = stand a slots n 0 s.name in
        states-match ss (tail-states b s ss all) (changed names s.name (one_bit s.start))
        (set_spot bits spot s.start) x e (elim (cases_name x s.name) [
          | inl same ↦ inr (changed-same names s.name (one_bit s.start) x same
              ∙ ap one_bit (sym (set_same bits spot s.start (stand a slots n 0 x)
              (ap (stand a slots n 0) same))))
          | inr ne ↦ elim m [
            | inl t ↦ elim (or_cases (bytes_eq s.name x) (is_among (names_of ss) x) t) [
              | inl u ↦ absurd (ne (sym (name-true s.name x u)))
              | inr u ↦ inl u
            ]
            | inr t ↦ inr (changed-other names s.name (one_bit s.start) x ne ∙ t
                ∙ ap one_bit (sym (set_other bits spot s.start (stand a slots n 0 x) (λ q.
                ne (stand-once g a a n 0 x s.name lt (state-named b x e) (state-named b s.name h)
                q).0))))
          ]
        ])

    pub begins : (old : List ℕ → NameValue) (before : Spots) → Stands slots a n old before 0
        (with_states (with_blanks n old b.assigns) b.states) (started a slots n b.states before)
    begins old before =
        let blanked = with_blanks n old b.assigns in
        let first = λ (x : List ℕ) (e : IsWord b x).
        let w = word-target b x e in
        states-other blanked b.states x w.1 ∙ blanks-at n old b.assigns x (inl w.0) in
        record {
          states = λ x e. states-match b.states (λ y h. h) blanked before x e (inl e);
          kinds = λ x e. ap (λ (h : NameValue). h.kind) (first x e);
          long = λ x e. ap (λ (h : NameValue). length h.bits) (first x e)
              ∙ length-replicate n false;
          words = λ x e j l. absurd (omega arith);
          reads = λ x e. let r = read-is g x e in states-other blanked b.states x r.0
              ∙ blanks-other n old b.assigns x r.1;
          rest = λ q r out. started-rest b.states (λ y h. h) before q r out;
        }
