-- The commands of the rounds do to a column what the rounds do to the named rows.
use Rattle.uprog_gen.proofs.Common.{◌≡◌, ℕ, zero, suc, ◌+◌, ◌-◌, ◌*◌, ◌<◌, List, [], ◌∷◌, ◌++◌, map}
use Rattle.uprog_gen.proofs.Common.{length, refl, sym, ap, ◌∙◌, subst, ⊎_elim, arith, Option, Some}
use Rattle.uprog_gen.proofs.Common.{None, ◌⊎◌, inl, inr, ◌≤◌, Bool, true, false, cond, ◌&&◌}
use Rattle.uprog_gen.proofs.Common.{list_all, cases_eq, cases_lt, and_parts, map-append, D, Column}
use Rattle.uprog_gen.proofs.Common.{value, Shape, Bound, bound, position, BodyRef, BodyCmd, Rows}
use Rattle.uprog_gen.proofs.Common.{Place, Space, ScratchWord, Cells, Block, RoundOf, sub_value}
use Rattle.uprog_gen.proofs.Common.{Spot, Spots, nth_place, spot_at, spot_in, nth_spot, IsOwn}
use Rattle.uprog_gen.proofs.Common.{round_env, after_round, after_rounds, is_state, IsRound}
use Rattle.uprog_gen.proofs.Common.{IsSmall, lit_at, is_ref, is_first_ref, is_second_ref}
use Rattle.uprog_gen.proofs.Common.{is_legal_cmd, are_legal, is_held, is_read, reads_rows, StandsIn}
use Rattle.uprog_gen.proofs.Common.{row_count, enters, states_in, finds, left_by, chained, Held}
use Rattle.dram_model.specs.declared.address.Addr.TheVariants.{D as AddrD}
use Rattle.dram_model.specs.declared.address.Command.TheVariants.{Ap as RowAp}
use Rattle.dram_model.specs.Column.{run}
use Rattle.dram_model.proofs.ColumnLaws.{run-append}
use Rattle.uprog_code.specs.Bound.{address, bound_command}
use Rattle.row_alloc.specs.Rows.{place, bound as placed, run_body, out_at, AreApart}
use Rattle.loop_laws.proofs.Same.{write_other, write_at}
use Rattle.row_alloc.specs.Held.{Enters}
use Rattle.row_alloc.specs.declared.body.BodyRef.TheVariants as ref
use Rattle.row_alloc.specs.declared.body.BodyCmd.TheVariants as cmd
use Rattle.uprog_gen.specs.Where.{spot_row, IsSpot, Agree}
use Rattle.uprog_gen.specs.Code.{row_space}
use Rattle.uprog_gen.proofs.Rows.Issued.{round_ref, round_command, rounds_commands}
use Rattle.uprog_gen.proofs.Rows.Rounds.{IsLaid, round_rows}
use Rattle.uprog_gen.proofs.Rows.Named.{few, IsNamed, named_ref}
use Rattle.uprog_gen.proofs.Rows.Alive.{state_spot, AreStanding}
use Rattle.uprog_gen.proofs.Rows.States.{are_among, held_is, enter_cells, leave_cells}
use Rattle.uprog_gen.proofs.Bodies.Outs.{outs_of, own_outs, commands_do}

-- one of the first places has a number, or none has
find : (f : ℕ → ℕ) (q count : ℕ) → ((j : ℕ) × (j < count) × (q ≡ f j))
    ⊎ ((j : ℕ) → j < count → q ≡ f j → ⊥)
find f q zero = inr (λ j lt. absurd (omega arith))
find f q (suc count) =
    ⊎_elim
    (λ (h : (j : ℕ) × (j < count) × (q ≡ f j)). inl (h.0, omega (arith, h.1), h.2))
    (λ (none : (j : ℕ) → j < count → q ≡ f j → ⊥). ⊎_elim
    (λ (e : q ≡ f count). inl (count, omega arith, e))
    (λ (ne : q ≡ f count → ⊥). inr (λ j lt e.
    ⊎_elim (λ (s : j ≡ count). ne (e ∙ ap f s)) (λ (d : j ≡ count → ⊥). none j (omega arith) e)
    (cases_eq j count)))
    (cases_eq q (f count)))
    (find f q count)

-- a state is no row
no_row : (n i : ℕ) (regs : List ℕ) (q : Place) → is_state q.space ≡ true → (head : Shape) (p : Spot)
    → IsSpot head n p → p ≡ spot_at n i regs q → ⊥
no_row n i regs q e head p spot same = by q.space e (subst (IsSpot head n) same spot)
  where
    by : (x : Space) → is_state x ≡ true → IsSpot head n
        (spot_in n x q.which (sub_value n i regs q.sub)) → ⊥
    by Cells e h = h
    by x e h = absurd (cc)

module _ (rows : ℕ) (head : Shape) (n : ℕ) (b : Bound) where
  -- a command of the trace, at its addresses, is the body's command on its rows
  space_is : (s : Space) (w v : ℕ) → is_state s ≡ false → address rows head n b (record {
    space = row_space s;
    which = w;
    index = position (row_space s) v;
  }) ≡ AddrD (spot_row head n b (spot_in n s w v))
  space_is ScratchWord w v h = let e : b.scratch + head.bits + w * n + v
      ≡ b.scratch + head.bits + (w * n + v) = omega arith in ap AddrD e
  space_is Cells w v h = absurd (cc)
  space_is s w v h = refl

  input_row : (r : RoundOf Block) (k : ℕ) → is_state (nth_place r.part.reads k).space ≡ false
      → (round_rows rows head n b r).input k
      ≡ spot_row head n b (nth_spot n r.i r.regs r.part.reads k)
  input_row r k e = ap (λ c. cond c (rows + 32)
      (spot_row head n b (nth_spot n r.i r.regs r.part.reads k))) e

  ref_place : (r : RoundOf Block) (x : BodyRef) → IsNamed r.part x
      → address rows head n b (round_ref n r x) ≡ place (round_rows rows head n b r) x
  ref_place r (ref.In k) h = let p = nth_place r.part.reads k in
      space_is p.space p.which (sub_value n r.i r.regs p.sub) h.1 ∙ ap AddrD (sym (input_row r k h.1))
  ref_place r (ref.Out k) h = let p = nth_place r.part.writes k in
      space_is p.space p.which (sub_value n r.i r.regs p.sub) h.1
  ref_place r x h = refl

  module _ (r : RoundOf Block) (small : IsSmall r.part) where
    abbrev inputs : ℕ
    inputs = r.part.graph.inputs

    abbrev outputs : ℕ
    outputs = length (outs_of r.part)

    abbrev enter : List Held
    enter = enters 0 r.part.reads

    named_one : (x : BodyRef) → is_ref inputs outputs x ≡ true → is_read enter x ≡ true
        → address rows head n b (round_ref n r x) ≡ place (round_rows rows head n b r) x
    named_one x h u = ref_place r x (named_ref r.part small x h u)

    command_is : (c : BodyCmd) → is_legal_cmd inputs outputs c ≡ true → reads_rows enter c ≡ true
        → bound_command rows head n b (round_command n r c)
        ≡ placed (round_rows rows head n b r) c
    command_is (cmd.Aap x y) h u =
        let p = and_parts (is_ref inputs outputs x && is_first_ref x)
        (is_ref inputs outputs y && is_second_ref y) h in
        let v = and_parts (is_read enter x) (is_read enter y) u in
        rw (
          named_one x (and_parts (is_ref inputs outputs x) (is_first_ref x) p.0).0 v.0,
          named_one y (and_parts (is_ref inputs outputs y) (is_second_ref y) p.1).0 v.1,
        ) refl
    command_is (cmd.Ap x) h u = ap RowAp
        (named_one x (and_parts (is_ref inputs outputs x) (is_first_ref x) h).0 u)

    commands_are : (cs : List BodyCmd) → are_legal inputs outputs cs ≡ true
        → list_all (reads_rows enter) cs ≡ true → bound rows head n b (map (round_command n r) cs)
        ≡ map (placed (round_rows rows head n b r)) cs
    commands_are [] h u = refl
    commands_are (c ∷ cs) h u =
        let p = and_parts (is_legal_cmd inputs outputs c) (are_legal inputs outputs cs) h in
        let v = and_parts (reads_rows enter c) (list_all (reads_rows enter) cs) u in
        rw (command_is c p.0 v.0, commands_are cs p.1 v.1) refl

  pub round_first : (r : RoundOf Block) (rs : List (RoundOf Block)) (s : Column) → IsSmall r.part
      → run (bound rows head n b (rounds_commands n (r ∷ rs))) s
      ≡ run (bound rows head n b (rounds_commands n rs))
      (run_body (round_rows rows head n b r) r.part.found s)
  round_first r rs s small =
      ap (λ l. run l s) (map-append (bound_command rows head n b)
      (map (round_command n r) r.part.found) (rounds_commands n rs)
      ∙ ap (λ l. l ++ bound rows head n b (rounds_commands n rs))
      (let d = commands_do r.part small in commands_are r small r.part.found d.legal d.unread))
      ∙ run-append (map (placed (round_rows rows head n b r)) r.part.found)
      (bound rows head n b (rounds_commands n rs)) s

module _ (rows : ℕ) (head : Shape) (n : ℕ) (b : Bound) (laid : IsLaid rows head n b) where
  -- the row is one of the operation's own rows, or a spill row
  abbrev pub IsMine : ℕ → Type 0
  IsMine q = ((p : Spot) × IsSpot head n p × IsOwn p.space × (q ≡ spot_row head n b p))
      ⊎ ((i : ℕ) × (i < 32) × (q ≡ rows - 32 + i))

  -- the column's rows hold the bits of the operation's named rows, and its cells those of the
  -- states that are alive
  pub record AgreeHeld (alive : List ℕ) (bits : Spots) (s : Column) : Type 0 where
    pub named : Agree head n b bits s
    pub cells : AreStanding bits s alive

  own_row : (r : RoundOf Block) → IsRound (IsSpot head n) n r → IsSmall r.part
      → (j : ℕ) → j < length (outs_of r.part)
      → IsSpot head n (nth_spot n r.i r.regs r.part.writes j)
  own_row r is small j lj = let l = few r.part small j lj in
      is.writes j l.1 (small.states.first.row j l.0)

  -- the rows of a round are apart just where the body's outputs say so
  same_row : (r : RoundOf Block) → IsRound (IsSpot head n) n r → IsSmall r.part
      → (j k : ℕ) → j < length (outs_of r.part) → k < r.part.graph.inputs → (c : Bool)
      → is_state (nth_place r.part.reads k).space ≡ c
      → (round_rows rows head n b r).output j
      ≡ cond c (rows + 32) (spot_row head n b (nth_spot n r.i r.regs r.part.reads k))
      → (out_at (outs_of r.part) j).same ≡ Some k
  same_row r is small j k lj lk true st e =
      absurd (omega (arith, e, laid.low _ (own_row r is small j lj)))
  same_row r is small j k lj lk false st e = decide (out_at (outs_of r.part) j).same refl
    where
      lw : j < length r.part.writes
      lw = (few r.part small j lj).1

      lr : k < length r.part.reads
      lr = omega (arith, lk, small.well.reads)

      spots : nth_spot n r.i r.regs r.part.writes j ≡ nth_spot n r.i r.regs r.part.reads k
      spots = laid.own _ _ (own_row r is small j lj) (is.reads k lr st) (is.own j lw) e

      decide : (o : Option ℕ) → (out_at (outs_of r.part) j).same ≡ o
          → (out_at (outs_of r.part) j).same ≡ Some k
      decide None h =
          absurd ((own_outs r.part small).none j lj h k lk (sym (is.same j k lw lr spots)))
      decide (Some l) h =
          let f = (own_outs r.part small).found j l lj h in
          let ll : l < length r.part.reads = omega (arith, f.0, small.well.reads) in
          let e : l ≡ k = is.once j l k lw ll lr (ap (spot_at n r.i r.regs) (sym f.1)) spots in
          h ∙ ap Some e

  away : (r : RoundOf Block) (i k : ℕ) → i < 32 → IsRound (IsSpot head n) n r
      → k < length r.part.reads → (c : Bool)
      → is_state (nth_place r.part.reads k).space ≡ c → rows - 32 + i
      ≡ cond c (rows + 32) (spot_row head n b (nth_spot n r.i r.regs r.part.reads k)) → ⊥
  away r i k li is lk true st e = omega (arith, e)
  away r i k li is lk false st e = omega (arith, e, laid.low _ (is.reads k lk st))

  are_apart : (r : RoundOf Block) → IsRound (IsSpot head n) n r → IsSmall r.part
      → AreApart (round_rows rows head n b r) r.part.graph.inputs (outs_of r.part)
  are_apart r is small = record {
    spills = λ i k li lk e. omega (arith, e);
    spill_input = λ i k li lk e. away r i k li is (omega (arith, lk, small.well.reads))
        (is_state (nth_place r.part.reads k).space) refl e;
    spill_output = λ i j li lj e. absurd (omega (
      arith,
      e,
      laid.low _ (own_row r is small j lj),
    ));
    outputs = λ i j li lj e.
        let wi = (few r.part small i li).1 in
        let wj = (few r.part small j lj).1 in
        is.apart i j wi wj (laid.own _ _ (own_row r is small i li) (own_row r is small j lj)
        (is.own i wi) e);
    same = λ j k lj lk. (
      λ e. same_row r is small j k lj lk
          (is_state (nth_place r.part.reads k).space) refl e,
      λ h. let f = ((own_outs r.part small).found j k lj h).1 in
          let st = ap (λ (p : Place). is_state p.space) f
          ∙ small.states.first.row j (few r.part small j lj).0 in
          ap (λ p. spot_row head n b (spot_at n r.i r.regs p)) (sym f)
          ∙ sym (input_row rows head n b r k st),
    );
  }

  -- what a body reads, before it
  entering : (r : RoundOf Block) (alive : List ℕ) (bits : Spots) (s : Column)
      → IsRound (IsSpot head n) n r → IsSmall r.part
      → finds alive r.part ≡ true → AgreeHeld alive bits s → Enters r.part.graph
      (λ k. bits (nth_spot n r.i r.regs r.part.reads k)) (enters 0 r.part.reads)
      (round_rows rows head n b r) s
  entering r alive bits s is small live agree = record {
    read = λ k l h.
        let z : 0 + k ≡ k = omega arith in
        let lk : k < length r.part.reads = omega (arith, l, small.well.reads) in
        let st = held_is r.part.reads 0 k lk
        ∙ ap (is_held (enters 0 r.part.reads)) z ∙ h in
        ap (λ q. s (D q)) (input_row rows head n b r k st) ∙ agree.named _ (is.reads k lk st);
    held = enter_cells r.part.graph (λ k. bits (nth_spot n r.i r.regs r.part.reads k)) s
        n r.i r.regs bits r.part.reads 0
        (λ j l e. let m : j < r.part.graph.inputs = small.states.read j l e in
        omega (arith, m))
        (λ j l. let z : 0 + j ≡ j = omega arith in
        ap (λ k. bits (nth_spot n r.i r.regs r.part.reads k)) z)
        (are_among (λ w. StandsIn s w (bits (state_spot w))) alive
        (states_in r.part.reads) live agree.cells);
  }

  written : (r : RoundOf Block) (bits : Spots) → IsRound (IsSpot head n) n r
      → IsSmall r.part → (j : ℕ) → j < length r.part.outs
      → after_round n r bits (nth_spot n r.i r.regs r.part.writes j)
      ≡ value r.part.graph (λ k. bits (nth_spot n r.i r.regs r.part.reads k))
      (lit_at r.part.outs j)
  written r bits is small j lo =
      let k = r.part in
      write_at n r.i r.regs (round_env n r bits) k.writes k.outs bits
      small.well.writes (λ i m li lm e. is.apart i m (omega (arith, li, small.well.writes))
      (omega (arith, lm, small.well.writes)) e) j lo

  -- one round
  round_rows_agree : (r : RoundOf Block) (alive : List ℕ) (bits : Spots) (s : Column)
      → IsRound (IsSpot head n) n r → IsSmall r.part
      → finds alive r.part ≡ true → AgreeHeld alive bits s
      → Agree head n b (after_round n r bits)
      (run_body (round_rows rows head n b r) r.part.found s)
  round_rows_agree r alive bits s is small live agree p spot =
      ⊎_elim
      (λ (h : (j : ℕ) × (j < length (outs_of r.part)) × (spot_row head n b p ≡ w.output j)).
      let j = h.0 in
      let lw : j < length k.writes = (few r.part small j h.1).1 in
      let lo : j < length k.outs = omega (arith, lw, small.states.written) in
      let same : nth_spot n r.i r.regs k.writes j ≡ p =
      laid.own _ p (own_row r is small j h.1) spot (is.own j lw) (sym h.2) in
      ap (λ q. s' (D q)) h.2
      ∙ (commands_do k small).values w s at (are_apart r is small)
      (entering r alive bits s is small live agree) j h.1
      ∙ ap (value k.graph at) ((own_outs k small).lits j h.1)
      ∙ sym (written r bits is small j lo)
      ∙ ap (after_round n r bits) same)
      (λ (none : (j : ℕ) → j < length (outs_of r.part) → spot_row head n b p ≡ w.output j → ⊥).
      (commands_do k small).others w s (are_apart r is small) (spot_row head n b p)
      (λ j lt e. none j lt (sym e))
      (λ i li e. absurd (omega (arith, e, laid.low p spot)))
      ∙ agree.named p spot
      ∙ sym (write_other n r.i r.regs (round_env n r bits) k.writes k.outs bits p
      (λ j lt e. other none j (omega (arith, lt, small.states.written)) e)))
      (find w.output (spot_row head n b p) (length (outs_of r.part)))
    where
      k : Block
      k = r.part

      at : ℕ → Bool
      at = λ i. bits (nth_spot n r.i r.regs k.reads i)

      w : Rows
      w = round_rows rows head n b r

      s' : Column
      s' = run_body w r.part.found s

      other : ((j : ℕ) → j < length (outs_of r.part) → spot_row head n b p ≡ w.output j → ⊥) → (j : ℕ)
          → j < length k.writes → p ≡ nth_spot n r.i r.regs k.writes j → ⊥
      other none j lt e = ⊎_elim
          (λ (l : j < row_count k.writes). none j (omega (arith, l, (own_outs r.part small).size))
          (ap (spot_row head n b) e))
          (λ (l : row_count k.writes ≤ j). no_row n r.i r.regs (nth_place k.writes j)
          (small.states.first.state j l lt) head p spot e)
          (cases_lt j (row_count k.writes))

  pub round_agrees : (r : RoundOf Block) (alive : List ℕ) (bits : Spots) (s : Column)
      → IsRound (IsSpot head n) n r → IsSmall r.part
      → finds alive r.part ≡ true → AgreeHeld alive bits s
      → AgreeHeld (states_in r.part.writes) (after_round n r bits)
      (run_body (round_rows rows head n b r) r.part.found s)
  round_agrees r alive bits s is small live agree = record {
    named = round_rows_agree r alive bits s is small live agree;
    cells =
        let f = λ (k : ℕ). bits (nth_spot n r.i r.regs r.part.reads k) in
        let w = round_rows rows head n b r in
        leave_cells r.part.graph f (run_body w r.part.found s) n r.i r.regs
        (after_round n r bits) r.part.writes r.part.outs
        small.states.written (λ j l. written r bits is small j l)
        ((commands_do r.part small).leaves w s f (are_apart r is small)
        (entering r alive bits s is small live agree));
  }

  -- and no row but the operation's own and the spill rows
  round_keeps : (r : RoundOf Block) (s : Column) → IsRound (IsSpot head n) n r
      → IsSmall r.part → (q : ℕ) → (IsMine q → ⊥)
      → run_body (round_rows rows head n b r) r.part.found s (D q) ≡ s (D q)
  round_keeps r s is small q other =
      (commands_do r.part small).others (round_rows rows head n b r) s (are_apart r is small) q
      (λ j lt e. other (inl (
        nth_spot n r.i r.regs r.part.writes j,
        own_row r is small j lt,
        is.own j (few r.part small j lt).1,
        sym e,
      )))
      (λ i li e. other (inr (i, li, sym e)))

  -- all rounds
  abbrev pub AreRounds : List (RoundOf Block) → Type 0
  AreRounds [] = Unit {0}
  AreRounds (r ∷ rs) = IsRound (IsSpot head n) n r × IsSmall r.part × AreRounds rs

  -- all rounds: from the states that are alive before them
  pub rounds_agree : (rs : List (RoundOf Block)) (alive : List ℕ) (bits : Spots) (s : Column)
      → AreRounds rs → chained alive rs ≡ true → AgreeHeld alive bits s
      → Agree head n b (after_rounds n rs bits)
      (run (bound rows head n b (rounds_commands n rs)) s)
  rounds_agree [] alive bits s are live agree = agree.named
  rounds_agree (r ∷ rs) alive bits s are live agree =
      let l = and_parts (finds alive r.part)
      (chained (left_by r.part) rs) live in
      subst (Agree head n b (after_rounds n rs
      (after_round n r bits))) (sym (round_first rows head n b r rs s are.1))
      (rounds_agree rs (states_in r.part.writes) (after_round n r bits)
      (run_body (round_rows rows head n b r) r.part.found s) are.2 l.1
      (round_agrees r alive bits s are.0 are.1 l.0 agree))

  pub rounds_keep : (rs : List (RoundOf Block)) (s : Column) → AreRounds rs → (q : ℕ)
      → (IsMine q → ⊥) → run (bound rows head n b (rounds_commands n rs)) s (D q) ≡ s (D q)
  rounds_keep [] s are q other = refl
  rounds_keep (r ∷ rs) s are q other =
      ap (λ (t : Column). t (D q)) (round_first rows head n b r rs s are.1)
      ∙ rounds_keep rs (run_body (round_rows rows head n b r) r.part.found s) are.2 q other
      ∙ round_keeps r s are.0 are.1 q other
