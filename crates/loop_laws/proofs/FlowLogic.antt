-- What a run does, by a predicate on what stands before it: each event is fine, and what holds after.
use Rattle.loop_laws.proofs.Common.{◌≡◌, ℕ, zero, suc, Bool, true, false, cond, List, [], ◌∷◌, ◌++◌}
use Rattle.loop_laws.proofs.Common.{refl, sym, ap, ◌∙◌, subst, arith, slice_set, slice_index, ◌==◌}
use Rattle.loop_laws.proofs.Common.{FlowOf, TurnsOf, EventOf, RunOf, moved, cycle, run, acts, End}
use Rattle.loop_laws.proofs.Common.{Do, Put, If, Loop, Last, Turn, Done, Moved, Counted}
use Rattle.std.proofs.lemmas.Bool.{ne_eqb}

module _ (A S : Type 0) (n : ℕ) (Fine : EventOf A → S → Type 0) (does : A → List ℕ → S → S) where
  -- what is to hold of registers and state
  abbrev pub Claim : Type 1
  Claim = List ℕ → S → Type 0

  abbrev pub way : Bool → Type 0 → Type 0 → Type 0
  way true a b = a
  way false a b = b

  -- so many rounds of a loop, by turns
  abbrev pub turning : ℕ → List (Claim → Claim) → List (Claim → Claim) → ℕ → Claim → Claim
  turning r all ws zero Q g s = Q g s
  turning r all [] (suc m) Q g s = Q g s
  turning r all (w ∷ []) (suc m) Q g s = w (turning r all all m Q) (slice_set g r m) s
  turning r all (w ∷ v ∷ ws) (suc m) Q g s = w (turning r all (v ∷ ws) m Q) (slice_set g r m) s

  abbrev mutual
    -- what must hold before a flow, so that this holds after it
    pub wp : FlowOf A → Claim → Claim
    wp End Q g s = Q g s
    wp (Do b k) Q g s = Fine (Done b g) s × wp k Q g (does b g s)
    wp (Put m k) Q g s = Fine (Moved m g) s × wp k Q (moved n m g) s
    wp (If r x y k) Q g s = way (slice_index g r == 0) (wp y (wp k Q) g s) (wp x (wp k Q) g s)
    wp (Loop r ts k) Q g s = Fine (Counted r g) s
        × turning r (wps ts) (wps ts) (slice_index g r) (wp k Q) g s

    pub wps : TurnsOf A → List (Claim → Claim)
    wps (Last x) = wp x ∷ []
    wps (Turn x ts) = wp x ∷ wps ts

  -- a choice, where the register is known
  pub wp_some : (r m : ℕ) (x y k : FlowOf A) (Q : Claim) (g : List ℕ) (s : S)
      → slice_index g r ≡ suc m → wp x (wp k Q) g s → wp (If r x y k) Q g s
  wp_some r m x y k Q g s e w = subst (λ b. way b (wp y (wp k Q) g s) (wp x (wp k Q) g s))
      (sym (ap (λ v. v == 0) e ∙ ne_eqb (suc m) 0 (λ z. absurd (omega (arith, z))))) w

  pub wp_none : (r : ℕ) (x y k : FlowOf A) (Q : Claim) (g : List ℕ) (s : S)
      → slice_index g r ≡ 0 → wp y (wp k Q) g s → wp (If r x y k) Q g s
  wp_none r x y k Q g s e w = subst (λ b. way b (wp y (wp k Q) g s) (wp x (wp k Q) g s))
      (sym (ap (λ v. v == 0) e)) w

  -- a loop, by what holds before each of its turns where so many rounds come
  module _ (r : ℕ) (all : TurnsOf A) (I : TurnsOf A → ℕ → Claim) where
    abbrev pub Step : FlowOf A → TurnsOf A → TurnsOf A → Type 1
    Step x now next = (m : ℕ) (g : List ℕ) (s : S) (R : Claim) → I now (suc m) g s
        → ((h : List ℕ) (t : S) → I next m h t → R h t) → wp x R (slice_set g r m) s

    abbrev pub Steps : TurnsOf A → Type 1
    Steps (Last x) = Step x (Last x) all
    Steps (Turn x ts) = Step x (Turn x ts) ts × Steps ts

    by_turns : Steps all → (Q : Claim) → ((ts : TurnsOf A) (h : List ℕ) (t : S) → I ts 0 h t → Q h t)
        → (m : ℕ) (ts : TurnsOf A) → Steps ts → (g : List ℕ) (s : S) → I ts m g s
        → turning r (wps all) (wps ts) m Q g s
    by_turns sa Q e zero (Last x) st g s i = e (Last x) g s i
    by_turns sa Q e zero (Turn x ts) st g s i = e (Turn x ts) g s i
    by_turns sa Q e (suc m) (Last x) st g s i =
        st m g s (turning r (wps all) (wps all) m Q) i (λ h t j. by_turns sa Q e m all sa h t j)
    by_turns sa Q e (suc m) (Turn x (Last y)) st g s i = st.0 m g s
        (turning r (wps all) (wps (Last y)) m Q) i (λ h t j. by_turns sa Q e m (Last y) st.1 h t j)
    by_turns sa Q e (suc m) (Turn x (Turn y ts)) st g s i = st.0 m g s
        (turning r (wps all) (wps (Turn y ts)) m Q) i
        (λ h t j. by_turns sa Q e m (Turn y ts) st.1 h t j)

    pub wp_loop : (k : FlowOf A) (Q : Claim) (g : List ℕ) (s : S) → Fine (Counted r g) s → Steps all
        → I all (slice_index g r) g s
        → ((ts : TurnsOf A) (h : List ℕ) (t : S) → I ts 0 h t → wp k Q h t) → wp (Loop r all k) Q g s
    wp_loop k Q g s f sa i e = (f, by_turns sa (wp k Q) e (slice_index g r) all sa g s i)

  -- what the rounds do
  unfoldable pub after : List (EventOf A) → S → S
  after [] s = s
  after (Done b g ∷ rs) s = after rs (does b g s)
  after (Moved m g ∷ rs) s = after rs s
  after (Counted r g ∷ rs) s = after rs s

  pub after_append : (xs ys : List (EventOf A)) (s : S) → after (xs ++ ys) s ≡ after ys (after xs s)
  unfolding after
  after_append [] ys s = refl
  after_append (Done b g ∷ xs) ys s = after_append xs ys (does b g s)
  after_append (Moved m g ∷ xs) ys s = after_append xs ys s
  after_append (Counted r g ∷ xs) ys s = after_append xs ys s

  -- each round is fine, from the state that those before it leave
  unfoldable pub AllFine : List (EventOf A) → S → Type 0
  unfolding after
  AllFine [] s = Unit {0}
  AllFine (r ∷ rs) s = Fine r s × AllFine rs (after (r ∷ []) s)

  all_append : (xs ys : List (EventOf A)) (s : S) → AllFine xs s → AllFine ys (after xs s)
      → AllFine (xs ++ ys) s
  unfolding after AllFine
  all_append [] ys s a b = b
  all_append (Done c g ∷ xs) ys s a b = (a.0, all_append xs ys (does c g s) a.1 b)
  all_append (Moved m g ∷ xs) ys s a b = (a.0, all_append xs ys s a.1 b)
  all_append (Counted r g ∷ xs) ys s a b = (a.0, all_append xs ys s a.1 b)

  -- what comes of a run
  pub record Gives (a : RunOf A) (Q : Claim) (s : S) : Type 0 where
    pub fine : AllFine a.events s
    pub post : Q a.regs (after a.events s)

  joined : (a : RunOf A) (f : List ℕ → RunOf A) (Q : Claim) (s : S) → AllFine a.events s
      → Gives (f a.regs) Q (after a.events s)
      → Gives (record { events = a.events ++ (f a.regs).events; regs = (f a.regs).regs }) Q s
  joined a f Q s w v = record {
    fine = all_append a.events (f a.regs).events s w v.fine;
    post = subst (Q (f a.regs).regs) (sym (after_append a.events (f a.regs).events s)) v.post;
  }

  abbrev Sound : FlowOf A → Type 1
  Sound f = (Q : Claim) (g : List ℕ) (s : S) → wp f Q g s → Gives (run n f g) Q s

  abbrev AllSound : TurnsOf A → Type 1
  AllSound (Last x) = Sound x
  AllSound (Turn x ts) = Sound x × AllSound ts

  way_sound : (x y : FlowOf A) (b : Bool) → Sound x → Sound y → (Q : Claim) (g : List ℕ) (s : S)
      → way b (wp y Q g s) (wp x Q g s) → Gives (cond b (run n y g) (run n x g)) Q s
  way_sound x y true sx sy Q g s w = sy Q g s w
  way_sound x y false sx sy Q g s w = sx Q g s w

  turns_sound : (r : ℕ) (all : TurnsOf A) → AllSound all → (Q : Claim) (m : ℕ) (ts : TurnsOf A)
      → AllSound ts → (g : List ℕ) (s : S) → turning r (wps all) (wps ts) m Q g s
      → Gives (cycle r (acts n all) (acts n ts) m g) Q s
  unfolding after AllFine
  turns_sound r all sa Q zero (Last x) st g s w = record { fine = tt; post = w }
  turns_sound r all sa Q zero (Turn x ts) st g s w = record { fine = tt; post = w }
  turns_sound r all sa Q (suc m) (Last x) st g s w =
      let h = slice_set g r m in
      let a = st (turning r (wps all) (wps all) m Q) h s w in
      joined (run n x h) (cycle r (acts n all) (acts n all) m) Q s a.fine
      (turns_sound r all sa Q m all sa (run n x h).regs (after (run n x h).events s) a.post)
  turns_sound r all sa Q (suc m) (Turn x (Last y)) st g s w =
      let h = slice_set g r m in
      let a = st.0 (turning r (wps all) (wps (Last y)) m Q) h s w in
      joined (run n x h) (cycle r (acts n all) (acts n (Last y)) m) Q s a.fine
      (turns_sound r all sa Q m (Last y) st.1 (run n x h).regs (after (run n x h).events s) a.post)
  turns_sound r all sa Q (suc m) (Turn x (Turn y ts)) st g s w =
      let h = slice_set g r m in
      let a = st.0 (turning r (wps all) (wps (Turn y ts)) m Q) h s w in
      joined (run n x h) (cycle r (acts n all) (acts n (Turn y ts)) m) Q s a.fine
      (turns_sound r all sa Q m (Turn y ts) st.1 (run n x h).regs (after (run n x h).events s) a.post)

  mutual
    unfolding after AllFine

    pub sound : (f : FlowOf A) → Sound f
    sound End Q g s w = record { fine = tt; post = w }
    sound (Do b k) Q g s w = let v = sound k Q g (does b g s) w.1 in
        record { fine = (w.0, v.fine); post = v.post }
    sound (Put m k) Q g s w = let v = sound k Q (moved n m g) s w.1 in
        record { fine = (w.0, v.fine); post = v.post }
    sound (If r x y k) Q g s w =
        let a = way_sound x y (slice_index g r == 0) (sound x) (sound y) (wp k Q) g s w in
        let c = cond (slice_index g r == 0) (run n y g) (run n x g) in
        joined c (run n k) Q s a.fine (sound k Q c.regs (after c.events s) a.post)
    sound (Loop r ts k) Q g s w =
        let a = turns_sound r ts (all_sound ts) (wp k Q) (slice_index g r) ts (all_sound ts) g s w.1 in
        let c = cycle r (acts n ts) (acts n ts) (slice_index g r) g in
        let v = joined c (run n k) Q s a.fine (sound k Q c.regs (after c.events s) a.post) in
        record { fine = (w.0, v.fine); post = v.post }

    all_sound : (ts : TurnsOf A) → AllSound ts
    all_sound (Last x) = sound x
    all_sound (Turn x ts) = (sound x, all_sound ts)
