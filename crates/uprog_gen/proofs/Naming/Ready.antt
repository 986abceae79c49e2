-- Each statement of an operation that meets the rules meets them at its names' places.
use Rattle.uprog_gen.proofs.Common.{or_left, or_right, ◌≡◌, ℕ, ◌+◌, ◌<◌, Bool, true, false, ◌||◌}
use Rattle.uprog_gen.proofs.Common.{cond, List, [], ◌∷◌, ◌++◌, map, Option, Some, None, refl, sym}
use Rattle.uprog_gen.proofs.Common.{ap, ◌∙◌, subst, arith, bytes_eq, inl, inr, ⊎_elim, append_assoc}
use Rattle.uprog_gen.proofs.Common.{append-nil, option_to_list, AllByRecursion, Kind, Word, Bit}
use Rattle.uprog_gen.proofs.Common.{Param, WordOp, Term, Nought, Unity, Named, Negation}
use Rattle.uprog_gen.proofs.Common.{Conjunction, Disjunction, Parity, Majority, Equation, Statement}
use Rattle.uprog_gen.proofs.Common.{Compute, Visit, Operation, is_among, kind_among, is_known}
use Rattle.uprog_gen.proofs.Common.{second_of, second_kind, param, state_names, word_names, defines}
use Rattle.uprog_gen.proofs.Common.{body_defines, kind_of, result_kind, Each, TermMeets, IsNewOf}
use Rattle.uprog_gen.proofs.Common.{IsKnown, Differ, names_of, let_names, used, can_read, LetsRead}
use Rattle.uprog_gen.proofs.Common.{Context, next_context, OperationMeets, all_names, is_same}
use Rattle.uprog_gen.proofs.Common.{other_way, new-left, new-right, new-append, among-append}
use Rattle.uprog_gen.proofs.Common.{names-append, scratch_is_small, ScratchBit, ScratchWord, Slot}
use Rattle.uprog_gen.proofs.Common.{Slots, HaveKinds, ComputeMeets, IsPlaced, holds_kind}
use Rattle.uprog_gen.proofs.Common.{targets_of, block_reads, read_names, written_names}
use Rattle.std.specs.Prelude.{is_some, unwrap_or}
use Rattle.op_text.specs.Language.{Block}
use Rattle.op_text.specs.WordOps.{second_gives}
use Rattle.op_rules.specs.Meets.{IsNewLet}
use Rattle.loop_ir.specs.Statements.{HasKind, LetsMeet, AreDistinct, BlockMeets, statement_names}
use Rattle.loop_ir.specs.Statements.{is_readable}
use Rattle.op_rules.specs.Meets as rules
use Rattle.loop_ir.specs.Statements as there
use Rattle.uprog_gen.specs.Layout.{IsLayout}
use Rattle.uprog_gen.proofs.Naming.Lays.{lay}
use Rattle.uprog_gen.proofs.Naming.Lies.{LiesIn}
use Rattle.uprog_gen.proofs.Naming.Among.{each_among, among_left, among_right}
use Rattle.uprog_gen.proofs.Naming.Among.{among_split}
use Rattle.uprog_gen.proofs.Naming.Scene.{known_among, slot_none, slot_lies, slots_apart}
use Rattle.uprog_gen.proofs.Naming.Stage.{Stage, word_other, written_unknown, written_defined}
use Rattle.uprog_gen.proofs.Naming.Stage.{state_kind, known_kind, word_kind, block_stand, lets_stay}
use Rattle.uprog_gen.proofs.Naming.Stage.{bits_need, words_need, known_slot, defined_slot}
use Rattle.uprog_gen.proofs.Naming.Stage.{written_slot, read_slot, written_own}

-- a place holds values of its kind
lies_holds : (op : Operation) (name : List ℕ) (x : Slot) → LiesIn op (lay name x)
    → holds_kind x.space x.kind ≡ true
lies_holds op name x (inl h) = rw (h.0) refl
lies_holds op name x (inr (inl h)) = rw (h.0) refl
lies_holds op name x (inr (inr (inl h))) = rw (h.0, h.1) refl
lies_holds op name x (inr (inr (inr h))) = rw (h.0, h.1) refl

module _ (r q : List ℕ → Bool) (f : (name : List ℕ) → r name ≡ true → q name ≡ true) where
  term_more : (d : ℕ) (t : Term) → TermMeets r d t → TermMeets q d t
  term_more d Nought h = tt
  term_more d Unity h = tt
  term_more d (Named m) h = (h.0, f m h.1)
  term_more d (Negation a) h = (h.0, term_more (d + 1) a h.1)
  term_more d (Conjunction a b) h = (h.0, term_more (d + 1) a h.1, term_more (d + 1) b h.2)
  term_more d (Disjunction a b) h = (h.0, term_more (d + 1) a h.1, term_more (d + 1) b h.2)
  term_more d (Parity a b) h = (h.0, term_more (d + 1) a h.1, term_more (d + 1) b h.2)
  term_more d (Majority a b c) h =
      (h.0, term_more (d + 1) a h.1, term_more (d + 1) b h.2, term_more (d + 1) c h.3)

  values_meet : (es : List Equation) → Each (λ (e : Equation). TermMeets r 0 e.value) es
      → AllByRecursion (λ (e : Equation). TermMeets q 0 e.value) es
  values_meet [] h = tt
  values_meet (e ∷ es) h = (term_more 0 e.value h.0, values_meet es h.1)

lets_meet : (known : List Param) (inside : List (List ℕ)) (readable : List ℕ
    → Bool) (lets assigns : List Equation) → ((name : List ℕ) → can_read known inside name ≡ true
    → readable name ≡ true) → LetsRead known inside lets
    → Each (λ (e : Equation). TermMeets (can_read known (inside
    ++ map (λ (l : Equation). l.name) lets)) 0 e.value) assigns → LetsMeet readable lets assigns
lets_meet known inside readable [] assigns f h g =
    values_meet (can_read known inside) readable f assigns
    (subst (λ (ns : List (List ℕ)). Each (λ (e : Equation). TermMeets (can_read known ns) 0
    e.value) assigns) (append-nil inside) g)
lets_meet known inside readable (l ∷ lets) assigns f h g = (
  term_more (can_read known inside) readable f 0 l.value h.0,
  lets_meet known (inside ++ l.name ∷ []) (λ name. bytes_eq name l.name || readable name) lets
      assigns (λ name e. let m = among-append inside (l.name ∷ []) name in
      let o = other_way name l.name in let g = f name in grind (arith, e, m, o, g))
      h.1 (subst (λ (ns : List (List ℕ)). Each
      (λ (e : Equation). TermMeets (can_read known ns) 0 e.value) assigns)
      (sym (append_assoc inside (l.name ∷ []) (map (λ (l : Equation). l.name) lets))) g),
)

distinct : (ns : List (List ℕ)) → Differ ns → AreDistinct ns
distinct [] h = tt
distinct (n ∷ ns) h = (h.0, distinct ns h.1)

known_is : (ps : List Param) (name : List ℕ) → is_known (kind_among ps name) ≡ true
    → is_among (names_of ps) name ≡ true
known_is [] name h = absurd (cc)
known_is (p ∷ ps) name h = let more = known_is ps name in grind (arith, h, more)

module _ (op : Operation) (meets : OperationMeets op) (slots : Slots) (free_bit free_word : ℕ)
    (is : IsLayout op slots free_bit free_word) where
  pub slot_holds : (name : List ℕ) (x : Slot) → slots name ≡ Some x
      → holds_kind x.space x.kind ≡ true
  slot_holds name x e = lies_holds op name x (slot_lies _ meets _ _ _ is name x e)

  pub slot_bit : (name : List ℕ) (x : Slot) → slots name ≡ Some x → x.space ≡ ScratchBit
      → x.which < free_bit
  slot_bit name x e s = let l = slot_lies _ meets _ _ _ is name x e in let few = is.bits in
      grind (arith, l, s, few)

  pub slot_word : (name : List ℕ) (x : Slot) → slots name ≡ Some x → x.space ≡ ScratchWord
      → x.which < free_word
  slot_word name x e s = let l = slot_lies _ meets _ _ _ is name x e in let few = is.words in
      grind (arith, l, s, few)

  pub has_kind : (name : List ℕ) (k : Kind) → (x : Slot) × (slots name ≡ Some x) × (x.kind ≡ k)
      → HasKind slots name k
  has_kind name k h = record {
    slot = h.0;
    found = h.1;
    kind = h.2;
    space = subst (λ (j : Kind). holds_kind h.0.space j ≡ true) h.2 (slot_holds name h.0 h.1);
  }

  module _ (c : Context) (s : Statement) (rest : List Statement) (st : Stage op c (s ∷ rest)) where
    of_known : (name : List ℕ) (k : Kind) → kind_among c.known name ≡ Some k → HasKind slots name k
    of_known name k h = has_kind name k (known_slot _ meets _ _ _ is _ _ _ st name k h)

    of_new : (name : List ℕ) (k : Kind) → is_among (written_names s) name ≡ true
        → kind_among (defines c.known s) name ≡ Some k → HasKind slots name k
    of_new name k w h = has_kind name k (defined_slot _ meets _ _ _ is c s rest st name k w h)

    args_have : (args : List (List ℕ)) → Each (IsKnown c.known) args
        → HaveKinds slots args (map (kind_of c.known) args)
    args_have [] h = tt
    args_have (a ∷ args) h = (of_known a (kind_of c.known a) h.0, args_have args h.1)

    -- a name that is known has a place
    known_some : (name : List ℕ) → is_known (kind_among c.known name) ≡ true
        → is_some (slots name) ≡ true
    known_some name h = let k = known_kind (kind_among c.known name) h in
        ap is_some (known_slot _ meets _ _ _ is _ _ _ st name k.0 k.1).1

    written_some : (name : List ℕ) → is_among (written_names s) name ≡ true
        → is_some (slots name) ≡ true
    written_some name w = ap is_some (written_slot _ meets _ _ _ is _ _ _ st name w).1

    statement_slot : (name : List ℕ) → is_among (statement_names s) name ≡ true
        → (x : Slot) × (slots name ≡ Some x)
    statement_slot name h = ⊎_elim (written_slot _ meets _ _ _ is _ _ _ st name)
        (read_slot _ meets _ _ _ is _ _ _ st name)
        (among_split (written_names s) (read_names s) name h)

    pub is_placed : IsPlaced slots free_bit free_word s
    is_placed =
        let few = scratch_is_small op meets in
        record {
          there = λ name h. let x = statement_slot name h in (x.0, x.1, slot_holds name x.0 x.1);
          differ = λ a b x y ha hb ea eb s' w.
              is_same a b (slots_apart _ meets _ _ _ is a b x y ea eb s' w);
          own = λ name x w e. written_own _ meets _ _ _ is _ _ _ st name x w e;
          bit = λ name x h e s'. inl (slot_bit name x e s');
          word = λ name x h e s'. inl (slot_word name x e s');
          bits = omega (arith, few.bits, is.bits, bits_need op _ _ _ st);
          words = omega (arith, few.words, is.words, words_need op _ _ _ st);
        }

    -- what is set is not known
    unknown : (name : List ℕ) (k : Kind) → is_among (written_names s) name ≡ true
        → kind_among c.known name ≡ Some k → ⊥
    unknown name k w h = absurd (cc (
      known_among c.known name k h,
      written_unknown c s name st.body.0 w,
    ))

  module _ (c : Context) (b : Block) (rest : List Statement) (st : Stage op c (Visit b ∷ rest))
    where
      -- a let's name has no place
      let_unplaced : (name : List ℕ) → is_among (let_names b) name ≡ true → slots name ≡ None
      let_unplaced name h =
          let m = st.body.0 in
          let l = each_among (IsNewLet (used c ++ state_names b) c.results) (let_names b) name
          m.lets h
          in
          let more = body_defines (c.known ++ defines c.known (Visit b)) rest in
          let old : is_among (names_of c.known) name ≡ false =
          new-left (names_of c.known) c.lets name (new-left (used c) (state_names b) name l.new)
          in
          let state : is_among (state_names b) name ≡ false =
          new-right (used c) (state_names b) name l.new in
          let clash = λ (w : is_among (word_names b) name ≡ true). new-right (used c) (let_names b)
          name (each_among (IsNewOf (used c ++ let_names b) c.results Word) (word_names b) name
          m.words w).new in
          let word : is_among (word_names b) name ≡ false = grind (arith, h, clash) in
          let new : is_among (names_of (defines c.known (Visit b))) name ≡ false =
          written_defined c.known (Visit b) name
          ∙ new-append (state_names b) (word_names b) name state word in
          let later : is_among (names_of more) name ≡ false =
          lets_stay (next_context c (Visit b)) rest name st.body.1
          (among_right c.lets (let_names b) name h) in
          let whole : is_among (names_of (all_names op)) name ≡ false =
          ap (λ ps. is_among (names_of ps) name) st.all
          ∙ ap (λ l. is_among l name) (names-append c.known (defines c.known (Visit b) ++ more)
          ∙ ap (λ l. names_of c.known ++ l) (names-append (defines c.known (Visit b)) more))
          ∙ new-append (names_of c.known) (names_of (defines c.known (Visit b)) ++ names_of more)
          name
          old (new-append (names_of (defines c.known (Visit b))) (names_of more) name new later)
          in slot_none _ meets _ _ _ is name whole

      -- what the block can read has a place
      readable_some : (name : List ℕ) → can_read c.known (state_names b) name ≡ true
          → is_some (slots name) ≡ true
      readable_some name h =
          let known = known_some _ _ _ st name in
          let state = λ (e : is_among (state_names b) name ≡ true). written_some _ _ _ st
          name (among_left (state_names b) (word_names b) name e) in
          grind (arith, h, known, state)

      -- and is no let
      readable : (name : List ℕ) → can_read c.known (state_names b) name ≡ true
          → is_readable slots b.lets name ≡ true
      readable name h =
          let some = readable_some name h in
          let none = λ (l : is_among (let_names b) name ≡ true). ap is_some (let_unplaced name l) in
          grind (arith, some, none)

      -- and no word that it sets
      word_unread : (name : List ℕ) → is_among (word_names b) name ≡ true
          → is_among (block_reads b) name ≡ false
      word_unread name w =
          let new = written_unknown c (Visit b) name st.body.0
          (among_right (state_names b) (word_names b) name w) in
          let other = word_other b name w in
          let stands = λ (r : is_among (block_reads b) name ≡ true).
          block_stand c b name st.body.0 r in
          let known = known_is c.known name in
          grind (arith, new, other, stands, known)

      block_meets : BlockMeets slots b
      block_meets =
          let m = st.body.0 in
          record {
            states = m.few_states;
            lets = m.few_lets;
            some = omega (arith, m.has_assigns);
            assigns = m.few_assigns;
            weight = m.light;
            meet = lets_meet c.known (state_names b) (is_readable slots b.lets) b.lets b.assigns
                readable m.lets_read m.values_read;
            states_differ = distinct (state_names b) m.states_differ;
            lets_differ = distinct (let_names b) m.lets_differ;
            targets_differ = distinct (targets_of b.assigns) m.targets_differ;
            bits = λ name h. of_new _ _ _ st name Bit
                (among_left (state_names b) (word_names b) name h) (state_kind c.known b name h);
            words = λ name h. of_new _ _ _ st name Word
                (among_right (state_names b) (word_names b) name h) (word_kind c.known b name h);
            fresh = word_unread;
          }

  module _ (c : Context) (target : List ℕ) (second : Option (List ℕ)) (p : WordOp)
      (args : List (List ℕ)) (rest : List Statement)
      (st : Stage op c (Compute target second p args ∷ rest)) where
    target_written : is_among (written_names (Compute target second p args)) target ≡ true
    target_written = or_left (bytes_eq target target) (is_among (option_to_list second) target)
        (is_same target target refl)

    target_kind : kind_among (defines c.known (Compute target second p args)) target
        ≡ Some (result_kind c.known p args)
    target_kind = ap (λ b. cond b (Some (result_kind c.known p args))
        (kind_among (second_of second p) target)) (is_same target target refl)

    -- no target is an argument
    target_fresh : (name : List ℕ)
        → is_among (written_names (Compute target second p args)) name ≡ true
        → is_among args name ≡ false
    target_fresh name w =
        let clash = λ (h : is_among args name ≡ true). unknown c (Compute target second p args) rest
        st name (kind_of c.known name) w (each_among (IsKnown c.known) args name st.body.0.known h)
        in grind (arith, clash)

    second_written : (x : List ℕ) → second ≡ Some x
        → is_among (written_names (Compute target second p args)) x ≡ true
    second_written x e = subst (λ (o : Option (List ℕ)). is_among (target ∷ option_to_list o) x
        ≡ true) (sym e) (or_right (bytes_eq target x) (is_among (x ∷ []) x)
        (or_left (bytes_eq x x) false (is_same x x refl)))

    second_given : (x : List ℕ) (k : Kind) → second ≡ Some x → second_kind p ≡ Some k
        → bytes_eq target x ≡ false
        → kind_among (defines c.known (Compute target second p args)) x ≡ Some k
    second_given x k e f other =
        let r = result_kind c.known p args in
        subst (λ (o : Option (List ℕ)). kind_among (param target r ∷ second_of o p) x ≡ Some k)
        (sym e) (ap (λ b. cond b (Some r) (kind_among (second_of (Some x) p) x)) other
        ∙ ap (λ b. cond b (Some (second_gives p)) None) (is_same x x refl)
        ∙ ap (λ o. Some (unwrap_or o Word)) f)

    second_meets : (o : Option (List ℕ)) (k : Option Kind) → second ≡ o → second_kind p ≡ k
        → rules.SecondMeets c target o k → there.SecondMeets slots target args o k
    second_meets None None e f h = tt
    second_meets (Some x) (Some k) e f h =
        let w = second_written x e in
        record {
          gives = of_new _ _ _ st x k w (second_given x k e f h.other);
          fresh = target_fresh x w;
          other = h.other;
        }
    second_meets _ _ _ _ h = absurd h

    compute_meets : ComputeMeets slots target second p args
    compute_meets = record {
      kinds = map (kind_of c.known) args;
      kind = result_kind c.known p args;
      have = args_have _ _ _ st args st.body.0.known;
      form = st.body.0.takes;
      gives = of_new _ _ _ st target (result_kind c.known p args) target_written target_kind;
      fresh = target_fresh target target_written;
      others = second_meets second (second_kind p) refl refl st.body.0.others;
    }

  pub statement_meets : (c : Context) (s : Statement) (rest : List Statement)
      → Stage op c (s ∷ rest) → there.StatementMeets slots s
  statement_meets c (Compute target second p args) rest st =
      compute_meets c target second p args rest st
  statement_meets c (Visit b) rest st = block_meets c b rest st
