-- Names hold bits of their kinds.
use Rattle.op_rules.proofs.Common.{◌≡◌, ℕ, zero, suc, ◌/◌, length, Bool, true, false, not, ◌||◌}
use Rattle.op_rules.proofs.Common.{cond, List, [], ◌∷◌, ◌++◌, map, fold, replicate, Some, None}
use Rattle.op_rules.proofs.Common.{Option, refl, sym, ap, ◌∙◌, subst, append_assoc, append-nil}
use Rattle.op_rules.proofs.Common.{bytes_eq, length-set, arith, unwrap_or, filter, flat_map}
use Rattle.op_rules.proofs.Common.{length-replicate, Kind, Word, Bit, Param, State, WordOp, forms}
use Rattle.op_rules.proofs.Common.{filled, second_kind, is_among, Equation, Block, Statement}
use Rattle.op_rules.proofs.Common.{Compute, Visit, Operation, results, param, kind_of, result_kind}
use Rattle.op_rules.proofs.Common.{defines, body_defines, state_names, word_names, Each, kind_among}
use Rattle.op_text.specs.Values.{bits}
use Rattle.op_text.specs.Meaning.{NameValue, width, holding, holds_nothing, changed, bit_written}
use Rattle.op_text.specs.Meaning.{term_bit, assigned, visited, positions, with_blanks, with_states}
use Rattle.op_text.specs.Meaning.{computed, second_computed, after_statement, after_block}
use Rattle.op_text.specs.Meaning.{with_sources, after_body}
use Rattle.op_rules.specs.Meets.{IsNew, IsKnown, Differ, Context, names_of, targets, next_context}
use Rattle.op_rules.specs.Meets.{at_start, lets_of, StatementMeets, WordMeets, BodyMeets}
use Rattle.op_rules.specs.Meets.{OperationMeets}
use Rattle.op_rules.specs.Laws.{OthersStay, IsHeld, Holds, KindsAreKept, KindsAreHeld}
use Rattle.op_rules.specs.Laws.{StatementsMeet, context_at}
use Rattle.op_rules.proofs.Names.{is_same, same_name, other_way, among-append, or_first, or_second}
use Rattle.op_rules.proofs.Names.{each_map, each_both}
use Rattle.op_rules.proofs.States.{state_names_of}
use Rattle.op_rules.proofs.Lines.{names_in}
use Rattle.op_rules.proofs.Blocks.{block_names, not_among}
use Rattle.op_rules.proofs.Ops.{each_append, second_facts}
use Rattle.op_rules.proofs.Apart.{statement_apart, filter_each, not_true}

-- another name
unchanged : {V : Type 0} (names : List ℕ → V) (name : List ℕ) (v : V) (m : List ℕ)
    → bytes_eq name m ≡ false → changed names name v m ≡ names m
unchanged names name v m h = ap (λ b. cond b v (names m)) (other_way m name ∙ h)

this : {V : Type 0} (names : List ℕ → V) (name : List ℕ) (v : V) (m : List ℕ)
    → bytes_eq name m ≡ true → changed names name v m ≡ v
this names name v m h = ap (λ b. cond b v (names m)) (other_way m name ∙ h)

blanks_other : (n : ℕ) (es : List Equation) (names : List ℕ → NameValue) (m : List ℕ)
    → IsNew (names_in es) m → with_blanks n names es m ≡ names m
blanks_other n [] names m h = refl
blanks_other n (e ∷ es) names m h =
    blanks_other n es (changed names e.name (record { kind = Word; bits = replicate n false })) m
    (or_second (bytes_eq e.name m) (is_among (names_in es) m) h)
    ∙ unchanged names e.name _ m (or_first (bytes_eq e.name m) (is_among (names_in es) m) h)

states_other : (ss : List State) (names : List ℕ → NameValue) (m : List ℕ)
    → IsNew (state_names_of ss) m
    → with_states names ss m ≡ names m
states_other [] names m h = refl
states_other (s ∷ ss) names m h =
    states_other ss (changed names s.name (record { kind = Bit; bits = s.start ∷ [] })) m
    (or_second (bytes_eq s.name m) (is_among (state_names_of ss) m) h)
    ∙ unchanged names s.name _ m (or_first (bytes_eq s.name m) (is_among (state_names_of ss) m) h)

assigned_other : (r : List ℕ → Bool) (i : ℕ) (es : List Equation) (names : List ℕ
    → NameValue) (m : List ℕ) → IsNew (names_in es) m → assigned r i names es m ≡ names m
assigned_other r i [] names m h = refl
assigned_other r i (e ∷ es) names m h =
    assigned_other r i es (changed names e.name (bit_written i (names e.name) (term_bit r e.value)))
    m (or_second (bytes_eq e.name m) (is_among (names_in es) m) h)
    ∙ unchanged names e.name _ m (or_first (bytes_eq e.name m) (is_among (names_in es) m) h)

visits_other : (block : Block) (ks : List ℕ) (names : List ℕ → NameValue) (m : List ℕ)
    → IsNew (names_in block.assigns) m → fold (visited block) names ks m ≡ names m
visits_other block [] names m h = refl
visits_other block (k ∷ ks) names m h = visits_other block ks (visited block names k) m h
    ∙ assigned_other _ k block.assigns names m h

-- a name that is neither a state nor a word of the block is no target
no_target : (S ns : List (List ℕ)) (m : List ℕ) → IsNew S m
    → IsNew (filter (λ n. not (is_among S n)) ns) m → IsNew ns m
no_target S [] m g h = refl
no_target S (n ∷ ns) m g h = cases (bytes_eq n m) (is_among S n) refl refl h (λ k.
    no_target S ns m g k)
  where
    no : (b : Bool) → b ≡ true → b ≡ false → ⊥
    no true e f = cc
    no false e f = cc

    cases : (b s : Bool) → bytes_eq n m ≡ b → is_among S n ≡ s
        → IsNew (cond (not s) (n ∷ filter (λ n. not (is_among S n)) ns)
        (filter (λ n. not (is_among S n)) ns)) m
        → (IsNew (filter (λ n. not (is_among S n)) ns) m → IsNew ns m)
        → (b || is_among ns m) ≡ false
    cases true true e f k go = absurd (no (is_among S n) f (ap (is_among S) (same_name n m e) ∙ g))
    cases true false e f k go = absurd (no (bytes_eq n m) e (or_first (bytes_eq n m) _ k))
    cases false true e f k go = go k
    cases false false e f k go = go (or_second (bytes_eq n m) _ k)

pub others_stay : OthersStay
others_stay known (Compute target None p args) n names name h =
    unchanged names target _ name (or_first (bytes_eq target name) false h)
others_stay known (Compute target (Some second) p args) n names name h =
    let more = is_among (second ∷ []) name in
    unchanged (changed names target (computed n p (map names args))) second _ name
    (or_first (bytes_eq second name) false (or_second (bytes_eq target name) more h))
    ∙ unchanged names target _ name (or_first (bytes_eq target name) more h)
others_stay known (Visit b) n names name h =
    let S = state_names b in
    let W = word_names b in
    let k = sym (ap (λ l. is_among l name) (block_names S W) ∙ among-append S W name) ∙ h in
    let s = or_first (is_among S name) (is_among W name) k in
    let t = no_target S (targets b) name s (or_second (is_among S name) (is_among W name) k) in
    visits_other b (positions b.down n) (with_states (with_blanks n names b.assigns) b.states) name
    t ∙ states_other b.states (with_blanks n names b.assigns) name s
    ∙ blanks_other n b.assigns names name t

-- what a name holds is of a kind
pub held_moves : {n : ℕ} {k : Kind} (g h : NameValue) → g ≡ h → IsHeld n k h → IsHeld n k g
held_moves {n} {k} g h e i = subst (λ (x : NameValue). IsHeld n k x) (sym e) i

length-bits : (v n : ℕ) → length (bits v n) ≡ n
unfolding bits
length-bits v zero = refl
length-bits v (suc n) = ap suc (length-bits (v / 2) n)

holding_held : (n : ℕ) (k : Kind) (v : ℕ) → IsHeld n k (holding n k v)
holding_held n k v = record { kind = refl; size = length-bits v (width n k) }

written_held : (n i : ℕ) (j k : Kind) (bs : List Bool) (b : Bool)
    → IsHeld n k (record { kind = j; bits = bs })
    → IsHeld n k (bit_written i (record { kind = j; bits = bs }) b)
written_held n i Word Word bs b h = record { kind = refl; size = length-set bs i b ∙ h.size }
written_held n i Bit Bit bs b h = record { kind = refl; size = refl }
written_held n i Word Bit bs b h = let e = h.kind in cc
written_held n i Bit Word bs b h = let e = h.kind in cc

changed_held : (n : ℕ) (k : Kind) (names : List ℕ
    → NameValue) (name : List ℕ) (v : NameValue) (m : List ℕ)
    → (m ≡ name → IsHeld n k v) → IsHeld n k (names m) → IsHeld n k (changed names name v m)
changed_held n k names name v m f g = cases (bytes_eq m name) (λ e. f (same_name m name e))
  where
    cases : (b : Bool) → (b ≡ true → IsHeld n k v) → IsHeld n k (cond b v (names m))
    cases true h = h refl
    cases false h = g

assigned_held : (n i : ℕ) (k : Kind) (r : List ℕ → Bool) (es : List Equation) (names : List ℕ
    → NameValue) (m : List ℕ) → IsHeld n k (names m) → IsHeld n k (assigned r i names es m)
assigned_held n i k r [] names m h = h
assigned_held n i k r (e ∷ es) names m h =
    let v = bit_written i (names e.name) (term_bit r e.value) in
    assigned_held n i k r es (changed names e.name v) m
    (changed_held n k names e.name v m (λ q. written_held n i (names e.name).kind k
    (names e.name).bits (term_bit r e.value)
    (held_moves (names e.name) (names m) (ap names (sym q)) h)) h)

visits_held : (n : ℕ) (k : Kind) (block : Block) (ks : List ℕ) (names : List ℕ
    → NameValue) (m : List ℕ)
    → IsHeld n k (names m) → IsHeld n k (fold (visited block) names ks m)
visits_held n k block [] names m h = h
visits_held n k block (i ∷ ks) names m h = visits_held n k block ks (visited block names i) m
    (assigned_held n i k _ block.assigns names m h)

states_keep : (n : ℕ) (ss : List State) (names : List ℕ → NameValue) (m : List ℕ)
    → IsHeld n Bit (names m) → IsHeld n Bit (with_states names ss m)
states_keep n [] names m h = h
states_keep n (s ∷ ss) names m h = states_keep n ss
    (changed names s.name (record { kind = Bit; bits = s.start ∷ [] })) m
    (changed_held n Bit names s.name _ m (λ q. record { kind = refl; size = refl }) h)

states_held : (n : ℕ) (ss : List State) (names : List ℕ → NameValue) (m : List ℕ)
    → is_among (state_names_of ss) m ≡ true → IsHeld n Bit (with_states names ss m)
states_held n [] names m h = cc
states_held n (s ∷ ss) names m h = cases (bytes_eq s.name m) refl h (λ names g.
    states_held n ss names m g)
  where
    cases : (b : Bool) → bytes_eq s.name m ≡ b → (b || is_among (state_names_of ss) m) ≡ true
        → ((names : List ℕ → NameValue) → is_among (state_names_of ss) m ≡ true
        → IsHeld n Bit (with_states names ss m))
        → IsHeld n Bit (with_states (changed names s.name
        (record { kind = Bit; bits = s.start ∷ [] })) ss m)
    cases true e g go =
        states_keep n ss (changed names s.name (record { kind = Bit; bits = s.start ∷ [] })) m
        (held_moves _ (record { kind = Bit; bits = s.start ∷ [] }) (this names s.name _ m e)
        (record { kind = refl; size = refl }))
    cases false e g go = go _ g

blanks_keep : (n : ℕ) (es : List Equation) (names : List ℕ → NameValue) (m : List ℕ)
    → IsHeld n Word (names m) → IsHeld n Word (with_blanks n names es m)
blanks_keep n [] names m h = h
blanks_keep n (e ∷ es) names m h =
    blanks_keep n es (changed names e.name (record { kind = Word; bits = replicate n false })) m
    (changed_held n Word names e.name _ m (λ q.
    record { kind = refl; size = length-replicate n false }) h)

blanks_held : (n : ℕ) (es : List Equation) (names : List ℕ → NameValue) (m : List ℕ)
    → is_among (names_in es) m ≡ true → IsHeld n Word (with_blanks n names es m)
blanks_held n [] names m h = cc
blanks_held n (e ∷ es) names m h = cases (bytes_eq e.name m) refl h (λ names g.
    blanks_held n es names m g)
  where
    cases : (b : Bool) → bytes_eq e.name m ≡ b → (b || is_among (names_in es) m) ≡ true
        → ((names : List ℕ → NameValue) → is_among (names_in es) m ≡ true
        → IsHeld n Word (with_blanks n names es m))
        → IsHeld n Word (with_blanks n (changed names e.name
        (record { kind = Word; bits = replicate n false })) es m)
    cases true q g go =
        blanks_keep n es (changed names e.name (record { kind = Word; bits = replicate n false })) m
        (held_moves _ (record { kind = Word; bits = replicate n false }) (this names e.name _ m q)
        (record { kind = refl; size = length-replicate n false }))
    cases false q g go = go _ g

-- a name that is known holds what is said of it
held_known : (n : ℕ) (names : List ℕ → NameValue) (known : List Param) → Each (Holds n names) known
    → (a : List ℕ) (k : Kind) → kind_among known a ≡ Some k → IsHeld n k (names a)
held_known n names [] h a k e = cc
held_known n names (p ∷ known) h a k e = cases (bytes_eq p.name a) refl e (λ g.
    held_known n names known h.1 a k g)
  where
    some : (j : Kind) → Some j ≡ Some k → j ≡ k
    some j g = cc

    cases : (b : Bool) → bytes_eq p.name a ≡ b → cond b (Some p.kind) (kind_among known a) ≡ Some k
        → (kind_among known a ≡ Some k → IsHeld n k (names a)) → IsHeld n k (names a)
    cases true q g go = subst (λ (x : Kind). IsHeld n x (names a)) (some p.kind g)
        (held_moves (names a) (names p.name) (ap names (sym (same_name p.name a q))) h.0)
    cases false q g go = go g

kinds_known : (n : ℕ) (names : List ℕ → NameValue) (known : List Param) → Each (Holds n names) known
    → (args : List (List ℕ)) → Each (IsKnown known) args
    → map (λ (h : NameValue). h.kind) (map names args) ≡ map (kind_of known) args
kinds_known n names known h [] k = refl
kinds_known n names known h (a ∷ args) k =
    ap (λ j. j ∷ map (λ (h : NameValue). h.kind) (map names args))
    (held_known n names known h a (kind_of known a) k.0).kind
    ∙ ap (λ l. kind_of known a ∷ l) (kinds_known n names known h args k.1)

computed_held : (n : ℕ) (names : List ℕ → NameValue) (c : Context) (target : List ℕ)
    (second : Option (List ℕ)) (p : WordOp) (args : List (List ℕ))
    → WordMeets c target second p args → Each (Holds n names) c.known
    → IsHeld n (result_kind c.known p args) (computed n p (map names args))
computed_held n names c target second p args m h =
    let e = ap (λ l. unwrap_or (filled (forms p) l) Word)
    (kinds_known n names c.known h args m.known) ∙ ap (λ o. unwrap_or o Word) m.takes in
    subst (λ (k : Kind). IsHeld n k (computed n p (map names args))) e (holding_held n _ _)

-- each of some names, as parameters of a kind
params_hold : (n : ℕ) (names : List ℕ → NameValue) (k : Kind) (ns : List (List ℕ))
    → Each (λ m. IsHeld n k (names m)) ns → Each (Holds n names) (map (λ m. param m k) ns)
params_hold n names k [] h = tt
params_hold n names k (m ∷ ns) h = (h.0, params_hold n names k ns h.1)

each_self : (ns : List (List ℕ)) → Each (λ m. is_among ns m ≡ true) ns
each_self [] = tt
each_self (n ∷ ns) = (
  first n,
  each_map (λ m. is_among ns m ≡ true) (λ m. is_among (n ∷ ns) m
      ≡ true) (λ m e. later (bytes_eq n m) (is_among ns m) e) ns (each_self ns),
)
  where
    later : (a b : Bool) → b ≡ true → (a || b) ≡ true
    later true b e = refl
    later false b e = e

    first : (m : List ℕ) → is_among (m ∷ ns) m ≡ true
    first m = ap (λ b. b || is_among ns m) (is_same m m refl)

each_kept : (q : List ℕ → Bool) (P : List ℕ → Type 0) (ns : List (List ℕ)) → Each P ns
    → Each P (filter q ns)
each_kept q P [] h = tt
each_kept q P (n ∷ ns) h = cases (q n) (each_kept q P ns h.1)
  where
    cases : (b : Bool) → Each P (filter q ns) → Each P (cond b (n ∷ filter q ns) (filter q ns))
    cases true r = (h.0, r)
    cases false r = r

block_hold : (n : ℕ) (names : List ℕ → NameValue) (b : Block)
    → Each (Holds n (after_block n b names)) (map (λ m. param m Bit) (state_names b)
    ++ map (λ m. param m Word) (word_names b))
block_hold n names b =
    let S = state_names b in
    let ks = positions b.down n in
    let blanks = with_blanks n names b.assigns in
    let start = with_states blanks b.states in
    let state : (m : List ℕ) → is_among S m ≡ true → IsHeld n Bit (after_block n b names m) =
    λ m e. visits_held n Bit b ks start m (states_held n b.states blanks m e) in
    let word : (m : List ℕ) → is_among (targets b) m ≡ true → not (is_among S m) ≡ true
    → IsHeld n Word (after_block n b names m) =
    λ m e f. visits_held n Word b ks start m (held_moves (start m) (blanks m)
    (states_other b.states blanks m (not_true (is_among S m) f))
    (blanks_held n b.assigns names m e)) in
    each_append (Holds n (after_block n b names)) _ _
    (params_hold n (after_block n b names) Bit S
    (each_map (λ m. is_among S m ≡ true) (λ m. IsHeld n Bit (after_block n b names m)) state S
    (each_self S)))
    (params_hold n (after_block n b names) Word (word_names b)
    (each_both (λ m. is_among (targets b) m ≡ true) (λ m. not (is_among S m)
    ≡ true) (λ m. IsHeld n Word (after_block n b names m)) word (word_names b)
    (each_kept (λ m. not (is_among S m)) (λ m. is_among (targets b) m
    ≡ true) (targets b) (each_self (targets b)))
    (filter_each (λ m. not (is_among S m)) (targets b))))

defined_hold : (st : Statement) (c : Context) (n : ℕ) (names : List ℕ → NameValue)
    → StatementMeets c st
    → Each (Holds n names) c.known → Each (Holds n (after_statement n names st))
    (defines c.known st)
defined_hold (Compute target None p args) c n names m h =
    let v = computed n p (map names args) in (
      held_moves (changed names target v target) v
          (this names target v target (is_same target target refl))
          (computed_held n names c target None p args m h),
      tt,
    )
defined_hold (Compute target (Some second) p args) c n names m h =
    let v = computed n p (map names args) in
    let w = second_computed n p (map names args) in
    let first = changed names target v in
    let other = (second_facts c target second (second_kind p) m.others).other in (
      held_moves (changed first second w target) v
          (unchanged first second w target (other_way second target ∙ other)
          ∙ this names target v target (is_same target target refl))
          (computed_held n names c target (Some second) p args m h),
      (
        held_moves (changed first second w second) w
            (this first second w second (is_same second second refl)) (holding_held n _ _),
        tt,
      ),
    )
defined_hold (Visit b) c n names m h = block_hold n names b

-- what is known stays as it is
known_stay : (n : ℕ) (names after : List ℕ → NameValue) (ps : List Param)
    → Each (λ (p : Param). after p.name ≡ names p.name) ps → Each (Holds n names) ps
    → Each (Holds n after) ps
known_stay n names after [] e h = tt
known_stay n names after (p ∷ ps) e h = (
  held_moves (after p.name) (names p.name) e.0 h.0,
  known_stay n names after ps e.1 h.1,
)

each_param : (P : List ℕ → Type 0) (ps : List Param) → Each P (names_of ps)
    → Each (λ (p : Param). P p.name) ps
each_param P [] h = tt
each_param P (p ∷ ps) h = (h.0, each_param P ps h.1)

pub kinds_are_kept : KindsAreKept
kinds_are_kept c st n names m h =
    let new = (statement_apart st c m).new in
    let K = names_of c.known in
    let same =
    each_map (λ a. is_among K a ≡ true) (λ a. after_statement n names st a ≡ names a) (λ a e.
    others_stay c.known st n names a (not_among K (names_of (defines c.known st)) new a e)) K
    (each_self K) in
    each_append (Holds n (after_statement n names st)) c.known (defines c.known st)
    (known_stay n names (after_statement n names st) c.known
    (each_param (λ a. after_statement n names st a ≡ names a) c.known same) h)
    (defined_hold st c n names m h)

body_hold : (body : List Statement) (c : Context) (n : ℕ) (names : List ℕ → NameValue)
    → BodyMeets c body
    → Each (Holds n names) c.known → Each (Holds n (after_body n body names)) (c.known
    ++ body_defines c.known body)
body_hold [] c n names m h = subst (λ (l : List Param). Each (Holds n names) l)
    (sym (append-nil c.known)) h
body_hold (st ∷ body) c n names m h =
    subst (λ (l : List Param). Each (Holds n (after_body n body (after_statement n names st))) l)
    (append_assoc c.known (defines c.known st)
    (body_defines (c.known ++ defines c.known st) body))
    (body_hold body (next_context c st) n (after_statement n names st) m.1
    (kinds_are_kept c st n names m.0 h))

-- the sources
sources_other : (n : ℕ) (ps : List Param) (values : List ℕ) (names : List ℕ
    → NameValue) (m : List ℕ)
    → IsNew (names_of ps) m → with_sources n names ps values m ≡ names m
sources_other n [] values names m h = refl
sources_other n (p ∷ ps) [] names m h = refl
sources_other n (p ∷ ps) (v ∷ values) names m h =
    sources_other n ps values (changed names p.name (holding n p.kind v)) m
    (or_second (bytes_eq p.name m) (is_among (names_of ps) m) h)
    ∙ unchanged names p.name _ m (or_first (bytes_eq p.name m) (is_among (names_of ps) m) h)

sources_hold : (n : ℕ) (ps : List Param) (values : List ℕ) (names : List ℕ → NameValue)
    → Differ (names_of ps) → length values ≡ length ps
    → Each (Holds n (with_sources n names ps values)) ps
sources_hold n [] values names d l = tt
sources_hold n (p ∷ ps) [] names d l = absurd (omega (arith, l))
sources_hold n (p ∷ ps) (v ∷ values) names d l =
    let next = changed names p.name (holding n p.kind v) in (
      held_moves (with_sources n next ps values p.name) (holding n p.kind v)
          (sources_other n ps values next p.name d.0
          ∙ this names p.name _ p.name (is_same p.name p.name refl)) (holding_held n p.kind v),
      sources_hold n ps values next d.1 (omega (arith, l)),
    )

right_half : {A : Type 0} (P : A → Type 0) (xs ys : List A) → Each P (xs ++ ys) → Each P ys
right_half P [] ys h = h
right_half P (x ∷ xs) ys h = right_half P xs ys h.1

-- the context after some statements of a body
abbrev context_after : Context → List Statement → Context
context_after c front = record {
  known = c.known ++ body_defines c.known front;
  lets = c.lets ++ flat_map lets_of front;
  results = c.results;
}

split : (front rest : List Statement) (c : Context) → BodyMeets c (front ++ rest)
    → BodyMeets c front × BodyMeets (context_after c front) rest
split [] rest c m = (
  tt,
  subst (λ (x : Context). BodyMeets x rest) (rw (append-nil c.known, append-nil c.lets) refl)
      m,
)
split (st ∷ front) rest c m =
    let p = split front rest (next_context c st) m.1 in
    let e : context_after (next_context c st) front ≡ context_after c (st ∷ front) =
    rw (
      append_assoc c.known (defines c.known st)
          (body_defines (c.known ++ defines c.known st) front),
      append_assoc c.lets (lets_of st) (flat_map lets_of front),
    ) refl in
    ((m.0, p.0), subst (λ (x : Context). BodyMeets x rest) e p.1)

parts_meet : (op : Operation) (front rest : List Statement) → OperationMeets op
    → op.body ≡ front ++ rest → BodyMeets (at_start op) front
    × BodyMeets (context_at op front) rest
parts_meet op front rest m e = split front rest (at_start op)
    (subst (λ (l : List Statement). BodyMeets (at_start op) l) e m.body)

pub statements_meet : StatementsMeet
statements_meet op front rest s m e = (parts_meet op front (s ∷ rest) m e).1.0

results_hold : (n : ℕ) (names : List ℕ → NameValue) (known : List Param)
    → Each (Holds n names) known
    → (rs : List Param) → Each (λ (r : Param). kind_among known r.name ≡ Some r.kind) rs
    → Each (Holds n names) rs
results_hold n names known h [] e = tt
results_hold n names known h (r ∷ rs) e =
    (held_known n names known h r.name r.kind e.0, results_hold n names known h rs e.1)

pub kinds_are_held : KindsAreHeld
kinds_are_held op n values m l =
    let names = with_sources n holds_nothing op.params values in
    let start = sources_hold n op.params values holds_nothing m.params_differ l in
    let h = body_hold op.body (at_start op) n names m.body start in
    let ds = body_defines op.params op.body in
    record {
      following = λ front rest e. body_hold front (at_start op) n names
          (parts_meet op front rest m e).0 start;
      at_end = results_hold n (after_body n op.body names) ds
          (right_half (Holds n (after_body n op.body names)) op.params ds h) (results op)
          m.results_given;
    }
