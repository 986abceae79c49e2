-- Names among others, and what a statement leaves of the others.
use Rattle.uprog_gen.proofs.Common.{or_left, or_right, ◌≡◌, ℕ, Bool, true, false, not, ◌||◌, cond}
use Rattle.uprog_gen.proofs.Common.{List, [], ◌∷◌, ◌++◌, map, Some, None, refl, sym, ap, ◌∙◌, subst}
use Rattle.uprog_gen.proofs.Common.{bytes_eq, ◌⊎◌, inl, inr, arith, filter, Kind, State, Equation}
use Rattle.uprog_gen.proofs.Common.{Statement, Compute, Visit, is_among, kind_among, NameValue}
use Rattle.uprog_gen.proofs.Common.{changed, after_statement, param, state_names, word_names, Each}
use Rattle.uprog_gen.proofs.Common.{targets, same_name, other_way, among-append, or_first}
use Rattle.uprog_gen.proofs.Common.{written_names}
use Rattle.std.specs.Prelude.{fold}
use Rattle.op_text.specs.Language.{Block}
use Rattle.op_text.specs.Meaning.{bit_written, term_bit, bit_read, with_lets, assigned, visited}
use Rattle.op_text.specs.Meaning.{positions, with_blanks, with_states, computed}
use Rattle.uprog_gen.proofs.Naming.Lays.{by_bool}

pub or_split : (a b : Bool) → (a || b) ≡ true → (a ≡ true) ⊎ (b ≡ true)
or_split true b h = inl refl
or_split false b h = inr h

-- what holds of each of the names
pub each_among : (P : List ℕ → Type 0) (ns : List (List ℕ)) (name : List ℕ) → Each P ns
    → is_among ns name ≡ true → P name
each_among P [] name h e = absurd (cc)
each_among P (n ∷ ns) name h e = by_bool (λ b. (b || is_among ns name) ≡ true
    → P name) (bytes_eq n name) (λ s f. subst P (same_name n name s) h.0) (λ s f.
    each_among P ns name h.1 f) e

pub among_left : (xs ys : List (List ℕ)) (name : List ℕ) → is_among xs name ≡ true
    → is_among (xs ++ ys) name ≡ true
among_left xs ys name h = among-append xs ys name ∙ or_left (is_among xs name) (is_among ys name) h

pub among_right : (xs ys : List (List ℕ)) (name : List ℕ) → is_among ys name ≡ true
    → is_among (xs ++ ys) name ≡ true
among_right xs ys name h = among-append xs ys name
    ∙ or_right (is_among xs name) (is_among ys name) h

pub among_split : (xs ys : List (List ℕ)) (name : List ℕ) → is_among (xs ++ ys) name ≡ true
    → (is_among xs name ≡ true) ⊎ (is_among ys name ≡ true)
among_split xs ys name h = or_split (is_among xs name) (is_among ys name)
    (sym (among-append xs ys name) ∙ h)

-- the names that pass a test
pub filter_among : (q : List ℕ → Bool) (ns : List (List ℕ)) (name : List ℕ)
    → is_among (filter q ns) name ≡ true → (is_among ns name ≡ true) × (q name ≡ true)
filter_among q [] name h = absurd (cc)
filter_among q (n ∷ ns) name h =
    let more = filter_among q ns name in
    let same = λ (e : bytes_eq n name ≡ true). ap q (same_name n name e) in
    (grind (arith, h, more), grind (arith, h, more, same))

pub among_filter : (q : List ℕ → Bool) (ns : List (List ℕ)) (name : List ℕ)
    → is_among ns name ≡ true → q name ≡ true → is_among (filter q ns) name ≡ true
among_filter q [] name h t = h
among_filter q (n ∷ ns) name h t =
    let more = λ (e : is_among ns name ≡ true). among_filter q ns name e t in
    let same = λ (e : bytes_eq n name ≡ true). ap q (same_name n name e) in
    grind (arith, h, t, more, same)

-- names that are given one kind
pub one_kind : (k : Kind) (ns : List (List ℕ)) (name : List ℕ) → is_among ns name ≡ true
    → kind_among (map (λ n. param n k) ns) name ≡ Some k
one_kind k [] name h = absurd (cc)
one_kind k (n ∷ ns) name h = let more = one_kind k ns name in grind (arith, h, more)

-- the names that are not set
pub changed_other : {V : Type 0} (names : List ℕ → V) (m name : List ℕ) (v : V)
    → bytes_eq m name ≡ false → changed names m v name ≡ names name
changed_other names m name v h = ap (λ b. cond b v (names name)) (other_way name m ∙ h)

assigned_other : (r : List ℕ → Bool) (i : ℕ) (names : List ℕ
    → NameValue) (es : List Equation) (name : List ℕ)
    → is_among (map (λ (e : Equation). e.name) es) name ≡ false
    → assigned r i names es name ≡ names name
assigned_other r i names [] name h = refl
assigned_other r i names (e ∷ es) name h =
    let v = bit_written i (names e.name) (term_bit r e.value) in
    assigned_other r i (changed names e.name v) es name (grind (arith, h))
    ∙ changed_other names e.name name v (grind (arith, h))

visits_other : (b : Block) (ps : List ℕ) (names : List ℕ → NameValue) (name : List ℕ)
    → is_among (targets b) name ≡ false → fold (visited b) names ps name ≡ names name
visits_other b [] names name h = refl
visits_other b (i ∷ ps) names name h = visits_other b ps (visited b names i) name h
    ∙ assigned_other (with_lets (λ n. bit_read i (names n)) b.lets) i names b.assigns name h

blanks_other : (n : ℕ) (names : List ℕ → NameValue) (es : List Equation) (name : List ℕ)
    → is_among (map (λ (e : Equation). e.name) es) name ≡ false
    → with_blanks n names es name ≡ names name
blanks_other n names [] name h = refl
blanks_other n names (e ∷ es) name h =
    blanks_other n (changed names e.name _) es name (grind (arith, h))
    ∙ changed_other names e.name name _ (grind (arith, h))

states_other : (names : List ℕ → NameValue) (ss : List State) (name : List ℕ)
    → is_among (map (λ (s : State). s.name) ss) name ≡ false
    → with_states names ss name ≡ names name
states_other names [] name h = refl
states_other names (s ∷ ss) name h =
    states_other (changed names s.name _) ss name (grind (arith, h))
    ∙ changed_other names s.name name _ (grind (arith, h))

-- a target is a state or a word
no_target : (b : Block) (name : List ℕ) → is_among (state_names b) name ≡ false
    → is_among (word_names b) name ≡ false → is_among (targets b) name ≡ false
no_target b name s w =
    let f = λ (e : is_among (targets b) name ≡ true).
    among_filter (λ n. not (is_among (state_names b) n)) (targets b) name e (ap not s) in
    grind (arith, w, f)

pub statement_other : (n : ℕ) (held : List ℕ → NameValue) (s : Statement) (name : List ℕ)
    → is_among (written_names s) name ≡ false → after_statement n held s name ≡ held name
statement_other n held (Compute target None p args) name h =
    changed_other held target name _ (or_first (bytes_eq target name) false h)
statement_other n held (Compute target (Some x) p args) name h =
    let first = computed n p (map held args) in
    changed_other (changed held target first) x name _ (grind (arith, h))
    ∙ changed_other held target name first (grind (arith, h))
statement_other n held (Visit b) name h =
    let e = among-append (state_names b) (word_names b) name in
    let s : is_among (state_names b) name ≡ false = grind (arith, e, h) in
    let t = no_target b name s (grind (arith, e, h)) in
    visits_other b (positions b.down n) (with_states (with_blanks n held b.assigns) b.states) name t
    ∙ states_other (with_blanks n held b.assigns) b.states name s
    ∙ blanks_other n held b.assigns name t
