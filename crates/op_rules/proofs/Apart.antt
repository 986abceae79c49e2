-- No name of an op stands twice.
use Rattle.op_rules.proofs.Common.{◌≡◌, ℕ, Bool, true, false, not, List, [], ◌∷◌, ◌++◌, Option}
use Rattle.op_rules.proofs.Common.{Some, None, ap, option_to_list, refl, sym, ◌∙◌, append_assoc}
use Rattle.op_rules.proofs.Common.{append-nil, bytes_eq, cond, subst, filter, Kind, Word, Bit}
use Rattle.op_rules.proofs.Common.{Param, second_kind, is_among, Statement, Compute, Visit, kind_of}
use Rattle.op_rules.proofs.Common.{defines, body_defines, state_names, word_names, Each, kind_among}
use Rattle.op_rules.proofs.Common.{is_known}
use Rattle.op_rules.specs.Meets.{IsNew, IsNewOf, Differ, Context, used, names_of, let_names}
use Rattle.op_rules.specs.Meets.{targets, next_context, at_start, StatementMeets, BodyMeets}
use Rattle.op_rules.specs.Meets.{IsKnown}
use Rattle.op_rules.specs.Laws.{NamesStandOnce, TargetsAreApart}
use Rattle.op_rules.proofs.Names.{same_name, other_way, new-left, new-append, each_map, others_new}
use Rattle.op_rules.proofs.Names.{or_first, or_second, or_both}
use Rattle.op_rules.proofs.Standing.{names-append}
use Rattle.op_rules.proofs.Blocks.{block_names, no_other, not_both}
use Rattle.op_rules.proofs.Fitting.{known-among, found_each}
use Rattle.op_rules.proofs.Ops.{each_append, second_facts}

differ-append : (xs ys : List (List ℕ)) → Differ xs → Differ ys → Each (IsNew xs) ys
    → Differ (xs ++ ys)
differ-append [] ys f g h = g
differ-append (x ∷ xs) ys f g h = (
  new-append xs ys x f.0 (others_new x ys (each_map (IsNew (x ∷ xs)) (IsNew (x ∷ [])) (λ y k.
      or_both (bytes_eq x y) false (or_first (bytes_eq x y) (is_among xs y) k) refl) ys h)),
  differ-append xs ys f.1 g (each_map (IsNew (x ∷ xs)) (IsNew xs) (λ y k.
      or_second (bytes_eq x y) (is_among xs y) k) ys h),
)

-- some of the names that differ
filter_new : (q : List ℕ → Bool) (ns : List (List ℕ)) (n : List ℕ) → IsNew ns n
    → IsNew (filter q ns) n
filter_new q [] n h = refl
filter_new q (m ∷ ns) n h = cases (q m) (or_first (bytes_eq m n) (is_among ns n) h)
    (filter_new q ns n (or_second (bytes_eq m n) (is_among ns n) h))
  where
    cases : (b : Bool) → bytes_eq m n ≡ false → IsNew (filter q ns) n
        → IsNew (cond b (m ∷ filter q ns) (filter q ns)) n
    cases true e k = or_both (bytes_eq m n) (is_among (filter q ns) n) e k
    cases false e k = k

filter_differ : (q : List ℕ → Bool) (ns : List (List ℕ)) → Differ ns → Differ (filter q ns)
filter_differ q [] h = tt
filter_differ q (n ∷ ns) h = cases (q n) (filter_new q ns n h.0) (filter_differ q ns h.1)
  where
    cases : (b : Bool) → IsNew (filter q ns) n → Differ (filter q ns)
        → Differ (cond b (n ∷ filter q ns) (filter q ns))
    cases true e k = (e, k)
    cases false e k = k

pub not_true : (b : Bool) → not b ≡ true → b ≡ false
not_true true h = cc
not_true false h = refl

pub filter_each : (q : List ℕ → Bool) (ns : List (List ℕ)) → Each (λ n. q n ≡ true) (filter q ns)
filter_each q [] = tt
filter_each q (n ∷ ns) = cases (q n) refl (filter_each q ns)
  where
    cases : (b : Bool) → q n ≡ b → Each (λ n. q n ≡ true) (filter q ns)
        → Each (λ n. q n ≡ true) (cond b (n ∷ filter q ns) (filter q ns))
    cases true e k = (e, k)
    cases false e k = k

-- the names that a statement defines differ, and none is known
pub record Apart (known : List (List ℕ)) (names : List (List ℕ)) : Type 0 where
  pub differ : Differ names
  pub new : Each (IsNew known) names

new_names : (names lets : List (List ℕ)) (rs : List Param) (k : Kind) (ns : List (List ℕ))
    → Each (IsNewOf (names ++ lets) rs k) ns → Each (IsNew names) ns
new_names names lets rs k ns h = each_map (IsNewOf (names ++ lets) rs k) (IsNew names) (λ n f.
    new-left names lets n f.new) ns h

pub statement_apart : (st : Statement) (c : Context) → StatementMeets c st
    → Apart (names_of c.known) (names_of (defines c.known st))
statement_apart (Compute target None p args) c h = record {
  differ = (refl, tt);
  new = (new-left (names_of c.known) c.lets target h.gives.new, tt);
}
statement_apart (Compute target (Some n) p args) c h =
    let m = second_facts c target n (second_kind p) h.others in
    record {
      differ = (or_both (bytes_eq n target) false (other_way n target ∙ m.other) refl, (refl, tt));
      new = (
        new-left (names_of c.known) c.lets target h.gives.new,
        (new-left (names_of c.known) c.lets n m.gives.new, tt),
      );
    }
statement_apart (Visit b) c h =
    let S = state_names b in
    let W = word_names b in
    let other : Each (IsNew S) W = each_map (λ n. not (is_among S n) ≡ true) (IsNew S) (λ n k.
    not_true (is_among S n) k) W (filter_each (λ n. not (is_among S n)) (targets b)) in
    let words =
    each_map (IsNewOf (used c ++ let_names b) c.results Word) (IsNew (names_of c.known)) (λ n f.
    new-left (names_of c.known) c.lets n (new-left (used c) (let_names b) n f.new)) W h.words in
    let a : Apart (names_of c.known) (S ++ W) = record {
      differ = differ-append S W h.states_differ
          (filter_differ (λ n. not (is_among S n)) (targets b) h.targets_differ) other;
      new = each_append (IsNew (names_of c.known)) S W
          (new_names (names_of c.known) c.lets c.results Bit S h.states) words;
    } in
    subst (λ (l : List (List ℕ)). Apart (names_of c.known) l) (sym (block_names S W)) a

body_apart : (body : List Statement) (c : Context) → Differ (names_of c.known) → BodyMeets c body
    → Differ (names_of (c.known ++ body_defines c.known body))
body_apart [] c d h = subst (λ (l : List Param). Differ (names_of l)) (sym (append-nil c.known)) d
body_apart (st ∷ body) c d h =
    let a = statement_apart st c h.0 in
    let more = subst (λ (l : List (List ℕ)). Differ l)
    (sym (names-append c.known (defines c.known st)))
    (differ-append (names_of c.known) (names_of (defines c.known st)) d a.differ a.new) in
    subst (λ (l : List Param). Differ (names_of l))
    (append_assoc c.known (defines c.known st)
    (body_defines (c.known ++ defines c.known st) body))
    (body_apart body (next_context c st) more h.1)

-- a name that is known is among the names
pub is_named : (known : List Param) (n : List ℕ) (k : Kind) → kind_among known n ≡ Some k
    → is_among (names_of known) n ≡ true
is_named known n k h = sym (known-among known n) ∙ ap is_known h

no_argument : (known : List Param) (n : List ℕ) → IsNew (names_of known) n
    → (args : List (List ℕ)) → Each (IsKnown known) args → IsNew args n
no_argument known n f [] h = refl
no_argument known n f (a ∷ args) h =
    or_both (bytes_eq a n) (is_among args n) (no_other (bytes_eq a n) (λ q.
    not_both (is_among (names_of known) a) (is_named known a (kind_of known a) h.0)
    (ap (is_among (names_of known)) (same_name a n q) ∙ f))) (no_argument known n f args h.1)

pub targets_are_apart : TargetsAreApart
targets_are_apart c target second p args h =
    both second (statement_apart (Compute target second p args) c h)
  where
    both : (second : Option (List ℕ)) → Apart (names_of c.known) (names_of
        (defines c.known (Compute target second p args)))
        → Differ (target ∷ option_to_list second)
        × Each (IsNew args) (target ∷ option_to_list second)
    both None a = (a.differ, (no_argument c.known target a.new.0 args h.known, tt))
    both (Some n) a = (
      a.differ,
      (
        no_argument c.known target a.new.0 args h.known,
        (no_argument c.known n a.new.1.0 args h.known, tt),
      ),
    )

-- in an op that meets the rules no name stands twice
pub names_stand_once : NamesStandOnce
names_stand_once op h =
    let d = body_apart op.body (at_start op) h.params_differ h.body in
    record { differ = d; found = found_each (op.params ++ body_defines op.params op.body) d }
