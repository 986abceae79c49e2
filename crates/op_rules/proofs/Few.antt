-- The names of an op are few.
use Rattle.op_rules.proofs.Common.{◌≡◌, ℕ, ◌+◌, ◌*◌, ◌≤◌, length, lit≤, Bool, false, not, ◌&&◌, map}
use Rattle.op_rules.proofs.Common.{count_by, List, [], ◌∷◌, ◌++◌, refl, ap, ◌∙◌, cond, zero-add}
use Rattle.op_rules.proofs.Common.{arith, Some, None, filter, length-map, sum_by-cons, Kind, Word}
use Rattle.op_rules.proofs.Common.{Bit, Param, WordOp, same_kind, is_among, Statement, Compute}
use Rattle.op_rules.proofs.Common.{Visit, Equation, result_names, param, defines, body_defines}
use Rattle.op_rules.proofs.Common.{state_names, word_names, bits_inside, words_inside, need_inside}
use Rattle.op_rules.proofs.Common.{greatest, scratch_names, sum_by-append, count_by-le-length}
use Rattle.std.proofs.lemmas.List.Sums.{length-filter}
use Rattle.std.proofs.lemmas.Bool.Decides.{nat_tests}
use Rattle.op_text.specs.declared.word_ops.WordOp.TheVariants as o
use Rattle.op_rules.specs.Meets.{Context, next_context, at_start, targets, StatementMeets}
use Rattle.op_rules.specs.Meets.{BodyMeets}
use Rattle.op_rules.specs.Laws.{ScratchIsSmall}

-- a name of a kind, other than these
abbrev is_counted : Kind → List (List ℕ) → Param → Bool
is_counted k r = λ p. same_kind p.kind k && not (is_among r p.name)

count-append : (p : Param → Bool) (xs ys : List Param)
    → count_by p (xs ++ ys) ≡ count_by p xs + count_by p ys
count-append p xs ys = sum_by-append (λ x. cond (p x) 1 0) xs ys

count-cons : {X : Type 0} (p : X → Bool) (x : X) (xs : List X)
    → count_by p (x ∷ xs) ≡ cond (p x) 1 0 + count_by p xs
count-cons p x xs = sum_by-cons (λ y. cond (p y) 1 0) x xs

none_counted : (j k : Kind) (r : List (List ℕ)) → same_kind j k ≡ false → (ns : List (List ℕ))
    → count_by (is_counted k r) (map (λ n. param n j) ns) ≡ 0
none_counted j k r e [] = refl
none_counted j k r e (n ∷ ns) =
    count-cons (is_counted k r) (param n j) (map (λ n. param n j) ns)
    ∙ ap (λ b. cond (b && not (is_among r n)) 1 0
    + count_by (is_counted k r) (map (λ n. param n j) ns)) e
    ∙ zero-add _ ∙ none_counted j k r e ns

few_counted : (p : Param → Bool) (j : Kind) (ns : List (List ℕ))
    → count_by p (map (λ n. param n j) ns) ≤ length ns
few_counted p j ns =
    let h = count_by-le-length p (map (λ n. param n j) ns) in
    let e = length-map ns (λ n. param n j) in
    omega arith

filter_few : (q : List ℕ → Bool) (ns : List (List ℕ)) → length (filter q ns) ≤ length ns
filter_few q ns = let e = length-filter q ns in let h = count_by-le-length q ns in omega arith

statement_few : (k : Kind) (r : List (List ℕ)) (st : Statement) (c : Context) → StatementMeets c st
    → count_by (is_counted k r) (defines c.known st) ≤ 8
statement_few k r (Compute target None p args) c h = let i =
    count_by-le-length (is_counted k r) (defines c.known (Compute target None p args)) in
    omega arith
statement_few k r (Compute target (Some n) p args) c h = let i =
    count_by-le-length (is_counted k r) (defines c.known (Compute target (Some n) p args)) in
    omega arith
statement_few Bit r (Visit b) c h =
    let S = state_names b in
    let W = word_names b in
    let e = count-append (is_counted Bit r) (map (λ n. param n Bit) S) (map (λ n. param n Word) W)
    in
    let none = none_counted Word Bit r refl W in
    let few = few_counted (is_counted Bit r) Bit S in
    let l = length-map b.states (λ s. s.name) in
    let i = h.few_states in
    omega arith
statement_few Word r (Visit b) c h =
    let S = state_names b in
    let W = word_names b in
    let e = count-append (is_counted Word r) (map (λ n. param n Bit) S) (map (λ n. param n Word) W)
    in
    let none = none_counted Bit Word r refl S in
    let few = few_counted (is_counted Word r) Word W in
    let f = filter_few (λ n. not (is_among S n)) (targets b) in
    let l = length-map b.assigns (λ (e : Equation). e.name) in
    let i = h.few_assigns in
    omega arith

body_few : (k : Kind) (r : List (List ℕ)) (body : List Statement) (c : Context) → BodyMeets c body
    → count_by (is_counted k r) (body_defines c.known body) ≤ 8 * length body
body_few k r [] c h = lit≤ tt
body_few k r (st ∷ body) c h =
    let e = count-append (is_counted k r) (defines c.known st)
    (body_defines (c.known ++ defines c.known st) body) in
    let a = statement_few k r st c h.0 in
    let b = body_few k r body (next_context c st) h.1 in
    omega arith

need_small : (f : WordOp → ℕ) (body : List Statement) → ((p : WordOp) → f p ≤ 2)
    → greatest (map (need_inside f) body) ≤ 2
need_small f [] h = omega arith
need_small f (Compute target second p args ∷ body) h = let k = need_small f body h in let m = h p in
    grind (arith, nat_tests)
need_small f (Visit b ∷ body) h = let k = need_small f body h in grind (arith, nat_tests)

few_bits : (p : WordOp) → bits_inside p ≤ 2
few_bits o.Div = lit≤ tt
few_bits _ = lit≤ tt

few_words : (p : WordOp) → words_inside p ≤ 2
few_words o.Div = lit≤ tt
few_words _ = lit≤ tt

-- an op that meets the rules needs few rows of scratch
pub scratch_is_small : ScratchIsSmall
scratch_is_small op h =
    let l = h.few_statements in
    let names : (k : Kind) → scratch_names k op ≤ 128 = λ k. let b =
    body_few k (result_names op) op.body (at_start op) h.body in omega arith in
    let b = names Bit in
    let w = names Word in
    let m = need_small bits_inside op.body few_bits in
    let n = need_small words_inside op.body few_words in
    record { names = names; bits = omega arith; words = omega arith }
