-- Ops that break no rule meet the rules.
use Rattle.op_rules.proofs.Common.{◌≡◌, ℕ, ◌+◌, ◌<◌, ◌≤◌, Bool, true, false, not, ◌||◌, nat_le}
use Rattle.op_rules.proofs.Common.{List, [], ◌∷◌, ◌++◌, map, length, arith, Some, None, refl, sym}
use Rattle.op_rules.proofs.Common.{ap, ◌∙◌, codes, append_assoc, append-nil, bytes_eq, cond, subst}
use Rattle.op_rules.proofs.Common.{Option, list_any, unwrap_or, length-append, Kind, Word, Bit}
use Rattle.op_rules.proofs.Common.{Param, Wanted, spelling_of, is_among, Statement, Compute, Visit}
use Rattle.op_rules.proofs.Common.{Operation, results, result_names, WordOp, param, defines}
use Rattle.op_rules.proofs.Common.{body_defines, op_text, second_kind, items_spelled}
use Rattle.op_rules.proofs.Common.{between_commas, in_turn, name_text, param_text, statement_text}
use Rattle.op_rules.proofs.Common.{operation_text, MeetRules, Each, HasStatement, HasOperation}
use Rattle.op_rules.proofs.Common.{Open, Scope, breach_of, is_bad, kind_among, is_known, second_of}
use Rattle.op_text.specs.declared.wanted.Wanted.TheVariants.{Stmts, Ops, NewOp, NewParam, ParamKind}
use Rattle.op_text.specs.declared.wanted.Wanted.TheVariants.{Params, Arrow, NewResult, ResultKind}
use Rattle.op_text.specs.declared.wanted.Wanted.TheVariants.{SecondResult, Colon, FirstStmt}
use Rattle.grammar.specs.Machine as machine
use Rattle.op_text.specs.declared.fault.OpsKind.TheVariants as why
use Rattle.op_rules.specs.Meets.{IsNew, IsNewOf, Context, names_of, next_context, StatementMeets}
use Rattle.op_rules.specs.Meets.{BodyMeets, OperationMeets, OpsMeet, at_start, SecondMeets}
use Rattle.op_rules.specs.Meets.{IsSecondTarget}
use Rattle.op_rules.proofs.Names.{AllFresh, same_name, among-append, or_first, or_second, fresh-new}
use Rattle.op_rules.proofs.Names.{fresh-differ}
use Rattle.op_rules.proofs.Fitting.{known-among, Fits, found_each}
use Rattle.op_rules.proofs.Tokens.{goes, name_lexeme, named, one_rule, two_rules, not_bad, le_no}
use Rattle.op_rules.proofs.Tokens.{not_not}
use Rattle.op_rules.proofs.Standing.{Standing, names-append}
use Rattle.op_rules.proofs.Words.{at_statement, AfterStatement, word_peels, mark, target_end}
use Rattle.op_rules.proofs.Blocks.{block_peels}
use Rattle.op_rules.proofs.Heads.{in_params, params_peel, results_text, results_peel}

statement_peels : (st : Statement) (ops stands : List (List ℕ)) (c : Context)
    (count : ℕ) (wanted : List Wanted) (rest : List (List ℕ)) → HasStatement st
    → Standing stands c
    → breach_of (Stmts ∷ wanted) (at_statement ops stands c count)
    (items_spelled (statement_text st rest)) ≡ None → AfterStatement st ops c count wanted rest
statement_peels (Compute target second p args) ops stands c count wanted rest n s h =
    word_peels target second p args ops stands c count wanted rest n s h
statement_peels (Visit b) ops stands c count wanted rest n s h =
    block_peels b ops stands c count wanted rest n s h

-- all results can be read, and so are assigned
abbrev pub AllGiven : List Param → List Param → Type 0
AllGiven known rs = Each (λ (r : Param). is_among (names_of known) r.name ≡ true) rs

all_given : (known rs : List Param)
    → list_any (λ (r : Param). not (is_known (kind_among known r.name))) rs ≡ false
    → AllGiven known rs
all_given known [] h = tt
all_given known (r ∷ rs) h =
    let open_ = not (is_known (kind_among known r.name)) in
    let more = list_any (λ (r : Param). not (is_known (kind_among known r.name))) rs in (
      sym (known-among known r.name)
          ∙ not_not (is_known (kind_among known r.name)) (or_first open_ more h),
      all_given known rs (or_second open_ more h),
    )

pub given_moves : (a b rs : List Param) → a ≡ b → AllGiven a rs → AllGiven b rs
given_moves a b rs e h = subst (λ (l : List Param). AllGiven l rs) e h

-- a body, and the "}" after it
record WholeBody (body : List Statement) (ops : List (List ℕ)) (c : Context) (count : ℕ)
    (wanted : List Wanted) (rest : List (List ℕ)) : Type 0 where
  meets : BodyMeets c body
  few : count + length body ≤ 16
  given : AllGiven (c.known ++ body_defines c.known body) c.results
  then : breach_of wanted (in_params ops [] []) (items_spelled rest) ≡ None

body_peels : (body : List Statement) (ops stands : List (List ℕ)) (c : Context)
    (count : ℕ) (wanted : List Wanted) (rest : List (List ℕ)) → Each HasStatement body
    → Standing stands c
    → count ≤ 16 → breach_of (Stmts ∷ wanted) (at_statement ops stands c count)
    (items_spelled (in_turn statement_text body (codes "}" ∷ rest))) ≡ None
    → WholeBody body ops c count wanted rest
unfolding machine.breach_of
body_peels [] ops stands c count wanted rest n s l h =
    let k = one_rule (list_any (λ (r : Param). not (is_known (kind_among c.known r.name)))
    c.results) why.NoResult (in_params ops [] []) [] (mark (codes "}"))
    (goes wanted rest) h in
    record {
      meets = tt;
      few = omega arith;
      given = given_moves c.known (c.known ++ []) c.results (sym (append-nil c.known))
          (all_given c.known c.results k.0);
      then = k.1;
    }
body_peels (st ∷ body) ops stands c count wanted rest n s l h =
    let p = statement_peels st ops stands c count wanted
    (in_turn statement_text body (codes "}" ∷ rest)) n.0 s h in
    let q = body_peels body ops p.stands (next_context c st) (count + 1) wanted rest n.1
    p.standing (let i = p.few in omega arith) p.then in
    record {
      meets = (p.meets, q.meets);
      few = let i = q.few in omega arith;
      given = given_moves _ (c.known ++ body_defines c.known (st ∷ body)) c.results
          (append_assoc c.known (defines c.known st)
          (body_defines (c.known ++ defines c.known st) body)) q.given;
      then = q.then;
    }

-- the first statement stands as a later one does
pub first_same : (st : Statement) (s : Scope) (wanted : List Wanted) (rest : List (List ℕ))
    → HasStatement st
    → breach_of (FirstStmt ∷ wanted) s (items_spelled (statement_text st rest))
    ≡ breach_of (Stmts ∷ wanted) s (items_spelled (statement_text st rest))
unfolding machine.breach_of
first_same (Compute target second p args) s wanted rest n =
    let more = target_end second (op_text p ∷ codes "("
    ∷ between_commas name_text args (codes ")" ∷ codes ";" ∷ rest)) in
    named FirstStmt wanted s target more n.0 ∙ sym (named Stmts wanted s target more n.0)
first_same (Visit b) s wanted rest n = refl

first_peels : (body : List Statement) (s : Scope) (wanted : List Wanted) (rest : List (List ℕ))
    → Each HasStatement body
    → breach_of (FirstStmt ∷ wanted) s (items_spelled
    (in_turn statement_text body (codes "}" ∷ rest))) ≡ None
    → (1 ≤ length body)
    × (breach_of (Stmts ∷ wanted) s (items_spelled
    (in_turn statement_text body (codes "}" ∷ rest))) ≡ None)
unfolding machine.breach_of
first_peels [] s wanted rest n h = cc
first_peels (st ∷ body) s wanted rest n h = (
  omega arith,
  sym (first_same st s wanted (in_turn statement_text body (codes "}" ∷ rest)) n.0) ∙ h,
)

-- what holds of both lists holds of both together
pub each_append : {A : Type 0} (P : A → Type 0) (xs ys : List A) → Each P xs → Each P ys
    → Each P (xs ++ ys)
each_append P [] ys g h = h
each_append P (x ∷ xs) ys g h = (g.0, each_append P xs ys g.1 h)

-- a name that is a result's is of the result's kind
abbrev FitsResults : List Param → Param → Type 0
FitsResults rs p = Fits (kind_among rs p.name) p.kind

names_fit : (names : List (List ℕ)) (rs : List Param) (k : Kind) (ns : List (List ℕ))
    → Each (IsNewOf names rs k) ns → Each (FitsResults rs) (map (λ n. param n k) ns)
names_fit names rs k [] h = tt
names_fit names rs k (n ∷ ns) h = (h.0.fits, names_fit names rs k ns h.1)

-- a second target that stands is of its operation's second kind
pub second_facts : (c : Context) (target name : List ℕ) (o : Option Kind)
    → SecondMeets c target (Some name) o → IsSecondTarget c target (unwrap_or o Word) name
second_facts c target name None m = absurd m
second_facts c target name (Some k) m = m

second_fits : (c : Context) (target : List ℕ) (second : Option (List ℕ)) (p : WordOp)
    → SecondMeets c target second (second_kind p)
    → Each (FitsResults c.results) (second_of second p)
second_fits c target None p m = tt
second_fits c target (Some n) p m = ((second_facts c target n (second_kind p) m).gives.fits, tt)

statement_fits : (st : Statement) (c : Context) → StatementMeets c st
    → Each (FitsResults c.results) (defines c.known st)
statement_fits (Compute target second p args) c h =
    (h.gives.fits, second_fits c target second p h.others)
statement_fits (Visit b) c h = each_append (FitsResults c.results) _ _
    (names_fit _ c.results Bit _ h.states) (names_fit _ c.results Word _ h.words)

body_fits : (body : List Statement) (c : Context) → BodyMeets c body
    → Each (FitsResults c.results) (body_defines c.known body)
body_fits [] c h = tt
body_fits (st ∷ body) c h = each_append (FitsResults c.results) (defines c.known st) _
    (statement_fits st c h.0) (body_fits body (next_context c st) h.1)

found : (ps rs : List Param) (r : Param) → Each (FitsResults rs) ps
    → kind_among rs r.name ≡ Some r.kind
    → is_among (names_of ps) r.name ≡ true → kind_among ps r.name ≡ Some r.kind
found [] rs r f k h = cc
found (p ∷ ps) rs r f k h = cases (bytes_eq p.name r.name) refl h (λ g. found ps rs r f.1 k g)
  where
    cases : (b : Bool) → bytes_eq p.name r.name ≡ b → (b || is_among (names_of ps) r.name) ≡ true
        → (is_among (names_of ps) r.name ≡ true → kind_among ps r.name ≡ Some r.kind)
        → cond b (Some p.kind) (kind_among ps r.name) ≡ Some r.kind
    cases true e g go = ap Some (sym (f.0 r.kind (ap (kind_among rs) (same_name p.name r.name e)
        ∙ k)))
    cases false e g go = go g

right_true : (a b : Bool) → (a || b) ≡ true → a ≡ false → b ≡ true
right_true true b h g = cc
right_true false b h g = h

-- the results' kinds, where a body that meets the rules gives them
results_given : (params ds all rs : List Param) → Each (FitsResults all) ds
    → Each (λ (r : Param). kind_among all r.name ≡ Some r.kind) rs
    → Each (IsNew (names_of params)) (names_of rs) → AllGiven (params ++ ds) rs
    → Each (λ (r : Param). kind_among ds r.name ≡ Some r.kind) rs
results_given params ds all [] f k n h = tt
results_given params ds all (r ∷ rs) f k n h = (
  found ds all r f k.0
      (right_true (is_among (names_of params) r.name) (is_among (names_of ds) r.name)
      (sym (among-append (names_of params) (names_of ds) r.name)
      ∙ ap (λ l. is_among l r.name) (sym (names-append params ds)) ∙ h.0) n.0),
  results_given params ds all rs f k.1 n.1 h.1,
)

pub start_standing : (op : Operation)
    → Standing (names_of op.params ++ result_names op) (at_start op)
start_standing op = record {
  all = λ n.
      among-append (names_of op.params) (result_names op) n
      ∙ ap (λ x. is_among (names_of op.params) n || x) (sym (known-among (results op) n))
      ∙ ap (λ l. is_among l n || is_known (kind_among (results op) n))
      (sym (append-nil (names_of op.params)));
  free = λ n q. refl;
}

-- what stands after an op
record AfterOp (op : Operation) (ops : List (List ℕ)) (rest : List (List ℕ)) : Type 0 where
  meets : OperationMeets op
  few : length ops < 32
  fresh : IsNew ops op.name
  then : breach_of (Ops ∷ []) (in_params (ops ++ op.name ∷ []) [] []) (items_spelled rest) ≡ None

op_peels : (op : Operation) (ops : List (List ℕ)) (rest : List (List ℕ)) → HasOperation op
    → breach_of (Ops ∷ []) (in_params ops [] []) (items_spelled (operation_text op rest)) ≡ None
    → AfterOp op ops rest
unfolding machine.breach_of
op_peels op ops rest n h =
    let body = in_turn statement_text op.body (codes "}" ∷ rest) in
    let head = codes "->" ∷ results_text op.result op.second body in
    let params = between_commas param_text op.params (codes ")" ∷ head) in
    let first = NewResult ∷ Colon ∷ ResultKind ∷ SecondResult ∷ FirstStmt ∷ Ops ∷ [] in
    let following = Open ∷ NewParam ∷ Colon ∷ ParamKind ∷ Params ∷ Arrow ∷ first in
    let a = one_rule (nat_le 32 (length ops)) why.TooMany (in_params ops [] []) (NewOp
    ∷ following) (name_lexeme (codes "op")) (goes [] (op.name ∷ codes "(" ∷ params)) h in
    let g = sym (named NewOp following (in_params ops [] []) op.name (codes "(" ∷ params) n.name)
    ∙ a.1 in
    let more = ops ++ op.name ∷ [] in
    let b =
    two_rules (is_bad (spelling_of op.name) op.name || bytes_eq op.name (codes "trsp_init"))
    (is_among ops op.name) why.BadName why.Twice
    (in_params more [] []) [] (name_lexeme op.name) (goes following (codes "(" ∷ params)) g in
    let p = params_peel op.params more (Arrow ∷ first) head n.params b.2 in
    let q = p.1 in
    let r = results_peel more (names_of op.params) op.params op.result op.second (FirstStmt ∷ Ops
    ∷ []) body n.result n.second q.then in
    let new = fresh-new (names_of op.params) (result_names op) r.fresh in
    let differ = fresh-differ (names_of op.params) (result_names op) r.fresh in
    let stands = names_of op.params ++ result_names op in
    let f = first_peels op.body (at_statement more stands (at_start op) 0) (Ops ∷ []) rest n.body
    r.then in
    let w = body_peels op.body more stands (at_start op) 0 (Ops ∷ []) rest n.body
    (start_standing op) (omega arith) f.1 in
    record {
      meets = record {
        name = not_bad op.name (or_first (is_bad (spelling_of op.name) op.name)
            (bytes_eq op.name (codes "trsp_init")) b.0);
        not_reserved = or_second (is_bad (spelling_of op.name) op.name)
            (bytes_eq op.name (codes "trsp_init")) b.0;
        has_params = p.0;
        few_params = let i = q.few in omega arith;
        params = q.good;
        params_differ = fresh-differ [] (names_of op.params) q.fresh;
        results_good = r.good;
        results_new = new;
        results_differ = differ;
        has_body = f.0;
        few_statements = let i = w.few in omega arith;
        body = w.meets;
        results_given = results_given op.params (body_defines op.params op.body) (results op)
            (results op) (body_fits op.body (at_start op) w.meets) (found_each (results op) differ)
            new w.given;
      };
      few = le_no 32 (length ops) a.0;
      fresh = b.1;
      then = w.then;
    }

ops_peel : (all : List Operation) (ops : List (List ℕ)) → Each HasOperation all → length ops ≤ 32
    → breach_of (Ops ∷ []) (in_params ops [] []) (items_spelled (in_turn operation_text all []))
    ≡ None
    → Each OperationMeets all × AllFresh ops (map (λ (op : Operation). op.name) all)
    × (length ops + length all ≤ 32)
ops_peel [] ops n l h = (tt, tt, omega arith)
ops_peel (op ∷ all) ops n l h =
    let p = op_peels op ops (in_turn operation_text all []) n.0 h in
    let e = length-append ops (op.name ∷ []) in
    let q = ops_peel all (ops ++ op.name ∷ []) n.1 (let i = p.few in omega arith) p.then in
    ((p.meets, q.0), (p.fresh, q.1), let i = q.2 in omega arith)

pub rules_are_met : (all : List Operation) → Each HasOperation all → MeetRules all → OpsMeet all
rules_are_met all n h =
    let p = ops_peel all [] n (omega arith) h in
    record {
      few_ops = let i = p.2 in omega arith;
      differ = fresh-differ [] (map (λ (op : Operation). op.name) all) p.1;
      each = p.0;
    }
