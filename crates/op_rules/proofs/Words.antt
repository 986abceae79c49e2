-- A word statement that breaks no rule meets the rules.
use Rattle.op_rules.proofs.Common.{◌≡◌, ℕ, ◌+◌, ◌<◌, Bool, true, false, not, ◌||◌, nat_le, List, []}
use Rattle.op_rules.proofs.Common.{◌∷◌, ◌++◌, map, Option, Some, None, refl, sym, ap, ◌∙◌, codes}
use Rattle.op_rules.proofs.Common.{subst, append_assoc, append-nil, bytes_eq, unwrap_or, list_any}
use Rattle.op_rules.proofs.Common.{Item, Lexeme, Spelling, Kind, Word, Param, WordOp, Wanted}
use Rattle.op_rules.proofs.Common.{statement, spelling_of, op_text, forms, filled, lacks, is_part}
use Rattle.op_rules.proofs.Common.{is_whole, is_begun, given_first, first_of, second_kind, after}
use Rattle.op_rules.proofs.Common.{is_among, Statement, Compute, kind_of, result_kind, param}
use Rattle.op_rules.proofs.Common.{defines, items_spelled, after_comma, between_commas}
use Rattle.op_rules.proofs.Common.{after_commas, name_text, statement_text, Each, IfThere, IsName}
use Rattle.op_rules.proofs.Common.{HasStatement, Open, Equals, Scope, breach_of, with_rules, is_bad}
use Rattle.op_rules.proofs.Common.{is_taken_name, is_called, kind_among, is_known, has_targets}
use Rattle.op_rules.proofs.Common.{known_op, statement_rules, argument_of_kind, gives_kind}
use Rattle.op_rules.proofs.Common.{is_other_result, second_of, new_word, new_block}
use Rattle.op_text.specs.declared.wanted.Wanted.TheVariants.{Stmts, WordOpName, Args, ArgName}
use Rattle.op_text.specs.declared.wanted.Wanted.TheVariants.{MoreArgs, WordEnd, Direction}
use Rattle.op_text.specs.declared.wanted.Wanted.TheVariants.{SecondTarget, NewTarget}
use Rattle.text_lex.specs.declared.token.TokenKind.TheVariants as kinds
use Rattle.grammar.specs.Machine as machine
use Rattle.op_text.specs.declared.fault.OpsKind.TheVariants as why
use Rattle.op_text.specs.declared.terminal.Spelling.TheVariants as sp
use Rattle.op_text.specs.declared.word_ops.WordOp.TheVariants as o
use Rattle.op_text.proofs.Operations.{first_settles}
use Rattle.op_rules.specs.Meets.{Context, IsKnown, IsNew, SecondMeets, StatementMeets, next_context}
use Rattle.op_rules.specs.Meets.{used, names_of}
use Rattle.op_rules.proofs.Names.{among-append, or_first, or_second}
use Rattle.op_rules.proofs.Fitting.{same_fits}
use Rattle.op_rules.proofs.Tokens.{Following, goes, name_lexeme, named, one_rule, two_rules}
use Rattle.op_rules.proofs.Tokens.{next_rule, three_rules, not_bad, not_not, le_no}
use Rattle.op_rules.proofs.Standing.{Standing, given-at, standing-more, word_new, more_context}

abbrev pub mark : List ℕ → Lexeme
mark x = record { kind = kinds.Symbol; text = x; start = 0 }

-- the tokens of a word statement after its first target
abbrev pub target_end : Option (List ℕ) → List (List ℕ) → List (List ℕ)
target_end second rest = after_comma name_text second (codes "=" ∷ rest)

-- the first target of a word statement
record AfterTarget (n : Spelling) (s : Scope) (target : List ℕ) (wanted : List Wanted)
    (rest : List (List ℕ)) : Type 0 where
  good : is_bad n target ≡ false
  new : is_taken_name s target ≡ false
  few : nat_le 16 s.op.statements ≡ false
  then : breach_of (SecondTarget ∷ WordOpName ∷ Open ∷ Args ∷ WordEnd ∷ Stmts
      ∷ wanted) (record s {
        op = record s.op { statements = s.op.statements + 1 };
        naming = Some target;
      }) (items_spelled rest) ≡ None

-- no block goes on so
no_block : (second : Option (List ℕ)) (s : Scope) (wanted : List Wanted) (rest : List (List ℕ))
    → IfThere IsName second
    → breach_of (Direction ∷ wanted) s (items_spelled (target_end second rest)) ≡ None → ⊥
unfolding machine.breach_of
no_block None s wanted rest n h = cc
no_block (Some name) s wanted rest n h = cc

target_peels : (n : Spelling) (s : Scope) (target : List ℕ) (second : Option (List ℕ))
    (wanted : List Wanted) (rest : List (List ℕ)) → IfThere IsName second
    → after (with_rules (Some (statement n)) (statement_rules s n target)) (name_lexeme target)
    (goes wanted (target_end second rest)) ≡ None
    → AfterTarget n s target wanted (target_end second rest)
target_peels sp.Plain s target second wanted rest m h =
    let k =
    three_rules (is_bad sp.Plain target) (is_taken_name s target)
    (nat_le 16 s.op.statements) why.BadName why.Twice why.TooMany
    (record s { op = record s.op { statements = s.op.statements + 1 }; naming = Some target })
    (statement sp.Plain) (name_lexeme target) (goes wanted (target_end second rest)) h in
    record { good = k.0; new = k.1; few = k.2; then = k.3 }
target_peels sp.Serial s target second wanted rest m h =
    let k = one_rule (nat_le 16 s.op.statements) why.TooMany
    (record s { op = record s.op { statements = s.op.statements + 1 }; block = new_block })
    (statement sp.Serial) (name_lexeme target) (goes wanted (target_end second rest)) h in
    absurd (no_block second _ _ rest m k.1)
target_peels _ s target second wanted rest m h = cc

-- the scope in a word statement
abbrev pub in_word : Scope → Option (List ℕ) → WordOp → List Kind → Scope
in_word s second p given =
    record s { word = record { second = second; operation = p; given = given } }

-- what the rules say of a second target
pub record SecondFacts (s : Scope) (n : List ℕ) : Type 0 where
  pub good : is_bad (spelling_of n) n ≡ false
  pub new : (is_called s.naming n || is_taken_name s n) ≡ false

-- the second target of a word statement, if there is one
second_peels : (second : Option (List ℕ)) (s : Scope) (wanted : List Wanted)
    (rest : List (List ℕ)) → IfThere IsName second
    → breach_of (SecondTarget ∷ wanted) (in_word s None o.Not [])
    (items_spelled (target_end second rest)) ≡ None
    → IfThere (SecondFacts s) second
    × (breach_of wanted (in_word s second o.Not []) (items_spelled rest) ≡ None)
unfolding machine.breach_of
second_peels None s wanted rest m h = (tt, h)
second_peels (Some n) s wanted rest m h =
    let more = codes "=" ∷ rest in
    let s0 = in_word s None o.Not [] in
    let g = sym (named NewTarget (Equals ∷ wanted) s0 n more m) ∙ h in
    let k = two_rules (is_bad (spelling_of n) n) (is_called s.naming n || is_taken_name s n)
    why.BadName why.Twice (in_word s (Some n) o.Not []) [] (name_lexeme n)
    (goes (Equals ∷ wanted) more) g in
    (record { good = k.0; new = k.1 }, k.2)

-- the name of a word operation
pub operation_goes : (p : WordOp) (s : Scope) (wanted : List Wanted) (rest : List (List ℕ))
    → breach_of (WordOpName ∷ wanted) s (items_spelled (op_text p ∷ rest))
    ≡ after (with_rules (Some []) (known_op s (Some p))) (name_lexeme (op_text p))
    (goes wanted rest)
unfolding machine.breach_of
operation_goes o.Not s wanted rest = refl
operation_goes p s wanted rest = refl

operation_peels : (p : WordOp) (s : Scope) (second : Option (List ℕ)) (wanted : List Wanted)
    (rest : List (List ℕ))
    → breach_of (WordOpName ∷ Open ∷ wanted) (in_word s second o.Not [])
    (items_spelled (op_text p ∷ codes "(" ∷ rest)) ≡ None
    → (has_targets second (second_kind p) ≡ true)
    × (breach_of wanted (in_word s second p []) (items_spelled rest) ≡ None)
unfolding machine.breach_of
operation_peels p s second wanted rest h =
    let k = one_rule (not (has_targets second (second_kind p))) why.Kind (in_word s second p []) []
    (name_lexeme (op_text p)) (goes (Open ∷ wanted) (codes "(" ∷ rest))
    (sym (operation_goes p (in_word s second o.Not []) (Open ∷ wanted) (codes "(" ∷ rest)) ∙ h) in
    (not_not (has_targets second (second_kind p)) k.0, k.1)

abbrev pub with_given : Scope → List Kind → Scope
with_given s given = record s { word = record s.word { given = given } }

argument_peels : (x : Option Kind) (s : Scope) (given : List Kind) (f : List Wanted) (u : Lexeme)
    (go : Following) → after (with_rules (Some f) (argument_of_kind (with_given s given) x)) u go
    ≡ None
    → (x ≡ Some (unwrap_or x Word)) × (go f (with_given s (given ++ unwrap_or x Word ∷ [])) ≡ None)
argument_peels None s given f u go h = cc
argument_peels (Some k) s given f u go h = (
  refl,
  (one_rule (not (list_any (λ f. is_begun (lacks (given ++ k ∷ []) f.takes))
      (forms s.word.operation))) why.Kind (with_given s (given ++ k ∷ [])) f u go h).1,
)

record AllArgs (s : Scope) (given : List Kind) (args : List (List ℕ)) (wanted : List Wanted)
    (rest : List (List ℕ)) : Type 0 where
  known : Each (IsKnown s.op.defined) args
  then : breach_of wanted (with_given s (given ++ map (kind_of s.op.defined) args))
      (items_spelled rest) ≡ None

pub given_moves : (s : Scope) (a b : List Kind) → a ≡ b → (wanted : List Wanted) (items : List Item)
    → breach_of wanted (with_given s a) items ≡ None
    → breach_of wanted (with_given s b) items ≡ None
given_moves s a b e wanted items h =
    subst (λ (x : List Kind). breach_of wanted (with_given s x) items ≡ None) e h

args_after : (args : List (List ℕ)) (s : Scope) (given : List Kind) (wanted : List Wanted)
    (rest : List (List ℕ)) → Each IsName args
    → breach_of (MoreArgs ∷ wanted) (with_given s given)
    (items_spelled (after_commas name_text args (codes ")" ∷ rest))) ≡ None
    → AllArgs s given args wanted rest
unfolding machine.breach_of
args_after [] s given wanted rest n h =
    let k = one_rule (not (list_any (λ f. is_whole (lacks given f.takes)) (forms s.word.operation)))
    why.Kind (with_given s given) [] (mark (codes ")")) (goes wanted rest) h in
    record {
      known = tt;
      then = given_moves s given (given ++ []) (sym (append-nil given)) wanted
          (items_spelled rest) k.1;
    }
args_after (a ∷ args) s given wanted rest n h =
    let more = after_commas name_text args (codes ")" ∷ rest) in
    let k = one_rule (not (list_any (λ f. is_part (lacks given f.takes)) (forms s.word.operation)))
    why.Kind (with_given s given) (ArgName ∷ MoreArgs ∷ []) (mark (codes ","))
    (goes wanted (a ∷ more)) h in
    let g = sym (named ArgName (MoreArgs ∷ wanted) (with_given s given) a more n.0) ∙ k.1 in
    let j = next_rule (is_bad (spelling_of a) a) why.BadName
    (argument_of_kind (with_given s given) (kind_among s.op.defined a)) [] (name_lexeme a)
    (goes (MoreArgs ∷ wanted) more) g in
    let i = argument_peels (kind_among s.op.defined a) s given [] (name_lexeme a)
    (goes (MoreArgs ∷ wanted) more) j.1 in
    let r = args_after args s (given ++ kind_of s.op.defined a ∷ []) wanted rest n.1 i.1 in
    record {
      known = (i.0, r.known);
      then = given_moves s _ (given ++ map (kind_of s.op.defined) (a ∷ args))
          (append_assoc given (kind_of s.op.defined a ∷ []) (map (kind_of s.op.defined) args))
          wanted (items_spelled rest) r.then;
    }

args_peel : (args : List (List ℕ)) (s : Scope) (wanted : List Wanted) (rest : List (List ℕ))
    → Each IsName args
    → breach_of (Args ∷ wanted) (with_given s [])
    (items_spelled (between_commas name_text args (codes ")" ∷ rest))) ≡ None
    → AllArgs s [] args wanted rest
unfolding machine.breach_of
args_peel [] s wanted rest n h =
    let k = one_rule (not (list_any (λ f. is_whole (lacks [] f.takes)) (forms s.word.operation)))
    why.Kind (with_given s []) [] (mark (codes ")")) (goes wanted rest) h in
    record { known = tt; then = k.1 }
args_peel (a ∷ args) s wanted rest n h =
    let more = after_commas name_text args (codes ")" ∷ rest) in
    let g = sym (named Args wanted (with_given s []) a more n.0) ∙ h in
    let j = next_rule (is_bad (spelling_of a) a) why.BadName
    (argument_of_kind (with_given s []) (kind_among s.op.defined a)) (MoreArgs
    ∷ []) (name_lexeme a) (goes wanted more) g in
    let i = argument_peels (kind_among s.op.defined a) s [] (MoreArgs ∷ []) (name_lexeme a)
    (goes wanted more) j.1 in
    let r = args_after args s (kind_of s.op.defined a ∷ []) wanted rest n.1 i.1 in
    record { known = (i.0, r.known); then = r.then }

-- the targets with their kinds
abbrev pub targets_of : Scope → List ℕ → Kind → List Param
targets_of s target k = param target k ∷ second_of s.word.second s.word.operation

-- the ";"
abbrev pub ended : Scope → List Param → Scope
ended s ds = record s {
  op = record s.op { stands = s.op.stands ++ names_of ds; defined = s.op.defined ++ ds };
  word = new_word;
  naming = None;
}

end_peels : (x : Option Kind) (s : Scope) (target : List ℕ) (f : List Wanted) (u : Lexeme)
    (go : Following) → after (with_rules (Some f) (gives_kind s (Some target) x)) u go ≡ None
    → (x ≡ Some (unwrap_or x Word))
    × (list_any (is_other_result s) (targets_of s target (unwrap_or x Word)) ≡ false)
    × (go f (ended s (targets_of s target (unwrap_or x Word))) ≡ None)
end_peels None s target f u go h = cc
end_peels (Some k) s target f u go h =
    let j = one_rule (list_any (is_other_result s) (targets_of s target k)) why.Kind
    (ended s (targets_of s target k)) f u go h in (refl, j.0, j.1)

result_is : (known : List Param) (p : WordOp) (args : List (List ℕ))
    → given_first (forms p) (first_of (map (kind_of known) args)) ≡ result_kind known p args
result_is known p [] = refl
result_is known p (a ∷ args) = refl

-- the scope between two statements
abbrev pub at_statement : List (List ℕ) → List (List ℕ) → Context → ℕ → Scope
at_statement ops stands c count = record {
  ops = ops;
  op = record { stands = stands; defined = c.known; results = c.results; statements = count };
  word = new_word;
  block = new_block;
  naming = None;
}

-- what stands after a statement that breaks no rule
pub record AfterStatement (st : Statement) (ops : List (List ℕ)) (c : Context) (count : ℕ)
    (wanted : List Wanted) (rest : List (List ℕ)) : Type 0 where
  pub meets : StatementMeets c st
  pub few : count < 16
  pub stands : List (List ℕ)
  pub standing : Standing stands (next_context c st)
  pub then : breach_of (Stmts ∷ wanted) (at_statement ops stands (next_context c st) (count + 1))
      (items_spelled rest) ≡ None

or_nothing : (a b : Bool) → (a || b) ≡ (a || (b || false))
or_nothing false true = refl
or_nothing _ _ = refl

pub word_standing : {stands : List (List ℕ)} {c : Context} → Standing stands c → (ds : List Param)
    → Standing (stands ++ names_of ds) (more_context c ds [])
word_standing {stands} {c} s ds = standing-more s ds [] (stands ++ names_of ds)
    (λ n. among-append stands (names_of ds) n
    ∙ or_nothing (is_among stands n) (is_among (names_of ds) n)) (λ n q. refl)

-- the kind that was found is the one that the first argument settles
settled : (known : List Param) (p : WordOp) (args : List (List ℕ)) (k : Kind)
    → filled (forms p) (map (kind_of known) args) ≡ Some k → k ≡ result_kind known p args
settled known p args k h = sym (first_settles p (map (kind_of known) args) k h)
    ∙ result_is known p args

ended_moves : (s : Scope) (target : List ℕ) (j k : Kind) → j ≡ k
    → (wanted : List Wanted) (items : List Item)
    → breach_of wanted (ended s (targets_of s target j)) items ≡ None
    → breach_of wanted (ended s (targets_of s target k)) items ≡ None
ended_moves s target j k e wanted items h = subst
    (λ (x : Kind). breach_of wanted (ended s (targets_of s target x)) items ≡ None) e h

-- a target that the rules take is new
target_new : {stands : List (List ℕ)} {c : Context} → Standing stands c → (ops : List (List ℕ))
    (count : ℕ) (n : List ℕ) → is_taken_name (at_statement ops stands c count) n ≡ false
    → IsNew (used c) n
target_new {stands} {c} st ops count n h =
    word_new (is_among stands n) (is_among (used c) n) (is_known (kind_among c.results n))
    (is_known (kind_among c.known n)) (st.all n) (given-at st n) h

-- a second target that breaks no rule meets the rules
second_meets : {stands : List (List ℕ)} {c : Context} → Standing stands c → (ops : List (List ℕ))
    (count : ℕ) (target : List ℕ) (second : Option (List ℕ)) (p : WordOp)
    → has_targets second (second_kind p) ≡ true
    → IfThere (SecondFacts (record (at_statement ops stands c count) { naming = Some target }))
    second
    → list_any (is_other_result (at_statement ops stands c count)) (second_of second p) ≡ false
    → SecondMeets c target second (second_kind p)
second_meets {stands} {c} st ops count target None p t f h = none (second_kind p) t
  where
    none : (o : Option Kind) → has_targets None o ≡ true → SecondMeets c target None o
    none None t = tt
    none (Some k) t = cc
second_meets {stands} {c} st ops count target (Some n) p t f h = some (second_kind p) t h
  where
    some : (o : Option Kind) → has_targets (Some n) o ≡ true
        → (is_other_result (at_statement ops stands c count) (param n (unwrap_or o Word)) || false)
        ≡ false → SecondMeets c target (Some n) o
    some None t h = cc
    some (Some k) t h = record {
      gives = record {
        good = not_bad n f.good;
        new = target_new st ops count n (or_second (bytes_eq target n)
            (is_taken_name (at_statement ops stands c count) n) f.new);
        fits = same_fits (kind_among c.results n) k
            (or_first (is_other_result (at_statement ops stands c count) (param n k)) false h);
      };
      other = or_first (bytes_eq target n) (is_taken_name (at_statement ops stands c count) n)
          f.new;
    }

pub word_peels : (target : List ℕ) (second : Option (List ℕ)) (p : WordOp) (args : List (List ℕ))
    (ops stands : List (List ℕ)) (c : Context) (count : ℕ) (wanted : List Wanted)
    (rest : List (List ℕ)) → HasStatement (Compute target second p args) → Standing stands c
    → breach_of (Stmts ∷ wanted) (at_statement ops stands c count)
    (items_spelled (statement_text (Compute target second p args) rest)) ≡ None
    → AfterStatement (Compute target second p args) ops c count wanted rest
unfolding machine.breach_of
word_peels target second p args ops stands c count wanted rest n standing h =
    let s = at_statement ops stands c count in
    let list = between_commas name_text args (codes ")" ∷ codes ";" ∷ rest) in
    let more = op_text p ∷ codes "(" ∷ list in
    let t = target_peels (spelling_of target) s target second wanted more n.1
    (sym (named Stmts wanted s target (target_end second more) n.0) ∙ h) in
    let s1 : Scope = record s {
      op = record s.op { statements = count + 1 };
      naming = Some target;
    } in
    let b = second_peels second s1 (WordOpName ∷ Open ∷ Args ∷ WordEnd ∷ Stmts ∷ wanted) more n.1
    t.then in
    let o = operation_peels p s1 second (Args ∷ WordEnd ∷ Stmts ∷ wanted) list b.1 in
    let s2 = in_word s1 second p [] in
    let a = args_peel args s2 (WordEnd ∷ Stmts ∷ wanted) (codes ";" ∷ rest) n.2 o.1 in
    let given = map (kind_of c.known) args in
    let s3 = in_word s1 second p given in
    let e = end_peels (filled (forms p) given) s3 target [] (mark (codes ";"))
    (goes (Stmts ∷ wanted) rest) a.then in
    let k = unwrap_or (filled (forms p) given) Word in
    let is = settled c.known p args k e.0 in
    let ds = defines c.known (Compute target second p args) in
    record {
      meets = record {
        known = a.known;
        takes = e.0 ∙ ap Some is;
        gives = record {
          good = not_bad target t.good;
          new = target_new standing ops count target t.new;
          fits = λ j q. same_fits (kind_among c.results target) k
              (or_first (is_other_result s (param target k))
              (list_any (is_other_result s) (second_of second p)) e.1) j q ∙ is;
        };
        others = second_meets standing ops (count + 1) target second p o.0 b.0
            (or_second (is_other_result s (param target k))
            (list_any (is_other_result s) (second_of second p)) e.1);
      };
      few = le_no 16 count t.few;
      stands = stands ++ names_of ds;
      standing = word_standing standing ds;
      then = ended_moves s3 target k (result_kind c.known p args) is (Stmts
          ∷ wanted) (items_spelled rest) e.2;
    }
