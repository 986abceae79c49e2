-- One token at a time, where no rule is broken.
use Rattle.op_rules.proofs.Common.{◌≡◌, ℕ, Bool, true, false, not, ◌&&◌, List, ◌∷◌, ◌++◌, Option}
use Rattle.op_rules.proofs.Common.{Some, None, Result, Ok, refl, ap, nat_le, length, nat_lt, ◌<◌}
use Rattle.op_rules.proofs.Common.{◌≤◌, arith, Lexeme, Whole, is_token, Breach, Wanted, opens}
use Rattle.op_rules.proofs.Common.{spelling_of, after, is_good, kind_of_text, items_spelled, Scope}
use Rattle.op_rules.proofs.Common.{step, breach_of, unless, with_rules, is_bad, is_plain}
use Rattle.text_lex.specs.Spelled.{fits_name}
use Rattle.text_lex.specs.declared.token.TokenKind.TheVariants as kinds
use Rattle.grammar.specs.Machine as machine
use Rattle.op_text.specs.declared.fault.OpsKind.{OpsKind}
use Rattle.op_text.specs.declared.terminal.Terminal.TheVariants as t

-- what stands after a token
abbrev pub Following : Type 0
Following = List Wanted → Scope → Option Breach

abbrev pub goes : List Wanted → List (List ℕ) → Following
goes wanted rest = λ front s. breach_of (front ++ wanted) s (items_spelled rest)

abbrev pub name_lexeme : List ℕ → Lexeme
name_lexeme n = record { kind = kinds.Name; text = n; start = 0 }

pub and_first : (a b : Bool) → (a && b) ≡ true → a ≡ true
and_first true b h = refl
and_first false b h = cc

pub name_kind : (n : List ℕ) → fits_name n ≡ true → kind_of_text n ≡ kinds.Name
name_kind n h = rw (and_first (is_token kinds.Name n) (nat_le (length n) 16) h) refl

-- a name is taken as a name
pub named : (w : Wanted) (wanted : List Wanted) (s : Scope) (n : List ℕ) (rest : List (List ℕ))
    → fits_name n ≡ true
    → breach_of (w ∷ wanted) s (items_spelled (n ∷ rest))
    ≡ after (step w s (t.Name (spelling_of n)) n (opens (items_spelled rest))) (name_lexeme n)
    (goes wanted rest)
unfolding machine.breach_of
named w wanted s n rest h =
    ap (λ k. breach_of (w ∷ wanted) s (Whole (record { kind = k; text = n; start = 0 })
    ∷ items_spelled rest)) (name_kind n h)

-- rules that are not broken
pub one_rule : (a : Bool) (i : OpsKind) (r : Scope) (f : List Wanted) (u : Lexeme) (go : Following)
    → after (with_rules (Some f) (unless a i (Ok r))) u go ≡ None → (a ≡ false) × (go f r ≡ None)
one_rule true i r f u go h = cc
one_rule false i r f u go h = (refl, h)

pub next_rule : (a : Bool) (i : OpsKind) (r : Result Scope OpsKind) (f : List Wanted) (u : Lexeme)
    (go : Following)
    → after (with_rules (Some f) (unless a i r)) u go ≡ None
    → (a ≡ false) × (after (with_rules (Some f) r) u go ≡ None)
next_rule true i r f u go h = cc
next_rule false i r f u go h = (refl, h)

pub two_rules : (a b : Bool) (i j : OpsKind) (r : Scope) (f : List Wanted) (u : Lexeme)
    (go : Following)
    → after (with_rules (Some f) (unless a i (unless b j (Ok r)))) u go ≡ None
    → (a ≡ false) × (b ≡ false) × (go f r ≡ None)
two_rules false false i j r f u go h = (refl, refl, h)
two_rules _ _ i j r f u go h = cc

pub three_rules : (a b c : Bool) (i j k : OpsKind) (r : Scope) (f : List Wanted) (u : Lexeme)
    (go : Following)
    → after (with_rules (Some f) (unless a i (unless b j (unless c k (Ok r))))) u go ≡ None
    → (a ≡ false) × (b ≡ false) × (c ≡ false) × (go f r ≡ None)
three_rules false false false i j k r f u go h = (refl, refl, refl, h)
three_rules _ _ _ i j k r f u go h = cc

pub four_rules : (a b c d : Bool) (i j k l : OpsKind) (r : Scope) (f : List Wanted) (u : Lexeme)
    (go : Following)
    → after (with_rules (Some f) (unless a i (unless b j (unless c k (unless d l (Ok r)))))) u go
    ≡ None → (a ≡ false) × (b ≡ false) × (c ≡ false) × (d ≡ false) × (go f r ≡ None)
four_rules false false false false i j k l r f u go h = (refl, refl, refl, refl, h)
four_rules _ _ _ _ i j k l r f u go h = cc

good_is : (p f : Bool) → not (p && f) ≡ false → (f && p) ≡ true
good_is true true h = refl
good_is _ _ h = cc

pub not_not : (b : Bool) → not b ≡ false → b ≡ true
not_not true h = refl
not_not false h = cc

-- a name that is not bad is good
pub not_bad : (n : List ℕ) → is_bad (spelling_of n) n ≡ false → is_good n ≡ true
not_bad n h = good_is (is_plain (spelling_of n)) (fits_name n) h

pub le_no : (a b : ℕ) → nat_le a b ≡ false → b < a
le_no a b h = grind arith

pub lt_no : (a b : ℕ) → nat_lt a b ≡ false → b ≤ a
lt_no a b h = grind arith
