-- What is spelled has tokens.
use Rattle.std.proofs.Common.{ℕ, ◌<◌, ◌≤◌, List, [], ◌∷◌, length, Option, Some, None, arith}
use Rattle.std.proofs.Common.{codes}
use Rattle.op_text.specs.declared.tree.Param.{Param}
use Rattle.op_text.specs.declared.tree.State.{State}
use Rattle.op_text.specs.Language.{Term, Nought, Unity, Named, Negation, Conjunction, Disjunction}
use Rattle.op_text.specs.Language.{Parity, Majority, Equation, Statement, Compute, Visit, Operation}
use Rattle.op_text.specs.Spelling.{term_text, after_commas, between_commas, in_turn, name_text}
use Rattle.op_text.specs.Spelling.{param_text, state_text, equation_text, let_text, statement_text}
use Rattle.op_text.specs.Spelling.{operation_text, after_comma}
use Rattle.op_text.specs.WordOps.{op_text}

pub term_longer : (t : Term) (rest : List (List ℕ)) → length rest < length (term_text t rest)
term_longer Nought rest = omega arith
term_longer Unity rest = omega arith
term_longer (Named name) rest = omega arith
term_longer (Negation a) rest = let h = term_longer a (codes ")" ∷ rest) in omega arith
term_longer (Conjunction a b) rest = let h = term_longer a (codes ","
    ∷ term_text b (codes ")" ∷ rest)) in let k = term_longer b (codes ")" ∷ rest) in omega arith
term_longer (Disjunction a b) rest = let h = term_longer a (codes ","
    ∷ term_text b (codes ")" ∷ rest)) in let k = term_longer b (codes ")" ∷ rest) in omega arith
term_longer (Parity a b) rest = let h = term_longer a (codes "," ∷ term_text b (codes ")" ∷ rest))
    in let k = term_longer b (codes ")" ∷ rest) in omega arith
term_longer (Majority a b c) rest =
    let h = term_longer a (codes "," ∷ term_text b (codes "," ∷ term_text c (codes ")" ∷ rest))) in
    let k = term_longer b (codes "," ∷ term_text c (codes ")" ∷ rest)) in
    let m = term_longer c (codes ")" ∷ rest) in omega arith

pub equation_longer : (e : Equation) (rest : List (List ℕ))
    → length rest < length (equation_text e rest)
equation_longer e rest = let h = term_longer e.value (codes ";" ∷ rest) in omega arith

after_longer : {A : Type 0} (spell : A → List (List ℕ) → List (List ℕ))
    → ((x : A) (rest : List (List ℕ)) → length rest < length (spell x rest))
    → (xs : List A) (rest : List (List ℕ)) → length rest ≤ length (after_commas spell xs rest)
after_longer spell f [] rest = omega arith
after_longer spell f (x ∷ xs) rest = let h = after_longer spell f xs rest in
    let k = f x (after_commas spell xs rest) in omega arith

between_longer : {A : Type 0} (spell : A → List (List ℕ) → List (List ℕ))
    → ((x : A) (rest : List (List ℕ)) → length rest < length (spell x rest))
    → (xs : List A) (rest : List (List ℕ)) → length rest ≤ length (between_commas spell xs rest)
between_longer spell f [] rest = omega arith
between_longer spell f (x ∷ xs) rest = let h = after_longer spell f xs rest in
    let k = f x (after_commas spell xs rest) in omega arith

comma_longer : {A : Type 0} (spell : A → List (List ℕ) → List (List ℕ))
    → ((x : A) (rest : List (List ℕ)) → length rest < length (spell x rest))
    → (x : Option A) (rest : List (List ℕ)) → length rest ≤ length (after_comma spell x rest)
comma_longer spell f None rest = omega arith
comma_longer spell f (Some x) rest = let k = f x rest in omega arith

turn_longer : {A : Type 0} (spell : A → List (List ℕ) → List (List ℕ))
    → ((x : A) (rest : List (List ℕ)) → length rest < length (spell x rest))
    → (xs : List A) (rest : List (List ℕ)) → length rest ≤ length (in_turn spell xs rest)
turn_longer spell f [] rest = omega arith
turn_longer spell f (x ∷ xs) rest = let h = turn_longer spell f xs rest in
    let k = f x (in_turn spell xs rest) in omega arith

name_longer : (n : List ℕ) (rest : List (List ℕ)) → length rest < length (name_text n rest)
name_longer n rest = omega arith

param_longer : (p : Param) (rest : List (List ℕ)) → length rest < length (param_text p rest)
param_longer p rest = omega arith

state_longer : (s : State) (rest : List (List ℕ)) → length rest < length (state_text s rest)
state_longer s rest = omega arith

let_longer : (e : Equation) (rest : List (List ℕ)) → length rest < length (let_text e rest)
let_longer e rest = let h = equation_longer e rest in omega arith

pub statement_longer : (s : Statement) (rest : List (List ℕ))
    → length rest < length (statement_text s rest)
statement_longer (Compute target second p args) rest =
    let h = between_longer name_text name_longer args (codes ")" ∷ codes ";" ∷ rest) in
    let k = comma_longer name_text name_longer second (codes "=" ∷ op_text p ∷ codes "("
    ∷ between_commas name_text args (codes ")" ∷ codes ";" ∷ rest)) in
    omega arith
statement_longer (Visit b) rest =
    let h = turn_longer equation_text equation_longer b.assigns (codes "}" ∷ rest) in
    let k = turn_longer let_text let_longer b.lets
    (in_turn equation_text b.assigns (codes "}" ∷ rest)) in
    let m = between_longer state_text state_longer b.states (codes ")" ∷ codes "{"
    ∷ in_turn let_text b.lets (in_turn equation_text b.assigns (codes "}" ∷ rest))) in
    omega arith

pub operation_longer : (o : Operation) (rest : List (List ℕ))
    → length rest < length (operation_text o rest)
operation_longer o rest =
    let body = in_turn statement_text o.body (codes "}" ∷ rest) in
    let h = turn_longer statement_text statement_longer o.body (codes "}" ∷ rest) in
    let m = comma_longer param_text param_longer o.second (codes "{" ∷ body) in
    let k = between_longer param_text param_longer o.params (codes ")" ∷ codes "->"
    ∷ param_text o.result (after_comma param_text o.second (codes "{" ∷ body))) in
    omega arith
