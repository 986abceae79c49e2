-- The head of an op: its name, its sources and its result.
use Rattle.op_rules.proofs.Common.{◌≡◌, ℕ, ◌+◌, ◌<◌, ◌≤◌, false, nat_le, List, [], ◌∷◌, ◌++◌}
use Rattle.op_rules.proofs.Common.{length, option_to_list, arith, Option, Some, None, refl, sym}
use Rattle.op_rules.proofs.Common.{◌∙◌, codes, append_assoc, append-nil, length-append, Item, Kind}
use Rattle.op_rules.proofs.Common.{Word, Bit, Param, Wanted, spelling_of, is_among, param}
use Rattle.op_rules.proofs.Common.{items_spelled, kind_text, between_commas, after_commas}
use Rattle.op_rules.proofs.Common.{after_comma, param_text, Each, IfThere, HasParam, Scope}
use Rattle.op_rules.proofs.Common.{breach_of, is_bad, new_word, new_block}
use Rattle.grammar.specs.Machine as machine
use Rattle.op_text.specs.declared.fault.OpsKind.TheVariants as why
use Rattle.op_text.specs.declared.wanted.Wanted.TheVariants.{NewParam, ParamKind, Params, NewResult}
use Rattle.op_text.specs.declared.wanted.Wanted.TheVariants.{ResultKind, SecondResult, Begin, Colon}
use Rattle.op_rules.specs.Meets.{IsGood, names_of}
use Rattle.op_rules.proofs.Names.{AllFresh}
use Rattle.op_rules.proofs.Tokens.{goes, name_lexeme, named, two_rules, three_rules, not_bad, le_no}

-- the scope in the head of an op, and after it
abbrev pub in_head : List (List ℕ) → List (List ℕ) → List Param → List Param → Scope
in_head ops stands known given = record {
  ops = ops;
  op = record { stands = stands; defined = known; results = given; statements = 0 };
  word = new_word;
  block = new_block;
  naming = None;
}

-- the scope among the sources of an op
abbrev pub in_params : List (List ℕ) → List (List ℕ) → List Param → Scope
in_params ops stands done = in_head ops stands done []

pub param_kind : (k : Kind) (ops stands : List (List ℕ)) (done : List Param) (n : List ℕ)
    (wanted : List Wanted) (rest : List (List ℕ))
    → breach_of (Colon ∷ ParamKind ∷ wanted) (record (in_params ops stands done)
    { naming = Some n }) (items_spelled (codes ":" ∷ kind_text k ∷ rest))
    ≡ breach_of wanted (in_params ops (stands ++ n ∷ []) (done ++ param n k ∷ []))
    (items_spelled rest)
unfolding machine.breach_of
param_kind Word ops stands done n wanted rest = refl
param_kind Bit ops stands done n wanted rest = refl

record OneParam (ops stands : List (List ℕ)) (done : List Param) (p : Param) (wanted : List Wanted)
    (rest : List (List ℕ)) : Type 0 where
  good : IsGood p.name
  fresh : is_among stands p.name ≡ false
  few : length done < 4
  then : breach_of wanted (in_params ops (stands ++ p.name ∷ []) (done ++ p ∷ []))
      (items_spelled rest) ≡ None

param_peels : (ops stands : List (List ℕ)) (done : List Param) (p : Param) (wanted : List Wanted)
    (rest : List (List ℕ)) → HasParam p
    → breach_of (NewParam ∷ Colon ∷ ParamKind ∷ wanted) (in_params ops stands done)
    (items_spelled (param_text p rest)) ≡ None → OneParam ops stands done p wanted rest
unfolding machine.breach_of
param_peels ops stands done p wanted rest n h =
    let more = codes ":" ∷ kind_text p.kind ∷ rest in
    let s = in_params ops stands done in
    let g = sym (named NewParam (Colon ∷ ParamKind ∷ wanted) s p.name more n) ∙ h in
    let k =
    three_rules (is_bad (spelling_of p.name) p.name) (is_among stands p.name)
    (nat_le 4 (length done)) why.BadName why.Twice why.TooMany
    (record s { naming = Some p.name }) [] (name_lexeme p.name)
    (goes (Colon ∷ ParamKind ∷ wanted) more) g in
    record {
      good = not_bad p.name k.0;
      fresh = k.1;
      few = le_no 4 (length done) k.2;
      then = sym (param_kind p.kind ops stands done p.name wanted rest) ∙ k.3;
    }

pub record AllParams (ops stands : List (List ℕ)) (done ps : List Param) (wanted : List Wanted)
    (rest : List (List ℕ)) : Type 0 where
  pub good : Each IsGood (names_of ps)
  pub fresh : AllFresh stands (names_of ps)
  pub few : length done + length ps ≤ 4
  pub then : breach_of wanted (in_params ops (stands ++ names_of ps) (done ++ ps))
      (items_spelled rest) ≡ None

pub results_move : (ops a b : List (List ℕ)) (done rs : List Param) → a ≡ b
    → (wanted : List Wanted) (items : List Item)
    → breach_of wanted (in_head ops a done rs) items ≡ None
    → breach_of wanted (in_head ops b done rs) items ≡ None
results_move ops a b done rs e wanted items h = rw (← e) h

pub params_move : (ops a b : List (List ℕ)) (p q : List Param) → a ≡ b → p ≡ q
    → (wanted : List Wanted) (items : List Item) → breach_of wanted (in_params ops a p) items ≡ None
    → breach_of wanted (in_params ops b q) items ≡ None
params_move ops a b p q e f wanted items h = rw (← e, ← f) h

params_from : (ops stands : List (List ℕ)) (done : List Param) (p : Param) (ps : List Param)
    (front wanted : List Wanted) (text rest : List (List ℕ))
    → OneParam ops stands done p front text → AllParams ops (stands ++ p.name ∷ []) (done ++ p
    ∷ []) ps wanted rest → AllParams ops stands done (p ∷ ps) wanted rest
params_from ops stands done p ps front wanted text rest a b =
    let l = length-append done (p ∷ []) in
    record {
      good = (a.good, b.good);
      fresh = (a.fresh, b.fresh);
      few = let i = b.few in omega arith;
      then = params_move ops _ (stands ++ names_of (p ∷ ps)) _ (done ++ p
          ∷ ps) (append_assoc stands (p.name ∷ []) (names_of ps)) (append_assoc done (p ∷ []) ps)
          wanted (items_spelled rest) b.then;
    }

params_after : (ps : List Param) (ops stands : List (List ℕ)) (done : List Param)
    (wanted : List Wanted) (rest : List (List ℕ)) → Each HasParam ps → length done ≤ 4
    → breach_of (Params ∷ wanted) (in_params ops stands done)
    (items_spelled (after_commas param_text ps (codes ")" ∷ rest))) ≡ None
    → AllParams ops stands done ps wanted rest
unfolding machine.breach_of
params_after [] ops stands done wanted rest n l h = record {
  good = tt;
  fresh = tt;
  few = omega arith;
  then = params_move ops stands (stands ++ []) done (done ++ []) (sym (append-nil stands))
      (sym (append-nil done)) wanted (items_spelled rest) h;
}
params_after (p ∷ ps) ops stands done wanted rest n l h =
    let more = after_commas param_text ps (codes ")" ∷ rest) in
    let a = param_peels ops stands done p (Params ∷ wanted) more n.0 h in
    let e = length-append done (p ∷ []) in
    params_from ops stands done p ps (Params ∷ wanted) wanted more rest a
    (params_after ps ops (stands ++ p.name ∷ []) (done ++ p ∷ []) wanted rest n.1
    (let i = a.few in omega arith) a.then)

pub params_peel : (ps : List Param) (ops : List (List ℕ)) (wanted : List Wanted)
    (rest : List (List ℕ)) → Each HasParam ps
    → breach_of (NewParam ∷ Colon ∷ ParamKind ∷ Params ∷ wanted) (in_params ops [] [])
    (items_spelled (between_commas param_text ps (codes ")" ∷ rest))) ≡ None
    → (1 ≤ length ps) × AllParams ops [] [] ps wanted rest
unfolding machine.breach_of
params_peel [] ops wanted rest n h = cc
params_peel (p ∷ ps) ops wanted rest n h =
    let more = after_commas param_text ps (codes ")" ∷ rest) in
    let a = param_peels ops [] [] p (Params ∷ wanted) more n.0 h in (
      omega arith,
      params_from ops [] [] p ps (Params ∷ wanted) wanted more rest a
          (params_after ps ops (p.name ∷ []) (p ∷ []) wanted rest n.1 (omega arith) a.then),
    )

pub result_kind_moves : (k : Kind) (ops stands : List (List ℕ)) (done given : List Param)
    (n : List ℕ) (wanted : List Wanted) (rest : List (List ℕ))
    → breach_of (Colon ∷ ResultKind ∷ wanted)
    (record (in_head ops (stands ++ n ∷ []) done given) { naming = Some n })
    (items_spelled (codes ":" ∷ kind_text k ∷ rest))
    ≡ breach_of wanted (in_head ops (stands ++ n ∷ []) done (given ++ param n k ∷ []))
    (items_spelled rest)
unfolding machine.breach_of
result_kind_moves Word ops stands done given n wanted rest = refl
result_kind_moves Bit ops stands done given n wanted rest = refl

result_peels : (ops stands : List (List ℕ)) (done given : List Param) (p : Param)
    (wanted : List Wanted) (rest : List (List ℕ)) → HasParam p
    → breach_of (NewResult ∷ Colon ∷ ResultKind ∷ wanted) (in_head ops stands done given)
    (items_spelled (param_text p rest)) ≡ None
    → IsGood p.name × (is_among stands p.name ≡ false)
    × (breach_of wanted (in_head ops (stands ++ p.name ∷ []) done (given ++ p ∷ []))
    (items_spelled rest) ≡ None)
unfolding machine.breach_of
result_peels ops stands done given p wanted rest n h =
    let more = codes ":" ∷ kind_text p.kind ∷ rest in
    let s = in_head ops stands done given in
    let g = sym (named NewResult (Colon ∷ ResultKind ∷ wanted) s p.name more n) ∙ h in
    let k =
    two_rules (is_bad (spelling_of p.name) p.name) (is_among stands p.name) why.BadName why.Twice
    (record (in_head ops (stands ++ p.name ∷ []) done given) { naming = Some p.name }) []
    (name_lexeme p.name) (goes (Colon ∷ ResultKind ∷ wanted) more) g in (
      not_bad p.name k.0,
      k.1,
      sym (result_kind_moves p.kind ops stands done given p.name wanted rest) ∙ k.2,
    )

-- one result or two
pub record AllResults (ops stands : List (List ℕ)) (done rs : List Param) (wanted : List Wanted)
    (rest : List (List ℕ)) : Type 0 where
  pub good : Each IsGood (names_of rs)
  pub fresh : AllFresh stands (names_of rs)
  pub then : breach_of wanted (in_head ops (stands ++ names_of rs) done rs) (items_spelled rest)
      ≡ None

-- the text of the results of an op, up to its body
abbrev pub results_text : Param → Option Param → List (List ℕ) → List (List ℕ)
results_text p second rest = param_text p (after_comma param_text second (codes "{" ∷ rest))

pub results_peel : (ops stands : List (List ℕ)) (done : List Param) (p : Param)
    (second : Option Param) (wanted : List Wanted) (rest : List (List ℕ)) → HasParam p
    → IfThere HasParam second
    → breach_of (NewResult ∷ Colon ∷ ResultKind ∷ SecondResult ∷ wanted) (in_params ops stands done)
    (items_spelled (results_text p second rest)) ≡ None
    → AllResults ops stands done (p ∷ option_to_list second) wanted rest
unfolding machine.breach_of
results_peel ops stands done p None wanted rest n m h =
    let a = result_peels ops stands done [] p (SecondResult ∷ wanted) (codes "{" ∷ rest) n h in
    record { good = (a.0, tt); fresh = (a.1, tt); then = a.2 }
results_peel ops stands done p (Some q) wanted rest n m h =
    let a = result_peels ops stands done [] p (SecondResult ∷ wanted)
    (after_comma param_text (Some q) (codes "{" ∷ rest)) n h in
    let b = result_peels ops (stands ++ p.name ∷ []) done (p ∷ []) q (Begin ∷ wanted) (codes "{"
    ∷ rest) m a.2 in
    record {
      good = (a.0, (b.0, tt));
      fresh = (a.1, (b.1, tt));
      then = results_move ops ((stands ++ p.name ∷ []) ++ q.name ∷ []) (stands ++ p.name ∷ q.name
          ∷ []) done (p ∷ q ∷ []) (append_assoc stands (p.name ∷ []) (q.name ∷ [])) wanted
          (items_spelled rest) b.2;
    }
