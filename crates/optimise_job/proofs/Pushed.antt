-- The outcomes of entries, one after another, and the program that comes of them.
use Rattle.optimise_job.proofs.Common.{◌≡◌, ℕ, zero, suc, ◌+◌, ◌-◌, ◌<◌, ◌≤◌, List, [], ◌∷◌, ◌++◌}
use Rattle.optimise_job.proofs.Common.{length, refl, sym, ap, ◌∙◌, subst, arith, take, Some, true}
use Rattle.optimise_job.proofs.Common.{slice_get, slice_index_or, AllByRecursion, slice_get-get_or}
use Rattle.optimise_job.proofs.Common.{option_map, Issued, Microprogram, Shape, IsLegalCode}
use Rattle.optimise_job.proofs.Common.{IsEntry, IsProgram, TextOp}
use Rattle.std.specs.Prelude.{◌^◌, Vec}
use Rattle.std.proofs.lemmas.List.{take_more}
use Rattle.std.proofs.lemmas.Option.{get_or_from_slice_get, slice_get-map, slice_get_within}
use Rattle.std.specs.Global.{Global}
use Rattle.text_lex.specs.Spelled.{fits_name}
use Rattle.optimise_job.specs.declared.offer.Outcome.{Outcome}
use Rattle.optimise_job.specs.Outcomes.{AreOutcomes, IsOutcome, lines_of}
use Rattle.optimise_job.specs.Promise.{AreAsGood}

-- how many instructions more there may be after these entries
abbrev pub room_left : ℕ → List Microprogram → List Microprogram → ℕ
room_left room [] rs = room
room_left room (e ∷ es) [] = room
room_left room (e ∷ es) (r ∷ rs) = room_left (room - (length r.code - length e.code)) es rs

pub outcome_more : (n room : ℕ) (ops : List TextOp) (es : List Microprogram)
    (lines : List (List Issued)) (rs : List Microprogram) (xs : List Outcome) (e : Microprogram)
    (line : List Issued) (r : Microprogram) (x : Outcome) → AreOutcomes n room ops es lines rs xs
    → IsOutcome n (room_left room es rs) ops e line r x
    → AreOutcomes n room ops (es ++ e ∷ []) (lines ++ line ∷ []) (rs ++ r ∷ []) (xs ++ x ∷ [])
outcome_more n room ops [] [] [] [] e line r x are is = (is, tt)
outcome_more n room ops (f ∷ es) (l ∷ lines) (s ∷ rs) (y ∷ xs) e line r x are is = (
  are.0,
  outcome_more n (room - (length s.code - length f.code)) ops es lines rs xs e line r x are.1 is,
)
outcome_more n room ops _ _ _ _ e line r x are is = absurd are

-- as many as entries
pub many_outcomes : (n room : ℕ) (ops : List TextOp) (es : List Microprogram)
    (lines : List (List Issued)) (rs : List Microprogram) (xs : List Outcome)
    → AreOutcomes n room ops es lines rs xs → length rs ≡ length es
many_outcomes n room ops [] [] [] [] are = refl
many_outcomes n room ops (e ∷ es) (l ∷ lines) (r ∷ rs) (x ∷ xs) are =
    ap suc (many_outcomes n (room - (length r.code - length e.code)) ops es lines rs xs are.1)
many_outcomes n room ops _ _ _ _ are = absurd are

-- after one more entry
pub room_more : (room : ℕ) (es rs : List Microprogram) (e r : Microprogram) → length rs ≡ length es
    → room_left room (es ++ e ∷ []) (rs ++ r ∷ [])
    ≡ room_left room es rs - (length r.code - length e.code)
room_more room [] [] e r same = refl
room_more room [] (s ∷ rs) e r same = absurd (omega arith)
room_more room (f ∷ es) [] e r same = absurd (omega arith)
room_more room (f ∷ es) (s ∷ rs) e r same =
    room_more (room - (length s.code - length f.code)) es rs e r (omega arith)

-- the same outcomes of the same lists
pub outcomes_of : (n room : ℕ) (ops : List TextOp) (es es' : List Microprogram)
    (lines lines' : List (List Issued)) (rs rs' : List Microprogram) (xs xs' : List Outcome)
    → es' ≡ es → lines' ≡ lines → rs' ≡ rs → xs' ≡ xs → AreOutcomes n room ops es lines rs xs
    → AreOutcomes n room ops es' lines' rs' xs'
outcomes_of n room ops es es' lines lines' rs rs' xs xs' e l r x are =
    subst (λ y. AreOutcomes n room ops y lines' rs' xs') (sym e)
    (subst (λ y. AreOutcomes n room ops es y rs' xs') (sym l)
    (subst (λ y. AreOutcomes n room ops es lines y xs') (sym r)
    (subst (λ y. AreOutcomes n room ops es lines rs y) (sym x) are)))

-- the line at a place
pub line_there : (lines : List (Vec Issued Global)) (k : ℕ) (x : Vec Issued Global)
    → k < length lines → x ≡ slice_index_or lines k x → slice_get (lines_of lines) k ≡ Some x.items
line_there lines k x lt is =
    slice_get-map (λ (v : Vec Issued Global). v.items) lines k
    ∙ ap (option_map (λ (v : Vec Issued Global). v.items)) (slice_get-get_or lines k x lt
    ∙ ap (λ y. Some y) (sym is))

-- one more of the first of a list
pub taken : {X : Type 0} (xs : List X) (k : ℕ) (x : X) → slice_get xs k ≡ Some x
    → take (k + 1) xs ≡ take k xs ++ x ∷ []
taken xs k x at =
    take_more xs k x (slice_get_within xs k x at)
    ∙ ap (λ y. take k xs ++ y ∷ []) (get_or_from_slice_get xs k x x at)

pub all_push : {X : Type 0} (P : X → Type 0) (xs : List X) (x : X) → AllByRecursion P xs → P x
    → AllByRecursion P (xs ++ x ∷ [])
all_push P [] x all is = (is, tt)
all_push P (y ∷ xs) x all is = (all.0, all_push P xs x all.1 is)

-- code that is legal for its shape
abbrev pub HasLegalCode : Microprogram → Type 0
HasLegalCode m = IsLegalCode m.shape m.code

as_many : (n : ℕ) (ops : List TextOp) (es rs : List Microprogram) → AreAsGood n ops es rs
    → length rs ≡ length es
as_many n ops [] [] good = refl
as_many n ops [] (r ∷ rs) good = absurd good
as_many n ops (e ∷ es) [] good = absurd good
as_many n ops (e ∷ es) (r ∷ rs) good = ap suc (as_many n ops es rs good.1)

entries : (n : ℕ) (ops : List TextOp) (es rs : List Microprogram) → AreAsGood n ops es rs
    → AllByRecursion IsEntry es → AllByRecursion HasLegalCode rs → AllByRecursion IsEntry rs
entries n ops [] [] good are legal = tt
entries n ops [] (r ∷ rs) good are legal = absurd good
entries n ops (e ∷ es) [] good are legal = absurd good
entries n ops (e ∷ es) (r ∷ rs) good are legal = (
  record {
    name = subst (λ x. fits_name x ≡ true) (sym good.0.name) are.0.name;
    some = subst (λ (s : Shape). 0 < length s.sources) (sym good.0.shape) are.0.some;
    few = subst (λ (s : Shape). length s.sources ≤ 4) (sym good.0.shape) are.0.few;
    bits = subst (λ (s : Shape). s.bits < 2 ^ 8) (sym good.0.shape) are.0.bits;
    words = subst (λ (s : Shape). s.words < 2 ^ 8) (sym good.0.shape) are.0.words;
    code = legal.0;
  },
  entries n ops es rs good.1 are.1 legal.1,
)

name_at : (n : ℕ) (ops : List TextOp) (es rs : List Microprogram) (k : ℕ) (d : Microprogram)
    → AreAsGood n ops es rs → k < length rs
    → (slice_index_or rs k d).name ≡ (slice_index_or es k d).name
name_at n ops [] [] k d good lt = absurd (omega arith)
name_at n ops [] (r ∷ rs) k d good lt = absurd good
name_at n ops (e ∷ es) [] k d good lt = absurd good
name_at n ops (e ∷ es) (r ∷ rs) zero d good lt = good.0.name
name_at n ops (e ∷ es) (r ∷ rs) (suc k) d good lt =
    name_at n ops es rs k d good.1 (omega arith)

pub still_program : (n : ℕ) (ops : List TextOp) (es rs : List Microprogram)
    → AreAsGood n ops es rs → IsProgram es → AllByRecursion HasLegalCode rs → IsProgram rs
still_program n ops es rs good is legal =
    let many = as_many n ops es rs good in record {
      few = subst (λ k. k ≤ 32) (sym many) is.few;
      entries = entries n ops es rs good is.entries legal;
      names = λ i j d lt inside.
          let apart = is.names i j d lt (omega (arith, inside, many)) in
          λ same. apart (sym (name_at n ops es rs i d good (omega (arith, lt, inside)))
          ∙ same ∙ name_at n ops es rs j d good inside);
    }
