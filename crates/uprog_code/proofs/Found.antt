-- The entry at a place, and at the place of a name.
use Rattle.std.proofs.Common.{◌≡◌, ℕ, zero, suc, ◌<◌, Bool, true, false, List, [], ◌∷◌, length, map}
use Rattle.std.proofs.Common.{refl, sym, ap, ◌∙◌, subst, arith, cond, Some, None}
use Rattle.std.specs.Prelude.{find, nat_lt, position, slice_get, slice_index_or}
use Rattle.std.specs.List.{AllByRecursion, position_or_len}
use Rattle.std.proofs.lemmas.List.Folds.{find_at}
use Rattle.std.proofs.lemmas.Option.{slice_get_past}
use Rattle.uprog_code.specs.declared.code.EntryCode.{EntryCode}
use Rattle.uprog_code.specs.Shape.{microprogram_of, shape_of}
use Rattle.uprog_code.specs.Legal.{IsLegalCode}
use Rattle.uprog_code.specs.Programs.{IsEntry, IsProgram}
use Rattle.uprog_code.specs.Texts.{EntryDoes, ImplementsAll, TextOp}

some_place : (b : Bool) (n k : ℕ) → Some k ≡ cond b (Some n) None → n ≡ k
some_place true n k e = cc
some_place false n k e = absurd (cc)

no_place : (b : Bool) (n : ℕ) → None ≡ cond b (Some n) None → b ≡ false
no_place true n e = absurd (cc)
no_place false n e = refl

-- what stands at the place of the first that is so is found
pub found_there : {X : Type 0} (p : X → Bool) (xs : List X) (k : ℕ) (x : X)
    → Some k ≡ position p xs → slice_get xs k ≡ Some x → find p xs ≡ Some x
found_there p xs k x e at =
    let place = position_or_len p xs in
    find_at p xs ∙ ap (slice_get xs) (some_place (nat_lt place (length xs)) place k e) ∙ at

-- and where there is no place, nothing is
pub none_there : {X : Type 0} (p : X → Bool) (xs : List X) → None ≡ position p xs
    → find p xs ≡ None
none_there p xs e =
    let place = position_or_len p xs in
    let past : nat_lt place (length xs) ≡ false =
    no_place (nat_lt place (length xs)) place e in
    find_at p xs ∙ slice_get_past xs place (grind arith)

legal_there : (items : List EntryCode) (k : ℕ) (x : EntryCode)
    → AllByRecursion IsEntry (map microprogram_of items) → k < length items
    → x ≡ slice_index_or items k x → IsEntry (microprogram_of x)
legal_there [] k x legal lt e = absurd (omega arith)
legal_there (y ∷ items) zero x legal lt e =
    subst (λ (z : EntryCode). IsEntry (microprogram_of z)) (sym e) legal.0
legal_there (y ∷ items) (suc k) x legal lt e =
    legal_there items k x legal.1 (omega arith) e

op_there : (items : List EntryCode) (ops : List TextOp) (k : ℕ) (x : EntryCode)
    → ImplementsAll (map microprogram_of items) ops → k < length items
    → x ≡ slice_index_or items k x → (o : TextOp) × EntryDoes (microprogram_of x) o
op_there [] ops k x does lt e = absurd (omega arith)
op_there (y ∷ items) [] k x does lt e = absurd does
op_there (y ∷ items) (o ∷ ops) zero x does lt e =
    (o, subst (λ (z : EntryCode). EntryDoes (microprogram_of z) o) (sym e) does.0)
op_there (y ∷ items) (o ∷ ops) (suc k) x does lt e =
    op_there items ops k x does.1 (omega arith) e

-- an entry of a program that does ops is legal, and does one of them
pub entry_there : (items seen : List EntryCode) (ops : List TextOp) (k : ℕ) (x : EntryCode)
    → seen ≡ items → ImplementsAll (map microprogram_of items) ops
    → IsProgram (map microprogram_of items) → k < length seen → x ≡ slice_index_or seen k x
    → IsLegalCode (shape_of x.head) x.code.items
    × ((o : TextOp) × EntryDoes (microprogram_of x) o)
entry_there items seen ops k x same does legal lt e =
    let l = subst (λ (es : List EntryCode). k < length es) same lt in
    let is = subst (λ (es : List EntryCode). x ≡ slice_index_or es k x) same e in
    ((legal_there items k x legal.entries l is).code, op_there items ops k x does l is)
