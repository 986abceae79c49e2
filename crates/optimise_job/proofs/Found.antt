-- The compiler's entry of a name, and the op that it does.
use Rattle.optimise_job.proofs.Common.{◌≡◌, ℕ, ◌<◌, Bool, true, false, cond, List, [], ◌∷◌, length}
use Rattle.optimise_job.proofs.Common.{map, refl, sym, ap, ◌∙◌, subst, Option, Some, None, bytes_eq}
use Rattle.optimise_job.proofs.Common.{position, slice_get, slice_index_or, option_map}
use Rattle.optimise_job.proofs.Common.{slice_get-get_or, EntryCode, Microprogram, microprogram_of}
use Rattle.optimise_job.proofs.Common.{EntryDoes, ImplementsAll, TextOp}
use Rattle.std.specs.Prelude.{find}
use Rattle.uprog_code.proofs.Found.{found_there, none_there}
use Rattle.optimise_job.specs.Outcomes.{op_named}

find_map : {X Y : Type 0} (f : X → Y) (q : Y → Bool) (xs : List X)
    → find q (map f xs) ≡ option_map f (find (λ x. q (f x)) xs)
find_map f q [] = refl
find_map {X} f q (x ∷ xs) =
    ap (cond (q (f x)) (Some (f x))) (find_map f q xs)
    ∙ sym (of_cond (q (f x)) (Some x) (find (λ y. q (f y)) xs))
  where
    of_cond : (b : Bool) (y z : Option X)
        → option_map f (cond b y z) ≡ cond b (option_map f y) (option_map f z)
    of_cond true y z = refl
    of_cond false y z = refl

-- the entry of a name
abbrev entry_named : List Microprogram → List ℕ → Option Microprogram
entry_named es name = find (λ (e : Microprogram). bytes_eq e.name name) es

-- a name is in neither, or in both, at an entry that does the op
abbrev IsMatch : Option Microprogram → Option TextOp → Type 0
IsMatch None None = Unit {0}
IsMatch None (Some o) = ⊥
IsMatch (Some e) None = ⊥
IsMatch (Some e) (Some o) = EntryDoes e o

match_first : (b : Bool) (e : Microprogram) (o : TextOp) (x : Option Microprogram)
    (y : Option TextOp) → EntryDoes e o → IsMatch x y
    → IsMatch (cond b (Some e) x) (cond b (Some o) y)
match_first true e o x y d m = d
match_first false e o x y d m = m

matched : (es : List Microprogram) (ops : List TextOp) (name : List ℕ) → ImplementsAll es ops
    → IsMatch (entry_named es name) (op_named ops name)
matched [] [] name i = tt
matched [] (o ∷ ops) name i = absurd i
matched (e ∷ es) [] name i = absurd i
matched (e ∷ es) (o ∷ ops) name i =
    subst (λ (n : List ℕ). IsMatch (cond (bytes_eq e.name name) (Some e) (entry_named es name))
    (cond (bytes_eq n name) (Some o) (op_named ops name))) i.0.name
    (match_first (bytes_eq e.name name) e o (entry_named es name) (op_named ops name) i.0
    (matched es ops name i.1))

nothing : (y : Option TextOp) → IsMatch None y → y ≡ None
nothing None m = refl
nothing (Some o) m = absurd m

something : (e : Microprogram) (y : Option TextOp) → IsMatch (Some e) y
    → (o : TextOp) × (y ≡ Some o) × EntryDoes e o
something e None m = absurd m
something e (Some o) m = (o, refl, m)

module _ (items : List EntryCode) (name : List ℕ) where
  abbrev is_of : EntryCode → Bool
  is_of e = bytes_eq e.head.name name

  -- where no entry has the name, no op has it
  pub none_named : (ops : List TextOp) → ImplementsAll (map microprogram_of items) ops
      → None ≡ position is_of items → op_named ops name ≡ None
  none_named ops does e =
      let none : entry_named (map microprogram_of items) name ≡ None =
      find_map microprogram_of (λ (m : Microprogram). bytes_eq m.name name) items
      ∙ ap (option_map microprogram_of) (none_there is_of items e) in
      nothing (op_named ops name) (subst (λ x. IsMatch x (op_named ops name)) none
      (matched (map microprogram_of items) ops name does))

  -- where one has it, it does the op that has it
  pub op_there_named : (ops : List TextOp) (k : ℕ) (x : EntryCode)
      → ImplementsAll (map microprogram_of items) ops → Some k ≡ position is_of items
      → k < length items → x ≡ slice_index_or items k x
      → (o : TextOp) × (op_named ops name ≡ Some o) × EntryDoes (microprogram_of x) o
  op_there_named ops k x does e lt is =
      let there : slice_get items k ≡ Some x = slice_get-get_or items k x lt ∙ ap Some (sym is) in
      let some : entry_named (map microprogram_of items) name ≡ Some (microprogram_of x) =
      find_map microprogram_of (λ (m : Microprogram). bytes_eq m.name name) items
      ∙ ap (option_map microprogram_of) (found_there is_of items k x e there) in
      something (microprogram_of x) (op_named ops name)
      (subst (λ y. IsMatch y (op_named ops name)) some
      (matched (map microprogram_of items) ops name does))
