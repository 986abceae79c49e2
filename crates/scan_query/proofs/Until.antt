-- The instructions before the first that is refused.
use Rattle.scan_query.proofs.Common.{◌≡◌, List, [], ◌∷◌, ◌++◌, Option, Some, None, refl, sym, ◌∙◌}
use Rattle.scan_query.proofs.Common.{ap, append-nil, Geometry, Named, Instruction, Why, refusal}
use Rattle.scan_query.proofs.Common.{Routines, table_at_end, if_done, or_else, refused_in}
use Rattle.machine_model.specs.Steps.{table_after}
use Rattle.scan_query.specs.Running.{until_refused}

module _ (g : Geometry) (o : Routines) where
  -- where none of the first is refused, they are followed by what is done of the others
  append_so : (table : List Named) (i : Instruction) (xs ys : List Instruction) (r : Option Why)
      → or_else r (refused_in g o (table_after g o table i) xs) ≡ None
      → (refused_in g o (table_after g o table i) xs ≡ None
      → until_refused g o (table_after g o table i) (xs ++ ys)
      ≡ xs ++ until_refused g o (table_at_end g o (table_after g o table i) xs) ys)
      → if_done r (i ∷ until_refused g o (table_after g o table i) (xs ++ ys)) []
      ≡ i ∷ (xs ++ until_refused g o (table_at_end g o (table_after g o table i) xs) ys)
  append_so table i xs ys None none more = ap (λ (is : List Instruction). i ∷ is) (more none)
  append_so table i xs ys (Some why) none more = absurd (cc)

  pub until-append : (table : List Named) (xs ys : List Instruction)
      → refused_in g o table xs ≡ None
      → until_refused g o table (xs ++ ys) ≡ xs ++ until_refused g o (table_at_end g o table xs) ys
  until-append table [] ys none = refl
  until-append table (i ∷ xs) ys none = append_so table i xs ys (refusal g o table i) none
      (until-append (table_after g o table i) xs ys)

  pub until_all : (table : List Named) (xs : List Instruction) → refused_in g o table xs ≡ None
      → until_refused g o table xs ≡ xs
  until_all table xs none =
      ap (until_refused g o table) (sym (append-nil xs)) ∙ until-append table xs [] none
      ∙ append-nil xs

  stop_so : (i : Instruction) (is : List Instruction) (r : Option Why) (why : Why)
      → r ≡ Some why → if_done r (i ∷ is) [] ≡ []
  stop_so i is None why e = absurd (cc)
  stop_so i is (Some w) why e = refl

  pub until_stops : (table : List Named) (xs ys : List Instruction) (i : Instruction) (why : Why)
      → refused_in g o table xs ≡ None → refusal g o (table_at_end g o table xs) i ≡ Some why
      → until_refused g o table (xs ++ i ∷ ys) ≡ xs
  until_stops table xs ys i why none refused =
      until-append table xs (i ∷ ys) none
      ∙ ap (λ (is : List Instruction). xs ++ is) (stop_so i _ (refusal g o
      (table_at_end g o table xs) i) why refused)
      ∙ append-nil xs

  more_so : (i : Instruction) (xs zs : List Instruction) (r : Option Why)
      → (rest : List Instruction) × (xs ++ rest ≡ zs)
      → (rest : List Instruction) × (if_done r (i ∷ xs) [] ++ rest ≡ if_done r (i ∷ zs) [])
  more_so i xs zs None (rest, e) = (rest, ap (λ (is : List Instruction). i ∷ is) e)
  more_so i xs zs (Some why) more = ([], refl)

  -- those of a longer script begin with these
  pub until_more : (table : List Named) (xs ys : List Instruction) → (rest : List Instruction)
      × (until_refused g o table xs ++ rest ≡ until_refused g o table (xs ++ ys))
  until_more table [] ys = (until_refused g o table ys, refl)
  until_more table (i ∷ xs) ys = more_so i _ _ (refusal g o table i)
      (until_more (table_after g o table i) xs ys)
