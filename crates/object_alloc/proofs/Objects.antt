-- The objects of a table, one after the other.
use Rattle.object_alloc.proofs.Common.{◌≡◌, ℕ, suc, ◌+◌, ◌-◌, ◌<◌, ◌≤◌, List, [], ◌∷◌, ◌++◌, Result}
use Rattle.object_alloc.proofs.Common.{Ok, Err, refl, sym, ◌∙◌, arith, Geometry, IsBytes}
use Rattle.object_alloc.specs.Listed.{Named}
use Rattle.object_alloc.specs.Reading.{object_at, objects_at, ImageFault}
use Rattle.object_alloc.proofs.Records.{Follows, object_takes}

-- an object that was read may be added
pub object_fits : (g : Geometry) (earlier : List Named) (at : ℕ) (bytes : List ℕ) (named : Named)
    → IsBytes bytes → object_at g earlier at bytes ≡ Ok named → Follows g earlier named
object_fits g earlier at bytes named fits e = (object_takes g earlier at bytes named fits e).1

-- one more
pub objects_more : (count k : ℕ) (g : Geometry) (earlier : List Named) (at : ℕ) (bytes : List ℕ)
    (named : Named) (total : Result (List Named) ImageFault) → k < count
    → object_at g earlier at bytes ≡ Ok named
    → objects_at (count - k) g earlier at bytes ≡ total
    → objects_at (count - (k + 1)) g (earlier ++ named ∷ []) (at + 24) bytes ≡ total
unfolding objects_at
objects_more count k g earlier at bytes named total l e so_far =
    let left : count - k ≡ suc (count - (k + 1)) = omega arith in
    let one : objects_at (count - k) g earlier at bytes
    ≡ objects_at (count - (k + 1)) g (earlier ++ named ∷ []) (at + 24) bytes =
    rw (left, e) refl in
    sym one ∙ so_far

-- the fault of one is that of all
pub objects_fault : (count k : ℕ) (g : Geometry) (earlier : List Named) (at : ℕ) (bytes : List ℕ)
    (f : ImageFault) (total : Result (List Named) ImageFault) → k < count
    → object_at g earlier at bytes ≡ Err f
    → objects_at (count - k) g earlier at bytes ≡ total → total ≡ Err f
unfolding objects_at
objects_fault count k g earlier at bytes f total l e so_far =
    let left : count - k ≡ suc (count - (k + 1)) = omega arith in
    let one : objects_at (count - k) g earlier at bytes ≡ Err f = rw (left, e) refl in
    sym so_far ∙ one

pub objects_end : (count k : ℕ) (g : Geometry) (earlier : List Named) (at : ℕ) (bytes : List ℕ)
    (total : Result (List Named) ImageFault) → count ≤ k
    → objects_at (count - k) g earlier at bytes ≡ total → total ≡ Ok earlier
unfolding objects_at
objects_end count k g earlier at bytes total l so_far =
    let left : count - k ≡ 0 = omega arith in
    let one : objects_at (count - k) g earlier at bytes ≡ Ok earlier = rw left refl in
    sym so_far ∙ one
