-- Tables that lie on a chip, with an object more or less.
use Rattle.object_steps.proofs.Common.{◌≡◌, ℕ, ◌<◌, true, false, not, List, [], ◌∷◌, ◌++◌, length}
use Rattle.object_steps.proofs.Common.{bytes_eq, Geometry, Object, are_free, Listing, Named}
use Rattle.object_steps.proofs.Common.{has_name, limit_of, objects_of, without, IsObject}
use Rattle.std.proofs.lemmas.List.Elements.{All-filter, All-push}
use Rattle.object_alloc.proofs.Tables.{IsTable-add, IsTable-without}
use Rattle.object_steps.specs.Objects.{LiesOn}

pub lies_without : (g : Geometry) (old new : Listing) (name : List ℕ)
    → new ≡ record { limit = old.limit; pairs = without old.pairs name } → LiesOn g old
    → LiesOn g new
lies_without g old new name e lies = rw e (record {
  geometry = lies.geometry;
  limit = lies.limit;
  listed = IsTable-without (limit_of g) old.pairs name lies.listed;
  objects = All-filter (λ (p : Named). not (bytes_eq p.0 name)) (λ (p : Named). IsObject g p.1)
      old.pairs lies.objects;
})

pub lies_with : (g : Geometry) (old new : Listing) (name : List ℕ) (o : Object)
    → new ≡ record { limit = old.limit; pairs = old.pairs ++ (name, o) ∷ [] } → LiesOn g old
    → length old.pairs < 256 → has_name old.pairs name ≡ false → IsObject g o
    → are_free (limit_of g) (objects_of old.pairs) o.width o.base ≡ true → LiesOn g new
lies_with g old new name o e lies few fresh object rows = rw e (record {
  geometry = lies.geometry;
  limit = lies.limit;
  listed = IsTable-add (limit_of g) old.pairs name o lies.listed few fresh object.wide rows;
  objects = All-push (λ (p : Named). IsObject g p.1) old.pairs (name, o) lies.objects object;
})
