-- An entry's own code, one instruction after another.
use Rattle.width_entry.proofs.Common.{◌≡◌, ℕ, ◌+◌, List, [], ◌∷◌, ◌++◌, map, refl, ap, ◌∙◌, take}
use Rattle.width_entry.proofs.Common.{Some, slice_get, take_more, Uop}
use Rattle.std.proofs.lemmas.Option.{get_or_from_slice_get, slice_get_within}

map_push : (f : Uop → Uop) (xs : List Uop) (x : Uop) → map f (xs ++ x ∷ []) ≡ map f xs ++ f x ∷ []
map_push f [] x = refl
map_push f (y ∷ xs) x = ap (λ us. f y ∷ us) (map_push f xs x)

pub one_more : (f : Uop → Uop) (own : List Uop) (k : ℕ) (u : Uop) → slice_get own k ≡ Some u
    → map f (take (k + 1) own) ≡ map f (take k own) ++ f u ∷ []
one_more f own k u at =
    ap (map f) (take_more own k u (slice_get_within own k u at)
    ∙ ap (λ x. take k own ++ x ∷ []) (get_or_from_slice_get own k u u at))
    ∙ map_push f (take k own) u
