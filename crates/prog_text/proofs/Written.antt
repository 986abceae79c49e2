-- What was written, and what is left.
use Rattle.std.proofs.Common.{◌≡◌, ℕ, ◌+◌, List, ◌∷◌, ◌++◌, Some, drop, flat_map, ap, sym, ◌∙◌}
use Rattle.std.proofs.lemmas.List.{append_assoc, drop_more}
use Rattle.std.proofs.lemmas.Option.{get_or_from_slice_get, slice_get_within}
use Rattle.std.specs.List.{slice_get}
use Rattle.uprog_code.specs.declared.code.Uop.{Uop}
use Rattle.prog_text.specs.Listing.{code_lines, uop_line}

rest_from : {A : Type 0} (xs : List A) (k : ℕ) (x : A) → slice_get xs k ≡ Some x
    → drop k xs ≡ x ∷ drop (k + 1) xs
rest_from xs k x e = drop_more xs k x (slice_get_within xs k x e)
    ∙ ap (λ y. y ∷ drop (k + 1) xs) (get_or_from_slice_get xs k x x e)

-- the line of one more instruction
pub line_more : (code : List Uop) (k : ℕ) (uop : Uop) (out new all : List ℕ)
    → slice_get code k ≡ Some uop → new ≡ out ++ uop_line k uop
    → out ++ code_lines k (drop k code) ≡ all
    → new ++ code_lines (k + 1) (drop (k + 1) code) ≡ all
line_more code k uop out new all e written before =
    ap (λ (xs : List ℕ). xs ++ code_lines (k + 1) (drop (k + 1) code)) written
    ∙ append_assoc out (uop_line k uop) (code_lines (k + 1) (drop (k + 1) code))
    ∙ ap (λ (xs : List Uop). out ++ code_lines k xs) (sym (rest_from code k uop e)) ∙ before

-- the text of one more part
pub part_more : {A : Type 0} (text : A → List ℕ) (parts : List A) (k : ℕ) (part : A)
    (out new all : List ℕ) → slice_get parts k ≡ Some part → new ≡ out ++ text part
    → out ++ flat_map text (drop k parts) ≡ all
    → new ++ flat_map text (drop (k + 1) parts) ≡ all
part_more {A} text parts k part out new all e written before =
    ap (λ (xs : List ℕ). xs ++ flat_map text (drop (k + 1) parts)) written
    ∙ append_assoc out (text part) (flat_map text (drop (k + 1) parts))
    ∙ ap (λ (xs : List A). out ++ flat_map text xs) (sym (rest_from parts k part e)) ∙ before
