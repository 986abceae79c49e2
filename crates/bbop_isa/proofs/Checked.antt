-- Operands and numbers that are checked one after another.
use Rattle.std.proofs.lemmas.Bool.{and_parts}
use Rattle.std.proofs.Common.{◌≡◌, ℕ, ◌+◌, ◌<◌, ◌≤◌, nat_lt, Bool, true, false, ◌&&◌, List, [], ◌∷◌, ◌++◌, map}
use Rattle.std.proofs.Common.{drop, length, get_or, Option, refl, ap}
use Rattle.std.proofs.Common.{◌∙◌, append_assoc, arith, drop-cons, add-one, length-append}
use Rattle.std.specs.Option.{is_some}
use Rattle.std.specs.List.{list_all}
use Rattle.std.proofs.lemmas.Bool.Decides.{nat_tests}
use Rattle.std.proofs.lemmas.List.{length-map}
use Rattle.text_lex.specs.Spelled.{fits_name}
use Rattle.bbop_isa.specs.declared.instr.Place.{Place}
use Rattle.bbop_isa.specs.declared.terms.Written.{Written as Kept}
use Rattle.bbop_isa.specs.Forms.{Bbop, number_or_zero, checked, is_count, is_width, has_name}
use Rattle.bbop_isa.specs.Forms.{has_bits, place_of, bbop_of}
use Rattle.bbop_isa.specs.Reading.{written_view}

-- the places so far are right, and stand before those that are left
pub record PlacesSoFar (all : List Kept) (places : List Place) (i : ℕ) : Type 0 where
  pub count : length places ≡ i
  pub named : list_all has_name (map written_view (drop i all)) ≡ true
  pub right : list_all has_bits (map written_view all)
      ≡ list_all has_bits (map written_view (drop i all))
  pub items : map place_of (map written_view all)
      ≡ places ++ map place_of (map written_view (drop i all))

-- the values so far are right, and stand before those that are left
pub record ValuesSoFar (all : List (Option ℕ)) (values : List ℕ) (i : ℕ) : Type 0 where
  pub right : list_all is_some all ≡ list_all is_some (drop i all)
  pub items : map number_or_zero all ≡ values ++ map number_or_zero (drop i all)

-- one more that is right
pub places_go_on : (all : List Kept) (places new : List Place) (i : ℕ) (d : Kept) (place : Place)
    → PlacesSoFar all places i → i < length all
    → (has_name (written_view (get_or all i d)) && has_bits (written_view (get_or all i d))) ≡ true
    → place ≡ place_of (written_view (get_or all i d)) → new ≡ places ++ place ∷ []
    → PlacesSoFar all new (i + 1)
places_go_on all places new i d place so_far within right meant same =
    let written = written_view (get_or all i d) in
    let rest : map written_view (drop i all) ≡ written ∷ map written_view (drop (i + 1) all) =
    rw (drop-cons all i d, add-one) refl in
    let two = and_parts (has_name written) (has_bits written) right in
    let named = and_parts (has_name written) (list_all has_name (map written_view (drop (i + 1) all)))
    (rw rest at so_far.named) in
    record {
      count = grind (arith, length-append, so_far.count, same);
      named = named.1;
      right = so_far.right ∙ rw (rest, two.1) refl;
      items = so_far.items ∙ rw (
        rest,
        same,
        meant,
        append_assoc places (place_of written ∷ [])
            (map place_of (map written_view (drop (i + 1) all))),
      ) refl;
    }

-- one that is wrong
pub place_is_wrong : (all : List Kept) (places : List Place) (i : ℕ) (d : Kept)
    → PlacesSoFar all places i → i < length all
    → (has_name (written_view (get_or all i d)) && has_bits (written_view (get_or all i d))) ≡ false
    → list_all has_bits (map written_view all) ≡ false
place_is_wrong all places i d so_far within wrong =
    let written = written_view (get_or all i d) in
    let rest : map written_view (drop i all) ≡ written ∷ map written_view (drop (i + 1) all) =
    rw (drop-cons all i d, add-one) refl in
    let named = and_parts (has_name written) (list_all has_name (map written_view (drop (i + 1) all)))
    (rw rest at so_far.named) in
    let no : has_bits written ≡ false = rw named.0 at wrong in
    so_far.right ∙ rw (rest, no) refl

-- all of a list that is seen
pub all_seen : (all : List Kept) → list_all (λ w. has_name (written_view w)) all
    ≡ list_all has_name (map written_view all)
all_seen [] = refl
all_seen (w ∷ all) = ap (λ b. has_name (written_view w) && b) (all_seen all)

-- an operation with its operands
pub bbop_read : (op : List ℕ) (places srcs : List Kept) (dst : Kept) (numbers : List (Option ℕ))
    (count n : Option ℕ) → places ≡ dst ∷ srcs → 1 ≤ length srcs → length srcs ≤ 5
    → numbers ≡ count ∷ n ∷ [] → bbop_of op (map written_view places) numbers
    ≡ checked (fits_name op && list_all has_name (written_view dst ∷ map written_view srcs))
    (list_all has_bits (written_view dst ∷ map written_view srcs) && (is_count count && is_width n))
    (Bbop op (place_of (written_view dst)) (map place_of (map written_view srcs))
    (number_or_zero count) (number_or_zero n))
bbop_read op places [] dst numbers count n are some few is = absurd (omega (arith, some))
bbop_read op places (src ∷ srcs) dst numbers count n are some few is =
    let seen : length (map written_view srcs) ≡ length srcs = length-map srcs written_view in
    let most : nat_lt 4 (length (map written_view srcs)) ≡ false =
    grind (arith, nat_tests, seen, few) in
    rw (are, is, most) refl
