-- What a line says is right.
use Rattle.std.proofs.lemmas.Bool.{and_parts}
use Rattle.std.proofs.Common.{◌≡◌, ℕ, ◌≤◌, ◌<◌, ◌^◌, nat_le, nat_lt, Bool, true, false, ◌&&◌}
use Rattle.std.proofs.Common.{List, [], ◌∷◌, map, length, Option, Some, None, Ok, refl, subst, sym}
use Rattle.std.proofs.Common.{arith}
use Rattle.std.specs.List.{list_all, AllByRecursion}
use Rattle.std.proofs.lemmas.Bool.Decides.{nat_tests}
use Rattle.std.proofs.lemmas.List.{length-map}
use Rattle.text_lex.specs.Spelled.{fits_name}
use Rattle.bit_rows.specs.declared.TheConstants.{WIDTH_MAX}
use Rattle.bbop_isa.specs.Operands.{Written, Whole, Bit, Bits}
use Rattle.bbop_isa.specs.Forms.{Instruction, is_bit, is_count, is_width, number_or_zero, line_of}
use Rattle.bbop_isa.specs.Forms.{has_name, has_bits, place_of}
use Rattle.bbop_isa.specs.Kinds.{Form, InitForm, BbopForm, LoadForm, FillForm, PrintForm, FreeForm}
use Rattle.bbop_isa.specs.Kinds.{InOrder, TurnsOrder, SeedOrder, IsForm, names_fit, numbers_fit}
use Rattle.bbop_isa.specs.Kinds.{meaning}
use Rattle.bbop_isa.specs.Laws.{AreSizes, IsRightPlace, IsRight}
use Rattle.bbop_isa.proofs.Kinded.{lines_are}

sizes : (count n : Option ℕ) → (is_count count && is_width n) ≡ true
    → AreSizes (number_or_zero count) (number_or_zero n)
sizes (Some count) (Some n) is =
    let two = and_parts (is_count (Some count)) (is_width (Some n)) is in
    let c = and_parts (nat_le 1 count) (nat_lt count (2 ^ 32)) two.0 in
    let w = and_parts (nat_le 1 n) (nat_le n WIDTH_MAX) two.1 in (
      grind (arith, nat_tests, c.0),
      grind (arith, nat_tests, c.1),
      grind (arith, nat_tests, w.0),
      grind (arith, nat_tests, w.1),
    )
sizes (Some count) None is =
    let clash : false ≡ true = (and_parts (is_count (Some count)) false is).1 in absurd (cc)
sizes None n is = absurd (cc)

place_is_right : (place : Written) → has_name place ≡ true → has_bits place ≡ true
    → IsRightPlace (place_of place)
place_is_right (Whole name) named bits = (named, tt)
place_is_right (Bit name None) named bits = absurd (cc)
place_is_right (Bit name (Some k)) named bits = (named, (omega arith, grind (arith, nat_tests, bits)))
place_is_right (Bits name None high) named bits = absurd (cc)
place_is_right (Bits name (Some low) None) named bits =
    let clash : false ≡ true = (and_parts (is_bit (Some low)) false bits).1 in absurd (cc)
place_is_right (Bits name (Some low) (Some high)) named bits =
    let two = and_parts (is_bit (Some low)) (is_width (Some high) && nat_lt low high) bits in
    let more = and_parts (is_width (Some high)) (nat_lt low high) two.1 in
    let w = and_parts (nat_le 1 high) (nat_le high WIDTH_MAX) more.0 in
    let below : low < high = grind (arith, nat_tests, more.1) in
    let few : high ≤ WIDTH_MAX = grind (arith, nat_tests, w.1) in
    (named, (omega (arith, below), omega (arith, below, few)))

places_are_right : (places : List Written) → list_all has_name places ≡ true
    → list_all has_bits places ≡ true → AllByRecursion IsRightPlace (map place_of places)
places_are_right [] named bits = tt
places_are_right (place ∷ places) named bits =
    let n = and_parts (has_name place) (list_all has_name places) named in
    let b = and_parts (has_bits place) (list_all has_bits places) bits in
    (place_is_right place n.0 b.0, places_are_right places n.1 b.1)

form_is_right : (f : Form) → IsForm f → names_fit f ≡ true → numbers_fit f ≡ true
    → IsRight (meaning f)
form_is_right (InitForm name count n) is names numbers = (names, sizes count n numbers)
form_is_right (BbopForm op dst srcs count n) is names numbers =
    let named = and_parts (fits_name op) (list_all has_name (dst ∷ srcs)) names in
    let b = and_parts (list_all has_bits (dst ∷ srcs)) (is_count count && is_width n) numbers in
    let few : length (map place_of srcs) ≡ length srcs = length-map srcs place_of in (
      named.0,
      places_are_right (dst ∷ srcs) named.1 b.0,
      is.0,
      omega (arith, few, is.1),
      omega (arith, few, is.2),
      sizes count n b.1,
    )
form_is_right (LoadForm place values) is names numbers =
    let some : length (map number_or_zero values) ≡ length values = length-map values number_or_zero in
    (place_is_right place names (and_parts (has_bits place) _ numbers).0, omega (arith, some, is))
form_is_right (FillForm place v) is names numbers =
    place_is_right place names (and_parts (has_bits place) _ numbers).0
form_is_right (PrintForm place) is names numbers = place_is_right place names numbers
form_is_right (FreeForm name) is names numbers = names
form_is_right InOrder is names numbers = tt
form_is_right TurnsOrder is names numbers = tt
form_is_right (SeedOrder None) is names numbers = absurd (cc)
form_is_right (SeedOrder (Some seed)) is names numbers = grind (arith, nat_tests, numbers)

-- what a line says has right names and numbers
pub line_is_right : (line : List ℕ) (i : Instruction) → line_of line ≡ Ok (Some i) → IsRight i
line_is_right line i is = let are = (lines_are line i).0 is in
    subst IsRight (sym are.means) (form_is_right are.form are.has.1 are.names are.numbers)
