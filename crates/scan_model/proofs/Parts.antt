-- Parts of objects: their widths, and what is seen of numbers.
use Rattle.scan_model.proofs.Common.{◌≡◌, ℕ, zero, suc, ◌+◌, ◌%◌, ◌^◌, ◌<◌, ◌≤◌, false, ltb, List}
use Rattle.scan_model.proofs.Common.{[], ◌∷◌, map, get_or, Option, Some, None, refl, sym, ◌∙◌, ap}
use Rattle.scan_model.proofs.Common.{arith, AllByRecursion, nat_tests, pow_pos, Object, Part, cut}
use Rattle.scan_model.proofs.Common.{is_past, seen, IsWidth}
use Rattle.std.proofs.Math.Nat.{zero-div, zero-mod}
use Rattle.scan_model.specs.Queries.{Operand, Whole, Bit, Bits, place_of, IsPart, HasParts}
use Rattle.scan_model.specs.Queries.{Query, Compare, Negate, Both, Either, Node, Test, Not, And}
use Rattle.scan_model.specs.Queries.{Or, size, nodes_from}
use Rattle.scan_model.specs.TextLaws.{IsWritten}
use Rattle.scan_model.proofs.Counted.{all_append}

-- a part has a bit
abbrev pub SomeBits : Option Part → Type 0
SomeBits None = Unit {0}
SomeBits (Some p) = 0 < p.size

pub part_some : (o : Operand) → IsPart o → SomeBits (place_of o).part
part_some (Whole name) h = tt
part_some (Bit name k) h = omega arith
part_some (Bits name low high) h = let l = h.0 in omega (arith, l)

-- the parts of a query that is written may be an object's
pub written_parts : (q : Query) → IsWritten q → HasParts q
written_parts (Compare op o v) w = w.1
written_parts (Negate a) w = written_parts a w
written_parts (Both a b) w = (written_parts a w.0, written_parts b w.1)
written_parts (Either a b) w = (written_parts a w.0, written_parts b w.1)

-- a node's comparison looks at some bit
abbrev pub LooksAtSome : Node → Type 0
LooksAtSome (Test op place v) = SomeBits place.part
LooksAtSome (Not a) = Unit {0}
LooksAtSome (And a b) = Unit {0}
LooksAtSome (Or a b) = Unit {0}

pub nodes_some : (k : ℕ) (q : Query) → HasParts q → AllByRecursion LooksAtSome (nodes_from k q)
nodes_some k (Compare op o v) h = (part_some o h, tt)
nodes_some k (Negate a) h = all_append LooksAtSome (nodes_from k a) _ (nodes_some k a h) (tt, tt)
nodes_some k (Both a b) h = all_append LooksAtSome (nodes_from k a) _ (nodes_some k a h.0)
    (all_append LooksAtSome (nodes_from (k + size a) b) _ (nodes_some (k + size a) b h.1) (tt, tt))
nodes_some k (Either a b) h = all_append LooksAtSome (nodes_from k a) _ (nodes_some k a h.0)
    (all_append LooksAtSome (nodes_from (k + size a) b) _ (nodes_some (k + size a) b h.1) (tt, tt))

at_most : (a b : ℕ) → ltb a b ≡ false → b ≤ a
at_most a b h = grind (arith, nat_tests)

-- a part that does not end past its object is no wider
pub part_wide : (part : Option Part) (o : Object) → is_past part o ≡ false → SomeBits part
    → IsWidth o.width → IsWidth (cut part o).width
part_wide None o inside some w = w
part_wide (Some p) o inside some w =
    let l = at_most o.width (p.low + p.size) inside in
    let m = w.1 in (some, omega (arith, l, m))

pub cut_count : (part : Option Part) (o : Object) → (cut part o).count ≡ o.count
cut_count None o = refl
cut_count (Some p) o = refl

seen_zero : (part : Option Part) → seen part 0 ≡ 0
seen_zero None = refl
seen_zero (Some p) = ap (λ x. x % 2 ^ p.size) (zero-div (2 ^ p.low)) ∙ zero-mod (2 ^ p.size)

pub seen_at : (part : Option Part) (numbers : List ℕ) (e : ℕ)
    → get_or (map (seen part) numbers) e 0 ≡ seen part (get_or numbers e 0)
seen_at part [] e = sym (seen_zero part)
seen_at part (v ∷ numbers) zero = refl
seen_at part (v ∷ numbers) (suc e) = seen_at part numbers e

-- what is seen of a number fits the part's width
pub seen_fits : (part : Option Part) (o : Object) (v : ℕ) → v < 2 ^ o.width
    → seen part v < 2 ^ (cut part o).width
seen_fits None o v l = l
seen_fits (Some p) o v l = omega (arith, pow_pos p.size)
