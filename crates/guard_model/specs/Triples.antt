-- Tables whose objects stand in three copies, and their states.
use Rattle.std.specs.Prelude.{◌≡◌, ℕ, ◌+◌, ◌==◌, Bool, false, not, ◌&&◌, if◌then◌else◌, List, []}
use Rattle.std.specs.Prelude.{◌∷◌, ◌++◌, ◌≤◌, true, drop, length, map, take, Option, Some, None}
use Rattle.std.specs.List.{AllByRecursion}
use Rattle.std.specs.Str.{bytes_eq}
use Rattle.text_lex.specs.Spelled.{fits_name}
use Rattle.object_alloc.specs.Listed.{Named}
use Rattle.machine_model.specs.Steps.{Held}

-- the byte before the name of a first copy: x
abbrev pub x_letter : ℕ
x_letter = 120

-- the byte before the name of a second copy: y
abbrev pub y_letter : ℕ
y_letter = 121

-- the byte before the name of a third copy: z
abbrev pub z_letter : ℕ
z_letter = 122

-- an x before a name
abbrev pub is_first_name : List ℕ → Bool
is_first_name [] = false
is_first_name (letter ∷ name) = (letter == x_letter) && fits_name name

-- an object that can be the first copy of a triple
abbrev pub is_first : Named → Bool
is_first p = is_first_name p.0

-- the copy under this letter of an object that stands under x
abbrev pub is_copy : ℕ → Named → Named → Bool
is_copy letter first p = bytes_eq p.0 (letter ∷ drop 1 first.0) &&
    ((p.1.width == first.1.width) && (p.1.count == first.1.count))

-- the first object that does not continue a list of triples, or the number of objects where the
-- list ends inside one;
-- the first object of the list has number k
abbrev pub stranger_from : ℕ → List Named → Option ℕ
stranger_from k [] = None
stranger_from k (x ∷ []) = Some (if is_first x then k + 1 else k)
stranger_from k (x ∷ y ∷ []) = Some
    (if not (is_first x) then k else (if not (is_copy y_letter x y) then k + 1 else k + 2))
stranger_from k (x ∷ y ∷ z ∷ rest) =
    if not (is_first x) then Some k
    else (if not (is_copy y_letter x y) then Some (k + 1)
    else (if not (is_copy z_letter x z) then Some (k + 2)
    else stranger_from (k + 3) rest))

-- where a table stops being triples: at its first stranger, counted from 0, or at its end where it
-- ends inside a triple
abbrev pub first_stranger : List Named → Option ℕ
first_stranger table = stranger_from 0 table

-- an object by its name, its width and how many elements it has, wherever it lies
pub record Outline : Type 0 where
  pub name : List ℕ
  pub width : ℕ
  pub count : ℕ

-- what the three copies of an object have in common, but for the letter
abbrev pub outline : Named → Outline
outline p = record { name = p.0; width = p.1.width; count = p.1.count }

-- the copy under this letter
abbrev pub lettered : ℕ → Outline → Outline
lettered letter o = record { name = letter ∷ o.name; width = o.width; count = o.count }

-- the three copies of each of these objects, one object after another
abbrev pub in_copies : List Outline → List Outline
in_copies [] = []
in_copies (o ∷ guarded) =
    lettered x_letter o ∷ lettered y_letter o ∷ lettered z_letter o ∷ in_copies guarded

-- each of these objects has a name that a file has room for
abbrev pub AllNamed : List Outline → Type 0
AllNamed guarded = AllByRecursion (λ o. fits_name o.name ≡ true) guarded

-- the table is the three copies of each of these objects
pub record IsTripled (table : List Named) : Type 0 where
  pub guarded : List Outline
  pub names : AllNamed guarded
  pub parts : map outline table ≡ in_copies guarded

-- with more objects after it, the table is the three copies of each of these
pub record BeginsTripled (table : List Named) : Type 0 where
  pub guarded : List Outline
  pub names : AllNamed guarded
  pub more : List Outline
  pub parts : map outline table ++ more ≡ in_copies guarded

-- so many objects are the longest front of the table that begins such copies
pub record IsLongestFront (table : List Named) (k : ℕ) : Type 0 where
  pub within : k ≤ length table
  pub begins : BeginsTripled (take k table)
  pub longest : (n : ℕ) → n ≤ length table → BeginsTripled (take n table) → n ≤ k

-- the first copies, under the guarded names
abbrev pub first_copies : List Held → List Held
first_copies (x ∷ y ∷ z ∷ rest) =
    record { name = drop 1 x.name; object = x.object; numbers = x.numbers } ∷ first_copies rest
first_copies state = []
