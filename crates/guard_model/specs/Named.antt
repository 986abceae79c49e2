-- Names that have no room for a letter before them.
use Rattle.std.specs.Prelude.{ℕ, ◌+◌, nat_lt, Bool, List, [], ◌∷◌, map, length, Option, position}
use Rattle.std.specs.Option.{option_map}
use Rattle.std.specs.List.{list_any}
use Rattle.bbop_isa.specs.Forms.{Instruction}
use Rattle.bbop_isa.specs.Forms.{Init, Bbop, Load, Fill, Print, Free, Order}

-- more than 15 bytes
abbrev pub is_long : List ℕ → Bool
is_long name = nat_lt 15 (length name)

-- the objects that an instruction names
abbrev pub objects_in : Instruction → List (List ℕ)
objects_in (Init name count n) = name ∷ []
objects_in (Bbop op dst srcs count n) = map (λ place. place.name) (dst ∷ srcs)
objects_in (Load place values) = place.name ∷ []
objects_in (Fill place value) = place.name ∷ []
objects_in (Print place) = place.name ∷ []
objects_in (Free name) = name ∷ []
objects_in (Order order) = []

-- it names an object whose name has no room for a letter, so that the script is not taken
abbrev pub has_long_name : Instruction → Bool
has_long_name instr = list_any is_long (objects_in instr)

-- the number of the first instruction, from 1, that names an object of more than 15 bytes
abbrev pub first_long_name : List Instruction → Option ℕ
first_long_name script = option_map (λ place. place + 1) (position has_long_name script)
