-- The rows and the numbers of an operand: an object, or a part of one.
use Rattle.std.specs.Prelude.{ℕ, ◌+◌, ◌*◌, ◌/◌, ◌%◌, ◌^◌, nat_lt, Bool, true, false, ◌&&◌, List}
use Rattle.std.specs.Prelude.{map, Option, Some, None}
use Rattle.std.specs.List.{zip}
use Rattle.object_alloc.specs.declared.table.Object.{Object}
use Rattle.bbop_isa.specs.declared.instr.Part.{Part}

-- the part ends past the object
abbrev pub is_past : Option Part → Object → Bool
is_past None o = false
is_past (Some p) o = nat_lt o.width (p.low + p.size)

-- two parts of one object have a bit in common
abbrev pub share : Option Part → Option Part → Bool
share None part = true
share (Some p) None = true
share (Some p) (Some q) = nat_lt p.low (q.low + q.size) && nat_lt q.low (p.low + p.size)

-- the rows of a part are those of an object
abbrev pub cut : Option Part → Object → Object
cut None o = o
cut (Some p) o = record { base = o.base + p.low; width = p.size; count = o.count }

-- the bits of a number that are the part's
abbrev pub seen : Option Part → ℕ → ℕ
seen None v = v
seen (Some p) v = v / 2 ^ p.low % 2 ^ p.size

-- the number with the part's bits replaced by a new number's
abbrev pub put : Option Part → ℕ → ℕ → ℕ
put None old new = new
put (Some p) old new = old % 2 ^ p.low
    + 2 ^ p.low * (new + 2 ^ p.size * (old / 2 ^ (p.low + p.size)))

-- each number with the part's bits replaced by those of the new number at its place
abbrev pub put_all : Option Part → List ℕ → List ℕ → List ℕ
put_all part olds news = map (λ z. put part z.0 z.1) (zip olds news)
