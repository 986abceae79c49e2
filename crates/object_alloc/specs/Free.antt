-- Which rows are free, and where so many begin.
use Rattle.std.specs.Prelude.{◌≡◌, ℕ, ◌+◌, ◌<◌, ◌≤◌, ◌&&◌, nat_lt, nat_le, Bool, true, false, not}
use Rattle.std.specs.Prelude.{List, All, Option, MatchOption}
use Rattle.std.specs.List.{list_all, find, range_with_len}
use Rattle.object_alloc.specs.declared.table.Object.{Object}

-- the object takes this row, in every bank
abbrev pub has_row : Object → ℕ → Bool
has_row o row = nat_le o.base row && nat_lt row (o.base + o.width)

-- the row is an object row, and in no object
abbrev pub is_free : ℕ → List Object → ℕ → Bool
is_free limit objects row = nat_lt row limit && list_all (λ o. not (has_row o row)) objects

-- the k rows from the base on are free
abbrev pub are_free : ℕ → List Object → ℕ → ℕ → Bool
are_free limit objects k base = list_all (is_free limit objects) (range_with_len base k)

-- the least base of k free rows, if there is one
unfoldable pub free : ℕ → List Object → ℕ → Option ℕ
free limit objects k = find (are_free limit objects k) (range_with_len 0 (limit + 1))

-- the k rows from the base on are object rows, and in no object
abbrev pub AreFree : ℕ → List Object → ℕ → ℕ → Type 0
AreFree limit objects k base = (row : ℕ) → base ≤ row → row < base + k
    → (row < limit) × All (λ o. has_row o row ≡ false) objects

-- the base is that of k free rows, and none is less; or there is none at all
abbrev pub IsLeastFree : ℕ → List Object → ℕ → Option ℕ → Type 0
IsLeastFree limit objects k found =
    MatchOption found
    ((base : ℕ) → AreFree limit objects k base → ⊥)
    (λ base. AreFree limit objects k base × ((other : ℕ) → AreFree limit objects k other
    → base ≤ other))

-- no row is in both objects
abbrev pub AreApart : Object → Object → Type 0
AreApart o p = (row : ℕ) → has_row o row ≡ true → has_row p row ≡ false

-- the row after the object's last
abbrev pub end_of : Object → ℕ
end_of o = o.base + o.width

-- the object has one of the k rows from the base on
abbrev pub meets : ℕ → ℕ → Object → Bool
meets base k o = (nat_lt o.base (base + k) && nat_lt base (o.base + o.width))
    && (nat_lt base (base + k) && nat_lt o.base (o.base + o.width))
