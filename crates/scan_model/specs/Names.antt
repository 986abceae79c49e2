-- The names of the objects that a scan makes.
use Rattle.std.specs.Prelude.{ℕ, ◌+◌, not, List, ◌++◌, map, filter, length, codes, decimal}
use Rattle.std.specs.Prelude.{slice_index_or, []}
use Rattle.std.specs.List.{range_with_len}
use Rattle.object_alloc.specs.Listed.{Named, has_name}

-- scan_0, scan_1, and so on
abbrev pub scan_name : ℕ → List ℕ
scan_name i = codes "scan_" ++ decimal i

-- the names among the first n that no object of the table has
abbrev pub free_among : List Named → ℕ → List (List ℕ)
free_among table n = filter (λ name. not (has_name table name))
    (map scan_name (range_with_len 0 n))

-- the free name with this number, below 65: of each length table + 65 names at least 65 are free
unfoldable pub free_name : List Named → ℕ → List ℕ
free_name table k = slice_index_or (free_among table (length table + 65)) k []
