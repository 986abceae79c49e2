-- The numbers of a script.
use Rattle.std.specs.Prelude.{ℕ, ◌^◌, nat_lt, List, Option, Some, None, if◌then◌else◌}
use Rattle.std.specs.Str.Parse.{digits_value}

-- the value that digits write, where it is below 2^128
abbrev pub number_of : List ℕ → Option ℕ
number_of digits = if nat_lt (digits_value 10 digits) (2 ^ 128) then Some (digits_value 10 digits)
    else None
