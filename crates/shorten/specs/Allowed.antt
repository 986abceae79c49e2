-- Which straight-line commands a search may give
use Rattle.std.specs.Prelude.{ℕ, ◌+◌, nat_lt, nat_le, not, Bool, false, ◌&&◌, ◌||◌, List}
use Rattle.std.specs.List.{list_all, list_any}
use Rattle.dram_model.specs.declared.address.Addr.{Addr}
use Rattle.dram_model.specs.declared.address.Addr.TheVariants.{B, C, D}
use Rattle.dram_model.specs.declared.address.Command.{Command}
use Rattle.dram_model.specs.declared.address.Command.TheVariants.{Ap, Aap}
use Rattle.shorten.specs.declared.roles.Span.{Span}
use Rattle.shorten.specs.declared.roles.Roles.{Roles}

-- the data row is one of the span's
abbrev pub is_in_span : ℕ → Span → Bool
is_in_span row span = nat_le span.first row && nat_lt row (span.first + span.count)

-- the data row is in one of the spans
abbrev pub is_in : List Span → ℕ → Bool
is_in spans row = list_any (is_in_span row) spans

-- may be activated first: any bitwise address but B8 to B11, C0, C1, and each row with a role
abbrev pub may_be_first : Roles → Addr → Bool
may_be_first roles (B k) = nat_lt k 8 || (nat_le 12 k && nat_lt k 16)
may_be_first roles (C k) = nat_lt k 2
may_be_first roles (D row) = is_in roles.sources.items row
    || (is_in roles.results.items row || is_in roles.scratch.items row)

-- may be activated second: any bitwise address, and the results and the scratch, but no source
abbrev pub may_be_second : Roles → Addr → Bool
may_be_second roles (B k) = nat_lt k 16
may_be_second roles (C k) = false
may_be_second roles (D row) = not (is_in roles.sources.items row)
    && (is_in roles.results.items row || is_in roles.scratch.items row)

-- each address of the command may stand where it does
abbrev pub is_allowed : Roles → Command → Bool
is_allowed roles (Ap x) = may_be_first roles x
is_allowed roles (Aap x y) = may_be_first roles x && may_be_second roles y

-- so is each command
abbrev pub are_allowed : Roles → List Command → Bool
are_allowed roles commands = list_all (is_allowed roles) commands
