-- What the files foretell of a command.
use Rattle.std.specs.Prelude.{ℕ, nat_lt, List, [], ◌∷◌, length, Option, Some, None}
use Rattle.std.specs.Prelude.{if◌then◌else◌}
use Rattle.host_edge.specs.Views.{Files}
use Rattle.cli_model.specs.World.{with_file}
use Rattle.cli_model.specs.Steps.{Step, Load, Take, Store, Open, Use, UseFor, Put, Print, Refusal}
use Rattle.cli_model.specs.Steps.{CannotRead, TooLong, Refused, End, Done, Stopped}

-- a refused text ends the command; else the rest does
abbrev pub refused_or : Option Refusal → End → End
refused_or None rest = rest
refused_or (Some refusal) rest = Stopped (Refused refusal)

-- how a load ends, by the file that is there
abbrev pub load_end : List ℕ → ℕ → Option Refusal → Option (List ℕ) → End → End
load_end name limit refusal None rest = Stopped (CannotRead name)
load_end name limit refusal (Some bytes) rest = if nat_lt limit (length bytes)
    then Stopped (TooLong name) else refused_or refusal rest

-- How a command ends on these files, where nothing fails and there is memory: at the first file
-- that is not there, is too long or is refused
abbrev pub foreseen : List Step → Files → End
foreseen [] files = Done
foreseen (Load name limit text refusal ∷ steps) files =
    load_end name limit refusal (files name) (foreseen steps files)
foreseen (Take ∷ steps) files = foreseen steps files
foreseen (Store name bytes ∷ steps) files = foreseen steps (with_file name bytes files)
foreseen (Open on ∷ steps) files = foreseen steps files
foreseen (Use on ∷ steps) files = foreseen steps files
foreseen (UseFor wave ∷ steps) files = foreseen steps files
foreseen (Put bytes ∷ steps) files = foreseen steps files
foreseen (Print on bytes ∷ steps) files = foreseen steps files
