-- What stands after steps: the files, what was sent, the banks, and which counts of faults rose.
use Rattle.std.specs.Prelude.{◌≡◌, ℕ, ◌≤◌, List, [], ◌∷◌, ◌++◌}
use Rattle.host_edge.specs.Views.{Files, NoCountFalls, Unfailed}
use Rattle.cli_model.specs.World.{World, with_file}
use Rattle.cli_model.specs.Steps.{Step, Load, Take, Store, Open, Use, UseFor, Put, Print}
use Rattle.dram_model.specs.Chip.{Banks, after}
use Rattle.cli_model.specs.Waves.{banks_after}

-- the files after the stores of these steps
abbrev pub files_after : List Step → Files → Files
files_after [] files = files
files_after (Load name limit text refusal ∷ steps) files = files_after steps files
files_after (Take ∷ steps) files = files_after steps files
files_after (Store name bytes ∷ steps) files = files_after steps (with_file name bytes files)
files_after (Open on ∷ steps) files = files_after steps files
files_after (Use on ∷ steps) files = files_after steps files
files_after (UseFor wave ∷ steps) files = files_after steps files
files_after (Put bytes ∷ steps) files = files_after steps files
files_after (Print on bytes ∷ steps) files = files_after steps files

-- what these steps send
abbrev pub sent_by : List Step → List ℕ
sent_by [] = []
sent_by (Load name limit text refusal ∷ steps) = sent_by steps
sent_by (Take ∷ steps) = sent_by steps
sent_by (Store name bytes ∷ steps) = sent_by steps
sent_by (Open on ∷ steps) = sent_by steps
sent_by (Use on ∷ steps) = sent_by steps
sent_by (UseFor wave ∷ steps) = sent_by steps
sent_by (Put bytes ∷ steps) = bytes ++ sent_by steps
sent_by (Print on bytes ∷ steps) = bytes ++ sent_by steps

-- what a step that was done leaves in the banks
abbrev pub left_by : Step → Banks → Banks
left_by (Load name limit text refusal) banks = banks
left_by Take banks = banks
left_by (Store name bytes) banks = banks
left_by (Open on) banks = banks_after on
left_by (Use on) banks = banks_after on
left_by (UseFor wave) banks = after wave.events wave.banks
left_by (Put bytes) banks = banks
left_by (Print on bytes) banks = banks_after on

-- and these steps, one after another
abbrev pub all_left : List Step → Banks → Banks
all_left [] banks = banks
all_left (step ∷ steps) banks = all_left steps (left_by step banks)

-- no count of faults falls
pub record CountsOn (old new : World) : Type 0 where
  pub files : NoCountFalls old.files new.files
  pub sink : old.sink.faults ≤ new.sink.faults
  pub chip : old.chip.faults ≤ new.chip.faults

-- no count of faults rose
pub record NoneRose (old new : World) : Type 0 where
  pub files : Unfailed old.files new.files
  pub sink : new.sink.faults ≡ old.sink.faults
  pub chip : new.chip.faults ≡ old.chip.faults
