-- What a command may change.
use Rattle.std.specs.Prelude.{ℕ, List, Some, bytes_eq, if◌then◌else◌}
use Rattle.dram_model.specs.View.{ChipView}
use Rattle.host_edge.specs.Views.{Files, FolderView, SinkView}

-- all that the outside shows of itself at a moment: a folder, a sink and a chip
pub record World : Type 0 where
  pub files : FolderView
  pub sink : SinkView
  pub chip : ChipView

-- all that the outside shows of itself, put together
abbrev pub world : FolderView → SinkView → ChipView → World
world files sink chip = record { files = files; sink = sink; chip = chip }

-- the files, with these bytes under this name
abbrev pub with_file : List ℕ → List ℕ → Files → Files
with_file name bytes files = λ other. if bytes_eq other name then Some bytes else files other
