-- What a folder of the file system and a sink over a writer show, and which count a name's faults
-- go to.
use Rattle.std.specs.Prelude.{ℕ, Bool, ◌==◌, List, Option, None, unwrap_or, slice_index, take}
use Rattle.std.specs.Prelude.{position}
use Rattle.std.specs.Str.{bytes_eq}
use denote.Ref.{Bor}
use Rattle.host_edge.specs.Views.{FolderView, SinkView}
use Rattle.host_edge.specs.declared.disk_folder.DiskFolder.{DiskFolder}
use Rattle.host_edge.specs.declared.std_sink.StdSink.{StdSink}

-- the place of the first of the first eight words that is this name, or 8 where none is
abbrev pub place_of : List (Bor (List ℕ)) → List ℕ → ℕ
place_of words name = unwrap_or (position (λ word. bytes_eq word.now name) (take 8 words)) 8

-- whether a load fault of the first name counts for the second: equal words share the count of the
-- first one, and
-- all names that are none of the eight share one
abbrev pub counts_together : List (Bor (List ℕ)) → List ℕ → List ℕ → Bool
counts_together words name q = place_of words q == place_of words name

-- the words whose first eight have counts of their own
abbrev pub words_of : DiskFolder → List (Bor (List ℕ))
words_of folder = folder.words.now

-- what a folder of the file system shows: its counts, and none of its files
abbrev pub disk_view : DiskFolder → FolderView
disk_view folder = record {
  holds = None;
  load_faults = λ name. slice_index folder.load_faults (place_of folder.words.now name);
  store_faults = folder.store_faults;
  taken = folder.taken;
}

-- what a sink over a writer shows: the bytes that the writer tells
abbrev pub std_view : {W : Type 0} → (W → Option (List ℕ)) → StdSink W → SinkView
std_view contents sink = record { sent = contents sink.out; faults = sink.faults }
