-- What a folder in memory keeps of a name, and which names share a count of faults.
use Rattle.std.specs.Prelude.{ℕ, Bool, false, List, Some, String}
use Rattle.std.specs.Option.{option_map, option_map_or, is_none}
use Rattle.std.specs.Str.{bytes_eq}
use Rattle.std.specs.BTreeMap.{BTreeMap, get_by_text}
use Rattle.host_edge.specs.Views.{Files, FolderView, SinkView}
use Rattle.faults.specs.Plans.{Plan, plan_of}
use Rattle.host_edge.specs.declared.mem_folder.Kept.{Kept}
use Rattle.host_edge.specs.declared.mem_folder.MemFolder.{MemFolder}
use Rattle.host_edge.specs.declared.mem_sink.MemSink.{MemSink}

-- the bytes of the file of this name
abbrev pub files_of : {Y : Type 0} → BTreeMap (String Y) Kept → Files
files_of files name = option_map (λ kept. kept.bytes.items) (get_by_text files name)

-- the load faults of this name, or those of all names without a file
abbrev pub faults_of : {Y : Type 0} → BTreeMap (String Y) Kept → ℕ → List ℕ → ℕ
faults_of files others name = option_map_or (λ kept. kept.load_faults) (get_by_text files name)
    others

-- whether a load fault of the first name counts for the second: a name with a file has a count of
-- its own, and
-- all names without a file share one
abbrev pub counts_for : Files → List ℕ → List ℕ → Bool
counts_for files name q = option_map_or (λ _. bytes_eq q name) (files name) (is_none (files q))

-- the plan of a folder's calls: loads and stores count together
abbrev pub folder_plan : MemFolder → Plan
folder_plan folder = plan_of folder.plan

-- the plan of a sink's puts
abbrev pub sink_plan : MemSink → Plan
sink_plan sink = plan_of sink.plan

-- what a folder in memory shows
abbrev pub folder_view : MemFolder → FolderView
folder_view folder = record {
  holds = Some (files_of folder.files);
  load_faults = faults_of folder.files folder.other_load_faults;
  store_faults = folder.store_faults;
  taken = folder.taken;
}

-- what a sink in memory shows
abbrev pub sink_view : MemSink → SinkView
sink_view sink = record { sent = Some sink.bytes.items; faults = sink.faults }

-- whether a folder tells that there is no file of this name
abbrev pub is_absent : FolderView → List ℕ → Bool
is_absent folder name = option_map_or (λ files. is_none (files name)) folder.holds false
