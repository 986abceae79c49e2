-- What a folder and a sink show at a moment, and how two such moments are related.
use Rattle.std.specs.Prelude.{◌≡◌, ◌≢◌, ℕ, ◌<◌, ◌≤◌, Bool, if◌then◌else◌, List}
use Rattle.std.specs.Prelude.{◌++◌, length, Option, Some, None, IfSome}
use Rattle.faults.specs.Counts.{raised}

-- the files that there are, by the bytes of their names
abbrev pub Files : Type 0
Files = List ℕ → Option (List ℕ)

-- what a folder shows: its files, where it tells them; the faults of loads of each name; the faults
-- of stores; the
-- bytes that its loads took
pub record FolderView : Type 0 where
  pub holds : Option Files
  pub load_faults : List ℕ → ℕ
  pub store_faults : ℕ
  pub taken : ℕ

-- what a sink shows: the bytes that it was sent, where it tells them, and its faults
pub record SinkView : Type 0 where
  pub sent : Option (List ℕ)
  pub faults : ℕ

-- what was known is still known, and is related so
abbrev pub Known : {A : Type 0} → (A → A → Type 0) → Option A → Option A → Type 0
Known R None new = Unit {0}
Known R (Some old) None = ⊥
Known R (Some old) (Some new) = R old new

-- no count of a folder falls
pub record NoCountFalls (old new : FolderView) : Type 0 where
  pub load_faults : (name : List ℕ) → old.load_faults name ≤ new.load_faults name
  pub store_faults : old.store_faults ≤ new.store_faults
  pub taken : old.taken ≤ new.taken

-- each name has the count of load faults that it had
abbrev pub SameLoadFaults : FolderView → FolderView → Type 0
SameLoadFaults old new = (name : List ℕ) → new.load_faults name ≡ old.load_faults name

-- no count of faults rose
pub record Unfailed (old new : FolderView) : Type 0 where
  pub load_faults : SameLoadFaults old new
  pub store_faults : new.store_faults ≡ old.store_faults

-- one load fault was counted, for these names and for no others
abbrev pub CountsFault : (List ℕ → Bool) → (List ℕ → ℕ) → (List ℕ → ℕ) → Type 0
CountsFault counts_for old new = (name : List ℕ)
    → new name ≡ (if counts_for name then raised 1 (old name) else old name)

-- a folder that counted nothing yet
pub record HasNoFaults (folder : FolderView) : Type 0 where
  pub load_faults : (name : List ℕ) → folder.load_faults name ≡ 0
  pub store_faults : folder.store_faults ≡ 0
  pub taken : folder.taken ≡ 0

-- the file of this name, where the folder tells it, has these bytes
abbrev pub HasBytes : FolderView → List ℕ → List ℕ → Type 0
HasBytes folder name bytes = IfSome folder.holds (λ files. files name ≡ Some bytes)

-- the file of this name, where the folder tells it, has more bytes than the limit
abbrev pub IsLonger : ℕ → FolderView → List ℕ → Type 0
IsLonger limit folder name = IfSome folder.holds (λ files. (bytes : List ℕ)
    × (files name ≡ Some bytes) × (limit < length bytes))

-- every other file is as it was
abbrev pub KeepsOthers : List ℕ → Files → Files → Type 0
KeepsOthers name old new = (other : List ℕ) → other ≢ name → new other ≡ old other

-- every file is as it was
abbrev pub SameFiles : Files → Files → Type 0
SameFiles old new = (name : List ℕ) → new name ≡ old name

-- p is the front of the whole
abbrev pub IsPrefix : List ℕ → List ℕ → Type 0
IsPrefix p whole = (rest : List ℕ) × (p ++ rest ≡ whole)

-- a prefix of the bytes was appended
abbrev pub AppendsPart : List ℕ → List ℕ → List ℕ → Type 0
AppendsPart bytes old new = (part : List ℕ) × (IsPrefix part bytes × (new ≡ old ++ part))
