-- What a chip shows, and what calls on it do.
use Rattle.std.specs.Prelude.{◌≡◌, ℕ, ◌+◌, ◌≤◌, Bool, true, false, List}
use Rattle.std.specs.Prelude.{[], ◌∷◌, ◌++◌, Option, None}
use Rattle.dram_model.specs.declared.geometry.Geometry.{Geometry}
use Rattle.dram_model.specs.declared.dram.Counters.{Counters}
use Rattle.dram_model.specs.Chip.{Banks, Event, Log, LogIs, after, all_counted, blank_banks, Grew}
use Rattle.faults.specs.Counts.{Rose}
use Rattle.dram_model.specs.Chip.{SameBut, bank_of}

-- What a chip shows: whether its last `begin` was Ok, its shape, the columns of its banks, its
-- counters, how many of its calls failed, and its log, where it tells one
pub record ChipView : Type 0 where
  pub begun : Bool
  pub geometry : Geometry
  pub banks : Banks
  pub counters : Counters
  pub faults : ℕ
  pub log : Option Log

-- its last `begin` was Ok
abbrev pub HasBegun : ChipView → Type 0
HasBegun chip = chip.begun ≡ true

-- the counters of a chip that has just begun
abbrev pub no_counts : Counters
no_counts = record { aap = 0; ap = 0; writes = 0; reads = 0 }

-- so many host reads more
abbrev pub with_reads : ℕ → Counters → Counters
with_reads n counters = record counters { reads = counters.reads + n }

-- what no call but `begin` changes, whatever comes of it
pub record Kept (old new : ChipView) : Type 0 where
  pub begun : new.begun ≡ old.begun
  pub geometry : new.geometry ≡ old.geometry
  pub faults : old.faults ≤ new.faults

-- exactly these events happened, in this order, and no call failed
pub record Did (events : List Event) (old new : ChipView) : Type 0 where
  pub banks : new.banks ≡ after events old.banks
  pub counters : new.counters ≡ all_counted events old.counters
  pub faults : new.faults ≡ old.faults
  pub log : Grew old.log new.log events

-- so many data rows were read, and nothing else happened
pub record DidRead (n : ℕ) (old new : ChipView) : Type 0 where
  pub banks : new.banks ≡ old.banks
  pub counters : new.counters ≡ with_reads n old.counters
  pub faults : new.faults ≡ old.faults
  pub log : Grew old.log new.log []

-- a call on this bank failed: what stands in it is unspecified, and the other banks are as they
-- were
pub record FailedIn (bank : ℕ) (old new : ChipView) : Type 0 where
  pub rose : Rose old.faults new.faults
  pub others : SameBut bank old.banks new.banks

-- the call for one of these events failed, after those before it: all banks but that event's are
-- as these leave them
pub record StoppedIn (events : List Event) (old new : ChipView) : Type 0 where
  pub done : List Event
  pub event : Event
  pub left : List Event
  pub all : done ++ event ∷ left ≡ events
  pub known : Grew old.log new.log done
  pub others : SameBut (bank_of event) (after done old.banks) new.banks
  pub rose : Rose old.faults new.faults

-- the chip has this shape, zeros in every row and no counts; a log that it tells is empty
pub record Began (g : Geometry) (chip : ChipView) : Type 0 where
  pub begun : HasBegun chip
  pub geometry : chip.geometry ≡ g
  pub banks : chip.banks ≡ blank_banks g
  pub counters : chip.counters ≡ no_counts
  pub log : LogIs [] chip.log

-- the last `begin` failed: rows and counters are unspecified, and no log is known
pub record NotBegun (chip : ChipView) : Type 0 where
  pub begun : chip.begun ≡ false
  pub no_event : chip.log ≡ None
