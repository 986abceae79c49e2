-- How the banks of a wave take turns.
use Rattle.std.specs.Prelude.{◌≡◌, ℕ, zero, suc, ◌+◌, ◌%◌, ◌^◌, ◌<◌, ◌==◌, nat_lt, Bool, not}
use Rattle.std.specs.Prelude.{if◌then◌else◌, List, [], ◌∷◌, ◌++◌, flat_map, filter, length, take}
use Rattle.std.specs.Prelude.{drop, slice_index, sum_by}
use Rattle.std.specs.List.{range_with_len}
use Rattle.rand_xoshiro.specs.SplitMix64.{mix_u64}
use Rattle.dram_model.specs.declared.address.Command.{Command}
use Rattle.dram_model.specs.Chip.{Event}
use Rattle.dram_model.specs.Events.{row_events}

-- commands, and how many banks do them
pub record WaveJob : Type 0 where
  pub commands : List Command
  pub banks : ℕ

-- the commands that each bank has still to do
abbrev pub Queues : Type 0
Queues = ℕ → List Command

-- a bank's queue: the commands of each job that the bank does, in order
abbrev pub queues : List WaveJob → Queues
queues jobs bank = flat_map (λ job. if nat_lt bank job.banks then job.commands else []) jobs

-- the banks that have commands left, upwards
abbrev pub is_live : Queues → ℕ → Bool
is_live left bank = not (length (left bank) == 0)

-- the banks that an order can choose among
abbrev pub live : ℕ → Queues → List ℕ
live banks left = filter (is_live left) (range_with_len 0 banks)

-- the bank that a pick chooses among them
abbrev pub picked : ℕ → Queues → ℕ → ℕ
picked banks left pick = slice_index (live banks left) pick

-- what is left when a bank has done its next command
abbrev pub without_next : ℕ → Queues → Queues
without_next bank left = λ b. if bank == b then drop 1 (left b) else left b

-- the events of picks, in their order: the bank that is picked does its next command
abbrev pub events_of_picks : ℕ → List ℕ → Queues → List Event
events_of_picks banks [] left = []
events_of_picks banks (pick ∷ picks) left =
    let bank = picked banks left pick in
    row_events bank (take 1 (left bank)) ++ events_of_picks banks picks (without_next bank left)

-- each pick chooses a live bank, and after the last no bank is live
abbrev pub IsWhole : ℕ → List ℕ → Queues → Type 0
IsWhole banks [] left = live banks left ≡ []
IsWhole banks (pick ∷ picks) left =
    (pick < length (live banks left))
    × IsWhole banks picks (without_next (picked banks left pick) left)

-- a picker: its pick in a state where so many banks are live, and the state that it leaves
pub record Picker (S : Type 0) : Type 0 where
  pub choice : S → ℕ → ℕ
  pub next : S → ℕ → S

-- its pick is always one of the live banks
abbrev pub PicksLive : {S : Type 0} → Picker S → Type 0
PicksLive {S} p = (s : S) (count : ℕ) → 0 < count → p.choice s count < count

-- its first n picks, and its state after them
abbrev pub picks : {S : Type 0} → Picker S → ℕ → ℕ → S → Queues → List ℕ
picks p banks zero s left = []
picks p banks (suc n) s left =
    let count = length (live banks left) in
    let pick = p.choice s count in
    pick ∷ picks p banks n (p.next s count) (without_next (picked banks left pick) left)

-- the picker's state after n picks
abbrev pub state_after : {S : Type 0} → Picker S → ℕ → ℕ → S → Queues → S
state_after p banks zero s left = s
state_after p banks (suc n) s left =
    let count = length (live banks left) in
    let pick = p.choice s count in
    state_after p banks n (p.next s count) (without_next (picked banks left pick) left)

-- how many commands are left in all: as many picks as make a whole list
abbrev pub total_left : ℕ → Queues → ℕ
total_left banks left = sum_by (λ bank. length (left bank)) (range_with_len 0 banks)

-- its whole list of picks, and its state after it
abbrev pub whole_picks : {S : Type 0} → Picker S → ℕ → S → Queues → List ℕ
whole_picks p banks s left = picks p banks (total_left banks left) s left

-- the picker's state when no bank has a command left
abbrev pub last_state : {S : Type 0} → Picker S → ℕ → S → Queues → S
last_state p banks s left = state_after p banks (total_left banks left) s left

-- the order in force, with its picker's state: the first live bank each time; one after another,
-- by a count of 16 bits; or by the words of a generator
pub data Turn : Type 0 where
  Ahead : Turn
  Turning : ℕ → Turn
  Drawing : ℕ → Turn

-- which of so many live banks the order in force picks
abbrev pub turn_choice : Turn → ℕ → ℕ
turn_choice Ahead count = 0
turn_choice (Turning t) count = t % count
turn_choice (Drawing state) count = (mix_u64 state).0 % count

-- the order's state after a pick
abbrev pub turn_next : Turn → ℕ → Turn
turn_next Ahead count = Ahead
turn_next (Turning t) count = Turning ((t + 1) % 2 ^ 16)
turn_next (Drawing state) count = Drawing (mix_u64 state).1

-- the order in force as a picker
abbrev pub in_turn : Picker Turn
in_turn = record { choice = turn_choice; next = turn_next }
