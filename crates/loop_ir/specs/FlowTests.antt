-- What a flow keeps, so that its code does its run.
use Rattle.std.specs.Prelude.{ℕ, zero, suc, ◌+◌, ◌==◌, ◌&&◌, nat_lt, nat_le, Bool, true, false, not}
use Rattle.std.specs.Prelude.{◌||◌, List, [], ◌∷◌, filter, slice_index}
use Rattle.loop_ir.specs.declared.ir.Move.{Move}
use Rattle.loop_ir.specs.declared.ir.Move.TheVariants.{SetI, SetN, SetT, Mov, AddI, SubI, Add}
use Rattle.std.specs.List.{list_all, range_with_len}
use Rattle.bit_rows.specs.declared.TheConstants.{WIDTH_MAX}
use Rattle.loop_ir.specs.Flows.{FlowOf, TurnsOf, EventOf, run, zeros}
use Rattle.loop_ir.specs.Flows.EventOf.{Done, Moved, Counted}
use Rattle.loop_ir.specs.Flows.FlowOf.{End, Do, Put, If, Loop}
use Rattle.loop_ir.specs.Flows.TurnsOf.{Last, Turn}

-- the register that a move changes
abbrev pub target : Move → ℕ
target (SetI r k) = r
target (SetN r) = r
target (SetT r) = r
target (Mov r s) = r
target (AddI r k) = r
target (SubI r k) = r
target (Add r s) = r

-- its registers are below 7, and its number is one that a register can hold
abbrev pub is_low : Move → Bool
is_low (SetI r k) = nat_lt r 7 && nat_le k 1023
is_low (SetN r) = nat_lt r 7
is_low (SetT r) = nat_lt r 7
is_low (Mov r s) = nat_lt r 7 && nat_lt s 7
is_low (AddI r k) = nat_lt r 7 && nat_le k 1023
is_low (SubI r k) = nat_lt r 7 && nat_le k 1023
is_low (Add r s) = nat_lt r 7 && nat_lt s 7

-- the register is one that a move sets or reads
abbrev pub is_moved : ℕ → Move → Bool
is_moved r (SetI s k) = s == r
is_moved r (SetN s) = s == r
is_moved r (SetT s) = s == r
is_moved r (Mov s t) = s == r || t == r
is_moved r (AddI s k) = s == r
is_moved r (SubI s k) = s == r
is_moved r (Add s t) = s == r || t == r

abbrev mutual
  -- the register stands in some form of the flow, the places of its bodies aside
  pub names : {A : Type 0} → ℕ → FlowOf A → Bool
  names r End = false
  names r (Do b k) = names r k
  names r (Put m k) = is_moved r m || names r k
  names r (If s x y k) = s == r || (names r x || (names r y || names r k))
  names r (Loop s ts k) = s == r || (any_names r ts || names r k)

  pub any_names : {A : Type 0} → ℕ → TurnsOf A → Bool
  any_names r (Last x) = names r x
  any_names r (Turn x ts) = names r x || any_names r ts

-- the registers that stand in its forms: they get 0 before it
abbrev pub cleared : {A : Type 0} → FlowOf A → List ℕ
cleared f = filter (λ r. names r f) (0 ∷ 1 ∷ 2 ∷ 3 ∷ 4 ∷ 5 ∷ 6 ∷ [])

abbrev mutual
  -- no form changes the register
  pub keeps : {A : Type 0} → ℕ → FlowOf A → Bool
  keeps r End = true
  keeps r (Do b k) = keeps r k
  keeps r (Put m k) = not (target m == r) && keeps r k
  keeps r (If s x y k) = keeps r x && (keeps r y && keeps r k)
  keeps r (Loop s ts k) = not (s == r) && (all_keep r ts && keeps r k)

  pub all_keep : {A : Type 0} → ℕ → TurnsOf A → Bool
  all_keep r (Last x) = keeps r x
  all_keep r (Turn x ts) = keeps r x && all_keep r ts

abbrev mutual
  -- all registers are below 7, and each loop's counter is kept in its turns
  pub counts : {A : Type 0} → FlowOf A → Bool
  counts End = true
  counts (Do b k) = counts k
  counts (Put m k) = is_low m && counts k
  counts (If r x y k) = nat_lt r 7 && (counts x && (counts y && counts k))
  counts (Loop r ts k) = nat_lt r 7 && (all_keep r ts && (all_count ts && counts k))

  pub all_count : {A : Type 0} → TurnsOf A → Bool
  all_count (Last x) = counts x
  all_count (Turn x ts) = counts x && all_count ts

abbrev mutual
  -- at most so many loops stand inside one another
  pub nests : {A : Type 0} → ℕ → FlowOf A → Bool
  nests d End = true
  nests d (Do b k) = nests d k
  nests d (Put m k) = nests d k
  nests d (If r x y k) = nests d x && (nests d y && nests d k)
  nests zero (Loop r ts k) = false
  nests (suc d) (Loop r ts k) = all_nest d ts && nests (suc d) k

  pub all_nest : {A : Type 0} → ℕ → TurnsOf A → Bool
  all_nest d (Last x) = nests d x
  all_nest d (Turn x ts) = nests d x && all_nest d ts

-- whether no register leaves its range
abbrev pub is_safe : Move → List ℕ → Bool
is_safe (SetI r k) g = true
is_safe (SetN r) g = true
is_safe (SetT r) g = true
is_safe (Mov r s) g = true
is_safe (AddI r k) g = nat_le (slice_index g r + k) 1023
is_safe (SubI r k) g = nat_le k (slice_index g r)
is_safe (Add r s) g = nat_le (slice_index g r + slice_index g s) 1023

-- whether a move is safe, and a loop has at most n iterations
abbrev pub is_event_safe : {A : Type 0} → ℕ → EventOf A → Bool
is_event_safe n (Done b g) = true
is_event_safe n (Moved m g) = is_safe m g
is_event_safe n (Counted r g) = nat_le (slice_index g r) n

-- the widths at which code runs
abbrev pub widths : List ℕ
widths = range_with_len 1 WIDTH_MAX

-- every event of a flow's run is safe, at each width
abbrev pub runs_safely : {A : Type 0} → FlowOf A → Bool
runs_safely f = list_all (λ n. list_all (is_event_safe n) (run n f zeros).events) widths
