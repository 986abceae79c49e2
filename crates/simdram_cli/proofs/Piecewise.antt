-- Pieces of a script, one after another.
use Rattle.simdram_cli.proofs.Common.{◌≡◌, ℕ, suc, ◌+◌, ◌<◌, ◌≤◌, Bool, true, false, cond, List, []}
use Rattle.simdram_cli.proofs.Common.{◌∷◌, ◌++◌, map, drop, take, length, refl, sym, ◌∙◌, ap, subst}
use Rattle.simdram_cli.proofs.Common.{arith, append-nil, inl, inr, count_by, flat_map}
use Rattle.simdram_cli.proofs.Common.{AllByRecursion, prefix_len, cases_lt, Counters, Ap, Aap}
use Rattle.simdram_cli.proofs.Common.{Geometry, Banks, Event, after, counted, all_counted, Row}
use Rattle.simdram_cli.proofs.Common.{Write, ChipView, with_reads, all_counted-append, Grew-more}
use Rattle.simdram_cli.proofs.Common.{Named, Instr, Instruction, view_of, IsPlain, Routines}
use Rattle.simdram_cli.proofs.Common.{is_bbop, banks_at_end, table_at_end, AreBbops, Piece, Wave}
use Rattle.simdram_cli.proofs.Common.{Alone, instrs_in, pieces, Turn, piece_events, turn_after}
use Rattle.simdram_cli.proofs.Common.{ChipUse, Said, said_by, said_in_rows, line, lines}
use Rattle.simdram_cli.proofs.Common.{table_after, scripts_go_on, all_parted, World, End, Done}
use Rattle.simdram_cli.proofs.Common.{Stopped, Reason, Goes, goes_on, stops, sent_by, is_print}
use Rattle.simdram_cli.proofs.Common.{DidAndRead, sent_append}
use Rattle.std.specs.Prelude.{Option, min}
use Rattle.std.proofs.lemmas.List.{length-take-le, take-map}
use Rattle.std.proofs.lemmas.List.Sums.{prefix_len-le-length}
use Rattle.std.proofs.Math.Nat.{min-eq_left, min-eq_right, min-le_right}
use Rattle.std.proofs.lemmas.List.Recursion.{is_count_by}
use Rattle.dram_model.proofs.EventLaws.{after-append, Grew-none}
use Rattle.machine_model.specs.Pieces.{IsPiece, wave_size}
use Rattle.machine_model.specs.Steps.{banks_after}
use Rattle.machine_model.proofs.Cut.{alone_cut, wave_cut, wave_is_piece}
use Rattle.machine_model.proofs.Parts.{lines_go_on}
use Rattle.machine_model.proofs.Pieces.{pieces_are_script}
use Rattle.simdram_cli.specs.Job.{put_lines, piece_steps, pieces_steps}
use Rattle.simdram_cli.specs.Works.{next_piece}
use Rattle.cli_model.specs.Steps.{line_steps}

least_some : (n : ℕ) → 1 ≤ n → 0 < min 16 n
least_some n some = elim (cases_lt 16 n) [
  | inl l ↦
      let below : 16 ≤ n = omega (arith, l) in
      let e = min-eq_left below in omega (arith, e)
  | inr l ↦
      let above : n ≤ 16 = omega (arith, l) in
      let e = min-eq_right above in omega (arith, e, some)
]

-- a script that begins with a bbop begins with a wave
some_wave : (instr : Instruction) (script : List Instruction) → is_bbop instr ≡ true
    → 0 < wave_size (instr ∷ script)
some_wave instr script e =
    let one : 1 ≤ prefix_len is_bbop (instr ∷ script) = rw e (omega arith) in
    least_some (prefix_len is_bbop (instr ∷ script)) one

pub wave_within : (script : List Instruction) → wave_size script ≤ length script
wave_within script =
    let a = min-le_right 16 (prefix_len is_bbop script) in
    let b = prefix_len-le-length is_bbop script in
    omega (arith, a, b)

wave_begins : (script : List Instruction) → 0 < wave_size script
    → pieces script ≡ Wave (take (wave_size script) script)
    ∷ pieces (drop (length (take (wave_size script) script)) script)
wave_begins script some = rw (length-take-le (wave_size script) script (wave_within script))
    (wave_cut script some)

no_wave : (instr : Instruction) (script : List Instruction) → is_bbop instr ≡ false
    → wave_size (instr ∷ script) ≡ 0
no_wave instr script e =
    let none : prefix_len is_bbop (instr ∷ script) ≡ 0 = rw e refl in
    let below : 0 ≤ 16 = omega arith in
    ap (min 16) none ∙ min-eq_right below

-- a wave that there is is the first piece
pub next_wave : (script : List Instruction) → 0 < wave_size script
    → next_piece script ≡ Wave (take (wave_size script) script)
next_wave [] some =
    let below : 0 ≤ 16 = omega arith in
    let none : wave_size [] ≡ 0 = min-eq_right below in
    absurd (omega (arith, some, none))
next_wave (instr ∷ script) some = by_kind (is_bbop instr) refl where
  by_kind : (t : Bool) → is_bbop instr ≡ t
      → cond t (Wave (take (wave_size (instr ∷ script)) (instr ∷ script))) (Alone instr)
      ≡ Wave (take (wave_size (instr ∷ script)) (instr ∷ script))
  by_kind true e = refl
  by_kind false e = let none = no_wave instr script e in absurd (omega (arith, some, none))

-- so it is of the instructions that the code cuts off
pub cut_wave : (script : List Instr) (len : ℕ) → len ≡ wave_size (map view_of script) → 0 < len
    → next_piece (map view_of script) ≡ Wave (map view_of (take len script))
cut_wave script len e some =
    let size : 0 < wave_size (map view_of script) = omega (arith, e, some) in
    next_wave (map view_of script) size
    ∙ ap (λ (k : ℕ). Wave (take k (map view_of script))) (sym e)
    ∙ ap Wave (take-map view_of len script)

pub cut_bbops : (script : List Instr) (len : ℕ) → len ≡ wave_size (map view_of script) → 0 < len
    → AreBbops (map view_of (take len script))
cut_bbops script len e some =
    let size : 0 < wave_size (map view_of script) = omega (arith, e, some) in
    (subst IsPiece (ap (λ (k : ℕ). Wave (take k (map view_of script))) (sym e)
    ∙ ap Wave (take-map view_of len script)) (wave_is_piece (map view_of script) size)).0

pub cut_plain : (script : List Instr) (len : ℕ) → AllByRecursion IsPlain (map view_of script)
    → AllByRecursion IsPlain (map view_of (take len script))
cut_plain script len plain =
    subst (AllByRecursion IsPlain) (take-map view_of len script)
    (all_parted IsPlain len (map view_of script) plain).0

-- the first piece of a script, and the others
pub begins : (script : List Instruction) → 0 < length script
    → pieces script ≡ next_piece script
    ∷ pieces (drop (length (instrs_in (next_piece script))) script)
begins [] some = absurd (omega (arith, some))
begins (instr ∷ script) some = by_kind (is_bbop instr) refl where
  by_kind : (t : Bool) → is_bbop instr ≡ t
      → (let next : Piece = cond t (Wave (take (wave_size (instr ∷ script)) (instr ∷ script)))
      (Alone instr) in
      (pieces (instr ∷ script) ≡ next ∷ pieces (drop (length (instrs_in next)) (instr ∷ script))))
  by_kind true e = wave_begins (instr ∷ script) (some_wave instr script e)
  by_kind false e = alone_cut instr script e

pub piece_is : (script : List Instruction) → 0 < length script → IsPiece (next_piece script)
piece_is script some =
    (subst (AllByRecursion IsPiece) (begins script some) (pieces_are_script script).0).0

-- the first piece has the instructions at the front
pub front_is : (script : List Instruction) → 0 < length script
    → instrs_in (next_piece script) ++ drop (length (instrs_in (next_piece script))) script ≡ script
front_is script some =
    let next = next_piece script in
    let rest = drop (length (instrs_in next)) script in
    let whole = ap (flat_map instrs_in) (begins script some) ∙ refl in
    ap (λ x. instrs_in next ++ x) (sym (pieces_are_script rest).1)
    ∙ sym whole ∙ (pieces_are_script script).1

-- one piece's steps, and then the others'
pub goes_piece : (g : Geometry) (o : Routines) (turn next_turn : Turn)
    (table next_table : List Named) (banks next : Banks) (number : ℕ) (piece : Piece)
    (rest : List Piece) (end : End)
    (a b w : World) → next_turn ≡ turn_after g o turn table piece
    → next_table ≡ table_at_end g o table (instrs_in piece)
    → next ≡ banks_at_end g o table banks (instrs_in piece)
    → Goes (piece_steps g o turn table banks number piece) Done a b
    → Goes (pieces_steps g o next_turn next_table next (number + length (instrs_in piece)) rest) end
    b w
    → Goes (pieces_steps g o turn table banks number (piece ∷ rest)) end a w
goes_piece g o turn next_turn table next_table banks next number piece rest end a b w t e f one
    more =
    goes_on (piece_steps g o turn table banks number piece) _ end a b w one
    (rw (← t, ← e, ← f) more)

pub stops_piece : (g : Geometry) (o : Routines) (turn : Turn) (table : List Named) (banks : Banks)
    (number : ℕ) (piece : Piece) (rest : List Piece) (reason : Reason) (a b : World)
    → Goes (piece_steps g o turn table banks number piece) (Stopped reason) a b
    → Goes (pieces_steps g o turn table banks number (piece ∷ rest)) (Stopped reason) a b
stops_piece g o turn table banks number piece rest reason a b one =
    stops (piece_steps g o turn table banks number piece) _ reason a b one

-- reads beside events

one_event : (event : Event) (n : ℕ) (k : Counters)
    → counted event (with_reads n k) ≡ with_reads n (counted event k)
one_event (Row bank (Ap x)) n k = refl
one_event (Row bank (Aap x y)) n k = refl
one_event (Write bank row bits) n k = refl

reads_apart : (events : List Event) (n : ℕ) (k : Counters)
    → all_counted events (with_reads n k) ≡ with_reads n (all_counted events k)
reads_apart [] n k = refl
reads_apart (event ∷ events) n k =
    ap (all_counted events) (one_event event n k) ∙ reads_apart events n (counted event k)

more_reads : (n m : ℕ) (k : Counters) → with_reads m (with_reads n k) ≡ with_reads (n + m) k
more_reads n m k = let e : k.reads + n + m ≡ k.reads + (n + m) = omega arith in rw e refl

pub did_more : (es fs : List Event) (n m : ℕ) (a b c : ChipView) → DidAndRead es n a b
    → DidAndRead fs m b c → DidAndRead (es ++ fs) (n + m) a c
did_more es fs n m a b c d e = record {
  banks = e.banks ∙ ap (after fs) d.banks ∙ sym (after-append es fs a.banks);
  counters = e.counters ∙ ap (λ k. with_reads m (all_counted fs k)) d.counters
      ∙ ap (with_reads m) (reads_apart fs n (all_counted es a.counters))
      ∙ more_reads n m (all_counted fs (all_counted es a.counters))
      ∙ ap (with_reads (n + m)) (sym (all_counted-append es fs a.counters));
  faults = e.faults ∙ d.faults;
  log = Grew-more a.log b.log c.log es fs d.log e.log;
}

pub did_none : (a : ChipView) → DidAndRead [] 0 a a
did_none a = record {
  banks = refl;
  counters = let e : a.counters.reads ≡ a.counters.reads + 0 = omega arith in rw (← e) refl;
  faults = refl;
  log = Grew-none a.log;
}

tally : {X : Type 0} (p : X → Bool) → List X → ℕ
tally p [] = 0
tally p (x ∷ xs) = cond (p x) (1 + tally p xs) (tally p xs)

tally-is : {X : Type 0} (p : X → Bool) (xs : List X) → tally p xs ≡ count_by p xs
unfolding tally
tally-is p xs = is_count_by (tally p) p refl (λ x ys. refl) xs

one_more : (b : Bool) (n m : ℕ) → cond b (1 + (n + m)) (n + m) ≡ cond b (1 + n) n + m
one_more true n m = omega arith
one_more false n m = omega arith

tally_both : {X : Type 0} (p : X → Bool) (xs ys : List X)
    → tally p (xs ++ ys) ≡ tally p xs + tally p ys
unfolding tally
tally_both p [] ys = omega arith
tally_both p (x ∷ xs) ys = rw (tally_both p xs ys) (one_more (p x) (tally p xs) (tally p ys))

-- how many of two lists hold
pub count_both : {X : Type 0} (p : X → Bool) (xs ys : List X)
    → count_by p (xs ++ ys) ≡ count_by p xs + count_by p ys
count_both p xs ys = rw (← tally-is p (xs ++ ys), ← tally-is p xs, ← tally-is p ys)
    (tally_both p xs ys)

-- what is sent

sent_lines : (number : ℕ) (said : List Said) → sent_by (put_lines number said) ≡ lines number said
sent_lines number [] = refl
sent_lines number (said ∷ rest) =
    ap (λ w. line number said ++ w) (sent_lines (number + 1) rest)

sent_instr : (on : ChipUse) (prints : Bool) (bytes : List ℕ)
    → sent_by (line_steps on prints bytes) ≡ bytes
sent_instr on true bytes = append-nil bytes
sent_instr on false bytes = append-nil bytes

sent_piece : (g : Geometry) (o : Routines) (turn : Turn) (table : List Named) (banks : Banks)
    (number : ℕ) (piece : Piece) → sent_by (piece_steps g o turn table banks number piece)
    ≡ lines number (said_in_rows g o table banks (instrs_in piece))
sent_piece g o turn table banks number (Wave wave) =
    sent_lines number (said_in_rows g o table banks wave)
sent_piece g o turn table banks number (Alone instr) =
    let bytes = line number (said_by g o table banks instr) in
    sent_instr _ (is_print instr) bytes
    ∙ sym (append-nil bytes)

said_count : (g : Geometry) (o : Routines) (table : List Named) (banks : Banks)
    (script : List Instruction) → length (said_in_rows g o table banks script) ≡ length script
said_count g o table banks [] = refl
said_count g o table banks (instr ∷ script) = ap suc (said_count g o (table_after g o table instr)
    (banks_after g o table banks instr) script)

sent_pieces : (g : Geometry) (o : Routines) (turn : Turn) (table : List Named) (banks : Banks)
    (number : ℕ) (pieces : List Piece)
    → sent_by (pieces_steps g o turn table banks number pieces)
    ≡ lines number (said_in_rows g o table banks (flat_map instrs_in pieces))
sent_pieces g o turn table banks number [] = refl
sent_pieces g o turn table banks number (piece ∷ rest) =
    let front = instrs_in piece in
    let others = flat_map instrs_in rest in
    let said = said_in_rows g o table banks front in
    let after_table = table_at_end g o table front in
    let after_banks = banks_at_end g o table banks front in
    let next = turn_after g o turn table piece in
    sent_append (piece_steps g o turn table banks number piece)
    (pieces_steps g o next after_table after_banks (number + length front) rest)
    ∙ ap (λ w. w
    ++ sent_by (pieces_steps g o next after_table after_banks (number + length front) rest))
    (sent_piece g o turn table banks number piece)
    ∙ ap (λ w. lines number said ++ w)
    (sent_pieces g o next after_table after_banks (number + length front) rest)
    ∙ ap (λ (n : ℕ). lines number said
    ++ lines (number + n) (said_in_rows g o after_table after_banks others))
    (sym (said_count g o table banks front))
    ∙ sym (lines_go_on number said (said_in_rows g o after_table after_banks others))
    ∙ ap (lines number) (sym ((scripts_go_on g o table front others).said banks))

-- the steps of a script send its lines
pub sent_script : (g : Geometry) (o : Routines) (turn : Turn) (table : List Named) (banks : Banks)
    (script : List Instruction) → sent_by (pieces_steps g o turn table banks 1 (pieces script))
    ≡ lines 1 (said_in_rows g o table banks script)
sent_script g o turn table banks script =
    sent_pieces g o turn table banks 1 (pieces script)
    ∙ ap (λ (s : List Instruction). lines 1 (said_in_rows g o table banks s))
    (pieces_are_script script).1
