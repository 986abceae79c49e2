-- One piece of a script was done, and the others are left.
use Rattle.simdram_cli.proofs.Common.{◌≡◌, ℕ, ◌+◌, ◌<◌, ◌≤◌, List, ◌∷◌, ◌++◌, drop, length, refl}
use Rattle.simdram_cli.proofs.Common.{sym, ◌∙◌, ap, subst, arith, map, true, count_by}
use Rattle.simdram_cli.proofs.Common.{AllByRecursion, FolderView, SinkView, Counters, Geometry}
use Rattle.simdram_cli.proofs.Common.{is_geometry, ChipView, Listing, Named, Instr, Instruction}
use Rattle.simdram_cli.proofs.Common.{view_of, Turn, IsPlain, Program, routines_in, TableFits}
use Rattle.simdram_cli.proofs.Common.{Piece, instrs_in, pieces, piece_events, turn_after}
use Rattle.simdram_cli.proofs.Common.{events_of_pieces, is_refused, replies, rows_printed, sum_done}
use Rattle.simdram_cli.proofs.Common.{table_at_end, banks_at_end, all_parted, scripts_go_on, World}
use Rattle.simdram_cli.proofs.Common.{world, End, Done, Goes, Machine, geometry_of, program_of}
use Rattle.simdram_cli.proofs.Common.{table_in, turn_in, LiesOn, RisesAtMost, DidAndRead}
use Rattle.std.proofs.lemmas.List.{drop-drop, drop-map}
use Rattle.machine_model.specs.Laws.{FitsBanks}
use Rattle.machine_model.proofs.Bounds.{geometry_parts}
use Rattle.machine_model.proofs.Pieces.{piece_is_steps}
use Rattle.machine_model.proofs.Tables.{fits_banks}
use Rattle.simdram_cli.specs.Job.{piece_steps, pieces_steps}
use Rattle.simdram_cli.specs.Works.{PieceDone, next_piece}
use Rattle.simdram_cli.proofs.Piecewise.{begins, count_both, did_more, front_is, goes_piece}
use Rattle.simdram_cli.proofs.Piecewise.{piece_is}

-- a piece that was done with a program on a chip of a shape
pub record Step (g : Geometry) (p : Program) (turn next_turn : Turn) (table next_table : List Named)
    (piece : Piece) (a b : ChipView) (refused : ℕ) : Type 0 where
  pub turn_is : next_turn ≡ turn_after g (routines_in p) turn table piece
  pub table_is : next_table ≡ table_at_end g (routines_in p) table (instrs_in piece)
  pub did : DidAndRead (piece_events g (routines_in p) turn table piece)
      (sum_done rows_printed g (routines_in p) table (instrs_in piece)) a b
  pub refused_is : refused ≡ count_by is_refused (replies g (routines_in p) table
      (instrs_in piece))

pub step_of : (m n : Machine) (g : Geometry) (p : Program) (piece : Piece) (a b : ChipView)
    (refused : ℕ) → geometry_of m ≡ g → program_of m ≡ p → PieceDone piece m n a b refused
    → Step g p (turn_in m) (turn_in n) (table_in m) (table_in n) piece a b refused
step_of m n g p piece a b refused e f d = rw (← e, ← f) (record {
  turn_is = d.turn;
  table_is = d.table;
  did = d.did;
  refused_is = d.refused_is;
})

-- the banks of a machine hold its objects
pub record Holds (g : Geometry) (table : List Named) : Type 0 where
  pub words : 0 < g.words
  pub fits : FitsBanks g table

pub holds_of : (g : Geometry) (table : List Named) → is_geometry g ≡ true → TableFits g table
    → Holds g table
holds_of g table shape fits = record {
  words = (geometry_parts g shape).0;
  fits = fits_banks g table fits;
}

pub holds_on : (g : Geometry) (table : Listing) → LiesOn g table → Holds g table.pairs
holds_on g table lies = holds_of g table.pairs lies.geometry
    (record { listed = lies.listed; objects = lies.objects })

-- what is left after the first piece
pub left_is : (script : List Instr) (done taken : ℕ) → taken
    ≡ length (instrs_in (next_piece (map view_of (drop done script))))
    → map view_of (drop (done + taken) script)
    ≡ drop (length (instrs_in (next_piece (map view_of (drop done script)))))
    (map view_of (drop done script))
left_is script done taken e =
    ap (map view_of) (sym (drop-drop taken done script))
    ∙ sym (drop-map view_of taken (drop done script))
    ∙ ap (λ (n : ℕ). drop n (map view_of (drop done script))) e

pub plain_left : (script : List Instr) (done taken : ℕ)
    → AllByRecursion IsPlain (map view_of (drop done script))
    → AllByRecursion IsPlain (map view_of (drop (done + taken) script))
plain_left script done taken plain =
    subst (AllByRecursion IsPlain)
    (drop-map view_of taken (drop done script) ∙ ap (map view_of) (drop-drop taken done script))
    (all_parted IsPlain taken (map view_of (drop done script)) plain).1

module _ (g : Geometry) (p : Program) (turn next_turn : Turn) (table next_table : List Named)
    (rest others : List Instruction) (a b : ChipView) (refused : ℕ) (some : 0 < length rest)
    (left : others ≡ drop (length (instrs_in (next_piece rest))) rest)
    (step : Step g p turn next_turn table next_table (next_piece rest) a b refused) where
  abbrev front : List Instruction
  front = instrs_in (next_piece rest)

  whole : front ++ others ≡ rest
  whole = ap (λ x. front ++ x) left ∙ front_is rest some

  pub table_goes : (end : List Named) → table_at_end g (routines_in p) table rest ≡ end
      → table_at_end g (routines_in p) next_table others ≡ end
  table_goes end e =
      ap (λ (t : List Named). table_at_end g (routines_in p) t others) step.table_is
      ∙ sym (scripts_go_on g (routines_in p) table front others).tables
      ∙ ap (table_at_end g (routines_in p) table) whole ∙ e

  pieces_are : pieces rest ≡ next_piece rest ∷ pieces others
  pieces_are = begins rest some ∙ ap (λ x. next_piece rest ∷ pieces x) (sym left)

  sum_is : sum_done rows_printed g (routines_in p) table rest
      ≡ sum_done rows_printed g (routines_in p) table front
      + sum_done rows_printed g (routines_in p) next_table others
  sum_is =
      ap (sum_done rows_printed g (routines_in p) table) (sym whole)
      ∙ (scripts_go_on g (routines_in p) table front others).rows rows_printed
      ∙ ap (λ (t : List Named). sum_done rows_printed g (routines_in p) table front
      + sum_done rows_printed g (routines_in p) t others) (sym step.table_is)

  events_are : events_of_pieces g (routines_in p) turn table (pieces rest)
      ≡ piece_events g (routines_in p) turn table (next_piece rest)
      ++ events_of_pieces g (routines_in p) next_turn next_table (pieces others)
  events_are =
      ap (events_of_pieces g (routines_in p) turn table) pieces_are
      ∙ rw (step.turn_is, step.table_is) refl

  pub did_goes : (new : ChipView)
      → DidAndRead (events_of_pieces g (routines_in p) next_turn next_table (pieces others))
      (sum_done rows_printed g (routines_in p) next_table others) b new
      → DidAndRead (events_of_pieces g (routines_in p) turn table (pieces rest))
      (sum_done rows_printed g (routines_in p) table rest) a new
  did_goes new more =
      let both = did_more _ _ _ _ a b new step.did more in
      rw (events_are, sum_is) both

  pub refused_goes : (before total : ℕ)
      → before + count_by is_refused (replies g (routines_in p) table rest) ≡ total
      → before + refused + count_by is_refused (replies g (routines_in p) next_table others)
      ≡ total
  refused_goes before total e =
      let parts = ap (λ x. count_by is_refused (replies g (routines_in p) table x)) (sym whole)
      ∙ ap (count_by is_refused) (scripts_go_on g (routines_in p) table front others).answers
      ∙ count_both is_refused (replies g (routines_in p) table front)
      (replies g (routines_in p) (table_at_end g (routines_in p) table front) others)
      ∙ ap (λ (t : List Named). count_by is_refused (replies g (routines_in p) table front)
      + count_by is_refused (replies g (routines_in p) t others)) (sym step.table_is) in
      omega (arith, e, parts, step.refused_is)

  banks_are : Holds g table → b.banks ≡ banks_at_end g (routines_in p) table a.banks front
  banks_are holds = step.did.banks ∙ piece_is_steps g (routines_in p) turn table
      (next_piece rest) a.banks holds.words holds.fits (piece_is rest some)

  pub goes_goes : (number taken : ℕ) (files : FolderView) (s t : SinkView) (end : End) (w : World)
      → taken ≡ length (instrs_in (next_piece rest)) → Holds g table
      → Goes (piece_steps g (routines_in p) turn table a.banks (number + 1) (next_piece rest)) Done
      (world files s a) (world files t b)
      → Goes (pieces_steps g (routines_in p) next_turn next_table b.banks
      (number + taken + 1) (pieces others)) end (world files t b) w
      → Goes (pieces_steps g (routines_in p) turn table a.banks (number + 1) (pieces rest)) end
      (world files s a) w
  goes_goes number taken files s t end w size holds one more =
      let place : number + taken + 1 ≡ number + 1 + length (instrs_in (next_piece rest)) =
      omega (arith, size) in
      rw pieces_are (goes_piece g (routines_in p) turn next_turn table next_table a.banks b.banks
      (number + 1)
      (next_piece rest) (pieces others) end (world files s a) (world files t b) w step.turn_is
      step.table_is (banks_are holds) one (rw place at more))

-- counters that rise further
pub rises_more : (n m all : ℕ) (a b c : Counters) → RisesAtMost n a b → RisesAtMost m b c
    → n + m ≤ all → RisesAtMost all a c
rises_more n m all a b c p q l = record {
  aap = omega (arith, p.aap, q.aap, l);
  ap = omega (arith, p.ap, q.ap, l);
  writes = omega (arith, p.writes, q.writes, l);
  reads = omega (arith, p.reads, q.reads, l);
}
