-- By how much the counters rise in a piece of a script.
use Rattle.sim_machine.proofs.Common.{◌≡◌, ℕ, ◌+◌, ◌*◌, ◌<◌, ◌≤◌, List, length, map, refl, ◌∙◌, ap}
use Rattle.sim_machine.proofs.Common.{subst, sym, arith, add-zero, true, false, cond, Bool, [], ◌∷◌}
use Rattle.sim_machine.proofs.Common.{mul-le-mul_right, AllByRecursion, Geometry, Counters}
use Rattle.sim_machine.proofs.Common.{all_counted, with_reads, Named, Instruction, IsPlain}
use Rattle.sim_machine.proofs.Common.{Routines, Piece, Wave, piece_of, is_bbop, rows_printed}
use Rattle.std.proofs.lemmas.List.{length-map}
use Rattle.uprog_code.specs.declared.TheConstants.{WALK_MAX}
use Rattle.machine_model.specs.Laws.{AreFew}
use Rattle.machine_model.specs.Pieces.{AreBbops, IsPiece, instrs_in}
use Rattle.machine_model.specs.Script.{counters_at_end, sum_done}
use Rattle.machine_model.proofs.Bounds.{geometry_parts, work_is_bounded}
use Rattle.machine_model.proofs.Pieces.{piece_counted}
use Rattle.machine_model.proofs.Tables.{fits_banks}
use Rattle.object_steps.specs.Objects.{RisesAtMost}
use Rattle.machine_model.specs.Pieces as piece
use Rattle.sim_machine.specs.declared.machine.Machine.{Machine}
use Rattle.sim_machine.specs.Machine.{IsLaidOut, events_by, geometry_of, operations_by, program_of}
use Rattle.sim_machine.specs.Machine.{reads_by, table_in, turn_in}

few_rise : (g : Geometry) (operations : Routines) (table : List Named)
    (script : List Instruction) (k : Counters) (n : ℕ) → AreFew g operations table script
    → n ≤ sum_done rows_printed g operations table script
    → RisesAtMost (length script * (16 * WALK_MAX)) k
    (with_reads n (counters_at_end g operations table script k))
few_rise g operations table script k n few h = record {
  aap = omega (arith, few.commands);
  ap = omega (arith, few.commands);
  writes = omega (arith, few.loaded);
  reads = omega (arith, few.printed, h);
}

-- so it is with what a piece does
pub piece_rises : (m : Machine) (piece : Piece) (k l : Counters) (n : ℕ) → IsLaidOut m → IsPiece
    piece
    → AllByRecursion IsPlain (instrs_in piece)
    → n ≤ sum_done rows_printed (geometry_of m) (operations_by m) (table_in m) (instrs_in piece)
    → l ≡ with_reads n (all_counted (events_by m piece) k)
    → RisesAtMost (length (instrs_in piece) * (16 * WALK_MAX)) k l
piece_rises m piece k l n fits is plain h e =
    let g = geometry_of m in
    let counted = piece_counted g (operations_by m) (turn_in m) (table_in m) piece k
    (geometry_parts g fits.shape).0 (fits_banks g (table_in m) fits.table) is in
    subst (RisesAtMost (length (instrs_in piece) * (16 * WALK_MAX)) k)
    (ap (with_reads n) (sym counted) ∙ sym e)
    (few_rise g (operations_by m) (table_in m) (instrs_in piece) k n
    (work_is_bounded g (program_of m) (table_in m) (instrs_in piece) fits.shape fits.table plain) h)

-- counters that rise by at most so much rise by at most more
pub rises_less : (a b : ℕ) (k l : Counters) → a ≤ b → RisesAtMost a k l → RisesAtMost b k l
rises_less a b k l h r = record {
  aap = omega (arith, r.aap);
  ap = omega (arith, r.ap);
  writes = omega (arith, r.writes);
  reads = omega (arith, r.reads);
}

no_reads : (c : Counters) → c ≡ with_reads 0 c
no_reads c = let e : c.reads + 0 ≡ c.reads = add-zero c.reads in rw e refl

pub wave_rises : {X : Type 0} (m : Machine) (f : X → Instruction) (xs : List X)
    (k l : Counters) → IsLaidOut m → AreBbops (map f xs) → 0 < length xs → length xs ≤ 16
    → AllByRecursion IsPlain (map f xs) → l ≡ all_counted (events_by m (Wave (map f xs))) k
    → RisesAtMost (256 * WALK_MAX) k l
wave_rises m f xs k l fits bbops some few plain e =
    let long : length (map f xs) ≡ length xs = length-map xs f in
    let product = mul-le-mul_right (16 * WALK_MAX) few in
    rises_less (length (map f xs) * (16 * WALK_MAX)) (256 * WALK_MAX) k l
    (rw long (omega (arith, product)))
    (piece_rises m (Wave (map f xs)) k l 0 fits (bbops, rw long some, rw long few) plain
    (omega arith) (e ∙ no_reads _))

one_piece : (instr : Instruction) (b : Bool) → is_bbop instr ≡ b
    → IsPiece (cond b (Wave (instr ∷ [])) (piece.Alone instr))
    × (instrs_in (cond b (Wave (instr ∷ [])) (piece.Alone instr)) ≡ instr ∷ [])
one_piece instr true e = (((e, tt), omega arith, omega arith), refl)
one_piece instr false e = (e, refl)

pub instr_rises : (m : Machine) (instr : Instruction) (k l : Counters) → IsLaidOut m → IsPlain instr
    → l ≡ with_reads (reads_by m instr) (all_counted (events_by m (piece_of instr)) k)
    → RisesAtMost (16 * WALK_MAX) k l
instr_rises m instr k l fits plain e =
    let of = one_piece instr (is_bbop instr) refl in
    let few : reads_by m instr
    ≤ sum_done rows_printed (geometry_of m) (operations_by m) (table_in m) (instr ∷ []) =
    omega arith in
    let rise = piece_rises m (piece_of instr) k l (reads_by m instr) fits of.0
    (subst (AllByRecursion IsPlain) (sym of.1) (plain, tt))
    (subst (λ (xs : List Instruction). reads_by m instr
    ≤ sum_done rows_printed (geometry_of m) (operations_by m) (table_in m) xs) (sym of.1) few) e in
    let one = subst (λ (xs : List Instruction). RisesAtMost (length xs * (16 * WALK_MAX)) k l)
    of.1 rise in
    rises_less _ (16 * WALK_MAX) k l (omega arith) one
