-- The end of a guarded script, and its steps one by one.
use Rattle.guard_job.proofs.Common.{◌≡◌, ℕ, ◌+◌, ◌<◌, ◌≤◌, List, [], ◌∷◌, length, map, drop, get_or}
use Rattle.guard_job.proofs.Common.{sym, ◌∙◌, ap, subst, arith, Err, AllByRecursion, drop_more}
use Rattle.guard_job.proofs.Common.{Geometry, Counters, Banks, ChipView, Named, Instr, Instruction}
use Rattle.guard_job.proofs.Common.{view_of, Turn, Routines, StepFault, RisesAtMost, World, Goes}
use Rattle.guard_job.proofs.Common.{Flip, due, AreSorted, IsFlip, guarded_rows, guarded_table}
use Rattle.guard_job.proofs.Common.{guarded_tally, guarded_turn, mended}
use Rattle.std.proofs.lemmas.List.{drop-drop}
use Rattle.machine_model.proofs.Parts.{all_parted}
use Rattle.guard_job.specs.Steps.{end_by, guarded_steps, instr_steps}
use Rattle.guard_job.specs.Parts.{IsCell, Mended}
use Rattle.guard_job.proofs.Due.{all_due, following, cells_of, lasts_of}
use Rattle.guard_job.proofs.Sending.{stops_by}
use Rattle.guard_job.proofs.Tallies.{tally_ends}

-- the first of what is left, and the others
pub left_is : (script : List Instr) (done : ℕ) (d : Instr) → done < length script
    → map view_of (drop done script)
    ≡ view_of (get_or script done d) ∷ map view_of (drop (done + 1) script)
left_is script done d l = ap (map view_of) (drop_more script done d l)

-- what holds of all that is left
pub others_of : (P : Instruction → Type 0) (i : Instruction) (left others : List Instruction)
    → left ≡ i ∷ others → AllByRecursion P left → AllByRecursion P others
others_of P i left others e all =
    let both : AllByRecursion P (i ∷ others) = subst (AllByRecursion P) e all in both.1

-- what holds of all flips that are left
pub flips_after : (P : Flip → Type 0) (n at : ℕ) (flips : List Flip)
    → AllByRecursion P (drop at flips) → AllByRecursion P (drop (at + n) flips)
flips_after P n at flips all = subst (AllByRecursion P) (drop-drop n at flips)
    (all_parted P n (drop at flips) all).1

-- a script whose first instruction was not done
pub stops_here : (X : Type 0) (fault : StepFault) (g : Geometry) (o : Routines)
    (flips now : List Flip) (k : ℕ) (turn : Turn) (table : List Named) (banks : Banks)
    (instr : Instruction) (others left : List Instruction) (a b : World) → left ≡ instr ∷ others
    → due k now ≡ due k flips
    → Goes (instr_steps g o (due k now) k turn table banks instr) (end_by {X = X} (Err fault)) a b
    → Goes (guarded_steps g o flips k turn table banks left) (end_by {X = X} (Err fault)) a b
stops_here X fault g o flips now k turn table banks instr others left a b e same go =
    let here = subst (λ (ds : List Flip). Goes (instr_steps g o ds k turn table banks instr)
    (end_by {X = X} (Err fault)) a b) same go in
    subst (λ (script : List Instruction). Goes (guarded_steps g o flips k turn table banks script)
    (end_by {X = X} (Err fault)) a b) (sym e)
    (stops_by X fault (instr_steps g o (due k flips) k turn table banks instr)
    (guarded_steps g o flips (k + 1) (guarded_turn g o turn table instr)
    (guarded_table g o table instr)
    (guarded_rows g o table (mended g flips k table banks) instr) others) a b here)

-- all flips that are left come before the end
pub all_here : (g : Geometry) (instrs done : ℕ) (left : List Flip) → instrs ≤ done
    → AllByRecursion (IsFlip g instrs) left → AreSorted (done + 1) left
    → due (done + 1) left ≡ left
all_here g instrs done left l cells sorted =
    all_due (done + 1) left sorted (lower instrs done left l (lasts_of g instrs left cells))
  where
    lower : (instrs done : ℕ) (flips : List Flip) → instrs ≤ done
        → AllByRecursion (λ (f : Flip). f.before ≤ instrs + 1) flips
        → AllByRecursion (λ (f : Flip). f.before ≤ done + 1) flips
    lower instrs done [] l all = tt
    lower instrs done (f ∷ flips) l all = (omega (arith, l, all.0), lower instrs done flips l all.1)

pub mended_moved : (h g : Geometry) (now flips : List Flip) (table : List Named) (a b : ChipView)
    → h ≡ g → now ≡ flips → Mended h now table a b → Mended g flips table a b
mended_moved h g now flips table a b e f m =
    subst (λ (x : Geometry). Mended x flips table a b) e
    (subst (λ (x : List Flip). Mended h x table a b) f m)

pub cells_on : (g h : Geometry) (instrs : ℕ) (flips : List Flip) → h ≡ g
    → AllByRecursion (IsFlip g instrs) flips → AllByRecursion (IsCell h) flips
cells_on g h instrs flips e cells = subst (λ (x : Geometry). AllByRecursion (IsCell x) flips)
    (sym e) (cells_of g instrs flips cells)

-- the counters at the end
pub tally_last : (g : Geometry) (o : Routines) (left : List Flip) (table : List Named)
    (a b : ChipView) → Mended g left table a b
    → b.counters ≡ guarded_tally g o table [] left a.counters
tally_last g o left table a b m = m.counters ∙ sym (tally_ends g o table left a.counters)

-- the flips after those that are due
pub next_flips : (k n at : ℕ) (flips : List Flip) → AreSorted k (drop at flips)
    → n ≡ length (due k (drop at flips)) → (AreSorted (k + 1) (drop (at + n) flips))
    × ((j : ℕ) → k < j → due j (drop (at + n) flips) ≡ due j (drop at flips))
next_flips k n at flips sorted count =
    let left = drop at flips in
    let b = following k left sorted in
    let e : drop (length (due k left)) left ≡ drop (at + n) flips =
    ap (λ (m : ℕ). drop m left) (sym count) ∙ drop-drop n at flips in (
      subst (AreSorted (k + 1)) e b.sorted,
      λ j l. ap (due j) (sym e) ∙ b.later j l,
    )

-- counters that rise further
pub rises_more : (n m all : ℕ) (a b c : Counters) → RisesAtMost n a b → RisesAtMost m b c
    → n + m ≤ all → RisesAtMost all a c
rises_more n m all a b c p q l = record {
  aap = omega (arith, p.aap, q.aap, l);
  ap = omega (arith, p.ap, q.ap, l);
  writes = omega (arith, p.writes, q.writes, l);
  reads = omega (arith, p.reads, q.reads, l);
}
