-- The flips that are due, and those after them.
use Rattle.guard_job.proofs.Common.{◌≡◌, ℕ, ◌+◌, ◌<◌, ◌≤◌, true, false, List, [], ◌∷◌, drop, length}
use Rattle.guard_job.proofs.Common.{get_or, refl, sym, ◌∙◌, ap, subst, arith, inl, inr}
use Rattle.guard_job.proofs.Common.{AllByRecursion, drop_more, Geometry, Event, Grew, Write, Banks}
use Rattle.guard_job.proofs.Common.{row_in, Grew-more, ChipView, Flip, due, flipped}
use Rattle.guard_job.proofs.Common.{with_bit_inverted, AreSorted, IsFlip}
use Rattle.std.proofs.Common.{◌≢◌, eqb}
use Rattle.std.proofs.lemmas.Bool.Decides.{eqb_tells, nat_tests}
use Rattle.dram_model.proofs.EventLaws.{Grew-none}
use Rattle.guard_job.specs.Events.{flip_events}
use Rattle.guard_job.specs.Parts.{IsCell}

-- none of later flips is due
pub none_due : (k j : ℕ) (flips : List Flip) → k < j → AreSorted j flips → due k flips ≡ []
none_due k j [] l s = refl
none_due k j (f ∷ flips) l s = let ne : eqb f.before k ≡ false = grind (arith, nat_tests, s.0) in
    rw ne (none_due k f.before flips (omega (arith, l, s.0)) s.1)

-- what stands after those that are due
pub record Following (k : ℕ) (flips : List Flip) : Type 0 where
  pub sorted : AreSorted (k + 1) (drop (length (due k flips)) flips)
  pub later : (j : ℕ) → k < j → due j (drop (length (due k flips)) flips) ≡ due j flips

pub following : (k : ℕ) (flips : List Flip) → AreSorted k flips → Following k flips
following k [] s = record { sorted = tt; later = λ j l. refl }
following k (f ∷ flips) s = elim (eqb_tells f.before k) [
  | inl t ↦
      let rest = following k flips (subst (λ j. AreSorted j flips) t.1 s.1) in
      let e : due k (f ∷ flips) ≡ f ∷ due k flips = rw t.0 refl in
      record {
        sorted = subst (λ (ds : List Flip). AreSorted (k + 1) (drop (length ds) (f ∷ flips)))
            (sym e) rest.sorted;
        later = λ j l. (
            let ne : eqb f.before j ≡ false = grind (arith, nat_tests, t.1, l) in
            let same : due j (f ∷ flips) ≡ due j flips = rw ne refl in
            ap (λ (ds : List Flip). due j (drop (length ds) (f ∷ flips))) e ∙ rest.later j l
            ∙ sym same);
      }
  | inr t ↦
      let l : k < f.before = omega (arith, s.0, t.1) in
      let e : due k (f ∷ flips) ≡ [] = rw t.0 (none_due k f.before flips l s.1) in
      record {
        sorted = subst (λ (ds : List Flip). AreSorted (k + 1) (drop (length ds) (f ∷ flips)))
            (sym e) (omega (arith, l), s.1);
        later = λ j m. ap (λ (ds : List Flip). due j (drop (length ds) (f ∷ flips))) e;
      }
]

-- where all come before the last, all are due
pub all_due : (k : ℕ) (flips : List Flip) → AreSorted k flips
    → AllByRecursion (λ (f : Flip). f.before ≤ k) flips → due k flips ≡ flips
all_due k [] s l = refl
all_due k (f ∷ flips) s l =
    let same : f.before ≡ k = omega (arith, s.0, l.0) in
    let is : eqb f.before k ≡ true = grind (arith, nat_tests, same) in
    rw is (ap (λ r. f ∷ r) (all_due k flips (subst (λ j. AreSorted j flips) same s.1) l.1))

-- flips of a text are cells, and come before the last
pub cells_of : (g : Geometry) (instrs : ℕ) (flips : List Flip)
    → AllByRecursion (IsFlip g instrs) flips → AllByRecursion (IsCell g) flips
cells_of g instrs [] all = tt
cells_of g instrs (f ∷ flips) all = (
  record { bank = all.0.bank; row = all.0.row; column = all.0.column },
  cells_of g instrs flips all.1,
)

pub lasts_of : (g : Geometry) (instrs : ℕ) (flips : List Flip)
    → AllByRecursion (IsFlip g instrs) flips
    → AllByRecursion (λ (f : Flip). f.before ≤ instrs + 1) flips
lasts_of g instrs [] all = tt
lasts_of g instrs (f ∷ flips) all = (all.0.last, lasts_of g instrs flips all.1)

-- a flip that is not due: none after it is
pub not_due : (k : ℕ) (flips : List Flip) (done : ℕ) (d : Flip) → done < length flips
    → (get_or flips done d).before ≢ k → AreSorted k (drop done flips)
    → due k (drop done flips) ≡ []
not_due k flips done d here other s =
    let f = get_or flips done d in
    let rest = drop (done + 1) flips in
    let front = drop_more flips done d here in
    let parts : (k ≤ f.before) × AreSorted f.before rest = subst (AreSorted k) front s in
    let l : k < f.before = omega (arith, parts.0, other) in
    let e : eqb f.before k ≡ false = grind (arith, nat_tests, l) in
    ap (due k) front ∙ rw e (none_due k f.before rest l parts.1)

-- no flip is no event
pub no_more_log : (flips : List Flip) (chip : ChipView) → flips ≡ []
    → Grew chip.log chip.log (flip_events flips chip.banks)
no_more_log flips chip none = subst (λ (l : List Flip). Grew chip.log chip.log
    (flip_events l chip.banks)) (sym none) (Grew-none chip.log)

-- a flip that is due stands before the others that are
pub one_due : (k : ℕ) (flips : List Flip) (done : ℕ) (d : Flip) → done < length flips
    → (get_or flips done d).before ≡ k
    → due k (drop done flips) ≡ get_or flips done d ∷ due k (drop (done + 1) flips)
one_due k flips done d here same =
    let f = get_or flips done d in
    let e : eqb f.before k ≡ true = grind (arith, nat_tests, same) in
    ap (due k) (drop_more flips done d here) ∙ rw e refl

-- one flip more: what is left still gives the whole log
pub log_goes_on : (f : Flip) (flips left : List Flip) (whole : List Event)
    (start now one : ChipView) → left ≡ f ∷ flips → one.banks ≡ flipped f now.banks
    → Grew now.log one.log (Write f.bank f.row
    (with_bit_inverted f.column (row_in f.row (now.banks f.bank))) ∷ [])
    → ((new : ChipView) → Grew now.log new.log (flip_events left now.banks)
    → Grew start.log new.log whole)
    → (new : ChipView) → Grew one.log new.log (flip_events flips one.banks)
    → Grew start.log new.log whole
log_goes_on f flips left whole start now one e banks did more new rest =
    let event = Write f.bank f.row
    (with_bit_inverted f.column (row_in f.row (now.banks f.bank))) in
    let following : Grew one.log new.log (flip_events flips (flipped f now.banks)) =
    subst (λ (b : Banks). Grew one.log new.log (flip_events flips b)) banks rest in
    more new (subst (λ (l : List Flip). Grew now.log new.log (flip_events l now.banks)) (sym e)
    (Grew-more now.log one.log new.log (event ∷ []) (flip_events flips (flipped f now.banks)) did
    following))

-- those after it are in order, and cells
pub sorted_after : (k : ℕ) (flips : List Flip) (done : ℕ) (d : Flip) → done < length flips
    → (get_or flips done d).before ≡ k → AreSorted k (drop done flips)
    → AreSorted k (drop (done + 1) flips)
sorted_after k flips done d here same s =
    let parts : (k ≤ (get_or flips done d).before)
    × AreSorted (get_or flips done d).before (drop (done + 1) flips) =
    subst (AreSorted k) (drop_more flips done d here) s in
    subst (λ (j : ℕ). AreSorted j (drop (done + 1) flips)) same parts.1

pub cells_after : (P : Flip → Type 0) (flips : List Flip) (done : ℕ) (d : Flip)
    → done < length flips → AllByRecursion P (drop done flips)
    → AllByRecursion P (drop (done + 1) flips)
cells_after P flips done d here all =
    let parts : AllByRecursion P (get_or flips done d ∷ drop (done + 1) flips) =
    subst (AllByRecursion P) (drop_more flips done d here) all in
    parts.1
