-- Steps after the opening of a chip, over two views of it.
use Rattle.std.specs.Prelude.{◌≡◌, true, List, [], ◌∷◌}
use Rattle.std.specs.List.{AllByRecursion}
use Rattle.dram_model.specs.View.{ChipView}
use Rattle.cli_model.specs.World.{World}
use Rattle.cli_model.specs.Steps.{Step, Load, Take, Store, Open, Use, UseFor, Put, Print, End, Goes}
use Rattle.cli_model.specs.Ends.{is_on_chip}

-- a step that comes after the opening: no file is loaded there and no memory taken
abbrev pub IsLate : Step → Type 0
IsLate (Load name limit text refusal) = ⊥
IsLate Take = ⊥
IsLate (Store name bytes) = Unit {0}
IsLate (Open on) = ⊥
IsLate (Use on) = Unit {0}
IsLate (UseFor wave) = Unit {0}
IsLate (Put bytes) = Unit {0}
IsLate (Print on bytes) = Unit {0}

-- the first of them uses the chip
abbrev pub BeginOnChip : List Step → Type 0
BeginOnChip [] = ⊥
BeginOnChip (step ∷ steps) = is_on_chip step ≡ true

-- the same world, but that its chip shows this
abbrev pub with_chip : ChipView → World → World
with_chip chip w = record w { chip = chip }

-- Steps that go over one view of a chip go over another with the same counts of faults and, at the
-- end, the same banks: steps on a recorder are the same steps on its chip
abbrev pub StepsAreBelow : Type 0
StepsAreBelow =
    (steps : List Step) (end : End) (a b : World) (old new : ChipView)
    → AllByRecursion IsLate steps → BeginOnChip steps
    → old.faults ≡ a.chip.faults → new.faults ≡ b.chip.faults → new.banks ≡ b.chip.banks
    → Goes steps end a b → Goes steps end (with_chip old a) (with_chip new b)
