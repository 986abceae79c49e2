-- What is known of the entries of a program.
use Rattle.uprog_bin.proofs.Common.{◌<◌, ◌^◌, List, [], ◌∷◌, length, All, map, AllByRecursion}
use Rattle.uprog_bin.proofs.Common.{EntryCode, microprogram_of, IsEntry}
use Rattle.std.proofs.lemmas.List.Elements.{All-from_recursion}

short : (es : List EntryCode) → AllByRecursion IsEntry (map microprogram_of es)
    → AllByRecursion (λ e. length e.code.items < 2 ^ 16) es
short [] h = tt
short (e ∷ es) h = (h.0.code.short, short es h.1)

pub all_short : (es : List EntryCode) → AllByRecursion IsEntry (map microprogram_of es)
    → All (λ e. length e.code.items < 2 ^ 16) es
all_short es h = All-from_recursion (λ e. length e.code.items < 2 ^ 16) es (short es h)
