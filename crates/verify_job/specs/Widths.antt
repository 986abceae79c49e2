-- The widths of a call, and lists that are cut where neighbours are not joined.
use Rattle.std.specs.Prelude.{◌≡◌, ℕ, ◌+◌, ◌<◌, ◌≤◌, ◌==◌, Bool, true, false, not, List, [], ◌∷◌}
use Rattle.std.specs.Prelude.{◌++◌, map, drop, length, slice_index, slice_range, codes, decimal}
use Rattle.std.specs.Prelude.{if◌then◌else◌}
use Rattle.std.specs.List.{join_with_byte}
use Rattle.uprog_code.specs.declared.code.Uop.{Uop}
use Rattle.uprog_code.specs.Shape.{Shape}
use Rattle.uprog_code.specs.Machine.{HasEnded, trace}
use Rattle.bit_rows.specs.declared.TheConstants.{WIDTH_MAX}

-- at each width the walk of the code ends
abbrev pub AllEnd : Shape → List Uop → Type 0
AllEnd shape code = (n : ℕ) → 0 < n → n ≤ WIDTH_MAX → HasEnded (trace shape code n)

-- an element before runs: one more of the first run, where it is joined to that one's first
-- element, else a run by itself
abbrev pub before : {A : Type 0} → (A → A → Bool) → A → List (List A) → List (List A)
before joined x [] = (x ∷ []) ∷ []
before joined x ([] ∷ runs) = (x ∷ []) ∷ runs
before joined x ((y ∷ run) ∷ runs) =
    if joined x y then (x ∷ y ∷ run) ∷ runs else (x ∷ []) ∷ (y ∷ run) ∷ runs

-- the runs of a list, which is cut between neighbours that are not joined
abbrev pub runs_of : {A : Type 0} → (A → A → Bool) → List A → List (List A)
runs_of joined [] = []
runs_of joined (x ∷ xs) = before joined x (runs_of joined xs)

-- the first element of a list ends its run
abbrev pub ends_run : {A : Type 0} → (A → A → Bool) → List A → Bool
ends_run joined [] = true
ends_run joined (x ∷ []) = true
ends_run joined (x ∷ y ∷ rest) = not (joined x y)

-- where the k-th element ends its run, the text of the elements from one up to it is written, and
-- the next run begins behind it; else nothing is written, and the run goes on
abbrev pub WritesEnded : {A : Type 0} (text : List A → List ℕ) (joined : A → A → Bool)
    (xs : List A) (from k : ℕ) (old new : List ℕ) (next : ℕ) → Type 0
WritesEnded text joined xs from k old new next =
    (ends_run joined (drop k xs) ≡ true
    → (next ≡ k + 1) × (new ≡ old ++ text (slice_range xs from (k + 1))))
    × (ends_run joined (drop k xs) ≡ false → (next ≡ from) × (new ≡ old))

-- the second number follows the first
abbrev pub follows : ℕ → ℕ → Bool
follows a b = a + 1 == b

-- a run of numbers that follow one another: its first, and its last after a dash
abbrev pub span_text : List ℕ → List ℕ
span_text [] = []
span_text (a ∷ []) = decimal a
span_text (a ∷ b ∷ rest) =
    decimal a ++ codes "-" ++ decimal (slice_index (b ∷ rest) (length rest))

-- widths as a call lists them: `1-8,16`
abbrev pub widths_text : List ℕ → List ℕ
widths_text widths = join_with_byte 44 (map span_text (runs_of follows widths))
