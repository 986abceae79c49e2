-- The first line of a text, and the others.
use Rattle.std.proofs.Common.{◌≡◌, ℕ, suc, ◌+◌, ◌≤◌, ◌==◌, Bool, true, false, not, cond, List, []}
use Rattle.std.proofs.Common.{◌∷◌, take, drop, length, if◌then◌else◌, refl, ap, ◌∙◌, arith}
use Rattle.std.specs.List.{prefix_len, join_with_byte}
use Rattle.std.proofs.lemmas.Bool.Decides.{nat_tests}
use Rattle.text_lex.specs.Bytes.{is_no_newline}
use Rattle.bbop_isa.specs.Lines.{lines_of, begun, AreLines}

abbrev pub line_len : List ℕ → ℕ
line_len text = prefix_len is_no_newline text

-- a line, and the lines after its newline
abbrev pub with_lines : List ℕ → List ℕ → List (List ℕ)
with_lines line [] = line ∷ []
with_lines line (newline ∷ rest) = line ∷ lines_of rest

begun_with : (b : ℕ) (line rest : List ℕ) → begun b (with_lines line rest)
    ≡ with_lines (b ∷ line) rest
begun_with b line [] = refl
begun_with b line (c ∷ rest) = refl

pub lines_parted : (text : List ℕ) → lines_of text
    ≡ with_lines (take (line_len text) text) (drop (line_len text) text)
lines_parted [] = refl
lines_parted (b ∷ bs) = at (b == 10) (lines_parted bs)
  where
    at : (is : Bool) → lines_of bs ≡ with_lines (take (line_len bs) bs) (drop (line_len bs) bs)
        → (if is then [] ∷ lines_of bs else begun b (lines_of bs))
        ≡ with_lines (take (cond (not is) (1 + line_len bs) 0) (b ∷ bs))
        (drop (cond (not is) (1 + line_len bs) 0) (b ∷ bs))
    at true h = refl
    at false h =
        let e : 1 + line_len bs ≡ suc (line_len bs) = omega arith in
        rw e (ap (begun b) h ∙ begun_with b (take (line_len bs) bs) (drop (line_len bs) bs))

-- a text whose line ends it
pub line_is_last : (text line rest : List ℕ) → line ≡ take (line_len text) text
    → rest ≡ drop (line_len text) text → length rest ≡ 0 → lines_of text ≡ line ∷ []
line_is_last text line [] is left none = rw (is, lines_parted text, ← left) refl
line_is_last text line (c ∷ rest) is left none = absurd (omega (arith, none))

-- a text whose line has a newline after it
pub line_is_first : (text line rest after : List ℕ) (newline : ℕ) → line ≡ take (line_len text) text
    → rest ≡ drop (line_len text) text → rest ≡ newline ∷ after
    → lines_of text ≡ line ∷ lines_of after
line_is_first text line rest after newline is left more =
    rw (is, lines_parted text, ← left, more) refl

some_lines : (text : List ℕ) → 1 ≤ length (lines_of text)
some_lines [] = omega arith
some_lines (b ∷ bs) = at (b == 10) (lines_of bs)
  where
    at : (is : Bool) (lines : List (List ℕ)) → 1 ≤ length (if is then [] ∷ lines else begun b lines)
    at true lines = omega arith
    at false [] = omega arith
    at false (line ∷ lines) = omega arith

after_newline : (lines : List (List ℕ)) → 1 ≤ length lines
    → join_with_byte 10 ([] ∷ lines) ≡ 10 ∷ join_with_byte 10 lines
after_newline [] some = absurd (omega arith)
after_newline (line ∷ lines) some = refl

begun_are : (b : ℕ) (bs : List ℕ) (lines : List (List ℕ)) → (b == 10) ≡ false → 1 ≤ length lines
    → AreLines bs lines → AreLines (b ∷ bs) (begun b lines)
begun_are b bs [] other some are = absurd (omega arith)
begun_are b bs (line ∷ []) other some are = record {
  whole = ap (λ t. b ∷ t) are.whole;
  parted = (rw other are.parted.0, tt);
}
begun_are b bs (line ∷ next ∷ lines) other some are =
    record { whole = ap (λ t. b ∷ t) are.whole; parted = (rw other are.parted.0, are.parted.1) }

-- a text's lines are what its newlines part it into
pub lines_are : (text : List ℕ) → AreLines text (lines_of text)
lines_are [] = record { whole = refl; parted = (refl, tt) }
lines_are (b ∷ bs) = at (b == 10) refl (lines_are bs)
  where
    at : (is : Bool) → (b == 10) ≡ is → AreLines bs (lines_of bs)
        → AreLines (b ∷ bs) (if is then [] ∷ lines_of bs else begun b (lines_of bs))
    at true e are =
        let newline : b ≡ 10 = grind (arith, nat_tests) in
        record {
          whole = rw newline (after_newline (lines_of bs) (some_lines bs)
              ∙ ap (λ t. 10 ∷ t) are.whole);
          parted = (refl, are.parted);
        }
    at false e are = begun_are b bs (lines_of bs) e (some_lines bs) are
