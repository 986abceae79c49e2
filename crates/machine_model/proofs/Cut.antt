-- How the code cuts a script into pieces.
use Rattle.machine_model.proofs.Common.{◌≡◌, ℕ, zero, suc, ◌+◌, ◌<◌, ◌≤◌, Bool, true, false, cond}
use Rattle.machine_model.proofs.Common.{eqb, List, [], ◌∷◌, ◌++◌, length, take, drop, refl, sym}
use Rattle.machine_model.proofs.Common.{◌∙◌, ap, subst, arith, inl, inr, eq-eqb, append-nil}
use Rattle.machine_model.proofs.Common.{append_assoc, length-append, AllByRecursion, prefix_len}
use Rattle.machine_model.proofs.Common.{cases_lt, ne_eqb, Instruction}
use Rattle.std.specs.Prelude.{min}
use Rattle.std.proofs.Math.Nat.{min-eq_left, min-eq_right}
use Rattle.machine_model.specs.Script.{is_bbop}
use Rattle.machine_model.specs.Pieces.{Piece, Wave, Alone, pieces_from, pieces, wave_size, IsPiece}
use Rattle.machine_model.specs.Laws.{PiecesAreCut}
use Rattle.machine_model.proofs.Pieces.{pieces_are_script}

-- an instruction that is no bbop is a piece by itself
pub alone_cut : (instr : Instruction) (script : List Instruction) → is_bbop instr ≡ false
    → pieces (instr ∷ script) ≡ Alone instr ∷ pieces script
alone_cut instr script h = rw h refl

-- how many bbops a script begins with, where there is room for so many
abbrev pub leading : ℕ → List Instruction → ℕ
leading zero script = 0
leading (suc room) [] = 0
leading (suc room) (instr ∷ script) = cond (is_bbop instr) (suc (leading room script)) 0

least_more : (a b : ℕ) → suc (min a b) ≡ min (suc a) (1 + b)
least_more a b = elim (cases_lt a b) [
  | inl l ↦
      let below : a ≤ b = omega arith in
      let above : suc a ≤ 1 + b = omega arith in
      ap suc (min-eq_left below) ∙ sym (min-eq_left above)
  | inr l ↦
      let below : b ≤ a = omega arith in
      let above : 1 + b ≤ suc a = omega arith in
      let one : suc b ≡ 1 + b = omega arith in
      ap suc (min-eq_right below) ∙ one ∙ sym (min-eq_right above)
]

none_least : (a : ℕ) → 0 ≡ min a 0
none_least a = let le : 0 ≤ a = omega arith in sym (min-eq_right le)

leading_is : (room : ℕ) (script : List Instruction)
    → leading room script ≡ min room (prefix_len is_bbop script)
leading_is zero script = let le : 0 ≤ prefix_len is_bbop script = omega arith in
    sym (min-eq_left le)
leading_is (suc room) [] = none_least (suc room)
leading_is (suc room) (instr ∷ script) = one (is_bbop instr) (leading_is room script) where
  one : (t : Bool) → leading room script ≡ min room (prefix_len is_bbop script)
      → cond t (suc (leading room script)) 0
      ≡ min (suc room) (cond t (1 + prefix_len is_bbop script) 0)
  one true e = ap suc e ∙ least_more room (prefix_len is_bbop script)
  one false e = none_least (suc room)

full_case : (t : Bool) (w w' : Piece) (one more alone : List Piece) → w ≡ w'
    → cond t (cond true (w ∷ one) more) (w ∷ alone) ≡ w' ∷ cond t one alone
full_case true w w' one more alone e = ap (λ x. x ∷ one) e
full_case false w w' one more alone e = ap (λ x. x ∷ alone) e

room_case : (t : Bool) (x : Instruction) (xs : List Instruction) (instr : Instruction)
    (script : List Instruction) (k : ℕ) (full more : List Piece) → is_bbop instr ≡ t
    → more ≡ Wave (x ∷ ((xs ++ instr ∷ []) ++ take k script)) ∷ pieces (drop k script)
    → cond t (cond false full more) (Wave (x ∷ xs) ∷ Alone instr ∷ pieces script)
    ≡ Wave (x ∷ (xs ++ take (cond t (suc k) 0) (instr ∷ script)))
    ∷ pieces (drop (cond t (suc k) 0) (instr ∷ script))
room_case true x xs instr script k full more h e =
    e ∙ ap (λ l. Wave (x ∷ l) ∷ pieces (drop k script))
    (append_assoc xs (instr ∷ []) (take k script))
room_case false x xs instr script k full more h e =
    ap (λ l. Wave (x ∷ l) ∷ Alone instr ∷ pieces script) (sym (append-nil xs))
    ∙ ap (λ ps. Wave (x ∷ (xs ++ [])) ∷ ps) (sym (alone_cut instr script h))

-- a wave that is gathered takes the bbops that follow, while there is room
cut : (x : Instruction) (xs script : List Instruction) (room : ℕ) → length (x ∷ xs) + room ≡ 16
    → pieces_from (x ∷ xs) script
    ≡ Wave (x ∷ (xs ++ take (leading room script) script)) ∷ pieces (drop (leading room script)
    script)
cut x xs [] zero e = ap (λ l. Wave (x ∷ l) ∷ []) (sym (append-nil xs))
cut x xs [] (suc room) e = ap (λ l. Wave (x ∷ l) ∷ []) (sym (append-nil xs))
cut x xs (instr ∷ script) zero e =
    let full : eqb (length (x ∷ xs)) 16 ≡ true = eq-eqb (length (x ∷ xs)) 16 (omega arith) in
    rw full (full_case (is_bbop instr) (Wave (x ∷ xs)) (Wave (x ∷ (xs ++ [])))
    (pieces_from (instr ∷ []) script) (pieces_from (x ∷ (xs ++ instr ∷ [])) script)
    (Alone instr ∷ pieces script) (ap (λ l. Wave (x ∷ l)) (sym (append-nil xs))))
cut x xs (instr ∷ script) (suc room) e =
    let not_full : eqb (length (x ∷ xs)) 16 ≡ false =
    ne_eqb (length (x ∷ xs)) 16 (λ same. absurd (omega arith)) in
    let long : length (x ∷ (xs ++ instr ∷ [])) ≡ length (x ∷ xs) + 1 =
    simp length-append (omega arith) in
    rw not_full (room_case (is_bbop instr) x xs instr script (leading room script)
    (Wave (x ∷ xs) ∷ pieces_from (instr ∷ []) script)
    (pieces_from (x ∷ (xs ++ instr ∷ [])) script) refl
    (cut x (xs ++ instr ∷ []) script room (omega (arith, long, e))))

first_wave : (script : List Instruction) → 0 < leading 16 script → pieces script
    ≡ Wave (take (leading 16 script) script) ∷ pieces (drop (leading 16 script) script)
first_wave [] some = absurd (omega arith)
first_wave (instr ∷ script) some =
    first_case (is_bbop instr) some (cut instr [] script 15 (omega arith)) where
      first_case : (t : Bool) → 0 < cond t (suc (leading 15 script)) 0
          → pieces_from (instr ∷ []) script
          ≡ Wave (instr ∷ take (leading 15 script) script)
          ∷ pieces (drop (leading 15 script) script)
          → cond t (pieces_from (instr ∷ []) script) (Alone instr ∷ pieces script)
          ≡ Wave (take (cond t (suc (leading 15 script)) 0) (instr ∷ script))
          ∷ pieces (drop (cond t (suc (leading 15 script)) 0) (instr ∷ script))
      first_case true some e = e
      first_case false some e = absurd (omega arith)

-- a script that begins with bbops begins with their wave
pub wave_cut : (script : List Instruction) → 0 < wave_size script → pieces script
    ≡ Wave (take (wave_size script) script) ∷ pieces (drop (wave_size script) script)
wave_cut script some =
    subst (λ k. pieces script ≡ Wave (take k script) ∷ pieces (drop k script))
    (leading_is 16 script)
    (first_wave script (subst (λ k. 0 < k) (sym (leading_is 16 script)) some))

pub pieces_are_cut : PiecesAreCut
pieces_are_cut = record { wave = wave_cut; alone = alone_cut }

-- what is cut off is a wave
pub wave_is_piece : (script : List Instruction) → 0 < wave_size script
    → IsPiece (Wave (take (wave_size script) script))
wave_is_piece script some =
    (subst (AllByRecursion IsPiece) (wave_cut script some) (pieces_are_script script).0).0
