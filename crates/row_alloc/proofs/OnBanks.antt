-- A legal body's commands are legal on a bank that has its rows
use Rattle.row_alloc.proofs.Common.{and_from, ◌≡◌, ℕ, true, ◌&&◌, List, [], ◌∷◌, refl, map}
use Rattle.row_alloc.proofs.Common.{list_all, ltb-true}
use Rattle.dram_model.specs.Column.{is_in_range, is_first, is_second, is_legal}
use Rattle.row_alloc.specs.declared.body.BodyRef.{BodyRef}
use Rattle.row_alloc.specs.declared.body.BodyRef.TheVariants.{B, C, In, Out, Spill}
use Rattle.row_alloc.specs.declared.body.BodyCmd.{BodyCmd}
use Rattle.row_alloc.specs.declared.body.BodyCmd.TheVariants.{Aap, Ap}
use Rattle.row_alloc.specs.Rows.{Rows, place, bound}
use Rattle.row_alloc.specs.Legal.{is_ref, is_first_ref, is_second_ref, is_legal_cmd, are_legal}
use Rattle.row_alloc.specs.Numbering.{AreBelow}
use Rattle.row_alloc.proofs.Booleans.{and-left, and-right}
use Rattle.row_alloc.proofs.LegalPieces.{less}

in-range : (limit : ℕ) (rows : Rows) (i o : ℕ) (x : BodyRef) → AreBelow limit rows i o
    → is_ref i o x ≡ true → is_in_range limit (place rows x) ≡ true
in-range limit rows i o (B k) below h = h
in-range limit rows i o (C k) below h = h
in-range limit rows i o (In k) below h = less (rows.input k) limit (below.input k (ltb-true k i h))
in-range limit rows i o (Out j) below h = less (rows.output j) limit
    (below.output j (ltb-true j o h))
in-range limit rows i o (Spill n) below h = less (rows.spill n) limit
    (below.spill n (ltb-true n 32 h))

first-legal : (rows : Rows) (x : BodyRef) → is_first_ref x ≡ true → is_first (place rows x) ≡ true
first-legal rows (B k) h = h
first-legal rows (C k) h = refl
first-legal rows (In k) h = refl
first-legal rows (Out j) h = refl
first-legal rows (Spill n) h = refl

second-legal : (rows : Rows) (x : BodyRef) → is_second_ref x ≡ true
    → is_second (place rows x) ≡ true
second-legal rows (B k) h = refl
second-legal rows (C k) h = h
second-legal rows (In k) h = refl
second-legal rows (Out j) h = refl
second-legal rows (Spill n) h = refl

stands-first : (limit : ℕ) (rows : Rows) (i o : ℕ) (x : BodyRef) → AreBelow limit rows i o
    → (is_ref i o x && is_first_ref x) ≡ true
    → (is_in_range limit (place rows x) && is_first (place rows x)) ≡ true
stands-first limit rows i o x below h = and_from _ _
    (in-range limit rows i o x below (and-left _ _ h))
    (first-legal rows x (and-right (is_ref i o x) _ h))

stands-second : (limit : ℕ) (rows : Rows) (i o : ℕ) (x : BodyRef) → AreBelow limit rows i o
    → (is_ref i o x && is_second_ref x) ≡ true
    → (is_in_range limit (place rows x) && is_second (place rows x)) ≡ true
stands-second limit rows i o x below h = and_from _ _
    (in-range limit rows i o x below (and-left _ _ h))
    (second-legal rows x (and-right (is_ref i o x) _ h))

command-legal : (limit : ℕ) (rows : Rows) (i o : ℕ) (cmd : BodyCmd) → AreBelow limit rows i o
    → is_legal_cmd i o cmd ≡ true → is_legal limit (bound rows cmd) ≡ true
command-legal limit rows i o (Ap x) below h = stands-first limit rows i o x below h
command-legal limit rows i o (Aap x y) below h = and_from _ _
    (stands-first limit rows i o x below (and-left _ _ h))
    (stands-second limit rows i o y below (and-right (is_ref i o x && is_first_ref x) _ h))

pub legal-on-banks : (limit i o : ℕ) (rows : Rows) (cmds : List BodyCmd) → AreBelow limit rows i o
    → are_legal i o cmds ≡ true → list_all (is_legal limit) (map (bound rows) cmds) ≡ true
legal-on-banks limit i o rows [] below h = refl
legal-on-banks limit i o rows (cmd ∷ cmds) below h = and_from _ _
    (command-legal limit rows i o cmd below (and-left _ _ h))
    (legal-on-banks limit i o rows cmds below (and-right (is_legal_cmd i o cmd) _ h))
