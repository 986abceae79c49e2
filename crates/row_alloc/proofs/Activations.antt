-- What the commands of one node and of one output do to a column
use Rattle.row_alloc.proofs.Common.{◌==◌, not, if◌then◌else◌, ◌∙◌, ap, Cell, T, Dcc, D, Line}
use Rattle.row_alloc.proofs.Common.{majority, flip_if, Column, run, step, settle, settle_lines}
use Rattle.row_alloc.proofs.Common.{sense_lines, lines_of, bit, drive, plain}
use Rattle.std.specs.Prelude.{◌≡◌, ℕ, Bool, true, false, List, [], ◌∷◌, refl}
use Rattle.dram_model.specs.declared.address.Addr.{Addr}
use Rattle.dram_model.specs.declared.address.Addr.TheVariants.{B as AddrB, D as AddrD}
use Rattle.dram_model.specs.declared.address.Cell.TheVariants.{C as CellC}
use Rattle.dram_model.specs.declared.address.Command.TheVariants.{Aap as RowAap}
use Rattle.dram_model.proofs.ColumnLaws.{step-is-quick, activate_lines}

-- a row that commands with B rows leave
abbrev pub is_stored : Cell → Bool
is_stored (T k) = false
is_stored (Dcc k) = false
is_stored (CellC k) = true
is_stored (D k) = true

-- a first address of one row gives what the row holds, and leaves it
pub step-copy : (s : Column) (x y : Addr) (c : Cell) → lines_of x ≡ plain c ∷ []
    → step (RowAap x y) s ≡ settle y (bit s c) s
step-copy s x y c e = step-is-quick (RowAap x y) s
    ∙ ap (λ (lines : List Line). settle y (sense_lines s lines) (activate_lines lines s)) e

dcc-leaves : (s : Column) (i v : Bool) (c : Cell) → is_stored c ≡ true
    → bit (drive (record { cell = Dcc 0; inverted = i }) v s) c ≡ bit s c
dcc-leaves s i v (T k) h = absurd (cc)
dcc-leaves s i v (Dcc k) h = absurd (cc)
dcc-leaves s i v (CellC k) h = refl
dcc-leaves s i v (D k) h = refl

t-leaves : (s : Column) (n : ℕ) (v : Bool) (c : Cell) → is_stored c ≡ true
    → bit (drive (plain (T n)) v s) c ≡ bit s c
t-leaves s n v (T k) h = absurd (cc)
t-leaves s n v (Dcc k) h = absurd (cc)
t-leaves s n v (CellC k) h = refl
t-leaves s n v (D k) h = refl

-- the column when the three operands stand
abbrev loaded : Column → Bool → Bool → Bool → Bool → Column
loaded s i u v w =
    drive (plain (T 2)) w (drive (plain (T 1)) v
    (drive (record { cell = Dcc 0; inverted = i }) u s))

three-loads : (s : Column) (x y z into : Addr) (i : Bool) (a b c : Cell) → lines_of x ≡ plain a ∷ []
    → lines_of y ≡ plain b ∷ [] → lines_of z ≡ plain c ∷ []
    → lines_of into ≡ record { cell = Dcc 0; inverted = i } ∷ [] → is_stored b ≡ true
    → is_stored c ≡ true
    → run (RowAap x into ∷ RowAap y (AddrB 1) ∷ RowAap z (AddrB 2) ∷ []) s
    ≡ loaded s i (bit s a) (bit s b) (bit s c)
three-loads s x y z into i a b c ex ey ez ei hb hc =
    let s1 : Column = drive (record { cell = Dcc 0; inverted = i }) (bit s a) s in
    let s2 : Column = drive (plain (T 1)) (bit s b) s1 in
    let e1 : step (RowAap x into) s ≡ s1 = step-copy s x into a ex
    ∙ ap (λ (lines : List Line). settle_lines lines (bit s a) s) ei in
    let e2 : step (RowAap y (AddrB 1)) s1 ≡ s2 = step-copy s1 y (AddrB 1) b ey
    ∙ ap (λ v. drive (plain (T 1)) v s1) (dcc-leaves s i (bit s a) b hb) in
    let e3 : step (RowAap z (AddrB 2)) s2 ≡ loaded s i (bit s a) (bit s b) (bit s c) =
    step-copy s2 z (AddrB 2) c ez ∙ ap (λ v. drive (plain (T 2)) v s2)
    (t-leaves s1 1 (bit s b) c hc ∙ dcc-leaves s i (bit s a) c hc) in
    ap (λ t. run (RowAap y (AddrB 1) ∷ RowAap z (AddrB 2) ∷ []) t) e1
    ∙ ap (λ t. run (RowAap z (AddrB 2) ∷ []) t) e2 ∙ e3

-- the four commands of a node: row d takes the majority, and the other data rows stay
pub four-commands : (s : Column) (x y z into : Addr) (i : Bool) (a b c : Cell) (d r : ℕ)
    → lines_of x ≡ plain a ∷ [] → lines_of y ≡ plain b ∷ [] → lines_of z ≡ plain c ∷ []
    → lines_of into ≡ record { cell = Dcc 0; inverted = i } ∷ [] → is_stored b ≡ true
    → is_stored c ≡ true
    → run (RowAap x into ∷ RowAap y (AddrB 1) ∷ RowAap z (AddrB 2) ∷ RowAap (AddrB 14) (AddrD d)
    ∷ []) s (D r) ≡ (if d == r then majority (flip_if i (bit s a)) (bit s b) (bit s c)
    else s (D r))
four-commands s x y z into i a b c d r ex ey ez ei hb hc =
    ap (λ t. step (RowAap (AddrB 14) (AddrD d)) t (D r))
    (three-loads s x y z into i a b c ex ey ez ei hb hc)

-- a copy of one row
pub copy-command : (s : Column) (x : Addr) (a : Cell) (d r : ℕ) → lines_of x ≡ plain a ∷ []
    → run (RowAap x (AddrD d) ∷ []) s (D r) ≡ (if d == r then bit s a else s (D r))
copy-command s x a d r e = ap (λ t. t (D r)) (step-copy s x (AddrD d) a e)

-- a copy of its complement
pub not-commands : (s : Column) (x : Addr) (a : Cell) (d r : ℕ) → lines_of x ≡ plain a ∷ []
    → run (RowAap x (AddrB 5) ∷ RowAap (AddrB 4) (AddrD d) ∷ []) s (D r)
    ≡ (if d == r then not (bit s a) else s (D r))
not-commands s x a d r e = ap (λ t. step (RowAap (AddrB 4) (AddrD d)) t (D r))
    (step-copy s x (AddrB 5) a e) ∙ ap (λ t. t (D r))
    (step-copy (drive (record { cell = Dcc 0; inverted = true }) (bit s a) s) (AddrB 4) (AddrD d)
    (Dcc 0) refl)
