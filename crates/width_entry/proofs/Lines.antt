-- The instructions of a line issue its commands.
use Rattle.width_entry.proofs.Common.{and_from, and_parts, ◌≡◌, ℕ, zero, suc, ◌+◌, ◌-◌, ◌<◌, Bool}
use Rattle.width_entry.proofs.Common.{true, false, List, [], ◌∷◌, ◌++◌, length, refl, sym, ap, ◌∙◌}
use Rattle.width_entry.proofs.Common.{arith, Some, ◌&&◌, if◌then◌else◌, slice_get, slice_index}
use Rattle.width_entry.proofs.Common.{eqb-suc-zero, eqb-true, append_assoc, length-append, RowSpace}
use Rattle.width_entry.proofs.Common.{RowRef, Uop, Done, SetI, Aap, Ap, Index, Shape, Ended, Issue}
use Rattle.width_entry.proofs.Common.{IssueAap, IssueAp, Stuck, Trace, all_in_range, command_at}
use Rattle.width_entry.proofs.Common.{issued, onto, is_issued_in, may_be_first, may_be_second}
use Rattle.std.proofs.lemmas.List.Sums.{sum_by-cons}
use Rattle.uprog_code.specs.Machine.{in_range, in_space, position, row_at}
use Rattle.uprog_code.specs.declared.code.RowSpace.TheVariants as space
use Rattle.width_entry.specs.Lines.{AreNameable, is_named, is_nameable, is_position, line_room, room}
use Rattle.width_entry.specs.Lines.{row_room}
use Rattle.width_entry.specs.Code.{command_code, line_code, no_register, row_by, setting}
use Rattle.width_entry.proofs.Steps.{go, seam, set_first, set_second, step, two}

-- a row that is named lies in its value
in_value : (shape : Shape) (n : ℕ) (s : RowSpace) (which i : ℕ)
    → is_issued_in shape n s which i ≡ true → in_space shape n s which i ≡ true
in_value shape n space.B which i h = refl
in_value shape n space.C which i h = refl
in_value shape n space.Result which i h = h
in_value shape n space.Source which i h = h
in_value shape n space.ScratchBit which i h = refl
in_value shape n space.ScratchWord which i h = h
in_value shape n space.Spill which i h = refl

pub named_in_range : (shape : Shape) (n : ℕ) (r : RowRef) → is_named shape n r ≡ true
    → in_range shape n r ≡ true
named_in_range shape n r h = in_value shape n r.space r.which r.index
    (and_parts (is_issued_in shape n r.space r.which r.index) (is_position r.space r.index) h).0

-- a register with the position gives it
position_is : (s : RowSpace) (i : ℕ) → is_position s i ≡ true → position s i ≡ i
position_is space.B i h = sym (eqb-true i 0 h)
position_is space.C i h = sym (eqb-true i 0 h)
position_is space.Result i h = refl
position_is space.Source i h = refl
position_is space.ScratchBit i h = sym (eqb-true i 0 h)
position_is space.ScratchWord i h = refl
position_is space.Spill i h = sym (eqb-true i 0 h)

-- no register means position 0
no_position : (s : RowSpace) (a b : ℕ) → position s (slice_index (two a b) (no_register s)) ≡ 0
no_position space.B a b = refl
no_position space.C a b = refl
no_position space.Result a b = refl
no_position space.Source a b = refl
no_position space.ScratchBit a b = refl
no_position space.ScratchWord a b = refl
no_position space.Spill a b = refl

abbrev pub row : RowSpace → ℕ → ℕ → RowRef
row s which i = record { space = s; which = which; index = i }

-- what is set, where the position is not 0
pub set_is : (r : ℕ) (s : RowSpace) (which i : ℕ)
    → setting r (row s which (suc i)) ≡ SetI r (suc i) ∷ []
set_is r s which i = ap (λ c. if c then [] else SetI r (suc i) ∷ []) (eqb-suc-zero i)

one_is : (s : RowSpace) (which i : ℕ) → row_room (row s which (suc i)) ≡ 1
one_is s which i = ap (λ c. if c then 0 else 1) (eqb-suc-zero i)

by_is : (r : ℕ) (s : RowSpace) (which i : ℕ) → row_by r (row s which (suc i)) ≡ row s which r
by_is r s which i = ap (λ c. row s which (if c then no_register s else r)) (eqb-suc-zero i)

-- the row by the first register, whatever that one holds where none is needed
first_row : (s : RowSpace) (which i b : ℕ) → is_position s i ≡ true → (a : ℕ)
    → (i ≡ 0 → ⊥) → a ≡ i → row_at (two a b) (row_by 0 (row s which i)) ≡ row s which i
first_row s which zero b h a some e = absurd (some refl)
first_row s which (suc i) b h a some e =
    ap (row_at (two a b)) (by_is 0 s which i)
    ∙ ap (λ x. row s which (position s x)) e ∙ ap (row s which) (position_is s (suc i) h)

second_row : (s : RowSpace) (which i a : ℕ) → is_position s i ≡ true → (b : ℕ)
    → (i ≡ 0 → ⊥) → b ≡ i → row_at (two a b) (row_by 1 (row s which i)) ≡ row s which i
second_row s which zero a h b some e = absurd (some refl)
second_row s which (suc i) a h b some e =
    ap (row_at (two a b)) (by_is 1 s which i)
    ∙ ap (λ x. row s which (position s x)) e ∙ ap (row s which) (position_is s (suc i) h)

no_row : (r : ℕ) (s : RowSpace) (which a b : ℕ)
    → row_at (two a b) (row_by r (row s which 0)) ≡ row s which 0
no_row r s which a b = ap (row s which) (no_position s a b)

-- what is set for the first row
pub record FirstSet (shape : Shape) (code : List Uop) (n : ℕ) (x : RowRef) (pre rest : List Uop)
    (all left a b : ℕ) : Type 0 where
  pub reg : ℕ
  pub pre' : List Uop
  pub split : code ≡ pre' ++ rest
  pub goes : go shape code n all (length pre) a b ≡ go shape code n left (length pre') reg b
  pub gives : (b' : ℕ) → row_at (two reg b') (row_by 0 x) ≡ x

pub record SecondSet (shape : Shape) (code : List Uop) (n : ℕ) (x : RowRef) (pre rest : List Uop)
    (all left a b : ℕ) : Type 0 where
  pub reg : ℕ
  pub pre' : List Uop
  pub split : code ≡ pre' ++ rest
  pub goes : go shape code n all (length pre) a b ≡ go shape code n left (length pre') a reg
  pub gives : (a' : ℕ) → row_at (two a' reg) (row_by 1 x) ≡ x

-- the place behind one more instruction
behind_one : (pre : List Uop) (u : Uop) → length pre + 1 ≡ length (pre ++ u ∷ [])
behind_one pre u = sym (length-append pre (u ∷ []))

there : (code pre rest : List Uop) (u : Uop) → code ≡ pre ++ u ∷ rest
    → slice_get code (length pre) ≡ Some u
there code pre rest u e = ap (λ xs. slice_get xs (length pre)) e ∙ seam pre u rest

one_further : (code pre rest : List Uop) (u : Uop) → code ≡ pre ++ u ∷ rest
    → code ≡ (pre ++ u ∷ []) ++ rest
one_further code pre rest u e = e ∙ sym (append_assoc pre (u ∷ []) rest)

module _ (shape : Shape) (code : List Uop) (n : ℕ) where
  first_set : (s : RowSpace) (which i : ℕ) → is_position s i ≡ true → (pre rest : List Uop)
      → (all left a b : ℕ) → all ≡ left + row_room (row s which i)
      → code ≡ pre ++ (setting 0 (row s which i) ++ rest)
      → FirstSet shape code n (row s which i) pre rest all left a b
  first_set s which zero h pre rest all left a b e is = record {
    reg = a;
    pre' = pre;
    split = is;
    goes = let same : all ≡ left = omega arith in
        ap (λ x. go shape code n x (length pre) a b) same;
    gives = λ b'. no_row 0 s which a b';
  }
  first_set s which (suc i) h pre rest all left a b e is =
      let one = one_is s which i in
      let split = is ∙ ap (λ us. pre ++ (us ++ rest)) (set_is 0 s which i) in record {
        reg = suc i;
        pre' = pre ++ SetI 0 (suc i) ∷ [];
        split = one_further code pre rest (SetI 0 (suc i)) split;
        goes =
            set_first shape code n (suc i) all left (length pre) a b (omega (arith, e, one))
            (there code pre rest (SetI 0 (suc i)) split)
            ∙ ap (λ q. go shape code n left q (suc i) b) (behind_one pre (SetI 0 (suc i)));
        gives = λ b'. first_row s which (suc i) b' h (suc i) (λ z. absurd (omega arith)) refl;
      }

  second_set : (s : RowSpace) (which i : ℕ) → is_position s i ≡ true → (pre rest : List Uop)
      → (all left a b : ℕ) → all ≡ left + row_room (row s which i)
      → code ≡ pre ++ (setting 1 (row s which i) ++ rest)
      → SecondSet shape code n (row s which i) pre rest all left a b
  second_set s which zero h pre rest all left a b e is = record {
    reg = b;
    pre' = pre;
    split = is;
    goes = let same : all ≡ left = omega arith in
        ap (λ x. go shape code n x (length pre) a b) same;
    gives = λ a'. no_row 1 s which a' b;
  }
  second_set s which (suc i) h pre rest all left a b e is =
      let one = one_is s which i in
      let split = is ∙ ap (λ us. pre ++ (us ++ rest)) (set_is 1 s which i) in record {
        reg = suc i;
        pre' = pre ++ SetI 1 (suc i) ∷ [];
        split = one_further code pre rest (SetI 1 (suc i)) split;
        goes =
            set_second shape code n (suc i) all left (length pre) a b (omega (arith, e, one))
            (there code pre rest (SetI 1 (suc i)) split)
            ∙ ap (λ q. go shape code n left q a (suc i)) (behind_one pre (SetI 1 (suc i)));
        gives = λ a'. second_row s which (suc i) a' h (suc i) (λ z. absurd (omega arith)) refl;
      }

  -- a command in range is issued
  issued_is : (c d : Issue) (pc : ℕ) (rest : Trace) → c ≡ d → all_in_range shape n d ≡ true
      → issued shape n c pc rest ≡ onto (d ∷ []) rest
  issued_is c d pc rest same h =
      ap (λ x. issued shape n x pc rest) same
      ∙ taken (all_in_range shape n d) h
    where
      taken : (b : Bool) → b ≡ true
          → (if b then onto (d ∷ []) rest else Stuck pc Index) ≡ onto (d ∷ []) rest
      taken true e = refl
      taken false e = absurd (cc)

  -- a command with what follows
  pub record Does (c : Issue) (pre rest : List Uop) (all left a b : ℕ) : Type 0 where
    pub first : ℕ
    pub second : ℕ
    pub pre' : List Uop
    pub split : code ≡ pre' ++ rest
    pub goes : go shape code n all (length pre) a b
        ≡ onto (c ∷ []) (go shape code n left (length pre') first second)

  module _ (x : RowRef) where
    placed : is_named shape n x ≡ true → is_position x.space x.index ≡ true
    placed h = (and_parts (is_issued_in shape n x.space x.which x.index)
        (is_position x.space x.index) h).1

  does : (c : Issue) (pre rest : List Uop) (all left a b : ℕ) → is_nameable shape n c ≡ true
      → all ≡ left + room c → code ≡ pre ++ (command_code c ++ rest)
      → Does c pre rest all left a b
  does (IssueAp x) pre rest all left a b h e is =
      let parts = and_parts (is_named shape n x) (may_be_first x.space x.which) h in
      let ap_x = Ap (row_by 0 x) in
      let f = first_set x.space x.which x.index (placed x parts.0) pre (ap_x ∷ rest) all (left + 1)
      a b (omega arith) (is ∙ ap (λ us. pre ++ us) (append_assoc (setting 0 x) (ap_x ∷ []) rest)) in
      record {
        first = f.reg;
        second = b;
        pre' = f.pre' ++ ap_x ∷ [];
        split = one_further code f.pre' rest ap_x f.split;
        goes =
            f.goes
            ∙ step shape code n (left + 1) left (length f.pre') (two f.reg b) ap_x (omega arith)
            (there code f.pre' rest ap_x f.split)
            ∙ issued_is (command_at (two f.reg b) (IssueAp (row_by 0 x))) (IssueAp x)
            (length f.pre') (go shape code n left (length f.pre' + 1) f.reg b)
            (ap IssueAp (f.gives b)) (named_in_range shape n x parts.0)
            ∙ ap (λ q. onto (IssueAp x ∷ []) (go shape code n left q f.reg b))
            (behind_one f.pre' ap_x);
      }
  does (IssueAap x y) pre rest all left a b h e is =
      let parts = and_parts (is_named shape n x && may_be_first x.space x.which)
      (is_named shape n y && may_be_second y.space) h in
      let one = and_parts (is_named shape n x) (may_be_first x.space x.which) parts.0 in
      let other = and_parts (is_named shape n y) (may_be_second y.space) parts.1 in
      let aap = Aap (row_by 0 x) (row_by 1 y) in
      let f = first_set x.space x.which x.index (placed x one.0) pre
      (setting 1 y ++ aap ∷ rest) all (left + 1 + row_room y) a b (omega arith)
      (is ∙ ap (λ us. pre ++ us) (append_assoc (setting 0 x) (setting 1 y ++ aap ∷ []) rest
      ∙ ap (λ us. setting 0 x ++ us) (append_assoc (setting 1 y) (aap ∷ []) rest))) in
      let g = second_set y.space y.which y.index (placed y other.0) f.pre' (aap ∷ rest)
      (left + 1 + row_room y) (left + 1) f.reg b refl f.split in
      record {
        first = f.reg;
        second = g.reg;
        pre' = g.pre' ++ aap ∷ [];
        split = one_further code g.pre' rest aap g.split;
        goes =
            f.goes
            ∙ g.goes
            ∙ step shape code n (left + 1) left (length g.pre') (two f.reg g.reg) aap (omega arith)
            (there code g.pre' rest aap g.split)
            ∙ issued_is (command_at (two f.reg g.reg) (IssueAap (row_by 0 x) (row_by 1 y)))
            (IssueAap x y) (length g.pre') (go shape code n left (length g.pre' + 1) f.reg g.reg)
            (ap (λ r. IssueAap r (row_at (two f.reg g.reg) (row_by 1 y))) (f.gives g.reg)
            ∙ ap (IssueAap x) (g.gives f.reg))
            (and_from (in_range shape n x) (in_range shape n y) (named_in_range shape n x one.0)
            (named_in_range shape n y other.0))
            ∙ ap (λ q. onto (IssueAap x y ∷ []) (go shape code n left q f.reg g.reg))
            (behind_one g.pre' aap);
      }

  -- the whole line, with its end
  pub line_does : (cs : List Issue) (pre post : List Uop) (all a b : ℕ) → AreNameable shape n cs
      → code ≡ pre ++ (line_code cs ++ Done ∷ post) → line_room cs < all
      → go shape code n all (length pre) a b ≡ Ended cs
  line_does [] pre post all a b named is lt =
      step shape code n all (all - 1) (length pre) (two a b) Done (omega arith)
      (there code pre post Done is)
  line_does (c ∷ cs) pre post all a b named is lt =
      let whole : line_room (c ∷ cs) ≡ room c + line_room cs = sum_by-cons room c cs in
      let d = does c pre (line_code cs ++ Done ∷ post) all (all - room c) a b named.0 (omega arith)
      (is ∙ ap (λ us. pre ++ us) (append_assoc (command_code c) (line_code cs) (Done ∷ post))) in
      d.goes ∙ ap (onto (c ∷ [])) (line_does cs d.pre' post (all - room c) d.first d.second named.1
      d.split (omega arith))

-- how many instructions a line takes
room_of_setting : (r : ℕ) (s : RowSpace) (which i : ℕ)
    → length (setting r (row s which i)) ≡ row_room (row s which i)
room_of_setting r s which zero = refl
room_of_setting r s which (suc i) = ap length (set_is r s which i) ∙ sym (one_is s which i)

room_is : (c : Issue) → length (command_code c) ≡ room c
room_is (IssueAp x) =
    length-append (setting 0 x) (Ap (row_by 0 x) ∷ [])
    ∙ ap (λ k. k + 1) (room_of_setting 0 x.space x.which x.index)
room_is (IssueAap x y) =
    let first = room_of_setting 0 x.space x.which x.index in
    let second = room_of_setting 1 y.space y.which y.index in
    let all = length-append (setting 0 x) (setting 1 y ++ Aap (row_by 0 x) (row_by 1 y) ∷ []) in
    let rest = length-append (setting 1 y) (Aap (row_by 0 x) (row_by 1 y) ∷ []) in
    omega (arith, first, second, all, rest)

pub line_room_is : (cs : List Issue) → length (line_code cs) ≡ line_room cs
line_room_is [] = refl
line_room_is (c ∷ cs) =
    length-append (command_code c) (line_code cs)
    ∙ ap (λ k. k + length (line_code cs)) (room_is c)
    ∙ ap (λ k. room c + k) (line_room_is cs)
    ∙ sym (sum_by-cons room c cs)
