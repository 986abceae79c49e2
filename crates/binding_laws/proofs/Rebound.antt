-- Commands of a trace leave alike columns alike
use Rattle.std.specs.Prelude.{◌≡◌, ℕ, zero, suc, ◌==◌, Bool, true, false}
use Rattle.std.specs.Prelude.{◌&&◌, nat_lt, if◌then◌else◌, List, [], ◌∷◌}
use Rattle.std.specs.Prelude.{slice_index_or, refl}
use Rattle.std.proofs.Common.{sym, ◌∙◌, ap}
use Rattle.std.proofs.lemmas.Bool.{and_parts, ltb-true}
use Rattle.bit_rows.specs.Bits.{flip_if}
use Rattle.dram_model.specs.declared.address.Addr.TheVariants as addr
use Rattle.dram_model.specs.declared.address.Cell.{Cell}
use Rattle.dram_model.specs.declared.address.Cell.TheVariants.{T, Dcc, C, D}
use Rattle.dram_model.specs.declared.address.Line.{Line}
use Rattle.dram_model.specs.Column.{Column, lines_of, b_lines, drive, sense, settle, settle_lines}
use Rattle.dram_model.specs.Column.{sense_lines, run, step, is_written, read, plain}
use Rattle.dram_model.proofs.ColumnLaws.{activate_lines, step-is-quick, quick_step}
use Rattle.uprog_code.specs.declared.code.RowSpace.{RowSpace}
use Rattle.uprog_code.specs.declared.code.RowSpace.TheVariants as space
use Rattle.uprog_code.specs.Shape.{Shape}
use Rattle.uprog_code.specs.Machine.{Issue, IssueAap, IssueAp}
use Rattle.uprog_code.specs.Legal.{may_be_first, may_be_second}
use Rattle.uprog_code.specs.Bound.{Bound, address_in, bound, bound_command}
use Rattle.uprog_code.specs.Fits.{Fits}
use Rattle.uprog_code.specs.Issued.{is_issued_in, is_issued, is_good, AreGood}
use Rattle.binding_laws.specs.Alike.{is_data, data_row, Alike}
use Rattle.binding_laws.proofs.Places.{rows_same}

-- a T or DCC cell
is_b_cell : Cell → Bool
is_b_cell (T k) = nat_lt k 4
is_b_cell (Dcc k) = nat_lt k 2
is_b_cell (C k) = false
is_b_cell (D k) = false

are_b : List Line → Bool
are_b [] = true
are_b (a ∷ more) = is_b_cell a.cell && are_b more

all_pass : List (List Line) → Bool
all_pass [] = true
all_pass (x ∷ xs) = are_b x && all_pass xs

passes : (xs : List (List Line)) (k : ℕ) → all_pass xs ≡ true
    → are_b (slice_index_or xs k []) ≡ true
unfolding all_pass are_b
passes [] k h = refl
passes (x ∷ xs) zero h = (and_parts (are_b x) (all_pass xs) h).0
passes (x ∷ xs) (suc k) h = passes xs k (and_parts (are_b x) (all_pass xs) h).1

b_table : all_pass b_lines ≡ true
unfolding all_pass are_b is_b_cell
b_table = refl

lines_b : (k : ℕ) → are_b (lines_of (addr.B k)) ≡ true
lines_b k = passes b_lines k b_table

b_parts : (a : Line) (more : List Line) → are_b (a ∷ more) ≡ true
    → (is_b_cell a.cell ≡ true) × (are_b more ≡ true)
unfolding are_b
b_parts a more h = and_parts (is_b_cell a.cell) (are_b more) h

module _ (shape : Shape) (n p q : ℕ) (b c : Bound) where
  read_alike : (s t : Column) (line : Line) → Alike shape n p q b c s t
      → is_b_cell line.cell ≡ true → read s line ≡ read t line
  unfolding is_b_cell
  read_alike s t line a h = ap (flip_if line.inverted) (by line.cell h)
    where
      by : (cell : Cell) → is_b_cell cell ≡ true
          → Rattle.dram_model.specs.Column.bit s cell ≡ Rattle.dram_model.specs.Column.bit t cell
      by (T k) h = a.tees k (ltb-true k 4 h)
      by (Dcc k) h = a.duals k (ltb-true k 2 h)
      by (C k) h = refl
      by (D k) h = absurd (cc)

  sense_lines_alike : (s t : Column) (lines : List Line) → Alike shape n p q b c s t
      → are_b lines ≡ true → sense_lines s lines ≡ sense_lines t lines
  sense_lines_alike s t [] a h = refl
  sense_lines_alike s t (x ∷ []) a h = read_alike s t x a (b_parts x [] h).0
  sense_lines_alike s t (x ∷ y ∷ []) a h = refl
  sense_lines_alike s t (x ∷ y ∷ z ∷ more) a h =
      let one = b_parts x (y ∷ z ∷ more) h in
      let two = b_parts y (z ∷ more) one.1 in
      let three = b_parts z more two.1 in
      rw (read_alike s t x a one.0, read_alike s t y a two.0, read_alike s t z a three.0) refl

  -- a T or DCC cell takes a bit
  drive_alike : (s t : Column) (line : Line) (v : Bool) → Alike shape n p q b c s t
      → is_b_cell line.cell ≡ true → Alike shape n p q b c (drive line v s) (drive line v t)
  unfolding is_b_cell
  drive_alike s t line v a h = record {
    tees = λ k l. ap (λ x. if is_written line.cell (T k) then flip_if line.inverted v else x)
        (a.tees k l);
    duals = λ k l. ap (λ x. if is_written line.cell (Dcc k) then flip_if line.inverted v else x)
        (a.duals k l);
    row = λ x w i d is. by line.cell h (data_row p shape n b x w i) (data_row q shape n c x w i)
        (a.row x w i d is);
  }
    where
      by : (cell : Cell) → is_b_cell cell ≡ true → (j k : ℕ) → s (D j) ≡ t (D k)
          → (if is_written cell (D j) then flip_if line.inverted v else s (D j))
          ≡ (if is_written cell (D k) then flip_if line.inverted v else t (D k))
      by (T m) h j k e = e
      by (Dcc m) h j k e = e
      by (C m) h j k e = absurd (cc)
      by (D m) h j k e = absurd (cc)

  settle_lines_alike : (lines : List Line) (v : Bool) (s t : Column) → Alike shape n p q b c s t
      → are_b lines ≡ true → Alike shape n p q b c (settle_lines lines v s) (settle_lines lines v t)
  settle_lines_alike [] v s t a h = a
  settle_lines_alike (x ∷ more) v s t a h =
      let both = b_parts x more h in
      settle_lines_alike more v (drive x v s) (drive x v t) (drive_alike s t x v a both.0) both.1

  activate_alike : (lines : List Line) (s t : Column) → Alike shape n p q b c s t
      → are_b lines ≡ true → Alike shape n p q b c (activate_lines lines s) (activate_lines lines t)
  activate_alike [] s t a h = a
  activate_alike (x ∷ []) s t a h = a
  activate_alike (x ∷ y ∷ more) s t a h =
      rw (sense_lines_alike s t (x ∷ y ∷ more) a h)
      (settle_lines_alike (x ∷ y ∷ more) (sense_lines t (x ∷ y ∷ more)) s t a h)

  -- what a row of a trace senses
  sense_alike : (x : RowSpace) (w i : ℕ) (s t : Column) → Alike shape n p q b c s t
      → is_issued_in shape n x w i ≡ true
      → sense (address_in p shape n b x w i) s ≡ sense (address_in q shape n c x w i) t
  sense_alike space.B w i s t a h = sense_lines_alike s t (lines_of (addr.B w)) a (lines_b w)
  sense_alike space.C w i s t a h = refl
  sense_alike space.Result w i s t a h = a.row space.Result w i refl h
  sense_alike space.Source w i s t a h = a.row space.Source w i refl h
  sense_alike space.ScratchBit w i s t a h = a.row space.ScratchBit w i refl h
  sense_alike space.ScratchWord w i s t a h = a.row space.ScratchWord w i refl h
  sense_alike space.Spill w i s t a h = a.row space.Spill w i refl h

  first_alike : (x : RowSpace) (w i : ℕ) (s t : Column) → Alike shape n p q b c s t
      → Alike shape n p q b c (activate_lines (lines_of (address_in p shape n b x w i)) s)
      (activate_lines (lines_of (address_in q shape n c x w i)) t)
  first_alike space.B w i s t a = activate_alike (lines_of (addr.B w)) s t a (lines_b w)
  first_alike space.C w i s t a = a
  first_alike space.Result w i s t a = a
  first_alike space.Source w i s t a = a
  first_alike space.ScratchBit w i s t a = a
  first_alike space.ScratchWord w i s t a = a
  first_alike space.Spill w i s t a = a

  module _ (fits_b : Fits p shape n b) (fits_c : Fits q shape n c) where
    -- a data row takes a bit
    data_alike : (x : RowSpace) (w i : ℕ) (v : Bool) (s t : Column) → Alike shape n p q b c s t
        → is_data x ≡ true → may_be_second x ≡ true → is_issued_in shape n x w i ≡ true
        → Alike shape n p q b c (drive (plain (D (data_row p shape n b x w i))) v s)
        (drive (plain (D (data_row q shape n c x w i))) v t)
    data_alike x w i v s t a d m h = record {
      tees = λ k l. a.tees k l;
      duals = λ k l. a.duals k l;
      row = λ y u j dy hy.
          let e : (data_row p shape n b x w i == data_row p shape n b y u j)
          ≡ (data_row q shape n c x w i == data_row q shape n c y u j) =
          rows_same p shape n b fits_b x w i y u j d m h dy hy
          ∙ sym (rows_same q shape n c fits_c x w i y u j d m h dy hy) in
          ap (λ z. if z then v else s (D (data_row p shape n b y u j))) e
          ∙ ap (λ z. if data_row q shape n c x w i == data_row q shape n c y u j then v else z)
          (a.row y u j dy hy);
    }

    second_alike : (x : RowSpace) (w i : ℕ) (v : Bool) (s t : Column) → Alike shape n p q b c s t
        → may_be_second x ≡ true → is_issued_in shape n x w i ≡ true
        → Alike shape n p q b c (settle (address_in p shape n b x w i) v s)
        (settle (address_in q shape n c x w i) v t)
    second_alike space.B w i v s t a m h = settle_lines_alike (lines_of (addr.B w)) v s t a (lines_b w)
    second_alike space.C w i v s t a m h = absurd (cc)
    second_alike space.Result w i v s t a m h = data_alike space.Result w i v s t a refl refl h
    second_alike space.Source w i v s t a m h = absurd (cc)
    second_alike space.ScratchBit w i v s t a m h =
        data_alike space.ScratchBit w i v s t a refl refl h
    second_alike space.ScratchWord w i v s t a m h =
        data_alike space.ScratchWord w i v s t a refl refl h
    second_alike space.Spill w i v s t a m h = data_alike space.Spill w i v s t a refl refl h

    quick_alike : (x : Issue) (s t : Column) → Alike shape n p q b c s t → is_good shape n x ≡ true
        → Alike shape n p q b c (quick_step (bound_command p shape n b x) s)
        (quick_step (bound_command q shape n c x) t)
    quick_alike (IssueAp x) s t a h = first_alike x.space x.which x.index s t a
    quick_alike (IssueAap x y) s t a h =
        let parts = and_parts (is_issued shape n x && may_be_first x.space x.which)
        (is_issued shape n y && may_be_second y.space) h in
        let first = and_parts (is_issued shape n x) (may_be_first x.space x.which) parts.0 in
        let second = and_parts (is_issued shape n y) (may_be_second y.space) parts.1 in
        rw (sense_alike x.space x.which x.index s t a first.0)
        (second_alike y.space y.which y.index
        (sense (address_in q shape n c x.space x.which x.index) t)
        (activate_lines (lines_of (address_in p shape n b x.space x.which x.index)) s)
        (activate_lines (lines_of (address_in q shape n c x.space x.which x.index)) t)
        (first_alike x.space x.which x.index s t a) second.1 second.0)

    step_alike : (x : Issue) (s t : Column) → Alike shape n p q b c s t → is_good shape n x ≡ true
        → Alike shape n p q b c (step (bound_command p shape n b x) s)
        (step (bound_command q shape n c x) t)
    step_alike x s t a h = rw (
      step-is-quick (bound_command p shape n b x) s,
      step-is-quick (bound_command q shape n c x) t,
    ) (quick_alike x s t a h)

    -- commands of a trace
    pub run_alike : (xs : List Issue) (s t : Column) → Alike shape n p q b c s t
        → AreGood shape n xs
        → Alike shape n p q b c (run (bound p shape n b xs) s) (run (bound q shape n c xs) t)
    run_alike [] s t a good = a
    run_alike (x ∷ xs) s t a good = run_alike xs (step (bound_command p shape n b x) s)
        (step (bound_command q shape n c x) t) (step_alike x s t a good.0) good.1
