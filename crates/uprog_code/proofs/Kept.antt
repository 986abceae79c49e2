-- Laws of legal code: its commands are legal on the chip, and change no row but those of the
-- result, the scratch and the spill group.
use Rattle.std.specs.Prelude.{◌≡◌, ℕ, zero, suc, ◌+◌, ◌-◌, ◌*◌, ◌<◌, ◌==◌, nat_lt, nat_le, Bool}
use Rattle.std.specs.Prelude.{true, false, ◌&&◌, if◌then◌else◌, List, [], ◌∷◌, length, Some, Result}
use Rattle.std.specs.Prelude.{Ok, slice_get, slice_index, slice_index_or, slice_set, refl}
use Rattle.std.specs.List.{AllByRecursion}
use Rattle.std.specs.Option.{option_to_list}
use Rattle.std.proofs.Common.{subst, ◌∙◌, ap, arith, inl, inr}
use Rattle.std.proofs.lemmas.Bool.{ltb-true, lt-ltb, eqb-true}
use Rattle.dram_model.specs.declared.address.Addr.{Addr}
use Rattle.dram_model.specs.declared.address.Addr.TheVariants as addr
use Rattle.dram_model.specs.declared.address.Cell.{Cell}
use Rattle.dram_model.specs.declared.address.Cell.TheVariants.{T, Dcc, C, D}
use Rattle.dram_model.specs.declared.address.Line.{Line}
use Rattle.dram_model.specs.declared.address.Command.{Command}
use Rattle.dram_model.specs.declared.address.Command.TheVariants as command
use Rattle.dram_model.specs.Column.{Column, lines_of, b_lines, drive, sense, settle, settle_lines}
use Rattle.dram_model.specs.Column.{sense_lines, run, step, is_first as is_first_address}
use Rattle.dram_model.specs.Column.{is_second as is_second_address, is_written}
use Rattle.dram_model.specs.Column.{is_in_range as is_address_in, is_legal as is_legal_command}
use Rattle.dram_model.proofs.ColumnLaws.{activate_lines, step-is-quick, drive-other}
use Rattle.op_text.specs.declared.tree.Kind.{Kind}
use Rattle.op_text.specs.declared.tree.Kind.TheVariants.{Word, Bit}
use Rattle.uprog_code.specs.declared.code.RowSpace.{RowSpace}
use Rattle.uprog_code.specs.declared.code.RowSpace.TheVariants as space
use Rattle.uprog_code.specs.declared.code.RowRef.{RowRef}
use Rattle.uprog_code.specs.declared.code.Uop.{Uop}
use Rattle.uprog_code.specs.declared.code.Uop.TheVariants.{Done, SetI, SetN, SetT, Mov, Add, AddI}
use Rattle.uprog_code.specs.declared.code.Uop.TheVariants.{SubI, Bnez, Aap, Ap}
use Rattle.uprog_code.specs.declared.TheConstants.{WALK_MAX}
use Rattle.uprog_code.specs.declared.registers.Turn.{Turn}
use Rattle.uprog_code.specs.declared.registers.Turn.TheVariants.{Over, On, To, Issues}
use Rattle.uprog_code.specs.declared.walker.Why3.{Why3}
use Rattle.uprog_code.specs.declared.walker.Why3.TheVariants.{Index, Register}
use Rattle.uprog_code.specs.Shape.{Shape, width, results}
use Rattle.uprog_code.specs.Machine.{Issue, IssueAap, IssueAp, Trace, Ended, Stuck, onto, Next, act}
use Rattle.uprog_code.specs.Machine.{act_at, issue, issued, trace, issues_of, row_at, position}
use Rattle.uprog_code.specs.Machine.{in_kind, in_space, in_range, all_in_range, command_at, start}
use Rattle.uprog_code.specs.OneStep.{turn_trace, issues_by}
use Rattle.uprog_code.specs.Legal.{is_place, may_be_first, may_be_second, is_row, is_first}
use Rattle.uprog_code.specs.Legal.{is_second, is_legal, IsLegalCode}
use Rattle.uprog_code.specs.Bound.{Bound, address, address_in, bound, bound_command}
use Rattle.uprog_code.specs.Fits.{AreBelow, ranges, Fits, IsInSome, IsTouched}
use Rattle.uprog_code.specs.Implements.{Keeps}
use Rattle.uprog_code.specs.Issued.{is_issued_in, is_issued, is_good, AreGood}

both : (a b : Bool) → (a && b) ≡ true → (a ≡ true) × (b ≡ true)
both true b h = (refl, h)
both false b h = absurd (cc)

from_both : (a b : Bool) → a ≡ true → b ≡ true → (a && b) ≡ true
from_both a b p q = rw p q

-- a row of legal code, with a position that is in range, is a row of a trace
issued_row : (shape : Shape) (n : ℕ) (s : RowSpace) (which i p : ℕ)
    → is_place shape s which i ≡ true → in_space shape n s which (position s p) ≡ true
    → is_issued_in shape n s which (position s p) ≡ true
issued_row shape n space.B which i p h r = (both (nat_lt which 16) (i == 0) h).0
issued_row shape n space.C which i p h r = (both (nat_lt which 2) (i == 0) h).0
issued_row shape n space.Result which i p h r = r
issued_row shape n space.Source which i p h r = r
issued_row shape n space.ScratchBit which i p h r = (both (nat_lt which shape.bits) (i == 0) h).0
issued_row shape n space.ScratchWord which i p h r = r
issued_row shape n space.Spill which i p h r = (both (nat_lt which 32) (i == 0) h).0

module _ (shape : Shape) (n : ℕ) where
  first_good : (x : RowRef) (regs : List ℕ) → is_first shape x ≡ true
      → in_range shape n (row_at regs x) ≡ true
      → (is_issued shape n (row_at regs x) && may_be_first x.space x.which) ≡ true
  first_good x regs h r =
      let b = both (is_row shape x) (may_be_first x.space x.which) h in
      from_both (is_issued shape n (row_at regs x)) (may_be_first x.space x.which)
      (issued_row shape n x.space x.which x.index (slice_index regs x.index) b.0 r) b.1

  second_good : (x : RowRef) (regs : List ℕ) → is_second shape x ≡ true
      → in_range shape n (row_at regs x) ≡ true
      → (is_issued shape n (row_at regs x) && may_be_second x.space) ≡ true
  second_good x regs h r =
      let b = both (is_row shape x) (may_be_second x.space) h in
      from_both (is_issued shape n (row_at regs x)) (may_be_second x.space)
      (issued_row shape n x.space x.which x.index (slice_index regs x.index) b.0 r) b.1

  -- a command whose rows are in range, and then what follows
  issued_good : (c : Issue) (pc : ℕ) (t : Trace)
      → (all_in_range shape n c ≡ true → is_good shape n c ≡ true) → AreGood shape n (issues_of t)
      → AreGood shape n (issues_of (issued shape n c pc t))
  issued_good c pc t good rest = decide (all_in_range shape n c) good
    where
      after : (t : Trace) → is_good shape n c ≡ true → AreGood shape n (issues_of t)
          → AreGood shape n (issues_of (onto (c ∷ []) t))
      after (Ended cs) g r = (g, r)
      after (Stuck at why) g r = tt

      decide : (b : Bool) → (b ≡ true → is_good shape n c ≡ true)
          → AreGood shape n (issues_of (if b then onto (c ∷ []) t else Stuck pc Index))
      decide true g = after t (g refl) rest
      decide false g = tt

  -- one instruction, where what follows is good from everywhere
  either_good : (b : Bool) (t : Trace) (pc : ℕ) → AreGood shape n (issues_of t)
      → AreGood shape n (issues_of (if b then t else Stuck pc Register))
  either_good true t pc h = h
  either_good false t pc h = tt

  jump_good : (b : Bool) (t u : Trace) → AreGood shape n (issues_of t)
      → AreGood shape n (issues_of u) → AreGood shape n (issues_of (if b then t else u))
  jump_good true t u h k = h
  jump_good false t u h k = k

  act_good : (i : Uop) (size : ℕ) → is_legal shape size i ≡ true → (next : Next)
      → ((q : ℕ) (r : List ℕ) → AreGood shape n (issues_of (next q r))) → (pc : ℕ) (regs : List ℕ)
      → AreGood shape n (issues_of (act shape n i next pc regs))
  act_good Done size h next good pc regs = tt
  act_good (SetI r k) size h next good pc regs = good _ _
  act_good (SetN r) size h next good pc regs = good _ _
  act_good (SetT r) size h next good pc regs = good _ _
  act_good (Mov r s) size h next good pc regs = good _ _
  act_good (Add r s) size h next good pc regs =
      either_good (nat_le (slice_index regs r + slice_index regs s) 1023)
      (next (pc + 1) (slice_set regs r (slice_index regs r + slice_index regs s))) pc (good _ _)
  act_good (AddI r k) size h next good pc regs =
      either_good (nat_le (slice_index regs r + k) 1023)
      (next (pc + 1) (slice_set regs r (slice_index regs r + k))) pc (good _ _)
  act_good (SubI r k) size h next good pc regs =
      either_good (nat_le k (slice_index regs r))
      (next (pc + 1) (slice_set regs r (slice_index regs r - k))) pc (good _ _)
  act_good (Bnez r t) size h next good pc regs =
      jump_good (slice_index regs r == 0) (next (pc + 1) regs) (next t regs) (good _ _) (good _ _)
  act_good (Aap x y) size h next good pc regs =
      let b = both (is_first shape x) (is_second shape y) h in
      issued_good (command_at regs (IssueAap x y)) pc (next (pc + 1) regs) (λ r.
      let c = both (in_range shape n (row_at regs x)) (in_range shape n (row_at regs y)) r in
      from_both (is_issued shape n (row_at regs x) && may_be_first x.space x.which)
      (is_issued shape n (row_at regs y) && may_be_second y.space) (first_good x regs b.0 c.0)
      (second_good y regs b.1 c.1)) (good _ _)
  act_good (Ap x) size h next good pc regs = issued_good (command_at regs (IssueAp x)) pc
      (next (pc + 1) regs) (λ r. first_good x regs h r) (good _ _)

  at_good : (code : List Uop) (size : ℕ) → AllByRecursion (λ i. is_legal shape size i ≡ true) code
      → (next : Next) → ((q : ℕ) (r : List ℕ) → AreGood shape n (issues_of (next q r)))
      → (k pc : ℕ) (regs : List ℕ)
      → AreGood shape n (issues_of (act_at shape n (slice_get code k) next pc regs))
  at_good [] size all next good k pc regs = tt
  at_good (i ∷ is) size all next good zero pc regs = act_good i size all.0 next good pc regs
  at_good (i ∷ is) size all next good (suc k) pc regs = at_good is size all.1 next good k pc regs

  -- whatever the place, the registers and what is left of the budget
  pub issue_good : (code : List Uop) → IsLegalCode shape code → (left pc : ℕ) (regs : List ℕ)
      → AreGood shape n (issues_of (issue shape code n left pc regs))
  unfolding issue
  issue_good code legal zero pc regs = tt
  issue_good code legal (suc left) pc regs = at_good code (length code) legal.each
      (issue shape code n left) (λ q r. issue_good code legal left q r) pc pc regs

-- the commands of one step
pub turn_good : (shape : Shape) (n : ℕ) (code : List Uop) (pc : ℕ) (regs regs' : List ℕ) (uop : Uop)
    (turn : Turn) (res : Result Turn Why3) → IsLegalCode shape code → slice_get code pc ≡ Some uop
    → ((next : Next) (q : ℕ) → act shape n uop next q regs ≡ turn_trace res next q regs')
    → res ≡ Ok turn → AreGood shape n (issues_by turn)
turn_good shape n code pc regs regs' uop turn res legal at does is =
    let none : Next = λ q r. Ended [] in
    let good = at_good shape n code (length code) legal.each none (λ q r. tt) pc pc regs in
    let here : act_at shape n (slice_get code pc) none pc regs
    ≡ turn_trace (Ok turn) none pc regs' = ap (λ o. act_at shape n o none pc regs) at
    ∙ does none pc ∙ ap (λ r. turn_trace r none pc regs') is in
    alone turn (subst (λ t. AreGood shape n (issues_of t)) here good)
  where
    alone : (turn : Turn)
        → AreGood shape n (issues_of (turn_trace (Ok turn) (λ q r. Ended []) pc regs'))
        → AreGood shape n (issues_by turn)
    alone Over h = tt
    alone On h = tt
    alone (To t) h = tt
    alone (Issues c) h = h

pub trace_good : (shape : Shape) (n : ℕ) (code : List Uop) → IsLegalCode shape code
    → AreGood shape n (issues_of (trace shape code n))
unfolding trace
trace_good shape n code legal = issue_good shape n code legal WALK_MAX 0 start

-- a position in a value is below its width
kind_in : (k : Kind) (n i : ℕ) → in_kind (Some k) n i ≡ true → i < width k n
kind_in Word n i h = ltb-true i n h
kind_in Bit n i h = let e : i ≡ 0 = eqb-true i 0 h in omega arith

module _ (rows : ℕ) (shape : Shape) (n : ℕ) (b : Bound) (fits : Fits rows shape n b) where
  value_in : (ks : List Kind) (ss : List ℕ) (which i : ℕ) → AreBelow rows n ks ss
      → in_kind (slice_get ks which) n i ≡ true → slice_index ss which + i < rows - 32
  value_in [] ss which i f h = absurd (cc)
  value_in (k ∷ ks) [] which i f h = absurd f
  value_in (k ∷ ks) (s ∷ ss) zero i f h = let l = kind_in k n i h in let u = f.0 in omega arith
  value_in (k ∷ ks) (s ∷ ss) (suc which) i f h = value_in ks ss which i f.1 h

  -- and it is the row of a value that there is
  value_there : (ks : List Kind) (ss : List ℕ) (which i : ℕ) → AreBelow rows n ks ss
      → in_kind (slice_get ks which) n i ≡ true → which < length ss
  value_there [] ss which i f h = absurd (cc)
  value_there (k ∷ ks) [] which i f h = absurd f
  value_there (k ∷ ks) (s ∷ ss) zero i f h = omega arith
  value_there (k ∷ ks) (s ∷ ss) (suc which) i f h = let rest = value_there ks ss which i f.1 h in
      omega arith

  -- and its row is one of the rows of its value
  value_among : (ks : List Kind) (ss : List ℕ) (which i row : ℕ) → AreBelow rows n ks ss
      → in_kind (slice_get ks which) n i ≡ true → slice_index ss which + i ≡ row
      → IsInSome (ranges n ks ss) row
  value_among [] ss which i row f h e = absurd (cc)
  value_among (k ∷ ks) [] which i row f h e = absurd f
  value_among (k ∷ ks) (s ∷ ss) zero i row f h e = let l = kind_in k n i h in
      inl (omega arith, omega arith)
  value_among (k ∷ ks) (s ∷ ss) (suc which) i row f h e =
      inr (value_among ks ss which i row f.1 h e)

  pub source_fits : (which i : ℕ) → is_issued_in shape n space.Source which i ≡ true
      → (which < length b.sources) × (slice_index b.sources which + i < rows - 32)
  source_fits which i h = (
    value_there shape.sources b.sources which i fits.sources h,
    value_in shape.sources b.sources which i fits.sources h,
  )

  -- a first value has a row below the spill group
  room : 0 < n → (k : Kind) (ks : List Kind) (bs : List ℕ) → AreBelow rows n (k ∷ ks) bs → 32 < rows
  room some k ks [] f = absurd f
  room some Word ks (c ∷ bs) f = omega (arith, some, f.0)
  room some Bit ks (c ∷ bs) f = omega (arith, f.0)

  -- its address lies in the bank
  address_good : 0 < n → (s : RowSpace) (which i : ℕ) → is_issued_in shape n s which i ≡ true
      → is_address_in rows (address_in rows shape n b s which i) ≡ true
  address_good some space.B which i h = h
  address_good some space.C which i h = h
  address_good some space.Result which i h = lt-ltb (slice_index b.results which + i) rows
      (omega (arith, value_in (results shape) b.results which i fits.results h))
  address_good some space.Source which i h = lt-ltb (slice_index b.sources which + i) rows
      (omega (arith, value_in shape.sources b.sources which i fits.sources h))
  address_good some space.ScratchBit which i h =
      let l = ltb-true which shape.bits h in
      lt-ltb (b.scratch + which) rows (omega (arith, fits.scratch (omega (arith, l)), l))
  address_good some space.ScratchWord which i h =
      let l = ltb-true (which * n + i) (n * shape.words) h in
      lt-ltb (b.scratch + shape.bits + which * n + i) rows
      (omega (arith, fits.scratch (omega (arith, l)), l))
  address_good some space.Spill which i h = lt-ltb (rows - 32 + which) rows
      (omega (
        arith,
        ltb-true which 32 h,
        room some shape.result (option_to_list shape.second)
            b.results fits.results,
      ))

  first_address : (s : RowSpace) (which i : ℕ) → may_be_first s which ≡ true
      → is_first_address (address_in rows shape n b s which i) ≡ true
  first_address space.B which i h = h
  first_address space.C which i h = refl
  first_address space.Result which i h = refl
  first_address space.Source which i h = refl
  first_address space.ScratchBit which i h = refl
  first_address space.ScratchWord which i h = refl
  first_address space.Spill which i h = refl

  second_address : (s : RowSpace) (which i : ℕ) → may_be_second s ≡ true
      → is_second_address (address_in rows shape n b s which i) ≡ true
  second_address space.B which i h = refl
  second_address space.C which i h = absurd (cc)
  second_address space.Result which i h = refl
  second_address space.Source which i h = refl
  second_address space.ScratchBit which i h = refl
  second_address space.ScratchWord which i h = refl
  second_address space.Spill which i h = refl

  -- a good command is legal on the chip
  pub command_legal : 0 < n → (c : Issue) → is_good shape n c ≡ true
      → is_legal_command rows (bound_command rows shape n b c) ≡ true
  command_legal some (IssueAap x y) h =
      let p = both (is_issued shape n x && may_be_first x.space x.which) (is_issued shape n y
      && may_be_second y.space) h in
      let q = both (is_issued shape n x) (may_be_first x.space x.which) p.0 in
      let r = both (is_issued shape n y) (may_be_second y.space) p.1 in
      let ax = address rows shape n b x in
      let ay = address rows shape n b y in
      from_both (is_address_in rows ax && is_first_address ax) (is_address_in rows ay
      && is_second_address ay)
      (from_both (is_address_in rows ax) (is_first_address ax)
      (address_good some x.space x.which x.index q.0)
      (first_address x.space x.which x.index q.1))
      (from_both (is_address_in rows ay) (is_second_address ay)
      (address_good some y.space y.which y.index r.0)
      (second_address y.space y.which y.index r.1))
  command_legal some (IssueAp x) h =
      let q = both (is_issued shape n x) (may_be_first x.space x.which) h in
      let ax = address rows shape n b x in
      from_both (is_address_in rows ax) (is_first_address ax)
      (address_good some x.space x.which x.index q.0)
      (first_address x.space x.which x.index q.1)

  pub commands_legal : 0 < n → (cs : List Issue) → AreGood shape n cs
      → AllByRecursion (λ c. is_legal_command rows c ≡ true) (bound rows shape n b cs)
  commands_legal some [] good = tt
  commands_legal some (c ∷ cs) good = (command_legal some c good.0, commands_legal some cs good.1)

  -- a second row that is a data row is of the result, the scratch or the spill group
  touched : (s : RowSpace) (which i row : ℕ) → is_issued_in shape n s which i ≡ true
      → may_be_second s ≡ true → address_in rows shape n b s which i ≡ addr.D row
      → IsTouched rows shape n b row
  touched space.B which i row h m e = absurd (cc)
  touched space.C which i row h m e = absurd (cc)
  touched space.Result which i row h m e = let r : slice_index b.results which + i ≡ row = cc in
      inl (value_among (results shape) b.results which i row fits.results h r)
  touched space.Source which i row h m e = absurd (cc)
  touched space.ScratchBit which i row h m e = let r : b.scratch + which ≡ row = cc in
      let l = ltb-true which shape.bits h in inr (inl (omega arith, omega arith))
  touched space.ScratchWord which i row h m e =
      let r : b.scratch + shape.bits + which * n + i ≡ row = cc in
      let l = ltb-true (which * n + i) (n * shape.words) h in
      inr (inl (omega arith, omega arith))
  touched space.Spill which i row h m e = let r : rows - 32 + which ≡ row = cc in
      let l = ltb-true which 32 h in inr (inr (omega arith, omega arith))

-- no data row
abbrev is_no_data : Cell → Bool
is_no_data (T k) = true
is_no_data (Dcc k) = true
is_no_data (C k) = true
is_no_data (D k) = false

abbrev IsNoData : Line → Type 0
IsNoData line = is_no_data line.cell ≡ true

b_no_data : AllByRecursion (AllByRecursion IsNoData) b_lines
b_no_data = (
  (refl, tt),
  (
    (refl, tt),
    (
      (refl, tt),
      (
        (refl, tt),
        (
          (refl, tt),
          (
            (refl, tt),
            (
              (refl, tt),
              (
                (refl, tt),
                (
                  (refl, (refl, tt)),
                  (
                    (refl, (refl, tt)),
                    (
                      (refl, (refl, tt)),
                      (
                        (refl, (refl, tt)),
                        (
                          (refl, (refl, (refl, tt))),
                          (
                            (refl, (refl, (refl, tt))),
                            ((refl, (refl, (refl, tt))), ((refl, (refl, (refl, tt))), tt)),
                          ),
                        ),
                      ),
                    ),
                  ),
                ),
              ),
            ),
          ),
        ),
      ),
    ),
  ),
)

lines_no_data : (xss : List (List Line)) (k : ℕ) → AllByRecursion (AllByRecursion IsNoData) xss
    → AllByRecursion IsNoData (slice_index_or xss k [])
lines_no_data [] k h = tt
lines_no_data (xs ∷ xss) zero h = h.0
lines_no_data (xs ∷ xss) (suc k) h = lines_no_data xss k h.1

unwritten : (c : Cell) (row : ℕ) → is_no_data c ≡ true → is_written c (D row) ≡ false
unwritten (T k) row h = refl
unwritten (Dcc k) row h = refl
unwritten (C k) row h = refl
unwritten (D k) row h = absurd (cc)

drive_keeps : (line : Line) (v : Bool) (s : Column) (row : ℕ) → IsNoData line
    → drive line v s (D row) ≡ s (D row)
drive_keeps line v s row h = rw (unwritten line.cell row h) refl

settle_lines_keep : (lines : List Line) (v : Bool) (s : Column) (row : ℕ)
    → AllByRecursion IsNoData lines → settle_lines lines v s (D row) ≡ s (D row)
settle_lines_keep [] v s row h = refl
settle_lines_keep (line ∷ lines) v s row h = settle_lines_keep lines v (drive line v s) row h.1
    ∙ drive_keeps line v s row h.0

-- a second row changes itself alone
settle_keeps : (x : Addr) (v : Bool) (s : Column) (row : ℕ) → (x ≡ addr.D row → ⊥)
    → settle x v s (D row) ≡ s (D row)
settle_keeps (addr.B k) v s row h = settle_lines_keep (slice_index_or b_lines k []) v s row
    (lines_no_data b_lines k b_no_data)
settle_keeps (addr.C k) v s row h = refl
settle_keeps (addr.D k) v s row h = drive-other s k row v (λ e. h (ap addr.D e))

activate_lines_keep : (lines : List Line) (s : Column) (row : ℕ) → AllByRecursion IsNoData lines
    → activate_lines lines s (D row) ≡ s (D row)
activate_lines_keep [] s row h = refl
activate_lines_keep (x ∷ []) s row h = refl
activate_lines_keep (x ∷ y ∷ lines) s row h =
    settle_lines_keep (x ∷ y ∷ lines) (sense_lines s (x ∷ y ∷ lines)) s row h

-- and a first row no data row
activate_keeps : (x : Addr) (s : Column) (row : ℕ)
    → activate_lines (lines_of x) s (D row) ≡ s (D row)
activate_keeps (addr.B k) s row = activate_lines_keep (slice_index_or b_lines k []) s row
    (lines_no_data b_lines k b_no_data)
activate_keeps (addr.C k) s row = refl
activate_keeps (addr.D k) s row = refl

-- the command has no such second row
abbrev pub IsElsewhere : ℕ → Command → Type 0
IsElsewhere row (command.Ap x) = Unit {0}
IsElsewhere row (command.Aap x y) = y ≡ addr.D row → ⊥

pub step_keeps : (c : Command) (s : Column) (row : ℕ) → IsElsewhere row c
    → step c s (D row) ≡ s (D row)
step_keeps (command.Ap x) s row h = ap (λ (t : Column). t (D row)) (step-is-quick (command.Ap x) s)
    ∙ activate_keeps x s row
step_keeps (command.Aap x y) s row h =
    ap (λ (t : Column). t (D row)) (step-is-quick (command.Aap x y) s)
    ∙ settle_keeps y (sense x s) (activate_lines (lines_of x) s) row h
    ∙ activate_keeps x s row

module _ (rows : ℕ) (shape : Shape) (n : ℕ) (b : Bound) (fits : Fits rows shape n b) (row : ℕ)
    (outside : IsTouched rows shape n b row → ⊥) where
  elsewhere : (c : Issue) → is_good shape n c ≡ true
      → IsElsewhere row (bound_command rows shape n b c)
  elsewhere (IssueAap x y) h =
      let p = both (is_issued shape n x && may_be_first x.space x.which) (is_issued shape n y
      && may_be_second y.space) h in
      let q = both (is_issued shape n y) (may_be_second y.space) p.1 in
      λ e. outside (touched rows shape n b fits y.space y.which y.index row q.0 q.1 e)
  elsewhere (IssueAp x) h = tt

  pub run_keeps : (cs : List Issue) (s : Column) → AreGood shape n cs
      → run (bound rows shape n b cs) s (D row) ≡ s (D row)
  run_keeps [] s good = refl
  run_keeps (c ∷ cs) s good = run_keeps cs (step (bound_command rows shape n b c) s) good.1
      ∙ step_keeps (bound_command rows shape n b c) s row (elsewhere c good.0)

-- The promise for every legal code: what it issues is legal on the chip,
pub legal_commands : (shape : Shape) (code : List Uop) → IsLegalCode shape code
    → (rows n : ℕ) (b : Bound) → 0 < n → Fits rows shape n b
    → AllByRecursion (λ c. is_legal_command rows c
    ≡ true) (bound rows shape n b (issues_of (trace shape code n)))
legal_commands shape code legal rows n b some fits =
    commands_legal rows shape n b fits some (issues_of (trace shape code n))
    (trace_good shape n code legal)

-- and keeps every data row outside result, scratch and spill group.
pub legal_keeps : (shape : Shape) (code : List Uop) → IsLegalCode shape code → (n : ℕ)
    → Keeps shape n (issues_of (trace shape code n))
legal_keeps shape code legal n =
    record {
      row = λ rows b s fits r outside. run_keeps rows shape n b fits r outside
          (issues_of (trace shape code n)) s (trace_good shape n code legal);
    }
