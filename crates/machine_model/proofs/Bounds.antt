-- How much an instruction does at most.
use Rattle.machine_model.proofs.Common.{◌≡◌, ℕ, zero, suc, ◌+◌, ◌*◌, ◌<◌, ◌≤◌, Bool, true, false}
use Rattle.machine_model.proofs.Common.{cond, eqb, leb, List, [], ◌∷◌, length, Option, Some, None}
use Rattle.machine_model.proofs.Common.{refl, arith, get_or, sym, subst, count_by, slice_index}
use Rattle.machine_model.proofs.Common.{is_none, AllByRecursion, suc-mul, sum_by-cons}
use Rattle.machine_model.proofs.Common.{recursion_from_All, Geometry, column_count, segments_of}
use Rattle.machine_model.proofs.Common.{WIDTH_MAX, Counts, Uop, Shape, Issue, IssueAap, IssueAp}
use Rattle.machine_model.proofs.Common.{Trace, Ended, Stuck, trace, issues_of, issues_aap}
use Rattle.machine_model.proofs.Common.{issues_ap, counts_of, Object, Named, Part, Place}
use Rattle.machine_model.proofs.Common.{Instruction, Init, Bbop, Load, Fill, Print, Free, Order}
use Rattle.std.specs.Prelude.{slice_get, slice_set, ◌-◌}
use Rattle.std.proofs.Math.Nat.{mul-le-mul, mul-add}
use Rattle.uprog_code.specs.declared.TheConstants.{WALK_MAX}
use Rattle.uprog_code.specs.declared.code.Uop.TheVariants.{Done, SetI, SetN, SetT, Mov, Add, AddI}
use Rattle.uprog_code.specs.declared.code.Uop.TheVariants.{SubI, Bnez, Aap, Ap}
use Rattle.uprog_code.specs.Machine.{Next, act, act_at, onto, issued, all_in_range, command_at}
use Rattle.uprog_code.specs.Machine.{issue, start}
use Rattle.uprog_code.specs.declared.walker.Why3.TheVariants.{Index, Register}
pub use Rattle.dram_model.proofs.Shapes.{geometry_parts}
use Rattle.machine_model.specs.declared.Why.{Why}
use Rattle.machine_model.specs.Columns.{segments}
use Rattle.machine_model.specs.Places.{cut, is_past}
use Rattle.machine_model.specs.Routines.{Program, Routine, Routines, routine_of}
use Rattle.machine_model.specs.Routines.{routines_in}
use Rattle.machine_model.specs.Refusals.{refusal, object_named, rows_of, goes_past, nothing}
use Rattle.machine_model.specs.Steps.{counts_for, reply_to, reply_by, times, issues_at, table_after}
use Rattle.machine_model.specs.Steps.{new_object}
use Rattle.machine_model.specs.Agrees.{IsPlain}
use Rattle.machine_model.specs.Script.{counted_in, rows_if_done, rows_loaded}
use Rattle.machine_model.specs.Script.{rows_printed}
use Rattle.machine_model.specs.Laws.{TableFits, AreFew, WorkIsBounded}
use Rattle.machine_model.proofs.KeptAll.{entry_holds}
use Rattle.machine_model.proofs.Makes.{few_banks}
use Rattle.machine_model.proofs.Tables.{made, object_holds, table_fits_after}
use Rattle.machine_model.proofs.Facts.{operand_is}
use Rattle.machine_model.proofs.Bbops.{part_count}
use Rattle.machine_model.proofs.Sliced.{within}

-- a trace has no more commands than this
abbrev pub IsShort : ℕ → Trace → Type 0
IsShort most t = length (issues_of t) ≤ most

onto_short : (c : Issue) (t : Trace) (most : ℕ) → IsShort most t
    → IsShort (suc most) (onto (c ∷ []) t)
onto_short c (Ended issues) most h = omega (arith, h)
onto_short c (Stuck at why) most h = omega arith

either_short : (b : Bool) (t u : Trace) (most : ℕ) → IsShort most t → IsShort most u
    → IsShort most (cond b t u)
either_short true t u most h k = h
either_short false t u most h k = k

module _ (shape : Shape) (n left : ℕ) (next : Next)
    (short : (pc : ℕ) (regs : List ℕ) → IsShort left (next pc regs))
  where
    none_short : IsShort (suc left) (Ended [])
    none_short = omega arith

    more_short : (pc : ℕ) (regs : List ℕ) → IsShort (suc left) (next pc regs)
    more_short pc regs = omega (arith, short pc regs)

    issued_short : (c : Issue) (at : ℕ) (pc : ℕ) (regs : List ℕ)
        → IsShort (suc left) (issued shape n c at (next pc regs))
    issued_short c at pc regs =
        either_short (all_in_range shape n c) (onto (c ∷ []) (next pc regs)) (Stuck at Index)
        (suc left) (onto_short c (next pc regs) left (short pc regs)) none_short

    act_short : (uop : Uop) (pc : ℕ) (regs : List ℕ)
        → IsShort (suc left) (act shape n uop next pc regs)
    act_short Done pc regs = none_short
    act_short (SetI r k) pc regs = more_short (pc + 1) (slice_set regs r k)
    act_short (SetN r) pc regs = more_short (pc + 1) (slice_set regs r n)
    act_short (SetT r) pc regs = more_short (pc + 1) (slice_set regs r (n - 1))
    act_short (Mov r s) pc regs = more_short (pc + 1) (slice_set regs r (slice_index regs s))
    act_short (Add r s) pc regs =
        let sum = slice_index regs r + slice_index regs s in
        either_short (leb sum 1023) (next (pc + 1) (slice_set regs r sum)) (Stuck pc Register)
        (suc left) (more_short (pc + 1) (slice_set regs r sum)) none_short
    act_short (AddI r k) pc regs =
        let sum = slice_index regs r + k in
        either_short (leb sum 1023) (next (pc + 1) (slice_set regs r sum)) (Stuck pc Register)
        (suc left) (more_short (pc + 1) (slice_set regs r sum)) none_short
    act_short (SubI r k) pc regs =
        let less = slice_index regs r - k in
        either_short (leb k (slice_index regs r)) (next (pc + 1) (slice_set regs r less))
        (Stuck pc Register) (suc left) (more_short (pc + 1) (slice_set regs r less)) none_short
    act_short (Bnez r t) pc regs =
        either_short (eqb (slice_index regs r) 0) (next (pc + 1) regs) (next t regs) (suc left)
        (more_short (pc + 1) regs) (more_short t regs)
    act_short (Aap x y) pc regs = issued_short (command_at regs (IssueAap x y)) pc (pc + 1) regs
    act_short (Ap x) pc regs = issued_short (command_at regs (IssueAp x)) pc (pc + 1) regs

    at_short : (uop : Option Uop) (pc : ℕ) (regs : List ℕ)
        → IsShort (suc left) (act_at shape n uop next pc regs)
    at_short None pc regs = none_short
    at_short (Some uop) pc regs = act_short uop pc regs

walk_short : (shape : Shape) (code : List Uop) (n left pc : ℕ) (regs : List ℕ)
    → IsShort left (issue shape code n left pc regs)
unfolding issue
walk_short shape code n zero pc regs = omega arith
walk_short shape code n (suc left) pc regs =
    at_short shape n left (issue shape code n left) (walk_short shape code n left)
    (slice_get code pc) pc regs

pub trace_short : (shape : Shape) (code : List Uop) (n : ℕ)
    → IsShort WALK_MAX (trace shape code n)
unfolding trace
trace_short shape code n = walk_short shape code n WALK_MAX 0 start

abbrev ShortWalks : Routine → Type 0
ShortWalks o = (n : ℕ) → IsShort WALK_MAX (o.trace n)

entries_short : (p : Program) → AllByRecursion (λ e. ShortWalks (routine_of e)) p
entries_short [] = tt
entries_short (e ∷ p) = (trace_short e.shape e.code, entries_short p)

counts_short : (issues : List Issue)
    → count_by issues_aap issues + count_by issues_ap issues ≡ length issues
counts_short [] = refl
counts_short (IssueAap x y ∷ issues) =
    let a = sum_by-cons (λ z. cond (issues_aap z) 1 0) (IssueAap x y) issues in
    let b = sum_by-cons (λ z. cond (issues_ap z) 1 0) (IssueAap x y) issues in
    let rest = counts_short issues in
    omega (arith, a, b, rest)
counts_short (IssueAp x ∷ issues) =
    let a = sum_by-cons (λ z. cond (issues_aap z) 1 0) (IssueAp x) issues in
    let b = sum_by-cons (λ z. cond (issues_ap z) 1 0) (IssueAp x) issues in
    let rest = counts_short issues in
    omega (arith, a, b, rest)

-- its rows, in all its banks
abbrev FewRows : Geometry → Object → Type 0
FewRows g o = (segments g o ≤ 16) × (o.width * segments g o ≤ 16 * WIDTH_MAX)

few_rows : (g : Geometry) (o : Object) → 0 < g.words → g.banks ≤ 16 → o.width ≤ WIDTH_MAX
    → o.count ≤ column_count g * g.banks → FewRows g o
few_rows g o some few narrow fits =
    let less : segments g o ≤ g.banks =
    few_banks o.count (column_count g) g.banks (omega arith) fits in
    let least : segments g o ≤ 16 = omega (arith, less, few) in
    let all : o.width * segments g o ≤ WIDTH_MAX * 16 = mul-le-mul narrow least in
    (least, omega (arith, all))

named_few : (g : Geometry) (table : List Named) (name : List ℕ) → 0 < g.words → g.banks ≤ 16
    → TableFits g table → FewRows g (object_named table name)
named_few g table name some few t =
    object_holds (FewRows g) table name
    (few_rows g nothing some few (omega arith) (omega arith))
    (recursion_from_All (λ (named : Named). FewRows g named.1) table (λ k d l.
    let o = t.objects k d l in few_rows g (get_or table k d).1 some few o.narrow o.fits))

-- these counts are at most so many
abbrev pub SumsTo : ℕ → Counts → Type 0
SumsTo most c = c.aap + c.ap ≤ most

bbop_few : (operations : Routines) (op : List ℕ) (n size : ℕ) (found : Option Routine)
    → operations op ≡ found
    → ((o : Routine) → operations op ≡ Some o → ShortWalks o) → size ≤ 16
    → SumsTo (16 * WALK_MAX) (times size (counts_of (issues_at found n)))
bbop_few operations op n size None e short few =
    let none : size * 0 ≡ 0 = omega arith in omega (arith, none)
bbop_few operations op n size (Some o) e short few =
    let issues = issues_of (o.trace n) in
    let both = counts_short issues in
    let most : count_by issues_aap issues + count_by issues_ap issues ≤ WALK_MAX =
    omega (arith, both, short o e n) in
    let all : size * (count_by issues_aap issues + count_by issues_ap issues) ≤ 16 * WALK_MAX =
    mul-le-mul few most in
    let parts = mul-add size (count_by issues_aap issues) (count_by issues_ap issues) in
    omega (arith, all, parts)

-- and so of a part of the object
part_few : (g : Geometry) (o : Object) (part : Option Part) → is_past part o ≡ false → FewRows g o
    → FewRows g (cut part o)
part_few g o None h rows = rows
part_few g o (Some p) h rows =
    let less : p.size * segments g o ≤ o.width * segments g o =
    mul-le-mul (omega (arith, within o p h)) (omega arith) in
    (rows.0, omega (arith, less, rows.1))

place_few : (g : Geometry) (table : List Named) (place : Place) → 0 < g.words → g.banks ≤ 16
    → TableFits g table → goes_past table place ≡ false → FewRows g (rows_of table place)
place_few g table place some few t inside = part_few g (object_named table place.name) place.part
    inside (named_few g table place.name some few t)

fill_few : (rows : ℕ) → rows ≤ 16 * WIDTH_MAX
    → SumsTo (16 * WALK_MAX) (record { aap = rows; ap = 0 })
fill_few rows h = omega (arith, h)

reply_sums : (r : Option Why) (c : Counts) (most : ℕ) → (r ≡ None → SumsTo most c)
    → SumsTo most (counted_in (reply_by r c))
reply_sums None c most h = h refl
reply_sums (Some reason) c most h = omega arith

module _ (g : Geometry) (p : Program) (table : List Named) (some : 0 < g.words)
    (few : g.banks ≤ 16) (t : TableFits g table)
  where
    counts_few : (instr : Instruction) → IsPlain instr
        → refusal g (routines_in p) table instr ≡ None
        → SumsTo (16 * WALK_MAX) (counts_for g (routines_in p) table instr)
    counts_few (Init name count n) plain h =
        let m = made g (routines_in p) table name count n h in
        let rows = few_rows g (new_object g table count n) some few plain.1.1 m.fits in
        fill_few _ rows.1
    counts_few (Bbop op dst srcs count n) plain h =
        bbop_few (routines_in p) op n (segments g (rows_of table dst)) (routines_in p op)
        refl (λ o e. entry_holds ShortWalks p op o (entries_short p) e)
        (subst (λ (c : ℕ). segments_of g c ≤ 16)
        (sym (part_count (object_named table dst.name) dst.part))
        (named_few g table dst.name some few t).0)
    counts_few (Fill place value) plain h = fill_few _ (place_few g table place some few t
        (operand_is _ (goes_past table place) _ h).1).1
    counts_few (Load place values) plain h = omega arith
    counts_few (Print name) plain h = omega arith
    counts_few (Free name) plain h = omega arith
    counts_few (Order o) plain h = omega arith

    -- the commands of one instruction
    pub commands_few : (instr : Instruction) → IsPlain instr
        → SumsTo (16 * WALK_MAX) (counted_in (reply_to g (routines_in p) table instr))
    commands_few instr plain = reply_sums (refusal g (routines_in p) table instr)
        (counts_for g (routines_in p) table instr) (16 * WALK_MAX) (counts_few instr plain)

    loaded_few : (instr : Instruction) → refusal g (routines_in p) table instr ≡ None
        → rows_loaded g table instr ≤ 16 * WIDTH_MAX
    loaded_few (Load place values) h = (place_few g table place some few t
        (operand_is _ (goes_past table place) _ h).1).1
    loaded_few (Init name count n) h = omega arith
    loaded_few (Bbop op dst srcs count n) h = omega arith
    loaded_few (Fill place value) h = omega arith
    loaded_few (Print place) h = omega arith
    loaded_few (Free name) h = omega arith
    loaded_few (Order o) h = omega arith

    printed_few : (instr : Instruction) → refusal g (routines_in p) table instr ≡ None
        → rows_printed g table instr ≤ 16 * WIDTH_MAX
    printed_few (Print place) h = (place_few g table place some few t
        (operand_is _ (goes_past table place) _ h).1).1
    printed_few (Load place values) h = omega arith
    printed_few (Init name count n) h = omega arith
    printed_few (Bbop op dst srcs count n) h = omega arith
    printed_few (Fill place value) h = omega arith
    printed_few (Free name) h = omega arith
    printed_few (Order o) h = omega arith

    if_few : (r : Option Why) (n : ℕ) → (r ≡ None → n ≤ 16 * WIDTH_MAX)
        → cond (is_none r) n 0 ≤ 16 * WIDTH_MAX
    if_few None n h = h refl
    if_few (Some reason) n h = omega arith

    -- the rows that it loads and prints
    pub rows_loaded_few : (instr : Instruction)
        → rows_if_done rows_loaded g (routines_in p) table instr ≤ 16 * WIDTH_MAX
    rows_loaded_few instr = if_few (refusal g (routines_in p) table instr) _ (loaded_few instr)

    pub rows_printed_few : (instr : Instruction)
        → rows_if_done rows_printed g (routines_in p) table instr ≤ 16 * WIDTH_MAX
    rows_printed_few instr = if_few (refusal g (routines_in p) table instr) _ (printed_few instr)

script_few : (g : Geometry) (p : Program) (table : List Named) (script : List Instruction)
    → 0 < g.words → g.banks ≤ 16 → TableFits g table → AllByRecursion IsPlain script
    → AreFew g (routines_in p) table script
script_few g p table [] some few t plain =
    record { commands = omega arith; loaded = omega arith; printed = omega arith }
script_few g p table (instr ∷ script) some few t plain =
    let operations = routines_in p in
    let rest = script_few g p (table_after g operations table instr) script some few
    (table_fits_after g operations table instr plain.0 t) plain.1 in
    let commands = suc-mul (length script) (16 * WALK_MAX) in
    let rows = suc-mul (length script) (16 * WIDTH_MAX) in
    record {
      commands = omega (
        arith,
        commands,
        rest.commands,
        commands_few g p table some few t instr plain.0,
      );
      loaded = omega (arith, rows, rest.loaded, rows_loaded_few g p table some few t instr);
      printed = omega (arith, rows, rest.printed, rows_printed_few g p table some few t instr);
    }

-- a script sends no more commands, and moves no more rows, than its length allows
pub work_is_bounded : WorkIsBounded
work_is_bounded g p table script h t plain =
    let parts = geometry_parts g h in
    script_few g p table script parts.0 parts.2 t plain
