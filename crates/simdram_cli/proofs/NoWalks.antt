-- No bbop of a program that implements a text is refused for its walk.
use Rattle.simdram_cli.proofs.Common.{◌≡◌, ℕ, ◌+◌, ◌<◌, ◌≤◌, Bool, true, false, cond, List, [], ◌∷◌}
use Rattle.simdram_cli.proofs.Common.{map, ◌++◌, Option, Some, None, refl, sym, subst, length, ◌==◌}
use Rattle.simdram_cli.proofs.Common.{nat_lt, nat_le, not, AllByRecursion, option_map, Geometry}
use Rattle.simdram_cli.proofs.Common.{WIDTH_MAX, Microprogram, trace, HasEnded, column_count, Named}
use Rattle.simdram_cli.proofs.Common.{Instruction, Init, Bbop, Fill, Free, Order, Why, Program}
use Rattle.simdram_cli.proofs.Common.{Routines, routines_in, TextOp, ImplementsAll, refusal}
use Rattle.simdram_cli.proofs.Common.{table_after, replies, IsPlain}
use Rattle.std.specs.Prelude.{◌*◌, ◌^◌, zip, is_none}
use Rattle.uprog_code.specs.Shape.{need, results}
use Rattle.uprog_code.specs.Machine.{Trace, Ended, Stuck}
use Rattle.object_alloc.specs.Free.{free}
use Rattle.object_alloc.specs.Listed.{objects_of, limit_of, has_name}
use Rattle.bbop_isa.specs.declared.instr.Place.{Place}
use Rattle.bbop_isa.specs.Forms.{Load, Print}
use Rattle.machine_model.specs.Routines.{Routine, routine_of, entry_named}
use Rattle.machine_model.specs.Refusals.{first, when, at_place, walks_badly, rows_of, goes_past}
use Rattle.machine_model.specs.Refusals.{is_absent, is_misfit, bbop_conditions, bbop_refusal}
use Rattle.machine_model.specs.Refusals.{dsts_in, srcs_in, meets_one, meet_before}
use Rattle.machine_model.specs.Steps.{reply_by}
use Rattle.machine_model.proofs.Texts.{Matched, both, matched}
use Rattle.machine_model.specs.declared.Why.TheVariants as why
use Rattle.simdram_cli.specs.Headline.{IsNoBadWalk}

abbrev pub NotWalk : Option Why → Type 0
NotWalk r = (walk : _) → r ≡ Some (why.BadWalk walk) → ⊥

none_not : NotWalk None
none_not walk e = cc

first_not : (cs : List (Option Why)) → AllByRecursion NotWalk cs → NotWalk (first cs)
first_not [] all walk e = cc
first_not (None ∷ cs) all walk e = first_not cs all.1 walk e
first_not (Some reason ∷ cs) all walk e = all.0 walk e

when_not : (b : Bool) (y : Why) → NotWalk (Some y) → NotWalk (when b y)
when_not true y n walk e = n walk e
when_not false y n walk e = cc

place_case : (f : ℕ → Why) (k : ℕ) (b : Bool) (rest : Option Why) → NotWalk (Some (f k))
    → NotWalk rest → NotWalk (cond b (Some (f k)) rest)
place_case f k true rest n m walk e = n walk e
place_case f k false rest n m walk e = m walk e

place_not : (f : ℕ → Why) (k : ℕ) (bs : List Bool) → ((j : ℕ) → NotWalk (Some (f j)))
    → NotWalk (at_place f k bs)
place_not f k [] n walk e = cc
place_not f k (b ∷ bs) n walk e = place_case f k b (at_place f (k + 1) bs) (n k)
    (place_not f (k + 1) bs n) walk e

ended_not : (t : Trace) → HasEnded t → NotWalk (walks_badly t)
ended_not (Ended issues) h walk e = cc
ended_not (Stuck at reason) h walk e = elim h [ ]

bbop_not : (g : Geometry) (table : List Named) (o : Routine) (places : List Place)
    (count n : ℕ) → HasEnded (o.trace n)
    → NotWalk (first (bbop_conditions (limit_of g) table o places count n))
bbop_not g table o places count n ended =
    let operands = map (rows_of table) places in
    let dsts = dsts_in o.shape places in
    first_not (bbop_conditions (limit_of g) table o places count n) (
      when_not (not (length places == length (results o.shape ++ o.shape.sources))) why.Arity
          (λ walk e. cc),
      (
        place_not why.NoObject 0 (map (λ p. is_absent table p.name) places) (λ j walk e. cc),
        (
          place_not why.Slice 0 (map (goes_past table) places) (λ j walk e. cc),
          (
            place_not why.Width 0 (map (is_misfit n)
                (zip (results o.shape ++ o.shape.sources) operands)) (λ j walk e. cc),
            (
              place_not why.Size 0 (map (λ x. not (x.count == count)) operands) (λ j walk e. cc),
              (
                place_not why.Overlap 0
                    (meet_before [] dsts ++ map (meets_one dsts) (srcs_in o.shape places))
                    (λ j walk e. cc),
                (
                  ended_not (o.trace n) ended,
                  (
                    when_not (is_none (free (limit_of g) (objects_of table) (need o.shape n)))
                        why.NoRows (λ walk e. cc),
                    tt,
                  ),
                ),
              ),
            ),
          ),
        ),
      ),
    )

abbrev pub AllEnd : Routines → Type 0
AllEnd operations = (name : List ℕ) (o : Routine) → operations name ≡ Some o → (n : ℕ) → 0 < n
    → n ≤ WIDTH_MAX → HasEnded (o.trace n)

named_not : (g : Geometry) (table : List Named) (r : Option Routine) (places : List Place)
    (count n : ℕ) → ((o : Routine) → r ≡ Some o → HasEnded (o.trace n))
    → NotWalk (bbop_refusal g table r places count n)
named_not g table None places count n ends walk e = cc
named_not g table (Some o) places count n ends walk e =
    bbop_not g table o places count n (ends o refl) walk e

-- the operand of a load, fill or print, and what else is asked for
operand_not : (absent past : Bool) (rest : List (Option Why)) → AllByRecursion NotWalk rest
    → NotWalk (first (when absent (why.NoObject 0) ∷ when past (why.Slice 0) ∷ rest))
operand_not absent past rest h = first_not
    (when absent (why.NoObject 0) ∷ when past (why.Slice 0) ∷ rest) (
      when_not absent (why.NoObject 0) (λ walk e. cc),
      (when_not past (why.Slice 0) (λ walk e. cc), h),
    )

refusal_not : (g : Geometry) (operations : Routines) (table : List Named) (i : Instruction)
    → AllEnd operations → IsPlain i → NotWalk (refusal g operations table i)
refusal_not g operations table (Bbop op dst srcs count n) ends plain =
    named_not g table (operations op) (dst ∷ srcs) count n
    (λ o e. ends op o e n plain.0 plain.1)
refusal_not g operations table (Init name count n) ends plain =
    first_not
    (when (has_name table name) why.Exists
    ∷ when (nat_le 256 (length table)) why.TableFull
    ∷ when (nat_lt (column_count g * g.banks) count) why.TooLarge
    ∷ when (is_none (free (limit_of g) (objects_of table) n)) why.NoRows ∷ []) (
      when_not (has_name table name) why.Exists (λ walk e. cc),
      (
        when_not (nat_le 256 (length table)) why.TableFull (λ walk e. cc),
        (
          when_not (nat_lt (column_count g * g.banks) count) why.TooLarge (λ walk e. cc),
          (
            when_not (is_none (free (limit_of g) (objects_of table) n)) why.NoRows (λ walk e. cc),
            tt,
          ),
        ),
      ),
    )
refusal_not g operations table (Load place values) ends plain =
    let o = rows_of table place in
    operand_not (is_absent table place.name) (goes_past table place)
    (when (not (length values == o.count)) why.Count
    ∷ at_place why.Range 1 (map (λ v. nat_le (2 ^ o.width) v) values) ∷ []) (
      when_not (not (length values == o.count)) why.Count (λ walk e. cc),
      (
        place_not why.Range 1 (map (λ v. nat_le (2 ^ o.width) v) values) (λ j walk e. cc),
        tt,
      ),
    )
refusal_not g operations table (Fill place value) ends plain =
    let o = rows_of table place in
    operand_not (is_absent table place.name) (goes_past table place)
    (when (nat_le (2 ^ o.width) value) (why.Range 1) ∷ [])
    (when_not (nat_le (2 ^ o.width) value) (why.Range 1) (λ walk e. cc), tt)
refusal_not g operations table (Print place) ends plain =
    operand_not (is_absent table place.name) (goes_past table place) [] tt
refusal_not g operations table (Free name) ends plain =
    when_not (is_absent table name) (why.NoObject 0) (λ walk e. cc)
refusal_not g operations table (Order order) ends plain = none_not

reply_not : (r : Option Why) (counts : _) → NotWalk r → IsNoBadWalk (reply_by r counts)
reply_not None counts n walk e = cc
reply_not (Some reason) counts n walk e = n walk (cc)

pub no_walks : (g : Geometry) (operations : Routines) (table : List Named)
    (script : List Instruction) → AllEnd operations → AllByRecursion IsPlain script
    → AllByRecursion IsNoBadWalk (replies g operations table script)
no_walks g operations table [] ends plain = tt
no_walks g operations table (i ∷ script) ends plain = (
  reply_not (refusal g operations table i) _ (refusal_not g operations table i ends plain.0),
  no_walks g operations (table_after g operations table i) script ends plain.1,
)

ends_case : (x : Option Microprogram) (y : Option TextOp) (o : Routine) (n : ℕ) → Matched x y
    → option_map routine_of x ≡ Some o → 0 < n → n ≤ WIDTH_MAX → HasEnded (o.trace n)
ends_case None y o n m e l k = cc
ends_case (Some entry) None o n m e l k = elim m [ ]
ends_case (Some entry) (Some op) o n (both _ _ does) e l k =
    let is : routine_of entry ≡ o = cc in
    subst (λ (q : Routine). HasEnded (q.trace n)) is
    (subst (λ (s : _). HasEnded (trace s entry.code n)) (sym does.shape) (does.code.ends n l k))

-- every walk of a program that implements a text ends
pub all_end : (p : Program) (t : List TextOp) → ImplementsAll p t → AllEnd (routines_in p)
all_end p t i name o e n l k = ends_case (entry_named p name) _ o n (matched p t name i) e l k
