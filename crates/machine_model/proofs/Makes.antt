-- The steps of a fill and of a new object.
use Rattle.machine_model.proofs.Common.{false_from_ne_true, or_parts, refl, ◌≡◌, ℕ, ◌+◌, ◌*◌, ◌/◌}
use Rattle.machine_model.proofs.Common.{◌%◌, ◌^◌, ◌<◌, ◌≤◌, false, leb, List, [], ◌∷◌, ◌++◌, length}
use Rattle.machine_model.proofs.Common.{get_or, sym, ◌∙◌, ap, subst, arith, inl, inr, All}
use Rattle.machine_model.proofs.Common.{replicate, cases_lt, nat_tests, pow_pos, map-append}
use Rattle.machine_model.proofs.Common.{All-push, Geometry, Banks, after, Object, has_row, AreApart}
use Rattle.machine_model.proofs.Common.{Named, IsTable, objects_of, IsTable-add, Init, Fill, Place}
use Rattle.machine_model.proofs.Common.{column_count, limit_of}
use Rattle.std.specs.Int.{div_ceil}
use Rattle.std.proofs.Math.Nat.{mul-le-mul_left, div-le_of_le-mul}
use Rattle.machine_model.specs.declared.Why.TheVariants as why
use Rattle.machine_model.specs.Columns.{object_size, segments, columns}
use Rattle.machine_model.specs.Routines.{Routines}
use Rattle.machine_model.specs.Refusals.{rows_of, goes_past, is_absent, refusal, when}
use Rattle.machine_model.specs.Steps.{Held, table_of, new_object, through, fill_events}
use Rattle.machine_model.specs.Steps.{with_results, new_numbers}
use Rattle.machine_model.proofs.Merged.{meet}
use Rattle.machine_model.specs.Agrees.{Agrees}
use Rattle.machine_model.proofs.Facts.{first_none, when_none, not_false, operand_is}
use Rattle.machine_model.proofs.Places.{no_one, entry_of}
use Rattle.machine_model.proofs.Below.{base_free}
use Rattle.machine_model.proofs.Tables.{made}
use Rattle.machine_model.proofs.Bbops.{not_free, placed_at}
use Rattle.machine_model.proofs.Fills.{fill_job, fill_is_job, fill_columns, fill_others, fill_keeps}
use Rattle.machine_model.proofs.Steps.{with_results_agrees, operand_within, through_length, done_or_not, idle}
use Rattle.machine_model.proofs.Steps.{any_default, StepAgrees}

pub filled : (g : Geometry) (o : Object) (v : ℕ) (banks : Banks)
    → after (fill_events g o v) (through (record { commands = []; banks = 0 }) banks)
    ≡ through (fill_job g o v) banks
filled g o v banks = ap (after (fill_events g o v)) (idle [] banks) ∙ fill_is_job g o v banks

pub fill_agrees : (g : Geometry) (operations : Routines) (meaning : List ℕ → ℕ → List ℕ
    → List ℕ) (place : Place) (v : ℕ) → StepAgrees g operations meaning (Fill place v)
fill_agrees g operations meaning place v banks state a =
    let table = table_of state in
    let o = rows_of table place in
    let job = fill_job g o v in
    let result : ℕ → List ℕ = λ k. replicate (object_size g o) v in
    done_or_not g (refusal g operations table (Fill place v)) _ banks _ state (λ h.
    let is = operand_is (is_absent table place.name) (goes_past table place)
    (when (leb (2 ^ o.width) v) (why.Range 1) ∷ []) h in
    let small = first_none (when (leb (2 ^ o.width) v) (why.Range 1)) [] is.2 in
    let below : leb (2 ^ o.width) v ≡ false = when_none _ _ small.0 in
    let inside = operand_within g banks state place a (not_false _ is.0) in
    subst (λ (b : Banks). Agrees g b (with_results state result (place ∷ [])))
    (sym (filled g o v banks))
    (with_results_agrees g banks (through job banks) state result (place ∷ []) a
    (λ bank l. through_length job banks bank ∙ a.shaped bank l)
    (λ i l. let h = get_or state i no_one in
    meet g banks job (rows_of table) result (place ∷ []) h.name h.object o.count
    (placed_at (limit_of g) state i place a.table l is.1, tt) (refl, tt) refl
    (λ s row has none. fill_keeps o h.object v row s (or_parts (has_row o row) false none).0) (
      fill_columns g banks o v (grind (arith, nat_tests)) (λ b m.
          a.shaped b (omega (arith, inside, m))),
      tt,
    )
    ∙ ap (new_numbers result 0 (place ∷ []) h.name) (a.numbers i no_one l)))) a

-- so many elements take no more banks than hold them
pub few_banks : (c w k : ℕ) → 0 < w → c ≤ w * k → div_ceil c w ≤ k
few_banks c w k h l =
    elim (cases_lt (c / w) k) [
      | inl lt ↦ omega arith
      | inr ge ↦
          let m : w * k ≤ w * (c / w) = mul-le-mul_left w ge in
          let n : c / w ≤ k = div-le_of_le-mul w l in
          let whole : c % w ≡ 0 = omega arith in
          omega (arith, whole, n)
    ]

all_places : {X : Type 0} (P : X → Type 0) (xs : List X) (e : X)
    → ((k : ℕ) → k < length xs → P (get_or xs k e)) → All P xs
all_places P xs e h k d l = subst P (any_default xs k e d l) (h k l)

pub init_agrees : (g : Geometry) (operations : Routines) (meaning : List ℕ → ℕ → List ℕ
    → List ℕ) (name : List ℕ) (count n : ℕ) → 0 < n → 0 < g.words
    → StepAgrees g operations meaning (Init name count n)
init_agrees g operations meaning name count n some words banks state a =
    let table = table_of state in
    let o = new_object g table count n in
    let h' : Held = record { name = name; object = o; numbers = replicate (object_size g o) 0 } in
    done_or_not g (refusal g operations table (Init name count n)) _ banks _ state (λ h.
    let m = made g operations table name count n h in
    let base = (base_free (limit_of g) (objects_of table) n m.room).1 in
    let few : segments g o ≤ g.banks = few_banks count (column_count g) g.banks (omega arith)
    m.fits in
    let apart : (k : ℕ) → k < length state → AreApart (get_or state k no_one).object o =
    λ k l row r. false_from_ne_true _ (λ t.
    let rows : (o.base ≤ row) × (row < o.base + n) = grind (arith, nat_tests) in
    let none = not_free (limit_of g) state n o.base row k base rows.0 rows.1 l in
    cc) in
    let kept : (k : ℕ) → k < length state → columns g (through (fill_job g o 0) banks)
    (get_or state k no_one).object ≡ (get_or state k no_one).numbers =
    λ k l. fill_others g banks o (get_or state k no_one).object 0 (apart k l)
    ∙ a.numbers k no_one l in
    subst (λ (b : Banks). Agrees g b (state ++ h' ∷ [])) (sym (filled g o 0 banks)) (record {
      shaped = λ bank l. through_length (fill_job g o 0) banks bank ∙ a.shaped bank l;
      table = subst (λ (t : List Named). IsTable (limit_of g) t)
          (sym (map-append entry_of state (h' ∷ [])))
          (IsTable-add (limit_of g) table name o a.table m.few m.new some base);
      within = All-push (λ (h : Held). segments g h.object ≤ g.banks) state h' a.within few;
      numbers = All-push (λ (h : Held). columns g (through (fill_job g o 0) banks) h.object
          ≡ h.numbers) state h'
          (all_places (λ (h : Held). columns g (through (fill_job g o 0) banks) h.object
          ≡ h.numbers) state no_one kept)
          (fill_columns g banks o 0 (pow_pos n) (λ b l. a.shaped b (omega (arith, few, l))));
    })) a
