-- How much an object's events raise the counters.
use Rattle.object_steps.proofs.Common.{◌≡◌, ℕ, zero, suc, ◌+◌, ◌*◌, ◌≤◌, List, [], ◌∷◌, length, map}
use Rattle.object_steps.proofs.Common.{arith, refl, length-append, mul-le-mul_right, suc-mul}
use Rattle.object_steps.proofs.Common.{flat_map, range_with_len, Aap, Counters, Event, Row, Write}
use Rattle.object_steps.proofs.Common.{◌<◌, true, inl, inr, mul_comm, cases_lt, nat_tests}
use Rattle.object_steps.proofs.Common.{div_ceil_times, Geometry, column_count, segments_of}
use Rattle.object_steps.proofs.Common.{with_reads, Object, segments, load_events}
use Rattle.std.proofs.Common.{mul-le-mul_left, mul-add}
use Rattle.dram_model.specs.declared.address.Command.TheVariants.{Ap}
use Rattle.dram_model.specs.Chip.{all_counted, counted}
use Rattle.dram_model.specs.Elements.{row_by_row, write_events}
use Rattle.dram_model.proofs.EventLaws.{counted-bound}
use Rattle.dram_model.specs.Geometry.{is_geometry}
use Rattle.object_steps.specs.Objects.{RisesAtMost}
use Rattle.object_steps.specs.Objects.{FitsOn}

no_reads : (events : List Event) (counters : Counters)
    → (all_counted events counters).reads ≡ counters.reads
no_reads [] counters = refl
no_reads (Row bank (Ap x) ∷ events) counters = no_reads events (counted (Row bank (Ap x)) counters)
no_reads (Row bank (Aap x y) ∷ events) counters =
    no_reads events (counted (Row bank (Aap x y)) counters)
no_reads (Write bank row bits ∷ events) counters =
    no_reads events (counted (Write bank row bits) counters)

pub few_events : (n : ℕ) (events : List Event) (old new : Counters)
    → new ≡ all_counted events old → length events ≤ n → RisesAtMost n old new
few_events n events old new e few =
    let bound = counted-bound events old in
    rw e (record {
      aap = omega (arith, few, bound);
      ap = omega (arith, few, bound);
      writes = omega (arith, few, bound);
      reads = omega (arith, no_reads events old);
    })

mapped : {X : Type 0} (f : ℕ → X) (a n : ℕ) → length (map f (range_with_len a n)) ≡ n
mapped f a zero = refl
mapped f a (suc n) = let e = mapped f (a + 1) n in omega (arith, e)

each_length : (event : ℕ → ℕ → Event) (a banks n : ℕ)
    → length (flat_map (λ bank. map (λ k. event bank k) (range_with_len 0 n))
    (range_with_len a banks)) ≡ banks * n
each_length event a zero n = omega arith
each_length event a (suc banks) n =
    let here = mapped (event a) 0 n in
    let rest = each_length event (a + 1) banks n in
    let both = length-append (map (event a) (range_with_len 0 n)) (flat_map (λ bank.
    map (λ k. event bank k) (range_with_len 0 n)) (range_with_len (a + 1) banks)) in
    omega (arith, both, here, rest, suc-mul banks n)

-- of at most 16 banks, and at most so many rows in each
pub few_rows : (banks n most : ℕ) (event : ℕ → ℕ → Event) → banks ≤ 16 → n ≤ most
    → length (row_by_row banks n event) ≤ 16 * most
few_rows banks n most event l m =
    let up = mul-le-mul_right n l in
    let up' = mul-le-mul_left 16 m in
    omega (arith, up, up', each_length event 0 banks n)

-- the banks that hold so many elements
pub segments_fit : (g : Geometry) (count banks : ℕ) → 0 < column_count g
    → count ≤ column_count g * banks → segments_of g count ≤ banks
segments_fit g count banks some fits = elim (cases_lt banks (segments_of g count)) [
  | inl lt ↦ (let next : banks + 1 ≤ segments_of g count = omega arith in
      let more : (banks + 1) * column_count g ≤ segments_of g count * column_count g =
      mul-le-mul_right (column_count g) next in
      let one : (banks + 1) * column_count g ≡ column_count g * banks + column_count g =
      omega (arith, mul_comm (banks + 1) (column_count g), mul-add (column_count g) banks 1) in
      absurd (omega (arith, (div_ceil_times count (column_count g) some).1)))
  | inr ge ↦ ge
]

pub few_banks : (g : Geometry) (o : Object) → is_geometry g ≡ true → FitsOn g o
    → segments g o ≤ 16
few_banks g o passes object =
    let banks : g.banks ≤ 16 = grind (arith, nat_tests) in
    let words : 1 ≤ g.words = grind (arith, nat_tests) in
    let fit = segments_fit g o.count g.banks (omega arith) object.fits in
    omega (arith, banks, fit)

-- the writes of values are those of a load
pub loads_are : (g : Geometry) (o : Object) (values : List ℕ) → length values ≡ o.count
    → write_events g o.base o.width values ≡ load_events g o values
unfolding write_events
loads_are g o values e = rw e refl

-- reads of an object's rows
pub few_reads : (g : Geometry) (o : Object) (old new : Counters) → is_geometry g ≡ true
    → FitsOn g o → new ≡ with_reads (o.width * segments g o) old → RisesAtMost (16 * 128) old new
few_reads g o old new passes object e =
    let banks = few_banks g o passes object in
    let up : segments g o * o.width ≤ 16 * o.width = mul-le-mul_right o.width banks in
    let most : o.width * segments g o ≤ 16 * 128 =
    omega (arith, up, object.narrow, mul_comm (segments g o) o.width) in
    rw e (record {
      aap = omega arith;
      ap = omega arith;
      writes = omega arith;
      reads = omega (arith, most);
    })
