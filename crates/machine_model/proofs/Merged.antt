-- An object's columns after a job, by the parts that its destinations are.
use Rattle.machine_model.proofs.Common.{or_parts, ◌≡◌, ℕ, ◌+◌, Bool, true, false, cond, List, []}
use Rattle.machine_model.proofs.Common.{◌∷◌, map, Option, Some, None, refl, sym, ◌∙◌, ap, subst}
use Rattle.machine_model.proofs.Common.{◌||◌, list_any, AllByRecursion, bytes_eq, Geometry, D}
use Rattle.machine_model.proofs.Common.{Column, run, Banks, number, below, segments_of, Object}
use Rattle.machine_model.proofs.Common.{has_row, AreApart, WaveJob, Part, Place}
use Rattle.dram_model.specs.declared.address.Cell.{Cell}
use Rattle.dram_model.specs.declared.address.Cell.TheVariants.{T, Dcc, C}
use Rattle.machine_model.specs.Columns.{columns, segments}
use Rattle.machine_model.specs.Steps.{through, new_numbers}
use Rattle.machine_model.specs.Places.{cut, is_past, put, put_all}
use Rattle.machine_model.proofs.Placed.{IsPlaced, AreResults}
use Rattle.machine_model.proofs.Sliced.{replaces, number_same, has_from}
use Rattle.machine_model.proofs.Below.{below_run, below_same, through_in, through_same}
use Rattle.machine_model.proofs.Sliced.{map_cong, map_map}

-- the column, with the rows of an object as in another
abbrev mix : Object → Column → Column → Cell → Bool
mix o s t (T k) = s (T k)
mix o s t (Dcc k) = s (Dcc k)
mix o s t (C k) = s (C k)
mix o s t (D row) = cond (has_row o row) (t (D row)) (s (D row))

mix_hit : (o : Object) (s t : Column) (row : ℕ) → has_row o row ≡ true
    → mix o s t (D row) ≡ t (D row)
mix_hit o s t row h = ap (λ b. cond b (t (D row)) (s (D row))) h

mix_miss : (o : Object) (s t : Column) (row : ℕ) → has_row o row ≡ false
    → mix o s t (D row) ≡ s (D row)
mix_miss o s t row h = ap (λ b. cond b (t (D row)) (s (D row))) h

either : (b x y : Bool) → y ≡ x → cond b x y ≡ x
either true x y e = refl
either false x y e = e

-- the column, with the rows of all destinations as in another
abbrev merge : (Place → Object) → List Place → Column → Column → Column
merge rows [] s t = s
merge rows (d ∷ dsts) s t = merge rows dsts (mix (rows d) s t) t

merge_same : (rows : Place → Object) (dsts : List Place) (s t : Column) (row : ℕ)
    → s (D row) ≡ t (D row) → merge rows dsts s t (D row) ≡ t (D row)
merge_same rows [] s t row e = e
merge_same rows (d ∷ dsts) s t row e = merge_same rows dsts (mix (rows d) s t) t row
    (either (has_row (rows d) row) (t (D row)) (s (D row)) e)

-- where only rows of destinations differ, that is the other column
merge_case : (rows : Place → Object) (d : Place) (dsts : List Place) (s t : Column) (row : ℕ)
    (b : Bool) → has_row (rows d) row ≡ b
    → ((b || list_any (λ d. has_row (rows d) row) dsts) ≡ false → t (D row) ≡ s (D row))
    → ((u : Column) → (list_any (λ d. has_row (rows d) row) dsts ≡ false → t (D row) ≡ u (D row))
    → merge rows dsts u t (D row) ≡ t (D row))
    → merge rows dsts (mix (rows d) s t) t (D row) ≡ t (D row)
merge_case rows d dsts s t row true e h go =
    merge_same rows dsts (mix (rows d) s t) t row (mix_hit (rows d) s t row e)
merge_case rows d dsts s t row false e h go = go (mix (rows d) s t) (λ none.
    h none ∙ sym (mix_miss (rows d) s t row e))

merge_row : (rows : Place → Object) (dsts : List Place) (s t : Column) (row : ℕ)
    → (list_any (λ d. has_row (rows d) row) dsts ≡ false → t (D row) ≡ s (D row))
    → merge rows dsts s t (D row) ≡ t (D row)
merge_row rows [] s t row h = sym (h refl)
merge_row rows (d ∷ dsts) s t row h = merge_case rows d dsts s t row (has_row (rows d) row) refl h
    (λ u. merge_row rows dsts u t row)

-- an object's number, with the rows of a part of it as in another column
own_part : (o : Object) (part : Option Part) (s t : Column) → is_past part o ≡ false
    → number o.base o.width (mix (cut part o) s t)
    ≡ put part (number o.base o.width s) (number (cut part o).base (cut part o).width t)
own_part o None s t h = number_same o.base o.width t (mix o s t) (λ row a b.
    mix_hit o s t row (has_from o row a b))
own_part o (Some p) s t h =
    replaces o p s (mix (cut (Some p) o) s t) h (λ row has not. mix_miss (cut (Some p) o) s t row not)
    ∙ ap (put (Some p) (number o.base o.width s))
    (number_same (o.base + p.low) p.size t (mix (cut (Some p) o) s t) (λ row a b.
    mix_hit (cut (Some p) o) s t row (has_from (cut (Some p) o) row a b)))

-- and with other rows
other_rows : (o q : Object) (s t : Column) → AreApart o q
    → number o.base o.width (mix q s t) ≡ number o.base o.width s
other_rows o q s t a = number_same o.base o.width s (mix q s t) (λ row x y.
    mix_miss q s t row (a row (has_from o row x y)))

put_maps : {X : Type 0} (part : Option Part) (f h : X → ℕ) (xs : List X)
    → put_all part (map f xs) (map h xs) ≡ map (λ x. put part (f x) (h x)) xs
put_maps part f h [] = refl
put_maps part f h (x ∷ xs) = ap (λ rest. put part (f x) (h x) ∷ rest) (put_maps part f h xs)

-- the numbers that a destination's rows spell, after each column's change
abbrev pub spelled : {X : Type 0} → Object → (X → Column) → List X → List ℕ
spelled o t xs = map (λ s. number o.base o.width (t s)) xs

abbrev Gave : {X : Type 0} → (Place → Object) → (X → Column) → List X → (ℕ → List ℕ) → ℕ → List Place
    → Type 0
Gave rows t xs result k [] = Unit {0}
Gave rows t xs result k (d ∷ dsts) = (result k ≡ spelled (rows d) t xs)
    × Gave rows t xs result (k + 1) dsts

one_case : {X : Type 0} (rows : Place → Object) (name : List ℕ) (o : Object) (count : ℕ) (news : List ℕ)
    (xs : List X) (t f : X → Column) (d : Place) (b : Bool) → bytes_eq name d.name ≡ b
    → IsPlaced rows name o count d → news ≡ spelled (rows d) t xs
    → spelled o (λ s. mix (rows d) (f s) (t s)) xs
    ≡ cond b (put_all d.part (spelled o f xs) news) (spelled o f xs)
one_case rows name o count news xs t f d true e is gave =
    let own = is.own e in
    subst (λ (q : Object). spelled o (λ s. mix q (f s) (t s)) xs
    ≡ put_all d.part (spelled o f xs) news) (sym own.0)
    (map_cong _ _ xs (λ s. own_part o d.part (f s) (t s) own.1)
    ∙ sym (put_maps d.part (λ s. number o.base o.width (f s))
    (λ s. number (cut d.part o).base (cut d.part o).width (t s)) xs)
    ∙ ap (put_all d.part (spelled o f xs))
    (ap (λ (q : Object). spelled q t xs) (sym own.0) ∙ sym gave))
one_case rows name o count news xs t f d false e is gave =
    map_cong _ _ xs (λ s. other_rows o (rows d) (f s) (t s) (is.other e))

-- the numbers of the merged columns are those of the word machine
all_put : {X : Type 0} (rows : Place → Object) (name : List ℕ) (o : Object) (count : ℕ) (result : ℕ → List ℕ)
    (k : ℕ) (xs : List X) (t f : X → Column) (dsts : List Place)
    → AllByRecursion (IsPlaced rows name o count) dsts → Gave rows t xs result k dsts
    → spelled o (λ s. merge rows dsts (f s) (t s)) xs
    ≡ new_numbers result k dsts name (spelled o f xs)
all_put rows name o count result k xs t f [] all gave = refl
all_put rows name o count result k xs t f (d ∷ dsts) all gave =
    all_put rows name o count result (k + 1) xs t (λ s. mix (rows d) (f s) (t s)) dsts all.1 gave.1
    ∙ ap (new_numbers result (k + 1) dsts name)
    (one_case rows name o count (result k) xs t f d (bytes_eq name d.name) refl all.0 gave.0)

-- the banks' first columns, after the job
ran : (job : WaveJob) (banks : Banks)
    → below job.banks (through job banks) ≡ map (run job.commands) (below job.banks banks)
ran job banks = below_run (run job.commands) (through job banks) banks job.banks
    (λ b h. through_in job banks b h)

pub spelled_after : (g : Geometry) (banks : Banks) (job : WaveJob) (o : Object)
    → segments g o ≡ job.banks
    → columns g (through job banks) o ≡ spelled o (run job.commands) (below job.banks banks)
spelled_after g banks job o e =
    ap (λ k. map (number o.base o.width) (below k (through job banks))) e
    ∙ ap (map (number o.base o.width)) (ran job banks)
    ∙ map_map (number o.base o.width) (run job.commands) (below job.banks banks)

gave_of : (g : Geometry) (banks : Banks) (job : WaveJob) (rows : Place → Object)
    (result : ℕ → List ℕ) (count k : ℕ) (dsts : List Place) → job.banks ≡ segments_of g count
    → AllByRecursion (λ d. (rows d).count ≡ count) dsts
    → AreResults g (through job banks) rows result k dsts
    → Gave rows (run job.commands) (below job.banks banks) result k dsts
gave_of g banks job rows result count k [] e all are = tt
gave_of g banks job rows result count k (d ∷ dsts) e all are = (
  sym are.0 ∙ spelled_after g banks job (rows d) (ap (segments_of g) all.0 ∙ sym e),
  gave_of g banks job rows result count (k + 1) dsts e all.1 are.1,
)

-- no destination is of this name
not_named : (rows : Place → Object) (name : List ℕ) (o : Object) (count : ℕ) (result : ℕ → List ℕ)
    (k : ℕ) (dsts : List Place) (numbers : List ℕ)
    → list_any (λ d. bytes_eq name d.name) dsts ≡ false
    → new_numbers result k dsts name numbers ≡ numbers
not_named rows name o count result k [] numbers h = refl
not_named rows name o count result k (d ∷ dsts) numbers h =
    let p = or_parts (bytes_eq name d.name) (list_any (λ d. bytes_eq name d.name) dsts) h in
    ap (λ b. new_numbers result (k + 1) dsts name
    (cond b (put_all d.part numbers (result k)) numbers)) p.0
    ∙ not_named rows name o count result (k + 1) dsts numbers p.1

not_in : (rows : Place → Object) (name : List ℕ) (o : Object) (count row : ℕ) (dsts : List Place)
    → AllByRecursion (IsPlaced rows name o count) dsts
    → list_any (λ d. bytes_eq name d.name) dsts ≡ false → has_row o row ≡ true
    → list_any (λ d. has_row (rows d) row) dsts ≡ false
not_in rows name o count row [] all h has = refl
not_in rows name o count row (d ∷ dsts) all h has =
    let p = or_parts (bytes_eq name d.name) (list_any (λ d. bytes_eq name d.name) dsts) h in
    rw ((all.0).other p.0 row has) (not_in rows name o count row dsts all.1 p.1 has)

count_case : (o : Object) (count : ℕ) (a b : Bool) → (a ≡ true → o.count ≡ count)
    → (b ≡ true → o.count ≡ count) → (a || b) ≡ true → o.count ≡ count
count_case o count true b here later h = here refl
count_case o count false b here later h = later h

some_count : (rows : Place → Object) (name : List ℕ) (o : Object) (count : ℕ) (dsts : List Place)
    → AllByRecursion (IsPlaced rows name o count) dsts
    → list_any (λ d. bytes_eq name d.name) dsts ≡ true → o.count ≡ count
some_count rows name o count [] all h = cc
some_count rows name o count (d ∷ dsts) all h =
    count_case o count (bytes_eq name d.name) (list_any (λ d. bytes_eq name d.name) dsts)
    (λ e. ((all.0).own e).2) (some_count rows name o count dsts all.1) h

-- What a job leaves in an object's columns is what the word machine gives it
pub meet : (g : Geometry) (banks : Banks) (job : WaveJob) (rows : Place → Object)
    (result : ℕ → List ℕ) (dsts : List Place) (name : List ℕ) (o : Object) (count : ℕ)
    → AllByRecursion (IsPlaced rows name o count) dsts
    → AllByRecursion (λ d. (rows d).count ≡ count) dsts → job.banks ≡ segments_of g count
    → ((s : Column) (row : ℕ) → has_row o row ≡ true
    → list_any (λ d. has_row (rows d) row) dsts ≡ false → run job.commands s (D row) ≡ s (D row))
    → AreResults g (through job banks) rows result 0 dsts
    → columns g (through job banks) o ≡ new_numbers result 0 dsts name (columns g banks o)
meet g banks job rows result dsts name o count all counts e kept are =
    by_name (list_any (λ d. bytes_eq name d.name) dsts) refl where
      by_name : (b : Bool) → list_any (λ d. bytes_eq name d.name) dsts ≡ b
          → columns g (through job banks) o ≡ new_numbers result 0 dsts name (columns g banks o)
      by_name true h =
          let is : segments g o ≡ job.banks =
          ap (segments_of g) (some_count rows name o count dsts all h) ∙ sym e in
          let cols = below job.banks banks in
          spelled_after g banks job o is
          ∙ map_cong _ _ cols (λ s. sym (number_same o.base o.width (run job.commands s)
          (merge rows dsts s (run job.commands s)) (λ row a b.
          merge_row rows dsts s (run job.commands s) row (kept s row (has_from o row a b)))))
          ∙ all_put rows name o count result 0 cols (run job.commands) (λ s. s) dsts all
          (gave_of g banks job rows result count 0 dsts e counts are)
          ∙ ap (λ k. new_numbers result 0 dsts name
          (map (number o.base o.width) (below k banks))) (sym is)
      by_name false h =
          below_same (number o.base o.width) (through job banks) banks (segments g o) (λ bank l.
          through_same (number o.base o.width) job banks bank (λ s.
          number_same o.base o.width s (run job.commands s) (λ row a b.
          kept s row (has_from o row a b)
          (not_in rows name o count row dsts all h (has_from o row a b)))))
          ∙ sym (not_named rows name o count result 0 dsts (columns g banks o) h)
