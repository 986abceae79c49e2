-- What a scan answers, on tables and banks alone.
use Rattle.scan_model.proofs.Common.{◌≡◌, ℕ, zero, suc, ◌<◌, ◌≤◌, ◌==◌, Bool, List, [], ◌∷◌, ◌++◌}
use Rattle.scan_model.proofs.Common.{map, get_or, Option, Some, None, refl, sym, ◌∙◌, ap, subst}
use Rattle.scan_model.proofs.Common.{arith, All, count_by, AllByRecursion, range_with_len, find}
use Rattle.scan_model.proofs.Common.{option_map, unwrap_or, bytes_eq, Geometry, Column, Banks}
use Rattle.scan_model.proofs.Common.{number, below, column_count, Named, limit_of, IsObject}
use Rattle.scan_model.proofs.Common.{segments, columns, object_size, Routines, routines_of, nothing}
use Rattle.scan_model.proofs.Common.{Held, table_of, Agrees, IsPlain, table_at_end, banks_at_end}
use Rattle.scan_model.proofs.Common.{find_map}
use Rattle.std.proofs.Common.{take}
use mathlib.Core.Path.{fun_ext}
use Rattle.std.proofs.lemmas.Grind.{div_ceil_times}
use Rattle.object_alloc.specs.Listed.{IsTable}
use Rattle.machine_model.proofs.Makes.{few_banks}
use Rattle.scan_model.specs.Queries.{Query, matches, size, nodes_of}
use Rattle.scan_model.specs.Checks.{checked}
use Rattle.scan_model.specs.Names.{free_name}
use Rattle.scan_model.specs.Operations.{scan_text}
use Rattle.scan_model.specs.Instructions.{scan_script}
use Rattle.scan_model.specs.Laws.{scan_refused, FoundInRows, element, ScanIsPlain}
use Rattle.scan_model.specs.Answers.{element_in, query_count, query_script, LeavesOne}
use Rattle.scan_model.specs.Answers.{ScansAnswer}
use Rattle.scan_model.proofs.InRows.{scan_in_rows, ones_are_found, query_plain}

-- the objects of a table with what the banks hold
abbrev pub held_of : Geometry → Banks → Named → Held
held_of g banks p = record { name = p.0; object = p.1; numbers = columns g banks p.1 }

abbrev pub held_in : Geometry → Banks → List Named → List Held
held_in g banks table = map (held_of g banks) table

tables : (g : Geometry) (banks : Banks) (table : List Named)
    → table_of (held_in g banks table) ≡ table
tables g banks [] = refl
tables g banks (p ∷ table) = ap (λ rest. p ∷ rest) (tables g banks table)

no_number : (xs : List Column) (e : ℕ) → get_or (map (number 0 0) xs) e 0 ≡ 0
no_number [] e = refl
no_number (x ∷ xs) zero = refl
no_number (x ∷ xs) (suc e) = no_number xs e

element_case : (g : Geometry) (banks : Banks) (e : ℕ) (found : Option Named)
    → get_or (unwrap_or (option_map (λ (h : Held). h.numbers)
    (option_map (held_of g banks) found)) []) e 0
    ≡ get_or (columns g banks (unwrap_or (option_map (λ (p : Named). p.1) found) nothing)) e 0
element_case g banks e None = sym (no_number (below (segments g nothing) banks) e)
element_case g banks e (Some p) = refl

-- an element's numbers, as the state knows them and as the banks hold them
pub elements : (g : Geometry) (banks : Banks) (table : List Named) (e : ℕ) (name : List ℕ)
    → element (held_in g banks table) e name ≡ element_in g banks table e name
elements g banks table e name =
    ap (λ (found : Option Held). get_or (unwrap_or (option_map (λ (h : Held). h.numbers) found)
    []) e 0) (find_map (held_of g banks) (λ h. bytes_eq h.name name) table)
    ∙ element_case g banks e (find (λ p. bytes_eq p.0 name) table)

objects : (g : Geometry) (banks : Banks) (table : List Named)
    → All (λ named. IsObject g named.1) table
    → AllByRecursion (λ h. IsObject g h.object) (held_in g banks table)
objects g banks [] all = tt
objects g banks (p ∷ table) all = (
  all 0 p (omega arith),
  objects g banks table (λ k d l. all (suc k) d (omega (arith, l))),
)

within : (g : Geometry) (banks : Banks) (table : List Named) → 0 < g.words
    → All (λ named. IsObject g named.1) table
    → All (λ h. segments g h.object ≤ g.banks) (held_in g banks table)
within g banks [] words all k d l = absurd (omega (arith, l))
within g banks (p ∷ table) words all zero d l =
    few_banks p.1.count (column_count g) g.banks (omega (arith, words))
    (all 0 p (omega arith)).fits
within g banks (p ∷ table) words all (suc k) d l =
    within g banks table words (λ k d l. all (suc k) d (omega (arith, l))) k d (omega (arith, l))

numbers : (g : Geometry) (banks : Banks) (table : List Named)
    → All (λ h. columns g banks h.object ≡ h.numbers) (held_in g banks table)
numbers g banks [] k d l = absurd (omega (arith, l))
numbers g banks (p ∷ table) zero d l = refl
numbers g banks (p ∷ table) (suc k) d l = numbers g banks table k d (omega (arith, l))

others : (g : Geometry) (banks new : Banks) (table : List Named)
    → AllByRecursion (λ h. columns g new h.object ≡ h.numbers) (held_in g banks table)
    → AllByRecursion (λ p. columns g new p.1 ≡ columns g banks p.1) table
others g banks new [] h = tt
others g banks new (p ∷ table) h = (h.0, others g banks new table h.1)

leaves : (g : Geometry) (operations : Routines) (banks : Banks) (table : List Named) (q : Query)
    → 0 < g.words → FoundInRows g operations banks (held_in g banks table) q
    → LeavesOne g operations banks table q
leaves g operations banks table q words f =
    let same = tables g banks table in
    let new : List Named → Banks = λ t. banks_at_end g operations t banks (query_script t q) in
    let room : f.object.count ≤ object_size g f.object =
    omega (arith, (div_ceil_times f.object.count (column_count g) (omega (arith, words))).0)
    in
    let ones = ones_are_found (held_in g banks table) q f.object.count (object_size g f.object)
    room in
    let holds : (λ e. matches q (element (held_in g banks table) e))
    ≡ (λ e. matches q (element_in g banks table e)) =
    fun_ext (λ e. ap (matches q) (fun_ext (λ name. elements g banks table e name))) in
    let counted : f.object.count ≡ query_count table q = f.counted
    ∙ ap (λ (t : List Named). query_count t q) same in
    record {
      object = f.object;
      narrow = f.narrow;
      counted = counted;
      one_more = subst (λ (t : List Named). table_at_end g operations t (query_script t q) ≡ t
          ++ (free_name t (size q), f.object) ∷ []) same f.table;
      ones = ap (λ (t : List Named). count_by (λ v. v == 1)
          (take f.object.count (columns g (new t) f.object))) (sym same)
          ∙ ap (λ (ns : List ℕ). count_by (λ v. v == 1) (take f.object.count ns)) f.marked ∙ ones
          ∙ ap (λ (test : ℕ → Bool). count_by test (range_with_len 0 f.object.count)) holds
          ∙ ap (λ (k : ℕ). count_by (λ e. matches q (element_in g banks table e))
          (range_with_len 0 k)) counted;
      kept = others g banks (new table) table
          (subst (λ (t : List Named). AllByRecursion (λ h. columns g (new t) h.object ≡ h.numbers)
          (held_in g banks table)) same f.kept);
    }

-- the ones of the last object are the elements that the query holds of
pub scans_answer : ScansAnswer
scans_answer g p banks table q words i shaped t all small parts checks none =
    let same = tables g banks table in
    let state = held_in g banks table in
    let agrees : Agrees g banks state = record {
      shaped = shaped;
      table = subst (λ (s : List Named). IsTable (limit_of g) s) (sym same) t;
      within = within g banks table words all;
      numbers = numbers g banks table;
    } in
    leaves g (routines_of scan_text p) banks table q words
    (scan_in_rows g p banks state q words i (objects g banks table all) agrees small parts
    (ap (λ (s : List Named). checked s (nodes_of q)) same
    ∙ checks) (ap (λ (s : List Named). scan_refused g (routines_of scan_text p) s q) same
    ∙ none))

-- the instructions of a scan have sizes as every script has
pub scan_is_plain : ScanIsPlain
scan_is_plain g table q all parts checks =
    let banks : Banks = λ bank. [] in
    let same = tables g banks table in
    subst (λ (t : List Named). AllByRecursion IsPlain (scan_script t (nodes_of q))) same
    (query_plain g banks (held_in g banks table) q (objects g banks table all)
    (numbers g banks table) parts (ap (λ (s : List Named). checked s (nodes_of q)) same ∙ checks))
