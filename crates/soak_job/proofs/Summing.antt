-- The numbers that a case's program leaves are its operation's values, and so is their sum.
use Rattle.soak_job.proofs.Common.{◌≡◌, ℕ, ◌%◌, ◌^◌, ◌<◌, List, [], ◌∷◌, ◌++◌, map, get_or, refl}
use Rattle.soak_job.proofs.Common.{sym, ap, ◌∙◌, subst, arith, sum, sum_by, range_with_len, mod-lt}
use Rattle.soak_job.proofs.Common.{pow_pos, map-append, sum-map, Command, Column, run, Banks, below}
use Rattle.soak_job.proofs.Common.{number, Kind, Microprogram, Shape, width, trace, issues_of}
use Rattle.soak_job.proofs.Common.{bound, numbers, EntryDoes, op_shape, text_op}
use Rattle.soak_job.specs.declared.cases.Case.{Case}
use Rattle.soak_job.specs.Cases.{one_statement, source_kinds}
use Rattle.soak_job.specs.Words.{following, elements, sources_at, word_at}
use Rattle.soak_job.specs.Layout.{FitsChip, bases_from, issues_at, layout, result_rows}
use Rattle.soak_job.specs.Layout.{source_rows}
use Rattle.soak_job.specs.Sums.{case_sum, case_value}
use Rattle.soak_job.proofs.CaseFits.{case_fits, kinds_are}
use Rattle.soak_job.proofs.Means.{AreSmall, means, meant}

map_twice : {A B C : Type 0} (g : B → C) (f : A → B) (xs : List A)
    → map g (map f xs) ≡ map (λ x. g (f x)) xs
map_twice g f [] = refl
map_twice g f (x ∷ xs) = ap (λ rest. g (f x) ∷ rest) (map_twice g f xs)

map_alike : {A B : Type 0} (f g : A → B) (xs : List A) → ((x : A) → f x ≡ g x) → map f xs ≡ map g xs
map_alike f g [] e = refl
map_alike f g (x ∷ xs) e = ap (λ y. y ∷ map f xs) (e x) ∙ ap (λ rest. g x ∷ rest)
    (map_alike f g xs e)

-- the elements are as small as their widths ask
elements_small : (state n : ℕ) (kinds : List Kind) (i : ℕ)
    → AreSmall n kinds (sources_at state n kinds i)
elements_small state n [] i = tt
elements_small state n (k ∷ ks) i = (
  mod-lt (word_at state i) (pow_pos (width k n)),
  elements_small (following state elements) n ks i,
)

-- both banks
below_run : (commands : List Command) (mid last : Banks)
    → ((bank : ℕ) → bank < 2 → last bank ≡ map (run commands) (mid bank))
    → below 2 last ≡ map (run commands) (below 2 mid)
below_run commands mid last e =
    let r : Column → Column = run commands in
    ap (λ x. x ++ (last 1 ++ [])) (e 0 (omega arith))
    ∙ ap (λ x. map r (mid 0) ++ (x ++ [])) (e 1 (omega arith))
    ∙ ap (λ x. map r (mid 0) ++ x) (sym (map-append r (mid 1) []))
    ∙ sym (map-append r (mid 0) (mid 1 ++ []))

-- the number that the program leaves in a column
column_value : (c : Case) (m : Microprogram) (s : Column) → FitsChip c
    → EntryDoes m (text_op (one_statement c.op))
    → number (source_rows c) (result_rows c)
    (run (bound 512 m.shape c.n (layout c) (issues_at c m)) s)
    ≡ meant c.op c.n
    (numbers c.n (source_kinds c.op) (bases_from 0 c.n (source_kinds c.op)) s)
column_value c m s f does =
    let shape : Shape = op_shape (one_statement c.op) in
    let narrow = f.narrow in
    let gives = (does.code.gives c.n f.some (omega (arith, narrow))).value 512 (layout c) s
    (case_fits c f) in
    let head : number (source_rows c) (result_rows c)
    (run (bound 512 shape c.n (layout c) (issues_of (trace shape m.code c.n))) s)
    ≡ meant c.op c.n (numbers c.n shape.sources (layout c).sources s) =
    ap (λ (vs : List ℕ). get_or vs 0 0) gives in
    subst (λ (sh : Shape). number (source_rows c) (result_rows c)
    (run (bound 512 sh c.n (layout c) (issues_of (trace sh m.code c.n))) s)
    ≡ meant c.op c.n
    (numbers c.n (source_kinds c.op) (bases_from 0 c.n (source_kinds c.op)) s)) (sym does.shape)
    (head ∙ ap (λ (ks : List Kind). meant c.op c.n
    (numbers c.n ks (layout c).sources s)) (kinds_are c.op))

pub sum_is : (state : ℕ) (c : Case) (m : Microprogram) (mid last : Banks) → FitsChip c
    → EntryDoes m (text_op (one_statement c.op))
    → map (numbers c.n (source_kinds c.op) (bases_from 0 c.n (source_kinds c.op))) (below 2 mid)
    ≡ map (sources_at state c.n (source_kinds c.op)) (range_with_len 0 elements)
    → ((bank : ℕ) → bank < 2 → last bank
    ≡ map (run (bound 512 m.shape c.n (layout c) (issues_at c m))) (mid bank))
    → sum_by (number (source_rows c) (result_rows c)) (below 2 last) % 2 ^ 64 ≡ case_sum state c
sum_is state c m mid last f does loaded ran =
    let commands : List Command = bound 512 m.shape c.n (layout c) (issues_at c m) in
    let kinds : List Kind = source_kinds c.op in
    let read : Column → ℕ = number (source_rows c) (result_rows c) in
    let held : Column → List ℕ = numbers c.n kinds (bases_from 0 c.n kinds) in
    let mean : List ℕ → ℕ = meant c.op c.n in
    let range : List ℕ = range_with_len 0 elements in
    let numbers_are : map read (below 2 last) ≡ map (case_value state c) range =
    ap (map read) (below_run commands mid last ran)
    ∙ map_twice read (run commands) (below 2 mid)
    ∙ map_alike (λ s. read (run commands s)) (λ s. mean (held s)) (below 2 mid)
    (λ s. column_value c m s f does)
    ∙ sym (map_twice mean held (below 2 mid)) ∙ ap (map mean) loaded
    ∙ map_twice mean (sources_at state c.n kinds) range
    ∙ map_alike (λ i. mean (sources_at state c.n kinds i)) (case_value state c) range
    (λ i. means c.op c.n (sources_at state c.n kinds i) (elements_small state c.n kinds i)) in
    ap (λ x. x % 2 ^ 64) (sym (sum-map read (below 2 last)) ∙ ap sum numbers_are
    ∙ sum-map (case_value state c) range)
