-- Soaks of one seed tell the same lines.
use Rattle.soak_job.proofs.Common.{◌≡◌, ℕ, ◌+◌, ◌*◌, ◌≤◌, List, [], ◌∷◌, ◌++◌, length, refl, sym}
use Rattle.soak_job.proofs.Common.{◌∙◌, ap, arith, AllByRecursion, WIDTH_MAX, Banks, after}
use Rattle.soak_job.proofs.Common.{ChipView, Microprogram, Counts}
use Rattle.uprog_code.specs.Count.{counts_of}
use Rattle.cli_model.specs.Stands.{sent_by}
use Rattle.uprog_gen.proofs.Costs.Blocks.{words_cost_the_same}
use Rattle.soak_job.specs.declared.cases.Case.{Case}
use Rattle.soak_job.specs.Cases.{one_statement, soak_cases, source_kinds}
use Rattle.soak_job.specs.Words.{after_all}
use Rattle.soak_job.specs.Layout.{case_events, issues_at}
use Rattle.soak_job.specs.Sums.{case_line, case_sum, counted_line, in_both_banks}
use Rattle.soak_job.specs.OneCase.{IsProgramOf}
use Rattle.soak_job.specs.Steps.{AreProgramsOf, cases_steps, soak_steps}
use Rattle.soak_job.specs.Done.{CanBeDone, SoakLeft, over_cases}
use Rattle.soak_job.proofs.Fitting.{all_done}
use Rattle.soak_job.proofs.Going.{counters_same}

same_counts : (c : Case) (m n : Microprogram) → CanBeDone c → IsProgramOf c m → IsProgramOf c n
    → counts_of (issues_at c m) ≡ counts_of (issues_at c n)
same_counts c m n can x y =
    let narrow : c.n ≤ WIDTH_MAX = omega (arith, can.fits.narrow) in
    words_cost_the_same m n (one_statement c.op) tt x.exact y.exact c.n can.fits.some narrow

abbrev twice : Counts → Counts
twice k = record { aap = 2 * k.aap; ap = 2 * k.ap }

same_both : (c : Case) (m n : Microprogram) → CanBeDone c → IsProgramOf c m → IsProgramOf c n
    → in_both_banks c m ≡ in_both_banks c n
same_both c m n can x y = ap twice (same_counts c m n can x y)

same_lines : (state : ℕ) (banks other : Banks) (cs : List Case) (ms ns : List Microprogram)
    → AllByRecursion CanBeDone cs → AreProgramsOf cs ms → AreProgramsOf cs ns
    → length ms ≡ length cs → length ns ≡ length cs
    → sent_by (cases_steps state banks cs ms) ≡ sent_by (cases_steps state other cs ns)
same_lines state banks other [] ms ns can x y k l = refl
same_lines state banks other (c ∷ cs) [] ns can x y k l = absurd (omega (arith, k))
same_lines state banks other (c ∷ cs) (m ∷ ms) [] can x y k l = absurd (omega (arith, l))
same_lines state banks other (c ∷ cs) (m ∷ ms) (n ∷ ns) can x y k l =
    let next = after_all state (source_kinds c.op) in
    ap (λ (counts : Counts). counted_line c counts (case_sum state c)
    ++ sent_by (cases_steps next (after (case_events state c m) banks) cs ms))
    (same_both c m n can.0 x.0 y.0)
    ∙ ap (λ (rest : List ℕ). case_line state c n ++ rest)
    (same_lines next (after (case_events state c m) banks) (after (case_events state c n) other)
    cs ms ns can.1 x.1 y.1 (omega (arith, k)) (omega (arith, l)))

same_over : (f : Counts → ℕ) (cs : List Case) (ms ns : List Microprogram)
    → AllByRecursion CanBeDone cs → AreProgramsOf cs ms → AreProgramsOf cs ns
    → length ms ≡ length cs → length ns ≡ length cs
    → over_cases (λ c m. f (in_both_banks c m)) cs ms
    ≡ over_cases (λ c m. f (in_both_banks c m)) cs ns
same_over f [] ms ns can x y k l = refl
same_over f (c ∷ cs) [] ns can x y k l = absurd (omega (arith, k))
same_over f (c ∷ cs) (m ∷ ms) [] can x y k l = absurd (omega (arith, l))
same_over f (c ∷ cs) (m ∷ ms) (n ∷ ns) can x y k l =
    ap (λ (counts : Counts). f counts + over_cases (λ d p. f (in_both_banks d p)) cs ms)
    (same_both c m n can.0 x.0 y.0)
    ∙ ap (λ (rest : ℕ). f (in_both_banks c n) + rest)
    (same_over f cs ms ns can.1 x.1 y.1 (omega (arith, k)) (omega (arith, l)))

-- the lines of two lists of programs
pub soaks_tell_the_same : (seed : ℕ) (ms ns : List Microprogram) → AreProgramsOf soak_cases ms
    → AreProgramsOf soak_cases ns → length ms ≡ length soak_cases
    → length ns ≡ length soak_cases
    → sent_by (soak_steps seed ms) ≡ sent_by (soak_steps seed ns)
soaks_tell_the_same seed ms ns x y k l = same_lines seed _ _ soak_cases ms ns all_done x y k l

-- and the counters that they leave
pub soaks_count_the_same : (seed : ℕ) (ms ns : List Microprogram) (a b : ChipView)
    → AreProgramsOf soak_cases ms → AreProgramsOf soak_cases ns → SoakLeft seed ms a
    → SoakLeft seed ns b → a.counters ≡ b.counters
soaks_count_the_same seed ms ns a b x y s t =
    s.counters
    ∙ counters_same _ _ _ _ _ _ _ _
    (same_over (λ (k : Counts). k.aap) soak_cases ms ns all_done x y s.all t.all)
    (same_over (λ (k : Counts). k.ap) soak_cases ms ns all_done x y s.all t.all) refl refl
    ∙ sym t.counters
