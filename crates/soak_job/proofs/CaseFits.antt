-- A case's layout fits on its chip.
use Rattle.soak_job.proofs.Common.{◌≡◌, ℕ, ◌+◌, ◌≤◌, List, [], ◌∷◌, refl, sym, ap, subst, arith}
use Rattle.soak_job.proofs.Common.{length, map, AllByRecursion, Kind, WordOp, Signature, Form}
use Rattle.soak_job.proofs.Common.{row_of, signature_forms, width, op_shape, Fits}
use Rattle.op_text.specs.declared.tree.Param.{Param}
use Rattle.uprog_code.specs.Fits.{AreApart, AreBelow, Range, ranges, scratch_range, written}
use Rattle.op_text.specs.declared.word_ops.Signature.TheVariants as signs
use Rattle.soak_job.specs.declared.cases.Case.{Case}
use Rattle.soak_job.specs.Cases.{first_form, one_statement, or_a_word, params_of, source_kinds}
use Rattle.soak_job.specs.Cases.{source_names}
use Rattle.soak_job.specs.Layout.{FitsChip, bases_from, layout, result_rows, source_row_count, source_rows}
use Rattle.soak_job.proofs.Counting.{sum_cons}

rows_cons : (n : ℕ) (k : Kind) (ks : List Kind) → source_row_count n (k ∷ ks) ≡ width k n + source_row_count n ks
rows_cons n k ks = sum_cons (λ (j : Kind). width j n) k ks

-- sources that end below the spill group
sources_below : (row n : ℕ) (kinds : List Kind) → row + source_row_count n kinds ≤ 480
    → AreBelow 512 n kinds (bases_from row n kinds)
sources_below row n [] l = tt
sources_below row n (k ∷ ks) l =
    let cons = rows_cons n k ks in (
      omega (arith, cons, l),
      sources_below (row + width k n) n ks (omega (arith, cons, l)),
    )

-- ranges that end before others begin
pub record EndsBy (end : ℕ) (r : Range) : Type 0 where
  pub within : r.base + r.size ≤ end

sources_end : (row n end : ℕ) (kinds : List Kind) → row + source_row_count n kinds ≤ end
    → AllByRecursion (EndsBy end) (ranges n kinds (bases_from row n kinds))
sources_end row n end [] l = tt
sources_end row n end (k ∷ ks) l =
    let cons = rows_cons n k ks in (
      record { within = omega (arith, cons, l) },
      sources_end (row + width k n) n end ks (omega (arith, cons, l)),
    )

after_apart : (r s : Range) (end : ℕ) → EndsBy end r → end ≤ s.base → AreApart r s
after_apart r s end e l row a b = absurd (omega (arith, e.within, l, a.0, a.1, b.0, b.1))

all_apart : (rs : List Range) (s t : Range) (end : ℕ) → AllByRecursion (EndsBy end) rs
    → end ≤ s.base → end ≤ t.base
    → AllByRecursion (λ r. AllByRecursion (AreApart r) (s ∷ t ∷ [])) rs
all_apart [] s t end e l m = tt
all_apart (r ∷ rs) s t end e l m = (
  (after_apart r s end e.0 l, (after_apart r t end e.0 m, tt)),
  all_apart rs s t end e.1 l m,
)

-- the form of the operations of a signature
abbrev pub form_at : Signature → Form
form_at s = first_form (signature_forms s)

-- there are names for its sources
few_sources : (s : Signature) → length (or_a_word (form_at s).takes) ≤ 3
few_sources signs.Choice = omega arith
few_sources s = omega arith

params_kinds : (ks : List Kind) (names : List (List ℕ)) → length ks ≤ length names
    → map (λ (p : Param). p.kind) (params_of ks names) ≡ ks
params_kinds [] names l = refl
params_kinds (k ∷ ks) [] l = absurd (omega arith)
params_kinds (k ∷ ks) (n ∷ names) l = ap (λ more. k ∷ more) (params_kinds ks names (omega arith))

-- the kinds of the op's parameters
pub kinds_are : (op : WordOp) → (op_shape (one_statement op)).sources ≡ source_kinds op
kinds_are op = params_kinds (source_kinds op) source_names (few_sources (row_of op).signature)

pub case_fits : (c : Case) → FitsChip c → Fits 512 (op_shape (one_statement c.op)) c.n (layout c)
case_fits c f =
    let scratch : Range = scratch_range (op_shape (one_statement c.op)) c.n (layout c) in
    let result : Range = record { base = source_rows c; size = result_rows c } in
    let rows = f.rows in
    record {
      results = (omega (arith, rows), tt);
      sources = subst (λ (ks : List Kind). AreBelow 512 c.n ks (layout c).sources)
          (sym (kinds_are c.op)) (sources_below 0 c.n (source_kinds c.op) (omega (arith, rows)));
      scratch = λ some. omega (arith, rows);
      apart = (
        (
          (λ row a b. absurd (omega (arith, a.0, a.1, b.0, b.1))),
          tt,
        ),
        (tt, tt),
      );
      read = subst (λ (ks : List Kind). AllByRecursion (λ s. AllByRecursion (AreApart s)
          (written (op_shape (one_statement c.op)) c.n (layout c)))
          (ranges c.n ks (layout c).sources)) (sym (kinds_are c.op))
          (all_apart (ranges c.n (source_kinds c.op) (layout c).sources) scratch result
          (source_rows c) (sources_end 0 c.n (source_rows c) (source_kinds c.op) (omega arith))
          (omega arith) (omega arith));
    }
