-- Each name that a block reads is an input or an earlier let.
use Rattle.block_lower.proofs.Common.{◌≡◌, ℕ, ◌+◌, Bool, true, ◌||◌, List, [], ◌∷◌, ◌++◌, map, inl}
use Rattle.block_lower.proofs.Common.{inr, bytes_eq, AllByRecursion, or_cases, or_left, or_right}
use Rattle.block_lower.proofs.Common.{Assign, Term, Nought, Unity, Named, Negation, Conjunction}
use Rattle.block_lower.proofs.Common.{Disjunction, Parity, Majority, Equation, term, equation}
use Rattle.block_lower.proofs.Common.{TermMeets, is_among, BlockReads, term_names, equation_names}
use Rattle.block_lower.proofs.Common.{LetsMeet}
use Rattle.aoi_graph.specs.Blocks.{ReadsKnown}
use Rattle.block_lower.proofs.Names.{among-left, among-right, among-here}

-- a readable name of the list is known
abbrev pub Knows : (List ℕ → Bool) → (List ℕ → Bool) → List (List ℕ) → Type 0
Knows readable known names = (name : List ℕ) → is_among names name ≡ true → readable name ≡ true
    → known name ≡ true

knows-left : (r k : List ℕ → Bool) (xs ys : List (List ℕ)) → Knows r k (xs ++ ys) → Knows r k xs
knows-left r k xs ys h name e f = h name (among-left xs ys name e) f

knows-right : (r k : List ℕ → Bool) (xs ys : List (List ℕ)) → Knows r k (xs ++ ys) → Knows r k ys
knows-right r k xs ys h name e f = h name (among-right xs ys name e) f

term-reads : (r k : List ℕ → Bool) (depth : ℕ) (t : Term) → TermMeets r depth t
    → Knows r k (term_names t) → ReadsKnown k t
term-reads r k depth Nought m h = tt
term-reads r k depth Unity m h = tt
term-reads r k depth (Named name) m h = h name (among-here name) m.1
term-reads r k depth (Negation a) m h = term-reads r k (depth + 1) a m.1 h
term-reads r k depth (Conjunction a b) m h = (
  term-reads r k (depth + 1) a m.1 (knows-left r k (term_names a) (term_names b) h),
  term-reads r k (depth + 1) b m.2 (knows-right r k (term_names a) (term_names b) h),
)
term-reads r k depth (Disjunction a b) m h = (
  term-reads r k (depth + 1) a m.1 (knows-left r k (term_names a) (term_names b) h),
  term-reads r k (depth + 1) b m.2 (knows-right r k (term_names a) (term_names b) h),
)
term-reads r k depth (Parity a b) m h = (
  term-reads r k (depth + 1) a m.1 (knows-left r k (term_names a) (term_names b) h),
  term-reads r k (depth + 1) b m.2 (knows-right r k (term_names a) (term_names b) h),
)
term-reads r k depth (Majority a b c) m h =
    let ab = knows-left r k (term_names a ++ term_names b) (term_names c) h in (
      term-reads r k (depth + 1) a m.1 (knows-left r k (term_names a) (term_names b) ab),
      term-reads r k (depth + 1) b m.2 (knows-right r k (term_names a) (term_names b) ab),
      term-reads r k (depth + 1) c m.3 (knows-right r k (term_names a
          ++ term_names b) (term_names c) h),
    )

assigns-read : (r k : List ℕ → Bool) (xs : List Assign)
    → AllByRecursion (λ (e : Equation). TermMeets r 0 e.value) (map equation xs)
    → Knows r k (equation_names (map equation xs))
    → AllByRecursion (λ (a : Assign). ReadsKnown k (term a.value)) xs
assigns-read r k [] m h = tt
assigns-read r k (a ∷ xs) m h = (
  term-reads r k 0 (term a.value) m.0 (knows-left r k (term_names (term a.value))
      (equation_names (map equation xs)) h),
  assigns-read r k xs m.1
      (knows-right r k (term_names (term a.value)) (equation_names (map equation xs)) h),
)

-- the same with one more let
knows-more : (r k : List ℕ → Bool) (x : List ℕ) (names : List (List ℕ)) → Knows r k names
    → Knows (λ name. bytes_eq name x || r name) (λ name. bytes_eq name x || k name) names
knows-more r k x names h name e v = elim (or_cases (bytes_eq name x) (r name) v) [
  | inl s ↦
      or_left (bytes_eq name x) (k name) s
  | inr s ↦
      or_right (bytes_eq name x) (k name) (h name e s)
]

pub block-reads : (r k : List ℕ → Bool) (lets assigns : List Assign)
    → LetsMeet r (map equation lets) (map equation assigns)
    → Knows r k (equation_names (map equation lets))
    → Knows r k (equation_names (map equation assigns)) → BlockReads k lets assigns
block-reads r k [] assigns m h g = assigns-read r k assigns m g
block-reads r k (l ∷ lets) assigns m h g =
    let here = term_names (term l.value) in
    let later = equation_names (map equation lets) in (
      term-reads r k 0 (term l.value) m.0 (knows-left r k here later h),
      block-reads (λ name. bytes_eq name l.name || r name) (λ name. bytes_eq name l.name
          || k name) lets assigns m.1 (knows-more r k l.name later (knows-right r k here later h))
          (knows-more r k l.name (equation_names (map equation assigns)) g),
    )
