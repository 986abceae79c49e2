-- A call that failed among events.
use Rattle.tmr_guard.proofs.Common.{◌≡◌, ℕ, zero, suc, ◌+◌, ◌-◌, ◌*◌, ◌/◌, ◌<◌, List, [], ◌∷◌, ◌++◌}
use Rattle.tmr_guard.proofs.Common.{refl, length, get_or, take, sym, ◌∙◌, ap, subst, arith}
use Rattle.tmr_guard.proofs.Common.{append_assoc, append-nil, add-one, flat_map, Result, Ok, Err}
use Rattle.tmr_guard.proofs.Common.{OnErr, range_with_len, Rose, Geometry, Banks, Event, Grew}
use Rattle.tmr_guard.proofs.Common.{after, ChipView, Did, FailedIn, Kept, StoppedIn, Grew-more}
use Rattle.tmr_guard.proofs.Common.{after-append, Named, job_events, first_stranger, vote_job}
use Rattle.tmr_guard.proofs.Common.{vote_events, None}
use Rattle.dram_model.specs.Chip.{bank_of}
use Rattle.object_steps.proofs.Valued.{flat_suc}
use Rattle.tmr_guard.proofs.Rounds.{all_taken, more_events}

pub rose_of : {T E : Type 0} (r : Result T E) (es : List Event) (a b : ChipView)
    → OnErr r (StoppedIn es a b) → OnErr r (Rose a.faults b.faults)
rose_of (Ok x) es a b s = tt
rose_of (Err e) es a b s = s.rose

-- the first call failed
pub at_first : (event : Event) (left : List Event) (a b : ChipView)
    → FailedIn (bank_of event) a b → Grew a.log b.log [] → StoppedIn (event ∷ left) a b
at_first event left a b failed grew = record {
  done = [];
  event = event;
  left = left;
  all = refl;
  known = grew;
  others = failed.others;
  rose = failed.rose;
}

-- a later one did
pub after_some : (es fs : List Event) (a b c : ChipView) → Did es a b → Kept a b
    → StoppedIn fs b c → StoppedIn (es ++ fs) a c
after_some es fs a b c did kept s = record {
  done = es ++ s.done;
  event = s.event;
  left = s.left;
  all = append_assoc es s.done (s.event ∷ s.left) ∙ ap (λ (l : List Event). es ++ l) s.all;
  known = Grew-more a.log b.log c.log es s.done did.log s.known;
  others = λ bank other. s.others bank other
      ∙ ap (λ (banks : Banks). after s.done banks bank) did.banks
      ∙ ap (λ (banks : Banks). banks bank) (sym (after-append es s.done a.banks));
  rose = omega (arith, s.rose, kept.faults);
}

-- and others were left
pub before_some : (es fs : List Event) (a b : ChipView) → StoppedIn es a b
    → StoppedIn (es ++ fs) a b
before_some es fs a b s = record {
  done = s.done;
  event = s.event;
  left = s.left ++ fs;
  all = sym (append_assoc s.done (s.event ∷ s.left) fs) ∙ ap (λ (l : List Event). l ++ fs) s.all;
  known = s.known;
  others = s.others;
  rose = s.rose;
}

-- the last of six failed
pub six_stopped : {T E : Type 0} (r : Result T E) (e f g h i j : Event)
    (a b c d k m n : ChipView) → Did (e ∷ []) a b → Did (f ∷ []) b c → Did (g ∷ []) c d
    → Did (h ∷ []) d k → Did (i ∷ []) k m → Kept a b → Kept b c → Kept c d → Kept d k → Kept k m
    → OnErr r (FailedIn (bank_of j) m n) → OnErr r (Grew m.log n.log [])
    → OnErr r (StoppedIn (e ∷ f ∷ g ∷ h ∷ i ∷ j ∷ []) a n)
six_stopped (Ok x) e f g h i j a b c d k m n one two three four five p q s t u failed grew = tt
six_stopped (Err x) e f g h i j a b c d k m n one two three four five p q s t u failed grew =
    after_some (e ∷ []) (f ∷ g ∷ h ∷ i ∷ j ∷ []) a b n one p
    (after_some (f ∷ []) (g ∷ h ∷ i ∷ j ∷ []) b c n two q
    (after_some (g ∷ []) (h ∷ i ∷ j ∷ []) c d n three s
    (after_some (h ∷ []) (i ∷ j ∷ []) d k n four t
    (after_some (i ∷ []) (j ∷ []) k m n five u (at_first j [] m n failed grew)))))

-- what was done so far begins what is done in all
front : (E F : ℕ → List Event) (n : ℕ) → ((j : ℕ) → j < n → E (j + 1) ≡ E j ++ F j) → (m d : ℕ)
    → n ≡ m + d → (rest : List Event) × (E m ++ rest ≡ E n)
front E F n step m zero e =
    let same : m ≡ n = omega (arith, e) in ([], append-nil (E m) ∙ ap E same)
front E F n step m (suc d) e =
    let more : n ≡ m + 1 + d = omega (arith, e) in
    let l : m < n = omega (arith, e) in
    let r = front E F n step (m + 1) d more in (
      F m ++ r.0,
      sym (append_assoc (E m) (F m) r.0)
          ∙ ap (λ (es : List Event). es ++ r.0) (sym (step m l)) ∙ r.1,
    )

-- in one of so many rounds
pub in_turn : (E F : ℕ → List Event) (n : ℕ) → ((j : ℕ) → j < n → E (j + 1) ≡ E j ++ F j)
    → (k : ℕ) → k < n → (a b c : ChipView) → Did (E k) a b → Kept a b → StoppedIn (F k) b c
    → StoppedIn (E n) a c
in_turn E F n step k l a b c did kept s =
    let whole : n ≡ k + 1 + (n - (k + 1)) = omega (arith, l) in
    let f = front E F n step (k + 1) (n - (k + 1)) whole in
    let here = subst (λ (es : List Event). StoppedIn es a c) (sym (step k l))
    (after_some (E k) (F k) a b c did kept s) in
    subst (λ (es : List Event). StoppedIn es a c) f.1 (before_some (E (k + 1)) f.0 a c here)

-- one of so many banks
pub bank_stopped : (E : ℕ → List Event) (n k : ℕ) → k < n → (a b c : ChipView)
    → Did (flat_map E (range_with_len 0 k)) a b → Kept a b → StoppedIn (E k) b c
    → StoppedIn (flat_map E (range_with_len 0 n)) a c
bank_stopped E n k l a b c did kept s =
    in_turn (λ j. flat_map E (range_with_len 0 j)) E n (λ j _. one j) k l a b c did kept s
  where
    one : (j : ℕ) → flat_map E (range_with_len 0 (j + 1)) ≡ flat_map E (range_with_len 0 j) ++ E j
    one j =
        let z : 0 + j ≡ j = omega arith in
        ap (λ m. flat_map E (range_with_len 0 m)) (add-one j) ∙ flat_suc E 0 j
        ∙ ap (λ m. flat_map E (range_with_len 0 j) ++ E m) z

-- one of the triples
pub triple_stopped : (g : Geometry) (table : List Named) (k n : ℕ) (x y z e : Named)
    (a b c : ChipView) → first_stranger table ≡ None → n ≡ length table → k < n / 3
    → get_or table (3 * k) e ≡ x → get_or table (3 * k + 1) e ≡ y
    → get_or table (3 * k + 2) e ≡ z
    → Did (vote_events g (take (3 * k) table)) a b → Kept a b
    → StoppedIn (job_events (vote_job g x.1 y.1 z.1)) b c
    → StoppedIn (vote_events g table) a c
triple_stopped g table k n x y z e a b c triples len l p q r did kept s =
    let E = λ (j : ℕ). vote_events g (take (3 * j) table) in
    let F = λ (j : ℕ). job_events (vote_job g (get_or table (3 * j) e).1
    (get_or table (3 * j + 1) e).1 (get_or table (3 * j + 2) e).1) in
    let whole = all_taken table (n / 3) n triples len (omega arith) in
    let here : StoppedIn (F k) b c =
    subst (λ (w : Named). StoppedIn (job_events (vote_job g w.1 (get_or table (3 * k + 1) e).1
    (get_or table (3 * k + 2) e).1)) b c) (sym p)
    (subst (λ (w : Named). StoppedIn (job_events (vote_job g x.1 w.1
    (get_or table (3 * k + 2) e).1)) b c) (sym q)
    (subst (λ (w : Named). StoppedIn (job_events (vote_job g x.1 y.1 w.1)) b c) (sym r) s)) in
    let step : (j : ℕ) → j < n / 3 → E (j + 1) ≡ E j ++ F j = λ j m.
    ap E (add-one j) ∙ more_events g table j e (omega (arith, len, m)) in
    subst (λ (t : List Named). StoppedIn (vote_events g t) a c) whole
    (in_turn E F (n / 3) step k l a b c did kept here)
