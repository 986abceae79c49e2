-- Row by row, bank by bank and triple by triple.
use Rattle.tmr_guard.proofs.Common.{◌≡◌, ℕ, zero, suc, ◌+◌, ◌*◌, ◌<◌, ◌≤◌, Bool, true, false, not}
use Rattle.tmr_guard.proofs.Common.{cond, List, [], ◌∷◌, ◌++◌, length, get_or, take, Option, Some}
use Rattle.tmr_guard.proofs.Common.{None, refl, sym, ◌∙◌, ap, subst, arith, append_assoc}
use Rattle.tmr_guard.proofs.Common.{append-nil, add-one, slice_get, map-append, Event, Geometry}
use Rattle.tmr_guard.proofs.Common.{row_events, Named, segments, job_events, ChipView, Did}
use Rattle.tmr_guard.proofs.Common.{Did-more, stranger_from, first_stranger, is_first, is_copy}
use Rattle.tmr_guard.proofs.Common.{y_letter, z_letter, row_vote, votes, vote_job, vote_events}
use Rattle.tmr_guard.proofs.Common.{vote_count, ◌-◌, ◌/◌}
use Rattle.std.specs.Prelude.{All}
use Rattle.std.proofs.lemmas.List.{take_all}
use Rattle.dram_model.specs.declared.address.Command.{Command}
use Rattle.object_alloc.specs.Free.{end_of}
use Rattle.guard_model.proofs.Trios.{copy_is}

votes_suc : (x y z a n : ℕ) → votes x y z a (suc n) ≡ votes x y z a n
    ++ row_vote (x + (a + n)) (y + (a + n)) (z + (a + n))
votes_suc x y z a zero =
    let e : a + 0 ≡ a = omega arith in
    append-nil (row_vote (x + a) (y + a) (z + a))
    ∙ ap (λ k. row_vote (x + k) (y + k) (z + k)) (sym e)
votes_suc x y z a (suc n) =
    let e : a + 1 + n ≡ a + suc n = omega arith in
    ap (λ cs. row_vote (x + a) (y + a) (z + a) ++ cs) (votes_suc x y z (a + 1) n)
    ∙ sym (append_assoc (row_vote (x + a) (y + a) (z + a)) (votes x y z (a + 1) n)
    (row_vote (x + (a + 1 + n)) (y + (a + 1 + n)) (z + (a + 1 + n))))
    ∙ ap (λ k. (row_vote (x + a) (y + a) (z + a) ++ votes x y z (a + 1) n)
    ++ row_vote (x + k) (y + k) (z + k)) e

-- one more row
pub one_row : (bank x y z k : ℕ) → row_events bank (votes x y z 0 (k + 1))
    ≡ row_events bank (votes x y z 0 k) ++ row_events bank (row_vote (x + k) (y + k) (z + k))
one_row bank x y z k =
    let zk : 0 + k ≡ k = omega arith in
    let more : votes x y z 0 (k + 1) ≡ votes x y z 0 k ++ row_vote (x + k) (y + k) (z + k) =
    ap (votes x y z 0) (add-one k) ∙ votes_suc x y z 0 k
    ∙ ap (λ j. votes x y z 0 k ++ row_vote (x + j) (y + j) (z + j)) zk in
    ap (row_events bank) more ∙ map-append (λ (command : Command). Event.Row bank command)
    (votes x y z 0 k) (row_vote (x + k) (y + k) (z + k))

pub next_votes : (bank x y z k : ℕ) (a b c : ChipView)
    → Did (row_events bank (votes x y z 0 k)) a b
    → Did (row_events bank (row_vote (x + k) (y + k) (z + k))) b c
    → Did (row_events bank (votes x y z 0 (k + 1))) a c
next_votes bank x y z k a b c d e = subst (λ es. Did es a c) (sym (one_row bank x y z k))
    (Did-more (row_events bank (votes x y z 0 k))
    (row_events bank (row_vote (x + k) (y + k) (z + k))) a b c d e)

three_more : (j : ℕ) → 3 * suc j ≡ suc (suc (suc (3 * j)))
three_more j = omega arith

-- the votes of the triples before three places, and of the triple that stands there
abbrev pub and_triple : Geometry → List Named → Named → ℕ → ℕ → ℕ → List Event
and_triple g table d i j k = vote_events g (take i table)
    ++ job_events (vote_job g (get_or table i d).1 (get_or table j d).1 (get_or table k d).1)

-- one more triple
pub more_events : (g : Geometry) (table : List Named) (j : ℕ) (d : Named) → 3 * j + 2 < length table
    → vote_events g (take (3 * suc j) table) ≡ and_triple g table d (3 * j) (3 * j + 1)
    (3 * j + 2)
more_events g [] j d l = absurd (omega arith)
more_events g (x ∷ []) j d l = absurd (omega arith)
more_events g (x ∷ y ∷ []) j d l = absurd (omega arith)
more_events g (x ∷ y ∷ z ∷ rest) zero d l = append-nil (job_events (vote_job g x.1 y.1 z.1))
more_events g (x ∷ y ∷ z ∷ rest) (suc j) d l =
    let p : 3 * suc j + 1 ≡ suc (suc (suc (3 * j + 1))) = omega arith in
    let q : 3 * suc j + 2 ≡ suc (suc (suc (3 * j + 2))) = omega arith in
    let table = x ∷ y ∷ z ∷ rest in
    let job = job_events (vote_job g x.1 y.1 z.1) in
    let here = job_events (vote_job g (get_or rest (3 * j) d).1 (get_or rest (3 * j + 1) d).1
    (get_or rest (3 * j + 2) d).1) in
    ap (λ n. vote_events g (take n table)) (three_more (suc j))
    ∙ ap (λ es. job ++ es) (more_events g rest j d (omega arith))
    ∙ sym (append_assoc job (vote_events g (take (3 * j) rest)) here)
    ∙ sym (ap (λ n. and_triple g table d n (3 * suc j + 1) (3 * suc j + 2)) (three_more j)
    ∙ ap (λ n. and_triple g table d (suc (suc (suc (3 * j)))) n (3 * suc j + 2)) p
    ∙ ap (λ n. and_triple g table d (suc (suc (suc (3 * j)))) (suc (suc (suc (3 * j + 1)))) n)
    q)

pub next_triple : (g : Geometry) (table : List Named) (j : ℕ) (x y z e : Named) (a b c : ChipView)
    → 3 * j + 2 < length table → get_or table (3 * j) e ≡ x → get_or table (3 * j + 1) e ≡ y
    → get_or table (3 * j + 2) e ≡ z
    → Did (vote_events g (take (3 * j) table)) a b → Did (job_events (vote_job g x.1 y.1 z.1)) b c
    → Did (vote_events g (take (3 * (j + 1)) table)) a c
next_triple g table j x y z e a b c l p q r d f =
    let is : vote_events g (take (3 * (j + 1)) table) ≡ vote_events g (take (3 * j) table)
    ++ job_events (vote_job g x.1 y.1 z.1) =
    ap (λ n. vote_events g (take (3 * n) table)) (add-one j) ∙ more_events g table j e l
    ∙ ap (λ (w : Named). vote_events g (take (3 * j) table)
    ++ job_events (vote_job g w.1 (get_or table (3 * j + 1) e).1
    (get_or table (3 * j + 2) e).1)) p
    ∙ ap (λ (w : Named). vote_events g (take (3 * j) table)
    ++ job_events (vote_job g x.1 w.1 (get_or table (3 * j + 2) e).1)) q
    ∙ ap (λ (w : Named). vote_events g (take (3 * j) table)
    ++ job_events (vote_job g x.1 y.1 w.1)) r in
    subst (λ es. Did es a c) (sym is) (Did-more (vote_events g (take (3 * j) table))
    (job_events (vote_job g x.1 y.1 z.1)) a b c d f)

more_count : (g : Geometry) (table : List Named) (j : ℕ) (d : Named) → 3 * j + 2 < length table
    → vote_count g (take (3 * suc j) table) ≡ vote_count g (take (3 * j) table)
    + 6 * ((get_or table (3 * j) d).1.width * segments g (get_or table (3 * j) d).1)
more_count g [] j d l = absurd (omega arith)
more_count g (x ∷ []) j d l = absurd (omega arith)
more_count g (x ∷ y ∷ []) j d l = absurd (omega arith)
more_count g (x ∷ y ∷ z ∷ rest) zero d l = omega arith
more_count g (x ∷ y ∷ z ∷ rest) (suc j) d l =
    let table = x ∷ y ∷ z ∷ rest in
    let more : vote_count g (take (3 * suc (suc j)) table) ≡ 6 * (x.1.width * segments g x.1)
    + vote_count g (take (3 * suc j) rest) =
    ap (λ n. vote_count g (take n table)) (three_more (suc j)) in
    let all = more_count g rest j d (omega arith) in
    let old : vote_count g (take (3 * suc j) table) ≡ 6 * (x.1.width * segments g x.1)
    + vote_count g (take (3 * j) rest) = ap (λ n. vote_count g (take n table)) (three_more j)
    in
    let here : 6 * ((get_or table (3 * suc j) d).1.width * segments g
    (get_or table (3 * suc j) d).1) ≡ 6 * ((get_or rest (3 * j) d).1.width * segments g
    (get_or rest (3 * j) d).1) =
    ap (λ n. 6 * ((get_or table n d).1.width * segments g (get_or table n d).1)) (three_more j) in
    omega (arith, more, all, old, here)

pub next_count : (g : Geometry) (table : List Named) (j : ℕ) (x e : Named)
    → 3 * j + 2 < length table → get_or table (3 * j) e ≡ x
    → vote_count g (take (3 * (j + 1)) table) ≡ vote_count g (take (3 * j) table)
    + 6 * (x.1.width * segments g x.1)
next_count g table j x e l p = ap (λ n. vote_count g (take (3 * n) table)) (add-one j)
    ∙ more_count g table j e l ∙ ap (λ (w : Named). vote_count g (take (3 * j) table)
    + 6 * (w.1.width * segments g w.1)) p

-- the copies of a triple are as wide
one_none : (b : Bool) (k : ℕ) (r : Option ℕ) → cond (not b) (Some k) r ≡ None → (b ≡ true)
    × (r ≡ None)
one_none true k r h = (refl, h)
one_none false k r h = cc

width_of : (letter : ℕ) (first p : Named) → is_copy letter first p ≡ true
    → p.1.width ≡ first.1.width
width_of letter first p h = (copy_is letter first p h).1

abbrev pub AsWide : List Named → Named → ℕ → Type 0
AsWide table d j = ((get_or table (3 * j + 1) d).1.width ≡ (get_or table (3 * j) d).1.width)
    × ((get_or table (3 * j + 2) d).1.width ≡ (get_or table (3 * j) d).1.width)

as_wide : (table : List Named) (k j : ℕ) (d : Named) → stranger_from k table ≡ None
    → 3 * j + 2 < length table → AsWide table d j
as_wide [] k j d h l = absurd (omega arith)
as_wide (x ∷ []) k j d h l = absurd (omega arith)
as_wide (x ∷ y ∷ []) k j d h l = absurd (omega arith)
as_wide (x ∷ y ∷ z ∷ rest) k zero d h l =
    let a = one_none (is_first x) k _ h in
    let b = one_none (is_copy y_letter x y) (k + 1) _ a.1 in
    let c = one_none (is_copy z_letter x z) (k + 2) _ b.1 in
    (width_of y_letter x y b.0, width_of z_letter x z c.0)
as_wide (x ∷ y ∷ z ∷ rest) k (suc j) d h l =
    let a = one_none (is_first x) k _ h in
    let b = one_none (is_copy y_letter x y) (k + 1) _ a.1 in
    let c = one_none (is_copy z_letter x z) (k + 2) _ b.1 in
    let p : 3 * suc j + 1 ≡ suc (suc (suc (3 * j + 1))) = omega arith in
    let q : 3 * suc j + 2 ≡ suc (suc (suc (3 * j + 2))) = omega arith in
    let table = x ∷ y ∷ z ∷ rest in
    let r = as_wide rest (k + 3) j d c.1 (omega arith) in
    let first : (get_or table (3 * suc j) d).1.width ≡ (get_or rest (3 * j) d).1.width =
    ap (λ n. (get_or table n d).1.width) (three_more j) in (
      ap (λ n. (get_or table n d).1.width) p ∙ r.0
          ∙ sym first,
      ap (λ n. (get_or table n d).1.width) q ∙ r.1 ∙ sym first,
    )

pub widths : (table : List Named) (j : ℕ) (x y z e : Named) → first_stranger table ≡ None
    → 3 * j + 2 < length table → get_or table (3 * j) e ≡ x → get_or table (3 * j + 1) e ≡ y
    → get_or table (3 * j + 2) e ≡ z → (y.1.width ≡ x.1.width) × (z.1.width ≡ x.1.width)
widths table j x y z e h l p q r =
    let w = as_wide table 0 j e h l in
    let px = ap (λ (n : Named). n.1.width) p in (
      sym (ap (λ (n : Named). n.1.width) q) ∙ w.0 ∙ px,
      sym (ap (λ (n : Named). n.1.width) r) ∙ w.1
          ∙ px,
    )

-- a table of triples has a multiple of three
pub in_threes : (k : ℕ) (table : List Named) → stranger_from k table ≡ None → (j : ℕ)
    × (length table ≡ 3 * j)
in_threes k [] h = (0, refl)
in_threes k (x ∷ []) h = cc
in_threes k (x ∷ y ∷ []) h = cc
in_threes k (x ∷ y ∷ z ∷ rest) h =
    let a = one_none (is_first x) k _ h in
    let b = one_none (is_copy y_letter x y) (k + 1) _ a.1 in
    let c = one_none (is_copy z_letter x z) (k + 2) _ b.1 in
    let r = in_threes (k + 3) rest c.1 in
    (suc r.0, omega (arith, r.1))

pub all_taken : (table : List Named) (k n : ℕ) → first_stranger table ≡ None → n ≡ length table
    → n / 3 ≤ k → take (3 * k) table ≡ table
all_taken table k n h e l = let r = in_threes 0 table h in
    take_all (3 * k) table (omega (arith, r.1, e, l))

pub got : (table : List Named) (k : ℕ) (x e : Named) → slice_get table k ≡ Some x
    → get_or table k e ≡ x
got [] k x e h = cc
got (y ∷ table) zero x e h = cc
got (y ∷ table) (suc k) x e h = got table k x e h

-- an object of the table lies below the spill group
pub below_rows : (rows : ℕ) (table : List Named) (k : ℕ) (x : Named)
    → All (λ p. end_of p.1 ≤ rows - 32) table → slice_get table k ≡ Some x → k < length table
    → x.1.base + x.1.width ≤ rows
below_rows rows table k x within h l =
    let end : end_of x.1 ≤ rows - 32 = subst (λ (p : Named). end_of p.1 ≤ rows - 32)
    (got table k x x h) (within k x l) in omega (arith, end)

pub object_at : (P : Named → Type 0) (table : List Named) (k : ℕ) (x : Named) → All P table
    → slice_get table k ≡ Some x → k < length table → P x
object_at P table k x all h l = subst P (got table k x x h) (all k x l)
