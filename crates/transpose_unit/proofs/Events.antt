-- Writes of rows, one after the other.
use Rattle.transpose_unit.proofs.Common.{◌≡◌, ◌≢◌, ℕ, zero, suc, ◌+◌, ◌-◌, ◌*◌, Bool, List, [], ◌∷◌}
use Rattle.transpose_unit.proofs.Common.{◌++◌, take, drop, map, refl, sym, ap, ◌∙◌, arith}
use Rattle.transpose_unit.proofs.Common.{range_with_len, flat_map, ne_eqb, bits_of_words, Counters}
use Rattle.transpose_unit.proofs.Common.{Banks, Event, happens, after, all_counted, Write}
use Rattle.std.proofs.Common.{Result, Ok, Err, OnErr}
use Rattle.std.proofs.Math.Nat.{mul-suc}
use Rattle.std.proofs.lemmas.List.FromFn.{map-range_with_len_more}
use Rattle.dram_model.proofs.EventLaws.{all_counted-append}
use Rattle.transpose_unit.specs.Stage.{stage_row, stage_events}

same_writes : (counters : Counters) (m n : ℕ) → m ≡ n
    → (let k : Counters = record counters { writes = m } in k) ≡ record counters { writes = n }
same_writes counters m n e = ap (λ w. let k : Counters = record counters { writes = w } in k) e

no_writes : (counters : Counters) → counters ≡ record counters { writes = counters.writes + 0 }
no_writes counters = same_writes counters counters.writes (counters.writes + 0) (omega arith)

-- a row more
pub stage_more : (words bank base k row : ℕ) (stage part : List ℕ) → row ≡ base + k
    → part ≡ stage_row words stage k
    → stage_events words bank base (k + 1) stage ≡ stage_events words bank base k stage
    ++ Write bank row (bits_of_words part) ∷ []
stage_more words bank base k row stage part e f =
    map-range_with_len_more (λ j. Write bank (base + j) (bits_of_words (stage_row words stage j))) 0
    k k (omega arith)
    ∙ ap (λ (event : Event). stage_events words bank base k stage ++ event
    ∷ []) (ap (λ (r : ℕ). Write bank r (bits_of_words (stage_row words stage k))) (sym e)
    ∙ ap (λ (p : List ℕ). Write bank row (bits_of_words p)) (sym f))

-- each is one write
writes_counted : (bank base : ℕ) (row : ℕ → List Bool) (a n : ℕ) (counters : Counters)
    → all_counted (map (λ k. Write bank (base + k) (row k)) (range_with_len a n)) counters
    ≡ record counters { writes = counters.writes + n }
writes_counted bank base row a zero counters = no_writes counters
writes_counted bank base row a (suc n) counters =
    writes_counted bank base row (a + 1) n (record counters { writes = counters.writes + 1 })
    ∙ same_writes counters (counters.writes + 1 + n) (counters.writes + suc n) (omega arith)

pub banks_counted : (base n : ℕ) (row : ℕ → ℕ → List Bool) (a m : ℕ) (counters : Counters)
    → all_counted (flat_map (λ bank. map (λ k. Write bank (base + k) (row bank k))
    (range_with_len 0 n)) (range_with_len a m)) counters
    ≡ record counters { writes = counters.writes + n * m }
banks_counted base n row a zero counters = no_writes counters
    ∙ same_writes counters (counters.writes + 0) (counters.writes + n * 0) (omega arith)
banks_counted base n row a (suc m) counters =
    let all : n * suc m ≡ n + n * m = mul-suc n m ∙ omega arith in
    let rest : List Event = flat_map (λ bank. map (λ k. Write bank (base + k) (row bank k))
    (range_with_len 0 n)) (range_with_len (a + 1) m) in
    all_counted-append (map (λ k. Write a (base + k) (row a k)) (range_with_len 0 n)) rest counters
    ∙ ap (all_counted rest) (writes_counted a base (row a) 0 n counters)
    ∙ banks_counted base n row (a + 1) m (record counters { writes = counters.writes + n })
    ∙ same_writes counters (counters.writes + n + n * m) (counters.writes + n * suc m)
    (omega (arith, all))

-- they leave the other banks
writes_others : (bank base : ℕ) (row : ℕ → List Bool) (a n : ℕ) (banks : Banks) (b : ℕ) → b ≢ bank
    → after (map (λ k. Write bank (base + k) (row k)) (range_with_len a n)) banks b ≡ banks b
writes_others bank base row a zero banks b ne = refl
writes_others bank base row a (suc n) banks b ne =
    writes_others bank base row (a + 1) n (happens (Write bank (base + a) (row a)) banks) b ne
    ∙ rw (ne_eqb bank b (λ e. ne (sym e))) refl

pub stage_others : (words bank base n : ℕ) (stage : List ℕ) (banks : Banks) (b : ℕ) → b ≢ bank
    → after (stage_events words bank base n stage) banks b ≡ banks b
stage_others words bank base n stage banks b ne =
    writes_others bank base (λ k. bits_of_words (stage_row words stage k)) 0 n banks b ne

-- where a row stands in the stage
pub part_is : (words k start len : ℕ) (stage : List ℕ) → start ≡ k * words → len ≡ words
    → take (start + len - start) (drop start stage) ≡ stage_row words stage k
part_is words k start len stage e f =
    let size : start + len - start ≡ words = omega arith in
    ap (λ (n : ℕ). take n (drop start stage)) size ∙ ap (λ (n : ℕ). take words (drop n stage)) e

pub on_err_always : {T E P : Type 0} (r : Result T E) → P → OnErr r P
on_err_always (Ok x) p = tt
on_err_always (Err e) p = p
