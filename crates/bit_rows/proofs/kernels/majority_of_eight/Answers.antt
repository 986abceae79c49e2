use Rattle.std.proofs.Common.{◌≡◌, ℕ, ◌+◌, ◌≤◌, ◌<◌, List, length, get_or, take, drop, bit_and}
use Rattle.std.proofs.Common.{bit_or, ap, ◌∙◌, arith}
use Rattle.std.proofs.lemmas.Simd.{get_or-zip2, length-zip2}
use lib.Lanes.{zip2}
use Rattle.bit_rows.specs.Bits.{majority_word}
use Rattle.bit_rows.proofs.WordBits.{part-length, part-at}
use Rattle.bit_rows.proofs.kernels.majority_of_eight.Goals as goal

-- the lanes
lanes : List ℕ → List ℕ → List ℕ → List ℕ
lanes xs ys zs = zip2 bit_or (zip2 bit_and xs ys) (zip2 bit_and zs (zip2 bit_or xs ys))

length-lanes : (xs ys zs : List ℕ) (n : ℕ) → length xs ≡ n → length ys ≡ n → length zs ≡ n
    → length (lanes xs ys zs) ≡ n
unfolding lanes
length-lanes xs ys zs n e f g = grind (arith, length-zip2)

lanes-at : (xs ys zs : List ℕ) (n k : ℕ) → length xs ≡ n → length ys ≡ n → length zs ≡ n → k < n
    → get_or (lanes xs ys zs) k 0 ≡ majority_word (get_or xs k 0) (get_or ys k 0) (get_or zs k 0)
unfolding lanes
lanes-at xs ys zs n k e f g l =
    let la : length (zip2 bit_and xs ys) ≡ n = length-zip2 bit_and xs ys (omega arith) ∙ e in
    let lo : length (zip2 bit_or xs ys) ≡ n = length-zip2 bit_or xs ys (omega arith) ∙ e in
    let lz : length (zip2 bit_and zs (zip2 bit_or xs ys)) ≡ n =
    length-zip2 bit_and zs (zip2 bit_or xs ys) (omega arith) ∙ g in
    get_or-zip2 bit_or (zip2 bit_and xs ys) (zip2 bit_and zs (zip2 bit_or xs ys)) k 0 0 0
    (omega arith) (omega arith)
    ∙ ap (λ m. bit_or m (get_or (zip2 bit_and zs (zip2 bit_or xs ys)) k 0))
    (get_or-zip2 bit_and xs ys k 0 0 0 (omega arith) (omega arith))
    ∙ ap (λ m. bit_or (bit_and (get_or xs k 0) (get_or ys k 0)) m)
    (get_or-zip2 bit_and zs (zip2 bit_or xs ys) k 0 0 0 (omega arith) (omega arith))
    ∙ ap (λ m. bit_or (bit_and (get_or xs k 0) (get_or ys k 0)) (bit_and (get_or zs k 0) m))
    (get_or-zip2 bit_or xs ys k 0 0 0 (omega arith) (omega arith))

eight-at : (a b c : List ℕ) (at k : ℕ) → at + 8 ≤ length a → at + 8 ≤ length b → at + 8 ≤ length c
    → k < 8
    → get_or (lanes (take 8 (drop at a)) (take 8 (drop at b)) (take 8 (drop at c))) k 0
    ≡ majority_word (get_or a (at + k) 0) (get_or b (at + k) 0) (get_or c (at + k) 0)
eight-at a b c at k la lb lc m =
    lanes-at _ _ _ 8 k (part-length a at la) (part-length b at lb) (part-length c at lc) m
    ∙ ap (λ n. majority_word n (get_or (take 8 (drop at b)) k 0) (get_or (take 8 (drop at c)) k 0))
    (part-at a at k m)
    ∙ ap (λ n. majority_word (get_or a (at + k) 0) n (get_or (take 8 (drop at c)) k 0))
    (part-at b at k m)
    ∙ ap (λ n. majority_word (get_or a (at + k) 0) (get_or b (at + k) 0) n) (part-at c at k m)

pub returns-clause-lanes : goal.returns-clause-lanes
unfolding lanes
returns-clause-lanes c = length-lanes (take 8 (drop c.args.at c.args.a.now))
    (take 8 (drop c.args.at c.args.b.now)) (take 8 (drop c.args.at c.args.c.now)) 8
    (part-length c.args.a.now c.args.at c.requires.a_room)
    (part-length c.args.b.now c.args.at c.requires.b_room)
    (part-length c.args.c.now c.args.at c.requires.c_room)

pub returns-clause-words : goal.returns-clause-words
unfolding lanes
returns-clause-words c = λ k h. eight-at c.args.a.now c.args.b.now c.args.c.now c.args.at k
    c.requires.a_room c.requires.b_room c.requires.c_room h
