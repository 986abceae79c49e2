-- Instructions and entries one after the other, as loops check them.
use Rattle.uprog_bin.proofs.Common.{◌≡◌, ℕ, suc, ◌+◌, ◌-◌, ◌*◌, ◌<◌, ◌≤◌, eqb, List, [], ◌∷◌, ◌++◌}
use Rattle.uprog_bin.proofs.Common.{length, drop, get_or, Result, Ok, Err, refl, sym, ap, ◌∙◌}
use Rattle.uprog_bin.proofs.Common.{append_assoc, append-nil, arith, drop_all, Uop, Shape}
use Rattle.uprog_bin.proofs.Common.{Microprogram, shape_of, ◌>>=◌}
use Rattle.std.proofs.lemmas.Bool.Decides.{nat_tests}
use Rattle.std.proofs.Math.Seq.{drop-cons}
use Rattle.uprog_bin.specs.declared.directory.Listed.{Listed}
use Rattle.uprog_bin.specs.Reading.{uop_at, uops_at, codes_at, listings_of, ProgFault}

-- what was read before, and what is still read
abbrev pub with_front : {A : Type 0} → List A → Result (List A) ProgFault
    → Result (List A) ProgFault
with_front front read = read >>= λ xs. Ok (front ++ xs)

regroup : {A : Type 0} (front : List A) (x : A) (read : Result (List A) ProgFault)
    → with_front front (read >>= λ xs. Ok (x ∷ xs)) ≡ with_front (front ++ x ∷ []) read
regroup front x (Ok xs) = ap (λ (ys : List _). Ok ys) (sym (append_assoc front (x ∷ []) xs))
regroup front x (Err f) = refl

-- the last one of so many
last_is : (count k : ℕ) → k < count → eqb (count - (k + 1)) 0 ≡ eqb (k + 1) count
last_is count k lt = grind (arith, nat_tests)

pub uops_more : (front : List Uop) (count k at : ℕ) (shape : Shape) (size : ℕ) (bytes : List ℕ)
    (i : Uop) (all : Result (List Uop) ProgFault) → k < count
    → uop_at shape size (eqb (k + 1) count) at bytes ≡ Ok i
    → with_front front (uops_at (count - k) shape size at bytes) ≡ all
    → with_front (front ++ i ∷ []) (uops_at (count - (k + 1)) shape size (at + 8) bytes) ≡ all
unfolding uops_at
uops_more front count k at shape size bytes i all lt h so_far =
    let e : count - k ≡ suc (count - (k + 1)) = omega arith in
    let here : uop_at shape size (eqb (count - (k + 1)) 0) at bytes ≡ Ok i =
    ap (λ b. uop_at shape size b at bytes) (last_is count k lt) ∙ h in
    let one : with_front front (uops_at (count - k) shape size at bytes)
    ≡ with_front (front ++ i ∷ []) (uops_at (count - (k + 1)) shape size (at + 8) bytes) =
    rw (e, here) (regroup front i (uops_at (count - (k + 1)) shape size (at + 8) bytes)) in
    sym one ∙ so_far

pub uops_fault : (front : List Uop) (count k at : ℕ) (shape : Shape) (size : ℕ) (bytes : List ℕ)
    (f : ProgFault) (all : Result (List Uop) ProgFault) → k < count
    → uop_at shape size (eqb (k + 1) count) at bytes ≡ Err f
    → with_front front (uops_at (count - k) shape size at bytes) ≡ all → all ≡ Err f
unfolding uops_at
uops_fault front count k at shape size bytes f all lt h so_far =
    let e : count - k ≡ suc (count - (k + 1)) = omega arith in
    let here : uop_at shape size (eqb (count - (k + 1)) 0) at bytes ≡ Err f =
    ap (λ b. uop_at shape size b at bytes) (last_is count k lt) ∙ h in
    let one : with_front front (uops_at (count - k) shape size at bytes) ≡ Err f =
    rw (e, here) refl in
    sym so_far ∙ one

pub uops_done : (front : List Uop) (count k at : ℕ) (shape : Shape) (size : ℕ) (bytes : List ℕ)
    (all : Result (List Uop) ProgFault) → count ≤ k
    → with_front front (uops_at (count - k) shape size at bytes) ≡ all → all ≡ Ok front
unfolding uops_at
uops_done front count k at shape size bytes all le so_far =
    let e : count - k ≡ 0 = omega arith in
    let one : with_front front (uops_at (count - k) shape size at bytes) ≡ Ok front =
    rw e (ap (λ (ys : List Uop). Ok ys) (append-nil front)) in
    sym so_far ∙ one

-- the entries from the i-th on
pub drop_is : (ls : List Listed) (i : ℕ) (l : Listed) → i < length ls → l ≡ get_or ls i l
    → drop i ls ≡ l ∷ drop (i + 1) ls
drop_is ls i l lt same =
    let after : suc i ≡ i + 1 = omega arith in
    drop-cons ls i l lt ∙ ap (λ (x : Listed). x ∷ drop (suc i) ls) (sym same)
    ∙ ap (λ n. l ∷ drop n ls) after

pub codes_more : (front : List Microprogram) (ls : List Listed) (i at : ℕ) (bytes : List ℕ)
    (l : Listed) (code : List Uop) (all : Result (List Microprogram) ProgFault)
    → drop i ls ≡ l ∷ drop (i + 1) ls → uops_at l.count (shape_of l.head) l.count at bytes ≡ Ok code
    → with_front front (codes_at (listings_of (drop i ls)) at bytes) ≡ all
    → with_front (front ++ (record { name = l.head.name; shape = shape_of l.head; code = code })
    ∷ []) (codes_at (listings_of (drop (i + 1) ls)) (at + 8 * l.count) bytes) ≡ all
unfolding codes_at
codes_more front ls i at bytes l code all cut h so_far =
    let m : Microprogram = record { name = l.head.name; shape = shape_of l.head; code = code } in
    let one : with_front front (codes_at (listings_of (drop i ls)) at bytes)
    ≡ with_front (front ++ m ∷ []) (codes_at (listings_of (drop (i + 1) ls)) (at + 8 * l.count)
    bytes) =
    ap (λ (ys : List Listed). with_front front (codes_at (listings_of ys) at bytes)) cut
    ∙ rw h (regroup front m (codes_at (listings_of (drop (i + 1) ls)) (at + 8 * l.count) bytes))
    in
    sym one ∙ so_far

pub codes_fault : (front : List Microprogram) (ls : List Listed) (i at : ℕ) (bytes : List ℕ)
    (l : Listed) (f : ProgFault) (all : Result (List Microprogram) ProgFault)
    → drop i ls ≡ l ∷ drop (i + 1) ls → uops_at l.count (shape_of l.head) l.count at bytes ≡ Err f
    → with_front front (codes_at (listings_of (drop i ls)) at bytes) ≡ all → all ≡ Err f
unfolding codes_at
codes_fault front ls i at bytes l f all cut h so_far =
    let one : with_front front (codes_at (listings_of (drop i ls)) at bytes) ≡ Err f =
    ap (λ (ys : List Listed). with_front front (codes_at (listings_of ys) at bytes)) cut
    ∙ rw h refl in
    sym so_far ∙ one

pub codes_done : (front : List Microprogram) (ls : List Listed) (i at : ℕ) (bytes : List ℕ)
    (all : Result (List Microprogram) ProgFault) → length ls ≤ i
    → with_front front (codes_at (listings_of (drop i ls)) at bytes) ≡ all → all ≡ Ok front
unfolding codes_at
codes_done front ls i at bytes all le so_far =
    let one : with_front front (codes_at (listings_of (drop i ls)) at bytes) ≡ Ok front =
    ap (λ (ys : List Listed). with_front front (codes_at (listings_of ys) at bytes))
    (drop_all i ls le) ∙ ap (λ (ys : List Microprogram). Ok ys) (append-nil front) in
    sym so_far ∙ one
