-- Records one after the other, as loops read them.
use Rattle.uprog_bin.proofs.Common.{◌≡◌, ℕ, suc, ◌+◌, ◌-◌, ◌/◌, ◌%◌, ◌<◌, ◌≤◌, ◌||◌, List, [], ◌∷◌}
use Rattle.uprog_bin.proofs.Common.{◌++◌, Result, Ok, Err, refl, sym, ap, ◌∙◌, append_assoc, arith}
use Rattle.uprog_bin.proofs.Common.{bytes_eq, Kind}
use Rattle.std.specs.List.{list_any}
use Rattle.std.proofs.lemmas.List.{map-append}
use Rattle.uprog_bin.specs.declared.directory.Listed.{Listed}
use Rattle.uprog_bin.specs.Reading.{is_named, has_name, listing_of, listings_of, Listing, kinds_of}
use Rattle.uprog_bin.specs.Reading.{kind_of_bit, listing_at, directory_at, ProgFault}

pub has_name_is : (ls : List Listed) (name : List ℕ)
    → list_any (is_named name) ls ≡ has_name (listings_of ls) name
has_name_is [] name = refl
has_name_is (l ∷ ls) name = ap (λ b. bytes_eq l.head.name name || b) (has_name_is ls name)

pub kinds_more : (ks : List Kind) (count k rest : ℕ) (all : List Kind) → k < count
    → ks ++ kinds_of (count - k) rest ≡ all → (ks ++ kind_of_bit (rest % 2) ∷ [])
    ++ kinds_of (count - (k + 1)) (rest / 2) ≡ all
kinds_more ks count k rest all lt h =
    let e : count - k ≡ suc (count - (k + 1)) = omega arith in
    append_assoc ks (kind_of_bit (rest % 2) ∷ []) (kinds_of (count - (k + 1)) (rest / 2))
    ∙ sym (ap (λ n. ks ++ kinds_of n rest) e) ∙ h

pub listings_more : (ls : List Listed) (l : Listed)
    → listings_of (ls ++ l ∷ []) ≡ listings_of ls ++ listing_of l ∷ []
listings_more ls l = map-append listing_of ls (l ∷ [])

pub directory_more : (v : ℕ) (count k : ℕ) (earlier : List Listing) (start at : ℕ) (bytes : List ℕ)
    (l : Listing) (all : Result (List Listing) ProgFault) → k < count
    → listing_at v earlier start at bytes ≡ Ok l
    → directory_at v (count - k) earlier start at bytes ≡ all
    → directory_at v (count - (k + 1)) (earlier ++ l ∷ []) (start + l.count) (at + 27) bytes ≡ all
unfolding directory_at
directory_more v count k earlier start at bytes l all lt h so_far =
    let e : count - k ≡ suc (count - (k + 1)) = omega arith in
    let one : directory_at v (count - k) earlier start at bytes
    ≡ directory_at v (count - (k + 1)) (earlier ++ l ∷ []) (start + l.count) (at + 27) bytes =
    rw (e, h) refl in
    sym one ∙ so_far

pub directory_fault : (v : ℕ) (count k : ℕ) (earlier : List Listing) (start at : ℕ) (bytes : List ℕ)
    (f : ProgFault) (all : Result (List Listing) ProgFault) → k < count
    → listing_at v earlier start at bytes ≡ Err f
    → directory_at v (count - k) earlier start at bytes ≡ all → all ≡ Err f
unfolding directory_at
directory_fault v count k earlier start at bytes f all lt h so_far =
    let e : count - k ≡ suc (count - (k + 1)) = omega arith in
    let one : directory_at v (count - k) earlier start at bytes ≡ Err f = rw (e, h) refl in
    sym so_far ∙ one

pub directory_done : (v : ℕ) (count k : ℕ) (earlier : List Listing) (start at : ℕ) (bytes : List ℕ)
    (all : Result (List Listing) ProgFault) → count ≤ k
    → directory_at v (count - k) earlier start at bytes ≡ all → all ≡ Ok earlier
unfolding directory_at
directory_done v count k earlier start at bytes all le so_far =
    let e : count - k ≡ 0 = omega arith in
    let one : directory_at v (count - k) earlier start at bytes ≡ Ok earlier = rw e refl in
    sym so_far ∙ one
