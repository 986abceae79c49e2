-- Names among others.
use Rattle.op_rules.proofs.Common.{◌≡◌, ℕ, Bool, true, false, ◌||◌, List, [], ◌∷◌, ◌++◌, refl, sym}
use Rattle.op_rules.proofs.Common.{◌∙◌, bytes_eq, is_among, Each}
use Rattle.std.proofs.lemmas.List.Folds.{list_any-append}
use Rattle.std.proofs.lemmas.Slice.Eq.{bytes_eq-Decides}
use Rattle.op_rules.specs.Meets.{IsNew, Differ}

-- names that are found equal are one
pub same_name : (m n : List ℕ) → bytes_eq m n ≡ true → m ≡ n
same_name m n h = (bytes_eq-Decides m n).0 h

-- one name is found equal to itself
pub is_same : (m n : List ℕ) → m ≡ n → bytes_eq m n ≡ true
is_same m n h = (bytes_eq-Decides m n).1 h

both_ways : (a b : Bool) → (a ≡ true → b ≡ true) → (b ≡ true → a ≡ true) → a ≡ b
both_ways true b f g = sym (f refl)
both_ways false true f g = g refl
both_ways false false f g = refl

-- whether names are equal does not rest on their order
pub other_way : (m n : List ℕ) → bytes_eq m n ≡ bytes_eq n m
other_way m n = both_ways (bytes_eq m n) (bytes_eq n m) (λ h. is_same n m (sym (same_name m n h)))
    (λ h. is_same m n (sym (same_name n m h)))

-- a name among two lists is among one of them
pub among-append : (xs ys : List (List ℕ)) (n : List ℕ)
    → is_among (xs ++ ys) n ≡ (is_among xs n || is_among ys n)
among-append xs ys n = list_any-append (λ m. bytes_eq m n) xs ys

-- the first part of an or that is false does not hold
pub or_first : (a b : Bool) → (a || b) ≡ false → a ≡ false
or_first true b h = cc
or_first false b h = refl

-- the second part of an or that is false does not hold
pub or_second : (a b : Bool) → (a || b) ≡ false → b ≡ false
or_second true b h = cc
or_second false b h = h

pub or_both : (a b : Bool) → a ≡ false → b ≡ false → (a || b) ≡ false
or_both true b g h = g
or_both false b g h = h

-- each of the names is new where it comes
abbrev pub AllFresh : List (List ℕ) → List (List ℕ) → Type 0
AllFresh names [] = Unit {0}
AllFresh names (n ∷ ns) = IsNew names n × AllFresh (names ++ n ∷ []) ns

-- a name that is new in two lists is new in the first
pub new-left : (xs ys : List (List ℕ)) (n : List ℕ) → IsNew (xs ++ ys) n → IsNew xs n
new-left xs ys n h = or_first (is_among xs n) (is_among ys n) (sym (among-append xs ys n) ∙ h)

-- a name that is new in two lists is new in the second
pub new-right : (xs ys : List (List ℕ)) (n : List ℕ) → IsNew (xs ++ ys) n → IsNew ys n
new-right xs ys n h = or_second (is_among xs n) (is_among ys n) (sym (among-append xs ys n) ∙ h)

-- a name that is new in each of two lists is new in both together
pub new-append : (xs ys : List (List ℕ)) (n : List ℕ) → IsNew xs n → IsNew ys n → IsNew (xs ++ ys) n
new-append xs ys n g h = among-append xs ys n ∙ or_both (is_among xs n) (is_among ys n) g h

-- what follows for each follows for all
pub each_map : {A : Type 0} (P Q : A → Type 0) → ((a : A) → P a → Q a) → (xs : List A) → Each P xs
    → Each Q xs
each_map P Q f [] h = tt
each_map P Q f (x ∷ xs) h = (f x h.0, each_map P Q f xs h.1)

-- none of the later names is this one
pub others_new : (n : List ℕ) (ns : List (List ℕ)) → Each (IsNew (n ∷ [])) ns → IsNew ns n
others_new n [] h = refl
others_new n (m ∷ ns) h = or_both (bytes_eq m n) (is_among ns n) (other_way m n
    ∙ or_first (bytes_eq n m) false h.0) (others_new n ns h.1)

pub others_back : (n : List ℕ) (ns : List (List ℕ)) → IsNew ns n → Each (IsNew (n ∷ [])) ns
others_back n [] h = tt
others_back n (m ∷ ns) h = (
  or_both (bytes_eq n m) false (other_way n m
      ∙ or_first (bytes_eq m n) (is_among ns n) h) refl,
  others_back n ns (or_second (bytes_eq m n) (is_among ns n) h),
)

pub fresh-new : (names ns : List (List ℕ)) → AllFresh names ns → Each (IsNew names) ns
fresh-new names [] h = tt
fresh-new names (n ∷ ns) h = (
  h.0,
  each_map (IsNew (names ++ n ∷ [])) (IsNew names) (λ m k.
      new-left names (n ∷ []) m k) ns (fresh-new (names ++ n ∷ []) ns h.1),
)

pub fresh-differ : (names ns : List (List ℕ)) → AllFresh names ns → Differ ns
fresh-differ names [] h = tt
fresh-differ names (n ∷ ns) h = (
  others_new n ns (each_map (IsNew (names ++ n ∷ [])) (IsNew (n ∷ [])) (λ m k.
      new-right names (n ∷ []) m k) ns (fresh-new (names ++ n ∷ []) ns h.1)),
  fresh-differ (names ++ n ∷ []) ns h.1,
)

pub each_both : {A : Type 0} (P Q R : A → Type 0) → ((a : A) → P a → Q a → R a) → (xs : List A)
    → Each P xs → Each Q xs → Each R xs
each_both P Q R f [] g h = tt
each_both P Q R f (x ∷ xs) g h = (f x g.0 h.0, each_both P Q R f xs g.1 h.1)

pub differ-fresh : (names ns : List (List ℕ)) → Each (IsNew names) ns → Differ ns
    → AllFresh names ns
differ-fresh names [] g h = tt
differ-fresh names (n ∷ ns) g h = (
  g.0,
  differ-fresh (names ++ n ∷ []) ns (each_both (IsNew names) (IsNew (n ∷ []))
      (IsNew (names ++ n ∷ [])) (λ m a b. new-append names (n ∷ []) m a b) ns g.1
      (others_back n ns h.0)) h.1,
)
