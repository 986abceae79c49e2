-- The kinds of results, where names are theirs.
use Rattle.op_rules.proofs.Common.{◌≡◌, ℕ, Bool, true, false, not, ◌||◌, ◌&&◌, List, [], ◌∷◌}
use Rattle.op_rules.proofs.Common.{Option, Some, None, refl, sym, ap, ◌∙◌, bytes_eq, cond, Kind}
use Rattle.op_rules.proofs.Common.{Word, Bit, Param, same_kind, is_among, Each, kind_among}
use Rattle.op_rules.proofs.Common.{is_known, is_of_kind}
use Rattle.op_rules.specs.Meets.{names_of, IsNew, Differ}
use Rattle.op_rules.proofs.Names.{is_same, other_way, or_first, or_second, each_both}

-- a name is known where it is among the names
pub known-among : (ps : List Param) (n : List ℕ)
    → is_known (kind_among ps n) ≡ is_among (names_of ps) n
known-among [] n = refl
known-among (p ∷ ps) n = cases (bytes_eq p.name n) (known-among ps n)
  where
    cases : (b : Bool) → is_known (kind_among ps n) ≡ is_among (names_of ps) n
        → is_known (cond b (Some p.kind) (kind_among ps n)) ≡ (b || is_among (names_of ps) n)
    cases true e = refl
    cases false e = e

pub of_known : (o : Option Kind) (k : Kind) → is_of_kind o k ≡ (is_known o && is_of_kind o k)
of_known None k = refl
of_known (Some j) k = refl

pub same_kinds : (a b : Kind) → same_kind a b ≡ true → b ≡ a
same_kinds Word Word h = refl
same_kinds Bit Bit h = refl
same_kinds _ _ h = cc

pub kinds_same : (j k : Kind) → k ≡ j → same_kind j k ≡ true
kinds_same Word Word e = refl
kinds_same Bit Bit e = refl
kinds_same _ _ e = cc

-- a result, if there is one, is of this kind
abbrev pub Fits : Option Kind → Kind → Type 0
Fits o k = (j : Kind) → o ≡ Some j → j ≡ k

pub fits_of : (o : Option Kind) (k : Kind) → (is_known o ≡ true → is_of_kind o k ≡ true) → Fits o k
fits_of None k f j e = cc
fits_of (Some i) k f j e = let s : i ≡ j = cc in sym s ∙ sym (same_kinds i k (f refl))

pub of_fits : (o : Option Kind) (k : Kind) → Fits o k → is_known o ≡ true → is_of_kind o k ≡ true
of_fits None k f h = cc
of_fits (Some i) k f h = kinds_same i k (sym (f i refl))

fits_kind : (a b : Bool) → (a && not b) ≡ false → a ≡ true → b ≡ true
fits_kind true true h g = refl
fits_kind _ _ h g = cc

fits_back : (r b : Bool) → (r ≡ true → b ≡ true) → (r && not b) ≡ false
fits_back true b f = ap not (f refl)
fits_back false b f = refl

pub same_fits : (o : Option Kind) (k : Kind) → (is_known o && not (is_of_kind o k)) ≡ false
    → Fits o k
same_fits o k h = fits_of o k (λ q. fits_kind (is_known o) (is_of_kind o k) h q)

pub fits_same : (o : Option Kind) (k : Kind) → Fits o k
    → (is_known o && not (is_of_kind o k)) ≡ false
fits_same o k f = fits_back (is_known o) (is_of_kind o k) (of_fits o k f)

-- an assigned name that is no state
pub word_fits : (o : Option Kind) (s : Bool) → s ≡ false → (is_of_kind o Bit && not s) ≡ false
    → Fits o Word
word_fits (Some Word) s z h j e = let i : Word ≡ j = cc in sym i
word_fits (Some Bit) true z h j e = cc
word_fits _ _ z h j e = cc

pub fits_word : (o : Option Kind) (s : Bool) → (s ≡ false → Fits o Word)
    → (is_of_kind o Bit && not s) ≡ false
fits_word (Some Bit) false f = let e = f refl Bit refl in cc
fits_word _ _ f = refl

others_apart : (n : List ℕ) (ps : List Param) → IsNew (names_of ps) n
    → Each (λ (p : Param). bytes_eq n p.name ≡ false) ps
others_apart n [] h = tt
others_apart n (p ∷ ps) h = (
  other_way n p.name ∙ or_first (bytes_eq p.name n) (is_among (names_of ps) n) h,
  others_apart n ps (or_second (bytes_eq p.name n) (is_among (names_of ps) n) h),
)

skips : (b : Bool) (k : Kind) (x y : Option Kind) → b ≡ false → x ≡ y → cond b (Some k) x ≡ y
skips true k x y e h = cc
skips false k x y e h = h

takes : (b : Bool) (k : Kind) (x : Option Kind) → b ≡ true → cond b (Some k) x ≡ Some k
takes true k x e = refl
takes false k x e = cc

pub found_each : (ps : List Param) → Differ (names_of ps)
    → Each (λ (p : Param). kind_among ps p.name ≡ Some p.kind) ps
found_each [] h = tt
found_each (p ∷ ps) h = (
  takes (bytes_eq p.name p.name) p.kind (kind_among ps p.name) (is_same p.name p.name refl),
  each_both (λ (q : Param). bytes_eq p.name q.name ≡ false) (λ (q : Param). kind_among ps q.name
      ≡ Some q.kind) (λ (q : Param). kind_among (p ∷ ps) q.name ≡ Some q.kind)
      (λ q e f. skips (bytes_eq p.name q.name) p.kind (kind_among ps q.name) (Some q.kind) e f) ps
      (others_apart p.name ps h.0) (found_each ps h.1),
)
