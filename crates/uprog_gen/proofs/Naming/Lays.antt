-- Names and their places.
use Rattle.uprog_gen.proofs.Common.{◌≡◌, ℕ, ◌+◌, Bool, true, false, cond, List, [], ◌∷◌, ◌++◌, map}
use Rattle.uprog_gen.proofs.Common.{Option, Some, None, refl, ap, ◌∙◌, subst, bytes_eq, arith}
use Rattle.uprog_gen.proofs.Common.{map-append, Kind, Word, Bit, Param, is_among, kind_among, Each}
use Rattle.uprog_gen.proofs.Common.{names_of, same_name, Result, Slot}
use Rattle.uprog_gen.specs.Laying.{kind_in}
use Rattle.uprog_gen.specs.Layout.{Lay, slot, source_lays, is_scratch, scratch_slot, own_slot}
use Rattle.uprog_gen.specs.Layout.{place_in, defined_lays, found}

abbrev pub lay : List ℕ → Slot → Lay
lay name x = record { name = name; slot = x }

-- by cases on a test
pub by_bool : (P : Bool → Type 0) (b : Bool) → (b ≡ true → P true) → (b ≡ false → P false) → P b
by_bool P true f g = f refl
by_bool P false f g = g refl

pub some_is : {A : Type 0} (x y : A) → Some x ≡ Some y → x ≡ y
some_is x y e = cc

-- what holds of each name and its place holds where a name is found
pub found_each : (P : Lay → Type 0) (ls : List Lay) (name : List ℕ) (x : Slot) → Each P ls
    → found ls name ≡ Some x → P (lay name x)
found_each P [] name x h e = absurd (cc)
found_each P (l ∷ ls) name x h e = by_bool (λ b. cond b (Some l.slot) (found ls name) ≡ Some x
    → P (lay name x)) (bytes_eq l.name name)
    (λ s f. subst (λ (z : Slot). P (lay name z)) (some_is l.slot x f)
    (subst (λ (m : List ℕ). P (lay m l.slot)) (same_name l.name name s) h.0))
    (λ s f. found_each P ls name x h.1 f) e

-- two names at one place
abbrev pub IsShared : Lay → Lay → Type 0
IsShared l m = (l.slot.space ≡ m.slot.space) × (l.slot.which ≡ m.slot.which)

-- no two names of the list have one place, if they aren't one name
abbrev pub AreApartLays : List Lay → Type 0
AreApartLays [] = Unit {0}
AreApartLays (l ∷ ls) = Each (λ m. IsShared l m → l.name ≡ m.name) ls × AreApartLays ls

pub found_apart : (ls : List Lay) (a b : List ℕ) (x y : Slot) → AreApartLays ls
    → found ls a ≡ Some x → found ls b ≡ Some y → x.space ≡ y.space → x.which ≡ y.which → a ≡ b
found_apart [] a b x y h e f s w = absurd (cc)
found_apart (l ∷ ls) a b x y h e f s w =
    let Shares : Lay → Type 0 = λ m. IsShared l m → l.name ≡ m.name in
    let left = same_name l.name a in
    let right = same_name l.name b in
    let one = λ (g : found ls a ≡ Some x) (i : l.slot.space ≡ x.space)
    (j : l.slot.which ≡ x.which). found_each Shares ls a x h.0 g (i, j) in
    let two = λ (g : found ls b ≡ Some y) (i : l.slot.space ≡ y.space)
    (j : l.slot.which ≡ y.which). found_each Shares ls b y h.0 g (i, j) in
    let more = found_apart ls a b x y h.1 in
    grind (arith, e, f, s, w, left, right, one, two, more)

-- the names and kinds of the list
abbrev pub params_of : List Lay → List Param
params_of ls = map (λ (l : Lay). record { name = l.name; kind = l.slot.kind }) ls

pub found_kind : (ls : List Lay) (name : List ℕ)
    → kind_among (params_of ls) name ≡ kind_in (found ls name)
found_kind [] name = refl
found_kind (l ∷ ls) name = let more = found_kind ls name in grind (arith, more)

pub found_new : (ls : List Lay) (name : List ℕ) → is_among (names_of (params_of ls)) name ≡ false
    → found ls name ≡ None
found_new [] name h = refl
found_new (l ∷ ls) name h = let more = found_new ls name in grind (arith, h, more)

abbrev pub or_else : Option Slot → Option Slot → Option Slot
or_else (Some x) y = Some x
or_else None y = y

pub found-append : (ls ms : List Lay) (name : List ℕ)
    → found (ls ++ ms) name ≡ or_else (found ls name) (found ms name)
found-append [] ms name = refl
found-append (l ∷ ls) ms name = let more = found-append ls ms name in grind (arith, more)

-- the kinds
own_kind : (results : List (List ℕ)) (b w : ℕ) (p : Param) → (own_slot results b w p).kind ≡ p.kind
own_kind results b w p = cases (is_among results p.name) (place_in results p.name) p.kind
  where
    cases : (c : Bool) (j : ℕ) (k : Kind) → (cond c (slot Result j k) (scratch_slot b w k)).kind ≡ k
    cases true j k = refl
    cases false j Word = refl
    cases false j Bit = refl

pub source_params : (k : ℕ) (ps : List Param) → params_of (source_lays k ps) ≡ ps
source_params k [] = refl
source_params k (p ∷ ps) = ap (λ l. p ∷ l) (source_params (k + 1) ps)

pub defined_params : (results : List (List ℕ)) (b w : ℕ) (ps : List Param)
    → params_of (defined_lays results b w ps) ≡ ps
defined_params results b w [] = refl
defined_params results b w (p ∷ ps) =
    let b' = cond (is_scratch results Bit p) (b + 1) b in
    let w' = cond (is_scratch results Word p) (w + 1) w in
    ap (λ (k : Kind). record { name = p.name; kind = k } ∷ params_of (defined_lays results b'
    w' ps)) (own_kind results b w p) ∙ ap (λ l. p ∷ l) (defined_params results b' w' ps)

-- the sources and the defined names are the names of all places
pub lays_params : (results : List (List ℕ)) (ps ds : List Param)
    → params_of (source_lays 0 ps ++ defined_lays results 0 0 ds) ≡ ps ++ ds
lays_params results ps ds =
    map-append (λ (l : Lay). record { name = l.name; kind = l.slot.kind }) (source_lays 0 ps)
    (defined_lays results 0 0 ds) ∙ rw (source_params 0 ps, defined_params results 0 0 ds) refl
