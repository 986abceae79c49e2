-- Where the names of an operation lie: in places of their own.
use Rattle.uprog_gen.proofs.Common.{◌≡◌, ℕ, suc, ◌+◌, ◌<◌, ◌≤◌, Bool, true, false, not, cond, List}
use Rattle.uprog_gen.proofs.Common.{[], ◌∷◌, ◌++◌, map, Some, refl, sym, ap, ◌∙◌, arith, ◌⊎◌, inl}
use Rattle.uprog_gen.proofs.Common.{inr, sum_by-cons, slice_get, count_by, Kind, Word, Bit, Param}
use Rattle.uprog_gen.proofs.Common.{Operation, result_names, is_among, same_kind, body_defines}
use Rattle.uprog_gen.proofs.Common.{scratch_names, Each, same_name, Result, Source, ScratchBit}
use Rattle.uprog_gen.proofs.Common.{ScratchWord}
use Rattle.std.proofs.Common.{◌&&◌}
use Rattle.op_rules.proofs.Names.{each_map}
use Rattle.op_rules.proofs.Ops.{each_append}
use Rattle.uprog_gen.specs.Layout.{Lay, slot, source_lays, is_scratch, scratch_slot, defined_lays}
use Rattle.uprog_gen.specs.Layout.{place_in, lays}
use Rattle.uprog_gen.proofs.Naming.Lays.{lay, IsShared, AreApartLays}

abbrev pub kinds_of : List Param → List Kind
kinds_of ps = map (λ (p : Param). p.kind) ps

-- a source, from this one on
abbrev pub IsSourceLay : ℕ → List Param → Lay → Type 0
IsSourceLay k ps m = (j : ℕ) × (m.slot.space ≡ Source) × (m.slot.which ≡ k + j)
    × (slice_get (kinds_of ps) j ≡ Some m.slot.kind)

pub source_each : (k : ℕ) (ps : List Param) → Each (IsSourceLay k ps) (source_lays k ps)
source_each k [] = tt
source_each k (p ∷ ps) = (
  (0, refl, omega arith, refl),
  each_map (IsSourceLay (k + 1) ps) (IsSourceLay k (p ∷ ps))
      (λ m h. (suc h.0, h.1, omega (arith, h.2), h.3)) (source_lays (k + 1) ps)
      (source_each (k + 1) ps),
)

source_apart : (k : ℕ) (ps : List Param) → AreApartLays (source_lays k ps)
source_apart k [] = tt
source_apart k (p ∷ ps) = (
  each_map (IsSourceLay (k + 1) ps) (λ m. IsShared (lay p.name (slot Source k p.kind)) m
      → p.name ≡ m.name) (λ m h s. absurd (omega (arith, h.2, s.1))) (source_lays (k + 1) ps)
      (source_each (k + 1) ps),
  source_apart (k + 1) ps,
)

-- two names at one place among others are one
place_same : (rs : List (List ℕ)) (a b : List ℕ) → is_among rs a ≡ true → is_among rs b ≡ true
    → place_in rs a ≡ place_in rs b → a ≡ b
place_same [] a b h g e = absurd (cc)
place_same (r ∷ rs) a b h g e =
    let more = place_same rs a b in let x = same_name r a in let y = same_name r b in
    grind (arith, h, g, e, more, x, y)

-- a name that the body defines: a results, or one in the scratch of these bits and words
abbrev pub IsDefinedLay : List (List ℕ) → ℕ → ℕ → ℕ → ℕ → Lay → Type 0
IsDefinedLay results b w bits words m =
    ((m.slot.space ≡ Result) × (m.slot.which ≡ place_in results m.name)
    × (is_among results m.name ≡ true))
    ⊎ (((m.slot.space ≡ ScratchBit) × (m.slot.kind ≡ Bit) × (b ≤ m.slot.which)
    × (m.slot.which < bits) × (is_among results m.name ≡ false))
    ⊎ ((m.slot.space ≡ ScratchWord) × (m.slot.kind ≡ Word) × (w ≤ m.slot.which)
    × (m.slot.which < words) × (is_among results m.name ≡ false)))

abbrev head : List (List ℕ) → Bool → ℕ → ℕ → List ℕ → Kind → Lay
head results c b w name k = lay name (cond c (slot Result (place_in results name) k)
    (scratch_slot b w k))

abbrev next : Kind → Bool → ℕ → Kind → ℕ
next j c b k = cond (same_kind k j && not c) (b + 1) b

head_is : (c : Bool) (k : Kind) (name : List ℕ) (results : List (List ℕ))
    (b w bits words x y : ℕ) → is_among results name ≡ c → next Bit c b k + x ≤ bits → next
    Word c w k + y ≤ words → IsDefinedLay results b w bits words (head results c b w name k)
head_is true k name results b w bits words x y e f g = inl (refl, refl, e)
head_is false Bit name results b w bits words x y e f g =
    inr (inl (refl, refl, omega arith, omega (arith, f), e))
head_is false Word name results b w bits words x y e f g =
    inr (inr (refl, refl, omega arith, omega (arith, g), e))

head_apart : (c : Bool) (k : Kind) (name : List ℕ) (results : List (List ℕ))
    (b w bits words : ℕ) (m : Lay) → is_among results name ≡ c → IsDefinedLay results (next Bit
    c b k) (next Word c w k) bits words m → IsShared (head results c b w name k) m → name ≡ m.name
head_apart true k name results b w bits words m e h s =
    let same = place_same results name m.name e in grind (arith, h, s, same)
head_apart false Bit name results b w bits words m e h s = grind (arith, h, s)
head_apart false Word name results b w bits words m e h s = grind (arith, h, s)

-- further on
wider : (results : List (List ℕ)) (b w b' w' bits words : ℕ) (m : Lay) → b ≤ b' → w ≤ w'
    → IsDefinedLay results b' w' bits words m → IsDefinedLay results b w bits words m
wider results b w b' w' bits words m f g (inl h) = inl h
wider results b w b' w' bits words m f g (inr (inl h)) =
    inr (inl (h.0, h.1, omega (arith, f, h.2), h.3, h.4))
wider results b w b' w' bits words m f g (inr (inr h)) =
    inr (inr (h.0, h.1, omega (arith, g, h.2), h.3, h.4))

module _ (results : List (List ℕ)) (bits words : ℕ) where
  abbrev fits : Kind → List Param → ℕ → ℕ → Type 0
  fits k ps b limit = b + count_by (is_scratch results k) ps ≤ limit

  fits_rest : (k : Kind) (p : Param) (ps : List Param) (b limit : ℕ) → fits k (p ∷ ps) b limit
      → cond (is_scratch results k p) (b + 1) b + count_by (is_scratch results k) ps ≤ limit
  fits_rest k p ps b limit h =
      let cons = sum_by-cons (λ (q : Param). cond (is_scratch results k q) 1 0) p ps in
      grind (arith, h, cons)

  pub defined_lie : (b w : ℕ) (ps : List Param) → fits Bit ps b bits → fits Word ps w words
      → Each (IsDefinedLay results b w bits words) (defined_lays results b w ps)
      × AreApartLays (defined_lays results b w ps)
  defined_lie b w [] f g = (tt, tt)
  defined_lie b w (p ∷ ps) f g =
      let c = is_among results p.name in
      let f' = fits_rest Bit p ps b bits f in
      let g' = fits_rest Word p ps w words g in
      let b' = next Bit c b p.kind in
      let w' = next Word c w p.kind in
      let rest = defined_lays results b' w' ps in
      let more = defined_lie b' w' ps f' g' in
      let Was = IsDefinedLay results b' w' bits words in
      let first = head results c b w p.name p.kind in (
        (
          head_is c p.kind p.name results b w bits words (count_by (is_scratch results Bit) ps)
              (count_by (is_scratch results Word) ps) refl f' g',
          each_map Was (IsDefinedLay results b w bits words) (λ m h. wider results b w b' w' bits
              words m (grind arith) (grind arith) h) rest more.0,
        ),
        (
          each_map Was (λ m. IsShared first m → p.name ≡ m.name)
              (λ m h s. head_apart c p.kind p.name results b w bits words m refl h s) rest more.0,
          more.1,
        ),
      )

apart-append : (ls ms : List Lay) → AreApartLays ls → AreApartLays ms
    → Each (λ l. Each (λ m. IsShared l m → l.name ≡ m.name) ms) ls → AreApartLays (ls ++ ms)
apart-append [] ms f g h = g
apart-append (l ∷ ls) ms f g h = (
  each_append (λ m. IsShared l m → l.name ≡ m.name) ls ms f.0 h.0,
  apart-append ls ms f.1 g h.1,
)

-- where a name of the operation lies
abbrev pub LiesIn : Operation → Lay → Type 0
LiesIn op m =
    ((m.slot.space ≡ Source) × (slice_get (kinds_of op.params) m.slot.which ≡ Some m.slot.kind))
    ⊎ IsDefinedLay (result_names op) 0 0 (scratch_names Bit op) (scratch_names Word op) m

module _ (op : Operation) where
  abbrev defined : List Param
  defined = body_defines op.params op.body

  abbrev sources : List Lay
  sources = source_lays 0 op.params

  abbrev own : List Lay
  own = defined_lays (result_names op) 0 0 defined

  pub own_each : Each (IsDefinedLay (result_names op) 0 0 (scratch_names Bit op)
      (scratch_names Word op)) own
  own_each = (defined_lie (result_names op) (scratch_names Bit op) (scratch_names Word op) 0 0
      defined (omega arith) (omega arith)).0

  source_lies : (m : Lay) → IsSourceLay 0 op.params m → LiesIn op m
  source_lies m h = inl (
    h.1,
    let e : h.0 ≡ m.slot.which = omega (arith, h.2) in
        ap (slice_get (kinds_of op.params)) (sym e) ∙ h.3,
  )

  pub all_lie : Each (LiesIn op) (lays op)
  all_lie = each_append (LiesIn op) sources own (each_map (IsSourceLay 0 op.params) (LiesIn op)
      source_lies sources (source_each 0 op.params))
      (each_map (IsDefinedLay (result_names op) 0 0 (scratch_names Bit op) (scratch_names Word op))
      (LiesIn op) (λ m h. inr h) own own_each)

  -- a source and another name
  other_space : (l m : Lay) → IsSourceLay 0 op.params l
      → IsDefinedLay (result_names op) 0 0 (scratch_names Bit op) (scratch_names Word op) m
      → IsShared l m → l.name ≡ m.name
  other_space l m h d s = let space = h.1 in grind (arith, space, d, s)

  pub all_apart : AreApartLays (lays op)
  all_apart = apart-append sources own (source_apart 0 op.params)
      (defined_lie (result_names op) (scratch_names Bit op) (scratch_names Word op) 0 0 defined
      (omega arith) (omega arith)).1
      (each_map (IsSourceLay 0 op.params) (λ l. Each (λ m. IsShared l m → l.name ≡ m.name) own)
      (λ l h. each_map (IsDefinedLay (result_names op) 0 0 (scratch_names Bit op)
      (scratch_names Word op)) (λ m. IsShared l m
      → l.name ≡ m.name) (λ m d s. other_space l m h d s) own own_each) sources
      (source_each 0 op.params))
