-- Operands whose names are long.
use Rattle.tmr_guard.proofs.Common.{◌≡◌, ℕ, ◌<◌, Bool, true, false, ◌||◌, List, [], ◌∷◌, map}
use Rattle.tmr_guard.proofs.Common.{length, zero, suc, refl, ap, sym, ◌∙◌, arith, list_any, Place}
use Rattle.tmr_guard.proofs.Common.{is_long}
use Rattle.std.proofs.Common.{slice_index_or}

long_names : (places : List Place)
    → list_any (λ (p : Place). is_long p.name) places
    ≡ list_any is_long (map (λ (p : Place). p.name) places)
long_names [] = refl
long_names (p ∷ places) = ap (λ (b : Bool). is_long p.name || b) (long_names places)

first_no : (a b : Bool) → (a || b) ≡ false → a ≡ false
first_no true b h = absurd (cc)
first_no false b h = refl

pub rest_no : (a b : Bool) → (a || b) ≡ false → b ≡ false
rest_no true b h = absurd (cc)
rest_no false b h = h

-- where none is long, each is short
pub short_at : (places : List Place)
    → list_any is_long (map (λ (p : Place). p.name) places) ≡ false
    → (k : ℕ) (d : Place) → k < length places
    → is_long (slice_index_or places k d).name ≡ false
short_at [] h k d l = absurd (omega arith)
short_at (p ∷ places) h zero d l = first_no (is_long p.name)
    (list_any is_long (map (λ (p : Place). p.name) places)) h
short_at (p ∷ places) h (suc k) d l = short_at places (rest_no (is_long p.name)
    (list_any is_long (map (λ (p : Place). p.name) places)) h) k d (omega arith)

pub either_long : (r : Bool) (name : List ℕ) (places : List Place)
    → r ≡ list_any (λ (p : Place). is_long p.name) places → is_long name ≡ false
    → r ≡ (is_long name || list_any is_long (map (λ (p : Place). p.name) places))
either_long r name places e short = e ∙ long_names places
    ∙ ap (λ (b : Bool). b || list_any is_long (map (λ (p : Place). p.name) places)) (sym short)
