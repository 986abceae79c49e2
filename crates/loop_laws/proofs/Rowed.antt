-- Bodies whose places all have rows.
use Rattle.loop_laws.proofs.Common.{◌≡◌, ℕ, zero, suc, ◌+◌, ◌<◌, Bool, false, List, [], ◌∷◌, ◌++◌}
use Rattle.loop_laws.proofs.Common.{length, refl, arith, list_any, Lit, Place, Block, nth_place}
use Rattle.loop_laws.proofs.Common.{is_state, has_states, row_count, enters, leaves}
use Rattle.loop_laws.proofs.Alike.{none_at}

abbrev pub HaveRows : List Place → Type 0
HaveRows ps = (k : ℕ) → k < length ps → is_state (nth_place ps k).space ≡ false

later : (p : Place) (ps : List Place) → HaveRows (p ∷ ps) → HaveRows ps
later p ps h = λ k l. h (suc k) (omega arith)

pub all_count : (ps : List Place) → HaveRows ps → row_count ps ≡ length ps
all_count [] h = refl
all_count (p ∷ ps) h = rw (h 0 (omega arith), all_count ps (later p ps h))

pub no_enters : (ps : List Place) (k : ℕ) → HaveRows ps → enters k ps ≡ []
no_enters [] k h = refl
no_enters (p ∷ ps) k h = rw (h 0 (omega arith)) (no_enters ps (k + 1) (later p ps h))

pub no_leaves : (ps : List Place) (ls : List Lit) → HaveRows ps → leaves ps ls ≡ []
no_leaves [] ls h = refl
no_leaves (p ∷ ps) [] h = refl
no_leaves (p ∷ ps) (l ∷ ls) h = rw (h 0 (omega arith)) (no_leaves ps ls (later p ps h))

abbrev any_state : List Place → Bool
any_state ps = list_any (λ p. is_state p.space) ps

none_state : (ps : List Place) → any_state ps ≡ false → HaveRows ps
none_state [] h k l = absurd (omega arith)
none_state (p ∷ ps) h zero l = grind arith
none_state (p ∷ ps) h (suc k) l = none_state ps (grind arith) k (omega arith)

back_none : (ps qs : List Place) → any_state (ps ++ qs) ≡ false → any_state qs ≡ false
back_none [] qs h = h
back_none (p ∷ ps) qs h = back_none ps qs (grind arith)

-- a body without states
pub have_rows : (b : Block) → has_states b ≡ false → HaveRows b.reads × HaveRows b.writes
have_rows b h = (
  λ k l. none_at b.reads b.writes k h l,
  none_state b.writes (back_none b.reads b.writes h),
)
