-- The cursors of the live banks, as commands are done.
use Rattle.uprog_ctl.proofs.Common.{◌≡◌, ℕ, zero, suc, ◌+◌, ◌<◌, true, false, cond, List, [], ◌∷◌}
use Rattle.uprog_ctl.proofs.Common.{◌++◌, length, map, drop, get_or, refl, sym, ap, ◌∙◌, subst}
use Rattle.uprog_ctl.proofs.Common.{arith, inl, inr, append-nil, get_or-map, length-map, take_at}
use Rattle.uprog_ctl.proofs.Common.{length_push, get_or_default, Command, Queues, live}
use Rattle.uprog_ctl.proofs.Common.{without_next}
use Rattle.std.proofs.Common.{eqb, not, set}
use Rattle.std.specs.Prelude.{remove}
use Rattle.std.specs.List.{refill}
use Rattle.std.proofs.lemmas.Bool.{cases_eq, cases_lt}
use Rattle.std.proofs.lemmas.List.{map_push, map-set, set-get_or, get_or_push, get_or_append_left}
use Rattle.std.proofs.lemmas.List.{get_or-set_same, get_or-set_other, length-set}
use Rattle.std.proofs.lemmas.List.Edits.{length-remove, get_or-remove_below, get_or-remove_above}
use Rattle.wave_model.specs.Schedule.{is_live}
use Rattle.wave_model.proofs.Live.{live_kept, live_gone, live_apart, other_left, own_left, alive}
use Rattle.wave_model.proofs.Turning.{live_more}
use Rattle.uprog_ctl.specs.declared.cursor.Cursor.{Cursor}
use Rattle.uprog_ctl.specs.Waves.{BoundJob}
use Rattle.uprog_ctl.specs.Cursors.{IsAt, AreAt, GoesOn, MovesOn, left_after}

map-remove : {X Y : Type 0} (f : X → Y) (xs : List X) (i : ℕ)
    → map f (remove xs i) ≡ remove (map f xs) i
map-remove f [] zero = refl
map-remove f [] (suc i) = refl
map-remove f (x ∷ xs) zero = refl
map-remove f (x ∷ xs) (suc i) = ap (λ ys. f x ∷ ys) (map-remove f xs i)

remove-set : {X : Type 0} (xs : List X) (k : ℕ) (x : X) → remove (set xs k x) k ≡ remove xs k
remove-set [] zero x = refl
remove-set [] (suc k) x = refl
remove-set (y ∷ ys) zero x = refl
remove-set (y ∷ ys) (suc k) x = ap (λ zs. y ∷ zs) (remove-set ys k x)

-- a cursor that is changed before it is taken away
pub taken : (old new cs : List Cursor) (k : ℕ) (c : Cursor) → new ≡ remove cs k → cs ≡ set old k c
    → new ≡ remove old k
taken old new cs k c e f = e ∙ ap (λ xs. remove xs k) f ∙ remove-set old k c

-- what a slice of all cursors writes back
pub refilled : (cs ss : List Cursor) (k : ℕ) (c : Cursor) → ss ≡ cs
    → refill (length cs) cs (set ss k c) ≡ set cs k c
refilled cs ss k c e = ap (λ (xs : List Cursor). refill (length cs) cs (set xs k c)) e
    ∙ take_at (set cs k c) (drop (length (set cs k c)) cs) (length cs)
    (omega (arith, length-set cs k c))

-- a bank more that has nothing to do
pub none_more : (n rows : ℕ) (jobs : List BoundJob) (left : Queues) (cs : List Cursor)
    → AreAt n rows jobs left cs → left n ≡ [] → AreAt (n + 1) rows jobs left cs
none_more n rows jobs left cs are none =
    let dead : is_live left n ≡ false =
    ap (λ (q : List Command). not (eqb (length q) 0)) none in
    record {
      live = are.live ∙ sym (live_more n left ∙ ap (λ t. live n left ++ cond t (n ∷ []) []) dead
          ∙ append-nil (live n left));
      each = are.each;
    }

-- and one that has
pub some_more : (n rows : ℕ) (jobs : List BoundJob) (left : Queues) (cs : List Cursor) (c : Cursor)
    → AreAt n rows jobs left cs → c.bank ≡ n → IsAt rows jobs (left n) c
    → AreAt (n + 1) rows jobs left (cs ++ c ∷ [])
some_more n rows jobs left cs c are is at =
    let some : 0 < length (left n) = omega (arith, ap length at.left) in
    let on : is_live left n ≡ true = alive (left n) some in
    record {
      live = map_push (λ (d : Cursor). d.bank) cs c
          ∙ ap (λ bs. bs ++ c.bank ∷ []) are.live
          ∙ ap (λ b. live n left ++ b ∷ []) is
          ∙ sym (live_more n left ∙ ap (λ t. live n left ++ cond t (n ∷ []) []) on);
      each = λ i d lt. elim (cases_lt i (length cs)) [
        | inl l ↦ subst (λ (x : Cursor). IsAt rows jobs (left x.bank) x)
            (sym (get_or_append_left cs (c ∷ []) d i l)) (are.each i d l)
        | inr ge ↦
            let here : length cs ≡ i = omega (arith, lt, length_push cs c) in
            subst (λ (x : Cursor). IsAt rows jobs (left x.bank) x)
            (sym (get_or_push cs c d i here))
            (subst (λ (b : ℕ). IsAt rows jobs (left b) c) (sym is) at)
      ];
    }

module _ (banks rows : ℕ) (jobs : List BoundJob) (left : Queues) (cs : List Cursor) (k : ℕ)
    (are : AreAt banks rows jobs left cs) (lt : k < length cs) where
  long : length cs ≡ length (live banks left)
  long = sym (length-map cs (λ (c : Cursor). c.bank)) ∙ ap length are.live

  -- the k-th cursor's bank is the k-th live one
  pub kth_bank : (i : ℕ) (d : Cursor) → i < length cs
      → (get_or cs i d).bank ≡ get_or (live banks left) i 0
  kth_bank i d l = sym (get_or-map (λ (c : Cursor). c.bank) cs i d 0 l)
      ∙ ap (λ bs. get_or bs i 0) are.live

  -- another cursor's queue stays
  other_stays : (i : ℕ) (d e : Cursor) → i < length cs → (i ≡ k → ⊥)
      → without_next (get_or cs k e).bank left (get_or cs i d).bank ≡ left (get_or cs i d).bank
  other_stays i d e l ne = other_left left (get_or cs k e).bank (get_or cs i d).bank (λ same.
      ne (sym (live_apart banks left k i (subst (λ n. k < n) long lt) (subst (λ n. i < n) long l)
      (sym (kth_bank k e lt) ∙ same ∙ kth_bank i d l))))

  -- what is left of its own queue
  own_after : (d : Cursor) → drop 1 (left (get_or cs k d).bank)
      ≡ left_after rows jobs (get_or cs k d)
  own_after d = ap (drop 1) ((are.each k d lt).left)

  pub goes_on : (c : Cursor) (new : List Cursor) (b : ℕ) → b ≡ (get_or cs k c).bank
      → GoesOn rows jobs cs k c new → AreAt banks rows jobs (without_next b left) new
  goes_on c new b own on =
      let b' = (get_or cs k c).bank in
      let more : 0 < length (drop 1 (left b')) =
      omega (arith, ap length (own_after c), ap length on.at.left) in
      let same_banks : map (λ (d : Cursor). d.bank) (set cs k c) ≡ map (λ (d : Cursor). d.bank) cs =
      map-set (λ (d : Cursor). d.bank) cs k c
      ∙ ap (λ x. set (map (λ (d : Cursor). d.bank) cs) k x) (on.bank
      ∙ sym (get_or-map (λ (d : Cursor). d.bank) cs k c 0 lt))
      ∙ set-get_or (map (λ (d : Cursor). d.bank) cs) k 0 in
      let here : without_next b' left c.bank ≡ left_after rows jobs (get_or cs k c) =
      ap (without_next b' left) on.bank ∙ own_left left b' ∙ own_after c in
      subst (λ (x : ℕ). AreAt banks rows jobs (without_next x left) new) (sym own)
      (subst (λ (xs : List Cursor). AreAt banks rows jobs (without_next b' left) xs)
      (sym on.cursors)
      (record {
        live = same_banks ∙ are.live ∙ sym (live_kept banks b' left more);
        each = λ i d l. elim (cases_eq i k) [
          | inl e ↦ subst (λ (x : Cursor). IsAt rows jobs (without_next b' left x.bank) x)
              (sym (ap (λ j. get_or (set cs k c) j d) e ∙ get_or-set_same cs k c d lt))
              (subst (λ (q : List Command). IsAt rows jobs q c) (sym here) on.at)
          | inr ne ↦
              let l' : i < length cs = omega (arith, l, length-set cs k c) in
              subst (λ (x : Cursor). IsAt rows jobs (without_next b' left x.bank) x)
              (sym (get_or-set_other cs k i c d ne))
              (subst (λ (q : List Command). IsAt rows jobs q (get_or cs i d))
              (sym (other_stays i d c l' ne)) (are.each i d l'))
        ];
      }))

  pub ends_here : (new : List Cursor) (b : ℕ) (d : Cursor) → b ≡ (get_or cs k d).bank
      → left_after rows jobs (get_or cs k d) ≡ [] → new ≡ remove cs k
      → AreAt banks rows jobs (without_next b left) new
  ends_here new b d own none gone =
      let b' = (get_or cs k d).bank in
      let over : drop 1 (left b') ≡ [] = own_after d ∙ none in
      subst (λ (x : ℕ). AreAt banks rows jobs (without_next x left) new) (sym own)
      (subst (λ (xs : List Cursor). AreAt banks rows jobs (without_next b' left) xs) (sym gone)
      (record {
        live = map-remove (λ (c : Cursor). c.bank) cs k
            ∙ ap (λ bs. remove bs k) are.live
            ∙ sym (live_gone banks b' k left over (subst (λ n. k < n) long lt) (kth_bank k d lt));
        each = λ i e l. elim (cases_lt i k) [
          | inl below ↦
              let l' : i < length cs = omega (arith, below, lt) in
              subst (λ (x : Cursor). IsAt rows jobs (without_next b' left x.bank) x)
              (sym (get_or-remove_below cs k e i below lt))
              (subst (λ (q : List Command). IsAt rows jobs q (get_or cs i e))
              (sym (other_stays i e d l' (λ same. absurd (omega (arith, same, below)))))
              (are.each i e l'))
          | inr above ↦
              let l' : i + 1 < length cs = omega (arith, l, length-remove cs k lt) in
              subst (λ (x : Cursor). IsAt rows jobs (without_next b' left x.bank) x)
              (sym (get_or-remove_above cs k e i above lt))
              (subst (λ (q : List Command). IsAt rows jobs q (get_or cs (i + 1) e))
              (sym (other_stays (i + 1) e d l' (λ same. absurd (omega (arith, same, above)))))
              (are.each (i + 1) e l'))
        ];
      }))

  pub moves_on : (new : List Cursor) (b : ℕ) (d : Cursor) → b ≡ (get_or cs k d).bank
      → MovesOn rows jobs cs k new → AreAt banks rows jobs (without_next b left) new
  moves_on new b d own (inl on) = goes_on on.0 new b (own
      ∙ ap (λ (x : Cursor). x.bank) (get_or_default cs k d on.0 lt)) on.1
  moves_on new b d own (inr none) = ends_here new b d own (none.0 d) none.1
