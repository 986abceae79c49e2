-- Names that come to their places one after another.
use Rattle.uprog_gen.proofs.Common.{◌≡◌, ℕ, ◌+◌, ◌<◌, ◌≤◌, Bool, true, false, not, ◌||◌, cond, List}
use Rattle.uprog_gen.proofs.Common.{[], ◌∷◌, ◌++◌, map, length, take, Some, refl, sym, ap, ◌∙◌}
use Rattle.uprog_gen.proofs.Common.{subst, arith, bytes_eq, count_by, slice_index_or, filter}
use Rattle.uprog_gen.proofs.Common.{map-append, sum_by-append, sum_by-cons, Kind, Word, Bit, Param}
use Rattle.uprog_gen.proofs.Common.{State, Equation, Visit, changed, is_among, same_kind, param}
use Rattle.uprog_gen.proofs.Common.{defines, names_of, Differ, same_name, other_way, NameMap, Slots}
use Rattle.uprog_gen.proofs.Common.{slots_of}
use Rattle.std.specs.List.{list_any}
use Rattle.std.proofs.lemmas.List.{take_more}
use Rattle.std.proofs.lemmas.List.Sums.{count_by-le-length}
use Rattle.op_text.specs.declared.tree.Assign.{Assign}
use Rattle.op_text.specs.Language.{equation}
use Rattle.uprog_gen.specs.Layout.{Lay, is_scratch, defined_lays, found}
use Rattle.uprog_gen.specs.Laying.{placed, Lays, states_defined, words_defined}
use Rattle.uprog_gen.proofs.Naming.Lays.{params_of, found_new, or_else}

pub placed_same : (f g : Slots) (ls : List Lay) → ((n : List ℕ) → f n ≡ g n) → (n : List ℕ)
    → placed f ls n ≡ placed g ls n
placed_same f g [] e n = e n
placed_same f g (l ∷ ls) e n = placed_same (changed f l.name (Some l.slot))
    (changed g l.name (Some l.slot)) ls (λ m.
    ap (λ o. cond (bytes_eq m l.name) (Some l.slot) o) (e m)) n

pub placed-append : (f : Slots) (ls ms : List Lay) (n : List ℕ)
    → placed f (ls ++ ms) n ≡ placed (placed f ls) ms n
placed-append f [] ms n = refl
placed-append f (l ∷ ls) ms n = placed-append (changed f l.name (Some l.slot)) ls ms n

-- where no name stands twice, the last place is the first
pub placed_found : (f : Slots) (ls : List Lay) → Differ (names_of (params_of ls)) → (n : List ℕ)
    → placed f ls n ≡ or_else (found ls n) (f n)
placed_found f [] d n = refl
placed_found f (l ∷ ls) d n =
    let more = placed_found (changed f l.name (Some l.slot)) ls d.1 n in
    let none = λ (e : bytes_eq l.name n ≡ true). found_new ls n
    (ap (is_among (names_of (params_of ls))) (sym (same_name l.name n e)) ∙ d.0) in
    let turn = other_way n l.name in grind (arith, more, none, turn)

module _ (results : List (List ℕ)) where
  abbrev bits_in : List Param → ℕ
  bits_in ps = count_by (is_scratch results Bit) ps

  abbrev words_in : List Param → ℕ
  words_in ps = count_by (is_scratch results Word) ps

  pub defined_lays-append : (b w : ℕ) (ps qs : List Param)
      → defined_lays results b w (ps ++ qs) ≡ defined_lays results b w ps
      ++ defined_lays results (b + bits_in ps) (w + words_in ps) qs
  defined_lays-append b w [] qs =
      let e : b ≡ b + 0 = omega arith in
      let f : w ≡ w + 0 = omega arith in
      ap (λ x. defined_lays results x w qs) e ∙ ap (λ y. defined_lays results (b + 0) y qs) f
  defined_lays-append b w (p ∷ ps) qs =
      let b' = cond (is_scratch results Bit p) (b + 1) b in
      let w' = cond (is_scratch results Word p) (w + 1) w in
      let bits = sum_by-cons (λ (q : Param). cond (is_scratch results Bit q) 1 0) p ps in
      let words = sum_by-cons (λ (q : Param). cond (is_scratch results Word q) 1 0) p ps in
      let e : b' + bits_in ps ≡ b + bits_in (p ∷ ps) = grind (arith, bits) in
      let f : w' + words_in ps ≡ w + words_in (p ∷ ps) = grind (arith, words) in
      rw (defined_lays-append b' w' ps qs, e, f) refl

  pub lays_none : (m : NameMap) → Lays results [] m m
  lays_none m = record { at = λ n. refl; bits = omega arith; words = omega arith }

  pub lays_then : (ps qs : List Param) (a b c : NameMap) → Lays results ps a b → Lays results qs b c
      → Lays results (ps ++ qs) a c
  lays_then ps qs a b c f g = record {
    at = λ n. g.at n ∙ placed_same (slots_of b) (placed (slots_of a)
        (defined_lays results a.free_bit a.free_word ps))
        (defined_lays results b.free_bit b.free_word qs) f.at n ∙ rw (
          f.bits,
          f.words,
          defined_lays-append a.free_bit a.free_word ps qs,
          placed-append (slots_of a) (defined_lays results a.free_bit a.free_word ps)
              (defined_lays results (a.free_bit + bits_in ps) (a.free_word + words_in ps) qs) n,
        ) refl;
    bits = omega (
      arith,
      g.bits,
      f.bits,
      sum_by-append (λ (q : Param). cond (is_scratch results Bit q) 1 0) ps qs,
    );
    words = omega (
      arith,
      g.words,
      f.words,
      sum_by-append (λ (q : Param). cond (is_scratch results Word q) 1 0) ps qs,
    );
  }

-- one more of a list
pub one_more : {A : Type 0} (xs : List A) (k : ℕ) (x : A) → k < length xs
    → x ≡ slice_index_or xs k x → take (k + 1) xs ≡ take k xs ++ x ∷ []
one_more xs k x lt e = take_more xs k x lt ∙ ap (λ y. take k xs ++ y ∷ []) (sym e)

-- what a block defines, one after another
pub states_more : (states : List State) (k : ℕ) (s : State) → k < length states
    → s ≡ slice_index_or states k s → states_defined (take (k + 1) states)
    ≡ states_defined (take k states) ++ param s.name Bit ∷ []
states_more states k s lt e = ap states_defined (one_more states k s lt e)
    ∙ map-append (λ (x : State). param x.name Bit) (take k states) (s ∷ [])

any_names : (states : List State) (name : List ℕ)
    → list_any (λ (s : State). bytes_eq s.name name) states
    ≡ is_among (map (λ (s : State). s.name) states) name
any_names [] name = refl
any_names (s ∷ states) name = ap (λ b. bytes_eq s.name name || b) (any_names states name)

abbrev is_word : List State → List ℕ → Bool
is_word states n = not (is_among (map (λ (s : State). s.name) states) n)

filter_map-append : (states : List State) (xs : List Assign) (a : Assign)
    → words_defined states (xs ++ a ∷ []) ≡ words_defined states xs ++ words_defined states (a ∷ [])
filter_map-append states [] a = refl
filter_map-append states (x ∷ xs) a = let more = filter_map-append states xs a in
    grind (arith, more)

pub words_more : (states : List State) (assigns : List Assign) (k : ℕ) (a : Assign)
    → k < length assigns → a ≡ slice_index_or assigns k a
    → words_defined states (take (k + 1) assigns) ≡ words_defined states (take k assigns)
    ++ words_defined states (a ∷ [])
words_more states assigns k a lt e = ap (words_defined states) (one_more assigns k a lt e)
    ∙ filter_map-append states (take k assigns) a

pub a_word : (states : List State) (a : Assign)
    → list_any (λ (s : State). bytes_eq s.name a.name) states ≡ false
    → words_defined states (a ∷ []) ≡ param a.name Word ∷ []
a_word states a h = ap (λ b. map (λ n. param n Word) (cond (not b) (a.name ∷ []) []))
    (sym (any_names states a.name) ∙ h)

pub no_word : (states : List State) (a : Assign)
    → list_any (λ (s : State). bytes_eq s.name a.name) states ≡ true
    → words_defined states (a ∷ []) ≡ []
no_word states a h = ap (λ b. map (λ n. param n Word) (cond (not b) (a.name ∷ []) []))
    (sym (any_names states a.name) ∙ h)

-- how many rows of scratch one name takes
pub one_name : (results : List (List ℕ)) (k : Kind) (p : Param)
    → count_by (is_scratch results k) (p ∷ []) ≤ 1
one_name results k p = omega (arith, count_by-le-length (is_scratch results k) (p ∷ []))

pub one_word : (results : List (List ℕ)) (k : Kind) (states : List State) (a : Assign)
    → count_by (is_scratch results k) (words_defined states (a ∷ [])) ≤ 1
one_word results k states a =
    let short : length (words_defined states (a ∷ [])) ≤ 1 = grind arith in
    omega (arith, count_by-le-length (is_scratch results k) (words_defined states (a ∷ [])), short)

state_params : (states : List State) → states_defined states
    ≡ map (λ n. param n Bit) (map (λ (s : State). s.name) states)
state_params [] = refl
state_params (s ∷ states) = ap (λ l. param s.name Bit ∷ l) (state_params states)

-- names of one kind take no scratch of the other
none_of : (results : List (List ℕ)) (j k : Kind) → same_kind k j ≡ false → (ns : List (List ℕ))
    → count_by (is_scratch results j) (map (λ n. param n k) ns) ≡ 0
none_of results j k e [] = refl
none_of results j k e (n ∷ ns) =
    let cons = sum_by-cons (λ (q : Param). cond (is_scratch results j q) 1 0) (param n k)
    (map (λ m. param m k) ns) in
    let more = none_of results j k e ns in grind (arith, cons, e, more)

pub words_no_bits : (results : List (List ℕ)) (states : List State) (assigns : List Assign)
    → count_by (is_scratch results Bit) (words_defined states assigns) ≡ 0
words_no_bits results states assigns = none_of results Bit Word refl
    (filter (is_word states) (map (λ (a : Assign). a.name) assigns))

pub states_no_words : (results : List (List ℕ)) (states : List State)
    → count_by (is_scratch results Word) (states_defined states) ≡ 0
states_no_words results states = ap (count_by (is_scratch results Word)) (state_params states)
    ∙ none_of results Word Bit refl (map (λ (s : State). s.name) states)

-- what a block defines
equation_names : (assigns : List Assign) → map (λ (e : Equation). e.name) (map equation assigns)
    ≡ map (λ (a : Assign). a.name) assigns
equation_names [] = refl
equation_names (a ∷ assigns) = ap (λ l. a.name ∷ l) (equation_names assigns)

pub block_defined : (known : List Param) (down : Bool) (states : List State)
    (lets assigns : List Assign) → states_defined states ++ words_defined states assigns
    ≡ defines known (Visit (record {
      down = down;
      states = states;
      lets = map equation lets;
      assigns = map equation assigns;
    }))
block_defined known down states lets assigns =
    ap (λ l. l ++ words_defined states assigns) (state_params states)
    ∙ ap (λ ns. map (λ n. param n Bit) (map (λ (s : State). s.name) states)
    ++ map (λ n. param n Word) (filter (is_word states) ns)) (sym (equation_names assigns))

pub block_lays : (results : List (List ℕ)) (down : Bool) (states : List State) (lets assigns :
    List Assign) (old mid new : NameMap) → Lays results (states_defined states) old mid
    → Lays results (words_defined states assigns) mid new → (known : List Param)
    → Lays results (defines known (Visit (record {
      down = down;
      states = states;
      lets = map equation lets;
      assigns = map equation assigns;
    }))) old new
block_lays results down states lets assigns old mid new f g known =
    subst (λ ps. Lays results ps old new) (block_defined known down states lets assigns)
    (lays_then results (states_defined states) (words_defined states assigns) old mid new f g)
