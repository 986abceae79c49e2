-- The widths that a word lists: its parts, and spans of numbers that rise.
use Rattle.simdram_cli.proofs.Common.{◌≡◌, ℕ, zero, suc, ◌+◌, ◌-◌, ◌<◌, ◌≤◌, Bool, true, false}
use Rattle.simdram_cli.proofs.Common.{cond, List, [], ◌∷◌, ◌++◌, length, take, drop, Option, Some}
use Rattle.simdram_cli.proofs.Common.{None, refl, sym, ◌∙◌, ap, subst, arith, ◌==◌, ◌&&◌, nat_le}
use Rattle.simdram_cli.proofs.Common.{nat_lt, AllByRecursion, list_all, range_with_len, option_map}
use Rattle.simdram_cli.proofs.Common.{leb-true, WIDTH_MAX, begun}
use Rattle.std.proofs.lemmas.Bool.{false_from_ne_true, ltb-true}
use Rattle.std.proofs.Common.{not, flat_map}
use Rattle.std.specs.List.{after_first, before_first, position_or_len}
use Rattle.std.proofs.lemmas.List.{append_assoc, append-nil}
use Rattle.std.proofs.lemmas.List.Elements.{All-from_recursion}
use Rattle.std.proofs.lemmas.Bool.Decides.{nat_tests}
use Rattle.prog_text.specs.Widths.{AreWidths}
use Rattle.simdram_cli.specs.Numbers.{is_number, value_of}
use Rattle.simdram_cli.specs.Widths.{first_of, is_span, last_of, parts_of, rise_from, span_numbers}
use Rattle.simdram_cli.specs.Widths.{widths_in}

-- a comma
abbrev pub is_comma : ℕ → Bool
is_comma b = b == 44

none_case : (b : ℕ) (bs : List ℕ) (c : Bool)
    → cond (not c) (1 + position_or_len is_comma bs) 0 ≡ suc (length bs)
    → (position_or_len is_comma bs ≡ length bs → parts_of bs ≡ bs ∷ [])
    → cond c ([] ∷ parts_of bs) (begun b (parts_of bs)) ≡ (b ∷ bs) ∷ []
none_case b bs true e rest = absurd (omega (arith, e))
none_case b bs false e rest = ap (begun b) (rest (omega (arith, e)))

-- a word without a comma is one part
pub no_comma : (word : List ℕ) → position_or_len is_comma word ≡ length word
    → parts_of word ≡ word ∷ []
no_comma [] e = refl
no_comma (b ∷ bs) e = none_case b bs (b == 44) e (no_comma bs)

abbrev CutAt : List ℕ → Type 0
CutAt word = parts_of word ≡ before_first is_comma word ∷ parts_of (after_first is_comma word)

comma_case : (b : ℕ) (bs : List ℕ) (c : Bool)
    → cond (not c) (1 + position_or_len is_comma bs) 0 < suc (length bs)
    → (position_or_len is_comma bs < length bs → CutAt bs)
    → cond c ([] ∷ parts_of bs) (begun b (parts_of bs))
    ≡ take (cond (not c) (1 + position_or_len is_comma bs) 0) (b ∷ bs)
    ∷ parts_of (drop (cond (not c) (1 + position_or_len is_comma bs) 0 + 1) (b ∷ bs))
comma_case b bs true lt rest = refl
comma_case b bs false lt rest =
    let p = position_or_len is_comma bs in
    let one : suc p ≡ 1 + p = omega arith in
    let two : suc (p + 1) ≡ 1 + p + 1 = omega arith in
    ap (begun b) (rest (omega (arith, lt)))
    ∙ ap (λ n. take n (b ∷ bs) ∷ parts_of (drop (p + 1) bs)) one
    ∙ ap (λ m. take (1 + p) (b ∷ bs) ∷ parts_of (drop m (b ∷ bs))) two

-- a word with a comma is cut at its first one
pub first_comma : (word : List ℕ) → position_or_len is_comma word < length word → CutAt word
first_comma [] lt = absurd (omega (arith, lt))
first_comma (b ∷ bs) lt = comma_case b bs (b == 44) lt (first_comma bs)

-- tests

both_true : (a b : Bool) → a ≡ true → b ≡ true → a && b ≡ true
both_true true true p q = refl
both_true true false p q = absurd (cc)
both_true false b p q = absurd (cc)

first_true : (a b : Bool) → a && b ≡ true → a ≡ true
first_true true b e = refl
first_true false b e = absurd (cc)

second_true : (a b : Bool) → a && b ≡ true → b ≡ true
second_true true b e = e
second_true false b e = absurd (cc)

is_below : (a b : ℕ) → a < b → nat_lt a b ≡ true
is_below a b lt = grind (arith, nat_tests)

is_within : (a b : ℕ) → a ≤ b → nat_le a b ≡ true
is_within a b le = grind (arith, nat_tests)

-- numbers that rise

-- a span rises that begins above, and ends within
pub span_rises : (low a k : ℕ) → low < a → a + k ≤ WIDTH_MAX
    → rise_from low (range_with_len a (suc k)) ≡ true
span_rises low a zero above within =
    both_true (nat_lt low a) _ (is_below low a above)
    (both_true (nat_le a WIDTH_MAX) true (is_within a WIDTH_MAX (omega (arith, within))) refl)
span_rises low a (suc k) above within =
    both_true (nat_lt low a) _ (is_below low a above)
    (both_true (nat_le a WIDTH_MAX) _ (is_within a WIDTH_MAX (omega (arith, within)))
    (span_rises a (a + 1) k (omega arith) (omega (arith, within))))

-- and no other
pub rises_above : (low a k : ℕ) → rise_from low (range_with_len a (suc k)) ≡ true → low < a
rises_above low a k e = ltb-true low a (first_true (nat_lt low a)
    (nat_le a WIDTH_MAX && rise_from a (range_with_len (a + 1) k)) e)

rises_rest : (low n : ℕ) (ns : List ℕ) → rise_from low (n ∷ ns) ≡ true → rise_from n ns ≡ true
rises_rest low n ns e = second_true (nat_le n WIDTH_MAX) (rise_from n ns)
    (second_true (nat_lt low n) (nat_le n WIDTH_MAX && rise_from n ns) e)

rises_within : (low n : ℕ) (ns : List ℕ) → rise_from low (n ∷ ns) ≡ true → n ≤ WIDTH_MAX
rises_within low n ns e = leb-true n WIDTH_MAX (first_true (nat_le n WIDTH_MAX) (rise_from n ns)
    (second_true (nat_lt low n) (nat_le n WIDTH_MAX && rise_from n ns) e))

pub rises_to : (low a k : ℕ) → rise_from low (range_with_len a (suc k)) ≡ true
    → a + k ≤ WIDTH_MAX
rises_to low a zero e = let le = rises_within low a [] e in omega (arith, le)
rises_to low a (suc k) e =
    let le = rises_to a (a + 1) k (rises_rest low a (range_with_len (a + 1) (suc k)) e) in
    omega (arith, le)

-- what rises behind a span
pub rises_behind : (low a k : ℕ) (ns : List ℕ) → rise_from low (range_with_len a (suc k)) ≡ true
    → rise_from low (range_with_len a (suc k) ++ ns) ≡ rise_from (a + k) ns
rises_behind low a zero ns e =
    let above = first_true (nat_lt low a) (nat_le a WIDTH_MAX && true) e in
    let within = first_true (nat_le a WIDTH_MAX) true
    (second_true (nat_lt low a) (nat_le a WIDTH_MAX && true) e) in
    let same : a ≡ a + 0 = omega arith in
    rw (above, within) (ap (λ x. rise_from x ns) same)
rises_behind low a (suc k) ns e =
    let rest = rise_from a (range_with_len (a + 1) (suc k)) in
    let above = first_true (nat_lt low a) (nat_le a WIDTH_MAX && rest) e in
    let both = second_true (nat_lt low a) (nat_le a WIDTH_MAX && rest) e in
    let within = first_true (nat_le a WIDTH_MAX) rest both in
    let same : a + 1 + k ≡ a + suc k = omega arith in
    rw (above, within) (rises_behind a (a + 1) k ns (second_true (nat_le a WIDTH_MAX) rest both)
    ∙ ap (λ x. rise_from x ns) same)

-- what does not rise is not mended by what follows
pub rises_before : (low : ℕ) (ms ns : List ℕ) → rise_from low (ms ++ ns) ≡ true
    → rise_from low ms ≡ true
rises_before low [] ns e = refl
rises_before low (m ∷ ms) ns e =
    let rest = rise_from m (ms ++ ns) in
    let both = second_true (nat_lt low m) (nat_le m WIDTH_MAX && rest) e in
    both_true (nat_lt low m) _ (first_true (nat_lt low m) (nat_le m WIDTH_MAX && rest) e)
    (both_true (nat_le m WIDTH_MAX) _ (first_true (nat_le m WIDTH_MAX) rest both)
    (rises_before m ms ns (second_true (nat_le m WIDTH_MAX) rest both)))

-- numbers that rise are widths
widths_rise : (low : ℕ) (ns : List ℕ) → rise_from low ns ≡ true
    → AllByRecursion (λ n. (0 < n) × (n ≤ WIDTH_MAX)) ns
widths_rise low [] e = tt
widths_rise low (n ∷ ns) e =
    let above = ltb-true low n (first_true (nat_lt low n) (nat_le n WIDTH_MAX && rise_from n ns) e)
    in
    ((omega (arith, above), rises_within low n ns e), widths_rise n ns (rises_rest low n ns e))

some_widths : (b : Bool) (ns ws : List ℕ) → (b ≡ true → AreWidths ns)
    → cond b (Some ns) None ≡ Some ws → AreWidths ws
some_widths true ns ws are e = let same : ns ≡ ws = cc in subst AreWidths same (are refl)
some_widths false ns ws are e = absurd (cc)

-- a word lists widths
widths_are : (word ws : List ℕ) → widths_in word ≡ Some ws → AreWidths ws
widths_are word ws e =
    let ns = flat_map span_numbers (parts_of word) in
    some_widths (list_all is_span (parts_of word) && rise_from 0 ns) ns ws
    (λ t. All-from_recursion (λ (n : ℕ). (0 < n) × (n ≤ WIDTH_MAX)) ns
    (widths_rise 0 ns (second_true (list_all is_span (parts_of word)) (rise_from 0 ns) t))) e

listed_as : {A : Type 0} (x : A) (items : A → List ℕ) (make : List ℕ → A) (o : Option (List ℕ))
    → ((ws : List ℕ) → items (make ws) ≡ ws) → option_map make o ≡ Some x → o ≡ Some (items x)
listed_as x items make (Some ws) own e =
    ap (λ n. Some n) (sym (own ws)) ∙ ap (option_map items) e
listed_as x items make None own e = absurd (cc)

-- so they are as the code keeps them
pub widths_by : {A : Type 0} (x : A) (items : A → List ℕ) (make : List ℕ → A) (word : List ℕ)
    → ((ws : List ℕ) → items (make ws) ≡ ws) → option_map make (widths_in word) ≡ Some x
    → AreWidths (items x)
widths_by x items make word own e =
    widths_are word (items x) (listed_as x items make (widths_in word) own e)

-- what the parts that are left come to, behind widths of which this is the last
abbrev pub listed : ℕ → List ℕ → List (List ℕ) → Option (List ℕ)
listed low ws parts =
    cond (list_all is_span parts && rise_from low (flat_map span_numbers parts))
    (Some (ws ++ flat_map span_numbers parts)) None

-- how many numbers a span has
span_is : (part : List ℕ) → is_span part ≡ true
    → (k : ℕ) × (span_numbers part ≡ range_with_len (value_of (first_of part)) (suc k))
    × (value_of (first_of part) + k ≡ value_of (last_of part))
span_is part e =
    let a = value_of (first_of part) in
    let b = value_of (last_of part) in
    let ordered = is_number (last_of part) && nat_le a b in
    let le : a ≤ b = leb-true a b (second_true (is_number (last_of part)) (nat_le a b)
    (second_true (is_number (first_of part)) ordered e)) in
    let many : b + 1 - a ≡ suc (b - a) = omega (arith, le) in
    let last : a + (b - a) ≡ b = omega (arith, le) in
    (b - a, ap (range_with_len a) many, last)

-- a span's first number is not above its last
pub span_ordered : (part : List ℕ) → is_span part ≡ true
    → value_of (first_of part) ≤ value_of (last_of part)
span_ordered part span = let s = span_is part span in omega (arith, s.2)

-- a span that begins above a number and ends within the widths rises from it
pub span_listed : (low : ℕ) (part : List ℕ) → is_span part ≡ true → low < value_of (first_of part)
    → value_of (last_of part) ≤ WIDTH_MAX → rise_from low (span_numbers part) ≡ true
span_listed low part span above within =
    let s = span_is part span in
    ap (rise_from low) s.1
    ∙ span_rises low (value_of (first_of part)) s.0 above (omega (arith, s.2, within))

-- and no other
pub span_not : (low : ℕ) (part : List ℕ)
    → (is_span part ≡ true → low < value_of (first_of part)
    → value_of (last_of part) ≤ WIDTH_MAX → ⊥)
    → (is_span part && rise_from low (span_numbers part)) ≡ false
span_not low part never =
    let rise = rise_from low (span_numbers part) in
    false_from_ne_true (is_span part && rise) (λ t.
    let span = first_true (is_span part) rise t in
    let s = span_is part span in
    let a = value_of (first_of part) in
    let risen = ap (rise_from low) (sym s.1) ∙ second_true (is_span part) rise t in
    let to = rises_to low a s.0 risen in
    never span (rises_above low a s.0 risen) (omega (arith, s.2, to)))

-- one more part, whose numbers are listed
pub listed_more : (low last : ℕ) (ws new part : List ℕ) (parts : List (List ℕ))
    → last ≡ value_of (last_of part) → is_span part ≡ true
    → rise_from low (span_numbers part) ≡ true → new ≡ ws ++ span_numbers part
    → listed low ws (part ∷ parts) ≡ listed last new parts
listed_more low last ws new part parts at span rise more =
    let s = span_is part span in
    let a = value_of (first_of part) in
    let rest = flat_map span_numbers parts in
    let behind : rise_from low (span_numbers part ++ rest) ≡ rise_from last rest =
    ap (λ ns. rise_from low (ns ++ rest)) s.1
    ∙ rises_behind low a s.0 rest (ap (rise_from low) (sym s.1) ∙ rise)
    ∙ ap (λ x. rise_from x rest) (s.2 ∙ sym at) in
    let whole : ws ++ (span_numbers part ++ rest) ≡ new ++ rest =
    sym (append_assoc ws (span_numbers part) rest) ∙ ap (λ ns. ns ++ rest) (sym more) in
    ap (λ c. cond ((c && list_all is_span parts) && rise_from low (span_numbers part ++ rest))
    (Some (ws ++ (span_numbers part ++ rest))) None) span
    ∙ ap (λ c. cond (list_all is_span parts && c) (Some (ws ++ (span_numbers part ++ rest))) None)
    behind
    ∙ ap (λ ns. cond (list_all is_span parts && rise_from last rest) (Some ns) None) whole

-- one whose numbers are not
pub listed_not : (low : ℕ) (ws part : List ℕ) (parts : List (List ℕ))
    → (is_span part && rise_from low (span_numbers part)) ≡ false
    → listed low ws (part ∷ parts) ≡ None
listed_not low ws part parts e =
    let rest = flat_map span_numbers parts in
    let all = (is_span part && list_all is_span parts) && rise_from low (span_numbers part ++ rest)
    in
    ap (λ c. cond c (Some (ws ++ (span_numbers part ++ rest))) None) (false_from_ne_true all (λ t.
    let spans = first_true (is_span part && list_all is_span parts)
    (rise_from low (span_numbers part ++ rest)) t in
    let rise = second_true (is_span part && list_all is_span parts)
    (rise_from low (span_numbers part ++ rest)) t in
    let both = both_true (is_span part) (rise_from low (span_numbers part))
    (first_true (is_span part) (list_all is_span parts) spans)
    (rises_before low (span_numbers part) rest rise) in
    cc))

-- and none
pub listed_all : (low : ℕ) (ws : List ℕ) → listed low ws [] ≡ Some ws
listed_all low ws = ap (λ ns. Some ns) (append-nil ws)

-- what is made of listed widths
pub none_made : {A : Type 0} (make : List ℕ → A) (o : Option (List ℕ)) → o ≡ None
    → None ≡ option_map make o
none_made make o e = ap (option_map make) (sym e)

pub some_made : {A : Type 0} (make : List ℕ → A) (o : Option (List ℕ)) (ws : List ℕ)
    → o ≡ Some ws → Some (make ws) ≡ option_map make o
some_made make o ws e = ap (option_map make) (sym e)

-- the parts of a word that was cut at its first comma
pub parts_cut : (word part more : List ℕ) → position_or_len is_comma word < length word
    → part ≡ before_first is_comma word → more ≡ after_first is_comma word
    → parts_of word ≡ part ∷ parts_of more
parts_cut word part more lt front back =
    first_comma word lt
    ∙ ap (λ p. p ∷ parts_of (after_first is_comma word)) (sym front)
    ∙ ap (λ m. part ∷ parts_of m) (sym back)

-- one number more
pub range_more : (a k : ℕ)
    → range_with_len a (suc k) ≡ range_with_len a k ++ (a + k) ∷ []
range_more a zero = let same : a ≡ a + 0 = omega arith in ap (λ x. x ∷ []) same
range_more a (suc k) =
    let same : a + 1 + k ≡ a + suc k = omega arith in
    ap (λ ns. a ∷ ns) (range_more (a + 1) k ∙ ap (λ x. range_with_len (a + 1) k ++ x ∷ []) same)
