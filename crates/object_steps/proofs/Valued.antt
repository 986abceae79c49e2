-- The text of values, and the values of some banks.
use Rattle.object_steps.proofs.Common.{◌≡◌, ℕ, zero, suc, ◌+◌, ◌-◌, ◌*◌, ◌/◌, ◌<◌, ◌≤◌, List, []}
use Rattle.object_steps.proofs.Common.{◌∷◌, ◌++◌, length, map, take, drop, refl, sym, ◌∙◌, ap}
use Rattle.object_steps.proofs.Common.{arith, add-one, append_assoc, append-nil, length-append, inl}
use Rattle.object_steps.proofs.Common.{inr, Bool, true, false, flat_map, codes, decimal, min}
use Rattle.object_steps.proofs.Common.{range_with_len, mul_comm, mul-le-mul_right, suc-mul}
use Rattle.object_steps.proofs.Common.{Geometry, Object, columns, segments, Named, Routines, Place}
use Rattle.object_steps.proofs.Common.{place_text, is_absent, goes_past, rows_of, cases_lt}
use Rattle.object_steps.proofs.Common.{div_ceil_times, get_or, Banks, column_count, segments_of}
use Rattle.object_steps.proofs.Common.{stage_number, stage_rows, nat_le}
use Rattle.std.specs.Prelude.{if◌then◌else◌}
use Rattle.std.proofs.lemmas.Nat.{div-mul-add}
use Rattle.std.proofs.Math.Seq.{take-append-add}
use Rattle.std.proofs.lemmas.Grind.{flat_map-append}
use Rattle.std.proofs.lemmas.List.{take-append-drop, map-append, length-map, take_more, ext_get_or}
use Rattle.std.proofs.lemmas.List.{get_or-take, get_or-drop, get_or-map, length-take, length-drop}
use Rattle.std.proofs.lemmas.List.FromFn.{take-map-range_with_len, length-range_with_len}
use Rattle.std.proofs.lemmas.List.FromFn.{get_or-range_with_len}
use Rattle.dram_model.specs.Column.{Column}
use Rattle.dram_model.specs.Elements.{below, number}
use Rattle.object_steps.specs.Lines.{printed_line, values_text}

text_joined : (xs ys : List ℕ) → values_text (xs ++ ys) ≡ values_text xs ++ values_text ys
text_joined xs ys = flat_map-append (λ v. codes " " ++ decimal v) xs ys

-- the first values, and the others
pub values_split : (f : ℕ → ℕ) (k n : ℕ) → k ≤ n
    → values_text (map f (range_with_len 0 k))
    ++ values_text (drop k (map f (range_with_len 0 n)))
    ≡ values_text (map f (range_with_len 0 n))
values_split f k n l =
    sym (text_joined (map f (range_with_len 0 k)) (drop k (map f (range_with_len 0 n))))
    ∙ ap values_text (ap (λ xs. xs ++ drop k (map f (range_with_len 0 n)))
    (sym (take-map-range_with_len f 0 n k l)) ∙ take-append-drop k (map f (range_with_len 0 n)))

-- one more value of a list
pub text_more : (values : List ℕ) (i v : ℕ) → i < length values → v ≡ get_or values i 0
    → values_text (take (i + 1) values)
    ≡ values_text (take i values) ++ (codes " " ++ decimal v)
text_more values i v l e =
    let piece : ℕ → List ℕ = λ x. codes " " ++ decimal x in
    ap values_text (take_more values i 0 l) ∙ text_joined (take i values) (get_or values i 0 ∷ [])
    ∙ ap (λ xs. values_text (take i values) ++ xs)
    (append-nil (piece (get_or values i 0)) ∙ ap piece (sym e))

-- the first values of a list, and the others
pub text_split : (values : List ℕ) (i : ℕ) → values_text (take i values)
    ++ values_text (drop i values) ≡ values_text values
text_split values i = sym (text_joined (take i values) (drop i values))
    ∙ ap values_text (take-append-drop i values)

-- what a block of 64 columns adds to those before it
pub block_text : (f : ℕ → ℕ) (count block here : ℕ) (numbers : List ℕ) → 64 * block < count
    → length numbers ≡ 64 → here ≡ min 64 (count - 64 * block)
    → ((c : ℕ) → c < 64 → get_or numbers c 0 ≡ f (64 * block + c))
    → values_text (map f (range_with_len 0 (min count (64 * block))))
    ++ values_text (take here numbers)
    ≡ values_text (map f (range_with_len 0 (min count (64 * (block + 1)))))
block_text f count block here numbers l size e is =
    let k : ℕ = 64 * block in
    let before : min count (64 * block) ≡ 64 * block = omega arith in
    let after : min count (64 * (block + 1)) ≡ 64 * block + here = omega (arith, e) in
    let few : here ≤ 64 = omega (arith, e) in
    let all : List ℕ = map f (range_with_len 0 (64 * block + here)) in
    let long : length (map f (range_with_len 0 (64 * block + here))) ≡ 64 * block + here =
    length-map (range_with_len 0 (64 * block + here)) f
    ∙ length-range_with_len 0 (64 * block + here) in
    let front : length (take here numbers) ≡ here = omega (arith, size, length-take here numbers) in
    let rest : length (drop (64 * block) (map f (range_with_len 0 (64 * block + here)))) ≡ here =
    omega (
      arith,
      long,
      length-drop (64 * block) (map f (range_with_len 0 (64 * block + here))),
    ) in
    let same : take here numbers
    ≡ drop (64 * block) (map f (range_with_len 0 (64 * block + here))) =
    ext_get_or 0 (take here numbers)
    (drop (64 * block) (map f (range_with_len 0 (64 * block + here)))) (front ∙ sym rest) (λ c m.
    let own : c < here = omega (arith, front) in
    let inside : 64 * block + c < length (range_with_len 0 (64 * block + here)) =
    omega (arith, length-range_with_len 0 (64 * block + here)) in
    let lies : 64 * block + c < 64 * block + here = omega arith in
    let at : get_or (range_with_len 0 (64 * block + here)) (64 * block + c) 0 ≡ 64 * block + c =
    get_or-range_with_len 0 (64 * block + here) (64 * block + c) 0 lies ∙ omega arith in
    get_or-take here numbers c 0 own ∙ is c (omega arith) ∙ ap f (sym at)
    ∙ sym (get_or-map f (range_with_len 0 (64 * block + here)) (64 * block + c) 0 0 inside)
    ∙ sym (get_or-drop (64 * block) (map f (range_with_len 0 (64 * block + here))) c 0)) in
    ap (λ n. values_text (map f (range_with_len 0 n)) ++ values_text (take here numbers)) before
    ∙ ap (λ xs. values_text (map f (range_with_len 0 (64 * block))) ++ values_text xs) same
    ∙ values_split f (64 * block) (64 * block + here) (omega arith)
    ∙ ap (λ n. values_text (map f (range_with_len 0 n))) (sym after)

-- one more of what a range gives
pub flat_suc : {X : Type 0} (E : ℕ → List X) (a n : ℕ) → flat_map E (range_with_len a (suc n))
    ≡ flat_map E (range_with_len a n) ++ E (a + n)
flat_suc E a zero = let e : a + 0 ≡ a = omega arith in append-nil (E a) ∙ ap E (sym e)
flat_suc E a (suc n) =
    let e : a + 1 + n ≡ a + suc n = omega arith in
    ap (λ xs. E a ++ xs) (flat_suc E (a + 1) n)
    ∙ sym (append_assoc (E a) (flat_map E (range_with_len (a + 1) n)) (E (a + 1 + n)))
    ∙ ap (λ k. (E a ++ flat_map E (range_with_len (a + 1) n)) ++ E k) e

below_more : (k : ℕ) (banks : Banks) → below (k + 1) banks ≡ below k banks ++ banks k
below_more k banks =
    let z : 0 + k ≡ k = omega arith in
    ap (λ n. below n banks) (add-one k) ∙ flat_suc banks 0 k
    ∙ ap (λ n. below k banks ++ banks n) z

below_part : (k j : ℕ) (banks : Banks) → (rest : List Column)
    × (below k banks ++ rest ≡ below (k + j) banks)
below_part k zero banks = let z : k ≡ k + 0 = omega arith in (
  [],
  append-nil (below k banks) ∙ ap (λ n. below n banks) z,
)
below_part k (suc j) banks =
    let so_far = below_part k j banks in
    let e : k + j + 1 ≡ k + suc j = omega arith in (
      so_far.0 ++ banks (k + j),
      sym (append_assoc (below k banks) so_far.0 (banks (k + j)))
          ∙ ap (λ xs. xs ++ banks (k + j)) so_far.1 ∙ sym (below_more (k + j) banks)
          ∙ ap (λ n. below n banks) e,
    )

take_part : (n : ℕ) (xs ys : List ℕ) → (rest : List ℕ) × (take n xs ++ rest ≡ take n (xs ++ ys))
take_part zero xs ys = ([], refl)
take_part (suc n) [] ys = (take (suc n) ys, refl)
take_part (suc n) (x ∷ xs) ys = let part = take_part n xs ys in (
  part.0,
  ap (λ zs. x ∷ zs) part.1,
)

-- the values of the first banks
abbrev pub first_values : (base n count k : ℕ) → Banks → List ℕ
first_values base n count k banks = take count (map (number base n) (below k banks))

-- the text of the first banks' values is the front of all
pub values_part : (base n count k all : ℕ) (banks : Banks) → k ≤ all → (rest : List ℕ)
    × (values_text (first_values base n count k banks) ++ rest
    ≡ values_text (first_values base n count all banks))
values_part base n count k all banks l =
    let f = number base n in
    let e : k + (all - k) ≡ all = omega arith in
    let more = below_part k (all - k) banks in
    let part = take_part count (map f (below k banks)) (map f more.0) in
    let whole : map f (below k banks) ++ map f more.0 ≡ map f (below all banks) =
    sym (map-append f (below k banks) more.0) ∙ ap (map f) (more.1 ∙ ap (λ m. below m banks) e) in (
      values_text part.0,
      sym (text_joined (take count (map f (below k banks))) part.0)
          ∙ ap values_text (part.1 ∙ ap (take count) whole),
    )

below_length : (columns k : ℕ) (banks : Banks)
    → ((bank : ℕ) → bank < k → length (banks bank) ≡ columns)
    → length (below k banks) ≡ k * columns
below_length columns zero banks h = omega arith
below_length columns (suc k) banks h =
    let before = below_length columns k banks (λ bank l. h bank (omega arith)) in
    let both = ap length (below_more k banks) ∙ length-append (below k banks) (banks k) in
    let here = h k (omega arith) in
    let e : k + 1 ≡ suc k = omega arith in
    ap (λ n. length (below n banks)) (sym e) ∙ omega (arith, both, before, here, suc-mul k columns)

take_all : (n : ℕ) (xs : List ℕ) → length xs ≤ n → take n xs ≡ xs
take_all zero [] l = refl
take_all zero (x ∷ xs) l = absurd (omega arith)
take_all (suc n) [] l = refl
take_all (suc n) (x ∷ xs) l = ap (λ ys. x ∷ ys) (take_all n xs (omega arith))

take_min : (columns rest : ℕ) (xs : List ℕ) → length xs ≡ columns
    → take (min columns rest) xs ≡ take rest xs
take_min columns rest xs e = elim (cases_lt columns rest) [
  | inl lt ↦ (let m : min columns rest ≡ columns = omega arith in
      ap (λ n. take n xs) m ∙ take_all columns xs (omega arith)
      ∙ sym (take_all rest xs (omega arith)))
  | inr ge ↦ (let m : min columns rest ≡ rest = omega arith in ap (λ n. take n xs) m)
]

-- one more bank's values
next_values : (base n count columns k here : ℕ) (banks : Banks) (f : ℕ → ℕ)
    → ((bank : ℕ) → bank ≤ k → length (banks bank) ≡ columns) → k * columns ≤ count
    → here ≡ min columns (count - k * columns)
    → map f (range_with_len 0 columns) ≡ map (number base n) (banks k)
    → first_values base n count (k + 1) banks
    ≡ first_values base n count k banks ++ map f (range_with_len 0 here)
next_values base n count columns k here banks f wide l e read =
    let num = number base n in
    let before = map num (below k banks) in
    let own = map num (banks k) in
    let long : length before ≡ k * columns =
    length-map (below k banks) num ∙ below_length columns k banks (λ bank m.
    wide bank (omega arith)) in
    let size : length own ≡ columns = length-map (banks k) num ∙ wide k (omega arith) in
    let split : count ≡ length before + (count - k * columns) = omega (arith, long) in
    let less : min columns (count - k * columns) ≤ columns = omega arith in
    let whole : map num (below (k + 1) banks) ≡ before ++ own =
    ap (map num) (below_more k banks) ∙ map-append num (below k banks) (banks k) in
    let kept : take count before ≡ before = take_all count before (omega (arith, long)) in
    let first : take (min columns (count - k * columns)) (map f (range_with_len 0 columns))
    ≡ map f (range_with_len 0 (min columns (count - k * columns))) =
    take-map-range_with_len f 0 columns (min columns (count - k * columns)) less in
    ap (take count) whole
    ∙ ap (λ m. take m (before ++ own)) split
    ∙ take-append-add before own (count - k * columns)
    ∙ ap (λ xs. xs ++ take (count - k * columns) own) (sym kept)
    ∙ ap (λ xs. take count before ++ xs) (sym (take_min columns (count - k * columns) own size)
    ∙ ap (take (min columns (count - k * columns))) (sym read) ∙ first
    ∙ ap (λ m. map f (range_with_len 0 m)) (sym e))

next_text : (base n count columns k here : ℕ) (banks : Banks) (f : ℕ → ℕ)
    → ((bank : ℕ) → bank ≤ k → length (banks bank) ≡ columns) → k * columns ≤ count
    → here ≡ min columns (count - k * columns)
    → map f (range_with_len 0 columns) ≡ map (number base n) (banks k)
    → values_text (first_values base n count (k + 1) banks)
    ≡ values_text (first_values base n count k banks)
    ++ values_text (map f (range_with_len 0 here))
next_text base n count columns k here banks f wide l e read =
    ap values_text (next_values base n count columns k here banks f wide l e read)
    ∙ text_joined (first_values base n count k banks) (map f (range_with_len 0 here))

stage_some : (n : ℕ) → 0 < stage_rows n
stage_some n = some (nat_le n 64) where
  some : (low : Bool) → 0 < (if low then 64 else 128)
  some true = omega arith
  some false = omega arith

-- the words of a row of a stage
stage_words : (n words len : ℕ) → len ≡ stage_rows n * words → len / stage_rows n ≡ words
stage_words n words len e =
    let rest : len ≡ words * stage_rows n + 0 = omega (arith, e, mul_comm (stage_rows n) words) in
    ap (λ m. m / stage_rows n) rest ∙ div-mul-add words (stage_rows n) 0 (stage_some n)

-- the elements of a bank begin before the last
bank_begins : (g : Geometry) (count bank : ℕ) → 0 < column_count g → bank < segments_of g count
    → bank * column_count g ≤ count
bank_begins g count bank some l =
    let next : bank + 1 ≤ segments_of g count = omega arith in
    let more : (bank + 1) * column_count g ≤ segments_of g count * column_count g =
    mul-le-mul_right (column_count g) next in
    let one : (bank + 1) * column_count g ≡ bank * column_count g + column_count g =
    ap (λ m. m * column_count g) (add-one bank) ∙ suc-mul bank (column_count g) in
    omega (arith, more, one, (div_ceil_times count (column_count g) some).1)

-- the text of one more bank, from its stage
pub bank_text : (g : Geometry) (o : Object) (bank here : ℕ) (start stage : List ℕ)
    (first now : Banks) → 0 < g.words → bank < segments g o
    → ((b : ℕ) → b ≤ bank → length (first b) ≡ column_count g)
    → here ≡ min (column_count g) (o.count - bank * column_count g)
    → length stage ≡ stage_rows o.width * g.words → now ≡ first
    → map (stage_number g.words o.width stage) (range_with_len 0 (column_count g))
    ≡ map (number o.base o.width) (now bank)
    → (start ++ values_text (first_values o.base o.width o.count bank first))
    ++ values_text (map (stage_number (length stage / stage_rows o.width) o.width stage)
    (range_with_len 0 here))
    ≡ start ++ values_text (first_values o.base o.width o.count (bank + 1) first)
bank_text g o bank here start stage first now words inside wide e long same read =
    let f = stage_number (length stage / stage_rows o.width) o.width stage in
    let is : length stage / stage_rows o.width ≡ g.words =
    stage_words o.width g.words (length stage) long in
    let read' : map f (range_with_len 0 (column_count g))
    ≡ map (number o.base o.width) (first bank) =
    ap (λ w. map (stage_number w o.width stage) (range_with_len 0 (column_count g))) is ∙ read
    ∙ ap (λ (banks : Banks). map (number o.base o.width) (banks bank)) same in
    append_assoc start (values_text (first_values o.base o.width o.count bank first))
    (values_text (map f (range_with_len 0 here)))
    ∙ ap (λ xs. start ++ xs) (sym (next_text o.base o.width o.count (column_count g) bank here first
    f wide (bank_begins g o.count bank (omega arith) inside) e read'))

-- the text up to a bank is the front of all
pub front_text : (g : Geometry) (o : Object) (bank : ℕ) (start : List ℕ) (first : Banks)
    → bank ≤ segments g o → (rest : List ℕ)
    × ((start ++ values_text (first_values o.base o.width o.count bank first)) ++ rest
    ≡ start ++ values_text (take o.count (columns g first o)))
front_text g o bank start first l =
    let part = values_part o.base o.width o.count bank (segments g o) first l in (
      part.0,
      append_assoc start (values_text (first_values o.base o.width o.count bank first)) part.0
          ∙ ap (λ xs. start ++ xs) part.1,
    )

-- rows of whole banks
pub few_read : (bank n banks : ℕ) → bank < banks → (bank + 1) * n ≤ n * banks
few_read bank n banks l =
    let next : bank + 1 ≤ banks = omega arith in
    let up : (bank + 1) * n ≤ banks * n = mul-le-mul_right n next in
    omega (arith, up, mul_comm banks n)

line_text : (before shown colon text last : List ℕ)
    → (((before ++ shown) ++ colon) ++ text) ++ last
    ≡ (before ++ ((shown ++ colon) ++ text)) ++ last
line_text before shown colon text last =
    ap (λ xs. xs ++ last) (ap (λ xs. xs ++ text) (append_assoc before shown colon)
    ∙ append_assoc before (shown ++ colon) text)

-- the pieces of the line of an object that there is
pub printed_is : (g : Geometry) (operations : Routines) (table : List Named) (banks : Banks)
    (number : ℕ) (place shown : Place) (head : List ℕ) (o : Object)
    → is_absent table place.name ≡ false → goes_past table place ≡ false → o ≡ rows_of table place
    → head ≡ decimal number ++ codes " " ++ place_text shown ++ codes ":"
    → (head ++ values_text (take o.count (columns g banks o))) ++ codes "\n"
    ≡ printed_line g operations table banks number place shown
printed_is g operations table banks number place shown head o there inside e h =
    rw (there, inside, ← e, h) (line_text (decimal number ++ codes " ") (place_text shown)
    (codes ":")
    (values_text (take o.count (columns g banks o))) (codes "\n"))
