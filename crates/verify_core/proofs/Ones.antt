-- The cells that are 1 in a column of variables
use Rattle.verify_core.proofs.Common.{ℕ, zero, suc, ◌-◌, ◌*◌, ◌<◌, Bool, List, [], ◌∷◌, ◌++◌}
use Rattle.verify_core.proofs.Common.{filter, map, length, refl, range_with_len, sym, ◌∙◌, ap}
use Rattle.verify_core.proofs.Common.{arith, Cell, T, Dcc, D, Column, Shape, Node, Cells, column_of}
use Rattle.verify_core.proofs.Common.{canonical_rows, result_rows, value_rows, ◌≡◌, ◌+◌}
use Rattle.std.proofs.Common.{append_assoc}
use Rattle.std.proofs.lemmas.List.Elements.{filter-append}
use Rattle.std.proofs.lemmas.List.FromFn.{map-range_with_len_more}
use Rattle.uprog_code.specs.Shape.{need}
use Rattle.verify_core.specs.declared.start.Begin.{Begin}
use Rattle.verify_core.specs.Starts.{IsMeant, IsStart}
use Rattle.verify_core.specs.Verdicts.{work_cells}

one-same : (f g : Column) (cell : Cell) (rest more : List Cell) → f cell ≡ g cell
    → filter f rest ≡ filter g more → filter f (cell ∷ rest) ≡ filter g (cell ∷ more)
one-same f g cell rest more e h = rw (e, h) refl

rows-same : (f g : Column) (a w : ℕ) → ((i : ℕ) → i < w → f (D (a + i)) ≡ g (D (a + i)))
    → filter f (map D (range_with_len a w)) ≡ filter g (map D (range_with_len a w))
rows-same f g a zero h = refl
rows-same f g a (suc w) h =
    let z : a + 0 ≡ a = omega arith in
    one-same f g (D a) (map D (range_with_len (a + 1) w)) (map D (range_with_len (a + 1) w))
    (rw z at (h 0 (omega arith)))
    (rows-same f g (a + 1) w (λ i l.
    let e : a + 1 + i ≡ a + suc i = omega arith in
    rw e (h (suc i) (omega arith))))

both-same : (f g : Column) (xs ys : List Cell) → filter f xs ≡ filter g xs
    → filter f ys ≡ filter g ys → filter f (xs ++ ys) ≡ filter g (xs ++ ys)
both-same f g xs ys p q = filter-append f xs ys ∙ rw (p, q) (sym (filter-append g xs ys))

-- two columns of variables have the same ones, but in sources, under one assignment
pub work-same : (a : Shape) (n : ℕ) (u v : Begin) (x y : List Node) (c d : Cells)
    (bits : ℕ → Bool) → IsMeant u bits → IsMeant v bits
    → IsStart x u n (length a.sources) (result_rows a n) c
    → IsStart y v n (length a.sources) (result_rows a n) d → length c.rows ≡ canonical_rows a n
    → length d.rows ≡ canonical_rows a n
    → filter (column_of x bits c) (work_cells a n) ≡ filter (column_of y bits d) (work_cells a n)
work-same a n u v x y c d bits mu mv p q long wide =
    let f = column_of x bits c in
    let g = column_of y bits d in
    let tee : (k : ℕ) → k < 4 → f (T k) ≡ g (T k) =
    λ k l. p.tees bits mu k l ∙ sym (q.tees bits mv k l) in
    let dual : (k : ℕ) → k < 2 → f (Dcc k) ≡ g (Dcc k) =
    λ k l. p.duals bits mu k l ∙ sym (q.duals bits mv k l) in
    let row : (k : ℕ) → k < canonical_rows a n → f (D k) ≡ g (D k) =
    λ k l. p.rows bits mu k (omega (arith, l, long))
    ∙ sym (q.rows bits mv k (omega (arith, l, wide))) in
    both-same f g (T 0 ∷ T 1 ∷ T 2 ∷ T 3 ∷ Dcc 0 ∷ Dcc 1 ∷ []) _
    (rw (
      tee 0 (omega arith),
      tee 1 (omega arith),
      tee 2 (omega arith),
      tee 3 (omega arith),
      dual 0 (omega arith),
      dual 1 (omega arith),
    ) refl)
    (both-same f g (map D (range_with_len 0 (result_rows a n)))
    (map D (range_with_len (value_rows a n) (need a n + 32)))
    (rows-same f g 0 (result_rows a n) (λ i l. row (0 + i) (omega (arith, l))))
    (rows-same f g (value_rows a n) (need a n + 32) (λ i l. row (value_rows a n + i)
    (omega (arith, l)))))

-- the ones of some cells, then those of some more
pub ones-more : (f : Column) (was now next : List Cell) (cells more : List Cell)
    → now ≡ was ++ filter f cells → next ≡ now ++ filter f more
    → next ≡ was ++ filter f (cells ++ more)
ones-more f was now next cells more p q =
    q ∙ ap (λ (l : List Cell). l ++ filter f more) p
    ∙ append_assoc was (filter f cells) (filter f more)
    ∙ ap (λ (l : List Cell). was ++ l) (sym (filter-append f cells more))

-- those of one row more
pub rows-more : (f : Column) (was now next : List Cell) (a k : ℕ)
    → now ≡ was ++ filter f (map D (range_with_len a k)) → next ≡ now ++ filter f (D (a + k) ∷ [])
    → next ≡ was ++ filter f (map D (range_with_len a (k + 1)))
rows-more f was now next a k p q =
    ones-more f was now next (map D (range_with_len a k)) (D (a + k) ∷ []) p q
    ∙ ap (λ (l : List Cell). was ++ filter f l)
    (sym (map-range_with_len_more (λ (i : ℕ). D i) a k (a + k) refl))

-- those of six cells
pub six-ones : (f : Column) (was u v w x y z : List Cell) (a b c d e g : Cell)
    → u ≡ was ++ filter f (a ∷ []) → v ≡ u ++ filter f (b ∷ []) → w ≡ v ++ filter f (c ∷ [])
    → x ≡ w ++ filter f (d ∷ []) → y ≡ x ++ filter f (e ∷ []) → z ≡ y ++ filter f (g ∷ [])
    → z ≡ was ++ filter f (a ∷ b ∷ c ∷ d ∷ e ∷ g ∷ [])
six-ones f was u v w x y z a b c d e g p q r s t i =
    ones-more f was y z (a ∷ b ∷ c ∷ d ∷ e ∷ []) (g ∷ [])
    (ones-more f was x y (a ∷ b ∷ c ∷ d ∷ []) (e ∷ [])
    (ones-more f was w x (a ∷ b ∷ c ∷ []) (d ∷ [])
    (ones-more f was v w (a ∷ b ∷ []) (c ∷ [])
    (ones-more f was u v (a ∷ []) (b ∷ []) p q) r) s) t) i

rest-of : (a : Shape) (n rows values : ℕ) → rows ≡ canonical_rows a n → values ≡ value_rows a n
    → rows - values ≡ need a n + 32
rest-of a n rows values bank is =
    omega (arith, bank, is)

-- those of all work cells
pub work-ones : (f : Column) (a : Shape) (n m r s rows : ℕ) (none b_group results all : List Cell)
    → r ≡ result_rows a n → m ≡ n → s ≡ length a.sources → rows ≡ canonical_rows a n → none ≡ []
    → b_group ≡ none ++ filter f (T 0 ∷ T 1 ∷ T 2 ∷ T 3 ∷ Dcc 0 ∷ Dcc 1 ∷ [])
    → results ≡ b_group ++ filter f (map D (range_with_len 0 r))
    → all ≡ results ++ filter f (map D (range_with_len (r + m * s) (rows - (r + m * s))))
    → all ≡ filter f (work_cells a n)
work-ones f a n m r s rows none b_group results all few same count bank empty p q t =
    let values : r + m * s ≡ value_rows a n = rw (few, same, count) refl in
    let rest : rows - (r + m * s) ≡ need a n + 32 = rest-of a n rows (r + m * s) bank values in
    let last : all ≡ results
    ++ filter f (map D (range_with_len (value_rows a n) (need a n + 32))) =
    t ∙ ap (λ (k : ℕ). results
    ++ filter f (map D (range_with_len k (rows - (r + m * s))))) values
    ∙ ap (λ (k : ℕ). results ++ filter f (map D (range_with_len (value_rows a n) k))) rest in
    let middle : results ≡ b_group ++ filter f (map D (range_with_len 0 (result_rows a n))) =
    q ∙ ap (λ (k : ℕ). b_group ++ filter f (map D (range_with_len 0 k))) few in
    let cells : List Cell = T 0 ∷ T 1 ∷ T 2 ∷ T 3 ∷ Dcc 0 ∷ Dcc 1 ∷ [] in
    let held : List Cell = map D (range_with_len 0 (result_rows a n)) in
    let other : List Cell = map D (range_with_len (value_rows a n) (need a n + 32)) in
    ones-more f none results all (cells ++ held) other
    (ones-more f none b_group results cells held p middle) last
    ∙ ap (λ (l : List Cell). l ++ filter f (cells ++ (held ++ other))) empty
