-- The greatest need of statements, one statement after another.
use Rattle.uprog_gen.proofs.Common.{◌≡◌, ℕ, ◌+◌, ◌<◌, List, [], ◌∷◌, ◌++◌, take, map, length, sym}
use Rattle.uprog_gen.proofs.Common.{ap, ◌∙◌, arith, slice_index_or, map-append, map_more, Stmt}
use Rattle.uprog_gen.proofs.Common.{WordOp, statement, need_inside, greatest}
use Rattle.std.specs.Prelude.{max}

greatest_more : (ns : List ℕ) (n : ℕ) → greatest (ns ++ n ∷ []) ≡ max (greatest ns) n
greatest_more [] n = grind arith
greatest_more (m ∷ ns) n = let h = greatest_more ns n in grind (arith, h)

pub need_more : (f : WordOp → ℕ) (items : List Stmt) (k : ℕ) (x : Stmt) → k < length items
    → x ≡ slice_index_or items k x
    → greatest (map (need_inside f) (map statement (take (k + 1) items)))
    ≡ max (greatest (map (need_inside f) (map statement (take k items))))
    (need_inside f (statement x))
need_more f items k x lt is =
    let front = map statement (take k items) in
    ap (λ l. greatest (map (need_inside f) l)) (map_more statement items k x lt
    ∙ ap (λ y. front ++ statement y ∷ []) (sym is))
    ∙ ap greatest (map-append (need_inside f) front (statement x ∷ []))
    ∙ greatest_more (map (need_inside f) front) (need_inside f (statement x))
