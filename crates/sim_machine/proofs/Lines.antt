-- Lines that are put one after another.
use Rattle.sim_machine.proofs.Common.{◌≡◌, ℕ, zero, suc, ◌+◌, ◌<◌, List, [], ◌∷◌, ◌++◌, length, map}
use Rattle.sim_machine.proofs.Common.{take, drop, get_or, sym, ◌∙◌, ap, subst, arith, append_assoc}
use Rattle.sim_machine.proofs.Common.{append-nil, Option, Result, Ok, Err, OnErr, Known}
use Rattle.sim_machine.proofs.Common.{AppendsPart, Known-trans, Reply, line, lines, Answered}

abbrev pub reply_lines : ℕ → List Reply → List ℕ
reply_lines n rs = lines n (map Answered rs)

-- the lines before one, that line, and those after it
split_at : (n : ℕ) (rs : List Reply) (k m : ℕ) (r d : Reply) → k < length rs → r ≡ get_or rs k d
    → m ≡ n + k
    → reply_lines n rs ≡ reply_lines n (take k rs)
    ++ (line m (Answered r) ++ reply_lines (m + 1) (drop (suc k) rs))
split_at n [] k m r d h e s = absurd (omega (arith, h))
split_at n (x ∷ rs) zero m r d h e s =
    let same : m ≡ n = omega (arith, s) in
    ap (λ t. line n (Answered t) ++ reply_lines (n + 1) rs) (sym e)
    ∙ ap (λ i. line i (Answered r) ++ reply_lines (i + 1) rs) (sym same)
split_at n (x ∷ rs) (suc k) m r d h e s =
    ap (λ t. line n (Answered x) ++ t) (split_at (n + 1) rs k m r d (omega (arith, h)) e
    (omega (arith, s)))
    ∙ sym (append_assoc (line n (Answered x)) (reply_lines (n + 1) (take k rs)) _)

one_more : (n : ℕ) (rs : List Reply) (k m : ℕ) (r d : Reply) → k < length rs → r ≡ get_or rs k d
    → m ≡ n + k
    → reply_lines n (take (suc k) rs) ≡ reply_lines n (take k rs) ++ line m (Answered r)
one_more n [] k m r d h e s = absurd (omega (arith, h))
one_more n (x ∷ rs) zero m r d h e s =
    let same : m ≡ n = omega (arith, s) in
    append-nil (line n (Answered x)) ∙ ap (λ t. line n (Answered t)) (sym e)
    ∙ ap (λ i. line i (Answered r)) (sym same)
one_more n (x ∷ rs) (suc k) m r d h e s =
    ap (λ t. line n (Answered x) ++ t) (one_more (n + 1) rs k m r d (omega (arith, h)) e
    (omega (arith, s)))
    ∙ sym (append_assoc (line n (Answered x)) (reply_lines (n + 1) (take k rs)) _)

-- the next line was put whole
pub known_more : (n : ℕ) (rs : List Reply) (k m : ℕ) (r d : Reply) (a b c : Option (List ℕ))
    → k < length rs → r ≡ get_or rs k d → m ≡ n + k
    → Known (λ x y. y ≡ x ++ reply_lines n (take k rs)) a b
    → Known (λ x y. y ≡ x ++ line m (Answered r)) b c
    → Known (λ x y. y ≡ x ++ reply_lines n (take (k + 1) rs)) a c
known_more n rs k m r d a b c h e s p q =
    Known-trans {R = λ x y. y ≡ x ++ reply_lines n (take k rs)}
    {S = λ x y. y ≡ x ++ line m (Answered r)}
    {U = λ x y. y ≡ x ++ reply_lines n (take (k + 1) rs)} a b c
    (λ x y z f g. g ∙ ap (λ t. t ++ line m (Answered r)) f
    ∙ append_assoc x (reply_lines n (take k rs)) (line m (Answered r))
    ∙ ap (λ t. x ++ t) (sym (one_more n rs k m r d h e s))
    ∙ ap (λ i. x ++ reply_lines n (take i rs)) (let one : suc k ≡ k + 1 = omega arith in one)) p q

-- a part of it was put
part_joins : (done text rest x y z : List ℕ) → y ≡ x ++ done → AppendsPart text y z
    → AppendsPart (done ++ (text ++ rest)) x z
part_joins done text rest x y z f g = (
  done ++ g.0,
  (
    (
      g.1.0.0 ++ rest,
      append_assoc done g.0 (g.1.0.0 ++ rest)
          ∙ ap (λ t. done ++ t) (sym (append_assoc g.0 g.1.0.0 rest)
          ∙ ap (λ t. t ++ rest) g.1.0.1),
    ),
    g.1.1 ∙ ap (λ t. t ++ g.0) f ∙ append_assoc x done g.0,
  ),
)

pub known_part : (n : ℕ) (rs : List Reply) (k m : ℕ) (r d : Reply) (a b c : Option (List ℕ))
    → k < length rs → r ≡ get_or rs k d → m ≡ n + k
    → Known (λ x y. y ≡ x ++ reply_lines n (take k rs)) a b
    → Known (AppendsPart (line m (Answered r))) b c
    → Known (AppendsPart (reply_lines n rs)) a c
known_part n rs k m r d a b c h e s p q =
    Known-trans {R = λ x y. y ≡ x ++ reply_lines n (take k rs)}
    {S = AppendsPart (line m (Answered r))} {U = AppendsPart (reply_lines n rs)} a b c
    (λ x y z f g. subst (λ t. AppendsPart t x z) (sym (split_at n rs k m r d h e s))
    (part_joins (reply_lines n (take k rs)) (line m (Answered r))
    (reply_lines (m + 1) (drop (suc k) rs)) x y z f g)) p q

pub on_err : {T E P : Type 0} (r : Result T E) → P → OnErr r P
on_err (Ok x) p = tt
on_err (Err e) p = p
