-- How many parts and names the expressions of a block have.
use Rattle.block_lower.proofs.Common.{◌≡◌, ℕ, zero, suc, ◌+◌, ◌*◌, ◌≤◌, Bool, ◌||◌, List, [], ◌∷◌}
use Rattle.block_lower.proofs.Common.{◌++◌, map, length, refl, arith, length-append, bytes_eq}
use Rattle.block_lower.proofs.Common.{AllByRecursion, sum_by-cons, Assign, Term, Nought, Unity}
use Rattle.block_lower.proofs.Common.{Named, Negation, Conjunction, Disjunction, Parity, Majority}
use Rattle.block_lower.proofs.Common.{Equation, term, equation, TermMeets, all_parts, all_weights}
use Rattle.block_lower.proofs.Common.{term_names, equation_names, LetsMeet}
use Rattle.std.proofs.Common.{sum}
use Rattle.op_text.specs.Scratch.{term_weight}
use Rattle.aoi_graph.specs.Blocks.{parts}

pub parts-most : (readable : List ℕ → Bool) (depth left : ℕ) (t : Term) → depth + left ≡ 32
    → TermMeets readable depth t → parts t ≤ (1 + 2 * term_weight t) * (left + 1)
parts-most readable depth left Nought e m = omega arith
parts-most readable depth left Unity e m = omega arith
parts-most readable depth left (Named name) e m = omega arith
parts-most readable depth zero (Negation a) e m = let l = m.0 in absurd (omega arith)
parts-most readable depth (suc left) (Negation a) e m = let h =
    parts-most readable (depth + 1) left a (omega arith) m.1 in omega (arith, h)
parts-most readable depth zero (Conjunction a b) e m = let l = m.0 in absurd (omega arith)
parts-most readable depth (suc left) (Conjunction a b) e m =
    let h = parts-most readable (depth + 1) left a (omega arith) m.1 in
    let k = parts-most readable (depth + 1) left b (omega arith) m.2 in omega (arith, h, k)
parts-most readable depth zero (Disjunction a b) e m = let l = m.0 in absurd (omega arith)
parts-most readable depth (suc left) (Disjunction a b) e m =
    let h = parts-most readable (depth + 1) left a (omega arith) m.1 in
    let k = parts-most readable (depth + 1) left b (omega arith) m.2 in omega (arith, h, k)
parts-most readable depth zero (Parity a b) e m = let l = m.0 in absurd (omega arith)
parts-most readable depth (suc left) (Parity a b) e m =
    let h = parts-most readable (depth + 1) left a (omega arith) m.1 in
    let k = parts-most readable (depth + 1) left b (omega arith) m.2 in omega (arith, h, k)
parts-most readable depth zero (Majority a b c) e m = let l = m.0 in absurd (omega arith)
parts-most readable depth (suc left) (Majority a b c) e m =
    let h = parts-most readable (depth + 1) left a (omega arith) m.1 in
    let k = parts-most readable (depth + 1) left b (omega arith) m.2 in
    let j = parts-most readable (depth + 1) left c (omega arith) m.3 in omega (arith, h, k, j)

weights-more : (a : Assign) (xs : List Assign)
    → all_weights (a ∷ xs) ≡ term_weight (term a.value) + all_weights xs
weights-more a xs = sum_by-cons (λ (x : ℕ). x) (term_weight (term a.value))
    (map (λ (e : Equation). term_weight e.value) (map equation xs))

parts-more : (a : Assign) (xs : List Assign) → all_parts (a ∷ xs)
    ≡ parts (term a.value) + all_parts xs
parts-more a xs = sum_by-cons (λ (a : Assign). parts (term a.value)) a xs

assigns-most : (readable : List ℕ → Bool) (xs : List Assign)
    → AllByRecursion (λ (e : Equation). TermMeets readable 0 e.value) (map equation xs)
    → all_parts xs ≤ 33 * (length xs + 2 * all_weights xs)
assigns-most readable [] m = omega arith
assigns-most readable (a ∷ xs) m =
    let h = parts-most readable 0 32 (term a.value) refl m.0 in
    let k = assigns-most readable xs m.1 in omega (arith, h, k, weights-more a xs, parts-more a xs)

pub block-most : (readable : List ℕ → Bool) (lets assigns : List Assign)
    → LetsMeet readable (map equation lets) (map equation assigns)
    → all_parts lets + all_parts assigns ≤ 33
    * (length lets + length assigns + 2 * (all_weights lets + all_weights assigns))
block-most readable [] assigns m = let h = assigns-most readable assigns m in omega (arith, h)
block-most readable (a ∷ lets) assigns m =
    let h = parts-most readable 0 32 (term a.value) refl m.0 in
    let k = block-most (λ name. bytes_eq name a.name || readable name) lets assigns m.1 in
    omega (arith, h, k, weights-more a lets, parts-more a lets)

names-most : (t : Term) → length (term_names t) ≤ 1 + 2 * term_weight t
names-most Nought = omega arith
names-most Unity = omega arith
names-most (Named name) = omega arith
names-most (Negation a) = names-most a
names-most (Conjunction a b) = let h = names-most a in let k = names-most b in
    omega (arith, h, k, length-append (term_names a) (term_names b))
names-most (Disjunction a b) = let h = names-most a in let k = names-most b in
    omega (arith, h, k, length-append (term_names a) (term_names b))
names-most (Parity a b) = let h = names-most a in let k = names-most b in
    omega (arith, h, k, length-append (term_names a) (term_names b))
names-most (Majority a b c) =
    let h = names-most a in let k = names-most b in let j = names-most c in
    let x = length-append (term_names a ++ term_names b) (term_names c) in
    let y = length-append (term_names a) (term_names b) in omega (arith, h, k, j, x, y)

pub equations-most : (xs : List Equation) → length (equation_names xs)
    ≤ length xs + 2 * sum (map (λ (e : Equation). term_weight e.value) xs)
equations-most [] = omega arith
equations-most (e ∷ xs) =
    let h = names-most e.value in let k = equations-most xs in
    let l = length-append (term_names e.value) (equation_names xs) in
    let s = sum_by-cons (λ (x : ℕ). x) (term_weight e.value)
    (map (λ (e : Equation). term_weight e.value) xs) in omega (arith, h, k, l, s)
