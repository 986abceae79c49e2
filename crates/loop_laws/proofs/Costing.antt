-- What a body may take, by its nodes and outputs.
use Rattle.loop_laws.proofs.Common.{or_parts, ◌≡◌, ◌≤◌, false, cond, List, [], ◌∷◌, ◌++◌, length}
use Rattle.loop_laws.proofs.Common.{refl, arith, list_any, nat_tests, Lit, Block, Place, is_state}
use Rattle.loop_laws.proofs.Common.{has_states, row_outs, turn_cost, plain_cost, HasCommands}
use Rattle.loop_ir.specs.Costs.{body_cost, is_copy}

-- where nothing stands in cells, all outputs go to rows
no-row-outs : (ps qs : List Place) (ls : List Lit)
    → list_any (λ p. is_state p.space) (ps ++ qs) ≡ false → row_outs qs ls ≡ ls
no-row-outs [] [] ls none = refl
no-row-outs [] (q ∷ qs) [] none = refl
no-row-outs [] (q ∷ qs) (l ∷ ls) none =
    let e = or_parts (is_state q.space) (list_any (λ p. is_state p.space) qs) none in
    rw (e.0, no-row-outs [] qs ls e.1)
no-row-outs (p ∷ ps) qs ls none = no-row-outs ps qs ls
    (or_parts (is_state p.space) (list_any (λ p. is_state p.space) (ps ++ qs)) none).1

fewer-outs : (ps : List Place) (ls : List Lit) → length (row_outs ps ls) ≤ length ls
fewer-outs [] ls = omega arith
fewer-outs (p ∷ ps) [] = omega arith
fewer-outs (p ∷ ps) (l ∷ ls) = grind (arith, fewer-outs ps ls)

-- what a body without states may take at most
pub rowed-plain : (b : Block) → has_states b ≡ false
    → plain_cost b ≡ cond (is_copy b) 1 (body_cost b)
rowed-plain b has = rw (no-row-outs b.reads b.writes b.outs has) (grind (arith, nat_tests))

-- a body takes at most four commands a node and three an output
pub plain-most : (b : Block) → plain_cost b ≤ body_cost b
plain-most b = grind (arith, nat_tests, fewer-outs b.writes b.outs)

-- and so with the commands that it carries
pub turn-most : (b : Block) → HasCommands b → turn_cost b ≤ body_cost b
turn-most b commands = let few = commands.few in omega (arith, few, plain-most b)
