use Rattle.row_alloc.proofs.greedy.copied.Goals as goal

pub returns : goal.returns
returns c = c.in_ok-to_vec.ensures.items_if_clones_equal (λ x y e. e)
