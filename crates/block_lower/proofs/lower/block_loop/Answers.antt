use Rattle.block_lower.proofs.Common.{refl, inl, IfOk-weaker, block_of}
use Rattle.block_lower.proofs.lower.block_loop.Goals as goal

-- with the states in rows
pub returns-in-None : goal.returns-in-None
returns-in-None c = IfOk-weaker c.row_loop.result _ _ (λ p e. record {
  body = block_of c.args.block.body;
  other = inl refl;
  form = inl (refl, e);
}) c.row_loop.ensures
