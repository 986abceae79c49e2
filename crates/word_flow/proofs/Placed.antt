-- The flow of a table's lines at the slots of an operation's owners is its flow in its rooms.
use Rattle.word_flow.proofs.Common.{◌≡◌, refl, WordOp, flow_map, Rows, placed_body, first_of}
use Rattle.word_flow.proofs.Common.{flows_on, lines_for, flow_for, rooms_for, slots_for, coded_on}
use Rattle.op_text.specs.declared.word_ops.WordOp.TheVariants as op

pub placed : (p : WordOp) (m : Rows) → first_of (flows_on (coded_on (slots_for p m)) (lines_for p))
    ≡ flow_map (placed_body (rooms_for p m)) (flow_for p)
placed op.Shl1 m = refl
placed op.Shr1 m = refl
placed op.Mul m = refl
placed op.Div m = refl
placed op.Rem m = refl
placed op.Abs m = refl
placed op.Relu m = refl
placed op.Bitcount m = refl
placed op.AndRed m = refl
placed op.OrRed m = refl
placed op.XorRed m = refl
placed op.Divmod m = refl
placed p m = refl
