use Rattle.uprog_gen.proofs.Common.{◌≡◌, refl, sym, ap, length, arith, length-map, operation}
use Rattle.uprog_gen.proofs.Common.{statement}
use Rattle.uprog_gen.proofs.Naming.LaidOut.{laid_knows, laid_bits, laid_words, laid_more, laid_all}
use Rattle.uprog_gen.proofs.Naming.LaidOut.{statement_short, body_more}
use Rattle.uprog_gen.proofs.layout.lay_out.Goals as goal

pub place_statement-requires-clause-bits : goal.place_statement-requires-clause-bits
place_statement-requires-clause-bits c = laid_bits (operation c.args.op.now) c.requires
    c.loop-stmt.stmt-index c.loop-stmt.names c.loop-stmt.invariant

pub place_statement-requires-clause-words : goal.place_statement-requires-clause-words
place_statement-requires-clause-words c = laid_words (operation c.args.op.now) c.requires
    c.loop-stmt.stmt-index c.loop-stmt.names c.loop-stmt.invariant

pub place_statement-requires-clause-short : goal.place_statement-requires-clause-short
place_statement-requires-clause-short c =
    let op = operation c.args.op.now in
    statement_short op c.args.op.now.body.items c.loop-stmt.stmt-index c.stmt-item.result c.requires
    refl (rw c.deref-stmt-items.ensures.value at c.loop-stmt-test.true)
    (rw c.deref-stmt-items.ensures.value at c.stmt-item.is)

pub loop-stmt-preserved : goal.loop-stmt-preserved
loop-stmt-preserved c =
    let op = operation c.args.op.now in
    let items = c.args.op.now.body.items in
    let k = c.loop-stmt.stmt-index in
    let x = c.stmt-item.result in
    laid_more op c.requires k (statement x) c.loop-stmt.names c.place_statement.new.names
    (body_more items k x (rw c.deref-stmt-items.ensures.value at c.loop-stmt-test.true)
    (rw c.deref-stmt-items.ensures.value at c.stmt-item.is)) c.loop-stmt.invariant
    (c.in_ok-place_statement.ensures _ (laid_knows op c.requires k c.loop-stmt.names
    c.loop-stmt.invariant))

pub returns : goal.returns
returns c =
    let op = operation c.args.op.now in
    let items = c.args.op.now.body.items in
    let e : length op.body ≡ length items = length-map items statement in
    let f : length items ≡ length c.deref-stmt-items.result.now =
    ap length (sym c.deref-stmt-items.ensures.value) in
    laid_all op c.requires c.loop-stmt.stmt-index c.loop-stmt.names
    (omega (arith, c.loop-stmt-test.false, e, f)) c.loop-stmt.invariant
