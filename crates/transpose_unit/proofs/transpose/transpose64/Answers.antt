use Rattle.transpose_unit.proofs.Exchanges.{IsMixed, no-step, step-more, last-step}
use Rattle.transpose_unit.proofs.Exchanges.{mask-32, mask-16, mask-8, mask-4, mask-2, mask-1}
use Rattle.transpose_unit.proofs.Common.{refl}
use Rattle.transpose_unit.proofs.transpose.transpose64.Goals as goal

pub exchange-requires-clause-mask : goal.exchange-requires-clause-mask
exchange-requires-clause-mask c = mask-32

pub exchange-requires-2-clause-mask : goal.exchange-requires-2-clause-mask
exchange-requires-2-clause-mask c = mask-16

pub exchange-requires-3-clause-mask : goal.exchange-requires-3-clause-mask
exchange-requires-3-clause-mask c = mask-8

pub exchange-requires-4-clause-mask : goal.exchange-requires-4-clause-mask
exchange-requires-4-clause-mask c = mask-4

pub exchange-requires-5-clause-mask : goal.exchange-requires-5-clause-mask
exchange-requires-5-clause-mask c = mask-2

pub exchange-requires-6-clause-mask : goal.exchange-requires-6-clause-mask
exchange-requires-6-clause-mask c = mask-1

pub returns : goal.returns
returns c =
    let after_32 : IsMixed 32 c.args.m.now c.exchange.new.m =
    step-more 32 64 c.args.m.now c.args.m.now c.exchange.new.m refl refl (no-step c.args.m.now)
    c.exchange.ensures in
    let after_16 : IsMixed 16 c.args.m.now c.exchange-2.new.m =
    step-more 16 32 c.args.m.now c.exchange.new.m c.exchange-2.new.m refl refl after_32
    c.exchange-2.ensures in
    let after_8 : IsMixed 8 c.args.m.now c.exchange-3.new.m =
    step-more 8 16 c.args.m.now c.exchange-2.new.m c.exchange-3.new.m refl refl after_16
    c.exchange-3.ensures in
    let after_4 : IsMixed 4 c.args.m.now c.exchange-4.new.m =
    step-more 4 8 c.args.m.now c.exchange-3.new.m c.exchange-4.new.m refl refl after_8
    c.exchange-4.ensures in
    let after_2 : IsMixed 2 c.args.m.now c.exchange-5.new.m =
    step-more 2 4 c.args.m.now c.exchange-4.new.m c.exchange-5.new.m refl refl after_4
    c.exchange-5.ensures in
    let after_1 : IsMixed 1 c.args.m.now c.exchange-6.new.m =
    step-more 1 2 c.args.m.now c.exchange-5.new.m c.exchange-6.new.m refl refl after_2
    c.exchange-6.ensures in
    last-step c.args.m.now c.exchange-6.new.m after_1
