use Rattle.std.proofs.Common.{◌≡◌, ◌∙◌, ◌*◌, ◌+◌, ap, length, replicate, sym, subst, ℕ}
use Rattle.std.specs.Vec.{with_items}
use Rattle.std.proofs.lemmas.List.{with_items_is, length-replicate}
use Rattle.dram_chip.specs.Rows.{HasConstants, column_in}
use Rattle.dram_chip.proofs.Cells.{blank-column, first-constants, off-ones}
use Rattle.dram_chip.proofs.bank.Bank.new.Goals as goal

pub returns-clause-ready : goal.returns-clause-ready
returns-clause-ready c =
    let m : ℕ = c.args.words * (8 + c.args.rows) in
    let zeros : c.in_ok-all.all.items ≡ replicate m 0 =
    c.in_ok-all.ensures.items_if_clones_equal (λ y h. h) in
    let seen : c.deref_mut.result.now ≡ replicate m 0 = c.deref_mut.ensures.value ∙ zeros in
    let items : (with_items c.in_ok-all.all c.set_ones.new.all).items ≡ c.set_ones.new.all =
    with_items_is c.in_ok-all.all c.set_ones.new.all (c.set_ones.ensures.length
    ∙ ap length c.deref_mut.ensures.value ∙ sym c.in_ok-all.all.ok.0) in
    record {
      size = ap length items ∙ c.set_ones.ensures.length ∙ ap length seen ∙ length-replicate m 0;
      constant = subst (HasConstants c.args.words) (sym items)
          (first-constants c.args.words m c.set_ones.new.all
          (off-ones c.args.words m c.deref_mut.result.now c.set_ones.new.all seen
          c.set_ones.ensures.below c.set_ones.ensures.above) c.set_ones.ensures.ones);
    }

pub returns-clause-zeros : goal.returns-clause-zeros
returns-clause-zeros c = λ k h.
    let m : ℕ = c.args.words * (8 + c.args.rows) in
    let zeros : c.in_ok-all.all.items ≡ replicate m 0 =
    c.in_ok-all.ensures.items_if_clones_equal (λ y h. h) in
    let seen : c.deref_mut.result.now ≡ replicate m 0 = c.deref_mut.ensures.value ∙ zeros in
    let items : (with_items c.in_ok-all.all c.set_ones.new.all).items ≡ c.set_ones.new.all =
    with_items_is c.in_ok-all.all c.set_ones.new.all (c.set_ones.ensures.length
    ∙ ap length c.deref_mut.ensures.value ∙ sym c.in_ok-all.all.ok.0) in
    ap (λ xs. column_in c.args.words xs k) items
    ∙ blank-column c.args.words m k c.set_ones.new.all h
    (off-ones c.args.words m c.deref_mut.result.now c.set_ones.new.all seen
    c.set_ones.ensures.below c.set_ones.ensures.above)
