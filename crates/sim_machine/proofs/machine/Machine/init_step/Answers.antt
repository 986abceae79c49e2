use Rattle.sim_machine.specs.Shown.{state_of}
use Rattle.sim_machine.proofs.Common.{◌∙◌, List, ap, arith, refl, subst, sym, All, Named, IsTable}
use Rattle.sim_machine.proofs.Common.{limit_of, without, IsObject, Init}
use Rattle.sim_machine.specs.Machine.{geometry_of, operations_by, table_in}
use Rattle.sim_machine.proofs.Stepping.{done_alone, failed_alone, refused_same, undone}
use Rattle.sim_machine.proofs.Stepping.{unsent_alone}
use Rattle.sim_machine.proofs.machine.Machine.init_step.Goals as goal

pub returns-in-Err-clause-went : goal.returns-in-Err-clause-went
returns-in-Err-clause-went g c = rw (← c.self.view_is) (
    record {
      kept = c.trsp_init.ensures.kept;
      sink_faults = omega arith;
      comes = failed_alone _ _ _ _ _ _ _ _ refl refl refl (ap (λ t. t.pairs)
          c.in-Err.ensures.unlisted)
          refl
          c.in-Err.ensures.failed
          (c.in-Err.ensures.stopped (operations_by (state_of c.self.inside))) refl;
    })

pub returns-in-Ok-put_reply-clause-went : goal.returns-in-Ok-put_reply-clause-went
returns-in-Ok-put_reply-clause-went g c = rw (← c.self.view_is) (
    let operations = operations_by (state_of c.self.inside) in
    record {
      kept = c.trsp_init.ensures.kept;
      sink_faults = c.put_reply.ensures.faults;
      comes = done_alone _ _ _ _ _ _ _ _ refl refl refl c.in-Ok.reply (c.in-Ok.ensures.reply
          operations)
          (c.in-Ok.ensures.table operations) refl (c.in-Ok.ensures.did operations)
          c.in-Ok-put_reply.ensures.sent c.in-Ok-put_reply.ensures.unfailed;
    })

pub returns-in-Done-clause-went : goal.returns-in-Done-clause-went
returns-in-Done-clause-went g c = rw (← c.self.view_is) (
    let m = (state_of c.self.inside) in
    let operations = operations_by m in
    let same = ap (λ t. t.pairs) c.remove.ensures.rest
    ∙ ap (λ (t : List Named). without t c.args.name.now) (c.in-Ok.ensures.table operations)
    ∙ undone (geometry_of m) operations (table_in m) c.args.name.now c.args.count c.args.n
    c.in-Done.field-0 (sym c.in-Done.is ∙ c.in-Ok.ensures.reply operations) in
    record {
      kept = c.trsp_init.ensures.kept;
      sink_faults = c.put_reply.ensures.faults;
      comes = unsent_alone _ _ _ _ _ _ _ _ refl refl refl c.in-Ok.reply
          (c.in-Ok.ensures.reply operations) same refl (c.in-Ok.ensures.did operations)
          c.in-Err-put_reply.ensures.rose c.in-Err-put_reply.ensures.part;
    })

pub returns-in_default-clause-went : goal.returns-in_default-clause-went
returns-in_default-clause-went g c = rw (← c.self.view_is) (
    let m = (state_of c.self.inside) in
    let operations = operations_by m in
    let same = c.in-Ok.ensures.table operations
    ∙ refused_same (geometry_of m) operations (table_in m)
    (Init c.args.name.now c.args.count c.args.n) c.in_default.field-0
    (sym c.in_default.is ∙ c.in-Ok.ensures.reply operations) in
    record {
      kept = c.trsp_init.ensures.kept;
      sink_faults = c.put_reply.ensures.faults;
      comes = unsent_alone _ _ _ _ _ _ _ _ refl refl refl c.in-Ok.reply
          (c.in-Ok.ensures.reply operations) same refl (c.in-Ok.ensures.did operations)
          c.in-Err-put_reply.ensures.rose c.in-Err-put_reply.ensures.part;
    })

pub invariant_of-self-in-Done : goal.invariant_of-self-in-Done
invariant_of-self-in-Done g c =
    let m = state_of c.self.inside in
    let operations = operations_by m in
    let same = ap (λ t. t.pairs) c.remove.ensures.rest
    ∙ ap (λ (t : List Named). without t c.args.name.now) (c.in-Ok.ensures.table operations)
    ∙ undone (geometry_of m) operations (table_in m) c.args.name.now c.args.count c.args.n
    c.in-Done.field-0 (sym c.in-Done.is ∙ c.in-Ok.ensures.reply operations) in
    record {
      set = record {
        geometry = c.self.invariant.set.geometry;
        limit = ap (λ t. t.limit) c.remove.ensures.rest ∙ c.trsp_init.ensures.lies.limit;
        listed = subst (λ (t : List Named). IsTable (limit_of (geometry_of m)) t) (sym same)
            c.self.invariant.set.listed;
        objects = subst (λ (t : List Named). All (λ (named : Named). IsObject (geometry_of m)
            named.1) t) (sym same) c.self.invariant.set.objects;
      };
      stage = c.self.invariant.stage;
      room = c.self.invariant.room;
    }
