use Rattle.tmr_guard.proofs.Common.{◌≡◌, ◌∙◌, subst, IfOk, OnErr, OnOk, Did, StoppedIn, geometry_of}
use Rattle.tmr_guard.proofs.Common.{table_in, vote_count, vote_events}
use Rattle.tmr_guard.specs.Steps.{machine_in}
use Rattle.tmr_guard.proofs.Stops.{rose_of}
use Rattle.tmr_guard.proofs.guards.Guard.vote.Goals as goal

pub returns-clause-count : goal.returns-clause-count
returns-clause-count g c =
    let m = machine_in c.args.self.now in
    let e : c.geometry.result ≡ geometry_of m = c.geometry.ensures ∙ c.requires.geometry in
    subst (λ x. IfOk c.vote_all.result (λ aap. aap ≡ vote_count x (table_in m))) e
    (subst (λ t. IfOk c.vote_all.result (λ aap. aap ≡ vote_count c.geometry.result t))
    c.table.ensures.objects c.vote_all.ensures.count)

pub returns-clause-did : goal.returns-clause-did
returns-clause-did g c =
    let m = machine_in c.args.self.now in
    let V = g.D.Dram.view in
    let e : c.geometry.result ≡ geometry_of m = c.geometry.ensures ∙ c.requires.geometry in
    subst (λ x. OnOk c.vote_all.result (Did (vote_events x (table_in m)) (V c.args.dram.now)
    (V c.vote_all.new.dram))) e
    (subst (λ t. OnOk c.vote_all.result (Did (vote_events c.geometry.result t)
    (V c.args.dram.now) (V c.vote_all.new.dram))) c.table.ensures.objects c.vote_all.ensures.did)

pub returns-clause-stopped : goal.returns-clause-stopped
returns-clause-stopped g c =
    let m = machine_in c.args.self.now in
    let V = g.D.Dram.view in
    let e : c.geometry.result ≡ geometry_of m = c.geometry.ensures ∙ c.requires.geometry in
    subst (λ x. OnErr c.vote_all.result (StoppedIn (vote_events x (table_in m))
    (V c.args.dram.now) (V c.vote_all.new.dram))) e
    (subst (λ t. OnErr c.vote_all.result (StoppedIn (vote_events c.geometry.result t)
    (V c.args.dram.now) (V c.vote_all.new.dram))) c.table.ensures.objects
    c.vote_all.ensures.stopped)

pub returns-clause-failed : goal.returns-clause-failed
returns-clause-failed g c = rose_of c.vote_all.result _ _ _ c.vote_all.ensures.stopped
