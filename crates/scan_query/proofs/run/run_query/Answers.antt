use Rattle.scan_query.proofs.Common.{◌≡◌, ◌∙◌, sym, ap, subst, arith, map, length, List, length-map}
use Rattle.scan_query.proofs.Common.{None, Some, Ok, ◌-◌, AllByRecursion, Counters, segments_of}
use Rattle.scan_query.proofs.Common.{DidRead, Named, Counts, IsPlain, count_of, scan_script}
use Rattle.scan_query.proofs.Common.{geometry_of, operations_by, table_in, Refused, checked}
use Rattle.scan_query.proofs.Common.{free_name, Node, size, err_from_is_err_and, [], StoppedWithin}
use Rattle.scan_query.specs.Queries.{node_of, nodes_in, sources_fit}
use Rattle.scan_query.specs.Running.{FailedAmong, NodesRan, NodesRun, StoppedAt, refused_node}
use Rattle.scan_query.proofs.Failing.{failed_after, left_by_all, left_by_some}
use Rattle.scan_query.proofs.Answering.{all_done, answer_checked, answer_done, answer_refused}
use Rattle.scan_query.proofs.Answering.{asked, check_says, counters_end, counts_after, few_nodes}
use Rattle.scan_query.proofs.Answering.{goes_on, last_is, not_both, ones_as, plain_nodes, reads_are}
use Rattle.scan_query.proofs.Answering.{rises, room_left, some_left, sources_fit_all}
use Rattle.scan_query.proofs.Stopping.{same_why}
use Rattle.transpose_unit.proofs.Stopping.{stopped_more}
use Rattle.scan_query.proofs.run.run_query.Goals as goal

pub check-requires : goal.check-requires
check-requires g c =
    let few = few_nodes c.requires.query.0 (nodes_in c.args.query.now) c.requires.query.1 in
    let same = ap length c.as_slice-nodes.ensures.value in
    let many = length-map c.args.query.now.nodes.items node_of in
    omega (arith, few, same, many)

pub returns-in-Some-clause-answer : goal.returns-in-Some-clause-answer
returns-in-Some-clause-answer g c q h =
    let a = c.args.machine.now in
    let s = g.D.Dram.view c.args.dram.now in
    let nodes = nodes_in c.args.query.now in
    let same = ap (map node_of) c.as_slice-nodes.ensures.value in
    let checks : checked (table_in a) nodes ≡ Some (c.in-Some.why, c.in-Some.k) =
    sym (check_says _ _ _ _ _ _ _
    c.table.ensures.objects c.table-2.ensures.objects same c.count_of-count.ensures
    c.check.ensures) ∙ c.in-Some.is in
    answer_checked (geometry_of a) (operations_by a) s.banks (table_in a) q c.in-Some.why
    c.in-Some.k (ap (checked (table_in a)) (sym h.nodes_are) ∙ checks)

pub run_nodes-requires-clause-few : goal.run_nodes-requires-clause-few
run_nodes-requires-clause-few g c =
    let few = few_nodes c.requires.query.0 (nodes_in c.args.query.now) c.requires.query.1 in
    let same = ap length c.as_slice-nodes.ensures.value in
    let many = length-map c.args.query.now.nodes.items node_of in
    omega (arith, few, same, many)

pub run_nodes-requires-clause-sources : goal.run_nodes-requires-clause-sources
run_nodes-requires-clause-sources g c =
    subst (λ (ns : List Node). AllByRecursion (sources_fit 64) ns)
    (sym (ap (map node_of) c.as_slice-nodes.ensures.value))
    (sources_fit_all c.requires.query.0 (nodes_in c.args.query.now) c.requires.query.1)

pub run_nodes-requires-clause-plain : goal.run_nodes-requires-clause-plain
run_nodes-requires-clause-plain g c =
    let a = c.args.machine.now in
    let nodes = nodes_in c.args.query.now in
    let same = ap (map node_of) c.as_slice-nodes.ensures.value in
    let checks : checked (table_in a) nodes ≡ None = sym (check_says _ _ _ _ _ _ _
    c.table.ensures.objects c.table-2.ensures.objects same c.count_of-count.ensures
    c.check.ensures) ∙ c.in_default.is in
    subst (λ (ns : List Node). AllByRecursion IsPlain (scan_script (table_in a) ns)) (sym same)
    (plain_nodes a c.requires.query.0 nodes c.table.ensures.laid c.requires.query.1 checks)

pub returns-in-Some-2-clause-answer : goal.returns-in-Some-2-clause-answer
returns-in-Some-2-clause-answer g c q h =
    let a = c.args.machine.now in
    let b = c.run_nodes.new.machine in
    let s = g.D.Dram.view c.args.dram.now in
    let t = g.D.Dram.view c.run_nodes.new.dram in
    let nodes = nodes_in c.args.query.now in
    let same = ap (map node_of) c.as_slice-nodes.ensures.value in
    let checks : checked (table_in a) nodes ≡ None = sym (check_says _ _ _ _ _ _ _
    c.table.ensures.objects c.table-2.ensures.objects same c.count_of-count.ensures
    c.check.ensures) ∙ c.in_default.is in
    let runs = subst (λ r. NodesRun (map node_of c.as_slice-nodes.result.now) a b s t (Ok r))
    c.in-Some-2.is c.in_ok-why.ensures.runs in
    let refused : refused_node a nodes ≡ Some (c.in-Some-2.why, c.in-Some-2.k) =
    subst (λ (ns : List Node). refused_node a ns ≡ Some (c.in-Some-2.why, c.in-Some-2.k)) same
    runs.0 in
    ap (λ w. Refused w c.in-Some-2.k) c.room_word.ensures
    ∙ answer_refused (geometry_of a) (operations_by a) s.banks (table_in a) q c.in-Some-2.why
    c.in-Some-2.k (ap (checked (table_in a)) (sym h.nodes_are) ∙ checks)
    (ap (λ (ns : List Node). refused_node a ns) (sym h.nodes_are) ∙ refused)

pub last_object-object-requires : goal.last_object-object-requires
last_object-object-requires g c =
    let a = c.args.machine.now in
    let b = c.run_nodes.new.machine in
    let s = g.D.Dram.view c.args.dram.now in
    let t = g.D.Dram.view c.run_nodes.new.dram in
    let nodes = nodes_in c.args.query.now in
    let q = c.requires.query.0 in
    let h = c.requires.query.1 in
    let same = ap (map node_of) c.as_slice-nodes.ensures.value in
    let k = asked a b s t nodes _ q _ c.table.ensures.laid c.requires.geometry
    (g.met.D.Dram.width c.args.dram.now c.requires.begun) c.requires.program h same
    (sym (check_says _ _ _ _ _ _ _ c.table.ensures.objects c.table-2.ensures.objects same
    c.count_of-count.ensures c.check.ensures) ∙ c.in_default.is)
    c.in_default-2.is c.in_ok-why.ensures.runs in
    some_left (table_in a) (free_name (table_in a) (size q), k.leaves.object)
    c.table-3.result.now.pairs
    (c.table-3.ensures.objects ∙ k.left)

pub ones_of-requires-clause-row : goal.ones_of-requires-clause-row
ones_of-requires-clause-row g c =
    let a = c.args.machine.now in
    let b = c.run_nodes.new.machine in
    let s = g.D.Dram.view c.args.dram.now in
    let t = g.D.Dram.view c.run_nodes.new.dram in
    let nodes = nodes_in c.args.query.now in
    let q = c.requires.query.0 in
    let h = c.requires.query.1 in
    let same = ap (map node_of) c.as_slice-nodes.ensures.value in
    let k = asked a b s t nodes _ q _ c.table.ensures.laid c.requires.geometry
    (g.met.D.Dram.width c.args.dram.now c.requires.begun) c.requires.program h same
    (sym (check_says _ _ _ _ _ _ _ c.table.ensures.objects c.table-2.ensures.objects same
    c.count_of-count.ensures c.check.ensures) ∙ c.in_default.is)
    c.in_default-2.is c.in_ok-why.ensures.runs in
    let shown = c.geometry.ensures ∙ c.in_ok-why.ensures.kept.geometry ∙ c.requires.geometry in
    let object = c.last_object-object.ensures (table_in a)
    (free_name (table_in a) (size q), k.leaves.object) (c.table-3.ensures.objects ∙ k.left) in
    let last = last_is a b s t nodes q c.geometry.result c.last_object-object.result
    c.table-3.ensures.laid h k.ran k.leaves shown object in
    last.low

pub ones_of-requires-clause-object : goal.ones_of-requires-clause-object
ones_of-requires-clause-object g c =
    let a = c.args.machine.now in
    let b = c.run_nodes.new.machine in
    let s = g.D.Dram.view c.args.dram.now in
    let t = g.D.Dram.view c.run_nodes.new.dram in
    let nodes = nodes_in c.args.query.now in
    let q = c.requires.query.0 in
    let h = c.requires.query.1 in
    let same = ap (map node_of) c.as_slice-nodes.ensures.value in
    let k = asked a b s t nodes _ q _ c.table.ensures.laid c.requires.geometry
    (g.met.D.Dram.width c.args.dram.now c.requires.begun) c.requires.program h same
    (sym (check_says _ _ _ _ _ _ _ c.table.ensures.objects c.table-2.ensures.objects same
    c.count_of-count.ensures c.check.ensures) ∙ c.in_default.is)
    c.in_default-2.is c.in_ok-why.ensures.runs in
    let shown = c.geometry.ensures ∙ c.in_ok-why.ensures.kept.geometry ∙ c.requires.geometry in
    let object = c.last_object-object.ensures (table_in a)
    (free_name (table_in a) (size q), k.leaves.object) (c.table-3.ensures.objects ∙ k.left) in
    let last = last_is a b s t nodes q c.geometry.result c.last_object-object.result
    c.table-3.ensures.laid h k.ran k.leaves shown object in
    last.object

pub ones_of-requires-clause-narrow : goal.ones_of-requires-clause-narrow
ones_of-requires-clause-narrow g c =
    let a = c.args.machine.now in
    let b = c.run_nodes.new.machine in
    let s = g.D.Dram.view c.args.dram.now in
    let t = g.D.Dram.view c.run_nodes.new.dram in
    let nodes = nodes_in c.args.query.now in
    let q = c.requires.query.0 in
    let h = c.requires.query.1 in
    let same = ap (map node_of) c.as_slice-nodes.ensures.value in
    let k = asked a b s t nodes _ q _ c.table.ensures.laid c.requires.geometry
    (g.met.D.Dram.width c.args.dram.now c.requires.begun) c.requires.program h same
    (sym (check_says _ _ _ _ _ _ _ c.table.ensures.objects c.table-2.ensures.objects same
    c.count_of-count.ensures c.check.ensures) ∙ c.in_default.is)
    c.in_default-2.is c.in_ok-why.ensures.runs in
    let shown = c.geometry.ensures ∙ c.in_ok-why.ensures.kept.geometry ∙ c.requires.geometry in
    let object = c.last_object-object.ensures (table_in a)
    (free_name (table_in a) (size q), k.leaves.object) (c.table-3.ensures.objects ∙ k.left) in
    let last = last_is a b s t nodes q c.geometry.result c.last_object-object.result
    c.table-3.ensures.laid h k.ran k.leaves shown object in
    last.narrow

pub ones_of-requires-clause-room : goal.ones_of-requires-clause-room
ones_of-requires-clause-room g c =
    let a = c.args.machine.now in
    let b = c.run_nodes.new.machine in
    let s = g.D.Dram.view c.args.dram.now in
    let t = g.D.Dram.view c.run_nodes.new.dram in
    let nodes = nodes_in c.args.query.now in
    let same = ap (map node_of) c.as_slice-nodes.ensures.value in
    let ran : NodesRan nodes a b s t = subst (λ (ns : List Node). NodesRan ns a b s t) same
    (subst (λ r. NodesRun (map node_of c.as_slice-nodes.result.now) a b s t (Ok r))
    c.in_default-2.is c.in_ok-why.ensures.runs) in
    let few = few_nodes c.requires.query.0 nodes c.requires.query.1 in
    let room = room_left a b s t nodes few ran c.requires.room in
    let reads = room.reads in
    omega (arith, reads)

pub overflow_sub-result : goal.overflow_sub-result
overflow_sub-result g c =
    let a = c.args.machine.now in
    let b = c.run_nodes.new.machine in
    let s = g.D.Dram.view c.args.dram.now in
    let t = g.D.Dram.view c.run_nodes.new.dram in
    let nodes = nodes_in c.args.query.now in
    let same = ap (map node_of) c.as_slice-nodes.ensures.value in
    let ran : NodesRan nodes a b s t = subst (λ (ns : List Node). NodesRan ns a b s t) same
    (subst (λ r. NodesRun (map node_of c.as_slice-nodes.result.now) a b s t (Ok r))
    c.in_default-2.is c.in_ok-why.ensures.runs) in
    let more = rises s.counters t.counters _ (counts_after a b s t nodes c.table.ensures.laid ran)
    in
    let first = ap (λ (k : Counters). k.aap) c.tally-before.ensures in
    let second = ap (λ (k : Counters). k.aap) c.tally-after.ensures in
    let less = more.0 in
    omega (arith, first, second, less)

pub overflow_sub-result-2 : goal.overflow_sub-result-2
overflow_sub-result-2 g c =
    let a = c.args.machine.now in
    let b = c.run_nodes.new.machine in
    let s = g.D.Dram.view c.args.dram.now in
    let t = g.D.Dram.view c.run_nodes.new.dram in
    let nodes = nodes_in c.args.query.now in
    let same = ap (map node_of) c.as_slice-nodes.ensures.value in
    let ran : NodesRan nodes a b s t = subst (λ (ns : List Node). NodesRan ns a b s t) same
    (subst (λ r. NodesRun (map node_of c.as_slice-nodes.result.now) a b s t (Ok r))
    c.in_default-2.is c.in_ok-why.ensures.runs) in
    let more = rises s.counters t.counters _ (counts_after a b s t nodes c.table.ensures.laid ran)
    in
    let first = ap (λ (k : Counters). k.ap) c.tally-before.ensures in
    let second = ap (λ (k : Counters). k.ap) c.tally-after.ensures in
    let less = more.1 in
    omega (arith, first, second, less)

pub returns-clause-answer : goal.returns-clause-answer
returns-clause-answer g c q h =
    let a = c.args.machine.now in
    let b = c.run_nodes.new.machine in
    let s = g.D.Dram.view c.args.dram.now in
    let t = g.D.Dram.view c.run_nodes.new.dram in
    let nodes = nodes_in c.args.query.now in
    let same = ap (map node_of) c.as_slice-nodes.ensures.value in
    let k = asked a b s t nodes _ q _ c.table.ensures.laid c.requires.geometry
    (g.met.D.Dram.width c.args.dram.now c.requires.begun) c.requires.program h same
    (sym (check_says _ _ _ _ _ _ _ c.table.ensures.objects c.table-2.ensures.objects same
    c.count_of-count.ensures c.check.ensures) ∙ c.in_default.is)
    c.in_default-2.is c.in_ok-why.ensures.runs in
    let shown = c.geometry.ensures ∙ c.in_ok-why.ensures.kept.geometry ∙ c.requires.geometry in
    let object = c.last_object-object.ensures (table_in a)
    (free_name (table_in a) (size q), k.leaves.object) (c.table-3.ensures.objects ∙ k.left) in
    let counts : Counts = record {
      aap = c.tally-after.result.aap - c.tally-before.result.aap;
      ap = c.tally-after.result.ap - c.tally-before.result.ap;
    } in
    answer_done a b s t nodes q c.in_ok-found.found c.count_of-count.result counts
    c.table.ensures.laid h k.checks k.ran k.leaves
    (ones_as (geometry_of a) c.geometry.result t.banks c.last_object-object.result k.leaves.object
    c.in_ok-found.found shown object c.in_ok-found.ensures.ones)
    (c.count_of-count.ensures
    ∙ ap (λ (p : List Named). count_of p (map node_of c.as_slice-nodes.result.now))
    c.table.ensures.objects
    ∙ ap (count_of (table_in a)) same)
    (ap (λ (k : Counters). k.aap - c.tally-before.result.aap) c.tally-after.ensures
    ∙ ap (λ (k : Counters). t.counters.aap - k.aap) c.tally-before.ensures)
    (ap (λ (k : Counters). k.ap - c.tally-before.result.ap) c.tally-after.ensures
    ∙ ap (λ (k : Counters). t.counters.ap - k.ap) c.tally-before.ensures)

pub returns-clause-did : goal.returns-clause-did
returns-clause-did g c done =
    let a = c.args.machine.now in
    let b = c.run_nodes.new.machine in
    let s = g.D.Dram.view c.args.dram.now in
    let t = g.D.Dram.view c.run_nodes.new.dram in
    let nodes = nodes_in c.args.query.now in
    let q = c.requires.query.0 in
    let h = c.requires.query.1 in
    let same = ap (map node_of) c.as_slice-nodes.ensures.value in
    let k = asked a b s t nodes _ q _ c.table.ensures.laid c.requires.geometry
    (g.met.D.Dram.width c.args.dram.now c.requires.begun) c.requires.program h same
    (sym (check_says _ _ _ _ _ _ _ c.table.ensures.objects c.table-2.ensures.objects same
    c.count_of-count.ensures c.check.ensures) ∙ c.in_default.is)
    c.in_default-2.is c.in_ok-why.ensures.runs in
    let shown = c.geometry.ensures ∙ c.in_ok-why.ensures.kept.geometry ∙ c.requires.geometry in
    let object = c.last_object-object.ensures (table_in a)
    (free_name (table_in a) (size q), k.leaves.object) (c.table-3.ensures.objects ∙ k.left) in
    let u = g.D.Dram.view c.ones_of.new.dram in
    let n = segments_of (geometry_of a) (count_of (table_in a) nodes) in
    all_done a b s t u nodes n k.ran
    (subst (λ k. DidRead k t u)
    (reads_are a s nodes q c.geometry.result c.last_object-object.result h k.leaves shown object)
    c.in_ok-found.ensures.did)

pub returns-in-Some-2-clause-faults : goal.returns-in-Some-2-clause-faults
returns-in-Some-2-clause-faults g c =
    (subst (λ r. NodesRun (map node_of c.as_slice-nodes.result.now) c.args.machine.now
    c.run_nodes.new.machine (g.D.Dram.view c.args.dram.now) (g.D.Dram.view c.run_nodes.new.dram)
    (Ok r)) c.in-Some-2.is c.in_ok-why.ensures.runs).1.did.faults

pub returns-clause-faults : goal.returns-clause-faults
returns-clause-faults g c =
    let ran = subst (λ r. NodesRun (map node_of c.as_slice-nodes.result.now) c.args.machine.now
    c.run_nodes.new.machine (g.D.Dram.view c.args.dram.now) (g.D.Dram.view c.run_nodes.new.dram)
    (Ok r)) c.in_default-2.is c.in_ok-why.ensures.runs in
    c.in_ok-found.ensures.did.faults ∙ ran.ran.did.faults

pub returns-clause-counted : goal.returns-clause-counted
returns-clause-counted g c =
    let a = c.args.machine.now in
    let b = c.run_nodes.new.machine in
    let s = g.D.Dram.view c.args.dram.now in
    let t = g.D.Dram.view c.run_nodes.new.dram in
    let nodes = nodes_in c.args.query.now in
    let q = c.requires.query.0 in
    let h = c.requires.query.1 in
    let same = ap (map node_of) c.as_slice-nodes.ensures.value in
    let k = asked a b s t nodes _ q _ c.table.ensures.laid c.requires.geometry
    (g.met.D.Dram.width c.args.dram.now c.requires.begun) c.requires.program h same
    (sym (check_says _ _ _ _ _ _ _ c.table.ensures.objects c.table-2.ensures.objects same
    c.count_of-count.ensures c.check.ensures) ∙ c.in_default.is)
    c.in_default-2.is c.in_ok-why.ensures.runs in
    let shown = c.geometry.ensures ∙ c.in_ok-why.ensures.kept.geometry ∙ c.requires.geometry in
    let object = c.last_object-object.ensures (table_in a)
    (free_name (table_in a) (size q), k.leaves.object) (c.table-3.ensures.objects ∙ k.left) in
    let u = g.D.Dram.view c.ones_of.new.dram in
    let n = segments_of (geometry_of a) (count_of (table_in a) nodes) in
    let counts : Counts = record {
      aap = c.tally-after.result.aap - c.tally-before.result.aap;
      ap = c.tally-after.result.ap - c.tally-before.result.ap;
    } in
    counters_end a b s t u nodes n counts c.table.ensures.laid k.ran
    (subst (λ k. DidRead k t u)
    (reads_are a s nodes q c.geometry.result c.last_object-object.result h k.leaves shown object)
    c.in_ok-found.ensures.did)
    (ap (λ (k : Counters). k.aap - c.tally-before.result.aap) c.tally-after.ensures
    ∙ ap (λ (k : Counters). t.counters.aap - k.aap) c.tally-before.ensures)
    (ap (λ (k : Counters). k.ap - c.tally-before.result.ap) c.tally-after.ensures
    ∙ ap (λ (k : Counters). t.counters.ap - k.ap) c.tally-before.ensures)

pub returns-clause-goes : goal.returns-clause-goes
returns-clause-goes g c done =
    let a = c.args.machine.now in
    let b = c.run_nodes.new.machine in
    let s = g.D.Dram.view c.args.dram.now in
    let t = g.D.Dram.view c.run_nodes.new.dram in
    let nodes = nodes_in c.args.query.now in
    let same = ap (map node_of) c.as_slice-nodes.ensures.value in
    let ran : NodesRan nodes a b s t = subst (λ (ns : List Node). NodesRan ns a b s t) same
    (subst (λ r. NodesRun (map node_of c.as_slice-nodes.result.now) a b s t (Ok r))
    c.in_default-2.is c.in_ok-why.ensures.runs) in
    goes_on a b s t nodes ran

pub returns-in-Some-2-clause-unused : goal.returns-in-Some-2-clause-unused
returns-in-Some-2-clause-unused g c found refused =
    let a = c.args.machine.now in
    let nodes = nodes_in c.args.query.now in
    let same = ap (map node_of) c.as_slice-nodes.ensures.value in
    let checks : checked (table_in a) nodes ≡ None = sym (check_says _ _ _ _ _ _ _
    c.table.ensures.objects c.table-2.ensures.objects same c.count_of-count.ensures
    c.check.ensures) ∙ c.in_default.is in
    absurd (not_both (checked (table_in a) nodes) found refused checks)

pub returns-clause-unused : goal.returns-clause-unused
returns-clause-unused g c found refused =
    let a = c.args.machine.now in
    let nodes = nodes_in c.args.query.now in
    let same = ap (map node_of) c.as_slice-nodes.ensures.value in
    let checks : checked (table_in a) nodes ≡ None = sym (check_says _ _ _ _ _ _ _
    c.table.ensures.objects c.table-2.ensures.objects same c.count_of-count.ensures
    c.check.ensures) ∙ c.in_default.is in
    absurd (not_both (checked (table_in a) nodes) found refused checks)

pub returns-in_err-why-clause-unused : goal.returns-in_err-why-clause-unused
returns-in_err-why-clause-unused g c found refused =
    let a = c.args.machine.now in
    let nodes = nodes_in c.args.query.now in
    let same = ap (map node_of) c.as_slice-nodes.ensures.value in
    let checks : checked (table_in a) nodes ≡ None = sym (check_says _ _ _ _ _ _ _
    c.table.ensures.objects c.table-2.ensures.objects same c.count_of-count.ensures
    c.check.ensures) ∙ c.in_default.is in
    absurd (not_both (checked (table_in a) nodes) found refused checks)

pub returns-in_err-found-clause-unused : goal.returns-in_err-found-clause-unused
returns-in_err-found-clause-unused g c found refused =
    let a = c.args.machine.now in
    let nodes = nodes_in c.args.query.now in
    let same = ap (map node_of) c.as_slice-nodes.ensures.value in
    let checks : checked (table_in a) nodes ≡ None = sym (check_says _ _ _ _ _ _ _
    c.table.ensures.objects c.table-2.ensures.objects same c.count_of-count.ensures
    c.check.ensures) ∙ c.in_default.is in
    absurd (not_both (checked (table_in a) nodes) found refused checks)

pub returns-in-Some-clause-stopped : goal.returns-in-Some-clause-stopped
returns-in-Some-clause-stopped g c why k none refused =
    let a = c.args.machine.now in
    let nodes = nodes_in c.args.query.now in
    let same = ap (map node_of) c.as_slice-nodes.ensures.value in
    let checks : checked (table_in a) nodes ≡ Some (c.in-Some.why, c.in-Some.k) =
    sym (check_says _ _ _ _ _ _ _
    c.table.ensures.objects c.table-2.ensures.objects same c.count_of-count.ensures
    c.check.ensures) ∙ c.in-Some.is in
    absurd (not_both (checked (table_in a) nodes) (c.in-Some.why, c.in-Some.k) checks none)

pub returns-in-Some-2-clause-stopped : goal.returns-in-Some-2-clause-stopped
returns-in-Some-2-clause-stopped g c why k none refused =
    let a = c.args.machine.now in
    let b = c.run_nodes.new.machine in
    let s = g.D.Dram.view c.args.dram.now in
    let t = g.D.Dram.view c.run_nodes.new.dram in
    let nodes = nodes_in c.args.query.now in
    let same = ap (map node_of) c.as_slice-nodes.ensures.value in
    let runs : NodesRun nodes a b s t (Ok (Some (c.in-Some-2.why, c.in-Some-2.k))) =
    subst (λ (ns : List Node). NodesRun ns a b s t (Ok (Some (c.in-Some-2.why, c.in-Some-2.k))))
    same
    (subst (λ r. NodesRun (map node_of c.as_slice-nodes.result.now) a b s t (Ok r))
    c.in-Some-2.is c.in_ok-why.ensures.runs) in
    subst (λ w. StoppedAt w (scan_script (table_in a) nodes) a s t)
    (same_why c.in-Some-2.why why c.in-Some-2.k k (sym runs.0 ∙ refused)) runs.1

pub returns-clause-stopped : goal.returns-clause-stopped
returns-clause-stopped g c why k none refused =
    let a = c.args.machine.now in
    let b = c.run_nodes.new.machine in
    let s = g.D.Dram.view c.args.dram.now in
    let t = g.D.Dram.view c.run_nodes.new.dram in
    let nodes = nodes_in c.args.query.now in
    let same = ap (map node_of) c.as_slice-nodes.ensures.value in
    let ran : NodesRan nodes a b s t = subst (λ (ns : List Node). NodesRan ns a b s t) same
    (subst (λ r. NodesRun (map node_of c.as_slice-nodes.result.now) a b s t (Ok r))
    c.in_default-2.is c.in_ok-why.ensures.runs) in
    absurd (not_both (refused_node a nodes) (why, k) refused ran.allowed)

pub returns-in_err-why-clause-failed : goal.returns-in_err-why-clause-failed
returns-in_err-why-clause-failed g c =
    let p = err_from_is_err_and c.from_residual.result c.from_residual.ensures.1 in
    rw p.1 c.in_err-why.ensures.runs.rose

pub returns-in_err-why-clause-left : goal.returns-in_err-why-clause-left
returns-in_err-why-clause-left g c =
    let a = c.args.machine.now in
    let s = g.D.Dram.view c.args.dram.now in
    let t = g.D.Dram.view c.run_nodes.new.dram in
    let nodes = nodes_in c.args.query.now in
    let same = ap (map node_of) c.as_slice-nodes.ensures.value in
    let failed = subst (λ (ns : List Node). FailedAmong (scan_script (table_in a) ns) a s t) same
    c.in_err-why.ensures.runs in
    let p = err_from_is_err_and c.from_residual.result c.from_residual.ensures.1 in
    rw p.1 (stopped_more (segments_of (geometry_of a) (count_of (table_in a) nodes)) _ s.banks
    t.banks failed.left)

pub returns-in_err-found-clause-left : goal.returns-in_err-found-clause-left
returns-in_err-found-clause-left g c =
    let a = c.args.machine.now in
    let b = c.run_nodes.new.machine in
    let s = g.D.Dram.view c.args.dram.now in
    let t = g.D.Dram.view c.run_nodes.new.dram in
    let u = g.D.Dram.view c.ones_of.new.dram in
    let nodes = nodes_in c.args.query.now in
    let same = ap (map node_of) c.as_slice-nodes.ensures.value in
    let ran : NodesRan nodes a b s t = subst (λ (ns : List Node). NodesRan ns a b s t) same
    (subst (λ r. NodesRun (map node_of c.as_slice-nodes.result.now) a b s t (Ok r))
    c.in_default-2.is c.in_ok-why.ensures.runs) in
    let q = c.requires.query.0 in
    let h = c.requires.query.1 in
    let k = asked a b s t nodes _ q _ c.table.ensures.laid c.requires.geometry
    (g.met.D.Dram.width c.args.dram.now c.requires.begun) c.requires.program h same
    (sym (check_says _ _ _ _ _ _ _ c.table.ensures.objects c.table-2.ensures.objects same
    c.count_of-count.ensures c.check.ensures) ∙ c.in_default.is)
    c.in_default-2.is c.in_ok-why.ensures.runs in
    let shown = c.geometry.ensures ∙ c.in_ok-why.ensures.kept.geometry ∙ c.requires.geometry in
    let object = c.last_object-object.ensures (table_in a)
    (free_name (table_in a) (size q), k.leaves.object) (c.table-3.ensures.objects ∙ k.left) in
    let reads = reads_are a s nodes q c.geometry.result c.last_object-object.result h k.leaves shown
    object in
    let p = err_from_is_err_and c.from_residual-in_err-found.result
    c.from_residual-in_err-found.ensures.1 in
    rw p.1 (failed_after (segments_of (geometry_of a) (count_of (table_in a) nodes)) a b s t u nodes
    ran (subst (λ n. StoppedWithin n [] t.banks u.banks) reads c.in_err-found.ensures.left))

pub returns-in-Some-2-clause-used : goal.returns-in-Some-2-clause-used
returns-in-Some-2-clause-used g c checks =
    let a = c.args.machine.now in
    let b = c.run_nodes.new.machine in
    let s = g.D.Dram.view c.args.dram.now in
    let t = g.D.Dram.view c.run_nodes.new.dram in
    let same = ap (map node_of) c.as_slice-nodes.ensures.value in
    let runs = subst (λ r. NodesRun (map node_of c.as_slice-nodes.result.now) a b s t (Ok r))
    c.in-Some-2.is c.in_ok-why.ensures.runs in
    left_by_some c.in-Some-2.why a s t (scan_script (table_in a) (nodes_in c.args.query.now))
    (subst (λ (ns : List Node). StoppedAt c.in-Some-2.why (scan_script (table_in a) ns) a s t) same
    runs.1)

pub returns-clause-used : goal.returns-clause-used
returns-clause-used g c checks =
    let a = c.args.machine.now in
    let b = c.run_nodes.new.machine in
    let s = g.D.Dram.view c.args.dram.now in
    let t = g.D.Dram.view c.run_nodes.new.dram in
    let nodes = nodes_in c.args.query.now in
    let same = ap (map node_of) c.as_slice-nodes.ensures.value in
    let ran : NodesRan nodes a b s t = subst (λ (ns : List Node). NodesRan ns a b s t) same
    (subst (λ r. NodesRun (map node_of c.as_slice-nodes.result.now) a b s t (Ok r))
    c.in_default-2.is c.in_ok-why.ensures.runs) in
    c.in_ok-found.ensures.did.banks ∙ left_by_all a b s t (scan_script (table_in a) nodes) ran.ran

pub returns-in-Some-clause-used : goal.returns-in-Some-clause-used
returns-in-Some-clause-used g c none =
    let a = c.args.machine.now in
    let nodes = nodes_in c.args.query.now in
    let same = ap (map node_of) c.as_slice-nodes.ensures.value in
    let checks : checked (table_in a) nodes ≡ Some (c.in-Some.why, c.in-Some.k) =
    sym (check_says _ _ _ _ _ _ _
    c.table.ensures.objects c.table-2.ensures.objects same c.count_of-count.ensures
    c.check.ensures) ∙ c.in-Some.is in
    absurd (not_both (checked (table_in a) nodes) (c.in-Some.why, c.in-Some.k) checks none)
