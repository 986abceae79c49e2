use Rattle.scan_query.proofs.Common.{◌∙◌, ap, sym, subst, take, drop, map, length, Ok, List, Some}
use Rattle.scan_query.proofs.Common.{arith, ◌<◌, ◌+◌, ℕ, None, get_or, AllByRecursion}
use Rattle.scan_query.proofs.Common.{err_from_is_err_and, Named, Instruction, IsPlain, table_in}
use Rattle.scan_query.proofs.Common.{geometry_of, operations_by, Node, refused_from, count_of}
use Rattle.scan_query.proofs.Common.{script_from, node_instructions, free_name}
use Rattle.scan_query.specs.Queries.{node_of, names_in, sources_fit, width_in}
use Rattle.scan_query.specs.Queries.{instructions_for}
use Rattle.scan_query.specs.Running.{FailedAmong, Ran, Runs}
use Rattle.scan_query.proofs.Nodewise.{next_instructions, left_with, front_with, front_length}
use Rattle.scan_query.proofs.Nodewise.{all_front}
use Rattle.scan_query.proofs.Nodewise.{all_back, node_done, node_allowed, node_refused, node_room}
use Rattle.scan_query.proofs.Nodewise.{at_of}
use Rattle.scan_query.proofs.Failing.{failed_node}
use Rattle.scan_query.proofs.Stopping.{stopped_node}
use Rattle.scan_query.proofs.run.run_nodes.Goals as goal

pub do_node-requires-clause-plain : goal.do_node-requires-clause-plain
do_node-requires-clause-plain g c =
    let start = table_in c.args.machine.now in
    let xs = c.args.nodes.now in
    let j = c.nodes.node-index in
    let node = node_of c.node-item.result in
    let count = count_of start (map node_of xs) in
    let names = free_name start in
    let below : j < length xs = omega (arith, c.nodes-test.true, c.nodes.auto.node-index-end) in
    let at = at_of xs j c.node-item.result c.node-item.result below c.node-item.is in
    let left = left_with node_of xs j c.node-item.result at in
    let sources = subst (AllByRecursion (sources_fit 64)) left c.nodes.invariant.sources in
    let plain = subst (λ (ns : List Node). AllByRecursion IsPlain
    (script_from start names count j ns)) left c.nodes.invariant.plain in
    let same = next_instructions node_of xs j c.nodes.k c.node-item.result c.as_slice.result.now
    c.deref.result.now start count c.count_of-count.result c.from.result
    at (omega (arith, below, c.requires.few)) c.nodes.invariant.place c.from.ensures
    (λ i l. ap (λ (ns : List (List ℕ)). names_in ns i) c.as_slice.ensures.value
    ∙ c.free_names-names.ensures.free i l
    ∙ ap (λ (t : List Named). free_name t i) c.table-2.ensures.objects)
    (c.deref.ensures.0 ∙ c.widths_of-widths.ensures.widths
    ∙ ap (λ (t : List Named). map (width_in t) (map node_of xs)) c.table-3.ensures.objects)
    (c.count_of-count.ensures ∙ ap (λ (t : List Named). count_of t (map node_of xs))
    c.table.ensures.objects) sources.0 in
    subst (AllByRecursion IsPlain) (sym same)
    (all_front IsPlain (node_instructions start names count j node) _ plain)

pub do_node-requires-clause-room : goal.do_node-requires-clause-room
do_node-requires-clause-room g c =
    let start = table_in c.args.machine.now in
    let xs = c.args.nodes.now in
    let j = c.nodes.node-index in
    let count = count_of start (map node_of xs) in
    let names = free_name start in
    let below : j < length xs = omega (arith, c.nodes-test.true, c.nodes.auto.node-index-end) in
    let at = at_of xs j c.node-item.result c.node-item.result below c.node-item.is in
    let front = map node_of (take j xs) in
    let size = front_length node_of xs j c.node-item.result at in
    node_room start names count front c.args.machine.now c.nodes.machine
    (g.D.Dram.view c.args.dram.now) (g.D.Dram.view c.nodes.dram)
    (omega (arith, size, below, c.requires.few)) c.nodes.invariant.ran c.requires.room

pub returns-in-Some-clause-runs : goal.returns-in-Some-clause-runs
returns-in-Some-clause-runs g c =
    let start = table_in c.args.machine.now in
    let xs = c.args.nodes.now in
    let j = c.nodes.node-index in
    let node = node_of c.node-item.result in
    let count = count_of start (map node_of xs) in
    let names = free_name start in
    let below : j < length xs = omega (arith, c.nodes-test.true, c.nodes.auto.node-index-end) in
    let at = at_of xs j c.node-item.result c.node-item.result below c.node-item.is in
    let left = left_with node_of xs j c.node-item.result at in
    let sources = subst (AllByRecursion (sources_fit 64)) left c.nodes.invariant.sources in
    let same = next_instructions node_of xs j c.nodes.k c.node-item.result c.as_slice.result.now
    c.deref.result.now start count c.count_of-count.result c.from.result
    at (omega (arith, below, c.requires.few)) c.nodes.invariant.place c.from.ensures
    (λ i l. ap (λ (ns : List (List ℕ)). names_in ns i) c.as_slice.ensures.value
    ∙ c.free_names-names.ensures.free i l
    ∙ ap (λ (t : List Named). free_name t i) c.table-2.ensures.objects)
    (c.deref.ensures.0 ∙ c.widths_of-widths.ensures.widths
    ∙ ap (λ (t : List Named). map (width_in t) (map node_of xs)) c.table-3.ensures.objects)
    (c.count_of-count.ensures ∙ ap (λ (t : List Named). count_of t (map node_of xs))
    c.table.ensures.objects) sources.0 in
    let view = g.D.Dram.view in
    let m0 = c.args.machine.now in
    let m = c.nodes.machine in
    let m2 = c.do_node.new.machine in
    let s = view c.args.dram.now in
    let t = view c.nodes.dram in
    let u = view c.do_node.new.dram in
    let front = map node_of (take j xs) in
    let back = map node_of (drop (j + 1) xs) in
    let size = front_length node_of xs j c.node-item.result at in
    let refusals = c.nodes.invariant.refusals
    ∙ ap (refused_from (geometry_of m0) (operations_by m0) start (table_in m) names count j)
    left in
    let runs = subst (λ (script : List Instruction). Runs script m m2 t u
    (Ok (Some c.in-Some.why))) same
    (subst (λ r. Runs (instructions_for (names_in c.as_slice.result.now) c.count_of-count.result
    (get_or c.deref.result.now c.from.result 0) c.nodes.k node) m m2 t u (Ok r)) c.in-Some.is
    c.in_ok-why.ensures.runs) in (
      node_refused start names count j front back node m0 m s t
          (refused_from (geometry_of m0) (operations_by m0) start start names count 0
          (map node_of xs)) c.in-Some.why refusals c.nodes.invariant.ran runs.0
          ∙ ap (λ i. Some (c.in-Some.why, i)) (sym c.nodes.invariant.place),
      stopped_node node_of xs start names count j c.node-item.result m0 m s t u c.in-Some.why size
          (front_with node_of xs j c.node-item.result at) c.nodes.invariant.ran runs.1,
    )

pub nodes-preserved : goal.nodes-preserved
nodes-preserved g c =
    let start = table_in c.args.machine.now in
    let xs = c.args.nodes.now in
    let j = c.nodes.node-index in
    let node = node_of c.node-item.result in
    let count = count_of start (map node_of xs) in
    let names = free_name start in
    let below : j < length xs = omega (arith, c.nodes-test.true, c.nodes.auto.node-index-end) in
    let at = at_of xs j c.node-item.result c.node-item.result below c.node-item.is in
    let left = left_with node_of xs j c.node-item.result at in
    let sources = subst (AllByRecursion (sources_fit 64)) left c.nodes.invariant.sources in
    let plain = subst (λ (ns : List Node). AllByRecursion IsPlain
    (script_from start names count j ns)) left c.nodes.invariant.plain in
    let same = next_instructions node_of xs j c.nodes.k c.node-item.result c.as_slice.result.now
    c.deref.result.now start count c.count_of-count.result c.from.result
    at (omega (arith, below, c.requires.few)) c.nodes.invariant.place c.from.ensures
    (λ i l. ap (λ (ns : List (List ℕ)). names_in ns i) c.as_slice.ensures.value
    ∙ c.free_names-names.ensures.free i l
    ∙ ap (λ (t : List Named). free_name t i) c.table-2.ensures.objects)
    (c.deref.ensures.0 ∙ c.widths_of-widths.ensures.widths
    ∙ ap (λ (t : List Named). map (width_in t) (map node_of xs)) c.table-3.ensures.objects)
    (c.count_of-count.ensures ∙ ap (λ (t : List Named). count_of t (map node_of xs))
    c.table.ensures.objects) sources.0 in
    let view = g.D.Dram.view in
    let m0 = c.args.machine.now in
    let m = c.nodes.machine in
    let m2 = c.do_node.new.machine in
    let s = view c.args.dram.now in
    let t = view c.nodes.dram in
    let u = view c.do_node.new.dram in
    let front = map node_of (take j xs) in
    let back = map node_of (drop (j + 1) xs) in
    let size = front_length node_of xs j c.node-item.result at in
    let refusals = c.nodes.invariant.refusals
    ∙ ap (refused_from (geometry_of m0) (operations_by m0) start (table_in m) names count j)
    left in
    let runs = subst (λ (script : List Instruction). Runs script m m2 t u (Ok None)) same
    (subst (λ r. Runs (instructions_for (names_in c.as_slice.result.now) c.count_of-count.result
    (get_or c.deref.result.now c.from.result 0) c.nodes.k node) m m2 t u (Ok r)) c.in-None.is
    c.in_ok-why.ensures.runs) in
    record {
      place = omega (arith, c.nodes.invariant.place);
      borrow = c.in_ok-why.ensures.borrow ∙ c.nodes.invariant.borrow;
      sources = sources.1;
      plain = all_back IsPlain (node_instructions start names count j node) _ plain;
      refusals = node_allowed start names count j front back node m0 m m2 s t u
          (refused_from (geometry_of m0) (operations_by m0) start start names count 0
          (map node_of xs)) refusals c.nodes.invariant.ran runs;
      ran = subst (λ (ns : List Node). Ran (script_from start names count 0 ns) m0 m2 s u)
          (front_with node_of xs j c.node-item.result at)
          (node_done start names count j front node m0 m m2 s t u size c.nodes.invariant.ran
          runs);
    }

pub returns-in_err-why-clause-runs : goal.returns-in_err-why-clause-runs
returns-in_err-why-clause-runs g c =
    let start = table_in c.args.machine.now in
    let xs = c.args.nodes.now in
    let j = c.nodes.node-index in
    let count = count_of start (map node_of xs) in
    let names = free_name start in
    let below : j < length xs = omega (arith, c.nodes-test.true, c.nodes.auto.node-index-end) in
    let at = at_of xs j c.node-item.result c.node-item.result below c.node-item.is in
    let left = left_with node_of xs j c.node-item.result at in
    let sources = subst (AllByRecursion (sources_fit 64)) left c.nodes.invariant.sources in
    let same = next_instructions node_of xs j c.nodes.k c.node-item.result c.as_slice.result.now
    c.deref.result.now start count c.count_of-count.result c.from.result
    at (omega (arith, below, c.requires.few)) c.nodes.invariant.place c.from.ensures
    (λ i l. ap (λ (ns : List (List ℕ)). names_in ns i) c.as_slice.ensures.value
    ∙ c.free_names-names.ensures.free i l
    ∙ ap (λ (t : List Named). free_name t i) c.table-2.ensures.objects)
    (c.deref.ensures.0 ∙ c.widths_of-widths.ensures.widths
    ∙ ap (λ (t : List Named). map (width_in t) (map node_of xs)) c.table-3.ensures.objects)
    (c.count_of-count.ensures ∙ ap (λ (t : List Named). count_of t (map node_of xs))
    c.table.ensures.objects) sources.0 in
    let view = g.D.Dram.view in
    let m0 = c.args.machine.now in
    let m = c.nodes.machine in
    let m2 = c.do_node.new.machine in
    let s = view c.args.dram.now in
    let t = view c.nodes.dram in
    let u = view c.do_node.new.dram in
    let size = front_length node_of xs j c.node-item.result at in
    let p = err_from_is_err_and c.from_residual.result c.from_residual.ensures.1 in
    let failed = subst (λ (script : List Instruction). FailedAmong script m t u) same
    c.in_err-why.ensures.runs in
    rw p.1 (failed_node node_of xs start names count j c.node-item.result m0 m s t u size
    (front_with node_of xs j c.node-item.result at) c.nodes.invariant.ran failed)
