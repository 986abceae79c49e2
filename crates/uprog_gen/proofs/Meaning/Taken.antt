-- The graphs that are taken out of flows are those of the blocks, and say how many commands
-- there are.
use Rattle.uprog_gen.proofs.Common.{◌≡◌, ℕ, ◌+◌, ◌*◌, ◌<◌, ◌≤◌, Bool, List, [], ◌∷◌, ◌++◌, take}
use Rattle.uprog_gen.proofs.Common.{map, length, refl, sym, ap, ◌∙◌, subst, arith, append_assoc}
use Rattle.uprog_gen.proofs.Common.{append-nil, inl, inr, slice_index_or, map-append, map_more}
use Rattle.uprog_gen.proofs.Common.{sum_by-cons, WIDTH_MAX, Op, State, Stmt, Statement, Compute}
use Rattle.uprog_gen.proofs.Common.{Visit, Operation, statement, operation, names_width, Context}
use Rattle.uprog_gen.proofs.Common.{next_context, at_start, OperationMeets, EntryCode, Microprogram}
use Rattle.uprog_gen.proofs.Common.{microprogram_of, Flow, Move, StepOf, Block, flow_of, Along}
use Rattle.uprog_gen.proofs.Common.{FlowOf, End, Do, Loop, Last, all_rounds, Slots, front}
use Rattle.uprog_gen.proofs.Common.{IsBlockProgram, start, constant, place_of, home, each_last}
use Rattle.uprog_gen.proofs.Common.{held_start, held_body, held_last}
use Rattle.std.specs.List.{zip}
use Rattle.op_text.specs.Language.{Block as Serial}
use Rattle.loop_front.specs.Front.{used_subs, in_registers, before, after, each_sub, put_all}
use Rattle.loop_front.specs.Front.{starts, round_flow, each_flow, followed, clears}
use Rattle.uprog_gen.specs.Does.{IsCheap, AreCheap}
use Rattle.uprog_gen.specs.Does.{total as sum_of}
use Rattle.uprog_gen.specs.Layout.{IsLayout}
use Rattle.uprog_gen.specs.Programs.{HaveForms, AreWritten, IsCompiled}
use Rattle.uprog_gen.specs.Totals.{IsExactOver}
use Rattle.uprog_gen.specs.Entries.{IsCodeOf}
use Rattle.uprog_gen.proofs.Costs.Counted.{one_exactly, all_exactly}
use Rattle.uprog_gen.proofs.Costs.Kinds.{all_kinds}
use Rattle.uprog_gen.proofs.Rows.Top.{both_counts}
use Rattle.uprog_gen.specs.Graphs.{Graphed, IsGraphOf, AreGraphsOf, op_commands, graphed_ceiling}
use Rattle.uprog_gen.specs.Graphs.{IsGraphed, AreGraphed, body_graph, graphs_done, later, flow_graph}
use Rattle.uprog_gen.specs.Graphs.{statement_graph, graphs_in}
use Rattle.uprog_gen.proofs.Naming.Stage.{Stage, first_stage, next_stage}

-- moves have no graph
put_graph : (ms : List Move) (k : FlowOf Block) → flow_graph (put_all ms k) ≡ flow_graph k
put_graph [] k = refl
put_graph (m ∷ ms) k = put_graph ms k

each_graph : (b : Block) → flow_graph (each_flow b End) ≡ body_graph b ∷ []
each_graph b =
    let more = each_sub after (used_subs b) 3 in
    put_graph (starts b) (Loop 2 (Last (round_flow b (put_all more End))) End)
    ∙ ap (λ l. later l []) (put_graph (each_sub before (used_subs b) 3)
    (Do (in_registers b) (put_all more End))) ∙ ap (later (body_graph b ∷ [])) (put_graph more End)

-- statement after statement
abbrev pub pair_graphs : List (Stmt × Flow) → List Graphed
pair_graphs [] = []
pair_graphs (p ∷ ps) = statement_graph (statement p.0) (flow_of p.1) ++ pair_graphs ps

pub pairs-append : (ps : List (Stmt × Flow)) (p : Stmt × Flow)
    → pair_graphs (ps ++ p ∷ []) ≡ pair_graphs ps ++ statement_graph (statement p.0) (flow_of p.1)
pairs-append [] p = append-nil (statement_graph (statement p.0) (flow_of p.1))
pairs-append (q ∷ ps) p =
    let g = statement_graph (statement q.0) (flow_of q.1) in
    ap (λ l. g ++ l) (pairs-append ps p) ∙ sym
    (append_assoc g (pair_graphs ps) (statement_graph (statement p.0) (flow_of p.1)))

pub pairs_are : (ss : List Stmt) (qs : List Flow)
    → pair_graphs (zip ss qs) ≡ graphs_in (map statement ss) (map flow_of qs)
pairs_are [] qs = refl
pairs_are (s ∷ ss) [] = refl
pairs_are (s ∷ ss) (q ∷ qs) = ap (λ l. statement_graph (statement s) (flow_of q)
    ++ l) (pairs_are ss qs)

-- a block's graph
abbrev pub the_graph : (slots : Slots) (b : Serial) (q : List (StepOf Block))
    → IsBlockProgram slots b q → Graphed
the_graph slots b q f = record { graph = f.body.graph; outs = f.body.outs }

started_graph : (slots : Slots) (down : Bool) (ss : List State) (body : Block)
    → flow_graph (front (map (start slots down) ss ++ Along body ∷ [])) ≡ body_graph body ∷ []
started_graph slots down [] body = each_graph body
started_graph slots down (s ∷ ss) body =
    let first = constant s.start (place_of down (slots s.name)) in
    ap (later (body_graph first ∷ [])) (started_graph slots down ss body)

form_graph : (slots : Slots) (b : Serial) (q : List (StepOf Block)) (f : IsBlockProgram slots b q)
    → flow_graph (front q) ≡ the_graph slots b q f ∷ []
form_graph slots b q f = elim f.form [
  | inl e ↦ ap (λ p. flow_graph (front p)) e.1 ∙ started_graph slots b.down b.states f.body
  | inr h ↦ ap (λ p. flow_graph (front p)) h.form ∙ (let at = home slots b.down h.state h.cells in
      let x = each_last (held_start at h.cmds.start) (held_body at f.body h.cmds.each)
      (held_last at f.body h.cmds.last) in
      put_graph (clears x) (followed x End))
]

is_graph : (slots : Slots) (b : Serial) (q : List (StepOf Block)) (f : IsBlockProgram slots b q)
    → IsGraphOf b (the_graph slots b q f)
is_graph slots b q f = record {
  as_many = f.is.as_many;
  inputs = f.is.inputs;
  values = f.is.values;
  nodes = f.is.nodes;
  graph = f.is.graph;
  named = f.is.named;
  reduced = f.is.reduced;
}

are_graphs : (slots : Slots) (body : List Statement) (ps : List (List (StepOf Block)))
    → HaveForms slots body ps → AreGraphsOf body (graphs_in body (map front ps))
are_graphs slots [] [] h = tt
are_graphs slots (Compute target second p args ∷ body) (q ∷ ps) h = are_graphs slots body ps h.1
are_graphs slots (Visit b ∷ body) (q ∷ ps) h =
    subst (λ (gs : List Graphed). AreGraphsOf (Visit b ∷ body) (gs ++ graphs_in body (map front ps)))
    (sym (form_graph slots b q h.0)) (is_graph slots b q h.0, are_graphs slots body ps h.1)
are_graphs _ _ _ h = absurd h

-- and the ones that are done
graphs_are : (slots : Slots) (body : List Statement) (ps : List (List (StepOf Block)))
    (h : HaveForms slots body ps)
    → graphs_in body (map front ps) ≡ graphs_done slots body ps h
graphs_are slots [] [] h = refl
graphs_are slots (Compute target second p args ∷ body) (q ∷ ps) h = graphs_are slots body ps h.1
graphs_are slots (Visit b ∷ body) (q ∷ ps) h =
    ap (λ (gs : List Graphed). gs ++ graphs_in body (map front ps)) (form_graph slots b q h.0)
    ∙ ap (λ (gs : List Graphed). the_graph slots b q h.0 ∷ gs) (graphs_are slots body ps h.1)
graphs_are slots [] (q ∷ ps) h = absurd h
graphs_are slots (s ∷ body) [] h = absurd h

-- ceilings of statements that they keep, and the sum of these
record KeepsGraphs (n : ℕ) (ps : List (List (StepOf Block))) (most : ℕ) : Type 0 where
  ceilings : List (ℕ → ℕ)
  cheap : AreCheap n ps ceilings
  total : sum_of ceilings n ≡ most

one_more : (n : ℕ) (q : List (StepOf Block)) (ps : List (List (StepOf Block))) (one more : ℕ)
    → IsCheap n q one → KeepsGraphs n ps more → KeepsGraphs n (q ∷ ps) (one + more)
one_more n q ps one more h k = record {
  ceilings = (λ n. one) ∷ k.ceilings;
  cheap = (h, k.cheap);
  total = sum_by-cons (λ (f : ℕ → ℕ). f n) (λ n. one) k.ceilings ∙ ap (λ x. one + x) k.total;
}

module _ (op : Operation) (meets : OperationMeets op) (slots : Slots) (free_bit free_word : ℕ)
    (is : IsLayout op slots free_bit free_word) where
  -- each statement keeps its part of the ceiling that the graphs give
  few_rounds : (n : ℕ) → 0 < n → n ≤ WIDTH_MAX → (rest : List Statement) (c : Context) → Stage op c rest
      → (ps : List (List (StepOf Block))) → HaveForms slots rest ps
      → AreWritten slots free_bit free_word rest ps
      → KeepsGraphs n ps (graphed_ceiling c.known n rest (graphs_in rest (map front ps)))
  few_rounds n some small [] c st [] h w = record { ceilings = []; cheap = tt; total = refl }
  few_rounds n some small (Compute target second p args ∷ rest) c st (q ∷ ps) h w =
      let s = Compute target second p args in
      let one = one_exactly _ meets _ _ _ is c target second p args rest st q
      w.0 in
      let most = op_commands p (names_width c.known n args) in
      one_more n q ps most
      (graphed_ceiling (next_context c s).known n rest (graphs_in rest (map front ps)))
      (omega (arith, all_kinds (all_rounds n q), one.aaps n some small, one.aps n some small))
      (few_rounds n some small rest (next_context c s) (next_stage op _ _ _ st) ps h.1 w.1)
  few_rounds n some small (Visit b ∷ rest) c st (q ∷ ps) h w =
      let s = Visit b in
      let g = the_graph slots b q h.0 in
      let most = n * (4 * length g.graph.nodes + 3 * length b.assigns) + length b.states in
      subst (λ (gs : List Graphed). KeepsGraphs n (q ∷ ps)
      (graphed_ceiling c.known n (Visit b ∷ rest) (gs ++ graphs_in rest (map front ps))))
      (sym (form_graph slots b q h.0))
      (one_more n q ps most
      (graphed_ceiling (next_context c s).known n rest (graphs_in rest (map front ps)))
      (h.0.cost n some)
      (few_rounds n some small rest (next_context c s) (next_stage op _ _ _ st) ps h.1 w.1))
  few_rounds _ _ _ _ _ _ _ h _ = absurd h

  -- the entry takes the commands of its parts
  pub entry_exact : (ps : List (List (StepOf Block)))
      → AreWritten slots free_bit free_word op.body ps → (e : Microprogram)
      → IsCodeOf e.shape ps e.code → IsExactOver e op ps
  entry_exact ps written e code n some small =
      let all = all_exactly _ meets _ _ _ is op.body (at_start op) (first_stage op meets) ps written in
      (code.does n some small).exact ∙ both_counts (all.aaps n some small) (all.aps n some small)

  -- the entry of which these are the loop programs has the graphs that these do
  pub entry_graphed : (e : Microprogram) (c : IsCompiled e op)
      → AreWritten slots free_bit free_word op.body c.statements
      → HaveForms slots op.body c.statements → IsCodeOf e.shape c.statements e.code
      → IsGraphed e op (graphs_in op.body (map front c.statements))
  entry_graphed e c written h code = record {
    compiled = c;
    done = graphs_are c.slots op.body c.statements c.forms;
    graphs = are_graphs slots op.body c.statements h;
    few = λ n some small. (let k = few_rounds n some small op.body (at_start op) (first_stage op meets)
        c.statements h written in
        omega (arith, code.few n some small k.ceilings k.cheap, k.total));
  }

-- one operation more
graphed-append : (es : List Microprogram) (ops : List Operation) (gs : List Graphed)
    (e : Microprogram) (op : Operation) (own : List Graphed) → AreGraphed es ops gs
    → IsGraphed e op own → AreGraphed (es ++ e ∷ []) (ops ++ op ∷ []) (gs ++ own)
graphed-append [] [] [] e op own h i = (own, [], sym (append-nil own), i, tt)
graphed-append (d ∷ es) (p ∷ ops) gs e op own h i = (
  h.0,
  h.1 ++ own,
  ap (λ l. l ++ own) h.2 ∙ append_assoc h.0 h.1 own,
  h.3,
  graphed-append es ops h.1 e op own h.4 i,
)
graphed-append _ _ _ _ _ _ h _ = absurd h

pub graphed_more : (items : List Op) (k : ℕ) (x : Op) (old new : List EntryCode) (entry : EntryCode)
    (gs hs own : List Graphed) → k < length items → x ≡ slice_index_or items k x
    → new ≡ old ++ entry ∷ [] → hs ≡ gs ++ own
    → AreGraphed (map microprogram_of old) (map operation (take k items)) gs
    → IsGraphed (microprogram_of entry) (operation x) own
    → AreGraphed (map microprogram_of new) (map operation (take (k + 1) items)) hs
graphed_more items k x old new entry gs hs own lt e f g h i =
    rw (g, f, map-append microprogram_of old (entry ∷ []), map_more operation items k x lt, ← e)
    (graphed-append (map microprogram_of old) (map operation (take k items)) gs
    (microprogram_of entry) (operation x) own h i)
