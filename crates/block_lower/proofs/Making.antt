-- The graph of a block is made for its inputs.
use Rattle.block_lower.proofs.Common.{◌≡◌, ℕ, zero, suc, ◌+◌, ◌<◌, ◌≤◌, Bool, true, not, List, []}
use Rattle.block_lower.proofs.Common.{◌∷◌, ◌++◌, map, filter, length, refl, sym, ap, ◌∙◌, arith}
use Rattle.block_lower.proofs.Common.{Some, is_some, slice_get, length-append, and_parts}
use Rattle.block_lower.proofs.Common.{length-map, slice_get_within, State, Assign, Equation}
use Rattle.block_lower.proofs.Common.{equation, term_bit, with_lets, is_among, Numbers, all_parts}
use Rattle.block_lower.proofs.Common.{all_weights, BlockReads, Lit, Graph, lit_at, KeepsOutputs}
use Rattle.block_lower.proofs.Common.{Slots, BlockMeets, equation_names, targets_of}
use Rattle.std.proofs.Common.{◌^◌, slice_index}
use Rattle.std.proofs.lemmas.List.Sums.{length-filter, count_by-le-length}
use Rattle.aoi_graph.specs.declared.AoiNode.{AoiNode}
use Rattle.aoi_graph.specs.Gates.{aoi_at, aoi_values}
use Rattle.aoi_graph.specs.Blocks.{AreHeld, NamesInputs, HaveValues, after_lets, is_input}
use Rattle.mig_graph.specs.Graph.{value}
use Rattle.mig_graph.specs.Inputs.{HasInput, IsInputCount}
use Rattle.mig_graph.proofs.InputLaws.{held-inputs, count-most}
use Rattle.loop_ir.specs.Statements.{is_readable}
use Rattle.block_lower.specs.Inputs.{block_from, block_inputs, name_at, AreNumbered}
use Rattle.block_lower.proofs.Names.{among-left, among-right, among-kept}
use Rattle.block_lower.proofs.Gathering.{gathered-all, gathered-length}
use Rattle.block_lower.proofs.Bounds.{block-most, equations-most}
use Rattle.block_lower.proofs.Reading.{Knows, block-reads}

equation-at : (xs : List Assign) (j : ℕ) (e : Equation) → slice_get (map equation xs) j ≡ Some e
    → (a : Assign) × (slice_get xs j ≡ Some a) × (equation a ≡ e)
equation-at [] j e h = absurd (cc)
equation-at (x ∷ xs) zero e h = (x, refl, (cc))
equation-at (x ∷ xs) (suc j) e h = equation-at xs j e h

module _ {slots : Slots} {down : Bool} {states : List State} (lets assigns : List Assign)
    (meets : BlockMeets slots (block_from down states lets assigns)) where
  abbrev inputs : List (List ℕ)
  inputs = block_inputs (block_from down states lets assigns)

  -- the names that are read
  abbrev let_names : List (List ℕ)
  let_names = equation_names (map equation lets)

  abbrev read_names : List (List ℕ)
  read_names = equation_names (map equation assigns)

  abbrev is_other : List ℕ → Bool
  is_other name = not (is_among (targets_of (map equation lets)) name)

  names-few : length (let_names ++ read_names) ≤ 72
  names-few =
      let l = equations-most (map equation lets) in
      let a = equations-most (map equation assigns) in
      let w = meets.weight in let m = meets.lets in let k = meets.assigns in
      omega (arith, l, a, w, m, k, length-append let_names read_names)

  pub room : length (let_names ++ read_names) < 256
  room = let h = names-few in omega (arith, h)

  pub parts-few : all_parts lets + all_parts assigns < 2 ^ 28
  parts-few =
      let h = block-most (is_readable slots (map equation lets)) lets assigns meets.meet in
      let w : all_weights lets + all_weights assigns ≤ 24 = meets.weight in
      let l : length lets ≤ 16 = omega (arith, length-map lets equation, meets.lets) in
      let a : length assigns ≤ 8 = omega (arith, length-map assigns equation, meets.assigns) in
      omega (arith, h, w, l, a)

  pub inputs-few : length inputs ≤ 72
  inputs-few =
      let all = let_names ++ read_names in
      omega (
        arith,
        gathered-length [] (filter is_other all),
        length-filter is_other all,
        count_by-le-length is_other all,
        names-few,
      )

  knows : (names : List (List ℕ)) (numbers : Numbers)
      → AreNumbered inputs numbers
      → ((name : List ℕ) → is_among names name ≡ true
      → is_among (let_names ++ read_names) name ≡ true)
      → Knows (is_readable slots (map equation lets)) (is_input numbers) names
  knows names numbers num inside name e r =
      let all = let_names ++ read_names in
      num.some name ∙ gathered-all [] (filter is_other all) name (among-kept is_other all name
      (inside name e) (and_parts (is_some (slots name)) (is_other name) r).1)

  reads-inputs : (numbers : Numbers) → AreNumbered inputs numbers
      → BlockReads (is_input numbers) lets assigns
  reads-inputs numbers num =
      block-reads (is_readable slots (map equation lets)) (is_input numbers) lets assigns meets.meet
      (knows let_names numbers num (λ name e. among-left let_names read_names name e))
      (knows read_names numbers num (λ name e. among-right let_names read_names name e))

  module _ (numbers : Numbers) (num : AreNumbered inputs numbers) (nodes : List AoiNode)
      (held : AreHeld numbers nodes) where
    has-inputs : (limit : ℕ) → length inputs ≤ limit → (k : ℕ) → k < length nodes
        → HasInput limit (aoi_at nodes k)
    has-inputs limit most = held-inputs numbers limit nodes (λ name i e.
        let l = (num.place name i e).0 in omega (arith, l, most)) held

    pub inputs-below : (k : ℕ) → k < length nodes → HasInput 255 (aoi_at nodes k)
    inputs-below = has-inputs 255 (let h = inputs-few in omega (arith, h))

    pub inputs-most : (count : ℕ) → IsInputCount nodes count → count ≤ length inputs
    inputs-most count c = count-most nodes count (length inputs) c
        (has-inputs (length inputs) (omega arith))

    -- the values of the outputs through all graphs
    pub output-values : (gates : List ℕ) (first last : Graph) (outs made : List Lit)
        → ((bits : ℕ → Bool) (env : List ℕ → Bool) → BlockReads (is_input numbers) lets assigns
        → NamesInputs numbers bits env → HaveValues nodes gates bits (after_lets env lets)
        assigns)
        → ((bits : ℕ → Bool) (j : ℕ) → j < length gates
        → value first bits (lit_at outs j) ≡ aoi_values nodes bits (slice_index gates j))
        → KeepsOutputs first outs last made → length outs ≡ length gates
        → length gates ≡ length assigns
        → (env : List ℕ → Bool) (v : ℕ → Bool)
        → ((k : ℕ) → k < length inputs → v k ≡ env (name_at inputs k))
        → (j : ℕ) (e : Equation) → slice_get (map equation assigns) j ≡ Some e
        → value last v (lit_at made j) ≡ term_bit (with_lets env (map equation lets)) e.value
    output-values gates first last outs made built through keeps long all env v same j e at =
        let a = equation-at assigns j e at in
        let below : j < length assigns = slice_get_within assigns j a.0 a.1 in
        keeps.values v j (omega (arith, below))
        ∙ through v j (omega (arith, below))
        ∙ built v env (reads-inputs numbers num) (λ name i h. let p = num.place name i h in
        sym (same i p.0 ∙ ap env p.1)) j a.0 a.1
        ∙ ap (λ (e : Equation). term_bit (with_lets env (map equation lets)) e.value) a.2
