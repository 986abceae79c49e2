-- What the code looked at says that the chosen steps do the block.
use Rattle.block_lower.proofs.Common.{◌≡◌, ℕ, ◌+◌, ◌*◌, ◌≤◌, Bool, List, [], ◌∷◌, length, sym, ap}
use Rattle.block_lower.proofs.Common.{◌∙◌, subst, arith, ◌⊎◌, inl, inr, slice_index_or}
use Rattle.block_lower.proofs.Common.{slice_get_within, State, Block, Visit, Place, StepOf}
use Rattle.block_lower.proofs.Common.{all_rounds, rounds_cost, Slots, IsLowered}
use Rattle.loop_ir.specs.Plain.{Block as Body}
use Rattle.block_lower.specs.Inputs.{block_inputs}
use Rattle.block_lower.specs.declared.held.HeldLoop.{HeldLoop}
use Rattle.block_lower.specs.Held.{IsHeldOne, IsLoopFor, held_steps, commands_in}
use Rattle.block_lower.specs.Choice.{HasFound, IsOther}
use Rattle.block_lower.specs.Form.{place_of, home, IsBlockBody, IsInCells, IsChosen}
use Rattle.block_lower.specs.Form.{IsBlockProgram}
use Rattle.block_lower.proofs.Facts.{Given}
use Rattle.block_lower.proofs.InRows.{row-lowered, row-program}
use Rattle.block_lower.proofs.InCells.{cells-cost, cells-lowered}

-- a body at the same places of a graph that may stand for the block's is one of the block
other-is : {slots : Slots} {b : Block} {body other : Body} → IsBlockBody slots b body
    → IsOther body other → IsBlockBody slots b other
other-is {b = b} {body = body} {other = other} is o = record {
  reads = o.reads ∙ is.reads;
  writes = o.writes ∙ is.writes;
  as_many = o.stands.keeps.long ∙ is.as_many;
  inputs = let e = o.stands.keeps.inputs in let m = is.inputs in omega (arith, e, m);
  values = λ env v same j e at.
      let l = slice_get_within b.assigns j e at in
      let m = is.as_many in
      o.stands.keeps.values v j (omega (arith, l, m)) ∙ is.values env v same j e at;
  nodes = let a = o.stands.count in let c = is.nodes in omega (arith, a, c);
  graph = o.graph;
  named = o.stands.named;
  reduced = o.stands.reduced;
}

-- the chosen steps do the block
module _ {slots : Slots} {fb fw : ℕ} {b : Block} {row : Body} (g : Given slots fb fw b)
    (is : IsBlockBody slots b row) (most : length (block_inputs b) ≤ 80)
    (for : HasFound row.reads row.writes row.graph row.outs row.found)
    (steps : List (StepOf Body)) where
  -- with the state in cells
  cells-program : {body : Body} → IsBlockBody slots b body
      → IsInCells slots b.down b.states body steps → IsBlockProgram slots b steps
  cells-program {body = body} does t = record {
    body = body;
    is = does;
    form = inr t;
    cost = λ n lt. subst (λ ss. rounds_cost (all_rounds n ss)
        ≤ n * (4 * length body.graph.nodes + 3 * length b.assigns) + length b.states) (sym t.form)
        (cells-cost g does t.state t.one t.cells t.cmds t.held n lt);
  }

  module _ (t : IsChosen slots b.down b.states row steps) where
    chosen-is : IsBlockBody slots b t.body
    chosen-is = elim t.other [
      | inl e ↦ subst (IsBlockBody slots b) (sym e) is
      | inr o ↦ other-is is o
    ]

    pub chosen-lowered : IsLowered slots fb fw (Visit b) steps
    chosen-lowered = elim t.form [
      | inl e ↦ subst (IsLowered slots fb fw (Visit b)) (sym e.1) (row-lowered g is most for)
      | inr f ↦ (let c = f.is in subst (IsLowered slots fb fw (Visit b)) (sym c.form)
          (cells-lowered g chosen-is c.state c.one c.cells c.cmds c.held most))
    ]

    pub chosen-program : IsBlockProgram slots b steps
    chosen-program = elim t.form [
      | inl e ↦ subst (IsBlockProgram slots b) (sym e.1) (row-program g is most for)
      | inr f ↦ cells-program chosen-is f.is
    ]

-- what is known of a loop in cells
pub loop-chosen : (slots : Slots) (down : Bool) (ss : List State) (s : State) (row body : Body)
    (r : HeldLoop) (steps : List (StepOf Body)) (place : Place) (most : ℕ) → ss ≡ s ∷ []
    → place ≡ place_of down (slots s.name) → most ≡ length row.found
    → IsLoopFor place s.start body most r → (body ≡ row) ⊎ IsOther row body
    → steps ≡ held_steps r.home body (commands_in r) → IsChosen slots down ss row steps
loop-chosen slots down ss s row body r steps place most e at many l o f =
    let home-is : r.home ≡ home slots down s r.home.cells =
    ap (λ p. record { place = p; cells = r.home.cells; start = r.home.start }) (l.row ∙ at)
    ∙ ap (λ v. record {
      place = place_of down (slots s.name);
      cells = r.home.cells;
      start = v;
    }) l.begins in
    let last = l.last in
    let fewer = l.fewer in
    record {
      body = body;
      other = o;
      form = inr (record {
        is = record {
          state = s;
          one = e;
          cells = r.home.cells;
          cmds = commands_in r;
          held = subst (λ h. IsHeldOne h body (commands_in r)) home-is l.held;
          form = f ∙ ap (λ h. held_steps h body (commands_in r)) home-is;
        };
        fewer = omega (arith, fewer, many);
        last = omega (arith, last, many);
      });
    }

pub one-item : {A : Type 0} (xs : List A) (x d : A) → length xs ≡ 1 → slice_index_or xs 0 d ≡ x
    → xs ≡ x ∷ []
one-item [] x d l e = absurd (omega (arith, l))
one-item (y ∷ []) x d l e = ap (λ z. z ∷ []) e
one-item (y ∷ z ∷ ys) x d l e = absurd (omega (arith, l))
