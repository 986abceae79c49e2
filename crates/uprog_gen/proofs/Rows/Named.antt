-- Each row that a body's commands name is one of its rows, and no state.
use Rattle.uprog_gen.proofs.Common.{◌≡◌, ℕ, ◌+◌, ◌<◌, true, false, length, ap, ◌∙◌, arith, ltb-true}
use Rattle.uprog_gen.proofs.Common.{BodyRef, is_ref, is_held, is_read, nth_place, is_state}
use Rattle.uprog_gen.proofs.Common.{row_count, enters, Block, IsSmall}
use Rattle.row_alloc.specs.declared.body.BodyRef.TheVariants as ref
use Rattle.uprog_gen.proofs.Rows.States.{held_is}
use Rattle.uprog_gen.proofs.Bodies.Outs.{row_few, outs_of, own_outs}

-- a write with a row
pub few : (p : Block) → IsSmall p → (j : ℕ) → j < length (outs_of p)
    → (j < row_count p.writes) × (j < length p.writes)
few p small j lj = let l : j < row_count p.writes = omega (arith, lj, (own_outs p small).size) in
    (l, omega (arith, l, row_few p.writes))

-- the reference is to a row: of an input that is no state, or of one of the first outputs
abbrev pub IsNamed : Block → BodyRef → Type 0
IsNamed p (ref.In k) = (k < length p.reads)
    × (is_state (nth_place p.reads k).space ≡ false)
IsNamed p (ref.Out k) = (k < length p.writes)
    × (is_state (nth_place p.writes k).space ≡ false)
IsNamed p x = Unit {0}

pub named_ref : (p : Block) → IsSmall p → (x : BodyRef)
    → is_ref p.graph.inputs (length (outs_of p)) x ≡ true
    → is_read (enters 0 p.reads) x ≡ true → IsNamed p x
named_ref p small (ref.Out k) h u =
    let l = few p small k (ltb-true k (length (outs_of p)) h) in (l.1, small.states.first.row k l.0)
named_ref p small (ref.In k) h u =
    let z : 0 + k ≡ k = omega arith in
    let l : k < length p.reads =
    omega (arith, ltb-true k p.graph.inputs h, small.well.reads) in (
      l,
      held_is p.reads 0 k l ∙ ap (is_held (enters 0 p.reads)) z
          ∙ grind (arith, u),
    )
named_ref p small x h u = tt
