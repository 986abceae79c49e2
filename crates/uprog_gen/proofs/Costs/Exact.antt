-- Each word operation's loop program takes exactly the operation's commands.
use Rattle.uprog_gen.proofs.Common.{◌≡◌, ℕ, ◌-◌, ◌<◌, ◌≤◌, Bool, true, false, cond, List, [], ◌∷◌}
use Rattle.uprog_gen.proofs.Common.{Some, refl, sym, ap, ◌∙◌, arith, WIDTH_MAX, Kind, Word, Bit}
use Rattle.uprog_gen.proofs.Common.{WordOp, width, Block, StepOf, all_rounds, turn_aaps, turn_aps}
use Rattle.uprog_gen.proofs.Common.{rounds_sum, sum_is, is_flow}
use Rattle.op_text.specs.declared.word_ops.Signature.{Signature}
use Rattle.op_text.specs.WordOps.{row_of, forms, signature_forms, filled, given_first, first_of}
use Rattle.op_text.proofs.Operations.{first_settles}
use Rattle.loop_laws.specs.Rooms.{placed_steps}
use Rattle.loop_laws.proofs.Alike.{InRooms, rounds_like}
use Rattle.word_lower.specs.declared.table.ProgramRow.{ProgramRow}
use Rattle.word_lower.specs.declared.table.ProgramRow.TheVariants.{Spread}
use Rattle.word_lower.specs.Programs.{program, program_of}
use Rattle.word_flow.specs.Programs.{flow_total, flow_aps}
use Rattle.word_flow.proofs.Exactly.{IsExact}
use Rattle.op_text.specs.declared.word_ops.WordOp.TheVariants as op
use Rattle.op_text.specs.declared.word_ops.Signature.TheVariants as shape
use Rattle.uprog_gen.specs.Costs.{op_aaps, op_aps}
use Rattle.uprog_gen.proofs.Costs.Kinds.{all_kinds}

-- the operations that take words or bits
abbrev pub is_spread : ProgramRow → Bool
is_spread (Spread word bit) = true
is_spread r = false

abbrev pub spreads : WordOp → Bool
spreads p = is_spread (program_of p)

-- the width on which an operation works, where its target has this kind
abbrev pub op_width : WordOp → Kind → ℕ → ℕ
op_width p k n = cond (spreads p) (width n k) n

-- those that are no flows, by the numbers of their owners
numbered : (p : WordOp) (k : Kind) (n : ℕ) → 0 < n → is_flow p ≡ false
    → (rounds_sum turn_aaps (all_rounds n (placed_steps [] (program p k)))
    ≡ op_aaps p (op_width p k n))
    × (rounds_sum turn_aps (all_rounds n (placed_steps [] (program p k)))
    ≡ op_aps p (op_width p k n))
numbered op.Shl1 k n some other = cc
numbered op.Shr1 k n some other = cc
numbered op.Mul k n some other = cc
numbered op.Div k n some other = cc
numbered op.Rem k n some other = cc
numbered op.Divmod k n some other = cc
numbered op.Bitcount k n some other = cc
numbered op.Abs k n some other = cc
numbered op.AndRed k n some other = cc
numbered op.OrRed k n some other = cc
numbered op.Relu k n some other = cc
numbered op.XorRed k n some other = cc
numbered p Word n some other =
    let a = sum_is turn_aaps n (placed_steps [] (program p Word)) in
    let b = sum_is turn_aps n (placed_steps [] (program p Word)) in
    (omega (arith, a, some), omega (arith, b, some))
numbered p Bit n some other =
    let a = sum_is turn_aaps n (placed_steps [] (program p Bit)) in
    let b = sum_is turn_aps n (placed_steps [] (program p Bit)) in
    (omega (arith, a, some), omega (arith, b, some))

-- what is known of a statement's program
pub record IsExactly (p : WordOp) (w : ℕ → ℕ) (steps : List (StepOf Block)) : Type 0 where
  pub aaps : (n : ℕ) → 0 < n → n ≤ WIDTH_MAX
      → rounds_sum turn_aaps (all_rounds n steps) ≡ op_aaps p (w n)
  pub aps : (n : ℕ) → 0 < n → n ≤ WIDTH_MAX
      → rounds_sum turn_aps (all_rounds n steps) ≡ op_aps p (w n)

-- wherever its rows lie
pub is_exactly : (p : WordOp) (k : Kind) (steps : List (StepOf Block)) → is_flow p ≡ false
    → InRooms (program p k) steps → IsExactly p (op_width p k) steps
is_exactly p k steps other r = record {
  aaps = λ n some small. ap (λ ss. rounds_sum turn_aaps (all_rounds n ss)) r.same
      ∙ rounds_like turn_aaps r.rooms (λ b. refl) n (program p k)
      ∙ (numbered p k n some other).0;
  aps = λ n some small. ap (λ ss. rounds_sum turn_aps (all_rounds n ss)) r.same
      ∙ rounds_like turn_aps r.rooms (λ b. refl) n (program p k)
      ∙ (numbered p k n some other).1;
}

-- the operation of a flow takes the flow's commands, on words
record TakesFlow (p : WordOp) : Type 0 where
  wide : spreads p ≡ false
  aaps : (n : ℕ) → op_aaps p n ≡ flow_total p n - flow_aps p n
  aps : (n : ℕ) → op_aps p n ≡ flow_aps p n

takes_flow : (p : WordOp) → is_flow p ≡ true → TakesFlow p
takes_flow op.Shl1 is = record { wide = refl; aaps = λ n. omega arith; aps = λ n. refl }
takes_flow op.Shr1 is = record { wide = refl; aaps = λ n. omega arith; aps = λ n. refl }
takes_flow p is = record { wide = cc; aaps = λ n. cc; aps = λ n. cc }

-- the program of a flow
pub flow_is_exactly : (p : WordOp) (k : Kind) (steps : List (StepOf Block)) → is_flow p ≡ true
    → IsExact p steps → IsExactly p (op_width p k) steps
flow_is_exactly p k steps is e =
    let takes = takes_flow p is in
    let wide = λ (n : ℕ). ap (λ c. cond c (width n k) n) takes.wide in
    record {
      aaps = λ n some small.
          (let less : rounds_sum turn_aaps (all_rounds n steps) ≡ flow_total p n - flow_aps p n =
          omega (arith, all_kinds (all_rounds n steps), e.total n some small, e.aps n some small) in
          less ∙ sym (takes.aaps n) ∙ ap (op_aaps p) (sym (wide n)));
      aps = λ n some small. e.aps n some small ∙ sym (takes.aps n) ∙ ap (op_aps p) (sym (wide n));
    }

-- the width of the arguments of these kinds
abbrev pub first_width : ℕ → List Kind → ℕ
first_width n [] = n
first_width n (k ∷ ks) = width n k

-- a shape whose results are of the kind of its first argument
abbrev keeps_kind : Signature → Bool
keeps_kind shape.OneOf = true
keeps_kind shape.TwoOf = true
keeps_kind shape.Choice = true
keeps_kind s = false

spreads_is : (p : WordOp) → spreads p ≡ keeps_kind (row_of p).signature
spreads_is op.Not = refl
spreads_is p = refl

shape_width : (s : Signature) (ks : List Kind) (k : Kind) (n : ℕ)
    → filled (signature_forms s) ks ≡ Some k
    → given_first (signature_forms s) (first_of ks) ≡ k
    → first_width n ks ≡ cond (keeps_kind s) (width n k) n
shape_width shape.OneOf [] k n e f = cc
shape_width s [] k n e f = cc
shape_width shape.OneOf (Word ∷ ks) k n e f = cc
shape_width s (Word ∷ ks) k n e f = cc
shape_width shape.OneOf (Bit ∷ ks) k n e f = cc
shape_width s (Bit ∷ ks) k n e f = cc

pub width_is : (p : WordOp) (ks : List Kind) (k : Kind) (n : ℕ) → filled (forms p) ks ≡ Some k
    → first_width n ks ≡ op_width p k n
width_is p ks k n e = shape_width (row_of p).signature ks k n e (first_settles p ks k e)
    ∙ ap (λ b. cond b (width n k) n) (sym (spreads_is p))
