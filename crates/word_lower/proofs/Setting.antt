-- When a loop program does a word operation: the places of its names, and what it leaves.
use Rattle.word_lower.proofs.Common.{Kind, WordOp, Signature, row_of, op_value, bits_inside, Slot}
use Rattle.word_lower.proofs.Common.{StepOf, Block, Spot, Spots, spot_in, is_state, Room}
use Rattle.word_lower.proofs.Common.{placed_steps}
use Rattle.std.specs.Prelude.{◌≡◌, ℕ, zero, suc, ◌+◌, ◌*◌, ◌^◌, ◌<◌, Bool, true, false, List, []}
use Rattle.std.specs.Prelude.{◌∷◌, ◌++◌, map}
use Rattle.op_text.specs.Values.{bit_number}
use Rattle.op_text.specs.declared.word_ops.Signature.TheVariants as shape
use Rattle.word_lower.specs.Places.{scratch_bit, room_of}
use Rattle.word_lower.specs.Programs.{program}

-- so many bits of scratch from this one on
abbrev pub scratch_from : ℕ → ℕ → List Slot
scratch_from free zero = []
scratch_from free (suc count) = scratch_bit free ∷ scratch_from (free + 1) count

-- the rows of a word statement: its target's first, then its arguments', then its scratch
abbrev pub rooms_of : Slot → List Slot → List Slot → List Room
rooms_of target args scratch = room_of true target
    ∷ (map (room_of false) args ++ map (room_of true) scratch)

-- a bit as a number
abbrev pub bit : Bool → ℕ
bit b = bit_number b

-- the sum of bit k times 2 ^ k, for k below n
abbrev pub number : (ℕ → Bool) → ℕ → ℕ
number bits zero = 0
number bits (suc n) = number bits n + bit (bits n) * 2 ^ n

-- of three, as many as a shape takes
abbrev pub taken : {A : Type 0} → Signature → A → A → A → List A
taken shape.Nothing a b s = []
taken shape.OneOf a b s = a ∷ []
taken (shape.OneWord k) a b s = a ∷ []
taken shape.TwoOf a b s = a ∷ b ∷ []
taken (shape.TwoWords k) a b s = a ∷ b ∷ []
taken shape.Choice a b s = a ∷ b ∷ s ∷ []

-- the operation's value from three numbers, of which it takes the first ones
abbrev pub operation : WordOp → ℕ → ℕ → ℕ → ℕ → ℕ
operation p n a b s = op_value p n (taken (row_of p).signature a b s)

-- the names of a statement, and the internal scratch that is free
pub record Slots : Type 0 where
  pub target : Slot
  pub a : Slot
  pub b : Slot
  pub s : Slot
  pub free_bit : ℕ

abbrev pub args_of : WordOp → Slots → List Slot
args_of p m = taken (row_of p).signature m.a m.b m.s

abbrev pub rooms_for : WordOp → Slots → List Room
rooms_for p m = rooms_of m.target (args_of p m) (scratch_from m.free_bit (bits_inside p))

abbrev pub steps_for : WordOp → Kind → Slots → List (StepOf Block)
steps_for p k m = placed_steps (rooms_for p m) (program p k)

-- a row of a name
abbrev pub row : ℕ → Slot → ℕ → Spot
row n s v = spot_in n s.space s.which v

-- the number in so many rows of a name
abbrev pub number_at : ℕ → Spots → Slot → ℕ → ℕ
number_at n bits s k = number (λ v. bits (row n s v)) k

-- the operation's value from so many rows of the arguments
abbrev pub value_of : WordOp → ℕ → Slots → Spots → ℕ → ℕ
value_of p n m before l = operation p l (number_at n before m.a l) (number_at n before m.b l)
    (number_at n before m.s 1)

-- no row of one is a row of the other
pub record SlotsApart (n : ℕ) (s : Slot) (k : ℕ) (t : Slot) (l : ℕ) : Type 0 where
  pub by : (u v : ℕ) → u < k → v < l → row n s u ≡ row n t v → ⊥

-- it is a row, and none of the target or of the internal scratch
pub record IsElsewhere (n k bits : ℕ) (m : Slots) (q : Spot) : Type 0 where
  pub no_state : is_state q.space ≡ false
  pub target : (v : ℕ) → v < k → q ≡ row n m.target v → ⊥
  pub bit : 0 < bits → q ≡ row n (scratch_bit m.free_bit) 0 → ⊥

-- a target of k rows, arguments of l rows, and so many bits of internal scratch lie apart, and no
-- row of theirs stands in cells; arguments may be the same
pub record AreSlots (n k l bits : ℕ) (m : Slots) : Type 0 where
  pub moves : (u v : ℕ) → u < k → v < k → row n m.target u ≡ row n m.target v → u ≡ v
  pub no_state : (v : ℕ) → is_state (row n m.target v).space ≡ false
  pub a : (v : ℕ) → v < l → IsElsewhere n k bits m (row n m.a v)
  pub b : (v : ℕ) → v < l → IsElsewhere n k bits m (row n m.b v)
  pub s : IsElsewhere n k bits m (row n m.s 0)
  pub bit : 0 < bits → (v : ℕ) → v < k → row n m.target v ≡ row n (scratch_bit m.free_bit) 0 → ⊥

-- the target has the operation's value, and no other row but the internal scratch has changed
pub record Gives (p : WordOp) (n k l bits : ℕ) (m : Slots) (before after : Spots) : Type 0 where
  pub gives : number_at n after m.target k ≡ value_of p n m before l
  pub keeps : (q : Spot) → IsElsewhere n k bits m q → after q ≡ before q
