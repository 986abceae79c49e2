-- What a load leaves in the columns.
use Rattle.machine_model.proofs.Common.{◌≡◌, ℕ, ◌+◌, ◌<◌, ◌≤◌, List, [], ◌∷◌, length, map, refl, ap}
use Rattle.machine_model.proofs.Common.{arith, inl, inr, cases_lt, Column, on_bank_all, number}
use Rattle.machine_model.proofs.Common.{writes, taken, taken_before, taken_past, writes_first}
use Rattle.machine_model.proofs.Common.{writes_nothing, Object}
pub use Rattle.dram_model.proofs.RowWrites.{OnOwn, each_inside}
use Rattle.machine_model.proofs.Below.{number_same}

-- other rows stay
pub writes_others : (bank base n : ℕ) (p : Object) (vs : List ℕ) (columns : List Column)
    → length columns ≡ length vs → ((row : ℕ) → p.base ≤ row → row < p.base + p.width
    → (row < base → ⊥) → base + n ≤ row) → map (number p.base p.width)
    (on_bank_all (writes bank base vs 0 n) columns) ≡ map (number p.base p.width) columns
writes_others bank base n p [] columns e out = rw (writes_nothing bank base 0 n columns) refl
writes_others bank base n p (v ∷ vs) [] e out = absurd (omega arith)
writes_others bank base n p (v ∷ vs) (s ∷ columns) e out =
    let stays : number p.base p.width (taken base v 0 n s) ≡ number p.base p.width s =
    number_same p.base p.width s (taken base v 0 n s) (λ row x y. elim (cases_lt row base) [
      | inl lt ↦ taken_before base v 0 n row s (omega arith)
      | inr ge ↦ taken_past base v 0 n row s (let o = out row x y (λ l. absurd (omega arith)) in
          omega (arith, o))
    ]) in
    rw (
      writes_first bank base v 0 n vs s columns,
      stays,
    ) (ap (λ rest. number p.base p.width s
    ∷ rest) (writes_others bank base n p vs columns (omega arith) out))

pub writes_length : (bank base n : ℕ) (vs : List ℕ) (columns : List Column)
    → length columns ≡ length vs → length (on_bank_all (writes bank base vs 0 n) columns)
    ≡ length columns
writes_length bank base n [] columns e = rw (writes_nothing bank base 0 n columns) refl
writes_length bank base n (v ∷ vs) [] e = absurd (omega arith)
writes_length bank base n (v ∷ vs) (s ∷ columns) e =
    rw (writes_first bank base v 0 n vs s columns)
    (let r = writes_length bank base n vs columns (omega arith) in omega (arith, r))
