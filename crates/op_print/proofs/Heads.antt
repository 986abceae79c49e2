-- The first line of an op, written.
use Rattle.std.proofs.Common.{◌≡◌, List, [], ◌∷◌, ◌++◌, ℕ, codes, Result, Ok, Err}
use Rattle.std.proofs.Common.{append_assoc}
use Rattle.std.specs.Result.{OnOk}
use Rattle.op_print.specs.Canonical.{line}

-- what follows where a call succeeds
pub on-ok : {X E : Type 0} (r : Result X E) (P Q : Type 0) → (P → Q) → OnOk r P → OnOk r Q
on-ok (Ok x) P Q f h = f h
on-ok (Err e) P Q f h = tt

pub head-written : (old name sources results a b c new : List ℕ)
    → a ≡ old ++ codes "op " ++ name ++ codes "(" ++ sources → b ≡ a ++ codes ") -> "
    → c ≡ b ++ results → new ≡ c ++ codes " {\n"
    → new ≡ old ++ line [] (codes "op " ++ name ++ codes "(" ++ sources ++ codes ") -> "
    ++ results ++ codes " {")
head-written old name sources results a b c new p q r s = rw (s, r, q, p) (simp append_assoc)
