-- The file of a case's program.
use Rattle.soak_job.proofs.Common.{◌≡◌, ℕ, List, [], ◌∷◌, Result, Ok, Err, IfOk, OnOk, OnErr}
use Rattle.soak_job.proofs.Common.{WordOp, Microprogram, ImplementsAll, text_op, AreExact}
use Rattle.soak_job.proofs.Common.{program_bytes, true, false}
use Rattle.std.specs.Result.{is_err}
use Rattle.uprog_code.specs.Programs.{IsProgram}
use Rattle.soak_job.specs.Cases.{one_statement}
use Rattle.soak_job.specs.OneCase.{IsFileOf}

pub made : (op : WordOp) (ms : List Microprogram) (bytes : List ℕ)
    → ImplementsAll ms (text_op (one_statement op) ∷ []) → AreExact ms (one_statement op ∷ [])
    → IsProgram ms → bytes ≡ program_bytes 2 ms → IsFileOf op bytes
made op [] bytes does exact legal is = absurd does
made op (m ∷ []) bytes does exact legal is =
    record { program = m; is = is; legal = legal; does = does.0; exact = exact.0 }
made op (m ∷ n ∷ ms) bytes does exact legal is = absurd does.1

pub if_ok : {T E : Type 0} {P Q : T → Type 0} (r : Result T E) → IfOk r P
    → ((x : T) → P x → Q x) → IfOk r Q
if_ok (Ok x) p f = f x p
if_ok (Err e) p f = tt

-- a clause at the answer that a test showed
pub at_ok : {T E P : Type 0} (r : Result T E) → is_err r ≡ false → OnOk r P → P
at_ok (Ok x) e p = p
at_ok (Err x) e p = absurd (cc)

pub at_err : {T E P : Type 0} (r : Result T E) → is_err r ≡ true → OnErr r P → P
at_err (Ok x) e p = absurd (cc)
at_err (Err x) e p = p
