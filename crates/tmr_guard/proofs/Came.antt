-- What follows from what comes of a guarded instruction.
use Rattle.tmr_guard.proofs.Common.{◌≡◌, ℕ, Result, Ok, Err, IfOk, OnOk, OnErr, SinkView, ChipView}
use Rattle.tmr_guard.proofs.Common.{Instruction, Reply, StepFault, Machine}
use Rattle.std.specs.Prelude.{IsErrOf}
use Rattle.tmr_guard.specs.Steps.{Came, Guarded, Broke, reply_by}

module _ (old new : Machine) (number : ℕ) (instr : Instruction) (chip chip' : ChipView)
    (sink sink' : SinkView)
  where
    pub when_ok : {P : Type 0} (r : Result Reply StepFault)
        → ((reply : Reply) → Guarded old new number instr chip chip' sink sink' reply → P)
        → Came old new number instr chip chip' sink sink' r → OnOk r P
    when_ok (Ok reply) f h = f reply h
    when_ok (Err fault) f h = tt

    pub when_answered : (r : Result Reply StepFault)
        → Came old new number instr chip chip' sink sink' r
        → IfOk r (λ reply. reply ≡ reply_by old instr)
    when_answered (Ok reply) h = h.answer
    when_answered (Err fault) h = tt

    pub when_err : {P : Type 0} (r : Result Reply StepFault)
        → ((fault : StepFault) → Broke old number instr chip chip' sink sink' fault → P)
        → Came old new number instr chip chip' sink sink' r → OnErr r P
    when_err (Ok reply) f h = tt
    when_err (Err fault) f h = f fault h

    pub when_fault : {P : Type 0} (r : Result Reply StepFault) (fault : StepFault)
        → ((e : StepFault) → e ≡ fault → Broke old number instr chip chip' sink sink' e → P)
        → Came old new number instr chip chip' sink sink' r → IsErrOf r fault → P
    when_fault (Ok reply) fault f h e = absurd (cc)
    when_fault (Err x) fault f h e = f x (let q : x ≡ fault = cc in q) h
