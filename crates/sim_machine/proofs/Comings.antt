-- What follows from what comes of an instruction.
use Rattle.sim_machine.proofs.Common.{◌≡◌, ℕ, Result, Ok, Err, IfOk, OnOk, OnErr, IsErrOf, SinkView}
use Rattle.sim_machine.proofs.Common.{ChipView, Instruction, Reply, StepFault, ChipFault}
use Rattle.sim_machine.proofs.Common.{WriteFault}
use Rattle.sim_machine.specs.declared.machine.Machine.{Machine}
use Rattle.sim_machine.specs.Machine.{GoesOn, reply_of}
use Rattle.sim_machine.specs.Outcome.{Comes, Stepped, StoppedByChip, StoppedBySink}
use Rattle.sim_machine.proofs.Keeping.{going}

module _ (old new : Machine) (number : ℕ) (instr : Instruction) (chip chip' : ChipView)
    (sink sink' : SinkView)
  where
    abbrev Came : Result Reply StepFault → Type 0
    Came r = Comes old new number instr chip chip' sink sink' r

    pub when_ok : {P : Type 0} (r : Result Reply StepFault)
        → ((reply : Reply) → Stepped old new number instr chip chip' sink sink' reply → P)
        → Came r → OnOk r P
    when_ok (Ok reply) f h = f reply h
    when_ok (Err fault) f h = tt

    pub goes : (r : Result Reply StepFault) → Came r → GoesOn old new
    goes (Ok reply) h = going old new _ _ h.machine
    goes (Err ChipFault) h = going old new _ _ h.same
    goes (Err WriteFault) h = going old new _ _ h.machine

    pub when_answered : (r : Result Reply StepFault) → Came r
        → IfOk r (λ reply. reply ≡ reply_of old instr)
    when_answered (Ok reply) h = h.answer
    when_answered (Err fault) h = tt

    pub when_err : {P : Type 0} (r : Result Reply StepFault)
        → (StoppedByChip old new number instr chip chip' sink sink' → P)
        → (StoppedBySink old new number instr chip chip' sink sink' → P) → Came r → OnErr r P
    when_err (Ok reply) f s h = tt
    when_err (Err ChipFault) f s h = f h
    when_err (Err WriteFault) f s h = s h

    pub when_chip : {P : Type 0} (r : Result Reply StepFault)
        → (StoppedByChip old new number instr chip chip' sink sink' → P) → Came r
        → IsErrOf r ChipFault → P
    when_chip (Ok reply) f h e = absurd (cc)
    when_chip (Err ChipFault) f h e = f h
    when_chip (Err WriteFault) f h e = absurd (cc)

    pub when_sink : {P : Type 0} (r : Result Reply StepFault)
        → (StoppedBySink old new number instr chip chip' sink sink' → P) → Came r
        → IsErrOf r WriteFault → P
    when_sink (Ok reply) f h e = absurd (cc)
    when_sink (Err ChipFault) f h e = absurd (cc)
    when_sink (Err WriteFault) f h e = f h
