-- What comes of one instruction: the clauses of a step as one, what its parts come to, for its
-- proof.
use Rattle.std.specs.Prelude.{◌≡◌, ℕ, ◌≤◌, true, false, [], ◌∷◌, ◌++◌, Result, Ok, Err}
use Rattle.host_edge.specs.Views.{SinkView, Known, AppendsPart}
use Rattle.faults.specs.Counts.{Rose}
use Rattle.transpose_unit.specs.Stopped.{StoppedWithin}
use Rattle.dram_model.specs.View.{ChipView, Kept}
use Rattle.dram_model.specs.Elements.{FailedBelow}
use Rattle.bbop_isa.specs.Forms.{Instruction}
use Rattle.machine_model.specs.declared.Reply.{Reply}
use Rattle.machine_model.specs.Pieces.{piece_of}
use Rattle.machine_model.specs.Script.{is_bbop}
use Rattle.uprog_ctl.specs.Waves.{StoppedAmong}
use Rattle.object_steps.specs.Lines.{DidReadAtMost}
use Rattle.object_steps.specs.declared.fault.StepFault.{StepFault}
use Rattle.object_steps.specs.declared.fault.StepFault.TheVariants.{ChipFault, WriteFault}
use Rattle.sim_machine.specs.declared.machine.Machine.{Machine}
use Rattle.sim_machine.specs.Machine.{reply_of, stepped, turn_by_piece, turn_in}
use Rattle.sim_machine.specs.Machine.{events_by, queues_by, reads_by, banks_by, banks_read}
use Rattle.sim_machine.specs.Machine.{is_print, reply_line}
use Rattle.sim_machine.specs.Steps.{DidAndRead}

-- it was done, and its line was put
pub record Stepped (old new : Machine) (number : ℕ) (instr : Instruction) (chip chip' : ChipView)
    (sink sink' : SinkView) (reply : Reply) : Type 0 where
  pub answer : reply ≡ reply_of old instr
  pub machine : new ≡ stepped old instr
  pub did : DidAndRead (events_by old (piece_of instr)) (reads_by old instr) chip chip'
  pub sent : Known (λ before after. after ≡ before ++ reply_line old number chip.banks instr)
      sink.sent sink'.sent
  pub unfailed : sink'.faults ≡ sink.faults

-- the chip failed: the banks past the destination's are as before, each bank but the failed call's
-- stands where the events before it leave it, each other bank of a bbop has done the first of its
-- commands, only in a bbop's wave did banks take turns, and of no line but a print's a part was put
pub record StoppedByChip (old new : Machine) (number : ℕ) (instr : Instruction)
    (chip chip' : ChipView) (sink sink' : SinkView) : Type 0 where
  pub same : new ≡ record old { turn = turn_in new }
  pub turn : is_bbop instr ≡ false → turn_in new ≡ turn_in old
  pub failed : FailedBelow (banks_by old instr) chip chip'
  pub stopped : is_bbop instr ≡ true
      → StoppedAmong (events_by old (piece_of instr)) (queues_by old (instr ∷ [])) chip chip'
  pub left : StoppedWithin (banks_read old instr) (events_by old (piece_of instr)) chip.banks
      chip'.banks
  pub unsent : is_print instr ≡ false → sink' ≡ sink
  pub part : Known (AppendsPart (reply_line old number chip.banks instr)) sink.sent sink'.sent

-- the sink failed: all was done, but of a print perhaps not each row was read
pub record StoppedBySink (old new : Machine) (number : ℕ) (instr : Instruction)
    (chip chip' : ChipView) (sink sink' : SinkView) : Type 0 where
  pub machine : new ≡ record old { turn = turn_by_piece old (piece_of instr) }
  pub did : is_print instr ≡ false
      → DidAndRead (events_by old (piece_of instr)) (reads_by old instr) chip chip'
  pub read : is_print instr ≡ true → DidReadAtMost (reads_by old instr) chip chip'
  pub rose : Rose sink.faults sink'.faults
  pub part : Known (AppendsPart (reply_line old number chip.banks instr)) sink.sent sink'.sent

-- How an instruction went: it was done and told, or the chip or the sink failed.
abbrev pub Comes : Machine → Machine → ℕ → Instruction → ChipView → ChipView → SinkView → SinkView
    → Result Reply StepFault → Type 0
Comes old new number instr chip chip' sink sink' (Ok reply) =
    Stepped old new number instr chip chip' sink sink' reply
Comes old new number instr chip chip' sink sink' (Err ChipFault) =
    StoppedByChip old new number instr chip chip' sink sink'
Comes old new number instr chip chip' sink sink' (Err WriteFault) =
    StoppedBySink old new number instr chip chip' sink sink'

-- and whatever comes of it, the chip and the sink keep what each call keeps
pub record Went (old new : Machine) (number : ℕ) (instr : Instruction) (chip chip' : ChipView)
    (sink sink' : SinkView) (result : Result Reply StepFault) : Type 0 where
  pub kept : Kept chip chip'
  pub sink_faults : sink.faults ≤ sink'.faults
  pub comes : Comes old new number instr chip chip' sink sink' result
