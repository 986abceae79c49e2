use Rattle.word_lower.proofs.Common.{ap, ◌∙◌, ◌≡◌, List, Slot, slots_of}
use Rattle.loop_ir.specs.Plain.{steps_of}
use Rattle.word_lower.specs.Programs.{program}
use Rattle.word_lower.specs.Places.{slot_at, program_on}
use Rattle.word_lower.specs.Shapes.{owners_of}
use Rattle.word_lower.proofs.Statements.{lowered_on, places_of}
use Rattle.word_lower.proofs.linear.lower_word.Goals as goal

pub returns-clause-lowered : goal.returns-clause-lowered
returns-clause-lowered c =
    let slots = slots_of c.args.names.now in
    let names = c.args.names.now in
    let meets = c.requires.meets in
    let t = meets.gives.slot in
    let ss = places_of slots c.args.args.now meets.kinds meets.have in
    let same = c.in_ok-p.ensures.same
    ∙ ap (program_on (slot_at c.owners.result)) c.lines.ensures
    ∙ ap (λ (r : List Slot). program_on (slot_at r) (program c.args.op c.slot_of-kind.result.kind))
    (c.owners.ensures t ss.list meets.gives.found ss.at)
    ∙ ap (λ (s : Slot). program_on (slot_at (owners_of t ss.list names.free_bit))
    (program c.args.op s.kind)) (c.slot_of-kind.ensures.place t meets.gives.found) in
    lowered_on slots names.free_bit names.free_word c.args.target.now c.args._second.now
    c.args.op c.args.args.now meets c.requires.placed t meets.gives.found ss.list ss.at
    c.requires.linear (steps_of c.in_ok-p.p) same c.in_ok-p.ensures.made

pub returns-clause-written : goal.returns-clause-written
returns-clause-written c =
    λ t ss found at.
    c.in_ok-p.ensures.same
    ∙ ap (program_on (slot_at c.owners.result)) c.lines.ensures
    ∙ ap (λ (r : List Slot). program_on (slot_at r) (program c.args.op c.slot_of-kind.result.kind))
    (c.owners.ensures t ss found at)
    ∙ ap (λ (s : Slot). program_on (slot_at (owners_of t ss c.args.names.now.free_bit))
    (program c.args.op s.kind)) (c.slot_of-kind.ensures.place t found)
