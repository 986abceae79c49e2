-- Flows as tables have them: line after line, where each part of a choice or of a loop ends with
-- `Done`, and so does the whole.
use Rattle.std.specs.Prelude.{List, [], ◌∷◌, ◌++◌, map, length}
use Rattle.std.specs.Option.{option_to_list}
use Rattle.loop_ir.specs.Flows.{FlowOf}
use Rattle.loop_ir.specs.Flows.FlowOf.{End, Do, Put, If, Loop}
use Rattle.loop_ir.specs.Flows.TurnsOf.{Last, Turn}
use Rattle.loop_laws.specs.Rooms.{Marked}
use Rattle.word_lower.specs.Programs.{mark_of}
use Rattle.word_flow.specs.declared.shapes.Four.{Four}
use Rattle.word_flow.specs.declared.shapes.Nine.{Nine}
use Rattle.word_flow.specs.declared.shapes.CodedBody.{CodedBody}
use Rattle.word_flow.specs.declared.shapes.Line.{Line}
use Rattle.word_flow.specs.declared.shapes.Line.TheVariants as line

-- those of the four that there are
abbrev pub four_of : {A : Type 0} → Four A → List A
four_of x = option_to_list x.a ++ (option_to_list x.b ++ (option_to_list x.c ++ option_to_list x.d))

-- those of the nine that there are
abbrev pub nine_of : {A : Type 0} → Nine A → List A
nine_of x = option_to_list x.a ++ (option_to_list x.b ++ (option_to_list x.c ++ (option_to_list x.d
    ++ (option_to_list x.e ++ (option_to_list x.f ++ (option_to_list x.g ++ (option_to_list x.h
    ++ option_to_list x.i)))))))

-- a body of the table with its commands: each of its reads is an input
abbrev pub coded_of : CodedBody → Marked
coded_of c = record {
  reads = map mark_of (four_of c.reads);
  graph = record { inputs = length (four_of c.reads); nodes = four_of c.nodes };
  outs = four_of c.outs;
  writes = map mark_of (four_of c.writes);
  found = nine_of c.cmds;
}

-- the first of some flows
abbrev pub first_of : {A : Type 0} → List (FlowOf A) → FlowOf A
first_of [] = End
first_of (f ∷ fs) = f

-- the flows after the first
abbrev pub others_of : {A : Type 0} → List (FlowOf A) → List (FlowOf A)
others_of [] = []
others_of (f ∷ fs) = fs

-- What a line makes of the flows that stand behind it, up to their `Done` each: it begins another,
-- or comes before the first, or takes some as its parts and comes before the next one
abbrev pub line_on : {A : Type 0} → (CodedBody → A) → Line → List (FlowOf A) → List (FlowOf A)
line_on g line.Done fs = End ∷ fs
line_on g (line.Do c) fs = Do (g c) (first_of fs) ∷ others_of fs
line_on g (line.Put m) fs = Put m (first_of fs) ∷ others_of fs
line_on g (line.If r) fs = let gs = others_of fs in let hs = others_of gs in
    If r (first_of fs) (first_of gs) (first_of hs) ∷ others_of hs
line_on g (line.Loop r) fs = let gs = others_of fs in
    Loop r (Last (first_of fs)) (first_of gs) ∷ others_of gs
line_on g (line.LoopTwo r) fs = let gs = others_of fs in let hs = others_of gs in
    Loop r (Turn (first_of fs) (Last (first_of gs))) (first_of hs) ∷ others_of hs

-- the flows of some lines, up to their `Done` each
abbrev pub flows_on : {A : Type 0} → (CodedBody → A) → List Line → List (FlowOf A)
flows_on g [] = []
flows_on g (l ∷ ls) = line_on g l (flows_on g ls)

-- the flow of a table's lines
abbrev pub plan_of : List Line → FlowOf Marked
plan_of lines = first_of (flows_on coded_of lines)
