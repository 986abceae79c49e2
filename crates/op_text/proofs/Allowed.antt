-- What the grammar of operation texts allows, where a text ends.
use Rattle.std.proofs.Common.{Bool, false, List, Option}
use Rattle.grammar.specs.Machine as machine
use Rattle.op_text.specs.declared.terminal.Terminal.{Terminal}
use Rattle.op_text.specs.declared.wanted.Wanted.{Wanted}
use Rattle.op_text.specs.Rules.{operation_texts}

-- what the grammar wants after terminals that end a text
abbrev pub allowed : List Wanted → List Terminal → Option (List Wanted)
allowed wanted ts = machine.allowed operation_texts false wanted ts

-- whether an opening parenthesis comes next, which makes the name before it a gate
abbrev pub opens_terminal : List Terminal → Bool
opens_terminal ts = machine.opens_or operation_texts false ts
