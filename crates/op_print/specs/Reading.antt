-- What is written is read again.
use Rattle.std.specs.Prelude.{◌≡◌, List, map}
use Rattle.text_lex.specs.Lexical.{items_of}
use Rattle.op_text.specs.Language.{Operation}
use Rattle.op_text.specs.Spelling.{bare, items_spelled, operations_text, MeetRules, Each}
use Rattle.op_text.specs.Spelling.{HasOperation}
use Rattle.op_text.specs.OpsOf.{IsOpsOf}
use Rattle.op_print.specs.Canonical.{canonical_text}

-- The tokens of the canonical text are those that spell the ops.
abbrev pub TokensSpellOps : Type 0
TokensSpellOps = (all : List Operation) → Each HasOperation all
    → map bare (items_of (canonical_text all)) ≡ items_spelled (operations_text all)

-- Ops that meet the rules are the ops of their canonical text.
abbrev pub PrintingIsUndone : Type 0
PrintingIsUndone = (all : List Operation) → Each HasOperation all → MeetRules all
    → IsOpsOf (canonical_text all) all
