-- The ops of a text.
use Rattle.std.specs.Prelude.{◌≡◌, ℕ, List, None, map}
use Rattle.text_lex.specs.Lexical.{items_of}
use Rattle.op_text.specs.Items.{texts}
use Rattle.op_text.specs.Lines.{fault_in}
use Rattle.op_text.specs.Language.{Operation}
use Rattle.op_text.specs.Spelling.{bare, items_spelled, operations_text, MeetRules, Each}
use Rattle.op_text.specs.Spelling.{HasOperation}

-- The ops of a text that breaks no rule: its tokens are those that the ops are spelled by, and
-- their names are names. The last sets apart the constant 1 and a name that is spelled 1.
pub record IsOpsOf (text : List ℕ) (ops : List Operation) : Type 0 where
  pub accepted : fault_in text ≡ None
  pub spelled : texts (items_of text) ≡ operations_text ops
  pub named : Each HasOperation ops

-- A text has one list of ops.
abbrev pub OpsOfATextAreOne : Type 0
OpsOfATextAreOne = (text : List ℕ) (a b : List Operation) → IsOpsOf text a → IsOpsOf text b → a ≡ b

-- The ops of a text meet the rules.
abbrev pub OpsOfATextMeet : Type 0
OpsOfATextMeet = (text : List ℕ) (ops : List Operation) → IsOpsOf text ops → MeetRules ops

-- Ops that meet the rules are the ops of each text whose tokens are those that spell them, wherever
-- these stand.
abbrev pub TextsOfOps : Type 0
TextsOfOps = (text : List ℕ) (ops : List Operation) → Each HasOperation ops → MeetRules ops
    → map bare (items_of text) ≡ items_spelled (operations_text ops) → IsOpsOf text ops
