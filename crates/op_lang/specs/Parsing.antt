-- What a text is parsed as.
use Rattle.std.specs.Prelude.{◌≡◌, ℕ, List, [], ◌∷◌, Some, None, Result, Ok, Err, map}
use Rattle.op_text.specs.declared.tree.Op.{Op}
use Rattle.op_text.specs.declared.tree.Ops.{Ops}
use Rattle.op_text.specs.declared.fault.OpsNo.{OpsNo}
use Rattle.op_text.specs.declared.fault.OpsNo.TheVariants as no
use Rattle.op_text.specs.declared.wanted.Wanted.TheVariants as w
use Rattle.op_text.specs.Language.{operation, operations}
use Rattle.op_text.specs.Lines.{fault_in}
use Rattle.op_text.specs.Spelling.{operations_text}
use Rattle.op_text.specs.OpsOf.{IsOpsOf}
use Rattle.op_lang.specs.declared.fault.ReadError.{ReadError}
use Rattle.op_lang.specs.Reading.{ParserView, breach, Fails, left}

-- all ops of a text
abbrev pub ReadsOps : {V : Type 0} → (V → List Op) → ParserView → Result V ReadError → Type 0
ReadsOps list old (Ok all) = (breach (w.Ops ∷ []) old ≡ None)
    × (left old ≡ operations_text (map operation (list all)))
ReadsOps list old (Err e) = Fails (breach (w.Ops ∷ []) old) e

-- What a text is parsed as: its ops, where it breaks no rule; or the line and the kind of the first
-- token that does; or that it is out of memory.
abbrev pub Parses : List ℕ → Result Ops OpsNo → Type 0
Parses text (Ok all) = IsOpsOf text (operations all)
Parses text (Err (no.Fault f)) = fault_in text ≡ Some f
Parses text (Err no.NoMemory) = Unit {0}
