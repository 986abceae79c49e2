-- Files that were loaded, and what they were read as.
use Rattle.simdram_cli.proofs.Common.{◌≡◌, ℕ, List, Some, None, ap, Result, Ok, Err, FolderView}
use Rattle.simdram_cli.proofs.Common.{ScriptFault, Instruction, script_of, world, Refusal, Reason}
use Rattle.simdram_cli.proofs.Common.{Refused, NoMemory, OpsFault, Operation, fault_in, IsOpsOf}
use Rattle.simdram_cli.proofs.Common.{refusal_of, LoadedAs, NotRead}
use Rattle.cli_model.specs.Reads.{NotLoaded}
use Rattle.simdram_cli.specs.declared.words.TheConstants.{OPS_MAX}
use Rattle.simdram_cli.specs.Inputs.{ops_in, ops_refusal, unless_fault, script_in}
use Rattle.simdram_cli.specs.Inputs.{script_refusal, script_or_refusal}
use Rattle.simdram_cli.specs.Reads.{OpsRead}
use Rattle.simdram_cli.proofs.Joins.{known_text, known_is_text, loaded_text, no_sink, no_chip}

-- a file that was not loaded
pub not_read : {A : Type 0} (read : List ℕ → Result A Refusal) (name : List ℕ) (limit : ℕ)
    (reason : Reason) (old new : FolderView) → NotLoaded name limit reason old new
    → NotRead read name limit reason old new
not_read read name limit reason old new n = record {
  text = known_text old.holds name;
  is_text = known_is_text old.holds name;
  fails = λ sink chip. n (known_text old.holds name) (refusal_of (read (known_text old.holds name)))
      sink chip;
}

-- a text that is refused
pub text_refused : {A : Type 0} (read : List ℕ
    → Result A Refusal) (name : List ℕ) (limit : ℕ) (text : List ℕ) (refusal : Refusal)
    (old new : FolderView) → LoadedAs name limit text old new → read text ≡ Err refusal
    → NotRead read name limit (Refused refusal) old new
text_refused read name limit text refusal old new loaded e = record {
  text = text;
  is_text = loaded_text name limit text (world old no_sink no_chip) (world new no_sink no_chip)
      (loaded no_sink no_chip);
  fails = λ sink chip. (ap refusal_of e, loaded sink chip);
}

-- no memory to read a text
pub text_unread : {A : Type 0} (read : List ℕ
    → Result A Refusal) (name : List ℕ) (limit : ℕ) (text : List ℕ) (old new : FolderView)
    → LoadedAs name limit text old new → NotRead read name limit NoMemory old new
text_unread read name limit text old new loaded = record {
  text = text;
  is_text = loaded_text name limit text (world old no_sink no_chip) (world new no_sink no_chip)
      (loaded no_sink no_chip);
  fails = λ sink chip. (loaded sink chip).reads;
}

pub ops_refused : (text : List ℕ) (fault : OpsFault) → fault_in text ≡ Some fault
    → ops_in text ≡ Err (ops_refusal fault)
ops_refused text fault e = ap unless_fault e

pub ops_accepted : (text : List ℕ) → fault_in text ≡ None → ops_in text ≡ Ok tt
ops_accepted text e = ap unless_fault e

pub script_refused : (text : List ℕ) (fault : ScriptFault) → script_of text ≡ Err fault
    → script_in text ≡ Err (script_refusal fault)
script_refused text fault e = ap script_or_refusal e

pub script_accepted : (text : List ℕ) (script : List Instruction) → script_of text ≡ Ok script
    → script_in text ≡ Ok script
script_accepted text script e = ap script_or_refusal e

-- the ops of a text that is loaded
pub ops_parsed : (name text : List ℕ) (ops : List Operation) (old new : FolderView)
    → LoadedAs name OPS_MAX text old new → IsOpsOf text ops → OpsRead name ops old new
ops_parsed name text ops old new loaded is = record { text = text; is = is; loaded = loaded }
