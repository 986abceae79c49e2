-- The steps of a run, joined.
use Rattle.simdram_cli.proofs.Common.{◌≡◌, ℕ, false, List, [], Option, Some, None, refl, inl, inr}
use Rattle.simdram_cli.proofs.Common.{Result, Ok, Err, IfSome, bytes_eq, ChipView, Files, SinkView}
use Rattle.simdram_cli.proofs.Common.{World, Step, Refusal, Reason, End, Stopped, Goes, LoadFails}
use Rattle.simdram_cli.proofs.Common.{loading, refusal_of}
use Rattle.std.specs.Option.{unwrap_or}
use Rattle.dram_model.specs.View.{no_counts}
use Rattle.cli_model.specs.Steps.{Loaded}
use Rattle.cli_model.specs.Reads.{IsText}
use Rattle.simdram_cli.specs.declared.words.RunNames.{RunNames}

-- a sink and a chip that show nothing
pub no_sink : SinkView
no_sink = record { sent = None; faults = 0 }

pub no_chip : ChipView
no_chip = record {
  begun = false;
  geometry = record { banks = 0; rows = 0; words = 0 };
  banks = λ bank. [];
  counters = no_counts;
  faults = 0;
  log = None;
}

abbrev pub known_text : Option Files → List ℕ → List ℕ
known_text None name = []
known_text (Some files) name = unwrap_or (files name) []

bytes_text : (o : Option (List ℕ)) → IfSome o (λ bytes. bytes ≡ unwrap_or o [])
bytes_text None = tt
bytes_text (Some bytes) = refl

pub known_is_text : (holds : Option Files) (name : List ℕ)
    → IsText holds name (known_text holds name)
known_is_text None name = tt
known_is_text (Some files) name = bytes_text (files name)

bytes_are : (o : Option (List ℕ)) (text : List ℕ) → o ≡ Some text → IfSome o (λ bytes. bytes ≡ text)
bytes_are None text e = tt
bytes_are (Some bytes) text e = cc

has_text : (holds : Option Files) (name text : List ℕ)
    → IfSome holds (λ files. files name ≡ Some text) → IsText holds name text
has_text None name text h = tt
has_text (Some files) name text h = bytes_are (files name) text h

pub loaded_text : (name : List ℕ) (limit : ℕ) (text : List ℕ) (a b : World)
    → Loaded name limit text a b → IsText a.files.holds name text
loaded_text name limit text a b l = has_text a.files.holds name text l.bytes

pub loading_goes : {A : Type 0} (name : List ℕ) (limit : ℕ) (text : List ℕ)
    (read : Result A Refusal) (rest : A → List Step) (value : A) (end : End) (a b c : World)
    → read ≡ Ok value → Loaded name limit text a b → Goes (rest value) end b c
    → Goes (loading name limit text read rest) end a c
loading_goes name limit text read rest value end a b c e l g = rw e (inl (b, ((refl, l), g)))

pub loading_stops : {A : Type 0} (name : List ℕ) (limit : ℕ) (text : List ℕ)
    (read : Result A Refusal) (rest : A → List Step) (reason : Reason) (a b : World)
    → LoadFails name limit text (refusal_of read) reason a b
    → Goes (loading name limit text read rest) (Stopped reason) a b
loading_stops name limit text (Ok value) rest reason a b f = inr f
loading_stops name limit text (Err refusal) rest reason a b f = inr f

-- the three files are not PROG
pub record AreOthers (names : RunNames) : Type 0 where
  pub script : bytes_eq names.script.now names.prog.now ≡ false
  pub image : bytes_eq names.image.now names.prog.now ≡ false
