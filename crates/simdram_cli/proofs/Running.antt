-- The parts of a run.
use Rattle.simdram_cli.proofs.Common.{and_parts, ◌≡◌, ℕ, Bool, true, false, List, [], ◌∷◌, map}
use Rattle.simdram_cli.proofs.Common.{refl, sym, ap, inl, Result, Ok, Err, IfOk, IfErr, bytes_eq}
use Rattle.simdram_cli.proofs.Common.{not, list_all, bytes_eq-Decides, FolderView, program_bytes}
use Rattle.simdram_cli.proofs.Common.{AreExact, Program, Operation, IsProgram, ImplementsAll}
use Rattle.simdram_cli.proofs.Common.{text_op, world, Take, Store, Reason, Done, Stopped, Found}
use Rattle.simdram_cli.proofs.Common.{image_in, NotRead}
use Rattle.simdram_cli.specs.Accepted.{IsTaken}
use Rattle.simdram_cli.specs.Inputs.{ops_in, image_of, image_found, image_or_refusal}
use Rattle.simdram_cli.specs.declared.words.RunNames.{RunNames}
use Rattle.simdram_cli.specs.declared.words.TheConstants.{OPS_MAX}
use Rattle.simdram_cli.specs.declared.stop.Stop.{Stop}
use Rattle.simdram_cli.specs.Stops.{reason_of}
use Rattle.simdram_cli.specs.Reads.{OpsRead}
use Rattle.simdram_cli.specs.Words.{are_apart, all_differ}
use Rattle.simdram_cli.specs.Ends.{GoesToStore, StopsAtStore, ProgramTaken, ProgramStopped}
use Rattle.simdram_cli.proofs.Joins.{loaded_text, loading_goes}
use Rattle.simdram_cli.proofs.Joins.{loading_stops, AreOthers, no_sink, no_chip}
use Rattle.simdram_cli.proofs.Reading.{ops_accepted}

pub program_unread : (ops_name prog_name : List ℕ) (reason : Reason) (old new : FolderView)
    → NotRead ops_in ops_name OPS_MAX reason old new
    → ProgramStopped ops_name prog_name reason old new
program_unread ops_name prog_name reason old new n = record {
  program = [];
  text = n.text;
  is_text = n.is_text;
  goes = λ sink chip. loading_stops ops_name OPS_MAX n.text (ops_in n.text) (λ _. Take
      ∷ Store prog_name (program_bytes 2 []) ∷ []) reason (world old sink chip)
      (world new sink chip) (n.fails sink chip);
}

-- OPS was read, and PROG stored
pub program_taken : (ops_name prog_name : List ℕ) (ops : List Operation) (program : Program)
    (old mid new : FolderView) → OpsRead ops_name ops old mid
    → IsProgram program → ImplementsAll program (map text_op ops) → AreExact program ops
    → IsTaken (program_bytes 2 program) program
    → GoesToStore prog_name program Done mid new → ProgramTaken ops_name prog_name program old new
program_taken ops_name prog_name ops program old mid new r legal implements exact taken g = record {
  text = r.text;
  accepted = ops_accepted r.text r.is.accepted;
  compiled = record {
    ops = ops;
    is = r.is;
    legal = legal;
    implements = implements;
    exact = exact;
    taken = taken;
  };
  goes = λ sink chip. inl (world mid sink chip, ((refl, r.loaded sink chip), g sink chip));
}

-- the answers of a call that stores PROG
pub taken_by : {X : Type 0} (ops_name prog_name : List ℕ) (ops : List Operation)
    (program : X → Program)
    (result : Result X Stop) (old mid new : FolderView)
    → OpsRead ops_name ops old mid
    → IfOk result (λ p. IsProgram (program p))
    → IfOk result (λ p. ImplementsAll (program p) (map text_op ops))
    → IfOk result (λ p. AreExact (program p) ops)
    → IfOk result (λ p. IsTaken (program_bytes 2 (program p)) (program p))
    → IfOk result (λ p. GoesToStore prog_name (program p) Done mid new)
    → IfOk result (λ p. ProgramTaken ops_name prog_name (program p) old new)
taken_by ops_name prog_name ops program (Ok p) old mid new r legal implements exact taken g =
    program_taken ops_name prog_name ops (program p) old mid new r legal implements exact taken g
taken_by ops_name prog_name ops program (Err stop) old mid new r legal implements exact taken g = tt

-- OPS was read, and PROG not stored
pub program_unstored : (ops_name prog_name : List ℕ) (ops : List Operation) (reason : Reason)
    (old mid new : FolderView) → OpsRead ops_name ops old mid
    → StopsAtStore prog_name reason mid new → ProgramStopped ops_name prog_name reason old new
program_unstored ops_name prog_name ops reason old mid new r g = record {
  program = g.0;
  text = r.text;
  is_text = loaded_text ops_name OPS_MAX r.text (world old no_sink no_chip)
      (world mid no_sink no_chip) (r.loaded no_sink no_chip);
  goes = λ sink chip. loading_goes ops_name OPS_MAX r.text (ops_in r.text) (λ _. Take
      ∷ Store prog_name (program_bytes 2 g.0) ∷ []) tt (Stopped reason)
      (world old sink chip) (world mid sink chip) (world new sink chip)
      (ops_accepted r.text r.is.accepted) (r.loaded sink chip) (g.1 sink chip);
}

pub stopped_by : {X : Type 0} (ops_name prog_name : List ℕ) (ops : List Operation)
    (result : Result X Stop)
    (old mid new : FolderView) → OpsRead ops_name ops old mid
    → IfErr result (λ stop. StopsAtStore prog_name (reason_of stop) mid new)
    → IfErr result (λ stop. ProgramStopped ops_name prog_name (reason_of stop) old new)
stopped_by ops_name prog_name ops (Ok p) old mid new r g = tt
stopped_by ops_name prog_name ops (Err stop) old mid new r g =
    program_unstored ops_name prog_name ops (reason_of stop) old mid new r g

-- IMAGE is read
pub image_is : (text : List ℕ) (found : Found) → image_in text ≡ Ok found
    → image_of text ≡ Ok (image_found found)
image_is text found e = ap image_or_refusal e

pub not_true : (b : Bool) → not b ≡ true → b ≡ false
not_true true e = absurd (cc)
not_true false e = refl

same_back : (x y : List ℕ) (b : Bool) → bytes_eq y x ≡ b → bytes_eq x y ≡ false
    → bytes_eq y x ≡ false
same_back x y true e f =
    let same = (bytes_eq-Decides y x).0 e in
    let back = (bytes_eq-Decides x y).1 (sym same) in
    cc
same_back x y false e f = e

pub other_way : (x y : List ℕ) → bytes_eq x y ≡ false → bytes_eq y x ≡ false
other_way x y f = same_back x y (bytes_eq y x) refl f

-- the first of four names differs from the others, and the second from the last two
pub record Differ (a b c d : List ℕ) : Type 0 where
  pub ab : bytes_eq a b ≡ false
  pub ac : bytes_eq a c ≡ false
  pub ad : bytes_eq a d ≡ false
  pub bc : bytes_eq b c ≡ false
  pub bd : bytes_eq b d ≡ false
  pub cd : bytes_eq c d ≡ false

pub four_differ : (a b c d : List ℕ) → all_differ (a ∷ b ∷ c ∷ d ∷ []) ≡ true → Differ a b c d
four_differ a b c d e =
    let first = and_parts (list_all (λ other. not (bytes_eq a other)) (b ∷ c ∷ d ∷ []))
    (all_differ (b ∷ c ∷ d ∷ [])) e in
    let second = and_parts (list_all (λ other. not (bytes_eq b other)) (c ∷ d ∷ []))
    (all_differ (c ∷ d ∷ [])) first.1 in
    let third = and_parts (list_all (λ other. not (bytes_eq c other)) (d ∷ [])) (all_differ (d ∷ []))
    second.1 in
    let one = and_parts (not (bytes_eq a b)) (list_all (λ other. not (bytes_eq a other)) (c ∷ d ∷ []))
    first.0 in
    let two = and_parts (not (bytes_eq a c)) (list_all (λ other. not (bytes_eq a other)) (d ∷ [])) one.1
    in
    let three = and_parts (not (bytes_eq a d)) true two.1 in
    let four = and_parts (not (bytes_eq b c)) (list_all (λ other. not (bytes_eq b other)) (d ∷ []))
    second.0 in
    let five = and_parts (not (bytes_eq b d)) true four.1 in
    let six = and_parts (not (bytes_eq c d)) true third.0 in
    record {
      ab = not_true _ one.0;
      ac = not_true _ two.0;
      ad = not_true _ three.0;
      bc = not_true _ four.0;
      bd = not_true _ five.0;
      cd = not_true _ six.0;
    }

-- which files of a run are apart
pub record Apart (names : RunNames) : Type 0 where
  pub ops_prog : bytes_eq names.ops.now names.prog.now ≡ false
  pub others : AreOthers names
  pub prog_out : bytes_eq names.prog.now names.out.now ≡ false
  pub script_out : bytes_eq names.script.now names.out.now ≡ false

pub apart : (names : RunNames) → are_apart names.ops.now names.prog.now names.script.now
    names.image.now names.out.now ≡ true → Apart names
apart names e =
    let parts = and_parts (all_differ (names.ops.now ∷ names.prog.now ∷ names.script.now
    ∷ names.image.now ∷ [])) (all_differ (names.ops.now ∷ names.prog.now ∷ names.script.now
    ∷ names.out.now ∷ [])) e in
    let inputs = four_differ names.ops.now names.prog.now names.script.now names.image.now parts.0
    in
    let outputs = four_differ names.ops.now names.prog.now names.script.now names.out.now parts.1 in
    record {
      ops_prog = inputs.ab;
      others = record {
        script = other_way names.prog.now names.script.now inputs.bc;
        image = other_way names.prog.now names.image.now inputs.bd;
      };
      prog_out = outputs.bd;
      script_out = outputs.cd;
    }
