-- The files determine the job of the headline.
use Rattle.simdram_cli.proofs.Common.{◌≡◌, List, Option, Some, None, refl, sym, ◌∙◌, ap, inr, map}
use Rattle.simdram_cli.proofs.Common.{TextOp, text_op, Operation, Instruction, Program, Image}
use Rattle.op_text.proofs.Meeting.{ops_of_a_text_are_one}
use Rattle.uprog_bin.proofs.Versions.{file_is_one}
use Rattle.simdram_cli.specs.Headline.{RunJob, Spells, OneJob}

same_ops : (file : Option (List _)) (a b : List Operation) → Spells file a → Spells file b → a ≡ b
same_ops None a b s t = absurd s
same_ops (Some bytes) a b s t = ops_of_a_text_are_one bytes a b s t

same_value : {A : Type 0} (o : Option A) (a b : A) → o ≡ Some a → o ≡ Some b → a ≡ b
same_value {A = A} o a b e f = let g : ◌≡◌ {A = Option A} (Some a) (Some b) = sym e ∙ f in cc

job_by : (t t' : List TextOp) (s s' : List Instruction) (i i' : Image) (p p' : Program)
    → t ≡ t' → s ≡ s' → i ≡ i' → p ≡ p'
    → (let a : RunJob = record { text = t; script = s; image = i; program = p } in a)
    ≡ record { text = t'; script = s'; image = i'; program = p' }
job_by t t' s s' i i' p p' e f g h = rw (e, f, g, h) refl

pub one_job : OneJob
one_job names before after a b ja jb pa pb =
    job_by a.text b.text a.script b.script a.image b.image a.program b.program
    (ja.text ∙ ap (map text_op) (same_ops (before names.ops.now) ja.ops jb.ops ja.are jb.are)
    ∙ sym jb.text)
    (same_value _ a.script b.script ja.script jb.script)
    (same_value _ a.image b.image ja.image jb.image)
    (file_is_one 2 2 a.program b.program pa.legal pb.legal (inr refl) (inr refl)
    (same_value (after names.prog.now) _ _ pa.file pb.file)).1
