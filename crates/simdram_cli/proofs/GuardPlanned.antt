-- The facts of `guard`: its statuses, its files and its memory.
use Rattle.simdram_cli.proofs.Common.{◌≡◌, ℕ, List, [], ◌∷◌, length, Option, Some, None, refl, sym}
use Rattle.simdram_cli.proofs.Common.{◌∙◌, ap, subst, inl, inr, false, ◌⊎◌, Result, Ok, Err}
use Rattle.simdram_cli.proofs.Common.{bytes_eq, Files, Instruction, script_of, image_in}
use Rattle.simdram_cli.proofs.Common.{program_bytes, flips_of, first_long_name, first_stranger}
use Rattle.simdram_cli.proofs.Common.{Image, Program, Refusal, Store, Take, GoodFor, NotTen}
use Rattle.simdram_cli.proofs.Common.{TakesFirst, files_then, file_in, Loads, Makes, Plan, Then}
use Rattle.simdram_cli.proofs.Common.{at_other}
use Rattle.simdram_cli.specs.declared.words.Command.TheVariants.{Guard}
use Rattle.simdram_cli.specs.declared.words.GuardNames.{GuardNames}
use Rattle.simdram_cli.specs.declared.words.TheConstants.{FLIPS_MAX, IMAGE_MAX, OPS_MAX, SCRIPT_MAX}
use Rattle.simdram_cli.specs.Commands.{CanAnswer}
use Rattle.simdram_cli.specs.Commands.{AreGood}
use Rattle.simdram_cli.specs.GoodFiles.{IsGood, IsScript, IsImageFile, IsFlipsFile}
use Rattle.simdram_cli.specs.Ends.{IsCompiled}
use Rattle.simdram_cli.specs.Flips.{flips_in, guarded_image_of, guarded_script_in, in_triples}
use Rattle.simdram_cli.specs.Flips.{name_refusal, table_refusal, unless_some, with_short_names}
use Rattle.simdram_cli.specs.Guard.{guard_image_plan, flips_plan, guard_job, guard_job_plan}
use Rattle.simdram_cli.specs.Guard.{guard_plan, guard_work_plan, refused_of}
use Rattle.simdram_cli.specs.Inputs.{image_of, ops_in, script_in}
use Rattle.simdram_cli.proofs.GuardSteps.{flips_are, opened_are, short_of, triples_of}
use Rattle.simdram_cli.proofs.Guarding.{AreOthers}
use Rattle.simdram_cli.proofs.JobPlans.{good_file, ops_refuses, status_so}
use Rattle.simdram_cli.proofs.Planned.{GivesOwn, IsFailing, IsOneOf}

pub guard_gives : (names : GuardNames) → GivesOwn (Guard names) (guard_plan names)
guard_gives names =
    let F = IsFailing (Guard names) in (
      refl,
      refl,
      refl,
      ops_refuses F refl,
      λ ops u program. (
        (refl, (refl, tt)),
        λ v. (
          refl,
          refl,
          refl,
          (λ text. short_of F (script_of text) refl refl),
          λ own script. (
            refl,
            refl,
            refl,
            (λ text. triples_of F (image_in text) refl refl),
            λ bytes i. (
              refl,
              refl,
              refl,
              (λ text. flips_are F (flips_of i.geometry (length script) text) refl),
              λ flip_text flips. (
                (refl, tt),
                (
                  (
                    (refl, refl),
                    opened_are F names.out.now (guard_job program script i flips) refl
                        refl,
                  ),
                  status_so (CanAnswer (Guard names)) (refused_of (guard_job program script i flips)) refl refl,
                ),
              ),
            ),
          ),
        ),
      ),
    )

pub guard_takes : (names : GuardNames) → TakesFirst (Some names.prog.now) (guard_plan names)
guard_takes names = (
  ops_refuses NotTen (λ e. cc),
  λ ops u program. inl (
    refl,
    λ v. (
      (λ text. short_of NotTen (script_of text) (λ e. cc) (λ e. cc)),
      λ own script. (
        (λ text. triples_of NotTen (image_in text) (λ e. cc) (λ e. cc)),
        λ bytes i. (
          (λ text. flips_are NotTen (flips_of i.geometry (length script) text) (λ e. cc)),
          λ flip_text flips. (
            opened_are NotTen names.out.now (guard_job program script i flips) (λ e. cc) (λ e. cc),
            status_so NotTen (refused_of (guard_job program script i flips)) (λ e. cc) (λ e. cc),
          ),
        ),
      ),
    ),
  ),
)

abbrev P17 : ℕ → Type 0
P17 = IsOneOf (10 ∷ 0 ∷ 8 ∷ 17 ∷ [])

-- a good file of which the guard may refuse what was read, with 17
good_unless : {A : Type 0} (name : List ℕ) (limit : ℕ) (read guarded : List ℕ → Result A Refusal)
    (refuse : ℕ → Refusal) (o : A → Option ℕ) (rest : List ℕ → A → Plan) (holds : Option Files)
    → ((k : ℕ) → P17 (refuse k).status) → (good : IsGood read limit (file_in holds name))
    → ((text : List ℕ) (value : A) → read text ≡ Ok value
    → guarded text ≡ unless_some refuse (o value) value)
    → GoodFor P17 (rest good.text good.value) holds → GoodFor P17 (Loads name limit guarded rest) holds
good_unless {A} name limit read guarded refuse o rest holds p good is more = (
  good.text,
  good.there,
  good.within,
  either (o good.value) (is good.text good.value
      good.accepted),
)
  where
    either : (k : Option ℕ) → guarded good.text ≡ unless_some refuse k good.value
        → ((value : A) × (guarded good.text ≡ Ok value) × GoodFor P17 (rest good.text value) holds)
        ⊎ ((refusal : Refusal) × (guarded good.text ≡ Err refusal) × P17 refusal.status)
    either None e = inl (good.value, e, more)
    either (Some k) e = inr (refuse k, e, p k)

-- a file is good where it was good and another was stored
pub moved : {A : Type 0} (read : List ℕ → Result A Refusal) (limit : ℕ) (name prog bytes : List ℕ)
    (holds : Option Files) → bytes_eq name prog ≡ false
    → IsGood read limit (file_in holds name)
    → IsGood read limit (file_in (files_then (Take ∷ Store prog bytes ∷ []) holds) name)
moved read limit name prog bytes None apart good = good
moved read limit name prog bytes (Some files) apart good = record {
  text = good.text;
  there = at_other name prog bytes files apart ∙ good.there;
  within = good.within;
  value = good.value;
  accepted = good.accepted;
}

moved_value : {A : Type 0} (read : List ℕ → Result A Refusal) (limit : ℕ) (name prog bytes : List ℕ)
    (holds : Option Files) (apart : bytes_eq name prog ≡ false)
    (good : IsGood read limit (file_in holds name))
    → (moved read limit name prog bytes holds apart good).value ≡ good.value
unfolding moved
moved_value read limit name prog bytes None apart good = refl
moved_value read limit name prog bytes (Some files) apart good = refl

guard_job_good : (names : GuardNames) (program : Program) (holds : Option Files)
    → (script : IsScript (file_in holds names.script.now))
    → (image : IsImageFile (file_in holds names.image.now))
    → IsFlipsFile image.value.geometry (length script.value) (file_in holds names.flips.now)
    → GoodFor P17 (guard_job_plan names program) holds
guard_job_good names program holds script image flips =
    good_unless names.script.now SCRIPT_MAX script_in guarded_script_in name_refusal first_long_name
    (λ text s. guard_image_plan names program s) holds (λ k. refl) script
    (λ text value e. ap with_short_names e)
    (good_unless names.image.now IMAGE_MAX image_of guarded_image_of table_refusal
    (λ i. first_stranger i.table) (λ text i. flips_plan names program script.value i) holds
    (λ k. refl) image (λ text value e. ap in_triples e)
    (good_file P17 names.flips.now FLIPS_MAX
    (flips_in image.value.geometry (length script.value))
    (λ text f. Then (Take ∷ []) (guard_work_plan names.out.now
    (guard_job program script.value image.value f))) holds flips (
      ((λ e. cc), tt),
      (
        (
          ((λ e. cc), (λ e. cc)),
          opened_are (λ n. n ≡ 2 → ⊥) names.out.now
              (guard_job program script.value image.value flips.value) (λ n. cc) (λ n. cc),
        ),
        status_so P17 (refused_of (guard_job program script.value image.value flips.value)) refl refl,
      ),
    )))

pub guard_good : (names : GuardNames) (holds : Option Files) → AreOthers names
    → AreGood (Guard names) (file_in holds)
    → GoodFor (IsOneOf (10 ∷ 0 ∷ 8 ∷ 17 ∷ [])) (guard_plan names) holds
guard_good names holds apart good =
    good_file P17 names.ops.now OPS_MAX ops_in (λ text u.
    Makes {A = Program} (λ program. Unit {0}) (λ program.
    Then (Take ∷ Store names.prog.now (program_bytes 2 program) ∷ [])
    (Makes {A = Unit {0}} (λ v. IsCompiled text program) (λ v. guard_job_plan names program))))
    holds good.0 (λ program u. (
      ((λ e. cc), ((λ e. cc), tt)),
      λ v compiled.
          let prog = names.prog.now in
          let bytes = program_bytes 2 program in
          let after = files_then (Take ∷ Store prog bytes ∷ []) holds in
          let s_is = moved_value script_in SCRIPT_MAX names.script.now prog bytes holds apart.script
          good.1 in
          let i_is = moved_value image_of IMAGE_MAX names.image.now prog bytes holds apart.image good.2 in
          guard_job_good names program after
          (moved script_in SCRIPT_MAX names.script.now prog bytes holds apart.script good.1)
          (moved image_of IMAGE_MAX names.image.now prog bytes holds apart.image good.2)
          (subst (λ (x : Image). IsFlipsFile x.geometry (length (moved script_in SCRIPT_MAX
          names.script.now prog bytes holds apart.script good.1).value) (file_in after names.flips.now))
          (sym i_is)
          (subst (λ (xs : List Instruction). IsFlipsFile good.2.value.geometry (length xs)
          (file_in after names.flips.now)) (sym s_is)
          (moved (flips_in good.2.value.geometry (length good.1.value)) FLIPS_MAX names.flips.now prog
          bytes holds apart.flips good.3))),
    ))
