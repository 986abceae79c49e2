-- The facts of `init`: its statuses, its memory, and what one that is done leaves.
use Rattle.simdram_cli.proofs.Common.{◌≡◌, ℕ, List, [], ◌∷◌, ◌++◌, Option, None, refl, ◌∙◌, ap}
use Rattle.simdram_cli.proofs.Common.{append-nil, inr, Files, Known, World, IsDelivered}
use Rattle.simdram_cli.proofs.Common.{known_delivered, at_other, at_own, bytes_differ, GoodFor}
use Rattle.simdram_cli.proofs.Common.{TakesFirst}
use Rattle.host_edge.proofs.Tells.{Known-map}
use Rattle.simdram_cli.specs.declared.words.Command.TheVariants.{Init}
use Rattle.simdram_cli.specs.declared.words.InitNames.{InitNames}
use Rattle.simdram_cli.specs.Init.{Started, empty_image, init_plan}
use Rattle.simdram_cli.proofs.Planned.{GivesOwn, IsOneOf, Proved, spares_by, zero_tells}

pub init_gives : (names : InitNames) → GivesOwn (Init names) (init_plan names)
init_gives names = ((refl, tt), ((refl, tt), refl))

pub init_takes : (names : InitNames) → TakesFirst None (init_plan names)
init_takes names = inr (tt, λ e. cc)

pub init_good : (names : InitNames) (holds : Option Files)
    → GoodFor (IsOneOf (10 ∷ 0 ∷ [])) (init_plan names) holds
init_good names holds = (((λ e. cc), tt), (((λ e. cc), tt), refl))

pub started : (names : InitNames) (old new : World) (status : ℕ)
    → IsDelivered (init_plan names) old new status
    → Known (λ before after. Started names before after old new) old.files.holds new.files.holds
started names old new status d =
    known_delivered (init_plan names) old new status
    (λ before after. Started names before after old new) d
    (λ before after said sent (same, all, answers, left). record {
      is = ap (λ (x : Files). x names.out.now) same
          ∙ at_own names.out.now (empty_image names) before;
      others = λ other apart. ap (λ (x : Files). x other) same
          ∙ at_other other names.out.now (empty_image names) before
          (bytes_differ other names.out.now apart);
      sent = Known-map {R = λ (x : List ℕ) y. y ≡ x ++ said} {S = λ (x : List ℕ) y. y ≡ x}
          old.sink.sent new.sink.sent (λ x y p. p ∙ ap (λ w. x ++ w) all
          ∙ append-nil x) sent;
    })

pub init_proved : (names : InitNames) → Proved (Init names)
init_proved names = record {
  gives = init_gives names;
  not_one = λ can. cc;
  good = λ holds are good. init_good names holds;
  spares = spares_by None (init_plan names) (init_takes names);
  tells = zero_tells;
  promised = λ old new status d. started names old new status d.delivers;
}
