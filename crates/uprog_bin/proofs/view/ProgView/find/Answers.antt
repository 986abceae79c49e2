use Rattle.uprog_bin.proofs.Common.{ℕ, List, sym, ap, ◌∙◌, position}
use Rattle.uprog_bin.specs.declared.directory.Listed.{Listed}
use Rattle.uprog_bin.specs.Reading.{is_named}
use Rattle.uprog_bin.proofs.Found.{place_is}
use Rattle.uprog_bin.proofs.view.ProgView.find.Goals as goal

pub returns-in-Some : goal.returns-in-Some
returns-in-Some c =
    sym c.in-Some.is
    ∙ c.place_of.ensures.value
    ∙ ap (λ (xs : List Listed). position (is_named c.bytes.result.now) xs) c.as_slice.ensures.value
    ∙ ap (λ (n : List ℕ). position (is_named n) c.self.inside.listed.items) c.bytes.ensures.value
    ∙ place_is c.self.inside.version c.self.inside.bytes.now c.self.inside.listed.items
    c.args.self.now c.args.name.now
    c.self.view_is c.self.invariant

pub returns-in-None : goal.returns-in-None
returns-in-None c =
    sym c.in-None.is
    ∙ c.place_of.ensures.value
    ∙ ap (λ (xs : List Listed). position (is_named c.bytes.result.now) xs) c.as_slice.ensures.value
    ∙ ap (λ (n : List ℕ). position (is_named n) c.self.inside.listed.items) c.bytes.ensures.value
    ∙ place_is c.self.inside.version c.self.inside.bytes.now c.self.inside.listed.items
    c.args.self.now c.args.name.now
    c.self.view_is c.self.invariant
