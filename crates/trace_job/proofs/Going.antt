-- Steps after the opening of a chip, over two views of it.
use Rattle.std.proofs.Common.{◌≡◌, ℕ, List, [], ◌∷◌, refl, sym, ◌∙◌}
use Rattle.std.proofs.Common.{ap, subst, inl, inr}
use Rattle.std.specs.List.{AllByRecursion}
use Rattle.dram_model.specs.Chip.{Banks}
use Rattle.dram_model.specs.View.{ChipView}
use Rattle.faults.specs.Counts.{Rose}
use Rattle.cli_model.specs.World.{World}
use Rattle.cli_model.specs.Waves.{IsLeftBy, StoppedIn}
use Rattle.cli_model.specs.Steps.{Step, Load, Take, Store, Open, Use, UseFor, Put, Print, End, Done}
use Rattle.cli_model.specs.Steps.{Stopped}
use Rattle.cli_model.specs.Steps.{Goes, Used, UseFailed, Sent, Printed, PrintFailed, Stored}
use Rattle.cli_model.specs.Steps.{Unstored}
use Rattle.trace_job.specs.Below.{IsLate, with_chip, StepsAreBelow}

-- a view with another's banks and count of faults
abbrev showing : ChipView → ChipView → ChipView
showing chip other = record chip { banks = other.banks; faults = other.faults }

used_below : (banks : Banks) (a b : World) (old new : ChipView) → old.faults ≡ a.chip.faults
    → new.faults ≡ b.chip.faults → new.banks ≡ b.chip.banks → Used banks a b
    → Used banks (with_chip old a) (with_chip new b)
used_below banks a b old new p q r u = record {
  files = u.files;
  sink = u.sink;
  chip = rw (p, q) u.chip;
  left = r ∙ u.left;
}

unused_below : (a b : World) (old new : ChipView) → old.faults ≡ a.chip.faults
    → new.faults ≡ b.chip.faults → UseFailed a b → UseFailed (with_chip old a) (with_chip new b)
unused_below a b old new p q u = record {
  files = u.files;
  sink = u.sink;
  chip = rw (p, q) u.chip;
}

printed_below : (R : List ℕ → List ℕ → Type 0) (banks : Banks) (a b : World) (old new : ChipView)
    → old.faults ≡ a.chip.faults → new.faults ≡ b.chip.faults → new.banks ≡ b.chip.banks
    → Printed R banks a b → Printed R banks (with_chip old a) (with_chip new b)
printed_below R banks a b old new p q r u = record {
  files = u.files;
  sent = u.sent;
  faults = u.faults;
  chip = rw (p, q) u.chip;
  left = r ∙ u.left;
}

unprinted_below : (bytes : List ℕ) (a b : World) (old new : ChipView) → old.faults ≡ a.chip.faults
    → new.faults ≡ b.chip.faults → PrintFailed bytes a b
    → PrintFailed bytes (with_chip old a) (with_chip new b)
unprinted_below bytes a b old new p q u = record {
  files = u.files;
  sent = u.sent;
  faults = u.faults;
  chip = rw (p, q) u.chip;
}

sent_below : (R : List ℕ → List ℕ → Type 0) (a b : World) (old new : ChipView) → new ≡ old
    → Sent R a b → Sent R (with_chip old a) (with_chip new b)
sent_below R a b old new e s = record {
  files = s.files;
  sent = s.sent;
  faults = s.faults;
  chip = e;
}

stored_below : (name bytes : List ℕ) (a b : World) (old new : ChipView) → new ≡ old
    → Stored name bytes a b → Stored name bytes (with_chip old a) (with_chip new b)
stored_below name bytes a b old new e s = record {
  files = s.files;
  counts = s.counts;
  unfailed = s.unfailed;
  sink = s.sink;
  chip = e;
}

unstored_below : (name : List ℕ) (a b : World) (old new : ChipView) → new ≡ old
    → Unstored name a b → Unstored name (with_chip old a) (with_chip new b)
unstored_below name a b old new e s = record {
  others = s.others;
  counts = s.counts;
  rose = s.rose;
  sink = s.sink;
  chip = e;
}

rose_below : (a b c d : ℕ) → a ≡ c → b ≡ d → Rose c d → Rose a b
rose_below a b c d p q r = rw (p, q) r

-- the view in the middle shows what the last does, with its own banks and count
mid_same : (mid b new : ChipView) → new.faults ≡ b.faults → new.banks ≡ b.banks → b ≡ mid
    → new ≡ showing new mid
mid_same mid b new q r e =
    let faults : new.faults ≡ mid.faults = q ∙ ap (λ (v : ChipView). v.faults) e in
    let banks : new.banks ≡ mid.banks = r ∙ ap (λ (v : ChipView). v.banks) e in
    rw (← faults, ← banks) refl

-- steps go on over the other view, which changes where the first one does
pub goes_below : (steps : List Step) (end : End) (a b : World) (old new : ChipView)
    → AllByRecursion IsLate steps → old.faults ≡ a.chip.faults → new.faults ≡ b.chip.faults
    → new.banks ≡ b.chip.banks → (b.chip ≡ a.chip → new ≡ old)
    → Goes steps end a b → Goes steps end (with_chip old a) (with_chip new b)
goes_below [] Done a b old new late p q r same g =
    let e : new ≡ old = same (ap (λ (w : World). w.chip) g) in
    ap (λ (w : World). with_chip new w) g ∙ ap (λ (v : ChipView). with_chip v a) e
goes_below [] (Stopped reason) a b old new late p q r same g = absurd g
goes_below (Load name limit text refusal ∷ steps) end a b old new late p q r same g = absurd late.0
goes_below (Take ∷ steps) end a b old new late p q r same g = absurd late.0
goes_below (Open on ∷ steps) end a b old new late p q r same g = absurd late.0
goes_below (Store name bytes ∷ steps) end a b old new late p q r same (inl (mid, (d, g))) =
    inl (
      with_chip old mid,
      (
        stored_below name bytes a mid old old refl d,
        goes_below steps end mid b old new late.1 (p ∙ ap (λ (v : ChipView). v.faults) (sym d.chip))
            q r (λ e. same (e ∙ d.chip)) g,
      ),
    )
goes_below (Store name bytes ∷ steps) Done a b old new late p q r same (inr f) = absurd f
goes_below (Store name bytes ∷ steps) (Stopped reason) a b old new late p q r same (inr f) =
    inr (f.0, unstored_below name a b old new (same f.1.chip) f.1)
goes_below (Put bytes ∷ steps) end a b old new late p q r same (inl (mid, (d, g))) =
    inl (
      with_chip old mid,
      (
        (sent_below _ a mid old old refl d.0, d.1),
        goes_below steps end mid b old new late.1 (p ∙ ap (λ (v : ChipView). v.faults) (sym d.0.chip))
            q r (λ e. same (e ∙ d.0.chip)) g,
      ),
    )
goes_below (Put bytes ∷ steps) Done a b old new late p q r same (inr f) = absurd f
goes_below (Put bytes ∷ steps) (Stopped reason) a b old new late p q r same (inr f) =
    inr (f.0, sent_below _ a b old new (same f.1.chip) f.1, f.2)
goes_below (Use on ∷ steps) end a b old new late p q r same (inl (mid, (d, g))) =
    let own = showing new mid.chip in
    inl (
      with_chip own mid,
      (
        used_below _ a mid old own p refl refl d,
        goes_below steps end mid b own new late.1 refl q r (mid_same mid.chip b.chip new q r) g,
      ),
    )
goes_below (Use on ∷ steps) Done a b old new late p q r same (inr f) = absurd f
goes_below (Use on ∷ steps) (Stopped reason) a b old new late p q r same (inr f) =
    inr (
      f.0,
      unused_below a b old new p q f.1,
      rose_below old.faults new.faults a.chip.faults b.chip.faults p q f.2,
      subst (IsLeftBy on) (sym r) f.3,
    )
goes_below (UseFor wave ∷ steps) end a b old new late p q r same (inl (mid, (d, g))) =
    let own = showing new mid.chip in
    inl (
      with_chip own mid,
      (
        used_below _ a mid old own p refl refl d,
        goes_below steps end mid b own new late.1 refl q r (mid_same mid.chip b.chip new q r) g,
      ),
    )
goes_below (UseFor wave ∷ steps) Done a b old new late p q r same (inr f) = absurd f
goes_below (UseFor wave ∷ steps) (Stopped reason) a b old new late p q r same (inr f) =
    inr (
      f.0,
      unused_below a b old new p q f.1,
      rose_below old.faults new.faults a.chip.faults b.chip.faults p q f.2,
      subst (StoppedIn wave) (sym r) f.3,
    )
goes_below (Print on bytes ∷ steps) end a b old new late p q r same (inl (mid, (d, g))) =
    let own = showing new mid.chip in
    inl (
      with_chip own mid,
      (
        (printed_below _ _ a mid old own p refl refl d.0, d.1),
        goes_below steps end mid b own new late.1 refl q r (mid_same mid.chip b.chip new q r) g,
      ),
    )
goes_below (Print on bytes ∷ steps) Done a b old new late p q r same (inr f) = absurd f
goes_below (Print on bytes ∷ steps) (Stopped reason) a b old new late p q r same (inr (inl f)) =
    inr (inl (f.0, printed_below _ _ a b old new p q r f.1, f.2))
goes_below (Print on bytes ∷ steps) (Stopped reason) a b old new late p q r same (inr (inr f)) =
    inr (inr (
      f.0,
      unprinted_below bytes a b old new p q f.1,
      rose_below old.faults new.faults a.chip.faults b.chip.faults p q f.2,
      subst (IsLeftBy on) (sym r) f.3,
    ))

-- where the first step uses the chip, nothing of it has to be the same
pub steps_are_below : StepsAreBelow
steps_are_below [] end a b old new late first p q r g = absurd first
steps_are_below (Load name limit text refusal ∷ steps) end a b old new late first p q r g = absurd late.0
steps_are_below (Take ∷ steps) end a b old new late first p q r g = absurd late.0
steps_are_below (Open on ∷ steps) end a b old new late first p q r g = absurd late.0
steps_are_below (Store name bytes ∷ steps) end a b old new late first p q r g = absurd (cc)
steps_are_below (Put bytes ∷ steps) end a b old new late first p q r g = absurd (cc)
steps_are_below (Use on ∷ steps) end a b old new late first p q r (inl (mid, (d, g))) =
    let own = showing new mid.chip in
    inl (
      with_chip own mid,
      (
        used_below _ a mid old own p refl refl d,
        goes_below steps end mid b own new late.1 refl q r (mid_same mid.chip b.chip new q r) g,
      ),
    )
steps_are_below (Use on ∷ steps) Done a b old new late first p q r (inr f) = absurd f
steps_are_below (Use on ∷ steps) (Stopped reason) a b old new late first p q r (inr f) =
    inr (
      f.0,
      unused_below a b old new p q f.1,
      rose_below old.faults new.faults a.chip.faults b.chip.faults p q f.2,
      subst (IsLeftBy on) (sym r) f.3,
    )
steps_are_below (UseFor wave ∷ steps) end a b old new late first p q r (inl (mid, (d, g))) =
    let own = showing new mid.chip in
    inl (
      with_chip own mid,
      (
        used_below _ a mid old own p refl refl d,
        goes_below steps end mid b own new late.1 refl q r (mid_same mid.chip b.chip new q r) g,
      ),
    )
steps_are_below (UseFor wave ∷ steps) Done a b old new late first p q r (inr f) = absurd f
steps_are_below (UseFor wave ∷ steps) (Stopped reason) a b old new late first p q r (inr f) =
    inr (
      f.0,
      unused_below a b old new p q f.1,
      rose_below old.faults new.faults a.chip.faults b.chip.faults p q f.2,
      subst (StoppedIn wave) (sym r) f.3,
    )
steps_are_below (Print on bytes ∷ steps) end a b old new late first p q r (inl (mid, (d, g))) =
    let own = showing new mid.chip in
    inl (
      with_chip own mid,
      (
        (printed_below _ _ a mid old own p refl refl d.0, d.1),
        goes_below steps end mid b own new late.1 refl q r (mid_same mid.chip b.chip new q r) g,
      ),
    )
steps_are_below (Print on bytes ∷ steps) Done a b old new late first p q r (inr f) = absurd f
steps_are_below (Print on bytes ∷ steps) (Stopped reason) a b old new late first p q r (inr (inl f)) =
    inr (inl (f.0, printed_below _ _ a b old new p q r f.1, f.2))
steps_are_below (Print on bytes ∷ steps) (Stopped reason) a b old new late first p q r (inr (inr f)) =
    inr (inr (
      f.0,
      unprinted_below bytes a b old new p q f.1,
      rose_below old.faults new.faults a.chip.faults b.chip.faults p q f.2,
      subst (IsLeftBy on) (sym r) f.3,
    ))
