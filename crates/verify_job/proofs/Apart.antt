-- No entry is both right and wrong, and so no findings have the status 0 where others have 19
use Rattle.std.specs.Prelude.{◌≡◌, ◌⊎◌, ℕ, ◌<◌, ◌≤◌, Bool, true, false, ◌&&◌, List, [], ◌∷◌}
use Rattle.std.specs.Prelude.{Option, Some, None, Ok, Err}
use Rattle.std.specs.List.{AllByRecursion, list_all}
use Rattle.std.proofs.Common.{refl, sym, ◌∙◌, ap, subst, cond, inl, inr}
use Rattle.std.proofs.lemmas.List.Elements.{recursion_from_All}
use Rattle.bit_rows.specs.declared.TheConstants.{WIDTH_MAX}
use Rattle.uprog_code.specs.declared.code.Head.{Head}
use Rattle.uprog_code.specs.declared.walker.BadWalk.{BadWalk}
use Rattle.uprog_code.specs.declared.walker.Counts.{Counts}
use Rattle.uprog_code.specs.Shape.{Microprogram}
use Rattle.uprog_code.specs.Machine.{Ended, HasEnded, Stuck as StuckAt, Trace, issues_of, trace}
use Rattle.uprog_code.specs.Count.{walked}
use Rattle.uprog_code.specs.Texts.{TextOp}
use Rattle.prog_text.specs.Widths.{AreWidths}
use Rattle.binding_laws.specs.Canonical.{canonical, canonical_rows}
use Rattle.binding_laws.proofs.Settled.{canonical-fits}
use Rattle.machine_model.specs.Routines.{Program, entry_named}
use Rattle.verify_core.specs.declared.case.Case.{Case}
use Rattle.verify_core.specs.declared.verdict.Verdict.{Verdict}
use Rattle.verify_core.specs.declared.verdict.Verdict.TheVariants.{Right, Wrong, Stuck, OtherKinds}
use Rattle.verify_core.specs.declared.verdict.Verdict.TheVariants.{Unknown}
use Rattle.verify_core.specs.Verdicts.{DoesAt, Fails, IsVerdict, SameKinds}
use Rattle.verify_job.specs.declared.finding.Finding.{Finding}
use Rattle.verify_job.specs.declared.finding.Finding.TheVariants.{NoEntry, Entry}
use Rattle.verify_job.specs.declared.finding.FoundAt.{FoundAt}
use Rattle.verify_job.specs.declared.finding.OpFindings.{OpFindings}
use Rattle.verify_job.specs.Findings.{AreAlike, AreAlikeAt, AreAtWidths, AreFindings, HasRight}
use Rattle.verify_job.specs.Findings.{IsAlike, IsFinding, is_right, is_right_throughout}
use Rattle.verify_job.specs.Findings.{may_be_right, may_be_right_throughout, status_of}
use Rattle.verify_job.proofs.Found.{both, right_one, zero_all}

-- an entry that does an op fails in no case
apart : (n : ℕ) (e : Microprogram) (o : TextOp) (case : Case) → 0 < n → DoesAt n e o
    → Fails e.shape n (issues_of (trace e.shape e.code n)) (o.meaning n) case → ⊥
apart n e o case some does fails =
    fails.differ (sym fails.got
    ∙ (does.gives.value (canonical_rows e.shape n) (canonical e.shape n) fails.column
    (canonical-fits e.shape n some)
    ∙ (ap (o.meaning n) fails.sources ∙ sym fails.wanted)))

-- a walk that ends is not stuck
ended : (t : Trace) (walk : BadWalk) → HasEnded t → walked t ≡ Err walk → ⊥
ended (Ended issues) walk h e = absurd (cc)
ended (StuckAt at why) walk h e = absurd h

same_entry : (x : Option Microprogram) (a b : Microprogram) → x ≡ Some a → x ≡ Some b → a ≡ b
same_entry x a b p q = cc

no_entry : (x : Option Microprogram) (a : Microprogram) → x ≡ None → x ≡ Some a → ⊥
no_entry x a p q = absurd (cc)

-- what else may be found of it
may_one : (n : ℕ) (program : Program) (o : TextOp) (g : Finding) → 0 < n → HasRight n program o
    → IsFinding n program o g → may_be_right g ≡ true
may_one n program o NoEntry some d is =
    absurd (no_entry (entry_named program o.name) d.0 is d.1)
may_one n program o (Entry head (Right counts)) some d is = refl
may_one n program o (Entry head (Wrong case)) some d is =
    absurd (apart n d.0 o case some d.3 (subst (λ (x : Microprogram). Fails x.shape n
    (issues_of (trace x.shape x.code n)) (o.meaning n) case)
    (same_entry (entry_named program o.name) is.0 d.0 is.1 d.1) is.3.2))
may_one n program o (Entry head (Stuck walk)) some d is =
    absurd (ended (trace d.0.shape d.0.code n) walk d.3.ends (subst (λ (x : Microprogram).
    walked (trace x.shape x.code n) ≡ Err walk)
    (same_entry (entry_named program o.name) is.0 d.0 is.1 d.1) is.3.1))
may_one n program o (Entry head OtherKinds) some d is =
    absurd (subst (λ (x : Microprogram). SameKinds x.shape o.shape → ⊥)
    (same_entry (entry_named program o.name) is.0 d.0 is.1 d.1) is.3 d.2)
may_one n program o (Entry head (Unknown limit)) some d is = refl

and_true : (a b : Bool) → a ≡ true → b ≡ true → a && b ≡ true
and_true true true p q = refl
and_true true false p q = absurd (cc)
and_true false b p q = absurd (cc)

may_widths : (widths : List ℕ) (program : Program) (o : TextOp) (found other : List FoundAt)
    → AllByRecursion (λ n. (0 < n) × (n ≤ WIDTH_MAX)) widths → list_all (λ f. is_right f.finding) found ≡ true
    → AreAtWidths widths program o found → AreAtWidths widths program o other
    → list_all (λ f. may_be_right f.finding) other ≡ true
may_widths [] program o found [] wide e are others = refl
may_widths [] program o found (g ∷ gs) wide e are others = absurd others
may_widths (n ∷ ns) program o [] other wide e are others = absurd are
may_widths (n ∷ ns) program o (f ∷ fs) [] wide e are others = absurd others
may_widths (n ∷ ns) program o (f ∷ fs) (g ∷ gs) wide e are others =
    let parts = both (is_right f.finding) (list_all (λ f. is_right f.finding) fs) e in
    and_true (may_be_right g.finding) (list_all (λ f. may_be_right f.finding) gs)
    (may_one n program o g.finding wide.0.0 (right_one n program o f.finding parts.0 are.1) others.1)
    (may_widths ns program o fs gs wide.1 parts.1 are.2 others.2)

may_all : (widths : List ℕ) (program : Program) (ops : List TextOp) (found other : List OpFindings)
    → AllByRecursion (λ n. (0 < n) × (n ≤ WIDTH_MAX)) widths → list_all is_right_throughout found ≡ true
    → AreFindings widths program ops found → AreFindings widths program ops other
    → list_all may_be_right_throughout other ≡ true
may_all widths program [] found [] wide e are others = refl
may_all widths program [] found (g ∷ gs) wide e are others = absurd others
may_all widths program (o ∷ os) [] other wide e are others = absurd are
may_all widths program (o ∷ os) (f ∷ fs) [] wide e are others = absurd others
may_all widths program (o ∷ os) (f ∷ fs) (g ∷ gs) wide e are others =
    let parts = both (is_right_throughout f) (list_all is_right_throughout fs) e in
    and_true (may_be_right_throughout g) (list_all may_be_right_throughout gs)
    (may_widths widths program o f.at.items g.at.items wide parts.0 are.0 others.0)
    (may_all widths program os fs gs wide parts.1 are.1 others.1)

either : (a b : Bool) → b ≡ true
    → (◌≡◌ {A = ℕ} (cond a 0 (cond b 20 19)) 0) ⊎ (◌≡◌ {A = ℕ} (cond a 0 (cond b 20 19)) 20)
either true b e = inl refl
either false true e = inr refl
either false false e = absurd (cc)

-- where some findings have the status 0, others have 0 or 20
pub zero_or_unknown : (widths : List ℕ) (program : Program) (ops : List TextOp)
    (found other : List OpFindings) → AreWidths widths → AreFindings widths program ops found
    → AreFindings widths program ops other → status_of found ≡ 0
    → (status_of other ≡ 0) ⊎ (status_of other ≡ 20)
zero_or_unknown widths program ops found other wide are others e =
    either (list_all is_right_throughout other) (list_all may_be_right_throughout other)
    (may_all widths program ops found other (recursion_from_All (λ (n : ℕ). (0 < n) × (n ≤ WIDTH_MAX)) widths wide)
    (zero_all (list_all is_right_throughout found) (list_all may_be_right_throughout found) e) are
    others)

-- what is found of one entry

no_walk : (t : Trace) (counts : Counts) (walk : BadWalk) → walked t ≡ Ok counts
    → walked t ≡ Err walk → ⊥
no_walk t counts walk p q = absurd (cc)

one_count : (t : Trace) (a b : Counts) → walked t ≡ Ok a → walked t ≡ Ok b → a ≡ b
one_count t a b p q = cc

one_walk : (t : Trace) (a b : BadWalk) → walked t ≡ Err a → walked t ≡ Err b → a ≡ b
one_walk t a b p q = cc

alike_verdicts : (n : ℕ) (e : Microprogram) (o : TextOp) (h i : Head) (v w : Verdict) → 0 < n
    → IsVerdict n e o v → IsVerdict n e o w → IsAlike (Entry h v) (Entry i w)
alike_verdicts n e o h i (Right c) (Right d) some is also =
    one_count (trace e.shape e.code n) c d is.1 also.1
alike_verdicts n e o h i (Right c) (Wrong case) some is also =
    absurd (apart n e o case some is.2 also.2)
alike_verdicts n e o h i (Right c) (Stuck walk) some is also =
    absurd (no_walk (trace e.shape e.code n) c walk is.1 also.1)
alike_verdicts n e o h i (Right c) OtherKinds some is also = absurd (also is.0)
alike_verdicts n e o h i (Right c) (Unknown limit) some is also = tt
alike_verdicts n e o h i (Wrong case) (Right c) some is also =
    absurd (apart n e o case some also.2 is.2)
alike_verdicts n e o h i (Wrong case) (Wrong other) some is also = tt
alike_verdicts n e o h i (Wrong case) (Stuck walk) some is also =
    absurd (ended (trace e.shape e.code n) walk is.1 also.1)
alike_verdicts n e o h i (Wrong case) OtherKinds some is also = absurd (also is.0)
alike_verdicts n e o h i (Wrong case) (Unknown limit) some is also = tt
alike_verdicts n e o h i (Stuck walk) (Right c) some is also =
    absurd (no_walk (trace e.shape e.code n) c walk also.1 is.1)
alike_verdicts n e o h i (Stuck walk) (Wrong case) some is also =
    absurd (ended (trace e.shape e.code n) walk also.1 is.1)
alike_verdicts n e o h i (Stuck walk) (Stuck other) some is also =
    one_walk (trace e.shape e.code n) walk other is.1 also.1
alike_verdicts n e o h i (Stuck walk) OtherKinds some is also = absurd (also is.0)
alike_verdicts n e o h i (Stuck walk) (Unknown limit) some is also =
    absurd (ended (trace e.shape e.code n) walk also.1 is.1)
alike_verdicts n e o h i OtherKinds (Right c) some is also = absurd (is also.0)
alike_verdicts n e o h i OtherKinds (Wrong case) some is also = absurd (is also.0)
alike_verdicts n e o h i OtherKinds (Stuck walk) some is also = absurd (is also.0)
alike_verdicts n e o h i OtherKinds OtherKinds some is also = tt
alike_verdicts n e o h i OtherKinds (Unknown limit) some is also = absurd (is also.0)
alike_verdicts n e o h i (Unknown limit) (Right c) some is also = tt
alike_verdicts n e o h i (Unknown limit) (Wrong case) some is also = tt
alike_verdicts n e o h i (Unknown limit) (Stuck walk) some is also =
    absurd (ended (trace e.shape e.code n) walk is.1 also.1)
alike_verdicts n e o h i (Unknown limit) OtherKinds some is also = absurd (also is.0)
alike_verdicts n e o h i (Unknown limit) (Unknown other) some is also = tt

alike_findings : (n : ℕ) (program : Program) (o : TextOp) (f g : Finding) → 0 < n
    → IsFinding n program o f → IsFinding n program o g → IsAlike f g
alike_findings n program o NoEntry NoEntry some is also = tt
alike_findings n program o NoEntry (Entry i w) some is also =
    absurd (no_entry (entry_named program o.name) also.0 is also.1)
alike_findings n program o (Entry h v) NoEntry some is also =
    absurd (no_entry (entry_named program o.name) is.0 also is.1)
alike_findings n program o (Entry h v) (Entry i w) some is also =
    alike_verdicts n is.0 o h i v w some is.3 (subst (λ (x : Microprogram). IsVerdict n x o w)
    (same_entry (entry_named program o.name) also.0 is.0 also.1 is.1) also.3)

alike_widths : (widths : List ℕ) (program : Program) (o : TextOp) (found other : List FoundAt)
    → AllByRecursion (λ n. (0 < n) × (n ≤ WIDTH_MAX)) widths → AreAtWidths widths program o found
    → AreAtWidths widths program o other → AreAlikeAt found other
alike_widths [] program o [] [] wide are others = tt
alike_widths [] program o [] (g ∷ gs) wide are others = absurd others
alike_widths [] program o (f ∷ fs) other wide are others = absurd are
alike_widths (n ∷ ns) program o [] other wide are others = absurd are
alike_widths (n ∷ ns) program o (f ∷ fs) [] wide are others = absurd others
alike_widths (n ∷ ns) program o (f ∷ fs) (g ∷ gs) wide are others = (
  are.0 ∙ sym others.0,
  alike_findings n program o f.finding g.finding wide.0.0 are.1 others.1,
  alike_widths ns program o fs gs wide.1 are.2 others.2,
)

alike_ops : (widths : List ℕ) (program : Program) (ops : List TextOp)
    (found other : List OpFindings) → AllByRecursion (λ n. (0 < n) × (n ≤ WIDTH_MAX)) widths
    → AreFindings widths program ops found → AreFindings widths program ops other
    → AreAlike found other
alike_ops widths program [] [] [] wide are others = tt
alike_ops widths program [] [] (g ∷ gs) wide are others = absurd others
alike_ops widths program [] (f ∷ fs) other wide are others = absurd are
alike_ops widths program (o ∷ os) [] other wide are others = absurd are
alike_ops widths program (o ∷ os) (f ∷ fs) [] wide are others = absurd others
alike_ops widths program (o ∷ os) (f ∷ fs) (g ∷ gs) wide are others = (
  alike_widths widths program o f.at.items g.at.items wide are.0 others.0,
  alike_ops widths program os fs gs wide are.1 others.1,
)

-- true findings are alike
pub all_alike : (widths : List ℕ) (program : Program) (ops : List TextOp)
    (found other : List OpFindings) → AreWidths widths → AreFindings widths program ops found
    → AreFindings widths program ops other → AreAlike found other
all_alike widths program ops found other wide are others =
    alike_ops widths program ops found other
    (recursion_from_All (λ (n : ℕ). (0 < n) × (n ≤ WIDTH_MAX)) widths wide) are others
