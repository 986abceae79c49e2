-- Scripts whose bbops have widths at which entries of a program are right.
use Rattle.cli_laws.proofs.Common.{◌≡◌, ℕ, ◌<◌, Bool, true, false, cond, List, [], ◌∷◌, Option}
use Rattle.cli_laws.proofs.Common.{Some, refl, sym, ◌∙◌, ap, subst, ◌==◌, ◌||◌, AllByRecursion}
use Rattle.cli_laws.proofs.Common.{list_any, option_map, Geometry, Instruction, Microprogram, trace}
use Rattle.cli_laws.proofs.Common.{issues_of, TextOp, Program, entry_named, routines_in, routine_of}
use Rattle.cli_laws.proofs.Common.{meaning_in, IsPlain, HaveRight}
use Rattle.std.specs.Str.{bytes_eq}
use Rattle.std.proofs.lemmas.Bool.{eqb-true}
use Rattle.bbop_isa.specs.Forms.{Init, Bbop, Load, Fill, Print, Free, Order}
use Rattle.machine_model.specs.Routines.{Routine, Performs, text_op_named, meaning_of}
use Rattle.machine_model.proofs.Places.{same_bytes}
use Rattle.machine_model.proofs.Steps.{DoesOne, StepAgrees, bbop_agrees, free_agrees, order_agrees}
use Rattle.machine_model.proofs.Steps.{print_agrees}
use Rattle.machine_model.proofs.Makes.{init_agrees, fill_agrees}
use Rattle.machine_model.proofs.Loaded.{load_agrees}
use Rattle.verify_job.specs.Findings.{HasRight}
use Rattle.cli_laws.specs.Verified.{IsAtWidths}

-- the entry of a name, and that it performs this meaning at this width
abbrev HasEntry : ℕ → Program → List ℕ → (ℕ → List ℕ → List ℕ) → Type 0
HasEntry n p name meaning = (e : Microprogram) × (entry_named p name ≡ Some e)
    × Performs e.shape n (issues_of (trace e.shape e.code n)) (meaning n)

named_right : (n : ℕ) (p : Program) (t : List TextOp) (op : List ℕ) (o : TextOp)
    → AllByRecursion (HasRight n p) t → text_op_named t op ≡ Some o → HasEntry n p op o.meaning
named_right n p [] op o all is = absurd (cc)
named_right n p (q ∷ t) op o all is =
    at (bytes_eq q.name op) refl is (named_right n p t op o all.1) where
      at : (b : Bool) → bytes_eq q.name op ≡ b → cond b (Some q) (text_op_named t op) ≡ Some o
          → (text_op_named t op ≡ Some o → HasEntry n p op o.meaning)
          → HasEntry n p op o.meaning
      at true same found rest =
          let whole : q ≡ o = cc in
          subst (λ (x : TextOp). HasEntry n p op x.meaning) whole
          (subst (λ (name : List ℕ). HasEntry n p name q.meaning) (same_bytes q.name op same) (
            all.0.0,
            all.0.1,
            record { gives = all.0.3.gives; keeps = all.0.3.keeps },
          ))
      at false same found rest = rest found

does_case : (n : ℕ) (p : Program) (name : List ℕ) (meaning : ℕ → List ℕ → List ℕ) (r : Routine)
    → HasEntry n p name meaning → routines_in p name ≡ Some r
    → Performs r.shape n (issues_of (r.trace n)) (meaning n)
does_case n p name meaning r f has =
    let mine : routines_in p name ≡ Some (routine_of f.0) = ap (option_map routine_of) f.1 in
    let both : Some (routine_of f.0) ≡ Some r = sym mine ∙ has in
    let same : routine_of f.0 ≡ r = cc in
    subst (λ (q : Routine). Performs q.shape n (issues_of (q.trace n)) (meaning n)) same f.2

does_one : (n : ℕ) (p : Program) (t : List TextOp) (op : List ℕ) (o : TextOp)
    → AllByRecursion (HasRight n p) t → text_op_named t op ≡ Some o
    → DoesOne (routines_in p) (meaning_in t) op n
does_one n p t op o all is r has =
    subst (λ (x : Option TextOp). Performs r.shape n (issues_of (r.trace n)) (meaning_of x n))
    (sym is) (does_case n p op o.meaning r (named_right n p t op o all is) has)

-- one of the widths
one_case : (b c : Bool) (P : Type 0) → (b ≡ true → P) → (c ≡ true → P) → b || c ≡ true → P
one_case true c P now more e = now refl
one_case false c P now more e = more e

right_at : (widths : List ℕ) (p : Program) (t : List TextOp) (n : ℕ)
    → list_any (λ m. m == n) widths ≡ true → HaveRight widths p t
    → AllByRecursion (HasRight n p) t
right_at [] p t n e all = absurd (cc)
right_at (m ∷ ms) p t n e all =
    one_case (m == n) (list_any (λ k. k == n) ms) (AllByRecursion (HasRight n p) t)
    (λ same. subst (λ (k : ℕ). AllByRecursion (HasRight k p) t) (eqb-true m n same) all.0)
    (λ more. right_at ms p t n more all.1) e

step : (g : Geometry) (widths : List ℕ) (p : Program) (t : List TextOp) (instr : Instruction)
    → 0 < g.words → HaveRight widths p t → IsAtWidths widths t instr → IsPlain instr
    → StepAgrees g (routines_in p) (meaning_in t) instr
step g widths p t (Init name count n) words all at plain =
    init_agrees g (routines_in p) (meaning_in t) name count n plain.1.0 words
step g widths p t (Bbop op dst srcs count n) words all at plain =
    bbop_agrees g (routines_in p) (meaning_in t) op dst srcs count n
    (does_one n p t op at.1.0 (right_at widths p t n at.0 all) at.1.1)
step g widths p t (Load place values) words all at plain =
    load_agrees g (routines_in p) (meaning_in t) place values words
step g widths p t (Fill place value) words all at plain =
    fill_agrees g (routines_in p) (meaning_in t) place value
step g widths p t (Print place) words all at plain =
    print_agrees g (routines_in p) (meaning_in t) place
step g widths p t (Free name) words all at plain =
    free_agrees g (routines_in p) (meaning_in t) name
step g widths p t (Order o) words all at plain = order_agrees g (routines_in p) (meaning_in t) o

-- every step of such a script gives what the word machine gives
pub right_steps : (g : Geometry) (widths : List ℕ) (p : Program) (t : List TextOp)
    (script : List Instruction) → 0 < g.words → HaveRight widths p t
    → AllByRecursion (IsAtWidths widths t) script → AllByRecursion IsPlain script
    → AllByRecursion (StepAgrees g (routines_in p) (meaning_in t)) script
right_steps g widths p t [] words all at plain = tt
right_steps g widths p t (instr ∷ script) words all at plain = (
  step g widths p t instr words all at.0 plain.0,
  right_steps g widths p t script words all at.1 plain.1,
)
