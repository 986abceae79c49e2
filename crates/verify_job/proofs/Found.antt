-- The findings of ops, one after another.
use Rattle.std.proofs.Common.{◌≡◌, ℕ, zero, suc, ◌<◌, Bool, true, false, List, [], ◌∷◌, ◌++◌}
use Rattle.std.proofs.Common.{length, map, take, refl, sym, ◌∙◌, ap, subst, arith, cond, Some, None}
use Rattle.std.specs.Prelude.{◌&&◌, bytes_eq, position, slice_get, slice_index_or}
use Rattle.std.specs.List.{AllByRecursion, list_all}
use Rattle.uprog_code.specs.declared.code.EntryCode.{EntryCode}
use Rattle.uprog_code.specs.Shape.{Microprogram, microprogram_of}
use Rattle.uprog_code.specs.Texts.{EntryDoes, ImplementsAll, TextOp}
use Rattle.uprog_code.proofs.Found.{found_there, none_there}
use Rattle.machine_model.specs.Routines.{Program, entry_named}
use Rattle.verify_core.specs.declared.verdict.Verdict.TheVariants.{Right, Wrong, Stuck, OtherKinds}
use Rattle.verify_core.specs.declared.verdict.Verdict.TheVariants.{Unknown}
use Rattle.verify_job.specs.declared.finding.Finding.{Finding}
use Rattle.verify_job.specs.declared.finding.Finding.TheVariants.{NoEntry, Entry}
use Rattle.verify_job.specs.declared.finding.FoundAt.{FoundAt}
use Rattle.verify_job.specs.declared.finding.OpFindings.{OpFindings}
use Rattle.verify_job.specs.Findings.{AreAtWidths, AreFindings, HasRight, HaveRight, IsFinding}
use Rattle.verify_job.specs.Findings.{is_right, is_right_throughout, may_be_right_throughout}
use Rattle.verify_job.specs.Findings.{status_of}

-- the finding at one more width
pub found_at : (widths : List ℕ) (program : Program) (o : TextOp) (k n : ℕ) (found : List FoundAt)
    (f : FoundAt) → k < length widths → n ≡ slice_index_or widths k n → f.width ≡ n
    → IsFinding n program o f.finding → AreAtWidths (take k widths) program o found
    → AreAtWidths (take (suc k) widths) program o (found ++ f ∷ [])
found_at [] program o k n found f lt e w is are = absurd (omega arith)
found_at (m ∷ ms) program o zero n [] f lt e w is are =
    (w ∙ e, subst (λ (x : ℕ). IsFinding x program o f.finding) e is, tt)
found_at (m ∷ ms) program o zero n (g ∷ found) f lt e w is are = absurd are
found_at (m ∷ ms) program o (suc k) n [] f lt e w is are = absurd are
found_at (m ∷ ms) program o (suc k) n (g ∷ found) f lt e w is are =
    (are.0, are.1, found_at ms program o k n found f (omega arith) e w is are.2)

-- the findings of one more op
pub found_more : (widths : List ℕ) (program : Program) (items : List EntryCode) (ops : List TextOp)
    (k : ℕ) (x : EntryCode) (found : List OpFindings) (f : OpFindings)
    → ImplementsAll (map microprogram_of items) ops → k < length items
    → x ≡ slice_index_or items k x
    → ((o : TextOp) → EntryDoes (microprogram_of x) o → AreAtWidths widths program o f.at.items)
    → AreFindings widths program (take k ops) found
    → AreFindings widths program (take (suc k) ops) (found ++ f ∷ [])
found_more widths program [] ops k x found f does lt e own are = absurd (omega arith)
found_more widths program (y ∷ items) [] k x found f does lt e own are = absurd does
found_more widths program (y ∷ items) (o ∷ ops) zero x [] f does lt e own are =
    (own o (subst (λ (z : EntryCode). EntryDoes (microprogram_of z) o) (sym e) does.0), tt)
found_more widths program (y ∷ items) (o ∷ ops) zero x (g ∷ found) f does lt e own are =
    absurd are
found_more widths program (y ∷ items) (o ∷ ops) (suc k) x [] f does lt e own are = absurd are
found_more widths program (y ∷ items) (o ∷ ops) (suc k) x (g ∷ found) f does lt e own are =
    (are.0, found_more widths program items ops k x found f does.1 (omega arith) e own are.1)

-- as many ops as entries
pub as_many : (es : List Microprogram) (ops : List TextOp) → ImplementsAll es ops
    → length ops ≡ length es
as_many [] [] does = refl
as_many [] (o ∷ ops) does = absurd does
as_many (e ∷ es) [] does = absurd does
as_many (e ∷ es) (o ∷ ops) does = ap suc (as_many es ops does.1)

-- what the status 0 says

pub right_one : (n : ℕ) (program : Program) (o : TextOp) (f : Finding) → is_right f ≡ true
    → IsFinding n program o f → HasRight n program o
right_one n program o NoEntry e is = absurd (cc)
right_one n program o (Entry head (Right counts)) e is = (is.0, is.1, is.3.0, is.3.2)
right_one n program o (Entry head (Wrong case)) e is = absurd (cc)
right_one n program o (Entry head (Stuck walk)) e is = absurd (cc)
right_one n program o (Entry head OtherKinds) e is = absurd (cc)
right_one n program o (Entry head (Unknown limit)) e is = absurd (cc)

pub both : (a b : Bool) → a && b ≡ true → (a ≡ true) × (b ≡ true)
both true b e = (refl, e)
both false b e = absurd (cc)

right_widths : (widths : List ℕ) (program : Program) (o : TextOp) (found : List FoundAt)
    → list_all (λ f. is_right f.finding) found ≡ true → AreAtWidths widths program o found
    → AllByRecursion (λ n. HasRight n program o) widths
right_widths [] program o found e are = tt
right_widths (n ∷ ns) program o [] e are = absurd are
right_widths (n ∷ ns) program o (f ∷ fs) e are =
    let parts = both (is_right f.finding) (list_all (λ f. is_right f.finding) fs) e in (
      right_one n program o f.finding parts.0 are.1,
      right_widths ns program o fs parts.1 are.2,
    )

right_ops : (widths : List ℕ) (program : Program) (ops : List TextOp) (found : List OpFindings)
    → list_all is_right_throughout found ≡ true → AreFindings widths program ops found
    → AllByRecursion (λ o. AllByRecursion (λ n. HasRight n program o) widths) ops
right_ops widths program [] found e are = tt
right_ops widths program (o ∷ ops) [] e are = absurd are
right_ops widths program (o ∷ ops) (f ∷ found) e are =
    let parts = both (is_right_throughout f) (list_all is_right_throughout found) e in (
      right_widths widths program o f.at.items parts.0 are.0,
      right_ops widths program ops found parts.1 are.1,
    )

firsts : (n : ℕ) (widths : List ℕ) (program : Program) (ops : List TextOp)
    → AllByRecursion (λ o. AllByRecursion (λ m. HasRight m program o) (n ∷ widths)) ops
    → AllByRecursion (HasRight n program) ops
firsts n widths program [] all = tt
firsts n widths program (o ∷ ops) all = (all.0.0, firsts n widths program ops all.1)

rests : (n : ℕ) (widths : List ℕ) (program : Program) (ops : List TextOp)
    → AllByRecursion (λ o. AllByRecursion (λ m. HasRight m program o) (n ∷ widths)) ops
    → AllByRecursion (λ o. AllByRecursion (λ m. HasRight m program o) widths) ops
rests n widths program [] all = tt
rests n widths program (o ∷ ops) all = (all.0.1, rests n widths program ops all.1)

have_right : (widths : List ℕ) (program : Program) (ops : List TextOp)
    → AllByRecursion (λ o. AllByRecursion (λ n. HasRight n program o) widths) ops
    → HaveRight widths program ops
have_right [] program ops all = tt
have_right (n ∷ widths) program ops all = (
  firsts n widths program ops all,
  have_right widths program ops (rests n widths program ops all),
)

pub zero_all : (a b : Bool) → ◌≡◌ {A = ℕ} (cond a 0 (cond b 20 19)) 0 → a ≡ true
zero_all true b e = refl
zero_all false true e = absurd (cc)
zero_all false false e = absurd (cc)

-- where the status is 0, the program has for each op an entry that does it at each width
pub all_right : (widths : List ℕ) (program : Program) (ops : List TextOp)
    (found : List OpFindings) → status_of found ≡ 0 → AreFindings widths program ops found
    → HaveRight widths program ops
all_right widths program ops found e are =
    have_right widths program ops (right_ops widths program ops found
    (zero_all (list_all is_right_throughout found) (list_all may_be_right_throughout found) e) are)

-- the entry of an op's name, by its place

-- the entry at the place of a name is the one of the name
pub named_there : (program : Program) (name : List ℕ) (o : TextOp) (k : ℕ) (e : Microprogram)
    → name ≡ o.name → Some k ≡ position (λ m. bytes_eq m.name name) program
    → slice_get program k ≡ Some e → entry_named program o.name ≡ Some e
named_there program name o k e same is at =
    subst (λ (x : List ℕ). entry_named program x ≡ Some e) same
    (found_there (λ (m : Microprogram). bytes_eq m.name name) program k e is at)

-- and where a name has no place, there is none
pub none_named : (program : Program) (name : List ℕ) (o : TextOp) → name ≡ o.name
    → None ≡ position (λ m. bytes_eq m.name name) program → entry_named program o.name ≡ None
none_named program name o same is =
    subst (λ (x : List ℕ). entry_named program x ≡ None) same
    (none_there (λ (m : Microprogram). bytes_eq m.name name) program is)
