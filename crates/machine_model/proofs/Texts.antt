-- A program that does a text offers the same operations, and they do what they mean.
use Rattle.machine_model.proofs.Common.{◌≡◌, ℕ, ◌<◌, ◌≤◌, Bool, true, false, cond, List, [], ◌∷◌}
use Rattle.machine_model.proofs.Common.{Option, Some, None, refl, sym, ap, subst, option_map}
use Rattle.machine_model.proofs.Common.{bytes_eq, fun_ext, WIDTH_MAX, Shape, Uop, trace, issues_of}
use Rattle.uprog_code.specs.Shape.{Microprogram}
use Rattle.uprog_code.specs.Implements.{Implements}
use Rattle.uprog_code.specs.Texts.{TextOp, EntryDoes, ImplementsAll}
use Rattle.machine_model.specs.Routines.{Program, Routine, entry_named, text_op_named, routines_in}
use Rattle.machine_model.specs.Routines.{routines_of, trace_of, meaning_of, meaning_in, Performs}
use Rattle.machine_model.specs.Agrees.{DoesAll}

-- a name is in neither, or in both, at an entry that does the op
pub data Matched : Option Microprogram → Option TextOp → Type 0 where
  neither : Matched None None
  both : (e : Microprogram) (o : TextOp) → EntryDoes e o → Matched (Some e) (Some o)

matched_case : (e : Microprogram) (o : TextOp) (b : Bool) (x : Option Microprogram)
    (y : Option TextOp) → EntryDoes e o → Matched x y
    → Matched (cond b (Some e) x) (cond b (Some o) y)
matched_case e o true x y d m = both e o d
matched_case e o false x y d m = m

-- the entry and the op of a name, where the program does the text
pub matched : (p : Program) (t : List TextOp) (name : List ℕ) → ImplementsAll p t
    → Matched (entry_named p name) (text_op_named t name)
matched [] [] name i = neither
matched [] (o ∷ t) name i = elim i [ ]
matched (e ∷ p) [] name i = elim i [ ]
matched (e ∷ p) (o ∷ t) name i =
    subst (λ (b : Bool). Matched (cond (bytes_eq e.name name) (Some e) (entry_named p name))
    (cond b (Some o) (text_op_named t name))) (ap (λ n. bytes_eq n name) i.0.name)
    (matched_case e o (bytes_eq e.name name) (entry_named p name) (text_op_named t name) i.0
    (matched p t name i.1))

same_operation : (x : Option Microprogram) (y : Option TextOp) → Matched x y
    → option_map {U = Routine} (λ (o : TextOp). record { shape = o.shape; trace = trace_of x }) y
    ≡ option_map {U = Routine} (λ (e : Microprogram). record {
      shape = e.shape;
      trace = trace_of (Some e);
    }) x
same_operation None None neither = refl
same_operation None (Some o) m = elim m [ ]
same_operation (Some e) None m = elim m [ ]
same_operation (Some e) (Some o) (both _ _ d) =
    ap (λ shape. Some (record { shape = shape; trace = trace_of (Some e) })) (sym d.shape)

-- the operations of the text are those of the program
pub same_operations : (p : Program) (t : List TextOp) → ImplementsAll p t
    → routines_of t p ≡ routines_in p
same_operations p t i =
    fun_ext (λ name. same_operation (entry_named p name) (text_op_named t name) (matched p t name
    i))

both_parts : {shape : Shape} {code : List Uop} {ceiling : ℕ → ℕ} {meaning : ℕ → List ℕ → List ℕ}
    → Implements shape code ceiling meaning → (n : ℕ) → 0 < n → n ≤ WIDTH_MAX
    → Performs shape n (issues_of (trace shape code n)) (meaning n)
both_parts i n l k = record { gives = i.gives n l k; keeps = i.keeps n l k }

does_case : (x : Option Microprogram) (y : Option TextOp) (r : Routine) (n : ℕ) → Matched x y
    → option_map {U = Routine} (λ (o : TextOp). record { shape = o.shape; trace = trace_of x }) y
    ≡ Some r → 0 < n → n ≤ WIDTH_MAX → Performs r.shape n (issues_of (r.trace n)) (meaning_of y n)
does_case x None r n m h l k = cc
does_case None (Some o) r n m h l k = elim m [ ]
does_case (Some e) (Some o) r n (both _ _ d) h l k =
    let whole : Routine = record { shape = o.shape; trace = trace_of (Some e) } in
    let is : whole ≡ r = cc in
    subst (λ (q : Routine). Performs q.shape n (issues_of (q.trace n)) (meaning_of (Some o) n)) is
    (subst (λ (s : _). Performs o.shape n (issues_of (trace s e.code n)) (o.meaning n)) (sym
    d.shape)
    (both_parts d.code n l k))

-- a program that does a text does what its ops mean
pub does_all : (p : Program) (t : List TextOp) → ImplementsAll p t
    → DoesAll (routines_of t p) (meaning_in t)
does_all p t i name r h n l k = does_case (entry_named p name) (text_op_named t name) r n
    (matched p t name i) h l k
