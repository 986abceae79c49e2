-- What is wrong with a line, kind by kind.
use Rattle.std.proofs.lemmas.Bool.{false_from_ne_true}
use Rattle.std.proofs.Common.{◌≡◌, ◌≢◌, ℕ, nat_lt, nat_eq, Bool, true, false, List, [], ◌∷◌}
use Rattle.std.proofs.Common.{◌≤◌, ◌++◌, map, length, drop, take, Option, Some, None, Result, Ok}
use Rattle.std.proofs.Common.{Err}
use Rattle.std.proofs.Common.{if◌then◌else◌, codes, refl, sym, ap, ◌∙◌, subst, arith}
use Rattle.std.specs.Str.{bytes_eq}
use Rattle.std.specs.Option.{option_map}
use Rattle.std.specs.List.{list_any, starts_with}
use Rattle.std.proofs.lemmas.Bool.Decides.{nat_tests}
use Rattle.std.proofs.lemmas.List.{take-append-drop}
use Rattle.std.proofs.lemmas.Slice.Eq.{bytes_eq-Decides}
use Rattle.text_lex.specs.Lexical.{Item, Whole as Token, Bad, items_of}
use Rattle.bbop_isa.specs.declared.forms.Verb.{Verb}
use Rattle.bbop_isa.specs.declared.forms.Verb.TheVariants as verb
use Rattle.bbop_isa.specs.declared.instr.Order.TheVariants.{Forward, Turns, Seed}
use Rattle.bbop_isa.specs.declared.instr.ScriptKind.{ScriptKind}
use Rattle.bbop_isa.specs.declared.instr.ScriptKind.TheVariants.{Lex, Syntax, BadName, BadNumber}
use Rattle.bbop_isa.specs.Words.{Word, Name, Number, Comma, Open, Colon, Close, Other, words_in}
use Rattle.bbop_isa.specs.Words.{word_at}
use Rattle.bbop_isa.specs.Operands.{Written, Whole, Bit, Bits, Named, Value, Operands, operands_of}
use Rattle.bbop_isa.specs.Operands.{in_words}
use Rattle.bbop_isa.specs.Forms.{Instruction, Order, is_seed, number_or_zero, result_map, checked}
use Rattle.bbop_isa.specs.Forms.{order_of, verb_of, of_operands, of_verb, instruction_of, of_words}
use Rattle.bbop_isa.specs.Forms.{line_of}
use Rattle.bbop_isa.specs.Kinds.{Form, InitForm, BbopForm, LoadForm, FillForm, PrintForm, FreeForm}
use Rattle.bbop_isa.specs.Kinds.{InOrder, TurnsOrder, SeedOrder, form_words, IsForm, HasForm}
use Rattle.bbop_isa.specs.Kinds.{names_fit, numbers_fit, meaning, is_stranger, Reads, IsWrong}
use Rattle.bbop_isa.specs.Kinds.{LinesAreWrong, IsLine, LinesAreForms}
use Rattle.bbop_isa.proofs.Spelling.{read_is_spelled, spelled_is_read}

abbrev pub Said : Type 0
Said = Result Instruction ScriptKind

-- how operands are written
abbrev Spelled : List Word → List Written → List (Option ℕ) → Type 0
Spelled words places numbers = words ≡ in_words (map Named places ++ map Value numbers)

is_text : (a b : List ℕ) → bytes_eq a b ≡ true → a ≡ b
is_text a b is = (bytes_eq-Decides a b).0 is

is_other : (a b : List ℕ) → bytes_eq a b ≡ false → a ≢ b
is_other a b is same = let clash : true ≡ false = sym ((bytes_eq-Decides a b).1 same) ∙ is in cc

-- the form of operands
abbrev operands_form : List ℕ → Verb → List Written → List (Option ℕ) → Option Form
operands_form head verb.Init (Whole name ∷ []) (count ∷ n ∷ []) = Some (InitForm name count n)
operands_form head verb.Bbop (dst ∷ src ∷ srcs) (count ∷ n ∷ []) =
    if nat_lt 4 (length srcs) then None
    else Some (BbopForm (drop 5 head) dst (src ∷ srcs) count n)
operands_form head verb.Load (place ∷ []) (v ∷ values) = Some (LoadForm place (v ∷ values))
operands_form head verb.Fill (place ∷ []) (v ∷ []) = Some (FillForm place v)
operands_form head verb.Print (place ∷ []) [] = Some (PrintForm place)
operands_form head verb.Free (Whole name ∷ []) [] = Some (FreeForm name)
operands_form head v places numbers = None

abbrev verb_form : List ℕ → Option Verb → Option Operands → Option Form
verb_form head (Some v) (Some o) = operands_form head v o.places o.numbers
verb_form head (Some v) None = None
verb_form head None o = None

abbrev order_form : List Word → Option Form
order_form (Name word ∷ []) =
    if bytes_eq word (codes "in") then Some InOrder
    else (if bytes_eq word (codes "turns") then Some TurnsOrder else None)
order_form (Name word ∷ Number seed ∷ []) =
    if bytes_eq word (codes "seed") then Some (SeedOrder seed) else None
order_form words = None

-- the form of a line, if it has one
abbrev form_of : List ℕ → List Word → Option Form
form_of head words = if bytes_eq head (codes "order") then order_form words
    else verb_form head (verb_of head) (operands_of words)

abbrev judged : Option Form → Said
judged None = Err Syntax
judged (Some f) = checked (names_fit f) (numbers_fit f) (meaning f)

few_judged : (many : Bool) (f : Form)
    → (if many then Err Syntax else checked (names_fit f) (numbers_fit f) (meaning f))
    ≡ judged (if many then None else Some f)
few_judged true f = refl
few_judged false f = refl

operands_judged : (head : List ℕ) (v : Verb) (places : List Written) (numbers : List (Option ℕ))
    → of_operands head v (record { places = places; numbers = numbers })
    ≡ judged (operands_form head v places numbers)
operands_judged head verb.Init [] numbers = refl
operands_judged head verb.Init (Whole name ∷ []) [] = refl
operands_judged head verb.Init (Whole name ∷ []) (count ∷ []) = refl
operands_judged head verb.Init (Whole name ∷ []) (count ∷ n ∷ []) = refl
operands_judged head verb.Init (Whole name ∷ []) (count ∷ n ∷ m ∷ numbers) = refl
operands_judged head verb.Init (Whole name ∷ other ∷ places) numbers = refl
operands_judged head verb.Init (Bit name k ∷ places) numbers = refl
operands_judged head verb.Init (Bits name low high ∷ places) numbers = refl
operands_judged head verb.Bbop [] numbers = refl
operands_judged head verb.Bbop (dst ∷ []) numbers = refl
operands_judged head verb.Bbop (dst ∷ src ∷ srcs) [] = refl
operands_judged head verb.Bbop (dst ∷ src ∷ srcs) (count ∷ []) = refl
operands_judged head verb.Bbop (dst ∷ src ∷ srcs) (count ∷ n ∷ []) =
    few_judged (nat_lt 4 (length srcs)) (BbopForm (drop 5 head) dst (src ∷ srcs) count n)
operands_judged head verb.Bbop (dst ∷ src ∷ srcs) (count ∷ n ∷ m ∷ numbers) = refl
operands_judged head verb.Load [] numbers = refl
operands_judged head verb.Load (place ∷ []) [] = refl
operands_judged head verb.Load (place ∷ []) (v ∷ values) = refl
operands_judged head verb.Load (place ∷ other ∷ places) numbers = refl
operands_judged head verb.Fill [] numbers = refl
operands_judged head verb.Fill (place ∷ []) [] = refl
operands_judged head verb.Fill (place ∷ []) (v ∷ []) = refl
operands_judged head verb.Fill (place ∷ []) (v ∷ w ∷ values) = refl
operands_judged head verb.Fill (place ∷ other ∷ places) numbers = refl
operands_judged head verb.Print [] numbers = refl
operands_judged head verb.Print (place ∷ []) [] = refl
operands_judged head verb.Print (place ∷ []) (v ∷ numbers) = refl
operands_judged head verb.Print (place ∷ other ∷ places) numbers = refl
operands_judged head verb.Free [] numbers = refl
operands_judged head verb.Free (Whole name ∷ []) [] = refl
operands_judged head verb.Free (Whole name ∷ []) (v ∷ numbers) = refl
operands_judged head verb.Free (Whole name ∷ other ∷ places) numbers = refl
operands_judged head verb.Free (Bit name k ∷ places) numbers = refl
operands_judged head verb.Free (Bits name low high ∷ places) numbers = refl

verb_judged : (head : List ℕ) (v : Option Verb) (o : Option Operands)
    → of_verb head v o ≡ judged (verb_form head v o)
verb_judged head (Some v) (Some o) = operands_judged head v o.places o.numbers
verb_judged head (Some v) None = refl
verb_judged head None o = refl

order_judged : (words : List Word) → order_of words ≡ judged (order_form words)
order_judged [] = refl
order_judged (Number n ∷ words) = refl
order_judged (Comma ∷ words) = refl
order_judged (Open ∷ words) = refl
order_judged (Colon ∷ words) = refl
order_judged (Close ∷ words) = refl
order_judged (Other ∷ words) = refl
order_judged (Name word ∷ []) = at (bytes_eq word (codes "in")) (bytes_eq word (codes "turns"))
  where
    at : (a b : Bool) → (if a then Ok (Order Forward)
        else (if b then Ok (Order Turns) else Err Syntax))
        ≡ judged (if a then Some InOrder else (if b then Some TurnsOrder else None))
    at true b = refl
    at false true = refl
    at false false = refl
order_judged (Name word ∷ Name other ∷ words) = refl
order_judged (Name word ∷ Comma ∷ words) = refl
order_judged (Name word ∷ Open ∷ words) = refl
order_judged (Name word ∷ Colon ∷ words) = refl
order_judged (Name word ∷ Close ∷ words) = refl
order_judged (Name word ∷ Other ∷ words) = refl
order_judged (Name word ∷ Number seed ∷ []) = at (bytes_eq word (codes "seed")) (is_seed seed) refl
  where
    at : (a b : Bool) → is_seed seed ≡ b
        → (if a then (if b then Ok (Order (Seed (number_or_zero seed))) else Err BadNumber) else Err Syntax)
        ≡ judged (if a then Some (SeedOrder seed) else None)
    at true true e = rw e refl
    at true false e = rw e refl
    at false b e = refl
order_judged (Name word ∷ Number seed ∷ next ∷ words) = refl

is_judged : (head : List ℕ) (words : List Word)
    → instruction_of head words ≡ judged (form_of head words)
is_judged head words = at (bytes_eq head (codes "order"))
  where
    at : (a : Bool) → (if a then order_of words else of_verb head (verb_of head)
        (operands_of words)) ≡ judged (if a then order_form words
        else verb_form head (verb_of head) (operands_of words))
    at true = order_judged words
    at false = verb_judged head (verb_of head) (operands_of words)

-- What is found as the form is written so.
some_is : (a b : Form) → Some a ≡ Some b → a ≡ b
some_is a b e = cc

has_form : (head : List ℕ) (words : List Word) (a b : Form) → Some a ≡ Some b
    → HasForm (Name head ∷ words) a → HasForm (Name head ∷ words) b
has_form head words a b e h = subst (HasForm (Name head ∷ words)) (some_is a b e) h

two_words : (a b : List ℕ) (v w : List Word) → a ≡ b → v ≡ w → Name a ∷ v ≡ Name b ∷ w
two_words a b v w e f = rw (e, f) refl

-- how the first name of each form is spelled
abbrev Begins : List ℕ → Verb → Type 0
Begins head verb.Init = head ≡ codes "bbop_trsp_init"
Begins head verb.Bbop = (head ≡ codes "bbop_" ++ drop 5 head) × (drop 5 head ≢ codes "trsp_init")
Begins head verb.Load = head ≡ codes "load"
Begins head verb.Fill = head ≡ codes "fill"
Begins head verb.Print = head ≡ codes "print"
Begins head verb.Free = head ≡ codes "free"

verb_begins : (head : List ℕ) (v : Verb) → verb_of head ≡ Some v → Begins head v
verb_begins head v is =
    at (bytes_eq head (codes "bbop_trsp_init")) (starts_with nat_eq head (codes "bbop_"))
    (bytes_eq head (codes "load")) (bytes_eq head (codes "fill"))
    (bytes_eq head (codes "print"))
    (bytes_eq head (codes "free")) refl refl refl refl refl refl is
  where
    verb_is : (a b : Verb) → Some a ≡ Some b → Begins head a → Begins head b
    verb_is a b e h = let same : a ≡ b = cc in subst (Begins head) same h

    at : (a b c d e f : Bool) → bytes_eq head (codes "bbop_trsp_init") ≡ a
        → starts_with nat_eq head (codes "bbop_") ≡ b → bytes_eq head (codes "load") ≡ c
        → bytes_eq head (codes "fill") ≡ d
        → bytes_eq head (codes "print") ≡ e → bytes_eq head (codes "free") ≡ f
        → (if a then Some verb.Init
        else (if b then Some verb.Bbop else (if c then Some verb.Load
        else (if d then Some verb.Fill else (if e then Some verb.Print
        else (if f then Some verb.Free else None)))))) ≡ Some v → Begins head v
    at true b c d e f p q r s t u is = verb_is verb.Init v is (is_text head _ p)
    at false true c d e f p q r s t u is =
        let front : codes "bbop_" ≡ take 5 head = is_text (codes "bbop_") (take 5 head) q in
        let whole : head ≡ codes "bbop_" ++ drop 5 head = sym (take-append-drop 5 head)
        ∙ ap (λ l. l ++ drop 5 head) (sym front) in
        verb_is verb.Bbop v is (
          whole,
          λ same. is_other head (codes "bbop_trsp_init") p (whole
              ∙ ap (λ l. codes "bbop_" ++ l) same),
        )
    at false false true d e f p q r s t u is = verb_is verb.Load v is (is_text head _ r)
    at false false false true e f p q r s t u is = verb_is verb.Fill v is (is_text head _ s)
    at false false false false true f p q r s t u is = verb_is verb.Print v is (is_text head _ t)
    at false false false false false true p q r s t u is = verb_is verb.Free v is (is_text head _ u)
    at false false false false false false p q r s t u is = absurd (cc)

operands_have : (head : List ℕ) (words : List Word) (v : Verb) (places : List Written)
    (numbers : List (Option ℕ)) (f : Form) → Begins head v → Spelled words places numbers
    → operands_form head v places numbers ≡ Some f → HasForm (Name head ∷ words) f
operands_have head words verb.Init (Whole name ∷ []) (count ∷ n ∷ []) f h w is =
    has_form head words _ f is (two_words head _ words _ h w, tt)
operands_have head words verb.Init [] numbers f h w is = absurd (cc)
operands_have head words verb.Init (Whole name ∷ []) [] f h w is = absurd (cc)
operands_have head words verb.Init (Whole name ∷ []) (count ∷ []) f h w is = absurd (cc)
operands_have head words verb.Init (Whole name ∷ []) (count ∷ n ∷ m ∷ numbers) f h w is =
    absurd (cc)
operands_have head words verb.Init (Whole name ∷ other ∷ places) numbers f h w is = absurd (cc)
operands_have head words verb.Init (Bit name k ∷ places) numbers f h w is = absurd (cc)
operands_have head words verb.Init (Bits name low high ∷ places) numbers f h w is = absurd (cc)
operands_have head words verb.Bbop [] numbers f h w is = absurd (cc)
operands_have head words verb.Bbop (dst ∷ []) numbers f h w is = absurd (cc)
operands_have head words verb.Bbop (dst ∷ src ∷ srcs) [] f h w is = absurd (cc)
operands_have head words verb.Bbop (dst ∷ src ∷ srcs) (count ∷ []) f h w is = absurd (cc)
operands_have head words verb.Bbop (dst ∷ src ∷ srcs) (count ∷ n ∷ []) f h w is =
    at (nat_lt 4 (length srcs)) refl is
  where
    at : (many : Bool) → nat_lt 4 (length srcs) ≡ many
        → (if many then None else Some (BbopForm (drop 5 head) dst (src ∷ srcs) count n)) ≡ Some f
        → HasForm (Name head ∷ words) f
    at true e is = absurd (cc)
    at false e is = has_form head words (BbopForm (drop 5 head) dst (src ∷ srcs) count n) f is
        (two_words head _ words _ h.0 w, (h.1, omega arith, grind (arith, nat_tests, e)))
operands_have head words verb.Bbop (dst ∷ src ∷ srcs) (count ∷ n ∷ m ∷ numbers) f h w is =
    absurd (cc)
operands_have head words verb.Load [] numbers f h w is = absurd (cc)
operands_have head words verb.Load (place ∷ []) [] f h w is = absurd (cc)
operands_have head words verb.Load (place ∷ []) (v ∷ values) f h w is =
    has_form head words _ f is (two_words head _ words _ h w, omega arith)
operands_have head words verb.Load (place ∷ other ∷ places) numbers f h w is = absurd (cc)
operands_have head words verb.Fill [] numbers f h w is = absurd (cc)
operands_have head words verb.Fill (place ∷ []) [] f h w is = absurd (cc)
operands_have head words verb.Fill (place ∷ []) (v ∷ []) f h w is =
    has_form head words _ f is (two_words head _ words _ h w, tt)
operands_have head words verb.Fill (place ∷ []) (v ∷ u ∷ values) f h w is = absurd (cc)
operands_have head words verb.Fill (place ∷ other ∷ places) numbers f h w is = absurd (cc)
operands_have head words verb.Print [] numbers f h w is = absurd (cc)
operands_have head words verb.Print (place ∷ []) [] f h w is =
    has_form head words _ f is (two_words head _ words _ h w, tt)
operands_have head words verb.Print (place ∷ []) (v ∷ numbers) f h w is = absurd (cc)
operands_have head words verb.Print (place ∷ other ∷ places) numbers f h w is = absurd (cc)
operands_have head words verb.Free [] numbers f h w is = absurd (cc)
operands_have head words verb.Free (Whole name ∷ []) [] f h w is =
    has_form head words _ f is (two_words head _ words _ h w, tt)
operands_have head words verb.Free (Whole name ∷ []) (v ∷ numbers) f h w is = absurd (cc)
operands_have head words verb.Free (Whole name ∷ other ∷ places) numbers f h w is = absurd (cc)
operands_have head words verb.Free (Bit name k ∷ places) numbers f h w is = absurd (cc)
operands_have head words verb.Free (Bits name low high ∷ places) numbers f h w is = absurd (cc)

verb_has : (head : List ℕ) (words : List Word) (v : Option Verb) (o : Option Operands) (f : Form)
    → verb_of head ≡ v → operands_of words ≡ o → verb_form head v o ≡ Some f
    → HasForm (Name head ∷ words) f
verb_has head words None o f e g is = absurd (cc)
verb_has head words (Some v) None f e g is = absurd (cc)
verb_has head words (Some v) (Some o) f e g is =
    operands_have head words v o.places o.numbers f (verb_begins head v e)
    (read_is_spelled words o g).spelled is

order_has : (head : List ℕ) (words : List Word) (f : Form) → head ≡ codes "order"
    → order_form words ≡ Some f → HasForm (Name head ∷ words) f
order_has head [] f h is = absurd (cc)
order_has head (Number n ∷ words) f h is = absurd (cc)
order_has head (Comma ∷ words) f h is = absurd (cc)
order_has head (Open ∷ words) f h is = absurd (cc)
order_has head (Colon ∷ words) f h is = absurd (cc)
order_has head (Close ∷ words) f h is = absurd (cc)
order_has head (Other ∷ words) f h is = absurd (cc)
order_has head (Name word ∷ []) f h is =
    at (bytes_eq word (codes "in")) (bytes_eq word (codes "turns")) refl refl is
  where
    at : (a b : Bool) → bytes_eq word (codes "in") ≡ a → bytes_eq word (codes "turns") ≡ b
        → (if a then Some InOrder else (if b then Some TurnsOrder else None)) ≡ Some f
        → HasForm (Name head ∷ Name word ∷ []) f
    at true b e g is = has_form head (Name word ∷ []) InOrder f is
        (two_words head _ (Name word ∷ []) _ h (ap (λ t. Name t ∷ []) (is_text word _ e)), tt)
    at false true e g is = has_form head (Name word ∷ []) TurnsOrder f is
        (two_words head _ (Name word ∷ []) _ h (ap (λ t. Name t ∷ []) (is_text word _ g)), tt)
    at false false e g is = absurd (cc)
order_has head (Name word ∷ Number seed ∷ []) f h is = at (bytes_eq word (codes "seed")) refl is
  where
    at : (a : Bool) → bytes_eq word (codes "seed") ≡ a
        → (if a then Some (SeedOrder seed) else None) ≡ Some f
        → HasForm (Name head ∷ Name word ∷ Number seed ∷ []) f
    at true e is = has_form head (Name word ∷ Number seed ∷ []) (SeedOrder seed) f is (
      two_words head _ (Name word ∷ Number seed ∷ []) _ h (ap (λ t. Name t ∷ Number seed ∷ [])
          (is_text word _ e)),
      tt,
    )
    at false e is = absurd (cc)
order_has head (Name word ∷ Name other ∷ words) f h is = absurd (cc)
order_has head (Name word ∷ Comma ∷ words) f h is = absurd (cc)
order_has head (Name word ∷ Open ∷ words) f h is = absurd (cc)
order_has head (Name word ∷ Colon ∷ words) f h is = absurd (cc)
order_has head (Name word ∷ Close ∷ words) f h is = absurd (cc)
order_has head (Name word ∷ Other ∷ words) f h is = absurd (cc)
order_has head (Name word ∷ Number seed ∷ next ∷ words) f h is = absurd (cc)

found_has : (head : List ℕ) (words : List Word) (f : Form) → form_of head words ≡ Some f
    → HasForm (Name head ∷ words) f
found_has head words f is = at (bytes_eq head (codes "order")) refl is
  where
    at : (a : Bool) → bytes_eq head (codes "order") ≡ a
        → (if a then order_form words else verb_form head (verb_of head) (operands_of words))
        ≡ Some f → HasForm (Name head ∷ words) f
    at true e is = order_has head words f (is_text head _ e) is
    at false e is = verb_has head words (verb_of head) (operands_of words) f refl refl is

-- What is written so is found as the form.
abbrev form_in : List Word → Option Form
form_in (Name head ∷ words) = form_of head words
form_in words = None

has_found : (f : Form) → IsForm f → form_in (form_words f) ≡ Some f
has_found (InitForm name count n) h = refl
has_found (BbopForm op dst [] count n) h = absurd (omega (arith, h.1))
has_found (BbopForm op dst (src ∷ srcs) count n) h =
    let few : nat_lt 4 (length srcs) ≡ false = grind (arith, nat_tests, h.2) in
    let other : bytes_eq (codes "bbop_" ++ op) (codes "bbop_trsp_init") ≡ false =
    false_from_ne_true (bytes_eq op (codes "trsp_init"))
    (λ is. h.0 ((bytes_eq-Decides op (codes "trsp_init")).0 is)) in
    rw (
      other,
      spelled_is_read (dst ∷ src ∷ srcs) (count ∷ n ∷ []) (omega arith),
      few,
    ) refl
has_found (LoadForm place []) h = absurd (omega (arith, h))
has_found (LoadForm place (v ∷ values)) h =
    rw (spelled_is_read (place ∷ []) (v ∷ values) (omega arith)) refl
has_found (FillForm place v) h = rw (spelled_is_read (place ∷ []) (v ∷ []) (omega arith)) refl
has_found (PrintForm place) h = rw (spelled_is_read (place ∷ []) [] (omega arith)) refl
has_found (FreeForm name) h = refl
has_found InOrder h = refl
has_found TurnsOrder h = refl
has_found (SeedOrder seed) h = refl

found_form : (words : List Word) (f : Form) → form_in words ≡ Some f → HasForm words f
found_form [] f is = absurd (cc)
found_form (Name head ∷ words) f is = found_has head words f is
found_form (Number n ∷ words) f is = absurd (cc)
found_form (Comma ∷ words) f is = absurd (cc)
found_form (Open ∷ words) f is = absurd (cc)
found_form (Colon ∷ words) f is = absurd (cc)
found_form (Close ∷ words) f is = absurd (cc)
found_form (Other ∷ words) f is = absurd (cc)

form_found : (words : List Word) (f : Form) → HasForm words f → form_in words ≡ Some f
form_found words f h = rw h.0 (has_found f h.1)

-- What words are read as is the form's judgment.
abbrev Line : Type 0
Line = Result (Option Instruction) ScriptKind

abbrev fault : ScriptKind → Line
fault kind = Err kind

words_judged : (words : List Word) → 1 ≤ length words
    → of_words (Some words) ≡ result_map Some (judged (form_in words))
words_judged [] some = absurd (omega arith)
words_judged (Name head ∷ words) some = ap (result_map Some) (is_judged head words)
words_judged (Number n ∷ words) some = refl
words_judged (Comma ∷ words) some = refl
words_judged (Open ∷ words) some = refl
words_judged (Colon ∷ words) some = refl
words_judged (Close ∷ words) some = refl
words_judged (Other ∷ words) some = refl

form_judged : (words : List Word) (o : Option Form) → 1 ≤ length words → form_in words ≡ o
    → of_words (Some words) ≡ result_map Some (judged o)
form_judged words o some e = words_judged words some ∙ ap (λ o. result_map Some (judged o)) e

-- the bytes of a line
pub none_any : (items : List Item) → words_in items ≡ None → list_any is_stranger items ≡ true
none_any [] h = absurd (cc)
none_any (Bad f ∷ items) h = refl
none_any (Token t ∷ items) h = none_any items (at (words_in items) h)
  where
    at : (o : Option (List Word))
        → option_map (λ words. word_at t.kind t.text ∷ words) o ≡ None → o ≡ None
    at None h = refl
    at (Some words) h = absurd (cc)

pub any_none : (items : List Item) → list_any is_stranger items ≡ true → words_in items ≡ None
any_none [] h = absurd (cc)
any_none (Bad f ∷ items) h = refl
any_none (Token t ∷ items) h = rw (any_none items h) refl

kind_is : (a b : ScriptKind) → fault a ≡ fault b → a ≡ b
kind_is a b e = cc

-- where the words have this form, and the names and numbers of it are so
form_wrong : (line : List ℕ) (words : List Word) (f : Form) (kind : ScriptKind)
    (names numbers : Bool) → Reads line words → HasForm words f → names_fit f ≡ names
    → numbers_fit f ≡ numbers → result_map Some (checked names numbers (meaning f)) ≡ fault kind
    → IsWrong line kind
form_wrong line words f kind true true r h n m is = absurd (cc)
form_wrong line words f kind true false r h n m is =
    subst (IsWrong line) (kind_is BadNumber kind is) (words, f, r, h, n, m)
form_wrong line words f kind false numbers r h n m is =
    subst (IsWrong line) (kind_is BadName kind is) (words, f, r, h, n)

words_wrong : (line : List ℕ) (words : List Word) (kind : ScriptKind) (o : Option Form)
    → Reads line words → form_in words ≡ o → result_map Some (judged o) ≡ fault kind
    → IsWrong line kind
words_wrong line words kind None r e is =
    subst (IsWrong line) (kind_is Syntax kind is) (
      words,
      r,
      λ f h. let clash : Some f ≡ None = sym (form_found words f h) ∙ e in cc,
    )
words_wrong line words kind (Some f) r e is =
    form_wrong line words f kind (names_fit f) (numbers_fit f) r (found_form words f e) refl refl is

refused_wrong : (line : List ℕ) (kind : ScriptKind) (o : Option (List Word))
    → words_in (items_of line) ≡ o → of_words o ≡ fault kind → IsWrong line kind
refused_wrong line kind None e is =
    subst (IsWrong line) (kind_is Lex kind is) (none_any (items_of line) e)
refused_wrong line kind (Some []) e is = absurd (cc)
refused_wrong line kind (Some (w ∷ words)) e is =
    let some : 1 ≤ length (w ∷ words) = omega arith in
    words_wrong line (w ∷ words) kind (form_in (w ∷ words)) (record { read = e; some = some }) refl
    (sym (words_judged (w ∷ words) some) ∙ is)

no_form : (words : List Word) (o : Option Form) → form_in words ≡ o
    → ((f : Form) → HasForm words f → ⊥) → form_in words ≡ None
no_form words None e h = e
no_form words (Some f) e h = absurd (h f (found_form words f e))

wrong_refused : (line : List ℕ) (kind : ScriptKind) → IsWrong line kind
    → line_of line ≡ fault kind
wrong_refused line Lex h = ap of_words (any_none (items_of line) h)
wrong_refused line Syntax h = ap of_words h.1.read
    ∙ form_judged h.0 None h.1.some (no_form h.0 (form_in h.0) refl h.2)
wrong_refused line BadName h = ap of_words h.2.read
    ∙ form_judged h.0 (Some h.1) h.2.some (form_found h.0 h.1 h.3) ∙ rw h.4 refl
wrong_refused line BadNumber h = ap of_words h.2.read
    ∙ form_judged h.0 (Some h.1) h.2.some (form_found h.0 h.1 h.3) ∙ rw (h.4, h.5) refl

pub lines_are_wrong : LinesAreWrong
lines_are_wrong line kind =
    (refused_wrong line kind (words_in (items_of line)) refl, wrong_refused line kind)

-- where a form is found that is right, the line says what it means
says_is : (i j : Instruction) → result_map Some (Ok i) ≡ Ok (Some j) → j ≡ i
says_is i j e = cc

form_says : (line : List ℕ) (words : List Word) (f : Form) (i : Instruction)
    (names numbers : Bool) → words_in (items_of line) ≡ Some words → HasForm words f
    → names_fit f ≡ names → numbers_fit f ≡ numbers
    → result_map Some (checked names numbers (meaning f)) ≡ Ok (Some i) → IsLine line i
form_says line words f i true true r h n m is = record {
  form = f;
  words = words;
  read = r;
  has = h;
  names = n;
  numbers = m;
  means = says_is (meaning f) i is;
}
form_says line words f i true false r h n m is = absurd (cc)
form_says line words f i false numbers r h n m is = absurd (cc)

words_say : (line : List ℕ) (words : List Word) (i : Instruction) (o : Option Form)
    → words_in (items_of line) ≡ Some words → form_in words ≡ o
    → result_map Some (judged o) ≡ Ok (Some i) → IsLine line i
words_say line words i None r e is = absurd (cc)
words_say line words i (Some f) r e is =
    form_says line words f i (names_fit f) (numbers_fit f) r (found_form words f e) refl refl is

said_is_line : (line : List ℕ) (i : Instruction) (o : Option (List Word))
    → words_in (items_of line) ≡ o → of_words o ≡ Ok (Some i) → IsLine line i
said_is_line line i None e is = absurd (cc)
said_is_line line i (Some []) e is = absurd (cc)
said_is_line line i (Some (w ∷ words)) e is =
    words_say line (w ∷ words) i (form_in (w ∷ words)) e refl
    (sym (words_judged (w ∷ words) (omega arith)) ∙ is)

form_is_some : (f : Form) → 1 ≤ length (form_words f)
form_is_some (InitForm name count n) = omega arith
form_is_some (BbopForm op dst srcs count n) = omega arith
form_is_some (LoadForm place values) = omega arith
form_is_some (FillForm place v) = omega arith
form_is_some (PrintForm place) = omega arith
form_is_some (FreeForm name) = omega arith
form_is_some InOrder = omega arith
form_is_some TurnsOrder = omega arith
form_is_some (SeedOrder seed) = omega arith

line_is_said : (line : List ℕ) (i : Instruction) → IsLine line i → line_of line ≡ Ok (Some i)
line_is_said line i is =
    let some : 1 ≤ length is.words = rw is.has.0 (form_is_some is.form) in
    ap of_words is.read
    ∙ form_judged is.words (Some is.form) some (form_found is.words is.form is.has)
    ∙ rw (is.names, is.numbers, is.means) refl

-- a line says an instruction where its words are those of a form that means it
pub lines_are : LinesAreForms
lines_are line i = (said_is_line line i (words_in (items_of line)) refl, line_is_said line i)
