-- The canonical text is read again.
use Rattle.std.proofs.Common.{◌≡◌, ℕ, ◌+◌, Bool, true, false, not, ◌||◌, ◌&&◌, List, [], ◌∷◌, ◌++◌}
use Rattle.std.proofs.Common.{length, map, refl, sym, ap, ◌∙◌, subst, codes, append_assoc}
use Rattle.std.proofs.Common.{nat_le, Option, Some, None}
use Rattle.std.specs.Option.{option_to_list}
use Rattle.std.specs.Char.{is_ascii_digit}
use Rattle.std.specs.List.{flat_map}
use Rattle.text_lex.specs.Bytes.{is_name_start}
use Rattle.text_lex.specs.Spelled.{fits_name}
use Rattle.text_lex.specs.declared.token.TokenKind.{TokenKind}
use Rattle.text_lex.specs.declared.token.TokenKind.TheVariants as kinds
use Rattle.text_lex.specs.Lexical.{Item, Whole, items_from, is_token, stops}
use Rattle.text_lex.proofs.Back.{reads_token, reads_blank}
use Rattle.op_text.specs.declared.tree.Kind.{Kind}
use Rattle.op_text.specs.declared.tree.Kind.TheVariants.{Word, Bit}
use Rattle.op_text.specs.declared.tree.Op.{Op}
use Rattle.op_text.specs.declared.word_ops.WordOp.{WordOp}
use Rattle.op_text.specs.declared.word_ops.WordOp.TheVariants as o
use Rattle.op_text.specs.WordOps.{op_text}
use Rattle.op_text.specs.Language.{Term, Nought, Unity, Named, Negation, Conjunction, Disjunction}
use Rattle.op_text.specs.Language.{Parity, Majority, Equation, Block, Compute, Visit, Operation}
use Rattle.op_text.specs.Language.{operation, results}
use Rattle.op_text.specs.Spelling.{bare, unplaced, items_spelled, kind_of_text, kind_text}
use Rattle.op_text.specs.Spelling.{direction_text, start_text, after_commas, between_commas}
use Rattle.op_text.specs.Spelling.{in_turn, operations_text, HasNames, HasParam, HasState}
use Rattle.op_text.specs.Spelling.{HasEquation, HasStatement, HasOperation, IsName, Each, MeetRules}
use Rattle.op_text.specs.Spelling as tokens
use Rattle.op_text.proofs.Meeting.{texts_of_ops}
use Rattle.op_text.specs.OpsOf.{IsOpsOf}
use Rattle.op_print.specs.Canonical.{after_comma, listed, spelled, value_text, param_text}
use Rattle.op_print.specs.Canonical.{state_text, equation_text, let_text, word_text, block_head}
use Rattle.op_print.specs.Canonical.{op_head, line, statement_lines, op_lines, canonical_text}
use Rattle.op_print.specs.Reading.{TokensSpellOps, PrintingIsUndone}

-- A text is read as these tokens, wherever it stands.
record Reads (text : List ℕ) (spells : List (List ℕ)) : Type 0 where
  reads : (at : ℕ) → map bare (items_from at 0 text) ≡ items_spelled spells

nothing : Reads [] []
unfolding items_from
nothing = record { reads = λ at. refl }

cons_is : (a b : Item) (x y : List Item) → a ≡ b → x ≡ y → a ∷ x ≡ b ∷ y
cons_is a b x y e f = rw (e, f) refl

bare_one : (k : TokenKind) (t : List ℕ) (at : ℕ) → kind_of_text t ≡ k
    → bare (Whole (record { kind = k; text = t; start = at })) ≡ unplaced t
bare_one k t at e = rw e refl

-- a token, with what stops it after it
token : {rest : List ℕ} {spells : List (List ℕ)} (k : TokenKind) (t : List ℕ) → is_token k t ≡ true
    → kind_of_text t ≡ k → stops k rest ≡ true → Reads rest spells → Reads (t ++ rest) (t ∷ spells)
token {rest} {spells} k t h e s r =
    record {
      reads = λ at. ap (map bare) (reads_token at k t rest h s)
          ∙ cons_is (bare (Whole (record { kind = k; text = t; start = at }))) (unplaced t)
          (map bare (items_from (at + length t) 0 rest)) (items_spelled spells)
          (bare_one k t at e) (r.reads (at + length t));
    }

blank : {rest : List ℕ} {spells : List (List ℕ)} → Reads rest spells → Reads (32 ∷ rest) spells
blank {rest} r = record {
  reads = λ at. ap (map bare) (reads_blank at 32 rest refl)
      ∙ r.reads (at + 1);
}

newline : {rest : List ℕ} {spells : List (List ℕ)} → Reads rest spells → Reads (10 ∷ rest) spells
newline {rest} r = record {
  reads = λ at. ap (map bare) (reads_blank at 10 rest refl)
      ∙ r.reads (at + 1);
}

and_first : (a b : Bool) → (a && b) ≡ true → a ≡ true
and_first true b h = refl
and_first false b h = cc

or_second : (a b : Bool) → not (a || b) ≡ true → not b ≡ true
or_second true b h = cc
or_second false b h = h

digit_stops : (rest : List ℕ) → stops kinds.Name rest ≡ true → stops kinds.Number rest ≡ true
digit_stops [] h = refl
digit_stops (b ∷ rest) h = or_second (is_name_start b) (is_ascii_digit b) h

named_kind : (n : List ℕ) → is_token kinds.Name n ≡ true → kind_of_text n ≡ kinds.Name
named_kind n h = rw h refl

name : {rest : List ℕ} {spells : List (List ℕ)} (n : List ℕ) → fits_name n ≡ true
    → stops kinds.Name rest ≡ true → Reads rest spells → Reads (n ++ rest) (n ∷ spells)
name n h s r = let t = and_first (is_token kinds.Name n) (nat_le (length n) 16) h in
    token kinds.Name n t (named_kind n t) s r

mark : {rest : List ℕ} {spells : List (List ℕ)} (t : List ℕ) → is_token kinds.Symbol t ≡ true
    → kind_of_text t ≡ kinds.Symbol → Reads rest spells → Reads (t ++ rest) (t ∷ spells)
mark t h e r = token kinds.Symbol t h e refl r

digit : {rest : List ℕ} {spells : List (List ℕ)} (t : List ℕ) → is_token kinds.Number t ≡ true
    → kind_of_text t ≡ kinds.Number → stops kinds.Name rest ≡ true → Reads rest spells
    → Reads (t ++ rest) (t ∷ spells)
digit {rest} t h e s r = token kinds.Number t h e (digit_stops rest s) r

kind_reads : {rest : List ℕ} {spells : List (List ℕ)} (k : Kind) → stops kinds.Name rest ≡ true
    → Reads rest spells → Reads (kind_text k ++ rest) (kind_text k ∷ spells)
kind_reads Word s r = name (codes "word") refl s r
kind_reads Bit s r = name (codes "bit") refl s r

direction_reads : {rest : List ℕ} {spells : List (List ℕ)} (down : Bool)
    → stops kinds.Name rest ≡ true → Reads rest spells
    → Reads (direction_text down ++ rest) (direction_text down ∷ spells)
direction_reads false s r = name (codes "up") refl s r
direction_reads true s r = name (codes "down") refl s r

start_reads : {rest : List ℕ} {spells : List (List ℕ)} (b : Bool) → stops kinds.Name rest ≡ true
    → Reads rest spells → Reads (start_text b ++ rest) (start_text b ∷ spells)
start_reads false s r = digit (codes "0") refl refl s r
start_reads true s r = digit (codes "1") refl refl s r

op_fits : (p : WordOp) → fits_name (op_text p) ≡ true
op_fits o.Not = refl
op_fits p = refl

-- the same text, grouped otherwise
grouped : {spells : List (List ℕ)} (a b rest : List ℕ) → Reads (a ++ (b ++ rest)) spells
    → Reads ((a ++ b) ++ rest) spells
grouped {spells} a b rest r = subst (λ (x : List ℕ). Reads x spells) (sym (append_assoc a b rest)) r

three : {spells : List (List ℕ)} (a b c rest : List ℕ) → Reads (a ++ (b ++ (c ++ rest))) spells
    → Reads (((a ++ b) ++ c) ++ rest) spells
three a b c rest r = grouped (a ++ b) c rest (grouped a b (c ++ rest) r)

four : {spells : List (List ℕ)} (a b c d rest : List ℕ)
    → Reads (a ++ (b ++ (c ++ (d ++ rest)))) spells → Reads ((((a ++ b) ++ c) ++ d) ++ rest) spells
four a b c d rest r = grouped ((a ++ b) ++ c) d rest (three a b c (d ++ rest) r)

six : {spells : List (List ℕ)} (a b c d e f rest : List ℕ)
    → Reads (a ++ (b ++ (c ++ (d ++ (e ++ (f ++ rest)))))) spells
    → Reads ((((((a ++ b) ++ c) ++ d) ++ e) ++ f) ++ rest) spells
six a b c d e f rest r = three (((a ++ b) ++ c) ++ d) e f rest (four a b c d (e ++ (f ++ rest)) r)

value_reads : {rest : List ℕ} {spells : List (List ℕ)} (e : Term) → HasNames e
    → stops kinds.Name rest ≡ true → Reads rest spells
    → Reads (value_text e ++ rest) (tokens.term_text e spells)
value_reads Nought h s r = digit (codes "0") refl refl s r
value_reads Unity h s r = digit (codes "1") refl refl s r
value_reads (Named n) h s r = name n h s r
value_reads {rest} (Negation a) h s r =
    name (codes "not") refl refl (mark (codes "(") refl refl
    (grouped (value_text a) (codes ")") rest
    (value_reads a h refl (mark (codes ")") refl refl r))))
value_reads {rest} (Conjunction a b) h s r =
    name (codes "and") refl refl (mark (codes "(") refl refl
    (four (value_text a) (codes ", ") (value_text b) (codes ")") rest
    (value_reads a h.0 refl (mark (codes ",") refl refl
    (blank (value_reads b h.1 refl (mark (codes ")") refl refl r)))))))
value_reads {rest} (Disjunction a b) h s r =
    name (codes "or") refl refl (mark (codes "(") refl refl
    (four (value_text a) (codes ", ") (value_text b) (codes ")") rest
    (value_reads a h.0 refl (mark (codes ",") refl refl
    (blank (value_reads b h.1 refl (mark (codes ")") refl refl r)))))))
value_reads {rest} (Parity a b) h s r =
    name (codes "xor") refl refl (mark (codes "(") refl refl
    (four (value_text a) (codes ", ") (value_text b) (codes ")") rest
    (value_reads a h.0 refl (mark (codes ",") refl refl
    (blank (value_reads b h.1 refl (mark (codes ")") refl refl r)))))))
value_reads {rest} (Majority a b c) h s r =
    name (codes "maj") refl refl (mark (codes "(") refl refl
    (six (value_text a) (codes ", ") (value_text b) (codes ", ") (value_text c) (codes ")") rest
    (value_reads a h.0 refl (mark (codes ",") refl refl
    (blank (value_reads b h.1 refl (mark (codes ",") refl refl
    (blank (value_reads c h.2 refl (mark (codes ")") refl refl r))))))))))

-- a part that is read as its tokens, where no letter or digit follows it
abbrev Part : {A : Type 0} → (A → List ℕ) → (A → List (List ℕ) → List (List ℕ)) → (A → Type 0)
    → Type 0
Part {A} text spell ok = (rest : List ℕ) (spells : List (List ℕ)) (a : A) → ok a
    → stops kinds.Name rest ≡ true → Reads rest spells → Reads (text a ++ rest) (spell a spells)

name_part : Part spelled tokens.name_text IsName
name_part rest spells n h s r = name n h s r

param_part : Part param_text tokens.param_text HasParam
param_part rest spells p h s r =
    three p.name (codes ": ") (kind_text p.kind) rest
    (name p.name h refl (mark (codes ":") refl refl (blank (kind_reads p.kind s r))))

state_part : Part state_text tokens.state_text HasState
state_part rest spells p h s r =
    three p.name (codes " = ") (start_text p.start) rest
    (name p.name h refl (blank (mark (codes "=") refl refl (blank (start_reads p.start s r)))))

more_stop : {A : Type 0} (text : A → List ℕ) (xs : List A) (rest : List ℕ)
    → stops kinds.Name rest ≡ true → stops kinds.Name (flat_map (after_comma text) xs ++ rest)
    ≡ true
more_stop text [] rest s = s
more_stop text (a ∷ xs) rest s = refl

more_read : {A : Type 0} (text : A → List ℕ) (spell : A → List (List ℕ) → List (List ℕ)) (ok : A
    → Type 0) → Part text spell ok → (rest : List ℕ) (spells : List (List ℕ)) (xs : List A)
    → Each ok xs → stops kinds.Name rest ≡ true
    → Reads rest spells → Reads (flat_map (after_comma text) xs
    ++ rest) (after_commas spell xs spells)
more_read text spell ok part rest spells [] h s r = r
more_read text spell ok part rest spells (a ∷ xs) h s r =
    mark (codes ",") refl refl (blank (grouped (text a) (flat_map (after_comma text) xs) rest
    (part (flat_map (after_comma text) xs ++ rest) (after_commas spell xs spells) a h.0
    (more_stop text xs rest s) (more_read text spell ok part rest spells xs h.1 s r))))

list_read : {A : Type 0} (text : A → List ℕ) (spell : A → List (List ℕ) → List (List ℕ)) (ok : A
    → Type 0) → Part text spell ok → (rest : List ℕ) (spells : List (List ℕ)) (xs : List A)
    → Each ok xs → stops kinds.Name rest ≡ true
    → Reads rest spells → Reads (listed text xs ++ rest) (between_commas spell xs spells)
list_read text spell ok part rest spells [] h s r = r
list_read text spell ok part rest spells (a ∷ xs) h s r =
    grouped (text a) (flat_map (after_comma text) xs) rest
    (part (flat_map (after_comma text) xs ++ rest) (after_commas spell xs spells) a h.0
    (more_stop text xs rest s) (more_read text spell ok part rest spells xs h.1 s r))

-- one part, or two with a comma between them
pair_read : {A : Type 0} (text : A → List ℕ) (spell : A → List (List ℕ) → List (List ℕ)) (ok : A
    → Type 0) → Part text spell ok → (rest : List ℕ) (spells : List (List ℕ)) (a : A)
    (second : Option A) → ok a → tokens.IfThere ok second → stops kinds.Name rest ≡ true
    → Reads rest spells → Reads (listed text (a ∷ option_to_list second) ++ rest)
    (spell a (tokens.after_comma spell second spells))
pair_read text spell ok part rest spells a None h k s r =
    list_read text spell ok part rest spells (a ∷ []) (h, tt) s r
pair_read text spell ok part rest spells a (Some b) h k s r =
    list_read text spell ok part rest spells (a ∷ b ∷ []) (h, (k, tt)) s r

equation_reads : {rest : List ℕ} {spells : List (List ℕ)} (e : Equation) → HasEquation e
    → Reads rest spells → Reads (equation_text e ++ rest) (tokens.equation_text e spells)
equation_reads {rest} e h r =
    four e.name (codes " = ") (value_text e.value) (codes ";") rest
    (name e.name h.0 refl (blank (mark (codes "=") refl refl
    (blank (value_reads e.value h.1 refl (mark (codes ";") refl refl r))))))

let_reads : {rest : List ℕ} {spells : List (List ℕ)} (e : Equation) → HasEquation e
    → Reads rest spells → Reads (let_text e ++ rest) (tokens.let_text e spells)
let_reads {rest} e h r = name (codes "let") refl refl (blank (equation_reads e h r))

-- a line without its indent
ended : {spells : List (List ℕ)} (text rest : List ℕ) → Reads (text ++ 10 ∷ rest) spells
    → Reads ((text ++ 10 ∷ []) ++ rest) spells
ended text rest r = grouped text (10 ∷ []) rest r

two_deep : {spells : List (List ℕ)} (text rest : List ℕ) → Reads (text ++ 10 ∷ rest) spells
    → Reads (line (codes "  ") text ++ rest) spells
two_deep text rest r = blank (blank (ended text rest r))

four_deep : {spells : List (List ℕ)} (text rest : List ℕ) → Reads (text ++ 10 ∷ rest) spells
    → Reads (line (codes "    ") text ++ rest) spells
four_deep text rest r = blank (blank (blank (blank (ended text rest r))))

-- lines that are read as their tokens
abbrev Lines : {A : Type 0} → (A → List ℕ) → (A → List (List ℕ) → List (List ℕ)) → (A → Type 0)
    → Type 0
Lines {A} text spell ok = (rest : List ℕ) (spells : List (List ℕ)) (a : A) → ok a
    → Reads rest spells → Reads (text a ++ rest) (spell a spells)

turn_read : {A : Type 0} (text : A → List ℕ) (spell : A → List (List ℕ) → List (List ℕ)) (ok : A
    → Type 0) → Lines text spell ok → (rest : List ℕ) (spells : List (List ℕ)) (xs : List A)
    → Each ok xs → Reads rest spells
    → Reads (flat_map text xs ++ rest) (in_turn spell xs spells)
turn_read text spell ok lines rest spells [] h r = r
turn_read text spell ok lines rest spells (a ∷ xs) h r =
    grouped (text a) (flat_map text xs) rest (lines (flat_map text xs
    ++ rest) (in_turn spell xs spells) a h.0
    (turn_read text spell ok lines rest spells xs h.1 r))

abbrev let_line : Equation → List ℕ
let_line e = line (codes "    ") (let_text e)

abbrev assign_line : Equation → List ℕ
assign_line e = line (codes "    ") (equation_text e)

let_lines : Lines let_line tokens.let_text HasEquation
let_lines rest spells e h r = four_deep (let_text e) rest (let_reads e h (newline r))

assign_lines : Lines assign_line tokens.equation_text HasEquation
assign_lines rest spells e h r = four_deep (equation_text e) rest (equation_reads e h (newline r))

word_reads : {rest : List ℕ} {spells : List (List ℕ)} (target : List ℕ)
    (second : Option (List ℕ)) (p : WordOp) (args : List (List ℕ)) → IsName target
    → tokens.IfThere IsName second → Each IsName args → Reads rest spells
    → Reads (word_text target second p args ++ rest)
    (tokens.statement_text (Compute target second p args) spells)
word_reads {rest} {spells} target second p args h i k r =
    six (listed spelled (target ∷ option_to_list second)) (codes " = ") (op_text p) (codes "(")
    (listed spelled args) (codes ");") rest
    (pair_read spelled tokens.name_text IsName name_part
    (32 ∷ 61 ∷ 32 ∷ (op_text p ++ (40 ∷ (listed spelled args ++ (41 ∷ 59 ∷ rest)))))
    (codes "=" ∷ op_text p ∷ codes "(" ∷ between_commas tokens.name_text args
    (codes ")" ∷ codes ";" ∷ spells)) target second h i refl (blank (mark (codes "=") refl refl
    (blank (name (op_text p) (op_fits p) refl (mark (codes "(") refl refl
    (list_read spelled tokens.name_text IsName name_part (41 ∷ 59 ∷ rest) (codes ")" ∷ codes ";"
    ∷ spells) args k refl (mark (codes ")") refl refl (mark (codes ";") refl refl r)))))))))

head_reads : {rest : List ℕ} {spells : List (List ℕ)} (b : Block) → Each HasState b.states
    → Reads rest spells
    → Reads (block_head b ++ rest) (codes "serial" ∷ direction_text b.down ∷ codes "("
    ∷ between_commas tokens.state_text b.states (codes ")" ∷ codes "{" ∷ spells))
head_reads {rest} {spells} b h r =
    name (codes "serial") refl refl (blank (four (direction_text b.down) (codes " (")
    (listed state_text b.states) (codes ") {") rest
    (direction_reads b.down refl (blank (mark (codes "(") refl refl
    (list_read state_text tokens.state_text HasState state_part (41 ∷ 32 ∷ 123 ∷ rest) (codes ")"
    ∷ codes "{" ∷ spells) b.states h refl
    (mark (codes ")") refl refl (blank (mark (codes "{") refl refl r)))))))))

statement_lines_read : Lines statement_lines tokens.statement_text HasStatement
statement_lines_read rest spells (Compute target second p args) h r =
    two_deep (word_text target second p args) rest
    (word_reads target second p args h.0 h.1 h.2 (newline r))
statement_lines_read rest spells (Visit b) h r =
    let lets = flat_map let_line b.lets in
    let assigns = flat_map assign_line b.assigns in
    let last = line (codes "  ") (codes "}") in
    four (line (codes "  ") (block_head b)) lets assigns last rest
    (two_deep (block_head b) (lets ++ (assigns ++ (last ++ rest))) (head_reads b h.0 (newline
    (turn_read let_line tokens.let_text HasEquation let_lines (assigns ++ (last ++ rest))
    (in_turn tokens.equation_text b.assigns (codes "}" ∷ spells)) b.lets h.1
    (turn_read assign_line tokens.equation_text HasEquation assign_lines (last ++ rest) (codes "}"
    ∷ spells) b.assigns h.2
    (blank (blank (mark (codes "}") refl refl (newline r)))))))))

op_head_reads : {rest : List ℕ} {spells : List (List ℕ)} (p : Operation) → HasOperation p
    → Reads rest spells
    → Reads (op_head p ++ rest) (codes "op" ∷ p.name ∷ codes "("
    ∷ between_commas tokens.param_text p.params (codes ")" ∷ codes "->"
    ∷ tokens.param_text p.result (tokens.after_comma tokens.param_text p.second
    (codes "{" ∷ spells))))
op_head_reads {rest} {spells} p h r =
    name (codes "op") refl refl (blank (six p.name (codes "(") (listed param_text p.params)
    (codes ") -> ") (listed param_text (results p)) (codes " {") rest
    (name p.name h.name refl (mark (codes "(") refl refl
    (list_read param_text tokens.param_text HasParam param_part (41 ∷ 32 ∷ 45 ∷ 62 ∷ 32
    ∷ (listed param_text (results p) ++ (32 ∷ 123 ∷ rest))) (codes ")" ∷ codes "->"
    ∷ tokens.param_text p.result (tokens.after_comma tokens.param_text p.second
    (codes "{" ∷ spells))) p.params h.params refl
    (mark (codes ")") refl refl (blank (mark (codes "->") refl refl
    (blank (pair_read param_text tokens.param_text HasParam param_part (32 ∷ 123 ∷ rest)
    (codes "{" ∷ spells) p.result p.second h.result h.second refl
    (blank (mark (codes "{") refl refl r))))))))))))

op_lines_read : Lines op_lines tokens.operation_text HasOperation
op_lines_read rest spells p h r =
    let body = flat_map statement_lines p.body in
    let last = line [] (codes "}") in
    three (line [] (op_head p)) body last rest
    (ended (op_head p) (body ++ (last ++ rest)) (op_head_reads p h (newline
    (turn_read statement_lines tokens.statement_text HasStatement statement_lines_read (last
    ++ rest) (codes "}" ∷ spells) p.body h.body (mark (codes "}") refl refl (newline r))))))

append_nil : (x : List ℕ) → x ++ [] ≡ x
append_nil [] = refl
append_nil (b ∷ x) = ap (λ y. b ∷ y) (append_nil x)

text_reads : (all : List Operation) → Each HasOperation all
    → Reads (canonical_text all) (operations_text all)
text_reads all h = subst (λ (x : List ℕ). Reads x (operations_text all))
    (append_nil (canonical_text all)) (turn_read op_lines tokens.operation_text HasOperation
    op_lines_read [] [] all h nothing)

pub tokens_spell_ops : TokensSpellOps
tokens_spell_ops all h = (text_reads all h).reads 0

pub printing_is_undone : PrintingIsUndone
printing_is_undone all h meets = texts_of_ops (canonical_text all) all h meets
    (tokens_spell_ops all h)

-- where a text is begun empty, and these ops are written to it
pub read_back : (ops given : List Op) (text before : List ℕ) → given ≡ ops
    → Each HasOperation (map operation ops) → MeetRules (map operation ops) → before ≡ []
    → text ≡ before ++ canonical_text (map operation given)
    → IsOpsOf text (map operation ops)
read_back ops given text before same named meets blank written =
    let is : text ≡ canonical_text (map operation ops) = rw (written, blank, same) refl in
    rw is (printing_is_undone (map operation ops) named meets)
