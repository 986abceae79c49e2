-- Worked values: queries, their nodes and instructions, names and faults.
use Rattle.scan_model.proofs.Common.{◌≡◌, ℕ, true, false, List, [], ◌∷◌, map, Some, None, refl}
use Rattle.scan_model.proofs.Common.{codes, Item, Bad, Named, Init, Bbop, Fill, Free, whole}
use Rattle.text_lex.specs.declared.token.TokenKind.{TokenKind}
use Rattle.text_lex.specs.declared.token.TokenKind.TheVariants.{Name, Number, Symbol}
use Rattle.text_lex.specs.Lexical.{Whole as Read}
use Rattle.grammar.specs.Machine as machine
use Rattle.scan_model.specs.declared.CmpOp.TheVariants as cmp
use Rattle.scan_model.specs.declared.QueryKind.TheVariants as kind
use Rattle.scan_model.specs.declared.ScanWhy.TheVariants as scan
use Rattle.scan_model.specs.Queries.{Whole, Bit, Bits, Query, Compare, Negate, Both, Test, Not, And}
use Rattle.scan_model.specs.Queries.{matches, nodes_of}
use Rattle.scan_model.specs.Instructions.{script_from}
use Rattle.scan_model.specs.Checks.{checked}
use Rattle.scan_model.specs.Texts.{Start, breach_of, none_begun}

abbrev a : List ℕ
a = codes "a"

-- and(ge(a, 10), not(eq(a, 200)))
abbrev query : Query
query = Both (Compare cmp.Ge (Whole a) 10) (Negate (Compare cmp.Eq (Whole a) 200))

values : map (λ v. matches query (λ name. v)) (5 ∷ 10 ∷ 200 ∷ 255 ∷ []) ≡ false ∷ true ∷ false
    ∷ true ∷ []
values = refl

none_below : map (λ v. matches (Compare cmp.Lt (Whole a) 0) (λ name. v)) (0 ∷ 5 ∷ []) ≡ false ∷ false ∷ []
none_below = refl

nodes : nodes_of query ≡ Test cmp.Ge (whole a) 10 ∷ Test cmp.Eq (whole a) 200 ∷ Not 1
    ∷ And 0 2 ∷ []
nodes = refl

-- a table with an object a and one that is called scan_1
abbrev table : List Named
table = (a, record { base = 0; width = 8; count = 4 })
    ∷ (codes "scan_1", record { base = 8; width = 1; count = 4 }) ∷ []

-- names by number, in place of those that are free
abbrev n : ℕ → List ℕ
n k = 115 ∷ k ∷ []

instructions : script_from table n 4 0 (nodes_of (Negate (Compare cmp.Le (Whole a) 7)))
    ≡ Init (n 0) 4 8 ∷ Fill (whole (n 0)) 7 ∷ Init (n 1) 4 1
    ∷ Bbop (codes "s_ge") (whole (n 1)) (whole (n 0) ∷ whole a ∷ []) 4 8 ∷ Free (n 0)
    ∷ Init (n 2) 4 1 ∷ Bbop (codes "s_not") (whole (n 2)) (whole (n 1) ∷ []) 4 1 ∷ Free (n 1) ∷ []
instructions = refl

range : checked table (nodes_of (Compare cmp.Eq (Whole a) 256)) ≡ Some (scan.Range, 0)
range = refl

count : checked table (nodes_of (Both (Compare cmp.Eq (Whole a) 1)
    (Compare cmp.Eq (Whole (codes "b")) 1)))
    ≡ Some (scan.NoObject, 1)
count = refl

-- bits 4 to 7 of 0x3c and 0xc3, and bit 2
high_bits : map (λ v. matches (Compare cmp.Eq (Bits a 4 8) 3) (λ name. v)) (60 ∷ 195 ∷ []) ≡ true
    ∷ false ∷ []
high_bits = refl

one_bit : map (λ v. matches (Compare cmp.Eq (Bit a 2) 1) (λ name. v)) (60 ∷ 195 ∷ []) ≡ true
    ∷ false ∷ []
one_bit = refl

-- a part that ends past its object, and one that is too narrow for the number
slice : checked table (nodes_of (Compare cmp.Eq (Bits a 5 9) 16)) ≡ Some (scan.Slice, 0)
slice = refl

narrow : checked table (nodes_of (Compare cmp.Eq (Bits a 4 8) 16)) ≡ Some (scan.Range, 0)
narrow = refl

token : ℕ → TokenKind → List ℕ → Item
token start kind text = Read (record { kind = kind; text = text; start = start })

-- eq(a[3:3], ..
empty : breach_of (Start ∷ []) none_begun (token 0 Name (codes "eq") ∷ token 2 Symbol (codes "(")
    ∷ token 3 Name a ∷ token 4 Symbol (codes "[") ∷ token 5 Number (codes "3")
    ∷ token 6 Symbol (codes ":") ∷ token 7 Number (codes "3") ∷ [])
    ≡ Some (record { at = Some 7; kind = kind.BadNumber })
unfolding machine.breach_of token
empty = refl

-- eq(a)
short : breach_of (Start ∷ []) none_begun (token 0 Name (codes "eq") ∷ token 2 Symbol (codes "(")
    ∷ token 3 Name a ∷ token 4 Symbol (codes ")") ∷ [])
    ≡ Some (record { at = Some 4; kind = kind.Syntax })
unfolding machine.breach_of token
short = refl

early : breach_of (Start ∷ []) none_begun (token 0 Name (codes "not")
    ∷ token 3 Symbol (codes "(") ∷ []) ≡ Some (record { at = None; kind = kind.Syntax })
unfolding machine.breach_of token
early = refl

stranger : breach_of (Start ∷ []) none_begun (Bad (record { at = 0; byte = 36 }) ∷ [])
    ≡ Some (record { at = Some 0; kind = kind.Lex })
unfolding machine.breach_of
stranger = refl
