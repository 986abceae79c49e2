-- What holds of each row of the table holds of each word operation.
use Rattle.std.proofs.Common.{◌≡◌, ℕ, zero, suc, Bool, true, false, ◌&&◌, List, [], ◌∷◌, refl, sym}
use Rattle.std.proofs.Common.{ap, ◌∙◌, eqb, slice_index_or, Option, Some, None, bytes_eq, cond}
use Rattle.std.specs.List.{list_all}
use Rattle.std.proofs.lemmas.Bool.{eqb-true}
use Rattle.std.proofs.lemmas.Slice.Eq.{bytes_eq-Decides}
use Rattle.op_text.specs.declared.word_ops.WordOp.{WordOp}
use Rattle.op_text.specs.declared.word_ops.WordOp.TheVariants as o
use Rattle.op_text.specs.declared.word_ops.WordRow.{WordRow}
use Rattle.op_text.specs.WordOps.{number, row, row_of, word_rows, op_text, op_named, first_named}
use Rattle.op_text.specs.declared.word_ops.Signature.TheVariants.{Nothing}

abbrev row_at : ℕ → List ℕ × WordRow
row_at k = slice_index_or word_rows k ([], row o.Not Nothing None 0 0)

at_number : (p : WordOp) → row_at (number p) ≡ (op_text p, row_of p)
at_number o.Not = refl
at_number p = refl

pub row_is_own : (p : WordOp) → (row_of p).op ≡ p
row_is_own o.Not = refl
row_is_own p = refl

-- whether two operations are one
abbrev pub is_op : WordOp → WordOp → Bool
is_op p q = eqb (number p) (number q)

pub same_op : (p q : WordOp) → is_op p q ≡ true → p ≡ q
same_op p q h =
    let at = λ (q : WordOp). ap (λ r. r.1.op) (at_number q) ∙ row_is_own q in
    sym (at p) ∙ ap (λ k. (row_at k).1.op) (eqb-true (number p) (number q) h) ∙ at q

left_of : (a b : Bool) → (a && b) ≡ true → a ≡ true
left_of true b h = refl
left_of false b h = h

right_of : (a b : Bool) → (a && b) ≡ true → b ≡ true
right_of true b h = h
right_of false b h = cc

passes : (f : WordOp → Bool) (rows : List (List ℕ × WordRow)) (k : ℕ) (d : List ℕ × WordRow)
    → list_all (λ r. f r.1.op) rows ≡ true → f d.1.op ≡ true
    → f (slice_index_or rows k d).1.op ≡ true
passes f [] k d h e = e
passes f (r ∷ rows) zero d h e = left_of (f r.1.op) (list_all (λ s. f s.1.op) rows) h
passes f (r ∷ rows) (suc k) d h e =
    passes f rows k d (right_of (f r.1.op) (list_all (λ s. f s.1.op) rows) h) e

-- a test that each row passes is passed by each operation
pub every : (f : WordOp → Bool) → list_all (λ r. f r.1.op) word_rows ≡ true → (p : WordOp)
    → f p ≡ true
every f h p = ap f (sym (ap (λ r. r.1.op) (at_number p) ∙ row_is_own p))
    ∙ passes f word_rows (number p) ([], row o.Not Nothing None 0 0) h (left_of (f o.Not) _ h)

abbrev names : Option WordOp → WordOp → Bool
names None p = false
names (Some q) p = is_op q p

names_one : (r : Option WordOp) (p : WordOp) → names r p ≡ true → r ≡ Some p
names_one None p h = cc
names_one (Some q) p h = ap (λ x. Some x) (same_op q p h)

pub op_is_named : (p : WordOp) → op_named (op_text p) ≡ Some p
op_is_named p =
    names_one (op_named (op_text p)) p (every (λ q. names (op_named (op_text q)) q) refl p)

same_bytes : (m n : List ℕ) → bytes_eq m n ≡ true → m ≡ n
same_bytes m n h = (bytes_eq-Decides m n).0 h

-- a row's name is that of its operation
abbrev names_its_op : List ℕ × WordRow → Bool
names_its_op r = bytes_eq r.0 (op_text r.1.op)

row_spelled : (r : List ℕ × WordRow) (rows : List (List ℕ × WordRow)) (text : List ℕ) (p : WordOp)
    (b : Bool) → bytes_eq r.0 text ≡ b → names_its_op r ≡ true
    → (first_named rows text ≡ Some p → text ≡ op_text p)
    → cond b (Some r.1.op) (first_named rows text) ≡ Some p → text ≡ op_text p
row_spelled r rows text p true e n k h =
    let q : r.1.op ≡ p = cc in
    sym (same_bytes r.0 text e) ∙ same_bytes r.0 (op_text r.1.op) n ∙ ap op_text q
row_spelled r rows text p false e n k h = k h

first_spelled : (rows : List (List ℕ × WordRow)) (text : List ℕ) (p : WordOp)
    → list_all names_its_op rows ≡ true → first_named rows text ≡ Some p → text ≡ op_text p
first_spelled [] text p a h = cc
first_spelled (r ∷ rows) text p a h =
    row_spelled r rows text p (bytes_eq r.0 text) refl
    (left_of (names_its_op r) (list_all names_its_op rows) a)
    (first_spelled rows text p (right_of (names_its_op r) (list_all names_its_op rows) a)) h

-- the operation of a name is spelled by that name
pub op_spelled : (text : List ℕ) (p : WordOp) → op_named text ≡ Some p → text ≡ op_text p
op_spelled text p h = first_spelled word_rows text p refl h
