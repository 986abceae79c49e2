-- The six operations of a scan, and a program that implements them.
use Rattle.scan_model.proofs.Common.{◌≡◌, ℕ, zero, suc, ◌+◌, ◌*◌, ◌%◌, ◌^◌, ◌<◌, ◌==◌, Bool, true}
use Rattle.scan_model.proofs.Common.{false, not, ◌&&◌, List, [], ◌∷◌, Option, Some, None, refl, sym}
use Rattle.scan_model.proofs.Common.{◌∙◌, ap, subst, arith, codes, ◌||◌, nat_tests, Kind, Word, Bit}
use Rattle.scan_model.proofs.Common.{Shape, Microprogram, HasEnded, trace, TextOp, ImplementsAll}
use Rattle.scan_model.proofs.Common.{Program, routines_of, text_op_named, entry_named, trace_of}
use Rattle.scan_model.proofs.Common.{meaning_in, walks_badly, Matched, both, matched}
use Rattle.std.proofs.Common.{◌/◌}
use Rattle.std.specs.Prelude.{nat_lt, nat_le}
use Rattle.std.proofs.Math.Nat.{pow-succ'}
use Rattle.op_text.specs.Values.{bit_number, value, bits}
use Rattle.op_text.specs.Meaning.{meaning}
use Rattle.uprog_code.specs.Machine.{Trace, Ended, Stuck}
use Rattle.op_text.specs.Rules.{breach_of}
use Rattle.op_text.specs.Spelling.{MeetRules}
use Rattle.scan_model.specs.Operations.{of_two_sources, of_one_source, scan_operations, scan_text}
use Rattle.scan_model.specs.Laws.{Offers, OffersScan, MeansScan}
use Rattle.bit_rows.specs.Bits as rows
use Rattle.grammar.specs.Machine as machine
use Rattle.op_text.specs.declared.word_ops.WordOp.TheVariants as o

low_bit : (v : ℕ) → bit_number (v % 2 == 1) + 2 * (v / 2) ≡ v
low_bit v = grind (arith, nat_tests)

-- the number that its own bits spell
value-bits : (n v : ℕ) → v < 2 ^ n → value (bits v n) ≡ v
unfolding bits
value-bits zero v l = omega arith
value-bits (suc n) v l =
    let half : v / 2 < 2 ^ n = omega (arith, pow-succ' 2 n) in
    ap (λ (k : ℕ). bit_number (v % 2 == 1) + 2 * k) (value-bits n (v / 2) half) ∙ low_bit v

bit_held : (b : Bool) → value (bits (bit_number b) 1) ≡ rows.bit_number b
unfolding bits
bit_held true = refl
bit_held false = refl

single : {x y : ℕ} → x ≡ y → x ∷ [] ≡ y ∷ []
single e = ap (λ v. v ∷ []) e

eq_means : (n a b : ℕ) → a < 2 ^ n → b < 2 ^ n
    → meaning (of_two_sources (codes "s_eq") Word o.Eq) n (a ∷ b ∷ [])
    ≡ rows.bit_number (a == b) ∷ []
eq_means n a b l m = single (ap (λ x. value (bits (bit_number (x == value (bits b n))) 1))
    (value-bits n a l) ∙ ap (λ y. value (bits (bit_number (a == y)) 1)) (value-bits n b m)
    ∙ bit_held (a == b))

gt_means : (n a b : ℕ) → a < 2 ^ n → b < 2 ^ n
    → meaning (of_two_sources (codes "s_gt") Word o.Gt) n (a ∷ b ∷ [])
    ≡ rows.bit_number (nat_lt b a) ∷ []
gt_means n a b l m = single (ap (λ x. value (bits (bit_number (nat_lt (value (bits b n)) x)) 1))
    (value-bits n a l) ∙ ap (λ y. value (bits (bit_number (nat_lt y a)) 1)) (value-bits n b m)
    ∙ bit_held (nat_lt b a))

ge_means : (n a b : ℕ) → a < 2 ^ n → b < 2 ^ n
    → meaning (of_two_sources (codes "s_ge") Word o.Ge) n (a ∷ b ∷ [])
    ≡ rows.bit_number (nat_le b a) ∷ []
ge_means n a b l m = single (ap (λ x. value (bits (bit_number (nat_le (value (bits b n)) x)) 1))
    (value-bits n a l) ∙ ap (λ y. value (bits (bit_number (nat_le y a)) 1)) (value-bits n b m)
    ∙ bit_held (nat_le b a))

not_means : (a : Bool) → meaning (of_one_source (codes "s_not") o.Not) 1 (rows.bit_number a ∷ [])
    ≡ rows.bit_number (not a) ∷ []
unfolding bits
not_means true = refl
not_means false = refl

and_means : (a b : Bool) → meaning (of_two_sources (codes "s_and") Bit o.And) 1
    (rows.bit_number a ∷ rows.bit_number b ∷ []) ≡ rows.bit_number (a && b) ∷ []
unfolding bits
and_means true true = refl
and_means true false = refl
and_means false true = refl
and_means false false = refl

or_means : (a b : Bool) → meaning (of_two_sources (codes "s_or") Bit o.Or) 1
    (rows.bit_number a ∷ rows.bit_number b ∷ []) ≡ rows.bit_number (a || b) ∷ []
unfolding bits
or_means true true = refl
or_means true false = refl
or_means false true = refl
or_means false false = refl

-- the ops of scans meet the rules of operation texts
pub text_meets : MeetRules scan_operations
unfolding machine.breach_of
text_meets = refl

pub text_means : MeansScan (meaning_in scan_text)
text_means = record {
  equal = λ n a b l m. eq_means n a b l m;
  greater =
      λ n a b l m. gt_means n a b l m;
  at_least = λ n a b l m. ge_means n a b l m;
  negation = λ a. not_means a;
  conjunction = λ a b. and_means a b;
  disjunction = λ a b. or_means a b;
}

pub ended : (t : Trace) → HasEnded t → walks_badly t ≡ None
ended (Ended issues) h = refl
ended (Stuck at reason) h = absurd h

-- an op of the text is there, with its shape, and its code ends
offered : (p : Program) (name : List ℕ) (o : TextOp) (kinds : List Kind)
    → text_op_named scan_text name ≡ Some o → o.shape.sources ≡ kinds → o.shape.result ≡ Bit
    → o.shape.second ≡ None → (e : Option Microprogram) → entry_named p name ≡ e
    → Matched e (Some o) → Offers (routines_of scan_text p) name kinds
offered p name o kinds is sources result alone None found m = elim m [ ]
offered p name o kinds is sources result alone (Some e) found (both _ _ d) = record {
  operation = record { shape = o.shape; trace = trace_of (Some e) };
  there = rw (is, found) refl;
  sources = sources;
  result = result;
  one_result = alone;
  walks = λ n l k. ended (trace e.shape e.code n)
      (subst (λ (s : Shape). HasEnded (trace s e.code n)) (sym d.shape) (d.code.ends n l k));
}

pub text_offers : (p : Program) → ImplementsAll p scan_text
    → OffersScan (routines_of scan_text p)
text_offers p i = record {
  equal = offered p (codes "s_eq") _ _ refl refl refl refl (entry_named p (codes "s_eq")) refl
      (matched p scan_text (codes "s_eq") i);
  greater = offered p (codes "s_gt") _ _ refl refl refl refl (entry_named p (codes "s_gt")) refl
      (matched p scan_text (codes "s_gt") i);
  at_least = offered p (codes "s_ge") _ _ refl refl refl refl (entry_named p (codes "s_ge")) refl
      (matched p scan_text (codes "s_ge") i);
  negation = offered p (codes "s_not") _ _ refl refl refl refl (entry_named p (codes "s_not"))
      refl (matched p scan_text (codes "s_not") i);
  conjunction = offered p (codes "s_and") _ _ refl refl refl refl (entry_named p (codes "s_and"))
      refl (matched p scan_text (codes "s_and") i);
  disjunction = offered p (codes "s_or") _ _ refl refl refl refl (entry_named p (codes "s_or"))
      refl (matched p scan_text (codes "s_or") i);
}
