-- The plain body's commands are legal
use Rattle.row_alloc.proofs.Common.{◌≡◌, ℕ, ◌+◌, ◌-◌, ◌<◌, ◌≤◌, Bool, true, false, ◌&&◌, List, []}
use Rattle.row_alloc.proofs.Common.{◌∷◌, ◌++◌, refl, ◌∙◌, arith, inl, inr, nat_lt, nat_tests}
use Rattle.row_alloc.proofs.Common.{list_all-append, bit_number, Lit, Node, IsLower}
use Rattle.row_alloc.specs.declared.body.BodyRef.TheVariants.{Out, Spill}
use Rattle.row_alloc.specs.declared.body.BodyCmd.{BodyCmd}
use Rattle.row_alloc.specs.declared.body.BodyCmd.TheVariants.{Aap}
use Rattle.row_alloc.specs.Legal.{is_ref, is_first_ref, is_second_ref, is_legal_cmd, are_legal}
use Rattle.row_alloc.specs.Phases.{source_of, into_of, node_commands, stash_commands}
use Rattle.row_alloc.proofs.Holds.{source-cases}

pub legal-append : (i o : ℕ) (xs ys : List BodyCmd) → are_legal i o xs ≡ true
    → are_legal i o ys ≡ true → are_legal i o (xs ++ ys) ≡ true
legal-append i o xs ys h k = list_all-append (is_legal_cmd i o) xs ys ∙ rw (h, k) refl

pub less : (a b : ℕ) → a < b → nat_lt a b ≡ true
less a b h = grind (arith, nat_tests)

-- where a literal is read from may stand first
pub source-legal : (i o n : ℕ) (l : Lit) → l.node < i + 1 + n → n ≤ 32
    → (is_ref i o (source_of i l) && is_first_ref (source_of i l)) ≡ true
source-legal i o n l b small = elim (source-cases i l) [
  | inl h ↦ rw h.1 (constant-legal l.inverted)
  | inr (inl h) ↦ let e : l.node - 1 < i = omega arith in rw (h.2, less (l.node - 1) i e) refl
  | inr (inr h) ↦ let e : l.node - i - 1 < 32 = omega arith in
      rw (h.1, less (l.node - i - 1) 32 e) refl
]
  where
    constant-legal : (b : Bool) → (nat_lt (bit_number b) 2 && true) ≡ true
    constant-legal true = refl
    constant-legal false = refl

into-legal : (i o : ℕ) (l : Lit) → (is_ref i o (into_of l) && is_second_ref (into_of l)) ≡ true
into-legal i o l = grind arith

pub node-legal : (i o n k : ℕ) (x : Node) → IsLower (i + 1 + n) x → n ≤ 32 → k < 32
    → are_legal i o (node_commands i x k) ≡ true
node-legal i o n k x lower small l = rw (
  source-legal i o n x.a lower.0 small,
  into-legal i o x.a,
  source-legal i o n x.b lower.1 small,
  source-legal i o n x.c lower.2 small,
  less k 32 l,
) refl

pub stash-legal : (i o n k : ℕ) (l : Lit) → l.node < i + 1 + n → n ≤ 32 → k < 32
    → are_legal i o (stash_commands i l k) ≡ true
stash-legal i o n k l below small b =
    let s = source-legal i o n l below small in
    let t = less k 32 b in
    grind (arith, s, t)

pub write-legal : (i o k m : ℕ) → k < 32 → m < o → are_legal i o (Aap (Spill k) (Out m) ∷ []) ≡ true
write-legal i o k m a b = rw (less k 32 a, less m o b) refl
