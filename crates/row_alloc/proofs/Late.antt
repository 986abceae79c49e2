-- The plain body reads each input before it writes an output
use Rattle.row_alloc.proofs.Common.{◌≡◌, ◌≢◌, ℕ, ◌-◌, ◌<◌, ◌≤◌, true, false, List, [], ◌∷◌, ◌++◌}
use Rattle.row_alloc.proofs.Common.{length, get_or, refl, sym, ◌∙◌, ap, arith, inl, inr}
use Rattle.row_alloc.proofs.Common.{length-append, cases_lt, list_all-append, list_all_at, Lit}
use Rattle.row_alloc.proofs.Common.{Node}
use Rattle.std.proofs.Common.{not, append_assoc}
use Rattle.std.proofs.lemmas.List.{append-nil, get_or_append_left, get_or-append_right}
use Rattle.row_alloc.specs.declared.body.BodyRef.{BodyRef}
use Rattle.row_alloc.specs.declared.body.BodyRef.TheVariants.{B, In, Out}
use Rattle.row_alloc.specs.declared.body.BodyCmd.{BodyCmd}
use Rattle.row_alloc.specs.declared.body.BodyCmd.TheVariants.{Ap}
use Rattle.row_alloc.specs.declared.body.OutRow.{OutRow}
use Rattle.row_alloc.specs.Body.{read_by, written_by, command_at, WritesLate}
use Rattle.row_alloc.specs.Phases.{into_of, node_commands, stash_commands, is_out, keep_outputs}
use Rattle.row_alloc.proofs.Written.{is_in, read_no_input, IsTwoParts}

pub early-append : (xs ys : List BodyCmd) → keep_outputs xs ≡ true → keep_outputs ys ≡ true
    → keep_outputs (xs ++ ys) ≡ true
early-append xs ys h k = list_all-append (λ (c : BodyCmd). not (is_out (written_by c))) xs ys
    ∙ rw (h, k) refl

into-early : (l : Lit) → not (is_out (into_of l)) ≡ true
into-early l = grind arith

pub node-early : (i k : ℕ) (x : Node) → keep_outputs (node_commands i x k) ≡ true
node-early i k x = rw (into-early x.a) refl

pub stash-early : (i k : ℕ) (l : Lit) → keep_outputs (stash_commands i l k) ≡ true
stash-early i k l = grind arith

-- the first outputs may be written now
pub parts-first : (cmds : List BodyCmd) → keep_outputs cmds ≡ true → IsTwoParts cmds
parts-first cmds h = record {
  first = cmds;
  rest = [];
  whole = sym (append-nil cmds);
  early = h;
  late = refl;
}

-- one command more that reads no input
pub parts-more : (cmds : List BodyCmd) (c : BodyCmd) → IsTwoParts cmds → is_in (read_by c) ≡ false
    → IsTwoParts (cmds ++ c ∷ [])
parts-more cmds c p h = record {
  first = p.first;
  rest = p.rest ++ c ∷ [];
  whole = rw p.whole (append_assoc p.first p.rest (c ∷ []));
  early = p.early;
  late = list_all-append (λ (c : BodyCmd). not (is_in (read_by c))) p.rest (c ∷ [])
      ∙ rw (p.late, h) refl;
}

-- so no command that follows a write of an output reads an input
at-first : (first rest : List BodyCmd) (p j : ℕ) → keep_outputs first ≡ true → p < length first
    → written_by (command_at (first ++ rest) p) ≢ Out j
at-first first rest p j h l e =
    let same = get_or_append_left first rest (Ap (B 0)) p l in
    let f : not (is_out (written_by (get_or first p (Ap (B 0))))) ≡ false =
    ap (λ (r : BodyRef). not (is_out r)) (ap written_by (sym same) ∙ e) in
    let g = list_all_at (λ (c : BodyCmd). not (is_out (written_by c))) first p (Ap (B 0)) l f in
    cc

at-rest : (first rest : List BodyCmd) (q k : ℕ) → read_no_input rest ≡ true → length first ≤ q
    → q < length (first ++ rest) → read_by (command_at (first ++ rest) q) ≢ In k
at-rest first rest q k h l b e =
    let same = get_or-append_right first rest (length first) q (Ap (B 0)) refl l in
    let f : not (is_in (read_by (get_or rest (q - length first) (Ap (B 0))))) ≡ false =
    ap (λ (r : BodyRef). not (is_in r)) (ap read_by (sym same) ∙ e) in
    let g = list_all_at (λ (c : BodyCmd). not (is_in (read_by c))) rest (q - length first)
    (Ap (B 0)) (omega (arith, length-append first rest)) f in
    cc

late-parts : (outs : List OutRow) (first rest : List BodyCmd) → keep_outputs first ≡ true
    → read_no_input rest ≡ true → WritesLate outs (first ++ rest)
late-parts outs first rest h i = record {
  late = λ p q j k before within shares written read. elim (cases_lt p (length first)) [
    | inl b ↦ at-first first rest p j h b written
    | inr b ↦ at-rest first rest q k i (omega arith) within read
  ];
}

pub writes-late : (outs : List OutRow) (cmds : List BodyCmd) → IsTwoParts cmds
    → WritesLate outs cmds
writes-late outs cmds p = rw p.whole (late-parts outs p.first p.rest p.early p.late)
