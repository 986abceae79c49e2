-- Word operations.
use Rattle.std.proofs.Common.{◌≡◌, ◌≤◌, ◌<◌, length, arith, Bool, true, false, cond, List, [], ◌∷◌}
use Rattle.std.proofs.Common.{◌++◌, Option, Some, None, refl, subst}
use Rattle.std.proofs.lemmas.List.{length-append}
use Rattle.op_text.specs.declared.tree.Kind.{Kind}
use Rattle.op_text.specs.declared.tree.Kind.TheVariants.{Word, Bit}
use Rattle.op_text.specs.declared.word_ops.Signature.{Signature}
use Rattle.op_text.specs.declared.word_ops.Signature.TheVariants as signs
use Rattle.op_text.specs.WordOps.{Form, row_of, lacks, is_part, same_kind, signature_forms, may_take}
use Rattle.op_text.specs.WordOps.{wants_more, filled, given_first, first_of, FirstSettles}

none_kept : (b : Bool) (o : Option (List Kind)) → o ≡ None → cond b o None ≡ None
none_kept true o h = h
none_kept false o h = refl

-- more kinds than a form takes do not begin it
too_long : (given all : List Kind) → length all < length given → lacks given all ≡ None
too_long [] all h = absurd (omega (arith, h))
too_long (k ∷ given) [] h = refl
too_long (k ∷ given) (j ∷ all) h =
    none_kept (same_kind k j) (lacks given all) (too_long given all (omega (arith, h)))

-- as many leave nothing that is wanted
none_left : (given all : List Kind) → length all ≤ length given
    → is_part (lacks given all) ≡ false
none_left [] [] h = refl
none_left [] (j ∷ all) h = absurd (omega (arith, h))
none_left (k ∷ given) [] h = refl
none_left (k ∷ given) (j ∷ all) h =
    by (same_kind k j) (none_left given all (omega (arith, h))) where
      by : (b : Bool) → is_part (lacks given all) ≡ false
          → is_part (cond b (lacks given all) None) ≡ false
      by true e = e
      by false e = refl

abbrev AreShort : List Form → Type 0
AreShort [] = Unit {0}
AreShort (f ∷ fs) = (length f.takes ≤ 3) × AreShort fs

-- no operation takes more than three arguments
short : (s : Signature) → AreShort (signature_forms s)
short signs.Nothing = (omega arith, tt)
short signs.OneOf = (omega arith, (omega arith, tt))
short signs.TwoOf = (omega arith, (omega arith, tt))
short (signs.OneWord k) = (omega arith, tt)
short (signs.TwoWords k) = (omega arith, tt)
short signs.Choice = (omega arith, (omega arith, tt))

too_many : (fs : List Form) → AreShort fs → (given : List Kind) (k : Kind) → 3 ≤ length given
    → false ≡ may_take fs given k
too_many [] a given k h = refl
too_many (f ∷ fs) a given k h =
    let long : length f.takes < length (given ++ k ∷ []) =
    rw (length-append given (k ∷ [])) (omega (arith, h, a.0)) in
    rw (too_long (given ++ k ∷ []) f.takes long) (too_many fs a.1 given k h)

none_wanted : (fs : List Form) → AreShort fs → (given : List Kind) → 3 ≤ length given
    → false ≡ wants_more fs given
none_wanted [] a given h = refl
none_wanted (f ∷ fs) a given h =
    rw (none_left given f.takes (omega (arith, h, a.0))) (none_wanted fs a.1 given h)

none_filled : (fs : List Form) → AreShort fs → (given : List Kind) → 4 ≤ length given
    → None ≡ filled fs given
none_filled [] a given h = refl
none_filled (f ∷ fs) a given h =
    rw (too_long given f.takes (omega (arith, h, a.0))) (none_filled fs a.1 given h)

pub takes_no_fourth : (s : Signature) (fs : List Form) (given : List Kind) (k : Kind)
    → signature_forms s ≡ fs → 3 ≤ length given → false ≡ may_take fs given k
takes_no_fourth s fs given k e h = too_many fs (subst AreShort e (short s)) given k h

pub wants_no_fourth : (s : Signature) (fs : List Form) (given : List Kind) → signature_forms s ≡ fs
    → 3 ≤ length given → false ≡ wants_more fs given
wants_no_fourth s fs given e h = none_wanted fs (subst AreShort e (short s)) given h

pub fills_no_fourth : (s : Signature) (fs : List Form) (given : List Kind) → signature_forms s ≡ fs
    → 4 ≤ length given → None ≡ filled fs given
fills_no_fourth s fs given e h = none_filled fs (subst AreShort e (short s)) given h

only_if : (b : Bool) (j k : Kind) → cond b (Some j) None ≡ Some k → j ≡ k
only_if true j k h = cc
only_if false j k h = cc

settles : (s : Signature) (kinds : List Kind) (k : Kind) → filled (signature_forms s) kinds ≡ Some k
    → given_first (signature_forms s) (first_of kinds) ≡ k
settles signs.Nothing [] k h = cc
settles signs.Nothing (j ∷ js) k h = cc
settles signs.OneOf [] k h = cc
settles signs.OneOf (Word ∷ js) k h = only_if _ Word k h
settles signs.OneOf (Bit ∷ js) k h = only_if _ Bit k h
settles signs.TwoOf [] k h = cc
settles signs.TwoOf (Word ∷ js) k h = only_if _ Word k h
settles signs.TwoOf (Bit ∷ js) k h = only_if _ Bit k h
settles (signs.OneWord i) [] k h = cc
settles (signs.OneWord i) (Word ∷ js) k h = only_if _ i k h
settles (signs.OneWord i) (Bit ∷ js) k h = cc
settles (signs.TwoWords i) [] k h = cc
settles (signs.TwoWords i) (Word ∷ js) k h = only_if _ i k h
settles (signs.TwoWords i) (Bit ∷ js) k h = cc
settles signs.Choice [] k h = cc
settles signs.Choice (Word ∷ js) k h = only_if _ Word k h
settles signs.Choice (Bit ∷ js) k h = only_if _ Bit k h

-- the first argument settles the kind of the result
pub first_settles : FirstSettles
first_settles p kinds k h = settles (row_of p).signature kinds k h
