use Rattle.std.proofs.Common.{[], ◌∷◌, sym}
use Rattle.op_text.specs.declared.wanted.Wanted.TheVariants as w
use Rattle.op_lang.specs.Pieces.{after_leaf}
use Rattle.op_lang.proofs.Taking.{exits}
use Rattle.op_lang.proofs.Single.{bit_took, gate_known, gate_took, read_took}
use Rattle.op_lang.proofs.values.leaf.Goals as goal

pub returns-in_err-token-clause-moves : goal.returns-in_err-token-clause-moves
returns-in_err-token-clause-moves c = exits (w.Value ∷ []) _ _ _ after_leaf _
    c.from_residual.ensures.1 c.in_err-token.ensures

pub returns-then-not-is_named-clause-moves : goal.returns-then-not-is_named-clause-moves
returns-then-not-is_named-clause-moves c = λ more. rw c.bit_leaf.ensures
    ((bit_took _ _ _ _ (sym c.if-not-is_named.ensures) c.in_ok-token.ensures).moves more)

pub returns-in-Some-clause-moves : goal.returns-in-Some-clause-moves
returns-in-Some-clause-moves c =
    λ more. (gate_took _ _ _ _ c.in-Some.gate (sym c.if-not-is_named.ensures)
    (sym c.if-opens.ensures) (sym c.in-Some.ensures) c.in_ok-token.ensures).moves more

pub returns-in-Some-new-clause-moves : goal.returns-in-Some-new-clause-moves
returns-in-Some-new-clause-moves c =
    λ more. (read_took _ _ _ _ (sym c.if-not-is_named.ensures) (sym c.if-opens.ensures)
    c.in_ok-token.ensures).moves more

pub returns-in-Some-new-clause-missing : goal.returns-in-Some-new-clause-missing
returns-in-Some-new-clause-missing c =
    (read_took _ _ _ _ (sym c.if-not-is_named.ensures) (sym c.if-opens.ensures)
    c.in_ok-token.ensures).missing

pub returns-then-not-is_named-clause-spells : goal.returns-then-not-is_named-clause-spells
returns-then-not-is_named-clause-spells c = rw c.bit_leaf.ensures
    (bit_took _ _ _ _ (sym c.if-not-is_named.ensures) c.in_ok-token.ensures).spells

pub returns-then-not-is_named-clause-missing : goal.returns-then-not-is_named-clause-missing
returns-then-not-is_named-clause-missing c = rw c.bit_leaf.ensures
    (bit_took _ _ _ _ (sym c.if-not-is_named.ensures) c.in_ok-token.ensures).missing

pub returns-in-Some-clause-spells : goal.returns-in-Some-clause-spells
returns-in-Some-clause-spells c =
    (gate_took _ _ _ _ c.in-Some.gate (sym c.if-not-is_named.ensures) (sym c.if-opens.ensures)
    (sym c.in-Some.ensures) c.in_ok-token.ensures).spells

pub returns-in-Some-clause-missing : goal.returns-in-Some-clause-missing
returns-in-Some-clause-missing c =
    (gate_took _ _ _ _ c.in-Some.gate (sym c.if-not-is_named.ensures) (sym c.if-opens.ensures)
    (sym c.in-Some.ensures) c.in_ok-token.ensures).missing

pub unreachable-requires : goal.unreachable-requires
unreachable-requires c = gate_known _ _ _ _ _ (sym c.if-not-is_named.ensures)
    (sym c.if-opens.ensures) (sym c.in-None.ensures) c.in_ok-token.ensures.rules
