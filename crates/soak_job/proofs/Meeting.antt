-- The op of one statement breaks no rule, whatever its operation with one result is: computed.
use Rattle.soak_job.proofs.Common.{◌≡◌, [], ◌∷◌, refl, WordOp, second_kind}
use Rattle.std.proofs.Common.{None}
use Rattle.op_text.specs.Rules.{breach_of}
use Rattle.op_text.specs.Spelling.{MeetRules}
use Rattle.soak_job.specs.Cases.{one_statement}
use Rattle.grammar.specs.Machine as machine
use Rattle.op_text.specs.declared.word_ops.WordOp.TheVariants as o

pub rules_met : (op : WordOp) → second_kind op ≡ None → MeetRules (one_statement op ∷ [])
unfolding machine.breach_of
rules_met o.Divmod e = cc
rules_met op e = refl
