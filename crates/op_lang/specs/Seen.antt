-- The code's scope as the rules see it.
use Rattle.std.specs.Prelude.{◌≡◌, Result, Ok, Err, reverse}
use Rattle.op_text.specs.declared.fault.OpsKind.{OpsKind}
use Rattle.op_text.specs.Rules.{Scope, InOp, InWord, InBlock}
use Rattle.op_lang.specs.declared.scope.Scope as code
use Rattle.op_lang.specs.declared.scope.InOp as code_op
use Rattle.op_lang.specs.declared.scope.InWord as code_word
use Rattle.op_lang.specs.declared.scope.InBlock as code_block
use Rattle.op_lang.specs.declared.fault.RuleError.{RuleError}
use Rattle.op_lang.specs.declared.fault.RuleError.TheVariants as refused

-- what the code keeps of an op, as the rules have it
abbrev pub seen_op : code_op.InOp → InOp
seen_op k = record {
  stands = k.stands.items;
  defined = k.defined.items;
  results = k.results.items;
  statements = k.statements;
}

-- what the code keeps of a word statement, as the rules have it
abbrev pub seen_word : code_word.InWord → InWord
seen_word k = record { second = k.second; operation = k.operation; given = k.given.items }

-- what the code keeps of a block, as the rules have it
abbrev pub seen_block : code_block.InBlock → InBlock
seen_block k =
    record {
      states = k.states.items;
      readable = k.readable.items;
      lets = k.lets;
      targets = k.targets.items;
      weight = k.weight;
      missing = reverse k.missing.items;
    }

-- all that the code keeps of the tokens before, as the rules have it
abbrev pub seen : code.Scope → Scope
seen k = record {
  ops = k.ops.items;
  op = seen_op k.op;
  word = seen_word k.word;
  block = seen_block k.block;
  naming = k.naming;
}

-- A function that judges a token by these rules: it goes on to the new scope, or tells the rule
-- that breaks.
abbrev pub Judges : {A : Type 0} → Result Scope OpsKind → Result A RuleError → Scope → Type 0
Judges rules (Ok x) new = rules ≡ Ok new
Judges rules (Err (refused.Rule kind)) new = rules ≡ Err kind
Judges rules (Err refused.Memory) new = Unit {0}
