use Rattle.uprog_code.proofs.Kept.{legal_commands, legal_keeps}
use Rattle.uprog_code.proofs.laws.legal_code_is_safe.Goals as goal

pub returns-clause-legal : goal.returns-clause-legal
returns-clause-legal c = legal_commands

pub returns-clause-keeps : goal.returns-clause-keeps
returns-clause-keeps c = legal_keeps
