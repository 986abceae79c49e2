use Rattle.std.proofs.Common.{length}
use Rattle.bbop_isa.proofs.Worded.{SoFar}
use Rattle.bbop_isa.proofs.words.words_of.Given as goal

abbrev pub invariant-loop-token : goal.invariant-loop-token
invariant-loop-token l = SoFar l.line l.words.items l.lexer

abbrev pub decreases-loop-token : goal.decreases-loop-token
decreases-loop-token l = length l.lexer
