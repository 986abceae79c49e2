use Rattle.uprog_bin.proofs.Common.{◌≡◌, ◌++◌, take, flat_map}
use Rattle.uprog_bin.specs.Spelling.{instruction_bytes}
use Rattle.uprog_bin.proofs.spelling.put_code.Given as goal

abbrev pub invariant-loop-uop : goal.invariant-loop-uop
invariant-loop-uop l = l.out.items ≡ l.fn.out.items
    ++ flat_map instruction_bytes (take l.uop-index l.code)
