use Rattle.uprog_bin.proofs.Common.{◌≡◌, ◌++◌, take, map, flat_map, microprogram_of}
use Rattle.uprog_bin.specs.Spelling.{code_bytes}
use Rattle.uprog_bin.proofs.spelling.put_codes.Given as goal

abbrev pub invariant-loop-entry : goal.invariant-loop-entry
invariant-loop-entry l = l.out.items ≡ l.fn.out.items
    ++ flat_map code_bytes (map microprogram_of (take l.entry-index l.entries))
