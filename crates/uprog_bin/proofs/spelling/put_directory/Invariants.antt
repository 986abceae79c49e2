use Rattle.uprog_bin.proofs.Common.{◌≡◌, ◌*◌, ◌≤◌, ◌++◌, drop, map, microprogram_of}
use Rattle.uprog_bin.specs.Spelling.{directory_bytes}
use Rattle.uprog_bin.proofs.spelling.put_directory.Given as goal

-- the records so far, with those of the entries that are left
abbrev pub invariant-loop-entry : goal.invariant-loop-entry
invariant-loop-entry l = record {
  small : l.start ≤ 65535 * l.entry-index;
  so_far : l.out.items ++ directory_bytes l.start
      (map microprogram_of (drop l.entry-index l.entries))
      ≡ l.fn.out.items ++ directory_bytes 0 (map microprogram_of l.entries);
}
