use Rattle.uprog_bin.proofs.Common.{◌≡◌, ◌+◌, ◌*◌, ◌≤◌, List, length, drop, Microprogram}
use Rattle.uprog_bin.specs.Reading.{codes_at, listings_of, total_count}
use Rattle.uprog_bin.proofs.Codes.{with_front}
use Rattle.uprog_bin.proofs.checks.check_codes.Given as goal

-- the entries so far, with those that are left
abbrev pub invariant-loop-l : goal.invariant-loop-l
invariant-loop-l l = record {
  within : l.at ≤ length l.bytes;
  place : l.at + 8 * total_count (listings_of (drop l.l-index l.listed))
      ≡ l.start + 8 * total_count (listings_of l.listed);
  front : List Microprogram;
  so_far : with_front front (codes_at (listings_of (drop l.l-index l.listed)) l.at l.bytes)
      ≡ codes_at (listings_of l.listed) l.start l.bytes;
}
