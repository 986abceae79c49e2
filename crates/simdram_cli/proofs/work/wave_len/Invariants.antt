use Rattle.simdram_cli.proofs.Common.{◌≡◌, ◌+◌, ◌-◌, ◌≤◌, drop, length, map, prefix_len, view_of}
use Rattle.simdram_cli.proofs.Common.{is_bbop}
use Rattle.simdram_cli.proofs.work.wave_len.Given as goal

abbrev pub invariant-bbops : goal.invariant-bbops
invariant-bbops l = record {
  few : l.len ≤ 16;
  within : l.len ≤ length l.script;
  bbops : prefix_len is_bbop (map view_of l.script)
      ≡ l.len + prefix_len is_bbop (map view_of (drop l.len l.script));
}

abbrev pub decreases-bbops : goal.decreases-bbops
decreases-bbops l = length l.script - l.len
