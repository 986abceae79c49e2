use Rattle.simdram_cli.proofs.Common.{◌<◌, arith, err_from_is_err_and}
use Rattle.simdram_cli.proofs.Piecewise.{cut_bbops, cut_plain, cut_wave}
use Rattle.simdram_cli.proofs.work.work_piece.Goals as goal

pub work_wave-requires-clause-bbops : goal.work_wave-requires-clause-bbops
work_wave-requires-clause-bbops g c =
    let some : 0 < c.wave_len-len.result = omega arith in
    rw c.split_at.ensures.front (cut_bbops c.args.script.now c.wave_len-len.result
    c.wave_len-len.ensures.value some)

pub work_wave-requires-clause-plain : goal.work_wave-requires-clause-plain
work_wave-requires-clause-plain g c = rw c.split_at.ensures.front (cut_plain c.args.script.now
    c.wave_len-len.result c.requires.plain)

pub returns-in_err-refused-2-clause-goes : goal.returns-in_err-refused-2-clause-goes
returns-in_err-refused-2-clause-goes g c files =
    let some : 0 < c.wave_len-len.result = omega arith in
    let p = err_from_is_err_and c.from_residual-in_err-refused-2.result
    c.from_residual-in_err-refused-2.ensures.1 in
    rw (
      p.1,
      p.2,
      cut_wave c.args.script.now c.wave_len-len.result c.wave_len-len.ensures.value some,
    ) ((rw c.split_at.ensures.front at c.in_err-refused-2.ensures.goes) files)

pub returns-clause-done : goal.returns-clause-done
returns-clause-done g c =
    let some : 0 < c.wave_len-len.result = omega arith in
    rw (cut_wave c.args.script.now c.wave_len-len.result c.wave_len-len.ensures.value some)
    (rw c.split_at.ensures.front at c.in_ok-refused-2.ensures.done)

pub returns-clause-goes : goal.returns-clause-goes
returns-clause-goes g c files =
    let some : 0 < c.wave_len-len.result = omega arith in
    rw (cut_wave c.args.script.now c.wave_len-len.result c.wave_len-len.ensures.value some)
    ((rw c.split_at.ensures.front at c.in_ok-refused-2.ensures.goes) files)
