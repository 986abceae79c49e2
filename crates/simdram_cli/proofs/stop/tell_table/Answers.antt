use Rattle.simdram_cli.proofs.stop.tell_table.Goals as goal

pub returns-clause-sent : goal.returns-clause-sent
returns-clause-sent g c =
    rw (c.as_bytes.ensures.value, c.format.ensures.text) at c.put_three.ensures.sent
