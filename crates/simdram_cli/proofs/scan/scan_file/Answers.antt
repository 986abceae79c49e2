use Rattle.simdram_cli.proofs.Common.{microprograms_of, operations}
use Rattle.simdram_cli.proofs.Scanning.{scan_file_is}
use Rattle.simdram_cli.proofs.scan.scan_file.Goals as goal

pub returns : goal.returns
returns c =
    scan_file_is c.in_ok-file.file.items (microprograms_of c.in_ok-file.field-0-0)
    (operations c.in_ok-ops.ops) c.in_ok-file.ensures.program c.in_ok-file.ensures.implements
    c.in_ok-file.ensures.exact c.in_ok-ops.ensures.ops c.in_ok-file.ensures.file
