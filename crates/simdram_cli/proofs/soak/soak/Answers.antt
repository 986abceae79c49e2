use Rattle.simdram_cli.proofs.Common.{Ok, Err, world}
use Rattle.soak_job.specs.declared.job.SoakError.TheVariants as no
use Rattle.simdram_cli.proofs.Soaking.{soak_runs}
use Rattle.simdram_cli.proofs.soak.soak.Goals as goal

pub returns-in-Ok-clause-went : goal.returns-in-Ok-clause-went
returns-in-Ok-clause-went g c files =
    soak_runs c.args.seed
    (world files (g.S.Sink.view c.args.out.now) (g.D.Dram.view c.args.chip.now))
    (world files (g.S.Sink.view c.soak.new.out) (g.D.Dram.view c.soak.new.chip))
    (Ok c.in-Ok.field-0) (c.in-Ok.ensures.goes files)

pub returns-in-Err-NoMemory-clause-went : goal.returns-in-Err-NoMemory-clause-went
returns-in-Err-NoMemory-clause-went g c files =
    soak_runs c.args.seed
    (world files (g.S.Sink.view c.args.out.now) (g.D.Dram.view c.args.chip.now))
    (world files (g.S.Sink.view c.soak.new.out) (g.D.Dram.view c.soak.new.chip))
    (Err no.NoMemory) (rw c.in-Err-NoMemory.field-0-is at (c.in-Err-NoMemory.ensures.goes files))

pub returns-in-Err-ChipFailed-clause-went : goal.returns-in-Err-ChipFailed-clause-went
returns-in-Err-ChipFailed-clause-went g c files =
    soak_runs c.args.seed
    (world files (g.S.Sink.view c.args.out.now) (g.D.Dram.view c.args.chip.now))
    (world files (g.S.Sink.view c.soak.new.out) (g.D.Dram.view c.soak.new.chip))
    (Err no.ChipFailed) (rw c.in-Err-ChipFailed.field-0-is at (c.in-Err-ChipFailed.ensures.goes files))

pub returns-in-Err-PutFailed-clause-went : goal.returns-in-Err-PutFailed-clause-went
returns-in-Err-PutFailed-clause-went g c files =
    soak_runs c.args.seed
    (world files (g.S.Sink.view c.args.out.now) (g.D.Dram.view c.args.chip.now))
    (world files (g.S.Sink.view c.soak.new.out) (g.D.Dram.view c.soak.new.chip))
    (Err no.PutFailed) (rw c.in-Err-PutFailed.field-0-is at (c.in-Err-PutFailed.ensures.goes files))
