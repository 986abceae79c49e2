use Rattle.object_alloc.proofs.Exact.{reads_exactly}
use Rattle.object_alloc.proofs.reading.images_are_exact.Goals as goal

pub returns : goal.returns
returns c = reads_exactly
